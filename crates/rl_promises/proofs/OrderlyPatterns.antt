-- The binding patterns in the code of an orderly function: each is orderly where it stands.
use Rattle.std.proofs.Common.{◌≡◌, ℕ, Bool, true, false, List, ◌++◌, None, sym, ◌∙◌}
use Rattle.std.proofs.lemmas.Bool.{and_parts}
use Rattle.std.proofs.lemmas.List.Folds.{list_all-append}
use Rattle.std.specs.List.{list_all}
use Rattle.rl_model.specs.Code.{is_open}
use Rattle.rl_model.specs.Marked.{marked}
use Rattle.rl_model.specs.Orderly.{is_orderly_pattern, patterns_among, patterns_in}
use Rattle.rl_model.specs.Source.{is_orderly}
use Rattle.rl_model.specs.Units.{names_of}
use Rattle.rl_names.specs.Functions.{body_in, params_in}
use Rattle.rl_names.specs.Names.{Names}
use Rattle.rl_syntax.specs.Syntax.{Syntax, Node, Listed, Said, Count, Flag, Absent, Pieces, End, Then}
use Rattle.rl_syntax.specs.declared.word.Word.TheVariants as word

module _ (names : Names) (opens : ℕ → Bool) where
  abbrev mutual
    -- The binding patterns of declarators and `catch` clauses in a tree are orderly; `tried` is true of a tree in a `try` block.
    pub HasOrderly : (tried : Bool) → Syntax → Type 0
    HasOrderly tried (Node at word.Try (Then block parts)) = HasOrderly true block × HaveOrderly tried parts
    HasOrderly tried (Node at word.Declarator (Then pattern parts)) =
        (is_orderly_pattern names opens tried pattern ≡ true) × HaveOrderly tried parts
    HasOrderly tried (Node at word.Catch (Then pattern parts)) =
        (is_orderly_pattern names opens tried pattern ≡ true) × HaveOrderly tried parts
    HasOrderly tried (Node at word.Arrow parts) = Unit {0}
    HasOrderly tried (Node at word.Funexpr parts) = Unit {0}
    HasOrderly tried (Node at word.Fundecl parts) = Unit {0}
    HasOrderly tried (Node at word.Classdecl parts) = Unit {0}
    HasOrderly tried (Node at word.Classexpr parts) = Unit {0}
    HasOrderly tried (Node at w parts) = HaveOrderly tried parts
    HasOrderly tried (Listed parts) = HaveOrderly tried parts
    HasOrderly tried (Said text) = Unit {0}
    HasOrderly tried (Count number) = Unit {0}
    HasOrderly tried (Flag flag) = Unit {0}
    HasOrderly tried Absent = Unit {0}

    -- As `HasOrderly`, for parts in a row.
    pub HaveOrderly : (tried : Bool) → Pieces → Type 0
    HaveOrderly tried End = Unit {0}
    HaveOrderly tried (Then part parts) = HasOrderly tried part × HaveOrderly tried parts

  abbrev is_fine : Bool × Syntax → Bool
  is_fine p = is_orderly_pattern names opens p.0 p.1

  in_both : (xs ys : List (Bool × Syntax)) → list_all is_fine (xs ++ ys) ≡ true
      → (list_all is_fine xs ≡ true) × (list_all is_fine ys ≡ true)
  in_both xs ys all = and_parts (list_all is_fine xs) (list_all is_fine ys) (sym (list_all-append is_fine xs ys) ∙ all)

  mutual
    pub orderly_in : (tried : Bool) (e : Syntax) → list_all is_fine (patterns_in tried e) ≡ true → HasOrderly tried e
    orderly_in tried (Node at word.Try (Then block parts)) all =
        let both = in_both (patterns_in true block) (patterns_among tried parts) all in
        (orderly_in true block both.0, orderly_among tried parts both.1)
    orderly_in tried (Node at word.Declarator (Then pattern parts)) all =
        let both = and_parts (is_fine (tried, pattern)) (list_all is_fine (patterns_among tried parts)) all in
        (both.0, orderly_among tried parts both.1)
    orderly_in tried (Node at word.Catch (Then pattern parts)) all =
        let both = and_parts (is_fine (tried, pattern)) (list_all is_fine (patterns_among tried parts)) all in
        (both.0, orderly_among tried parts both.1)
    orderly_in tried (Node at word.Arrow parts) all = tt
    orderly_in tried (Node at word.Funexpr parts) all = tt
    orderly_in tried (Node at word.Fundecl parts) all = tt
    orderly_in tried (Node at word.Classdecl parts) all = tt
    orderly_in tried (Node at word.Classexpr parts) all = tt
    orderly_in tried (Node at w parts) all = orderly_among tried parts all
    orderly_in tried (Listed parts) all = orderly_among tried parts all
    orderly_in tried (Said text) all = tt
    orderly_in tried (Count number) all = tt
    orderly_in tried (Flag flag) all = tt
    orderly_in tried Absent all = tt

    orderly_among : (tried : Bool) (parts : Pieces) → list_all is_fine (patterns_among tried parts) ≡ true → HaveOrderly tried parts
    orderly_among tried End all = tt
    orderly_among tried (Then part parts) all =
        let both = in_both (patterns_in tried part) (patterns_among tried parts) all in
        (orderly_in tried part both.0, orderly_among tried parts both.1)

-- The parameters of the marked function are orderly, and the patterns in its body, if the function is.
pub function_orderly : (u : Syntax) → is_orderly u None ≡ true
    → (is_orderly_pattern (names_of u) (is_open (names_of u) (marked u) (marked u)) false (params_in (marked u)) ≡ true)
    × HasOrderly (names_of u) (is_open (names_of u) (marked u) (marked u)) false (body_in (marked u))
function_orderly u orderly =
    let all = (and_parts _ _ orderly).1 in
    let both = and_parts _ _ all in
    (both.0, orderly_in (names_of u) (is_open (names_of u) (marked u) (marked u)) false (body_in (marked u)) both.1)
