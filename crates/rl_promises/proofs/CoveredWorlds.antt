-- A function that lowers no inner function shares no variable: neither does its source, nor its graph.
use Rattle.std.proofs.Common.{◌≡◌, ℕ, Bool, true, false, true≢false, ◌&&◌, not, nat_eq, if◌then◌else◌, Option, Some, None, List, [], ◌∷◌, ◌++◌, filter, refl, sym, ap, ◌∙◌, eq-eqb}
use Rattle.std.proofs.lemmas.Bool.{and_right}
use Rattle.std.specs.List.{list_any}
use Rattle.rl_base.specs.declared.ids.SymbolId.{SymbolId}
use Rattle.rl_hir.specs.Pairs.{identifier_of}
use Rattle.rl_hir.specs.declared.function.Lowered.{Lowered}
use Rattle.rl_hir.specs.declared.function.Pair.{Pair}
use Rattle.rl_machine.specs.Traces.{World}
use Rattle.std.specs.Option.{option_map_or}
use Rattle.rl_model.specs.Code.{assigned_in, below, contains, inner_functions, is_function, is_instantiate, is_kept, is_no_code, first_lowered, lowered_among, lowered_in, named_in, names_symbol, others, world_of}
use Rattle.rl_promises.specs.Covered.{AreCovered, IsCovered, IsCoveredFunction, covers}
use Rattle.rl_model.specs.Worlds.{Function, marked_identifiers, stands_for, symbol_bound, world_in}
use Rattle.rl_names.specs.Functions.{body_in, params_in}
use Rattle.rl_names.specs.Names.{Names, at_of}
use Rattle.rl_syntax.specs.Syntax.{Syntax, Node, Listed, Said, Count, Flag, Absent, Pieces, End, Then}
use Rattle.rl_syntax.specs.declared.word.Word.{Word}
use Rattle.rl_syntax.specs.declared.word.Word.TheVariants as word

-- No other function assigns or sees a variable.
pub record SharesNothing (world : World) : Type 0 where
  pub opens : (symbol : ℕ) → world.opens symbol ≡ false
  pub keeps : world.keeps ≡ []

filter_none : {X : Type 0} (test : X → Bool) (xs : List X) → ((x : X) → test x ≡ false) → filter test xs ≡ []
filter_none test [] none = refl
filter_none {X} test (x ∷ xs) none =
    ap (λ (b : Bool). if b then x ∷ filter test xs else filter test xs) (none x) ∙ filter_none test xs none

-- Covered code has no inner function.

pub plain_word : (w : Word) (parts : Pieces) → covers w parts ≡ true → is_function w ≡ false
plain_word word.Arrow parts covered = absurd (true≢false (sym covered))
plain_word word.Funexpr parts covered = absurd (true≢false (sym covered))
plain_word word.Fundecl parts covered = absurd (true≢false (sym covered))
plain_word _ parts covered = refl

by_tests : (node : Syntax) (no_code function instantiate : Bool) (first among : List Syntax) → function ≡ false → first ≡ [] → among ≡ []
    → (if no_code then [] else (if function then node ∷ [] else []) ++ (if instantiate then first else among)) ≡ []
by_tests node true function instantiate first among plain whole none = refl
by_tests node false true instantiate first among plain whole none = absurd (true≢false plain)
by_tests node false false true first among plain whole none = whole
by_tests node false false false first among plain whole none = none

mutual
  lowers_none : (s : Syntax) → IsCovered s → lowered_in s ≡ []
  lowers_none (Node at w parts) covered =
      by_tests (Node at w parts) (is_no_code w parts) (is_function w) (is_instantiate w) (first_lowered parts) (lowered_among parts)
      (plain_word w parts covered.0) (lowers_none_first parts covered.1) (lowers_none_among parts covered.1)
  lowers_none (Listed parts) covered = lowers_none_among parts covered
  lowers_none (Said text) covered = refl
  lowers_none (Count number) covered = refl
  lowers_none (Flag flag) covered = refl
  lowers_none Absent covered = refl

  lowers_none_first : (parts : Pieces) → AreCovered parts → first_lowered parts ≡ []
  lowers_none_first End covered = refl
  lowers_none_first (Then part parts) covered = lowers_none part covered.0

  lowers_none_among : (parts : Pieces) → AreCovered parts → lowered_among parts ≡ []
  lowers_none_among End covered = refl
  lowers_none_among (Then part parts) covered =
      ap (λ (l : List Syntax). l ++ lowered_among parts) (lowers_none part covered.0) ∙ lowers_none_among parts covered.1

-- The parameters and the body of a covered function.

pub params_covered : (f : Syntax) → IsCoveredFunction f → IsCovered (params_in f)
params_covered (Node at word.Arrow (Then marked (Then is_async (Then params (Then body End))))) covered = covered.1.1.0
params_covered (Node at word.Arrow _) covered = tt
params_covered (Node at word.Fundecl (Then marked (Then is_async (Then generator (Then name (Then params (Then body End))))))) covered =
    covered.1.1.1.1.0
params_covered (Node at word.Fundecl _) covered = tt
params_covered (Node at word.Funexpr (Then marked (Then is_async (Then generator (Then name (Then params (Then body End))))))) covered =
    covered.1.1.1.1.0
params_covered (Node at word.Funexpr _) covered = tt
params_covered _ covered = absurd covered

pub body_covered : (f : Syntax) → IsCoveredFunction f → IsCovered (body_in f)
body_covered (Node at word.Arrow (Then marked (Then is_async (Then params (Then body End))))) covered = covered.1.1.1.0
body_covered (Node at word.Arrow _) covered = tt
body_covered (Node at word.Fundecl (Then marked (Then is_async (Then generator (Then name (Then params (Then body End))))))) covered =
    covered.1.1.1.1.1.0
body_covered (Node at word.Fundecl _) covered = tt
body_covered (Node at word.Funexpr (Then marked (Then is_async (Then generator (Then name (Then params (Then body End))))))) covered =
    covered.1.1.1.1.1.0
body_covered (Node at word.Funexpr _) covered = tt
body_covered _ covered = absurd covered

inner_none : (f : Syntax) → IsCoveredFunction f → inner_functions f ≡ []
inner_none f covered =
    ap (λ (l : List Syntax). l ++ lowered_in (body_in f)) (lowers_none (params_in f) (params_covered f covered))
    ∙ lowers_none (body_in f) (body_covered f covered)

-- No function stands beside it.
others_none : (f : Syntax) → IsCoveredFunction f → others f f ≡ []
others_none f covered =
    ap (λ (l : List Syntax). filter (λ (other : Syntax). not (is_own other)) (f ∷ l)) (inner_none f covered)
    ∙ ap (λ (b : Bool). if not b then f ∷ [] else []) (eq-eqb (at_of f).id.0 (at_of f).id.0 refl)
  where
    is_own : Syntax → Bool
    is_own other = nat_eq (at_of other).id.0 (at_of f).id.0

pub source_alone : (names : Names) (count : ℕ) (stored : ℕ → Option SymbolId) (f : Syntax) → IsCoveredFunction f
    → SharesNothing (world_of names count stored f f)
source_alone names count stored f covered = record {
  opens = λ symbol. ap (λ (l : List Syntax). list_any (assigns symbol) l) (others_none f covered);
  keeps = filter_none (is_kept names stored f f) (below count) (λ symbol.
      ap (λ (l : List Syntax). names_symbol names stored f symbol && list_any (sees symbol) l) (others_none f covered)
      ∙ and_right (names_symbol names stored f symbol) false refl);
}
  where
    assigns : ℕ → Syntax → Bool
    assigns symbol other = contains (assigned_in names other) symbol

    sees : ℕ → Syntax → Bool
    sees symbol other = contains (named_in names other) symbol

-- A graph beside which no other stands.

stands_for_none : (pairs : List Pair) (symbol : ℕ) → stands_for pairs [] symbol ≡ false
stands_for_none pairs symbol = by_identifier (identifier_of pairs symbol)
  where
    by_identifier : (o : Option ℕ) → option_map_or (contains []) o false ≡ false
    by_identifier None = refl
    by_identifier (Some identifier) = refl

pub graph_alone : (l : Lowered) (f : Function) → SharesNothing (world_in l f [])
graph_alone l f = record {
  opens = stands_for_none l.pairs;
  keeps =
      ap (λ (identifiers : List ℕ). filter (stands_for l.pairs identifiers) (below (symbol_bound l.pairs)))
      (filter_none (contains []) (marked_identifiers f) (λ identifier. refl))
      ∙ filter_none (stands_for l.pairs []) (below (symbol_bound l.pairs)) (stands_for_none l.pairs);
}
