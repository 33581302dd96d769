-- A unit that keeps rule B1 has one marked function, and that one has a body. A unit that keeps all rules keeps B1, and those
-- on names.
use Rattle.std.proofs.Common.{◌≡◌, ℕ, Bool, true, false, if◌then◌else◌, Option, Some, None, List, [], ◌∷◌, ◌++◌, map, refl, sym, ap, ◌∙◌}
use Rattle.std.proofs.lemmas.List.{map-append}
use Rattle.rl_ast.specs.Marked.{is_marked, marked_functions, marked_among}
use Rattle.rl_bindings.specs.Tables as names
use Rattle.rl_semantic.specs.Rules.{least, least_broken, least_broken_form}
use Rattle.rl_rules.specs.Marks.{bodies, bodies_among, has_body, is_one_true, keeps_mark}
use Rattle.rl_rules.specs.Marks as marks
use Rattle.rl_rules.specs.Pieces.{is_yes, first_is}
use Rattle.rl_syntax.specs.Syntax.{Syntax, Node, Listed, Said, Count, Flag, Absent, Pieces, End, Then}
use Rattle.rl_syntax.specs.declared.numbered.At.{At}
use Rattle.rl_syntax.specs.declared.word.Word.{Word}
use Rattle.rl_syntax.specs.declared.word.Word.TheVariants as word

-- The function has a body.
abbrev pub HasBody : Syntax → Type 0
HasBody (Node at w parts) = has_body w parts ≡ true
HasBody _ = ⊥

-- True of a node that has a body, if it is a function.
abbrev has_one : Syntax → Bool
has_one (Node at w parts) = has_body w parts
has_one _ = false

one_has : (f : Syntax) → has_one f ≡ true → HasBody f
one_has (Node at w parts) is = is
one_has (Listed parts) is = absurd (cc)
one_has (Said text) is = absurd (cc)
one_has (Count number) is = absurd (cc)
one_has (Flag flag) is = absurd (cc)
one_has Absent is = absurd (cc)

-- A function is marked by one rule and the other alike.
arrow_marks : (ps : Pieces) → first_is is_yes ps ≡ is_marked word.Arrow ps
arrow_marks End = refl
arrow_marks (Then (Flag true) ps) = refl
arrow_marks (Then _ ps) = refl

declaration_marks : (ps : Pieces) → first_is is_yes ps ≡ is_marked word.Fundecl ps
declaration_marks End = refl
declaration_marks (Then (Flag true) ps) = refl
declaration_marks (Then _ ps) = refl

expression_marks : (ps : Pieces) → first_is is_yes ps ≡ is_marked word.Funexpr ps
expression_marks End = refl
expression_marks (Then (Flag true) ps) = refl
expression_marks (Then _ ps) = refl

same_marks : (w : Word) (ps : Pieces) → marks.is_marked w ps ≡ is_marked w ps
same_marks word.Arrow ps = arrow_marks ps
same_marks word.Fundecl ps = declaration_marks ps
same_marks word.Funexpr ps = expression_marks ps
same_marks _ ps = refl

own_body : (at : At) (w : Word) (ps : Pieces) (b : Bool) → (if b then has_body w ps ∷ [] else []) ≡ map has_one (if b then Node at w ps ∷ [] else [])
own_body at w ps true = refl
own_body at w ps false = refl

mutual
  -- Rule B1 asks each marked function of a tree for its body.
  bodies_are : (t : Syntax) → bodies t ≡ map has_one (marked_functions t)
  bodies_are (Node at w ps) =
      (λ i. (if same_marks w ps i then has_body w ps ∷ [] else []) ++ bodies_are_among ps i)
      ∙ ap (λ l. l ++ map has_one (marked_among ps)) (own_body at w ps (is_marked w ps))
      ∙ sym (map-append has_one (if is_marked w ps then Node at w ps ∷ [] else []) (marked_among ps))
  bodies_are (Listed ps) = bodies_are_among ps
  bodies_are (Said text) = refl
  bodies_are (Count number) = refl
  bodies_are (Flag flag) = refl
  bodies_are Absent = refl

  bodies_are_among : (ps : Pieces) → bodies_among ps ≡ map has_one (marked_among ps)
  bodies_are_among End = refl
  bodies_are_among (Then p ps) = (λ i. bodies_are p i ++ bodies_are_among ps i) ∙ sym (map-append has_one (marked_functions p) (marked_among ps))

one_of : (fs : List Syntax) → is_one_true (map has_one fs) ≡ true → (f : Syntax) × (fs ≡ f ∷ []) × HasBody f
one_of [] is = absurd (cc)
one_of (f ∷ []) is = (f, refl, one_has f is)
one_of (f ∷ g ∷ fs) is = absurd (cc)

-- A unit that keeps B1 has one marked function, and that one has a body.
pub one_marked : (u : Syntax) → keeps_mark u ≡ true → (f : Syntax) × (marked_functions u ≡ f ∷ []) × HasBody f
one_marked u kept = one_of (marked_functions u) (sym (ap is_one_true (bodies_are u)) ∙ kept)

least_marked : (marked : Bool) (named formed : Option ℕ) → least marked named formed ≡ None → marked ≡ true
least_marked true named formed none = refl
least_marked false named formed none = absurd (cc)

least_named : (marked : Bool) (named formed : Option ℕ) → least marked named formed ≡ None → named ≡ None
least_named true None formed none = refl
least_named true (Some rule) formed none = absurd (cc)
least_named false named formed none = absurd (cc)

-- A unit that breaks no rule keeps B1, and the rules on names.
pub keeps_marked : (u : Syntax) → least_broken u ≡ None → keeps_mark u ≡ true
keeps_marked u none = least_marked (keeps_mark u) (names.least_broken u) (least_broken_form u) none

pub keeps_named : (u : Syntax) → least_broken u ≡ None → names.least_broken u ≡ None
keeps_named u none = least_named (keeps_mark u) (names.least_broken u) (least_broken_form u) none
