-- The first uncovered node of a function, and what is known of a function without one.
use Rattle.std.proofs.Common.{◌≡◌, ℕ, Bool, true, false, if◌then◌else◌, Option, Some, None, List, [], ◌∷◌, ◌++◌, refl, sym, ◌∙◌}
use Rattle.rl_ast.specs.Marked.{first}
use Rattle.rl_ast.proofs.MarkedFunctions.{IsMarked, first_before, first_behind, first_none}
use Rattle.rl_promises.specs.Covered.{AreCovered, IsCovered, IsCoveredFunction, covers, uncovered, uncovered_among, uncovered_in}
use Rattle.rl_syntax.specs.Syntax.{Syntax, Node, Listed, Said, Count, Flag, Absent, Pieces, End, Then}
use Rattle.rl_syntax.specs.declared.numbered.At.{At}
use Rattle.rl_syntax.specs.declared.word.Word.{Word}
use Rattle.rl_syntax.specs.declared.word.Word.TheVariants as word

pub covered_on : (at : At) (w : Word) (parts : Pieces) → covers w parts ≡ true
    → first (uncovered (Node at w parts)) ≡ first (uncovered_among parts)
covered_on at w parts covered = rw covered refl

pub uncovered_here : (at : At) (w : Word) (parts : Pieces) → covers w parts ≡ false → first (uncovered (Node at w parts)) ≡ Some at.id.0
uncovered_here at w parts covered = rw covered refl

pub ruleset covering = (first_behind, first_before, covered_on, uncovered_here)

-- The first id of two lists.
pub first_some : (xs ys : List ℕ) (id : ℕ) → Some id ≡ first xs → Some id ≡ first (xs ++ ys)
first_some xs ys id is = sym (first_before xs ys id (sym is))

pub first_else : (xs ys : List ℕ) (o : Option ℕ) → None ≡ first xs → o ≡ first ys → o ≡ first (xs ++ ys)
first_else xs ys o none is = is ∙ sym (first_behind xs ys (sym none))

pub ruleset first_of = (first_some, first_else)

-- The last of some lists is followed by none.
pub first_last : (ids : List ℕ) → first (ids ++ []) ≡ first ids
first_last [] = refl
first_last (id ∷ ids) = refl

-- Nothing is in two lists.
pub none_in : {X : Type 0} (xs ys : List X) → xs ++ ys ≡ [] → (xs ≡ []) × (ys ≡ [])
none_in [] ys none = (refl, none)
none_in (x ∷ xs) ys none = absurd (cc)

covered_itself : (b : Bool) (n : ℕ) (more : List ℕ) → (if b then [] else n ∷ []) ++ more ≡ [] → (b ≡ true) × (more ≡ [])
covered_itself true n more none = (refl, none)
covered_itself false n more none = absurd (cc)

mutual
  -- A tree without an uncovered node is covered.
  all_covered : (t : Syntax) → uncovered t ≡ [] → IsCovered t
  all_covered (Node at w parts) none =
      let both = covered_itself (covers w parts) at.id.0 (uncovered_among parts) none in
      (both.0, all_covered_among parts both.1)
  all_covered (Listed parts) none = all_covered_among parts none
  all_covered (Said text) none = tt
  all_covered (Count number) none = tt
  all_covered (Flag flag) none = tt
  all_covered Absent none = tt

  all_covered_among : (ps : Pieces) → uncovered_among ps ≡ [] → AreCovered ps
  all_covered_among End none = tt
  all_covered_among (Then p ps) none =
      let both = none_in (uncovered p) (uncovered_among ps) none in
      (all_covered p both.0, all_covered_among ps both.1)

marked_covered : (at : At) (w : Word) (parts : Pieces) → first (uncovered_in (Node at w parts)) ≡ None → IsMarked (Node at w parts)
    → IsCoveredFunction (Node at w parts)
marked_covered at word.Arrow parts none m = all_covered_among parts (first_none (uncovered_among parts) none)
marked_covered at word.Fundecl parts none m = all_covered_among parts (first_none (uncovered_among parts) none)
marked_covered at word.Funexpr parts none m = all_covered_among parts (first_none (uncovered_among parts) none)
marked_covered at w parts none m = absurd (let words : w ≡ m.word = cc in let pieces : parts ≡ m.parts = cc in cc)

-- A marked function without an uncovered node is covered.
pub function_covered : (f : Syntax) → first (uncovered_in f) ≡ None → IsMarked f → IsCoveredFunction f
function_covered (Node at w parts) none m = marked_covered at w parts none m
function_covered (Listed parts) none m = absurd (cc)
function_covered (Said text) none m = absurd (cc)
function_covered (Count number) none m = absurd (cc)
function_covered (Flag flag) none m = absurd (cc)
function_covered Absent none m = absurd (cc)
