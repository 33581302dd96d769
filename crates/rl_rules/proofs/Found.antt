-- The search for the marked function goes on from part to part.
use Rattle.std.proofs.Common.{◌≡◌, ◌++◌, ◌∷◌, [], ℕ, ◌+◌, ◌<◌, ◌≤◌, Bool, List, length, map, drop, get_or, Option, Some, None, true, false, refl, sym, ap, ◌∙◌, arith, add-one, suc}
use Rattle.std.proofs.Math.Seq.{drop-cons}
use Rattle.rl_syntax.specs.Sizes.{size_of}
use Rattle.rl_syntax.specs.Syntax.{Then, pieces_of, syntax}
use Rattle.rl_syntax.specs.declared.numbered.Numbered.{Numbered}
use Rattle.rl_rules.specs.Finding.{found_behind}
use Rattle.rl_rules.specs.Marks.{is_one_true, bodies, bodies_among}

-- The result of the search behind one more list, from its result before the list.
abbrev pub then_found : Option Bool → List Bool → Option Bool
then_found None bodies = None
then_found (Some found) bodies = found_behind found bodies

pub appended : (found : Bool) (before after : List Bool) → found_behind found (before ++ after) ≡ then_found (found_behind found before) after
appended found [] after = refl
appended false (true ∷ before) after = appended true before after
appended false (false ∷ before) after = refl
appended true (body ∷ before) after = refl

pub found_on : (found next : Bool) (before after : List Bool) → found_behind found before ≡ Some next → found_behind found (before ++ after) ≡ found_behind next after
found_on found next before after h = appended found before after ∙ ap (λ o. then_found o after) h

pub found_none : (found : Bool) (before after : List Bool) → found_behind found before ≡ None → found_behind found (before ++ after) ≡ None
found_none found before after h = appended found before after ∙ ap (λ o. then_found o after) h

module _ (parts : List Numbered) (index : ℕ) (part : Numbered) (within : index < length parts) (is : part ≡ get_or parts index part) where
  next_part : drop index parts ≡ part ∷ drop (index + 1) parts
  next_part = rw (add-one, drop-cons parts index part) (ap (λ p. p ∷ drop (suc index) parts) (sym is))

  -- The parts from `index` on are the part there and those behind it.
  pub first_part : pieces_of (map syntax (drop index parts)) ≡ Then (syntax part) (pieces_of (map syntax (drop (index + 1) parts)))
  first_part = ap (λ ps. pieces_of (map syntax ps)) next_part

  pub smaller_behind : size_of (pieces_of (map syntax (drop (index + 1) parts))) ≤ size_of (pieces_of (map syntax (drop index parts)))
  smaller_behind = let e = ap size_of first_part in omega (arith, e)

  pub next_found : (found next : Bool) → Some next ≡ found_behind found (bodies (syntax part)) → found_behind next (bodies_among (pieces_of (map syntax (drop (index + 1) parts)))) ≡ found_behind found (bodies_among (pieces_of (map syntax (drop index parts))))
  next_found found next h = sym (ap (λ ps. found_behind found (bodies_among ps)) first_part ∙ found_on found next (bodies (syntax part)) _ (sym h))

  pub none_found : (found : Bool) → None ≡ found_behind found (bodies (syntax part)) → None ≡ found_behind found (bodies_among (pieces_of (map syntax (drop index parts))))
  none_found found h = sym (ap (λ ps. found_behind found (bodies_among ps)) first_part ∙ found_none found (bodies (syntax part)) _ (sym h))

-- The verdict of a whole search.
abbrev verdict : Option Bool → Bool
verdict None = false
verdict (Some found) = found

whole : (bodies : List Bool) → verdict (found_behind false bodies) ≡ is_one_true bodies
whole [] = refl
whole (true ∷ []) = refl
whole (true ∷ next ∷ bodies) = refl
whole (false ∷ []) = refl
whole (false ∷ next ∷ bodies) = refl

pub found_one : (found : Bool) (bodies : List Bool) → found_behind false bodies ≡ Some found → found ≡ is_one_true bodies
found_one found bodies h = sym (ap verdict h) ∙ whole bodies

pub found_no_one : (bodies : List Bool) → found_behind false bodies ≡ None → false ≡ is_one_true bodies
found_no_one bodies h = sym (ap verdict h) ∙ whole bodies
