-- Ranges that cover parts.
use Rattle.std.proofs.Common.{◌≡◌, ℕ, nat_le, Bool, true, false, ◌&&◌, ◌||◌, not, List, [], ◌∷◌, ◌++◌, refl, sym, ap, ◌∙◌}
use Rattle.std.specs.List.{list_any}
use Rattle.std.proofs.lemmas.List.Folds.{list_any-append}
use Rattle.rl_dead.specs.Ranges.{Adds, holds, is_covered}
use Rattle.rl_dead.specs.declared.ranges.Range.{Range}
use Rattle.rl_model.specs.Dead.{parts_if}
use Rattle.rl_model.specs.Supported.{is_among}
use Rattle.rl_names.specs.Names.{at_of}
use Rattle.rl_syntax.specs.Syntax.{Syntax, Node, Listed, Said, Count, Flag, Absent}

pub or_none : (b : Bool) → b ≡ b || false
or_none true = refl
or_none false = refl

pub or_assoc : (a b c : Bool) → (a || b) || c ≡ a || (b || c)
or_assoc true b c = refl
or_assoc false b c = refl

pub or_swap : (a b : Bool) → a || b ≡ b || a
or_swap true true = refl
or_swap true false = refl
or_swap false true = refl
or_swap false false = refl

nowhere : (b : Bool) → (b && not b) ≡ false
nowhere true = refl
nowhere false = refl

pub among : (tree : Syntax) (n : ℕ) → holds n (record { start = (at_of tree).id.0; end = (at_of tree).end.0 }) ≡ is_among n tree
among (Node at w parts) n = refl
among (Listed parts) n = nowhere (nat_le 0 n)
among (Said text) n = nowhere (nat_le 0 n)
among (Count number) n = nowhere (nat_le 0 n)
among (Flag flag) n = nowhere (nat_le 0 n)
among Absent n = nowhere (nat_le 0 n)

pub adds_none : (d : List Range) → Adds d d []
adds_none d = record { covers = λ n. or_none (is_covered d n) }

pub adds_one : (d : List Range) (r : Range) (tree : Syntax) → ((n : ℕ) → holds n r ≡ is_among n tree) → Adds d (d ++ r ∷ []) (tree ∷ [])
adds_one d r tree is = record {
  covers = λ n. list_any-append (holds n) d (r ∷ []) ∙ ap (λ b. is_covered d n || (b || false)) (is n);
}

pub adds_both : (a b c : List Range) (p q : List Syntax) → Adds a b p → Adds b c q → Adds a c (p ++ q)
adds_both a b c p q first second = record {
  covers = λ n.
      second.covers n ∙ ap (λ x. x || list_any (is_among n) q) (first.covers n)
      ∙ or_assoc (is_covered a n) (list_any (is_among n) p) (list_any (is_among n) q)
      ∙ ap (λ x. is_covered a n || x) (sym (list_any-append (is_among n) p q));
}

-- The parts that were added first may stand behind.
pub adds_swapped : (a b c : List Range) (p q : List Syntax) → Adds a b p → Adds b c q → Adds a c (q ++ p)
adds_swapped a b c p q first second = record {
  covers = λ n.
      (adds_both a b c p q first second).covers n
      ∙ ap (λ x. is_covered a n || x)
      (list_any-append (is_among n) p q ∙ or_swap (list_any (is_among n) p) (list_any (is_among n) q) ∙ sym (list_any-append (is_among n) q p));
}

pub adds_dead : (d e : List Range) (dead : Bool) (part : Syntax) → dead ≡ true → Adds d e (part ∷ []) → Adds d e (parts_if dead part)
adds_dead d e dead part is adds = rw is adds

pub adds_live : (d : List Range) (dead : Bool) (part : Syntax) → dead ≡ false → Adds d d (parts_if dead part)
adds_live d dead part is = rw is (adds_none d)

pub ruleset adds_if = (adds_dead, adds_live)
