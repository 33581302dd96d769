-- Members of sets of symbols.
use Rattle.std.proofs.Common.{◌≡◌, ℕ, Bool, true, false, ◌||◌, nat_eq, List, [], ◌∷◌, refl, sym, ap, ◌∙◌, arith}
use Rattle.std.proofs.lemmas.Bool.Decides.{nat_tests}
use Rattle.std.specs.BTreeMap.{is_at}
use Rattle.std.specs.List.{list_any}
use Rattle.std.specs.Ordering.{nat_cmp, match_ordering}
use Rattle.std.specs.declared.cmp.Ordering.{Ordering}
use Rattle.std.specs.declared.cmp.Ordering.TheVariants.{Less, Equal, Greater}
use Rattle.rl_base.proofs.Bools.{or_false, or_assoc}
use Rattle.rl_base.specs.declared.ids.SymbolId.{SymbolId}
use Rattle.rl_hir.specs.Symbols.{has, added}

same_number : (a b : ℕ) → is_at (nat_cmp a) b ≡ nat_eq a b
same_number a b = grind (arith, nat_tests)

-- Members are those that a search by number finds.
pub found_members : (symbol : SymbolId) (symbols : List SymbolId) → list_any (is_at (λ other. nat_cmp symbol.0 other.0)) symbols ≡ has symbols symbol
found_members symbol [] = refl
found_members symbol (other ∷ symbols) = rw (same_number symbol.0 other.0) (ap (λ b. nat_eq symbol.0 other.0 || b) (found_members symbol symbols))

or_behind : (a b : Bool) → (a || b) ≡ (b || a)
or_behind true true = refl
or_behind true false = refl
or_behind false true = refl
or_behind false false = refl

or_twice : (a b : Bool) → (a || b) ≡ ((a || b) || a)
or_twice true b = refl
or_twice false true = refl
or_twice false false = refl

equal_number : (a b other : ℕ) → nat_cmp a b ≡ Equal → nat_eq other a ≡ nat_eq other b
equal_number a b other same = grind (arith, nat_tests)

-- A set with one more member has that member, and those that it had.
pub members_added : (symbols : List SymbolId) (symbol other : SymbolId) → has (added symbols symbol) other ≡ (has symbols other || nat_eq other.0 symbol.0)
members_added [] symbol other = or_false (nat_eq other.0 symbol.0)
members_added (first ∷ symbols) symbol other = by (nat_cmp symbol.0 first.0) refl (members_added symbols symbol other)
  where
    by : (order : Ordering) → nat_cmp symbol.0 first.0 ≡ order → has (added symbols symbol) other ≡ (has symbols other || nat_eq other.0 symbol.0)
        → has (match_ordering order (symbol ∷ first ∷ symbols) (first ∷ symbols) (first ∷ added symbols symbol)) other ≡ ((nat_eq other.0 first.0 || has symbols other) || nat_eq other.0 symbol.0)
    by Less is rest = or_behind (nat_eq other.0 symbol.0) (nat_eq other.0 first.0 || has symbols other)
    by Equal is rest = or_twice (nat_eq other.0 first.0) (has symbols other) ∙ ap (λ b. (nat_eq other.0 first.0 || has symbols other) || b) (sym (equal_number symbol.0 first.0 other.0 is))
    by Greater is rest = ap (λ b. nat_eq other.0 first.0 || b) rest ∙ sym (or_assoc (nat_eq other.0 first.0) (has symbols other) (nat_eq other.0 symbol.0))
