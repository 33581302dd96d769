-- The names of the pairs of a builder in the end.
use Rattle.std.proofs.Common.{◌≡◌, ℕ, zero, suc, Bool, cond, List, [], ◌∷◌, map, slice_get}
use Rattle.std.proofs.Common.{Some, refl, sym, ap, ◌∙◌, subst, eq-eqb}
use Rattle.std.proofs.lemmas.Bool.{ne_eqb}
use Rattle.std.proofs.lemmas.Option.{none-some, same_Some}
use Rattle.rl_base.proofs.DistinctLists.{IsIn, distinct_head, distinct_tail}
use Rattle.rl_base.specs.Distinct.{AreDistinct}
use Rattle.rl_hir.specs.Pairs.{identifier_of}
use Rattle.rl_hir.specs.declared.function.Pair.{Pair}
use Rattle.rl_builder.specs.Builder.{State}
use Rattle.rl_builder.proofs.NameLaws.{name_of-injective}
use Rattle.rl_promises.specs.Fields.{ArePairs, name_at}
use Rattle.rl_names.specs.Names.{Names}
use Rattle.rl_lowered.specs.Named.{HasNamedPairs}
use Rattle.rl_runs.specs.Facts.{HasSoundNames}

-- Pairs whose symbols are distinct.

mapped_at : {X Y : Type 0} (f : X → Y) (xs : List X) (place : ℕ) (x : X) → slice_get xs place ≡ Some x
    → slice_get (map f xs) place ≡ Some (f x)
mapped_at f [] place x there = absurd (none-some x there)
mapped_at f (y ∷ xs) zero x there = ap (λ (z : _). Some (f z)) (same_Some y x there)
mapped_at f (y ∷ xs) (suc place) x there = mapped_at f xs place x there

mapped_from : {X Y : Type 0} (f : X → Y) (xs : List X) (place : ℕ) (y : Y) → slice_get (map f xs) place ≡ Some y
    → (x : X) × (slice_get xs place ≡ Some x) × (f x ≡ y)
mapped_from f [] place y there = absurd (none-some y there)
mapped_from f (x ∷ xs) zero y there = (x, refl, same_Some (f x) y there)
mapped_from f (x ∷ xs) (suc place) y there = mapped_from f xs place y there

-- Items that are distinct by one key are so by another that tells the first.
distinct_by : {X Y : Type 0} (f : X → ℕ) (g : X → Y) (xs : List X) → AreDistinct (map f xs)
    → ((i j : ℕ) (x y : X) → slice_get xs i ≡ Some x → slice_get xs j ≡ Some y → g x ≡ g y → f x ≡ f y) → AreDistinct (map g xs)
distinct_by f g xs distinct tells i j item at_i at_j =
    let one = mapped_from g xs i item at_i in
    let two = mapped_from g xs j item at_j in
    let same : f one.0 ≡ f two.0 = tells i j one.0 two.0 one.1 two.1 (one.2 ∙ sym two.2) in
    distinct i j (f one.0) (mapped_at f xs i one.0 one.1) (mapped_at f xs j two.0 two.1 ∙ ap (λ (n : ℕ). Some n) (sym same))

looked_up : (pairs : List Pair) (place : ℕ) (p : Pair) → AreDistinct (map (λ (x : Pair). x.symbol.0) pairs) → slice_get pairs place ≡ Some p
    → identifier_of pairs p.symbol.0 ≡ Some p.identifier.0
looked_up [] place p distinct there = absurd (none-some p there)
looked_up (q ∷ pairs) zero p distinct there =
    let same : q ≡ p = same_Some q p there in
    ap (λ (b : Bool). cond b (Some q.identifier.0) (identifier_of pairs p.symbol.0))
    (eq-eqb q.symbol.0 p.symbol.0 (ap (λ (x : Pair). x.symbol.0) same)) ∙ ap (λ (x : Pair). Some x.identifier.0) same
looked_up (q ∷ pairs) (suc place) p distinct there =
    let among : IsIn (map (λ (x : Pair). x.symbol.0) pairs) p.symbol.0 =
    record { index = place; found = mapped_at (λ (x : Pair). x.symbol.0) pairs place p there } in
    let ne : q.symbol.0 ≡ p.symbol.0 → ⊥ =
    λ e. distinct_head q.symbol.0 (map (λ (x : Pair). x.symbol.0) pairs) distinct
    (subst (λ (n : ℕ). IsIn (map (λ (x : Pair). x.symbol.0) pairs) n) (sym e) among) in
    ap (λ (b : Bool). cond b (Some q.identifier.0) (identifier_of pairs p.symbol.0)) (ne_eqb q.symbol.0 p.symbol.0 ne)
    ∙ looked_up pairs place p (distinct_tail q.symbol.0 (map (λ (x : Pair). x.symbol.0) pairs) distinct) there

-- The pairs of a builder are apart, and named for their symbols.
pub pairs_told : (names : Names) (s : State) → HasSoundNames s → HasNamedPairs names s → ArePairs names s.env.identifiers s.env.pairs
pairs_told names s q named = record {
  named = named;
  symbols = q.once;
  given = distinct_by (λ (p : Pair). p.symbol.0) (λ (p : Pair). p.identifier.0) s.env.pairs q.once
      (λ i j x y at_i at_j same. one i j x y at_i at_j (ap (λ (n : ℕ). name_at s.env.identifiers n) same));
  apart = distinct_by (λ (p : Pair). p.symbol.0) (λ (p : Pair). name_at s.env.identifiers p.identifier.0) s.env.pairs q.once one;
}
  where
    bound : (place : ℕ) (x : Pair) → slice_get s.env.pairs place ≡ Some x → identifier_of s.bindings x.symbol.0 ≡ Some x.identifier.0
    bound place x there = q.same x.symbol.0 ∙ looked_up s.env.pairs place x q.once there

    one : (i j : ℕ) (x y : Pair) → slice_get s.env.pairs i ≡ Some x → slice_get s.env.pairs j ≡ Some y
        → name_at s.env.identifiers x.identifier.0 ≡ name_at s.env.identifiers y.identifier.0 → x.symbol.0 ≡ y.symbol.0
    one i j x y at_i at_j same =
        name_of-injective s q.agree x.symbol.0 y.symbol.0 x.identifier.0 y.identifier.0 (bound i x at_i) (bound j y at_j) same
