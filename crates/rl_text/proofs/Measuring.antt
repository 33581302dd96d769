-- Laws of measuring bytes one after the other.
use Rattle.std.proofs.Common.{◌≡◌, sym, subst, ◌++◌, ap, ◌∙◌, take, ℕ, zero, nat_cmp, ◌+◌, ◌-◌, ◌≤◌, max, Bool, true, false, cond, not, ◌==◌, ◌<◌, List, [], ◌∷◌, length, drop, get_or, refl, arith}
use Rattle.std.proofs.lemmas.List.{drop_more, drop_all}
use Rattle.std.proofs.lemmas.List.Sums.{sum_by-cons}
use Rattle.std.proofs.lemmas.Bool.Decides.{nat_tests}
use Rattle.std.proofs.lemmas.Bool.{and_parts}
use Rattle.std.specs.List.{count_by, list_all}
use Rattle.std.specs.Ordering.{ord_max}
use Rattle.rl_text.specs.Places.{StopsAt, IsRun}
use Rattle.rl_text.proofs.Runs.{run-there}
use Rattle.rl_text.specs.Measure.{outside, open_after, deepest_from}
use Rattle.rl_text.specs.ByteClasses.{is_inside}

-- Effect of a further byte outside and inside a text.
pub outside-quote : (within : Bool) (byte : ℕ) (bytes : List ℕ) → byte ≡ 34 → outside within (byte ∷ bytes) ≡ outside (not within) bytes
outside-quote within byte bytes h = rw h refl

pub outside-other : (byte : ℕ) (bytes : List ℕ) → (byte ≡ 34 → ⊥) → outside false (byte ∷ bytes) ≡ byte ∷ outside false bytes
outside-other byte bytes h = grind (arith, nat_tests)

pub outside-within : (byte : ℕ) (bytes : List ℕ) → (byte ≡ 34 → ⊥) → outside true (byte ∷ bytes) ≡ outside true bytes
outside-within byte bytes h = grind (arith, nat_tests)

inside-run : (run rest : List ℕ) → list_all is_inside run ≡ true → outside true (run ++ rest) ≡ outside true rest
inside-run [] rest h = refl
inside-run (byte ∷ run) rest h =
    let p = and_parts (is_inside byte) _ h in
    let other : byte ≡ 34 → ⊥ = λ e. grind (arith, nat_tests, p.0) in outside-within byte (run ++ rest) other ∙ inside-run run rest p.1

-- The bytes of a text up to its quote are left out, and so are those of a text that no quote closes.
module _ (bytes : List ℕ) (at end : ℕ) (run : IsRun is_inside bytes at end) where
  behind : outside true (drop at bytes) ≡ outside true (drop end bytes)
  behind = ap (outside true) (run-there bytes at end run.forward) ∙ inside-run (take (end - at) (drop at bytes)) (drop end bytes) run.passed

  pub text_closed : end < length bytes → outside true (drop at bytes) ≡ outside false (drop (end + 1) bytes)
  text_closed lt =
      let there = drop_more bytes end 0 lt in
      let stops = subst (StopsAt is_inside) there run.stopped in
      let quote : get_or bytes end 0 ≡ 34 = grind (arith, nat_tests, stops) in behind ∙ ap (outside true) there ∙ outside-quote true (get_or bytes end 0) (drop (end + 1) bytes) quote

  pub text_open : (end < length bytes → ⊥) → outside true (drop at bytes) ≡ outside false (drop end bytes)
  text_open past = let none : drop end bytes ≡ [] = drop_all end bytes (omega arith) in behind ∙ ap (outside true) none ∙ ap (outside false) (sym none)

pub opens-cons : (byte : ℕ) (bytes : List ℕ) → count_by (λ byte. byte == 40) (byte ∷ bytes) ≡ cond (byte == 40) 1 0 + count_by (λ byte. byte == 40) bytes
opens-cons byte bytes = sum_by-cons _ byte bytes

none-opened : (byte : ℕ) → (byte ≡ 40 → ⊥) → cond (byte == 40) 1 0 ≡ zero
none-opened byte h = grind (arith, nat_tests)

pub opens-other : (byte : ℕ) (bytes : List ℕ) → (byte ≡ 40 → ⊥) → count_by (λ byte. byte == 40) (byte ∷ bytes) ≡ count_by (λ byte. byte == 40) bytes
opens-other byte bytes h = omega (arith, opens-cons byte bytes, none-opened byte h)

pub open_after-other : (depth byte : ℕ) → (byte ≡ 40 → ⊥) → (byte ≡ 41 → ⊥) → open_after depth byte ≡ depth
open_after-other depth byte h k = grind (arith, nat_tests)

pub deepest_from-low : (depth : ℕ) (bytes : List ℕ) → depth ≤ deepest_from depth bytes
deepest_from-low depth [] = omega arith
deepest_from-low depth (byte ∷ bytes) = omega arith

-- The larger of two numbers, as the code compares them.
pub larger : (a b : ℕ) → ord_max nat_cmp a b ≡ max a b
larger a b = grind (arith, nat_tests)

-- Measure of all the bytes outside texts, if the bytes `left` are left.
pub record Measured (all : List ℕ) (at : ℕ) (left : List ℕ) (nodes depth deepest : ℕ) : Type 0 where
  pub counted : nodes + count_by (λ byte. byte == 40) left ≡ count_by (λ byte. byte == 40) all
  pub reached : max deepest (deepest_from depth left) ≡ deepest_from 0 all
  pub few_nodes : nodes ≤ at
  pub few_open : depth ≤ at
  pub covered : depth ≤ deepest

-- A byte outside texts is measured: a parenthesis that opens, or a byte that is neither a quote nor a parenthesis.
module _ (bytes : List ℕ) (at nodes depth deepest : ℕ) (inside : at < length bytes) (measured : Measured (outside false bytes) at (outside false (drop at bytes)) nodes depth deepest) where
  before : Measured (outside false bytes) at (outside false (get_or bytes at 0 ∷ drop (at + 1) bytes)) nodes depth deepest
  before = rw (drop_more bytes at 0 inside) at measured

  pub measured_open : (deeper : ℕ) → deeper ≡ ord_max nat_cmp deepest (depth + 1) → get_or bytes at 0 ≡ 40 → Measured (outside false bytes) (at + 1) (outside false (drop (at + 1) bytes)) (nodes + 1) (depth + 1) deeper
  measured_open deeper is opened =
      let m = rw opened at before in
      let left = outside false (drop (at + 1) bytes) in
      rw (is, larger) (record {
        counted = omega (arith, m.counted, opens-cons 40 left);
        reached = omega (arith, m.reached, m.covered, deepest_from-low (depth + 1) left);
        few_nodes = omega arith;
        few_open = omega arith;
        covered = omega arith;
      })

  pub measured_other : (get_or bytes at 0 ≡ 34 → ⊥) → (get_or bytes at 0 ≡ 40 → ⊥) → (get_or bytes at 0 ≡ 41 → ⊥) → Measured (outside false bytes) (at + 1) (outside false (drop (at + 1) bytes)) nodes depth deepest
  measured_other no_quote no_open no_close =
      let left = outside false (drop (at + 1) bytes) in
      let m = rw (outside-other (get_or bytes at 0) (drop (at + 1) bytes) no_quote) at before in
      let on = rw (open_after-other depth (get_or bytes at 0) no_open no_close) at m.reached in record {
        counted = omega (arith, m.counted, opens-other (get_or bytes at 0) left no_open);
        reached = omega (arith, on, m.covered, deepest_from-low depth left);
        few_nodes = omega arith;
        few_open = omega arith;
        covered = m.covered;
      }
