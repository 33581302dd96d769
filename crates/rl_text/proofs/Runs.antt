-- Runs of bytes that pass a test.
use Rattle.std.proofs.Common.{◌≡◌, ℕ, ◌+◌, ◌-◌, ◌<◌, ◌≤◌, Bool, true, List, [], ◌∷◌, ◌++◌, length, take, drop, get_or, ap, sym, ◌∙◌, refl, arith, subst, true≢false}
use Rattle.std.specs.List.{list_all}
use Rattle.std.proofs.lemmas.List.Folds.{list_all-append}
use Rattle.std.proofs.lemmas.List.{drop_more, take-append-drop, drop-drop}
use Rattle.std.proofs.Math.Seq.{take-add}
use Rattle.std.proofs.lemmas.Bool.{and_parts}
use Rattle.rl_text.specs.Places.{StopsAt, IsRun}

pub heads : (a b : ℕ) (x y : List ℕ) → a ∷ x ≡ b ∷ y → (a ≡ b) × (x ≡ y)
heads a b x y h = (cc, cc)

module _ (test : ℕ → Bool) where
  -- A run and what stops it are determined.
  pub runs-apart : (s t u v : List ℕ) → list_all test s ≡ true → list_all test t ≡ true → StopsAt test u → StopsAt test v → s ++ u ≡ t ++ v → (s ≡ t) × (u ≡ v)
  runs-apart [] [] u v p q m n h = (refl, h)
  runs-apart [] (d ∷ t) u v p q m n h = absurd (true≢false (sym (and_parts (test d) _ q).0 ∙ subst (StopsAt test) h m))
  runs-apart (c ∷ s) [] u v p q m n h = absurd (true≢false (sym (and_parts (test c) _ p).0 ∙ subst (StopsAt test) (sym h) n))
  runs-apart (c ∷ s) (d ∷ t) u v p q m n h =
      let e = heads c d (s ++ u) (t ++ v) h in
      let rest = runs-apart s t u v (and_parts (test c) _ p).1 (and_parts (test d) _ q).1 m n e.1 in
      ((λ i. e.0 i ∷ rest.0 i), rest.1)

  -- The bytes from one offset to another pass the test.
  pub record Passed (bytes : List ℕ) (at end : ℕ) : Type 0 where
    pub forward : at ≤ end
    pub within : end ≤ length bytes
    pub passed : list_all test (take (end - at) (drop at bytes)) ≡ true

  pub passed-block : (bytes : List ℕ) (at end next : ℕ) → Passed bytes at end → end ≤ next → next ≤ length bytes → list_all test (take (next - end) (drop end bytes)) ≡ true → Passed bytes at next
  passed-block bytes at end next h low within block =
      let split : next - at ≡ (end - at) + (next - end) = omega arith in
      let there : at + (end - at) ≡ end = omega arith in record {
        forward = omega arith;
        within = within;
        passed = rw (split, take-add (end - at) (next - end) (drop at bytes), drop-drop (end - at) at bytes, there)
            (list_all-append test (take (end - at) (drop at bytes)) (take (next - end) (drop end bytes)) ∙ rw (h.passed, block) refl);
      }

  pub passed-more : (bytes : List ℕ) (at end : ℕ) → Passed bytes at end → end < length bytes → test (get_or bytes end 0) ≡ true → Passed bytes at (end + 1)
  passed-more bytes at end h lt one =
      let step : end + 1 - end ≡ 1 = omega arith in
      passed-block bytes at end (end + 1) h (omega arith) (omega arith) (rw (step, drop_more bytes end 0 lt, one) refl)

  -- A run behind bytes that pass the test is longer by them.
  pub passed_run : (bytes : List ℕ) (at end after : ℕ) → Passed bytes at end → IsRun test bytes end after → IsRun test bytes at after
  passed_run bytes at end after h run =
      let all = passed-block bytes at end after h run.forward run.within run.passed in
      record { forward = all.forward; within = all.within; passed = all.passed; stopped = run.stopped }

-- The bytes at the run's beginning.
pub run-there : (bytes : List ℕ) (at after : ℕ) → at ≤ after → drop at bytes ≡ take (after - at) (drop at bytes) ++ drop after bytes
run-there bytes at after low =
    let there : (after - at) + at ≡ after = omega arith in
    sym (take-append-drop (after - at) (drop at bytes)) ∙ ap (λ t. take (after - at) (drop at bytes) ++ t) (drop-drop (after - at) at bytes ∙ ap (λ n. drop n bytes) (omega arith))
