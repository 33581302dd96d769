-- Findings behind a sort by their places.
use Rattle.std.proofs.Common.{◌≡◌, ℕ, List}
use denote.Param.Members.{Mut}
use denote.Ref.{Bor}
use Rattle.std.proofs.lemmas.Fn.{always_returns_same}
use Rattle.std.specs.Fn.{Called, ComputesKey}
use Rattle.std.specs.List.Sorted.{IsPermutation, IsSortedByKey}
use Rattle.rl_lint.specs.Findings.{Lists, place_cmp, place_of}
use Rattle.rl_lint.specs.declared.finding.Finding.{Finding}

pub listed_by_place : {F : Type 0} {g : Mut F (Bor Finding × Unit {0}) (ℕ × ℕ × ℕ)} {f : F} (old new : List Finding)
    → IsPermutation old new
    → ((key : Finding → ℕ × ℕ × ℕ) → ComputesKey g key f → IsSortedByKey key place_cmp new)
    → ((a : Bor Finding × Unit {0}) (r : ℕ × ℕ × ℕ) (f' : F) → Called g f a r f' → (r ≡ place_of a.0.now) × (f' ≡ f)) → Lists old new
listed_by_place {g = g} {f = f} old new each sorted places =
    record { each = each; sorted = sorted place_of (always_returns_same g (λ a r. r ≡ place_of a.0.now) f places) }
