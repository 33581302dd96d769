-- The least rule that is broken is one on names, if B1 and B6 to B9 are kept.
use Rattle.std.proofs.Common.{◌≡◌, ℕ, Bool, ◌&&◌, Option, Some, None, true, false, refl}
use Rattle.rl_semantic.specs.Rules.{least, least_form}

pub all_kept : (marked chains variables declarations forms : Bool) (named : Option ℕ) → (marked && (chains && (variables && (declarations && forms)))) ≡ true → named ≡ least marked named (least_form chains variables declarations forms)
all_kept true true true true true None kept = refl
all_kept true true true true true (Some rule) kept = refl
all_kept true true true true false named kept = absurd (cc)
all_kept true true true false forms named kept = absurd (cc)
all_kept true true false declarations forms named kept = absurd (cc)
all_kept true false variables declarations forms named kept = absurd (cc)
all_kept false chains variables declarations forms named kept = absurd (cc)

-- Where no rule is broken, none on names is, and the others are kept.
pub none_named : (marked : Bool) (named formed : Option ℕ) → least marked named formed ≡ None → named ≡ None
none_named true None formed e = refl
none_named true (Some rule) formed e = absurd (cc)
none_named false named formed e = absurd (cc)

pub others_kept : (marked chains variables declarations forms : Bool) (named : Option ℕ) → least marked named (least_form chains variables declarations forms) ≡ None → (marked && (chains && (variables && (declarations && forms)))) ≡ true
others_kept true true true true true named e = refl
others_kept true true true true false None e = absurd (cc)
others_kept true true true false forms None e = absurd (cc)
others_kept true true false declarations forms None e = absurd (cc)
others_kept true false variables declarations forms None e = absurd (cc)
others_kept true true true true false (Some rule) e = absurd (cc)
others_kept true true true false forms (Some rule) e = absurd (cc)
others_kept true true false declarations forms (Some rule) e = absurd (cc)
others_kept true false variables declarations forms (Some rule) e = absurd (cc)
others_kept false chains variables declarations forms named e = absurd (cc)
