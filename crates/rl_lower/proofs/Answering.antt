-- The value of an Ok, and errors without a diagnostic.
use Rattle.std.proofs.Common.{◌≡◌, Result, Ok, Err, IfOk, IfErr, sym, ◌∙◌}
use Rattle.std.specs.Result.{IsErrAnd}
use Rattle.rl_base.specs.declared.diagnostic.Diagnostic.{Diagnostic}
use Rattle.rl_base.specs.declared.stop.Stop.{Stop}
use Rattle.rl_base.specs.declared.stop.Stop.TheVariants as stops

pub ok_so : {X E : Type 0} {P Q : X → Type 0} (r : Result X E) → IfOk r P → ((x : X) → P x → Q x) → IfOk r Q
ok_so (Ok x) p f = f x p
ok_so (Err e) p f = tt

-- An error that is out of memory says no diagnostic.
pub says_nothing : {X : Type 0} (r : Result X Stop) (P : Diagnostic → Type 0) → IsErrAnd r (λ e. e ≡ stops.OutOfMemory)
    → IfErr r (λ e. (d : Diagnostic) → e ≡ stops.Diagnostic d → P d)
says_nothing (Ok x) P h = absurd h
says_nothing (Err e) P h = λ d is. absurd (let never : stops.OutOfMemory ≡ stops.Diagnostic d = sym h ∙ is in cc)
