-- The stops of a function behind the look for wrapped targets.
use Rattle.std.proofs.Common.{◌≡◌, Option, None, Some, Result, Ok, Err, OnOk, IfErr, ap, sym, ◌∙◌}
use Rattle.std.specs.Option.{option_or}
use Rattle.std.specs.Result.{IsErrAnd}
use Rattle.rl_base.specs.declared.diagnostic.Diagnostic.{Diagnostic}
use Rattle.rl_base.specs.declared.stop.Stop.{Stop}
use Rattle.rl_base.specs.declared.stop.Stop.TheVariants as stops
use Rattle.rl_names.specs.Names.{Names}
use Rattle.rl_promises.specs.Stops.{first_stop, stop_in_body}
use Rattle.rl_syntax.specs.Syntax.{Syntax}

-- The first stop in the parameters, and then in the body.
abbrev pub inside : Names → (params body : Syntax) → Option Diagnostic
inside names params body = option_or (first_stop names params) (stop_in_body names body)

-- No target is wrapped, so that the stop is that of the parameters and the body.
behind_none : (names : Names) {first : Option Diagnostic} {shown_params shown_body params body : Syntax} → first ≡ None
    → shown_params ≡ params → shown_body ≡ body → option_or first (inside names params body) ≡ inside names shown_params shown_body
behind_none names {first} {shown_params} {shown_body} {params} {body} none is_params is_body =
    ap (λ (o : Option Diagnostic). option_or o (inside names params body)) none
    ∙ sym (ap (λ (p : Syntax). inside names p shown_body) is_params ∙ ap (λ (b : Syntax). inside names params b) is_body)

pub goes_behind : {X : Type 0} (names : Names) (r : Result X Stop) {first : Option Diagnostic}
    {shown_params shown_body params body : Syntax} → first ≡ None → shown_params ≡ params → shown_body ≡ body
    → OnOk r (inside names shown_params shown_body ≡ None) → OnOk r (option_or first (inside names params body) ≡ None)
goes_behind names (Ok x) none is_params is_body goes = behind_none names none is_params is_body ∙ goes
goes_behind names (Err e) none is_params is_body goes = tt

pub stopped_behind : {X : Type 0} (names : Names) (r : Result X Stop) {first : Option Diagnostic}
    {shown_params shown_body params body : Syntax} → first ≡ None → shown_params ≡ params → shown_body ≡ body
    → IfErr r (λ e. (d : Diagnostic) → e ≡ stops.Diagnostic d → inside names shown_params shown_body ≡ Some d)
    → IfErr r (λ e. (d : Diagnostic) → e ≡ stops.Diagnostic d → option_or first (inside names params body) ≡ Some d)
stopped_behind names (Ok x) none is_params is_body stopped = tt
stopped_behind names (Err e) none is_params is_body stopped = λ d is. behind_none names none is_params is_body ∙ stopped d is

-- The stop of a wrapped target comes first.
pub stopped_first : {X : Type 0} (r : Result X Stop) {given : Stop} {first : Option Diagnostic} (rest : Option Diagnostic)
    → IsErrAnd r (λ e. e ≡ given) → ((d : Diagnostic) → given ≡ stops.Diagnostic d → first ≡ Some d)
    → IfErr r (λ e. (d : Diagnostic) → e ≡ stops.Diagnostic d → option_or first rest ≡ Some d)
stopped_first (Ok x) rest error stopped = tt
stopped_first (Err e) rest error stopped = λ d is. ap (λ (o : Option Diagnostic). option_or o rest) (stopped d (sym error ∙ is))
