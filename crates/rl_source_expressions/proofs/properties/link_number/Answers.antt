use Rattle.std.proofs.Common.{◌≡◌, if◌then◌else◌, ℕ, Bool, true, false, Option, Some, None, ap, ◌∙◌}
use Rattle.rl_machine.specs.Traces.{Cont}
use Rattle.rl_machine.specs.declared.trace.Value.TheVariants as value
use Rattle.rl_model.specs.Actions.{Ways, give, no_meaning}
use Rattle.rl_model.specs.Events.{Key, fixed_key}
use Rattle.rl_source_stack.proofs.Goings.{goes_as}
use Rattle.rl_source_stack.specs.Controls.{runs}
use Rattle.rl_source_stack.specs.Properties.{used}
use Rattle.rl_source_stack.specs.States.{State, state_of}
use Rattle.rl_text.specs.Numeral.{is_numeral, number_of}
use Rattle.rl_trace.specs.Values.{shown}
use Rattle.rl_source_expressions.proofs.properties.link_number.Goals as goal

-- The number that a text writes, if it is a numeral.
abbrev number_in : (numeral : Bool) → (number : ℕ) → Option ℕ
number_in numeral number = if numeral then Some number else None

-- A key that is a numeral is known before the run.
numeral_known : (s : State) (ways : Ways) (onward : Key → Cont) (numeral : Bool) (number n : ℕ) → Some n ≡ number_in numeral number
    → runs (onward (fixed_key (value.Number n))) s
    ≡ runs ((if numeral then give (fixed_key (value.Number number)) else no_meaning) ways onward) s
numeral_known s ways onward true number n is =
    let same : n ≡ number = cc in
    ap (λ m. runs (onward (fixed_key (value.Number m))) s) same
numeral_known s ways onward false number n is = absurd (cc)

pub returns-in-Some : goal.returns-in-Some
returns-in-Some c =
    goes_as c.use_property.result (state_of c.use_property.new.run)
    (numeral_known (state_of c.args.run.now) (state_of c.args.run.now).konts.ways
    (λ known. used (state_of c.args.run.now).scene c.args.purpose (shown c.args.object) known (state_of c.args.run.now).konts)
    (is_numeral c.args.text.now) (number_of c.args.text.now) c.in-Some.number
    (c.in-Some.ensures ∙ ap (λ text. number_in (is_numeral text) (number_of text)) c.as_bytes.ensures))
    c.use_property.ensures
