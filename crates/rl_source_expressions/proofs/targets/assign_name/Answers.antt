use Rattle.std.proofs.Common.{ap, sym, ◌∙◌}
use Rattle.rl_source_expressions.proofs.Targeted.{local_named, named, outer_named, given_to}
use Rattle.rl_source_stack.proofs.Goings.{goes_as}
use Rattle.rl_source_stack.specs.Controls.{asked_then, trace_of}
use Rattle.rl_source_stack.specs.States.{state_of}
use Rattle.rl_source_stack.specs.declared.control.Control.TheVariants as control
use Rattle.rl_trace.specs.Values.{shown}
use Rattle.rl_source_expressions.proofs.targets.assign_name.Goals as goal

pub returns : goal.returns
returns c =
    ap (trace_of control.Normal) c.in_ok-assign.ensures
    ∙ local_named (state_of c.args.run.now) _ c.in-Local.symbol c.identifier_reference_view-name.result.name.now (shown c.args.value)
    (sym c.in_ok-meaning.ensures ∙ c.in-Local.is)
    ∙ ap (given_to (state_of c.args.run.now) (shown c.args.value)) c.identifier_reference_view-name.ensures

pub returns-in_default : goal.returns-in_default
returns-in_default c =
    goes_as c.ask_then.result (state_of c.ask_then.new.self)
    (ap (λ e. asked_then e control.Normal (state_of c.args.run.now)) c.in_ok-event.ensures
    ∙ outer_named (state_of c.args.run.now) _ c.identifier_reference_view-name.result.name.now (shown c.args.value) c.in_default.not-Local
    ∙ ap (λ m. named (state_of c.args.run.now) m c.identifier_reference_view-name.result.name.now (shown c.args.value))
    c.in_ok-meaning.ensures
    ∙ ap (given_to (state_of c.args.run.now) (shown c.args.value)) c.identifier_reference_view-name.ensures)
    c.ask_then.ensures
