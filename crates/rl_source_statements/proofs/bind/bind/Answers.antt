use Rattle.std.proofs.Common.{ap, sym, ◌∙◌}
use Rattle.rl_model.specs.Patterns.{bind}
use Rattle.rl_source_stack.proofs.Goings.{goes_as}
use Rattle.rl_source_stack.specs.Controls.{from_normal, trace_of}
use Rattle.rl_source_stack.specs.States.{State, state_of}
use Rattle.rl_source_stack.specs.declared.control.Control.TheVariants as control
use Rattle.rl_trace.specs.Values.{shown}
use Rattle.rl_source_statements.proofs.bind.bind.Goals as goal

pub returns-in-Pattern : goal.returns-in-Pattern
returns-in-Pattern c =
    goes_as c.bind_pattern.result (state_of c.bind_pattern.new.run)
    (ap (λ b. trace_of (control.Bind c.args.everywhere b c.args.value) (state_of c.args.run.now)) (sym c.in-Pattern.is))
    c.bind_pattern.ensures

pub returns-in-MaybeDefault : goal.returns-in-MaybeDefault
returns-in-MaybeDefault c =
    goes_as c.bind_maybe_default.result (state_of c.bind_maybe_default.new.run)
    (ap (λ b. trace_of (control.Bind c.args.everywhere b c.args.value) (state_of c.args.run.now)) (sym c.in-MaybeDefault.is))
    c.bind_maybe_default.ensures

pub returns-in-Property : goal.returns-in-Property
returns-in-Property c =
    let old : State = state_of c.args.run.now in
    ap (λ t. from_normal (bind old.scene c.args.everywhere t (shown c.args.value)) old) c.binding_property_view-property.ensures
    ∙ ap (λ b. trace_of (control.Bind c.args.everywhere b c.args.value) old) (sym c.in-Property.is)

pub returns-in-Rest : goal.returns-in-Rest
returns-in-Rest c =
    let old : State = state_of c.args.run.now in
    ap (λ t. from_normal (bind old.scene c.args.everywhere t (shown c.args.value)) old) c.binding_rest_element_view-rest.ensures
    ∙ ap (λ b. trace_of (control.Bind c.args.everywhere b c.args.value) old) (sym c.in-Rest.is)
