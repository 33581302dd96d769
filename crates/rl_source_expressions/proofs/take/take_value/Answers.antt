use Rattle.std.proofs.Common.{ap, sym, ◌∙◌}
use Rattle.rl_base.specs.Operators.{operator_text}
use Rattle.rl_machine.specs.declared.trace.Trace.{Trace}
use Rattle.rl_machine.specs.declared.trace.Value.TheVariants as value
use Rattle.rl_model.specs.Actions.{ask}
use Rattle.rl_model.specs.Events as events
use Rattle.rl_source_stack.proofs.Goings.{goes_as}
use Rattle.rl_source_stack.specs.Controls.{from, trace_of}
use Rattle.rl_source_stack.specs.States.{State, pushed, state_of}
use Rattle.rl_source_stack.specs.declared.behind.Behind.{Behind}
use Rattle.rl_source_stack.specs.declared.control.Control.TheVariants as control
use Rattle.rl_source_stack.specs.declared.stack.Frame.TheVariants as frame
use Rattle.rl_trace.specs.Values.{shown}
use Rattle.rl_trace.specs.declared.value.Val.{Val}
use Rattle.rl_source_expressions.proofs.take.take_value.Goals as goal

-- The trace of a run whose innermost frame takes a value.
abbrev taken : Val → State → Behind → Trace
taken v s b = trace_of (control.Value v) (pushed (frame.Value b) s)

pub returns-in_ok-push-in-BinaryRight : goal.returns-in_ok-push-in-BinaryRight
returns-in_ok-push-in-BinaryRight c =
    ap (trace_of (control.Evaluate c.in-BinaryRight.right)) c.in_ok-push-in-BinaryRight.ensures
    ∙ ap (taken c.args.value (state_of c.args.run.now)) (sym c.in-BinaryRight.is)

pub returns-in_ok-push-in-CompoundName : goal.returns-in_ok-push-in-CompoundName
returns-in_ok-push-in-CompoundName c =
    ap (trace_of (control.Evaluate c.in-CompoundName.right)) c.in_ok-push-in-CompoundName.ensures
    ∙ ap (taken c.args.value (state_of c.args.run.now)) (sym c.in-CompoundName.is)

pub returns-in_ok-push-in-CompoundIn : goal.returns-in_ok-push-in-CompoundIn
returns-in_ok-push-in-CompoundIn c =
    ap (trace_of (control.Evaluate c.in-CompoundIn.right)) c.in_ok-push-in-CompoundIn.ensures
    ∙ ap (taken c.args.value (state_of c.args.run.now)) (sym c.in-CompoundIn.is)

pub returns-in_ok-push-in-AssignPattern : goal.returns-in_ok-push-in-AssignPattern
returns-in_ok-push-in-AssignPattern c =
    ap (trace_of (control.AssignTo c.in-AssignPattern.target c.args.value)) c.in_ok-push-in-AssignPattern.ensures
    ∙ ap (taken c.args.value (state_of c.args.run.now)) (sym c.in-AssignPattern.is)

pub returns-in_ok-push-in-CompoundNameLast : goal.returns-in_ok-push-in-CompoundNameLast
returns-in_ok-push-in-CompoundNameLast c =
    goes_as c.ask_binary-in-CompoundNameLast.result (state_of c.ask_binary-in-CompoundNameLast.new.run)
    (ap (λ s. from (ask s.scene (events.binary (operator_text c.in-CompoundNameLast.operator) (shown c.in-CompoundNameLast.old)
    (shown c.args.value))) s) c.in_ok-push-in-CompoundNameLast.ensures
    ∙ ap (taken c.args.value (state_of c.args.run.now)) (sym c.in-CompoundNameLast.is))
    c.ask_binary-in-CompoundNameLast.ensures

pub returns-in_ok-push-in-CompoundInLast : goal.returns-in_ok-push-in-CompoundInLast
returns-in_ok-push-in-CompoundInLast c =
    goes_as c.ask_binary-in-CompoundInLast.result (state_of c.ask_binary-in-CompoundInLast.new.run)
    (ap (λ s. from (ask s.scene (events.binary (operator_text c.in-CompoundInLast.operator) (shown c.in-CompoundInLast.old)
    (shown c.args.value))) s) c.in_ok-push-in-CompoundInLast.ensures
    ∙ ap (taken c.args.value (state_of c.args.run.now)) (sym c.in-CompoundInLast.is))
    c.ask_binary-in-CompoundInLast.ensures

pub returns-in_ok-push-in-UpdateIn : goal.returns-in_ok-push-in-UpdateIn
returns-in_ok-push-in-UpdateIn c =
    goes_as c.ask_binary-in-UpdateIn.result (state_of c.ask_binary-in-UpdateIn.new.run)
    (ap (λ s. from (ask s.scene (events.binary (operator_text c.in-UpdateIn.operator) (shown c.args.value) (value.Number 1))) s)
    c.in_ok-push-in-UpdateIn.ensures
    ∙ ap (taken c.args.value (state_of c.args.run.now)) (sym c.in-UpdateIn.is))
    c.ask_binary-in-UpdateIn.ensures

pub returns-in-Unary : goal.returns-in-Unary
returns-in-Unary c =
    goes_as c.ask_unary.result (state_of c.ask_unary.new.run)
    (ap (taken c.args.value (state_of c.args.run.now)) (sym c.in-Unary.is))
    c.ask_unary.ensures

pub returns-in-BinaryLast : goal.returns-in-BinaryLast
returns-in-BinaryLast c =
    goes_as c.ask_binary.result (state_of c.ask_binary.new.run)
    (ap (taken c.args.value (state_of c.args.run.now)) (sym c.in-BinaryLast.is))
    c.ask_binary.ensures

pub returns-in-Sequence : goal.returns-in-Sequence
returns-in-Sequence c =
    goes_as c.evaluate_last.result (state_of c.evaluate_last.new.run)
    (ap (taken c.args.value (state_of c.args.run.now)) (sym c.in-Sequence.is))
    c.evaluate_last.ensures

pub returns-in-UpdateName : goal.returns-in-UpdateName
returns-in-UpdateName c =
    goes_as c.update_variable.result (state_of c.update_variable.new.run)
    (ap (taken c.args.value (state_of c.args.run.now)) (sym c.in-UpdateName.is))
    c.update_variable.ensures

pub returns-in-Object : goal.returns-in-Object
returns-in-Object c =
    goes_as c.take_object.result (state_of c.take_object.new.run)
    (ap (taken c.args.value (state_of c.args.run.now)) (sym c.in-Object.is))
    c.take_object.ensures

pub returns-in-Key : goal.returns-in-Key
returns-in-Key c =
    goes_as c.use_property.result (state_of c.use_property.new.run)
    (ap (taken c.args.value (state_of c.args.run.now)) (sym c.in-Key.is))
    c.use_property.ensures

pub returns-in-StoreIn : goal.returns-in-StoreIn
returns-in-StoreIn c =
    goes_as c.store.result (state_of c.store.new.run)
    (ap (taken c.args.value (state_of c.args.run.now)) (sym c.in-StoreIn.is))
    c.store.ensures

pub returns-in-UpdateInLast : goal.returns-in-UpdateInLast
returns-in-UpdateInLast c =
    goes_as c.update_property.result (state_of c.update_property.new.run)
    (ap (taken c.args.value (state_of c.args.run.now)) (sym c.in-UpdateInLast.is))
    c.update_property.ensures

pub returns-in-New : goal.returns-in-New
returns-in-New c =
    goes_as c.gather_one.result (state_of c.gather_one.new.run)
    (ap (taken c.args.value (state_of c.args.run.now)) (sym c.in-New.is))
    c.gather_one.ensures

pub returns-in-Tag : goal.returns-in-Tag
returns-in-Tag c =
    goes_as c.gather_one-in-Tag.result (state_of c.gather_one-in-Tag.new.run)
    (ap (taken c.args.value (state_of c.args.run.now)) (sym c.in-Tag.is))
    c.gather_one-in-Tag.ensures
