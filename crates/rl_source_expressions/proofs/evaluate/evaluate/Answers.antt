use Rattle.std.proofs.Common.{ap, ◌∙◌, List}
use Rattle.rl_machine.specs.declared.trace.Trace.{Trace}
use Rattle.rl_machine.specs.declared.trace.Value.{Value}
use Rattle.rl_model.specs.Expressions.{eval}
use Rattle.rl_source_expressions.proofs.Functions.{function_evaluated}
use Rattle.rl_source_stack.proofs.Goings.{goes_as}
use Rattle.rl_source_stack.specs.Controls.{from, trace_of}
use Rattle.rl_source_stack.specs.Parts.{among, gathering}
use Rattle.rl_source_stack.specs.States.{State, state_of}
use Rattle.rl_source_stack.specs.declared.control.Control.TheVariants as control
use Rattle.rl_source_stack.specs.declared.gather.Gather.{Gather}
use Rattle.rl_source_stack.specs.declared.gather.Gather.TheVariants as gather
use Rattle.rl_syntax.specs.Syntax.{Syntax, Pieces, syntax}
use Rattle.rl_trace.specs.Progress.{after}
use Rattle.rl_source_expressions.proofs.evaluate.evaluate.Goals as goal

-- The trace of a run that evaluates a tree next.
abbrev evaluated : State → Syntax → Trace
evaluated s t = after s.events (eval s.scene t s.konts.ways s.konts.value s.store s.answers)

-- The trace of a run that gathers the parts of a construct behind the values that are given.
abbrev gathered_of : State → Gather → (left : Pieces) → (given : List Value) → Trace
gathered_of s what left given = from (gathering s.scene what left given) s

pub returns-in_ok-push-in-Binary : goal.returns-in_ok-push-in-Binary
returns-in_ok-push-in-Binary c =
    ap (trace_of (control.Evaluate c.in-Binary.left)) c.in_ok-push-in-Binary.ensures
    ∙ ap (evaluated (state_of c.args.run.now)) c.in-Binary.ensures

pub returns-in_ok-push-in-Logical : goal.returns-in_ok-push-in-Logical
returns-in_ok-push-in-Logical c =
    ap (trace_of (control.Evaluate c.in-Logical.left)) c.in_ok-push-in-Logical.ensures
    ∙ ap (evaluated (state_of c.args.run.now)) c.in-Logical.ensures

pub returns-in_ok-push-in-Conditional : goal.returns-in_ok-push-in-Conditional
returns-in_ok-push-in-Conditional c =
    ap (trace_of (control.Evaluate c.in-Conditional.test)) c.in_ok-push-in-Conditional.ensures
    ∙ ap (evaluated (state_of c.args.run.now)) c.in-Conditional.ensures

pub returns-in_ok-push-in-New : goal.returns-in_ok-push-in-New
returns-in_ok-push-in-New c =
    ap (trace_of (control.Evaluate c.in-New.callee)) c.in_ok-push-in-New.ensures ∙ ap (evaluated (state_of c.args.run.now)) c.in-New.ensures

pub returns-in_ok-push-in-Await : goal.returns-in_ok-push-in-Await
returns-in_ok-push-in-Await c =
    ap (trace_of (control.Evaluate c.in-Await.argument)) c.in_ok-push-in-Await.ensures
    ∙ ap (evaluated (state_of c.args.run.now)) c.in-Await.ensures

pub returns-in_ok-push-in-Chain : goal.returns-in_ok-push-in-Chain
returns-in_ok-push-in-Chain c =
    ap (trace_of (control.Evaluate c.in-Chain.expression)) c.in_ok-push-in-Chain.ensures
    ∙ ap (evaluated (state_of c.args.run.now)) c.in-Chain.ensures

pub returns-in-RegExp : goal.returns-in-RegExp
returns-in-RegExp c =
    goes_as c.evaluate_regexp.result (state_of c.evaluate_regexp.new.run)
    (ap (evaluated (state_of c.args.run.now)) c.in-RegExp.ensures)
    c.evaluate_regexp.ensures

pub returns-in-Template : goal.returns-in-Template
returns-in-Template c =
    goes_as c.evaluate_template.result (state_of c.evaluate_template.new.run)
    (ap (evaluated (state_of c.args.run.now)) c.in-Template.ensures)
    c.evaluate_template.ensures

pub returns-in-Array : goal.returns-in-Array
returns-in-Array c =
    goes_as c.gather.result (state_of c.gather.new.run)
    (ap (gathered_of (state_of c.args.run.now) (gather.Array c.in-Array.items) (among c.in-Array.items.trees.now)) c.new-given.ensures
    ∙ ap (evaluated (state_of c.args.run.now)) c.in-Array.ensures)
    c.gather.ensures

pub returns-in-Object : goal.returns-in-Object
returns-in-Object c =
    goes_as c.gather-in-Object.result (state_of c.gather-in-Object.new.run)
    (ap (gathered_of (state_of c.args.run.now) (gather.Object c.in-Object.properties) (among c.in-Object.properties.trees.now))
    c.new-given-in-Object.ensures
    ∙ ap (evaluated (state_of c.args.run.now)) c.in-Object.ensures)
    c.gather-in-Object.ensures

pub returns-in-Unary : goal.returns-in-Unary
returns-in-Unary c =
    goes_as c.evaluate_unary.result (state_of c.evaluate_unary.new.run)
    (ap (evaluated (state_of c.args.run.now)) c.in-Unary.ensures)
    c.evaluate_unary.ensures

pub returns-in-Update : goal.returns-in-Update
returns-in-Update c =
    goes_as c.evaluate_update.result (state_of c.evaluate_update.new.run)
    (ap (evaluated (state_of c.args.run.now)) c.in-Update.ensures)
    c.evaluate_update.ensures

pub returns-in-Assignment : goal.returns-in-Assignment
returns-in-Assignment c =
    goes_as c.evaluate_assignment.result (state_of c.evaluate_assignment.new.run)
    (ap (evaluated (state_of c.args.run.now)) c.in-Assignment.ensures)
    c.evaluate_assignment.ensures

pub returns-in-Sequence : goal.returns-in-Sequence
returns-in-Sequence c =
    goes_as c.evaluate_last.result (state_of c.evaluate_last.new.run)
    (ap (evaluated (state_of c.args.run.now)) c.in-Sequence.ensures)
    c.evaluate_last.ensures

pub returns-in-ImportMeta : goal.returns-in-ImportMeta
returns-in-ImportMeta c =
    goes_as c.evaluate_meta.result (state_of c.evaluate_meta.new.run)
    (ap (evaluated (state_of c.args.run.now)) c.in-ImportMeta.ensures)
    c.evaluate_meta.ensures

pub returns-in-Element : goal.returns-in-Element
returns-in-Element c =
    goes_as c.evaluate_element.result (state_of c.evaluate_element.new.run)
    (ap (evaluated (state_of c.args.run.now)) c.in-Element.ensures)
    c.evaluate_element.ensures

pub returns-in-Fragment : goal.returns-in-Fragment
returns-in-Fragment c =
    goes_as c.evaluate_fragment.result (state_of c.evaluate_fragment.new.run)
    (ap (evaluated (state_of c.args.run.now)) c.in-Fragment.ensures)
    c.evaluate_fragment.ensures

pub returns-in-Member : goal.returns-in-Member
returns-in-Member c =
    goes_as c.evaluate_property.result (state_of c.evaluate_property.new.run)
    (ap (evaluated (state_of c.args.run.now)) c.in-Member.ensures)
    c.evaluate_property.ensures

pub returns-in-Index : goal.returns-in-Index
returns-in-Index c =
    goes_as c.evaluate_property-in-Index.result (state_of c.evaluate_property-in-Index.new.run)
    (ap (evaluated (state_of c.args.run.now)) c.in-Index.ensures)
    c.evaluate_property-in-Index.ensures

pub returns-in-Arrow : goal.returns-in-Arrow
returns-in-Arrow c =
    goes_as c.evaluate_function.result (state_of c.evaluate_function.new.run)
    (ap (evaluated (state_of c.args.run.now)) (c.arrow_view-function.ensures ∙ c.in-Arrow.ensures))
    c.evaluate_function.ensures

pub returns-in-Function : goal.returns-in-Function
returns-in-Function c =
    goes_as c.evaluate_function-in-Function.result (state_of c.evaluate_function-in-Function.new.run)
    (function_evaluated (state_of c.args.run.now) c.function_expression_view-function.result (syntax c.in-Function.function.tree.now)
    c.function_expression_view-function.ensures c.in-Function.function.fit
    ∙ ap (evaluated (state_of c.args.run.now)) c.in-Function.ensures)
    c.evaluate_function-in-Function.ensures

pub returns-in-Identifier : goal.returns-in-Identifier
returns-in-Identifier c =
    goes_as c.read_name.result (state_of c.read_name.new.run)
    (ap (evaluated (state_of c.args.run.now)) (c.identifier_reference_view-identifier.ensures ∙ c.in-Identifier.ensures))
    c.read_name.ensures

pub returns-in-Call : goal.returns-in-Call
returns-in-Call c =
    goes_as c.evaluate_call.result (state_of c.evaluate_call.new.run)
    (ap (evaluated (state_of c.args.run.now)) c.in-Call.ensures)
    c.evaluate_call.ensures

pub returns-in-Tagged : goal.returns-in-Tagged
returns-in-Tagged c =
    goes_as c.evaluate_tagged.result (state_of c.evaluate_tagged.new.run)
    (ap (evaluated (state_of c.args.run.now)) c.in-Tagged.ensures)
    c.evaluate_tagged.ensures
