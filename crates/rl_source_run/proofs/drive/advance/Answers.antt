use Rattle.std.proofs.Common.{ap, sym, ◌∙◌}
use Rattle.rl_source_stack.proofs.Goings.{goes_as}
use Rattle.rl_source_stack.specs.Controls.{trace_of}
use Rattle.rl_source_stack.specs.States.{state_of}
use Rattle.rl_source_run.proofs.drive.advance.Goals as goal

pub returns-in-Evaluate : goal.returns-in-Evaluate
returns-in-Evaluate c =
    goes_as c.evaluate.result (state_of c.evaluate.new.run) (ap (λ x. trace_of x (state_of c.args.run.now)) (sym c.in-Evaluate.is))
    c.evaluate.ensures

pub returns-in-Element : goal.returns-in-Element
returns-in-Element c =
    goes_as c.evaluate_element.result (state_of c.evaluate_element.new.run) (ap (λ x. trace_of x (state_of c.args.run.now)) (sym c.in-Element.is))
    c.evaluate_element.ensures

pub returns-in-Fragment : goal.returns-in-Fragment
returns-in-Fragment c =
    goes_as c.evaluate_fragment.result (state_of c.evaluate_fragment.new.run) (ap (λ x. trace_of x (state_of c.args.run.now)) (sym c.in-Fragment.is))
    c.evaluate_fragment.ensures

pub returns-in-Callee : goal.returns-in-Callee
returns-in-Callee c =
    goes_as c.evaluate_callee.result (state_of c.evaluate_callee.new.run) (ap (λ x. trace_of x (state_of c.args.run.now)) (sym c.in-Callee.is))
    c.evaluate_callee.ensures

pub returns-in-Delete : goal.returns-in-Delete
returns-in-Delete c =
    goes_as c.delete_property.result (state_of c.delete_property.new.run) (ap (λ x. trace_of x (state_of c.args.run.now)) (sym c.in-Delete.is))
    c.delete_property.ensures

pub returns-in-Link : goal.returns-in-Link
returns-in-Link c =
    goes_as c.link.result (state_of c.link.new.run) (ap (λ x. trace_of x (state_of c.args.run.now)) (sym c.in-Link.is))
    c.link.ensures

pub returns-in-Call : goal.returns-in-Call
returns-in-Call c =
    goes_as c.call.result (state_of c.call.new.run) (ap (λ x. trace_of x (state_of c.args.run.now)) (sym c.in-Call.is))
    c.call.ensures

pub returns-in-CallOf : goal.returns-in-CallOf
returns-in-CallOf c =
    goes_as c.call_of.result (state_of c.call_of.new.run) (ap (λ x. trace_of x (state_of c.args.run.now)) (sym c.in-CallOf.is))
    c.call_of.ensures

pub returns-in-Execute : goal.returns-in-Execute
returns-in-Execute c =
    goes_as c.execute.result (state_of c.execute.new.run) (ap (λ x. trace_of x (state_of c.args.run.now)) (sym c.in-Execute.is))
    c.execute.ensures

pub returns-in-Block : goal.returns-in-Block
returns-in-Block c =
    goes_as c.execute_block.result (state_of c.execute_block.new.run) (ap (λ x. trace_of x (state_of c.args.run.now)) (sym c.in-Block.is))
    c.execute_block.ensures

pub returns-in-Variables : goal.returns-in-Variables
returns-in-Variables c =
    goes_as c.declare_variables.result (state_of c.declare_variables.new.run) (ap (λ x. trace_of x (state_of c.args.run.now)) (sym c.in-Variables.is))
    c.declare_variables.ensures

pub returns-in-Turn : goal.returns-in-Turn
returns-in-Turn c =
    goes_as c.make_turn.result (state_of c.make_turn.new.run) (ap (λ x. trace_of x (state_of c.args.run.now)) (sym c.in-Turn.is))
    c.make_turn.ensures

pub returns-in-Body : goal.returns-in-Body
returns-in-Body c =
    goes_as c.run_body_of_loop.result (state_of c.run_body_of_loop.new.run) (ap (λ x. trace_of x (state_of c.args.run.now)) (sym c.in-Body.is))
    c.run_body_of_loop.ensures

pub returns-in-Bind : goal.returns-in-Bind
returns-in-Bind c =
    goes_as c.bind.result (state_of c.bind.new.run) (ap (λ x. trace_of x (state_of c.args.run.now)) (sym c.in-Bind.is))
    c.bind.ensures

pub returns-in-AssignTo : goal.returns-in-AssignTo
returns-in-AssignTo c =
    goes_as c.assign_to.result (state_of c.assign_to.new.run) (ap (λ x. trace_of x (state_of c.args.run.now)) (sym c.in-AssignTo.is))
    c.assign_to.ensures

pub returns-in-TakeHead : goal.returns-in-TakeHead
returns-in-TakeHead c = c.take_head.ensures ∙ ap (λ x. trace_of x (state_of c.args.run.now)) (sym c.in-TakeHead.is)

pub returns-in-Cases : goal.returns-in-Cases
returns-in-Cases c =
    goes_as c.try_case.result (state_of c.try_case.new.run) (ap (λ x. trace_of x (state_of c.args.run.now)) (sym c.in-Cases.is))
    c.try_case.ensures

pub returns-in-Case : goal.returns-in-Case
returns-in-Case c =
    goes_as c.execute_case.result (state_of c.execute_case.new.run) (ap (λ x. trace_of x (state_of c.args.run.now)) (sym c.in-Case.is))
    c.execute_case.ensures

pub returns-in-Default : goal.returns-in-Default
returns-in-Default c = c.find_default.ensures ∙ ap (λ x. trace_of x (state_of c.args.run.now)) (sym c.in-Default.is)

pub returns-in-Value : goal.returns-in-Value
returns-in-Value c =
    goes_as c.with_value.result (state_of c.with_value.new.run) (ap (λ x. trace_of x (state_of c.args.run.now)) (sym c.in-Value.is))
    c.with_value.ensures

pub returns-in-Pair : goal.returns-in-Pair
returns-in-Pair c =
    goes_as c.with_pair.result (state_of c.with_pair.new.run) (ap (λ x. trace_of x (state_of c.args.run.now)) (sym c.in-Pair.is))
    c.with_pair.ensures

pub returns-in-Pieces : goal.returns-in-Pieces
returns-in-Pieces c =
    goes_as c.with_pieces.result (state_of c.with_pieces.new.run) (ap (λ x. trace_of x (state_of c.args.run.now)) (sym c.in-Pieces.is))
    c.with_pieces.ensures

pub returns-in-Normal : goal.returns-in-Normal
returns-in-Normal c =
    goes_as c.with_normal.result (state_of c.with_normal.new.run) (ap (λ x. trace_of x (state_of c.args.run.now)) (sym c.in-Normal.is))
    c.with_normal.ensures

pub returns-in-Throw : goal.returns-in-Throw
returns-in-Throw c =
    goes_as c.with_throw.result (state_of c.with_throw.new.run) (ap (λ x. trace_of x (state_of c.args.run.now)) (sym c.in-Throw.is))
    c.with_throw.ensures

pub returns-in-Break : goal.returns-in-Break
returns-in-Break c = c.with_break.ensures ∙ ap (λ x. trace_of x (state_of c.args.run.now)) (sym c.in-Break.is)

pub returns-in-Continue : goal.returns-in-Continue
returns-in-Continue c =
    goes_as c.with_continue.result (state_of c.with_continue.new.run) (ap (λ x. trace_of x (state_of c.args.run.now)) (sym c.in-Continue.is))
    c.with_continue.ensures

pub returns-in-Short : goal.returns-in-Short
returns-in-Short c = c.with_short.ensures ∙ ap (λ x. trace_of x (state_of c.args.run.now)) (sym c.in-Short.is)

pub returns-in-Returned : goal.returns-in-Returned
returns-in-Returned c = ap (λ x. trace_of x (state_of c.args.run.now)) (sym c.in-Returned.is)

pub returns-in-Threw : goal.returns-in-Threw
returns-in-Threw c = ap (λ x. trace_of x (state_of c.args.run.now)) (sym c.in-Threw.is)

pub returns-in-Waiting : goal.returns-in-Waiting
returns-in-Waiting c = ap (λ x. trace_of x (state_of c.args.run.now)) (sym c.in-Waiting.is)
