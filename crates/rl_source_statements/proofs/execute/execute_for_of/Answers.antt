use Rattle.std.proofs.Common.{ap, sym}
use Rattle.rl_source_stack.specs.Controls.{from_normal}
use Rattle.rl_source_stack.specs.Parts.{label_of}
use Rattle.rl_source_stack.specs.States.{State, state_of}
use Rattle.rl_source_stack.proofs.Goings.{goes_as}
use Rattle.rl_source_statements.specs.Starts.{iterating}
use Rattle.rl_syntax.specs.Syntax.{syntax}
use Rattle.rl_source_statements.proofs.execute.execute_for_of.Goals as goal

pub returns : goal.returns
returns c =
    let old : State = state_of c.args.run.now in
    goes_as c.evaluate_for.result (state_of c.evaluate_for.new.run)
    (ap (λ b. from_normal
    (iterating old.scene (label_of c.args.own) b (syntax c.args.head.tree.now) (syntax c.args.right.tree.now)
    (syntax c.args.body.tree.now)) old)
    (sym c.if-is_await.false)) c.evaluate_for.ensures
