use Rattle.std.proofs.Common.{◌≡◌, IfOk, ap, subst, sym}
use Rattle.rl_grammar.specs.Fields.{maybe}
use Rattle.rl_source_stack.specs.Controls.{from_normal, trace_of}
use Rattle.rl_source_stack.specs.States.{State, state_of}
use Rattle.rl_source_stack.proofs.Goings.{goes_as}
use Rattle.rl_source_statements.proofs.Parts.{returning_some}
use Rattle.rl_source_statements.specs.Starts.{returning}
use Rattle.rl_syntax.specs.Syntax.{syntax}
use Rattle.rl_source_statements.proofs.execute.execute_return.Goals as goal

pub returns-in-Some : goal.returns-in-Some
returns-in-Some c =
    let old : State = state_of c.args.run.now in
    subst (λ a. IfOk c.evaluate_for.result (λ d. trace_of d (state_of c.evaluate_for.new.run)
    ≡ from_normal (returning old.scene (maybe a (λ t. syntax t.tree.now))) old)) (sym c.in-Some.is)
    (goes_as c.evaluate_for.result (state_of c.evaluate_for.new.run)
    (ap (λ action. from_normal action old) (sym (returning_some old.scene (syntax c.in-Some.argument.tree.now) c.in-Some.argument.fit)))
    c.evaluate_for.ensures)
