use Rattle.std.proofs.Common.{None, ap, sym, ◌∙◌}
use Rattle.rl_model.specs.Statements.{exec_all}
use Rattle.rl_source_stack.specs.Controls.{from_normal, trace_of}
use Rattle.rl_source_stack.specs.States.{state_of}
use Rattle.rl_source_stack.specs.declared.control.Control.TheVariants as control
use Rattle.rl_source_statements.proofs.cases.next_statement.Goals as goal

pub returns-in_ok-push-in-Some : goal.returns-in_ok-push-in-Some
returns-in_ok-push-in-Some c =
    ap (trace_of (control.Execute None c.in-Some.first)) c.in_ok-push-in-Some.ensures
    ∙ sym (ap (λ ps. from_normal (exec_all (state_of c.args.run.now).scene ps) (state_of c.args.run.now)) c.in-Some.ensures)

pub returns-in-None : goal.returns-in-None
returns-in-None c = sym (ap (λ ps. from_normal (exec_all (state_of c.args.run.now).scene ps) (state_of c.args.run.now)) c.in-None.ensures)
