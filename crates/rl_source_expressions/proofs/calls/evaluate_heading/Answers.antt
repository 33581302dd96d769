use Rattle.std.proofs.Common.{ap, sym, ◌∙◌}
use Rattle.rl_source_expressions.proofs.Callees.{lent_heading, plain_heading}
use Rattle.rl_source_stack.specs.Controls.{trace_of}
use Rattle.rl_source_stack.specs.States.{state_of}
use Rattle.rl_source_stack.specs.declared.control.Control.TheVariants as control
use Rattle.rl_syntax.specs.Syntax.{syntax}
use Rattle.rl_source_expressions.proofs.calls.evaluate_heading.Goals as goal

pub returns-then-lends : goal.returns-then-lends
returns-then-lends c =
    ap (trace_of (control.Callee c.args.callee)) c.in_ok-push.ensures
    ∙ lent_heading (state_of c.args.run.now) c.args.heading (syntax c.args.callee.tree.now) (sym c.lends.ensures ∙ c.if-lends.true)

pub returns-else-lends : goal.returns-else-lends
returns-else-lends c =
    ap (trace_of (control.Evaluate c.args.callee)) c.in_ok-push.ensures
    ∙ plain_heading (state_of c.args.run.now) c.args.heading (syntax c.args.callee.tree.now) (sym c.lends.ensures ∙ c.if-lends.false)
