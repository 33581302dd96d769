use Rattle.std.proofs.Common.{ap, sym, ◌∙◌}
use Rattle.rl_model.specs.Actions.{◌>>◌}
use Rattle.rl_model.specs.Expressions.{eval, eval_last}
use Rattle.rl_source_stack.specs.Controls.{from, trace_of}
use Rattle.rl_source_stack.specs.States.{state_of}
use Rattle.rl_source_stack.specs.declared.control.Control.TheVariants as control
use Rattle.rl_syntax.specs.Syntax.{Then, syntax}
use Rattle.rl_source_expressions.proofs.evaluate.evaluate_last.Goals as goal

pub returns-in-None-split_first : goal.returns-in-None-split_first
returns-in-None-split_first c =
    sym (ap (λ ps. from (eval_last (state_of c.args.run.now).scene (Then (syntax c.in-Some.first.tree.now) ps)) (state_of c.args.run.now))
    c.in-None-split_first.ensures)
    ∙ sym (ap (λ ps. from (eval_last (state_of c.args.run.now).scene ps) (state_of c.args.run.now)) c.in-Some.ensures)

pub returns-in_ok-push-in-Some-split_first : goal.returns-in_ok-push-in-Some-split_first
returns-in_ok-push-in-Some-split_first c =
    ap (trace_of (control.Evaluate c.in-Some.first)) c.in_ok-push-in-Some-split_first.ensures
    ∙ ap (λ ps. from (eval (state_of c.args.run.now).scene (syntax c.in-Some.first.tree.now) >> eval_last
    (state_of c.args.run.now).scene ps) (state_of c.args.run.now)) c.in-Some-split_first.ensures
    ∙ sym (ap (λ ps. from (eval_last (state_of c.args.run.now).scene (Then (syntax c.in-Some.first.tree.now) ps))
    (state_of c.args.run.now)) c.in-Some-split_first.ensures)
    ∙ sym (ap (λ ps. from (eval_last (state_of c.args.run.now).scene ps) (state_of c.args.run.now)) c.in-Some.ensures)
