use Rattle.std.proofs.Common.{ap, sym, ◌∙◌}
use Rattle.rl_model.specs.Expressions.{eval, key_in}
use Rattle.rl_source_gather.proofs.Forms.{key_plain}
use Rattle.rl_source_stack.proofs.Goings.{goes_as}
use Rattle.rl_source_stack.specs.Controls.{runs, trace_of}
use Rattle.rl_source_stack.specs.Properties.{used}
use Rattle.rl_source_stack.specs.States.{state_of}
use Rattle.rl_source_stack.specs.declared.control.Control.TheVariants as control
use Rattle.rl_syntax.specs.Syntax.{syntax}
use Rattle.rl_trace.specs.Values.{shown}
use Rattle.rl_source_expressions.proofs.properties.link_computed.Goals as goal

pub returns-in_ok-push-in-None : goal.returns-in_ok-push-in-None
returns-in_ok-push-in-None c =
    ap (trace_of (control.Evaluate c.args.expression)) c.in_ok-push-in-None.ensures
    ∙ sym (ap (λ key. runs (key (state_of c.args.run.now).konts.ways
    (λ known. used (state_of c.args.run.now).scene c.args.purpose (shown c.args.object) known (state_of c.args.run.now).konts))
    (state_of c.args.run.now))
    (key_plain (syntax c.args.expression.tree.now) (eval (state_of c.args.run.now).scene (syntax c.args.expression.tree.now))
    c.in-None.ensures))

pub returns-in-Some : goal.returns-in-Some
returns-in-Some c =
    goes_as c.link_number.result (state_of c.link_number.new.run)
    (ap (λ t. runs (key_in t (eval (state_of c.args.run.now).scene (syntax c.args.expression.tree.now)) (state_of c.args.run.now).konts.ways
    (λ known. used (state_of c.args.run.now).scene c.args.purpose (shown c.args.object) known (state_of c.args.run.now).konts))
    (state_of c.args.run.now)) (sym c.in-Some.ensures))
    c.link_number.ensures
