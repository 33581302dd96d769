use Rattle.std.proofs.Common.{None, ap, ◌∙◌}
use Rattle.rl_model.specs.Actions.{◌>>◌, body_of_loop}
use Rattle.rl_model.specs.Statements.{exec}
use Rattle.rl_source_stack.specs.Controls.{from_normal, trace_of}
use Rattle.rl_source_stack.specs.Loops.{rest_of_loop}
use Rattle.rl_source_stack.specs.Parts.{label_of}
use Rattle.rl_source_stack.specs.States.{State, state_of}
use Rattle.rl_source_stack.specs.declared.behind.Turns.{Turns}
use Rattle.rl_source_stack.specs.declared.control.Control.TheVariants as control
use Rattle.rl_source_statements.proofs.loops.run_body_of_loop.Goals as goal

pub returns : goal.returns
returns c =
    let old : State = state_of c.args.run.now in
    let turns : Turns = c.args.turns in
    ap (trace_of (control.Execute None c.body_of.result)) c.in_ok-push.ensures
    ∙ ap (λ body. from_normal (do
      body_of_loop (label_of turns.own) (exec old.scene None body)
      rest_of_loop old.scene turns) old) c.body_of.ensures
