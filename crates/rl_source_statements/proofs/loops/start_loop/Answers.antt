use Rattle.std.proofs.Common.{◌≡◌, ◌+◌, ℕ, suc, ap, arith, length, ◌∙◌}
use Rattle.rl_source_stack.specs.Controls.{trace_of}
use Rattle.rl_source_stack.specs.States.{State, pushed, state_of}
use Rattle.rl_source_stack.specs.declared.control.Control.TheVariants as control
use Rattle.rl_source_stack.specs.declared.stack.Around.TheVariants as around
use Rattle.rl_source_stack.specs.declared.stack.Frame.TheVariants as frame
use Rattle.rl_source_statements.proofs.loops.start_loop.Goals as goal

pub returns : goal.returns
returns c =
    let old : State = state_of c.args.run.now in
    let left : ℕ = length c.args.run.now.progress.answers.now in
    let more : left + 1 ≡ suc left = omega arith in
    ap (trace_of (control.Turn (record { most = left + 1; own = c.args.own; parts = c.args.parts }))) c.in_ok-push.ensures
    ∙ ap (λ (most : ℕ). trace_of (control.Turn (record { most = most; own = c.args.own; parts = c.args.parts }))
    (pushed (frame.Statement around.Breakable) old)) more
