use Rattle.std.proofs.Common.{Bool, if◌then◌else◌, ap, sym, ◌∙◌}
use Rattle.rl_source_stack.specs.Controls.{runs, trace_of}
use Rattle.rl_source_stack.specs.Loops.{rest_of_loop}
use Rattle.rl_source_stack.specs.Parts.{label_of}
use Rattle.rl_source_stack.specs.States.{State, pushed, state_of}
use Rattle.rl_source_stack.specs.declared.control.Control.TheVariants as control
use Rattle.rl_source_stack.specs.declared.stack.Frame.TheVariants as frame
use Rattle.rl_source_stack.proofs.Goings.{goes_as}
use Rattle.rl_source_statements.proofs.leave.leave_continued.Goals as goal

pub returns-then-is_own : goal.returns-then-is_own
returns-then-is_own c =
    let old : State = state_of c.args.run.now in
    goes_as c.go_on_with_loop.result (state_of c.go_on_with_loop.new.run)
    (sym (ap (λ (b : Bool).
    runs (if b then rest_of_loop old.scene c.in-Body.turns old.konts.ways (λ u. old.konts.normal)
    else old.konts.ways.continues (label_of c.args.jump)) old) (sym c.is_own.ensures ∙ c.if-is_own.true))
    ∙ ap (λ a. trace_of (control.Continue c.args.jump) (pushed (frame.Statement a) old)) (sym c.in-Body.is)) c.go_on_with_loop.ensures
