use Rattle.std.proofs.Common.{[], ap, ◌∙◌}
use Rattle.rl_machine.specs.Traces.{unset}
use Rattle.rl_source_run.proofs.Beginnings.{set_begun}
use Rattle.rl_source_run.specs.Ends.{begun}
use Rattle.rl_source_stack.specs.States.{state_by}
use Rattle.rl_trace.specs.Progress as progress
use Rattle.rl_source_run.proofs.source.begin.Goals as goal

pub returns : goal.returns
returns c =
    ap (λ frames. state_by c.args.around.names c.args.around.texts frames (progress.seen c.begin.new.self)) c.new-2.ensures.items
    ∙ ap (state_by c.args.around.names c.args.around.texts [])
    (c.in_ok-begin.ensures ∙ ap (progress.begun c.args.inputs.start.now) c.in_ok-progress.ensures)
    ∙ ap (λ store. record (begun c.args.around c.args.inputs) { store = store }) (set_begun c.args.inputs.start.now unset)
