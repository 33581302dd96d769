use Rattle.std.proofs.Common.{ap, ◌∙◌}
use Rattle.rl_hir.specs.Values.{form_of}
use Rattle.rl_machine.specs.Acts.{event_kind}
use Rattle.rl_trace.specs.Progress.{seen}
use Rattle.rl_graph_events.specs.Buildings.{blank, event_from, filled}
use Rattle.rl_graph_events.proofs.Built.{filled_event}
use Rattle.rl_graph_events.proofs.event.event.Goals as goal

pub returns : goal.returns
returns c =
    ap (event_from c.in_ok-word.word) (c.in_ok-value.ensures ∙ ap (filled (form_of c.args.value.now)) c.new-building.ensures)
    ∙ ap (λ k. event_from k (filled (form_of c.args.value.now) (blank (seen c.args.progress.now).store)))
    (c.in_ok-word.ensures ∙ c.kind.ensures)
    ∙ filled_event (seen c.args.progress.now).store (event_kind c.args.value.now) (form_of c.args.value.now)
