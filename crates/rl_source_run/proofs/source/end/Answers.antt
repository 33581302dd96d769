use Rattle.std.proofs.Common.{ap, ◌∙◌}
use Rattle.rl_source_run.proofs.Endings.{ended_trace}
use Rattle.rl_trace.specs.Progress.{Seen, seen}
use Rattle.rl_source_run.proofs.source.end.Goals as goal

pub returns : goal.returns
returns c =
    let s : Seen = seen c.args.run.progress in
    c.end.ensures
    ∙ ap (λ e. record { events = s.events; ending = e }) c.in_ok-ending.ensures
    ∙ ended_trace c.args.run.names c.args.run.texts c.args.run.stack.items s c.args.ended
