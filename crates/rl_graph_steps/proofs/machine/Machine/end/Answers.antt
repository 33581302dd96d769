use Rattle.std.proofs.Common.{◌∙◌}
use Rattle.rl_trace.specs.Progress.{seen}
use Rattle.rl_graph_steps.proofs.Functions.{without_events}
use Rattle.rl_graph_steps.proofs.machine.Machine.end.Goals as goal

pub returns : goal.returns
returns c =
    c.end.ensures ∙ without_events (seen c.args.run.progress).events c.in_ok-ending.ending ∙ c.in_ok-ending.ensures
