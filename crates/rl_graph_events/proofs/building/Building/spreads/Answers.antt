use Rattle.std.proofs.Common.{ap, ◌∙◌}
use Rattle.rl_hir.specs.Pieces.{used}
use Rattle.rl_graph_events.specs.Buildings.{added}
use Rattle.rl_graph_events.proofs.building.Building.spreads.Goals as goal

pub returns : goal.returns
returns c = c.in_ok-uses.ensures ∙ ap (added (used c.args.place)) c.in_ok-says.ensures
