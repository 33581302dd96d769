use Rattle.std.proofs.Common.{◌≡◌, OnOk, subst}
use Rattle.rl_hir.specs.Pieces.{used}
use Rattle.rl_graph_events.specs.Buildings.{added, built}
use Rattle.rl_graph_events.proofs.building.Building.two.Goals as goal

pub returns : goal.returns
returns c = subst (λ b. OnOk c.uses-2.result (built c.uses-2.new.self ≡ added (used c.args.second) b)) c.in_ok-uses.ensures c.uses-2.ensures
