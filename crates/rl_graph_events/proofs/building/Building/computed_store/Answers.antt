use Rattle.std.proofs.Common.{◌≡◌, OnOk, subst}
use Rattle.rl_hir.specs.Pieces.{used}
use Rattle.rl_graph_events.specs.Buildings.{added, built}
use Rattle.rl_graph_events.proofs.building.Building.computed_store.Goals as goal

pub returns : goal.returns
returns c = subst (λ b. OnOk c.uses.result (built c.uses.new.self ≡ added (used c.args.store.value) b)) c.in_ok-two.ensures c.uses.ensures
