use Rattle.std.proofs.Common.{◌≡◌, ◌∷◌, [], OnOk, subst}
use Rattle.rl_hir.specs.Pieces.{used}
use Rattle.rl_graph_events.specs.Buildings.{adds, built}
use Rattle.rl_graph_events.proofs.building.Building.operation.Goals as goal

pub returns : goal.returns
returns c =
    subst (λ b. OnOk c.two.result (built c.two.new.self ≡ adds
    (used c.args.first ∷ used c.args.second ∷ []) b)) c.in_ok-says.ensures c.two.ensures
