use Rattle.std.proofs.Common.{◌≡◌, OnOk, subst, sym}
use Rattle.rl_hir.specs.Pieces.{Gives, taken_pieces}
use Rattle.rl_graph_events.specs.Buildings.{added, adds, built}
use Rattle.rl_graph_events.proofs.building.Building.taken.Goals as goal

pub returns-in_ok-names-in-Property : goal.returns-in_ok-names-in-Property
returns-in_ok-names-in-Property c =
    subst (λ p. OnOk c.gives.result (built c.gives.new.self ≡ adds (taken_pieces p) (built c.args.self.now))) (sym c.in-Property.is)
    (subst (λ b. OnOk c.gives.result (built c.gives.new.self ≡ added
    (Gives c.in-Property.place) b)) c.in_ok-names-in-Property.ensures c.gives.ensures)
