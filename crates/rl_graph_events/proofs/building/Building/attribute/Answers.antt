use Rattle.std.proofs.Common.{◌≡◌, OnOk, subst, sym}
use Rattle.rl_hir.specs.Pieces.{Gives, attribute_pieces}
use Rattle.rl_graph_events.specs.Buildings.{added, adds, built}
use Rattle.rl_graph_events.proofs.building.Building.attribute.Goals as goal

pub returns-in_ok-names-in-Attribute : goal.returns-in_ok-names-in-Attribute
returns-in_ok-names-in-Attribute c =
    subst (λ p. OnOk c.gives.result (built c.gives.new.self ≡ adds (attribute_pieces p) (built c.args.self.now))) (sym c.in-Attribute.is)
    (subst (λ b. OnOk c.gives.result (built c.gives.new.self ≡ added
    (Gives c.in-Attribute.place) b)) c.in_ok-names-in-Attribute.ensures c.gives.ensures)
