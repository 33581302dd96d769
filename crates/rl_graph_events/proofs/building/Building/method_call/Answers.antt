use Rattle.std.proofs.Common.{◌≡◌, ◌∷◌, OnOk, subst}
use Rattle.rl_hir.specs.Pieces.{argument_pieces, gathered, used}
use Rattle.rl_graph_events.specs.Buildings.{adds, built}
use Rattle.rl_graph_events.proofs.building.Building.method_call.Goals as goal

pub returns : goal.returns
returns c =
    subst (λ items. OnOk c.call.result (built c.call.new.self ≡ adds
    (used c.args.call.now.receiver ∷ used c.args.call.now.property ∷ gathered argument_pieces items) (built c.args.self.now)))
    c.as_slice.ensures
    (subst (λ b. OnOk c.call.result (built c.call.new.self ≡ adds
    (used c.args.call.now.property ∷ gathered argument_pieces c.as_slice.result.now) b)) c.in_ok-uses.ensures c.call.ensures)
