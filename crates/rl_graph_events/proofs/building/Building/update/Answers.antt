use Rattle.std.proofs.Common.{◌≡◌, OnOk, subst}
use Rattle.rl_graph_events.specs.Buildings.{built, with_operand}
use Rattle.rl_graph_events.proofs.building.Building.update.Goals as goal

pub returns : goal.returns
returns c = subst (λ b. OnOk c.only.result (built c.only.new.self ≡ with_operand c.args.value b)) c.in_ok-says.ensures c.only.ensures
