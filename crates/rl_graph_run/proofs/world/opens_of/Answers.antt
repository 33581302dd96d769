use Rattle.std.proofs.Common.{false, ap, ◌∙◌}
use Rattle.std.specs.Option.{option_map_or}
use Rattle.rl_hir.specs.Pairs.{identifier_of}
use Rattle.rl_model.specs.Code.{contains}
use Rattle.rl_graph_run.proofs.world.opens_of.Goals as goal

pub returns : goal.returns
returns c same n =
    c.in_ok-opens.ensures n
    ∙ ap (λ i. option_map_or (contains c.in_ok-assigned.assigned.items) i false) (same n)
    ∙ ap (λ ids. option_map_or (contains ids) (identifier_of c.args.lowered.now.pairs n) false) c.in_ok-assigned.ensures
