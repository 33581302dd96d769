use Rattle.std.proofs.Common.{◌&&◌, filter, map, ap, ◌∙◌}
use Rattle.rl_worlds.specs.Worlds.{is_shared}
use Rattle.rl_model.specs.Code.{below}
use Rattle.rl_names.specs.Seen.{seen}
use Rattle.rl_syntax.specs.Syntax.{syntax}
use Rattle.rl_worlds.proofs.world.keeps_of.Goals as goal

pub returns : goal.returns
returns c =
    let shared = is_shared (seen c.args.variables.now.names) (map (λ t. syntax t.now) c.args.functions.now) (syntax c.args.function.now) in
    c.in_ok-keeps.ensures
    ∙ (λ i. filter (λ s. c.in_ok-one.ensures s i && c.in_ok-other.ensures s i) (below c.in_ok-count.count))
    ∙ ap (λ count. filter shared (below count)) c.in_ok-count.ensures
