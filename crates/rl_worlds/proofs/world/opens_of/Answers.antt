use Rattle.std.proofs.Common.{map, ap, ◌∙◌}
use Rattle.rl_worlds.proofs.Shared.{contains_flat}
use Rattle.rl_worlds.specs.Worlds.{others_among}
use Rattle.rl_model.specs.Code.{assigned_in, contains}
use Rattle.rl_names.specs.Seen.{seen}
use Rattle.rl_syntax.specs.Syntax.{syntax}
use Rattle.rl_worlds.proofs.world.opens_of.Goals as goal

pub returns : goal.returns
returns c n =
    c.in_ok-opens.ensures n ∙ ap (λ l. contains l n) c.in_ok-assigned.ensures
    ∙ contains_flat (assigned_in (seen c.args.variables.now.names))
    (others_among (map (λ t. syntax t.now) c.args.functions.now) (syntax c.args.function.now)) n
