use Rattle.std.proofs.Common.{map, ap, ◌∙◌}
use Rattle.rl_worlds.proofs.Shared.{contains_flat, flat_named}
use Rattle.rl_worlds.specs.Worlds.{others_among}
use Rattle.rl_model.specs.Code.{contains, named_in}
use Rattle.rl_names.specs.Seen.{seen}
use Rattle.rl_syntax.specs.Syntax.{syntax}
use Rattle.rl_worlds.proofs.world.shared_flags.Goals as goal

pub returns : goal.returns
returns c s =
    let n = seen c.args.variables.now.names in
    let rest = others_among (map (λ t. syntax t.now) c.args.functions.now) (syntax c.args.function.now) in
    c.in_ok-flags.ensures s ∙ ap (λ l. contains l s) c.in_ok-named.ensures
    ∙ ap (λ l. contains l s) (flat_named n rest)
    ∙ contains_flat (named_in n) rest s
