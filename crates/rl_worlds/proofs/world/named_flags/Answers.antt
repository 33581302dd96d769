use Rattle.std.proofs.Common.{◌++◌, ap, ◌∙◌}
use Rattle.rl_worlds.proofs.Shared.{contains_append, named_own}
use Rattle.rl_model.specs.Code.{code_of, contains, flat, function_names_at, named_in}
use Rattle.rl_names.specs.Seen.{seen}
use Rattle.rl_syntax.specs.Syntax.{syntax}
use Rattle.rl_worlds.proofs.world.named_flags.Goals as goal

pub returns : goal.returns
returns c s =
    let n = seen c.args.variables.now.names in
    let f = syntax c.args.function.now in
    let declared = flat (function_names_at n.declared) (code_of f) in
    c.in_ok-flags.ensures s ∙ ap (λ l. contains l s) c.in_ok-named.ensures
    ∙ ap (λ l. contains (l ++ declared) s) (named_own n f)
    ∙ contains_append (named_in n f) declared s
