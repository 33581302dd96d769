use Rattle.std.proofs.Common.{◌≡◌, ◌++◌, map, drop}
use Rattle.rl_worlds.specs.Worlds.{named_here}
use Rattle.rl_model.specs.Code.{flat}
use Rattle.rl_names.specs.Seen.{seen}
use Rattle.rl_syntax.specs.Syntax.{syntax}
use Rattle.rl_worlds.proofs.world.named_by.Given as goal

abbrev pub invariant-functions : goal.invariant-functions
invariant-functions l =
    l.found.items ++ flat (named_here (seen l.variables.names)) (map (λ t. syntax t.now) (drop l.function-index l.functions)) ≡ flat
    (named_here (seen l.variables.names)) (map (λ t. syntax t.now) l.functions)
