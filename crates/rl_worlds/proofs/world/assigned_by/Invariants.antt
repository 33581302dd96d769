use Rattle.std.proofs.Common.{◌≡◌, ◌++◌, map, drop}
use Rattle.rl_model.specs.Code.{assigned_in, flat}
use Rattle.rl_names.specs.Seen.{seen}
use Rattle.rl_syntax.specs.Syntax.{syntax}
use Rattle.rl_worlds.proofs.world.assigned_by.Given as goal

abbrev pub invariant-functions : goal.invariant-functions
invariant-functions l =
    l.found.items ++ flat (assigned_in (seen l.variables.names)) (map (λ t. syntax t.now) (drop l.function-index l.functions)) ≡ flat
    (assigned_in (seen l.variables.names)) (map (λ t. syntax t.now) l.functions)
