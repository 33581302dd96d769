use Rattle.std.proofs.Common.{◌≡◌, ◌++◌, map, drop, filter}
use Rattle.rl_worlds.specs.Worlds.{is_other}
use Rattle.rl_syntax.specs.Syntax.{syntax}
use Rattle.rl_worlds.proofs.world.others.Given as goal

abbrev pub invariant-functions : goal.invariant-functions
invariant-functions l =
    map (λ t. syntax t.now) l.found.items ++ filter (is_other (syntax l.function))
    (map (λ t. syntax t.now) (drop l.other-index l.functions)) ≡ filter (is_other (syntax l.function))
    (map (λ t. syntax t.now) l.functions)
