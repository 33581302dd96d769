use Rattle.std.proofs.Common.{◌≡◌, map, drop}
use Rattle.std.specs.List.{list_all}
use Rattle.rl_rows.specs.Clean.{clear_code}
use Rattle.rl_syntax.specs.Syntax.{syntax}
use Rattle.rl_rows.proofs.supported.functions_are_clear.Given as goal

abbrev pub invariant-functions : goal.invariant-functions
invariant-functions g l =
    list_all (clear_code (g.F.RowFacts.facts l.facts)) (map (λ t. syntax t.now) (drop l.function-index l.functions))
    ≡ list_all (clear_code (g.F.RowFacts.facts l.facts)) (map (λ t. syntax t.now) l.functions)
