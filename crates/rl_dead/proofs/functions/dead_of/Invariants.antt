use Rattle.std.proofs.Common.{◌≡◌, ℕ, ◌||◌, map, drop}
use Rattle.std.specs.List.{list_any}
use Rattle.rl_dead.specs.Functions.{is_dead_in}
use Rattle.rl_dead.specs.Ranges.{is_covered}
use Rattle.rl_syntax.specs.Syntax.{syntax}
use Rattle.rl_dead.proofs.functions.dead_of.Given as goal

abbrev pub invariant-functions : goal.invariant-functions
invariant-functions l =
    (node : ℕ) → (is_covered l.dead.items node || list_any (is_dead_in node) (map (λ t. syntax t.now) (drop l.function-index l.functions)))
    ≡ list_any (is_dead_in node) (map (λ t. syntax t.now) l.functions)
