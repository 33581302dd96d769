use Rattle.std.proofs.Common.{◌≡◌, ◌++◌, map, drop}
use Rattle.rl_model.specs.Code.{flat}
use Rattle.rl_names.specs.Seen.{seen}
use Rattle.rl_orderly.specs.Repeats.{used_here}
use Rattle.rl_syntax.specs.Syntax.{syntax}
use Rattle.rl_orderly.proofs.pattern.push_used_all.Given as goal

abbrev pub invariant-expressions : goal.invariant-expressions
invariant-expressions l =
    l.out.items ++ flat (used_here (seen l.variables.names)) (map (λ t. syntax t.now) (drop l.expression-index l.expressions))
    ≡ l.initial.out.items ++ flat (used_here (seen l.variables.names)) (map (λ t. syntax t.now) l.expressions)
