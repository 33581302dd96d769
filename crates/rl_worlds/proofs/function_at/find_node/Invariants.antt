use Rattle.std.proofs.Common.{◌≡◌, map, drop, filter}
use Rattle.rl_ast.specs.Marked.{first}
use Rattle.rl_model.specs.Source.{is_node}
use Rattle.rl_syntax.specs.Syntax.{syntax}
use Rattle.rl_worlds.proofs.function_at.find_node.Given as goal

abbrev pub invariant-functions : goal.invariant-functions
invariant-functions l =
    first (filter (is_node l.node.0) (map (λ t. syntax t.now) (drop l.function-index l.functions))) ≡ first
    (filter (is_node l.node.0) (map (λ t. syntax t.now) l.functions))
