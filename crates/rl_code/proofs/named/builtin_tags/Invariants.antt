use Rattle.std.proofs.Common.{◌≡◌, ◌++◌, map, drop}
use Rattle.rl_model.specs.Code.{builtin_tag_at, flat}
use Rattle.rl_syntax.specs.Syntax.{syntax}
use Rattle.rl_code.proofs.named.builtin_tags.Given as goal

abbrev pub invariant-nodes : goal.invariant-nodes
invariant-nodes l =
    l.tags.items ++ flat builtin_tag_at (map (λ t. syntax t.now) (drop l.node-index l.nodes)) ≡ flat builtin_tag_at
    (map (λ t. syntax t.now) l.nodes)
