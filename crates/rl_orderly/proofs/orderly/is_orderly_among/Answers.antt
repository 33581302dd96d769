use Rattle.std.proofs.Common.{◌≡◌, ◌&&◌, map, rules, ◌∙◌}
use Rattle.rl_names.specs.Seen.{seen}
use Rattle.rl_orderly.proofs.Whole.{by_parts}
use Rattle.rl_shadowed.specs.Shadowed.{is_shadowed_by}
use Rattle.rl_syntax.specs.Syntax.{syntax}
use Rattle.rl_orderly.proofs.orderly.is_orderly_among.Goals as goal
use Rattle.rl_orderly.proofs.orderly.is_orderly_among.Goals.{then-nodes, else-nodes}

pub returns : goal.returns
returns c m are =
    let n = seen c.args.names.now in
    let b = c.args.names.now.resolver.now.semantic.now.bindings in
    let both : c.if-nodes.result ≡ (c.in_ok-nodes.nodes && c.in_ok-patterns.patterns) = elim c.if-nodes.branch [ then-nodes w ↦ search rules | else-nodes w ↦ search rules ] in
    both
    ∙ by_parts n (is_shadowed_by b.names b.scopes b.symbols n) (map (λ t. syntax t.now) c.args.functions.now) m (syntax c.args.function.now)
    c.in_ok-nodes.nodes c.in_ok-patterns.patterns are c.in_ok-nodes.ensures c.in_ok-patterns.ensures
