use Rattle.std.proofs.Common.{Some, [], ◌∷◌, sym, ◌∙◌}
use Rattle.rl_bindings.specs.declared.event.Bound.{Bound}
use Rattle.rl_lint.proofs.Missing.{no_symbol}
use Rattle.rl_lint.specs.Findings.{finding}
use Rattle.rl_lint.specs.declared.finding.LintRule.TheVariants as rule
use Rattle.rl_resolver.specs.Lookups.{name_text}
use Rattle.rl_lint.proofs.shadowing.push_shadowing.Goals as goal

pub returns-in-None-symbol_at : goal.returns-in-None-symbol_at
returns-in-None-symbol_at c =
    let first = c.args.first.now in
    no_symbol c.args.found.now.items c.args.bindings.now.symbols
    (λ n (other : Bound). finding rule.L2 first.span (name_text c.args.bindings.now.names first.name)
    (Some other.span) ∷ []) c.in-Some.symbol _
    (sym c.outer.ensures ∙ c.in-Some.is) c.in-None-symbol_at.ensures
