use Rattle.std.proofs.Common.{Some, [], ◌∷◌, sym, ap, ◌∙◌}
use Rattle.rl_bindings.specs.declared.event.Bound.{Bound}
use Rattle.rl_lint.proofs.Missing.{no_symbol}
use Rattle.rl_lint.specs.Findings.{finding}
use Rattle.rl_lint.specs.Rules.{taken_by}
use Rattle.rl_lint.specs.Tables.{tables}
use Rattle.rl_lint.specs.declared.finding.LintRule.TheVariants as rule
use Rattle.rl_resolver.specs.Lookups.{name_text}
use Rattle.rl_lint.proofs.taken.push_taken.Goals as goal

pub returns-in-None-symbol_at : goal.returns-in-None-symbol_at
returns-in-None-symbol_at c =
    let b = c.args.bindings.now in let name = name_text b.names c.args.first.now.name in
    no_symbol c.args.found.now.items b.symbols
    (λ n (other : Bound). finding rule.L4 c.args.site.now.bind.span name (Some other.span) ∷ [])
    c.in-Some.symbol _
    (ap (taken_by (tables b) c.args.own c.args.site.now.scope) (sym c.name_text-name.ensures) ∙ sym c.taken_by.ensures ∙ c.in-Some.is)
    c.in-None-symbol_at.ensures
