use Rattle.std.proofs.Common.{Some, [], ◌∷◌, ◌++◌, sym, ap, ◌∙◌}
use Rattle.rl_lint.proofs.LateSymbols.{none_early, one_early}
use Rattle.rl_lint.specs.Findings.{finding}
use Rattle.rl_lint.specs.Tables.{tables}
use Rattle.rl_lint.specs.declared.finding.LintRule.TheVariants as rule
use Rattle.rl_lint.proofs.early.push_early.Goals as goal

pub returns-then-stands_before_any : goal.returns-then-stands_before_any
returns-then-stands_before_any c =
    let lates = c.args.lates.now in let u = c.args.site.now in let first = c.args.first.now in let out = c.args.found.now.items in
    one_early (tables lates.names.now.bindings.now) u c.args.symbol lates.sites.now lates.by_symbol first out
    c.push_finding.new.found.items c.bucket.result.now lates.late_are c.requires c.bucket.ensures
    (sym c.stands_before_any.ensures ∙ c.if-stands_before_any.true)
    (c.in_ok-push_finding.ensures ∙ ap (λ n. out ++ finding rule.L1 u.at.span n (Some first.span) ∷ []) c.name_text-name.ensures)

pub returns : goal.returns
returns c =
    let lates = c.args.lates.now in
    none_early (tables lates.names.now.bindings.now) c.args.site.now c.args.symbol lates.sites.now lates.by_symbol c.args.first.now
    c.args.found.now.items c.bucket.result.now lates.late_are c.requires c.bucket.ensures
    (sym c.stands_before_any.ensures ∙ c.if-stands_before_any.false)
