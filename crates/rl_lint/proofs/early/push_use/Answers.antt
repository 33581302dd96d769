use Rattle.std.proofs.Common.{sym, ◌∙◌}
use Rattle.rl_lint.proofs.Missing.{no_symbol}
use Rattle.rl_lint.specs.Rules.{early_of}
use Rattle.rl_lint.specs.Tables.{tables}
use Rattle.rl_lint.proofs.early.push_use.Goals as goal

pub returns-in-None-symbol_at : goal.returns-in-None-symbol_at
returns-in-None-symbol_at c =
    let lates = c.args.lates.now in let b = lates.names.now.bindings.now in
    no_symbol c.args.found.now.items b.symbols (early_of (tables b) lates.sites.now c.args.site.now) c.in-Some.symbol _
    (sym c.used.ensures ∙ c.in-Some.is) c.in-None-symbol_at.ensures
