use Rattle.std.proofs.Common.{sym, ◌∙◌}
use Rattle.rl_lint.proofs.Missing.{no_symbol}
use Rattle.rl_lint.specs.Rules.{taken_of}
use Rattle.rl_lint.specs.Tables.{tables}
use Rattle.rl_lint.proofs.taken.push_name.Goals as goal

pub returns-in-None-symbol_at : goal.returns-in-None-symbol_at
returns-in-None-symbol_at c =
    let b = c.args.names.now.bindings.now in
    no_symbol c.args.found.now.items b.symbols (taken_of (tables b) c.args.site.now) c.in-Some.own _
    (sym c.declared.ensures ∙ c.in-Some.is)
    c.in-None-symbol_at.ensures
