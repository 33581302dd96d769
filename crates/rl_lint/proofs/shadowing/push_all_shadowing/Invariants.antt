use Rattle.std.proofs.Common.{◌≡◌, ◌++◌, drop}
use Rattle.rl_lint.specs.Rules.{shadowing}
use Rattle.rl_lint.specs.Tables.{tables}
use Rattle.rl_lint.proofs.shadowing.push_all_shadowing.Given as goal

abbrev pub invariant-symbols : goal.invariant-symbols
invariant-symbols l = l.found.items ++ shadowing (tables l.bindings) (drop l.first-index l.bindings.symbols)
    ≡ l.initial.found.items ++ shadowing (tables l.bindings) l.bindings.symbols
