use Rattle.std.proofs.Common.{◌≡◌, ◌++◌, drop}
use Rattle.rl_lint.specs.Rules.{taken}
use Rattle.rl_lint.specs.Tables.{tables}
use Rattle.rl_lint.proofs.taken.push_all_taken.Given as goal

abbrev pub invariant-sites : goal.invariant-sites
invariant-sites l = l.found.items ++ taken (tables l.names.bindings.now) (drop l.site-index l.sites)
    ≡ l.initial.found.items ++ taken (tables l.names.bindings.now) l.sites
