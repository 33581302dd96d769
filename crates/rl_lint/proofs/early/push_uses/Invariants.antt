use Rattle.std.proofs.Common.{◌≡◌, ◌++◌, drop}
use Rattle.rl_lint.specs.Rules.{early}
use Rattle.rl_lint.specs.Tables.{tables}
use Rattle.rl_lint.proofs.early.push_uses.Given as goal

abbrev pub invariant-sites : goal.invariant-sites
invariant-sites l =
    let b = tables l.lates.names.now.bindings.now in let all = l.lates.sites.now in
    l.found.items ++ early b all (drop l.site-index l.sites) ≡ l.initial.found.items ++ early b all l.sites
