use Rattle.std.proofs.Common.{◌≡◌, ◌++◌, drop}
use Rattle.rl_lint.specs.Lates.{late_pairs as pairs_of}
use Rattle.rl_lint.specs.Tables.{tables}
use Rattle.rl_lint.proofs.early.late_pairs.Given as goal

abbrev pub invariant-sites : goal.invariant-sites
invariant-sites l = l.pairs ++ pairs_of (tables l.names.bindings.now) (drop l.site-index l.sites)
    ≡ pairs_of (tables l.names.bindings.now) l.sites
