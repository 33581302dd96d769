use Rattle.std.proofs.Common.{◌≡◌, is_some, drop}
use Rattle.rl_context.specs.Wrapped.{first_wrapped}
use Rattle.rl_rows.proofs.supported.has_wrapped.Given as goal

abbrev pub invariant-sites : goal.invariant-sites
invariant-sites l = is_some (first_wrapped (drop l.site-index l.sites)) ≡ is_some (first_wrapped l.sites)
