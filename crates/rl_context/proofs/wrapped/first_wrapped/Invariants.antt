use Rattle.std.proofs.Common.{◌≡◌, drop}
use Rattle.rl_context.specs.Wrapped.{first_from, first_wrapped}
use Rattle.rl_context.proofs.wrapped.first_wrapped.Given as goal

abbrev pub invariant-loop-site : goal.invariant-loop-site
invariant-loop-site l = first_from l.first (drop l.site-index l.sites) ≡ first_wrapped l.sites
