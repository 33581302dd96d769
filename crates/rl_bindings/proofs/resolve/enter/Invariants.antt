use Rattle.rl_bindings.proofs.Links.{Follows, above}
use Rattle.rl_bindings.proofs.resolve.enter.Given as goal

abbrev pub invariant-links : goal.invariant-links
invariant-links l = Follows l.fn.table l.fn.scope l.initial.env l.env l.initial.saved.items l.saved.items l.next

abbrev pub decreases-links : goal.decreases-links
decreases-links l = above l.next
