use Rattle.std.proofs.Common.{◌≡◌, ℕ, ◌||◌, false, drop, get_or}
use Rattle.rl_context.specs.Index.{declares}
use Rattle.rl_context.proofs.index.declarations_of.Given as goal

abbrev pub invariant-loop-site : goal.invariant-loop-site
invariant-loop-site l = (n : ℕ) → (get_or l.declarations.items n false || declares n (drop l.site-index l.sites)) ≡ declares n l.sites
