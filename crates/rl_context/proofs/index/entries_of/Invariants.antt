use Rattle.std.proofs.Common.{◌≡◌, ℕ, drop}
use Rattle.rl_bindings.specs.Symbols.{option_or}
use Rattle.rl_context.specs.Index.{entry_among}
use Rattle.rl_semantic.specs.Buckets.{first_at}
use Rattle.rl_context.proofs.index.entries_of.Given as goal

abbrev pub invariant-loop-site : goal.invariant-loop-site
invariant-loop-site l = (n : ℕ) → option_or (first_at l.entries.items n) (entry_among n (drop l.site-index l.sites)) ≡ entry_among n l.sites
