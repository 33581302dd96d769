use Rattle.std.proofs.Common.{◌≡◌, length, option_map}
use Rattle.rl_builder.specs.Jumps.{lookup_continue}
use Rattle.rl_builder.proofs.jumps.lookup_continue.Given as goal

abbrev pub decreases-loop-scope : goal.decreases-loop-scope
decreases-loop-scope l = length l.left

-- The scopes that are left have the target of all.
abbrev pub invariant-loop-scope : goal.invariant-loop-scope
invariant-loop-scope l = lookup_continue l.left (option_map (λ text. text.now) l.label) ≡ lookup_continue l.scopes (option_map (λ text. text.now) l.label)
