use Rattle.std.proofs.Common.{◌≡◌, drop}
use Rattle.rl_trace.specs.Values.{shown}
use Rattle.rl_trace.specs.Variables.{far_value}
use Rattle.rl_trace.specs.declared.value.Val.TheVariants as Val
use Rattle.rl_trace.proofs.variables.Variables.get_far.Given as goal

-- The values that are left change the value so far as all of them change Undefined.
abbrev pub invariant-far : goal.invariant-far
invariant-far l =
    far_value (drop l.far-index l.self.far.items) l.number (shown l.value) ≡ far_value l.self.far.items l.number (shown Val.Undefined)
