use Rattle.std.proofs.Common.{◌≡◌, ◌+◌, ◌*◌, ◌≤◌, ◌++◌, map, drop}
use Rattle.rl_model.specs.Code.{assigned_among}
use Rattle.rl_names.specs.Seen.{seen}
use Rattle.rl_syntax.specs.Sizes.{size, size_of}
use Rattle.rl_syntax.specs.Syntax.{pieces_of, syntax}
use Rattle.rl_code.proofs.assigned.+assigning.Given as goal

abbrev pub decreases-push_assigned : goal.decreases-push_assigned
decreases-push_assigned l = 2 * size (syntax l.target.now)

abbrev pub decreases-push_as : goal.decreases-push_as
decreases-push_as l = 2 * size_of (pieces_of (map syntax l.parts.now)) + 1

abbrev pub decreases-push_among : goal.decreases-push_among
decreases-push_among l = 2 * size_of (pieces_of (map syntax l.targets.now))

abbrev pub invariant-push_among-targets : goal.invariant-push_among-targets
invariant-push_among-targets l = record {
  walked : l.out.items ++ assigned_among (seen l.variables.names) (pieces_of (map syntax (drop l.target-index l.targets)))
      ≡ l.initial.out.items ++ assigned_among (seen l.variables.names) (pieces_of (map syntax l.targets));
  fewer : size_of (pieces_of (map syntax (drop l.target-index l.targets))) ≤ size_of (pieces_of (map syntax l.targets));
}
