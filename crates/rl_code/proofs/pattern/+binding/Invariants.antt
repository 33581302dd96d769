use Rattle.std.proofs.Common.{◌≡◌, ◌+◌, ◌*◌, ◌≤◌, ◌++◌, map, drop}
use Rattle.rl_model.specs.Code.{bound_among}
use Rattle.rl_names.specs.Seen.{seen}
use Rattle.rl_syntax.specs.Sizes.{size, size_of}
use Rattle.rl_syntax.specs.Syntax.{pieces_of, syntax}
use Rattle.rl_code.proofs.pattern.+binding.Given as goal

abbrev pub decreases-push_bound : goal.decreases-push_bound
decreases-push_bound l = 2 * size (syntax l.pattern.now)

abbrev pub decreases-push_as : goal.decreases-push_as
decreases-push_as l = 2 * size_of (pieces_of (map syntax l.parts.now)) + 1

abbrev pub decreases-push_among : goal.decreases-push_among
decreases-push_among l = 2 * size_of (pieces_of (map syntax l.patterns.now))

abbrev pub invariant-push_among-patterns : goal.invariant-push_among-patterns
invariant-push_among-patterns l = record {
  walked : l.out.items ++ bound_among (seen l.variables.names) (pieces_of (map syntax (drop l.pattern-index l.patterns)))
      ≡ l.initial.out.items ++ bound_among (seen l.variables.names) (pieces_of (map syntax l.patterns));
  fewer : size_of (pieces_of (map syntax (drop l.pattern-index l.patterns))) ≤ size_of (pieces_of (map syntax l.patterns));
}
