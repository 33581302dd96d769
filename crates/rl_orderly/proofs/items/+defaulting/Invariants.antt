use Rattle.std.proofs.Common.{◌≡◌, ◌+◌, ◌*◌, ◌≤◌, ◌++◌, map, drop}
use Rattle.rl_model.specs.Orderly.{defaults_among}
use Rattle.rl_syntax.specs.Sizes.{size, size_of}
use Rattle.rl_syntax.specs.Syntax.{pieces_of, syntax}
use Rattle.rl_orderly.proofs.items.+defaulting.Given as goal

abbrev pub decreases-push_defaults : goal.decreases-push_defaults
decreases-push_defaults l = 2 * size (syntax l.pattern.now)

abbrev pub decreases-push_defaults_as : goal.decreases-push_defaults_as
decreases-push_defaults_as l = 2 * size_of (pieces_of (map syntax l.parts.now)) + 1

abbrev pub decreases-push_defaults_among : goal.decreases-push_defaults_among
decreases-push_defaults_among l = 2 * size_of (pieces_of (map syntax l.patterns.now))

abbrev pub invariant-push_defaults_among-patterns : goal.invariant-push_defaults_among-patterns
invariant-push_defaults_among-patterns l = record {
  walked : map (λ t. syntax t.now) l.out.items ++ defaults_among (pieces_of (map syntax (drop l.pattern-index l.patterns)))
      ≡ map (λ t. syntax t.now) l.initial.out.items ++ defaults_among (pieces_of (map syntax l.patterns));
  fewer : size_of (pieces_of (map syntax (drop l.pattern-index l.patterns))) ≤ size_of (pieces_of (map syntax l.patterns));
}
