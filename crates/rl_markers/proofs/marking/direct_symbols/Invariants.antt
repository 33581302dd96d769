use Rattle.std.proofs.Common.{◌≡◌, ℕ, ◌||◌, Some, slice_get, map, drop}
use Rattle.rl_bindings.specs.declared.event.Bound.{Bound}
use Rattle.rl_markers.specs.Named.{tables}
use Rattle.rl_model.specs.Code.{contains}
use Rattle.rl_model.specs.Hoisting.{is_direct}
use Rattle.rl_syntax.specs.Syntax.{pieces_of, syntax}
use Rattle.rl_markers.proofs.marking.direct_symbols.Given as goal

abbrev pub invariant-statements : goal.invariant-statements
invariant-statements l =
    (symbol : ℕ) (first : Bound) → slice_get (tables l.variables).symbols symbol ≡ Some first
    → (contains l.found.items symbol || is_direct first.node.0 (pieces_of (map syntax (drop l.statement-index l.statements))))
    ≡ is_direct first.node.0 (pieces_of (map syntax l.statements))
