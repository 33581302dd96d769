use Rattle.std.proofs.Common.{◌≡◌, ℕ, ◌&&◌, ◌||◌, Some, slice_get, drop}
use Rattle.rl_bindings.specs.declared.event.Bound.{Bound}
use Rattle.rl_markers.proofs.Opening.{any_of}
use Rattle.rl_markers.specs.Named.{is_candidate, tables}
use Rattle.rl_model.specs.Code.{contains}
use Rattle.rl_markers.proofs.marking.candidates_among.Given as goal

abbrev pub invariant-symbols : goal.invariant-symbols
invariant-symbols l =
    (other : ℕ) (first : Bound) → slice_get (tables l.variables).symbols other ≡ Some first
    → (contains l.found.items other
    || (any_of (drop l.symbol-index l.symbols) other && is_candidate (tables l.variables) l.direct.list.items l.scope.0 other first))
    ≡ (any_of l.symbols other && is_candidate (tables l.variables) l.direct.list.items l.scope.0 other first)
