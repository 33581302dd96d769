use Rattle.std.proofs.Common.{◌≡◌, ℕ, ◌&&◌, ◌||◌, Some, slice_get, drop}
use Rattle.rl_bindings.specs.declared.event.Bound.{Bound}
use Rattle.rl_markers.specs.Named.{tables}
use Rattle.rl_model.specs.Code.{contains}
use Rattle.rl_model.specs.Hoisting.{is_hoisted_kind}
use Rattle.rl_markers.proofs.named.push_hoisted.Given as goal

abbrev pub invariant-symbols : goal.invariant-symbols
invariant-symbols l =
    (symbol : ℕ) (first : Bound) → slice_get (tables l.variables).symbols symbol ≡ Some first
    → (contains l.out.items symbol || (contains (drop l.symbol-index l.symbols) symbol && is_hoisted_kind first.kind))
    ≡ (contains l.initial.out.items symbol || (contains l.symbols symbol && is_hoisted_kind first.kind))
