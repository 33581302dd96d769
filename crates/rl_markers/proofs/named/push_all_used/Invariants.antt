use Rattle.std.proofs.Common.{◌≡◌, ℕ, ◌||◌, Some, slice_get, map, drop}
use Rattle.std.specs.List.{list_any}
use Rattle.rl_bindings.specs.declared.event.Bound.{Bound}
use Rattle.rl_markers.specs.Named.{names_as, tables}
use Rattle.rl_markers.specs.Uses.{seen}
use Rattle.rl_model.specs.Code.{contains}
use Rattle.rl_markers.proofs.named.push_all_used.Given as goal

abbrev pub invariant-uses : goal.invariant-uses
invariant-uses l =
    (symbol : ℕ) (first : Bound) → slice_get (tables l.variables).symbols symbol ≡ Some first
    → (contains l.out.items symbol || list_any (names_as (tables l.variables) symbol first) (map seen (drop l.used-index l.uses)))
    ≡ (contains l.initial.out.items symbol || list_any (names_as (tables l.variables) symbol first) (map seen l.uses))
