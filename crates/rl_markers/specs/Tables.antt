-- The least marker of each symbol.
use Rattle.std.specs.Prelude.{◌≡◌, ℕ, Bool, false, Option, Some, None, slice_get, List}
use Rattle.std.specs.List.{list_any}
use Rattle.rl_bindings.specs.declared.bindings.Bindings.{Bindings}
use Rattle.rl_bindings.specs.declared.event.Bound.{Bound}
use Rattle.rl_markers.specs.Named.{marks_list, up_to}
use Rattle.rl_markers.specs.declared.marker_table.MarkerTable.{MarkerTable}
use Rattle.rl_model.specs.Hoisting.{lists_in}
use Rattle.rl_names.specs.Names.{Names}
use Rattle.rl_semantic.specs.Items.{of_item}
use Rattle.rl_syntax.specs.Syntax.{Syntax}

abbrev pub is_before : (node : ℕ) → Option ℕ → Bool
is_before node marker = of_item false (up_to node) marker

abbrev pub itself : Option ℕ → Option ℕ
itself marker = marker

-- The least marker of a symbol.
abbrev pub least_at : List (Option ℕ) → (symbol : ℕ) → Option ℕ
least_at least symbol = of_item None itself (slice_get least symbol)

-- True of a symbol whose least marker is that of a node up to `node`.
abbrev pub before : List (Option ℕ) → (symbol node : ℕ) → Bool
before least symbol node = of_item false (is_before node) (slice_get least symbol)

-- The table has the markers of a function.
pub record AreMarkers (b : Bindings) (names : Names) (function : Syntax) (table : MarkerTable) : Type 0 where
  pub are : (node symbol : ℕ) (first : Bound) → slice_get b.symbols symbol ≡ Some first
      → before table.least.items symbol node ≡ list_any (marks_list b names node symbol first) (lists_in function)
