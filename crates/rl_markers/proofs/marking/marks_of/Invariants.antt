use Rattle.std.proofs.Common.{◌≡◌, ℕ, ◌||◌, Some, slice_get, map, drop}
use Rattle.std.specs.List.{list_any}
use Rattle.rl_bindings.specs.declared.event.Bound.{Bound}
use Rattle.rl_markers.specs.Lists.{seen as seen_list}
use Rattle.rl_markers.specs.Named.{is_marked, marks_list, tables}
use Rattle.rl_names.specs.Seen.{seen}
use Rattle.rl_markers.proofs.marking.marks_of.Given as goal

abbrev pub invariant-lists : goal.invariant-lists
invariant-lists l =
    (node symbol : ℕ) (first : Bound) → slice_get (tables l.variables).symbols symbol ≡ Some first
    → (is_marked l.marks.items symbol node
    || list_any (marks_list (tables l.variables) (seen l.variables.names) node symbol first) (map seen_list (drop l.list-index l.lists)))
    ≡ list_any (marks_list (tables l.variables) (seen l.variables.names) node symbol first) (map seen_list l.lists)
