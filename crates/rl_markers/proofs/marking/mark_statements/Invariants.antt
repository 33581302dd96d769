use Rattle.std.proofs.Common.{◌≡◌, ℕ, ◌&&◌, ◌||◌, not, Some, slice_get, map, drop}
use Rattle.rl_bindings.specs.declared.event.Bound.{Bound}
use Rattle.rl_markers.specs.Named.{has, is_marked, marks_in, tables}
use Rattle.rl_model.specs.Code.{contains}
use Rattle.rl_names.specs.Seen.{seen}
use Rattle.rl_syntax.specs.Syntax.{pieces_of, syntax}
use Rattle.rl_markers.proofs.marking.mark_statements.Given as goal

abbrev pub invariant-statements : goal.invariant-statements
invariant-statements l =
    (node symbol : ℕ) (first : Bound) → slice_get (tables l.variables).symbols symbol ≡ Some first
    → (is_marked l.marks.items symbol node
    || ((contains l.opened.list.items symbol && not (has l.closed symbol))
    && marks_in (tables l.variables) (seen l.variables.names) node symbol first (pieces_of (map syntax (drop l.statement-index l.statements)))))
    ≡ (is_marked l.initial.marks.items symbol node
    || (contains l.opened.list.items symbol
    && marks_in (tables l.variables) (seen l.variables.names) node symbol first (pieces_of (map syntax l.statements))))
