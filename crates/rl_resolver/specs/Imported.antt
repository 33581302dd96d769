-- The imports of symbols.
use Rattle.std.specs.Prelude.{ℕ, Option, None, slice_get, List, length, map}
use Rattle.rl_ast.specs.Marked.{first}
use Rattle.rl_bindings.specs.declared.event.Bound.{Bound}
use Rattle.rl_semantic.specs.Keyed.{those_below}
use Rattle.rl_semantic.specs.Items.{of_item}
use Rattle.rl_semantic.specs.declared.imports.ImportBindingData.{ImportBindingData}
use Rattle.rl_semantic.specs.declared.imports.ImportEntry.{ImportEntry}
use Rattle.rl_syntax.specs.declared.nodes.NodeEntry.{NodeEntry}

-- An entry at the id of its `bind` node.
abbrev pub import_pair : ImportEntry → ℕ × ImportEntry
import_pair e = (e.node.0, e)

-- The entry of the import specifier that is a symbol's first declaration. None of a symbol whose first declaration is no import
-- specifier, and of a number that is no symbol's.
abbrev pub import_entry : List NodeEntry → (imports : List ImportEntry) → List Bound → (symbol : ℕ) → Option ImportEntry
import_entry nodes imports symbols symbol = of_item None (λ b. first (those_below (length nodes) b.node.0 (map import_pair imports))) (slice_get symbols symbol)

-- As `import_entry`, for the data, if `imports` has each binding of an import at the id of its `bind` node.
abbrev pub import_data : List NodeEntry → (imports : List (ℕ × ImportBindingData)) → List Bound → (symbol : ℕ) → Option ImportBindingData
import_data nodes imports symbols symbol = of_item None (λ b. first (those_below (length nodes) b.node.0 imports)) (slice_get symbols symbol)
