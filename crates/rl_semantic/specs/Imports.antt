-- The bindings that the imports of a unit make: of which module, and of which of its exports.
use Rattle.std.specs.Prelude.{ℕ, Option, Some, None, option_map, List, [], ◌∷◌, ◌++◌}
use Rattle.rl_base.specs.declared.ids.NodeId.{NodeId}
use Rattle.rl_rules.specs.Pieces.{first_items, behind}
use Rattle.rl_semantic.specs.Items.{of_item}
use Rattle.rl_semantic.specs.declared.imports.ImportBindingData.{ImportBindingData}
use Rattle.rl_semantic.specs.declared.imports.ImportBindingKind.{ImportBindingKind}
use Rattle.rl_semantic.specs.declared.imports.ImportBindingKind.TheVariants as import
use Rattle.rl_semantic.specs.declared.imports.ImportEntry.{ImportEntry}
use Rattle.rl_syntax.specs.Syntax.{Syntax, Node, Listed, Said, Count, Flag, Absent, Pieces, End, Then}
use Rattle.rl_syntax.specs.declared.word.Word.{Word}
use Rattle.rl_syntax.specs.declared.word.Word.TheVariants as word

-- The first of some parts, if it is a text.
abbrev pub first_text : Pieces → Option (List ℕ)
first_text (Then (Said text) parts) = Some text
first_text _ = None

-- The id of the first of some parts, if it is a node.
abbrev pub first_node : Pieces → Option NodeId
first_node (Then (Node at w inner) parts) = Some at.id
first_node _ = None

-- The kind of binding that an import specifier makes, by its word.
abbrev pub kind_of : Word → Option ImportBindingKind
kind_of word.Default = Some import.Default
kind_of word.Named = Some import.Named
kind_of word.Namespace = Some import.Namespace
kind_of _ = None

-- The name of the export that a specifier of the kind names: the first part of `named`. None of any other.
abbrev pub imported_of : ImportBindingKind → Pieces → Option (List ℕ)
imported_of import.Named parts = first_text parts
imported_of _ parts = None

-- The parts of a specifier of the kind from its `bind` node on: behind the export's name of `named`, all of any other.
abbrev pub local_of : ImportBindingKind → Pieces → Pieces
local_of import.Named parts = behind parts
local_of _ parts = parts

-- The binding that a specifier of the kind makes, at the id of its `bind` node.
abbrev pub binding_of : (source : List ℕ) → Pieces → ImportBindingKind → List (ℕ × ImportBindingData)
binding_of source parts kind = of_item [] (λ node. (node.0, record { source = source; kind = kind; imported = imported_of kind parts }) ∷ []) (first_node (local_of kind parts))

-- As `binding_of`, for a specifier of any kind. None of a part that is no specifier.
abbrev pub specifier : (source : List ℕ) → Syntax → List (ℕ × ImportBindingData)
specifier source (Node at w parts) = of_item [] (binding_of source parts) (kind_of w)
specifier source _ = []

-- As `specifier`, for specifiers in a row.
abbrev pub specifiers : (source : List ℕ) → Pieces → List (ℕ × ImportBindingData)
specifiers source End = []
specifiers source (Then piece pieces) = specifier source piece ++ specifiers source pieces

-- The bindings that a node itself makes, if it is an import: its parts are the module's text and the list of specifiers.
abbrev pub import_of : Word → Pieces → List (ℕ × ImportBindingData)
import_of word.Import parts = of_item [] (λ source. specifiers source (first_items (behind parts))) (first_text parts)
import_of _ parts = []

abbrev mutual
  -- The bindings that the imports in a tree make, in the order of the nodes, each at the id of its `bind` node.
  pub imports_in : Syntax → List (ℕ × ImportBindingData)
  imports_in (Node at w parts) = import_of w parts ++ imports_among parts
  imports_in (Listed parts) = imports_among parts
  imports_in (Said text) = []
  imports_in (Count number) = []
  imports_in (Flag flag) = []
  imports_in Absent = []

  -- As `imports_in`, for parts in a row.
  pub imports_among : Pieces → List (ℕ × ImportBindingData)
  imports_among End = []
  imports_among (Then piece pieces) = imports_in piece ++ imports_among pieces

-- The data of an entry.
abbrev pub data_of : ImportEntry → ImportBindingData
data_of e = record { source = e.source.now; kind = e.kind; imported = option_map (λ t. t.now) e.imported }

-- The data of an entry, at the id of its `bind` node.
abbrev pub seen : ImportEntry → ℕ × ImportBindingData
seen e = (e.node.0, data_of e)
