-- The functions of a unit: their scopes, the properties of objects that they make, and the ranges of text that they take.
use Rattle.std.specs.Prelude.{ℕ, ◌+◌, Bool, true, false, ◌&&◌, if◌then◌else◌, nat_eq, Option, Some, None, slice_get, List, [], ◌∷◌, ◌++◌}
use Rattle.rl_base.specs.declared.ids.NodeId.{NodeId}
use Rattle.rl_base.specs.declared.ids.ScopeId.{ScopeId}
use Rattle.rl_bindings.specs.declared.event.ScopeEntry.{ScopeEntry}
use Rattle.rl_bindings.specs.declared.event.ScopeKind.{ScopeKind}
use Rattle.rl_bindings.specs.declared.event.ScopeKind.TheVariants as scope_kinds
use Rattle.rl_semantic.specs.Items.{of_item}
use Rattle.rl_syntax.specs.declared.nodes.NodeEntry.{NodeEntry}
use Rattle.rl_syntax.specs.declared.word.Word.{Word}
use Rattle.rl_syntax.specs.declared.word.Word.TheVariants as word

abbrev pub is_function : ScopeKind → Bool
is_function scope_kinds.Function = true
is_function _ = false

-- True of the words of methods, getters and setters.
abbrev pub is_accessor : Word → Bool
is_accessor word.Method = true
is_accessor word.Get = true
is_accessor word.Set = true
is_accessor _ = false

abbrev pub is_object : Word → Bool
is_object word.Object = true
is_object _ = false

abbrev pub is_function_expression : Word → Bool
is_function_expression word.Funexpr = true
is_function_expression _ = false

-- The entry of a node. None of no node, and past the end of the table.
abbrev pub entry_at : List NodeEntry → Option NodeId → Option NodeEntry
entry_at nodes None = None
entry_at nodes (Some node) = slice_get nodes node.0

-- The node around a node. None around the unit.
abbrev pub around : List NodeEntry → NodeEntry → Option NodeEntry
around nodes e = entry_at nodes e.parent

-- True of a method, a getter or a setter of an object.
abbrev pub is_property : List NodeEntry → NodeEntry → Bool
is_property nodes e = is_accessor e.word && of_item false (λ o. is_object o.word) (around nodes e)

-- The node `p`, if it is a method, a getter or a setter of an object.
abbrev pub if_property : List NodeEntry → (p : NodeEntry) → Option NodeEntry
if_property nodes p = if is_property nodes p then Some p else None

-- The method, getter or setter of an object that a function expression is a part of: the function of the property, or its
-- computed key. None for any other node, as an arrow function, or a function expression deeper in a key.
abbrev pub property_around : List NodeEntry → NodeEntry → Option NodeEntry
property_around nodes e = if is_function_expression e.word then of_item None (if_property nodes) (around nodes e) else None

-- The node `p` around a node, if the node is its last part: then both end with the same node.
abbrev pub if_last : NodeEntry → (p : NodeEntry) → Option NodeEntry
if_last e p = if nat_eq e.at.end.0 p.at.end.0 then Some p else None

-- The method, getter or setter of an object that a function expression is the function of. None for any other node, and for one
-- that is the computed key of a property.
abbrev pub property_of : List NodeEntry → NodeEntry → Option NodeEntry
property_of nodes e = of_item None (if_last e) (property_around nodes e)

-- The node that captures of a scope's node count from: the property that it is a part of (`property_around`), if there is one,
-- else itself.
abbrev pub capture_root : List NodeEntry → NodeEntry → NodeId
capture_root nodes e = of_item e.at.id (λ p. p.at.id) (property_around nodes e)

-- The node that captures of a scope count from. The unit's node for a number that is no scope's.
abbrev pub capture_root_node : List NodeEntry → List ScopeEntry → (scope : ℕ) → NodeId
capture_root_node nodes scopes scope = of_item (record { 0 = 0 }) (λ s. of_item s.node (capture_root nodes) (slice_get nodes s.node.0)) (slice_get scopes scope)

-- The ids of the scopes of functions, `number` being that of the first of the scopes.
abbrev pub functions_from : (number : ℕ) → List ScopeEntry → List ScopeId
functions_from number [] = []
functions_from number (s ∷ scopes) = if is_function s.kind then record { 0 = number } ∷ functions_from (number + 1) scopes else functions_from (number + 1) scopes

-- The scopes of functions, in order.
abbrev pub function_scopes : List ScopeEntry → List ScopeId
function_scopes scopes = functions_from 0 scopes

-- The range from the start of the property around a function to the end of the function. None without such a property.
abbrev pub property_range : (property : Option NodeEntry) → NodeEntry → List (ℕ × ℕ)
property_range None e = []
property_range (Some p) e = (p.at.span.start, e.at.span.end) ∷ []

-- The ranges of text of a function: its own, and that from the start of the property that it is a part of (`property_around`).
abbrev pub function_ranges : List NodeEntry → NodeEntry → List (ℕ × ℕ)
function_ranges nodes e = (e.at.span.start, e.at.span.end) ∷ property_range (property_around nodes e) e

-- The node of a function's scope. None for any other scope.
abbrev pub function_node : List NodeEntry → ScopeEntry → Option NodeEntry
function_node nodes s = if is_function s.kind then slice_get nodes s.node.0 else None

abbrev pub scope_ranges : List NodeEntry → ScopeEntry → List (ℕ × ℕ)
scope_ranges nodes s = of_item [] (function_ranges nodes) (function_node nodes s)

-- The ranges of text of all functions, in the order of their scopes.
abbrev pub function_scope_ranges : List NodeEntry → List ScopeEntry → List (ℕ × ℕ)
function_scope_ranges nodes [] = []
function_scope_ranges nodes (s ∷ scopes) = scope_ranges nodes s ++ function_scope_ranges nodes scopes
