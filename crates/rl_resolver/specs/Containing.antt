-- The functions that a node stands in.
use Rattle.std.specs.Prelude.{ℕ, zero, suc, if◌then◌else◌, Option, Some, None, slice_get, List, [], ◌∷◌, ◌++◌, length}
use Rattle.rl_ast.specs.Marked.{first}
use Rattle.rl_base.specs.declared.ids.NodeId.{NodeId}
use Rattle.rl_base.specs.declared.ids.ScopeId.{ScopeId}
use Rattle.rl_resolver.specs.Inside.{is_function_word}
use Rattle.rl_semantic.specs.Functions.{entry_at, is_property, property_of}
use Rattle.rl_semantic.specs.Items.{of_item}
use Rattle.rl_semantic.specs.Keyed.{those_below}
use Rattle.rl_syntax.specs.declared.nodes.NodeEntry.{NodeEntry}

-- The scope of a function expression, at the method, getter or setter of an object that it is the function of. None of any other
-- node.
abbrev pub method_pair : (nodes : List NodeEntry) → NodeEntry → List (ℕ × ScopeId)
method_pair nodes e = of_item [] (λ p. (p.at.id.0, e.at.scope) ∷ []) (property_of nodes e)

-- The scopes of the functions of properties, each at the node of its property.
abbrev pub methods_in : (nodes left : List NodeEntry) → List (ℕ × ScopeId)
methods_in nodes [] = []
methods_in nodes (e ∷ left) = method_pair nodes e ++ methods_in nodes left

-- The scope of the function of a property. None of any other node.
abbrev pub function_of : List NodeEntry → NodeEntry → Option ScopeId
function_of nodes e = first (those_below (length nodes) e.at.id.0 (methods_in nodes nodes))

-- The scope of the function that a node is, or whose property it is: a method, a getter or a setter of an object. None of any
-- other node.
abbrev pub function_scope : List NodeEntry → NodeEntry → Option ScopeId
function_scope nodes e = if is_function_word e.word then Some e.at.scope else (if is_property nodes e then function_of nodes e else None)

abbrev pub listed : Option ScopeId → List ScopeId
listed None = []
listed (Some scope) = scope ∷ []

-- The scope of the function at an entry, before those that `outward` gives around it.
abbrev pub functions_at : List NodeEntry → (outward : Option NodeId → List ScopeId) → Option NodeEntry → List ScopeId
functions_at nodes outward None = []
functions_at nodes outward (Some e) = listed (function_scope nodes e) ++ outward e.parent

-- The scopes of functions at a node, the one around it and so on, at most `most` nodes.
abbrev pub functions_out : List NodeEntry → (most : ℕ) → Option NodeId → List ScopeId
functions_out nodes zero from = []
functions_out nodes (suc most) from = functions_at nodes (functions_out nodes most) (entry_at nodes from)

-- The scopes of the functions that a node stands inside of, the innermost first. A function of a property counts once for
-- itself and once for its property, so that it is there twice for a node inside it, and once for one in the property's key. A
-- node has a larger id than the one around it, so that they are no more than its id.
abbrev pub containing_function_scopes : List NodeEntry → (node : ℕ) → List ScopeId
containing_function_scopes nodes node = of_item [] (λ e. functions_out nodes node e.parent) (slice_get nodes node)
