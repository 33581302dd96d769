-- Hints for the linter, and the tests of them. Nothing is known of hints but what is tested. That there are labels is no hint.
use Rattle.std.specs.Prelude.{ℕ, Bool, true, false, not, ◌&&◌, ◌||◌, if◌then◌else◌, nat_eq, nat_le, nat_lt}
use Rattle.std.specs.Prelude.{Option, Some, None, slice_get, List}
use Rattle.std.specs.List.{list_any}
use Rattle.rl_base.specs.declared.ids.NodeId.{NodeId}
use Rattle.rl_base.specs.declared.ids.ScopeId.{ScopeId}
use Rattle.rl_lint_hints.specs.declared.hints.Hints.{Hints}
use Rattle.rl_lint_hints.specs.declared.hints.LastBind.{LastBind}
use Rattle.rl_resolver.specs.Inside.{is_function_word}
use Rattle.rl_semantic.specs.Items.{of_item}
use Rattle.rl_syntax.specs.declared.nodes.NodeEntry.{NodeEntry}
use Rattle.rl_syntax.specs.declared.word.Word.{Word}
use Rattle.rl_syntax.specs.declared.word.Word.TheVariants as word

-- The innermost function around the parts of a node, by a table of these. The unit's node where the table has none.
abbrev pub function_at : (functions : List NodeId) → (node : ℕ) → NodeId
function_at functions node = of_item (record { 0 = 0 }) (λ (function : NodeId). function) (slice_get functions node)

-- The innermost function around a node with this parent.
abbrev pub function_around : (functions : List NodeId) → (parent : Option NodeId) → NodeId
function_around functions parent = of_item (record { 0 = 0 }) (λ (p : NodeId). function_at functions p.0) parent

-- The innermost function around the parts of a node: the node itself, if it is a function, or the one around it.
abbrev pub function_inside : (functions : List NodeId) → NodeEntry → NodeId
function_inside functions e = if is_function_word e.word then e.at.id else function_around functions e.parent

-- True of the word of labelled statements.
abbrev pub is_labeled_word : Word → Bool
is_labeled_word word.Labeled = true
is_labeled_word _ = false

-- True of nodes of which one is a labelled statement.
abbrev pub any_labeled : List NodeEntry → Bool
any_labeled nodes = list_any (λ (e : NodeEntry). is_labeled_word e.word) nodes

-- True of the word of function declarations.
abbrev pub is_declaration_word : Word → Bool
is_declaration_word word.Fundecl = true
is_declaration_word _ = false

-- The scope that a function declaration makes. None of any other node.
abbrev pub declared_scope : NodeEntry → Option ScopeId
declared_scope e = if is_declaration_word e.word then Some e.at.scope else None

-- The scope that the parent of a node makes, if that is a function declaration.
abbrev pub parent_scope : List NodeEntry → (parent : Option NodeId) → Option ScopeId
parent_scope nodes parent = of_item None (λ (p : NodeId). of_item None declared_scope (slice_get nodes p.0)) parent

-- The scope of the function declaration whose name a node is. None of any other node.
abbrev pub named_scope : List NodeEntry → (node : ℕ) → Option ScopeId
named_scope nodes node = of_item None (λ (e : NodeEntry). parent_scope nodes e.parent) (slice_get nodes node)

-- True of a node on a path.
abbrev pub is_on_path : (paths : List Bool) → (node : ℕ) → Bool
is_on_path paths node = of_item false (λ (on : Bool). on) (slice_get paths node)

-- True of a declaration that is not behind the last one of its symbol, nor in another function, if that one is on no path.
abbrev pub is_up_to : Hints → (node : ℕ) → LastBind → Bool
is_up_to h node last = nat_le node last.node.0
    && (not (is_on_path h.paths last.node.0) && nat_eq (function_at h.functions node).0 last.function.0)

-- True of a declaration of a symbol that is not behind the last one that the hints know, if there is one.
abbrev pub is_up_to_last : Hints → (node symbol : ℕ) → Bool
is_up_to_last h node symbol = of_item true (is_up_to h node) (slice_get h.lasts symbol)

-- True of a declaration of a symbol that is on a path, or that the hints know.
abbrev pub is_hinted : Hints → (node symbol : ℕ) → Bool
is_hinted h node symbol = is_on_path h.paths node || is_up_to_last h node symbol

-- True of a use before the last declaration of its symbol, in the same function, if that one is on no path.
abbrev pub is_before : Hints → (node : ℕ) → LastBind → Bool
is_before h node last = nat_lt node last.node.0
    && (not (is_on_path h.paths last.node.0) && nat_eq (function_at h.functions node).0 last.function.0)

-- True of a use of a symbol that stands behind all declarations in its function, as far as the hints know them.
abbrev pub is_behind_last : Hints → (node symbol : ℕ) → Bool
is_behind_last h node symbol = of_item false (λ (last : LastBind). not (is_before h node last)) (slice_get h.lasts symbol)

-- True of a node whose parent, if it has one, has a smaller id.
abbrev pub is_inside : (parent : Option NodeId) → (node : ℕ) → Bool
is_inside parent node = of_item true (λ (p : NodeId). nat_lt p.0 node) parent

-- True if the node around a node is on a path, or there is none around it.
abbrev pub is_path_around : (paths : List Bool) → (parent : Option NodeId) → Bool
is_path_around paths parent = of_item true (λ (p : NodeId). is_on_path paths p.0) parent

-- True of a node that is on no path, or to which the path comes from the node around it.
abbrev pub is_closed : (paths : List Bool) → NodeEntry → Bool
is_closed paths e = not (is_on_path paths e.at.id.0) || is_path_around paths e.parent

-- True of a node for which the hints have the right function, and which is on no path, or on one from the node around it.
abbrev pub is_known : Hints → NodeEntry → Bool
is_known h e = is_inside e.parent e.at.id.0
    && (nat_eq (function_at h.functions e.at.id.0).0 (function_inside h.functions e).0 && is_closed h.paths e)
