-- Roles of nodes in the rules on names: all that these know of the grammar.
use Rattle.std.specs.Prelude.{ℕ, Bool, true, false, not, ◌||◌, if◌then◌else◌, nat_eq, codes}
use Rattle.std.specs.Str.{bytes_eq}
use Rattle.rl_base.specs.declared.ids.NodeId.{NodeId}
use Rattle.rl_lint.specs.declared.role.Above.{Above}
use Rattle.rl_lint.specs.declared.role.Place.{Place}
use Rattle.rl_lint.specs.declared.role.Place.TheVariants as place
use Rattle.rl_lint.specs.declared.role.Role.{Role}
use Rattle.rl_lint.specs.declared.role.Role.TheVariants as role
use Rattle.rl_semantic.specs.Imports.{first_text}
use Rattle.rl_semantic.specs.Items.{of_item}
use Rattle.rl_syntax.specs.Forms.{is_absent}
use Rattle.rl_syntax.specs.Syntax.{Node, Pieces, Then}
use Rattle.rl_syntax.specs.declared.numbered.At.{At}
use Rattle.rl_syntax.specs.declared.word.Word.{Word}
use Rattle.rl_syntax.specs.declared.word.Word.TheVariants as word

-- True of the parts of a function declaration with a body, which is the sixth.
abbrev pub has_body : Pieces → Bool
has_body (Then marked (Then is_async (Then generator (Then name (Then params (Then body parts)))))) = not (is_absent body)
has_body _ = false

-- True of the parts of a declaration of variables of the kind `var`, which is the first.
abbrev pub is_var : Pieces → Bool
is_var parts = of_item false (λ kind. bytes_eq kind (codes "var")) (first_text parts)

abbrev pub function_role : (with_body : Bool) → Role
function_role with_body = if with_body then role.Declared else role.Function

abbrev pub variables_role : (of_var : Bool) → Role
variables_role of_var = if of_var then role.Plain else role.Variables

-- The role of a node.
abbrev pub role_of : Word → Pieces → Role
role_of word.Id parts = role.Use
role_of word.Bind parts = role.Bind
role_of word.Arrow parts = role.Function
role_of word.Funexpr parts = role.Function
role_of word.Fundecl parts = function_role (has_body parts)
role_of word.Var parts = variables_role (is_var parts)
role_of word.Classdecl parts = role.Class
role_of word.Arraypat parts = role.Pattern
role_of word.Objectpat parts = role.Pattern
role_of word.Rest parts = role.Pattern
role_of word.Declarator parts = role.First
role_of word.Defaultpat parts = role.First
role_of word.Keyedpat parts = role.Third
role_of word.Type parts = role.Hidden
role_of word.Instantiate parts = role.Arguments
role_of _ parts = role.Plain

-- True in the part at an index of a node that is a type, or holds type arguments.
abbrev pub type_below : (in_type : Bool) → Role → (index : ℕ) → Bool
type_below in_type role.Hidden index = true
type_below in_type role.Arguments index = in_type || nat_eq index 1
type_below in_type _ index = in_type

-- The innermost function around the parts of a node.
abbrev pub function_below : (function : NodeId) → At → Role → NodeId
function_below function at role.Function = at.id
function_below function at role.Declared = at.id
function_below function at _ = function

-- The place of a declaration's patterns, if it stands directly in a list.
abbrev pub declaring : Place → At → Place
declaring (place.Listed first) at = place.Late first at.id
declaring _ at = place.Elsewhere

-- The place of a pattern's parts that are patterns too.
abbrev pub kept : Place → Place
kept (place.Late first statement) = place.Late first statement
kept _ = place.Elsewhere

-- `p` at the index `wanted`, and no place at any other.
abbrev pub only_at : (p : Place) → (wanted index : ℕ) → Place
only_at p wanted index = if nat_eq index wanted then p else place.Elsewhere

-- The place of the part at an index of a node: declarations hand theirs on to the names that they bind, through patterns; initializers,
-- defaults and keys have none.
abbrev pub place_below : Place → At → Role → (index : ℕ) → Place
place_below p at role.Variables index = declaring p at
place_below p at role.Class index = only_at (declaring p at) 0 index
place_below p at role.Pattern index = kept p
place_below p at role.First index = only_at (kept p) 0 index
place_below p at role.Third index = only_at (kept p) 2 index
place_below p at role.Declared index = only_at (place.Name at.scope) 3 index
place_below p at _ index = place.Elsewhere

-- The summary for the part at an index of a node.
abbrev pub below : Above → At → Role → (index : ℕ) → Above
below a at r index = record {
  in_type = type_below a.in_type r index;
  function = function_below a.function at r;
  place = place_below a.place at r index;
}

-- The id of the first of some trees, if it is a node; 0 if it is none.
abbrev pub first_id : Pieces → NodeId
first_id (Then (Node at w parts) items) = at.id
first_id _ = record { 0 = 0 }

-- The place of the items of a list: the lists of a pattern hand on the place of the pattern.
abbrev pub item_place : Place → (items : Pieces) → Place
item_place (place.Late first statement) items = place.Late first statement
item_place _ items = place.Listed (first_id items)

-- The summary for the items of a list.
abbrev pub listed : Above → (items : Pieces) → Above
listed a items = record { in_type = a.in_type; function = a.function; place = item_place a.place items }

-- Nothing stands above a unit, whose node has the id 0.
abbrev pub top : Above
top = record { in_type = false; function = record { 0 = 0 }; place = place.Elsewhere }
