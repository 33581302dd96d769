-- Expressions that may be evaluated in another place, by what is asked of their parts.
use Rattle.std.specs.Prelude.{ℕ, Bool, true, false, ◌&&◌, ◌||◌, not, if◌then◌else◌, Option, Some, None, List, codes}
use Rattle.std.specs.Str.{bytes_eq}
use Rattle.rl_code.specs.Parts.{both, first, only, second, three}
use Rattle.rl_model.specs.Applied.{Facts}
use Rattle.rl_model.specs.Supported.{are_reorderable, is_module_path, is_reorderable}
use Rattle.rl_row_forms.specs.Shaped.{flag_of_three, fourth, items_in, node_in, said_pair}
use Rattle.rl_row_names.specs.declared.order.Asked.{Asked}
use Rattle.rl_row_names.specs.declared.order.Asked.TheVariants as asked
use Rattle.rl_row_names.specs.declared.order.Order.{Order}
use Rattle.rl_semantic.specs.Items.{of_item}
use Rattle.rl_syntax.specs.Syntax.{Syntax, Listed, Pieces, End, Then}
use Rattle.rl_syntax.specs.declared.word.Word.{Word}
use Rattle.rl_syntax.specs.declared.word.Word.TheVariants as word

abbrev pub order : (first second third others : Asked) → Order
order x y z o = record { first = x; second = y; third = z; others = o }

-- Nothing is asked of any part.
abbrev pub nothing : Order
nothing = order asked.Nothing asked.Nothing asked.Nothing asked.Nothing

abbrev pub first_alone : Order
first_alone = order asked.Itself asked.Nothing asked.Nothing asked.Nothing

-- The demands on the parts behind the first.
abbrev pub next : Order → Order
next o = order o.second o.third o.others o.others

abbrev pub some_if : Bool → Order → Option Order
some_if b o = if b then Some o else None

-- The signs of unary expressions that may move.
abbrev pub is_sign : (operator : List ℕ) → Bool
is_sign operator = bytes_eq operator (codes "!") || bytes_eq operator (codes "+") || bytes_eq operator (codes "-")

abbrev pub second_alone : Order
second_alone = order asked.Nothing asked.Itself asked.Nothing asked.Nothing

abbrev pub unary_order : Pieces → Option Order
unary_order parts = of_item None (λ p. some_if (is_sign p.0) second_alone) (said_pair parts)

abbrev pub logical_order : Pieces → Option Order
logical_order parts = of_item None (λ p. Some (order asked.Nothing asked.Itself asked.Itself asked.Nothing)) (three parts)

abbrev pub cond_order : Pieces → Option Order
cond_order parts = of_item None (λ p. Some (order asked.Itself asked.Itself asked.Itself asked.Nothing)) (three parts)

abbrev pub only_order : Pieces → Option Order
only_order parts = of_item None (λ p. Some first_alone) (only parts)

abbrev pub first_order : Pieces → Option Order
first_order parts = of_item None (λ p. Some first_alone) (first parts)

abbrev pub assert_order : Pieces → Option Order
assert_order parts = of_item None (λ p. Some second_alone) (both parts)

abbrev pub items_asked : Order
items_asked = order asked.Items asked.Nothing asked.Nothing asked.Nothing

abbrev pub items_order : Pieces → Option Order
items_order (Then (Listed items) End) = Some items_asked
items_order _ = None

abbrev pub prop_order : Pieces → Option Order
prop_order parts =
    of_item None (λ computed. some_if (not computed) (order asked.Nothing asked.Nothing asked.Itself asked.Nothing)) (flag_of_three parts)

abbrev pub path_order : Pieces → Option Order
path_order parts = of_item None (λ p. Some (order asked.Nothing asked.Path asked.Nothing asked.Nothing)) (second parts)

-- The body of an arrow function, an expression.
abbrev pub inner_order : Option Order
inner_order = Some (order asked.Nothing asked.Nothing asked.Nothing asked.Inner)

-- The parts of a body without statements.
abbrev pub is_empty_body : Pieces → Bool
is_empty_body (Then directives (Then (Listed End) End)) = true
is_empty_body _ = false

-- The body of an arrow function: an expression, or no statement at all.
abbrev pub body_order : Word → Pieces → Option Order
body_order word.Body parts = some_if (is_empty_body parts) nothing
body_order _ parts = inner_order

abbrev pub arrow_body_order : (body : Syntax) → Option Order
arrow_body_order body = of_item inner_order (λ n. body_order n.1.0 n.1.1) (node_in body)

abbrev pub arrow_order : Pieces → Option Order
arrow_order parts = of_item None arrow_body_order (fourth parts)

abbrev pub call_asked : Order
call_asked = order asked.Nothing asked.Itself asked.Items asked.Nothing

abbrev pub call_order : Pieces → Option Order
call_order (Then optional (Then callee (Then (Listed arguments) End))) = Some call_asked
call_order _ = None

abbrev pub new_asked : Order
new_asked = order asked.Itself asked.Items asked.Nothing asked.Nothing

abbrev pub new_order : Pieces → Option Order
new_order (Then callee (Then (Listed arguments) End)) = Some new_asked
new_order _ = None

-- Demands, if the tree is a list.
abbrev pub if_list : Order → Syntax → Option Order
if_list o tree = of_item None (λ items. Some o) (items_in tree)

abbrev pub id_order : Facts → (locals : Bool) → (reference : ℕ) → Option Order
id_order f locals reference = some_if (f.is_module reference || locals) nothing

-- The demands on the parts of an expression, by its word. None of one that may not move.
abbrev pub order_of : Facts → (locals : Bool) → (reference : ℕ) → Word → Pieces → Option Order
order_of f locals reference word.Null parts = Some nothing
order_of f locals reference word.Bool parts = Some nothing
order_of f locals reference word.Num parts = Some nothing
order_of f locals reference word.Str parts = Some nothing
order_of f locals reference word.Bigint parts = Some nothing
order_of f locals reference word.Regexp parts = Some nothing
order_of f locals reference word.Id parts = id_order f locals reference
order_of f locals reference word.Unary parts = unary_order parts
order_of f locals reference word.Logical parts = logical_order parts
order_of f locals reference word.Cond parts = cond_order parts
order_of f locals reference word.Paren parts = only_order parts
order_of f locals reference word.As parts = first_order parts
order_of f locals reference word.Satisfies parts = first_order parts
order_of f locals reference word.Assert parts = assert_order parts
order_of f locals reference word.Nonnull parts = only_order parts
order_of f locals reference word.Instantiate parts = first_order parts
order_of f locals reference word.Array parts = items_order parts
order_of f locals reference word.Object parts = items_order parts
order_of f locals reference word.Prop parts = prop_order parts
order_of f locals reference word.Member parts = path_order parts
order_of f locals reference word.Index parts = path_order parts
order_of f locals reference word.Privatemember parts = path_order parts
order_of f locals reference word.Arrow parts = arrow_order parts
order_of f locals reference word.Call parts = call_order parts
order_of f locals reference word.New parts = new_order parts
order_of f locals reference _ parts = None

-- The items of a list may move.
abbrev pub items_reorderable : Facts → (locals : Bool) → Syntax → Bool
items_reorderable f locals part = of_item false (are_reorderable f locals) (items_in part)

-- A part does what is asked of it.
abbrev pub part_is_reorderable : Facts → (locals : Bool) → Asked → Syntax → Bool
part_is_reorderable f locals asked.Nothing part = true
part_is_reorderable f locals asked.Itself part = is_reorderable f locals part
part_is_reorderable f locals asked.Inner part = is_reorderable f false part
part_is_reorderable f locals asked.Items part = items_reorderable f locals part
part_is_reorderable f locals asked.Path part = is_module_path f part

abbrev pub parts_are_reorderable : Facts → (locals : Bool) → Order → Pieces → Bool
parts_are_reorderable f locals o End = true
parts_are_reorderable f locals o (Then part parts) =
    part_is_reorderable f locals o.first part && parts_are_reorderable f locals (next o) parts

abbrev pub node_is_reorderable : Facts → (locals : Bool) → (reference : ℕ) → Word → Pieces → Bool
node_is_reorderable f locals reference w parts =
    of_item false (λ o. parts_are_reorderable f locals o parts) (order_of f locals reference w parts)

-- The object of a link.
abbrev pub object_is_module_path : Facts → Pieces → Bool
object_is_module_path f parts = of_item false (is_module_path f) (second parts)

abbrev pub node_is_module_path : Facts → (reference : ℕ) → Word → Pieces → Bool
node_is_module_path f reference word.Id parts = f.is_module reference
node_is_module_path f reference word.Member parts = object_is_module_path f parts
node_is_module_path f reference word.Index parts = object_is_module_path f parts
node_is_module_path f reference word.Privatemember parts = object_is_module_path f parts
node_is_module_path f reference _ parts = false

abbrev pub second_of_two : Pieces → Option Syntax
second_of_two parts = of_item None (λ p. Some p.1) (both parts)

-- The default or the test of a node, by its word.
abbrev pub moved_part : Word → Pieces → Option Syntax
moved_part word.Param parts = second_of_two parts
moved_part word.Defaultpat parts = second_of_two parts
moved_part word.Default parts = second_of_two parts
moved_part word.Short parts = second_of_two parts
moved_part word.Case parts = first parts
moved_part _ parts = None

abbrev pub node_stays : Facts → Word → Pieces → Bool
node_stays f w parts = of_item true (is_reorderable f true) (moved_part w parts)
