-- Expressions that may be evaluated in another place, by the demands on their parts.
use Rattle.std.proofs.Common.{◌≡◌, Bool, true, false, ◌&&◌, ◌||◌, not, List, map, ap, sym, refl, ◌∙◌}
use Rattle.rl_model.specs.Applied.{Facts}
use Rattle.rl_model.specs.Supported.{are_reorderable, is_module_path, is_reorderable, stays}
use Rattle.rl_row_forms.proofs.Nones.{and_last}
use Rattle.rl_row_names.specs.Orders.{is_sign, items_reorderable, node_is_module_path, node_is_reorderable, node_stays}
use Rattle.rl_row_names.specs.Orders.{nothing, order, parts_are_reorderable, second_alone, some_if}
use Rattle.rl_row_names.specs.declared.order.Asked.TheVariants as asked
use Rattle.rl_semantic.specs.Items.{of_item}
use Rattle.rl_syntax.specs.Syntax.{Syntax, Node, Listed, Said, Flag, Pieces, End, Then, pieces_of, syntax}
use Rattle.rl_syntax.specs.declared.numbered.At.{At}
use Rattle.rl_syntax.specs.declared.numbered.Numbered.{Numbered}
use Rattle.rl_syntax.specs.declared.numbered.Numbered.TheVariants as numbered
use Rattle.rl_syntax.specs.declared.word.Word.{Word}
use Rattle.rl_syntax.specs.declared.word.Word.TheVariants as word
use Rattle.rl_syntax.proofs.Layers.{syntax_node, syntax_list}

and_three : (x y z : Bool) → (x && (y && (z && true))) ≡ (x && y && z)
and_three true y z = ap (λ b. y && b) (and_last z)
and_three false y z = refl

and_pair : (x y : Bool) → (x && (y && true)) ≡ (x && y)
and_pair x y = ap (λ b. x && b) (and_last y)

nothing_asked : (f : Facts) (locals : Bool) (parts : Pieces) → parts_are_reorderable f locals nothing parts ≡ true
nothing_asked f locals End = refl
nothing_asked f locals (Then part parts) = nothing_asked f locals parts

-- A part, and nothing asked of those behind it.
first_asked : (f : Facts) (locals b : Bool) (parts : Pieces) → (b && parts_are_reorderable f locals nothing parts) ≡ b
first_asked f locals b parts = ap (λ c. b && c) (nothing_asked f locals parts) ∙ and_last b

id_asked : (f : Facts) (locals b : Bool) (parts : Pieces)
    → of_item false (λ o. parts_are_reorderable f locals o parts) (some_if b nothing) ≡ b
id_asked f locals true parts = nothing_asked f locals parts
id_asked f locals false parts = refl

unary_asked : (f : Facts) (locals b : Bool) (operator argument : Syntax)
    → of_item false (λ o. parts_are_reorderable f locals o (Then operator (Then argument End))) (some_if b second_alone)
    ≡ (b && is_reorderable f locals argument)
unary_asked f locals true operator argument = and_last (is_reorderable f locals argument)
unary_asked f locals false operator argument = refl

prop_asked : (f : Facts) (locals computed : Bool) (flag key value : Syntax)
    → of_item false (λ o. parts_are_reorderable f locals o (Then flag (Then key (Then value End))))
    (some_if (not computed) (order asked.Nothing asked.Nothing asked.Itself asked.Nothing))
    ≡ (not computed && is_reorderable f locals value)
prop_asked f locals true flag key value = refl
prop_asked f locals false flag key value = and_last (is_reorderable f locals value)

order_node : (f : Facts) (locals : Bool) (at : At) (w : Word) (parts : Pieces)
    → node_is_reorderable f locals at.reference.0 w parts ≡ is_reorderable f locals (Node at w parts)
order_node f locals at word.Null parts = nothing_asked f locals parts
order_node f locals at word.Bool parts = nothing_asked f locals parts
order_node f locals at word.Num parts = nothing_asked f locals parts
order_node f locals at word.Str parts = nothing_asked f locals parts
order_node f locals at word.Bigint parts = nothing_asked f locals parts
order_node f locals at word.Regexp parts = nothing_asked f locals parts
order_node f locals at word.Id parts = id_asked f locals (f.is_module at.reference.0 || locals) parts
order_node f locals at word.Unary (Then (Said operator) (Then argument End)) =
    unary_asked f locals (is_sign operator) (Said operator) argument
order_node f locals at word.Logical (Then operator (Then left (Then right End))) =
    and_pair (is_reorderable f locals left) (is_reorderable f locals right)
order_node f locals at word.Cond (Then condition (Then consequent (Then alternate End))) =
    and_three (is_reorderable f locals condition) (is_reorderable f locals consequent) (is_reorderable f locals alternate)
order_node f locals at word.Paren (Then expression End) = and_last (is_reorderable f locals expression)
order_node f locals at word.As (Then expression parts) = first_asked f locals (is_reorderable f locals expression) parts
order_node f locals at word.Satisfies (Then expression parts) = first_asked f locals (is_reorderable f locals expression) parts
order_node f locals at word.Assert (Then type (Then expression End)) = and_last (is_reorderable f locals expression)
order_node f locals at word.Nonnull (Then expression End) = and_last (is_reorderable f locals expression)
order_node f locals at word.Instantiate (Then expression parts) = first_asked f locals (is_reorderable f locals expression) parts
order_node f locals at word.Array (Then (Listed items) End) = and_last (are_reorderable f locals items)
order_node f locals at word.Object (Then (Listed properties) End) = and_last (are_reorderable f locals properties)
order_node f locals at word.Prop (Then (Flag computed) (Then key (Then expression End))) =
    prop_asked f locals computed (Flag computed) key expression
order_node f locals at word.Member (Then optional (Then object parts)) = first_asked f locals (is_module_path f object) parts
order_node f locals at word.Index (Then optional (Then object parts)) = first_asked f locals (is_module_path f object) parts
order_node f locals at word.Privatemember (Then optional (Then object parts)) = first_asked f locals (is_module_path f object) parts
order_node f locals at word.Arrow
    (Then marked (Then is_async (Then params (Then (Node there word.Body (Then directives (Then (Listed End) End))) End)))) = refl
order_node f locals at word.Arrow (Then marked (Then is_async (Then params (Then (Node there word.Body parts) End)))) = refl
order_node f locals at word.Arrow (Then marked (Then is_async (Then params (Then body End)))) = and_last (is_reorderable f false body)
order_node f locals at word.Call (Then optional (Then callee (Then (Listed arguments) End))) =
    and_pair (is_reorderable f locals callee) (are_reorderable f locals arguments)
order_node f locals at word.New (Then callee (Then (Listed arguments) End)) =
    and_pair (is_reorderable f locals callee) (are_reorderable f locals arguments)
order_node f locals at _ parts = refl

pub order_tree : (f : Facts) (locals : Bool) (at : At) (w : Word) (parts : List Numbered) (r : Bool)
    → r ≡ node_is_reorderable f locals at.reference.0 w (pieces_of (map syntax parts))
    → r ≡ is_reorderable f locals (syntax (numbered.Node at w parts))
order_tree f locals at w parts r e =
    e ∙ order_node f locals at w (pieces_of (map syntax parts)) ∙ ap (is_reorderable f locals) (sym (syntax_node at w parts))

pub ruleset order_form = (order_tree)

pub items_tree : (f : Facts) (locals : Bool) (items : List Numbered) (r : Bool)
    → r ≡ are_reorderable f locals (pieces_of (map syntax items)) → r ≡ items_reorderable f locals (syntax (numbered.List items))
items_tree f locals items r e = e ∙ ap (items_reorderable f locals) (sym (syntax_list items))

pub ruleset items_form = (items_tree)

path_node : (f : Facts) (at : At) (w : Word) (parts : Pieces)
    → node_is_module_path f at.reference.0 w parts ≡ is_module_path f (Node at w parts)
path_node f at word.Id parts = refl
path_node f at word.Member (Then optional (Then object parts)) = refl
path_node f at word.Member _ = refl
path_node f at word.Index (Then optional (Then object parts)) = refl
path_node f at word.Index _ = refl
path_node f at word.Privatemember (Then optional (Then object parts)) = refl
path_node f at word.Privatemember _ = refl
path_node f at _ parts = refl

pub path_tree : (f : Facts) (at : At) (w : Word) (parts : List Numbered) (r : Bool)
    → r ≡ node_is_module_path f at.reference.0 w (pieces_of (map syntax parts)) → r ≡ is_module_path f (syntax (numbered.Node at w parts))
path_tree f at w parts r e =
    e ∙ path_node f at w (pieces_of (map syntax parts)) ∙ ap (is_module_path f) (sym (syntax_node at w parts))

pub ruleset path_form = (path_tree)

stay_node : (f : Facts) (at : At) (w : Word) (parts : Pieces) → node_stays f w parts ≡ stays f (Node at w parts)
stay_node f at word.Param (Then pattern (Then default End)) = refl
stay_node f at word.Param _ = refl
stay_node f at word.Defaultpat (Then pattern (Then default End)) = refl
stay_node f at word.Defaultpat _ = refl
stay_node f at word.Default (Then target (Then default End)) = refl
stay_node f at word.Default _ = refl
stay_node f at word.Short (Then name (Then default End)) = refl
stay_node f at word.Short _ = refl
stay_node f at word.Case (Then condition parts) = refl
stay_node f at word.Case End = refl
stay_node f at _ parts = refl

pub stay_tree : (f : Facts) (at : At) (w : Word) (parts : List Numbered) (r : Bool) → r ≡ node_stays f w (pieces_of (map syntax parts))
    → r ≡ stays f (syntax (numbered.Node at w parts))
stay_tree f at w parts r e = e ∙ stay_node f at w (pieces_of (map syntax parts)) ∙ ap (stays f) (sym (syntax_node at w parts))

pub ruleset stay_form = (stay_tree)
