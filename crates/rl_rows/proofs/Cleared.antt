-- The rows in a tree, by its form.
use Rattle.std.proofs.Common.{◌≡◌, ℕ, Bool, true, false, ◌&&◌, if◌then◌else◌, Some, None, List, [], ◌++◌, map, ap, sym, ◌∙◌}
use Rattle.rl_code.specs.Parts.{parts_of_function}
use Rattle.rl_code.proofs.FunctionParts.{parts_are, no_parts}
use Rattle.rl_model.specs.Applied as model
use Rattle.rl_model.specs.Applied.{Facts, of_node, of_place, rows_below, rows_in, rows_of_no_code}
use Rattle.rl_model.specs.Code.{is_no_code}
use Rattle.rl_model.specs.Supported.{is_none}
use Rattle.rl_names.specs.Functions.{body_in, params_in}
use Rattle.rl_row_forms.specs.Aboves.{seen}
use Rattle.rl_row_forms.specs.declared.above.Above.{Above}
use Rattle.rl_row_forms.proofs.Nones.{both_none, three_none}
use Rattle.rl_row_names.specs.Bodiless.{clear_no_code}
use Rattle.rl_row_names.proofs.SameBodiless.{no_code_same}
use Rattle.rl_rows.specs.Clear.{clear_among, clear_below, clear_inside, clear_node}
use Rattle.rl_rows.proofs.SameNode.{itself_same, place_same}
use Rattle.rl_rows.proofs.SameParts.{among_same, below_same}
use Rattle.rl_syntax.specs.Syntax.{Syntax, Node, Pieces, pieces_of, syntax}
use Rattle.rl_syntax.specs.declared.numbered.At.{At}
use Rattle.rl_syntax.specs.declared.numbered.Numbered.{Numbered}
use Rattle.rl_syntax.specs.declared.numbered.Numbered.TheVariants as numbered
use Rattle.rl_syntax.specs.declared.word.Word.{Word}
use Rattle.rl_syntax.proofs.Layers.{syntax_node, syntax_list}

inside_by : (b x y : Bool) (xs ys : List model.Which) → x ≡ is_none xs → y ≡ is_none ys
    → (if b then x else y) ≡ is_none (if b then xs else ys)
inside_by true x y xs ys ex ey = ex
inside_by false x y xs ys ex ey = ey

inside_same : (f : Facts) (a : Above) (labels : List (List ℕ × Bool)) (w : Word) (parts : Pieces)
    → clear_inside f a labels w parts
    ≡ is_none (if is_no_code w parts then rows_of_no_code f w parts else rows_below f (seen a labels) w parts)
inside_same f a labels w parts =
    inside_by (is_no_code w parts) (clear_no_code f w parts) (clear_below f a labels w parts) (rows_of_no_code f w parts)
    (rows_below f (seen a labels) w parts) (no_code_same f w parts) (below_same f a labels w parts)

node_same : (f : Facts) (a : Above) (labels : List (List ℕ × Bool)) (at : At) (w : Word) (parts : Pieces)
    → clear_node f a labels at w parts ≡ is_none (rows_in f (seen a labels) (Node at w parts))
node_same f a labels at w parts =
    (λ i. itself_same f a labels at w parts i && (place_same f a labels at w parts i && inside_same f a labels w parts i))
    ∙ three_none (of_node f (seen a labels) (Node at w parts)) (of_place f (seen a labels) at w parts)
    (if is_no_code w parts then rows_of_no_code f w parts else rows_below f (seen a labels) w parts)

pub node_cleared : (f : Facts) (a : Above) (labels : List (List ℕ × Bool)) (at : At) (w : Word) (parts : List Numbered) (r : Bool)
    → r ≡ clear_node f a labels at w (pieces_of (map syntax parts))
    → r ≡ is_none (rows_in f (seen a labels) (syntax (numbered.Node at w parts)))
node_cleared f a labels at w parts r e =
    e ∙ node_same f a labels at w (pieces_of (map syntax parts))
    ∙ ap (λ s. is_none (rows_in f (seen a labels) s)) (sym (syntax_node at w parts))

pub list_cleared : (f : Facts) (a : model.Above) (items : List Numbered) (r : Bool)
    → r ≡ clear_among f a (pieces_of (map syntax items)) → r ≡ is_none (rows_in f a (syntax (numbered.List items)))
list_cleared f a items r e =
    e ∙ among_same f a (pieces_of (map syntax items)) ∙ ap (λ s. is_none (rows_in f a s)) (sym (syntax_list items))

pub ruleset by_form = (node_cleared, list_cleared)

pub function_some : (f : Facts) (marked params body : Syntax) (r : Bool) → Some (params, body) ≡ parts_of_function marked
    → r ≡ (is_none (rows_in f model.top params) && is_none (rows_in f model.top body))
    → r ≡ is_none (rows_in f model.top (params_in marked) ++ rows_in f model.top (body_in marked))
function_some f marked params body r is e =
    let both = parts_are marked params body is in
    e ∙ both_none (rows_in f model.top params) (rows_in f model.top body)
    ∙ ap (λ s. is_none (rows_in f model.top s ++ rows_in f model.top body)) (sym both.0)
    ∙ ap (λ s. is_none (rows_in f model.top (params_in marked) ++ rows_in f model.top s)) (sym both.1)

pub function_none : (f : Facts) (marked : Syntax) → None ≡ parts_of_function marked
    → true ≡ is_none (rows_in f model.top (params_in marked) ++ rows_in f model.top (body_in marked))
function_none f marked none =
    let both = no_parts marked none in
    ap (λ s. is_none (rows_in f model.top s ++ [])) (sym both.0)
    ∙ ap (λ s. is_none (rows_in f model.top (params_in marked) ++ rows_in f model.top s)) (sym both.1)
