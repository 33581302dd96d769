-- The uses of names in a tree, by its form and by its word.
use Rattle.std.proofs.Common.{◌≡◌, ℕ, Bool, true, false, ◌||◌, if◌then◌else◌, List, [], ◌∷◌, ◌++◌, map, append-nil, ap, sym, refl, ◌∙◌}
use Rattle.rl_code.proofs.Adding.{adds_none, adds_some}
use Rattle.rl_context.specs.Roles.{makes_function}
use Rattle.rl_markers.specs.Uses.{is_class, is_id, is_opening, uses_as, uses_behind}
use Rattle.rl_model.specs.Hoisting.{Use, use_at, uses_among, uses_in}
use Rattle.rl_syntax.specs.Syntax.{Syntax, Node, Pieces, End, Then, pieces_of, syntax}
use Rattle.rl_syntax.specs.declared.numbered.At.{At}
use Rattle.rl_syntax.specs.declared.numbered.Numbered.{Numbered}
use Rattle.rl_syntax.specs.declared.numbered.Numbered.TheVariants as numbered
use Rattle.rl_syntax.specs.declared.word.Word.{Word}
use Rattle.rl_syntax.specs.declared.word.Word.TheVariants as word
use Rattle.rl_syntax.proofs.Layers.{syntax_node, syntax_list, syntax_text, syntax_number, syntax_flag, syntax_absent}

uses_node : (inner : Bool) (at : At) (w : Word) (parts : Pieces) → uses_as inner at w parts ≡ uses_in inner (Node at w parts)
uses_node inner at word.Id parts = refl
uses_node inner at word.Opening (Then tag parts) = refl
uses_node inner at word.Opening End = refl
uses_node inner at word.Classdecl parts = refl
uses_node inner at word.Classexpr parts = refl
uses_node inner at _ parts = refl

pub node_used : (inner : Bool) (at : At) (w : Word) (parts : List Numbered) (out new : List Use)
    → new ≡ out ++ uses_as inner at w (pieces_of (map syntax parts)) → new ≡ out ++ uses_in inner (syntax (numbered.Node at w parts))
node_used inner at w parts out new e =
    adds_some (uses_in inner) out new (numbered.Node at w parts) _ (syntax_node at w parts)
    (e ∙ ap (λ l. out ++ l) (uses_node inner at w (pieces_of (map syntax parts))))

pub list_used : (inner : Bool) (items : List Numbered) (out new : List Use) → new ≡ out ++ uses_among inner (pieces_of (map syntax items))
    → new ≡ out ++ uses_in inner (syntax (numbered.List items))
list_used inner items out new e = adds_some (uses_in inner) out new (numbered.List items) _ (syntax_list items) e

pub text_used : (inner : Bool) (text : List ℕ) (out : List Use) → out ≡ out ++ uses_in inner (syntax (numbered.Text text))
text_used inner text out = adds_none (uses_in inner) out (numbered.Text text) _ (syntax_text text) refl

pub number_used : (inner : Bool) (number : ℕ) (out : List Use) → out ≡ out ++ uses_in inner (syntax (numbered.Number number))
number_used inner number out = adds_none (uses_in inner) out (numbered.Number number) _ (syntax_number number) refl

pub flag_used : (inner flag : Bool) (out : List Use) → out ≡ out ++ uses_in inner (syntax (numbered.Flag flag))
flag_used inner flag out = adds_none (uses_in inner) out (numbered.Flag flag) _ (syntax_flag flag) refl

pub absent_used : (inner : Bool) (out : List Use) → out ≡ out ++ uses_in inner (syntax numbered.Absent)
absent_used inner out = adds_none (uses_in inner) out numbered.Absent _ syntax_absent refl

pub ruleset by_form = (node_used, list_used, text_used, number_used, flag_used, absent_used)

-- By the word: of a name, a class, an opening tag, and of any other node.
pub id_used : (inner : Bool) (at : At) (w : Word) (parts : Pieces) (out new : List Use) → is_id w ≡ true
    → new ≡ out ++ use_at at inner ∷ [] → new ≡ out ++ uses_as inner at w parts
id_used inner at w parts out new is e =
    e ∙ ap (λ (b : Bool). out ++ (if b then use_at at inner ∷ []
    else if is_class w then [] else if is_opening w then uses_behind inner parts else uses_among (inner || makes_function w) parts)) (sym is)

other_used : (inner : Bool) (at : At) (w : Word) (parts : Pieces) (out new : List Use) → is_id w ≡ false
    → new ≡ out ++ (if is_class w then [] else if is_opening w then uses_behind inner parts else uses_among (inner || makes_function w) parts)
    → new ≡ out ++ uses_as inner at w parts
other_used inner at w parts out new not e =
    e ∙ ap (λ (b : Bool). out ++ (if b then use_at at inner ∷ []
    else if is_class w then [] else if is_opening w then uses_behind inner parts else uses_among (inner || makes_function w) parts)) (sym not)

pub class_used : (inner : Bool) (at : At) (w : Word) (parts : Pieces) (out : List Use) → is_id w ≡ false → is_class w ≡ true
    → out ≡ out ++ uses_as inner at w parts
class_used inner at w parts out not is =
    other_used inner at w parts out out not (sym (append-nil out) ∙ ap
    (λ (b : Bool). out ++ (if b then [] else if is_opening w then uses_behind inner parts else uses_among (inner || makes_function w) parts))
    (sym is))

open_used : (inner : Bool) (at : At) (w : Word) (parts : Pieces) (out new : List Use) → is_id w ≡ false → is_class w ≡ false
    → new ≡ out ++ (if is_opening w then uses_behind inner parts else uses_among (inner || makes_function w) parts)
    → new ≡ out ++ uses_as inner at w parts
open_used inner at w parts out new no_id no_class e =
    other_used inner at w parts out new no_id (e ∙ ap
    (λ (b : Bool). out ++ (if b then [] else if is_opening w then uses_behind inner parts else uses_among (inner || makes_function w) parts))
    (sym no_class))

pub tag_used : (inner : Bool) (at : At) (w : Word) (parts rest : Pieces) (tag : Syntax) (out new : List Use) → is_id w ≡ false
    → is_class w ≡ false → is_opening w ≡ true → parts ≡ Then tag rest → new ≡ out ++ uses_among inner rest
    → new ≡ out ++ uses_as inner at w parts
tag_used inner at w parts rest tag out new no_id no_class is split e =
    open_used inner at w parts out new no_id no_class
    (e ∙ ap (λ ps. out ++ uses_behind inner ps) (sym split)
    ∙ ap (λ (b : Bool). out ++ (if b then uses_behind inner parts else uses_among (inner || makes_function w) parts)) (sym is))

pub no_tag_used : (inner : Bool) (at : At) (w : Word) (parts : Pieces) (out : List Use) → is_id w ≡ false → is_class w ≡ false
    → is_opening w ≡ true → parts ≡ End → out ≡ out ++ uses_as inner at w parts
no_tag_used inner at w parts out no_id no_class is none =
    open_used inner at w parts out out no_id no_class
    (sym (append-nil out) ∙ ap (λ ps. out ++ uses_behind inner ps) (sym none)
    ∙ ap (λ (b : Bool). out ++ (if b then uses_behind inner parts else uses_among (inner || makes_function w) parts)) (sym is))

pub among_used : (inner : Bool) (at : At) (w : Word) (parts : Pieces) (out new : List Use) → is_id w ≡ false → is_class w ≡ false
    → is_opening w ≡ false → new ≡ out ++ uses_among (inner || makes_function w) parts → new ≡ out ++ uses_as inner at w parts
among_used inner at w parts out new no_id no_class not e =
    open_used inner at w parts out new no_id no_class
    (e ∙ ap (λ (b : Bool). out ++ (if b then uses_behind inner parts else uses_among (inner || makes_function w) parts)) (sym not))

pub ruleset by_word = (id_used, class_used, tag_used, no_tag_used, among_used)
