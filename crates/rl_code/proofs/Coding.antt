-- The code of a tree, by its form.
use Rattle.std.proofs.Common.{◌≡◌, ℕ, Bool, true, false, if◌then◌else◌, List, [], ◌∷◌, ◌++◌, map, append-nil, ap, sym, refl, ◌∙◌}
use Rattle.rl_code.specs.Codes.{code_below}
use Rattle.rl_code.specs.Parts.{name_of}
use Rattle.rl_code.proofs.Adding.{adds_none, adds_some, adds_both}
use Rattle.rl_model.specs.Code.{code, code_among, first_code, is_function, is_instantiate, is_no_code, name_code}
use Rattle.rl_syntax.specs.Syntax.{Syntax, Node, Flag, Absent, Pieces, End, Then, pieces_of, syntax}
use Rattle.rl_syntax.specs.declared.numbered.At.{At}
use Rattle.rl_syntax.specs.declared.numbered.Numbered.{Numbered}
use Rattle.rl_syntax.specs.declared.numbered.Numbered.TheVariants as numbered
use Rattle.rl_syntax.specs.declared.word.Word.{Word}
use Rattle.rl_syntax.specs.declared.word.Word.TheVariants as word
use Rattle.rl_syntax.proofs.Layers.{syntax_node, syntax_list, syntax_text, syntax_number, syntax_flag, syntax_absent}

pub no_code_coded : (at : At) (w : Word) (parts : List Numbered) (out : List Syntax)
    → is_no_code w (pieces_of (map syntax parts)) ≡ true → out ≡ out ++ code (syntax (numbered.Node at w parts))
no_code_coded at w parts out is = adds_none code out (numbered.Node at w parts) _ (syntax_node at w parts)
    (ap (λ (b : Bool). if b then [] else Node at w (pieces_of (map syntax parts)) ∷ code_below w (pieces_of (map syntax parts))) (sym is))

pub node_coded : (at : At) (w : Word) (parts : List Numbered) (out o1 o2 : List Syntax)
    → is_no_code w (pieces_of (map syntax parts)) ≡ false
    → o1 ≡ out ++ syntax (numbered.Node at w parts) ∷ [] → o2 ≡ o1 ++ code_below w (pieces_of (map syntax parts)) → o2 ≡ out ++ code
    (syntax (numbered.Node at w parts))
node_coded at w parts out o1 o2 not e1 e2 =
    let ps = pieces_of (map syntax parts) in
    adds_some code out o2 (numbered.Node at w parts) _ (syntax_node at w parts)
    (adds_both out o1 o2 (Node at w ps ∷ []) (code_below w ps) (e1 ∙ ap (λ s. out ++ s ∷ []) (syntax_node at w parts)) e2
    ∙ ap (λ (b : Bool). out ++ (if b then [] else Node at w ps ∷ code_below w ps)) (sym not))

pub list_coded : (items : List Numbered) (out new : List Syntax) → new ≡ out ++ code_among (pieces_of (map syntax items))
    → new ≡ out ++ code (syntax (numbered.List items))
list_coded items out new e = adds_some code out new (numbered.List items) _ (syntax_list items) e

pub text_coded : (text : List ℕ) (out : List Syntax) → out ≡ out ++ code (syntax (numbered.Text text))
text_coded text out = adds_none code out (numbered.Text text) _ (syntax_text text) refl

pub number_coded : (number : ℕ) (out : List Syntax) → out ≡ out ++ code (syntax (numbered.Number number))
number_coded number out = adds_none code out (numbered.Number number) _ (syntax_number number) refl

pub flag_coded : (flag : Bool) (out : List Syntax) → out ≡ out ++ code (syntax (numbered.Flag flag))
flag_coded flag out = adds_none code out (numbered.Flag flag) _ (syntax_flag flag) refl

pub absent_coded : (out : List Syntax) → out ≡ out ++ code (syntax numbered.Absent)
absent_coded out = adds_none code out numbered.Absent _ syntax_absent refl

pub ruleset by_form = (no_code_coded, node_coded, list_coded, text_coded, number_coded, flag_coded, absent_coded)

-- The code below a function is that of its name.
pub function_below : (w : Word) (parts : Pieces) (name : Syntax) (out new : List Syntax) → is_function w ≡ true
    → name_of w parts ≡ name ∷ [] → new ≡ out ++ code name → new ≡ out ++ code_below w parts
function_below word.Fundecl (Then marked (Then is_async (Then generator (Then n parts)))) name out new is named e =
    let same : name ≡ n = cc in e ∙ ap (λ s. out ++ code s) same
function_below word.Arrow parts name out new is named e = absurd (cc)
function_below word.Funexpr parts name out new is named e = absurd (cc)
function_below _ parts name out new is named e = absurd (cc)

pub nameless_below : (w : Word) (parts : Pieces) (out : List Syntax) → is_function w ≡ true → name_of w parts ≡ []
    → out ≡ out ++ code_below w parts
nameless_below word.Fundecl (Then marked (Then is_async (Then generator (Then n parts)))) out is none = absurd (cc)
nameless_below word.Fundecl _ out is none = sym (append-nil out)
nameless_below word.Arrow parts out is none = sym (append-nil out)
nameless_below word.Funexpr parts out is none = sym (append-nil out)
nameless_below _ parts out is none = absurd (cc)

pub instantiate_below : (w : Word) (parts rest : Pieces) (first : Syntax) (out new : List Syntax) → is_instantiate w ≡ true
    → parts ≡ Then first rest → new ≡ out ++ code first → new ≡ out ++ code_below w parts
instantiate_below word.Instantiate (Then f ps) rest first out new is split e = let same : first ≡ f = cc in e ∙ ap (λ s. out ++ code s) same
instantiate_below word.Instantiate End rest first out new is split e = absurd (cc)
instantiate_below _ parts rest first out new is split e = absurd (cc)

pub nothing_below : (w : Word) (parts : Pieces) (out : List Syntax) → is_instantiate w ≡ true → parts ≡ End
    → out ≡ out ++ code_below w parts
nothing_below word.Instantiate End out is split = sym (append-nil out)
nothing_below word.Instantiate (Then f ps) out is split = absurd (cc)
nothing_below _ parts out is split = absurd (cc)

pub among_below : (w : Word) (parts : Pieces) (out new : List Syntax) → is_function w ≡ false → is_instantiate w ≡ false
    → new ≡ out ++ code_among parts → new ≡ out ++ code_below w parts
among_below w parts out new no_function no_instantiate e =
    e ∙ ap (λ (b : Bool). out ++ (if b then first_code parts else code_among parts)) (sym no_instantiate)
    ∙ ap (λ (b : Bool). out ++ (if b then name_code w parts else if is_instantiate w then first_code parts else code_among parts))
    (sym no_function)

pub ruleset below = (function_below, nameless_below, instantiate_below, nothing_below, among_below)
