-- The lowered functions of a tree, by its form.
use Rattle.std.proofs.Common.{◌≡◌, ℕ, Bool, true, false, if◌then◌else◌, List, [], ◌++◌, Some, None, map}
use Rattle.std.proofs.Common.{append-nil, ap, sym, refl, ◌∙◌}
use Rattle.rl_code.specs.Codes.{itself, lowered_below}
use Rattle.rl_code.specs.Parts.{parts_of_function}
use Rattle.rl_code.proofs.Adding.{adds_none, adds_some, adds_both}
use Rattle.rl_code.proofs.FunctionParts.{parts_are, no_parts}
use Rattle.rl_model.specs.Code.{first_lowered, inner_functions, is_instantiate, is_no_code, lowered_among, lowered_in}
use Rattle.rl_names.specs.Functions.{params_in}
use Rattle.rl_syntax.specs.Syntax.{Syntax, Node, Flag, Absent, Pieces, End, Then, pieces_of, syntax}
use Rattle.rl_syntax.specs.declared.numbered.At.{At}
use Rattle.rl_syntax.specs.declared.numbered.Numbered.{Numbered}
use Rattle.rl_syntax.specs.declared.numbered.Numbered.TheVariants as numbered
use Rattle.rl_syntax.specs.declared.word.Word.{Word}
use Rattle.rl_syntax.specs.declared.word.Word.TheVariants as word
use Rattle.rl_syntax.proofs.Layers.{syntax_node, syntax_list, syntax_text, syntax_number, syntax_flag, syntax_absent}

pub no_code_lowered : (at : At) (w : Word) (parts : List Numbered) (out : List Syntax)
    → is_no_code w (pieces_of (map syntax parts)) ≡ true → out ≡ out ++ lowered_in (syntax (numbered.Node at w parts))
no_code_lowered at w parts out is =
    let ps = pieces_of (map syntax parts) in
    adds_none lowered_in out (numbered.Node at w parts) _ (syntax_node at w parts)
    (ap (λ (b : Bool). if b then [] else itself w (Node at w ps) ++ lowered_below w ps) (sym is))

pub node_lowered : (at : At) (w : Word) (parts : List Numbered) (out o1 o2 : List Syntax)
    → is_no_code w (pieces_of (map syntax parts)) ≡ false
    → o1 ≡ out ++ itself w (syntax (numbered.Node at w parts)) → o2 ≡ o1 ++ lowered_below w (pieces_of (map syntax parts)) → o2
    ≡ out ++ lowered_in (syntax (numbered.Node at w parts))
node_lowered at w parts out o1 o2 not e1 e2 =
    let ps = pieces_of (map syntax parts) in
    adds_some lowered_in out o2 (numbered.Node at w parts) _ (syntax_node at w parts)
    (adds_both out o1 o2 (itself w (Node at w ps)) (lowered_below w ps) (e1 ∙ ap (λ s. out ++ itself w s) (syntax_node at w parts)) e2
    ∙ ap (λ (b : Bool). out ++ (if b then [] else itself w (Node at w ps) ++ lowered_below w ps)) (sym not))

pub list_lowered : (items : List Numbered) (out new : List Syntax) → new ≡ out ++ lowered_among (pieces_of (map syntax items))
    → new ≡ out ++ lowered_in (syntax (numbered.List items))
list_lowered items out new e = adds_some lowered_in out new (numbered.List items) _ (syntax_list items) e

pub text_lowered : (text : List ℕ) (out : List Syntax) → out ≡ out ++ lowered_in (syntax (numbered.Text text))
text_lowered text out = adds_none lowered_in out (numbered.Text text) _ (syntax_text text) refl

pub number_lowered : (number : ℕ) (out : List Syntax) → out ≡ out ++ lowered_in (syntax (numbered.Number number))
number_lowered number out = adds_none lowered_in out (numbered.Number number) _ (syntax_number number) refl

pub flag_lowered : (flag : Bool) (out : List Syntax) → out ≡ out ++ lowered_in (syntax (numbered.Flag flag))
flag_lowered flag out = adds_none lowered_in out (numbered.Flag flag) _ (syntax_flag flag) refl

pub absent_lowered : (out : List Syntax) → out ≡ out ++ lowered_in (syntax numbered.Absent)
absent_lowered out = adds_none lowered_in out numbered.Absent _ syntax_absent refl

pub ruleset by_form = (no_code_lowered, node_lowered, list_lowered, text_lowered, number_lowered, flag_lowered, absent_lowered)

pub instantiate_below : (w : Word) (parts rest : Pieces) (first : Syntax) (out new : List Syntax) → is_instantiate w ≡ true
    → parts ≡ Then first rest → new ≡ out ++ lowered_in first → new ≡ out ++ lowered_below w parts
instantiate_below word.Instantiate (Then f ps) rest first out new is split e =
    let same : first ≡ f = cc in e ∙ ap (λ s. out ++ lowered_in s) same
instantiate_below word.Instantiate End rest first out new is split e = absurd (cc)
instantiate_below _ parts rest first out new is split e = absurd (cc)

pub nothing_below : (w : Word) (parts : Pieces) (out : List Syntax) → is_instantiate w ≡ true → parts ≡ End
    → out ≡ out ++ lowered_below w parts
nothing_below word.Instantiate End out is split = sym (append-nil out)
nothing_below word.Instantiate (Then f ps) out is split = absurd (cc)
nothing_below _ parts out is split = absurd (cc)

pub among_below : (w : Word) (parts : Pieces) (out new : List Syntax) → is_instantiate w ≡ false → new ≡ out ++ lowered_among parts
    → new ≡ out ++ lowered_below w parts
among_below w parts out new not e = e ∙ ap (λ (b : Bool). out ++ (if b then first_lowered parts else lowered_among parts)) (sym not)

pub ruleset below = (instantiate_below, nothing_below, among_below)

pub inner_some : (f params body : Syntax) (out o1 o2 : List Syntax) → Some (params, body) ≡ parts_of_function f
    → o1 ≡ out ++ lowered_in params → o2 ≡ o1 ++ lowered_in body → o2 ≡ out ++ inner_functions f
inner_some f params body out o1 o2 is e1 e2 =
    let both = parts_are f params body is in
    adds_both out o1 o2 (lowered_in params) (lowered_in body) e1 e2
    ∙ ap (λ s. out ++ (lowered_in s ++ lowered_in body)) (sym both.0)
    ∙ ap (λ s. out ++ (lowered_in (params_in f) ++ lowered_in s)) (sym both.1)

pub inner_none : (f : Syntax) (out : List Syntax) → None ≡ parts_of_function f → out ≡ out ++ inner_functions f
inner_none f out none =
    let both = no_parts f none in
    sym (append-nil out)
    ∙ ap (λ s. out ++ (lowered_in s ++ [])) (sym both.0)
    ∙ ap (λ s. out ++ (lowered_in (params_in f) ++ lowered_in s)) (sym both.1)

pub ruleset inner = (inner_some, inner_none)
