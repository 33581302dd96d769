-- The texts that keep their spaces, by the form of a tree.
use Rattle.std.proofs.Common.{◌≡◌, ℕ, Bool, true, false, ◌||◌, if◌then◌else◌, List, [], ◌∷◌, ◌++◌, Some, None, map}
use Rattle.std.proofs.Common.{append-nil, ap, sym, refl, ◌∙◌}
use Rattle.rl_base.specs.declared.ids.NodeId.{NodeId}
use Rattle.rl_code.specs.Parts.{parts_of_function}
use Rattle.rl_code.proofs.Adding.{adds_none, adds_some, adds_both}
use Rattle.rl_code.proofs.FunctionParts.{parts_are, no_parts}
use Rattle.rl_model.specs.Code.{is_function}
use Rattle.rl_model.specs.JsxText.{is_fbt_tag, kept_texts, kept_texts_among, texts_kept_by}
use Rattle.rl_names.specs.Functions.{params_in}
use Rattle.rl_source_scene.proofs.ElementParts.{element_is, opened}
use Rattle.rl_source_scene.specs.Elements.{Element, element_parts, is_text, opening_parts}
use Rattle.rl_syntax.specs.Syntax.{Syntax, Node, Flag, Absent, Pieces, End, Then, pieces_of, syntax}
use Rattle.rl_syntax.specs.declared.numbered.At.{At}
use Rattle.rl_syntax.specs.declared.numbered.Numbered.{Numbered}
use Rattle.rl_syntax.specs.declared.numbered.Numbered.TheVariants as numbered
use Rattle.rl_syntax.specs.declared.word.Word.{Word}
use Rattle.rl_syntax.specs.declared.word.Word.TheVariants as word
use Rattle.rl_syntax.proofs.Layers.{syntax_node, syntax_list, syntax_text, syntax_number, syntax_flag, syntax_absent}

pub node_kept : (inside : Bool) (at : At) (w : Word) (parts : List Numbered) (out new : List ℕ)
    → new ≡ out ++ kept_texts inside (Node at w (pieces_of (map syntax parts)))
    → new ≡ out ++ kept_texts inside (syntax (numbered.Node at w parts))
node_kept inside at w parts out new e = adds_some (kept_texts inside) out new (numbered.Node at w parts) _ (syntax_node at w parts) e

pub list_kept : (inside : Bool) (items : List Numbered) (out new : List ℕ)
    → new ≡ out ++ kept_texts_among inside (pieces_of (map syntax items)) → new ≡ out ++ kept_texts inside (syntax (numbered.List items))
list_kept inside items out new e = adds_some (kept_texts inside) out new (numbered.List items) _ (syntax_list items) e

pub text_kept : (inside : Bool) (text out : List ℕ) → out ≡ out ++ kept_texts inside (syntax (numbered.Text text))
text_kept inside text out = adds_none (kept_texts inside) out (numbered.Text text) _ (syntax_text text) refl

pub number_kept : (inside : Bool) (number : ℕ) (out : List ℕ) → out ≡ out ++ kept_texts inside (syntax (numbered.Number number))
number_kept inside number out = adds_none (kept_texts inside) out (numbered.Number number) _ (syntax_number number) refl

pub flag_kept : (inside flag : Bool) (out : List ℕ) → out ≡ out ++ kept_texts inside (syntax (numbered.Flag flag))
flag_kept inside flag out = adds_none (kept_texts inside) out (numbered.Flag flag) _ (syntax_flag flag) refl

pub absent_kept : (inside : Bool) (out : List ℕ) → out ≡ out ++ kept_texts inside (syntax numbered.Absent)
absent_kept inside out = adds_none (kept_texts inside) out numbered.Absent _ syntax_absent refl

pub ruleset by_form = (node_kept, list_kept, text_kept, number_kept, flag_kept, absent_kept)

-- The texts of a node, by its word.
text_node : (inside : Bool) (at : At) (w : Word) (parts : Pieces) → is_text w ≡ true
    → (if inside then at.id.0 ∷ [] else []) ≡ kept_texts inside (Node at w parts)
text_node inside at word.Text parts is = refl
text_node inside at _ parts is = absurd (cc)

function_node : (inside : Bool) (at : At) (w : Word) (parts : Pieces) → is_function w ≡ true → [] ≡ kept_texts inside (Node at w parts)
function_node inside at word.Arrow parts is = refl
function_node inside at word.Fundecl parts is = refl
function_node inside at word.Funexpr parts is = refl
function_node inside at _ parts is = absurd (cc)

element_node : (inside : Bool) (at : At) (w : Word) (parts : Pieces) (e : Element) → Some e ≡ element_parts w parts
    → kept_texts inside e.attributes ++ kept_texts (inside || is_fbt_tag e.tag) e.children ≡ kept_texts inside (Node at w parts)
element_node inside at word.Element (Then opening (Then c closing)) e is =
    element_is (opening_parts opening) c e is
    (λ e.
    kept_texts inside e.attributes ++ kept_texts (inside || is_fbt_tag e.tag) e.children ≡ kept_texts inside
    (Node at word.Element (Then opening (Then c closing))))
    (λ p found. ap (λ t. kept_texts inside (Node at word.Element (Then t (Then c closing)))) (opened opening p found).is)
element_node inside at word.Element (Then opening End) e is = absurd (cc)
element_node inside at word.Element End e is = absurd (cc)
element_node inside at _ parts e is = absurd (cc)

other_node : (inside : Bool) (at : At) (w : Word) (parts : Pieces) → is_text w ≡ false → None ≡ element_parts w parts
    → kept_texts inside (Node at w parts) ≡ (if is_function w then [] else kept_texts_among inside parts)
other_node inside at word.Text parts other none = absurd (cc)
other_node inside at word.Element (Then (Node there word.Opening (Then t (Then a End))) (Then c closing)) other none = absurd (cc)
other_node inside at _ parts other none = refl

pub text_added : (inside : Bool) (at : At) (w : Word) (parts : Pieces) (out new : List ℕ) → is_text w ≡ true
    → new ≡ out ++ (if inside then at.id.0 ∷ [] else []) → new ≡ out ++ kept_texts inside (Node at w parts)
text_added inside at w parts out new is e = e ∙ ap (λ l. out ++ l) (text_node inside at w parts is)

pub function_added : (inside : Bool) (at : At) (w : Word) (parts : Pieces) (out : List ℕ) → is_function w ≡ true
    → out ≡ out ++ kept_texts inside (Node at w parts)
function_added inside at w parts out is = sym (append-nil out) ∙ ap (λ l. out ++ l) (function_node inside at w parts is)

pub element_added : (inside : Bool) (at : At) (w : Word) (parts : Pieces) (e : Element) (out mid new : List ℕ)
    → Some e ≡ element_parts w parts → mid ≡ out ++ kept_texts inside e.attributes
    → new ≡ mid ++ kept_texts (inside || is_fbt_tag e.tag) e.children → new ≡ out ++ kept_texts inside (Node at w parts)
element_added inside at w parts e out mid new is first second =
    adds_both out mid new (kept_texts inside e.attributes) (kept_texts (inside || is_fbt_tag e.tag) e.children) first second
    ∙ ap (λ l. out ++ l) (element_node inside at w parts e is)

pub among_added : (inside : Bool) (at : At) (w : Word) (parts : Pieces) (out new : List ℕ) → is_text w ≡ false → is_function w ≡ false
    → None ≡ element_parts w parts → new ≡ out ++ kept_texts_among inside parts → new ≡ out ++ kept_texts inside (Node at w parts)
among_added inside at w parts out new no_text no_function none e =
    e
    ∙ ap (λ (b : Bool). out ++ (if b then [] else kept_texts_among inside parts)) (sym no_function)
    ∙ ap (λ l. out ++ l) (sym (other_node inside at w parts no_text none))

pub ruleset of_node = (text_added, function_added, element_added, among_added)

pub function_some : (f params body : Syntax) (mid new : List ℕ) → Some (params, body) ≡ parts_of_function f
    → mid ≡ [] ++ kept_texts false params → new ≡ mid ++ kept_texts false body → new ≡ texts_kept_by f
function_some f params body mid new is first second =
    let both = parts_are f params body is in
    adds_both [] mid new (kept_texts false params) (kept_texts false body) first second
    ∙ ap (λ s. kept_texts false s ++ kept_texts false body) (sym both.0)
    ∙ ap (λ s. kept_texts false (params_in f) ++ kept_texts false s) (sym both.1)

pub function_none : (f : Syntax) → None ≡ parts_of_function f → [] ≡ texts_kept_by f
function_none f none =
    let both = no_parts f none in
    ap (λ s. kept_texts false s ++ []) (sym both.0) ∙ ap (λ s. kept_texts false (params_in f) ++ kept_texts false s) (sym both.1)

pub ruleset of_function = (function_some, function_none)
