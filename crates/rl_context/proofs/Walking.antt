-- The sites of a tree, by its form.
use Rattle.std.proofs.Common.{◌≡◌, ℕ, ◌+◌, Bool, true, false, if◌then◌else◌, List, [], ◌++◌, map, append_assoc, append-nil, ap, sym, refl, ◌∙◌}
use Rattle.rl_context.specs.Even.{is_even, even_below}
use Rattle.rl_context.specs.Roles.{role_of, below, top}
use Rattle.rl_context.specs.Sites.{is_class, site_of, sites, sites_from, sites_among}
use Rattle.rl_context.specs.declared.role.Above.{Above}
use Rattle.rl_context.specs.declared.site.Site.{Site}
use Rattle.rl_syntax.specs.Syntax.{Syntax, Pieces, End, Then, Said, Count, Flag, Absent, pieces_of, syntax}
use Rattle.rl_syntax.specs.declared.numbered.At.{At}
use Rattle.rl_syntax.specs.declared.numbered.Numbered.{Numbered}
use Rattle.rl_syntax.specs.declared.numbered.Numbered.TheVariants as numbered
use Rattle.rl_syntax.specs.declared.word.Word.{Word}
use Rattle.rl_syntax.specs.declared.word.Word.TheVariants as word
use Rattle.rl_syntax.proofs.Layers.{syntax_node, syntax_list, syntax_text, syntax_number, syntax_flag, syntax_absent}

behind : (out : List Site) (a : Above) (tree : Numbered) (form : Syntax) → syntax tree ≡ form → out ++ sites a form ≡ out ++ sites a (syntax tree)
behind out a tree form is = ap (λ s. out ++ sites a s) (sym is)

pub class_walked : (a : Above) (at : At) (word : Word) (parts : List Numbered) (out : List Site) → is_class (role_of word) ≡ true → out ≡ out ++ sites a (syntax (numbered.Node at word parts))
class_walked a at word parts out is =
    sym (append-nil out)
    ∙ ap (λ (b : Bool). out ++ (if b then [] else site_of (role_of word) a at ++ sites_from a at word 0 (pieces_of (map syntax parts)))) (sym is)
    ∙ behind out a (numbered.Node at word parts) _ (syntax_node at word parts)

pub node_walked : (a : Above) (at : At) (word : Word) (parts : List Numbered) (out o1 o2 : List Site) → is_class (role_of word) ≡ false
    → o1 ≡ out ++ site_of (role_of word) a at
    → o2 ≡ o1 ++ sites_from a at word 0 (pieces_of (map syntax parts))
    → o2 ≡ out ++ sites a (syntax (numbered.Node at word parts))
node_walked a at word parts out o1 o2 not e1 e2 =
    e2
    ∙ ap (λ o. o ++ sites_from a at word 0 (pieces_of (map syntax parts))) e1
    ∙ append_assoc out (site_of (role_of word) a at) (sites_from a at word 0 (pieces_of (map syntax parts)))
    ∙ ap (λ (b : Bool). out ++ (if b then [] else site_of (role_of word) a at ++ sites_from a at word 0 (pieces_of (map syntax parts)))) (sym not)
    ∙ behind out a (numbered.Node at word parts) _ (syntax_node at word parts)

pub list_walked : (a : Above) (items : List Numbered) (out : List Site) → out ++ sites_among a (pieces_of (map syntax items)) ≡ out ++ sites a (syntax (numbered.List items))
list_walked a items out = behind out a (numbered.List items) _ (syntax_list items)

pub text_walked : (a : Above) (text : List ℕ) (out : List Site) → out ≡ out ++ sites a (syntax (numbered.Text text))
text_walked a text out = sym (append-nil out) ∙ behind out a (numbered.Text text) (Said text) (syntax_text text)

pub number_walked : (a : Above) (number : ℕ) (out : List Site) → out ≡ out ++ sites a (syntax (numbered.Number number))
number_walked a number out = sym (append-nil out) ∙ behind out a (numbered.Number number) (Count number) (syntax_number number)

pub flag_walked : (a : Above) (flag : Bool) (out : List Site) → out ≡ out ++ sites a (syntax (numbered.Flag flag))
flag_walked a flag out = sym (append-nil out) ∙ behind out a (numbered.Flag flag) (Flag flag) (syntax_flag flag)

pub absent_walked : (a : Above) (out : List Site) → out ≡ out ++ sites a (syntax numbered.Absent)
absent_walked a out = sym (append-nil out) ∙ behind out a numbered.Absent Absent syntax_absent

pub ruleset by_form = (class_walked, node_walked, list_walked, text_walked, number_walked, flag_walked, absent_walked)

pub function_walked : (name params body : Syntax) (out o1 o2 o3 : List Site)
    → o1 ≡ out ++ sites top name
    → o2 ≡ o1 ++ sites top params
    → o3 ≡ o2 ++ sites top body
    → o3 ≡ out ++ (sites top name ++ (sites top params ++ (sites top body ++ [])))
function_walked name params body out o1 o2 o3 e1 e2 e3 =
    e3
    ∙ ap (λ o. o ++ sites top body) e2
    ∙ ap (λ o. o ++ sites top params ++ sites top body) e1
    ∙ simp (append_assoc, append-nil) refl

pub arrow_walked : (params body : Syntax) (out o1 o2 : List Site) → o1 ≡ out ++ sites top params → o2 ≡ o1 ++ sites top body → o2 ≡ out ++ (sites top params ++ (sites top body ++ []))
arrow_walked params body out o1 o2 e1 e2 = e2 ∙ ap (λ o. o ++ sites top body) e1 ∙ simp (append_assoc, append-nil) refl

-- The parts of a node whose parts all have the same summary.
even_word : (w : Word) → is_even w ≡ true → (a : Above) (at : At) (index : ℕ) → below a at w index ≡ even_below a
even_word word.Arrow is a at index = absurd (cc)
even_word word.Fundecl is a at index = absurd (cc)
even_word word.Funexpr is a at index = absurd (cc)
even_word word.Method is a at index = absurd (cc)
even_word word.Get is a at index = absurd (cc)
even_word word.Set is a at index = absurd (cc)
even_word word.Type is a at index = absurd (cc)
even_word word.Instantiate is a at index = absurd (cc)
even_word word.Opening is a at index = absurd (cc)
even_word word.Tagmember is a at index = absurd (cc)
even_word word.Assign is a at index = absurd (cc)
even_word word.Update is a at index = absurd (cc)
even_word word.Arraytarget is a at index = absurd (cc)
even_word word.Objecttarget is a at index = absurd (cc)
even_word word.Rest is a at index = absurd (cc)
even_word word.Short is a at index = absurd (cc)
even_word word.Default is a at index = absurd (cc)
even_word word.Keyed is a at index = absurd (cc)
even_word _ is a at index = refl

even_from : (w : Word) → is_even w ≡ true → (a : Above) (at : At) (index : ℕ) (ps : Pieces) → sites_from a at w index ps ≡ sites_among (even_below a) ps
even_from w is a at index End = refl
even_from w is a at index (Then p ps) = (λ i. sites (even_word w is a at index i) p ++ even_from w is a at (index + 1) ps i)

pub even_parts : (w : Word) (a : Above) (at : At) (ps : Pieces) (out o1 : List Site) → is_even w ≡ true → o1 ≡ out ++ sites_among (even_below a) ps → o1 ≡ out ++ sites_from a at w 0 ps
even_parts w a at ps out o1 is e = e ∙ ap (λ ss. out ++ ss) (sym (even_from w is a at 0 ps))
