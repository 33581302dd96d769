-- The variables that an expression names.
use Rattle.std.proofs.Common.{◌≡◌, ℕ, Bool, true, false, if◌then◌else◌, List, [], ◌++◌, map, ap, sym, refl, ◌∙◌}
use Rattle.rl_code.proofs.Adding.{adds_none, adds_some}
use Rattle.rl_code.specs.Heads.{is_id, used_as}
use Rattle.rl_model.specs.Code.{builtin_tag_at, code, flat}
use Rattle.rl_model.specs.Orderly.{used_at, used_in}
use Rattle.rl_names.specs.Names.{Names}
use Rattle.rl_orderly.specs.Repeats.{used_here}
use Rattle.rl_syntax.specs.Syntax.{Syntax, Node, Said, Pieces, End, Then, pieces_of, syntax}
use Rattle.rl_syntax.specs.declared.numbered.At.{At}
use Rattle.rl_syntax.specs.declared.numbered.Numbered.{Numbered}
use Rattle.rl_syntax.specs.declared.numbered.Numbered.TheVariants as numbered
use Rattle.rl_syntax.specs.declared.word.Word.{Word}
use Rattle.rl_syntax.specs.declared.word.Word.TheVariants as word
use Rattle.rl_syntax.proofs.Layers.{syntax_node, syntax_list, syntax_text, syntax_number, syntax_flag, syntax_absent}

used_node : (n : Names) (tags : List ℕ) (at : At) (w : Word) (parts : Pieces)
    → (if is_id w then used_as n tags at parts else []) ≡ used_at n tags (Node at w parts)
used_node n tags at word.Id (Then (Said name) End) = refl
used_node n tags at word.Id _ = refl
used_node n tags at _ parts = refl

pub id_used : (n : Names) (tags : List ℕ) (at : At) (w : Word) (parts : List Numbered) (out new : List ℕ) → is_id w ≡ true
    → new ≡ out ++ used_as n tags at (pieces_of (map syntax parts))
    → new ≡ out ++ used_at n tags (syntax (numbered.Node at w parts))
id_used n tags at w parts out new holds e =
    let ps = pieces_of (map syntax parts) in
    adds_some (used_at n tags) out new (numbered.Node at w parts) _ (syntax_node at w parts)
    (e ∙ ap (λ (b : Bool). out ++ (if b then used_as n tags at ps else [])) (sym holds) ∙ ap (λ l. out ++ l) (used_node n tags at w ps))

pub other_used : (n : Names) (tags : List ℕ) (at : At) (w : Word) (parts : List Numbered) (out : List ℕ) → is_id w ≡ false
    → out ≡ out ++ used_at n tags (syntax (numbered.Node at w parts))
other_used n tags at w parts out fails =
    let ps = pieces_of (map syntax parts) in
    adds_none (used_at n tags) out (numbered.Node at w parts) _ (syntax_node at w parts)
    (ap (λ (b : Bool). if b then used_as n tags at ps else []) (sym fails) ∙ used_node n tags at w ps)

pub list_used : (n : Names) (tags : List ℕ) (items : List Numbered) (out : List ℕ)
    → out ≡ out ++ used_at n tags (syntax (numbered.List items))
list_used n tags items out = adds_none (used_at n tags) out (numbered.List items) _ (syntax_list items) refl

pub text_used : (n : Names) (tags text out : List ℕ) → out ≡ out ++ used_at n tags (syntax (numbered.Text text))
text_used n tags text out = adds_none (used_at n tags) out (numbered.Text text) _ (syntax_text text) refl

pub number_used : (n : Names) (tags : List ℕ) (number : ℕ) (out : List ℕ) → out ≡ out ++ used_at n tags (syntax (numbered.Number number))
number_used n tags number out = adds_none (used_at n tags) out (numbered.Number number) _ (syntax_number number) refl

pub flag_used : (n : Names) (tags : List ℕ) (flag : Bool) (out : List ℕ) → out ≡ out ++ used_at n tags (syntax (numbered.Flag flag))
flag_used n tags flag out = adds_none (used_at n tags) out (numbered.Flag flag) _ (syntax_flag flag) refl

pub absent_used : (n : Names) (tags out : List ℕ) → out ≡ out ++ used_at n tags (syntax numbered.Absent)
absent_used n tags out = adds_none (used_at n tags) out numbered.Absent _ syntax_absent refl

pub ruleset used_form = (id_used, other_used, list_used, text_used, number_used, flag_used, absent_used)

pub used : (n : Names) (expression : Syntax) (nodes : List Syntax) (tags out new : List ℕ) → nodes ≡ code expression
    → tags ≡ flat builtin_tag_at nodes
    → new ≡ out ++ flat (used_at n tags) nodes → new ≡ out ++ used_in n expression
used n expression nodes tags out new are from e =
    e ∙ ap (λ ts. out ++ flat (used_at n ts) nodes) from ∙ ap
    (λ (ns : List Syntax). out ++ flat (used_at n (flat builtin_tag_at ns)) ns) are

flat_used : (n : Names) (expressions : List Syntax) → flat (used_here n) expressions ≡ flat (used_in n) expressions
unfolding used_here
flat_used n expressions = refl

pub used_all : (n : Names) (expressions defaults : List Syntax) (out new list : List ℕ) → expressions ≡ defaults → out ≡ []
    → new ≡ out ++ flat (used_here n) expressions → list ≡ new → list ≡ flat (used_in n) defaults
used_all n expressions defaults out new list are empty e same =
    same ∙ e ∙ ap (λ l. l ++ flat (used_here n) expressions) empty ∙ flat_used n expressions ∙ ap (flat (used_in n)) are

pub ruleset all_used = (used_all)
