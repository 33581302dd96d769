-- The defaults in a pattern, by its form and by the roles of nodes.
use Rattle.std.proofs.Common.{◌≡◌, ℕ, Bool, List, [], ◌∷◌, ◌++◌, Option, Some, None, map, append-nil, ap, sym, refl, ◌∙◌}
use Rattle.rl_code.proofs.Adding.{adds_none, adds_some, adds_both}
use Rattle.rl_code.specs.Parts.{both, items_and_rest}
use Rattle.rl_code.specs.Roles.{part_at}
use Rattle.rl_code.specs.declared.role.Part.{Part}
use Rattle.rl_model.specs.Orderly.{defaults_among, defaults_in}
use Rattle.rl_orderly.specs.Items.{defaults_as, whole_role}
use Rattle.rl_orderly.specs.declared.items.ItemRole.TheVariants as role
use Rattle.rl_semantic.specs.Items.{of_item}
use Rattle.rl_syntax.specs.Syntax.{Syntax, Node, Listed, Pieces, End, Then, pieces_of, syntax}
use Rattle.rl_syntax.specs.declared.numbered.At.{At}
use Rattle.rl_syntax.specs.declared.numbered.Numbered.{Numbered}
use Rattle.rl_syntax.specs.declared.numbered.Numbered.TheVariants as numbered
use Rattle.rl_syntax.specs.declared.word.Word.{Word}
use Rattle.rl_syntax.specs.declared.word.Word.TheVariants as word
use Rattle.rl_syntax.proofs.Layers.{syntax_node, syntax_list, syntax_text, syntax_number, syntax_flag, syntax_absent}

-- The defaults in a node are those by its role.
defaults_node : (at : At) (w : Word) (parts : Pieces) → defaults_as parts (whole_role w) ≡ defaults_in (Node at w parts)
defaults_node at word.Arraypat (Then (Listed items) (Then rest End)) = refl
defaults_node at word.Arraypat _ = refl
defaults_node at word.Objectpat (Then (Listed items) (Then rest End)) = refl
defaults_node at word.Objectpat _ = refl
defaults_node at word.Params (Then (Listed items) (Then rest End)) = refl
defaults_node at word.Params _ = refl
defaults_node at word.Defaultpat (Then pattern (Then default End)) = refl
defaults_node at word.Defaultpat _ = refl
defaults_node at word.Param (Then pattern (Then default End)) = refl
defaults_node at word.Param _ = refl
defaults_node at word.Keyedpat (Then computed (Then key (Then pattern End))) = refl
defaults_node at word.Keyedpat _ = refl
defaults_node at word.Rest (Then pattern End) = refl
defaults_node at word.Rest _ = refl
defaults_node at _ parts = refl

pub node_defaults : (at : At) (w : Word) (parts : List Numbered) (out new : List Syntax)
    → new ≡ out ++ defaults_as (pieces_of (map syntax parts)) (whole_role w)
    → new ≡ out ++ defaults_in (syntax (numbered.Node at w parts))
node_defaults at w parts out new e =
    adds_some defaults_in out new (numbered.Node at w parts) _ (syntax_node at w parts)
    (e ∙ ap (λ l. out ++ l) (defaults_node at w (pieces_of (map syntax parts))))

pub list_defaults : (items : List Numbered) (out : List Syntax) → out ≡ out ++ defaults_in (syntax (numbered.List items))
list_defaults items out = adds_none defaults_in out (numbered.List items) _ (syntax_list items) refl

pub text_defaults : (text : List ℕ) (out : List Syntax) → out ≡ out ++ defaults_in (syntax (numbered.Text text))
text_defaults text out = adds_none defaults_in out (numbered.Text text) _ (syntax_text text) refl

pub number_defaults : (number : ℕ) (out : List Syntax) → out ≡ out ++ defaults_in (syntax (numbered.Number number))
number_defaults number out = adds_none defaults_in out (numbered.Number number) _ (syntax_number number) refl

pub flag_defaults : (flag : Bool) (out : List Syntax) → out ≡ out ++ defaults_in (syntax (numbered.Flag flag))
flag_defaults flag out = adds_none defaults_in out (numbered.Flag flag) _ (syntax_flag flag) refl

pub absent_defaults : (out : List Syntax) → out ≡ out ++ defaults_in (syntax numbered.Absent)
absent_defaults out = adds_none defaults_in out numbered.Absent _ syntax_absent refl

pub ruleset by_form = (node_defaults, list_defaults, text_defaults, number_defaults, flag_defaults, absent_defaults)

pub as_name : (parts : Pieces) (out : List Syntax) → out ≡ out ++ defaults_as parts role.Name
as_name parts out = sym (append-nil out)

pub as_nested : (parts items : Pieces) (rest : Syntax) (out o1 o2 : List Syntax) → Some (items, rest) ≡ items_and_rest parts
    → o1 ≡ out ++ defaults_among items → o2 ≡ o1 ++ defaults_in rest → o2 ≡ out ++ defaults_as parts role.Nested
as_nested parts items rest out o1 o2 is e1 e2 =
    adds_both out o1 o2 (defaults_among items) (defaults_in rest) e1 e2
    ∙ ap (λ (o : Option (Pieces × Syntax)). out ++ of_item [] (λ p. defaults_among p.0 ++ defaults_in p.1) o) is

pub as_no_items : (parts : Pieces) (out : List Syntax) → None ≡ items_and_rest parts → out ≡ out ++ defaults_as parts role.Nested
as_no_items parts out is =
    sym (append-nil out) ∙ ap (λ (o : Option (Pieces × Syntax)). out ++ of_item [] (λ p. defaults_among p.0 ++ defaults_in p.1) o) is

pub as_default : (parts : Pieces) (a b : Syntax) (out o1 o2 : List Syntax) → parts ≡ Then a (Then b End) → o1 ≡ out ++ defaults_in a
    → o2 ≡ o1 ++ b ∷ []
    → o2 ≡ out ++ defaults_as parts role.Default
as_default parts a b out o1 o2 is e1 e2 =
    adds_both out o1 o2 (defaults_in a) (b ∷ []) e1 e2 ∙ ap (λ ps. out ++ defaults_as ps role.Default) (sym is)

pub as_no_default : (parts : Pieces) (out : List Syntax) → both parts ≡ None → out ≡ out ++ defaults_as parts role.Default
as_no_default parts out is =
    sym (append-nil out) ∙ ap (λ (o : Option (Syntax × Syntax)). out ++ of_item [] (λ p. defaults_in p.0 ++ p.1 ∷ []) o) (sym is)

pub as_param : (parts : Pieces) (a b : Syntax) (out o1 o2 : List Syntax) → parts ≡ Then a (Then b End) → o1 ≡ out ++ defaults_in a
    → o2 ≡ o1 ++ b ∷ []
    → o2 ≡ out ++ defaults_as parts role.Param
as_param parts a b out o1 o2 is e1 e2 =
    adds_both out o1 o2 (defaults_in a) (b ∷ []) e1 e2 ∙ ap (λ ps. out ++ defaults_as ps role.Param) (sym is)

pub as_no_param : (parts : Pieces) (out : List Syntax) → both parts ≡ None → out ≡ out ++ defaults_as parts role.Param
as_no_param parts out is =
    sym (append-nil out) ∙ ap (λ (o : Option (Syntax × Syntax)). out ++ of_item [] (λ p. defaults_in p.0 ++ p.1 ∷ []) o) (sym is)

pub as_part : (p : Part) (parts : Pieces) (t : Syntax) (out new : List Syntax) → Some t ≡ part_at p parts → new ≡ out ++ defaults_in t
    → new ≡ out ++ defaults_as parts (role.Part p)
as_part p parts t out new is e = e ∙ ap (λ o. out ++ of_item [] defaults_in o) is

pub as_no_part : (p : Part) (parts : Pieces) (out : List Syntax) → None ≡ part_at p parts → out ≡ out ++ defaults_as parts (role.Part p)
as_no_part p parts out is = sym (append-nil out) ∙ ap (λ o. out ++ of_item [] defaults_in o) is

pub as_nothing : (parts : Pieces) (out : List Syntax) → out ≡ out ++ defaults_as parts role.Nothing
as_nothing parts out = sym (append-nil out)

pub ruleset by_role = (as_name, as_nested, as_no_items, as_default, as_no_default, as_param, as_no_param, as_part, as_no_part, as_nothing)
