-- The items of a pattern, by its form and by the roles of nodes.
use Rattle.std.proofs.Common.{◌≡◌, ℕ, ◌<◌, Bool, List, [], ◌∷◌, ◌++◌, Option, Some, None, map}
use Rattle.std.proofs.Common.{append-nil, ap, sym, refl, ◌∙◌, arith}
use Rattle.rl_code.proofs.Adding.{adds_none, adds_some, adds_both}
use Rattle.rl_code.proofs.Smaller.{items_smaller, part_smaller, rest_smaller}
use Rattle.rl_code.specs.Parts.{both, items_and_rest}
use Rattle.rl_code.specs.Roles.{part_at}
use Rattle.rl_code.specs.declared.role.Part.{Part}
use Rattle.rl_model.specs.Orderly.{Item, Passes, items_among, items_of, items_of_part}
use Rattle.rl_names.specs.Names.{Names}
use Rattle.rl_orderly.specs.Items.{item_role, items_as, list_in, list_of, passed_behind}
use Rattle.rl_orderly.specs.declared.items.ItemRole.TheVariants as role
use Rattle.rl_semantic.specs.Items.{of_item}
use Rattle.rl_syntax.specs.Sizes.{size, size_of}
use Rattle.rl_syntax.specs.Syntax.{Syntax, Node, Listed, Absent, Pieces, End, Then, pieces_of, syntax}
use Rattle.rl_syntax.specs.declared.numbered.At.{At}
use Rattle.rl_syntax.specs.declared.numbered.Numbered.{Numbered}
use Rattle.rl_syntax.specs.declared.numbered.Numbered.TheVariants as numbered
use Rattle.rl_syntax.specs.declared.word.Word.{Word}
use Rattle.rl_syntax.specs.declared.word.Word.TheVariants as word
use Rattle.rl_syntax.proofs.Layers.{syntax_node, syntax_list, syntax_text, syntax_number, syntax_flag, syntax_absent}

-- The items of a node are those by its role.
items_node : (n : Names) (at : At) (w : Word) (parts : Pieces) → items_as n at parts (item_role w) ≡ items_of_part n (Node at w parts)
items_node n at word.Bind parts = refl
items_node n at word.Arraypat (Then (Listed items) (Then rest End)) = refl
items_node n at word.Arraypat _ = refl
items_node n at word.Objectpat (Then (Listed items) (Then rest End)) = refl
items_node n at word.Objectpat _ = refl
items_node n at word.Defaultpat (Then pattern (Then default End)) = refl
items_node n at word.Defaultpat _ = refl
items_node n at word.Param (Then pattern (Then Absent End)) = append-nil (items_of_part n pattern)
items_node n at word.Param (Then pattern (Then default End)) = refl
items_node n at word.Param _ = refl
items_node n at word.Keyedpat (Then computed (Then key (Then pattern End))) = refl
items_node n at word.Keyedpat _ = refl
items_node n at word.Rest (Then pattern End) = refl
items_node n at word.Rest _ = refl
items_node n at _ parts = refl

pub node_items : (n : Names) (at : At) (w : Word) (parts : List Numbered) (out new : List Item)
    → new ≡ out ++ items_as n at (pieces_of (map syntax parts)) (item_role w)
    → new ≡ out ++ items_of_part n (syntax (numbered.Node at w parts))
node_items n at w parts out new e =
    adds_some (items_of_part n) out new (numbered.Node at w parts) _ (syntax_node at w parts)
    (e ∙ ap (λ l. out ++ l) (items_node n at w (pieces_of (map syntax parts))))

pub list_items : (n : Names) (items : List Numbered) (out : List Item) → out ≡ out ++ items_of_part n (syntax (numbered.List items))
list_items n items out = adds_none (items_of_part n) out (numbered.List items) _ (syntax_list items) refl

pub text_items : (n : Names) (text : List ℕ) (out : List Item) → out ≡ out ++ items_of_part n (syntax (numbered.Text text))
text_items n text out = adds_none (items_of_part n) out (numbered.Text text) _ (syntax_text text) refl

pub number_items : (n : Names) (number : ℕ) (out : List Item) → out ≡ out ++ items_of_part n (syntax (numbered.Number number))
number_items n number out = adds_none (items_of_part n) out (numbered.Number number) _ (syntax_number number) refl

pub flag_items : (n : Names) (flag : Bool) (out : List Item) → out ≡ out ++ items_of_part n (syntax (numbered.Flag flag))
flag_items n flag out = adds_none (items_of_part n) out (numbered.Flag flag) _ (syntax_flag flag) refl

pub absent_items : (n : Names) (out : List Item) → out ≡ out ++ items_of_part n (syntax numbered.Absent)
absent_items n out = adds_none (items_of_part n) out numbered.Absent _ syntax_absent refl

pub ruleset by_form = (node_items, list_items, text_items, number_items, flag_items, absent_items)

pub as_nested : (n : Names) (at : At) (parts items : Pieces) (rest : Syntax) (out o1 o2 o3 : List Item)
    → Some (items, rest) ≡ items_and_rest parts
    → o1 ≡ out ++ items_among n items → o2 ≡ o1 ++ items_of_part n rest → o3 ≡ o2 ++ Passes ∷ [] → o3
    ≡ out ++ items_as n at parts role.Nested
as_nested n at parts items rest out o1 o2 o3 is e1 e2 e3 =
    adds_both out o2 o3 (items_among n items ++ items_of_part n rest) (Passes ∷ [])
    (adds_both out o1 o2 (items_among n items) (items_of_part n rest) e1 e2) e3
    ∙ ap (λ (o : Option (Pieces × Syntax)). out ++ of_item [] (λ p. items_among n p.0 ++ items_of_part n p.1 ++ Passes ∷ []) o) is

pub as_no_items : (n : Names) (at : At) (parts : Pieces) (out : List Item) → None ≡ items_and_rest parts
    → out ≡ out ++ items_as n at parts role.Nested
as_no_items n at parts out is =
    sym (append-nil out) ∙ ap
    (λ (o : Option (Pieces × Syntax)). out ++ of_item [] (λ p. items_among n p.0 ++ items_of_part n p.1 ++ Passes ∷ []) o) is

pub as_default : (n : Names) (at : At) (parts : Pieces) (a b : Syntax) (out o1 o2 : List Item) → parts ≡ Then a (Then b End)
    → o1 ≡ out ++ items_of_part n a → o2 ≡ o1 ++ Passes ∷ [] → o2 ≡ out ++ items_as n at parts role.Default
as_default n at parts a b out o1 o2 is e1 e2 =
    adds_both out o1 o2 (items_of_part n a) (Passes ∷ []) e1 e2 ∙ ap (λ ps. out ++ items_as n at ps role.Default) (sym is)

pub as_no_default : (n : Names) (at : At) (parts : Pieces) (out : List Item) → both parts ≡ None
    → out ≡ out ++ items_as n at parts role.Default
as_no_default n at parts out is =
    sym (append-nil out) ∙ ap (λ (o : Option (Syntax × Syntax)). out ++ of_item [] (λ p. items_of_part n p.0 ++ Passes ∷ []) o) (sym is)

pub as_param : (n : Names) (at : At) (parts : Pieces) (a b : Syntax) (out o1 o2 : List Item) → parts ≡ Then a (Then b End)
    → o1 ≡ out ++ items_of_part n a → o2 ≡ o1 ++ passed_behind b → o2 ≡ out ++ items_as n at parts role.Param
as_param n at parts a b out o1 o2 is e1 e2 =
    adds_both out o1 o2 (items_of_part n a) (passed_behind b) e1 e2 ∙ ap (λ ps. out ++ items_as n at ps role.Param) (sym is)

pub as_no_param : (n : Names) (at : At) (parts : Pieces) (out : List Item) → both parts ≡ None → out ≡ out ++ items_as n at parts role.Param
as_no_param n at parts out is =
    sym (append-nil out) ∙ ap (λ (o : Option (Syntax × Syntax)). out ++ of_item [] (λ p. items_of_part n p.0 ++ passed_behind p.1) o)
    (sym is)

pub as_part : (n : Names) (at : At) (p : Part) (parts : Pieces) (t : Syntax) (out new : List Item) → Some t ≡ part_at p parts
    → new ≡ out ++ items_of_part n t → new ≡ out ++ items_as n at parts (role.Part p)
as_part n at p parts t out new is e = e ∙ ap (λ o. out ++ of_item [] (items_of_part n) o) is

pub as_no_part : (n : Names) (at : At) (p : Part) (parts : Pieces) (out : List Item) → None ≡ part_at p parts
    → out ≡ out ++ items_as n at parts (role.Part p)
as_no_part n at p parts out is = sym (append-nil out) ∙ ap (λ o. out ++ of_item [] (items_of_part n) o) is

pub as_nothing : (n : Names) (at : At) (parts : Pieces) (out : List Item) → out ≡ out ++ items_as n at parts role.Nothing
as_nothing n at parts out = sym (append-nil out)

pub ruleset by_role = (as_nested, as_no_items, as_default, as_no_default, as_param, as_no_param, as_part, as_no_part, as_nothing)

pub first_of_both : (parts : Pieces) (a b : Syntax) → parts ≡ Then a (Then b End) → size a < size_of parts
first_of_both parts a b is = omega (arith, ap size_of is)

pub ruleset smaller = (items_smaller, rest_smaller, part_smaller, first_of_both)

pub node_list : (at : At) (w : Word) (parts : List Numbered) (o : Option (Pieces × Syntax))
    → o ≡ list_of w (pieces_of (map syntax parts)) → o ≡ list_in (syntax (numbered.Node at w parts))
node_list at w parts o e = e ∙ ap list_in (sym (syntax_node at w parts))

pub list_list : (items : List Numbered) → None ≡ list_in (syntax (numbered.List items))
list_list items = ap list_in (sym (syntax_list items))

pub text_list : (text : List ℕ) → None ≡ list_in (syntax (numbered.Text text))
text_list text = ap list_in (sym (syntax_text text))

pub number_list : (number : ℕ) → None ≡ list_in (syntax (numbered.Number number))
number_list number = ap list_in (sym (syntax_number number))

pub flag_list : (flag : Bool) → None ≡ list_in (syntax (numbered.Flag flag))
flag_list flag = ap list_in (sym (syntax_flag flag))

pub absent_list : None ≡ list_in (syntax numbered.Absent)
absent_list = ap list_in (sym syntax_absent)

pub ruleset list_form = (node_list, list_list, text_list, number_list, flag_list, absent_list)

-- The items of a whole pattern are those of its list.
whole_items : (n : Names) (pattern : Syntax)
    → of_item [] (λ p. items_among n p.0 ++ items_of_part n p.1) (list_in pattern) ≡ items_of n pattern
whole_items n (Node at word.Arraypat (Then (Listed items) (Then rest End))) = refl
whole_items n (Node at word.Arraypat _) = refl
whole_items n (Node at word.Objectpat (Then (Listed items) (Then rest End))) = refl
whole_items n (Node at word.Objectpat _) = refl
whole_items n (Node at word.Params (Then (Listed items) (Then rest End))) = refl
whole_items n (Node at word.Params _) = refl
whole_items n _ = refl

pub both_listed : (n : Names) (items : Pieces) (rest : Syntax) (out o1 o2 : List Item) → o1 ≡ out ++ items_among n items
    → o2 ≡ o1 ++ items_of_part n rest → o2 ≡ out ++ (items_among n items ++ items_of_part n rest)
both_listed n items rest out o1 o2 e1 e2 = adds_both out o1 o2 (items_among n items) (items_of_part n rest) e1 e2

pub ruleset listed = (both_listed)

pub whole_some : (n : Names) (pattern rest : Syntax) (items : Pieces) (out new : List Item) → out ≡ []
    → Some (items, rest) ≡ list_in pattern → new ≡ out ++ (items_among n items ++ items_of_part n rest) → new ≡ items_of n pattern
whole_some n pattern rest items out new empty is e =
    e ∙ ap (λ l. l ++ (items_among n items ++ items_of_part n rest)) empty
    ∙ ap (λ (o : Option (Pieces × Syntax)). of_item [] (λ p. items_among n p.0 ++ items_of_part n p.1) o) is
    ∙ whole_items n pattern

pub whole_none : (n : Names) (pattern : Syntax) (out : List Item) → None ≡ list_in pattern → out ≡ [] → out ≡ items_of n pattern
whole_none n pattern out is empty =
    empty ∙ ap (λ (o : Option (Pieces × Syntax)). of_item [] (λ p. items_among n p.0 ++ items_of_part n p.1) o) is
    ∙ whole_items n pattern

pub ruleset whole = (whole_some, whole_none)
