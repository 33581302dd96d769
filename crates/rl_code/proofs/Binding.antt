-- The symbols that a binding pattern declares, by its form and by its role.
use Rattle.std.proofs.Common.{◌≡◌, ℕ, Bool, List, [], ◌++◌, Option, Some, None, map, append-nil, ap, sym, refl, ◌∙◌}
use Rattle.rl_code.specs.Parts.{items_and_rest}
use Rattle.rl_code.specs.Roles.{bound_as, part_at, pattern_role}
use Rattle.rl_code.specs.declared.role.Part.{Part}
use Rattle.rl_code.specs.declared.role.Role.TheVariants as role
use Rattle.rl_code.proofs.Adding.{adds_none, adds_some, adds_both}
use Rattle.rl_model.specs.Code.{bound_among, bound_by, declared_by}
use Rattle.rl_names.specs.Names.{Names}
use Rattle.rl_semantic.specs.Items.{of_item}
use Rattle.rl_syntax.specs.Syntax.{Syntax, Node, Listed, Flag, Absent, Pieces, End, Then, pieces_of, syntax}
use Rattle.rl_syntax.specs.declared.numbered.At.{At}
use Rattle.rl_syntax.specs.declared.numbered.Numbered.{Numbered}
use Rattle.rl_syntax.specs.declared.numbered.Numbered.TheVariants as numbered
use Rattle.rl_syntax.specs.declared.word.Word.{Word}
use Rattle.rl_syntax.specs.declared.word.Word.TheVariants as word
use Rattle.rl_syntax.proofs.Layers.{syntax_node, syntax_list, syntax_text, syntax_number, syntax_flag, syntax_absent}

-- The declarations of a node are those by its role.
bound_node : (n : Names) (at : At) (w : Word) (parts : Pieces) → bound_as n at parts (pattern_role w) ≡ bound_by n (Node at w parts)
bound_node n at word.Bind parts = refl
bound_node n at word.Arraypat (Then (Listed items) (Then rest End)) = refl
bound_node n at word.Arraypat _ = refl
bound_node n at word.Objectpat (Then (Listed items) (Then rest End)) = refl
bound_node n at word.Objectpat _ = refl
bound_node n at word.Defaultpat (Then pattern parts) = refl
bound_node n at word.Defaultpat End = refl
bound_node n at word.Keyedpat (Then computed (Then key (Then pattern End))) = refl
bound_node n at word.Keyedpat _ = refl
bound_node n at word.Rest (Then pattern End) = refl
bound_node n at word.Rest _ = refl
bound_node n at _ parts = refl

pub node_bound : (n : Names) (at : At) (w : Word) (parts : List Numbered) (out new : List ℕ)
    → new ≡ out ++ bound_as n at (pieces_of (map syntax parts)) (pattern_role w)
    → new ≡ out ++ bound_by n (syntax (numbered.Node at w parts))
node_bound n at w parts out new e =
    let ps = pieces_of (map syntax parts) in
    adds_some (bound_by n) out new (numbered.Node at w parts) _ (syntax_node at w parts) (e ∙ ap (λ l. out ++ l) (bound_node n at w ps))

pub list_bound : (n : Names) (items : List Numbered) (out : List ℕ) → out ≡ out ++ bound_by n (syntax (numbered.List items))
list_bound n items out = adds_none (bound_by n) out (numbered.List items) _ (syntax_list items) refl

pub text_bound : (n : Names) (text out : List ℕ) → out ≡ out ++ bound_by n (syntax (numbered.Text text))
text_bound n text out = adds_none (bound_by n) out (numbered.Text text) _ (syntax_text text) refl

pub number_bound : (n : Names) (number : ℕ) (out : List ℕ) → out ≡ out ++ bound_by n (syntax (numbered.Number number))
number_bound n number out = adds_none (bound_by n) out (numbered.Number number) _ (syntax_number number) refl

pub flag_bound : (n : Names) (flag : Bool) (out : List ℕ) → out ≡ out ++ bound_by n (syntax (numbered.Flag flag))
flag_bound n flag out = adds_none (bound_by n) out (numbered.Flag flag) _ (syntax_flag flag) refl

pub absent_bound : (n : Names) (out : List ℕ) → out ≡ out ++ bound_by n (syntax numbered.Absent)
absent_bound n out = adds_none (bound_by n) out numbered.Absent _ syntax_absent refl

pub ruleset by_form = (node_bound, list_bound, text_bound, number_bound, flag_bound, absent_bound)

pub as_name : (n : Names) (at : At) (parts : Pieces) (out new : List ℕ) → new ≡ out ++ declared_by (n.declared at.id.0)
    → new ≡ out ++ bound_as n at parts role.Name
as_name n at parts out new e = e

pub as_items : (n : Names) (at : At) (parts items : Pieces) (rest : Syntax) (out o1 o2 : List ℕ)
    → Some (items, rest) ≡ items_and_rest parts → o1 ≡ out ++ bound_among n items → o2 ≡ o1 ++ bound_by n rest
    → o2 ≡ out ++ bound_as n at parts role.Items
as_items n at parts items rest out o1 o2 is e1 e2 =
    adds_both out o1 o2 (bound_among n items) (bound_by n rest) e1 e2
    ∙ ap (λ (o : Option (Pieces × Syntax)). out ++ of_item [] (λ p. bound_among n p.0 ++ bound_by n p.1) o) is

pub as_no_items : (n : Names) (at : At) (parts : Pieces) (out : List ℕ) → None ≡ items_and_rest parts
    → out ≡ out ++ bound_as n at parts role.Items
as_no_items n at parts out is =
    sym (append-nil out) ∙ ap (λ (o : Option (Pieces × Syntax)). out ++ of_item [] (λ p. bound_among n p.0 ++ bound_by n p.1) o) is

pub as_part : (n : Names) (at : At) (p : Part) (parts : Pieces) (t : Syntax) (out new : List ℕ) → Some t ≡ part_at p parts
    → new ≡ out ++ bound_by n t → new ≡ out ++ bound_as n at parts (role.Part p)
as_part n at p parts t out new is e = e ∙ ap (λ o. out ++ of_item [] (bound_by n) o) is

pub as_no_part : (n : Names) (at : At) (p : Part) (parts : Pieces) (out : List ℕ) → None ≡ part_at p parts
    → out ≡ out ++ bound_as n at parts (role.Part p)
as_no_part n at p parts out is = sym (append-nil out) ∙ ap (λ o. out ++ of_item [] (bound_by n) o) is

pub as_nothing : (n : Names) (at : At) (parts : Pieces) (out : List ℕ) → out ≡ out ++ bound_as n at parts role.Nothing
as_nothing n at parts out = sym (append-nil out)

pub ruleset by_role = (as_name, as_items, as_no_items, as_part, as_no_part, as_nothing)
