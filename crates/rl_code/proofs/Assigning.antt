-- The variables that a target assigns, by its form and by its role.
use Rattle.std.proofs.Common.{◌≡◌, ℕ, Bool, List, [], ◌++◌, Option, Some, None, map, append-nil, ap, sym, refl, ◌∙◌}
use Rattle.rl_code.specs.Heads.{assigned_head, target_of}
use Rattle.rl_code.specs.Parts.{items_and_rest, said_only}
use Rattle.rl_code.specs.Roles.{assigned_as, part_at, target_role}
use Rattle.rl_code.specs.declared.role.Part.{Part}
use Rattle.rl_code.specs.declared.role.Role.TheVariants as role
use Rattle.rl_code.proofs.Adding.{adds_none, adds_some, adds_both}
use Rattle.rl_model.specs.Code.{assigned_among, assigned_at, assigned_by, local_of}
use Rattle.rl_names.specs.Names.{Names}
use Rattle.rl_semantic.specs.Items.{of_item}
use Rattle.rl_syntax.specs.Syntax.{Syntax, Node, Listed, Said, Flag, Absent, Pieces, End, Then, pieces_of, syntax}
use Rattle.rl_syntax.specs.declared.numbered.At.{At}
use Rattle.rl_syntax.specs.declared.numbered.Numbered.{Numbered}
use Rattle.rl_syntax.specs.declared.numbered.Numbered.TheVariants as numbered
use Rattle.rl_syntax.specs.declared.word.Word.{Word}
use Rattle.rl_syntax.specs.declared.word.Word.TheVariants as word
use Rattle.rl_syntax.proofs.Layers.{syntax_node, syntax_list, syntax_text, syntax_number, syntax_flag, syntax_absent}

-- The assignments of a node are those by its role.
assigned_node : (n : Names) (at : At) (w : Word) (parts : Pieces) → assigned_as n at parts (target_role w) ≡ assigned_by n (Node at w parts)
assigned_node n at word.Id (Then (Said name) End) = refl
assigned_node n at word.Id _ = refl
assigned_node n at word.Arraytarget (Then (Listed items) (Then rest End)) = refl
assigned_node n at word.Arraytarget _ = refl
assigned_node n at word.Objecttarget (Then (Listed items) (Then rest End)) = refl
assigned_node n at word.Objecttarget _ = refl
assigned_node n at word.Default (Then target parts) = refl
assigned_node n at word.Default End = refl
assigned_node n at word.Short (Then name parts) = refl
assigned_node n at word.Short End = refl
assigned_node n at word.Keyed (Then computed (Then key (Then target End))) = refl
assigned_node n at word.Keyed _ = refl
assigned_node n at word.Rest (Then target End) = refl
assigned_node n at word.Rest _ = refl
assigned_node n at _ parts = refl

pub node_assigned : (n : Names) (at : At) (w : Word) (parts : List Numbered) (out new : List ℕ)
    → new ≡ out ++ assigned_as n at (pieces_of (map syntax parts)) (target_role w)
    → new ≡ out ++ assigned_by n (syntax (numbered.Node at w parts))
node_assigned n at w parts out new e =
    let ps = pieces_of (map syntax parts) in
    adds_some (assigned_by n) out new (numbered.Node at w parts) _ (syntax_node at w parts)
    (e ∙ ap (λ l. out ++ l) (assigned_node n at w ps))

pub list_assigned : (n : Names) (items : List Numbered) (out : List ℕ) → out ≡ out ++ assigned_by n (syntax (numbered.List items))
list_assigned n items out = adds_none (assigned_by n) out (numbered.List items) _ (syntax_list items) refl

pub text_assigned : (n : Names) (text out : List ℕ) → out ≡ out ++ assigned_by n (syntax (numbered.Text text))
text_assigned n text out = adds_none (assigned_by n) out (numbered.Text text) _ (syntax_text text) refl

pub number_assigned : (n : Names) (number : ℕ) (out : List ℕ) → out ≡ out ++ assigned_by n (syntax (numbered.Number number))
number_assigned n number out = adds_none (assigned_by n) out (numbered.Number number) _ (syntax_number number) refl

pub flag_assigned : (n : Names) (flag : Bool) (out : List ℕ) → out ≡ out ++ assigned_by n (syntax (numbered.Flag flag))
flag_assigned n flag out = adds_none (assigned_by n) out (numbered.Flag flag) _ (syntax_flag flag) refl

pub absent_assigned : (n : Names) (out : List ℕ) → out ≡ out ++ assigned_by n (syntax numbered.Absent)
absent_assigned n out = adds_none (assigned_by n) out numbered.Absent _ syntax_absent refl

pub ruleset by_form = (node_assigned, list_assigned, text_assigned, number_assigned, flag_assigned, absent_assigned)

pub as_name : (n : Names) (at : At) (parts : Pieces) (name out new : List ℕ) → Some name ≡ said_only parts
    → new ≡ out ++ local_of (n.meaning at.reference.0 name) → new ≡ out ++ assigned_as n at parts role.Name
as_name n at parts name out new is e = e ∙ ap (λ o. out ++ of_item [] (λ name. local_of (n.meaning at.reference.0 name)) o) is

pub as_no_name : (n : Names) (at : At) (parts : Pieces) (out : List ℕ) → None ≡ said_only parts
    → out ≡ out ++ assigned_as n at parts role.Name
as_no_name n at parts out is = sym (append-nil out) ∙ ap (λ o. out ++ of_item [] (λ name. local_of (n.meaning at.reference.0 name)) o) is

pub as_items : (n : Names) (at : At) (parts items : Pieces) (rest : Syntax) (out o1 o2 : List ℕ)
    → Some (items, rest) ≡ items_and_rest parts → o1 ≡ out ++ assigned_among n items → o2 ≡ o1 ++ assigned_by n rest
    → o2 ≡ out ++ assigned_as n at parts role.Items
as_items n at parts items rest out o1 o2 is e1 e2 =
    adds_both out o1 o2 (assigned_among n items) (assigned_by n rest) e1 e2
    ∙ ap (λ (o : Option (Pieces × Syntax)). out ++ of_item [] (λ p. assigned_among n p.0 ++ assigned_by n p.1) o) is

pub as_no_items : (n : Names) (at : At) (parts : Pieces) (out : List ℕ) → None ≡ items_and_rest parts
    → out ≡ out ++ assigned_as n at parts role.Items
as_no_items n at parts out is =
    sym (append-nil out) ∙ ap
    (λ (o : Option (Pieces × Syntax)). out ++ of_item [] (λ p. assigned_among n p.0 ++ assigned_by n p.1) o) is

pub as_part : (n : Names) (at : At) (p : Part) (parts : Pieces) (t : Syntax) (out new : List ℕ) → Some t ≡ part_at p parts
    → new ≡ out ++ assigned_by n t → new ≡ out ++ assigned_as n at parts (role.Part p)
as_part n at p parts t out new is e = e ∙ ap (λ o. out ++ of_item [] (assigned_by n) o) is

pub as_no_part : (n : Names) (at : At) (p : Part) (parts : Pieces) (out : List ℕ) → None ≡ part_at p parts
    → out ≡ out ++ assigned_as n at parts (role.Part p)
as_no_part n at p parts out is = sym (append-nil out) ∙ ap (λ o. out ++ of_item [] (assigned_by n) o) is

pub as_nothing : (n : Names) (at : At) (parts : Pieces) (out : List ℕ) → out ≡ out ++ assigned_as n at parts role.Nothing
as_nothing n at parts out = sym (append-nil out)

pub ruleset by_role = (as_name, as_no_name, as_items, as_no_items, as_part, as_no_part, as_nothing)

target_node : (n : Names) (at : At) (w : Word) (parts : Pieces) → assigned_head n w parts ≡ assigned_at n (Node at w parts)
target_node n at word.Assign (Then operator (Then target parts)) = refl
target_node n at word.Assign _ = refl
target_node n at word.Update (Then operator (Then prefix (Then target End))) = refl
target_node n at word.Update _ = refl
target_node n at word.Forin (Then head parts) = refl
target_node n at word.Forin End = refl
target_node n at word.Forof (Then is_await (Then head parts)) = refl
target_node n at word.Forof _ = refl
target_node n at _ parts = refl

pub head_some : (n : Names) (w : Word) (parts : Pieces) (t : Syntax) (out new : List ℕ) → Some t ≡ target_of w parts
    → new ≡ out ++ assigned_by n t → new ≡ out ++ assigned_head n w parts
head_some n w parts t out new is e = e ∙ ap (λ o. out ++ of_item [] (assigned_by n) o) is

pub head_none : (n : Names) (w : Word) (parts : Pieces) (out : List ℕ) → None ≡ target_of w parts → out ≡ out ++ assigned_head n w parts
head_none n w parts out is = sym (append-nil out) ∙ ap (λ o. out ++ of_item [] (assigned_by n) o) is

pub ruleset head = (head_some, head_none)

pub at_target : (n : Names) (at : At) (w : Word) (parts : List Numbered) (out new : List ℕ)
    → new ≡ out ++ assigned_head n w (pieces_of (map syntax parts)) → new ≡ out ++ assigned_at n (syntax (numbered.Node at w parts))
at_target n at w parts out new e =
    adds_some (assigned_at n) out new (numbered.Node at w parts) _ (syntax_node at w parts)
    (e ∙ ap (λ l. out ++ l) (target_node n at w (pieces_of (map syntax parts))))

pub at_list : (n : Names) (items : List Numbered) (out : List ℕ) → out ≡ out ++ assigned_at n (syntax (numbered.List items))
at_list n items out = adds_none (assigned_at n) out (numbered.List items) _ (syntax_list items) refl

pub at_text : (n : Names) (text out : List ℕ) → out ≡ out ++ assigned_at n (syntax (numbered.Text text))
at_text n text out = adds_none (assigned_at n) out (numbered.Text text) _ (syntax_text text) refl

pub at_number : (n : Names) (number : ℕ) (out : List ℕ) → out ≡ out ++ assigned_at n (syntax (numbered.Number number))
at_number n number out = adds_none (assigned_at n) out (numbered.Number number) _ (syntax_number number) refl

pub at_flag : (n : Names) (flag : Bool) (out : List ℕ) → out ≡ out ++ assigned_at n (syntax (numbered.Flag flag))
at_flag n flag out = adds_none (assigned_at n) out (numbered.Flag flag) _ (syntax_flag flag) refl

pub at_absent : (n : Names) (out : List ℕ) → out ≡ out ++ assigned_at n (syntax numbered.Absent)
at_absent n out = adds_none (assigned_at n) out numbered.Absent _ syntax_absent refl

pub ruleset at_node = (at_target, at_list, at_text, at_number, at_flag, at_absent)
