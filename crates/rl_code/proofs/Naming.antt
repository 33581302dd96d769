-- The variables that a node names, by its form and by its word.
use Rattle.std.proofs.Common.{◌≡◌, ℕ, Bool, true, false, not, if◌then◌else◌, List, [], ◌∷◌, ◌++◌, Option, Some, None, map}
use Rattle.std.proofs.Common.{append-nil, ap, sym, refl, ◌∙◌}
use Rattle.rl_base.specs.declared.ids.SymbolId.{SymbolId}
use Rattle.rl_code.specs.Heads.{bound_part, is_id, named_as, stored_as, tag_as, tag_part, used_as}
use Rattle.rl_code.specs.Parts.{both, name_of, said_only}
use Rattle.rl_code.proofs.Adding.{adds_none, adds_some}
use Rattle.rl_model.specs.Code.{bound_by, builtin_tag_at, code_of, contains, declared_by, flat, function_names_at, is_builtin_tag}
use Rattle.rl_model.specs.Code.{local_of, named_at, named_in}
use Rattle.rl_model.specs.Shapes.{is_capital}
use Rattle.rl_names.specs.Names.{Names, at_of}
use Rattle.rl_semantic.specs.Items.{of_item}
use Rattle.rl_syntax.specs.Syntax.{Syntax, Node, Said, Flag, Absent, Pieces, End, Then, pieces_of, syntax}
use Rattle.rl_syntax.specs.declared.numbered.At.{At}
use Rattle.rl_syntax.specs.declared.numbered.Numbered.{Numbered}
use Rattle.rl_syntax.specs.declared.numbered.Numbered.TheVariants as numbered
use Rattle.rl_syntax.specs.declared.word.Word.{Word}
use Rattle.rl_syntax.specs.declared.word.Word.TheVariants as word
use Rattle.rl_syntax.proofs.Layers.{syntax_node, syntax_list, syntax_text, syntax_number, syntax_flag, syntax_absent}

pub builtin_said : (at : At) (w : Word) (parts : Pieces) (name : List ℕ) → is_id w ≡ true → Some name ≡ said_only parts
    → not (is_capital name) ≡ is_builtin_tag (Node at w parts)
builtin_said at word.Id (Then (Said n) End) name is said = let same : name ≡ n = cc in ap (λ s. not (is_capital s)) same
builtin_said at word.Id _ name is said = absurd (cc)
builtin_said at _ parts name is said = absurd (cc)

pub builtin_unsaid : (at : At) (w : Word) (parts : Pieces) → is_id w ≡ true → None ≡ said_only parts
    → false ≡ is_builtin_tag (Node at w parts)
builtin_unsaid at word.Id (Then (Said n) End) is none = absurd (cc)
builtin_unsaid at word.Id _ is none = refl
builtin_unsaid at _ parts is none = absurd (cc)

pub builtin_other : (at : At) (w : Word) (parts : Pieces) → is_id w ≡ false → false ≡ is_builtin_tag (Node at w parts)
builtin_other at word.Id parts fails = absurd (cc)
builtin_other at _ parts fails = refl

pub ruleset builtin = (builtin_said, builtin_unsaid, builtin_other)

pub tag_builtin : (w : Word) (parts : Pieces) (t : Syntax) (out new : List ℕ) → Some t ≡ tag_part w parts → is_builtin_tag t ≡ true
    → new ≡ out ++ (at_of t).id.0 ∷ [] → new ≡ out ++ tag_as w parts
tag_builtin w parts t out new is holds e =
    e ∙ ap (λ (b : Bool). out ++ (if b then (at_of t).id.0 ∷ [] else [])) (sym holds)
    ∙ ap (λ o. out ++ of_item [] (λ tag. if is_builtin_tag tag then (at_of tag).id.0 ∷ [] else []) o) is

pub tag_other : (w : Word) (parts : Pieces) (t : Syntax) (out : List ℕ) → Some t ≡ tag_part w parts → is_builtin_tag t ≡ false
    → out ≡ out ++ tag_as w parts
tag_other w parts t out is fails =
    sym (append-nil out) ∙ ap (λ (b : Bool). out ++ (if b then (at_of t).id.0 ∷ [] else [])) (sym fails)
    ∙ ap (λ o. out ++ of_item [] (λ tag. if is_builtin_tag tag then (at_of tag).id.0 ∷ [] else []) o) is

pub tag_none : (w : Word) (parts : Pieces) (out : List ℕ) → None ≡ tag_part w parts → out ≡ out ++ tag_as w parts
tag_none w parts out none =
    sym (append-nil out) ∙ ap (λ o. out ++ of_item [] (λ tag. if is_builtin_tag tag then (at_of tag).id.0 ∷ [] else []) o) none

pub ruleset tag = (tag_builtin, tag_other, tag_none)

tag_node : (at : At) (w : Word) (parts : Pieces) → tag_as w parts ≡ builtin_tag_at (Node at w parts)
tag_node at word.Opening (Then tag parts) = refl
tag_node at word.Opening End = refl
tag_node at _ parts = refl

pub node_tag : (at : At) (w : Word) (parts : List Numbered) (out new : List ℕ) → new ≡ out ++ tag_as w (pieces_of (map syntax parts))
    → new ≡ out ++ builtin_tag_at (syntax (numbered.Node at w parts))
node_tag at w parts out new e =
    adds_some builtin_tag_at out new (numbered.Node at w parts) _ (syntax_node at w parts)
    (e ∙ ap (λ l. out ++ l) (tag_node at w (pieces_of (map syntax parts))))

pub list_tag : (items : List Numbered) (out : List ℕ) → out ≡ out ++ builtin_tag_at (syntax (numbered.List items))
list_tag items out = adds_none builtin_tag_at out (numbered.List items) _ (syntax_list items) refl

pub text_tag : (text out : List ℕ) → out ≡ out ++ builtin_tag_at (syntax (numbered.Text text))
text_tag text out = adds_none builtin_tag_at out (numbered.Text text) _ (syntax_text text) refl

pub number_tag : (number : ℕ) (out : List ℕ) → out ≡ out ++ builtin_tag_at (syntax (numbered.Number number))
number_tag number out = adds_none builtin_tag_at out (numbered.Number number) _ (syntax_number number) refl

pub flag_tag : (flag : Bool) (out : List ℕ) → out ≡ out ++ builtin_tag_at (syntax (numbered.Flag flag))
flag_tag flag out = adds_none builtin_tag_at out (numbered.Flag flag) _ (syntax_flag flag) refl

pub absent_tag : (out : List ℕ) → out ≡ out ++ builtin_tag_at (syntax numbered.Absent)
absent_tag out = adds_none builtin_tag_at out numbered.Absent _ syntax_absent refl

pub ruleset tag_form = (node_tag, list_tag, text_tag, number_tag, flag_tag, absent_tag)

pub no_rest : (parts : Pieces) → both parts ≡ None → None ≡ bound_part word.Params parts
no_rest (Then a (Then b End)) none = absurd (cc)
no_rest _ none = refl

pub used_tag : (n : Names) (tags : List ℕ) (at : At) (parts : Pieces) (name out : List ℕ) → Some name ≡ said_only parts
    → contains tags at.id.0 ≡ true → out ≡ out ++ used_as n tags at parts
used_tag n tags at parts name out is holds =
    sym (append-nil out) ∙ ap (λ (b : Bool). out ++ (if b then [] else local_of (n.meaning at.reference.0 name))) (sym holds)
    ∙ ap (λ o. out ++ of_item [] (λ name. if contains tags at.id.0 then [] else local_of (n.meaning at.reference.0 name)) o) is

pub used_name : (n : Names) (tags : List ℕ) (at : At) (parts : Pieces) (name out new : List ℕ) → Some name ≡ said_only parts
    → contains tags at.id.0 ≡ false → new ≡ out ++ local_of (n.meaning at.reference.0 name) → new ≡ out ++ used_as n tags at parts
used_name n tags at parts name out new is fails e =
    e ∙ ap (λ (b : Bool). out ++ (if b then [] else local_of (n.meaning at.reference.0 name))) (sym fails)
    ∙ ap (λ o. out ++ of_item [] (λ name. if contains tags at.id.0 then [] else local_of (n.meaning at.reference.0 name)) o) is

pub used_none : (n : Names) (tags : List ℕ) (at : At) (parts : Pieces) (out : List ℕ) → None ≡ said_only parts
    → out ≡ out ++ used_as n tags at parts
used_none n tags at parts out none =
    sym (append-nil out) ∙ ap
    (λ o. out ++ of_item [] (λ name. if contains tags at.id.0 then [] else local_of (n.meaning at.reference.0 name)) o) none

pub ruleset used = (used_tag, used_name, used_none)

pub named_id : (n : Names) (tags : List ℕ) (at : At) (w : Word) (parts : Pieces) (out new : List ℕ) → is_id w ≡ true
    → new ≡ out ++ used_as n tags at parts → new ≡ out ++ named_as n tags at w parts
named_id n tags at w parts out new holds e =
    e ∙ ap (λ (b : Bool). out ++ (if b then used_as n tags at parts else of_item [] (bound_by n) (bound_part w parts))) (sym holds)

pub named_bound : (n : Names) (tags : List ℕ) (at : At) (w : Word) (parts : Pieces) (t : Syntax) (out new : List ℕ) → is_id w ≡ false
    → Some t ≡ bound_part w parts → new ≡ out ++ bound_by n t → new ≡ out ++ named_as n tags at w parts
named_bound n tags at w parts t out new fails is e =
    e ∙ ap (λ o. out ++ of_item [] (bound_by n) o) is
    ∙ ap (λ (b : Bool). out ++ (if b then used_as n tags at parts else of_item [] (bound_by n) (bound_part w parts))) (sym fails)

pub named_none : (n : Names) (tags : List ℕ) (at : At) (w : Word) (parts : Pieces) (out : List ℕ) → is_id w ≡ false
    → None ≡ bound_part w parts → out ≡ out ++ named_as n tags at w parts
named_none n tags at w parts out fails none =
    sym (append-nil out) ∙ ap (λ o. out ++ of_item [] (bound_by n) o) none
    ∙ ap (λ (b : Bool). out ++ (if b then used_as n tags at parts else of_item [] (bound_by n) (bound_part w parts))) (sym fails)

pub ruleset named = (named_id, named_bound, named_none)

named_node : (n : Names) (tags : List ℕ) (at : At) (w : Word) (parts : Pieces)
    → named_as n tags at w parts ≡ named_at n tags (Node at w parts)
named_node n tags at word.Id (Then (Said name) End) = refl
named_node n tags at word.Id _ = refl
named_node n tags at word.Param (Then pattern parts) = refl
named_node n tags at word.Param End = refl
named_node n tags at word.Params (Then params (Then rest End)) = refl
named_node n tags at word.Params _ = refl
named_node n tags at word.Declarator (Then pattern parts) = refl
named_node n tags at word.Declarator End = refl
named_node n tags at word.Catch (Then pattern parts) = refl
named_node n tags at word.Catch End = refl
named_node n tags at _ parts = refl

pub node_named : (n : Names) (tags : List ℕ) (at : At) (w : Word) (parts : List Numbered) (out new : List ℕ)
    → new ≡ out ++ named_as n tags at w (pieces_of (map syntax parts))
    → new ≡ out ++ named_at n tags (syntax (numbered.Node at w parts))
node_named n tags at w parts out new e =
    adds_some (named_at n tags) out new (numbered.Node at w parts) _ (syntax_node at w parts)
    (e ∙ ap (λ l. out ++ l) (named_node n tags at w (pieces_of (map syntax parts))))

pub list_named : (n : Names) (tags : List ℕ) (items : List Numbered) (out : List ℕ)
    → out ≡ out ++ named_at n tags (syntax (numbered.List items))
list_named n tags items out = adds_none (named_at n tags) out (numbered.List items) _ (syntax_list items) refl

pub text_named : (n : Names) (tags text out : List ℕ) → out ≡ out ++ named_at n tags (syntax (numbered.Text text))
text_named n tags text out = adds_none (named_at n tags) out (numbered.Text text) _ (syntax_text text) refl

pub number_named : (n : Names) (tags : List ℕ) (number : ℕ) (out : List ℕ) → out ≡ out ++ named_at n tags (syntax (numbered.Number number))
number_named n tags number out = adds_none (named_at n tags) out (numbered.Number number) _ (syntax_number number) refl

pub flag_named : (n : Names) (tags : List ℕ) (flag : Bool) (out : List ℕ) → out ≡ out ++ named_at n tags (syntax (numbered.Flag flag))
flag_named n tags flag out = adds_none (named_at n tags) out (numbered.Flag flag) _ (syntax_flag flag) refl

pub absent_named : (n : Names) (tags out : List ℕ) → out ≡ out ++ named_at n tags (syntax numbered.Absent)
absent_named n tags out = adds_none (named_at n tags) out numbered.Absent _ syntax_absent refl

pub ruleset named_form = (node_named, list_named, text_named, number_named, flag_named, absent_named)

pub named_all : (n : Names) (f : Syntax) (nodes : List Syntax) (tags out new : List ℕ) → nodes ≡ code_of f
    → tags ≡ flat builtin_tag_at nodes → new ≡ out ++ flat (named_at n tags) nodes → new ≡ out ++ named_in n f
named_all n f nodes tags out new are from e =
    e ∙ ap (λ ts. out ++ flat (named_at n ts) nodes) from ∙ ap
    (λ (ns : List Syntax). out ++ flat (named_at n (flat builtin_tag_at ns)) ns) are

stored_node : (stored : ℕ → Option SymbolId) (at : At) (w : Word) (parts : Pieces)
    → stored_as stored (name_of w parts) ≡ function_names_at stored (Node at w parts)
stored_node stored at word.Fundecl (Then marked (Then is_async (Then generator (Then name parts)))) = refl
stored_node stored at word.Fundecl _ = refl
stored_node stored at _ parts = refl

pub name_stored : (stored : ℕ → Option SymbolId) (names : List Syntax) (name : Syntax) (out new : List ℕ) → names ≡ name ∷ []
    → new ≡ out ++ declared_by (stored (at_of name).id.0) → new ≡ out ++ stored_as stored names
name_stored stored names name out new is e = e ∙ ap (λ l. out ++ stored_as stored l) (sym is)

pub none_stored : (stored : ℕ → Option SymbolId) (names : List Syntax) (out : List ℕ) → names ≡ [] → out ≡ out ++ stored_as stored names
none_stored stored names out none = sym (append-nil out) ∙ ap (λ l. out ++ stored_as stored l) (sym none)

pub node_stored : (stored : ℕ → Option SymbolId) (at : At) (w : Word) (parts : List Numbered) (out new : List ℕ)
    → new ≡ out ++ stored_as stored (name_of w (pieces_of (map syntax parts)))
    → new ≡ out ++ function_names_at stored (syntax (numbered.Node at w parts))
node_stored stored at w parts out new e =
    adds_some (function_names_at stored) out new (numbered.Node at w parts) _ (syntax_node at w parts)
    (e ∙ ap (λ l. out ++ l) (stored_node stored at w (pieces_of (map syntax parts))))

pub list_stored : (stored : ℕ → Option SymbolId) (items : List Numbered) (out : List ℕ)
    → out ≡ out ++ function_names_at stored (syntax (numbered.List items))
list_stored stored items out = adds_none (function_names_at stored) out (numbered.List items) _ (syntax_list items) refl

pub text_stored : (stored : ℕ → Option SymbolId) (text out : List ℕ) → out ≡ out ++ function_names_at stored (syntax (numbered.Text text))
text_stored stored text out = adds_none (function_names_at stored) out (numbered.Text text) _ (syntax_text text) refl

pub number_stored : (stored : ℕ → Option SymbolId) (number : ℕ) (out : List ℕ)
    → out ≡ out ++ function_names_at stored (syntax (numbered.Number number))
number_stored stored number out = adds_none (function_names_at stored) out (numbered.Number number) _ (syntax_number number) refl

pub flag_stored : (stored : ℕ → Option SymbolId) (flag : Bool) (out : List ℕ)
    → out ≡ out ++ function_names_at stored (syntax (numbered.Flag flag))
flag_stored stored flag out = adds_none (function_names_at stored) out (numbered.Flag flag) _ (syntax_flag flag) refl

pub absent_stored : (stored : ℕ → Option SymbolId) (out : List ℕ) → out ≡ out ++ function_names_at stored (syntax numbered.Absent)
absent_stored stored out = adds_none (function_names_at stored) out numbered.Absent _ syntax_absent refl
