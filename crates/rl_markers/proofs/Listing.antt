-- The lists of statements of a tree, by its form and by its word.
use Rattle.std.proofs.Common.{◌≡◌, ◌<◌, arith, ℕ, Bool, true, false, if◌then◌else◌, Some, None, List, [], ◌++◌, map, append-nil}
use Rattle.std.proofs.Common.{ap, sym, refl, ◌∙◌}
use Rattle.rl_code.proofs.Adding.{adds_both, adds_none, adds_some}
use Rattle.rl_code.proofs.FunctionParts.{no_parts, parts_are}
use Rattle.rl_code.specs.Parts.{parts_of_function}
use Rattle.rl_markers.proofs.Pairs.{first_of, second_of}
use Rattle.rl_markers.specs.Parts.{block_list, body_statements, catch_list}
use Rattle.rl_model.specs.Code.{is_no_code}
use Rattle.rl_model.specs.Hoisting.{StatementList, body_list, list_of, lists_among, lists_in}
use Rattle.rl_names.specs.Functions.{body_in}
use Rattle.rl_syntax.specs.Sizes.{size, size_of}
use Rattle.rl_syntax.specs.Syntax.{Syntax, Node, Listed, Pieces, End, Then, pieces_of, syntax}
use Rattle.rl_syntax.specs.declared.numbered.At.{At}
use Rattle.rl_syntax.specs.declared.numbered.Numbered.{Numbered}
use Rattle.rl_syntax.specs.declared.numbered.Numbered.TheVariants as numbered
use Rattle.rl_syntax.specs.declared.word.Word.{Word}
use Rattle.rl_syntax.specs.declared.word.Word.TheVariants as word
use Rattle.rl_syntax.proofs.Layers.{syntax_node, syntax_list, syntax_text, syntax_number, syntax_flag, syntax_absent}

pub node_listed : (at : At) (w : Word) (parts : List Numbered) (out new : List StatementList)
    → new ≡ out ++ lists_in (Node at w (pieces_of (map syntax parts))) → new ≡ out ++ lists_in (syntax (numbered.Node at w parts))
node_listed at w parts out new e = adds_some lists_in out new (numbered.Node at w parts) _ (syntax_node at w parts) e

pub list_listed : (items : List Numbered) (out new : List StatementList) → new ≡ out ++ lists_among (pieces_of (map syntax items))
    → new ≡ out ++ lists_in (syntax (numbered.List items))
list_listed items out new e = adds_some lists_in out new (numbered.List items) _ (syntax_list items) e

pub text_listed : (text : List ℕ) (out : List StatementList) → out ≡ out ++ lists_in (syntax (numbered.Text text))
text_listed text out = adds_none lists_in out (numbered.Text text) _ (syntax_text text) refl

pub number_listed : (number : ℕ) (out : List StatementList) → out ≡ out ++ lists_in (syntax (numbered.Number number))
number_listed number out = adds_none lists_in out (numbered.Number number) _ (syntax_number number) refl

pub flag_listed : (flag : Bool) (out : List StatementList) → out ≡ out ++ lists_in (syntax (numbered.Flag flag))
flag_listed flag out = adds_none lists_in out (numbered.Flag flag) _ (syntax_flag flag) refl

pub absent_listed : (out : List StatementList) → out ≡ out ++ lists_in (syntax numbered.Absent)
absent_listed out = adds_none lists_in out numbered.Absent _ syntax_absent refl

pub ruleset by_form = (node_listed, list_listed, text_listed, number_listed, flag_listed, absent_listed)

-- The list of a body.
body_is : (at : At) (body : Syntax) (statements : Pieces) → Some statements ≡ body_statements body → list_of at statements ≡ body_list at body
body_is at (Node there word.Body (Then directives (Then (Listed items) End))) statements is =
    let same : statements ≡ items = cc in ap (λ s. list_of at s) same
body_is at _ statements is = absurd (cc)

body_is_none : (at : At) (body : Syntax) → None ≡ body_statements body → [] ≡ body_list at body
body_is_none at (Node there word.Body (Then directives (Then (Listed items) End))) none = absurd (cc)
body_is_none at _ none = refl

pub some_body : (at : At) (tree params body : Syntax) (statements : Pieces) (out new : List StatementList)
    → Some (params, body) ≡ parts_of_function tree → Some statements ≡ body_statements body → new ≡ out ++ list_of at statements
    → new ≡ out ++ body_list at (body_in tree)
some_body at tree params body statements out new is found e =
    let both = parts_are tree params body is in
    e ∙ ap (λ l. out ++ l) (body_is at body statements found) ∙ ap (λ t. out ++ body_list at t) (sym both.1)

pub no_body : (at : At) (tree params body : Syntax) (out : List StatementList) → Some (params, body) ≡ parts_of_function tree
    → None ≡ body_statements body → out ≡ out ++ body_list at (body_in tree)
no_body at tree params body out is none =
    let both = parts_are tree params body is in
    sym (append-nil out) ∙ ap (λ l. out ++ l) (body_is_none at body none) ∙ ap (λ t. out ++ body_list at t) (sym both.1)

pub no_function : (at : At) (tree : Syntax) (out : List StatementList) → None ≡ parts_of_function tree
    → out ≡ out ++ body_list at (body_in tree)
no_function at tree out none =
    let both = no_parts tree none in sym (append-nil out) ∙ ap (λ t. out ++ body_list at t) (sym both.1)

pub ruleset bodies = (some_body, no_body, no_function)

-- By the word of a node.
block_is : (at : At) (w : Word) (parts statements : Pieces) → Some statements ≡ block_list w parts
    → list_of at statements ++ lists_among statements ≡ lists_in (Node at w parts)
block_is at word.Block (Then (Listed items) End) statements is =
    let same : statements ≡ items = cc in ap (λ s. list_of at s ++ lists_among s) same
block_is at word.Block _ statements is = absurd (cc)
block_is at _ parts statements is = absurd (cc)

pub block_listed : (at : At) (w : Word) (parts statements : Pieces) (out o1 new : List StatementList) → Some statements ≡ block_list w parts
    → o1 ≡ out ++ list_of at statements → new ≡ o1 ++ lists_among statements → new ≡ out ++ lists_in (Node at w parts)
block_listed at w parts statements out o1 new is e1 e2 =
    adds_both out o1 new (list_of at statements) (lists_among statements) e1 e2 ∙ ap (λ l. out ++ l) (block_is at w parts statements is)

catch_is : (at : At) (w : Word) (parts statements : Pieces) (param : Syntax) → Some (param, statements) ≡ catch_list w parts
    → list_of at statements ++ lists_in param ++ lists_among statements ≡ lists_in (Node at w parts)
catch_is at word.Catch (Then p (Then (Node there word.Block (Then (Listed items) End)) End)) statements param is =
    let same : statements ≡ items = second_of (param, statements) (p, items) is in
    let first : param ≡ p = first_of (param, statements) (p, items) is in
    ap (λ s. list_of at s ++ lists_in param ++ lists_among s) same ∙ ap (λ t. list_of at items ++ lists_in t ++ lists_among items) first
catch_is at word.Catch (Then p (Then body (Then next rest))) statements param is = absurd (cc)
catch_is at word.Catch (Then p End) statements param is = absurd (cc)
catch_is at word.Catch End statements param is = absurd (cc)
catch_is at word.Catch _ statements param is = absurd (cc)
catch_is at _ parts statements param is = absurd (cc)

pub catch_listed : (at : At) (w : Word) (parts statements : Pieces) (param : Syntax) (out o1 o2 new : List StatementList)
    → Some (param, statements) ≡ catch_list w parts → o1 ≡ out ++ list_of at statements → o2 ≡ o1 ++ lists_in param
    → new ≡ o2 ++ lists_among statements → new ≡ out ++ lists_in (Node at w parts)
catch_listed at w parts statements param out o1 o2 new is e1 e2 e3 =
    adds_both out o2 new (list_of at statements ++ lists_in param) (lists_among statements)
    (adds_both out o1 o2 (list_of at statements) (lists_in param) e1 e2) e3
    ∙ ap (λ l. out ++ l) (catch_is at w parts statements param is)

other_is : (at : At) (w : Word) (parts : Pieces) → None ≡ block_list w parts → None ≡ catch_list w parts
    → (if is_no_code w parts then [] else body_list at (body_in (Node at w parts)) ++ lists_among parts) ≡ lists_in (Node at w parts)
other_is at word.Block (Then (Listed items) End) no_block no_catch = absurd (cc)
other_is at word.Block _ no_block no_catch = refl
other_is at word.Catch (Then p (Then (Node there word.Block (Then (Listed items) End)) End)) no_block no_catch = absurd (cc)
other_is at word.Catch _ no_block no_catch = refl
other_is at _ parts no_block no_catch = refl

pub no_code_listed : (at : At) (w : Word) (parts : Pieces) (out : List StatementList) → None ≡ block_list w parts
    → None ≡ catch_list w parts → is_no_code w parts ≡ true → out ≡ out ++ lists_in (Node at w parts)
no_code_listed at w parts out no_block no_catch is =
    sym (append-nil out)
    ∙ ap (λ (b : Bool). out ++ (if b then [] else body_list at (body_in (Node at w parts)) ++ lists_among parts)) (sym is)
    ∙ ap (λ l. out ++ l) (other_is at w parts no_block no_catch)

pub other_listed : (at : At) (w : Word) (parts : Pieces) (tree : Syntax) (out o1 new : List StatementList) → tree ≡ Node at w parts
    → None ≡ block_list w parts → None ≡ catch_list w parts → is_no_code w parts ≡ false → o1 ≡ out ++ body_list at (body_in tree)
    → new ≡ o1 ++ lists_among parts → new ≡ out ++ lists_in (Node at w parts)
other_listed at w parts tree out o1 new is no_block no_catch not e1 e2 =
    adds_both out o1 new (body_list at (body_in tree)) (lists_among parts) e1 e2
    ∙ ap (λ t. out ++ (body_list at (body_in t) ++ lists_among parts)) is
    ∙ ap (λ (b : Bool). out ++ (if b then [] else body_list at (body_in (Node at w parts)) ++ lists_among parts)) (sym not)
    ∙ ap (λ l. out ++ l) (other_is at w parts no_block no_catch)

pub ruleset by_word = (block_listed, catch_listed, no_code_listed, other_listed)

-- Parts are smaller.
pub block_smaller : (w : Word) (parts statements : Pieces) → Some statements ≡ block_list w parts → size_of statements < size_of parts
block_smaller word.Block (Then (Listed items) End) statements is = let same : statements ≡ items = cc in omega (arith, ap size_of same)
block_smaller word.Block _ statements is = absurd (cc)
block_smaller _ parts statements is = absurd (cc)

pub catch_smaller : (w : Word) (parts statements : Pieces) (param : Syntax) → Some (param, statements) ≡ catch_list w parts
    → size_of statements < size_of parts
catch_smaller word.Catch (Then p (Then (Node there word.Block (Then (Listed items) End)) End)) statements param is =
    let same : statements ≡ items = second_of (param, statements) (p, items) is in omega (arith, ap size_of same)
catch_smaller word.Catch (Then p (Then body (Then next rest))) statements param is = absurd (cc)
catch_smaller word.Catch (Then p End) statements param is = absurd (cc)
catch_smaller word.Catch End statements param is = absurd (cc)
catch_smaller word.Catch _ statements param is = absurd (cc)
catch_smaller _ parts statements param is = absurd (cc)

pub param_smaller : (w : Word) (parts statements : Pieces) (param : Syntax) → Some (param, statements) ≡ catch_list w parts
    → size param < size_of parts
param_smaller word.Catch (Then p (Then (Node there word.Block (Then (Listed items) End)) End)) statements param is =
    let same : param ≡ p = first_of (param, statements) (p, items) is in omega (arith, ap size same)
param_smaller word.Catch (Then p (Then body (Then next rest))) statements param is = absurd (cc)
param_smaller word.Catch (Then p End) statements param is = absurd (cc)
param_smaller word.Catch End statements param is = absurd (cc)
param_smaller word.Catch _ statements param is = absurd (cc)
param_smaller _ parts statements param is = absurd (cc)

pub ruleset smaller = (block_smaller, catch_smaller, param_smaller)
