-- Tags that are looked for: lists that grow by them, and trees by their forms.
use Rattle.std.proofs.Common.{◌≡◌, ◌<◌, ℕ, nat_le, ◌+◌, Bool, true, false, cond, if◌then◌else◌, Option, Some, None, List, [], ◌∷◌}
use Rattle.std.proofs.Common.{◌++◌, map, append-nil, length, ap, sym, refl, arith, ◌∙◌}
use Rattle.std.proofs.Math.Dec.{leb-suc-suc, leb-suc-zero}
use Rattle.std.specs.List.{filter}
use Rattle.std.specs.Str.{bytes_eq}
use Rattle.rl_code.specs.Parts.{both}
use Rattle.rl_code.proofs.Adding.{adds_both, adds_none, adds_some}
use Rattle.rl_code.proofs.Smaller.{only_smaller, unpacked}
use Rattle.rl_model.specs.Fbt.{found_among, found_in, found_in_statements, is_single, keeps_fbt, named_in}
use Rattle.rl_row_forms.specs.Shaped.{first_two, fourth, items_in, said_pair}
use Rattle.rl_rows.specs.Finds.{found_among_statements, found_by, found_in_element, found_in_opening, found_in_value, is_fragment, last_two}
use Rattle.rl_rows.specs.Finds.{element_in, element_of, found_in_parts, look_of, named, opening_in, returned_in, said_both, same_named}
use Rattle.rl_rows.specs.Finds.{clear_fbt, is_single_yet, second_items, statements_in, two_said}
use Rattle.rl_semantic.specs.Items.{of_item}
use Rattle.rl_syntax.specs.Sizes.{size, size_of}
use Rattle.rl_syntax.specs.Syntax.{Syntax, Node, Listed, Said, Pieces, End, Then, pieces_of, syntax}
use Rattle.rl_syntax.specs.declared.numbered.At.{At}
use Rattle.rl_syntax.specs.declared.numbered.Numbered.{Numbered}
use Rattle.rl_syntax.specs.declared.numbered.Numbered.TheVariants as numbered
use Rattle.rl_syntax.specs.declared.word.Word.{Word}
use Rattle.rl_syntax.specs.declared.word.Word.TheVariants as word
use Rattle.rl_syntax.proofs.Layers.{syntax_node, syntax_list, syntax_text, syntax_number, syntax_flag, syntax_absent}

pub add_some : {X Y : Type 0} (other : List Y) (f : X → List Y) (o : Option X) (x : X) (out new : List Y) → Some x ≡ o
    → new ≡ out ++ f x → new ≡ out ++ of_item other f o
add_some other f o x out new is e = e ∙ ap (λ p. out ++ of_item other f p) is

pub add_none : {X Y : Type 0} (f : X → List Y) (o : Option X) (out : List Y) → None ≡ o → out ≡ out ++ of_item [] f o
add_none f o out is = sym (append-nil out) ∙ ap (λ p. out ++ of_item [] f p) is

pub add_else : {X Y : Type 0} (other : List Y) (f : X → List Y) (o : Option X) (out new : List Y) → None ≡ o → new ≡ out ++ other
    → new ≡ out ++ of_item other f o
add_else other f o out new is e = e ∙ ap (λ p. out ++ of_item other f p) is

pub ruleset adding = (add_some, add_none, add_else)

pub two_added : {Y : Type 0} (out mid new a b : List Y) → mid ≡ out ++ a → new ≡ mid ++ b → new ≡ out ++ (a ++ b)
two_added out mid new a b first second = adds_both out mid new a b first second

pub ruleset two = (two_added)

pub opened_element : (namespace : List ℕ) (opening children tag attributes : Syntax) (out o1 o2 o3 : List (List ℕ))
    → Some (tag, attributes) ≡ opening_in opening → o1 ≡ out ++ named namespace tag → o2 ≡ o1 ++ found_in namespace children
    → o3 ≡ o2 ++ found_in namespace attributes → o3 ≡ out ++ found_in_element namespace opening children
opened_element namespace opening children tag attributes out o1 o2 o3 is e1 e2 e3 =
    let above = adds_both out o1 o2 (named namespace tag) (found_in namespace children) e1 e2 in
    add_some {X = Syntax × Syntax} [] (found_in_opening namespace children) (opening_in opening) (tag, attributes) out o3 is
    (adds_both out o2 o3 (named namespace tag ++ found_in namespace children) (found_in namespace attributes) above e3)

pub ruleset opened = (opened_element)

pub value_fragment : (namespace : List ℕ) (value : Syntax) (out : List (List ℕ)) → is_fragment value ≡ true
    → out ≡ out ++ found_in_value namespace value
value_fragment namespace value out is =
    sym (append-nil out) ∙ ap (λ (b : Bool). out ++ (if b then [] else found_in namespace value)) (sym is)

pub value_other : (namespace : List ℕ) (value : Syntax) (out new : List (List ℕ)) → is_fragment value ≡ false
    → new ≡ out ++ found_in namespace value → new ≡ out ++ found_in_value namespace value
value_other namespace value out new is e = e ∙ ap (λ (b : Bool). out ++ (if b then [] else found_in namespace value)) (sym is)

pub ruleset values = (value_fragment, value_other)

pub name_same : (namespace first name : List ℕ) (out new : List (List ℕ)) → bytes_eq first namespace ≡ true → new ≡ out ++ name ∷ []
    → new ≡ out ++ same_named namespace first name
name_same namespace first name out new is e = e ∙ ap (λ (b : Bool). out ++ (if b then name ∷ [] else [])) (sym is)

pub name_other : (namespace first name : List ℕ) (out : List (List ℕ)) → bytes_eq first namespace ≡ false
    → out ≡ out ++ same_named namespace first name
name_other namespace first name out is = sym (append-nil out) ∙ ap (λ (b : Bool). out ++ (if b then name ∷ [] else [])) (sym is)

pub ruleset names = (name_same, name_other)

named_tag : (namespace : List ℕ) (tag : Syntax) → named namespace tag ≡ named_in namespace tag
named_tag namespace (Node at word.Tagns (Then (Said first) (Then (Said name) End))) = refl
named_tag namespace tag = refl

element_is : (namespace : List ℕ) (opening children : Syntax) (closing : Pieces)
    → found_in_element namespace opening children ≡ found_in_parts namespace (Then opening (Then children closing))
element_is namespace (Node there word.Opening (Then tag (Then attributes End))) children closing = refl
element_is namespace _ children closing = refl

pub parts_some : (namespace : List ℕ) (ps : Pieces) (a b : Syntax) (out new : List (List ℕ)) → Some (a, b) ≡ first_two ps
    → new ≡ out ++ found_in_element namespace a b → new ≡ out ++ found_in_parts namespace ps
parts_some namespace (Then c (Then d closing)) a b out new is e =
    e ∙ ap (λ (p : Syntax × Syntax). out ++ found_in_element namespace p.0 p.1) (unpacked {X = Syntax × Syntax} (a, b) (c, d) is)
    ∙ ap (λ l. out ++ l) (element_is namespace c d closing)
parts_some namespace _ a b out new is e = absurd (cc)

pub parts_none : (namespace : List ℕ) (ps : Pieces) (out : List (List ℕ)) → None ≡ first_two ps → out ≡ out ++ found_in_parts namespace ps
parts_none namespace (Then (Node there word.Opening (Then tag (Then attributes End))) (Then children closing)) out is = absurd (cc)
parts_none namespace (Then first (Then second closing)) out is = absurd (cc)
parts_none namespace _ out is = sym (append-nil out)

pub ruleset parts = (parts_some, parts_none)

texts_is : (first : List ℕ) (b : Syntax) → two_said first b ≡ said_both (Then (Said first) (Then b End))
texts_is first (Said second) = refl
texts_is first _ = refl

pub texts_some : (ps : Pieces) (first : List ℕ) (b : Syntax) (r : Option (List ℕ × List ℕ)) → Some (first, b) ≡ said_pair ps
    → r ≡ two_said first b → r ≡ said_both ps
texts_some (Then (Said text) (Then c End)) first b r is e =
    e ∙ ap (λ (p : List ℕ × Syntax). two_said p.0 p.1) (unpacked {X = List ℕ × Syntax} (first, b) (text, c) is) ∙ texts_is text c
texts_some _ first b r is e = absurd (cc)

pub texts_none : (ps : Pieces) → None ≡ said_pair ps → None ≡ said_both ps
texts_none (Then (Said first) (Then (Said second) End)) is = absurd (cc)
texts_none (Then (Said first) (Then second End)) is = absurd (cc)
texts_none _ is = refl

pub ruleset texts = (texts_some, texts_none)

lists_is : (a b : Syntax) → items_in b ≡ second_items (Then a (Then b End))
lists_is a (Listed items) = refl
lists_is a _ = refl

pub lists_some : (ps : Pieces) (a b : Syntax) (r : Option Pieces) → Some (a, b) ≡ both ps → r ≡ items_in b → r ≡ second_items ps
lists_some (Then c (Then d End)) a b r is e =
    e ∙ ap (λ (p : Syntax × Syntax). items_in p.1) (unpacked {X = Syntax × Syntax} (a, b) (c, d) is) ∙ lists_is c d
lists_some _ a b r is e = absurd (cc)

pub lists_none : (ps : Pieces) → None ≡ both ps → None ≡ second_items ps
lists_none (Then a (Then (Listed items) End)) is = absurd (cc)
lists_none (Then a (Then b End)) is = absurd (cc)
lists_none _ is = refl

pub ruleset lists = (lists_some, lists_none)

name_is : (opening children : Syntax) (closing : Pieces) → element_of opening children ≡ element_in (Then opening (Then children closing))
name_is (Node there word.Opening (Then (Node at word.Tag (Then (Said name) End)) attributes)) children closing = refl
name_is (Node there word.Opening (Then (Node at word.Id (Then (Said name) End)) attributes)) children closing = refl
name_is _ children closing = refl

pub elements_some : (ps : Pieces) (a b : Syntax) (r : Option (List ℕ × Syntax)) → Some (a, b) ≡ first_two ps → r ≡ element_of a b
    → r ≡ element_in ps
elements_some (Then c (Then d closing)) a b r is e =
    e ∙ ap (λ (p : Syntax × Syntax). element_of p.0 p.1) (unpacked {X = Syntax × Syntax} (a, b) (c, d) is) ∙ name_is c d closing
elements_some _ a b r is e = absurd (cc)

pub elements_none : (ps : Pieces) → None ≡ first_two ps → None ≡ element_in ps
elements_none (Then (Node there word.Opening (Then (Node at word.Tag (Then (Said name) End)) attributes)) (Then children closing)) is =
    absurd (cc)
elements_none (Then (Node there word.Opening (Then (Node at word.Id (Then (Said name) End)) attributes)) (Then children closing)) is =
    absurd (cc)
elements_none (Then first (Then second closing)) is = absurd (cc)
elements_none _ is = refl

pub ruleset elements = (elements_some, elements_none)

statements_same : (namespace : List ℕ) (statements : Pieces)
    → found_among_statements namespace statements ≡ found_in_statements namespace statements
statements_same namespace End = refl
statements_same namespace (Then (Node at word.Return (Then expression End)) statements) =
    ap (λ l. found_in namespace expression ++ l) (statements_same namespace statements)
statements_same namespace (Then (Node at word.Expr (Then expression End)) statements) =
    ap (λ l. found_in namespace expression ++ l) (statements_same namespace statements)
statements_same namespace (Then statement statements) = statements_same namespace statements

found_node : (namespace : List ℕ) (at : At) (w : Word) (ps : Pieces)
    → found_by namespace (look_of w) ps ≡ found_in namespace (Node at w ps)
found_node namespace at word.Element
    (Then (Node there word.Opening (Then tag (Then attributes End))) (Then children closing)) =
    ap (λ l. l ++ found_in namespace children ++ found_in namespace attributes) (named_tag namespace tag)
found_node namespace at word.Fragment (Then children End) = refl
found_node namespace at word.Container (Then expression End) = refl
found_node namespace at word.Attr (Then name (Then (Node there word.Fragment below) End)) = refl
found_node namespace at word.Attr (Then name (Then expression End)) = refl
found_node namespace at word.Cond (Then condition (Then consequent (Then alternate End))) = refl
found_node namespace at word.Logical (Then operator (Then left (Then right End))) = refl
found_node namespace at word.Paren (Then expression End) = refl
found_node namespace at word.Call (Then optional (Then callee (Then arguments End))) = refl
found_node namespace at word.Arrow
    (Then marked
    (Then is_async (Then params (Then (Node there word.Body (Then directives (Then (Listed statements) End))) End)))) =
    statements_same namespace statements
found_node namespace at word.Arrow (Then marked (Then is_async (Then params (Then body End)))) = refl
found_node namespace at w ps = refl

pub node_found : (namespace : List ℕ) (at : At) (w : Word) (parts : List Numbered) (out new : List (List ℕ))
    → new ≡ out ++ found_by namespace (look_of w) (pieces_of (map syntax parts))
    → new ≡ out ++ found_in namespace (syntax (numbered.Node at w parts))
node_found namespace at w parts out new e =
    adds_some (found_in namespace) out new (numbered.Node at w parts) _ (syntax_node at w parts)
    (e ∙ ap (λ l. out ++ l) (found_node namespace at w (pieces_of (map syntax parts))))

pub list_found : (namespace : List ℕ) (items : List Numbered) (out new : List (List ℕ))
    → new ≡ out ++ found_among namespace (pieces_of (map syntax items)) → new ≡ out ++ found_in namespace (syntax (numbered.List items))
list_found namespace items out new e = adds_some (found_in namespace) out new (numbered.List items) _ (syntax_list items) e

pub text_found : (namespace text : List ℕ) (out : List (List ℕ)) → out ≡ out ++ found_in namespace (syntax (numbered.Text text))
text_found namespace text out = adds_none (found_in namespace) out (numbered.Text text) _ (syntax_text text) refl

pub number_found : (namespace : List ℕ) (number : ℕ) (out : List (List ℕ))
    → out ≡ out ++ found_in namespace (syntax (numbered.Number number))
number_found namespace number out = adds_none (found_in namespace) out (numbered.Number number) _ (syntax_number number) refl

pub flag_found : (namespace : List ℕ) (flag : Bool) (out : List (List ℕ)) → out ≡ out ++ found_in namespace (syntax (numbered.Flag flag))
flag_found namespace flag out = adds_none (found_in namespace) out (numbered.Flag flag) _ (syntax_flag flag) refl

pub absent_found : (namespace : List ℕ) (out : List (List ℕ)) → out ≡ out ++ found_in namespace (syntax numbered.Absent)
absent_found namespace out = adds_none (found_in namespace) out numbered.Absent _ syntax_absent refl

pub ruleset by_form = (node_found, list_found, text_found, number_found, flag_found, absent_found)

-- The two trees of a pair are as large as those of an equal one.
pair_sizes : (a b c d : Syntax) → ◌≡◌ {A = Option (Syntax × Syntax)} (Some (a, b)) (Some (c, d)) → (size a ≡ size c) × (size b ≡ size d)
pair_sizes a b c d is =
    let same = unpacked {X = Syntax × Syntax} (a, b) (c, d) is in
    (ap (λ (p : Syntax × Syntax). size p.0) same, ap (λ (p : Syntax × Syntax). size p.1) same)

pub two_smaller : (ps : Pieces) (a b : Syntax) → Some (a, b) ≡ first_two ps → size a + size b < size_of ps
two_smaller (Then c (Then d parts)) a b is = let same = pair_sizes a b c d is in omega (arith, same.0, same.1)
two_smaller _ a b is = absurd (cc)

pub last_smaller : (ps : Pieces) (a b : Syntax) → Some (a, b) ≡ last_two ps → size a + size b < size_of ps
last_smaller (Then e (Then c (Then d End))) a b is = let same = pair_sizes a b c d is in omega (arith, same.0, same.1)
last_smaller _ a b is = absurd (cc)

pub both_smaller : (ps : Pieces) (a b : Syntax) → Some (a, b) ≡ both ps → size b < size_of ps
both_smaller (Then c (Then d End)) a b is = let same = pair_sizes a b c d is in omega (arith, same.1)
both_smaller _ a b is = absurd (cc)

pub fourth_smaller : (ps : Pieces) (a : Syntax) → Some a ≡ fourth ps → size a < size_of ps
fourth_smaller (Then b (Then c (Then d (Then e End)))) a is = let same : a ≡ e = cc in omega (arith, ap size same)
fourth_smaller _ a is = absurd (cc)

pub opening_smaller : (opening tag attributes : Syntax) → Some (tag, attributes) ≡ opening_in opening → size attributes < size opening
opening_smaller (Node at word.Opening parts) tag attributes is =
    let below = both_smaller parts tag attributes is in omega (arith, below)
opening_smaller _ tag attributes is = absurd (cc)

pub statements_smaller : (body : Syntax) (statements : Pieces) → Some statements ≡ statements_in body → size_of statements < size body
statements_smaller (Node at word.Body (Then first (Then (Listed items) End))) statements is =
    let same : statements ≡ items = cc in omega (arith, ap size_of same)
statements_smaller _ statements is = absurd (cc)

pub returned_smaller : (statement expression : Syntax) → Some expression ≡ returned_in statement → size expression < size statement
returned_smaller (Node at word.Return parts) expression is = let below = only_smaller parts expression is in omega (arith, below)
returned_smaller (Node at word.Expr parts) expression is = let below = only_smaller parts expression is in omega (arith, below)
returned_smaller _ expression is = absurd (cc)

pub ruleset smaller =
    (two_smaller, last_smaller, both_smaller, fourth_smaller, opening_smaller, statements_smaller, returned_smaller)

-- Counts of one more name, by whether it is the one that is counted.
single_by : (b once : Bool) (x : List ℕ) (xs : List (List ℕ)) (more fewer : Bool) → more ≡ nat_le (length xs) 0
    → fewer ≡ nat_le (length xs) 1
    → (if b then (if once then false else more) else (if once then more else fewer))
    ≡ nat_le (length (cond b (x ∷ xs) xs)) (if once then 0 else 1)
single_by true true x xs more fewer em ef = sym (leb-suc-zero (length xs))
single_by true false x xs more fewer em ef = em ∙ sym (leb-suc-suc (length xs) 0)
single_by false true x xs more fewer em ef = em
single_by false false x xs more fewer em ef = ef

single_same : (once : Bool) (name : List ℕ) (xs : List (List ℕ))
    → is_single_yet once name xs ≡ nat_le (length (filter (bytes_eq name) xs)) (if once then 0 else 1)
single_same true name [] = refl
single_same false name [] = refl
single_same true name (x ∷ xs) =
    single_by (bytes_eq name x) true x (filter (bytes_eq name) xs) (is_single_yet true name xs) (is_single_yet false name xs)
    (single_same true name xs) (single_same false name xs)
single_same false name (x ∷ xs) =
    single_by (bytes_eq name x) false x (filter (bytes_eq name) xs) (is_single_yet true name xs) (is_single_yet false name xs)
    (single_same true name xs) (single_same false name xs)

pub single_found : (name : List ℕ) (xs : List (List ℕ)) (r : Bool) → r ≡ is_single_yet false name xs → r ≡ is_single name xs
single_found name xs r e = e ∙ single_same false name xs

pub ruleset single = (single_found)

fbt_same : (node : Syntax) → clear_fbt node ≡ keeps_fbt node
fbt_same (Node at word.Element
    (Then (Node there word.Opening (Then (Node tag word.Tag (Then (Said name) End)) attributes)) (Then children closing))) = refl
fbt_same (Node at word.Element
    (Then (Node there word.Opening (Then (Node tag word.Id (Then (Said name) End)) attributes)) (Then children closing))) = refl
fbt_same _ = refl

pub fbt_kept : (node : Syntax) (r : Bool) → r ≡ clear_fbt node → r ≡ keeps_fbt node
fbt_kept node r e = e ∙ fbt_same node

pub ruleset kept = (fbt_kept)
