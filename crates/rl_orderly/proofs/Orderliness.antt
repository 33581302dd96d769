-- Orderly nodes, by their form and their word.
use Rattle.std.proofs.Common.{◌≡◌, ℕ, Bool, true, false, ◌&&◌, not, Option, Some, None, List, map, ap, sym, refl, ◌∙◌}
use Rattle.rl_code.specs.Parts.{first, second, three}
use Rattle.rl_model.specs.Orderly.{is_link_inside, is_orderly_node, is_steady, is_steady_target}
use Rattle.rl_model.specs.Shapes.{is_link}
use Rattle.rl_names.specs.Names.{Names}
use Rattle.rl_orderly.specs.Nodes.{assignment, index_parts, is_link_word, is_orderly_assignment, is_orderly_callee, is_orderly_case}
use Rattle.rl_orderly.specs.Nodes.{object_and_key, object_of, orderly_as, target_as}
use Rattle.rl_semantic.specs.Items.{of_item}
use Rattle.rl_syntax.specs.Shapes.{is_text}
use Rattle.rl_syntax.specs.Syntax.{Syntax, Node, Said, Pieces, End, Then, pieces_of, syntax}
use Rattle.rl_syntax.specs.declared.numbered.At.{At}
use Rattle.rl_syntax.specs.declared.numbered.Numbered.{Numbered}
use Rattle.rl_syntax.specs.declared.numbered.Numbered.TheVariants as numbered
use Rattle.rl_syntax.specs.declared.word.Word.{Word}
use Rattle.rl_syntax.specs.declared.word.Word.TheVariants as word
use Rattle.rl_syntax.proofs.Layers.{syntax_node, syntax_list, syntax_text, syntax_number, syntax_flag, syntax_absent}

pub no_key : (parts : Pieces) → three parts ≡ None → None ≡ object_and_key parts
no_key (Then a (Then b (Then c End))) none = absurd (cc)
no_key _ none = refl

pub object_some : (n : Names) (a : List ℕ) (w : Word) (parts : Pieces) (t : Syntax) (b : Bool) → Some t ≡ object_of w parts
    → b ≡ is_steady n a t → b ≡ of_item true (is_steady n a) (object_of w parts)
object_some n a w parts t b is e = e ∙ ap (λ o. of_item true (is_steady n a) o) is

pub object_none : (n : Names) (a : List ℕ) (w : Word) (parts : Pieces) → None ≡ object_of w parts
    → true ≡ of_item true (is_steady n a) (object_of w parts)
object_none n a w parts is = ap (λ o. of_item true (is_steady n a) o) is

pub ruleset object = (object_some, object_none)

pub index_some : (n : Names) (a : List ℕ) (w : Word) (parts : Pieces) (t k : Syntax) (b : Bool) → Some (t, k) ≡ index_parts w parts
    → b ≡ (is_steady n a t && is_steady n a k) → b ≡ of_item true (λ p. is_steady n a p.0 && is_steady n a p.1) (index_parts w parts)
index_some n a w parts t k b is e =
    e ∙ ap (λ (o : Option (Syntax × Syntax)). of_item true (λ p. is_steady n a p.0 && is_steady n a p.1) o) is

pub index_none : (n : Names) (a : List ℕ) (w : Word) (parts : Pieces) → None ≡ index_parts w parts
    → true ≡ of_item true (λ p. is_steady n a p.0 && is_steady n a p.1) (index_parts w parts)
index_none n a w parts is = ap (λ (o : Option (Syntax × Syntax)). of_item true (λ p. is_steady n a p.0 && is_steady n a p.1) o) is

pub ruleset index = (index_some, index_none)

and_true : (b : Bool) → b && true ≡ b
and_true true = refl
and_true false = refl

target_node : (n : Names) (a : List ℕ) (at : At) (w : Word) (parts : Pieces)
    → target_as n a w parts ≡ is_steady_target n a (Node at w parts)
target_node n a at word.Member (Then optional (Then object parts)) = and_true (is_steady n a object)
target_node n a at word.Member _ = refl
target_node n a at word.Privatemember (Then optional (Then object parts)) = and_true (is_steady n a object)
target_node n a at word.Privatemember _ = refl
target_node n a at word.Index (Then optional (Then object (Then property End))) = refl
target_node n a at word.Index _ = refl
target_node n a at _ parts = refl

pub node_target : (n : Names) (a : List ℕ) (at : At) (w : Word) (parts : List Numbered) (b : Bool)
    → b ≡ target_as n a w (pieces_of (map syntax parts)) → b ≡ is_steady_target n a (syntax (numbered.Node at w parts))
node_target n a at w parts b e =
    e ∙ target_node n a at w (pieces_of (map syntax parts)) ∙ ap (is_steady_target n a) (sym (syntax_node at w parts))

pub list_target : (n : Names) (a : List ℕ) (items : List Numbered) → true ≡ is_steady_target n a (syntax (numbered.List items))
list_target n a items = ap (is_steady_target n a) (sym (syntax_list items))

pub text_target : (n : Names) (a text : List ℕ) → true ≡ is_steady_target n a (syntax (numbered.Text text))
text_target n a text = ap (is_steady_target n a) (sym (syntax_text text))

pub number_target : (n : Names) (a : List ℕ) (number : ℕ) → true ≡ is_steady_target n a (syntax (numbered.Number number))
number_target n a number = ap (is_steady_target n a) (sym (syntax_number number))

pub flag_target : (n : Names) (a : List ℕ) (flag : Bool) → true ≡ is_steady_target n a (syntax (numbered.Flag flag))
flag_target n a flag = ap (is_steady_target n a) (sym (syntax_flag flag))

pub absent_target : (n : Names) (a : List ℕ) → true ≡ is_steady_target n a (syntax numbered.Absent)
absent_target n a = ap (is_steady_target n a) (sym syntax_absent)

pub ruleset target_form = (node_target, list_target, text_target, number_target, flag_target, absent_target)

pub no_three : (parts : Pieces) → three parts ≡ None → None ≡ assignment parts
no_three (Then (Said operator) (Then b (Then c End))) none = absurd (cc)
no_three _ none = refl

pub no_operator : (parts : Pieces) (a b c : Syntax) → parts ≡ Then a (Then b (Then c End)) → is_text a ≡ false → None ≡ assignment parts
no_operator (Then (Said operator) (Then target (Then right End))) a b c is none = absurd (cc)
no_operator _ a b c is none = refl

pub ruleset no_assignment = (no_three, no_operator)

pub assign_some : (n : Names) (a : List ℕ) (parts : Pieces) (o : List ℕ) (t r : Syntax) (b : Bool) → Some (o, (t, r)) ≡ assignment parts
    → b ≡ is_orderly_assignment n a o t r → b ≡ orderly_as n a word.Assign parts
assign_some n a parts o t r b is e =
    e ∙ ap (λ (o : Option (List ℕ × (Syntax × Syntax))). of_item true (λ p. is_orderly_assignment n a p.0 p.1.0 p.1.1) o) is

pub assign_none : (n : Names) (a : List ℕ) (parts : Pieces) → None ≡ assignment parts → true ≡ orderly_as n a word.Assign parts
assign_none n a parts is =
    ap (λ (o : Option (List ℕ × (Syntax × Syntax))). of_item true (λ p. is_orderly_assignment n a p.0 p.1.0 p.1.1) o) is

pub ruleset assigns = (assign_some, assign_none)

pub case_some : (n : Names) (a : List ℕ) (parts : Pieces) (t : Syntax) (b : Bool) → Some t ≡ first parts → b ≡ is_orderly_case n a t
    → b ≡ orderly_as n a word.Case parts
case_some n a parts t b is e = e ∙ ap (λ o. of_item true (is_orderly_case n a) o) is

pub case_none : (n : Names) (a : List ℕ) (parts : Pieces) → None ≡ first parts → true ≡ orderly_as n a word.Case parts
case_none n a parts is = ap (λ o. of_item true (is_orderly_case n a) o) is

pub ruleset cases = (case_some, case_none)

pub call_some : (n : Names) (a : List ℕ) (parts : Pieces) (t : Syntax) (b : Bool) → Some t ≡ second parts → b ≡ is_orderly_callee t
    → b ≡ orderly_as n a word.Call parts
call_some n a parts t b is e = e ∙ ap (λ o. of_item true is_orderly_callee o) is

pub call_none : (n : Names) (a : List ℕ) (parts : Pieces) → None ≡ second parts → true ≡ orderly_as n a word.Call parts
call_none n a parts is = ap (λ o. of_item true is_orderly_callee o) is

pub ruleset calls = (call_some, call_none)

pub tag_some : (n : Names) (a : List ℕ) (parts : Pieces) (t : Syntax) → Some t ≡ first parts
    → not (is_link_inside t) ≡ orderly_as n a word.Tagged parts
tag_some n a parts t is = ap (λ o. of_item true (λ tag. not (is_link_inside tag)) o) is

pub tag_none : (n : Names) (a : List ℕ) (parts : Pieces) → None ≡ first parts → true ≡ orderly_as n a word.Tagged parts
tag_none n a parts is = ap (λ o. of_item true (λ tag. not (is_link_inside tag)) o) is

pub ruleset tags = (tag_some, tag_none)

link_node : (at : At) (w : Word) (parts : Pieces) → is_link_word w ≡ is_link (Node at w parts)
link_node at word.Member parts = refl
link_node at word.Index parts = refl
link_node at word.Privatemember parts = refl
link_node at _ parts = refl

pub node_link : (at : At) (w : Word) (parts : List Numbered) → is_link_word w ≡ is_link (syntax (numbered.Node at w parts))
node_link at w parts = link_node at w (pieces_of (map syntax parts)) ∙ ap is_link (sym (syntax_node at w parts))

pub list_link : (items : List Numbered) → false ≡ is_link (syntax (numbered.List items))
list_link items = ap is_link (sym (syntax_list items))

pub text_link : (text : List ℕ) → false ≡ is_link (syntax (numbered.Text text))
text_link text = ap is_link (sym (syntax_text text))

pub number_link : (number : ℕ) → false ≡ is_link (syntax (numbered.Number number))
number_link number = ap is_link (sym (syntax_number number))

pub flag_link : (flag : Bool) → false ≡ is_link (syntax (numbered.Flag flag))
flag_link flag = ap is_link (sym (syntax_flag flag))

pub absent_link : false ≡ is_link (syntax numbered.Absent)
absent_link = ap is_link (sym syntax_absent)

pub ruleset link_form = (node_link, list_link, text_link, number_link, flag_link, absent_link)

orderly_node : (n : Names) (a : List ℕ) (at : At) (w : Word) (parts : Pieces)
    → orderly_as n a w parts ≡ is_orderly_node n a (Node at w parts)
orderly_node n a at word.Assign (Then (Said operator) (Then target (Then right End))) = refl
orderly_node n a at word.Assign _ = refl
orderly_node n a at word.Case (Then condition parts) = refl
orderly_node n a at word.Case End = refl
orderly_node n a at word.Call (Then optional (Then callee parts)) = refl
orderly_node n a at word.Call _ = refl
orderly_node n a at word.Tagged (Then tag parts) = refl
orderly_node n a at word.Tagged End = refl
orderly_node n a at _ parts = refl

pub node_orderly : (n : Names) (a : List ℕ) (at : At) (w : Word) (parts : List Numbered) (b : Bool)
    → b ≡ orderly_as n a w (pieces_of (map syntax parts)) → b ≡ is_orderly_node n a (syntax (numbered.Node at w parts))
node_orderly n a at w parts b e =
    e ∙ orderly_node n a at w (pieces_of (map syntax parts)) ∙ ap (is_orderly_node n a) (sym (syntax_node at w parts))

pub list_orderly : (n : Names) (a : List ℕ) (items : List Numbered) → true ≡ is_orderly_node n a (syntax (numbered.List items))
list_orderly n a items = ap (is_orderly_node n a) (sym (syntax_list items))

pub text_orderly : (n : Names) (a text : List ℕ) → true ≡ is_orderly_node n a (syntax (numbered.Text text))
text_orderly n a text = ap (is_orderly_node n a) (sym (syntax_text text))

pub number_orderly : (n : Names) (a : List ℕ) (number : ℕ) → true ≡ is_orderly_node n a (syntax (numbered.Number number))
number_orderly n a number = ap (is_orderly_node n a) (sym (syntax_number number))

pub flag_orderly : (n : Names) (a : List ℕ) (flag : Bool) → true ≡ is_orderly_node n a (syntax (numbered.Flag flag))
flag_orderly n a flag = ap (is_orderly_node n a) (sym (syntax_flag flag))

pub absent_orderly : (n : Names) (a : List ℕ) → true ≡ is_orderly_node n a (syntax numbered.Absent)
absent_orderly n a = ap (is_orderly_node n a) (sym syntax_absent)

pub ruleset orderly_form = (node_orderly, list_orderly, text_orderly, number_orderly, flag_orderly, absent_orderly)
