-- Steady expressions, by their form and their word.
use Rattle.std.proofs.Common.{◌≡◌, ℕ, ◌<◌, Bool, false, not, Some, None, List, map, ap, sym, refl, ◌∙◌, arith}
use Rattle.rl_base.specs.declared.ids.SymbolId.{SymbolId}
use Rattle.rl_code.specs.Parts.{both, only, said_only}
use Rattle.rl_code.proofs.Smaller.{first_smaller, only_smaller}
use Rattle.rl_model.specs.Code.{contains, declared_by, local_of}
use Rattle.rl_model.specs.Orderly.{is_link_inside, is_steady, is_steady_name}
use Rattle.rl_names.specs.Names.{Names}
use Rattle.rl_names.specs.declared.names.Meaning.{Meaning}
use Rattle.rl_names.specs.declared.names.Meaning.TheVariants.{Local, Outer}
use Rattle.rl_orderly.specs.Steady.{is_chain_or_link, is_unassigned, link_as, steady_as, steady_leaf, wrapped}
use Rattle.rl_semantic.specs.Items.{of_item}
use Rattle.rl_syntax.specs.Sizes.{size, size_of}
use Rattle.rl_syntax.specs.Syntax.{Syntax, Node, Said, Pieces, End, Then, pieces_of, syntax}
use Rattle.rl_syntax.specs.declared.numbered.At.{At}
use Rattle.rl_syntax.specs.declared.numbered.Numbered.{Numbered}
use Rattle.rl_syntax.specs.declared.numbered.Numbered.TheVariants as numbered
use Rattle.rl_syntax.specs.declared.word.Word.{Word}
use Rattle.rl_syntax.specs.declared.word.Word.TheVariants as word
use Rattle.rl_syntax.proofs.Layers.{syntax_node, syntax_list, syntax_text, syntax_number, syntax_flag, syntax_absent}

pub no_second : (parts : Pieces) → both parts ≡ None → None ≡ wrapped word.Assert parts
no_second (Then a (Then b End)) none = absurd (cc)
no_second _ none = refl

pub no_single : (parts : Pieces) → only parts ≡ None → None ≡ wrapped word.Paren parts
no_single parts none = sym none

by_locals : (assigned : List ℕ) (m : Meaning) → is_unassigned assigned (local_of m) ≡ is_steady_name assigned m
by_locals assigned (Local symbol) = refl
by_locals assigned (Outer binding) = refl

pub unassigned_local : (assigned : List ℕ) (m : Meaning) (symbol : SymbolId) → declared_by (Some symbol) ≡ local_of m
    → not (contains assigned symbol.0) ≡ is_steady_name assigned m
unassigned_local assigned m symbol is = ap (is_unassigned assigned) is ∙ by_locals assigned m

pub assigned_none : (assigned : List ℕ) (m : Meaning) → declared_by None ≡ local_of m → false ≡ is_steady_name assigned m
assigned_none assigned m is = ap (is_unassigned assigned) is ∙ by_locals assigned m

pub ruleset unassigned = (unassigned_local, assigned_none)

pub steady_said : (n : Names) (assigned : List ℕ) (at : At) (parts : Pieces) (name : List ℕ) (b : Bool) → Some name ≡ said_only parts
    → b ≡ is_steady_name assigned (n.meaning at.reference.0 name) → b ≡ steady_leaf n assigned at word.Id parts
steady_said n assigned at parts name b is e =
    e ∙ ap (λ o. of_item false (λ name. is_steady_name assigned (n.meaning at.reference.0 name)) o) is

pub steady_unsaid : (n : Names) (assigned : List ℕ) (at : At) (parts : Pieces) → None ≡ said_only parts
    → false ≡ steady_leaf n assigned at word.Id parts
steady_unsaid n assigned at parts is = ap (λ o. of_item false (λ name. is_steady_name assigned (n.meaning at.reference.0 name)) o) is

pub ruleset steady_id = (steady_said, steady_unsaid)

steady_node : (n : Names) (a : List ℕ) (at : At) (w : Word) (parts : Pieces) → steady_as n a at w parts ≡ is_steady n a (Node at w parts)
steady_node n a at word.Null parts = refl
steady_node n a at word.Bool parts = refl
steady_node n a at word.Num parts = refl
steady_node n a at word.Str parts = refl
steady_node n a at word.Id (Then (Said name) End) = refl
steady_node n a at word.Id _ = refl
steady_node n a at word.Paren (Then expression End) = refl
steady_node n a at word.Paren _ = refl
steady_node n a at word.As (Then expression parts) = refl
steady_node n a at word.As End = refl
steady_node n a at word.Satisfies (Then expression parts) = refl
steady_node n a at word.Satisfies End = refl
steady_node n a at word.Assert (Then t (Then expression End)) = refl
steady_node n a at word.Assert _ = refl
steady_node n a at word.Nonnull (Then expression End) = refl
steady_node n a at word.Nonnull _ = refl
steady_node n a at word.Instantiate (Then expression parts) = refl
steady_node n a at word.Instantiate End = refl
steady_node n a at _ parts = refl

pub node_steady : (n : Names) (a : List ℕ) (at : At) (w : Word) (parts : List Numbered) (b : Bool)
    → b ≡ steady_as n a at w (pieces_of (map syntax parts)) → b ≡ is_steady n a (syntax (numbered.Node at w parts))
node_steady n a at w parts b e = e ∙ steady_node n a at w (pieces_of (map syntax parts)) ∙ ap (is_steady n a) (sym (syntax_node at w parts))

pub list_steady : (n : Names) (a : List ℕ) (items : List Numbered) → false ≡ is_steady n a (syntax (numbered.List items))
list_steady n a items = ap (is_steady n a) (sym (syntax_list items))

pub text_steady : (n : Names) (a text : List ℕ) → false ≡ is_steady n a (syntax (numbered.Text text))
text_steady n a text = ap (is_steady n a) (sym (syntax_text text))

pub number_steady : (n : Names) (a : List ℕ) (number : ℕ) → false ≡ is_steady n a (syntax (numbered.Number number))
number_steady n a number = ap (is_steady n a) (sym (syntax_number number))

pub flag_steady : (n : Names) (a : List ℕ) (flag : Bool) → false ≡ is_steady n a (syntax (numbered.Flag flag))
flag_steady n a flag = ap (is_steady n a) (sym (syntax_flag flag))

pub absent_steady : (n : Names) (a : List ℕ) → false ≡ is_steady n a (syntax numbered.Absent)
absent_steady n a = ap (is_steady n a) (sym syntax_absent)

pub ruleset by_form = (node_steady, list_steady, text_steady, number_steady, flag_steady, absent_steady)

link_node : (at : At) (w : Word) (parts : Pieces) → link_as w parts ≡ is_link_inside (Node at w parts)
link_node at word.Chain parts = refl
link_node at word.Member parts = refl
link_node at word.Index parts = refl
link_node at word.Privatemember parts = refl
link_node at word.Paren (Then expression End) = refl
link_node at word.Paren _ = refl
link_node at word.As (Then expression parts) = refl
link_node at word.As End = refl
link_node at word.Satisfies (Then expression parts) = refl
link_node at word.Satisfies End = refl
link_node at word.Assert (Then t (Then expression End)) = refl
link_node at word.Assert _ = refl
link_node at word.Nonnull (Then expression End) = refl
link_node at word.Nonnull _ = refl
link_node at word.Instantiate (Then expression parts) = refl
link_node at word.Instantiate End = refl
link_node at _ parts = refl

pub node_link : (at : At) (w : Word) (parts : List Numbered) (b : Bool) → b ≡ link_as w (pieces_of (map syntax parts))
    → b ≡ is_link_inside (syntax (numbered.Node at w parts))
node_link at w parts b e = e ∙ link_node at w (pieces_of (map syntax parts)) ∙ ap is_link_inside (sym (syntax_node at w parts))

pub list_link : (items : List Numbered) → false ≡ is_link_inside (syntax (numbered.List items))
list_link items = ap is_link_inside (sym (syntax_list items))

pub text_link : (text : List ℕ) → false ≡ is_link_inside (syntax (numbered.Text text))
text_link text = ap is_link_inside (sym (syntax_text text))

pub number_link : (number : ℕ) → false ≡ is_link_inside (syntax (numbered.Number number))
number_link number = ap is_link_inside (sym (syntax_number number))

pub flag_link : (flag : Bool) → false ≡ is_link_inside (syntax (numbered.Flag flag))
flag_link flag = ap is_link_inside (sym (syntax_flag flag))

pub absent_link : false ≡ is_link_inside (syntax numbered.Absent)
absent_link = ap is_link_inside (sym syntax_absent)

pub ruleset link_form = (node_link, list_link, text_link, number_link, flag_link, absent_link)

both_smaller : (parts : Pieces) (t : Syntax) → Some t ≡ wrapped word.Assert parts → size t < size_of parts
both_smaller (Then a (Then b End)) t e = let same : t ≡ b = cc in omega (arith, ap size same)
both_smaller _ t e = absurd (cc)

pub wrapped_smaller : (w : Word) (parts : Pieces) (t : Syntax) → Some t ≡ wrapped w parts → size t < size_of parts
wrapped_smaller word.Paren parts t e = only_smaller parts t e
wrapped_smaller word.As parts t e = first_smaller parts t e
wrapped_smaller word.Satisfies parts t e = first_smaller parts t e
wrapped_smaller word.Assert parts t e = both_smaller parts t e
wrapped_smaller word.Nonnull parts t e = only_smaller parts t e
wrapped_smaller word.Instantiate parts t e = first_smaller parts t e
wrapped_smaller _ parts t e = absurd (cc)

pub wrap_steady : (n : Names) (a : List ℕ) (at : At) (w : Word) (parts : Pieces) (t : Syntax) (b : Bool) → Some t ≡ wrapped w parts
    → b ≡ is_steady n a t → b ≡ steady_as n a at w parts
wrap_steady n a at w parts t b is e = e ∙ ap (λ o. of_item (steady_leaf n a at w parts) (is_steady n a) o) is

pub leaf_steady : (n : Names) (a : List ℕ) (at : At) (w : Word) (parts : Pieces) (b : Bool) → None ≡ wrapped w parts
    → b ≡ steady_leaf n a at w parts → b ≡ steady_as n a at w parts
leaf_steady n a at w parts b is e = e ∙ ap (λ o. of_item (steady_leaf n a at w parts) (is_steady n a) o) is

pub wrap_link : (w : Word) (parts : Pieces) (t : Syntax) (b : Bool) → Some t ≡ wrapped w parts → b ≡ is_link_inside t → b ≡ link_as w parts
wrap_link w parts t b is e = e ∙ ap (λ o. of_item (is_chain_or_link w) is_link_inside o) is

pub leaf_link : (w : Word) (parts : Pieces) (b : Bool) → None ≡ wrapped w parts → b ≡ is_chain_or_link w → b ≡ link_as w parts
leaf_link w parts b is e = e ∙ ap (λ o. of_item (is_chain_or_link w) is_link_inside o) is

pub ruleset by_wrap = (wrapped_smaller, wrap_steady, leaf_steady, wrap_link, leaf_link)
