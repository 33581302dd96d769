-- The rows of a name by the variable that it stands for.
use Rattle.std.proofs.Common.{◌≡◌, ℕ, Bool, true, false, not, Option, Some, None, List, [], ◌∷◌, map, ap, sym, refl, ◌∙◌}
use Rattle.rl_code.specs.Parts.{third_of_three}
use Rattle.rl_model.specs.Applied.{Facts, is_bound_tag}
use Rattle.rl_model.specs.Code.{local_of}
use Rattle.rl_names.specs.declared.names.Meaning.{Meaning}
use Rattle.rl_names.specs.declared.names.Meaning.TheVariants.{Local, Outer}
use Rattle.rl_row_forms.specs.declared.above.Above.{Above}
use Rattle.rl_row_names.specs.Named.{clear_as_local, clear_as_outer, clear_local, clear_name, clear_updated, clear_used, node_says_bound}
use Rattle.rl_row_names.specs.Named.{id_in, id_of, updated_in}
use Rattle.rl_syntax.specs.Syntax.{Syntax, Node, Said, Pieces, End, Then, pieces_of, syntax}
use Rattle.rl_syntax.specs.declared.numbered.At.{At}
use Rattle.rl_syntax.specs.declared.numbered.Numbered.{Numbered}
use Rattle.rl_syntax.specs.declared.numbered.Numbered.TheVariants as numbered
use Rattle.rl_syntax.specs.declared.word.Word.{Word}
use Rattle.rl_syntax.specs.declared.word.Word.TheVariants as word
use Rattle.rl_syntax.proofs.Layers.{syntax_node}

-- The items of two equal lists of one item are equal.
unlisted : (m n : ℕ) → m ∷ [] ≡ n ∷ [] → m ≡ n
unlisted m n e = cc

pub used_local : (name : List ℕ) (m : Meaning) (s : ℕ) (r : Bool) → s ∷ [] ≡ local_of m → r ≡ clear_local name → r ≡ clear_used name m
used_local name (Local t) s r is e = e
used_local name (Outer b) s r is e = absurd (cc)

pub used_outer : (name : List ℕ) (m : Meaning) → [] ≡ local_of m → true ≡ clear_used name m
used_outer name (Local t) is = absurd (cc)
used_outer name (Outer b) is = refl

pub ruleset used = (used_local, used_outer)

pub named_local : (f : Facts) (a : Above) (reference : ℕ) (name : List ℕ) (m : Meaning) (s : ℕ) (r : Bool) → s ∷ [] ≡ local_of m
    → r ≡ clear_as_local f a name s → r ≡ clear_name f a reference name m
named_local f a reference name (Local t) s r is e = e ∙ ap (clear_as_local f a name) (unlisted s t.0 is)
named_local f a reference name (Outer b) s r is e = absurd (cc)

pub named_outer : (f : Facts) (a : Above) (reference : ℕ) (name : List ℕ) (m : Meaning) (r : Bool) → [] ≡ local_of m
    → r ≡ clear_as_outer f a reference name → r ≡ clear_name f a reference name m
named_outer f a reference name (Local t) r is e = absurd (cc)
named_outer f a reference name (Outer b) r is e = e

pub ruleset named = (named_local, named_outer)

pub updated_local : (f : Facts) (node : ℕ) (m : Meaning) (s : ℕ) (r : Bool) → s ∷ [] ≡ local_of m → r ≡ f.is_context node s
    → not r ≡ clear_updated f node m
updated_local f node (Local t) s r is e = ap not (e ∙ ap (f.is_context node) (unlisted s t.0 is))
updated_local f node (Outer b) s r is e = absurd (cc)

pub updated_outer : (f : Facts) (node : ℕ) (m : Meaning) → [] ≡ local_of m → false ≡ clear_updated f node m
updated_outer f node (Local t) is = absurd (cc)
updated_outer f node (Outer b) is = refl

pub ruleset updated = (updated_local, updated_outer)

-- A tag by its word.
tag_node : (f : Facts) (at : At) (w : Word) (parts : Pieces) → node_says_bound f w parts ≡ is_bound_tag f (Node at w parts)
tag_node f at word.Tag (Then (Said name) End) = refl
tag_node f at word.Tag _ = refl
tag_node f at word.Id (Then (Said name) End) = refl
tag_node f at word.Id _ = refl
tag_node f at _ parts = refl

pub tag_form : (f : Facts) (at : At) (w : Word) (parts : List Numbered) (r : Bool)
    → r ≡ node_says_bound f w (pieces_of (map syntax parts)) → r ≡ is_bound_tag f (syntax (numbered.Node at w parts))
tag_form f at w parts r e = e ∙ tag_node f at w (pieces_of (map syntax parts)) ∙ ap (is_bound_tag f) (sym (syntax_node at w parts))

pub ruleset tags = (tag_form)

id_node : (at : At) (w : Word) (parts : Pieces) → id_of at w parts ≡ id_in (Node at w parts)
id_node at word.Id (Then (Said name) End) = refl
id_node at word.Id _ = refl
id_node at _ parts = refl

pub id_form : (at : At) (w : Word) (parts : List Numbered) (r : Option (At × List ℕ)) → r ≡ id_of at w (pieces_of (map syntax parts))
    → r ≡ id_in (syntax (numbered.Node at w parts))
id_form at w parts r e = e ∙ id_node at w (pieces_of (map syntax parts)) ∙ ap id_in (sym (syntax_node at w parts))

pub ruleset ids = (id_form)

target_is : (a b c : Syntax) → id_in c ≡ updated_in (Then a (Then b (Then c End)))
target_is a b (Node at word.Id (Then (Said name) End)) = refl
target_is a b _ = refl

pub target_some : (ps : Pieces) (t : Syntax) (r : Option (At × List ℕ)) → Some t ≡ third_of_three ps → r ≡ id_in t → r ≡ updated_in ps
target_some (Then a (Then b (Then c End))) t r is e = let same : t ≡ c = cc in e ∙ ap id_in same ∙ target_is a b c
target_some _ t r is e = absurd (cc)

no_target : (a b c d : Syntax) (rest : Pieces) → None ≡ updated_in (Then a (Then b (Then c (Then d rest))))
no_target a b (Node at word.Id (Then (Said name) End)) d rest = refl
no_target a b _ d rest = refl

pub target_none : (ps : Pieces) → None ≡ third_of_three ps → None ≡ updated_in ps
target_none (Then a (Then b (Then c End))) is = absurd (cc)
target_none (Then a (Then b (Then c (Then d rest)))) is = no_target a b c d rest
target_none _ is = refl

pub ruleset targets = (target_some, target_none)
