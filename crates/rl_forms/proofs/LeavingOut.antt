-- Nodes of which a row leaves out a part, by their words and parts.
use Rattle.std.proofs.Common.{◌≡◌, ◌<◌, ℕ, Bool, true, false, ◌&&◌, Some, None, List, map, ap, sym, refl, ◌∙◌, arith}
use Rattle.std.proofs.lemmas.Option.{some_pair_parts}
use Rattle.rl_model.specs.Applied.{deletes}
use Rattle.rl_model.specs.Shapes.{are_raw, is_same_text}
use Rattle.rl_promises.specs.Outs.{is_known_key, is_lost_head, is_wrapped}
use Rattle.rl_promises.specs.PartForms.{fits_brackets, is_text_and_tree, loses_head, names_key, node_deletes, quasi_in, quasi_parts, wraps}
use Rattle.rl_syntax.specs.Sizes.{size, size_of}
use Rattle.rl_syntax.specs.Syntax.{Syntax, Node, Said, Pieces, End, Then, pieces_of, syntax}
use Rattle.rl_syntax.specs.declared.numbered.At.{At}
use Rattle.rl_syntax.specs.declared.numbered.Numbered.{Numbered}
use Rattle.rl_syntax.specs.declared.numbered.Numbered.TheVariants as numbered
use Rattle.rl_syntax.specs.declared.word.Word.{Word}
use Rattle.rl_syntax.specs.declared.word.Word.TheVariants as word
use Rattle.rl_syntax.proofs.Layers.{syntax_node}

wrapped_node : (at : At) (w : Word) (parts : Pieces) → wraps w ≡ is_wrapped (Node at w parts)
wrapped_node at word.As parts = refl
wrapped_node at word.Satisfies parts = refl
wrapped_node at word.Assert parts = refl
wrapped_node at word.Nonnull parts = refl
wrapped_node at _ parts = refl

pub wrapped_form : (at : At) (w : Word) (parts : List Numbered) (r : Bool) → r ≡ wraps w
    → r ≡ is_wrapped (syntax (numbered.Node at w parts))
wrapped_form at w parts r e = e ∙ wrapped_node at w (pieces_of (map syntax parts)) ∙ ap is_wrapped (sym (syntax_node at w parts))

lost_node : (at : At) (w : Word) (parts : Pieces) → loses_head w ≡ is_lost_head (Node at w parts)
lost_node at word.Privatemember parts = refl
lost_node at word.As parts = refl
lost_node at word.Satisfies parts = refl
lost_node at word.Assert parts = refl
lost_node at word.Nonnull parts = refl
lost_node at _ parts = refl

pub lost_form : (at : At) (w : Word) (parts : List Numbered) (r : Bool) → r ≡ loses_head w
    → r ≡ is_lost_head (syntax (numbered.Node at w parts))
lost_form at w parts r e = e ∙ lost_node at w (pieces_of (map syntax parts)) ∙ ap is_lost_head (sym (syntax_node at w parts))

pub ruleset wrapped = (wrapped_form, lost_form)

key_node : (at : At) (w : Word) (parts : Pieces) → names_key w ≡ is_known_key false (Node at w parts)
key_node at word.Name parts = refl
key_node at word.Str parts = refl
key_node at word.Num parts = refl
key_node at _ parts = refl

pub key_form : (at : At) (w : Word) (parts : List Numbered) (r : Bool) → r ≡ names_key w
    → r ≡ is_known_key false (syntax (numbered.Node at w parts))
key_form at w parts r e = e ∙ key_node at w (pieces_of (map syntax parts)) ∙ ap (is_known_key false) (sym (syntax_node at w parts))

bracketed_node : (at : At) (w : Word) (parts : Pieces) → fits_brackets w ≡ is_known_key true (Node at w parts)
bracketed_node at word.Name parts = refl
bracketed_node at word.Private parts = refl
bracketed_node at _ parts = refl

pub bracketed_form : (at : At) (w : Word) (parts : List Numbered) (r : Bool) → r ≡ fits_brackets w
    → r ≡ is_known_key true (syntax (numbered.Node at w parts))
bracketed_form at w parts r e =
    e ∙ bracketed_node at w (pieces_of (map syntax parts)) ∙ ap (is_known_key true) (sym (syntax_node at w parts))

pub ruleset keys = (key_form, bracketed_form)

deletes_node : (at : At) (w : Word) (parts : Pieces) → node_deletes w parts ≡ deletes (Node at w parts)
deletes_node at word.Paren (Then expression End) = refl
deletes_node at word.Paren End = refl
deletes_node at word.Paren (Then first (Then second parts)) = refl
deletes_node at word.Member parts = refl
deletes_node at word.Index parts = refl
deletes_node at word.Privatemember parts = refl
deletes_node at _ parts = refl

pub deletes_form : (at : At) (w : Word) (parts : List Numbered) (r : Bool) → r ≡ node_deletes w (pieces_of (map syntax parts))
    → r ≡ deletes (syntax (numbered.Node at w parts))
deletes_form at w parts r e = e ∙ deletes_node at w (pieces_of (map syntax parts)) ∙ ap deletes (sym (syntax_node at w parts))

pub ruleset deleted = (deletes_form)

-- The first part is smaller than all parts together.
pub first_smaller : (ps rest : Pieces) (a : Syntax) → ps ≡ Then a rest → size a < size_of ps
first_smaller ps rest a is = omega (arith, ap size_of is)

pub paren_one : (ps rest : Pieces) (a : Syntax) (r : Bool) → ps ≡ Then a rest → rest ≡ End → r ≡ deletes a → r ≡ node_deletes word.Paren ps
paren_one ps rest a r is last e = e ∙ ap (node_deletes word.Paren) (sym (is ∙ ap (Then a) last))

pub ruleset paren = (first_smaller, paren_one)

pub not_quasi : (ps : Pieces) → is_text_and_tree ps ≡ false → None ≡ quasi_parts word.Quasi ps
not_quasi (Then (Said raw) (Then cooked End)) none = absurd (cc)
not_quasi _ none = refl

pub ruleset quasis = (not_quasi)

-- Quasis in a row: the first decides, or those behind it.
pub raw_done : (p : Syntax) (ps : Pieces) → None ≡ quasi_in p → true ≡ are_raw (Then p ps)
raw_done (Node at word.Quasi (Then (Said raw) (Then cooked End))) ps none = absurd (cc)
raw_done _ ps none = refl

pub raw_first : (p : Syntax) (ps : Pieces) (raw : List ℕ) (cooked : Syntax) → Some (raw, cooked) ≡ quasi_in p
    → are_raw (Then p ps) ≡ (is_same_text raw cooked && are_raw ps)
raw_first (Node at word.Quasi (Then (Said r) (Then c End))) ps raw cooked is =
    let both = some_pair_parts raw r cooked c is in
    ap (λ t. is_same_text t c && are_raw ps) (sym both.0) ∙ ap (λ t. is_same_text raw t && are_raw ps) (sym both.1)
raw_first _ ps raw cooked is = absurd (cc)

pub raw_stop : (p : Syntax) (ps : Pieces) (raw : List ℕ) (cooked : Syntax) → Some (raw, cooked) ≡ quasi_in p
    → is_same_text raw cooked ≡ false → false ≡ are_raw (Then p ps)
raw_stop p ps raw cooked is not_same = sym (raw_first p ps raw cooked is ∙ ap (λ b. b && are_raw ps) not_same)

pub raw_step : (p : Syntax) (ps : Pieces) (raw : List ℕ) (cooked : Syntax) → Some (raw, cooked) ≡ quasi_in p
    → is_same_text raw cooked ≡ true → are_raw (Then p ps) ≡ are_raw ps
raw_step p ps raw cooked is same = raw_first p ps raw cooked is ∙ ap (λ b. b && are_raw ps) same

pub ruleset raws = (raw_done, raw_stop, raw_step)
