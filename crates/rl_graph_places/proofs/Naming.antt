-- The identifiers of pieces in a row.
use Rattle.std.proofs.Common.{◌≡◌, ℕ, Option, Some, None, List, [], ◌∷◌, ◌++◌, append_assoc, map, refl, ap, sym, ◌∙◌}
use Rattle.rl_hir.specs.Pieces.{Key, Piece, Says, Names, Gives, Spreads, Takes, Use, cooked_piece, gathered, quasi_pieces, template_pieces, value_pieces}
use Rattle.rl_hir.specs.declared.instruction.TemplateLiteral.{TemplateLiteral}
use Rattle.rl_hir.specs.declared.instruction.TemplateQuasi.{TemplateQuasi}
use Rattle.rl_graph_places.specs.Places.{named}

pub named_append : (ps qs : List Piece) → named (ps ++ qs) ≡ named ps ++ named qs
named_append [] qs = refl
named_append (Says text ∷ ps) qs = named_append ps qs
named_append (Names name ∷ ps) qs = named_append ps qs
named_append (Gives place ∷ ps) qs = ap (λ ids. place.identifier.0 ∷ ids) (named_append ps qs)
named_append (Spreads place ∷ ps) qs = ap (λ ids. place.identifier.0 ∷ ids) (named_append ps qs)
named_append (Takes (Use place) ∷ ps) qs = ap (λ ids. place.identifier.0 ∷ ids) (named_append ps qs)
named_append (Takes (Key key) ∷ ps) qs = named_append ps qs

-- Texts name nothing.
pub named_said : (texts : List (List ℕ)) → named (map Says texts) ≡ []
named_said [] = refl
named_said (text ∷ texts) = named_said texts

named_cooked : (cooked : Option (List ℕ)) → named (cooked_piece cooked ∷ []) ≡ []
named_cooked None = refl
named_cooked (Some text) = refl

named_quasi : (q : TemplateQuasi) → named (quasi_pieces q) ≡ []
named_quasi q = named_cooked q.cooked

named_quasis : (quasis : List TemplateQuasi) → named (gathered quasi_pieces quasis) ≡ []
named_quasis [] = refl
named_quasis (q ∷ quasis) =
    named_append (quasi_pieces q) (gathered quasi_pieces quasis)
    ∙ ap (λ ids. ids ++ named (gathered quasi_pieces quasis)) (named_quasi q)
    ∙ named_quasis quasis

-- A template names its values.
pub named_template : (t : TemplateLiteral) → named (template_pieces t) ≡ named (gathered value_pieces t.subexpressions)
named_template t =
    named_append (gathered quasi_pieces t.quasis) (gathered value_pieces t.subexpressions)
    ∙ ap (λ ids. ids ++ named (gathered value_pieces t.subexpressions)) (named_quasis t.quasis)

-- The identifiers of three rows of pieces that are appended one behind the other.
pub named_three : (out first second third : List ℕ) (ps qs rs : List Piece) → first ≡ out ++ named ps → second ≡ first ++ named qs
    → third ≡ second ++ named rs
    → third ≡ out ++ named (ps ++ (qs ++ rs))
named_three out first second third ps qs rs one two three =
    three
    ∙ ap (λ ids. ids ++ named rs) (two ∙ ap (λ ids. ids ++ named qs) one)
    ∙ append_assoc (out ++ named ps) (named qs) (named rs)
    ∙ append_assoc out (named ps) (named qs ++ named rs)
    ∙ ap (λ ids. out ++ ids) (ap (λ ids. named ps ++ ids) (sym (named_append qs rs)) ∙ sym (named_append ps (qs ++ rs)))
