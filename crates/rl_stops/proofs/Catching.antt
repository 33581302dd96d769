-- The first name of a pattern, and the stop where a `catch` binds one.
use Rattle.std.proofs.Common.{◌≡◌, false, unwrap_or, Option, Some, None, List, [], map}
use Rattle.std.proofs.Common.{ap, sym, refl, ◌∙◌}
use Rattle.std.specs.Option.{option_or}
use Rattle.rl_base.specs.Diagnostics.{diagnostic_at}
use Rattle.rl_base.specs.declared.diagnostic.Diagnostic.{Diagnostic}
use Rattle.rl_base.specs.declared.row.Row.TheVariants as row
use Rattle.rl_base.specs.declared.span.Span.{Span}
use Rattle.rl_forms.proofs.PatternForms.{last_smaller, one_smaller}
use Rattle.rl_promises.specs.PatternForms.{first_name_in, name_of_rest, name_under, stop_of_caught_node, stop_of_pattern}
use Rattle.rl_promises.specs.Patterns.{first_name, first_name_among, stop_of_caught}
use Rattle.rl_syntax.specs.Shapes.{is_one, is_three}
use Rattle.rl_syntax.specs.Syntax.{Syntax, Node, Pieces, End, Then, pieces_of, syntax}
use Rattle.rl_syntax.specs.declared.numbered.At.{At}
use Rattle.rl_syntax.specs.declared.numbered.Numbered.{Numbered}
use Rattle.rl_syntax.specs.declared.numbered.Numbered.TheVariants as numbered
use Rattle.rl_syntax.specs.declared.word.Word.{Word}
use Rattle.rl_syntax.specs.declared.word.Word.TheVariants as word
use Rattle.rl_syntax.proofs.Layers.{syntax_node}

pub first_three : (ps : Pieces) (a b c : Syntax) (r : Option Span) → ps ≡ Then a (Then b (Then c End)) → r ≡ first_name c
    → r ≡ name_under ps
first_three ps a b c r is e = e ∙ ap name_under (sym is)

pub first_other : (ps : Pieces) → is_three ps ≡ false → None ≡ name_under ps
first_other (Then a (Then b (Then c End))) other = absurd (cc)
first_other _ other = refl

pub first_one : (ps : Pieces) (a : Syntax) (r : Option Span) → ps ≡ Then a End → r ≡ first_name a → r ≡ name_of_rest ps
first_one ps a r is e = e ∙ ap name_of_rest (sym is)

pub first_several : (ps : Pieces) → is_one ps ≡ false → None ≡ name_of_rest ps
first_several (Then a End) other = absurd (cc)
first_several _ other = refl

pub ruleset firsts = (first_three, first_other, first_one, first_several, last_smaller, one_smaller)

first_node : (at : At) (w : Word) (parts : Pieces) → first_name_in at.span w parts ≡ first_name (Node at w parts)
first_node at word.Bind parts = refl
first_node at word.Arraypat parts = refl
first_node at word.Objectpat parts = refl
first_node at word.Rest (Then a End) = refl
first_node at word.Rest _ = refl
first_node at word.Keyedpat (Then a (Then b (Then c End))) = refl
first_node at word.Keyedpat _ = refl
first_node at _ parts = refl

pub first_form : (at : At) (w : Word) (parts : List Numbered) (r : Option Span) → r ≡ first_name_in at.span w (pieces_of (map syntax parts))
    → r ≡ first_name (syntax (numbered.Node at w parts))
first_form at w parts r e = e ∙ first_node at w (pieces_of (map syntax parts)) ∙ ap first_name (sym (syntax_node at w parts))

pub ruleset first_nodes = (first_form)

pub first_among_found : (p : Syntax) (ps : Pieces) (span : Span) → Some span ≡ first_name p → Some span ≡ first_name_among (Then p ps)
first_among_found p ps span is = ap (λ o. option_or o (first_name_among ps)) is

pub first_among_behind : (p : Syntax) (ps : Pieces) → None ≡ first_name p → first_name_among (Then p ps) ≡ first_name_among ps
first_among_behind p ps is = sym (ap (λ o. option_or o (first_name_among ps)) is)

pub ruleset first_in_order = (first_among_found, first_among_behind)

-- A pattern that a `catch` binds.

pub caught_at : (span name : Span) (ps : Pieces) → Some name ≡ first_name_among ps
    → Some (diagnostic_at row.S4 [] name) ≡ stop_of_pattern span ps
caught_at span name ps is = ap (λ (o : Option Span). Some (diagnostic_at row.S4 [] (unwrap_or o span))) is

pub caught_whole : (span : Span) (ps : Pieces) → None ≡ first_name_among ps → Some (diagnostic_at row.S4 [] span) ≡ stop_of_pattern span ps
caught_whole span ps is = ap (λ (o : Option Span). Some (diagnostic_at row.S4 [] (unwrap_or o span))) is

pub ruleset catches = (caught_at, caught_whole)

caught_node : (at : At) (w : Word) (parts : Pieces) → stop_of_caught_node at.span w parts ≡ stop_of_caught (Node at w parts)
caught_node at word.Arraypat parts = refl
caught_node at word.Objectpat parts = refl
caught_node at _ parts = refl

pub caught_form : (at : At) (w : Word) (parts : List Numbered) (r : Option Diagnostic)
    → r ≡ stop_of_caught_node at.span w (pieces_of (map syntax parts)) → r ≡ stop_of_caught (syntax (numbered.Node at w parts))
caught_form at w parts r e = e ∙ caught_node at w (pieces_of (map syntax parts)) ∙ ap stop_of_caught (sym (syntax_node at w parts))

pub ruleset caught_nodes = (caught_form)
