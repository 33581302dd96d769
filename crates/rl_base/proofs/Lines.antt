-- The spans in the line of a diagnostic.
use Rattle.std.proofs.Common.{◌≡◌, ℕ, List, [], ◌∷◌, ◌++◌, drop, ◌≤◌, length, ap, sym, append_assoc, codes}
use Rattle.std.proofs.lemmas.List.{append-nil, drop_all}
use Rattle.rl_base.specs.declared.span.Span.{Span}
use Rattle.std.specs.Option.{option_map}
use Rattle.rl_base.specs.declared.diagnostic.Diagnostic.{Diagnostic}
use Rattle.rl_base.specs.Diagnostics.{span_text, spans_text, heading, help_text, line_of}
use Rattle.rl_base.specs.Rows.{help_template, message_template}
use Rattle.rl_base.specs.Templates.{filled}

-- Spans with a comma before each.
abbrev pub later_spans : List Span → List ℕ
later_spans [] = []
later_spans (span ∷ rest) = codes "," ++ span_text span ++ later_spans rest

pub spans_text-later : (first : Span) (rest : List Span) → spans_text (first ∷ rest) ≡ span_text first ++ later_spans rest
spans_text-later first [] = sym (append-nil (span_text first))
spans_text-later first (second ∷ rest) = ap (λ (t : List ℕ). span_text first ++ (44 ∷ t)) (spans_text-later second rest)

-- The first span and the later ones are the whole text.
pub spans-written : (spans rest : List Span) (first : Span) (old middle new : List ℕ) (index : ℕ)
    → spans ≡ first ∷ rest → middle ≡ old ++ span_text first → length rest ≤ index
    → new ++ later_spans (drop index rest) ≡ middle ++ later_spans rest → new ≡ old ++ spans_text spans
spans-written spans rest first old middle new index e m past kept =
    let none : drop index rest ≡ [] = drop_all index rest past in
    let kept_all : new ++ [] ≡ middle ++ later_spans rest = rw none at kept in
    let whole : spans_text spans ≡ span_text first ++ later_spans rest = rw e (spans_text-later first rest) in
    cc (append-nil new, append_assoc old (span_text first) (later_spans rest))

joined : (old a b c d e f : List ℕ) → (((((old ++ a) ++ b) ++ c) ++ d) ++ e) ++ f ≡ old ++ (((((a ++ b) ++ c) ++ d) ++ e) ++ f)
joined old a b c d e f = simp append_assoc

-- The parts of a line, appended one after the other, are the line.
pub line-written : (diagnostic : Diagnostic) (labels : List Span) (old named placed spaced told helped new template word : List ℕ) → labels ≡ diagnostic.labels → word ≡ diagnostic.word → template ≡ message_template diagnostic.row word
    → named ≡ old ++ heading diagnostic.row → placed ≡ named ++ spans_text labels → spaced ≡ placed ++ codes " " → told ≡ spaced ++ filled template word
    → helped ≡ told ++ help_text (option_map (λ t. filled t word) (help_template diagnostic.row)) → new ≡ helped ++ codes "\n" → new ≡ old ++ line_of diagnostic
line-written diagnostic labels old named placed spaced told helped new template word listed same chosen a b c d e f =
    rw (f, e, d, c, b, a, listed, chosen, same) (joined old (heading diagnostic.row) (spans_text diagnostic.labels) (codes " ") (filled (message_template diagnostic.row diagnostic.word) diagnostic.word) (help_text (option_map (λ t. filled t diagnostic.word) (help_template diagnostic.row))) (codes "\n"))
