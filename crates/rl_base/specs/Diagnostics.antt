-- Diagnostics and the lines that print them.
use Rattle.std.specs.Prelude.{ℕ, List, [], ◌∷◌, ◌++◌, Option, Some, None, map, codes}
use Rattle.std.specs.Fmt.{decimal}
use Rattle.std.specs.List.{join_with_byte}
use Rattle.std.specs.Option.{option_map}
use Rattle.rl_base.specs.declared.diagnostic.Diagnostic.{Diagnostic}
use Rattle.rl_base.specs.declared.row.Row.{Row}
use Rattle.rl_base.specs.declared.span.Span.{Span}
use Rattle.rl_base.specs.Rows.{category_of, row_name, category_name, message_template, help_template}
use Rattle.rl_base.specs.Templates.{filled}

-- A diagnostic of `row` whose only label is `span`.
abbrev pub diagnostic_at : Row → (word : List ℕ) → Span → Diagnostic
diagnostic_at row word span = record { row = row; word = word; labels = span ∷ [] }

-- The message with the word in it.
abbrev pub message_of : Diagnostic → List ℕ
message_of d = filled (message_template d.row d.word) d.word

-- The help text with the word in it, if the row has one.
abbrev pub help_of : Diagnostic → Option (List ℕ)
help_of d = option_map (λ template. filled template d.word) (help_template d.row)

-- `START..END`.
abbrev pub span_text : Span → List ℕ
span_text span = decimal span.start ++ codes ".." ++ decimal span.end

-- Spans with commas between them.
abbrev pub spans_text : List Span → List ℕ
spans_text spans = join_with_byte 44 (map span_text spans)

-- `; HELP`, or nothing.
abbrev pub help_text : Option (List ℕ) → List ℕ
help_text None = []
help_text (Some help) = codes "; " ++ help

-- `ROW CATEGORY `, with the space after the category.
abbrev pub heading : Row → List ℕ
heading row = row_name row ++ codes " " ++ category_name (category_of row) ++ codes " "

-- `ROW CATEGORY SPANS MESSAGE` or `ROW CATEGORY SPANS MESSAGE; HELP`, and a line feed.
abbrev pub line_of : Diagnostic → List ℕ
line_of d = heading d.row ++ spans_text d.labels ++ codes " " ++ message_of d ++ help_text (help_of d) ++ codes "\n"
