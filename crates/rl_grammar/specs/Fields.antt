-- The fields of a node as the code has them, and parts that may be absent.
use Rattle.std.specs.Prelude.{ℕ, Bool, false, Option, Some, None, List}
use Rattle.std.specs.Borrow.{Bor}
use Rattle.rl_base.specs.ClosedTexts.{is_written}
use Rattle.rl_syntax.specs.Syntax.{Syntax, Said, Absent}
use Rattle.rl_grammar.specs.declared.kind.Field.{Field}

-- The fields of a slice of a table.
abbrev pub table_of : Option (Bor (List Field)) → Option (List Field)
table_of None = None
table_of (Some fields) = Some fields.now

-- The tree of a part that may be absent, if `shown` is the tree of a part.
abbrev pub maybe : {X : Type 0} → Option X → (shown : X → Syntax) → Syntax
maybe None shown = Absent
maybe (Some part) shown = shown part

-- True of a text that writes one of `values`, if `text_of` is the text of a value.
abbrev pub writes : {X : Type 0} → (text_of : X → List ℕ) → (values : List X) → Syntax → Bool
writes text_of values (Said text) = is_written text_of values text
writes text_of values _ = false
