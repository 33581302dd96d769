-- The numbers of scopes and references in parts.
use Rattle.std.specs.Prelude.{ℕ}
use Rattle.rl_syntax.specs.Syntax.{Pieces, tally_of, is_reference}
use Rattle.rl_syntax.specs.Words.{makes_scope}

-- The number of nodes in parts that make a scope.
abbrev pub scopes_of : Pieces → ℕ
scopes_of pieces = tally_of makes_scope pieces

-- The number of nodes in parts that are references.
abbrev pub references_of : Pieces → ℕ
references_of pieces = tally_of is_reference pieces
