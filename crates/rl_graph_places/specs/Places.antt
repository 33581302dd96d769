-- The identifiers of places.
use Rattle.std.specs.Prelude.{ℕ, List}
use Rattle.rl_hir.specs.Pieces.{Piece, operands}
use Rattle.rl_model.specs.WellFormed.{operand_places}
use Rattle.rl_model.specs.Worlds.{identifiers_in}

-- The identifiers of the places among the operands of pieces.
abbrev pub named : List Piece → List ℕ
named pieces = identifiers_in (operand_places (operands pieces))
