-- Parts that lend their objects.
use Rattle.std.specs.Prelude.{Bool, false}
use Rattle.rl_model.specs.Shapes.{lends}
use Rattle.rl_syntax.specs.Syntax.{Pieces, End, Then}

-- True of one part that lends its object.
abbrev pub only_lends : Pieces → Bool
only_lends (Then expression End) = lends expression
only_lends _ = false

-- True of parts whose first lends its object.
abbrev pub first_lends : Pieces → Bool
first_lends (Then expression parts) = lends expression
first_lends End = false

-- True of two parts whose second lends its object.
abbrev pub second_lends : Pieces → Bool
second_lends (Then type (Then expression End)) = lends expression
second_lends _ = false
