-- Numbers in decimal digits without leading zeros. The notation has those up to 2^53.
use Rattle.std.specs.Prelude.{ℕ, suc, false, ◌^◌, List, []}
use Rattle.std.specs.Fmt.{digits_onto}

-- The largest number of the notation.
abbrev pub largest : ℕ
largest = 2 ^ 53

-- The decimal digits of a number of any size. (`decimal`, of the library, gives the last 64 alone.)
unfoldable pub numeral : ℕ → List ℕ
numeral number = digits_onto (suc number) 10 false number []
