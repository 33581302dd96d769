-- Texts that write a number of the notation.
use Rattle.std.specs.Prelude.{◌≡◌, ℕ, ◌≤◌, List}
use Rattle.std.specs.Fmt.{decimal}
use Rattle.rl_text.specs.Number.{largest}

-- The text writes the number, which the notation has.
pub record IsNumeral (text : List ℕ) (number : ℕ) : Type 0 where
  pub bounded : number ≤ largest
  pub written : text ≡ decimal number
