-- Bytes spell one unit at most.
use Rattle.std.proofs.Common.{◌≡◌, ℕ, List}
use Rattle.rl_text.proofs.Spellings.{Spells-one}
use Rattle.rl_syntax.specs.Syntax.{Syntax, plain, outset}
use Rattle.rl_ast.specs.Units.{Spells}
use Rattle.rl_syntax.proofs.Placement.{placed-one}

pub one_unit : (bytes : List ℕ) (u v : Syntax) → Spells bytes u → Spells bytes v → u ≡ v
one_unit bytes u v one other = placed-one u v outset (Spells-one bytes (plain u) (plain v) one.spelled other.spelled) one.numbers other.numbers
