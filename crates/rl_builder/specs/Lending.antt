-- The builder once its environment is no longer lent.
use Rattle.std.specs.Borrow.{Lends, MutBor, Fml, RattleType}
use Rattle.std.specs.Prelude.{[]}
use mir.Syntax.{named}
use Rattle.rl_builder.specs.declared.builder.Over.{Over}
use Rattle.rl_builder.specs.contracts.builder.Over.{the_row}
use Rattle.rl_hir.specs.contracts.environment.Environment as environment
use Rattle.rl_hir.specs.declared.environment.Environment.{Environment}

-- The builder with another environment.
abbrev pub with_environment : {W : Type 0} → Over W → Environment → Over W
with_environment b env = record b { env = record b.env { now = env } }

-- The builder ends with the last value behind the reference as its environment. The lifetime of the environment is the second of the
-- signature of `environment_mut`.
abbrev pub LendsEnvironment : (W : RattleType) → MutBor (Over W.Denot) → MutBor Environment → Fml
LendsEnvironment W b r = Lends (the_row (record { mir = named 1; lft = [] }) W) environment.the_row b r (with_environment b.now)
