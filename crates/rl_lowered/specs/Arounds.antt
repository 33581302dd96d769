-- The scopes of a builder, as the statements that jumps leave.
use Rattle.std.specs.Prelude.{List, map, reverse}
use Rattle.rl_builder.specs.Builder.{State}
use Rattle.rl_builder.specs.declared.jumps.JumpScope.{JumpScope}
use Rattle.rl_builder.specs.declared.jumps.JumpScope.TheVariants as scope
use Rattle.rl_promises.specs.Jumps.{Around, InLoop, InLabeled, InSwitch}

abbrev pub around_of : JumpScope → Around
around_of (scope.Loop label continue_block break_block) = InLoop label
around_of (scope.Label label break_block) = InLabeled label
around_of (scope.Switch label break_block) = InSwitch label

-- The statements around the place where the builder stands, from the innermost out.
abbrev pub arounds : State → List Around
arounds s = map around_of (reverse s.scopes)
