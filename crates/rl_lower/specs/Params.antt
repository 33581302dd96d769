-- Parameters that were lowered.
use Rattle.std.specs.Prelude.{◌+◌, ◌≤◌, List, [], ◌∷◌}
use Rattle.rl_builder.specs.Builder.{State}
use Rattle.rl_hir.specs.declared.function.Param.{Param}
use Rattle.rl_lowered.specs.Lowered.{LoweredParams}
use Rattle.rl_lowered.specs.Named.{IsNamed}
use Rattle.rl_lowered.specs.Promised.{share}
use Rattle.rl_names.specs.Names.{Names}
use Rattle.rl_runs.specs.Blocks.{size_of}
use Rattle.rl_syntax.specs.Syntax.{Syntax, Pieces, End, Then, nodes}

-- A parameter was lowered, and others may be lowered behind it.
pub record LowersParam (names : Names) (tree : Syntax) (param : Param) (old new : State) : Type 0 where
  pub next : (more : Pieces) (rest : Syntax) (last : State) (params : List Param) → LoweredParams names more rest new last params
      → LoweredParams names (Then tree more) rest old last (param ∷ params)
  pub named : IsNamed names new
  pub size : size_of new ≤ size_of old + share (nodes tree)

-- The rest of the parameters was lowered.
pub record LowersRestParam (names : Names) (tree : Syntax) (param : Param) (old new : State) : Type 0 where
  pub by : LoweredParams names End tree old new (param ∷ [])
  pub named : IsNamed names new
  pub size : size_of new ≤ size_of old + share (nodes tree)
