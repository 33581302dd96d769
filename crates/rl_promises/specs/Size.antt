-- The size of a result.
use Rattle.std.specs.Prelude.{ℕ, ◌+◌, List, [], ◌∷◌, length}
use Rattle.rl_hir.specs.Blocks.{Pair as BlockPair}
use Rattle.rl_hir.specs.declared.function.HirFunction.{HirFunction}
use Rattle.rl_hir.specs.declared.function.InnerFunction.{InnerFunction}
use Rattle.rl_hir.specs.declared.function.Lowered.{Lowered}

-- The number of instructions in a function's table and of blocks in its graph.
abbrev pub function_size : HirFunction (List BlockPair) → ℕ
function_size f = length f.instructions + length f.body.blocks

-- The size of inner functions together.
abbrev pub inner_size : List InnerFunction → ℕ
inner_size [] = 0
inner_size (i ∷ inner) = function_size i.function + inner_size inner

-- The size of all tables and graphs of a result together.
abbrev pub lowered_size : Lowered → ℕ
lowered_size l = function_size l.function + inner_size l.inner
