-- The instructions of a graph for the nodes of its function that are counted, as the lowering of a function without refusals tells them.
use Rattle.std.specs.Prelude.{◌≡◌, ◌≤◌, ◌+◌, ◌++◌, List}
use Rattle.rl_names.specs.Functions.{body_in, params_in}
use Rattle.rl_names.specs.Names.{Names}
use Rattle.rl_hir.specs.Blocks.{Pair as BlockPair}
use Rattle.rl_hir.specs.declared.function.HirFunction.{HirFunction}
use Rattle.rl_model.specs.Counted.{Counted}
use Rattle.rl_promises.specs.Held.{listed, times}
use Rattle.rl_promises.specs.Live.{LivesOn, held_in, live_in_body}
use Rattle.rl_promises.specs.Tallies.{IsHeldKind, tallied}
use Rattle.rl_syntax.specs.Syntax.{Syntax}

-- The table has as many instructions of a kind and a span as parameters and body have nodes. The blocks list no more of them than the
-- table has, and list one at least where a run may reach one of the nodes.
pub record HoldsNodes (names : Names) (function : Syntax) (f : HirFunction (List BlockPair)) : Type 0 where
  pub table : (key : Counted) → IsHeldKind key.kinds
      → times key f.instructions ≡ tallied names key (params_in function) + tallied names key (body_in function)
  pub once : (key : Counted) → times key (listed f.instructions f.body.blocks) ≤ times key f.instructions
  pub live : (key : Counted) → IsHeldKind key.kinds
      → LivesOn (held_in names (params_in function) ++ live_in_body names (body_in function)) key
      → 1 ≤ times key (listed f.instructions f.body.blocks)
