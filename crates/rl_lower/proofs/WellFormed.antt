-- The graph of a function is numbered and linked.
use Rattle.std.proofs.Common.{◌≡◌, List}
use Rattle.rl_hir.specs.Blocks.{HaveOwnIds, Pair as BlockPair}
use Rattle.rl_hir.specs.Numbered.{IsNumbered}
use Rattle.rl_hir.specs.declared.environment.Environment.{Environment}
use Rattle.rl_hir.specs.declared.function.HirFunction.{HirFunction}
use Rattle.rl_hir.specs.declared.function.Param.{Param}
use Rattle.rl_lower.proofs.Building.{closed_listed}
use Rattle.rl_lower.proofs.FunctionGraphs.{begun_fresh, graph_fits, lowered_from}
use Rattle.rl_lower.proofs.Functions.{function_finished}
use Rattle.rl_lower.proofs.Linked.{built_linked, built_numbered}
use Rattle.rl_lower.proofs.LoweredFunctions.{AreSmall, LowersFunction, nodes_in}
use Rattle.rl_lower.specs.Begun.{FunctionTables, begun_by}
use Rattle.rl_lower.specs.Endings.{IsGraphOf, closed_off, hir_of}
use Rattle.rl_machine.specs.Machine.{Graph}
use Rattle.rl_model.specs.WellFormed.{IsLinked}
use Rattle.rl_names.specs.Names.{Names}
use Rattle.rl_runs.specs.Listed.{IsListed}
use Rattle.rl_syntax.specs.Syntax.{Pieces, Syntax}

module _ (names : Names) (tables : FunctionTables) (items : Pieces) (rest body : Syntax) (env new : Environment)
    (params : List Param) (built : Graph) (g : IsGraphOf names tables items rest body env new params built) where
  lowered : LowersFunction names (AreSmall items rest body) (nodes_in items rest body) (begun_by env tables) g.state
  lowered = lowered_from names tables items rest body env new params built g

  pub graph_listed : IsListed (closed_off g.state)
  graph_listed = closed_listed (begun_by env tables) g.state (begun_fresh env tables) lowered.lists

  -- The ids of the blocks behind the body's end are distinct.
  pub graph_own : HaveOwnIds (closed_off g.state).completed
  graph_own =
      (function_finished (begun_by env tables) g.state (begun_fresh env tables) lowered.blocks
      (graph_fits names tables items rest body env new params built g)).apart

  pub graph_numbered : IsNumbered built.table built.blocks
  graph_numbered = built_numbered (closed_off g.state) built new graph_own graph_listed g.graph

  pub graph_linked : (f : HirFunction (List BlockPair)) → f.body ≡ hir_of built → f.instructions ≡ built.table → IsLinked f
  graph_linked f body_is instructions_is =
      built_linked (closed_off g.state) built new graph_own graph_listed g.graph f body_is instructions_is
