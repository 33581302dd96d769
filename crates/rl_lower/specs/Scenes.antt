-- The scenes in which a lowered function runs.
use Rattle.std.specs.Prelude.{◌≡◌, true, List}
use Rattle.rl_hir.specs.Pairs.{identifier_of}
use Rattle.rl_hir.specs.declared.function.Pair.{Pair}
use Rattle.rl_machine.specs.Traces.{World}
use Rattle.rl_model.specs.Scene.{Scene}
use Rattle.rl_lowered.specs.Params.{TakesEarly}
use Rattle.rl_names.specs.Names.{Names}
use Rattle.rl_runs.specs.Continuations.{SharesVariables}

-- A scene of the function as the port runs it, with these names; its world is that of the graph, by the pairs.
pub record IsSceneOf (names : Names) (pairs : List Pair) (scene : Scene) (world : World) : Type 0 where
  pub named : scene.names ≡ names
  pub ported : scene.ported ≡ true
  pub early : TakesEarly scene
  pub shares : SharesVariables (identifier_of pairs) scene.world world
