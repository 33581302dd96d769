-- Promises of links of optional chains: their blocks may name the block in which the chain ends early, and they take values that were
-- computed before.
use Rattle.std.specs.Prelude.{◌≡◌, ℕ, ◌<◌, ◌≤◌, List, [], All, length, map}
use Rattle.rl_builder.specs.Builder.{State, innermost, with_scope}
use Rattle.rl_builder.specs.declared.jumps.JumpScope.TheVariants as scope
use Rattle.rl_machine.specs.declared.trace.Answer.{Answer}
use Rattle.rl_machine.specs.declared.trace.Value.{Value}
use Rattle.rl_machine.specs.Ends.{Notes}
use Rattle.rl_machine.specs.Machine.{Code}
use Rattle.rl_machine.specs.Traces.{Store, ValueCont, World}
use Rattle.rl_model.specs.Actions.{Action, Ways}
use Rattle.rl_runs.specs.Blocks.{AreEnds, AreUsed, Looping, NamesSince, PreservesIds, Settling, StraightSince}
use Rattle.rl_runs.specs.Continuations.{Agrees, Continues, SharesVariables, Throws, TracesFrom, between}
use Rattle.rl_runs.specs.Facts.{Extends, HasSoundNames, IsContainedIn, Nobody}
use Rattle.rl_runs.specs.Moves.{block_id}

-- The state with one more target of jumps: block `alternate`.
abbrev pub reaching : State → (alternate : ℕ) → State
reaching s alternate = with_scope s (scope.Label [] (block_id alternate))

-- As `PreservesBlocks`, for a link of a chain that ends early in block `alternate`: that block counts as one more target.
pub record LinkBlocks (alternate : ℕ) (old new : State) : Type 0 where
  pub extends : Extends old new
  pub ids : PreservesIds old new
  pub used : AreUsed old new
  pub named : NamesSince (reaching old alternate) new
  pub ended : AreEnds old.completed → AreEnds new.completed
  pub straight : StraightSince old new
  pub settle : Settling old new
  pub looped : Looping old new

-- As `RunsOn`, for an expression that takes the values of the list `given`, and may have parts of its own.
pub record RunsOnAll (world : World) (d : List Value → Action Value) (old new : State) (given : List ℕ) (identifier : ℕ) : Type 0 where
  pub fresh : length old.env.identifiers ≤ identifier
  pub made : identifier < length new.env.identifiers
  pub free : (c : Code) → IsContainedIn new c → HasSoundNames old → Nobody c.ident identifier
  pub runs : (c : Code) → IsContainedIn new c → HasSoundNames old → SharesVariables c.ident world c.world
      → All (Nobody c.ident) given → All (λ n. n < length old.env.identifiers) given
      → (ways : Ways) (k : ValueCont) (vs : List Value) (source store : Store) (notes : Notes) (answers : List Answer)
      → Agrees c.ident source store → map store given ≡ vs
      → Throws c (between old new) store notes answers (innermost old.handlers) ways.throws
      → Continues c (between old new) store notes answers new.current.id.0 (length new.current.instructions) identifier k
      → TracesFrom c old store notes answers (d vs ways k source answers)
