-- The simulation: the graph that is built between two states of the builder has the traces of a part of the source, in a world and under
-- handlers, wherever the part's continuations have theirs.
use Rattle.std.specs.Prelude.{◌≡◌, ℕ, ◌<◌, ◌≤◌, Option, List, All, length, map}
use Rattle.rl_builder.specs.Builder.{State, innermost}
use Rattle.rl_machine.specs.declared.trace.Answer.{Answer}
use Rattle.rl_machine.specs.declared.trace.Value.{Value}
use Rattle.rl_machine.specs.Ends.{Notes}
use Rattle.rl_machine.specs.Machine.{Code}
use Rattle.rl_machine.specs.Traces.{Cont, Store, ValueCont, ValuesCont, World}
use Rattle.rl_model.specs.Actions.{Action, Ways}
use Rattle.rl_runs.specs.Continuations.{Agrees, Continues, ContinuesAll, Follows, Holds, Jumps, SharesVariables, Throws, TracesFrom}
use Rattle.rl_runs.specs.Continuations.{between}
use Rattle.rl_runs.specs.Facts.{HasSoundNames, IsContainedIn, Nobody}

-- The graph that is built from `old` to `new` has the traces of an expression of meaning `d`, and leaves the value in
-- `identifier`, which was made there and is no symbol's.
pub record RunsExpression (world : World) (d : Action Value) (old new : State) (identifier : ℕ) : Type 0 where
  pub fresh : length old.env.identifiers ≤ identifier
  pub made : identifier < length new.env.identifiers
  pub free : (c : Code) → IsContainedIn new c → HasSoundNames old → Nobody c.ident identifier
  pub runs : (c : Code) → IsContainedIn new c → HasSoundNames old → SharesVariables c.ident world c.world
      → (ways : Ways) (k : ValueCont) (source store : Store) (notes : Notes) (answers : List Answer) → Agrees c.ident source store
      → Throws c (between old new) store notes answers (innermost old.handlers) ways.throws
      → Continues c (between old new) store notes answers new.current.id.0 (length new.current.instructions) identifier k
      → TracesFrom c old store notes answers (d ways k source answers)

-- As `RunsExpression`, for expressions from left to right.
pub record RunsAll (world : World) (d : Action (List Value)) (old new : State) (identifiers : List ℕ) : Type 0 where
  pub fresh : All (λ identifier. length old.env.identifiers ≤ identifier) identifiers
  pub made : All (λ identifier. identifier < length new.env.identifiers) identifiers
  pub free : (c : Code) → IsContainedIn new c → HasSoundNames old → All (Nobody c.ident) identifiers
  pub runs : (c : Code) → IsContainedIn new c → HasSoundNames old → SharesVariables c.ident world c.world
      → (ways : Ways) (k : ValuesCont) (source store : Store) (notes : Notes) (answers : List Answer) → Agrees c.ident source store
      → Throws c (between old new) store notes answers (innermost old.handlers) ways.throws
      → ContinuesAll c (between old new) store notes answers new.current.id.0 (length new.current.instructions) identifiers k
      → TracesFrom c old store notes answers (d ways k source answers)

-- As `RunsExpression`, for an expression that takes the value of `given`.
pub record RunsOn (world : World) (d : Value → Action Value) (old new : State) (given identifier : ℕ) : Type 0 where
  pub fresh : length old.env.identifiers ≤ identifier
  pub made : identifier < length new.env.identifiers
  pub free : (c : Code) → IsContainedIn new c → HasSoundNames old → Nobody c.ident identifier
  pub runs : (c : Code) → IsContainedIn new c → HasSoundNames old → SharesVariables c.ident world c.world
      → Nobody c.ident given → given < length old.env.identifiers
      → (ways : Ways) (k : ValueCont) (v : Value) (source store : Store) (notes : Notes) (answers : List Answer)
      → Agrees c.ident source store → store given ≡ v
      → Throws c (between old new) store notes answers (innermost old.handlers) ways.throws
      → Continues c (between old new) store notes answers new.current.id.0 (length new.current.instructions) identifier k
      → TracesFrom c old store notes answers (d v ways k source answers)

-- As `RunsOn`, for an expression that takes the values of the list `given`.
pub record RunsOver (world : World) (d : List Value → Action Value) (old new : State) (given : List ℕ) (identifier : ℕ) : Type 0 where
  pub fresh : length old.env.identifiers ≤ identifier
  pub made : identifier < length new.env.identifiers
  pub free : (c : Code) → IsContainedIn new c → HasSoundNames old → Nobody c.ident identifier
  pub runs : (c : Code) → IsContainedIn new c → HasSoundNames old → SharesVariables c.ident world c.world
      → (ways : Ways) (k : ValueCont) (vs : List Value) (source store : Store) (notes : Notes) (answers : List Answer)
      → Agrees c.ident source store → map store given ≡ vs
      → Throws c (between old new) store notes answers (innermost old.handlers) ways.throws
      → Continues c (between old new) store notes answers new.current.id.0 (length new.current.instructions) identifier k
      → TracesFrom c old store notes answers (d vs ways k source answers)

-- As `RunsExpression`, for a link of an optional chain that goes to block `alternate` where the chain ends early.
pub record RunsLink (world : World) (d : Action Value) (old new : State) (alternate identifier : ℕ) : Type 0 where
  pub fresh : length old.env.identifiers ≤ identifier
  pub made : identifier < length new.env.identifiers
  pub free : (c : Code) → IsContainedIn new c → HasSoundNames old → Nobody c.ident identifier
  pub runs : (c : Code) → IsContainedIn new c → HasSoundNames old → SharesVariables c.ident world c.world
      → (ways : Ways) (k : ValueCont) (source store : Store) (notes : Notes) (answers : List Answer) → Agrees c.ident source store
      → Throws c (between old new) store notes answers (innermost old.handlers) ways.throws
      → Follows c (between old new) store notes answers alternate 0 ways.short
      → Continues c (between old new) store notes answers new.current.id.0 (length new.current.instructions) identifier k
      → TracesFrom c old store notes answers (d ways k source answers)

-- As `RunsLink`, for a link with several values: a callee behind the object that it lends.
pub record RunsLinks (world : World) (d : Action (List Value)) (old new : State) (alternate : ℕ) (identifiers : List ℕ) : Type 0 where
  pub fresh : All (λ identifier. length old.env.identifiers ≤ identifier) identifiers
  pub made : All (λ identifier. identifier < length new.env.identifiers) identifiers
  pub free : (c : Code) → IsContainedIn new c → HasSoundNames old → All (Nobody c.ident) identifiers
  pub runs : (c : Code) → IsContainedIn new c → HasSoundNames old → SharesVariables c.ident world c.world
      → (ways : Ways) (k : ValuesCont) (source store : Store) (notes : Notes) (answers : List Answer) → Agrees c.ident source store
      → Throws c (between old new) store notes answers (innermost old.handlers) ways.throws
      → Follows c (between old new) store notes answers alternate 0 ways.short
      → ContinuesAll c (between old new) store notes answers new.current.id.0 (length new.current.instructions) identifiers k
      → TracesFrom c old store notes answers (d ways k source answers)

-- The graph that is built from `old` to `new` has the traces of a pattern that takes the value of `identifier`.
pub record RunsPattern (world : World) (d : Value → Action (Unit {0})) (old new : State) (identifier : ℕ) : Type 0 where
  pub runs : (c : Code) → IsContainedIn new c → HasSoundNames old → SharesVariables c.ident world c.world
      → Nobody c.ident identifier → identifier < length old.env.identifiers
      → (ways : Ways) (k : Cont) (v : Value) (source store : Store) (notes : Notes) (answers : List Answer)
      → Agrees c.ident source store → store identifier ≡ v
      → Throws c (between old new) store notes answers (innermost old.handlers) ways.throws
      → Follows c (between old new) store notes answers new.current.id.0 (length new.current.instructions) k
      → TracesFrom c old store notes answers (d v ways (λ end. k) source answers)

-- The graph that is built from `old` to `new` has the traces of a statement of meaning `d`.
pub record RunsStatement (world : World) (d : Action (Unit {0})) (old new : State) : Type 0 where
  pub runs : (c : Code) → IsContainedIn new c → HasSoundNames old → SharesVariables c.ident world c.world
      → (ways : Ways) (normal : Cont) (source store : Store) (notes : Notes) (answers : List Answer) → Agrees c.ident source store
      → Throws c (between old new) store notes answers (innermost old.handlers) ways.throws
      → Jumps c (between old new) store notes answers old.scopes ways.breaks ways.continues
      → Follows c (between old new) store notes answers new.current.id.0 (length new.current.instructions) normal
      → TracesFrom c old store notes answers (d ways (λ end. normal) source answers)

-- As `RunsStatement`, for a part that no jump leaves: a declaration, or an expression whose value is dropped.
pub record RunsJumpless (world : World) (d : Action (Unit {0})) (old new : State) : Type 0 where
  pub runs : (c : Code) → IsContainedIn new c → HasSoundNames old → SharesVariables c.ident world c.world
      → (ways : Ways) (normal : Cont) (source store : Store) (notes : Notes) (answers : List Answer) → Agrees c.ident source store
      → Throws c (between old new) store notes answers (innermost old.handlers) ways.throws
      → Follows c (between old new) store notes answers new.current.id.0 (length new.current.instructions) normal
      → TracesFrom c old store notes answers (d ways (λ end. normal) source answers)

-- As `RunsStatement`, for a handler that takes the value of a throw.
pub record RunsHandler (world : World) (d : Value → Action (Unit {0})) (old new : State) (binding : Option ℕ) : Type 0 where
  pub runs : (c : Code) → IsContainedIn new c → HasSoundNames old → SharesVariables c.ident world c.world
      → (ways : Ways) (normal : Cont) (v : Value) (source store : Store) (notes : Notes) (answers : List Answer)
      → Agrees c.ident source store → Holds binding store v
      → Throws c (between old new) store notes answers (innermost old.handlers) ways.throws
      → Jumps c (between old new) store notes answers old.scopes ways.breaks ways.continues
      → Follows c (between old new) store notes answers new.current.id.0 (length new.current.instructions) normal
      → TracesFrom c old store notes answers (d v ways (λ end. normal) source answers)
