-- Calls that run a closure over the builder: the condition on each closure, and the state after the call.
use Rattle.std.specs.Prelude.{◌≡◌, List, ◌++◌, Result, Ok, Err, MatchResult}
use Rattle.std.specs.Borrow.{MutBor}
use Rattle.std.specs.Fn.{Once, FnOnceTakesAtMut, FnOnceReturnsAtMut}
use Rattle.rl_base.specs.declared.ids.BlockId.{BlockId}
use Rattle.rl_base.specs.declared.stop.Stop.{Stop}
use Rattle.rl_base.specs.declared.stop.Stop.TheVariants as stops
use Rattle.rl_builder.specs.Builder.{State, state_of, with_scope, with_handler, completed_by, entered}
use Rattle.rl_builder.specs.Tables.{Tables}
use Rattle.rl_builder.specs.declared.builder.Over.{Over}
use Rattle.rl_builder.specs.declared.builder.Work.{Work}
use Rattle.rl_builder.specs.declared.jumps.JumpScope.{JumpScope}
use Rattle.rl_hir.specs.declared.terminal.Terminal.{Terminal}

-- The least that each closure owes: it leaves the handlers as it found them, and the scopes too where it succeeds; where it
-- stops, others may stand above those that it found.
pub record KeepsStacks {U B T E : Type 0} (old : Over (Work U B)) (result : Result T E) (new : Over (Work U B)) : Type 0 where
  pub same_reference : new.env.ghost_name ≡ old.env.ghost_name
  pub handlers : new.work.handlers.items ≡ old.work.handlers.items
  pub scopes : MatchResult result (λ _. new.work.scopes.items ≡ old.work.scopes.items) (λ _. (above : List JumpScope) × (new.work.scopes.items ≡ old.work.scopes.items ++ above))

module _ {U B : Type 0} (tables : U → Tables) where
  -- The builder has the state `s`, over the environment of `old`.
  pub record IsAt (old : Over (Work U B)) (s : State) (b : Over (Work U B)) : Type 0 where
    pub same_reference : b.env.ghost_name ≡ old.env.ghost_name
    pub state : state_of tables b ≡ s

  -- The outcome of a call that opens a scope or a handler for its closure. `Unopened`: the opening move had no memory;
  -- nothing changed, so the closure was not called. `Called`: the closure ran, as `Runs` says.
  pub data Outcome {T : Type 0} (Runs : Type 0) (old : Over (Work U B)) (result : Result T Stop) (new : Over (Work U B)) : Type 0 where
    Unopened : result ≡ Err stops.OutOfMemory → IsAt old (state_of tables old) new → Outcome Runs old result new
    Called : Runs → Outcome Runs old result new

  module _ {F T : Type 0} (g : Once F (MutBor (Over (Work U B)) × Unit {0}) (Result T Stop × (MutBor (Over (Work U B)) × Unit {0}))) (f : F) (old : Over (Work U B)) where
    -- The closure may be called from the state `s`.
    abbrev pub TakesFrom : State → Type 0
    TakesFrom s = (b : Over (Work U B)) → IsAt old s b → FnOnceTakesAtMut g f b

    -- Each outcome of a call from the state `s` is as a closure owes it.
    abbrev pub KeepsFrom : State → Type 0
    KeepsFrom s = (b : Over (Work U B)) (r : Result T Stop) (c : Over (Work U B)) → IsAt old s b → FnOnceReturnsAtMut g f b r c → KeepsStacks b r c

    -- The closure ran in the scope, and the call ends with its result. Where it succeeded, the scope was closed behind it;
    -- where it stopped, of whatever cause, all is as it left it.
    pub record RunsInScope (scope : JumpScope) (result : Result T Stop) (new : Over (Work U B)) : Type 0 where
      pub given : Over (Work U B)
      pub left : Over (Work U B)
      pub opened : IsAt old (with_scope (state_of tables old) scope) given
      pub met : FnOnceReturnsAtMut g f given result left
      pub closed : MatchResult result (λ _. IsAt new (with_scope (state_of tables new) scope) left) (λ _. new ≡ left)

    -- The closure ran under the handler, which was closed behind it in any case, and the call ends with its result.
    pub record RunsUnderHandler (handler : BlockId) (result : Result T Stop) (new : Over (Work U B)) : Type 0 where
      pub given : Over (Work U B)
      pub left : Over (Work U B)
      pub opened : IsAt old (with_handler (state_of tables old) handler) given
      pub met : FnOnceReturnsAtMut g f given result left
      pub closed : IsAt new (with_handler (state_of tables new) handler) left

-- The end of a call whose closure succeeded in a block: the block that was current before is current again. `Completed`: the
-- block that the closure left has its terminal, and the call succeeds with `value`. `Lost`: no memory was given for it, and
-- it is lost.
pub data Leaves {U B T : Type 0} (tables : U → Tables) (old left : Over (Work U B)) (terminal : Terminal) (value : T) (result : Result T Stop) (new : Over (Work U B)) : Type 0 where
  Completed : result ≡ Ok value → IsAt tables left (completed_by (state_of tables left) terminal old.work.current) new → Leaves tables old left terminal value result new
  Lost : result ≡ Err stops.OutOfMemory → IsAt tables left (entered (state_of tables left) old.work.current) new → Leaves tables old left terminal value result new

-- The end of a call behind its closure's `answer` in a block. Where the closure stopped, of whatever cause, the call ends
-- with its stop, and all is as it left it.
abbrev pub EndsBlock : {U B T : Type 0} → (tables : U → Tables) → (old left : Over (Work U B)) → (answer : Result Terminal Stop) → (value : T) → (result : Result T Stop) → (new : Over (Work U B)) → Type 0
EndsBlock tables old left answer value result new = MatchResult answer (λ terminal. Leaves tables old left terminal value result new) (λ stop. (result ≡ Err stop) × (new ≡ left))

module _ {U B F : Type 0} (tables : U → Tables) (g : Once F (MutBor (Over (Work U B)) × Unit {0}) (Result Terminal Stop × (MutBor (Over (Work U B)) × Unit {0}))) (f : F) (old : Over (Work U B)) where
  -- The closure ran from the state `s` in a block, and the call ended behind its answer.
  pub record RunsInBlock (s : State) (result : Result (Unit {0}) Stop) (new : Over (Work U B)) : Type 0 where
    pub given : Over (Work U B)
    pub left : Over (Work U B)
    pub answer : Result Terminal Stop
    pub entered : IsAt tables old s given
    pub met : FnOnceReturnsAtMut g f given answer left
    pub closed : EndsBlock tables old left answer tt result new

-- A call of `f` at a reference to `s` and at `a` may return `r` and leave `after`.
pub record ReturnsWith {F S A R : Type 0} (g : Once F (MutBor S × (A × Unit {0})) (R × (MutBor S × Unit {0}))) (f : F) (s : S) (a : A) (r : R) (after : S) : Type 0 where
  pub shown : MutBor S
  pub shows : shown.now ≡ s
  pub left : MutBor S
  pub met : g.post f (shown, (a, tt)) (r, (left, tt))
  pub leaves : left.now ≡ after

-- `f` may be called at a reference to `s` and at `a`.
abbrev pub TakesWith : {F S A R : Type 0} → Once F (MutBor S × (A × Unit {0})) R → F → S → A → Type 0
TakesWith {F} {S} g f s a = (p : MutBor S) → p.now ≡ s → g.pre f (p, (a, tt))

module _ {U B F : Type 0} (tables : U → Tables) (g : Once F (MutBor (Over (Work U B)) × (BlockId × Unit {0})) (Result Terminal Stop × (MutBor (Over (Work U B)) × Unit {0}))) (f : F) (old : Over (Work U B)) where
  -- As `TakesFrom`, for a closure that is given the id of the block.
  abbrev pub TakesBlock : State → BlockId → Type 0
  TakesBlock s id = (b : Over (Work U B)) → IsAt tables old s b → TakesWith g f b id

  -- As `KeepsFrom`, for a closure that is given the id of the block.
  abbrev pub KeepsBlock : State → BlockId → Type 0
  KeepsBlock s id = (b : Over (Work U B)) (r : Result Terminal Stop) (c : Over (Work U B)) → IsAt tables old s b → ReturnsWith g f b id r c → KeepsStacks b r c

  -- As `RunsInBlock`, for a closure that is given the id of the block, which the call returns.
  pub record RunsInFreshBlock (s : State) (id : BlockId) (result : Result BlockId Stop) (new : Over (Work U B)) : Type 0 where
    pub given : Over (Work U B)
    pub left : Over (Work U B)
    pub answer : Result Terminal Stop
    pub entered : IsAt tables old s given
    pub met : ReturnsWith g f given id answer left
    pub closed : EndsBlock tables old left answer id result new
