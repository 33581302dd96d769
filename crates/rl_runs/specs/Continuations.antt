-- The continuations of a part: the points to which the run of a graph comes behind it, and its trace from there.
use Rattle.std.specs.Prelude.{◌≡◌, ℕ, ◌<◌, ◌≤◌, ◌⊎◌, Option, None, Some, Ok, List, All, length, map}
use Rattle.rl_base.specs.declared.ids.BlockId.{BlockId}
use Rattle.rl_builder.specs.Builder.{State}
use Rattle.rl_builder.specs.declared.jumps.JumpScope.{JumpScope}
use Rattle.rl_builder.specs.Jumps.{lookup_break, lookup_continue}
use Rattle.rl_machine.specs.declared.trace.Answer.{Answer}
use Rattle.rl_machine.specs.declared.trace.Assignment.{Assignment}
use Rattle.rl_machine.specs.declared.trace.Trace.{Trace}
use Rattle.rl_machine.specs.declared.trace.Value.{Value}
use Rattle.rl_machine.specs.Ends.{Notes, Catches}
use Rattle.rl_machine.specs.Machine.{Code, Next, set_where}
use Rattle.rl_machine.specs.Silence.{walk}
use Rattle.rl_machine.specs.Traces.{Cont, Store, ValueCont, ValuesCont, World, threw}
use Rattle.rl_model.specs.Actions.{Label}
use Rattle.rl_runs.specs.Facts.{Nobody}

-- From some number of steps on, `f` of the run has the trace `t`, whatever trace a stuck run has: so the run is not stuck.
pub record Eventually (c : Code) (f : (stuck : Trace) → Next → Trace) (t : Trace) : Type 0 where
  pub by : (enough : ℕ) × ((stuck : Trace) (steps : ℕ) → enough ≤ steps → f stuck (walk stuck c steps) ≡ t)

-- The run from index `place` of a block has the trace `t`.
abbrev pub TracesAt : Code → (block place : ℕ) → Store → Notes → List Answer → Trace → Type 0
TracesAt c block place store notes answers t = Eventually c (λ stuck next. next block place store notes answers) t

-- The run from the program point where the builder stands has the trace `t`.
abbrev pub TracesFrom : Code → State → Store → Notes → List Answer → Trace → Type 0
TracesFrom c s store notes answers t = TracesAt c s.current.id.0 (length s.current.instructions) store notes answers t

-- The stores of source and graph agree: each symbol's value is in the identifier that it has in the end.
pub record Agrees (ident : ℕ → Option ℕ) (source store : Store) : Type 0 where
  pub at : (symbol identifier : ℕ) → ident symbol ≡ Some identifier → store identifier ≡ source symbol

-- Source and graph share the same variables with other functions, and each whose value others see has an identifier.
pub record SharesVariables (ident : ℕ → Option ℕ) (source graph : World) : Type 0 where
  pub opens : (symbol : ℕ) → source.opens symbol ≡ graph.opens symbol
  pub keeps : source.keeps ≡ graph.keeps
  pub known : All (λ symbol. (identifier : ℕ) × (ident symbol ≡ Some identifier)) graph.keeps

-- The values of the variables that other functions see.
abbrev pub kept_in : World → Store → List Assignment
kept_in world source = map (λ symbol. record { symbol = record { 0 = symbol }; value = source symbol }) world.keeps

-- The identifiers and blocks that were numbered between two states: the part that was lowered between them may change these.
pub record Range : Type 0 where
  pub identifier : ℕ
  pub identifiers : ℕ
  pub block : ℕ
  pub blocks : ℕ

abbrev pub between : (old new : State) → Range
between old new = record {
  identifier = length old.env.identifiers;
  identifiers = length new.env.identifiers;
  block = old.env.next_block;
  blocks = new.env.next_block;
}

-- The second range is a part of the first.
pub record Inside (r part : Range) : Type 0 where
  pub identifier : r.identifier ≤ part.identifier
  pub identifiers : part.identifiers ≤ r.identifiers
  pub block : r.block ≤ part.block
  pub blocks : part.blocks ≤ r.blocks

-- The number is not among those from `first` on below `end`.
abbrev pub IsOutside : (first end : ℕ) → ℕ → Type 0
IsOutside first end n = (n < first) ⊎ (end ≤ n)

-- The store `later` has the values of `store` for all identifiers outside the range that are no symbol's in the end; the notes stay at
-- blocks outside it, and answers are taken alone.
pub record Later (c : Code) (r : Range) (store : Store) (notes : Notes) (answers : List Answer)
    (later : Store) (left : Notes) (rest : List Answer) : Type 0 where
  pub temporaries : (identifier : ℕ) → Nobody c.ident identifier → IsOutside r.identifier r.identifiers identifier
      → later identifier ≡ store identifier
  pub marks : (block : ℕ) → IsOutside r.block r.blocks block → left block ≡ notes block
  pub fewer : length rest ≤ length answers

-- A later point of the run, whose stores agree.
pub record Since (c : Code) (r : Range) (store : Store) (notes : Notes) (answers : List Answer)
    (source after : Store) (left : Notes) (rest : List Answer) : Type 0 where
  pub agrees : Agrees c.ident source after
  pub later : Later c r store notes answers after left rest

-- A later point behind an answer, in every range, with fewer answers left.
pub record IsBehind (c : Code) (store : Store) (notes : Notes) (answers : List Answer) (source after : Store)
    (rest : List Answer) : Type 0 where
  pub since : (r : Range) → Since c r store notes answers source after notes rest
  pub fewer : length rest < length answers

-- The run from index `place` of a block has the traces of the continuation `k`, from each later point.
pub record Follows (c : Code) (r : Range) (store : Store) (notes : Notes) (answers : List Answer)
    (block place : ℕ) (k : Cont) : Type 0 where
  pub goes : (source later : Store) (left : Notes) (rest : List Answer) → Since c r store notes answers source later left rest
      → TracesAt c block place later left rest (k source rest)

-- As `Follows`, where `k` takes the value that the store has for `identifier`.
pub record Continues (c : Code) (r : Range) (store : Store) (notes : Notes) (answers : List Answer)
    (block place identifier : ℕ) (k : ValueCont) : Type 0 where
  pub goes : (v : Value) (source later : Store) (left : Notes) (rest : List Answer)
      → Since c r store notes answers source later left rest
      → later identifier ≡ v → TracesAt c block place later left rest (k v source rest)

-- As `Follows`, where `k` takes the values that the store has for `identifiers`.
pub record ContinuesAll (c : Code) (r : Range) (store : Store) (notes : Notes) (answers : List Answer)
    (block place : ℕ) (identifiers : List ℕ) (k : ValuesCont) : Type 0 where
  pub goes : (vs : List Value) (source later : Store) (left : Notes) (rest : List Answer)
      → Since c r store notes answers source later left rest
      → map later identifiers ≡ vs → TracesAt c block place later left rest (k vs source rest)

-- The block of a handler, at which a `try` is noted: the run from it has the traces of the throw continuation, from each later point.
pub record Catching (c : Code) (r : Range) (store : Store) (notes : Notes) (answers : List Answer)
    (handler : ℕ) (k : ValueCont) : Type 0 where
  pub binding : Option ℕ
  pub noted : notes handler ≡ Some (Catches binding)
  pub outside : IsOutside r.block r.blocks handler
  pub goes : (v : Value) (source later : Store) (left : Notes) (rest : List Answer)
      → Since c r store notes answers source later left rest
      → TracesAt c handler 0 (set_where binding later v) left rest (k v source rest)

-- The throws of a part go to the innermost handler, or out of the function.
abbrev pub Throws : Code → Range → Store → Notes → List Answer → (handler : Option BlockId) → ValueCont → Type 0
Throws c r store notes answers None k = (v : Value) (source : Store) (rest : List Answer) → k v source rest ≡ threw v
Throws c r store notes answers (Some handler) k = Catching c r store notes answers handler.0 k

-- The jumps of a part: the blocks that the scopes give have the traces of the continuations.
pub record Jumps (c : Code) (r : Range) (store : Store) (notes : Notes) (answers : List Answer)
    (scopes : List JumpScope) (breaks continues : Label → Cont) : Type 0 where
  pub behind : (label : Label) (block : BlockId) → lookup_break scopes label ≡ Ok block
      → Follows c r store notes answers block.0 0 (breaks label)
  pub again : (label : Label) (block : BlockId) → lookup_continue scopes label ≡ Ok block
      → Follows c r store notes answers block.0 0 (continues label)

-- The value that a throw has left, if the handler takes it.
abbrev pub Holds : (binding : Option ℕ) → Store → Value → Type 0
Holds None store v = Unit {0}
Holds (Some identifier) store v = store identifier ≡ v
