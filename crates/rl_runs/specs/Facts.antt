-- Facts of a builder's state: the items and handlers of its blocks, and its names. A later state keeps them, and a graph has them.
use Rattle.std.specs.Prelude.{◌≡◌, ℕ, ◌≤◌, ◌⊎◌, Option, None, Some, List, length, map, slice_get}
use Rattle.rl_base.specs.declared.ids.BlockId.{BlockId}
use Rattle.rl_base.specs.declared.ids.InstructionId.{InstructionId}
use Rattle.rl_base.specs.Distinct.{AreDistinct}
use Rattle.rl_builder.specs.Builder.{State, innermost}
use Rattle.rl_hir.specs.Blocks.{Pair as BlockPair}
use Rattle.rl_hir.specs.declared.function.Identifier.{Identifier}
use Rattle.rl_hir.specs.declared.function.Pair.{Pair}
use Rattle.rl_hir.specs.declared.instruction.Instruction.{Instruction}
use Rattle.rl_hir.specs.Pairs.{identifier_of}
use Rattle.rl_machine.specs.Ends.{catcher_of}
use Rattle.rl_machine.specs.Machine.{Code, Item, Runs, Ends}
use Rattle.rl_used_names.specs.IdentifierNames.{AreNamed}
use Rattle.rl_used_names.specs.UsedName.{UsedName}

-- A fact of a block: the item at an index of it, or the handler to which its instructions throw. The terminal's index is the number of
-- instructions.
pub data Fact : Type 0 where
  At : (place : ℕ) (item : Item) → Fact
  Catch : (handler : Option ℕ) → Fact

-- The list has at index `place` the id of an instruction, and the table has that instruction.
pub record Lists (table : List Instruction) (listed : List InstructionId) (place : ℕ) (i : Instruction) : Type 0 where
  pub number : InstructionId
  pub at : slice_get listed place ≡ Some number
  pub kept : slice_get table number.0 ≡ Some i

-- The fact is one of a complete block.
abbrev pub InBlock : List Instruction → BlockPair → Fact → Type 0
InBlock table b (At place (Runs i)) = Lists table b.1.instructions place i
InBlock table b (At place (Ends t)) = (length b.1.instructions ≡ place) × (b.1.terminal ≡ t)
InBlock table b (Catch handler) = catcher_of b.1.terminal.kind ≡ handler

-- The fact is one of the block under construction. It has no terminal yet; where no handler is open, its instructions throw to none.
abbrev pub InWip : List Instruction → (handlers : List BlockId) → List InstructionId → Fact → Type 0
InWip table handlers listed (At place (Runs i)) = Lists table listed place i
InWip table handlers listed (At place (Ends t)) = ⊥
InWip table handlers listed (Catch handler) = (handler ≡ None) × (innermost handlers ≡ None)

-- The fact is one of the complete block `id` of the state.
pub record InCompleted (s : State) (id : ℕ) (f : Fact) : Type 0 where
  pub place : ℕ
  pub block : BlockPair
  pub found : slice_get s.completed place ≡ Some block
  pub named : block.0.0 ≡ id
  pub holds : InBlock s.table block f

-- The fact is one of the block `id` under construction.
pub record InCurrent (s : State) (id : ℕ) (f : Fact) : Type 0 where
  pub named : s.current.id.0 ≡ id
  pub holds : InWip s.table s.handlers s.current.instructions f

-- The fact is one of the state's block `id`.
abbrev pub HasFact : State → ℕ → Fact → Type 0
HasFact s id f = InCompleted s id f ⊎ InCurrent s id f

-- A complete block has the id `id`.
pub record IsCompleted (completed : List BlockPair) (id : ℕ) : Type 0 where
  pub place : ℕ
  pub block : BlockPair
  pub found : slice_get completed place ≡ Some block
  pub named : block.0.0 ≡ id

-- The block `id` is under construction or complete.
abbrev pub IsCurrentOrCompleted : State → ℕ → Type 0
IsCurrentOrCompleted s id = (s.current.id.0 ≡ id) ⊎ IsCompleted s.completed id

-- The identifiers of symbols have names, each that of its own symbol; the builder and the environment agree on them, and no symbol
-- has two pairs.
pub record AreSoundNames (bindings : List Pair) (used : List UsedName) (identifiers : List Identifier)
    (pairs : List Pair) : Type 0 where
  pub agree : AreNamed bindings used identifiers
  pub same : (symbol : ℕ) → identifier_of bindings symbol ≡ identifier_of pairs symbol
  pub once : AreDistinct (map (λ (p : Pair). p.symbol.0) pairs)

abbrev pub HasSoundNames : State → Type 0
HasSoundNames s = AreSoundNames s.bindings s.used_names s.env.identifiers s.env.pairs

-- The new pairs give each symbol of the old ones the same identifier, and each other symbol one from `made` on, the number of
-- identifiers that were made before.
pub record GrowsNames (old : List Pair) (made : ℕ) (new : List Pair) : Type 0 where
  pub kept : (symbol identifier : ℕ) → identifier_of old symbol ≡ Some identifier → identifier_of new symbol ≡ Some identifier
  pub fresh : (symbol identifier : ℕ) → identifier_of new symbol ≡ Some identifier
      → (identifier_of old symbol ≡ Some identifier) ⊎ (made ≤ identifier)

-- No two symbols have one identifier.
abbrev pub AreOne : (ident : ℕ → Option ℕ) → Type 0
AreOne ident = (symbol other identifier : ℕ) → ident symbol ≡ Some identifier → ident other ≡ Some identifier → symbol ≡ other

-- The final identifiers of symbols, `ident`, are those of the pairs, and others from `made` on. No two symbols have one.
pub record CoversNames (pairs : List Pair) (made : ℕ) (ident : ℕ → Option ℕ) : Type 0 where
  pub kept : (symbol identifier : ℕ) → identifier_of pairs symbol ≡ Some identifier → ident symbol ≡ Some identifier
  pub fresh : (symbol identifier : ℕ) → ident symbol ≡ Some identifier
      → (identifier_of pairs symbol ≡ Some identifier) ⊎ (made ≤ identifier)
  pub one : AreOne ident

-- No symbol has the identifier in the end.
abbrev pub Nobody : (ident : ℕ → Option ℕ) → (identifier : ℕ) → Type 0
Nobody ident identifier = (symbol : ℕ) → ident symbol ≡ Some identifier → ⊥

-- The new state has the facts, blocks, instructions and names of the old one, its entry and its stacks; no counter fell, and names stay
-- sound.
pub record Extends (old new : State) : Type 0 where
  pub done : (id : ℕ) (f : Fact) → InCompleted old id f → InCompleted new id f
  pub wip : (id : ℕ) (f : Fact) → InCurrent old id f → HasFact new id f
  pub table : (number : ℕ) (i : Instruction) → slice_get old.table number ≡ Some i → slice_get new.table number ≡ Some i
  pub completed : (id : ℕ) → IsCompleted old.completed id → IsCompleted new.completed id
  pub current : IsCurrentOrCompleted new old.current.id.0
  pub entry : new.entry ≡ old.entry
  pub handlers : new.handlers ≡ old.handlers
  pub scopes : new.scopes ≡ old.scopes
  pub blocks : old.env.next_block ≤ new.env.next_block
  pub identifiers : length old.env.identifiers ≤ length new.env.identifiers
  pub names : GrowsNames old.env.pairs (length old.env.identifiers) new.env.pairs
  pub sound : HasSoundNames old → HasSoundNames new

-- The graph `c` has the fact in its block `id`.
abbrev pub Meets : Code → (id : ℕ) → Fact → Type 0
Meets c id (At place item) = c.item id place ≡ Some item
Meets c id (Catch handler) = c.catcher id ≡ handler

-- The graph `c` has every fact of the state and, in the end, its names.
pub record IsContainedIn (s : State) (c : Code) : Type 0 where
  pub has : (id : ℕ) (f : Fact) → HasFact s id f → Meets c id f
  pub names : CoversNames s.env.pairs (length s.env.identifiers) c.ident
