-- The parts of a builder's blocks that lowering preserves: ids are distinct, blocks name blocks of their own and targets of jumps, all that
-- were numbered are used, program points settle, and the blocks of loops are reached.
use Rattle.std.specs.Prelude.{◌≡◌, ℕ, ◌+◌, ◌<◌, ◌≤◌, ◌⊎◌, Bool, true, false, Option, Some, Ok, List, [], All, length, map, slice_get}
use Rattle.std.specs.List.{list_any}
use Rattle.rl_base.specs.declared.ids.BlockId.{BlockId}
use Rattle.rl_base.specs.Distinct.{AreDistinct}
use Rattle.rl_builder.specs.Builder.{State}
use Rattle.rl_builder.specs.declared.blocks.WipBlock.{WipBlock}
use Rattle.rl_builder.specs.declared.jumps.JumpScope.{JumpScope}
use Rattle.rl_builder.specs.Jumps.{break_block_of, continue_block_of, lookup_break, lookup_continue}
use Rattle.rl_hir.specs.Blocks.{Pair as BlockPair, same_id}
use Rattle.rl_hir.specs.declared.instruction.Instruction.{Instruction}
use Rattle.rl_hir.specs.declared.terminal.Terminal.{Terminal}
use Rattle.rl_hir.specs.declared.terminal.TerminalKind.{TerminalKind}
use Rattle.rl_hir.specs.declared.terminal.TerminalKind.TheVariants as kinds
use Rattle.rl_hir.specs.Terminals.{named_ids, successor_ids}
use Rattle.rl_machine.specs.Conditions.{loop_blocks}
use Rattle.rl_machine.specs.Ends.{leaving}
use Rattle.rl_machine.specs.Machine.{Code, Ends, Runs}
use Rattle.rl_machine.specs.Prunes.{Each}
use Rattle.rl_machine.specs.Silence.{IsNotedStraight, LeavesStraight, Settles}
use Rattle.rl_model.specs.Dead.{Outs}
use Rattle.rl_runs.specs.Facts.{Extends, IsCompleted, IsContainedIn, IsCurrentOrCompleted}

-- The ids of blocks, the current one included, are distinct and below the counter `next`.
pub record UniqueIds (completed : List BlockPair) (current next : ℕ) : Type 0 where
  pub apart : AreDistinct (map (λ (b : BlockPair). b.0.0) completed)
  pub open_block : IsCompleted completed current → ⊥
  pub below : (id : ℕ) → IsCompleted completed id → id < next
  pub current_below : current < next

-- The id of the current block, or one that the counter gives later.
abbrev pub IsOwn : (current next : ℕ) → ℕ → Type 0
IsOwn current next id = (id ≡ current) ⊎ (next ≤ id)

-- From the old to the new state only the current block and newly numbered blocks were completed, and ids stay distinct.
pub record PreservesUniqueIds (completed0 : List BlockPair) (current0 next0 : ℕ) (completed : List BlockPair)
    (current next : ℕ) : Type 0 where
  pub added : (id : ℕ) → IsCompleted completed id → IsCompleted completed0 id ⊎ IsOwn current0 next0 id
  pub own : IsOwn current0 next0 current
  pub distinct : UniqueIds completed0 current0 next0 → UniqueIds completed current next
  pub counted : next0 ≤ next

abbrev pub PreservesIds : State → State → Type 0
PreservesIds old new =
    PreservesUniqueIds old.completed old.current.id.0 old.env.next_block new.completed new.current.id.0 new.env.next_block

-- The id was numbered between two values of the counter.
abbrev pub WasNumbered : (first next : ℕ) → ℕ → Type 0
WasNumbered first next id = (first ≤ id) × (id < next)

-- Each block that was numbered since is complete, or under construction.
abbrev pub AreUsed : State → State → Type 0
AreUsed old new = (id : ℕ) → old.env.next_block ≤ id → id < new.env.next_block → IsCurrentOrCompleted new id

-- The block of an open handler, or one to which a jump out of an open scope goes.
pub data IsTarget (handlers : List BlockId) (scopes : List JumpScope) : ℕ → Type 0 where
  ByHandler : (index : ℕ) (block : BlockId) → slice_get handlers index ≡ Some block → IsTarget handlers scopes block.0
  ByBreak : (index : ℕ) (scope : JumpScope) → slice_get scopes index ≡ Some scope → IsTarget handlers scopes (break_block_of scope).0
  ByContinue : (index : ℕ) (scope : JumpScope) (block : BlockId) → slice_get scopes index ≡ Some scope
      → continue_block_of scope ≡ Ok block → IsTarget handlers scopes block.0

-- The terminal names the block.
abbrev pub NamesBlock : Terminal → ℕ → Type 0
NamesBlock t id = list_any (same_id (record { 0 = id })) (named_ids t) ≡ true

-- A block that was numbered since, or a target.
abbrev pub IsNameSince : State → (next : ℕ) → ℕ → Type 0
IsNameSince old next id = WasNumbered old.env.next_block next id ⊎ IsTarget old.handlers old.scopes id

-- A complete block is one of the list.
pub record IsOneOf (completed : List BlockPair) (block : BlockPair) : Type 0 where
  pub index : ℕ
  pub found : slice_get completed index ≡ Some block

-- Each block that was completed since names blocks alone that were numbered since, and targets.
abbrev pub NamesSince : State → State → Type 0
NamesSince old new = (block : BlockPair) → IsOneOf new.completed block
    → IsOneOf old.completed block ⊎ ((id : ℕ) → NamesBlock block.1.terminal id → IsNameSince old new.env.next_block id)

-- True of a terminal that a run may come to.
abbrev pub is_end : TerminalKind → Bool
is_end kinds.Unreachable = false
is_end _ = true

abbrev pub AreEnds : List BlockPair → Type 0
AreEnds completed = All (λ b. is_end b.1.terminal.kind ≡ true) completed

-- A program point of a complete block: at one of its instructions, or at its terminal.
pub record InCompletedPoint (completed : List BlockPair) (id place : ℕ) : Type 0 where
  pub index : ℕ
  pub block : BlockPair
  pub found : slice_get completed index ≡ Some block
  pub named : block.0.0 ≡ id
  pub within : place ≤ length block.1.instructions

-- A program point at an instruction of the block under construction.
pub record InCurrentPoint (current : WipBlock) (id place : ℕ) : Type 0 where
  pub named : current.id.0 ≡ id
  pub within : place < length current.instructions

abbrev pub HasPoint : State → (id place : ℕ) → Type 0
HasPoint s id place = InCompletedPoint s.completed id place ⊎ InCurrentPoint s.current id place

-- In the graph `c` the state's program points settle if the one does where the builder stands.
abbrev pub PointsSettle : Code → State → Type 0
PointsSettle c s = Settles c s.current.id.0 (length s.current.instructions) → (id place : ℕ) → HasPoint s id place → Settles c id place

-- The targets of jumps settle.
abbrev pub JumpsSettle : Code → List JumpScope → Type 0
JumpsSettle c scopes = (id : ℕ) → IsTarget [] scopes id → Settles c id 0

-- A complete block leaves at block `id` a note by which a branch goes straight on.
pub record IsStraight (completed : List BlockPair) (id : ℕ) : Type 0 where
  pub index : ℕ
  pub block : BlockPair
  pub found : slice_get completed index ≡ Some block
  pub leaves : LeavesStraight (leaving block.1.terminal.kind) id

-- Straight notes are left at blocks alone that were numbered since.
abbrev pub StraightSince : State → State → Type 0
StraightSince old new = (id : ℕ) → IsStraight new.completed id
    → IsStraight old.completed id ⊎ WasNumbered old.env.next_block new.env.next_block id

-- In the graph `c` no other straight notes are left at blocks that were numbered since.
abbrev pub NotesOwn : Code → State → State → Type 0
NotesOwn c old new =
    (id : ℕ) → old.env.next_block ≤ id → id < new.env.next_block → IsNotedStraight c id → IsStraight new.completed id

-- Straight notes are left below the counter.
abbrev pub StraightBelow : State → Type 0
StraightBelow s = (id : ℕ) → IsStraight s.completed id → id < s.env.next_block

-- The graph between the states settles as far as it leads to program points that do.
abbrev pub Settling : State → State → Type 0
Settling old new = (c : Code) → IsContainedIn new c → NotesOwn c old new → StraightBelow old → JumpsSettle c old.scopes
    → PointsSettle c old → PointsSettle c new

-- Terminals of the code lead from the block `entry` to another.
pub data IsLedTo (c : Code) (entry : ℕ) : ℕ → Type 0 where
  Begins : IsLedTo c entry entry
  Leads : (id place : ℕ) (t : Terminal) (b : BlockId) → IsLedTo c entry id → c.item id place ≡ Some (Ends t)
      → list_any (same_id b) (successor_ids t) ≡ true → IsLedTo c entry b.0

-- A part that completes: where it is reached, so is the block behind it.
abbrev pub Passes : State → State → Type 0
Passes old new =
    (c : Code) → IsContainedIn new c → (entry : ℕ) → IsLedTo c entry old.current.id.0 → IsLedTo c entry new.current.id.0

-- The blocks of each loop are reached where the loop is.
abbrev pub AreLooped : (reached : ℕ → Type 0) → List BlockPair → Type 0
AreLooped reached completed =
    (b : BlockPair) → IsOneOf completed b → reached b.0.0 → Each reached (loop_blocks b.1.terminal.kind)

abbrev pub Looping : State → State → Type 0
Looping old new = (c : Code) → IsContainedIn new c → (entry : ℕ)
    → AreLooped (IsLedTo c entry) old.completed → AreLooped (IsLedTo c entry) new.completed

-- The number of blocks, types, identifiers and instructions together.
abbrev pub size_of : State → ℕ
size_of s = s.env.next_block + s.env.next_type + length s.env.identifiers + length s.table

-- The parts of the blocks that lowering preserves.
pub record PreservesBlocks (old new : State) : Type 0 where
  pub extends : Extends old new
  pub ids : PreservesIds old new
  pub used : AreUsed old new
  pub named : NamesSince old new
  pub ended : AreEnds old.completed → AreEnds new.completed
  pub straight : StraightSince old new
  pub settle : Settling old new
  pub looped : Looping old new

-- An instruction of the key stands in a block that is reached.
pub record Stands {K : Type 0} (key_of : Instruction → Option K) (c : Code) (entry : ℕ) (key : K) : Type 0 where
  pub id : ℕ
  pub place : ℕ
  pub instruction : Instruction
  pub there : c.item id place ≡ Some (Runs instruction)
  pub is : key_of instruction ≡ Some key
  pub reached : IsLedTo c entry id

-- A part with these live keys: where it is reached, their instructions stand in reached blocks, and the block behind it is reached too if
-- the part completes.
pub record Lives {K : Type 0} (key_of : Instruction → Option K) (live : List K) (completes : Bool) (old new : State) : Type 0 where
  pub onward : completes ≡ true → Passes old new
  pub stands : (c : Code) → IsContainedIn new c → (entry : ℕ) → IsLedTo c entry old.current.id.0 → All (Stands key_of c entry) live

-- A part with these exits: if it is reached, so are the targets of the jumps out of it.
pub record Leaves (outs : Outs) (old new : State) : Type 0 where
  pub breaks : (c : Code) → IsContainedIn new c → (entry : ℕ) → IsLedTo c entry old.current.id.0
      → All (λ jump. (block : BlockId) → lookup_break old.scopes jump ≡ Ok block → IsLedTo c entry block.0) outs.breaks
  pub continues : (c : Code) → IsContainedIn new c → (entry : ℕ) → IsLedTo c entry old.current.id.0
      → All (λ jump. (block : BlockId) → lookup_continue old.scopes jump ≡ Ok block → IsLedTo c entry block.0) outs.continues
