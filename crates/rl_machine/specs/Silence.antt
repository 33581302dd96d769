-- Rows of silent steps: the points to which a step may lead without an event, and codes in which each row ends.
use Rattle.std.specs.Prelude.{◌≡◌, ℕ, zero, suc, ◌+◌, ◌⊎◌, Some, List, [], ◌∷◌}
use Rattle.rl_base.specs.declared.ids.BlockId.{BlockId}
use Rattle.rl_hir.specs.declared.instruction.Instruction.{Instruction}
use Rattle.rl_hir.specs.declared.terminal.Terminal.{Terminal}
use Rattle.rl_machine.specs.Acts.{Act, Computes, Asks, Opens, Steps, act}
use Rattle.rl_machine.specs.Ends.{Leaving, Goes, Tests, Reads, Compares, Returns, Throws, Stops, Note, leaving, Straight, choice}
use Rattle.rl_machine.specs.Machine.{Code, Item, Runs, Ends, Next, default_case, step}
use Rattle.rl_machine.specs.Traces.{Store}
use Rattle.rl_machine.specs.declared.trace.Trace.{Trace}

-- The run of at most `steps` steps, with no bound on the silent ones. A run that is stuck or comes to its bound has the
-- trace `stuck`.
abbrev pub walk : (stuck : Trace) → Code → (steps : ℕ) → Next
walk stuck code zero id place store notes answers = stuck
walk stuck code (suc steps) id place store notes answers =
    step stuck code (code.item id place) (walk stuck code steps) (walk stuck code steps) id place store notes answers

-- An effect that may go on without an event: it computes a value, or asks for an iterator, which its block may have already.
abbrev pub MayBeSilent : Act → Type 0
MayBeSilent (Computes v into) = Unit {0}
MayBeSilent (Asks event landing) = ⊥
MayBeSilent (Opens event result) = Unit {0}
MayBeSilent (Steps event result) = ⊥

-- The instruction may go on without an event, in some store.
pub record RunsSilently (i : Instruction) : Type 0 where
  pub store : Store
  pub silent : MayBeSilent (act i.lvalue.identifier.0 i.value store)

-- A note is at block `id`, and a branch that reads it goes straight on.
abbrev pub NotesStraight : List (BlockId × Note) → (id : ℕ) → Type 0
NotesStraight [] id = ⊥
NotesStraight (m ∷ marks) id = ((m.0.0 ≡ id) × (choice m.1 ≡ Straight)) ⊎ NotesStraight marks id

abbrev pub LeavesStraight : Leaving → (id : ℕ) → Type 0
LeavesStraight (Goes b marks) id = NotesStraight marks id
LeavesStraight _ id = ⊥

-- A terminal of the code leaves such a note at block `id`.
pub record IsNotedStraight (c : Code) (id : ℕ) : Type 0 where
  pub block : ℕ
  pub place : ℕ
  pub terminal : Terminal
  pub there : c.item block place ≡ Some (Ends terminal)
  pub leaves : LeavesStraight (leaving terminal.kind) id

-- The end of a block may lead to the start of block `next` without an event. A branch does so only where a straight note may stand.
abbrev pub LeavesSilently : Code → Leaving → (next : ℕ) → Type 0
LeavesSilently c (Goes b marks) next = b.0 ≡ next
LeavesSilently c (Tests test q a f) next = ⊥
LeavesSilently c (Reads test q a f) next = IsNotedStraight c f.0 × (q.0 ≡ next)
LeavesSilently c (Compares value cases f) next = default_case cases ≡ Some (record { 0 = next })
LeavesSilently c (Returns variant value) next = ⊥
LeavesSilently c (Throws value) next = ⊥
LeavesSilently c Stops next = ⊥

-- The item at index `place` of block `id` may lead to index `place1` of block `id1` without an event.
abbrev pub ItemLeads : Code → Item → (id place id1 place1 : ℕ) → Type 0
ItemLeads c (Runs i) id place id1 place1 = RunsSilently i × (id1 ≡ id) × (place1 ≡ place + 1)
ItemLeads c (Ends t) id place id1 place1 = LeavesSilently c (leaving t.kind) id1 × (place1 ≡ 0)

-- A step from index `place` of block `id` may lead to index `place1` of block `id1` without an event. Values and the notes of a run are not
-- looked at, so it may hold of steps that no run takes.
pub record LeadsSilently (c : Code) (id place id1 place1 : ℕ) : Type 0 where
  pub stands : Item
  pub there : c.item id place ≡ Some stands
  pub leads : ItemLeads c stands id place id1 place1

-- All rows of silent steps from index `place` of block `id` end: so do those from each point to which a silent step may lead.
pub data Settles (c : Code) : (id place : ℕ) → Type 0 where
  Settled : (id place : ℕ) → ((id1 place1 : ℕ) → LeadsSilently c id place id1 place1 → Settles c id1 place1) → Settles c id place

-- All rows of silent steps end, from each point.
abbrev pub AlwaysSettles : Code → Type 0
AlwaysSettles c = (id place : ℕ) → Settles c id place
