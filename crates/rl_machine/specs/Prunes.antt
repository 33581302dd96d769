-- Changes of a graph that keep its runs: blocks that no run comes to are dropped, and notes that no run reads are no longer left.
use Rattle.std.specs.Prelude.{◌≡◌, ℕ, zero, suc, nat_eq, Bool, ◌&&◌, if◌then◌else◌, Option, Some, None, List, [], ◌∷◌, map}
use Rattle.std.specs.List.{list_any}
use Rattle.rl_base.specs.declared.ids.BlockId.{BlockId}
use Rattle.rl_hir.specs.declared.instruction.Instruction.{Instruction}
use Rattle.rl_machine.specs.Acts.{Act, Computes, Asks, Opens, Steps, act}
use Rattle.rl_machine.specs.Ends.{Leaving, Goes, Tests, Reads, Compares, Returns, Throws, Stops, Note, no_notes, exit_of, leaving}
use Rattle.rl_machine.specs.Machine.{Code, Item, Runs, Ends, Next, no_way, start_store, step}
use Rattle.rl_machine.specs.Traces.{Store}
use Rattle.rl_machine.specs.declared.trace.Answer.{Answer}
use Rattle.rl_machine.specs.declared.trace.Assignment.{Assignment}
use Rattle.rl_machine.specs.declared.trace.Trace.{Trace}
use Rattle.rl_machine.specs.declared.trace.Value.{Value}

-- An effect that reads the note of the instruction's own block.
abbrev pub IsStep : Act → Type 0
IsStep (Computes v into) = ⊥
IsStep (Asks event landing) = ⊥
IsStep (Opens event result) = Unit {0}
IsStep (Steps event result) = Unit {0}

-- The instruction reads the note of its block: it asks for an iterator, or for the next value of a loop.
pub record ReadsNote (i : Instruction) : Type 0 where
  pub store : Store
  pub step : IsStep (act i.lvalue.identifier.0 i.value store)

-- No run reads the notes.
abbrev pub NoneRead : (read : ℕ → Type 0) → List (BlockId × Note) → Type 0
NoneRead read [] = Unit {0}
NoneRead read (m ∷ marks) = (read m.0.0 → ⊥) × NoneRead read marks

-- The ends of the loops that are noted where a step of a loop stands are kept.
abbrev pub ExitsKept : (kept steps : ℕ → Type 0) → List (BlockId × Note) → Type 0
ExitsKept kept steps [] = Unit {0}
ExitsKept kept steps (m ∷ marks) = (steps m.0.0 → (behind : BlockId) → exit_of m.1 ≡ Some behind → kept behind.0) × ExitsKept kept steps marks

-- Each of the blocks is so.
abbrev pub Each : (is_so : ℕ → Type 0) → List BlockId → Type 0
Each is_so [] = Unit {0}
Each is_so (b ∷ blocks) = is_so b.0 × Each is_so blocks

-- The end of a block leads to kept blocks, and reads a note that is read.
abbrev pub LeavesIn : (kept read steps : ℕ → Type 0) → Leaving → Type 0
LeavesIn kept read steps (Goes b marks) = kept b.0 × ExitsKept kept steps marks
LeavesIn kept read steps (Tests test c a f) = kept c.0 × kept a.0
LeavesIn kept read steps (Reads test c a f) = kept c.0 × kept a.0 × read f.0
LeavesIn kept read steps (Compares value cases f) = Each kept (map (λ c. c.block) cases)
LeavesIn kept read steps (Returns variant value) = Unit {0}
LeavesIn kept read steps (Throws value) = Unit {0}
LeavesIn kept read steps Stops = Unit {0}

abbrev pub StaysIn : (kept read steps : ℕ → Type 0) → (block : ℕ) → Item → Type 0
StaysIn kept read steps block (Runs i) = ReadsNote i → steps block
StaysIn kept read steps block (Ends t) = LeavesIn kept read steps (leaving t.kind)

-- The end of a block as it was, or without notes that no run reads.
pub data LeavesAs (read : ℕ → Type 0) : Leaving → Leaving → Type 0 where
  Stays : (l : Leaving) → LeavesAs read l l
  Unnoted : (b : BlockId) (marks : List (BlockId × Note)) → NoneRead read marks → LeavesAs read (Goes b marks) (Goes b [])

-- An instruction with this identifier and value, whatever its order and spans are; the end of a block with these effects.
abbrev pub Becomes : (read : ℕ → Type 0) → Option Item → Option Item → Type 0
Becomes read None None = Unit {0}
Becomes read (Some (Runs i)) (Some (Runs j)) = (j.lvalue.identifier ≡ i.lvalue.identifier) × (j.value ≡ i.value)
Becomes read (Some (Ends t)) (Some (Ends u)) = LeavesAs read (leaving t.kind) (leaving u.kind)
Becomes read _ _ = ⊥

-- The second code runs as the first from kept blocks on. `read` are the blocks whose notes a run reads, `steps` those of them at which a
-- step of a loop stands.
pub record Prunes (kept read steps : ℕ → Type 0) (c c1 : Code) : Type 0 where
  pub items : (block place : ℕ) → kept block → Becomes read (c.item block place) (c1.item block place)
  pub stays : (block place : ℕ) (item : Item) → kept block → c.item block place ≡ Some item → StaysIn kept read steps block item
  pub catchers : (block : ℕ) → kept block → c1.catcher block ≡ c.catcher block
  pub handlers : (block handler : ℕ) → kept block → c.catcher block ≡ Some handler → kept handler × read handler
  pub reads : (block : ℕ) → steps block → read block
  pub shared : c1 ≡ record c { item = c1.item; catcher = c1.catcher }

-- A program point: a block id, and an index in the block.
abbrev pub Point : Type 0
Point = ℕ × ℕ

abbrev pub same_point : Point → Point → Bool
same_point p q = nat_eq p.0 q.0 && nat_eq p.1 q.1

abbrev pub is_passed : Point → List Point → Bool
is_passed p points = list_any (same_point p) points

-- The run for at most `steps` steps, without a bound on the silent ones in a row. `passed` are the points that the row of silent steps
-- has passed; a silent step from one of them goes on by `again`.
abbrev pub exec_once : (stuck : Trace) → (again : (steps : ℕ) (passed : List Point) → Next) → Code → (steps : ℕ) → (passed : List Point) → Next
exec_once stuck again code zero passed id place store notes answers = stuck
exec_once stuck again code (suc steps) passed id place store notes answers =
    step stuck code (code.item id place)
    (if is_passed (id, place) passed then again steps passed else exec_once stuck again code steps ((id, place) ∷ passed))
    (exec_once stuck again code steps []) id place store notes answers

-- In no run from the entry do silent steps in a row pass a point twice: whatever they did there, the runs are the same.
abbrev pub PassesOnce : Code → (entry : BlockId) → (params : List ℕ) → Type 0
PassesOnce code entry params =
    (stuck : Trace) (again : (steps : ℕ) (passed : List Point) → Next) (steps : ℕ) (start : List Assignment) (arguments : List Value) (answers : List Answer)
    → exec_once stuck again code steps [] entry.0 0 (start_store code params start arguments) no_notes answers
    ≡ exec_once stuck (λ left passed. no_way stuck) code steps [] entry.0 0 (start_store code params start arguments) no_notes answers
