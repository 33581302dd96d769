-- Blocks that are used, straight notes, loops that are reached, and ends of blocks, move by move.
use Rattle.std.proofs.Common.{◌≡◌, ℕ, zero, suc, ◌<◌, ◌≤◌, ◌⊎◌, inl, inr, ◌++◌, true, List, [], ◌∷◌, length, Option, Some, None}
use Rattle.std.proofs.Common.{refl, sym, subst, arith}
use Rattle.std.proofs.lemmas.Bool.Decides.{leb_tells}
use Rattle.std.proofs.lemmas.List.Elements.{All-append}
use Rattle.rl_builder.specs.Builder.{completed_by, ended_by, innermost, maybe_throw, new_block, plainly_pushed, pushed}
use Rattle.rl_builder.specs.Builder.{pushed_under, reserved}
use Rattle.rl_builder.specs.declared.blocks.WipBlock.{WipBlock}
use Rattle.rl_hir.specs.Blocks.{Pair as BlockPair}
use Rattle.rl_hir.specs.declared.function.BlockKind.{BlockKind}
use Rattle.rl_hir.specs.declared.terminal.Terminal.{Terminal}
use Rattle.rl_machine.specs.Conditions.{loop_blocks}
use Rattle.rl_machine.specs.Ends.{leaving}
use Rattle.rl_machine.specs.Prunes.{Each}
use Rattle.rl_machine.specs.Silence.{LeavesStraight}
use Rattle.rl_runs.proofs.Common.{BlockId, Code, Instruction, State}
use Rattle.rl_runs.proofs.Points.{straight_cases}
use Rattle.rl_runs.proofs.Steps.{added_cases, get_more, get_seam}
use Rattle.rl_runs.specs.Blocks.{AreEnds, AreLooped, AreUsed, NotesOwn, StraightBelow, StraightSince, is_end}
use Rattle.rl_runs.specs.Facts.{Extends, IsCompleted, IsCurrentOrCompleted}

pub below_or : (a b : ℕ) → (a < b) ⊎ (b ≤ a)
below_or a b = elim (leb_tells b a) [ inl t ↦ inr t.1 | inr t ↦ inl t.1 ]

-- Blocks that are there stay.

pub still_there : {old new : State} → Extends old new → (id : ℕ) → IsCurrentOrCompleted old id → IsCurrentOrCompleted new id
still_there {old} {new} g id h = elim h [
  | inl same ↦ subst (λ (n : ℕ). IsCurrentOrCompleted new n) same g.current
  | inr k ↦ inr (g.completed id k)
]

-- The current block ends: what was there is complete.
pub ended_there : (s : State) (t : Terminal) (next : WipBlock) (id : ℕ) → IsCurrentOrCompleted s id
    → IsCompleted (completed_by s t next).completed id
ended_there s t next id h = elim h [
  | inl same ↦ record { place = length s.completed; block = ended_by s.current t; found = get_seam s.completed (ended_by s.current t) []; named = same }
  | inr k ↦ record { place = k.place; block = k.block; found = get_more s.completed _ k.place k.block k.found; named = k.named }
]

pub used_then : (a : State) {b c : State} → Extends b c → AreUsed a b → AreUsed b c → AreUsed a c
used_then a {b} {c} g first second id above below = elim (below_or id b.env.next_block) [
  | inl under ↦ still_there g id (first id above under)
  | inr over ↦ second id over below
]

pub used_refl : (s : State) → AreUsed s s
used_refl s id above below = absurd (omega (arith, above, below))

pub used_fresh : (s : State) (t : Terminal) (kind : BlockKind)
    → AreUsed s (completed_by (reserved s) t (new_block s.env.next_block kind))
used_fresh s t kind id above below = (let same : s.env.next_block ≡ id = omega (arith, above, below) in inl same)

used_under : (o : Option BlockId) (s : State) (i : Instruction) → AreUsed s (pushed_under o s i)
used_under None s i id above below = absurd (omega (arith, above, below))
used_under (Some handler) s i id above below = (let same : s.env.next_block ≡ id = omega (arith, above, below) in inl same)

pub used_pushed : (s : State) (i : Instruction) → AreUsed s (pushed s i)
used_pushed s i = used_under (innermost s.handlers) s i

-- Straight notes.

straight_under : (o : Option BlockId) (s : State) (i : Instruction) → StraightSince s (pushed_under o s i)
straight_under None s i id n = inl n
straight_under (Some handler) s i id n = elim (straight_cases s.completed (ended_by (plainly_pushed s i).current (maybe_throw s.env.next_block handler i.span)) id n) [
  | inl old ↦ inl old
  | inr new ↦ absurd new
]

pub straight_pushed : (s : State) (i : Instruction) → StraightSince s (pushed s i)
straight_pushed s i = straight_under (innermost s.handlers) s i

-- Straight notes stay below the counter.
pub straight_below : (a b : State) → a.env.next_block ≤ b.env.next_block → StraightSince a b → StraightBelow a → StraightBelow b
straight_below a b more since below id n = elim (since id n) [
  | inl old ↦ (let under : id < a.env.next_block = below id old in omega (arith, under, more))
  | inr own ↦ own.1
]

pub straight_ended : (s : State) (t : Terminal) (next : WipBlock) → ((id : ℕ) → LeavesStraight (leaving t.kind) id → ⊥)
    → StraightSince s (completed_by s t next)
straight_ended s t next none id n = elim (straight_cases s.completed (ended_by s.current t) id n) [ inl old ↦ inl old | inr new ↦ absurd (none id new) ]

pub straight_fresh : (s : State) (t : Terminal) (kind : BlockKind) → ((id : ℕ) → LeavesStraight (leaving t.kind) id → ⊥)
    → StraightSince s (completed_by (reserved s) t (new_block s.env.next_block kind))
straight_fresh s t kind none id n = elim (straight_cases s.completed (ended_by s.current t) id n) [ inl old ↦ inl old | inr new ↦ absurd (none id new) ]

pub straight_then : (a b c : State) → a.env.next_block ≤ b.env.next_block → b.env.next_block ≤ c.env.next_block → StraightSince a b
    → StraightSince b c → StraightSince a c
straight_then a b c first second f g id n = elim (g id n) [
  | inl m ↦ elim (f id m) [ inl old ↦ inl old | inr own ↦ inr (own.0, omega (arith, own.1, second)) ]
  | inr own ↦ inr (omega (arith, own.0, first), own.1)
]

-- The notes of a hole are its own if those of the part are.
pub notes_back : (c : Code) (s x y z : State) → NotesOwn c s z → s.env.next_block ≤ x.env.next_block
    → y.env.next_block ≤ z.env.next_block → StraightSince y z → NotesOwn c x y
notes_back c s x y z own above below g id over under n =
    elim (g id (own id (omega (arith, over, above)) (omega (arith, under, below)) n)) [ inl m ↦ m | inr o ↦ absurd (omega (arith, o.0, under)) ]

-- Loops.

pub looped_ended : (reached : ℕ → Type 0) (s : State) (t : Terminal) (next : WipBlock)
    → (reached s.current.id.0 → Each reached (loop_blocks t.kind)) → AreLooped reached s.completed
    → AreLooped reached (completed_by s t next).completed
looped_ended reached s t next here old b one = elim (added_cases s.completed (ended_by s.current t) one.index b one.found) [
  | inl e ↦ old b (record { index = one.index; found = e })
  | inr e ↦ subst (λ (x : BlockPair). reached x.0.0 → Each reached (loop_blocks x.1.terminal.kind)) (sym e) here
]

looped_under : (o : Option BlockId) (reached : ℕ → Type 0) (s : State) (i : Instruction) → AreLooped reached s.completed
    → AreLooped reached (pushed_under o s i).completed
looped_under None reached s i old = old
looped_under (Some handler) reached s i old =
    looped_ended reached (reserved (plainly_pushed s i)) (maybe_throw s.env.next_block handler i.span)
    (new_block s.env.next_block s.current.kind) (λ r. tt) old

pub looped_pushed : (reached : ℕ → Type 0) (s : State) (i : Instruction) → AreLooped reached s.completed
    → AreLooped reached (pushed s i).completed
looped_pushed reached s i old = looped_under (innermost s.handlers) reached s i old

-- Terminals to which a run may come.

only_one : (b : BlockPair) → is_end b.1.terminal.kind ≡ true → AreEnds (b ∷ [])
only_one b end zero d below = end
only_one b end (suc k) d below = absurd (omega arith)

pub ends_more : (completed : List BlockPair) (b : BlockPair) → is_end b.1.terminal.kind ≡ true → AreEnds completed
    → AreEnds (completed ++ b ∷ [])
ends_more completed b end all = All-append (λ (x : BlockPair). is_end x.1.terminal.kind ≡ true) completed (b ∷ []) all (only_one b end)

ends_under : (o : Option BlockId) (s : State) (i : Instruction) → AreEnds s.completed → AreEnds (pushed_under o s i).completed
ends_under None s i all = all
ends_under (Some handler) s i all =
    ends_more s.completed (ended_by (plainly_pushed s i).current (maybe_throw s.env.next_block handler i.span)) refl all

pub ends_pushed : (s : State) (i : Instruction) → AreEnds s.completed → AreEnds (pushed s i).completed
ends_pushed s i all = ends_under (innermost s.handlers) s i all
