-- The program points of a state settle, move by move.
use Rattle.std.proofs.Common.{◌≡◌, ℕ, ◌+◌, ◌<◌, ◌≤◌, ◌⊎◌, inl, inr, ◌++◌, List, [], ◌∷◌, length, length-append, Option, Some, None, Ok}
use Rattle.std.proofs.Common.{refl, sym, ap, ◌∙◌, subst, arith}
use Rattle.std.proofs.lemmas.Bool.Decides.{leb_tells}
use Rattle.rl_base.specs.declared.ids.InstructionId.{InstructionId}
use Rattle.rl_builder.specs.Builder.{completed_by, ended_by, entered, innermost, maybe_throw, new_block, plainly_pushed, pushed}
use Rattle.rl_builder.specs.Builder.{pushed_under, reserved}
use Rattle.rl_builder.specs.declared.blocks.WipBlock.{WipBlock}
use Rattle.rl_builder.specs.declared.jumps.JumpScope.{JumpScope}
use Rattle.rl_builder.specs.Jumps.{break_block_of, continue_block_of}
use Rattle.rl_hir.specs.Blocks.{Pair as BlockPair}
use Rattle.rl_hir.specs.declared.function.BlockKind.{BlockKind}
use Rattle.rl_hir.specs.declared.instruction.Place.{Place}
use Rattle.rl_hir.specs.declared.terminal.GotoVariant.{GotoVariant}
use Rattle.rl_hir.specs.declared.terminal.ReturnVariant.{ReturnVariant}
use Rattle.rl_hir.specs.declared.terminal.Terminal.{Terminal}
use Rattle.rl_hir.specs.declared.terminal.TerminalKind.TheVariants as ends
use Rattle.rl_machine.proofs.Silence.{settles_behind, settles_goes, settles_returns, settles_throws}
use Rattle.rl_machine.specs.Ends.{leaving}
use Rattle.rl_machine.specs.Machine.{Runs}
use Rattle.rl_machine.specs.Silence.{LeavesStraight, Settles}
use Rattle.rl_runs.proofs.Common.{BlockId, Code, Instruction, Span, State}
use Rattle.rl_runs.proofs.Moves.{instruction_met, terminal_met}
use Rattle.rl_runs.proofs.Naming.{scope_targets}
use Rattle.rl_runs.proofs.Steps.{added_cases}
use Rattle.rl_runs.specs.Blocks.{HasPoint, IsStraight, JumpsSettle, PointsSettle}
use Rattle.rl_runs.specs.Facts.{IsContainedIn}
use Rattle.rl_runs.specs.Moves.{ends_by, goto, last_hole, return_of}

-- A block of the list with one more.
pub straight_cases : (completed : List BlockPair) (b : BlockPair) (id : ℕ) → IsStraight (completed ++ b ∷ []) id
    → IsStraight completed id ⊎ LeavesStraight (leaving b.1.terminal.kind) id
straight_cases completed b id n = elim (added_cases completed b n.index n.block n.found) [
  | inl e ↦ inl (record { index = n.index; block = n.block; found = e; leaves = n.leaves })
  | inr e ↦ inr (subst (λ (x : BlockPair). LeavesStraight (leaving x.1.terminal.kind) id) e n.leaves)
]

-- A point at most at an index is before it or at it.
module _ (c : Code) (id bound : ℕ) (here : Settles c id bound) (before : (place : ℕ) → place < bound → Settles c id place) where
  pub settles_up_to : (place : ℕ) → place ≤ bound → Settles c id place
  settles_up_to place within = elim (leb_tells bound place) [
    | inl t ↦ (let over : bound ≤ place = t.1 in let same : bound ≡ place = omega (arith, within, over) in subst (λ (n : ℕ). Settles c id n) same here)
    | inr t ↦ before place t.1
  ]

-- The current block ends, at a point that settles, and a block goes on whose points settle.
pub settle_completed : (s : State) (t : Terminal) (next : WipBlock) (c : Code)
    → Settles c s.current.id.0 (length s.current.instructions) → PointsSettle c s
    → ((place : ℕ) → place < length next.instructions → Settles c next.id.0 place)
    → (id place : ℕ) → HasPoint (completed_by s t next) id place → Settles c id place
settle_completed s t next c here old onward id place h = elim h [
  | inl d ↦ elim (added_cases s.completed (ended_by s.current t) d.index d.block d.found) [
    | inl e ↦ old here id place (inl (record { index = d.index; block = d.block; found = e; named = d.named; within = d.within }))
    | inr e ↦ subst (λ (n : ℕ). Settles c n place) (sym (ap (λ (b : BlockPair). b.0.0) e) ∙ d.named)
        (settles_up_to c s.current.id.0 (length s.current.instructions) here
        (λ index within. old here s.current.id.0 index (inr (record { named = refl; within = within }))) place
        (subst (λ (b : BlockPair). place ≤ length b.1.instructions) e d.within))
  ]
  | inr w ↦ subst (λ (n : ℕ). Settles c n place) w.named (onward place w.within)
]

-- A block without instructions.
pub empty_settles : (c : Code) (id : ℕ) → (place : ℕ) → place < 0 → Settles c id place
empty_settles c id place below = absurd (omega (arith, below))

-- A jump settles where its target does.
pub settle_goto : (s : State) (behind : ℕ) (variant : GotoVariant) (part : Span) (next : WipBlock) (c : Code)
    → IsContainedIn (last_hole s behind variant part next) c → Settles c behind 0
    → Settles c s.current.id.0 (length s.current.instructions)
settle_goto s behind variant part next c cover behind_settles =
    settles_goes c s.current.id.0 (length s.current.instructions) (goto behind variant part)
    (record { 0 = behind }) [] (terminal_met s (goto behind variant part) next c cover) refl behind_settles

-- The current block ends with a return or a throw, and a block without instructions goes on.

pub settle_returned : (s : State) (span : Option Span) (variant : ReturnVariant) (place : Place) (next : ℕ) (kind : BlockKind)
    (c : Code)
    → IsContainedIn (completed_by s (return_of span variant place) (new_block next kind)) c → PointsSettle c s
    → (id index : ℕ) → HasPoint (completed_by s (return_of span variant place) (new_block next kind)) id index → Settles c id index
settle_returned s span variant place next kind c cover old =
    settle_completed s (return_of span variant place) (new_block next kind) c
    (settles_returns c s.current.id.0 (length s.current.instructions) (return_of span variant place) variant place.identifier.0
    (terminal_met s (return_of span variant place) (new_block next kind) c cover) refl) old (empty_settles c next)

pub settle_threw : (s : State) (span : Span) (place : Place) (next : ℕ) (kind : BlockKind) (c : Code)
    → IsContainedIn (completed_by s (ends_by (ends.Throw place) (Some span)) (new_block next kind)) c → PointsSettle c s
    → (id index : ℕ) → HasPoint (completed_by s (ends_by (ends.Throw place) (Some span)) (new_block next kind)) id index
    → Settles c id index
settle_threw s span place next kind c cover old =
    settle_completed s (ends_by (ends.Throw place) (Some span)) (new_block next kind) c
    (settles_throws c s.current.id.0 (length s.current.instructions) (ends_by (ends.Throw place) (Some span)) place.identifier.0
    (terminal_met s (ends_by (ends.Throw place) (Some span)) (new_block next kind) c cover) refl) old (empty_settles c next)

-- A block set aside: its points settle, and those of the block in its place.
pub settle_aside : (s s2 : State) (wip : WipBlock) (t : Terminal) (c : Code) → wip.instructions ≡ []
    → (PointsSettle c (entered s wip) → PointsSettle c s2) → Settles c s2.current.id.0 (length s2.current.instructions)
    → PointsSettle c s
    → PointsSettle c (completed_by s2 t s.current)
settle_aside s s2 wip t c none hole end old here =
    settle_completed s2 t s.current c end (hole begun)
    (λ place within. old here s.current.id.0 place (inr (record { named = refl; within = within })))
  where
    nothing : (place : ℕ) → place < 0 → ⊥
    nothing place below = omega (arith, below)

    begun : PointsSettle c (entered s wip)
    begun first id place h = elim h [
      | inl d ↦ old here id place (inl (record { index = d.index; block = d.block; found = d.found; named = d.named; within = d.within }))
      | inr w ↦ absurd (nothing place (subst (λ (ids : List InstructionId). place < length ids) none w.within))
    ]

-- An instruction, under the innermost handler.

settle_plain : (s : State) (i : Instruction) (c : Code) → Settles c s.current.id.0 (length s.current.instructions) → PointsSettle c s
    → PointsSettle c (plainly_pushed s i)
settle_plain s i c here old behind id place h = elim h [
  | inl d ↦ old here id place (inl d)
  | inr w ↦ subst (λ (n : ℕ). Settles c n place) w.named
      (settles_up_to c s.current.id.0 (length s.current.instructions) here
      (λ index within. old here s.current.id.0 index (inr (record { named = refl; within = within }))) place (up_to w.within))
]
  where
    one : length (s.current.instructions ++ record { 0 = length s.table } ∷ []) ≡ length s.current.instructions + 1
    one = length-append s.current.instructions (record { 0 = length s.table } ∷ [])

    up_to : place < length (s.current.instructions ++ record { 0 = length s.table } ∷ []) → place ≤ length s.current.instructions
    up_to within = omega (arith, one, within)

settle_under : (o : Option BlockId) (s : State) (i : Instruction) (c : Code) → innermost s.handlers ≡ o
    → c.item s.current.id.0 (length s.current.instructions) ≡ Some (Runs i)
    → IsContainedIn (pushed_under o s i) c → PointsSettle c s → PointsSettle c (pushed_under o s i)
settle_under o s i c is met cover old behind = by_handler o cover behind
  where
    one : length (s.current.instructions ++ record { 0 = length s.table } ∷ []) ≡ length s.current.instructions + 1
    one = length-append s.current.instructions (record { 0 = length s.table } ∷ [])

    here : Settles c s.current.id.0 (length (s.current.instructions ++ record { 0 = length s.table } ∷ []))
        → Settles c s.current.id.0 (length s.current.instructions)
    here after =
        settles_behind c s.current.id.0 (length s.current.instructions) i met (subst (λ (n : ℕ). Settles c s.current.id.0 n) one after)

    by_handler : (o : Option BlockId) → IsContainedIn (pushed_under o s i) c
        → Settles c (pushed_under o s i).current.id.0 (length (pushed_under o s i).current.instructions) → (id place : ℕ)
        → HasPoint (pushed_under o s i) id place → Settles c id place
    by_handler None cover1 after = settle_plain s i c (here after) old after
    by_handler (Some handler) cover1 after =
        let x : State = plainly_pushed s i in
        let end : Settles c x.current.id.0 (length x.current.instructions) =
        settles_goes c x.current.id.0 (length x.current.instructions) (maybe_throw s.env.next_block handler i.span)
        (record { 0 = s.env.next_block }) [] (terminal_met (reserved x) (maybe_throw s.env.next_block handler i.span) (new_block s.env.next_block s.current.kind) c cover1) refl after in
        settle_completed (reserved x) (maybe_throw s.env.next_block handler i.span) (new_block s.env.next_block s.current.kind) c end
        (settle_plain s i c (here end) old) (empty_settles c s.env.next_block)

pub settle_pushed : (s : State) (i : Instruction) (c : Code) → IsContainedIn (pushed s i) c → PointsSettle c s
    → PointsSettle c (pushed s i)
settle_pushed s i c cover old = settle_under (innermost s.handlers) s i c refl (instruction_met s i c cover) cover old

-- The targets of jumps under one more scope settle if those around it do, and its own blocks.
pub scope_jumps_settle : (c : Code) (outer : List JumpScope) (scope : JumpScope) → JumpsSettle c outer
    → Settles c (break_block_of scope).0 0
    → ((b : BlockId) → continue_block_of scope ≡ Ok b → Settles c b.0 0) → JumpsSettle c (outer ++ scope ∷ [])
scope_jumps_settle c outer scope jumps behind again id to = elim (scope_targets [] outer scope id to) [
  | inl around ↦ jumps id around
  | inr own ↦ elim own [
    | inl e ↦ subst (λ (n : ℕ). Settles c n 0) e behind
    | inr b ↦ subst (λ (n : ℕ). Settles c n 0) b.2 (again b.0 b.1)
  ]
]
