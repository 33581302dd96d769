-- The notes that are read in loops over keys or values, and the steps of loops behind an instruction.
use Rattle.std.proofs.Common.{◌≡◌, ℕ, ◌+◌, ◌-◌, ◌<◌, ◌≤◌, ◌⊎◌, inl, inr, ◌++◌, List, [], ◌∷◌, length, length-append, take}
use Rattle.std.proofs.Common.{Option, Some, None, refl, sym, ap, ◌∙◌, subst, arith}
use Rattle.rl_base.specs.declared.ids.InstructionId.{InstructionId}
use Rattle.rl_builder.specs.Builder.{maybe_throw, new_block, plainly_pushed, pushed_under, reserved}
use Rattle.rl_builder.specs.Temporaries.{temporary}
use Rattle.rl_frames.proofs.Common.{BlockId, Extends, Label, Place, Span, State}
use Rattle.rl_frames.proofs.RoundStates.{numbered, rounds_begun, rounds_branch, rounds_init}
use Rattle.rl_frames.specs.Parts.{forin_begun, forin_end, forin_init, forin_next, forof_begun, forof_end, forof_init, forof_next}
use Rattle.rl_frames.specs.Parts.{forof_opened}
use Rattle.rl_frames.specs.Parts.{forof_test, rounds_body, rounds_finished}
use Rattle.rl_hir.specs.declared.function.BlockKind.TheVariants as block
use Rattle.rl_hir.specs.declared.instruction.Instruction.{Instruction}
use Rattle.rl_hir.specs.declared.instruction.InstructionValue.TheVariants as values
use Rattle.rl_hir.specs.declared.terminal.GotoVariant.TheVariants as gotos
use Rattle.rl_hir.specs.declared.terminal.Terminal.{Terminal}
use Rattle.rl_machine.specs.Prunes.{ReadsNote}
use Rattle.rl_runs.proofs.HoleNotes.{unread_aside, unread_branched, unread_value}
use Rattle.rl_runs.proofs.Moves.{extends_completed, extends_then, extends_value}
use Rattle.rl_runs.proofs.Naming.{named_none}
use Rattle.rl_runs.proofs.ReadNotes.{marked_ended, unread_ended, unread_then}
use Rattle.rl_runs.proofs.StepNotes.{found_below, listed_ended, steps_ended}
use Rattle.rl_runs.proofs.Steps.{added_cases, get_more}
use Rattle.rl_runs.specs.Moves.{block_id, goto}
use Rattle.rl_runs.specs.ReadNotes.{KeepsUnread, MarkedAt, reads_of, replaced_of}
use Rattle.rl_runs.specs.StepNotes.{AreIn, HasStep, KnowsListed, StepIn, stepless_of}

-- An instruction of any kind adds no block that may have no step of a loop.
pub pushed_marks : (o : Option BlockId) (s : State) (i : Instruction) (id : ℕ) → MarkedAt stepless_of (pushed_under o s i).completed id
    → MarkedAt stepless_of s.completed id
pushed_marks None s i id m = m
pushed_marks (Some handler) s i id m =
    elim (marked_ended stepless_of (reserved (plainly_pushed s i)) (maybe_throw s.env.next_block handler i.span)
    (new_block s.env.next_block s.current.kind) id m) [
      | inl old ↦ old
      | inr new ↦ absurd (named_none id new)
    ]

-- An instruction, a step of a loop or not.
module _ (x : State) (i : Instruction) where
  -- A list of ids meets a table with one more instruction.

  step_before : (listed : List InstructionId) → AreIn x.table listed → HasStep (x.table ++ i ∷ []) listed → HasStep x.table listed
  step_before listed below h =
      let old = found_below x.table h.number.0 (below h.place h.number h.at) in
      let both : Some old.0 ≡ Some h.instruction = sym (get_more x.table (i ∷ []) h.number.0 old.0 old.1) ∙ h.kept in
      let same : h.instruction ≡ old.0 = cc in
      record { place = h.place; number = h.number; instruction = old.0; at = h.at; kept = old.1; reads = subst ReadsNote same h.reads }

  in_more : (listed : List InstructionId) → AreIn x.table listed → AreIn (x.table ++ i ∷ []) listed
  in_more listed below place number at =
      let under : number.0 < length x.table = below place number at in
      let one : length (x.table ++ i ∷ []) ≡ length x.table + 1 = length-append x.table (i ∷ []) in
      omega (arith, under, one)

  plain_step : KnowsListed x → (id : ℕ) → StepIn (plainly_pushed x i) id → StepIn x id ⊎ (x.current.id.0 ≡ id)
  plain_step k id h = elim h [
    | inl d ↦ inl
        (inl (record { block = d.block; one = d.one; named = d.named; step = step_before d.block.1.instructions (k.done d.block d.one) d.step }))
    | inr w ↦ inr w.0
  ]

  plain_listed : KnowsListed x → KnowsListed (plainly_pushed x i)
  plain_listed k = record {
    done = λ b there. in_more b.1.instructions (k.done b there);
    current = λ place number at. elim (added_cases x.current.instructions (record { 0 = length x.table }) place number at) [
      | inl old ↦ in_more x.current.instructions k.current place number old
      | inr e ↦ (let same : number.0 ≡ length x.table = ap (λ (n : InstructionId). n.0) e in
          let one : length (x.table ++ i ∷ []) ≡ length x.table + 1 = length-append x.table (i ∷ []) in
          omega (arith, same, one))
    ];
  }

  -- Under a handler the block ends behind it.

  before_throw : {id : ℕ} → StepIn (reserved (plainly_pushed x i)) id → StepIn (plainly_pushed x i) id
  before_throw {id} h = elim h [ inl d ↦ inl (record { block = d.block; one = d.one; named = d.named; step = d.step }) | inr w ↦ inr w ]

  at_throw : KnowsListed (plainly_pushed x i) → KnowsListed (reserved (plainly_pushed x i))
  at_throw k = record { done = k.done; current = k.current }

  pub pushed_step : (o : Option BlockId) → KnowsListed x → (id : ℕ) → StepIn (pushed_under o x i) id → StepIn x id ⊎ (x.current.id.0 ≡ id)
  pushed_step None k id h = plain_step k id h
  pushed_step (Some handler) k id h =
      plain_step k id
      (before_throw
      (steps_ended (reserved (plainly_pushed x i)) (maybe_throw x.env.next_block handler i.span)
      (new_block x.env.next_block x.current.kind) id refl h))

  pub pushed_listed : (o : Option BlockId) → KnowsListed x → KnowsListed (pushed_under o x i)
  pushed_listed None k = plain_listed k
  pushed_listed (Some handler) k =
      listed_ended (reserved (plainly_pushed x i)) (maybe_throw x.env.next_block handler i.span)
      (new_block x.env.next_block x.current.kind) refl (at_throw (plain_listed k))

-- Up to the init.
module _ (s s2 s3 : State) (l : ℕ) (label : Label) (end : Terminal) (part : Span) (low : s.env.next_block + 1 + 1 ≤ l)
    (gb : Extends (rounds_begun s l label) s2) (gr : Extends (rounds_body s2 s.env.next_block s.current part) s3) where
  abbrev h : ℕ
  h = s.env.next_block

  abbrev shut : State
  shut = rounds_body s2 h s.current part

  opened_unread : replaced_of end.kind ≡ [] → reads_of end.kind ≡ [] → KeepsUnread (rounds_begun s l label) s2
      → KeepsUnread (rounds_body s2 s.env.next_block s.current part) s3
      → KeepsUnread (numbered s l) (rounds_init s s3 end)
  opened_unread no_replaced no_reads kb kr =
      unread_then (numbered s l) s3 (rounds_init s s3 end) (omega (arith, gb.blocks, gr.blocks)) (omega arith)
      (gr.handlers ∙ gb.handlers)
      (unread_then (numbered s l) shut s3 (omega (arith, gb.blocks)) gr.blocks gb.handlers
      (unread_aside (numbered s l) s2 (new_block l block.Block) (rounds_begun s l label).scopes (take (length s2.scopes - 1) s2.scopes)
      s2.handlers (goto (h + 1) gotos.Continue part) refl refl gb.handlers kb) kr)
      (unread_ended s3 end (new_block (h + 1) block.Loop) no_replaced no_reads)

  -- The whole loop, from the init on by `y` to the end of the assignment.
  whole_unread : (s5 : State) (test : Place) (span : Span) → Extends (rounds_init s s3 end) s5 → replaced_of end.kind ≡ []
      → reads_of end.kind ≡ [] → KeepsUnread (rounds_begun s l label) s2
      → KeepsUnread (rounds_body s2 s.env.next_block s.current part) s3 → KeepsUnread (rounds_init s s3 end) s5
      → KeepsUnread s (rounds_finished s5 s.env.next_block l span test)
  whole_unread s5 test span gh no_replaced no_reads kb kr kh =
      unread_branched s s5 (numbered s l).env (rounds_branch h l test span) (new_block h block.Block) (block_id h) refl refl
      (omega arith) (omega (arith, low)) (omega (arith, gb.blocks, gr.blocks, gh.blocks))
      (unread_then (numbered s l) (rounds_init s s3 end) s5 (omega (arith, gb.blocks, gr.blocks)) gh.blocks (gr.handlers ∙ gb.handlers)
      (opened_unread no_replaced no_reads kb kr) kh)

-- A `for`-`in` loop.
module _ (s s2 s3 s5 : State) (label : Label) (collection test : Place) (span left part : Span)
    (gb : Extends (forin_begun s label) s2) (gr : Extends (rounds_body s2 s.env.next_block s.current part) s3)
    (gp : Extends (forin_next s3 s.env.next_block collection span left) s5) where
  abbrev n : ℕ
  n = s.env.next_block

  abbrev yk : State
  yk = forin_init s3 n span

  abbrev sk : State
  sk = forin_next s3 n collection span left

  step : Extends yk sk
  step = extends_value yk (values.NextPropertyOf collection) (Some left)

  pub forin_unread : KeepsUnread (forin_begun s label) s2 → KeepsUnread (rounds_body s2 s.env.next_block s.current part) s3
      → KeepsUnread (forin_next s3 s.env.next_block collection span left) s5
      → KeepsUnread s (rounds_finished s5 s.env.next_block (s.env.next_block + 1 + 1) span test)
  forin_unread kb kr kp =
      whole_unread s s2 s3 (n + 1 + 1) label (forin_end n span) part (omega arith) gb gr s5 test span (extends_then step gp) refl refl kb kr
      (unread_then yk sk s5 step.blocks gp.blocks step.handlers (unread_value yk (values.NextPropertyOf collection) (Some left)) kp)

-- A `for`-`of` loop.
module _ (s s2 s3 s5 : State) (label : Label) (collection test : Place) (span left part : Span)
    (gb : Extends (forof_begun s label) s2) (gr : Extends (rounds_body s2 s.env.next_block s.current part) s3)
    (gp : Extends (forof_next s3 s.env.next_block collection span left) s5) where
  abbrev m : ℕ
  m = s.env.next_block

  abbrev yi : State
  yi = forof_init s3 m span

  abbrev so : State
  so = forof_opened s3 m collection span

  abbrev st : State
  st = forof_test s3 m collection span

  abbrev sn : State
  sn = forof_next s3 m collection span left

  opening : Extends yi so
  opening = extends_value yi (values.GetIterator collection) collection.span

  testing : Extends so st
  testing = extends_completed so (goto (m + 1 + 1) gotos.Break span) (new_block (m + 1 + 1) block.Loop) (λ none. refl)

  stepping : Extends st sn
  stepping = extends_value st (values.IteratorNext (temporary yi collection.span) collection) (Some left)

  pub forof_unread : KeepsUnread (forof_begun s label) s2 → KeepsUnread (rounds_body s2 s.env.next_block s.current part) s3
      → KeepsUnread (forof_next s3 s.env.next_block collection span left) s5
      → KeepsUnread s (rounds_finished s5 s.env.next_block (s.env.next_block + 1 + 1 + 1) span test)
  forof_unread kb kr kp =
      whole_unread s s2 s3 (m + 1 + 1 + 1) label (forof_end m span) part (omega arith) gb gr s5 test span
      (extends_then opening (extends_then testing (extends_then stepping gp))) refl refl kb kr
      (unread_then yi so s5 opening.blocks (omega (arith, stepping.blocks, gp.blocks)) opening.handlers
      (unread_value yi (values.GetIterator collection) collection.span)
      (unread_then so st s5 (omega arith) (omega (arith, stepping.blocks, gp.blocks)) refl
      (unread_ended so (goto (m + 1 + 1) gotos.Break span) (new_block (m + 1 + 1) block.Loop) refl refl)
      (unread_then st sn s5 stepping.blocks gp.blocks stepping.handlers
      (unread_value st (values.IteratorNext (temporary yi collection.span) collection) (Some left)) kp)))
