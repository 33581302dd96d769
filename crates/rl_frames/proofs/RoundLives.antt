-- The live instructions of a loop over keys or values stand in blocks that are reached, and so are the targets of the jumps out of it.
use Rattle.std.proofs.Common.{◌≡◌, ℕ, ◌+◌, ◌++◌, Bool, true, false, List, length, Option, Some, None, refl}
use Rattle.std.proofs.lemmas.List.Elements.{All-append}
use Rattle.std.specs.List.{list_any}
use Rattle.rl_builder.specs.Builder.{new_block, with_temporary}
use Rattle.rl_builder.specs.Temporaries.{temporary, unordered}
use Rattle.rl_frames.proofs.Common.{Code, Extends, IsContainedIn, IsLedTo, Label, Place, Span, State}
use Rattle.rl_frames.proofs.RoundStates.{IsRoundsIn, led_behind, led_body, rounds_begun, rounds_in, rounds_init}
use Rattle.rl_frames.specs.Parts.{forin_begun, forin_end, forin_init, forin_next, forof_begun, forof_end, forof_init, forof_next}
use Rattle.rl_frames.specs.Parts.{forof_opened}
use Rattle.rl_frames.specs.Parts.{forof_test, rounds_body, rounds_finished}
use Rattle.rl_hir.specs.Blocks.{same_id}
use Rattle.rl_hir.specs.declared.function.BlockKind.TheVariants as block
use Rattle.rl_hir.specs.declared.instruction.Instruction.{Instruction}
use Rattle.rl_hir.specs.declared.instruction.InstructionValue.TheVariants as values
use Rattle.rl_hir.specs.declared.terminal.GotoVariant.TheVariants as gotos
use Rattle.rl_hir.specs.declared.terminal.Terminal.{Terminal}
use Rattle.rl_hir.specs.Terminals.{successor_ids}
use Rattle.rl_machine.specs.Ends.{catcher_of}
use Rattle.rl_model.specs.Dead.{Outs, loop_outs}
use Rattle.rl_order.proofs.Ordering.{or_left, same_self}
use Rattle.rl_runs.proofs.Holes.{contained_hole}
use Rattle.rl_runs.proofs.Leaving.{loop_breaks, loop_continues, outs_by}
use Rattle.rl_runs.proofs.Moves.{contained_before, extends_completed, extends_then, extends_value, terminal_met}
use Rattle.rl_runs.proofs.Passing.{passes_pushed}
use Rattle.rl_runs.specs.Blocks.{Leads, Leaves, Lives, Passes, Stands}
use Rattle.rl_runs.specs.Moves.{block_id, goto}

-- Its terminal `end` leads to the init, which leads to the assignment: that begins at `sn`.
module _ (s s2 s3 sn s5 : State) (l : ℕ) (label : Label) (end : Terminal) (test : Place) (span part : Span)
    (calm : catcher_of end.kind ≡ None)
    (enters : list_any (same_id (block_id (s.env.next_block + 1))) (successor_ids end) ≡ true)
    (gr : Extends (rounds_body s2 s.env.next_block s.current part) s3) (gn : Extends (rounds_init s s3 end) sn) (gp : Extends sn s5)
    (comes : Passes (rounds_init s s3 end) sn) (right : Passes (rounds_body s2 s.env.next_block s.current part) s3)
    (passes : Passes sn s5) where
  abbrev pub whole : State
  whole = rounds_finished s5 s.env.next_block l span test

  met : (c : Code) → IsContainedIn whole c → IsRoundsIn s s2 s3 s5 l label end test span part calm c
  met c cover = rounds_in s s2 s3 s5 l label end test span part calm gr (extends_then gn gp) c cover

  in_assignment : (c : Code) → IsContainedIn whole c → IsContainedIn sn c
  in_assignment c cover = contained_before gp (met c cover).behind

  led_assigned : (c : Code) → IsContainedIn whole c → (entry : ℕ) → IsLedTo c entry s.current.id.0 → IsLedTo c entry sn.current.id.0
  led_assigned c cover entry led =
      comes c (in_assignment c cover) entry
      (Leads s3.current.id.0 (length s3.current.instructions) end (block_id (s.env.next_block + 1))
      (right c (met c cover).right entry led)
      (terminal_met s3 end (new_block (s.env.next_block + 1) block.Loop) c (met c cover).init_open) enters)

  led_tested : (c : Code) → IsContainedIn whole c → (entry : ℕ) → IsLedTo c entry s.current.id.0 → IsLedTo c entry s5.current.id.0
  led_tested c cover entry led = passes c (met c cover).behind entry (led_assigned c cover entry led)

  led_in : (c : Code) → IsContainedIn whole c → (entry : ℕ) → IsLedTo c entry s.current.id.0 → IsLedTo c entry l
  led_in c cover entry led = led_body s s2 s3 s5 l label end test span part calm c cover entry (led_tested c cover entry led)

  pub rounds_leaves : (body : Outs) → Leaves body (rounds_begun s l label) s2
      → Leaves (outs_by label (loop_outs label true body)) s (rounds_finished s5 s.env.next_block l span test)
  rounds_leaves body j = record {
    breaks = λ c cover entry led.
        loop_breaks (IsLedTo c entry) s.scopes label (block_id (s.env.next_block + 1)) (block_id s.env.next_block) body
        (j.breaks c (met c cover).body entry (led_in c cover entry led)) (j.continues c (met c cover).body entry (led_in c cover entry led))
        true;
    continues = λ c cover entry led.
        loop_continues (IsLedTo c entry) s.scopes label (block_id (s.env.next_block + 1)) (block_id s.env.next_block) body
        (j.breaks c (met c cover).body entry (led_in c cover entry led)) (j.continues c (met c cover).body entry (led_in c cover entry led))
        true;
  }

  pub rounds_lives : {K : Type 0} (key_of : Instruction → Option K) (in_head in_right in_body : List K) (one : Bool)
      → Lives key_of in_body one (rounds_begun s l label) s2
      → Lives key_of in_right true (rounds_body s2 s.env.next_block s.current part) s3 → Lives key_of in_head true sn s5
      → Lives key_of ((in_head ++ in_right) ++ in_body) true s (rounds_finished s5 s.env.next_block l span test)
  rounds_lives key_of in_head in_right in_body one lb lr lp = record {
    onward = λ is c cover entry led.
        led_behind s s2 s3 s5 l label end test span part calm c cover entry (led_tested c cover entry led);
    stands = λ c cover entry led.
        All-append (Stands key_of c entry) (in_head ++ in_right) in_body
        (All-append (Stands key_of c entry) in_head in_right
        (lp.stands c (met c cover).behind entry (led_assigned c cover entry led)) (lr.stands c (met c cover).right entry led))
        (lb.stands c (met c cover).body entry (led_in c cover entry led));
  }

-- A `for`-`in` loop.
module _ (s s2 s3 s5 : State) (label : Label) (collection test : Place) (span left part : Span)
    (gr : Extends (rounds_body s2 s.env.next_block s.current part) s3)
    (gp : Extends (forin_next s3 s.env.next_block collection span left) s5)
    (right : Passes (rounds_body s2 s.env.next_block s.current part) s3)
    (passes : Passes (forin_next s3 s.env.next_block collection span left) s5) where
  abbrev n : ℕ
  n = s.env.next_block

  abbrev yk : State
  yk = forin_init s3 n span

  key_comes : Passes yk (forin_next s3 s.env.next_block collection span left)
  key_comes =
      passes_pushed (with_temporary yk (Some left)) (unordered (temporary yk (Some left)) (values.NextPropertyOf collection) (Some left))

  pub forin_leaves : (body : Outs) → Leaves body (forin_begun s label) s2
      → Leaves (outs_by label (loop_outs label true body)) s
      (rounds_finished s5 s.env.next_block (s.env.next_block + 1 + 1) span test)
  forin_leaves =
      rounds_leaves s s2 s3 (forin_next s3 n collection span left) s5 (n + 1 + 1) label (forin_end n span) test span part refl
      (or_left (same_id (block_id (n + 1)) (block_id (n + 1))) false (same_self (block_id (n + 1)))) gr
      (extends_value yk (values.NextPropertyOf collection) (Some left)) gp key_comes right passes

  pub forin_lives : {K : Type 0} (key_of : Instruction → Option K) (in_head in_right in_body : List K) (one : Bool)
      → Lives key_of in_body one (forin_begun s label) s2
      → Lives key_of in_right true (rounds_body s2 s.env.next_block s.current part) s3
      → Lives key_of in_head true (forin_next s3 s.env.next_block collection span left) s5
      → Lives key_of ((in_head ++ in_right) ++ in_body) true s
      (rounds_finished s5 s.env.next_block (s.env.next_block + 1 + 1) span test)
  forin_lives key_of =
      rounds_lives s s2 s3 (forin_next s3 n collection span left) s5 (n + 1 + 1) label (forin_end n span) test span part refl
      (or_left (same_id (block_id (n + 1)) (block_id (n + 1))) false (same_self (block_id (n + 1)))) gr
      (extends_value yk (values.NextPropertyOf collection) (Some left)) gp key_comes right passes key_of

-- A `for`-`of` loop.
module _ (s s2 s3 s5 : State) (label : Label) (collection test : Place) (span left part : Span)
    (gr : Extends (rounds_body s2 s.env.next_block s.current part) s3)
    (gp : Extends (forof_next s3 s.env.next_block collection span left) s5)
    (right : Passes (rounds_body s2 s.env.next_block s.current part) s3)
    (passes : Passes (forof_next s3 s.env.next_block collection span left) s5) where
  abbrev m : ℕ
  m = s.env.next_block

  abbrev t : ℕ
  t = s.env.next_block + 1 + 1

  abbrev yi : State
  yi = forof_init s3 m span

  abbrev so : State
  so = forof_opened s3 m collection span

  abbrev st : State
  st = forof_test s3 m collection span

  abbrev sn : State
  sn = forof_next s3 m collection span left

  opening : Extends yi so
  opening = extends_value yi (values.GetIterator collection) collection.span

  stepping : Extends st sn
  stepping = extends_value st (values.IteratorNext (temporary yi collection.span) collection) (Some left)

  item_extends : Extends yi sn
  item_extends =
      extends_then opening (extends_then (extends_completed so (goto t gotos.Break span) (new_block t block.Loop) (λ none. refl)) stepping)

  item_comes : Passes yi sn
  item_comes c cover entry led =
      passes_pushed (with_temporary st (Some left))
      (unordered (temporary st (Some left)) (values.IteratorNext (temporary yi collection.span) collection) (Some left)) c cover entry
      (Leads so.current.id.0 (length so.current.instructions) (goto t gotos.Break span) (block_id t)
      (passes_pushed (with_temporary yi collection.span)
      (unordered (temporary yi collection.span) (values.GetIterator collection) collection.span) c
      (contained_hole so t gotos.Break span (new_block t block.Loop) c in_test) entry led)
      (terminal_met so (goto t gotos.Break span) (new_block t block.Loop) c in_test)
      (or_left (same_id (block_id t) (block_id t)) false (same_self (block_id t))))
    where
      in_test : IsContainedIn st c
      in_test = contained_before stepping cover

  pub forof_leaves : (body : Outs) → Leaves body (forof_begun s label) s2
      → Leaves (outs_by label (loop_outs label true body)) s
      (rounds_finished s5 s.env.next_block (s.env.next_block + 1 + 1 + 1) span test)
  forof_leaves =
      rounds_leaves s s2 s3 sn s5 (m + 1 + 1 + 1) label (forof_end m span) test span part refl
      (or_left (same_id (block_id (m + 1)) (block_id (m + 1))) false (same_self (block_id (m + 1)))) gr item_extends gp item_comes right
      passes

  pub forof_lives : {K : Type 0} (key_of : Instruction → Option K) (in_head in_right in_body : List K) (one : Bool)
      → Lives key_of in_body one (forof_begun s label) s2
      → Lives key_of in_right true (rounds_body s2 s.env.next_block s.current part) s3
      → Lives key_of in_head true (forof_next s3 s.env.next_block collection span left) s5
      → Lives key_of ((in_head ++ in_right) ++ in_body) true s
      (rounds_finished s5 s.env.next_block (s.env.next_block + 1 + 1 + 1) span test)
  forof_lives key_of =
      rounds_lives s s2 s3 sn s5 (m + 1 + 1 + 1) label (forof_end m span) test span part refl
      (or_left (same_id (block_id (m + 1)) (block_id (m + 1))) false (same_self (block_id (m + 1)))) gr item_extends gp item_comes right
      passes key_of
