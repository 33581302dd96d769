-- The blocks that are reached where a loop is, and its live instructions.
use Rattle.std.proofs.Common.{◌≡◌, ℕ, ◌+◌, ◌++◌, ◌||◌, Bool, true, false, if◌then◌else◌, List, [], length, Option, None, refl}
use Rattle.std.proofs.lemmas.List.Elements.{All-append}
use Rattle.std.specs.List.{list_any}
use Rattle.rl_builder.specs.Builder.{new_block}
use Rattle.rl_frames.proofs.Common.{Code, Extends, IsContainedIn, IsLedTo, Label, Place, Span, State}
use Rattle.rl_frames.proofs.LoopStates.{IsLoopIn, loop_branch, loop_in, loop_shut}
use Rattle.rl_frames.specs.Parts.{do_while_body, do_while_end, loop_body, while_begun, while_body, while_end, while_finished}
use Rattle.rl_hir.specs.Blocks.{same_id}
use Rattle.rl_hir.specs.declared.function.BlockKind.TheVariants as block
use Rattle.rl_hir.specs.declared.instruction.Instruction.{Instruction}
use Rattle.rl_hir.specs.declared.terminal.GotoVariant.TheVariants as gotos
use Rattle.rl_hir.specs.declared.terminal.Terminal.{Terminal}
use Rattle.rl_hir.specs.Terminals.{successor_ids}
use Rattle.rl_machine.specs.Ends.{catcher_of}
use Rattle.rl_model.specs.Dead.{Outs, goes_on, is_broken, loop_outs}
use Rattle.rl_order.proofs.Ordering.{or_left, or_right, same_self}
use Rattle.rl_runs.proofs.Leaving.{all_if, by_either, loop_breaks, loop_broken, loop_completes, loop_continues, loop_goes_on, outs_by}
use Rattle.rl_runs.proofs.Moves.{terminal_met}
use Rattle.rl_runs.specs.Blocks.{Leads, Leaves, Lives, Passes, Stands}
use Rattle.rl_runs.specs.Moves.{block_id, goto, without_scope}

-- The block to which the loop's terminal leads.
pub loop_into : (s s2 s4 : State) (test : Place) (span part : Span) (end : Terminal) → catcher_of end.kind ≡ None
    → Extends (loop_body s2 s.env.next_block end s.current part) s4 → (into : ℕ)
    → list_any (same_id (block_id into)) (successor_ids end) ≡ true → (c : Code)
    → IsContainedIn (while_finished s4 s.env.next_block span test) c → (entry : ℕ) → IsLedTo c entry s.current.id.0 → IsLedTo c entry into
loop_into s s2 s4 test span part end calm gt into is c cover entry r =
    Leads s.current.id.0 (length s.current.instructions) end (block_id into) r
    (terminal_met (loop_shut s2 s.env.next_block s part) end (new_block s.env.next_block block.Loop) c
    (loop_in s s2 s4 test span part end calm gt c cover).test) is

-- The blocks to which the branch at the end of the test leads.

pub led_body : (s s4 : State) (test : Place) (span : Span) (c : Code) → IsContainedIn (while_finished s4 s.env.next_block span test) c
    → (entry : ℕ) → IsLedTo c entry s4.current.id.0 → IsLedTo c entry (s.env.next_block + 1 + 1)
led_body s s4 test span c cover entry r =
    Leads s4.current.id.0 (length s4.current.instructions)
    (loop_branch s.env.next_block test span) (block_id (s.env.next_block + 1 + 1)) r
    (terminal_met s4 (loop_branch s.env.next_block test span)
    (new_block (s.env.next_block + 1) block.Block) c cover)
    (or_left (same_id (block_id (s.env.next_block + 1 + 1)) (block_id (s.env.next_block + 1 + 1))) _
    (same_self (block_id (s.env.next_block + 1 + 1))))

pub led_behind : (s s4 : State) (test : Place) (span : Span) (c : Code) → IsContainedIn (while_finished s4 s.env.next_block span test) c
    → (entry : ℕ) → IsLedTo c entry s4.current.id.0 → IsLedTo c entry (s.env.next_block + 1)
led_behind s s4 test span c cover entry r =
    Leads s4.current.id.0 (length s4.current.instructions)
    (loop_branch s.env.next_block test span) (block_id (s.env.next_block + 1)) r
    (terminal_met s4 (loop_branch s.env.next_block test span)
    (new_block (s.env.next_block + 1) block.Block) c cover)
    (or_right (same_id (block_id (s.env.next_block + 1)) (block_id (s.env.next_block + 1 + 1))) _
    (or_left (same_id (block_id (s.env.next_block + 1)) (block_id (s.env.next_block + 1))) false
    (same_self (block_id (s.env.next_block + 1)))))

-- The terminal of a `while` loop leads to its test.
pub while_into : (s s2 s4 : State) (test : Place) (span part : Span) → Extends (while_body s2 s.env.next_block span s.current part) s4
    → (c : Code) → IsContainedIn (while_finished s4 s.env.next_block span test) c → (entry : ℕ) → IsLedTo c entry s.current.id.0
    → IsLedTo c entry s.env.next_block
while_into s s2 s4 test span part gt =
    loop_into s s2 s4 test span part (while_end s.env.next_block span) refl gt s.env.next_block
    (or_left (same_id (block_id s.env.next_block) (block_id s.env.next_block)) false (same_self (block_id s.env.next_block)))

module _ (s s2 s4 : State) (label : Label) (test : Place) (span part : Span) where
  abbrev pub whole : State
  whole = while_finished s4 s.env.next_block span test

  pub while_leaves : (body : Outs) → Extends (while_body s2 s.env.next_block span s.current part) s4
      → Passes (while_body s2 s.env.next_block span s.current part) s4 → Leaves body (while_begun s label) s2
      → Leaves (outs_by label (loop_outs label true body)) s whole
  while_leaves body gt passes l = record {
    breaks = λ c cover entry r.
        loop_breaks (IsLedTo c entry) s.scopes label (block_id s.env.next_block) (block_id (s.env.next_block + 1)) body
        (l.breaks c (met c cover).body entry (at_body c cover entry r)) (l.continues c (met c cover).body entry (at_body c cover entry r))
        true;
    continues = λ c cover entry r.
        loop_continues (IsLedTo c entry) s.scopes label (block_id s.env.next_block) (block_id (s.env.next_block + 1)) body
        (l.breaks c (met c cover).body entry (at_body c cover entry r)) (l.continues c (met c cover).body entry (at_body c cover entry r))
        true;
  }
    where
      met : (c : Code) → IsContainedIn whole c → IsLoopIn c s s2 s4 part (while_end s.env.next_block span)
      met c cover = loop_in s s2 s4 test span part (while_end s.env.next_block span) refl gt c cover

      at_body : (c : Code) → IsContainedIn whole c → (entry : ℕ) → IsLedTo c entry s.current.id.0
          → IsLedTo c entry (s.env.next_block + 1 + 1)
      at_body c cover entry r =
          led_body s s4 test span c cover entry
          (passes c (met c cover).behind entry (while_into s s2 s4 test span part gt c cover entry r))

  module _ (body : Outs) (gt : Extends (do_while_body s2 s.env.next_block span s.current part) s4)
      (j : Leaves body (while_begun s label) s2) where
    pub met : (c : Code) → IsContainedIn whole c → IsLoopIn c s s2 s4 part (do_while_end s.env.next_block span)
    met c cover = loop_in s s2 s4 test span part (do_while_end s.env.next_block span) refl gt c cover

    -- The terminal of a `do`-`while` loop leads to its body.
    pub do_into : (c : Code) → IsContainedIn whole c → (entry : ℕ) → IsLedTo c entry s.current.id.0
        → IsLedTo c entry (s.env.next_block + 1 + 1)
    do_into =
        loop_into s s2 s4 test span part (do_while_end s.env.next_block span) refl gt (s.env.next_block + 1 + 1)
        (or_left (same_id (block_id (s.env.next_block + 1 + 1)) (block_id (s.env.next_block + 1 + 1))) false
        (same_self (block_id (s.env.next_block + 1 + 1))))

    pub do_while_leaves : (falls : Bool) → Leaves (outs_by label (loop_outs label falls body)) s whole
    do_while_leaves falls = record {
      breaks = λ c cover entry r.
          loop_breaks (IsLedTo c entry) s.scopes label (block_id s.env.next_block) (block_id (s.env.next_block + 1)) body
          (j.breaks c (met c cover).body entry (do_into c cover entry r)) (j.continues c (met c cover).body entry (do_into c cover entry r))
          falls;
      continues = λ c cover entry r.
          loop_continues (IsLedTo c entry) s.scopes label (block_id s.env.next_block) (block_id (s.env.next_block + 1)) body
          (j.breaks c (met c cover).body entry (do_into c cover entry r)) (j.continues c (met c cover).body entry (do_into c cover entry r))
          falls;
    }

    -- A test is reached where its body goes on: by its end, or by a `continue` in it.
    pub do_goes_on : (body.falls ≡ true → Passes (while_begun s label) s2) → goes_on label body ≡ true → (c : Code) → IsContainedIn whole c
        → (entry : ℕ) → IsLedTo c entry s.current.id.0 → IsLedTo c entry s.env.next_block
    do_goes_on passes on c cover entry r =
        loop_goes_on (IsLedTo c entry) s.scopes label (block_id s.env.next_block) (block_id (s.env.next_block + 1)) body
        (j.breaks c (met c cover).body entry (do_into c cover entry r)) (j.continues c (met c cover).body entry (do_into c cover entry r))
        (λ falls. Leads s2.current.id.0 (length s2.current.instructions) (goto s.env.next_block gotos.Continue part)
        (block_id s.env.next_block) (passes falls c (met c cover).body entry (do_into c cover entry r))
        (terminal_met (without_scope s2) (goto s.env.next_block gotos.Continue part) s.current c (met c cover).shut)
        (or_left (same_id (block_id s.env.next_block) (block_id s.env.next_block)) false (same_self (block_id s.env.next_block)))) on

module _ {K : Type 0} (key_of : Instruction → Option K) (s s2 s4 : State) (label : Label) (test : Place) (span part : Span) where
  pub while_lives : (in_test in_body : List K) (one : Bool) → Extends (while_begun s label) s2
      → Extends (while_body s2 s.env.next_block span s.current part) s4
      → Lives key_of in_body one (while_begun s label) s2
      → Lives key_of in_test true (while_body s2 s.env.next_block span s.current part) s4
      → Lives key_of (in_test ++ in_body) true s (while_finished s4 s.env.next_block span test)
  while_lives in_test in_body one gb gt lb lt = record {
    onward = λ is c cover entry r. led_behind s s4 test span c cover entry (tested c cover entry r);
    stands = λ c cover entry r. All-append (Stands key_of c entry) in_test in_body
        (lt.stands c (met c cover).behind entry (while_into s s2 s4 test span part gt c cover entry r))
        (lb.stands c (met c cover).body entry (led_body s s4 test span c cover entry (tested c cover entry r)));
  }
    where
      met : (c : Code) → IsContainedIn (while_finished s4 s.env.next_block span test) c
          → IsLoopIn c s s2 s4 part (while_end s.env.next_block span)
      met c cover = loop_in s s2 s4 test span part (while_end s.env.next_block span) refl gt c cover

      tested : (c : Code) → IsContainedIn (while_finished s4 s.env.next_block span test) c → (entry : ℕ) → IsLedTo c entry s.current.id.0
          → IsLedTo c entry s4.current.id.0
      tested c cover entry r =
          lt.onward refl c (met c cover).behind entry (while_into s s2 s4 test span part gt c cover entry r)

  -- The loop completes where its body goes on, behind the test, or is broken.
  pub do_while_lives : (body : Outs) → Extends (do_while_body s2 s.env.next_block span s.current part) s4
      → Leaves body (while_begun s label) s2 → (in_test in_body : List K)
      → Lives key_of in_body body.falls (while_begun s label) s2
      → Lives key_of in_test true (do_while_body s2 s.env.next_block span s.current part) s4
      → Lives key_of (in_body ++ (if goes_on label body then in_test else []))
      (outs_by label (loop_outs label (goes_on label body || is_broken body) body)).falls s
      (while_finished s4 s.env.next_block span test)
  do_while_lives body gt j in_test in_body lb lt = record {
    onward = λ is c cover entry r.
        loop_completes (IsLedTo c entry) s.scopes label (block_id s.env.next_block) (block_id (s.env.next_block + 1)) body
        (j.breaks c (met s s2 s4 label test span part body gt j c cover).body entry
        (do_into s s2 s4 label test span part body gt j c cover entry r))
        (j.continues c (met s s2 s4 label test span part body gt j c cover).body entry
        (do_into s s2 s4 label test span part body gt j c cover entry r))
        (goes_on label body || is_broken body)
        (λ one. by_either (goes_on label body) (is_broken body) (IsLedTo c entry (s.env.next_block + 1))
        (λ on. led_behind s s4 test span c cover entry
        (lt.onward refl c (met s s2 s4 label test span part body gt j c cover).behind entry
        (do_goes_on s s2 s4 label test span part body gt j lb.onward on c cover entry r)))
        (λ broken. loop_broken (IsLedTo c entry) s.scopes label (block_id s.env.next_block) (block_id (s.env.next_block + 1)) body
        (j.breaks c (met s s2 s4 label test span part body gt j c cover).body entry
        (do_into s s2 s4 label test span part body gt j c cover entry r))
        (j.continues c (met s s2 s4 label test span part body gt j c cover).body entry
        (do_into s s2 s4 label test span part body gt j c cover entry r))
        broken) one) is;
    stands = λ c cover entry r. All-append (Stands key_of c entry) in_body (if goes_on label body then in_test else [])
        (lb.stands c (met s s2 s4 label test span part body gt j c cover).body entry
        (do_into s s2 s4 label test span part body gt j c cover entry r))
        (all_if (Stands key_of c entry) (goes_on label body) in_test
        (λ on. lt.stands c (met s s2 s4 label test span part body gt j c cover).behind entry
        (do_goes_on s s2 s4 label test span part body gt j lb.onward on c cover entry r)));
  }
