-- The live instructions of a `for` loop stand in blocks that are reached, and so are the targets of the jumps out of it.
use Rattle.std.proofs.Common.{◌≡◌, ℕ, ◌+◌, ◌++◌, true, false, if◌then◌else◌, List, [], length, All, Option, Some, None, ◌∙◌, subst}
use Rattle.std.proofs.lemmas.List.Elements.{All-append, All-nil}
use Rattle.rl_builder.specs.declared.jumps.JumpScope.{JumpScope}
use Rattle.rl_frames.proofs.Common.{BlockId, Code, Extends, IsContainedIn, IsLedTo, Label, Place, Span, State}
use Rattle.rl_frames.proofs.ForFronts.{init_comes}
use Rattle.rl_frames.proofs.ForStates.{IsForIn, for_front, for_in, for_into, for_led_behind, for_led_body, for_tests, update_extends}
use Rattle.rl_frames.specs.Parts.{for_begun, for_body, for_finished, for_update}
use Rattle.rl_hir.specs.Blocks.{same_id}
use Rattle.rl_hir.specs.declared.instruction.Instruction.{Instruction}
use Rattle.rl_hir.specs.declared.terminal.GotoVariant.TheVariants as gotos
use Rattle.rl_model.specs.Dead.{Outs, goes_on, loop_outs}
use Rattle.rl_order.proofs.Ordering.{or_left, same_self}
use Rattle.rl_runs.proofs.Holes.{contained_hole}
use Rattle.rl_runs.proofs.Leaving.{BreakLeads, ContinueLeads, all_if, loop_breaks, loop_continues, loop_goes_on, outs_by}
use Rattle.rl_runs.proofs.Moves.{contained_before, terminal_met}
use Rattle.rl_runs.specs.Blocks.{Leads, Leaves, Lives, Passes, Stands}
use Rattle.rl_runs.specs.Moves.{block_id, goto, without_scope}

module _ (s y s4 s5 : State) (label : Label) (again : BlockId) (update : Option BlockId) (test : Place) (span part last : Span)
    (gb : Extends (for_body y s.env.next_block label again part) s4) (gt : Extends (for_tests s y s4 again update span last) s5)
    (comes : (c : Code) → IsContainedIn (for_front s y part) c → (entry : ℕ) → IsLedTo c entry (s.env.next_block + 1 + 1)
    → IsLedTo c entry s.env.next_block)
    (passes : Passes (for_tests s y s4 again update span last) s5) where
  abbrev pub whole : State
  whole = for_finished s5 s.env.next_block y.env.next_block span test

  pub met : (c : Code) → IsContainedIn whole c → IsForIn s y s4 s5 label again update test span part last c
  met c cover = for_in s y s4 s5 label again update test span part last gb gt c cover

  pub led_init : (c : Code) → IsContainedIn whole c → (entry : ℕ) → IsLedTo c entry s.current.id.0
      → IsLedTo c entry (s.env.next_block + 1 + 1)
  led_init c cover entry led = for_into s y s4 s5 label again update test span part last gb gt c cover entry led

  pub led_test : (c : Code) → IsContainedIn whole c → (entry : ℕ) → IsLedTo c entry s.current.id.0 → IsLedTo c entry s.env.next_block
  led_test c cover entry led = comes c (met c cover).front entry (led_init c cover entry led)

  led_tested : (c : Code) → IsContainedIn whole c → (entry : ℕ) → IsLedTo c entry s.current.id.0 → IsLedTo c entry s5.current.id.0
  led_tested c cover entry led = passes c (met c cover).behind entry (led_test c cover entry led)

  pub led_in : (c : Code) → IsContainedIn whole c → (entry : ℕ) → IsLedTo c entry s.current.id.0 → IsLedTo c entry y.env.next_block
  led_in c cover entry led =
      for_led_body s y s4 s5 label again update test span part last gb gt c cover entry (led_tested c cover entry led)

  pub led_out : Passes s whole
  led_out c cover entry led =
      for_led_behind s y s4 s5 label again update test span part last gb gt c cover entry (led_tested c cover entry led)

  module _ (body : Outs) (j : Leaves body (for_body y s.env.next_block label again part) s4) where
    -- The block `again` is reached where the body goes on: by its end, or by a `continue` in it.
    pub led_again : (body.falls ≡ true → Passes (for_body y s.env.next_block label again part) s4) → goes_on label body ≡ true → (c : Code)
        → IsContainedIn whole c → (entry : ℕ) → IsLedTo c entry s.current.id.0 → IsLedTo c entry again.0
    led_again falls on c cover entry led =
        loop_goes_on (IsLedTo c entry) y.scopes label again (block_id (s.env.next_block + 1)) body
        (j.breaks c (met c cover).body entry (led_in c cover entry led)) (j.continues c (met c cover).body entry (led_in c cover entry led))
        (λ fall. Leads s4.current.id.0 (length s4.current.instructions) (goto again.0 gotos.Continue last) again
        (falls fall c (met c cover).body entry (led_in c cover entry led))
        (terminal_met (without_scope s4) (goto again.0 gotos.Continue last) s.current c (met c cover).body_shut)
        (or_left (same_id again again) false (same_self again))) on

    pub for_leaves_at : y.scopes ≡ s.scopes → Leaves (outs_by label (loop_outs label true body)) s whole
    for_leaves_at same = record {
      breaks = λ c cover entry led.
          subst (λ (l : List JumpScope). All (BreakLeads (IsLedTo c entry) l) (outs_by label (loop_outs label true body)).breaks) same
          (loop_breaks (IsLedTo c entry) y.scopes label again (block_id (s.env.next_block + 1)) body
          (j.breaks c (met c cover).body entry (led_in c cover entry led))
          (j.continues c (met c cover).body entry (led_in c cover entry led)) true);
      continues = λ c cover entry led.
          subst (λ (l : List JumpScope). All (ContinueLeads (IsLedTo c entry) l) (outs_by label (loop_outs label true body)).continues) same
          (loop_continues (IsLedTo c entry) y.scopes label again (block_id (s.env.next_block + 1)) body
          (j.breaks c (met c cover).body entry (led_in c cover entry led))
          (j.continues c (met c cover).body entry (led_in c cover entry led)) true);
    }

-- Without an update.
module _ (s s2 s4 s5 : State) (label : Label) (test : Place) (span part last : Span) (body : Outs) (gi : Extends (for_begun s) s2)
    (gb : Extends (for_body s2 s.env.next_block label (block_id s.env.next_block) part) s4)
    (gt : Extends (for_tests s s2 s4 (block_id s.env.next_block) None span last) s5) (pi : Passes (for_begun s) s2)
    (pt : Passes (for_tests s s2 s4 (block_id s.env.next_block) None span last) s5) where
  abbrev h : ℕ
  h = s.env.next_block

  abbrev ended : State
  ended = for_finished s5 h s2.env.next_block span test

  in_code : (c : Code) → IsContainedIn ended c → IsForIn s s2 s4 s5 label (block_id h) None test span part last c
  in_code c cover = for_in s s2 s4 s5 label (block_id h) None test span part last gb gt c cover

  pub for_leaves_plain : Leaves body (for_body s2 s.env.next_block label (block_id s.env.next_block) part) s4
      → Leaves (outs_by label (loop_outs label true body)) s (for_finished s5 s.env.next_block s2.env.next_block span test)
  for_leaves_plain j =
      for_leaves_at s s2 s4 s5 label (block_id h) None test span part last gb gt (init_comes s s2 part pi) pt body j gi.scopes

  pub for_lives_plain : {K : Type 0} (key_of : Instruction → Option K) (in_init in_test in_body : List K)
      → Lives key_of in_init true (for_begun s) s2
      → Lives key_of in_body body.falls (for_body s2 s.env.next_block label (block_id s.env.next_block) part) s4
      → Lives key_of in_test true (for_tests s s2 s4 (block_id s.env.next_block) None span last) s5
      → Lives key_of (((in_init ++ in_test) ++ (if goes_on label body then [] else [])) ++ in_body) true s
      (for_finished s5 s.env.next_block s2.env.next_block span test)
  for_lives_plain key_of in_init in_test in_body li lb lt = record {
    onward = λ is. led_out s s2 s4 s5 label (block_id h) None test span part last gb gt (init_comes s s2 part pi) pt;
    stands = λ c cover entry led.
        All-append (Stands key_of c entry) ((in_init ++ in_test) ++ (if goes_on label body then [] else [])) in_body
        (All-append (Stands key_of c entry) (in_init ++ in_test) (if goes_on label body then [] else [])
        (All-append (Stands key_of c entry) in_init in_test
        (li.stands c (contained_hole s2 h gotos.Break part s.current c (in_code c cover).front) entry
        (led_init s s2 s4 s5 label (block_id h) None test span part last gb gt (init_comes s s2 part pi) pt c cover entry led))
        (lt.stands c (in_code c cover).behind entry
        (led_test s s2 s4 s5 label (block_id h) None test span part last gb gt (init_comes s s2 part pi) pt c cover entry led)))
        (all_if (Stands key_of c entry) (goes_on label body) [] (λ on. All-nil (Stands key_of c entry))))
        (lb.stands c (in_code c cover).body entry
        (led_in s s2 s4 s5 label (block_id h) None test span part last gb gt (init_comes s s2 part pi) pt c cover entry led));
  }

-- With an update, which is live where the body goes on.
module _ (s s2 s3 s4 s5 : State) (label : Label) (test : Place) (span part other last : Span) (body : Outs) (gi : Extends (for_begun s) s2)
    (gu : Extends (for_update s2 s.env.next_block part) s3)
    (gb : Extends (for_body s3 s.env.next_block label (block_id s2.env.next_block) other) s4)
    (gt : Extends (for_tests s s3 s4 (block_id s2.env.next_block) (Some (block_id s2.env.next_block)) span last) s5)
    (pi : Passes (for_begun s) s2)
    (pt : Passes (for_tests s s3 s4 (block_id s2.env.next_block) (Some (block_id s2.env.next_block)) span last) s5)
    (j : Leaves body (for_body s3 s.env.next_block label (block_id s2.env.next_block) other) s4) where
  abbrev n : ℕ
  n = s.env.next_block

  abbrev u : BlockId
  u = block_id s2.env.next_block

  abbrev both : State
  both = for_finished s5 n s3.env.next_block span test

  in_both : (c : Code) → IsContainedIn both c → IsForIn s s3 s4 s5 label u (Some u) test span other last c
  in_both c cover = for_in s s3 s4 s5 label u (Some u) test span other last gb gt c cover

  comes_both : (c : Code) → IsContainedIn (for_front s s3 other) c → (entry : ℕ) → IsLedTo c entry (n + 1 + 1) → IsLedTo c entry n
  comes_both c cover = init_comes s s2 part pi c (contained_before (update_extends s s2 s3 part other gu) cover)

  pub for_leaves : Leaves (outs_by label (loop_outs label true body)) s (for_finished s5 s.env.next_block s3.env.next_block span test)
  for_leaves =
      for_leaves_at s s3 s4 s5 label u (Some u) test span other last gb gt comes_both pt body j
      ((update_extends s s2 s3 part other gu).scopes ∙ gi.scopes)

  pub for_lives : {K : Type 0} (key_of : Instruction → Option K) (in_init in_test in_update in_body : List K)
      → Lives key_of in_init true (for_begun s) s2 → Lives key_of in_update true (for_update s2 s.env.next_block part) s3
      → Lives key_of in_body body.falls (for_body s3 s.env.next_block label (block_id s2.env.next_block) other) s4
      → Lives key_of in_test true
      (for_tests s s3 s4 (block_id s2.env.next_block) (Some (block_id s2.env.next_block)) span last) s5
      → Lives key_of (((in_init ++ in_test) ++ (if goes_on label body then in_update else [])) ++ in_body) true s
      (for_finished s5 s.env.next_block s3.env.next_block span test)
  for_lives key_of in_init in_test in_update in_body li lu lb lt = record {
    onward = λ is. led_out s s3 s4 s5 label u (Some u) test span other last gb gt comes_both pt;
    stands = λ c cover entry led.
        All-append (Stands key_of c entry) ((in_init ++ in_test) ++ (if goes_on label body then in_update else [])) in_body
        (All-append (Stands key_of c entry) (in_init ++ in_test) (if goes_on label body then in_update else [])
        (All-append (Stands key_of c entry) in_init in_test
        (li.stands c (contained_hole s2 n gotos.Break part s.current c
        (contained_before (update_extends s s2 s3 part other gu) (in_both c cover).front)) entry
        (led_init s s3 s4 s5 label u (Some u) test span other last gb gt comes_both pt c cover entry led))
        (lt.stands c (in_both c cover).behind entry
        (led_test s s3 s4 s5 label u (Some u) test span other last gb gt comes_both pt c cover entry led)))
        (all_if (Stands key_of c entry) (goes_on label body) in_update
        (λ on. lu.stands c (contained_hole s3 n gotos.Break other s.current c (in_both c cover).front) entry
        (led_again s s3 s4 s5 label u (Some u) test span other last gb gt comes_both pt body j lb.onward on c cover entry led))))
        (lb.stands c (in_both c cover).body entry
        (led_in s s3 s4 s5 label u (Some u) test span other last gb gt comes_both pt c cover entry led));
  }
