-- The states of a `for` loop between its holes, and code that contains the last of them. In front of the body stand the holes of its init
-- and of its update, the last of which ends at `y`.
use Rattle.std.proofs.Common.{◌≡◌, ℕ, ◌+◌, ◌-◌, false, List, [], ◌∷◌, length, take, Option, refl, ap, ◌∙◌}
use Rattle.rl_builder.specs.Builder.{new_block, reserved}
use Rattle.rl_builder.specs.declared.jumps.JumpScope.{JumpScope}
use Rattle.rl_frames.proofs.Common.{BlockId, Code, Extends, IsContainedIn, IsLedTo, Label, Place, Span, State}
use Rattle.rl_frames.specs.Parts.{for_begun, for_body, for_end, for_finished, for_scope, for_test, for_update}
use Rattle.rl_hir.specs.Blocks.{same_id}
use Rattle.rl_hir.specs.declared.function.BlockKind.TheVariants as block
use Rattle.rl_hir.specs.declared.terminal.GotoVariant.TheVariants as gotos
use Rattle.rl_hir.specs.declared.terminal.Terminal.{Terminal}
use Rattle.rl_machine.specs.Ends.{Loops, Note}
use Rattle.rl_order.proofs.Ordering.{or_left, or_right, same_self}
use Rattle.rl_runs.proofs.Holes.{aside, contained_hole, contained_stacked, front_added}
use Rattle.rl_runs.proofs.Moves.{contained_before, extends_completed, extends_reserved, extends_then, terminal_met}
use Rattle.rl_runs.specs.Blocks.{Leads}
use Rattle.rl_runs.specs.Moves.{block_id, branch, goto, last_hole, without_scope}

-- The notes that the terminal of a `for` loop leaves: at its init, at its test, and behind it.
abbrev pub for_notes : (test : ℕ) → List (BlockId × Note)
for_notes test =
    (block_id (test + 1 + 1), Loops (block_id (test + 1))) ∷ (block_id test, Loops (block_id (test + 1)))
    ∷ (block_id (test + 1), Loops (block_id (test + 1))) ∷ []

-- The branch at the end of its test.
abbrev pub for_branch : (test body : ℕ) → (value : Place) → (span : Span) → Terminal
for_branch test body value span = branch value body (test + 1) (test + 1) span

-- The blocks of its test, behind it and of its init numbered.
abbrev pub for_numbered : State → State
for_numbered s = reserved (reserved (reserved s))

-- A hole in front of the body, whose last state is `y`, complete: the block that was set aside goes on.
abbrev pub for_front : State → (y : State) → (part : Span) → State
for_front s y part = last_hole y s.env.next_block gotos.Break part s.current

-- The body complete.
abbrev pub for_shut_at : State → (s4 : State) → (again : BlockId) → (last : Span) → State
for_shut_at s s4 again last = last_hole (without_scope s4) again.0 gotos.Continue last s.current

-- The test opens.
abbrev pub for_tests : State → (y s4 : State) → (again : BlockId) → (update : Option BlockId) → (span last : Span) → State
for_tests s y s4 again update span last = for_test s4 s.env.next_block again update y.env.next_block span s.current last

-- The init complete.
pub init_extends : (s s2 : State) (part : Span) → Extends (for_begun s) s2 → Extends (for_numbered s) (for_front s s2 part)
init_extends s s2 part gi =
    aside (for_numbered s) s2 (new_block (s.env.next_block + 1 + 1) block.Loop) s.scopes s2.scopes s.handlers s2.handlers
    (goto s.env.next_block gotos.Break part) gi.scopes gi.handlers gi

-- The update complete, behind the init.
pub update_extends : (s s2 s3 : State) (part other : Span) → Extends (for_update s2 s.env.next_block part) s3
    → Extends (for_front s s2 part) (for_front s s3 other)
update_extends s s2 s3 part other gu =
    extends_then (extends_reserved x)
    (aside (reserved x) s3 (new_block s2.env.next_block block.Loop) s2.scopes s3.scopes s2.handlers s3.handlers
    (goto s.env.next_block gotos.Break other) gu.scopes gu.handlers gu)
  where
    x : State
    x = for_front s s2 part

module _ (s y s4 s5 : State) (label : Label) (again : BlockId) (update : Option BlockId) (test : Place) (span part last : Span) where
  abbrev pub h : ℕ
  h = s.env.next_block

  abbrev pub x : State
  x = for_front s y part

  abbrev pub opened : State
  opened = for_body y h label again part

  abbrev pub shut : State
  shut = for_shut_at s s4 again last

  abbrev pub tst : State
  tst = for_tests s y s4 again update span last

  abbrev pub finished : State
  finished = for_finished s5 h y.env.next_block span test

  -- From the test to behind the loop.
  pub for_behind : Extends s5 finished
  for_behind =
      extends_completed s5 (for_branch h y.env.next_block test span) (new_block (h + 1) block.Block) (λ none. refl)

  pub for_ends : Extends shut tst
  for_ends = extends_completed shut (for_end h update y.env.next_block span) (new_block h block.Loop) (λ none. refl)

  module _ (gb : Extends (for_body y s.env.next_block label again part) s4) where
    scope_left : take (length s4.scopes - 1) s4.scopes ≡ y.scopes
    scope_left = ap (λ (l : List JumpScope). take (length l - 1) l) gb.scopes ∙ front_added y.scopes (for_scope h label again)

    -- From in front of the body to behind it.
    pub for_body_extends : Extends x shut
    for_body_extends =
        extends_then (extends_reserved x)
        (aside (reserved x) s4 (new_block y.env.next_block block.Block) opened.scopes (take (length s4.scopes - 1) s4.scopes)
        y.handlers s4.handlers (goto again.0 gotos.Continue last) scope_left gb.handlers gb)

    -- From the numbered blocks to the test.
    pub for_test_extends : Extends (for_numbered s) (for_front s y part)
        → Extends (for_numbered s) (for_tests s y s4 again update span last)
    for_test_extends gx = extends_then gx (extends_then for_body_extends for_ends)

    pub for_extends : Extends (for_numbered s) (for_front s y part) → Extends (for_tests s y s4 again update span last) s5
        → Extends s finished
    for_extends gx gt =
        extends_then
        (extends_then (extends_reserved s) (extends_then (extends_reserved (reserved s)) (extends_reserved (reserved (reserved s)))))
        (extends_then (for_test_extends gx) (extends_then gt for_behind))

    -- The scopes around the loop are left.
    pub for_scopes_left : Extends (for_numbered s) (for_front s y part) → take (length s4.scopes - 1) s4.scopes ≡ s.scopes
    for_scopes_left gx = scope_left ∙ gx.scopes

  -- Code contains the states behind the test, in front of it, with the body complete, behind the body, and in front of it.
  pub record IsForIn (c : Code) : Type 0 where
    pub behind : IsContainedIn s5 c
    pub test_open : IsContainedIn (for_tests s y s4 again update span last) c
    pub body_shut : IsContainedIn (for_shut_at s s4 again last) c
    pub body : IsContainedIn s4 c
    pub front : IsContainedIn (for_front s y part) c

  pub for_in : Extends (for_body y s.env.next_block label again part) s4 → Extends (for_tests s y s4 again update span last) s5 → (c : Code)
      → IsContainedIn (for_finished s5 s.env.next_block y.env.next_block span test) c → IsForIn c
  for_in gb gt c cover =
      record {
        behind = behind;
        test_open = opens;
        body_shut = complete;
        body = in_body;
        front = contained_before (for_body_extends gb) complete;
      }
    where
      behind : IsContainedIn s5 c
      behind = contained_before for_behind cover

      opens : IsContainedIn (for_tests s y s4 again update span last) c
      opens = contained_before gt behind

      complete : IsContainedIn (for_shut_at s s4 again last) c
      complete = contained_before for_ends opens

      in_body : IsContainedIn s4 c
      in_body =
          contained_stacked s4 (take (length s4.scopes - 1) s4.scopes) s4.handlers c (λ none. none)
          (contained_hole (without_scope s4) again.0 gotos.Continue last s.current c complete)

  -- The blocks that are reached where the loop is: its init; behind its test, its body and the block behind the loop.
  module _ (gb : Extends (for_body y s.env.next_block label again part) s4) (gt : Extends (for_tests s y s4 again update span last) s5)
      (c : Code) (cover : IsContainedIn (for_finished s5 s.env.next_block y.env.next_block span test) c) (entry : ℕ) where
    pub for_into : IsLedTo c entry s.current.id.0 → IsLedTo c entry (s.env.next_block + 1 + 1)
    for_into led =
        Leads s.current.id.0 (length s.current.instructions) (for_end h update y.env.next_block span) (block_id (h + 1 + 1)) led
        (terminal_met shut (for_end h update y.env.next_block span) (new_block h block.Loop) c (for_in gb gt c cover).test_open)
        (or_left (same_id (block_id (h + 1 + 1)) (block_id (h + 1 + 1))) false (same_self (block_id (h + 1 + 1))))

    pub for_led_body : IsLedTo c entry s5.current.id.0 → IsLedTo c entry y.env.next_block
    for_led_body led =
        Leads s5.current.id.0 (length s5.current.instructions) (for_branch h y.env.next_block test span) (block_id y.env.next_block) led
        (terminal_met s5 (for_branch h y.env.next_block test span) (new_block (h + 1) block.Block) c cover)
        (or_left (same_id (block_id y.env.next_block) (block_id y.env.next_block)) _ (same_self (block_id y.env.next_block)))

    pub for_led_behind : IsLedTo c entry s5.current.id.0 → IsLedTo c entry (s.env.next_block + 1)
    for_led_behind led =
        Leads s5.current.id.0 (length s5.current.instructions) (for_branch h y.env.next_block test span) (block_id (h + 1)) led
        (terminal_met s5 (for_branch h y.env.next_block test span) (new_block (h + 1) block.Block) c cover)
        (or_right (same_id (block_id (h + 1)) (block_id y.env.next_block)) _
        (or_left (same_id (block_id (h + 1)) (block_id (h + 1))) false (same_self (block_id (h + 1)))))
