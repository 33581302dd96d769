-- The states of a loop between its holes, whose terminal is `end`, and code that contains the last of them.
use Rattle.std.proofs.Common.{◌≡◌, ℕ, ◌+◌, ◌-◌, List, [], ◌∷◌, length, take, None, refl, ap, ◌∙◌}
use Rattle.rl_builder.specs.Builder.{new_block, reserved}
use Rattle.rl_builder.specs.declared.jumps.JumpScope.{JumpScope}
use Rattle.rl_frames.proofs.Common.{BlockId, Code, Extends, IsContainedIn, Label, Place, Span, State}
use Rattle.rl_frames.specs.Parts.{loop_body, while_begun, while_finished, while_scope}
use Rattle.rl_hir.specs.declared.function.BlockKind.TheVariants as block
use Rattle.rl_hir.specs.declared.terminal.GotoVariant.TheVariants as gotos
use Rattle.rl_hir.specs.declared.terminal.Terminal.{Terminal}
use Rattle.rl_machine.specs.Ends.{Loops, Note, catcher_of}
use Rattle.rl_runs.proofs.Holes.{aside, contained_hole, contained_stacked, front_added}
use Rattle.rl_runs.proofs.Moves.{contained_before, extends_completed, extends_reserved, extends_then}
use Rattle.rl_runs.specs.Moves.{block_id, branch, goto, last_hole, without_scope}

-- The notes that the terminal of a loop leaves: at its test, and behind it.
abbrev pub loop_notes : (test : ℕ) → List (BlockId × Note)
loop_notes test = (block_id test, Loops (block_id (test + 1))) ∷ (block_id (test + 1), Loops (block_id (test + 1))) ∷ []

-- The branch at the end of its test.
abbrev pub loop_branch : (test : ℕ) → (value : Place) → (span : Span) → Terminal
loop_branch test value span = branch value (test + 1 + 1) (test + 1) test span

-- The body complete.
abbrev pub loop_shut : State → (test : ℕ) → (outer : State) → (part : Span) → State
loop_shut s2 test s part = last_hole (without_scope s2) test gotos.Continue part s.current

-- From the test to behind the loop.
pub behind_extends : (s s4 : State) (test : Place) (span : Span) → Extends s4 (while_finished s4 s.env.next_block span test)
behind_extends s s4 test span =
    extends_completed s4 (loop_branch s.env.next_block test span)
    (new_block (s.env.next_block + 1) block.Block) (λ none. refl)

-- Code contains the states behind the test, in front of it, with the body complete, and behind the body.
pub record IsLoopIn (c : Code) (s s2 s4 : State) (part : Span) (end : Terminal) : Type 0 where
  pub behind : IsContainedIn s4 c
  pub test : IsContainedIn (loop_body s2 s.env.next_block end s.current part) c
  pub shut : IsContainedIn (loop_shut s2 s.env.next_block s part) c
  pub body : IsContainedIn s2 c

pub loop_in : (s s2 s4 : State) (test : Place) (span part : Span) (end : Terminal) → catcher_of end.kind ≡ None
    → Extends (loop_body s2 s.env.next_block end s.current part) s4 → (c : Code)
    → IsContainedIn (while_finished s4 s.env.next_block span test) c → IsLoopIn c s s2 s4 part end
loop_in s s2 s4 test span part end calm gt c cover = record { behind = behind; test = tested; shut = shut; body = body }
  where
    behind : IsContainedIn s4 c
    behind = contained_before (behind_extends s s4 test span) cover

    tested : IsContainedIn (loop_body s2 s.env.next_block end s.current part) c
    tested = contained_before gt behind

    shut : IsContainedIn (loop_shut s2 s.env.next_block s part) c
    shut =
        contained_before
        (extends_completed (loop_shut s2 s.env.next_block s part) end (new_block s.env.next_block block.Loop) (λ none. calm)) tested

    body : IsContainedIn s2 c
    body =
        contained_stacked s2 (take (length s2.scopes - 1) s2.scopes) s2.handlers c (λ none. none)
        (contained_hole (without_scope s2) s.env.next_block gotos.Continue part s.current c shut)

-- The scopes around the loop are left.
pub scopes_left : (s s2 : State) (label : Label) → Extends (while_begun s label) s2 → take (length s2.scopes - 1) s2.scopes ≡ s.scopes
scopes_left s s2 label gb = ap (λ (x : List JumpScope). take (length x - 1) x) gb.scopes ∙ front_added s.scopes (while_scope s label)

-- From the numbered blocks to the test.
pub test_extends : (s s2 : State) (label : Label) (part : Span) (end : Terminal) → catcher_of end.kind ≡ None
    → Extends (while_begun s label) s2
    → Extends (reserved (reserved (reserved s))) (loop_body s2 s.env.next_block end s.current part)
test_extends s s2 label part end calm gb =
    extends_then
    (aside (reserved (reserved (reserved s))) s2 (new_block (s.env.next_block + 1 + 1) block.Block) (while_begun s label).scopes
    (take (length s2.scopes - 1) s2.scopes) s.handlers s2.handlers (goto s.env.next_block gotos.Continue part)
    (scopes_left s s2 label gb) gb.handlers gb)
    (extends_completed (loop_shut s2 s.env.next_block s part) end (new_block s.env.next_block block.Loop) (λ none. calm))

pub loop_extends : (s s2 s4 : State) (label : Label) (test : Place) (span part : Span) (end : Terminal) → catcher_of end.kind ≡ None
    → Extends (while_begun s label) s2 → Extends (loop_body s2 s.env.next_block end s.current part) s4
    → Extends s (while_finished s4 s.env.next_block span test)
loop_extends s s2 s4 label test span part end calm gb gt =
    extends_then
    (extends_then (extends_reserved s) (extends_then (extends_reserved (reserved s)) (extends_reserved (reserved (reserved s)))))
    (extends_then (test_extends s s2 label part end calm gb) (extends_then gt (behind_extends s s4 test span)))
