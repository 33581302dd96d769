-- The states of a loop over keys or values between its holes, and code that contains the last of them. Its body has the block `l`; the body
-- ends at `s2`, the right side at `s3`, and the assignment at `s5`.
use Rattle.std.proofs.Common.{◌≡◌, ℕ, ◌+◌, ◌-◌, ◌≤◌, false, inl, inr, List, length, take, None, refl, ap, ◌∙◌, arith}
use Rattle.rl_builder.specs.Builder.{completed_by, entered, new_block, with_scope}
use Rattle.rl_builder.specs.declared.jumps.JumpScope.{JumpScope}
use Rattle.rl_builder.specs.declared.jumps.JumpScope.TheVariants as scope
use Rattle.rl_frames.proofs.Common.{Code, Extends, IsContainedIn, IsLedTo, Label, Place, Span, State}
use Rattle.rl_frames.specs.Parts.{rounds_body, rounds_finished}
use Rattle.rl_hir.specs.Blocks.{same_id}
use Rattle.rl_hir.specs.declared.function.BlockKind.TheVariants as block
use Rattle.rl_hir.specs.declared.terminal.GotoVariant.TheVariants as gotos
use Rattle.rl_hir.specs.declared.terminal.Terminal.{Terminal}
use Rattle.rl_machine.specs.Ends.{catcher_of}
use Rattle.rl_order.proofs.Ordering.{or_left, or_right, same_self}
use Rattle.rl_runs.proofs.FinalNames.{names_refl}
use Rattle.rl_runs.proofs.Holes.{aside, contained_hole, contained_stacked, front_added}
use Rattle.rl_runs.proofs.Moves.{contained_before, extends_completed, extends_then, terminal_met}
use Rattle.rl_runs.specs.Blocks.{Leads}
use Rattle.rl_runs.specs.Moves.{block_id, branch, goto, without_scope}

-- All blocks of the loop numbered, that of its body last.
abbrev pub numbered : State → (l : ℕ) → State
numbered s l = record s { env = record s.env { next_block = l + 1 } }

abbrev pub rounds_scope : State → Label → JumpScope
rounds_scope s label = scope.Loop label (block_id (s.env.next_block + 1)) (block_id s.env.next_block)

-- The body opens.
abbrev pub rounds_begun : State → (l : ℕ) → Label → State
rounds_begun s l label = with_scope (entered (numbered s l) (new_block l block.Block)) (rounds_scope s label)

-- The right side complete: the loop's terminal `end`, and its init.
abbrev pub rounds_init : State → (s3 : State) → (end : Terminal) → State
rounds_init s s3 end = completed_by s3 end (new_block (s.env.next_block + 1) block.Loop)

-- The branch at the end of the assignment.
abbrev pub rounds_branch : (behind body : ℕ) → (test : Place) → (span : Span) → Terminal
rounds_branch behind body test span = branch test body behind behind span

pub numbered_extends : (s : State) (l : ℕ) → s.env.next_block ≤ l → Extends s (numbered s l)
numbered_extends s l low = record {
  done = λ id f d. record { place = d.place; block = d.block; found = d.found; named = d.named; holds = d.holds };
  wip = λ id f w. inr (record { named = w.named; holds = w.holds });
  table = λ number i is. is;
  completed = λ id k. k;
  current = inl refl;
  entry = refl;
  handlers = refl;
  scopes = refl;
  blocks = omega (arith, low);
  identifiers = omega arith;
  names = names_refl s.env.pairs (length s.env.identifiers);
  sound = λ q. q;
}

module _ (s s2 s3 s5 : State) (l : ℕ) (label : Label) (end : Terminal) (test : Place) (span part : Span)
    (calm : catcher_of end.kind ≡ None) where
  abbrev pub h : ℕ
  h = s.env.next_block

  abbrev pub begun : State
  begun = rounds_begun s l label

  -- The body complete, and the block that was set aside goes on.
  abbrev pub shut : State
  shut = rounds_body s2 h s.current part

  abbrev pub init : State
  init = rounds_init s s3 end

  abbrev pub finished : State
  finished = rounds_finished s5 h l span test

  -- The scopes around the loop are left.
  pub scope_left : Extends (rounds_begun s l label) s2 → take (length s2.scopes - 1) s2.scopes ≡ s.scopes
  scope_left gb = ap (λ (x : List JumpScope). take (length x - 1) x) gb.scopes ∙ front_added s.scopes (rounds_scope s label)

  pub aside_extends : Extends (rounds_begun s l label) s2 → Extends (numbered s l) (rounds_body s2 s.env.next_block s.current part)
  aside_extends gb =
      aside (numbered s l) s2 (new_block l block.Block) begun.scopes (take (length s2.scopes - 1) s2.scopes) s.handlers s2.handlers
      (goto (h + 1) gotos.Continue part) (scope_left gb) gb.handlers gb

  pub body_extends : s.env.next_block ≤ l → Extends (rounds_begun s l label) s2
      → Extends s (rounds_body s2 s.env.next_block s.current part)
  body_extends low gb = extends_then (numbered_extends s l low) (aside_extends gb)

  pub init_extends : Extends s3 (rounds_init s s3 end)
  init_extends = extends_completed s3 end (new_block (h + 1) block.Loop) (λ none. calm)

  pub right_extends : s.env.next_block ≤ l → Extends (rounds_begun s l label) s2
      → Extends (rounds_body s2 s.env.next_block s.current part) s3 → Extends s (rounds_init s s3 end)
  right_extends low gb gr = extends_then (body_extends low gb) (extends_then gr init_extends)

  pub last_extends : Extends s5 (rounds_finished s5 s.env.next_block l span test)
  last_extends = extends_completed s5 (rounds_branch h l test span) (new_block h block.Block) (λ none. refl)

  -- Code contains the states behind the assignment, in the init, behind the right side, with the body complete, and behind the body.
  pub record IsRoundsIn (c : Code) : Type 0 where
    pub behind : IsContainedIn s5 c
    pub init_open : IsContainedIn (rounds_init s s3 end) c
    pub right : IsContainedIn s3 c
    pub body_shut : IsContainedIn (rounds_body s2 s.env.next_block s.current part) c
    pub body : IsContainedIn s2 c

  pub rounds_in : Extends (rounds_body s2 s.env.next_block s.current part) s3 → Extends (rounds_init s s3 end) s5 → (c : Code)
      → IsContainedIn (rounds_finished s5 s.env.next_block l span test) c → IsRoundsIn c
  rounds_in gr gh c cover =
      record { behind = behind; init_open = opens; right = right; body_shut = complete; body = in_body }
    where
      behind : IsContainedIn s5 c
      behind = contained_before last_extends cover

      opens : IsContainedIn (rounds_init s s3 end) c
      opens = contained_before gh behind

      right : IsContainedIn s3 c
      right = contained_before init_extends opens

      complete : IsContainedIn (rounds_body s2 s.env.next_block s.current part) c
      complete = contained_before gr right

      in_body : IsContainedIn s2 c
      in_body =
          contained_stacked s2 (take (length s2.scopes - 1) s2.scopes) s2.handlers c (λ none. none)
          (contained_hole (without_scope s2) (h + 1) gotos.Continue part s.current c complete)

  -- The blocks to which the branch leads.
  module _ (c : Code) (cover : IsContainedIn (rounds_finished s5 s.env.next_block l span test) c) (entry : ℕ)
      (led : IsLedTo c entry s5.current.id.0) where
    pub led_body : IsLedTo c entry l
    led_body =
        Leads s5.current.id.0 (length s5.current.instructions) (rounds_branch h l test span) (block_id l) led
        (terminal_met s5 (rounds_branch h l test span) (new_block h block.Block) c cover)
        (or_left (same_id (block_id l) (block_id l)) _ (same_self (block_id l)))

    pub led_behind : IsLedTo c entry s.env.next_block
    led_behind =
        Leads s5.current.id.0 (length s5.current.instructions) (rounds_branch h l test span) (block_id h) led
        (terminal_met s5 (rounds_branch h l test span) (new_block h block.Block) c cover)
        (or_right (same_id (block_id h) (block_id l)) _
        (or_left (same_id (block_id h) (block_id h)) false (same_self (block_id h))))
