-- The live instructions of an `if` statement stand in blocks that are reached, and so are the targets of the jumps out of it.
use Rattle.std.proofs.Common.{◌≡◌, ℕ, ◌+◌, ◌++◌, ◌||◌, Bool, true, false, List, length, All, Option, refl, subst}
use Rattle.std.proofs.lemmas.List.Elements.{All-append}
use Rattle.rl_builder.specs.Builder.{new_block, reserved}
use Rattle.rl_builder.specs.declared.jumps.JumpScope.{JumpScope}
use Rattle.rl_frames.proofs.Common.{Code, Extends, IsContainedIn, IsLedTo, Place, Span, State}
use Rattle.rl_frames.specs.Parts.{if_begun, if_end, if_finished}
use Rattle.rl_hir.specs.Blocks.{same_id}
use Rattle.rl_hir.specs.declared.function.BlockKind.TheVariants as block
use Rattle.rl_hir.specs.declared.instruction.Instruction.{Instruction}
use Rattle.rl_hir.specs.declared.terminal.GotoVariant.TheVariants as gotos
use Rattle.rl_model.specs.Dead.{Outs, either, falling}
use Rattle.rl_order.proofs.Ordering.{or_left, or_right, same_self}
use Rattle.rl_runs.proofs.Holes.{contained_hole}
use Rattle.rl_runs.proofs.Leaving.{BreakLeads, ContinueLeads, by_either, leaves_both, leaves_none}
use Rattle.rl_runs.proofs.Moves.{contained_before, extends_completed, extends_reserved, terminal_met}
use Rattle.rl_runs.specs.Blocks.{Leads, Leaves, Lives, Passes, Stands}
use Rattle.rl_runs.specs.Moves.{block_id, goto, last_hole, next_hole}

-- The test, behind which two blocks are reached.
module _ (s s4 : State) (behind consequent alternate : ℕ) (test : Place) (span : Span) where
  abbrev pub last : State
  last = if_finished s4 behind consequent alternate test span

  if_cover : (c : Code) → IsContainedIn last c → IsContainedIn s4 c
  if_cover c cover =
      contained_before
      (extends_completed s4 (if_end behind consequent alternate test span) (new_block behind block.Block) (λ none. refl)) cover

  if_first : (c : Code) → IsContainedIn last c → (entry : ℕ) → IsLedTo c entry s4.current.id.0 → IsLedTo c entry consequent
  if_first c cover entry led =
      Leads s4.current.id.0 (length s4.current.instructions) (if_end behind consequent alternate test span) (block_id consequent) led
      (terminal_met s4 (if_end behind consequent alternate test span) (new_block behind block.Block) c cover)
      (or_left (same_id (block_id consequent) (block_id consequent)) _ (same_self (block_id consequent)))

  if_second : (c : Code) → IsContainedIn last c → (entry : ℕ) → IsLedTo c entry s4.current.id.0 → IsLedTo c entry alternate
  if_second c cover entry led =
      Leads s4.current.id.0 (length s4.current.instructions) (if_end behind consequent alternate test span) (block_id alternate) led
      (terminal_met s4 (if_end behind consequent alternate test span) (new_block behind block.Block) c cover)
      (or_right (same_id (block_id alternate) (block_id consequent)) _
      (or_left (same_id (block_id alternate) (block_id alternate)) false (same_self (block_id alternate))))

-- Two branches, behind a test that completes.
module _ (s s2 s3 s4 : State) (test : Place) (span part other : Span)
    (gc : Extends (if_begun s) s2) (ga : Extends (next_hole s2 s.env.next_block gotos.Break part block.Block) s3)
    (gt : Extends (last_hole s3 s.env.next_block gotos.Break other s.current) s4)
    (passes : Passes (last_hole s3 s.env.next_block gotos.Break other s.current) s4) where
  abbrev pub n : ℕ
  n = s.env.next_block

  abbrev pub whole : State
  whole = if_finished s4 n (n + 1) s2.env.next_block test span

  cover4 : (c : Code) → IsContainedIn whole c → IsContainedIn s4 c
  cover4 = if_cover s s4 n (n + 1) s2.env.next_block test span

  cover_shut : (c : Code) → IsContainedIn whole c → IsContainedIn (last_hole s3 n gotos.Break other s.current) c
  cover_shut c cover = contained_before gt (cover4 c cover)

  cover3 : (c : Code) → IsContainedIn whole c → IsContainedIn s3 c
  cover3 c cover = contained_hole s3 n gotos.Break other s.current c (cover_shut c cover)

  cover_open : (c : Code) → IsContainedIn whole c → IsContainedIn (next_hole s2 n gotos.Break part block.Block) c
  cover_open c cover = contained_before ga (cover3 c cover)

  cover2 : (c : Code) → IsContainedIn whole c → IsContainedIn s2 c
  cover2 c cover =
      contained_before (extends_reserved s2)
      (contained_hole (reserved s2) n gotos.Break part (new_block s2.env.next_block block.Block) c (cover_open c cover))

  at_consequent : (c : Code) → IsContainedIn whole c → (entry : ℕ) → IsLedTo c entry s.current.id.0 → IsLedTo c entry (n + 1)
  at_consequent c cover entry r =
      if_first s s4 n (n + 1) s2.env.next_block test span c cover entry (passes c (cover4 c cover) entry r)

  at_alternate : (c : Code) → IsContainedIn whole c → (entry : ℕ) → IsLedTo c entry s.current.id.0 → IsLedTo c entry s2.env.next_block
  at_alternate c cover entry r =
      if_second s s4 n (n + 1) s2.env.next_block test span c cover entry (passes c (cover4 c cover) entry r)

  pub if_passes : (one two : Bool) → (one ≡ true → Passes (if_begun s) s2)
      → (two ≡ true → Passes (next_hole s2 s.env.next_block gotos.Break part block.Block) s3)
      → (one || two) ≡ true → Passes s whole
  if_passes one two first second is c cover entry r =
      by_either one two (IsLedTo c entry n)
      (λ e. Leads s2.current.id.0 (length s2.current.instructions) (goto n gotos.Break part) (block_id n)
      (first e c (cover2 c cover) entry (at_consequent c cover entry r))
      (terminal_met (reserved s2) (goto n gotos.Break part) (new_block s2.env.next_block block.Block) c (cover_open c cover))
      (or_left (same_id (block_id n) (block_id n)) false (same_self (block_id n))))
      (λ e. Leads s3.current.id.0 (length s3.current.instructions) (goto n gotos.Break other) (block_id n)
      (second e c (cover3 c cover) entry (at_alternate c cover entry r))
      (terminal_met s3 (goto n gotos.Break other) s.current c (cover_shut c cover))
      (or_left (same_id (block_id n) (block_id n)) false (same_self (block_id n)))) is

  pub if_stands : {K : Type 0} (key_of : Instruction → Option K) (in_test in_consequent in_alternate : List K) (one two : Bool)
      → Lives key_of in_consequent one (if_begun s) s2
      → Lives key_of in_alternate two (next_hole s2 s.env.next_block gotos.Break part block.Block) s3
      → Lives key_of in_test true (last_hole s3 s.env.next_block gotos.Break other s.current) s4
      → (c : Code) → IsContainedIn whole c → (entry : ℕ) → IsLedTo c entry s.current.id.0
      → All (Stands key_of c entry) (in_test ++ (in_consequent ++ in_alternate))
  if_stands key_of in_test in_consequent in_alternate one two lc la lt c cover entry r =
      All-append (Stands key_of c entry) in_test (in_consequent ++ in_alternate) (lt.stands c (cover4 c cover) entry r)
      (All-append (Stands key_of c entry) in_consequent in_alternate (lc.stands c (cover2 c cover) entry (at_consequent c cover entry r))
      (la.stands c (cover3 c cover) entry (at_alternate c cover entry r)))

  pub if_leaves : (a b : Outs) → Leaves a (if_begun s) s2
      → Leaves b (next_hole s2 s.env.next_block gotos.Break part block.Block) s3 → Leaves (either a b) s whole
  if_leaves a b la lb = leaves_both a b s whole first second
    where
      first : Leaves a s whole
      first = record {
        breaks = λ c cover entry r. la.breaks c (cover2 c cover) entry (at_consequent c cover entry r);
        continues = λ c cover entry r. la.continues c (cover2 c cover) entry (at_consequent c cover entry r);
      }

      same : (next_hole s2 n gotos.Break part block.Block).scopes ≡ s.scopes
      same = gc.scopes

      second : Leaves b s whole
      second = record {
        breaks = λ c cover entry r.
            subst (λ (x : List JumpScope). All (BreakLeads (IsLedTo c entry) x) b.breaks) same
            (lb.breaks c (cover3 c cover) entry (at_alternate c cover entry r));
        continues = λ c cover entry r.
            subst (λ (x : List JumpScope). All (ContinueLeads (IsLedTo c entry) x) b.continues) same
            (lb.continues c (cover3 c cover) entry (at_alternate c cover entry r));
      }

-- An `if` with one branch, behind a test that completes.
pub if_then_leaves : (s s2 s4 : State) (test : Place) (span part : Span) (a : Outs)
    → Extends (last_hole s2 s.env.next_block gotos.Break part s.current) s4
    → Passes (last_hole s2 s.env.next_block gotos.Break part s.current) s4 → Leaves a (if_begun s) s2
    → Leaves (either a falling) s (if_finished s4 s.env.next_block (s.env.next_block + 1) s.env.next_block test span)
if_then_leaves s s2 s4 test span part a gt passes la = leaves_both a falling s ended first (leaves_none true s ended)
  where
    n : ℕ
    n = s.env.next_block

    ended : State
    ended = if_finished s4 s.env.next_block (s.env.next_block + 1) s.env.next_block test span

    cover4 : (c : Code) → IsContainedIn ended c → IsContainedIn s4 c
    cover4 = if_cover s s4 s.env.next_block (s.env.next_block + 1) s.env.next_block test span

    cover2 : (c : Code) → IsContainedIn ended c → IsContainedIn s2 c
    cover2 c cover = contained_hole s2 s.env.next_block gotos.Break part s.current c (contained_before gt (cover4 c cover))

    at_consequent : (c : Code) → IsContainedIn ended c → (entry : ℕ) → IsLedTo c entry s.current.id.0
        → IsLedTo c entry (s.env.next_block + 1)
    at_consequent c cover entry r =
        if_first s s4 s.env.next_block (s.env.next_block + 1) s.env.next_block test span c cover entry
        (passes c (cover4 c cover) entry r)

    first : Leaves a s ended
    first = record {
      breaks = λ c cover entry r. la.breaks c (cover2 c cover) entry (at_consequent c cover entry r);
      continues = λ c cover entry r. la.continues c (cover2 c cover) entry (at_consequent c cover entry r);
    }

module _ {K : Type 0} (key_of : Instruction → Option K) where
  pub if_lives : (s s2 s3 s4 : State) (test : Place) (span part other : Span) (in_test in_consequent in_alternate : List K)
      (one two : Bool)
      → Extends (if_begun s) s2 → Extends (next_hole s2 s.env.next_block gotos.Break part block.Block) s3
      → Extends (last_hole s3 s.env.next_block gotos.Break other s.current) s4
      → Lives key_of in_consequent one (if_begun s) s2
      → Lives key_of in_alternate two (next_hole s2 s.env.next_block gotos.Break part block.Block) s3
      → Lives key_of in_test true (last_hole s3 s.env.next_block gotos.Break other s.current) s4
      → Lives key_of (in_test ++ (in_consequent ++ in_alternate))
      (one || two) s (if_finished s4 s.env.next_block (s.env.next_block + 1) s2.env.next_block test span)
  if_lives s s2 s3 s4 test span part other in_test in_consequent in_alternate one two gc ga gt lc la lt = record {
    onward = λ is. if_passes s s2 s3 s4 test span part other gc ga gt (lt.onward refl) one two lc.onward la.onward is;
    stands =
        if_stands s s2 s3 s4 test span part other gc ga gt (lt.onward refl) key_of in_test in_consequent in_alternate one two lc la lt;
  }
