-- Live instructions of constructs, from those of their parts.
use Rattle.std.proofs.Common.{◌≡◌, ◌+◌, ◌++◌, Bool, true, false, List, [], ◌∷◌, Option, Some, if◌then◌else◌, refl, sym, subst, append-nil}
use Rattle.std.proofs.Common.{All}
use Rattle.std.proofs.lemmas.List.Elements.{All-append, All-cons, All-head, All-tail}
use Rattle.std.specs.List.{list_any}
use Rattle.rl_base.specs.declared.operator.LogicalOperator.{LogicalOperator}
use Rattle.rl_builder.specs.Builder.{new_block, pushed, with_temporary}
use Rattle.rl_builder.specs.Temporaries.{temporary, unordered, with_value}
use Rattle.rl_frames.proofs.ValueLives.{aside_lives, value_lives}
use Rattle.rl_frames.specs.Parts.{loads, logical_begun, logical_end, logical_entered, logical_finished, logical_left, logical_place}
use Rattle.rl_frames.specs.Parts.{logical_right}
use Rattle.rl_frames.specs.Parts.{sequence_begun, sequence_end, sequence_finished, sequence_place}
use Rattle.rl_frames.specs.Parts.{ternary_alternate, ternary_begun, ternary_end, ternary_finished, ternary_place, ternary_test}
use Rattle.rl_hir.specs.Blocks.{same_id}
use Rattle.rl_hir.specs.declared.function.BlockKind.TheVariants as block
use Rattle.rl_hir.specs.declared.instruction.Instruction.{Instruction}
use Rattle.rl_hir.specs.declared.instruction.InstructionKind.TheVariants as variables
use Rattle.rl_hir.specs.declared.instruction.InstructionValue.TheVariants as values
use Rattle.rl_hir.specs.declared.terminal.GotoVariant.TheVariants as gotos
use Rattle.rl_lowered.proofs.Common.{BlockId, InstructionValue, Place, Span, State}
use Rattle.rl_model.specs.Dead.{Outs, either, in_row}
use Rattle.rl_order.proofs.Ordering.{or_left, same_self}
use Rattle.rl_runs.proofs.Living.{lives_dead, lives_none, lives_pushed, lives_then}
use Rattle.rl_runs.proofs.Moves.{contained_before, extends_completed, extends_pushed, extends_then, extends_value}
use Rattle.rl_runs.proofs.Passing.{passes_pushed}
use Rattle.rl_runs.specs.Blocks.{Lives, Passes, PreservesBlocks, Stands}
use Rattle.rl_runs.specs.Facts.{Extends}
use Rattle.rl_runs.specs.Moves.{block_id, last_hole, stored_in}

-- A terminal leads to its only successor.
to_only : (b : BlockId) → list_any (same_id b) (b ∷ []) ≡ true
to_only b = or_left (same_id b b) false (same_self b)

-- An element of a list that is put first.
all_ahead : {K : Type 0} (P : K → Type 0) (xs ys : List K) (x : K) → All P (xs ++ x ∷ ys) → All P (x ∷ (xs ++ ys))
all_ahead P [] ys x all = all
all_ahead P (y ∷ xs) ys x all =
    let rest = all_ahead P xs ys x (All-tail P y (xs ++ x ∷ ys) all) in
    All-cons P x (y ∷ (xs ++ ys)) (All-head P x (xs ++ ys) rest)
    (All-cons P y (xs ++ ys) (All-head P y (xs ++ x ∷ ys) all) (All-tail P x (xs ++ ys) rest))

module _ {K : Type 0} (key_of : Instruction → Option K) where
  -- Moves without live instructions behind a part.
  pub lives_on : (s : State) {t u : State} {live : List K} {completes : Bool} → Extends t u → Passes t u
      → Lives key_of live completes s t → Lives key_of live completes s u
  lives_on s g passes l = record {
    onward = λ is c cover entry led. passes c cover entry (l.onward is c (contained_before g cover) entry led);
    stands = λ c cover entry led. l.stands c (contained_before g cover) entry led;
  }

  -- A jump away behind a part.
  pub lives_left : (s : State) {t u : State} {live : List K} {completes : Bool} → Extends t u → Lives key_of live completes s t
      → Lives key_of live false s u
  lives_left s g l = record { onward = λ is. absurd (cc); stands = λ c cover entry led. l.stands c (contained_before g cover) entry led }

  -- A part behind another, whose keys stand in front.
  pub lives_ahead : (a b d : State) (first second : List K) → Extends b d → Lives key_of first true a b → Lives key_of second true b d
      → Lives key_of (second ++ first) true a d
  lives_ahead a b d first second g l1 l2 = record {
    onward = λ is c cover entry led. l2.onward is c cover entry (l1.onward refl c (contained_before g cover) entry led);
    stands = λ c cover entry led. All-append (Stands key_of c entry) second first
        (l2.stands c cover entry (l1.onward refl c (contained_before g cover) entry led))
        (l1.stands c (contained_before g cover) entry led);
  }

  pub lives_first : (s t : State) (xs ys : List K) (x : K) → Lives key_of (xs ++ x ∷ ys) true s t
      → Lives key_of (x ∷ (xs ++ ys)) true s t
  lives_first s t xs ys x l = record {
    onward = l.onward;
    stands = λ c cover entry led. all_ahead (Stands key_of c entry) xs ys x (l.stands c cover entry led);
  }

  -- A value whose instruction has no key, or a key.

  value_passes : (s : State) (value : InstructionValue) (span : Option Span) → Passes s (with_value s value span)
  value_passes s value span = passes_pushed (with_temporary s span) (unordered (temporary s span) value span)

  pub value_keyless : (s : State) (value : InstructionValue) (span : Option Span) → Lives key_of [] true s (with_value s value span)
  value_keyless s value span = lives_none key_of s (with_value s value span) true (λ is. value_passes s value span)

  pub value_keyed : (s : State) (value : InstructionValue) (span : Option Span) (key : K)
      → key_of (unordered (temporary s span) value span) ≡ Some key → Lives key_of (key ∷ []) true s (with_value s value span)
  value_keyed s value span key is =
      let l : Lives key_of (key ∷ []) true (with_temporary s span) (with_value s value span) =
      lives_pushed key_of (with_temporary s span) (unordered (temporary s span) value span) key is in
      record { onward = l.onward; stands = l.stands }

  stored_lives : (s t : State) (live : List K) (place value : Place) (span : Span) → Lives key_of live true s t
      → Lives key_of live true s (stored_in t place value span)
  stored_lives s t live place value span l =
      lives_on s (extends_value t (values.StoreLocal variables.Const place value) (Some span))
      (value_passes t (values.StoreLocal variables.Const place value) (Some span)) l

  pub logical_lives : (s s2 s4 : State) (operator : LogicalOperator) (right_value left_value : Place) (span left part : Span)
      (in_left in_right : List K)
      → PreservesBlocks (logical_begun s span left) s2
      → PreservesBlocks (logical_right s2 s.env.next_block (logical_place s span) operator span s.current right_value part) s4
      → Lives key_of in_right true (logical_begun s span left) s2
      → Lives key_of in_left true (logical_right s2 s.env.next_block (logical_place s span) operator span s.current right_value part) s4
      → Lives key_of (in_left ++ in_right) true s
      (logical_finished s4 s.env.next_block (stored_in (logical_entered s span left) (logical_place s span) (logical_left s left) left).env.next_block
      (logical_left s left) s.current.kind span left_value)
  logical_lives s s2 s4 operator right_value left_value span left part in_left in_right br bl lr ll =
      let l : Lives key_of (in_left ++ ([] ++ in_right)) true x
      (logical_finished s4 s.env.next_block sm.env.next_block (logical_left s left) s.current.kind span left_value) =
      value_lives key_of x sm sr s5 (logical_end s.env.next_block operator span) (logical_left s left) span left part s.current.kind
      [] in_right in_left
      (to_only (block_id (s.env.next_block + 1)))
      (extends_then br.extends (extends_value s2 (values.StoreLocal variables.Const (logical_place s span) right_value) (Some part)))
      (extends_completed (last_hole sr s.env.next_block gotos.Break part s.current) (logical_end s.env.next_block operator span)
      (new_block (s.env.next_block + 1) block.Value) (λ none. refl))
      (extends_then bl.extends (extends_pushed s4 (loads (logical_left s left) left_value span)))
      (value_keyless (logical_entered s span left) (values.StoreLocal variables.Const (logical_place s span) (logical_left s left))
      (Some left))
      (stored_lives (logical_begun s span left) s2 in_right (logical_place s span) right_value part lr)
      (lives_on _ (extends_pushed s4 (loads (logical_left s left) left_value span))
      (passes_pushed s4 (loads (logical_left s left) left_value span)) ll) in
      record { onward = l.onward; stands = l.stands }
    where
      x : State
      x = with_temporary (with_temporary s (Some span)) (Some left)

      sm : State
      sm = stored_in (logical_entered s span left) (logical_place s span) (logical_left s left) left

      sr : State
      sr = stored_in s2 (logical_place s span) right_value part

      s5 : State
      s5 = pushed s4 (loads (logical_left s left) left_value span)

  pub ternary_lives : (s s2 s3 s4 : State) (consequent_value alternate_value test : Place) (span part other : Span)
      (in_test in_consequent in_alternate : List K)
      → PreservesBlocks (ternary_alternate s2 s.env.next_block (ternary_place s span) consequent_value span part) s3
      → PreservesBlocks (ternary_test s3 s.env.next_block (ternary_place s span) alternate_value span other s.current) s4
      → Lives key_of in_consequent true (ternary_begun s span) s2
      → Lives key_of in_alternate true (ternary_alternate s2 s.env.next_block (ternary_place s span) consequent_value span part) s3
      → Lives key_of in_test true (ternary_test s3 s.env.next_block (ternary_place s span) alternate_value span other s.current) s4
      → Lives key_of (in_test ++ (in_consequent ++ in_alternate)) true s
      (ternary_finished s4 s.env.next_block (stored_in s2 (ternary_place s span) consequent_value span).env.next_block
      s.current.kind span test)
  ternary_lives s s2 s3 s4 consequent_value alternate_value test span part other in_test in_consequent in_alternate ba bt lc la lt =
      let l : Lives key_of (in_test ++ (in_consequent ++ in_alternate)) true (with_temporary s (Some span))
      (ternary_finished s4 s.env.next_block sm.env.next_block s.current.kind span test) =
      value_lives key_of (with_temporary s (Some span)) sm sr s4
      (ternary_end s.env.next_block span) test span part other s.current.kind in_consequent in_alternate in_test
      (to_only (block_id (s.env.next_block + 1)))
      (extends_then ba.extends (extends_value s3 (values.StoreLocal variables.Const (ternary_place s span) alternate_value) (Some span)))
      (extends_completed (last_hole sr s.env.next_block gotos.Break other s.current) (ternary_end s.env.next_block span)
      (new_block (s.env.next_block + 1) block.Value) (λ none. refl))
      bt.extends
      (stored_lives (ternary_begun s span) s2 in_consequent (ternary_place s span) consequent_value span lc)
      (stored_lives (ternary_alternate s2 s.env.next_block (ternary_place s span) consequent_value span part) s3 in_alternate
      (ternary_place s span) alternate_value span la)
      lt in
      record { onward = l.onward; stands = l.stands }
    where
      sm : State
      sm = stored_in s2 (ternary_place s span) consequent_value span

      sr : State
      sr = stored_in s3 (ternary_place s span) alternate_value span

  pub sequence_lives : (s s2 : State) (value : Place) (span part : Span) (live : List K)
      → Lives key_of live true (sequence_begun s span) s2
      → Lives key_of live true s (sequence_finished s2 s.env.next_block s.current.kind (sequence_place s span) value span part s.current)
  sequence_lives s s2 value span part live l =
      let m : Lives key_of live true (with_temporary s (Some span))
      (sequence_finished s2 s.env.next_block s.current.kind (sequence_place s span) value span part s.current) =
      aside_lives key_of (with_temporary s (Some span)) sr (sequence_end s.env.next_block span) part block.Sequence s.current.kind live true
      (to_only (block_id (s.env.next_block + 1)))
      (extends_completed (last_hole sr s.env.next_block gotos.Break part s.current) (sequence_end s.env.next_block span)
      (new_block s.env.next_block s.current.kind) (λ none. refl))
      (stored_lives (sequence_begun s span) s2 live (sequence_place s span) value part l) in
      record { onward = m.onward; stands = m.stands }
    where
      sr : State
      sr = stored_in s2 (sequence_place s span) value part

  -- A statement, and others behind it: these are dead if it cannot fall.
  pub row_lives : (first second : Outs) (live behind : List K) (s t u : State) → Extends t u → Lives key_of live first.falls s t
      → Lives key_of behind second.falls t u
      → Lives key_of (live ++ (if first.falls then behind else [])) (in_row first second).falls s u
  row_lives first second live behind s t u g l m = by_fall first.falls refl l
    where
      by_fall : (f : Bool) → first.falls ≡ f → Lives key_of live f s t
          → Lives key_of (live ++ (if f then behind else []))
          (if f then record (either first second) { falls = second.falls } else first).falls s u
      by_fall true is k = lives_then key_of s t u live behind true second.falls g refl k m
      by_fall false is k =
          subst (λ (keys : List K). Lives key_of keys first.falls s u) (sym (append-nil live))
          (lives_dead key_of s t u live first.falls g is k)
