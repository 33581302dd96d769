-- The parts of the blocks that logical and conditional expressions keep, as one record.
use Rattle.std.proofs.Common.{◌≡◌, ℕ, ◌+◌, inl, inr, [], ◌∷◌, Some, refl}
use Rattle.rl_base.specs.declared.operator.LogicalOperator.{LogicalOperator}
use Rattle.rl_base.specs.declared.operator.LogicalOperator.TheVariants as logical
use Rattle.rl_builder.specs.Builder.{with_temporary}
use Rattle.rl_frames.proofs.Common.{Place, Span, State}
use Rattle.rl_frames.proofs.ValueBlocks.{LeadsToTest, value_blocks}
use Rattle.rl_frames.specs.Parts.{loads, logical_begun, logical_entered, logical_finished, logical_left, logical_place, logical_right}
use Rattle.rl_frames.specs.Parts.{ternary_alternate, ternary_begun, ternary_finished, ternary_place, ternary_test}
use Rattle.rl_hir.specs.declared.instruction.InstructionKind.TheVariants as variables
use Rattle.rl_hir.specs.declared.instruction.InstructionValue.TheVariants as values
use Rattle.rl_hir.specs.declared.terminal.TerminalKind.TheVariants as kinds
use Rattle.rl_machine.specs.Ends.{Chooses, Connects, Straight, choice}
use Rattle.rl_runs.proofs.Naming.{named_first, named_none}
use Rattle.rl_runs.proofs.Preserving.{blocks_pushed, blocks_temporary, blocks_then, blocks_value}
use Rattle.rl_runs.specs.Blocks.{PreservesBlocks}
use Rattle.rl_runs.specs.Moves.{block_id, stored_in}

-- No note of a logical expression lets a branch go straight on.
never_straight : (operator : LogicalOperator) → choice (Connects operator) ≡ Straight → ⊥
never_straight logical.And is = absurd (cc)
never_straight logical.Or is = absurd (cc)
never_straight logical.Coalesce is = absurd (cc)

logical_leads : (operator : LogicalOperator) (behind : ℕ)
    → LeadsToTest (kinds.Logical operator (block_id (behind + 1)) (block_id behind)) behind
logical_leads operator behind = record {
  end = refl;
  uncaught = refl;
  loopless = refl;
  marks = (block_id (behind + 1), Connects operator) ∷ (block_id behind, Connects operator) ∷ [];
  leads = refl;
  calm = λ id leaves. elim leaves [
    | inl one ↦ never_straight operator one.1
    | inr rest ↦ elim rest [ inl two ↦ never_straight operator two.1 | inr never ↦ never ]
  ];
  names = λ span id is. elim (named_first id (block_id (behind + 1)) (block_id behind ∷ []) is) [
    | inl e ↦ inl e
    | inr is1 ↦ elim (named_first id (block_id behind) [] is1) [ inl e ↦ inr e | inr never ↦ absurd (named_none id never) ]
  ];
}

ternary_leads : (behind : ℕ) → LeadsToTest (kinds.Ternary (block_id (behind + 1)) (block_id behind)) behind
ternary_leads behind = record {
  end = refl;
  uncaught = refl;
  loopless = refl;
  marks = (block_id (behind + 1), Chooses) ∷ (block_id behind, Chooses) ∷ [];
  leads = refl;
  calm = λ id leaves. elim leaves [
    | inl one ↦ (let never : choice Chooses ≡ Straight = one.1 in absurd (cc))
    | inr rest ↦ elim rest [ inl two ↦ (let never : choice Chooses ≡ Straight = two.1 in absurd (cc)) | inr never ↦ never ]
  ];
  names = λ span id is. elim (named_first id (block_id (behind + 1)) (block_id behind ∷ []) is) [
    | inl e ↦ inl e
    | inr is1 ↦ elim (named_first id (block_id behind) [] is1) [ inl e ↦ inr e | inr never ↦ absurd (named_none id never) ]
  ];
}

pub logical_blocks : (s s2 s4 : State) (operator : LogicalOperator) (right_value left_value : Place) (span left part : Span)
    → PreservesBlocks (logical_begun s span left) s2
    → PreservesBlocks (logical_right s2 s.env.next_block (logical_place s span) operator span s.current right_value part) s4
    → PreservesBlocks s (logical_finished s4 s.env.next_block
    (stored_in (logical_entered s span left) (logical_place s span) (logical_left s left) left).env.next_block
    (logical_left s left) s.current.kind span left_value)
logical_blocks s s2 s4 operator right_value left_value span left part b2 b3 =
    blocks_then s x _
    (blocks_then s (with_temporary s (Some span)) x (blocks_temporary s (Some span))
    (blocks_temporary (with_temporary s (Some span)) (Some left)))
    (value_blocks x (stored_in (logical_entered s span left) (logical_place s span) (logical_left s left) left)
    (stored_in s2 (logical_place s span) right_value part) _
    (kinds.Logical operator (block_id (s.env.next_block + 1)) (block_id s.env.next_block))
    (logical_left s left) span left part s.current.kind (logical_leads operator s.env.next_block)
    (blocks_value (logical_entered s span left) (values.StoreLocal variables.Const (logical_place s span) (logical_left s left))
    (Some left))
    (blocks_then (logical_begun s span left) s2 _ b2
    (blocks_value s2 (values.StoreLocal variables.Const (logical_place s span) right_value) (Some part)))
    (blocks_then _ s4 _ b3 (blocks_pushed s4 (loads (logical_left s left) left_value span))))
  where
    x : State
    x = with_temporary (with_temporary s (Some span)) (Some left)

pub ternary_blocks : (s s2 s3 s4 : State) (consequent_value alternate_value test : Place) (span part other : Span)
    → PreservesBlocks (ternary_begun s span) s2
    → PreservesBlocks (ternary_alternate s2 s.env.next_block (ternary_place s span) consequent_value span part) s3
    → PreservesBlocks (ternary_test s3 s.env.next_block (ternary_place s span) alternate_value span other s.current) s4
    → PreservesBlocks s (ternary_finished s4 s.env.next_block
    (stored_in s2 (ternary_place s span) consequent_value span).env.next_block s.current.kind span test)
ternary_blocks s s2 s3 s4 consequent_value alternate_value test span part other b1 b2 b3 =
    blocks_then s (with_temporary s (Some span)) _ (blocks_temporary s (Some span))
    (value_blocks (with_temporary s (Some span)) (stored_in s2 (ternary_place s span) consequent_value span)
    (stored_in s3 (ternary_place s span) alternate_value span) s4
    (kinds.Ternary (block_id (s.env.next_block + 1)) (block_id s.env.next_block)) test span part other s.current.kind
    (ternary_leads s.env.next_block)
    (blocks_then (ternary_begun s span) s2 _ b1
    (blocks_value s2 (values.StoreLocal variables.Const (ternary_place s span) consequent_value) (Some span)))
    (blocks_then (ternary_alternate s2 s.env.next_block (ternary_place s span) consequent_value span part) s3 _ b2
    (blocks_value s3 (values.StoreLocal variables.Const (ternary_place s span) alternate_value) (Some span)))
    b3)
