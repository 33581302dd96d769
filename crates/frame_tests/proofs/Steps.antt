-- The calls of frames, one after the other, give the state of the whole.
use Rattle.std.proofs.Common.{◌≡◌, ap, ◌∙◌}
use Rattle.frame_tests.specs.declared.formula.Formula.{Formula}
use Rattle.frame_tests.specs.Formulas.{span_of}
use Rattle.frame_tests.specs.Lowering.{Made, connected, lowered, selected}
use Rattle.rl_base.specs.declared.operator.LogicalOperator.{LogicalOperator}
use Rattle.rl_base.specs.declared.span.Span.{Span}
use Rattle.rl_builder.specs.Builder.{State}
use Rattle.rl_frames.specs.Frames.{LogicalParts, TernaryParts, logical_after, logical_at, logical_ended, logical_righted, ternary_after}
use Rattle.rl_frames.specs.Frames.{ternary_alternated, ternary_at, ternary_consequent, ternary_ended, ternary_parted}
use Rattle.rl_frames.specs.Parts.{logical_begun, ternary_begun}
use Rattle.rl_hir.specs.declared.instruction.Place.{Place}

pub connected_is : (operator : LogicalOperator) (span left right p q : Span) (lower_left lower_right : State → Made)
    (s s1 s2 s3 s4 s5 : State) (f1 f2 : LogicalParts) (r l : Place) → p ≡ left → q ≡ right
    → s1 ≡ logical_begun s span p → f1 ≡ logical_at s span operator p
    → s2 ≡ (lower_right s1).state → r ≡ (lower_right s1).place → s3 ≡ logical_righted f1 s2 r q → f2 ≡ logical_after f1
    → s4 ≡ (lower_left s3).state → l ≡ (lower_left s3).place → s5 ≡ logical_ended f2 s4 l
    → s5 ≡ (connected operator span left right lower_left lower_right s).state
connected_is operator span left right p q lower_left lower_right s s1 s2 s3 s4 s5 f1 f2 r l is_left is_right given1 given2 b2 v2 b3 g2 b4 v4
    b5 =
    b5 ∙ (λ i. logical_ended ((g2 ∙ ap logical_after g1) i) ((b4 ∙ ap (λ (x : State). (lower_left x).state) left_at) i)
    ((v4 ∙ ap (λ (x : State). (lower_left x).place) left_at) i))
  where
    b1 : s1 ≡ logical_begun s span left
    b1 = given1 ∙ ap (logical_begun s span) is_left

    g1 : f1 ≡ logical_at s span operator left
    g1 = given2 ∙ ap (logical_at s span operator) is_left

    right_state : s2 ≡ (lower_right (logical_begun s span left)).state
    right_state = b2 ∙ ap (λ (x : State). (lower_right x).state) b1

    right_place : r ≡ (lower_right (logical_begun s span left)).place
    right_place = v2 ∙ ap (λ (x : State). (lower_right x).place) b1

    left_at : s3
        ≡ logical_righted (logical_at s span operator left) (lower_right (logical_begun s span left)).state
        (lower_right (logical_begun s span left)).place right
    left_at = b3 ∙ (λ i. logical_righted (g1 i) (right_state i) (right_place i) (is_right i))

pub selected_is : (span consequent alternate p q : Span) (lower_test lower_consequent lower_alternate : State → Made)
    (s s1 s2 s3 s4 s5 s6 s7 : State) (f1 f2 f3 : TernaryParts) (c a t : Place) → p ≡ consequent → q ≡ alternate
    → s1 ≡ ternary_begun s span → f1 ≡ ternary_at s span
    → s2 ≡ (lower_consequent s1).state → c ≡ (lower_consequent s1).place → s3 ≡ ternary_consequent f1 s2 c p
    → f2 ≡ ternary_parted f1 s2 c p
    → s4 ≡ (lower_alternate s3).state → a ≡ (lower_alternate s3).place → s5 ≡ ternary_alternated f2 s4 a q
    → f3 ≡ ternary_after f2
    → s6 ≡ (lower_test s5).state → t ≡ (lower_test s5).place → s7 ≡ ternary_ended f3 s6 t
    → s7 ≡ (selected span consequent alternate lower_test lower_consequent lower_alternate s).state
selected_is span consequent alternate p q lower_test lower_consequent lower_alternate s s1 s2 s3 s4 s5 s6 s7 f1 f2 f3 c a t is_consequent
    is_alternate b1 g1 b2 v2 b3 g2 b4 v4 b5 g3 b6 v6 b7 =
    b7 ∙ (λ i. ternary_ended ((g3 ∙ ap ternary_after parts) i) ((b6 ∙ ap (λ (x : State). (lower_test x).state) test_at) i)
    ((v6 ∙ ap (λ (x : State). (lower_test x).place) test_at) i))
  where
    c_state : s2 ≡ (lower_consequent (ternary_begun s span)).state
    c_state = b2 ∙ ap (λ (x : State). (lower_consequent x).state) b1

    c_place : c ≡ (lower_consequent (ternary_begun s span)).place
    c_place = v2 ∙ ap (λ (x : State). (lower_consequent x).place) b1

    parts : f2
        ≡ ternary_parted (ternary_at s span) (lower_consequent (ternary_begun s span)).state
        (lower_consequent (ternary_begun s span)).place consequent
    parts = g2 ∙ (λ i. ternary_parted (g1 i) (c_state i) (c_place i) (is_consequent i))

    alternate_at : s3
        ≡ ternary_consequent (ternary_at s span) (lower_consequent (ternary_begun s span)).state
        (lower_consequent (ternary_begun s span)).place consequent
    alternate_at = b3 ∙ (λ i. ternary_consequent (g1 i) (c_state i) (c_place i) (is_consequent i))

    test_at : s5
        ≡ ternary_alternated
        (ternary_parted (ternary_at s span) (lower_consequent (ternary_begun s span)).state
        (lower_consequent (ternary_begun s span)).place consequent)
        (lower_alternate (ternary_consequent (ternary_at s span) (lower_consequent (ternary_begun s span)).state
        (lower_consequent (ternary_begun s span)).place consequent)).state
        (lower_alternate (ternary_consequent (ternary_at s span) (lower_consequent (ternary_begun s span)).state
        (lower_consequent (ternary_begun s span)).place consequent)).place alternate
    test_at =
        b5 ∙ (λ i. ternary_alternated (parts i) ((b4 ∙ ap (λ (x : State). (lower_alternate x).state) alternate_at) i)
        ((v4 ∙ ap (λ (x : State). (lower_alternate x).place) alternate_at) i) (is_alternate i))

-- Of parts that are the same.

pub connected_same : (operator : LogicalOperator) (span : Span) (left right left1 right1 : Formula) (s t : State) → left ≡ left1
    → right ≡ right1 → t ≡ (connected operator span (span_of left) (span_of right) (lowered left) (lowered right) s).state
    → t ≡ (connected operator span (span_of left1) (span_of right1) (lowered left1) (lowered right1) s).state
connected_same operator span left right left1 right1 s t l r e =
    e ∙ (λ i. (connected operator span (span_of (l i)) (span_of (r i)) (lowered (l i)) (lowered (r i)) s).state)

pub selected_same : (span : Span) (test consequent alternate test1 consequent1 alternate1 : Formula) (s t : State) → test ≡ test1
    → consequent ≡ consequent1 → alternate ≡ alternate1
    → t ≡ (selected span (span_of consequent) (span_of alternate) (lowered test) (lowered consequent) (lowered alternate) s).state
    → t ≡ (selected span (span_of consequent1) (span_of alternate1) (lowered test1) (lowered consequent1) (lowered alternate1) s).state
selected_same span test consequent alternate test1 consequent1 alternate1 s t a b c e =
    e ∙ (λ i. (selected span (span_of (b i)) (span_of (c i)) (lowered (a i)) (lowered (b i)) (lowered (c i)) s).state)
