-- The numbers of blocks, types, identifiers and instructions that the lowering of formulas adds, and the room that it needs.
use Rattle.std.proofs.Common.{◌≡◌, ℕ, ◌+◌, ◌*◌, ◌≤◌, Some, ap, arith}
use Rattle.frame_tests.specs.declared.formula.Formula.{Formula, Truth, Not', Both', Either', Choice'}
use Rattle.frame_tests.specs.Formulas.{HasRoom, nodes, share, span_of}
use Rattle.frame_tests.specs.Lowering.{Made, connected, lowered, selected}
use Rattle.rl_base.specs.declared.operator.LogicalOperator.{LogicalOperator}
use Rattle.rl_base.specs.declared.operator.LogicalOperator.TheVariants as logical
use Rattle.rl_base.specs.declared.operator.UnaryOperator.TheVariants as unary
use Rattle.rl_base.specs.declared.span.Span.{Span}
use Rattle.rl_builder.specs.Builder.{State}
use Rattle.rl_frames.proofs.FrameSizes.{logical_begun_size, logical_ended_size, logical_righted_size, ternary_alternated_size}
use Rattle.rl_frames.proofs.FrameSizes.{ternary_begun_size, ternary_consequent_size, ternary_ended_size}
use Rattle.rl_frames.specs.Frames.{LogicalParts, TernaryParts, logical_after, logical_at, logical_righted, ternary_after}
use Rattle.rl_frames.specs.Frames.{ternary_alternated, ternary_at, ternary_consequent, ternary_parted}
use Rattle.rl_frames.specs.Parts.{logical_begun, ternary_begun}
use Rattle.rl_hir.specs.declared.instruction.InstructionValue.TheVariants as values
use Rattle.rl_hir.specs.declared.instruction.Place.{Place}
use Rattle.rl_hir.specs.declared.instruction.PrimitiveValue.TheVariants as primitives
use Rattle.rl_runs.proofs.Sizes.{size_value}
use Rattle.rl_runs.specs.Blocks.{size_of}

-- A part that adds at most the share of so many nodes.
abbrev Adds : (State → Made) → ℕ → Type 0
Adds lower n = (s : State) → size_of (lower s).state ≤ size_of s + 64 * n

connected_adds : (operator : LogicalOperator) (span left right : Span) (lower_left lower_right : State → Made) (m n : ℕ)
    → Adds lower_left m → Adds lower_right n → Adds (connected operator span left right lower_left lower_right) (m + n + 1)
connected_adds operator span left right lower_left lower_right m n first second s =
    let f : LogicalParts = logical_at s span operator left in
    let r : Made = lower_right (logical_begun s span left) in
    let x : State = logical_righted f r.state r.place right in
    let l : Made = lower_left x in
    omega (
      arith,
      logical_begun_size s span left,
      second (logical_begun s span left),
      logical_righted_size f r.state r.place right,
      first x,
      logical_ended_size (logical_after f) l.state l.place,
    )

selected_adds : (span consequent alternate : Span) (lower_test lower_consequent lower_alternate : State → Made) (m n k : ℕ)
    → Adds lower_test m → Adds lower_consequent n → Adds lower_alternate k
    → Adds (selected span consequent alternate lower_test lower_consequent lower_alternate) (m + n + k + 1)
selected_adds span consequent alternate lower_test lower_consequent lower_alternate m n k first second third s =
    let f : TernaryParts = ternary_at s span in
    let c : Made = lower_consequent (ternary_begun s span) in
    let g : TernaryParts = ternary_parted f c.state c.place consequent in
    let x : State = ternary_consequent f c.state c.place consequent in
    let a : Made = lower_alternate x in
    let y : State = ternary_alternated g a.state a.place alternate in
    let t : Made = lower_test y in
    omega (
      arith,
      ternary_begun_size s span,
      second (ternary_begun s span),
      ternary_consequent_size f c.state c.place consequent,
      third x,
      ternary_alternated_size g a.state a.place alternate,
      first y,
      ternary_ended_size (ternary_after g) t.state t.place,
    )

pub adds : (f : Formula) (s : State) → size_of (lowered f s).state ≤ size_of s + share f
adds (Truth span holds) s = omega (arith, size_value s (values.Primitive (primitives.Boolean holds)) (Some span))
adds (Not' span at part) s =
    let p : Made = lowered part s in
    omega (arith, adds part s, size_value p.state (values.UnaryExpression unary.LogicalNot p.place) (Some span))
adds (Both' span at left there right) s =
    connected_adds logical.And span (span_of left) (span_of right) (lowered left) (lowered right) (nodes left) (nodes right)
    (adds left) (adds right) s
adds (Either' span at left there right) s =
    connected_adds logical.Or span (span_of left) (span_of right) (lowered left) (lowered right) (nodes left) (nodes right)
    (adds left) (adds right) s
adds (Choice' span at test here consequent there alternate) s =
    selected_adds span (span_of consequent) (span_of alternate) (lowered test) (lowered consequent) (lowered alternate)
    (nodes test) (nodes consequent) (nodes alternate) (adds test) (adds consequent) (adds alternate) s

-- The room that is left behind each step.

pub begun_room : (s t : State) (span left : Span) (m n : ℕ) → t ≡ logical_begun s span left → HasRoom s (64 * (m + n + 1))
    → HasRoom t (64 * n + (64 * m + 8))
begun_room s t span left m n is room =
    let same : size_of t ≡ size_of (logical_begun s span left) = ap size_of is in
    omega (arith, same, logical_begun_size s span left, room)

pub righted_room : (f : LogicalParts) (s t : State) (value : Place) (part : Span) (m : ℕ) → t ≡ logical_righted f s value part
    → HasRoom s (64 * m + 8) → HasRoom t (64 * m + 4)
righted_room f s t value part m is room =
    let same : size_of t ≡ size_of (logical_righted f s value part) = ap size_of is in
    omega (arith, same, logical_righted_size f s value part, room)

pub tested_room : (s t : State) (span : Span) (m n k : ℕ) → t ≡ ternary_begun s span → HasRoom s (64 * (m + n + k + 1))
    → HasRoom t (64 * n + (64 * k + (64 * m + 20)))
tested_room s t span m n k is room =
    let same : size_of t ≡ size_of (ternary_begun s span) = ap size_of is in
    omega (arith, same, ternary_begun_size s span, room)

pub parted_room : (f : TernaryParts) (s t : State) (value : Place) (part : Span) (m k : ℕ) → t ≡ ternary_consequent f s value part
    → HasRoom s (64 * k + (64 * m + 20)) → HasRoom t (64 * k + (64 * m + 8))
parted_room f s t value part m k is room =
    let same : size_of t ≡ size_of (ternary_consequent f s value part) = ap size_of is in
    omega (arith, same, ternary_consequent_size f s value part, room)

pub alternated_room : (f : TernaryParts) (s t : State) (value : Place) (part : Span) (m : ℕ) → t ≡ ternary_alternated f s value part
    → HasRoom s (64 * m + 8) → HasRoom t (64 * m)
alternated_room f s t value part m is room =
    let same : size_of t ≡ size_of (ternary_alternated f s value part) = ap size_of is in
    omega (arith, same, ternary_alternated_size f s value part, room)

-- The formula behind which so much room is left.
pub part_room : (f : Formula) (s t : State) (more : ℕ) → t ≡ (lowered f s).state → HasRoom s (share f + more) → HasRoom t more
part_room f s t more is room =
    let same : size_of t ≡ size_of (lowered f s).state = ap size_of is in omega (arith, same, adds f s, room)

pub grown_by : (f : Formula) (s t : State) → t ≡ (lowered f s).state → size_of t ≤ size_of s + share f
grown_by f s t is = let same : size_of t ≡ size_of (lowered f s).state = ap size_of is in omega (arith, same, adds f s)
