-- The lowering of formulas, as moves of the builder.
use Rattle.std.specs.Prelude.{Some}
use Rattle.frame_tests.specs.declared.formula.Formula.{Formula, Truth, Not', Both', Either', Choice'}
use Rattle.frame_tests.specs.Formulas.{span_of}
use Rattle.rl_base.specs.declared.operator.LogicalOperator.{LogicalOperator}
use Rattle.rl_base.specs.declared.operator.LogicalOperator.TheVariants as logical
use Rattle.rl_base.specs.declared.span.Span.{Span}
use Rattle.rl_builder.specs.Builder.{State}
use Rattle.rl_builder.specs.Temporaries.{temporary, with_value}
use Rattle.rl_frames.specs.Frames.{LogicalParts, TernaryParts, logical_after, logical_at, logical_ended, logical_righted, ternary_after}
use Rattle.rl_frames.specs.Frames.{ternary_alternated, ternary_at, ternary_consequent, ternary_ended, ternary_parted}
use Rattle.rl_frames.specs.Parts.{logical_begun, ternary_begun}
use Rattle.rl_hir.specs.declared.instruction.InstructionValue.{InstructionValue}
use Rattle.rl_hir.specs.declared.instruction.InstructionValue.TheVariants as values
use Rattle.rl_hir.specs.declared.instruction.Place.{Place}
use Rattle.rl_hir.specs.declared.instruction.PrimitiveValue.TheVariants as primitives
use Rattle.rl_base.specs.declared.operator.UnaryOperator.TheVariants as unary

-- The state behind a part, and the place of its value.
pub record Made : Type 0 where
  pub state : State
  pub place : Place

abbrev pub put : State → InstructionValue → Span → Made
put s value span = record { state = with_value s value (Some span); place = temporary s (Some span) }

-- A logical expression: its right part is lowered first.
abbrev pub connected : LogicalOperator → (span left right : Span) → (State → Made) → (State → Made) → State → Made
connected operator span left right lower_left lower_right s =
    let f : LogicalParts = logical_at s span operator left in
    let r : Made = lower_right (logical_begun s span left) in
    let l : Made = lower_left (logical_righted f r.state r.place right) in
    record { state = logical_ended (logical_after f) l.state l.place; place = f.place }

-- A conditional expression: its test is lowered last.
abbrev pub selected : (span consequent alternate : Span) → (State → Made) → (State → Made) → (State → Made) → State → Made
selected span consequent alternate lower_test lower_consequent lower_alternate s =
    let f : TernaryParts = ternary_at s span in
    let c : Made = lower_consequent (ternary_begun s span) in
    let g : TernaryParts = ternary_parted f c.state c.place consequent in
    let a : Made = lower_alternate (ternary_consequent f c.state c.place consequent) in
    let t : Made = lower_test (ternary_alternated g a.state a.place alternate) in
    record { state = ternary_ended (ternary_after g) t.state t.place; place = f.place }

abbrev pub lowered : Formula → State → Made
lowered (Truth span holds) = λ s. put s (values.Primitive (primitives.Boolean holds)) span
lowered (Not' span at part) = λ s.
    let p : Made = lowered part s in put p.state (values.UnaryExpression unary.LogicalNot p.place) span
lowered (Both' span at left there right) =
    connected logical.And span (span_of left) (span_of right) (lowered left) (lowered right)
lowered (Either' span at left there right) =
    connected logical.Or span (span_of left) (span_of right) (lowered left) (lowered right)
lowered (Choice' span at test here consequent there alternate) =
    selected span (span_of consequent) (span_of alternate) (lowered test) (lowered consequent) (lowered alternate)
