-- The numbers of blocks, types, identifiers and instructions that defaults and links of chains add, together. Under a handler each
-- instruction takes a block more.
use Rattle.std.proofs.Common.{◌≡◌, ℕ, ◌+◌, ◌≤◌, Bool, Some, None, length-append, arith}
use Rattle.rl_base.specs.declared.ids.BlockId.{BlockId}
use Rattle.rl_base.specs.declared.operator.BinaryOperator.TheVariants as operator
use Rattle.rl_base.specs.declared.span.Span.{Span}
use Rattle.rl_builder.specs.Builder.{State, entered, new_block, reserved}
use Rattle.rl_builder.specs.Temporaries.{temporary}
use Rattle.rl_frames.specs.Parts.{chain_reserved}
use Rattle.rl_hir.specs.declared.function.BlockKind.TheVariants as block
use Rattle.rl_hir.specs.declared.instruction.InstructionKind.TheVariants as kind
use Rattle.rl_hir.specs.declared.instruction.InstructionValue.TheVariants as values
use Rattle.rl_hir.specs.declared.instruction.Place.{Place}
use Rattle.rl_hir.specs.declared.instruction.PrimitiveValue.TheVariants as primitives
use Rattle.rl_optional_frames.specs.Frames.{DefaultParts, LinkParts, default_at, default_ended, default_tested, link_after, link_at}
use Rattle.rl_optional_frames.specs.Frames.{link_ended, link_objected}
use Rattle.rl_optional_frames.specs.Parts.{default_begun, default_given, link_opened, made_early_end}
use Rattle.rl_optional_frames.specs.Parts.{undefined_made}
use Rattle.rl_runs.proofs.Sizes.{size_value}
use Rattle.rl_runs.specs.Blocks.{size_of}
use Rattle.rl_runs.specs.Moves.{stored_in}

stored_size : (s : State) (place value : Place) (span : Span) → size_of (stored_in s place value span) ≤ size_of s + 4
stored_size s place value span = size_value s (values.StoreLocal kind.Const place value) (Some span)

undefined_size : (s : State) (span : Span) → size_of (undefined_made s span) ≤ size_of s + 4
undefined_size s span = size_value s (values.Primitive primitives.Undefined) (Some span)

-- The states between the holes of a frame, each with what it adds to the one before.

pub default_begun_size : (s : State) (span : Span) → size_of (default_begun s span) ≤ size_of s + 5
default_begun_size s span = simp length-append (omega arith)

pub default_ended_size : (f : DefaultParts) (s : State) (default : Place) → size_of (default_ended f s default) ≤ size_of s + 17
default_ended_size f s default =
    omega (
      arith,
      stored_size s f.place default f.span,
      stored_size (default_given s f.behind.id.0 f.place default f.span) f.place f.value f.span,
      undefined_size (default_tested f s default) f.span,
      size_value (undefined_made (default_tested f s default) f.span)
          (values.BinaryExpression operator.StrictEquality f.value (temporary (default_tested f s default) (Some f.span))) (Some f.span),
    )

reserved_size : (s : State) (span : Span) → size_of (chain_reserved s span) ≡ size_of s + 4
reserved_size s span = simp length-append (omega arith)

early_size : (s : State) (place : Place) (behind : ℕ) (span : Span) → size_of (made_early_end s place behind span) ≤ size_of s + 9
early_size s place behind span =
    let sa : State = entered (reserved s) (new_block s.env.next_block block.Value) in
    omega (arith, undefined_size sa span, stored_size (undefined_made sa span) place (temporary s (Some span)) span)

-- A link inside a chain, and the outermost.

pub inner_opened_size : (s : State) (span : Span) (alternate : BlockId) → size_of (link_opened (Some alternate) s span) ≤ size_of s + 5
inner_opened_size s span alternate = omega (arith, reserved_size s span)

pub outer_opened_size : (s : State) (span : Span) → size_of (link_opened None s span) ≤ size_of s + 14
outer_opened_size s span =
    omega (arith, reserved_size s span, early_size (chain_reserved s span) (temporary s (Some span)) s.env.next_block span)

pub link_objected_size : (f : LinkParts) (s : State) (object : Place) → size_of (link_objected f s object) ≤ size_of s + 0
link_objected_size f s object = omega arith

pub link_ended_size : (f : LinkParts) (s : State) (value : Place) → size_of (link_ended f s value) ≤ size_of s + 4
link_ended_size f s value = omega (arith, stored_size s f.place value f.span)

-- Constructs, each with what its holes add.

pub default_size : (s s2 : State) (value default : Place) (span : Span) (m : ℕ) → size_of s2 ≤ size_of (default_begun s span) + m
    → size_of (default_ended (default_at s span value) s2 default) ≤ size_of s + (22 + m)
default_size s s2 value default span m a =
    let begun = default_begun_size s span in
    omega (arith, a, begun, default_ended_size (default_at s span value) s2 default)

pub inner_link_size : (s s2 s4 : State) (object value : Place) (span : Span) (optional : Bool) (alternate : BlockId) (m k : ℕ)
    → size_of s2 ≤ size_of (link_opened (Some alternate) s span) + m
    → size_of s4 ≤ size_of (link_objected (link_at s span optional (Some alternate)) s2 object) + k
    → size_of (link_ended (link_after (link_at s span optional (Some alternate))) s4 value) ≤ size_of s + (9 + m + k)
inner_link_size s s2 s4 object value span optional alternate m k a b =
    let f : LinkParts = link_at s span optional (Some alternate) in
    let opened = inner_opened_size s span alternate in
    omega (arith, a, b, opened, link_objected_size f s2 object, link_ended_size (link_after f) s4 value)

pub outer_link_size : (s s2 s4 : State) (object value : Place) (span : Span) (optional : Bool) (m k : ℕ)
    → size_of s2 ≤ size_of (link_opened None s span) + m
    → size_of s4 ≤ size_of (link_objected (link_at s span optional None) s2 object) + k
    → size_of (link_ended (link_after (link_at s span optional None)) s4 value) ≤ size_of s + (18 + m + k)
outer_link_size s s2 s4 object value span optional m k a b =
    let f : LinkParts = link_at s span optional None in
    let opened = outer_opened_size s span in
    omega (arith, a, b, opened, link_objected_size f s2 object, link_ended_size (link_after f) s4 value)
