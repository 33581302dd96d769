-- The notes that are read in defaults and links of chains: none of a block behind a construct whose terminal `build` may replace.
use Rattle.std.proofs.Common.{◌≡◌, ℕ, ◌+◌, ◌≤◌, Bool, Some, refl, ◌∙◌, arith}
use Rattle.rl_base.specs.declared.operator.BinaryOperator.TheVariants as operator
use Rattle.rl_base.specs.declared.span.Span.{Span}
use Rattle.rl_builder.specs.Builder.{State, completed_by, entered, new_block, reserved}
use Rattle.rl_builder.specs.Temporaries.{temporary}
use Rattle.rl_frames.specs.Parts.{chain_begun, chain_ended, chain_reserved, chain_undefined, link_begun, link_end, link_finished}
use Rattle.rl_frames.specs.Parts.{link_object}
use Rattle.rl_hir.specs.declared.function.BlockKind.{BlockKind}
use Rattle.rl_hir.specs.declared.function.BlockKind.TheVariants as block
use Rattle.rl_hir.specs.declared.instruction.InstructionKind.TheVariants as variables
use Rattle.rl_hir.specs.declared.instruction.InstructionValue.TheVariants as values
use Rattle.rl_hir.specs.declared.instruction.Place.{Place}
use Rattle.rl_hir.specs.declared.instruction.PrimitiveValue.TheVariants as primitives
use Rattle.rl_hir.specs.declared.terminal.GotoVariant.TheVariants as gotos
use Rattle.rl_optional_frames.specs.Parts.{compared, comparison, default_begun, default_end, default_finished, default_given}
use Rattle.rl_optional_frames.specs.Parts.{default_other, default_reserved, default_test, undefined_made}
use Rattle.rl_runs.proofs.HoleNotes.{unread_aside, unread_branched, unread_kept, unread_next, unread_same, unread_value}
use Rattle.rl_runs.proofs.Moves.{extends_value}
use Rattle.rl_runs.proofs.ReadNotes.{unread_ended, unread_then}
use Rattle.rl_runs.specs.Facts.{Extends}
use Rattle.rl_runs.specs.Moves.{block_id, branch, goto, last_hole, stored_in}
use Rattle.rl_runs.specs.ReadNotes.{KeepsUnread}

-- A value that is stored behind a part.

stored_extends : (s : State) (place value : Place) (span : Span) → Extends s (stored_in s place value span)
stored_extends s place value span = extends_value s (values.StoreLocal variables.Const place value) (Some span)

stored_unread : (a s : State) (place value : Place) (span : Span) → Extends a s → KeepsUnread a s
    → KeepsUnread a (stored_in s place value span)
stored_unread a s place value span g k =
    unread_then a s (stored_in s place value span) g.blocks (stored_extends s place value span).blocks g.handlers k
    (unread_value s (values.StoreLocal variables.Const place value) (Some span))

-- A default.
pub default_unread : (s s2 : State) (default value : Place) (span : Span) → Extends (default_begun s span) s2
    → KeepsUnread (default_begun s span) s2
    → KeepsUnread s (default_finished s2 s.env.next_block (s.env.next_block + 1) (s.env.next_block + 1 + 1) s.current.kind
    (temporary s (Some span)) default value span s.current)
default_unread s s2 default value span g k =
    unread_branched s sq r.env (branch (comparison sl span) (n + 1 + 1) (default_other s2 place default span) f span)
    (new_block f s.current.kind) (block_id f) refl refl (omega arith) (omega arith)
    (omega (arith, g.blocks, first.blocks, second.blocks, made.blocks, met.blocks))
    (unread_then r sl sq (omega (arith, g.blocks, first.blocks, second.blocks)) (omega (arith, made.blocks, met.blocks))
    (second.handlers ∙ (first.handlers ∙ g.handlers)) to_test
    (unread_then sl su sq made.blocks met.blocks made.handlers (unread_value sl (values.Primitive primitives.Undefined) (Some span))
    (unread_value su (values.BinaryExpression operator.StrictEquality value (temporary sl (Some span))) (Some span))))
  where
    n : ℕ
    n = s.env.next_block

    f : ℕ
    f = n + 1

    place : Place
    place = temporary s (Some span)

    r : State
    r = default_reserved s span

    begun : State
    begun = default_begun s span

    sm : State
    sm = stored_in s2 place default span

    opened : State
    opened = default_given s2 f place default span

    sr : State
    sr = stored_in opened place value span

    shut : State
    shut = last_hole sr f gotos.Break span s.current

    sl : State
    sl = default_test s2 n f place default value span s.current

    su : State
    su = undefined_made sl span

    sq : State
    sq = compared sl value span

    first : Extends s2 sm
    first = stored_extends s2 place default span

    second : Extends opened sr
    second = stored_extends opened place value span

    made : Extends sl su
    made = extends_value sl (values.Primitive primitives.Undefined) (Some span)

    met : Extends su sq
    met = extends_value su (values.BinaryExpression operator.StrictEquality value (temporary sl (Some span))) (Some span)

    both : KeepsUnread begun sr
    both =
        unread_then begun opened sr (omega (arith, g.blocks, first.blocks)) second.blocks (first.handlers ∙ g.handlers)
        (unread_then begun sm opened (omega (arith, g.blocks, first.blocks)) (omega arith) (first.handlers ∙ g.handlers)
        (stored_unread begun s2 place default span g k) (unread_next sm f gotos.Break span block.Value))
        (unread_value opened (values.StoreLocal variables.Const place value) (Some span))

    to_test : KeepsUnread r sl
    to_test =
        unread_then r shut sl (omega (arith, g.blocks, first.blocks, second.blocks)) (omega arith)
        (second.handlers ∙ (first.handlers ∙ g.handlers))
        (unread_then r (reserved r) shut (omega arith) (omega (arith, g.blocks, first.blocks, second.blocks)) refl
        (unread_same r (reserved r).env)
        (unread_aside (reserved r) sr (new_block (n + 1 + 1) block.Value) r.scopes sr.scopes sr.handlers (goto f gotos.Break span) refl refl
        (second.handlers ∙ (first.handlers ∙ g.handlers)) both))
        (unread_ended shut (default_end n f span) (new_block n block.Value) refl refl)

-- A link, from a state `x` in which it may begin.
pub link_unread : (s x s2 s4 : State) (optional : Bool) (object value : Place) (a : ℕ) (last_kind : BlockKind) (span : Span)
    → x.handlers ≡ s.handlers → s.env.next_block + 1 + 1 ≤ x.env.next_block → KeepsUnread (chain_reserved s span) x
    → Extends (link_begun x) s2 → Extends (link_object s2 s.env.next_block (s.env.next_block + 1) a span object) s4
    → KeepsUnread (link_begun x) s2 → KeepsUnread (link_object s2 s.env.next_block (s.env.next_block + 1) a span object) s4
    → KeepsUnread s (link_finished s4 s.env.next_block x.env.next_block optional last_kind span (temporary s (Some span)) value x.current)
link_unread s x s2 s4 optional object value a last_kind span handlers numbered kx go gk ko kk =
    unread_then s shut last (omega (arith, numbered, go.blocks, gk.blocks, stored.blocks)) (omega arith)
    (stored.handlers ∙ (gk.handlers ∙ (go.handlers ∙ handlers)))
    (unread_then s s5 shut (omega (arith, numbered, go.blocks, gk.blocks, stored.blocks)) (omega arith)
    (stored.handlers ∙ (gk.handlers ∙ (go.handlers ∙ handlers)))
    (unread_then s s3 s5 (omega (arith, numbered, go.blocks)) (omega (arith, gk.blocks, stored.blocks)) (go.handlers ∙ handlers) to_link
    (stored_unread s3 s4 place value span gk kk))
    (unread_ended s5 (goto n gotos.Break span) x.current refl refl))
    (unread_ended shut (link_end n x.env.next_block optional span) (new_block n last_kind) refl refl)
  where
    n : ℕ
    n = s.env.next_block

    place : Place
    place = temporary s (Some span)

    y : State
    y = chain_reserved s span

    s3 : State
    s3 = link_object s2 n (n + 1) a span object

    s5 : State
    s5 = stored_in s4 place value span

    shut : State
    shut = last_hole s5 n gotos.Break span x.current

    last : State
    last = completed_by shut (link_end n x.env.next_block optional span) (new_block n last_kind)

    stored : Extends s4 s5
    stored = stored_extends s4 place value span

    to_object : KeepsUnread y s2
    to_object =
        unread_then y x s2 numbered (omega (arith, go.blocks)) handlers kx
        (unread_then x (link_begun x) s2 (omega arith) go.blocks refl (unread_kept x (link_begun x) refl) ko)

    to_link : KeepsUnread s s3
    to_link =
        unread_branched s s2 y.env (branch object (n + 1) a n span) (new_block (n + 1) block.Value) (block_id n) refl refl (omega arith)
        (omega arith) (omega (arith, numbered, go.blocks)) to_object

-- The early end of a chain.
pub early_unread : (s : State) (span : Span) → KeepsUnread (chain_reserved s span) (chain_begun s span)
early_unread s span =
    unread_then y e (chain_begun s span) (omega (arith, made.blocks, stored.blocks)) (omega arith) (stored.handlers ∙ made.handlers)
    (unread_then y v e (omega (arith, made.blocks)) stored.blocks made.handlers
    (unread_then y sa v (omega arith) made.blocks refl (unread_kept y sa refl)
    (unread_value sa (values.Primitive primitives.Undefined) (Some span)))
    (unread_value v (values.StoreLocal variables.Const (temporary s (Some span)) (temporary y (Some span))) (Some span)))
    (unread_ended e (goto s.env.next_block gotos.Break span) s.current refl refl)
  where
    y : State
    y = chain_reserved s span

    sa : State
    sa = entered (reserved y) (new_block (s.env.next_block + 1 + 1) block.Value)

    v : State
    v = chain_undefined s span

    e : State
    e = chain_ended s span

    made : Extends sa v
    made = extends_value sa (values.Primitive primitives.Undefined) (Some span)

    stored : Extends v e
    stored = extends_value v (values.StoreLocal variables.Const (temporary s (Some span)) (temporary y (Some span))) (Some span)
