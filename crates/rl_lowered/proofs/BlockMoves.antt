-- Moves of the lowering preserve the blocks.
use Rattle.std.proofs.Common.{◌≡◌, ℕ, ◌+◌, ◌<◌, inl, inr, Option, Some, None, refl, arith}
use Rattle.rl_base.specs.declared.operator.BinaryOperator.{BinaryOperator}
use Rattle.rl_base.specs.declared.operator.UpdateOperator.{UpdateOperator}
use Rattle.rl_base.specs.declared.row.Row.TheVariants as row
use Rattle.rl_base.specs.declared.type_kind.TypeKind.{TypeKind}
use Rattle.rl_base.specs.declared.type_kind.TypeKind.TheVariants as types
use Rattle.rl_base.specs.declared.variable_kind.VariableKind.{VariableKind}
use Rattle.rl_base.specs.declared.variable_kind.VariableKind.TheVariants as kinds
use Rattle.rl_base.specs.Diagnostics.{diagnostic_at}
use Rattle.rl_builder.specs.Builder.{completed_by, ended_by, new_block, recorded, reserved}
use Rattle.rl_builder.specs.Temporaries.{temporary, with_value}
use Rattle.rl_hir.specs.declared.function.BlockKind.{BlockKind}
use Rattle.rl_hir.specs.declared.instruction.InstructionValue.TheVariants as values
use Rattle.rl_hir.specs.declared.instruction.PrimitiveValue.TheVariants as primitives
use Rattle.rl_hir.specs.declared.terminal.ReturnVariant.{ReturnVariant}
use Rattle.rl_hir.specs.declared.terminal.Terminal.{Terminal}
use Rattle.rl_lowered.proofs.Common.{Diagnostic, InstructionValue, Names, Place, Span, State, SymbolId}
use Rattle.rl_lowered.proofs.ItemBlocks.{blocks_found}
use Rattle.rl_lowered.specs.Forms.{MemberKey, load_of, store_of, typed}
use Rattle.rl_lowered.specs.Items.{variable_at}
use Rattle.rl_lowered.specs.Lowered.{assigned_to, declaring, member_assigned}
use Rattle.rl_lowered.specs.Lowered.{member_computed, member_loaded, member_one, member_stored, member_updated, name_computed}
use Rattle.rl_lowered.specs.Lowered.{name_reloaded, name_stored}
use Rattle.rl_lowered.specs.Named.{IsFound, found}
use Rattle.rl_promises.specs.Rows.{refusal}
use Rattle.rl_runs.proofs.BlockIds.{free_fresh, free_then, ids_counted, ids_ended, ids_then}
use Rattle.rl_runs.proofs.Moves.{contained_before, extends_completed, extends_reserved, extends_then}
use Rattle.rl_runs.proofs.Naming.{named_ended, named_none, named_then}
use Rattle.rl_runs.proofs.Points.{settle_returned}
use Rattle.rl_runs.proofs.Preserving.{blocks_recorded, blocks_refl}
use Rattle.rl_runs.proofs.Preserving.{blocks_then, blocks_value}
use Rattle.rl_runs.proofs.Types.{blocks_typed}
use Rattle.rl_runs.proofs.Used.{below_or, ended_there, ends_more, looped_ended, notes_back, straight_ended, straight_then}
use Rattle.rl_runs.specs.Blocks.{AreUsed, IsLedTo, PreservesBlocks, StraightBelow, StraightSince}
use Rattle.rl_runs.specs.Facts.{Extends}
use Rattle.rl_runs.specs.Moves.{return_of}

-- A value that is returned, behind which a block goes on that was reserved before.
module _ (s t : State) (span : Option Span) (variant : ReturnVariant) (place : Place) (kind : BlockKind)
    (b : PreservesBlocks (reserved s) t) where
  abbrev n : ℕ
  n = s.env.next_block

  abbrev end : Terminal
  end = return_of span variant place

  abbrev last : State
  last = completed_by t end (new_block n kind)

  ends : Extends t last
  ends = extends_completed t end (new_block n kind) (λ none. refl)

  all_used : AreUsed s last
  all_used id above below = elim (below_or id (n + 1)) [
    | inl one ↦ (let same : n ≡ id = omega (arith, above, one) in inl same)
    | inr more ↦ inr (ended_there t end (new_block n kind) id (b.used id more below))
  ]

  last_straight : StraightSince t last
  last_straight = straight_ended t end (new_block n kind) (λ id never. never)

  below_reserved : StraightBelow s → StraightBelow (reserved s)
  below_reserved below id m = (let small : id < n = below id m in omega (arith, small))

  pub blocks_value_returned : PreservesBlocks s last
  blocks_value_returned = record {
    extends = extends_then (extends_reserved s) (extends_then b.extends ends);
    ids = ids_ended t end (new_block n kind)
        (ids_then (ids_counted s.completed s.current.id.0 n (n + 1) (omega arith)) b.ids) (inr (omega arith))
        (λ c. free_then n b.ids (free_fresh s.completed s.current.id.0 n (n + 1) n c (omega arith) (omega arith)));
    used = all_used;
    named =
        named_ended s t end (new_block n kind)
        (named_then s (reserved s) t (omega arith) b.extends.blocks (λ id to. inr to) (λ one there. inl there) b.named)
        (λ id is. absurd (named_none id is));
    ended = λ all. ends_more t.completed (ended_by t.current end) refl (b.ended all);
    straight =
        straight_then s (reserved s) last (omega arith) b.extends.blocks (λ id m. inl m)
        (straight_then (reserved s) t last b.extends.blocks (omega arith) b.straight last_straight);
    settle = λ c cover own below jumps old behind. settle_returned t span variant place n kind c cover
        (b.settle c (contained_before ends cover)
        (notes_back c s (reserved s) t last own (omega arith) (omega arith) last_straight) (below_reserved below) jumps old);
    looped = λ c cover entry old.
        looped_ended (IsLedTo c entry) t end (new_block n kind) (λ led. tt) (b.looped c (contained_before ends cover) entry old);
  }

-- A value behind a look-up, or behind a diagnostic; the type of a cast, the keyword of a declaration, and an update of a property.

pub blocks_found_value : (names : Names) (s : State) (symbol : SymbolId) (at : Span) (identifier : ℕ) (v : InstructionValue)
    (span : Option Span) → IsFound names s symbol at identifier → PreservesBlocks s (with_value (found names s symbol at) v span)
blocks_found_value names s symbol at identifier v span f =
    blocks_then s (found names s symbol at) _ (blocks_found names s symbol at identifier f) (blocks_value (found names s symbol at) v span)

pub blocks_noted_value : (s : State) (d : Diagnostic) (v : InstructionValue) (span : Option Span)
    → PreservesBlocks s (with_value (recorded s d) v span)
blocks_noted_value s d v span = blocks_then s (recorded s d) _ (blocks_recorded s d) (blocks_value (recorded s d) v span)

pub blocks_cast : (s : State) (k : TypeKind) → PreservesBlocks s (typed s k)
blocks_cast s types.Array = blocks_refl s
blocks_cast s types.Primitive = blocks_refl s
blocks_cast s types.Other = blocks_typed s

pub blocks_declaring : (s : State) (k : VariableKind) (at : Span) → PreservesBlocks s (declaring s k at)
blocks_declaring s kinds.Var at = blocks_recorded s (refusal row.F39 at)
blocks_declaring s _ at = blocks_refl s

pub blocks_member : (t : State) (object : Place) (key : MemberKey) (operator : UpdateOperator) (there : Span)
    → PreservesBlocks t (member_stored t object key operator there)
blocks_member t object key operator there =
    let loaded : State = member_loaded t object key there in
    let one : State = member_one t object key there in
    let updated : State = member_updated t object key operator there in
    blocks_then t loaded _ (blocks_value t (load_of object key) (Some there))
    (blocks_then loaded one _ (blocks_value loaded (values.Primitive (primitives.Number 1)) None)
    (blocks_then one updated _ (blocks_value one _ (Some there))
    (blocks_value updated (store_of object key (temporary one (Some there))) (Some there))))

-- A constant that was looked up is refused.
pub blocks_constant : (names : Names) (s : State) (symbol : SymbolId) (there span : Span) (identifier : ℕ)
    → IsFound names s symbol there identifier
    → PreservesBlocks s
    (with_value (recorded (found names s symbol there) (diagnostic_at row.F6 (names.name symbol.0) there))
    (values.Primitive primitives.Undefined) (Some span))
blocks_constant names s symbol there span identifier f =
    let first : State = found names s symbol there in
    blocks_then s first _ (blocks_found names s symbol there identifier f)
    (blocks_noted_value first (diagnostic_at row.F6 (names.name symbol.0) there) (values.Primitive primitives.Undefined) (Some span))

-- Compound assignments, behind their right part.

pub blocks_reloaded : (names : Names) (u : State) (operator : BinaryOperator) (q p : Place) (at there : Span) (symbol : SymbolId)
    (identifier : ℕ) → IsFound names (name_computed u operator q p at) symbol there identifier
    → PreservesBlocks u (name_reloaded names u operator q p at there symbol identifier)
blocks_reloaded names u operator q p at there symbol identifier f =
    let computed : State = name_computed u operator q p at in
    let stored : State = name_stored names u operator q p at there symbol identifier in
    blocks_then u computed _ (blocks_value u (values.BinaryExpression operator q p) (Some at))
    (blocks_then computed stored _
    (blocks_found_value names computed symbol there identifier (assigned_to identifier there (temporary u (Some at))) (Some at) f)
    (blocks_value stored (values.LoadLocal (variable_at identifier there)) (Some at)))

pub blocks_assigned : (t u : State) (object : Place) (key : MemberKey) (operator : BinaryOperator) (p : Place) (there : Span)
    → PreservesBlocks u (member_assigned t u object key operator p there)
blocks_assigned t u object key operator p there =
    let computed : State = member_computed t u operator p there in
    blocks_then u computed _ (blocks_value u (values.BinaryExpression operator (temporary t (Some there)) p) (Some there))
    (blocks_value computed (store_of object key (temporary u (Some there))) (Some there))
