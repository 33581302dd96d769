-- The lowering of expressions, patterns, parameters and declarations keeps the steps of loops apart from the blocks at which none may
-- stand.
use Rattle.std.proofs.Common.{◌≡◌, ℕ, ◌+◌, Bool, true, false, List, Option, Some, None, refl, arith}
use Rattle.rl_base.specs.declared.operator.BinaryOperator.{BinaryOperator}
use Rattle.rl_base.specs.declared.operator.UpdateOperator.{UpdateOperator}
use Rattle.rl_base.specs.declared.row.Row.TheVariants as row
use Rattle.rl_base.specs.declared.type_kind.TypeKind.{TypeKind}
use Rattle.rl_base.specs.declared.type_kind.TypeKind.TheVariants as types
use Rattle.rl_base.specs.declared.variable_kind.VariableKind.{VariableKind}
use Rattle.rl_base.specs.declared.variable_kind.VariableKind.TheVariants as declared
use Rattle.rl_base.specs.Diagnostics.{diagnostic_at}
use Rattle.rl_builder.specs.Builder.{new_block, pushed, recorded, reserved, with_temporary, with_type}
use Rattle.rl_builder.specs.Temporaries.{temporary, with_value}
use Rattle.rl_frames.specs.Frames.{LogicalParts, SequenceParts, TernaryParts, aside_of}
use Rattle.rl_frames.specs.Frames.{logical_at, logical_righted, sequence_at}
use Rattle.rl_frames.specs.Frames.{ternary_alternated, ternary_aside, ternary_at, ternary_consequent, ternary_parted}
use Rattle.rl_frames.specs.Parts.{loads, logical_begun, logical_entered, logical_left, logical_place}
use Rattle.rl_frames.specs.Parts.{logical_reserved, sequence_begun, sequence_reserved, ternary_begun, ternary_reserved}
use Rattle.rl_hir.specs.declared.function.BlockKind.TheVariants as blocks
use Rattle.rl_hir.specs.declared.function.Param.{Param}
use Rattle.rl_hir.specs.declared.instruction.InstructionKind.{InstructionKind}
use Rattle.rl_hir.specs.declared.instruction.InstructionKind.TheVariants as variables
use Rattle.rl_hir.specs.declared.instruction.InstructionValue.TheVariants as values
use Rattle.rl_hir.specs.declared.instruction.PlaceOrSpread.{PlaceOrSpread}
use Rattle.rl_hir.specs.declared.instruction.PrimitiveValue.TheVariants as primitives
use Rattle.rl_hir.specs.declared.terminal.GotoVariant.TheVariants as gotos
use Rattle.rl_hir.specs.declared.terminal.ReturnVariant.TheVariants as returns
use Rattle.rl_hir.specs.declared.terminal.TerminalKind.TheVariants as kinds
use Rattle.rl_lowered.proofs.Common.{BlockId, Diagnostic, InstructionValue, Names, Piece, Pieces, Place, Span, State, SymbolId, Syntax}
use Rattle.rl_lowered.proofs.StepMoves.{apart_ended, apart_hole, apart_link, apart_next, apart_noted, apart_pushed}
use Rattle.rl_lowered.proofs.ItemBlocks.{ahead_stays, bound_stays, stays_met, taken_stays}
use Rattle.rl_lowered.proofs.StepMoves.{apart_default, apart_refl, apart_stays}
use Rattle.rl_lowered.proofs.StepMoves.{apart_same, apart_stored, apart_then, apart_value, is_step}
use Rattle.rl_lowered.specs.Forms.{Front, IsForm, MemberKey, call_of, delete_of, load_of, store_of, tested_front, typed}
use Rattle.rl_lowered.specs.Forms as forms
use Rattle.rl_lowered.specs.Items.{Later, caught, destructured, found_again, met, promoted, variable_at}
use Rattle.rl_lowered.specs.Lowered.{Lowered, LoweredDeclarators, LoweredHead}
use Rattle.rl_lowered.specs.Lowered.{LoweredFront, LoweredLast, LoweredLink, LoweredParts, LoweredSpine}
use Rattle.rl_lowered.specs.Lowered.{LoweredTest, private_met}
use Rattle.rl_lowered.specs.Lowered.{assigned_to, declaring, member_assigned}
use Rattle.rl_lowered.specs.Lowered.{member_computed, member_loaded, member_one, member_stored, member_updated, name_computed}
use Rattle.rl_lowered.specs.Lowered.{name_reloaded, name_stored, update_of, value_span}
use Rattle.rl_lowered.specs.Lowered.{LoweredBound, LoweredLater, LoweredMoved, LoweredParams, LoweredPattern, LoweredTarget}
use Rattle.rl_lowered.specs.Lowered as lowered
use Rattle.rl_lowered.specs.Named.{found}
use Rattle.rl_lowered.specs.Steps.{KeepsStepsApart}
use Rattle.rl_optional_frames.specs.Frames.{default_at, default_ended, link_at, link_objected}
use Rattle.rl_promises.specs.Moved.{type_name}
use Rattle.rl_promises.specs.Rows.{refusal, row_of_head}
use Rattle.rl_runs.specs.Moves.{branch, ends_by, goto, last_hole, return_of, returned_from, stored_in}
use Rattle.rl_syntax.specs.declared.word.Word.{Word}
use Rattle.rl_syntax.specs.Syntax.{span_of}

-- Values that are no steps.

load_still : (object : Place) (key : MemberKey) → is_step (load_of object key) ≡ false
load_still object (forms.Fixed key) = refl
load_still object (forms.Computed key) = refl

store_still : (object : Place) (key : MemberKey) (value : Place) → is_step (store_of object key value) ≡ false
store_still object (forms.Fixed key) value = refl
store_still object (forms.Computed key) value = refl

delete_still : (object : Place) (key : MemberKey) → is_step (delete_of object key) ≡ false
delete_still object (forms.Fixed key) = refl
delete_still object (forms.Computed key) = refl

update_still : (prefix : Bool) (operator : UpdateOperator) (variable : Place) → is_step (update_of prefix operator variable) ≡ false
update_still true operator variable = refl
update_still false operator variable = refl

form_still : {w : Word} {fields parts : Pieces} {pieces : List Piece} {v : InstructionValue} → IsForm w fields parts pieces v
    → is_step v ≡ false
form_still (forms.Load {object} {key} is) = load_still object key
form_still (forms.Delete operator {object} {key} is inside member) = delete_still object key
form_still _ = refl

call_still : (front : Front) (given : List PlaceOrSpread) → is_step (call_of front given) ≡ false
call_still (forms.Alone p) given = refl
call_still (forms.Lent receiver function) given = refl

-- A look-up, a diagnostic, the type of a cast, the keyword of a declaration, and a value behind some of these.

apart_found : (names : Names) (s : State) (symbol : SymbolId) (at : Span) → KeepsStepsApart s (found names s symbol at)
apart_found names s symbol at = apart_same s (found names s symbol at) refl refl refl (omega arith)

pub apart_found_value : (names : Names) (s : State) (symbol : SymbolId) (at : Span) (v : InstructionValue) (span : Option Span)
    → is_step v ≡ false → KeepsStepsApart s (with_value (found names s symbol at) v span)
apart_found_value names s symbol at v span still =
    apart_then s (found names s symbol at) _ (apart_found names s symbol at) (apart_value (found names s symbol at) v span still)

apart_noted_value : (s : State) (d : Diagnostic) (v : InstructionValue) (span : Option Span) → is_step v ≡ false
    → KeepsStepsApart s (with_value (recorded s d) v span)
apart_noted_value s d v span still = apart_then s (recorded s d) _ (apart_noted s d) (apart_value (recorded s d) v span still)

apart_undefined : (s : State) (d : Diagnostic) (at : Span)
    → KeepsStepsApart s (with_value (recorded s d) (values.Primitive primitives.Undefined) (Some at))
apart_undefined s d at = apart_noted_value s d (values.Primitive primitives.Undefined) (Some at) refl

apart_typed : (s : State) (k : TypeKind) → KeepsStepsApart s (typed s k)
apart_typed s types.Array = apart_refl s
apart_typed s types.Primitive = apart_refl s
apart_typed s types.Other = apart_same s (with_type s) refl refl refl (omega arith)

pub apart_declaring : (s : State) (k : VariableKind) (at : Span) → KeepsStepsApart s (declaring s k at)
apart_declaring s declared.Var at = apart_noted s (refusal row.F39 at)
apart_declaring s _ at = apart_refl s

apart_member : (t : State) (object : Place) (key : MemberKey) (operator : UpdateOperator) (there : Span)
    → KeepsStepsApart t (member_stored t object key operator there)
apart_member t object key operator there =
    let loaded : State = member_loaded t object key there in
    let one : State = member_one t object key there in
    let updated : State = member_updated t object key operator there in
    let kept : Place = temporary one (Some there) in
    apart_then t loaded _ (apart_value t (load_of object key) (Some there) (load_still object key))
    (apart_then loaded one _ (apart_value loaded (values.Primitive (primitives.Number 1)) None refl)
    (apart_then one updated _ (apart_value one _ (Some there) refl)
    (apart_value updated (store_of object key kept) (Some there) (store_still object key kept))))

-- A constant that was looked up is refused.
apart_constant : (names : Names) (s : State) (symbol : SymbolId) (there span : Span)
    → KeepsStepsApart s
    (with_value (recorded (found names s symbol there) (diagnostic_at row.F6 (names.name symbol.0) there))
    (values.Primitive primitives.Undefined) (Some span))
apart_constant names s symbol there span =
    let first : State = found names s symbol there in
    apart_then s first _ (apart_found names s symbol there)
    (apart_undefined first (diagnostic_at row.F6 (names.name symbol.0) there) span)

-- Compound assignments, behind their right part.

apart_reloaded : (names : Names) (u : State) (operator : BinaryOperator) (q p : Place) (at there : Span) (symbol : SymbolId)
    (identifier : ℕ) → KeepsStepsApart u (name_reloaded names u operator q p at there symbol identifier)
apart_reloaded names u operator q p at there symbol identifier =
    let computed : State = name_computed u operator q p at in
    let stored : State = name_stored names u operator q p at there symbol identifier in
    apart_then u computed _ (apart_value u (values.BinaryExpression operator q p) (Some at) refl)
    (apart_then computed stored _
    (apart_found_value names computed symbol there (assigned_to identifier there (temporary u (Some at))) (Some at) refl)
    (apart_value stored (values.LoadLocal (variable_at identifier there)) (Some at) refl))

apart_assigned : (t u : State) (object : Place) (key : MemberKey) (operator : BinaryOperator) (p : Place) (there : Span)
    → KeepsStepsApart u (member_assigned t u object key operator p there)
apart_assigned t u object key operator p there =
    let computed : State = member_computed t u operator p there in
    let kept : Place = temporary u (Some there) in
    apart_then u computed _ (apart_value u (values.BinaryExpression operator (temporary t (Some there)) p) (Some there) refl)
    (apart_value computed (store_of object key kept) (Some there) (store_still object key kept))

apart_loaded : (s : State) (place value : Place) (span : Span) → KeepsStepsApart s (pushed s (loads place value span))
apart_loaded s place value span = apart_pushed s (loads place value span) (λ reads. reads.step)

pub apart_returned : (s : State) (span : Option Span) (place : Place)
    → KeepsStepsApart s (returned_from s span returns.Explicit place blocks.Block)
apart_returned s span place =
    apart_then s (reserved s) _ (apart_same s (reserved s) refl refl refl (omega arith))
    (apart_ended (reserved s) (return_of span returns.Explicit place) (new_block s.env.next_block blocks.Block) refl refl)

mutual
  pub expression_steps : {names : Names} {e : Syntax} {s t : State} {p : Place} → Lowered names e s t p → KeepsStepsApart s t
  expression_steps (lowered.Literal at w fields p s is) = apart_value s (values.Primitive p) (Some at.span) refl
  expression_steps (lowered.Refused at w fields r s is) = apart_undefined s (refusal r at.span) at.span
  expression_steps (lowered.RefusedBefore at w fields parts r pieces s t is l) =
      let noted : State = recorded s (refusal r at.span) in
      apart_then s noted _ (apart_noted s (refusal r at.span))
      (apart_then noted t _ (all_steps l) (apart_value t (values.Primitive primitives.Undefined) (Some at.span) refl))
  expression_steps (lowered.RefusedBehind at object name s t p l) =
      apart_then s t _ (expression_steps l) (apart_undefined t (refusal row.F3 at.span) at.span)
  expression_steps (lowered.Private at w fields e s t p is l) = expression_steps l
  expression_steps {names} (lowered.Variable at name symbol identifier s is f) =
      apart_found_value names s symbol at.span _ (Some at.span) refl
  expression_steps {names} (lowered.UpdatedVariable at there name symbol identifier operator prefix s is mutable f g) =
      let first : State = found names s symbol there.span in
      apart_then s first _ (apart_found names s symbol there.span)
      (apart_found_value names first symbol there.span _ (Some at.span)
      (update_still prefix operator (record { identifier = record { 0 = identifier }; span = Some there.span })))
  expression_steps {names} (lowered.UpdatedConstant at there name symbol identifier operator prefix s is constant f) =
      apart_constant names s symbol there.span at.span
  expression_steps (lowered.UpdatedMember at there w fields parts pieces object key operator prefix s t is l) =
      apart_then s t _ (all_steps l) (apart_member t object key operator there.span)
  expression_steps {names} (lowered.AssignedVariable at there name right symbol identifier s t p is mutable l f) =
      apart_then s t _ (expression_steps l)
      (apart_found_value names t symbol there.span (assigned_to identifier there.span p) (Some there.span) refl)
  expression_steps {names} (lowered.AssignedConstant at there name right symbol identifier s t p is constant l f) =
      apart_then s t _ (expression_steps l) (apart_constant names t symbol there.span there.span)
  expression_steps (lowered.AssignedGlobal at there name right binding s t p is l) =
      apart_then s t _ (expression_steps l) (apart_value t (values.StoreGlobal name p) (Some there.span) refl)
  expression_steps (lowered.AssignedMember at there w fields parts pieces object key right s t u p is l ls) =
      apart_then s t _ (expression_steps l)
      (apart_then t u _ (all_steps ls) (apart_value u (store_of object key p) (Some there.span) (store_still object key p)))
  expression_steps (lowered.AssignedPrivate at there object name right s t u p q l m) =
      apart_then s t _ (expression_steps l)
      (apart_then t u _ (expression_steps m) (apart_undefined u (refusal row.F5 at.span) at.span))
  expression_steps (lowered.AssignedPattern at there w fields right s t u p q is l d) =
      apart_then s t u (expression_steps l) (target_steps d)
  expression_steps {names}
      (lowered.CompoundVariable at there name operator applied right symbol identifier s t u q p is mutable applies l m f) =
      apart_then s t _ (expression_steps l)
      (apart_then t u _ (expression_steps m) (apart_reloaded names u applied q p at.span there.span symbol identifier))
  expression_steps {names}
      (lowered.CompoundConstant at there name operator applied right symbol identifier s t u q p is constant applies l m f) =
      apart_then s t _ (expression_steps l) (apart_then t u _ (expression_steps m) (apart_constant names u symbol there.span at.span))
  expression_steps (lowered.CompoundGlobal at there name operator applied right binding s t u q p is applies l m) =
      let computed : State = name_computed u applied q p at.span in
      apart_then s t _ (expression_steps l)
      (apart_then t u _ (expression_steps m)
      (apart_then u computed _ (apart_value u (values.BinaryExpression applied q p) (Some at.span) refl)
      (apart_value computed (values.StoreGlobal name (temporary u (Some at.span))) (Some at.span) refl)))
  expression_steps (lowered.CompoundMember at there w fields parts pieces object key operator applied right s t u p is applies ls l) =
      let loaded : State = with_value t (load_of object key) (Some there.span) in
      apart_then s t _ (all_steps ls)
      (apart_then t loaded _ (apart_value t (load_of object key) (Some there.span) (load_still object key))
      (apart_then loaded u _ (expression_steps l) (apart_assigned t u object key applied p there.span)))
  expression_steps (lowered.CompoundPrivate at there fields operator applied right s t u q p applies l m) =
      apart_then s t _ (expression_steps l)
      (apart_then t u _ (expression_steps m) (apart_value u (values.Primitive primitives.Undefined) (Some at.span) refl))
  expression_steps (lowered.Method at there w fields parts es pieces given_pieces object key given s t u is l given_are m) =
      let loaded : State = with_value t (load_of object key) (Some there.span) in
      apart_then s t _ (all_steps l)
      (apart_then t loaded _ (apart_value t (load_of object key) (Some there.span) (load_still object key))
      (apart_then loaded u _ (all_steps given_are) (apart_value u _ (Some at.span) refl)))
  expression_steps (lowered.Cast at there w fields e type k s t p is annotated l) =
      apart_then s t _ (expression_steps l)
      (apart_then t (typed t k) _ (apart_typed t k) (apart_value (typed t k) _ (Some at.span) refl))
  expression_steps (lowered.Global at name binding s is plain) = apart_value s (values.LoadGlobal binding) (Some at.span) refl
  expression_steps (lowered.RefusedGlobal at name binding s is refused) =
      apart_noted_value s (refusal row.F2 at.span) (values.LoadGlobal binding) (Some at.span) refl
  expression_steps (lowered.Same at w fields e s t p is l) = expression_steps l
  expression_steps (lowered.Asked at w fields parts pieces v s t is l) =
      apart_then s t _ (all_steps l) (apart_value t v (Some at.span) (form_still is))
  expression_steps (lowered.Object at es pieces properties s t is l) =
      apart_then s t _ (all_steps l) (apart_value t (values.ObjectExpression properties) (Some at.span) refl)
  expression_steps (lowered.Logical at operator left right s s2 s3 l r second first) =
      let f : LogicalParts = logical_at s at.span operator (span_of left) in
      let numbered : State = reserved (logical_reserved s at.span (span_of left)) in
      let entry : State = logical_entered s at.span (span_of left) in
      let stored : State = stored_in entry (logical_place s at.span) (logical_left s (span_of left)) (span_of left) in
      let begun : State = logical_begun s at.span (span_of left) in
      let valued : State = stored_in s2 f.place r (value_span r right) in
      let gone : State = last_hole valued f.behind.id.0 gotos.Break (value_span r right) (aside_of f).0 in
      let righted : State = logical_righted f s2 r (value_span r right) in
      let moved : State = pushed s3 (loads f.left l f.span) in
      let inside : KeepsStepsApart entry valued =
      apart_then entry stored _ (apart_stored entry (logical_place s at.span) (logical_left s (span_of left)) (span_of left))
      (apart_then stored begun _ (apart_next stored s.env.next_block gotos.Break (span_of left) blocks.Value)
      (apart_then begun s2 _ (expression_steps second) (apart_stored s2 f.place r (value_span r right)))) in
      apart_then s numbered _ (apart_same s numbered refl refl refl (omega arith))
      (apart_then numbered gone _
      (apart_hole numbered valued (new_block (s.env.next_block + 1 + 1) blocks.Value) s.scopes valued.scopes valued.handlers
      (goto s.env.next_block gotos.Break (value_span r right)) refl refl inside)
      (apart_then gone righted _
      (apart_ended gone (ends_by (kinds.Logical f.operator (aside_of f).1.id f.behind.id) (Some f.span)) (aside_of f).1 refl refl)
      (apart_then righted s3 _ (expression_steps first)
      (apart_then s3 moved _ (apart_loaded s3 f.left l f.span)
      (apart_ended moved (branch f.left f.consequent f.alternate f.behind.id.0 f.span) f.behind refl refl)))))
  expression_steps (lowered.Conditional at test consequent alternate s s2 s3 s4 c a p second third first) =
      let f : TernaryParts = ternary_at s at.span in
      let g : TernaryParts = ternary_parted f s2 c (span_of consequent) in
      let numbered : State = reserved (ternary_reserved s at.span) in
      let begun : State = ternary_begun s at.span in
      let valued : State = stored_in s2 f.place c f.span in
      let between : State = ternary_consequent f s2 c (span_of consequent) in
      let other : State = stored_in s3 g.place a g.span in
      let gone : State = last_hole other g.behind.id.0 gotos.Break (span_of alternate) (ternary_aside g).0 in
      let behind : State = ternary_alternated g s3 a (span_of alternate) in
      let inside : KeepsStepsApart begun other =
      apart_then begun s2 _ (expression_steps second)
      (apart_then s2 valued _ (apart_stored s2 f.place c f.span)
      (apart_then valued between _ (apart_next valued f.behind.id.0 gotos.Break (span_of consequent) blocks.Value)
      (apart_then between s3 _ (expression_steps third) (apart_stored s3 g.place a g.span)))) in
      apart_then s numbered _ (apart_same s numbered refl refl refl (omega arith))
      (apart_then numbered gone _
      (apart_hole numbered other (new_block (s.env.next_block + 1 + 1) blocks.Value) s.scopes other.scopes other.handlers
      (goto s.env.next_block gotos.Break (span_of alternate)) refl refl inside)
      (apart_then gone behind _
      (apart_ended gone (ends_by (kinds.Ternary (ternary_aside g).1.id g.behind.id) (Some g.span)) (ternary_aside g).1 refl refl)
      (apart_then behind s4 _ (expression_steps first)
      (apart_ended s4 (branch p g.consequent g.alternate g.behind.id.0 g.span) g.behind refl refl))))
  expression_steps (lowered.Sequence at e es s s2 p l) =
      let f : SequenceParts = sequence_at s at.span in
      let numbered : State = reserved (sequence_reserved s at.span) in
      let begun : State = sequence_begun s at.span in
      let stored : State = stored_in s2 f.place p at.span in
      let gone : State = last_hole stored f.behind.id.0 gotos.Break at.span f.outer in
      let inside : KeepsStepsApart begun stored = apart_then begun s2 _ (last_steps l) (apart_stored s2 f.place p at.span) in
      apart_then s numbered _ (apart_same s numbered refl refl refl (omega arith))
      (apart_then numbered gone _
      (apart_hole numbered stored (new_block (s.env.next_block + 1) blocks.Sequence) s.scopes stored.scopes stored.handlers
      (goto s.env.next_block gotos.Break at.span) refl refl inside)
      (apart_ended gone (ends_by (kinds.Sequence (record { 0 = f.block }) f.behind.id) (Some f.span)) f.behind refl refl))
  expression_steps (lowered.Chain at e s t p l) = spine_steps l

  pub moved_steps : {names : Names} {e : Syntax} {s t : State} {p : Place} → LoweredMoved names e s t p → KeepsStepsApart s t
  moved_steps (lowered.Stays e s t p is d) = expression_steps d
  moved_steps (lowered.Moved at w fields s t p is d) =
      let noted : Diagnostic = diagnostic_at row.F29 (type_name w) at.span in
      apart_then s (recorded s noted) t (apart_noted s noted) (expression_steps d)

  pub target_steps : {names : Names} {at : Span} {value : Place} {e : Syntax} {s t : State} {p : Place}
      → LoweredTarget names at value e s t p → KeepsStepsApart s t
  target_steps {names} {at} {value} (lowered.TargetVariable there name symbol identifier s is mutable f) =
      apart_found_value names s symbol there.span (assigned_to identifier at value) (Some at) refl
  target_steps {names} (lowered.TargetConstant there name symbol identifier s is constant f) =
      let first : State = found names s symbol there.span in
      apart_then s first _ (apart_found names s symbol there.span)
      (apart_noted first (diagnostic_at row.F6 (names.name symbol.0) there.span))
  target_steps {at} {value} (lowered.TargetGlobal there name binding s is) = apart_value s (values.StoreGlobal name value) (Some at) refl
  target_steps {at} {value} (lowered.TargetMember there w fields parts pieces object key s t is l) =
      apart_then s t _ (all_steps l) (apart_value t (store_of object key value) (Some at) (store_still object key value))
  target_steps (lowered.TargetLost there w fields s is) = apart_noted s (refusal (row_of_head w) there.span)
  target_steps {value} (lowered.TargetDefaulted there w fields target default s t u q p is d dt) =
      apart_then s (default_ended (default_at s there.span value) t q) u
      (apart_default s t q value there.span (moved_steps d)) (target_steps dt)
  target_steps {at} {value}
      (lowered.TargetPattern there w of_object forced items rest pattern pieces later s t u v is ahead taken are l) =
      let apart : InstructionValue = destructured variables.Reassign pattern value in
      apart_then s t v (apart_stays (ahead_stays ahead))
      (apart_then t u v (apart_stays (taken_stays taken))
      (apart_then u (with_value u apart (Some at)) v (apart_value u apart (Some at) refl) (later_steps l)))

  pub later_steps : {names : Names} {later : List Later} {s t : State} → LoweredLater names later s t → KeepsStepsApart s t
  later_steps (lowered.NoLater s) = apart_refl s
  later_steps (lowered.NextLater value part later s t u p d ds) = apart_then s t u (target_steps d) (later_steps ds)

  pub spine_steps : {names : Names} {below : Bool} {e : Syntax} {s t : State} {p : Place} → LoweredSpine names below e s t p
      → KeepsStepsApart s t
  spine_steps (lowered.Outermost e s t front p l) = link_steps l
  spine_steps (lowered.Asserted at e s t p l) = spine_steps l
  spine_steps (lowered.Broken at e s t p is l) =
      apart_then s (recorded s (refusal row.F44 at.span)) t (apart_noted s (refusal row.F44 at.span)) (spine_steps l)

  pub link_steps : {names : Names} {alternate : Option BlockId} {e : Syntax} {s t : State} {front : Front} {p : Place}
      → LoweredLink names alternate e s t front p → KeepsStepsApart s t
  link_steps (lowered.LinkedProperty alternate at w optional object rest parts pieces o key s t u is l more) =
      let opened : State = link_objected (link_at s at.span optional alternate) t o in
      apart_link alternate s t (with_value u (load_of o key) (Some at.span)) at.span optional o (temporary u (Some at.span)) (front_steps l)
      (apart_then opened u _ (all_steps more) (apart_value u (load_of o key) (Some at.span) (load_still o key)))
  link_steps (lowered.LinkedPrivate alternate at optional object name o s t l) =
      let opened : State = link_objected (link_at s at.span optional alternate) t o in
      apart_link alternate s t (with_value (private_met opened at.span) (values.Primitive primitives.Undefined) (Some at.span)) at.span
      optional o (temporary (private_met opened at.span) (Some at.span)) (front_steps l)
      (apart_undefined opened (refusal row.F3 at.span) at.span)
  link_steps (lowered.LinkedCall alternate at optional part es pieces given front s t u l more gathers) =
      let opened : State = link_objected (link_at s at.span optional alternate) t (tested_front front) in
      apart_link alternate s t (with_value u (call_of front given) (Some at.span)) at.span optional (tested_front front)
      (temporary u (Some at.span)) (front_steps l)
      (apart_then opened u _ (all_steps more) (apart_value u (call_of front given) (Some at.span) (call_still front given)))

  pub front_steps : {names : Names} {alternate : BlockId} {is_called : Bool} {e : Syntax} {s t : State} {front : Front}
      → LoweredFront names alternate is_called e s t front → KeepsStepsApart s t
  front_steps (lowered.FrontLink alternate is_called e s t front p l) = link_steps l
  front_steps (lowered.FrontBroken alternate is_called at e s t p l) = spine_steps l
  front_steps (lowered.FrontMethod alternate at w fields parts pieces object key s t is l) =
      apart_then s t _ (all_steps l) (apart_value t (load_of object key) (Some at.span) (load_still object key))
  front_steps (lowered.FrontAlone alternate is_called e s t p is l) = expression_steps l

  pub all_steps : {names : Names} {of_object : Bool} {es : Pieces} {s t : State} {pieces : List Piece}
      → LoweredParts names of_object es s t pieces → KeepsStepsApart s t
  all_steps (lowered.NoPart s) = apart_refl s
  all_steps (lowered.NextPart e es s t u p pieces l more) = apart_then s t u (expression_steps l) (all_steps more)
  all_steps (lowered.NextSpread at e es s t u p pieces l more) = apart_then s t u (expression_steps l) (all_steps more)
  all_steps (lowered.NextHole at es s u pieces more) = all_steps more
  all_steps (lowered.NextProperty at computed key e text es s t u p pieces is l more) =
      apart_then s t u (expression_steps l) (all_steps more)
  all_steps (lowered.NextComputed at key e es s r t u p q pieces is k l more) =
      apart_then s r u (expression_steps k) (apart_then r t u (expression_steps l) (all_steps more))
  all_steps (lowered.NextFraction at there e text es s t u p pieces is l more) =
      let noted : State = recorded s (refusal row.F43 there.span) in
      apart_then s noted u (apart_noted s (refusal row.F43 there.span)) (apart_then noted t u (expression_steps l) (all_steps more))
  all_steps (lowered.NextUnknown at computed key e es s u pieces is more) =
      apart_then s (recorded s (refusal row.F9 (span_of key))) u (apart_noted s (refusal row.F9 (span_of key))) (all_steps more)

  pub last_steps : {names : Names} {es : Pieces} {s t : State} {p : Place} → LoweredLast names es s t p → KeepsStepsApart s t
  last_steps (lowered.LastPart e s t p l) = expression_steps l
  last_steps (lowered.EarlierPart e next es s t u p q l more) = apart_then s t u (expression_steps l) (last_steps more)

mutual
  pub pattern_steps : {names : Names} {again : Bool} {k : InstructionKind} {at : Span} {value : Place} {e : Syntax} {s t : State}
      {p : Place} → LoweredPattern names again k at value e s t p → KeepsStepsApart s t
  pattern_steps {names} {again} {k} {at} {value} (lowered.BoundName bind name type symbol identifier s annotated is f) =
      let here : State = met again names s symbol identifier bind.span in
      apart_then s here _ (apart_stays (stays_met again names s symbol bind.span identifier f))
      (apart_value here (values.StoreLocal k (variable_at identifier at) value) (Some at) refl)
  pattern_steps {value} (lowered.BoundDefault there pattern default s t u q p d dt) =
      apart_then s (default_ended (default_at s there.span value) t q) u
      (apart_default s t q value there.span (moved_steps d)) (pattern_steps dt)
  pattern_steps {k} {at} {value} (lowered.BoundPattern there w of_object items rest pattern pieces later s u v is bound are l) =
      let apart : InstructionValue = destructured k pattern value in
      apart_then s u v (apart_stays (bound_stays bound))
      (apart_then u (with_value u apart (Some at)) v (apart_value u apart (Some at) refl) (bound_steps l))

  pub bound_steps : {names : Names} {again : Bool} {k : InstructionKind} {later : List Later} {s t : State}
      → LoweredBound names again k later s t → KeepsStepsApart s t
  bound_steps (lowered.NothingBound s) = apart_refl s
  bound_steps (lowered.NextBound value part later s t u p d ds) = apart_then s t u (pattern_steps d) (bound_steps ds)

pub params_steps : {names : Names} {es : Pieces} {rest : Syntax} {s t : State} {ps : List Param}
    → LoweredParams names es rest s t ps → KeepsStepsApart s t
params_steps (lowered.NoParam s) = apart_refl s
params_steps (lowered.RestParam there pattern s t p d) =
    let made : State = with_temporary s (Some there.span) in
    apart_then s made t (apart_same s made refl refl refl (omega arith)) (pattern_steps d)
params_steps {names} (lowered.PlainParam there bind name type rest more symbol identifier s t ps annotated is f ds) =
    apart_then s _ t (apart_found names s symbol bind.span) (params_steps ds)
params_steps (lowered.PatternParam there pattern rest more s t u p ps is d ds) =
    apart_then s (promoted s there.span) u (apart_same s (promoted s there.span) refl refl refl (omega arith))
    (apart_then _ t u (pattern_steps d) (params_steps ds))
params_steps (lowered.DefaultParam there pattern default rest more s t u v q p ps d dt ds) =
    let x : State = promoted s there.span in
    let ended : State = default_ended (default_at x there.span (caught s there.span)) t q in
    apart_then s x v (apart_same s x refl refl refl (omega arith))
    (apart_then x ended v (apart_default x t q (caught s there.span) there.span (moved_steps d))
    (apart_then ended u v (pattern_steps dt) (params_steps ds)))

pub declarators_steps : {names : Names} {at : Span} {k : InstructionKind} {es : Pieces} {s t : State}
    → LoweredDeclarators names at k es s t → KeepsStepsApart s t
declarators_steps (lowered.NoDeclarator s) = apart_refl s
declarators_steps {names} (lowered.NextDeclared there bind name type more symbol identifier s u annotated is f l) =
    apart_then s _ u (apart_found_value names s symbol bind.span _ (Some bind.span) refl) (declarators_steps l)
declarators_steps {names} {at} (lowered.NextInitialized there bind name type init more symbol identifier s t u p annotated is l f ls) =
    apart_then s t u (expression_steps l)
    (apart_then t _ u (apart_found_value names t symbol bind.span _ (Some at) refl) (declarators_steps ls))
declarators_steps (lowered.NextTakenApart there pattern init more s t u v p q is present d dp ds) =
    apart_then s t v (expression_steps d) (apart_then t u v (pattern_steps dp) (declarators_steps ds))
declarators_steps {at} (lowered.NextUntaken there pattern more s u v q is dp ds) =
    let made : State = with_value s (values.Primitive primitives.Undefined) (Some at) in
    apart_then s made v (apart_value s (values.Primitive primitives.Undefined) (Some at) refl)
    (apart_then made u v (pattern_steps dp) (declarators_steps ds))

pub test_steps : {names : Names} {at : Span} {e : Syntax} {s t : State} {p : Place} → LoweredTest names at e s t p → KeepsStepsApart s t
test_steps {at} (lowered.NoTest s) =
    apart_noted_value s (refusal row.F32 at) (values.Primitive (primitives.Boolean true)) (Some at) refl
test_steps (lowered.Tested e s t p l) = expression_steps l

pub head_steps : {names : Names} {value : Place} {e : Syntax} {s t : State} {p : Place} → LoweredHead names value e s t p
    → KeepsStepsApart s t
head_steps {names} (lowered.Declared at there bind kind name type symbol identifier s annotated is f) =
    let again : State = found_again names s symbol identifier bind.span in
    apart_then s again _ (apart_same s again refl refl refl (omega arith)) (apart_value again _ (Some at.span) refl)
head_steps {names} (lowered.Reassigned at name symbol identifier s is mutable f) =
    apart_found_value names s symbol at.span _ (Some at.span) refl
head_steps {names} (lowered.ReassignedConstant at name symbol identifier s is constant f) =
    let first : State = found names s symbol at.span in
    apart_then s first _ (apart_found names s symbol at.span)
    (apart_noted first (diagnostic_at row.F6 (names.name symbol.0) at.span))
head_steps {value} (lowered.StoredGlobal at name binding s is) = apart_value s (values.StoreGlobal name value) (Some at.span) refl
head_steps {value} (lowered.StoredMember at w fields parts pieces object key s t is l) =
    apart_then s t _ (all_steps l) (apart_value t (store_of object key value) (Some at.span) (store_still object key value))
head_steps (lowered.DeclaredPattern at there kind pattern s t p is d) = pattern_steps d
head_steps (lowered.StoredPattern at w fields s t p is d) = target_steps d
head_steps (lowered.Lost at w fields s is) = apart_noted s (refusal (row_of_head w) at.span)
