-- The instructions that blocks list since the lowering of a part began: each that was made is listed once more.
use Rattle.std.proofs.Common.{◌≡◌, ℕ, ◌+◌, Bool, true, false, List, Option, Some, None, refl}
use Rattle.rl_base.specs.declared.ids.InstructionId.{InstructionId}
use Rattle.rl_base.specs.declared.operator.BinaryOperator.{BinaryOperator}
use Rattle.rl_base.specs.declared.operator.UpdateOperator.{UpdateOperator}
use Rattle.rl_base.specs.declared.row.Row.TheVariants as row
use Rattle.rl_base.specs.declared.type_kind.TypeKind.{TypeKind}
use Rattle.rl_base.specs.declared.type_kind.TypeKind.TheVariants as types
use Rattle.rl_base.specs.declared.variable_kind.VariableKind.{VariableKind}
use Rattle.rl_base.specs.declared.variable_kind.VariableKind.TheVariants as declared
use Rattle.rl_base.specs.Diagnostics.{diagnostic_at}
use Rattle.rl_builder.specs.Builder.{completed_by, innermost, new_block, recorded, reserved, with_temporary}
use Rattle.rl_builder.specs.Builder.{with_type}
use Rattle.rl_builder.specs.Dropped.{is_function_expression}
use Rattle.rl_builder.specs.Temporaries.{temporary, with_value}
use Rattle.rl_frames.specs.Frames.{ForParts, IfParts, LabelParts, LogicalParts, TernaryParts, WhileParts, do_while_bodied, for_after_init}
use Rattle.rl_frames.specs.Frames.{for_after_update, for_again, for_aside, for_at, for_bodied, for_inited, for_updated, if_after_consequent}
use Rattle.rl_frames.specs.Frames.{if_alternate, if_at, if_consequent, if_shut, label_at, logical_after, logical_at, logical_righted}
use Rattle.rl_frames.specs.Frames.{sequence_at, ternary_after, ternary_alternated, ternary_at, ternary_consequent, ternary_ended}
use Rattle.rl_frames.specs.Frames.{ternary_parted, while_aside, while_at, while_bodied}
use Rattle.rl_frames.specs.Parts.{for_begun, for_end, forin_begun, forin_end, forof_begun, forof_end, if_begun, label_begun, logical_begun}
use Rattle.rl_frames.specs.Parts.{sequence_begun, ternary_begun, try_begun, try_end, try_handler, while_begun}
use Rattle.rl_frames.specs.Rounds.{ForOfParts, RoundsParts, forin_at, forin_headed, forin_righted, forof_at, forof_bodied, forof_headed}
use Rattle.rl_frames.specs.Rounds.{forof_iterator, forof_righted, forof_shut, forof_tested, rounds_bodied, rounds_shut}
use Rattle.rl_frames.specs.SwitchParts.{case_begun, case_ended, fall_of, switch_begun, switch_end}
use Rattle.rl_hir.specs.declared.function.BlockKind.TheVariants as blocks
use Rattle.rl_hir.specs.declared.function.Param.{Param}
use Rattle.rl_hir.specs.declared.instruction.InstructionKind.{InstructionKind}
use Rattle.rl_hir.specs.declared.instruction.InstructionKind.TheVariants as variables
use Rattle.rl_hir.specs.declared.instruction.InstructionValue.TheVariants as values
use Rattle.rl_hir.specs.declared.instruction.PlaceOrSpread.{PlaceOrSpread}
use Rattle.rl_hir.specs.declared.instruction.PrimitiveValue.TheVariants as primitives
use Rattle.rl_hir.specs.declared.terminal.Case.{Case}
use Rattle.rl_hir.specs.declared.terminal.GotoVariant.TheVariants as gotos
use Rattle.rl_hir.specs.declared.terminal.ReturnVariant.TheVariants as returns
use Rattle.rl_hir.specs.declared.terminal.Terminal.{Terminal}
use Rattle.rl_hir.specs.declared.terminal.TerminalKind.TheVariants as kinds
use Rattle.rl_lowered.proofs.Catches.{catch_declared, declares_caught, stores_caught}
use Rattle.rl_lowered.proofs.Common.{BlockId, Diagnostic, InstructionValue, Names, Piece, Pieces, Place, Span, State, SymbolId, Syntax}
use Rattle.rl_lowered.proofs.ListingMoves.{beside, lists_beside, lists_completed, lists_entered, lists_for_opened, lists_if_ended}
use Rattle.rl_lowered.proofs.ItemBlocks.{ahead_stays, bound_stays, stays_met, taken_stays}
use Rattle.rl_lowered.proofs.ListingMoves.{lists_default, lists_link, lists_stays}
use Rattle.rl_lowered.proofs.ListingMoves.{lists_last, lists_logical_begun, lists_logical_ended, lists_logical_righted, lists_next}
use Rattle.rl_lowered.proofs.ListingMoves.{lists_refl, lists_same, lists_scope_ended, lists_scope_left, lists_sequence_ended}
use Rattle.rl_lowered.proofs.ListingMoves.{lists_ternary_alternated, lists_ternary_consequent, lists_then, lists_value}
use Rattle.rl_lowered.specs.Forms.{Front, IsForm, MemberKey, call_of, delete_of, load_of, store_of, tested_front, typed}
use Rattle.rl_lowered.specs.Forms as forms
use Rattle.rl_lowered.specs.Listing.{ListsSince}
use Rattle.rl_lowered.specs.Items.{Later, caught, destructured, found_again, met, promoted, variable_at}
use Rattle.rl_lowered.specs.Lowered.{Lowered, LoweredBody, LoweredCaseTest, LoweredCases, LoweredDeclarators, LoweredHead, LoweredInit}
use Rattle.rl_lowered.specs.Lowered.{LoweredFront, LoweredLast, LoweredLink, LoweredLoop, LoweredParts, LoweredSpine, LoweredStatement}
use Rattle.rl_lowered.specs.Lowered.{LoweredStatements, LoweredTest, assigned_to, private_met}
use Rattle.rl_lowered.specs.Lowered.{catch_begun, catch_bound, declaring, member_assigned, member_computed}
use Rattle.rl_lowered.specs.Lowered.{member_loaded, member_one, member_stored, member_updated, name_computed, name_reloaded, name_stored}
use Rattle.rl_lowered.specs.Lowered.{part_span, throwing, throwing_under, update_of, value_span}
use Rattle.rl_lowered.specs.Lowered.{LoweredBound, LoweredLater, LoweredMoved, LoweredParams, LoweredPattern, LoweredTarget}
use Rattle.rl_lowered.specs.Lowered as lowered
use Rattle.rl_lowered.specs.Named.{found}
use Rattle.rl_model.specs.Actions.{Label}
use Rattle.rl_optional_frames.specs.Frames.{default_at, default_ended, link_at, link_objected}
use Rattle.rl_promises.specs.Moved.{type_name}
use Rattle.rl_promises.specs.Rows.{refusal, row_of_head}
use Rattle.rl_runs.specs.Moves.{branch, ends_by, goto, last_hole, next_hole, return_of, returned_from, threw_from, without_handler}
use Rattle.rl_syntax.specs.declared.word.Word.{Word}
use Rattle.rl_syntax.specs.Syntax.{span_of}

-- No value that an expression leaves makes a function.

load_plain : (object : Place) (key : MemberKey) → is_function_expression (load_of object key) ≡ false
load_plain object (forms.Fixed key) = refl
load_plain object (forms.Computed key) = refl

store_plain : (object : Place) (key : MemberKey) (value : Place) → is_function_expression (store_of object key value) ≡ false
store_plain object (forms.Fixed key) value = refl
store_plain object (forms.Computed key) value = refl

delete_plain : (object : Place) (key : MemberKey) → is_function_expression (delete_of object key) ≡ false
delete_plain object (forms.Fixed key) = refl
delete_plain object (forms.Computed key) = refl

update_plain : (prefix : Bool) (operator : UpdateOperator) (variable : Place)
    → is_function_expression (update_of prefix operator variable) ≡ false
update_plain true operator variable = refl
update_plain false operator variable = refl

form_plain : {w : Word} {fields parts : Pieces} {pieces : List Piece} {v : InstructionValue} → IsForm w fields parts pieces v
    → is_function_expression v ≡ false
form_plain (forms.Load {object} {key} is) = load_plain object key
form_plain (forms.Delete operator {object} {key} is inside member) = delete_plain object key
form_plain _ = refl

call_plain : (front : Front) (given : List PlaceOrSpread) → is_function_expression (call_of front given) ≡ false
call_plain (forms.Alone p) given = refl
call_plain (forms.Lent receiver function) given = refl

-- A look-up, a diagnostic, the type of a cast, the keyword of a declaration, and a value behind some of these.

lists_found : (names : Names) (s : State) (symbol : SymbolId) (at : Span) → ListsSince s (found names s symbol at)
lists_found names s symbol at = lists_same s (found names s symbol at) refl

lists_found_value : (names : Names) (s : State) (symbol : SymbolId) (at : Span) (v : InstructionValue) (span : Option Span)
    → is_function_expression v ≡ false → ListsSince s (with_value (found names s symbol at) v span)
lists_found_value names s symbol at v span plain =
    lists_then s (found names s symbol at) _ (lists_found names s symbol at) (lists_value (found names s symbol at) v span plain)

lists_noted : (s : State) (d : Diagnostic) → ListsSince s (recorded s d)
lists_noted s d = lists_same s (recorded s d) refl

lists_noted_value : (s : State) (d : Diagnostic) (v : InstructionValue) (span : Option Span) → is_function_expression v ≡ false
    → ListsSince s (with_value (recorded s d) v span)
lists_noted_value s d v span plain = lists_then s (recorded s d) _ (lists_noted s d) (lists_value (recorded s d) v span plain)

lists_undefined : (s : State) (d : Diagnostic) (at : Span)
    → ListsSince s (with_value (recorded s d) (values.Primitive primitives.Undefined) (Some at))
lists_undefined s d at = lists_noted_value s d (values.Primitive primitives.Undefined) (Some at) refl

lists_typed : (s : State) (k : TypeKind) → ListsSince s (typed s k)
lists_typed s types.Array = lists_refl s
lists_typed s types.Primitive = lists_refl s
lists_typed s types.Other = lists_same s (with_type s) refl

lists_declaring : (s : State) (k : VariableKind) (at : Span) → ListsSince s (declaring s k at)
lists_declaring s declared.Var at = lists_noted s (refusal row.F39 at)
lists_declaring s _ at = lists_refl s

lists_member : (t : State) (object : Place) (key : MemberKey) (operator : UpdateOperator) (there : Span)
    → ListsSince t (member_stored t object key operator there)
lists_member t object key operator there =
    let loaded : State = member_loaded t object key there in
    let one : State = member_one t object key there in
    let updated : State = member_updated t object key operator there in
    let kept : Place = temporary one (Some there) in
    lists_then t loaded _ (lists_value t (load_of object key) (Some there) (load_plain object key))
    (lists_then loaded one _ (lists_value loaded (values.Primitive (primitives.Number 1)) None refl)
    (lists_then one updated _ (lists_value one _ (Some there) refl)
    (lists_value updated (store_of object key kept) (Some there) (store_plain object key kept))))

-- A constant that was looked up is refused.
lists_constant : (names : Names) (s : State) (symbol : SymbolId) (there span : Span)
    → ListsSince s
    (with_value (recorded (found names s symbol there) (diagnostic_at row.F6 (names.name symbol.0) there))
    (values.Primitive primitives.Undefined) (Some span))
lists_constant names s symbol there span =
    let first : State = found names s symbol there in
    lists_then s first _ (lists_found names s symbol there)
    (lists_undefined first (diagnostic_at row.F6 (names.name symbol.0) there) span)

-- Compound assignments, behind their right part.

lists_reloaded : (names : Names) (u : State) (operator : BinaryOperator) (q p : Place) (at there : Span) (symbol : SymbolId)
    (identifier : ℕ) → ListsSince u (name_reloaded names u operator q p at there symbol identifier)
lists_reloaded names u operator q p at there symbol identifier =
    let computed : State = name_computed u operator q p at in
    let stored : State = name_stored names u operator q p at there symbol identifier in
    lists_then u computed _ (lists_value u (values.BinaryExpression operator q p) (Some at) refl)
    (lists_then computed stored _
    (lists_found_value names computed symbol there (assigned_to identifier there (temporary u (Some at))) (Some at) refl)
    (lists_value stored (values.LoadLocal (variable_at identifier there)) (Some at) refl))

lists_assigned : (t u : State) (object : Place) (key : MemberKey) (operator : BinaryOperator) (p : Place) (there : Span)
    → ListsSince u (member_assigned t u object key operator p there)
lists_assigned t u object key operator p there =
    let computed : State = member_computed t u operator p there in
    let kept : Place = temporary u (Some there) in
    lists_then u computed _ (lists_value u (values.BinaryExpression operator (temporary t (Some there)) p) (Some there) refl)
    (lists_value computed (store_of object key kept) (Some there) (store_plain object key kept))

mutual
  pub expression_lists : {names : Names} {e : Syntax} {s t : State} {p : Place} → Lowered names e s t p → ListsSince s t
  expression_lists (lowered.Literal at w fields p s is) = lists_value s (values.Primitive p) (Some at.span) refl
  expression_lists (lowered.Refused at w fields r s is) = lists_undefined s (refusal r at.span) at.span
  expression_lists (lowered.RefusedBefore at w fields parts r pieces s t is l) =
      let noted : State = recorded s (refusal r at.span) in
      lists_then s noted _ (lists_noted s (refusal r at.span))
      (lists_then noted t _ (all_lists l) (lists_value t (values.Primitive primitives.Undefined) (Some at.span) refl))
  expression_lists (lowered.RefusedBehind at object name s t p l) =
      lists_then s t _ (expression_lists l) (lists_undefined t (refusal row.F3 at.span) at.span)
  expression_lists (lowered.Private at w fields e s t p is l) = expression_lists l
  expression_lists {names} (lowered.Variable at name symbol identifier s is f) =
      lists_found_value names s symbol at.span _ (Some at.span) refl
  expression_lists {names} (lowered.UpdatedVariable at there name symbol identifier operator prefix s is mutable f g) =
      let first : State = found names s symbol there.span in
      lists_then s first _ (lists_found names s symbol there.span)
      (lists_found_value names first symbol there.span _ (Some at.span)
      (update_plain prefix operator (record { identifier = record { 0 = identifier }; span = Some there.span })))
  expression_lists {names} (lowered.UpdatedConstant at there name symbol identifier operator prefix s is constant f) =
      lists_constant names s symbol there.span at.span
  expression_lists (lowered.UpdatedMember at there w fields parts pieces object key operator prefix s t is l) =
      lists_then s t _ (all_lists l) (lists_member t object key operator there.span)
  expression_lists {names} (lowered.AssignedVariable at there name right symbol identifier s t p is mutable l f) =
      lists_then s t _ (expression_lists l)
      (lists_found_value names t symbol there.span (assigned_to identifier there.span p) (Some there.span) refl)
  expression_lists {names} (lowered.AssignedConstant at there name right symbol identifier s t p is constant l f) =
      lists_then s t _ (expression_lists l) (lists_constant names t symbol there.span there.span)
  expression_lists (lowered.AssignedGlobal at there name right binding s t p is l) =
      lists_then s t _ (expression_lists l) (lists_value t (values.StoreGlobal name p) (Some there.span) refl)
  expression_lists (lowered.AssignedMember at there w fields parts pieces object key right s t u p is l ls) =
      lists_then s t _ (expression_lists l)
      (lists_then t u _ (all_lists ls) (lists_value u (store_of object key p) (Some there.span) (store_plain object key p)))
  expression_lists (lowered.AssignedPrivate at there object name right s t u p q l m) =
      lists_then s t _ (expression_lists l)
      (lists_then t u _ (expression_lists m) (lists_undefined u (refusal row.F5 at.span) at.span))
  expression_lists (lowered.AssignedPattern at there w fields right s t u p q is l d) =
      lists_then s t u (expression_lists l) (target_lists d)
  expression_lists {names}
      (lowered.CompoundVariable at there name operator applied right symbol identifier s t u q p is mutable applies l m f) =
      lists_then s t _ (expression_lists l)
      (lists_then t u _ (expression_lists m) (lists_reloaded names u applied q p at.span there.span symbol identifier))
  expression_lists {names}
      (lowered.CompoundConstant at there name operator applied right symbol identifier s t u q p is constant applies l m f) =
      lists_then s t _ (expression_lists l) (lists_then t u _ (expression_lists m) (lists_constant names u symbol there.span at.span))
  expression_lists (lowered.CompoundGlobal at there name operator applied right binding s t u q p is applies l m) =
      let computed : State = name_computed u applied q p at.span in
      lists_then s t _ (expression_lists l)
      (lists_then t u _ (expression_lists m)
      (lists_then u computed _ (lists_value u (values.BinaryExpression applied q p) (Some at.span) refl)
      (lists_value computed (values.StoreGlobal name (temporary u (Some at.span))) (Some at.span) refl)))
  expression_lists (lowered.CompoundMember at there w fields parts pieces object key operator applied right s t u p is applies ls l) =
      let loaded : State = with_value t (load_of object key) (Some there.span) in
      lists_then s t _ (all_lists ls)
      (lists_then t loaded _ (lists_value t (load_of object key) (Some there.span) (load_plain object key))
      (lists_then loaded u _ (expression_lists l) (lists_assigned t u object key applied p there.span)))
  expression_lists (lowered.CompoundPrivate at there fields operator applied right s t u q p applies l m) =
      lists_then s t _ (expression_lists l)
      (lists_then t u _ (expression_lists m) (lists_value u (values.Primitive primitives.Undefined) (Some at.span) refl))
  expression_lists (lowered.Method at there w fields parts es pieces given_pieces object key given s t u is l given_are m) =
      let loaded : State = with_value t (load_of object key) (Some there.span) in
      lists_then s t _ (all_lists l)
      (lists_then t loaded _ (lists_value t (load_of object key) (Some there.span) (load_plain object key))
      (lists_then loaded u _ (all_lists given_are) (lists_value u _ (Some at.span) refl)))
  expression_lists (lowered.Cast at there w fields e type k s t p is annotated l) =
      lists_then s t _ (expression_lists l)
      (lists_then t (typed t k) _ (lists_typed t k) (lists_value (typed t k) _ (Some at.span) refl))
  expression_lists (lowered.Global at name binding s is plain) = lists_value s (values.LoadGlobal binding) (Some at.span) refl
  expression_lists (lowered.RefusedGlobal at name binding s is refused) =
      lists_noted_value s (refusal row.F2 at.span) (values.LoadGlobal binding) (Some at.span) refl
  expression_lists (lowered.Same at w fields e s t p is l) = expression_lists l
  expression_lists (lowered.Asked at w fields parts pieces v s t is l) =
      lists_then s t (with_value t v (Some at.span)) (all_lists l) (lists_value t v (Some at.span) (form_plain is))
  expression_lists (lowered.Object at es pieces properties s t is l) =
      lists_then s t _ (all_lists l) (lists_value t (values.ObjectExpression properties) (Some at.span) refl)
  expression_lists (lowered.Logical at operator left right s s2 s3 l r second first) =
      let outer : List InstructionId = s.current.instructions in
      let f : LogicalParts = logical_at s at.span operator (span_of left) in
      let begun : State = logical_begun s at.span (span_of left) in
      let righted : State = logical_righted f s2 r (value_span r right) in
      lists_then s (beside outer begun) _ (lists_logical_begun s at.span (span_of left))
      (lists_then (beside outer begun) (beside outer s2) _ (lists_beside outer begun s2 (expression_lists second))
      (lists_then (beside outer s2) righted _ (lists_logical_righted f s2 r (value_span r right) refl)
      (lists_then righted s3 _ (expression_lists first) (lists_logical_ended (logical_after f) s3 l refl))))
  expression_lists (lowered.Conditional at test consequent alternate s s2 s3 s4 c a p second third first) =
      let outer : List InstructionId = s.current.instructions in
      let f : TernaryParts = ternary_at s at.span in
      let parted : TernaryParts = ternary_parted f s2 c (span_of consequent) in
      let begun : State = ternary_begun s at.span in
      let between : State = ternary_consequent f s2 c (span_of consequent) in
      let behind : State = ternary_alternated parted s3 a (span_of alternate) in
      let ended : State = ternary_ended (ternary_after parted) s4 p in
      lists_then s (beside outer begun) ended (lists_entered s begun refl refl refl)
      (lists_then (beside outer begun) (beside outer s2) ended (lists_beside outer begun s2 (expression_lists second))
      (lists_then (beside outer s2) (beside outer between) ended
      (lists_beside outer s2 between (lists_ternary_consequent f s2 c (span_of consequent)))
      (lists_then (beside outer between) (beside outer s3) ended (lists_beside outer between s3 (expression_lists third))
      (lists_then (beside outer s3) behind ended (lists_ternary_alternated parted s3 a (span_of alternate) refl)
      (lists_then behind s4 ended (expression_lists first)
      (lists_completed s4 (branch p parted.consequent parted.alternate parted.behind.id.0 parted.span) parted.behind refl))))))
  expression_lists (lowered.Sequence at e es s s2 p l) =
      let outer : List InstructionId = s.current.instructions in
      let begun : State = sequence_begun s at.span in
      lists_then s (beside outer begun) _ (lists_entered s begun refl refl refl)
      (lists_then (beside outer begun) (beside outer s2) _ (lists_beside outer begun s2 (last_lists l))
      (lists_sequence_ended (sequence_at s at.span) s2 p at.span refl))
  expression_lists (lowered.Chain at e s t p l) = spine_lists l

  pub moved_lists : {names : Names} {e : Syntax} {s t : State} {p : Place} → LoweredMoved names e s t p → ListsSince s t
  moved_lists (lowered.Stays e s t p is d) = expression_lists d
  moved_lists (lowered.Moved at w fields s t p is d) =
      let noted : Diagnostic = diagnostic_at row.F29 (type_name w) at.span in
      lists_then s (recorded s noted) t (lists_noted s noted) (expression_lists d)

  pub target_lists : {names : Names} {at : Span} {value : Place} {e : Syntax} {s t : State} {p : Place}
      → LoweredTarget names at value e s t p → ListsSince s t
  target_lists {names} {at} {value} (lowered.TargetVariable there name symbol identifier s is mutable f) =
      lists_found_value names s symbol there.span (assigned_to identifier at value) (Some at) refl
  target_lists {names} (lowered.TargetConstant there name symbol identifier s is constant f) =
      let first : State = found names s symbol there.span in
      lists_then s first _ (lists_found names s symbol there.span)
      (lists_noted first (diagnostic_at row.F6 (names.name symbol.0) there.span))
  target_lists {at} {value} (lowered.TargetGlobal there name binding s is) = lists_value s (values.StoreGlobal name value) (Some at) refl
  target_lists {at} {value} (lowered.TargetMember there w fields parts pieces object key s t is l) =
      lists_then s t _ (all_lists l) (lists_value t (store_of object key value) (Some at) (store_plain object key value))
  target_lists (lowered.TargetLost there w fields s is) = lists_noted s (refusal (row_of_head w) there.span)
  target_lists {value} (lowered.TargetDefaulted there w fields target default s t u q p is d dt) =
      lists_then s (default_ended (default_at s there.span value) t q) u
      (lists_default s t q value there.span (moved_lists d)) (target_lists dt)
  target_lists {at} {value}
      (lowered.TargetPattern there w of_object forced items rest pattern pieces later s t u v is ahead taken are l) =
      let apart : InstructionValue = destructured variables.Reassign pattern value in
      lists_then s t v (lists_stays (ahead_stays ahead))
      (lists_then t u v (lists_stays (taken_stays taken))
      (lists_then u (with_value u apart (Some at)) v (lists_value u apart (Some at) refl) (later_lists l)))

  pub later_lists : {names : Names} {later : List Later} {s t : State} → LoweredLater names later s t → ListsSince s t
  later_lists (lowered.NoLater s) = lists_refl s
  later_lists (lowered.NextLater value part later s t u p d ds) = lists_then s t u (target_lists d) (later_lists ds)

  pub spine_lists : {names : Names} {below : Bool} {e : Syntax} {s t : State} {p : Place} → LoweredSpine names below e s t p
      → ListsSince s t
  spine_lists (lowered.Outermost e s t front p l) = link_lists l
  spine_lists (lowered.Asserted at e s t p l) = spine_lists l
  spine_lists (lowered.Broken at e s t p is l) =
      lists_then s (recorded s (refusal row.F44 at.span)) t (lists_noted s (refusal row.F44 at.span)) (spine_lists l)

  pub link_lists : {names : Names} {alternate : Option BlockId} {e : Syntax} {s t : State} {front : Front} {p : Place}
      → LoweredLink names alternate e s t front p → ListsSince s t
  link_lists (lowered.LinkedProperty alternate at w optional object rest parts pieces o key s t u is l more) =
      let opened : State = link_objected (link_at s at.span optional alternate) t o in
      lists_link alternate s t (with_value u (load_of o key) (Some at.span)) at.span optional o (temporary u (Some at.span)) (front_lists l)
      (lists_then opened u _ (all_lists more) (lists_value u (load_of o key) (Some at.span) (load_plain o key)))
  link_lists (lowered.LinkedPrivate alternate at optional object name o s t l) =
      let opened : State = link_objected (link_at s at.span optional alternate) t o in
      lists_link alternate s t (with_value (private_met opened at.span) (values.Primitive primitives.Undefined) (Some at.span)) at.span
      optional o (temporary (private_met opened at.span) (Some at.span)) (front_lists l)
      (lists_undefined opened (refusal row.F3 at.span) at.span)
  link_lists (lowered.LinkedCall alternate at optional part es pieces given front s t u l more gathers) =
      let opened : State = link_objected (link_at s at.span optional alternate) t (tested_front front) in
      lists_link alternate s t (with_value u (call_of front given) (Some at.span)) at.span optional (tested_front front)
      (temporary u (Some at.span)) (front_lists l)
      (lists_then opened u _ (all_lists more) (lists_value u (call_of front given) (Some at.span) (call_plain front given)))

  pub front_lists : {names : Names} {alternate : BlockId} {is_called : Bool} {e : Syntax} {s t : State} {front : Front}
      → LoweredFront names alternate is_called e s t front → ListsSince s t
  front_lists (lowered.FrontLink alternate is_called e s t front p l) = link_lists l
  front_lists (lowered.FrontBroken alternate is_called at e s t p l) = spine_lists l
  front_lists (lowered.FrontMethod alternate at w fields parts pieces object key s t is l) =
      lists_then s t _ (all_lists l) (lists_value t (load_of object key) (Some at.span) (load_plain object key))
  front_lists (lowered.FrontAlone alternate is_called e s t p is l) = expression_lists l

  pub all_lists : {names : Names} {of_object : Bool} {es : Pieces} {s t : State} {pieces : List Piece}
      → LoweredParts names of_object es s t pieces → ListsSince s t
  all_lists (lowered.NoPart s) = lists_refl s
  all_lists (lowered.NextPart e es s t u p pieces l more) = lists_then s t u (expression_lists l) (all_lists more)
  all_lists (lowered.NextSpread at e es s t u p pieces l more) = lists_then s t u (expression_lists l) (all_lists more)
  all_lists (lowered.NextHole at es s u pieces more) = all_lists more
  all_lists (lowered.NextProperty at computed key e text es s t u p pieces is l more) =
      lists_then s t u (expression_lists l) (all_lists more)
  all_lists (lowered.NextComputed at key e es s r t u p q pieces is k l more) =
      lists_then s r u (expression_lists k) (lists_then r t u (expression_lists l) (all_lists more))
  all_lists (lowered.NextFraction at there e text es s t u p pieces is l more) =
      let noted : State = recorded s (refusal row.F43 there.span) in
      lists_then s noted u (lists_noted s (refusal row.F43 there.span)) (lists_then noted t u (expression_lists l) (all_lists more))
  all_lists (lowered.NextUnknown at computed key e es s u pieces is more) =
      lists_then s (recorded s (refusal row.F9 (span_of key))) u (lists_noted s (refusal row.F9 (span_of key))) (all_lists more)

  pub last_lists : {names : Names} {es : Pieces} {s t : State} {p : Place} → LoweredLast names es s t p
      → ListsSince s t
  last_lists (lowered.LastPart e s t p l) = expression_lists l
  last_lists (lowered.EarlierPart e next es s t u p q l more) = lists_then s t u (expression_lists l) (last_lists more)

mutual
  pub pattern_lists : {names : Names} {again : Bool} {k : InstructionKind} {at : Span} {value : Place} {e : Syntax} {s t : State}
      {p : Place} → LoweredPattern names again k at value e s t p → ListsSince s t
  pattern_lists {names} {again} {k} {at} {value} (lowered.BoundName bind name type symbol identifier s annotated is f) =
      let here : State = met again names s symbol identifier bind.span in
      lists_then s here _ (lists_stays (stays_met again names s symbol bind.span identifier f))
      (lists_value here (values.StoreLocal k (variable_at identifier at) value) (Some at) refl)
  pattern_lists {value} (lowered.BoundDefault there pattern default s t u q p d dt) =
      lists_then s (default_ended (default_at s there.span value) t q) u
      (lists_default s t q value there.span (moved_lists d)) (pattern_lists dt)
  pattern_lists {k} {at} {value} (lowered.BoundPattern there w of_object items rest pattern pieces later s u v is bound are l) =
      let apart : InstructionValue = destructured k pattern value in
      lists_then s u v (lists_stays (bound_stays bound))
      (lists_then u (with_value u apart (Some at)) v (lists_value u apart (Some at) refl) (bound_lists l))

  pub bound_lists : {names : Names} {again : Bool} {k : InstructionKind} {later : List Later} {s t : State}
      → LoweredBound names again k later s t → ListsSince s t
  bound_lists (lowered.NothingBound s) = lists_refl s
  bound_lists (lowered.NextBound value part later s t u p d ds) = lists_then s t u (pattern_lists d) (bound_lists ds)

pub params_lists : {names : Names} {es : Pieces} {rest : Syntax} {s t : State} {ps : List Param}
    → LoweredParams names es rest s t ps → ListsSince s t
params_lists (lowered.NoParam s) = lists_refl s
params_lists (lowered.RestParam there pattern s t p d) =
    let made : State = with_temporary s (Some there.span) in
    lists_then s made t (lists_same s made refl) (pattern_lists d)
params_lists {names} (lowered.PlainParam there bind name type rest more symbol identifier s t ps annotated is f ds) =
    lists_then s _ t (lists_found names s symbol bind.span) (params_lists ds)
params_lists (lowered.PatternParam there pattern rest more s t u p ps is d ds) =
    lists_then s (promoted s there.span) u (lists_same s (promoted s there.span) refl)
    (lists_then _ t u (pattern_lists d) (params_lists ds))
params_lists (lowered.DefaultParam there pattern default rest more s t u v q p ps d dt ds) =
    let x : State = promoted s there.span in
    let ended : State = default_ended (default_at x there.span (caught s there.span)) t q in
    lists_then s x v (lists_same s x refl)
    (lists_then x ended v (lists_default x t q (caught s there.span) there.span (moved_lists d))
    (lists_then ended u v (pattern_lists dt) (params_lists ds)))

declarators_lists : {names : Names} {at : Span} {k : InstructionKind} {es : Pieces} {s t : State}
    → LoweredDeclarators names at k es s t → ListsSince s t
declarators_lists (lowered.NoDeclarator s) = lists_refl s
declarators_lists {names} (lowered.NextDeclared there bind name type more symbol identifier s u annotated is f l) =
    lists_then s _ u (lists_found_value names s symbol bind.span _ (Some bind.span) refl) (declarators_lists l)
declarators_lists {names} {at} (lowered.NextInitialized there bind name type init more symbol identifier s t u p annotated is l f ls) =
    lists_then s t u (expression_lists l)
    (lists_then t _ u (lists_found_value names t symbol bind.span _ (Some at) refl) (declarators_lists ls))
declarators_lists (lowered.NextTakenApart there pattern init more s t u v p q is present d dp ds) =
    lists_then s t v (expression_lists d) (lists_then t u v (pattern_lists dp) (declarators_lists ds))
declarators_lists {at} (lowered.NextUntaken there pattern more s u v q is dp ds) =
    let made : State = with_value s (values.Primitive primitives.Undefined) (Some at) in
    lists_then s made v (lists_value s (values.Primitive primitives.Undefined) (Some at) refl)
    (lists_then made u v (pattern_lists dp) (declarators_lists ds))

lists_returned : (s : State) (span : Option Span) (place : Place) → ListsSince s (returned_from s span returns.Explicit place blocks.Block)
lists_returned s span place =
    lists_then s (reserved s) _ (lists_same s (reserved s) refl)
    (lists_completed (reserved s) (return_of span returns.Explicit place) (new_block s.env.next_block blocks.Block) refl)

test_lists : {names : Names} {at : Span} {e : Syntax} {s t : State} {p : Place} → LoweredTest names at e s t p → ListsSince s t
test_lists {at} (lowered.NoTest s) =
    lists_noted_value s (refusal row.F32 at) (values.Primitive (primitives.Boolean true)) (Some at) refl
test_lists (lowered.Tested e s t p l) = expression_lists l

case_test_lists : {names : Names} {e : Syntax} {s t : State} {p : Option Place} → LoweredCaseTest names e s t p → ListsSince s t
case_test_lists (lowered.NoCaseTest s) = lists_refl s
case_test_lists (lowered.CaseTested e s t p is l) = expression_lists l
case_test_lists (lowered.CaseMoved at w fields s t p is l) =
    let noted : Diagnostic = diagnostic_at row.F29 (type_name w) at.span in
    lists_then s (recorded s noted) t (lists_noted s noted) (expression_lists l)

-- A throw.

lists_throwing_under : (handler : Option BlockId) (s : State) (at : Span) → ListsSince s (throwing_under handler s at)
lists_throwing_under None s at = lists_refl s
lists_throwing_under (Some handler) s at = lists_noted s (refusal row.F30 at)

lists_throwing : (s : State) (at : Span) → ListsSince s (throwing s at)
lists_throwing s at = lists_throwing_under (innermost s.handlers) s at

lists_threw : (s : State) (span : Span) (place : Place) → ListsSince s (threw_from s span place blocks.Block)
lists_threw s span place =
    lists_then s (reserved s) _ (lists_same s (reserved s) refl)
    (lists_completed (reserved s) (ends_by (kinds.Throw place) (Some span)) (new_block s.env.next_block blocks.Block) refl)

-- A `try` statement, from in front of its handler's block.
lists_tried : (d s2 s3 : State) (behind : ℕ) (part other : Span) (end : Terminal) → ListsSince (try_begun d) s2
    → ListsSince (try_handler s2 behind d.env.next_block part) s3
    → ListsSince d (completed_by (last_hole (without_handler s3) behind gotos.Try other d.current) end (new_block behind blocks.Block))
lists_tried d s2 s3 behind part other end first second =
    let outer : List InstructionId = d.current.instructions in
    let next : State = next_hole s2 behind gotos.Break part blocks.Block in
    let handled : State = try_handler s2 behind d.env.next_block part in
    let left : State = without_handler s3 in
    let gone : State = last_hole left behind gotos.Try other d.current in
    lists_then d (beside outer (try_begun d)) _ (lists_entered d (try_begun d) refl refl refl)
    (lists_then (beside outer (try_begun d)) (beside outer s2) _ (lists_beside outer (try_begun d) s2 first)
    (lists_then (beside outer s2) (beside outer handled) _
    (lists_beside outer s2 handled
    (lists_then s2 next handled (lists_next s2 behind gotos.Break part blocks.Block) (lists_same next handled refl)))
    (lists_then (beside outer handled) (beside outer s3) _ (lists_beside outer handled s3 second)
    (lists_then (beside outer s3) (beside outer left) _ (lists_same (beside outer s3) (beside outer left) refl)
    (lists_then (beside outer left) gone _ (lists_last left behind gotos.Try other d.current)
    (lists_completed gone end (new_block behind blocks.Block) refl))))))

-- The head of a loop over keys or values.
head_lists : {names : Names} {value : Place} {e : Syntax} {s t : State} {p : Place} → LoweredHead names value e s t p → ListsSince s t
head_lists {names} (lowered.Declared at there bind kind name type symbol identifier s annotated is f) =
    let again : State = found_again names s symbol identifier bind.span in
    lists_then s again _ (lists_same s again refl) (lists_value again _ (Some at.span) refl)
head_lists {names} (lowered.Reassigned at name symbol identifier s is mutable f) =
    lists_found_value names s symbol at.span _ (Some at.span) refl
head_lists {names} (lowered.ReassignedConstant at name symbol identifier s is constant f) =
    let first : State = found names s symbol at.span in
    lists_then s first _ (lists_found names s symbol at.span)
    (lists_noted first (diagnostic_at row.F6 (names.name symbol.0) at.span))
head_lists {value} (lowered.StoredGlobal at name binding s is) = lists_value s (values.StoreGlobal name value) (Some at.span) refl
head_lists {value} (lowered.StoredMember at w fields parts pieces object key s t is l) =
    lists_then s t _ (all_lists l) (lists_value t (store_of object key value) (Some at.span) (store_plain object key value))
head_lists (lowered.DeclaredPattern at there kind pattern s t p is d) = pattern_lists d
head_lists (lowered.StoredPattern at w fields s t p is d) = target_lists d
head_lists (lowered.Lost at w fields s is) = lists_noted s (refusal (row_of_head w) at.span)

mutual
  pub statement_lists : {names : Names} {e : Syntax} {s t : State} → LoweredStatement names e s t → ListsSince s t
  statement_lists (lowered.Empty at s) = lists_refl s
  statement_lists (lowered.Expression at e s t p l) = expression_lists l
  statement_lists (lowered.Debugger at s) = lists_value s values.Debugger (Some at.span) refl
  statement_lists (lowered.Variables at k declarators s t l) =
      lists_then s (declaring s k at.span) t (lists_declaring s k at.span) (declarators_lists l)
  statement_lists (lowered.ReturnNothing at s) =
      let valued : State = with_value s (values.Primitive primitives.Undefined) None in
      lists_then s valued _ (lists_value s (values.Primitive primitives.Undefined) None refl)
      (lists_returned valued (Some at.span) (temporary s None))
  statement_lists (lowered.Return at e s t p l) = lists_then s t _ (expression_lists l) (lists_returned t (Some at.span) p)
  statement_lists (lowered.Block at statements s t l) = statements_lists l
  statement_lists (lowered.IfThen at test consequent s s2 s3 p second first) =
      let outer : List InstructionId = s.current.instructions in
      let f : IfParts = if_at s at.span false in
      let behind : State = if_consequent f s2 (span_of consequent) in
      lists_then s (beside outer (if_begun s)) _ (lists_entered s (if_begun s) refl refl refl)
      (lists_then (beside outer (if_begun s)) (beside outer s2) _ (lists_beside outer (if_begun s) s2 (statement_lists second))
      (lists_then (beside outer s2) behind _ (lists_last s2 f.behind.id.0 gotos.Break (span_of consequent) s.current)
      (lists_then behind s3 _ (expression_lists first) (lists_if_ended (if_after_consequent f s2) s3 p refl))))
  statement_lists (lowered.IfElse at test consequent alternate s s2 s3 s4 p second third first) =
      let outer : List InstructionId = s.current.instructions in
      let f : IfParts = if_at s at.span true in
      let parted : IfParts = if_after_consequent f s2 in
      let between : State = if_consequent f s2 (span_of consequent) in
      let behind : State = if_alternate parted s3 (span_of alternate) in
      lists_then s (beside outer (if_begun s)) _ (lists_entered s (if_begun s) refl refl refl)
      (lists_then (beside outer (if_begun s)) (beside outer s2) _ (lists_beside outer (if_begun s) s2 (statement_lists second))
      (lists_then (beside outer s2) (beside outer between) _
      (lists_beside outer s2 between (lists_next s2 f.behind.id.0 gotos.Break (span_of consequent) blocks.Block))
      (lists_then (beside outer between) (beside outer s3) _ (lists_beside outer between s3 (statement_lists third))
      (lists_then (beside outer s3) behind _ (lists_last s3 f.behind.id.0 gotos.Break (span_of alternate) s.current)
      (lists_then behind s4 _ (expression_lists first) (lists_if_ended (if_shut parted) s4 p refl))))))
  statement_lists (lowered.Unlabeled loop s t l) = loop_lists l
  statement_lists (lowered.LabeledLoop at label loop s t l) = loop_lists l
  statement_lists (lowered.Labeled at label body s s2 other l) =
      let outer : List InstructionId = s.current.instructions in
      let f : LabelParts = label_at s at.span in
      let begun : State = label_begun s label in
      lists_then s (beside outer begun) _ (lists_entered s begun refl refl refl)
      (lists_then (beside outer begun) (beside outer s2) _ (lists_beside outer begun s2 (statement_lists l))
      (lists_scope_ended s2 f.behind.id.0 gotos.Break (span_of body) s.current
      (ends_by (kinds.Label (record { 0 = f.block }) f.behind.id) (Some f.span)) f.behind refl))
  statement_lists (lowered.Break at label target s is) = lists_next s target.0 gotos.Break at.span blocks.Block
  statement_lists (lowered.Continue at label target s is) = lists_next s target.0 gotos.Continue at.span blocks.Block
  statement_lists (lowered.Throw at e s t p l) =
      let thrown : State = throwing t at.span in
      lists_then s t _ (expression_lists l) (lists_then t thrown _ (lists_throwing t at.span) (lists_threw thrown at.span p))
  statement_lists (lowered.Switch at value cases ks s t u p all l) =
      lists_then s (switch_begun s) _ (lists_same s (switch_begun s) refl)
      (lists_then (switch_begun s) t _ (cases_lists all)
      (lists_then t u _ (expression_lists l)
      (lists_completed u (switch_end s.env.next_block ks p at.span) (new_block s.env.next_block blocks.Block) refl)))
  statement_lists (lowered.TryPlain at there block body s s2 s3 first second) =
      lists_then s (reserved s) _ (lists_same s (reserved s) refl)
      (lists_tried (reserved s) s2 s3 s.env.next_block there.span (span_of block)
      (try_end s.env.next_block (reserved s).env.next_block s2.env.next_block None at.span) (statement_lists first)
      (statement_lists second))
  statement_lists {names} (lowered.TryBound at there bind name type block body symbol identifier s s2 s3 annotated is f first second) =
      let numbered : State = reserved (promoted s bind.span) in
      let declared : State = catch_declared s bind.span in
      let begun : State = catch_begun s bind.span in
      lists_then s numbered _ (lists_same s numbered refl)
      (lists_then numbered declared _ (lists_value numbered (declares_caught s bind.span) (Some bind.span) refl)
      (lists_tried declared s2 s3 s.env.next_block there.span (span_of block)
      (try_end s.env.next_block declared.env.next_block s2.env.next_block (Some (caught s bind.span)) at.span)
      (lists_then begun (catch_bound names s symbol identifier bind.span) s2
      (lists_found_value names begun symbol bind.span (stores_caught s identifier bind.span) (Some bind.span) refl) (statement_lists first))
      (statement_lists second)))
  statement_lists (lowered.Finalized at there block param body finalizer s t is l) =
      lists_then s (recorded s (refusal row.F35 at.span)) t (lists_noted s (refusal row.F35 at.span)) (statement_lists l)
  statement_lists (lowered.Uncaught at block finalizer s) = lists_noted s (refusal row.F34 at.span)
  statement_lists (lowered.With at fields s) = lists_noted s (refusal row.F36 at.span)

  cases_lists : {names : Names} {s : State} {es : Pieces} {ks : List Case} {t : State} → LoweredCases names s es ks t
      → ListsSince (switch_begun s) t
  cases_lists (lowered.NoCase s) = lists_refl (switch_begun s)
  cases_lists (lowered.NextCase at test statements cases ks s x y z p all l tested) =
      let outer : List InstructionId = x.current.instructions in
      let begun : State = case_begun x None s.env.next_block in
      let shut : State = case_ended y (fall_of s.env.next_block ks) x.current at.span in
      lists_then (switch_begun s) x z (cases_lists all)
      (lists_then x (beside outer begun) z (lists_entered x begun refl refl refl)
      (lists_then (beside outer begun) (beside outer y) z (lists_beside outer begun y (statements_lists l))
      (lists_then (beside outer y) shut z
      (lists_scope_left y (fall_of s.env.next_block ks) gotos.Break at.span x.current) (case_test_lists tested))))

  pub loop_lists : {names : Names} {own : Label} {e : Syntax} {s t : State} → LoweredLoop names own e s t → ListsSince s t
  loop_lists {own} (lowered.While at test body s s2 s3 p second first) =
      let outer : List InstructionId = s.current.instructions in
      let f : WhileParts = while_at s at.span in
      let begun : State = while_begun s own in
      let behind : State = while_bodied f s2 (span_of body) in
      lists_then s (beside outer begun) _ (lists_entered s begun refl refl refl)
      (lists_then (beside outer begun) (beside outer s2) _ (lists_beside outer begun s2 (statement_lists second))
      (lists_then (beside outer s2) behind _
      (lists_scope_ended s2 f.test gotos.Continue (span_of body) s.current
      (ends_by (kinds.While (record { 0 = f.test }) (record { 0 = f.body }) f.behind.id) (Some f.span)) (while_aside f).1 refl)
      (lists_then behind s3 _ (expression_lists first)
      (lists_completed s3 (branch p f.body f.behind.id.0 f.test f.span) f.behind refl))))
  loop_lists {own} (lowered.DoWhile at test body s s2 s3 p first second) =
      let outer : List InstructionId = s.current.instructions in
      let f : WhileParts = while_at s at.span in
      let begun : State = while_begun s own in
      let behind : State = do_while_bodied f s2 (span_of body) in
      lists_then s (beside outer begun) _ (lists_entered s begun refl refl refl)
      (lists_then (beside outer begun) (beside outer s2) _ (lists_beside outer begun s2 (statement_lists first))
      (lists_then (beside outer s2) behind _
      (lists_scope_ended s2 f.test gotos.Continue (span_of body) s.current
      (ends_by (kinds.DoWhile (record { 0 = f.body }) (record { 0 = f.test }) f.behind.id) (Some f.span)) (while_aside f).1 refl)
      (lists_then behind s3 _ (expression_lists second)
      (lists_completed s3 (branch p f.body f.behind.id.0 f.test f.span) f.behind refl))))
  loop_lists {own} (lowered.ForUpdated at init test update body s s2 s3 s4 s5 u p first third fourth second) =
      let outer : List InstructionId = s.current.instructions in
      let f : ForParts = for_at s at.span own true in
      let g : ForParts = for_after_init f s2 in
      let h : ForParts = for_after_update g s3 in
      let updating : State = for_inited f s2 (part_span at.span init) in
      let opened : State = for_updated g s3 (span_of update) in
      let testing : State = for_bodied h s4 (span_of body) in
      lists_then s (beside outer (for_begun s)) _ (lists_entered s (for_begun s) refl refl refl)
      (lists_then (beside outer (for_begun s)) (beside outer s2) _ (lists_beside outer (for_begun s) s2 (init_lists first))
      (lists_then (beside outer s2) (beside outer updating) _
      (lists_beside outer s2 updating (lists_next s2 f.test gotos.Break (part_span at.span init) blocks.Loop))
      (lists_then (beside outer updating) (beside outer s3) _ (lists_beside outer updating s3 (expression_lists third))
      (lists_then (beside outer s3) (beside outer opened) _ (lists_beside outer s3 opened (lists_for_opened g s3 (span_of update)))
      (lists_then (beside outer opened) (beside outer s4) _ (lists_beside outer opened s4 (statement_lists fourth))
      (lists_then (beside outer s4) testing _
      (lists_scope_ended s4 (for_again h).0 gotos.Continue (span_of body) s.current (for_end f.test h.update h.body at.span)
      (for_aside h).1 refl)
      (lists_then testing s5 _ (test_lists second)
      (lists_completed s5 (branch p h.body h.behind.id.0 h.behind.id.0 h.span) h.behind refl))))))))
  loop_lists {own} (lowered.ForPlain at init test body s s2 s3 s4 p first third second) =
      let outer : List InstructionId = s.current.instructions in
      let f : ForParts = for_at s at.span own false in
      let g : ForParts = for_after_init f s2 in
      let opened : State = for_inited f s2 (part_span at.span init) in
      let testing : State = for_bodied g s3 (span_of body) in
      lists_then s (beside outer (for_begun s)) _ (lists_entered s (for_begun s) refl refl refl)
      (lists_then (beside outer (for_begun s)) (beside outer s2) _ (lists_beside outer (for_begun s) s2 (init_lists first))
      (lists_then (beside outer s2) (beside outer opened) _
      (lists_beside outer s2 opened (lists_for_opened f s2 (part_span at.span init)))
      (lists_then (beside outer opened) (beside outer s3) _ (lists_beside outer opened s3 (statement_lists third))
      (lists_then (beside outer s3) testing _
      (lists_scope_ended s3 (for_again g).0 gotos.Continue (span_of body) s.current (for_end f.test g.update g.body at.span)
      (for_aside g).1 refl)
      (lists_then testing s4 _ (test_lists second)
      (lists_completed s4 (branch p g.body g.behind.id.0 g.behind.id.0 g.span) g.behind refl))))))
  loop_lists {own} (lowered.ForIn at head right body s s2 s3 s4 collection p first second third) =
      let outer : List InstructionId = s.current.instructions in
      let n : ℕ = s.env.next_block in
      let f : RoundsParts = forin_at s at.span in
      let begun : State = forin_begun s own in
      let behind : State = rounds_bodied f s2 (span_of body) in
      let headed : State = forin_headed (rounds_shut f) s3 in
      let righted : State = forin_righted (rounds_shut f) s3 (span_of head) collection in
      lists_then s (beside outer begun) _ (lists_entered s begun refl refl refl)
      (lists_then (beside outer begun) (beside outer s2) _ (lists_beside outer begun s2 (statement_lists first))
      (lists_then (beside outer s2) behind _ (lists_scope_left s2 (n + 1) gotos.Continue (span_of body) s.current)
      (lists_then behind s3 _ (expression_lists second)
      (lists_then s3 headed _ (lists_completed s3 (forin_end n at.span) (new_block (n + 1) blocks.Loop) refl)
      (lists_then headed righted _ (lists_value headed (values.NextPropertyOf collection) (Some (span_of head)) refl)
      (lists_then righted s4 _ (head_lists third)
      (lists_completed s4 (branch p (n + 1 + 1) n n at.span) (new_block n blocks.Block) refl)))))))
  loop_lists {own} (lowered.ForOf at head right body s s2 s3 s4 collection p first second third) =
      let outer : List InstructionId = s.current.instructions in
      let n : ℕ = s.env.next_block in
      let f : ForOfParts = forof_at s at.span in
      let begun : State = forof_begun s own in
      let behind : State = forof_bodied f s2 (span_of body) in
      let headed : State = forof_headed (forof_shut f) s3 in
      let opened : State = with_value headed (values.GetIterator collection) collection.span in
      let tested : State = forof_tested (forof_shut f) s3 collection in
      let righted : State = forof_righted (forof_shut f) s3 (span_of head) collection in
      let iterator : Place = forof_iterator (forof_shut f) s3 collection in
      lists_then s (beside outer begun) _ (lists_entered s begun refl refl refl)
      (lists_then (beside outer begun) (beside outer s2) _ (lists_beside outer begun s2 (statement_lists first))
      (lists_then (beside outer s2) behind _ (lists_scope_left s2 (n + 1) gotos.Continue (span_of body) s.current)
      (lists_then behind s3 _ (expression_lists second)
      (lists_then s3 headed _ (lists_completed s3 (forof_end n at.span) (new_block (n + 1) blocks.Loop) refl)
      (lists_then headed opened _ (lists_value headed (values.GetIterator collection) collection.span refl)
      (lists_then opened tested _
      (lists_completed opened (goto (n + 1 + 1) gotos.Break at.span) (new_block (n + 1 + 1) blocks.Loop) refl)
      (lists_then tested righted _ (lists_value tested (values.IteratorNext iterator collection) (Some (span_of head)) refl)
      (lists_then righted s4 _ (head_lists third)
      (lists_completed s4 (branch p (n + 1 + 1 + 1) n n at.span) (new_block n blocks.Block) refl)))))))))
  loop_lists (lowered.AwaitRefused at head right body s) = lists_noted s (refusal row.F33 at.span)

  init_lists : {names : Names} {at : Span} {e : Syntax} {s t : State} → LoweredInit names at e s t → ListsSince s t
  init_lists {at} (lowered.NoInit s) = lists_value s (values.Primitive primitives.Undefined) (Some at) refl
  init_lists (lowered.DeclaredInit there fields s t l) = statement_lists l
  init_lists {at} (lowered.RefusedInit e s t p l) =
      lists_then s (recorded s (refusal row.F31 at)) t (lists_noted s (refusal row.F31 at)) (expression_lists l)

  pub statements_lists : {names : Names} {es : Pieces} {s t : State} → LoweredStatements names es s t → ListsSince s t
  statements_lists (lowered.NoStatement s) = lists_refl s
  statements_lists (lowered.NextStatement e es s t u l more) = lists_then s t u (statement_lists l) (statements_lists more)

pub body_lists : {names : Names} {b : Syntax} {s t : State} → LoweredBody names b s t → ListsSince s t
body_lists (lowered.Statements at directives statements s t texts l) = statements_lists l
body_lists (lowered.Value e s t p l) =
    lists_then s (reserved s) _ (lists_same s (reserved s) refl)
    (lists_then (reserved s) t _ (expression_lists l)
    (lists_completed t (return_of None returns.Implicit p) (new_block s.env.next_block blocks.Block) refl))
