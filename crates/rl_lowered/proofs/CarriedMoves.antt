-- A relation that each move of the lowering keeps holds between the states that frames and values leave.
use Rattle.std.proofs.Common.{ℕ, Bool, Option, Some, None, refl, ◌+◌}
use Rattle.rl_base.specs.Diagnostics.{diagnostic_at}
use Rattle.rl_base.specs.declared.operator.BinaryOperator.TheVariants as operator
use Rattle.rl_base.specs.declared.operator.UpdateOperator.{UpdateOperator}
use Rattle.rl_base.specs.declared.row.Row.TheVariants as row
use Rattle.rl_base.specs.declared.type_kind.TypeKind.TheVariants as types
use Rattle.rl_base.specs.declared.type_kind.TypeKind.{TypeKind}
use Rattle.rl_base.specs.declared.variable_kind.VariableKind.TheVariants as kinds
use Rattle.rl_base.specs.declared.variable_kind.VariableKind.{VariableKind}
use Rattle.rl_builder.specs.Builder.{entered, innermost, new_block, pushed, pushed_under, recorded, reserved}
use Rattle.rl_builder.specs.Builder.{with_temporary}
use Rattle.rl_builder.specs.Temporaries.{temporary, unordered, with_value}
use Rattle.rl_frames.specs.Frames.{LogicalParts, SequenceParts, TernaryParts}
use Rattle.rl_frames.specs.Frames.{logical_ended, logical_righted, sequence_ended}
use Rattle.rl_frames.specs.Frames.{ternary_alternated, ternary_consequent}
use Rattle.rl_frames.specs.Parts.{chain_reserved, loads, logical_begun}
use Rattle.rl_frames.specs.Parts.{logical_entered}
use Rattle.rl_frames.specs.Parts.{logical_left, logical_place, sequence_begun, ternary_begun}
use Rattle.rl_frames.specs.Rounds.{ForOfParts, RoundsParts, forin_headed, forin_righted}
use Rattle.rl_frames.specs.Rounds.{forof_headed, forof_iterator, forof_righted, forof_tested}
use Rattle.rl_hir.specs.declared.function.BlockKind.TheVariants as blocks
use Rattle.rl_hir.specs.declared.instruction.Instruction.{Instruction}
use Rattle.rl_hir.specs.declared.instruction.InstructionKind.TheVariants as variables
use Rattle.rl_hir.specs.declared.instruction.InstructionValue.TheVariants as values
use Rattle.rl_hir.specs.declared.instruction.PrimitiveValue.TheVariants as primitives
use Rattle.rl_lowered.proofs.Carrying.{IsCarried, unchanged}
use Rattle.rl_lowered.proofs.Catches.{catch_declared, declares_caught}
use Rattle.rl_lowered.proofs.Common.{BlockId, Diagnostic, InstructionValue, Names, Place, Span, State, SymbolId}
use Rattle.rl_lowered.specs.Forms.{MemberKey, load_of, store_of, typed}
use Rattle.rl_lowered.specs.Items.{promoted}
use Rattle.rl_lowered.specs.Lowered.{catch_begun, declaring}
use Rattle.rl_lowered.specs.Lowered.{member_loaded, member_one, member_stored, member_updated}
use Rattle.rl_lowered.specs.Lowered.{throwing, throwing_under}
use Rattle.rl_lowered.specs.Named.{IsFound, found}
use Rattle.rl_optional_frames.specs.Frames.{default_at, default_ended, default_tested}
use Rattle.rl_optional_frames.specs.Frames.{LinkParts, link_after, link_at, link_ended, link_objected}
use Rattle.rl_optional_frames.specs.Parts.{compared, default_begun, default_given, link_opened, undefined_made}
use Rattle.rl_promises.specs.Rows.{refusal}
use Rattle.rl_runs.specs.Moves.{stored_in}

module _ {names : Names} {R : (behind : (symbol : ℕ) → (before : Span) → Span) → State → State → Type 0} (moves : IsCarried names R) where
  -- Values and instructions.

  pub joined : (a b d : State) → R unchanged a b → R unchanged b d → R unchanged a d
  joined a b d first second = moves.chain a b d first second

  carried_under : (o : Option BlockId) (s : State) (i : Instruction) → R unchanged s (pushed_under o s i)
  carried_under None s i = moves.same s (pushed_under None s i) refl
  carried_under (Some handler) s i = moves.same s (pushed_under (Some handler) s i) refl

  carried_pushed : (s : State) (i : Instruction) → R unchanged s (pushed s i)
  carried_pushed s i = carried_under (innermost s.handlers) s i

  pub carried_value : (s : State) (v : InstructionValue) (span : Option Span) → R unchanged s (with_value s v span)
  carried_value s v span =
      joined s (with_temporary s span) (with_value s v span) (moves.temporary s span)
      (carried_pushed (with_temporary s span) (unordered (temporary s span) v span))

  -- A value behind a look-up, or behind a diagnostic.

  pub carried_found : (s : State) (symbol : SymbolId) (at : Span) (identifier : ℕ) (v : InstructionValue) (span : Option Span)
      → IsFound names s symbol at identifier → R unchanged s (with_value (found names s symbol at) v span)
  carried_found s symbol at identifier v span f =
      joined s (found names s symbol at) _ (moves.looked s symbol at identifier f) (carried_value (found names s symbol at) v span)

  pub carried_noted : (s : State) (d : Diagnostic) (v : InstructionValue) (span : Option Span)
      → R unchanged s (with_value (recorded s d) v span)
  carried_noted s d v span = joined s (recorded s d) _ (moves.noted s d) (carried_value (recorded s d) v span)

  -- A constant is looked up, and refused (row F6).
  pub carried_constant : (s : State) (symbol : SymbolId) (at : Span) (identifier : ℕ) (span : Option Span)
      → IsFound names s symbol at identifier
      → R unchanged s
      (with_value (recorded (found names s symbol at) (diagnostic_at row.F6 (names.name symbol.0) at))
      (values.Primitive primitives.Undefined) span)
  carried_constant s symbol at identifier span f =
      let first : State = found names s symbol at in
      joined s first _ (moves.looked s symbol at identifier f)
      (carried_noted first (diagnostic_at row.F6 (names.name symbol.0) at) (values.Primitive primitives.Undefined) span)

  -- The type of a cast, the keyword of a declaration, and the values of an update of a property.

  pub carried_typed : (s : State) (k : TypeKind) → R unchanged s (typed s k)
  carried_typed s types.Array = moves.same s s refl
  carried_typed s types.Primitive = moves.same s s refl
  carried_typed s types.Other = moves.same s (typed s types.Other) refl

  pub carried_declaring : (s : State) (k : VariableKind) (at : Span) → R unchanged s (declaring s k at)
  carried_declaring s kinds.Var at = moves.noted s (refusal row.F39 at)
  carried_declaring s _ at = moves.same s s refl

  pub carried_member : (t : State) (object : Place) (key : MemberKey) (operator : UpdateOperator) (there : Span)
      → R unchanged t (member_stored t object key operator there)
  carried_member t object key operator there =
      let loaded : State = member_loaded t object key there in
      let one : State = member_one t object key there in
      let updated : State = member_updated t object key operator there in
      joined t loaded _ (carried_value t (load_of object key) (Some there))
      (joined loaded one _ (carried_value loaded (values.Primitive (primitives.Number 1)) None)
      (joined one updated _ (carried_value one _ (Some there))
      (carried_value updated (store_of object key (temporary one (Some there))) (Some there))))

  -- The states between the holes of a construct.

  pub carried_stored : (s : State) (place value : Place) (part : Span) → R unchanged s (stored_in s place value part)
  carried_stored s place value part = carried_value s (values.StoreLocal variables.Const place value) (Some part)

  pub carried_logical_begun : (s : State) (span left : Span) → R unchanged s (logical_begun s span left)
  carried_logical_begun s span left =
      let first : State = with_temporary s (Some span) in
      let second : State = with_temporary first (Some left) in
      let entry : State = logical_entered s span left in
      let stored : State = stored_in entry (logical_place s span) (logical_left s left) left in
      joined s first _ (moves.temporary s (Some span))
      (joined first second _ (moves.temporary first (Some left))
      (joined second entry _ (moves.same second entry refl)
      (joined entry stored _ (carried_stored entry (logical_place s span) (logical_left s left) left)
      (moves.same stored (logical_begun s span left) refl))))

  pub carried_logical_righted : (f : LogicalParts) (s : State) (value : Place) (part : Span)
      → R unchanged s (logical_righted f s value part)
  carried_logical_righted f s value part =
      joined s (stored_in s f.place value part) (logical_righted f s value part) (carried_stored s f.place value part)
      (moves.same (stored_in s f.place value part) (logical_righted f s value part) refl)

  pub carried_logical_ended : (f : LogicalParts) (s : State) (value : Place) → R unchanged s (logical_ended f s value)
  carried_logical_ended f s value =
      joined s (pushed s (loads f.left value f.span)) (logical_ended f s value) (carried_pushed s (loads f.left value f.span))
      (moves.same (pushed s (loads f.left value f.span)) (logical_ended f s value) refl)

  pub carried_ternary_begun : (s : State) (span : Span) → R unchanged s (ternary_begun s span)
  carried_ternary_begun s span =
      joined s (with_temporary s (Some span)) (ternary_begun s span) (moves.temporary s (Some span))
      (moves.same (with_temporary s (Some span)) (ternary_begun s span) refl)

  pub carried_ternary_consequent : (f : TernaryParts) (s : State) (value : Place) (part : Span)
      → R unchanged s (ternary_consequent f s value part)
  carried_ternary_consequent f s value part =
      joined s (stored_in s f.place value f.span) (ternary_consequent f s value part) (carried_stored s f.place value f.span)
      (moves.same (stored_in s f.place value f.span) (ternary_consequent f s value part) refl)

  pub carried_ternary_alternated : (f : TernaryParts) (s : State) (value : Place) (part : Span)
      → R unchanged s (ternary_alternated f s value part)
  carried_ternary_alternated f s value part =
      joined s (stored_in s f.place value f.span) (ternary_alternated f s value part) (carried_stored s f.place value f.span)
      (moves.same (stored_in s f.place value f.span) (ternary_alternated f s value part) refl)

  pub carried_sequence_begun : (s : State) (span : Span) → R unchanged s (sequence_begun s span)
  carried_sequence_begun s span =
      joined s (with_temporary s (Some span)) (sequence_begun s span) (moves.temporary s (Some span))
      (moves.same (with_temporary s (Some span)) (sequence_begun s span) refl)

  pub carried_sequence_ended : (f : SequenceParts) (s : State) (value : Place) (part : Span)
      → R unchanged s (sequence_ended f s value part)
  carried_sequence_ended f s value part =
      joined s (stored_in s f.place value part) (sequence_ended f s value part) (carried_stored s f.place value part)
      (moves.same (stored_in s f.place value part) (sequence_ended f s value part) refl)

  pub carried_forin_righted : (f : RoundsParts) (s : State) (left : Span) (collection : Place)
      → R unchanged s (forin_righted f s left collection)
  carried_forin_righted f s left collection =
      joined s (forin_headed f s) (forin_righted f s left collection) (moves.same s (forin_headed f s) refl)
      (carried_value (forin_headed f s) (values.NextPropertyOf collection) (Some left))

  pub carried_forof_righted : (f : ForOfParts) (s : State) (left : Span) (collection : Place)
      → R unchanged s (forof_righted f s left collection)
  carried_forof_righted f s left collection =
      let headed : State = forof_headed f s in
      let opened : State = with_value headed (values.GetIterator collection) collection.span in
      let tested : State = forof_tested f s collection in
      joined s headed _ (moves.same s headed refl)
      (joined headed opened _ (carried_value headed (values.GetIterator collection) collection.span)
      (joined opened tested _ (moves.same opened tested refl)
      (carried_value tested (values.IteratorNext (forof_iterator f s collection) collection) (Some left))))

  -- A link of a chain.

  carried_link_made : (s : State) (span : Span) → R unchanged s (chain_reserved s span)
  carried_link_made s span =
      joined s (reserved (reserved s)) _ (moves.same s (reserved (reserved s)) refl) (moves.temporary (reserved (reserved s)) (Some span))

  pub carried_link_opened : (alternate : Option BlockId) (s : State) (span : Span) → R unchanged s (link_opened alternate s span)
  carried_link_opened None s span =
      let made : State = chain_reserved s span in
      let begun : State = entered (reserved made) (new_block made.env.next_block blocks.Value) in
      let valued : State = undefined_made begun span in
      let stored : State = stored_in valued (temporary s (Some span)) (temporary made (Some span)) span in
      joined s made _ (carried_link_made s span)
      (joined made begun _ (moves.same made begun refl)
      (joined begun valued _ (carried_value begun (values.Primitive primitives.Undefined) (Some span))
      (joined valued stored _ (carried_stored valued (temporary s (Some span)) (temporary made (Some span)) span)
      (moves.same stored (link_opened None s span) refl))))
  carried_link_opened (Some given) s span =
      joined s (chain_reserved s span) _ (carried_link_made s span)
      (moves.same (chain_reserved s span) (link_opened (Some given) s span) refl)

  carried_link_ended : (f : LinkParts) (s : State) (value : Place) → R unchanged s (link_ended f s value)
  carried_link_ended f s value =
      joined s (stored_in s f.place value f.span) (link_ended f s value) (carried_stored s f.place value f.span)
      (moves.same (stored_in s f.place value f.span) (link_ended f s value) refl)

  -- From the states in its holes.
  pub carried_linked : (alternate : Option BlockId) (s s2 s4 : State) (span : Span) (optional : Bool) (object value : Place)
      → R unchanged (link_opened alternate s span) s2 → R unchanged (link_objected (link_at s span optional alternate) s2 object) s4
      → R unchanged s (link_ended (link_after (link_at s span optional alternate)) s4 value)
  carried_linked alternate s s2 s4 span optional object value first second =
      let f : LinkParts = link_at s span optional alternate in
      joined s (link_opened alternate s span) _ (carried_link_opened alternate s span)
      (joined (link_opened alternate s span) s2 _ first
      (joined s2 (link_objected f s2 object) _ (moves.same s2 (link_objected f s2 object) refl)
      (joined (link_objected f s2 object) s4 _ second (carried_link_ended (link_after f) s4 value))))

  -- A `throw`, and the front of a `try` statement whose `catch` has a parameter.

  carried_throwing_under : (handler : Option BlockId) (s : State) (at : Span)
      → R unchanged s (throwing_under handler s at)
  carried_throwing_under None s at = moves.same s s refl
  carried_throwing_under (Some handler) s at = moves.noted s (refusal row.F30 at)

  pub carried_throwing : (s : State) (at : Span) → R unchanged s (throwing s at)
  carried_throwing s at = carried_throwing_under (innermost s.handlers) s at

  pub carried_catch_begun : (s : State) (param : Span) → R unchanged s (catch_begun s param)
  carried_catch_begun s param =
      let made : State = promoted s param in
      let numbered : State = reserved made in
      let declared : State = catch_declared s param in
      joined s made _ (moves.promotes s param)
      (joined made numbered _ (moves.same made numbered refl)
      (joined numbered declared _ (carried_value numbered (declares_caught s param) (Some param))
      (moves.same declared (catch_begun s param) refl)))

  -- A default.
  pub carried_default : (s s2 : State) (default value : Place) (span : Span) → R unchanged (default_begun s span) s2
      → R unchanged s (default_ended (default_at s span value) s2 default)
  carried_default s s2 default value span d =
      let place : Place = temporary s (Some span) in
      let named : State = with_temporary s (Some span) in
      let begun : State = default_begun s span in
      let valued : State = stored_in s2 place default span in
      let between : State = default_given s2 (s.env.next_block + 1) place default span in
      let other : State = stored_in between place value span in
      let tested : State = default_tested (default_at s span value) s2 default in
      let made : State = undefined_made tested span in
      let met_at : State = compared tested value span in
      joined s named _ (moves.temporary s (Some span))
      (joined named begun _ (moves.same named begun refl)
      (joined begun s2 _ d
      (joined s2 valued _ (carried_value s2 (values.StoreLocal variables.Const place default) (Some span))
      (joined valued between _ (moves.same valued between refl)
      (joined between other _ (carried_value between (values.StoreLocal variables.Const place value) (Some span))
      (joined other tested _ (moves.same other tested refl)
      (joined tested made _ (carried_value tested (values.Primitive primitives.Undefined) (Some span))
      (joined made met_at _
      (carried_value made (values.BinaryExpression operator.StrictEquality value (temporary tested (Some span))) (Some span))
      (moves.same met_at (default_ended (default_at s span value) s2 default) refl)))))))))
