-- The lowering as a relation: a derivation says by which moves the builder came from one state to another for a part of the source.
use Rattle.std.specs.Prelude.{◌≡◌, ℕ, Bool, true, false, List, [], ◌∷◌, ◌&&◌, Option, Some, None, Ok, codes}
use Rattle.rl_base.specs.Diagnostics.{diagnostic_at}
use Rattle.rl_base.specs.Operators.{assignment_text, logical_text, update_text}
use Rattle.rl_base.specs.TypeKinds.{type_text}
use Rattle.rl_base.specs.VariableKinds.{variable_text}
use Rattle.rl_base.specs.declared.ids.BlockId.{BlockId}
use Rattle.rl_base.specs.declared.ids.SymbolId.{SymbolId}
use Rattle.rl_base.specs.declared.operator.AssignmentOperator.{AssignmentOperator}
use Rattle.rl_base.specs.declared.operator.BinaryOperator.{BinaryOperator}
use Rattle.rl_base.specs.declared.operator.LogicalOperator.{LogicalOperator}
use Rattle.rl_base.specs.declared.operator.UpdateOperator.{UpdateOperator}
use Rattle.rl_base.specs.declared.row.Row.{Row}
use Rattle.rl_base.specs.declared.row.Row.TheVariants as row
use Rattle.rl_base.specs.declared.span.Span.{Span}
use Rattle.rl_base.specs.declared.type_kind.TypeKind.{TypeKind}
use Rattle.rl_base.specs.declared.variable_kind.VariableKind.{VariableKind}
use Rattle.rl_base.specs.declared.variable_kind.VariableKind.TheVariants as variables
use Rattle.rl_builder.specs.Builder.{State, completed_by, innermost, new_block, recorded, reserved, with_temporary}
use Rattle.rl_builder.specs.Jumps.{lookup_break, lookup_continue}
use Rattle.rl_builder.specs.Temporaries.{temporary, with_value}
use Rattle.rl_frames.specs.Frames.{if_alternate, if_after_consequent, if_at, if_consequent, if_ended, if_shut}
use Rattle.rl_frames.specs.Frames.{do_while_bodied, label_at, label_ended, while_after, while_at, while_bodied, while_ended}
use Rattle.rl_frames.specs.Frames.{for_after, for_after_init, for_after_update, for_at, for_bodied, for_ended, for_inited, for_updated}
use Rattle.rl_frames.specs.Frames.{logical_after, logical_at, logical_ended, logical_righted}
use Rattle.rl_frames.specs.Frames.{sequence_at, sequence_ended}
use Rattle.rl_frames.specs.Frames.{TryParts, try_after, try_at, try_caught, try_ended}
use Rattle.rl_frames.specs.Frames.{ternary_after, ternary_alternated, ternary_at, ternary_consequent, ternary_ended, ternary_parted}
use Rattle.rl_frames.specs.Parts.{for_begun, forin_begun, forof_begun, if_begun, label_begun, logical_begun, logical_place}
use Rattle.rl_frames.specs.Parts.{sequence_begun, sequence_place, ternary_begun, ternary_place, try_started, while_begun}
use Rattle.rl_frames.specs.Rounds.{forin_at, forin_key, forin_righted, forof_after, forof_at, forof_bodied, forof_ended, forof_item}
use Rattle.rl_frames.specs.Rounds.{forof_righted, forof_shut, rounds_bodied, rounds_ended, rounds_opened, rounds_shut}
use Rattle.rl_frames.specs.SwitchParts.{case_begun, case_ended, fall_of, switch_begun, switch_finished}
use Rattle.rl_grammar.specs.Grammar.{every}
use Rattle.rl_grammar.specs.declared.kind.Kind.TheVariants as sort
use Rattle.rl_hir.specs.Pieces.{Piece, Gives, Names as Named, Says, Spreads, argument_pieces, gathered, pattern_pieces, property_pieces}
use Rattle.rl_hir.specs.declared.function.BlockKind.TheVariants as blocks
use Rattle.rl_hir.specs.declared.function.Param.{Param}
use Rattle.rl_hir.specs.declared.function.Param.TheVariants as params
use Rattle.rl_hir.specs.declared.instruction.InstructionKind.{InstructionKind}
use Rattle.rl_hir.specs.declared.instruction.InstructionKind.TheVariants as kinds
use Rattle.rl_hir.specs.declared.instruction.InstructionValue.{InstructionValue}
use Rattle.rl_hir.specs.declared.instruction.InstructionValue.TheVariants as values
use Rattle.rl_hir.specs.declared.instruction.NonLocalBinding.{NonLocalBinding}
use Rattle.rl_hir.specs.declared.instruction.ObjectProperty.{ObjectProperty}
use Rattle.rl_hir.specs.declared.instruction.Pattern.{Pattern}
use Rattle.rl_hir.specs.declared.instruction.Place.{Place}
use Rattle.rl_hir.specs.declared.instruction.PlaceOrSpread.{PlaceOrSpread}
use Rattle.rl_hir.specs.declared.instruction.PrimitiveValue.{PrimitiveValue}
use Rattle.rl_hir.specs.declared.instruction.PrimitiveValue.TheVariants as primitives
use Rattle.rl_hir.specs.declared.terminal.Case.{Case}
use Rattle.rl_hir.specs.declared.terminal.GotoVariant.TheVariants as gotos
use Rattle.rl_hir.specs.declared.terminal.ReturnVariant.TheVariants as returns
use Rattle.rl_lowered.specs.Forms.{IsAnnotation, IsCast, IsDefaulted, IsForm, IsLiteral, IsMember, IsPrivate, IsRefused, IsRefusing}
use Rattle.rl_lowered.specs.Forms.{Alone, Front, IsLinkKey, IsWrapper, Lent, MemberKey, applied_by, call_of, handed_on, is_property}
use Rattle.rl_lowered.specs.Forms.{load_of, store_of, tested_front, type_of, typed}
use Rattle.rl_lowered.specs.Items.{BoundItems, IsBinding, IsTaking, Later, LoweredAhead, TakenItems, destructured, form_piece}
pub use Rattle.rl_lowered.specs.Items.{caught}
use Rattle.rl_lowered.specs.Items.{met}
pub use Rattle.rl_lowered.specs.Items.{found_again, promoted, redeclared, variable_at}
use Rattle.rl_lowered.specs.Named.{IsFound, found}
pub use Rattle.rl_lowered.specs.Parts.{label_part, part_span}
pub use Rattle.rl_lowered.specs.Updates.{private_met, update_of, member_loaded, member_one, binary_of, member_updated}
pub use Rattle.rl_lowered.specs.Updates.{member_stored, member_result, assigned_to, name_computed, name_found}
pub use Rattle.rl_lowered.specs.Updates.{name_stored, name_reloaded, member_computed, member_assigned, value_span}
use Rattle.rl_model.specs.Actions.{Label}
use Rattle.rl_model.specs.Shapes.{is_absent, is_computed, key_text, said}
use Rattle.rl_names.specs.Names.{Names}
use Rattle.rl_names.specs.declared.names.Meaning.TheVariants.{Local, Outer}
use Rattle.rl_optional_frames.specs.Frames.{default_at, default_ended, link_after, link_at, link_ended, link_objected}
use Rattle.rl_optional_frames.specs.Parts.{default_begun, link_opened}
use Rattle.rl_promises.specs.Jumps.{is_loop}
use Rattle.rl_promises.specs.Moved.{may_move, type_name}
use Rattle.rl_promises.specs.Outs.{is_known_key, is_lost_head}
use Rattle.rl_promises.specs.Patterns.{is_pattern, takes_apart}
use Rattle.rl_promises.specs.Rows.{is_eval, refusal, row_of_head}
use Rattle.rl_rules.specs.Chains.{has_optional}
use Rattle.rl_runs.specs.Moves.{block_id, next_hole, return_of, returned_from, threw_from}
use Rattle.rl_syntax.specs.declared.numbered.At.{At}
use Rattle.rl_syntax.specs.declared.word.Word.{Word}
use Rattle.rl_syntax.specs.declared.word.Word.TheVariants as word
use Rattle.rl_syntax.specs.Syntax.{Syntax, Node, Listed, Said, Flag, Absent, Pieces, End, Then, span_of}
use Rattle.rl_text.specs.Numeral.{is_numeral}

mutual
  -- An expression was lowered between two states, and its value is in the place.
  pub data Lowered (names : Names) : Syntax → (old new : State) → Place → Type 0 where
    Literal : (at : At) (w : Word) (fields : Pieces) (p : PrimitiveValue) (s : State) → IsLiteral w fields p
        → Lowered names (Node at w fields) s (with_value s (values.Primitive p) (Some at.span)) (temporary s (Some at.span))
    -- A kind that is refused without its parts, or before or behind them; undefined stands for it.
    Refused : (at : At) (w : Word) (fields : Pieces) (r : Row) (s : State) → IsRefused names w fields r
        → Lowered names (Node at w fields) s
        (with_value (recorded s (refusal r at.span)) (values.Primitive primitives.Undefined) (Some at.span))
        (temporary (recorded s (refusal r at.span)) (Some at.span))
    RefusedBefore : (at : At) (w : Word) (fields parts : Pieces) (r : Row) (pieces : List Piece) (s t : State)
        → IsRefusing w fields parts r → LoweredParts names false parts (recorded s (refusal r at.span)) t pieces
        → Lowered names (Node at w fields) s (with_value t (values.Primitive primitives.Undefined) (Some at.span))
        (temporary t (Some at.span))
    RefusedBehind : (at : At) (object : Syntax) (name : List ℕ) (s t : State) (p : Place) → Lowered names object s t p
        → Lowered names (Node at word.Privatemember (Then (Flag false) (Then object (Then (Said name) End)))) s
        (with_value (recorded t (refusal row.F3 at.span)) (values.Primitive primitives.Undefined) (Some at.span))
        (temporary (recorded t (refusal row.F3 at.span)) (Some at.span))
    Private : (at : At) (w : Word) (fields : Pieces) (e : Syntax) (s t : State) (p : Place) → IsPrivate w fields e
        → Lowered names e s t p → Lowered names (Node at w fields) s t p
    -- A local variable.
    Variable : (at : At) (name : List ℕ) (symbol : SymbolId) (identifier : ℕ) (s : State)
        → names.meaning at.reference.0 name ≡ Local symbol → IsFound names s symbol at.span identifier
        → Lowered names (Node at word.Id (Then (Said name) End)) s
        (with_value (found names s symbol at.span)
        (values.LoadLocal (record { identifier = record { 0 = identifier }; span = Some at.span })) (Some at.span))
        (temporary (found names s symbol at.span) (Some at.span))
    -- An update of a local variable, which is resolved and then read.
    UpdatedVariable : (at there : At) (name : List ℕ) (symbol : SymbolId) (identifier : ℕ) (operator : UpdateOperator) (prefix : Bool)
        (s : State) → names.meaning there.reference.0 name ≡ Local symbol → names.is_const symbol.0 ≡ false
        → IsFound names s symbol there.span identifier
        → IsFound names (found names s symbol there.span) symbol there.span identifier
        → Lowered names
        (Node at word.Update
        (Then (Said (update_text operator)) (Then (Flag prefix) (Then (Node there word.Id (Then (Said name) End)) End)))) s
        (with_value (found names (found names s symbol there.span) symbol there.span)
        (update_of prefix operator (record { identifier = record { 0 = identifier }; span = Some there.span })) (Some at.span))
        (temporary (found names (found names s symbol there.span) symbol there.span) (Some at.span))
    -- An update of a constant (row F6).
    UpdatedConstant : (at there : At) (name : List ℕ) (symbol : SymbolId) (identifier : ℕ) (operator prefix : Syntax) (s : State)
        → names.meaning there.reference.0 name ≡ Local symbol → names.is_const symbol.0 ≡ true
        → IsFound names s symbol there.span identifier
        → Lowered names (Node at word.Update (Then operator (Then prefix (Then (Node there word.Id (Then (Said name) End)) End)))) s
        (with_value (recorded (found names s symbol there.span) (diagnostic_at row.F6 (names.name symbol.0) there.span))
        (values.Primitive primitives.Undefined) (Some at.span))
        (temporary (recorded (found names s symbol there.span) (diagnostic_at row.F6 (names.name symbol.0) there.span)) (Some at.span))
    -- An update of a property.
    UpdatedMember : (at there : At) (w : Word) (fields parts : Pieces) (pieces : List Piece) (object : Place) (key : MemberKey)
        (operator : UpdateOperator) (prefix : Bool) (s t : State)
        → IsMember w fields parts pieces object key → LoweredParts names false parts s t pieces
        → Lowered names
        (Node at word.Update (Then (Said (update_text operator)) (Then (Flag prefix) (Then (Node there w fields) End)))) s
        (member_stored t object key operator there.span) (member_result t object key operator prefix there.span)
    -- `=` to a local variable, whose value comes first.
    AssignedVariable : (at there : At) (name : List ℕ) (right : Syntax) (symbol : SymbolId) (identifier : ℕ) (s t : State) (p : Place)
        → names.meaning there.reference.0 name ≡ Local symbol → names.is_const symbol.0 ≡ false
        → Lowered names right s t p → IsFound names t symbol there.span identifier
        → Lowered names
        (Node at word.Assign (Then (Said (codes "=")) (Then (Node there word.Id (Then (Said name) End)) (Then right End)))) s
        (with_value (found names t symbol there.span) (assigned_to identifier there.span p) (Some there.span))
        (temporary (found names t symbol there.span) (Some there.span))
    -- `=` to a constant (row F6).
    AssignedConstant : (at there : At) (name : List ℕ) (right : Syntax) (symbol : SymbolId) (identifier : ℕ) (s t : State) (p : Place)
        → names.meaning there.reference.0 name ≡ Local symbol → names.is_const symbol.0 ≡ true
        → Lowered names right s t p → IsFound names t symbol there.span identifier
        → Lowered names
        (Node at word.Assign (Then (Said (codes "=")) (Then (Node there word.Id (Then (Said name) End)) (Then right End)))) s
        (with_value (recorded (found names t symbol there.span) (diagnostic_at row.F6 (names.name symbol.0) there.span))
        (values.Primitive primitives.Undefined) (Some there.span))
        (temporary (recorded (found names t symbol there.span) (diagnostic_at row.F6 (names.name symbol.0) there.span)) (Some there.span))
    -- `=` to any other name.
    AssignedGlobal : (at there : At) (name : List ℕ) (right : Syntax) (binding : NonLocalBinding) (s t : State) (p : Place)
        → names.meaning there.reference.0 name ≡ Outer binding → Lowered names right s t p
        → Lowered names
        (Node at word.Assign (Then (Said (codes "=")) (Then (Node there word.Id (Then (Said name) End)) (Then right End)))) s
        (with_value t (values.StoreGlobal name p) (Some there.span)) (temporary t (Some there.span))
    -- `=` to a property: the value, and then the object and the key.
    AssignedMember : (at there : At) (w : Word) (fields parts : Pieces) (pieces : List Piece) (object : Place) (key : MemberKey)
        (right : Syntax) (s t u : State) (p : Place)
        → IsMember w fields parts pieces object key → Lowered names right s t p → LoweredParts names false parts t u pieces
        → Lowered names (Node at word.Assign (Then (Said (codes "=")) (Then (Node there w fields) (Then right End)))) s
        (with_value u (store_of object key p) (Some there.span)) (temporary u (Some there.span))
    -- `=` to a property of a private name, which is met behind the object (row F5).
    AssignedPrivate : (at there : At) (object : Syntax) (name : List ℕ) (right : Syntax) (s t u : State) (p q : Place)
        → Lowered names right s t p → Lowered names object t u q
        → Lowered names
        (Node at word.Assign
        (Then (Said (codes "="))
        (Then (Node there word.Privatemember (Then (Flag false) (Then object (Then (Said name) End)))) (Then right End)))) s
        (with_value (recorded u (refusal row.F5 at.span)) (values.Primitive primitives.Undefined) (Some at.span))
        (temporary (recorded u (refusal row.F5 at.span)) (Some at.span))
    -- `=` to a pattern, which takes the value apart.
    AssignedPattern : (at there : At) (w : Word) (fields : Pieces) (right : Syntax) (s t u : State) (p q : Place)
        → is_pattern (Node there w fields) ≡ true → Lowered names right s t p
        → LoweredTarget names there.span p (Node there w fields) t u q
        → Lowered names (Node at word.Assign (Then (Said (codes "=")) (Then (Node there w fields) (Then right End)))) s u q
    -- A compound assignment to a local variable, which is loaded before its right part is lowered.
    CompoundVariable : (at there : At) (name : List ℕ) (operator : AssignmentOperator) (applied : BinaryOperator) (right : Syntax)
        (symbol : SymbolId) (identifier : ℕ) (s t u : State) (q p : Place)
        → names.meaning there.reference.0 name ≡ Local symbol → names.is_const symbol.0 ≡ false → applied_by operator ≡ Some applied
        → Lowered names (Node there word.Id (Then (Said name) End)) s t q → Lowered names right t u p
        → IsFound names (name_computed u applied q p at.span) symbol there.span identifier
        → Lowered names
        (Node at word.Assign
        (Then (Said (assignment_text operator)) (Then (Node there word.Id (Then (Said name) End)) (Then right End)))) s
        (name_reloaded names u applied q p at.span there.span symbol identifier)
        (temporary (name_stored names u applied q p at.span there.span symbol identifier) (Some at.span))
    -- A compound assignment to a constant (row F6).
    CompoundConstant : (at there : At) (name : List ℕ) (operator : AssignmentOperator) (applied : BinaryOperator) (right : Syntax)
        (symbol : SymbolId) (identifier : ℕ) (s t u : State) (q p : Place)
        → names.meaning there.reference.0 name ≡ Local symbol → names.is_const symbol.0 ≡ true → applied_by operator ≡ Some applied
        → Lowered names (Node there word.Id (Then (Said name) End)) s t q → Lowered names right t u p
        → IsFound names u symbol there.span identifier
        → Lowered names
        (Node at word.Assign
        (Then (Said (assignment_text operator)) (Then (Node there word.Id (Then (Said name) End)) (Then right End)))) s
        (with_value (recorded (found names u symbol there.span) (diagnostic_at row.F6 (names.name symbol.0) there.span))
        (values.Primitive primitives.Undefined) (Some at.span))
        (temporary (recorded (found names u symbol there.span) (diagnostic_at row.F6 (names.name symbol.0) there.span)) (Some at.span))
    -- A compound assignment to any other name.
    CompoundGlobal : (at there : At) (name : List ℕ) (operator : AssignmentOperator) (applied : BinaryOperator) (right : Syntax)
        (binding : NonLocalBinding) (s t u : State) (q p : Place)
        → names.meaning there.reference.0 name ≡ Outer binding → applied_by operator ≡ Some applied
        → Lowered names (Node there word.Id (Then (Said name) End)) s t q → Lowered names right t u p
        → Lowered names
        (Node at word.Assign
        (Then (Said (assignment_text operator)) (Then (Node there word.Id (Then (Said name) End)) (Then right End)))) s
        (with_value (name_computed u applied q p at.span) (values.StoreGlobal name (temporary u (Some at.span))) (Some at.span))
        (temporary (name_computed u applied q p at.span) (Some at.span))
    -- A compound assignment to a property: the old value is loaded before the right part is lowered.
    CompoundMember : (at there : At) (w : Word) (fields parts : Pieces) (pieces : List Piece) (object : Place) (key : MemberKey)
        (operator : AssignmentOperator) (applied : BinaryOperator) (right : Syntax) (s t u : State) (p : Place)
        → IsMember w fields parts pieces object key → applied_by operator ≡ Some applied → LoweredParts names false parts s t pieces
        → Lowered names right (with_value t (load_of object key) (Some there.span)) u p
        → Lowered names (Node at word.Assign (Then (Said (assignment_text operator)) (Then (Node there w fields) (Then right End)))) s
        (member_assigned t u object key applied p there.span) (temporary (member_computed t u applied p there.span) (Some there.span))
    -- A compound assignment to a property of a private name, which is refused where it is loaded (row F3).
    CompoundPrivate : (at there : At) (fields : Pieces) (operator : AssignmentOperator) (applied : BinaryOperator) (right : Syntax)
        (s t u : State) (q p : Place)
        → applied_by operator ≡ Some applied → Lowered names (Node there word.Privatemember fields) s t q → Lowered names right t u p
        → Lowered names
        (Node at word.Assign (Then (Said (assignment_text operator)) (Then (Node there word.Privatemember fields) (Then right End)))) s
        (with_value u (values.Primitive primitives.Undefined) (Some at.span)) (temporary u (Some at.span))
    -- A call of a method: the function is loaded from the object before the arguments are lowered.
    Method : (at there : At) (w : Word) (fields parts es : Pieces) (pieces given_pieces : List Piece) (object : Place) (key : MemberKey)
        (given : List PlaceOrSpread) (s t u : State)
        → IsMember w fields parts pieces object key → LoweredParts names false parts s t pieces
        → LoweredParts names false es (with_value t (load_of object key) (Some there.span)) u given_pieces
        → gathered argument_pieces given ≡ given_pieces
        → Lowered names (Node at word.Call (Then (Flag false) (Then (Node there w fields) (Then (Listed es) End)))) s
        (with_value u
        (values.MethodCall (record { receiver = object; property = temporary t (Some there.span); arguments = given })) (Some at.span))
        (temporary u (Some at.span))
    -- A value under a type.
    Cast : (at there : At) (w : Word) (fields : Pieces) (e type : Syntax) (k : TypeKind) (s t : State) (p : Place)
        → IsCast w fields e (Node there word.Type (Then (Said (type_text k)) (Then type End)))
        → IsAnnotation (Node there word.Type (Then (Said (type_text k)) (Then type End))) → Lowered names e s t p
        → Lowered names (Node at w fields) s
        (with_value (typed t k) (values.TypeCastExpression p (type_of t k) (Some there.span)) (Some at.span))
        (temporary (typed t k) (Some at.span))
    Global : (at : At) (name : List ℕ) (binding : NonLocalBinding) (s : State)
        → names.meaning at.reference.0 name ≡ Outer binding → is_eval binding ≡ false
        → Lowered names (Node at word.Id (Then (Said name) End)) s
        (with_value s (values.LoadGlobal binding) (Some at.span)) (temporary s (Some at.span))
    -- The global `eval` (row F2).
    RefusedGlobal : (at : At) (name : List ℕ) (binding : NonLocalBinding) (s : State)
        → names.meaning at.reference.0 name ≡ Outer binding → is_eval binding ≡ true
        → Lowered names (Node at word.Id (Then (Said name) End)) s
        (with_value (recorded s (refusal row.F2 at.span)) (values.LoadGlobal binding) (Some at.span))
        (temporary (recorded s (refusal row.F2 at.span)) (Some at.span))
    Same : (at : At) (w : Word) (fields : Pieces) (e : Syntax) (s t : State) (p : Place) → IsWrapper w fields e → Lowered names e s t p
        → Lowered names (Node at w fields) s t p
    Asked : (at : At) (w : Word) (fields parts : Pieces) (pieces : List Piece) (v : InstructionValue) (s t : State)
        → IsForm w fields parts pieces v → LoweredParts names false parts s t pieces
        → Lowered names (Node at w fields) s (with_value t v (Some at.span)) (temporary t (Some at.span))
    -- An object literal.
    Object : (at : At) (es : Pieces) (pieces : List Piece) (properties : List ObjectProperty) (s t : State)
        → gathered property_pieces properties ≡ pieces → LoweredParts names true es s t pieces
        → Lowered names (Node at word.Object (Then (Listed es) End)) s
        (with_value t (values.ObjectExpression properties) (Some at.span)) (temporary t (Some at.span))
    Logical : (at : At) (operator : LogicalOperator) (left right : Syntax) (s s2 s3 : State) (l r : Place)
        → Lowered names right (logical_begun s at.span (span_of left)) s2 r
        → Lowered names left (logical_righted (logical_at s at.span operator (span_of left)) s2 r (value_span r right)) s3 l
        → Lowered names (Node at word.Logical (Then (Said (logical_text operator)) (Then left (Then right End)))) s
        (logical_ended (logical_after (logical_at s at.span operator (span_of left))) s3 l) (logical_place s at.span)
    Conditional : (at : At) (test consequent alternate : Syntax) (s s2 s3 s4 : State) (c a p : Place)
        → Lowered names consequent (ternary_begun s at.span) s2 c
        → Lowered names alternate (ternary_consequent (ternary_at s at.span) s2 c (span_of consequent)) s3 a
        → Lowered names test
        (ternary_alternated (ternary_parted (ternary_at s at.span) s2 c (span_of consequent)) s3 a (span_of alternate)) s4 p
        → Lowered names (Node at word.Cond (Then test (Then consequent (Then alternate End)))) s
        (ternary_ended (ternary_after (ternary_parted (ternary_at s at.span) s2 c (span_of consequent))) s4 p)
        (ternary_place s at.span)
    Sequence : (at : At) (e : Syntax) (es : Pieces) (s s2 : State) (p : Place)
        → LoweredLast names (Then e es) (sequence_begun s at.span) s2 p
        → Lowered names (Node at word.Seq (Then (Listed (Then e es)) End)) s
        (sequence_ended (sequence_at s at.span) s2 p at.span) (sequence_place s at.span)
    -- An optional chain.
    Chain : (at : At) (e : Syntax) (s t : State) (p : Place) → LoweredSpine names false e s t p
        → Lowered names (Node at word.Chain (Then e End)) s t p

  -- A default was lowered. One that may not be evaluated in another place is refused (row F29).
  pub data LoweredMoved (names : Names) : Syntax → (old new : State) → Place → Type 0 where
    Stays : (e : Syntax) (s t : State) (p : Place) → may_move names e ≡ true → Lowered names e s t p → LoweredMoved names e s t p
    Moved : (at : At) (w : Word) (fields : Pieces) (s t : State) (p : Place) → may_move names (Node at w fields) ≡ false
        → Lowered names (Node at w fields) (recorded s (diagnostic_at row.F29 (type_name w) at.span)) t p
        → LoweredMoved names (Node at w fields) s t p

  -- A target took `value`; its instruction has the span `at`. The place is that of the instruction, or `value` where nothing is stored.
  pub data LoweredTarget (names : Names) : (at : Span) → (value : Place) → (target : Syntax) → (old new : State) → Place → Type 0 where
    -- A local variable.
    TargetVariable : {at : Span} {value : Place} (there : At) (name : List ℕ) (symbol : SymbolId) (identifier : ℕ) (s : State)
        → names.meaning there.reference.0 name ≡ Local symbol → names.is_const symbol.0 ≡ false
        → IsFound names s symbol there.span identifier
        → LoweredTarget names at value (Node there word.Id (Then (Said name) End)) s
        (with_value (found names s symbol there.span) (assigned_to identifier at value) (Some at))
        (temporary (found names s symbol there.span) (Some at))
    -- A constant (row F6).
    TargetConstant : {at : Span} {value : Place} (there : At) (name : List ℕ) (symbol : SymbolId) (identifier : ℕ) (s : State)
        → names.meaning there.reference.0 name ≡ Local symbol → names.is_const symbol.0 ≡ true
        → IsFound names s symbol there.span identifier
        → LoweredTarget names at value (Node there word.Id (Then (Said name) End)) s
        (recorded (found names s symbol there.span) (diagnostic_at row.F6 (names.name symbol.0) there.span)) value
    -- Any other name.
    TargetGlobal : {at : Span} {value : Place} (there : At) (name : List ℕ) (binding : NonLocalBinding) (s : State)
        → names.meaning there.reference.0 name ≡ Outer binding
        → LoweredTarget names at value (Node there word.Id (Then (Said name) End)) s
        (with_value s (values.StoreGlobal name value) (Some at)) (temporary s (Some at))
    -- A property.
    TargetMember : {at : Span} {value : Place} (there : At) (w : Word) (fields parts : Pieces) (pieces : List Piece) (object : Place)
        (key : MemberKey) (s t : State)
        → IsMember w fields parts pieces object key → LoweredParts names false parts s t pieces
        → LoweredTarget names at value (Node there w fields) s
        (with_value t (store_of object key value) (Some at)) (temporary t (Some at))
    -- A property of a private name, or a target under a wrapper (rows F11 and F45).
    TargetLost : {at : Span} {value : Place} (there : At) (w : Word) (fields : Pieces) (s : State)
        → is_lost_head (Node there w fields) ≡ true
        → LoweredTarget names at value (Node there w fields) s (recorded s (refusal (row_of_head w) there.span)) value
    -- A target with a default, which the value passes first.
    TargetDefaulted : {at : Span} {value : Place} (there : At) (w : Word) (fields : Pieces) (target default : Syntax) (s t u : State)
        (q p : Place)
        → IsDefaulted w fields target default → LoweredMoved names default (default_begun s there.span) t q
        → LoweredTarget names there.span (temporary s (Some there.span)) target
        (default_ended (default_at s there.span value) t q) u p
        → LoweredTarget names at value (Node there w fields) s u p
    -- A pattern: its names are looked at, its items get places, the value is taken apart, and the parts that are left take their pieces.
    TargetPattern : {at : Span} {value : Place} (there : At) (w : Word) (of_object forced : Bool) (items : Pieces) (rest : Syntax)
        (pattern : Pattern) (pieces : List Piece) (later : List Later) (s t u v : State)
        → IsTaking w of_object → LoweredAhead names items rest s t forced
        → TakenItems names of_object forced items rest t u pieces later
        → pattern_pieces pattern ≡ form_piece of_object ∷ pieces
        → LoweredLater names later (with_value u (destructured kinds.Reassign pattern value) (Some at)) v
        → LoweredTarget names at value (Node there w (Then (Listed items) (Then rest End))) s v (temporary u (Some at))

  -- Parts that were left took their pieces, in order.
  pub data LoweredLater (names : Names) : List Later → (old new : State) → Type 0 where
    NoLater : (s : State) → LoweredLater names [] s s
    NextLater : (value : Place) (part : Syntax) (later : List Later) (s t u : State) (p : Place)
        → LoweredTarget names (span_of part) value part s t p → LoweredLater names later t u
        → LoweredLater names (record { value = value; part = part } ∷ later) s u

  -- The spine of a chain was lowered from its outermost link; `below` is true of one below a link of another chain, where a `!` is refused
  -- (row F44).
  pub data LoweredSpine (names : Names) : (below : Bool) → Syntax → (old new : State) → Place → Type 0 where
    Outermost : {below : Bool} (e : Syntax) (s t : State) (front : Front) (p : Place) → LoweredLink names None e s t front p
        → LoweredSpine names below e s t p
    Asserted : (at : At) (e : Syntax) (s t : State) (p : Place) → LoweredSpine names false e s t p
        → LoweredSpine names false (Node at word.Nonnull (Then e End)) s t p
    Broken : (at : At) (e : Syntax) (s t : State) (p : Place) → has_optional e ≡ true
        → LoweredSpine names true e (recorded s (refusal row.F44 at.span)) t p
        → LoweredSpine names true (Node at word.Nonnull (Then e End)) s t p

  -- A link of a chain was lowered behind its object or callee, `front`. The chain ends early in block `alternate`, which the outermost link
  -- makes.
  pub data LoweredLink (names : Names) : (alternate : Option BlockId) → Syntax → (old new : State) → (front : Front) → Place
      → Type 0 where
    -- A property.
    LinkedProperty : (alternate : Option BlockId) (at : At) (w : Word) (optional : Bool) (object : Syntax) (rest parts : Pieces)
        (pieces : List Piece) (o : Place) (key : MemberKey) (s t u : State)
        → IsLinkKey w rest parts pieces key
        → LoweredFront names (link_at s at.span optional alternate).alternate false object (link_opened alternate s at.span) t (Alone o)
        → LoweredParts names false parts (link_objected (link_at s at.span optional alternate) t o) u pieces
        → LoweredLink names alternate (Node at w (Then (Flag optional) (Then object rest))) s
        (link_ended (link_after (link_at s at.span optional alternate)) (with_value u (load_of o key) (Some at.span))
        (temporary u (Some at.span)))
        (Alone o) (link_at s at.span optional alternate).place
    -- A property of a private name (row F3).
    LinkedPrivate : (alternate : Option BlockId) (at : At) (optional : Bool) (object : Syntax) (name : List ℕ) (o : Place) (s t : State)
        → LoweredFront names (link_at s at.span optional alternate).alternate false object (link_opened alternate s at.span) t (Alone o)
        → LoweredLink names alternate (Node at word.Privatemember (Then (Flag optional) (Then object (Then (Said name) End)))) s
        (link_ended (link_after (link_at s at.span optional alternate))
        (with_value (private_met (link_objected (link_at s at.span optional alternate) t o) at.span)
        (values.Primitive primitives.Undefined) (Some at.span))
        (temporary (private_met (link_objected (link_at s at.span optional alternate) t o) at.span) (Some at.span)))
        (Alone o) (link_at s at.span optional alternate).place
    -- A call.
    LinkedCall : (alternate : Option BlockId) (at : At) (optional : Bool) (callee : Syntax) (es : Pieces) (pieces : List Piece)
        (given : List PlaceOrSpread) (front : Front) (s t u : State)
        → LoweredFront names (link_at s at.span optional alternate).alternate true callee (link_opened alternate s at.span) t front
        → LoweredParts names false es (link_objected (link_at s at.span optional alternate) t (tested_front front)) u pieces
        → gathered argument_pieces given ≡ pieces
        → LoweredLink names alternate (Node at word.Call (Then (Flag optional) (Then callee (Then (Listed es) End)))) s
        (link_ended (link_after (link_at s at.span optional alternate)) (with_value u (call_of front given) (Some at.span))
        (temporary u (Some at.span)))
        front (link_at s at.span optional alternate).place

  -- The object of a link was lowered, or, where `called` is true, its callee, in a chain that ends early in block `alternate`.
  pub data LoweredFront (names : Names) : (alternate : BlockId) → (called : Bool) → Syntax → (old new : State) → Front → Type 0 where
    -- Another link of the chain.
    FrontLink : (alternate : BlockId) (called : Bool) (e : Syntax) (s t : State) (front : Front) (p : Place)
        → LoweredLink names (Some alternate) e s t front p
        → LoweredFront names alternate called e s t (handed_on (called && is_property e) front p)
    -- A `!` in the chain (row F44).
    FrontBroken : (alternate : BlockId) (called : Bool) (at : At) (e : Syntax) (s t : State) (p : Place)
        → LoweredSpine names true (Node at word.Nonnull (Then e End)) s t p
        → LoweredFront names alternate called (Node at word.Nonnull (Then e End)) s t (Alone p)
    -- A property in front of the chain that is called: it lends its object.
    FrontMethod : (alternate : BlockId) (at : At) (w : Word) (fields parts : Pieces) (pieces : List Piece) (object : Place)
        (key : MemberKey) (s t : State)
        → IsMember w fields parts pieces object key → LoweredParts names false parts s t pieces
        → LoweredFront names alternate true (Node at w fields) s (with_value t (load_of object key) (Some at.span))
        (Lent object (temporary t (Some at.span)))
    -- Any other expression in front of the chain.
    FrontAlone : (alternate : BlockId) (called : Bool) (e : Syntax) (s t : State) (p : Place) → (called && is_property e) ≡ false
        → Lowered names e s t p → LoweredFront names alternate called e s t (Alone p)

  -- Parts were lowered from left to right, and give these pieces to the instruction behind them: the properties of an object literal, or
  -- parts of any other node.
  pub data LoweredParts (names : Names) : (of_object : Bool) → Pieces → (old new : State) → List Piece → Type 0 where
    NoPart : {of_object : Bool} (s : State) → LoweredParts names of_object End s s []
    NextPart : (e : Syntax) (es : Pieces) (s t u : State) (p : Place) (pieces : List Piece) → Lowered names e s t p
        → LoweredParts names false es t u pieces → LoweredParts names false (Then e es) s u (Gives p ∷ pieces)
    NextSpread : {of_object : Bool} (at : At) (e : Syntax) (es : Pieces) (s t u : State) (p : Place) (pieces : List Piece)
        → Lowered names e s t p → LoweredParts names of_object es t u pieces
        → LoweredParts names of_object (Then (Node at word.Spread (Then e End)) es) s u (Spreads p ∷ pieces)
    NextHole : (at : At) (es : Pieces) (s u : State) (pieces : List Piece) → LoweredParts names false es s u pieces
        → LoweredParts names false (Then (Node at word.Hole End) es) s u (Says (codes "hole") ∷ pieces)
    -- A property of an object literal: with a fixed key, a computed one, a number that is refused (row F43), and another key (row F9).
    NextProperty : (at : At) (computed : Bool) (key e : Syntax) (text : List ℕ) (es : Pieces) (s t u : State) (p : Place)
        (pieces : List Piece) → key_text computed key ≡ Some (said text) → Lowered names e s t p
        → LoweredParts names true es t u pieces
        → LoweredParts names true (Then (Node at word.Prop (Then (Flag computed) (Then key (Then e End)))) es) s u
        (Named text ∷ Gives p ∷ pieces)
    NextComputed : (at : At) (key e : Syntax) (es : Pieces) (s r t u : State) (p q : Place) (pieces : List Piece)
        → is_computed true key ≡ true → Lowered names key s r p → Lowered names e r t q → LoweredParts names true es t u pieces
        → LoweredParts names true (Then (Node at word.Prop (Then (Flag true) (Then key (Then e End)))) es) s u (Gives p ∷ Gives q ∷ pieces)
    NextFraction : (at there : At) (e : Syntax) (text : List ℕ) (es : Pieces) (s t u : State) (p : Place) (pieces : List Piece)
        → is_numeral text ≡ false → Lowered names e (recorded s (refusal row.F43 there.span)) t p → LoweredParts names true es t u pieces
        → LoweredParts names true
        (Then (Node at word.Prop (Then (Flag false) (Then (Node there word.Num (Then (Said text) End)) (Then e End)))) es) s u pieces
    NextUnknown : (at : At) (computed : Bool) (key e : Syntax) (es : Pieces) (s u : State) (pieces : List Piece)
        → is_known_key computed key ≡ false → LoweredParts names true es (recorded s (refusal row.F9 (span_of key))) u pieces
        → LoweredParts names true (Then (Node at word.Prop (Then (Flag computed) (Then key (Then e End)))) es) s u pieces

  -- Expressions were lowered from left to right; the place has the value of the last.
  pub data LoweredLast (names : Names) : Pieces → (old new : State) → Place → Type 0 where
    LastPart : (e : Syntax) (s t : State) (p : Place) → Lowered names e s t p → LoweredLast names (Then e End) s t p
    EarlierPart : (e next : Syntax) (es : Pieces) (s t u : State) (p q : Place) → Lowered names e s t p
        → LoweredLast names (Then next es) t u q → LoweredLast names (Then e (Then next es)) s u q

-- Parts of a node that is no object literal: operands, arguments, elements.
abbrev pub LoweredAll : Names → Pieces → (old new : State) → List Piece → Type 0
LoweredAll names = LoweredParts names false

-- The properties of an object literal.
abbrev pub LoweredProperties : Names → Pieces → (old new : State) → List Piece → Type 0
LoweredProperties names = LoweredParts names true

-- The kind of the variables that a declaration declares. `var` is refused (row F39).
abbrev pub kind_of : VariableKind → InstructionKind
kind_of variables.Var = kinds.Let
kind_of variables.Let = kinds.Let
kind_of variables.Const = kinds.Const
kind_of variables.Using = kinds.Const
kind_of variables.AwaitUsing = kinds.Const

-- The state behind the keyword of a declaration.
abbrev pub declaring : State → VariableKind → Span → State
declaring s variables.Var at = recorded s (refusal row.F39 at)
declaring s _ at = s

mutual
  -- A binding pattern took `value`: its variables are of the kind `k`, and its instruction has the span `at`. The place is that of the
  -- instruction.
  pub data LoweredPattern (names : Names) (again : Bool) (k : InstructionKind) : (at : Span) → (value : Place) → (pattern : Syntax)
      → (old new : State) → Place → Type 0 where
    BoundName : {at : Span} {value : Place} (bind : At) (name : List ℕ) (type : Syntax) (symbol : SymbolId) (identifier : ℕ) (s : State)
        → IsAnnotation type → names.declared bind.id.0 ≡ Some symbol → IsFound names s symbol bind.span identifier
        → LoweredPattern names again k at value (Node bind word.Bind (Then (Said name) (Then type End))) s
        (with_value (met again names s symbol identifier bind.span) (values.StoreLocal k (variable_at identifier at) value) (Some at))
        (temporary (met again names s symbol identifier bind.span) (Some at))
    BoundDefault : {at : Span} {value : Place} (there : At) (pattern default : Syntax) (s t u : State) (q p : Place)
        → LoweredMoved names default (default_begun s there.span) t q
        → LoweredPattern names again k there.span (temporary s (Some there.span)) pattern
        (default_ended (default_at s there.span value) t q) u p
        → LoweredPattern names again k at value (Node there word.Defaultpat (Then pattern (Then default End))) s u p
    BoundPattern : {at : Span} {value : Place} (there : At) (w : Word) (of_object : Bool) (items : Pieces) (rest : Syntax)
        (pattern : Pattern) (pieces : List Piece) (later : List Later) (s u v : State)
        → IsBinding w of_object → BoundItems names again of_object items rest s u pieces later
        → pattern_pieces pattern ≡ form_piece of_object ∷ pieces
        → LoweredBound names again k later (with_value u (destructured k pattern value) (Some at)) v
        → LoweredPattern names again k at value (Node there w (Then (Listed items) (Then rest End))) s v (temporary u (Some at))

  -- As `LoweredLater`, for parts of a binding pattern.
  pub data LoweredBound (names : Names) (again : Bool) (k : InstructionKind) : List Later → (old new : State) → Type 0 where
    NothingBound : (s : State) → LoweredBound names again k [] s s
    NextBound : (value : Place) (part : Syntax) (later : List Later) (s t u : State) (p : Place)
        → LoweredPattern names again k (span_of part) value part s t p → LoweredBound names again k later t u
        → LoweredBound names again k (record { value = value; part = part } ∷ later) s u

-- Parameters were lowered in order, and stand in the graph as these.
pub data LoweredParams (names : Names) : (params : Pieces) → (rest : Syntax) → (old new : State) → List Param → Type 0 where
  NoParam : (s : State) → LoweredParams names End Absent s s []
  RestParam : (there : At) (pattern : Syntax) (s t : State) (p : Place)
      → LoweredPattern names false kinds.Let there.span (temporary s (Some there.span)) pattern (with_temporary s (Some there.span)) t p
      → LoweredParams names End (Node there word.Rest (Then pattern End)) s t (params.Spread (temporary s (Some there.span)) ∷ [])
  -- A name, which takes its argument itself.
  PlainParam : (there bind : At) (name : List ℕ) (type rest : Syntax) (more : Pieces) (symbol : SymbolId) (identifier : ℕ) (s t : State)
      (ps : List Param)
      → IsAnnotation type → names.declared bind.id.0 ≡ Some symbol → IsFound names s symbol bind.span identifier
      → LoweredParams names more rest (found names s symbol bind.span) t ps
      → LoweredParams names
      (Then (Node there word.Param (Then (Node bind word.Bind (Then (Said name) (Then type End))) (Then Absent End))) more) rest s t
      (params.Place (variable_at identifier bind.span) ∷ ps)
  PatternParam : (there : At) (pattern rest : Syntax) (more : Pieces) (s t u : State) (p : Place) (ps : List Param)
      → takes_apart pattern ≡ true
      → LoweredPattern names false kinds.Let there.span (caught s there.span) pattern (promoted s there.span) t p
      → LoweredParams names more rest t u ps
      → LoweredParams names (Then (Node there word.Param (Then pattern (Then Absent End))) more) rest s u
      (params.Place (caught s there.span) ∷ ps)
  DefaultParam : (there : At) (pattern default rest : Syntax) (more : Pieces) (s t u v : State) (q p : Place) (ps : List Param)
      → LoweredMoved names default (default_begun (promoted s there.span) there.span) t q
      → LoweredPattern names false kinds.Let there.span (temporary (promoted s there.span) (Some there.span)) pattern
      (default_ended (default_at (promoted s there.span) there.span (caught s there.span)) t q) u p
      → LoweredParams names more rest u v ps
      → LoweredParams names (Then (Node there word.Param (Then pattern (Then default End))) more) rest s v
      (params.Place (caught s there.span) ∷ ps)

-- Declarators were lowered in order, in a declaration with the span `at`, of variables of the kind `k`.
pub data LoweredDeclarators (names : Names) (at : Span) (k : InstructionKind) : Pieces → (old new : State) → Type 0 where
  NoDeclarator : (s : State) → LoweredDeclarators names at k End s s
  NextDeclared : (there bind : At) (name : List ℕ) (type : Syntax) (more : Pieces) (symbol : SymbolId) (identifier : ℕ) (s u : State)
      → IsAnnotation type → names.declared bind.id.0 ≡ Some symbol → IsFound names s symbol bind.span identifier
      → LoweredDeclarators names at k more
      (with_value (found names s symbol bind.span)
      (values.DeclareLocal k (record { identifier = record { 0 = identifier }; span = Some bind.span })) (Some bind.span)) u
      → LoweredDeclarators names at k
      (Then (Node there word.Declarator (Then (Node bind word.Bind (Then (Said name) (Then type End))) (Then Absent End))) more) s u
  NextInitialized : (there bind : At) (name : List ℕ) (type init : Syntax) (more : Pieces) (symbol : SymbolId) (identifier : ℕ)
      (s t u : State) (p : Place)
      → IsAnnotation type → names.declared bind.id.0 ≡ Some symbol → Lowered names init s t p → IsFound names t symbol bind.span identifier
      → LoweredDeclarators names at k more
      (with_value (found names t symbol bind.span)
      (values.StoreLocal k (record { identifier = record { 0 = identifier }; span = Some at }) p) (Some at)) u
      → LoweredDeclarators names at k
      (Then (Node there word.Declarator (Then (Node bind word.Bind (Then (Said name) (Then type End))) (Then init End))) more) s u
  -- A pattern takes the value of its initializer. One without an initializer, which by rule B7 is that of a loop's head, takes undefined.
  NextTakenApart : (there : At) (pattern init : Syntax) (more : Pieces) (s t u v : State) (p q : Place)
      → takes_apart pattern ≡ true → is_absent init ≡ false → Lowered names init s t p
      → LoweredPattern names false k at p pattern t u q → LoweredDeclarators names at k more u v
      → LoweredDeclarators names at k (Then (Node there word.Declarator (Then pattern (Then init End))) more) s v
  NextUntaken : (there : At) (pattern : Syntax) (more : Pieces) (s u v : State) (q : Place) → takes_apart pattern ≡ true
      → LoweredPattern names false k at (temporary s (Some at)) pattern (with_value s (values.Primitive primitives.Undefined) (Some at)) u q
      → LoweredDeclarators names at k more u v
      → LoweredDeclarators names at k (Then (Node there word.Declarator (Then pattern (Then Absent End))) more) s v

-- The test of a `for` loop with the span `at` was lowered: an absent one is refused (row F32), and true stands for it.
pub data LoweredTest (names : Names) (at : Span) : Syntax → (old new : State) → Place → Type 0 where
  NoTest : (s : State)
      → LoweredTest names at Absent s
      (with_value (recorded s (refusal row.F32 at)) (values.Primitive (primitives.Boolean true)) (Some at))
      (temporary (recorded s (refusal row.F32 at)) (Some at))
  Tested : (e : Syntax) (s t : State) (p : Place) → Lowered names e s t p → LoweredTest names at e s t p

-- The head of a `for`-`in` or `for`-`of` loop was lowered, which gives `value` to a variable or a property. The place is that of the
-- test behind it: the store's, or `value` where nothing is stored.
pub data LoweredHead (names : Names) (value : Place) : (head : Syntax) → (old new : State) → Place → Type 0 where
  -- A declaration by any keyword. The variable's identifier gets the span of its name there.
  Declared : (at there bind : At) (kind name : List ℕ) (type : Syntax) (symbol : SymbolId) (identifier : ℕ) (s : State)
      → IsAnnotation type → names.declared bind.id.0 ≡ Some symbol → IsFound names s symbol bind.span identifier
      → LoweredHead names value
      (Node at word.Var
      (Then (Said kind)
      (Then
      (Listed (Then (Node there word.Declarator (Then (Node bind word.Bind (Then (Said name) (Then type End))) (Then Absent End))) End))
      End))) s
      (with_value (found_again names s symbol identifier bind.span)
      (values.StoreLocal kinds.Let (record { identifier = record { 0 = identifier }; span = Some at.span }) value) (Some at.span))
      (temporary (found_again names s symbol identifier bind.span) (Some at.span))
  -- A local variable.
  Reassigned : (at : At) (name : List ℕ) (symbol : SymbolId) (identifier : ℕ) (s : State)
      → names.meaning at.reference.0 name ≡ Local symbol → names.is_const symbol.0 ≡ false → IsFound names s symbol at.span identifier
      → LoweredHead names value (Node at word.Id (Then (Said name) End)) s
      (with_value (found names s symbol at.span)
      (values.StoreLocal kinds.Reassign (record { identifier = record { 0 = identifier }; span = Some at.span }) value) (Some at.span))
      (temporary (found names s symbol at.span) (Some at.span))
  -- A constant (row F6).
  ReassignedConstant : (at : At) (name : List ℕ) (symbol : SymbolId) (identifier : ℕ) (s : State)
      → names.meaning at.reference.0 name ≡ Local symbol → names.is_const symbol.0 ≡ true → IsFound names s symbol at.span identifier
      → LoweredHead names value (Node at word.Id (Then (Said name) End)) s
      (recorded (found names s symbol at.span) (diagnostic_at row.F6 (names.name symbol.0) at.span)) value
  -- Any other name.
  StoredGlobal : (at : At) (name : List ℕ) (binding : NonLocalBinding) (s : State) → names.meaning at.reference.0 name ≡ Outer binding
      → LoweredHead names value (Node at word.Id (Then (Said name) End)) s
      (with_value s (values.StoreGlobal name value) (Some at.span)) (temporary s (Some at.span))
  -- A property.
  StoredMember : (at : At) (w : Word) (fields parts : Pieces) (pieces : List Piece) (object : Place) (key : MemberKey) (s t : State)
      → IsMember w fields parts pieces object key → LoweredParts names false parts s t pieces
      → LoweredHead names value (Node at w fields) s
      (with_value t (store_of object key value) (Some at.span)) (temporary t (Some at.span))
  -- A declaration of a pattern.
  DeclaredPattern : (at there : At) (kind : List ℕ) (pattern : Syntax) (s t : State) (p : Place) → takes_apart pattern ≡ true
      → LoweredPattern names true kinds.Let at.span value pattern s t p
      → LoweredHead names value
      (Node at word.Var (Then (Said kind) (Then (Listed (Then (Node there word.Declarator (Then pattern (Then Absent End))) End)) End)))
      s t p
  -- A pattern.
  StoredPattern : (at : At) (w : Word) (fields : Pieces) (s t : State) (p : Place) → is_pattern (Node at w fields) ≡ true
      → LoweredTarget names at.span value (Node at w fields) s t p → LoweredHead names value (Node at w fields) s t p
  -- A property of a private name, or a target under a wrapper (rows F11 and F45).
  Lost : (at : At) (w : Word) (fields : Pieces) (s : State) → is_lost_head (Node at w fields) ≡ true
      → LoweredHead names value (Node at w fields) s (recorded s (refusal (row_of_head w) at.span)) value

-- The state behind the value of a `throw`, which is refused under a handler (row F30).

abbrev pub throwing_under : (handler : Option BlockId) → State → Span → State
throwing_under None s at = s
throwing_under (Some handler) s at = recorded s (refusal row.F30 at)

abbrev pub throwing : State → Span → State
throwing s at = throwing_under (innermost s.handlers) s at

-- A `catch` whose parameter is a variable, at the span `param`: the parts of the frame behind the place that takes the caught value, the
-- state in which the hole of the handler opens, and the one behind the store of the value to the variable.

abbrev pub catch_at : State → (at param : Span) → TryParts
catch_at s at param = try_at (promoted s param) at (Some (caught s param))

abbrev pub catch_begun : State → (param : Span) → State
catch_begun s param = try_started (promoted s param) (Some (caught s param))

abbrev pub catch_bound : Names → State → SymbolId → (identifier : ℕ) → (param : Span) → State
catch_bound names s symbol identifier param =
    with_value (found names (catch_begun s param) symbol param)
    (values.StoreLocal kinds.Catch (record { identifier = record { 0 = identifier }; span = Some param }) (caught s param)) (Some param)

-- The test of a case was lowered, which a default has not. One that may not be evaluated in another place is refused (row F29).
pub data LoweredCaseTest (names : Names) : Syntax → (old new : State) → Option Place → Type 0 where
  NoCaseTest : (s : State) → LoweredCaseTest names Absent s s None
  CaseTested : (e : Syntax) (s t : State) (p : Place) → may_move names e ≡ true → Lowered names e s t p
      → LoweredCaseTest names e s t (Some p)
  CaseMoved : (at : At) (w : Word) (fields : Pieces) (s t : State) (p : Place) → may_move names (Node at w fields) ≡ false
      → Lowered names (Node at w fields) (recorded s (diagnostic_at row.F29 (type_name w) at.span)) t p
      → LoweredCaseTest names (Node at w fields) s t (Some p)

mutual
  -- A statement was lowered between two states.
  pub data LoweredStatement (names : Names) : Syntax → (old new : State) → Type 0 where
    Empty : (at : At) (s : State) → LoweredStatement names (Node at word.Empty End) s s
    Expression : (at : At) (e : Syntax) (s t : State) (p : Place) → Lowered names e s t p
        → LoweredStatement names (Node at word.Expr (Then e End)) s t
    Debugger : (at : At) (s : State)
        → LoweredStatement names (Node at word.Debugger End) s (with_value s values.Debugger (Some at.span))
    Variables : (at : At) (k : VariableKind) (declarators : Pieces) (s t : State)
        → LoweredDeclarators names at.span (kind_of k) declarators (declaring s k at.span) t
        → LoweredStatement names (Node at word.Var (Then (Said (variable_text k)) (Then (Listed declarators) End))) s t
    ReturnNothing : (at : At) (s : State)
        → LoweredStatement names (Node at word.Return (Then Absent End)) s
        (returned_from (with_value s (values.Primitive primitives.Undefined) None) (Some at.span) returns.Explicit
        (temporary s None) blocks.Block)
    Return : (at : At) (e : Syntax) (s t : State) (p : Place) → Lowered names e s t p
        → LoweredStatement names (Node at word.Return (Then e End)) s (returned_from t (Some at.span) returns.Explicit p blocks.Block)
    Throw : (at : At) (e : Syntax) (s t : State) (p : Place) → Lowered names e s t p
        → LoweredStatement names (Node at word.Throw (Then e End)) s (threw_from (throwing t at.span) at.span p blocks.Block)
    Block : (at : At) (statements : Pieces) (s t : State) → LoweredStatements names statements s t
        → LoweredStatement names (Node at word.Block (Then (Listed statements) End)) s t
    IfThen : (at : At) (test consequent : Syntax) (s s2 s3 : State) (p : Place)
        → LoweredStatement names consequent (if_begun s) s2
        → Lowered names test (if_consequent (if_at s at.span false) s2 (span_of consequent)) s3 p
        → LoweredStatement names (Node at word.If (Then test (Then consequent (Then Absent End)))) s
        (if_ended (if_after_consequent (if_at s at.span false) s2) s3 p)
    IfElse : (at : At) (test consequent alternate : Syntax) (s s2 s3 s4 : State) (p : Place)
        → LoweredStatement names consequent (if_begun s) s2
        → LoweredStatement names alternate (if_consequent (if_at s at.span true) s2 (span_of consequent)) s3
        → Lowered names test
        (if_alternate (if_after_consequent (if_at s at.span true) s2) s3 (span_of alternate)) s4 p
        → LoweredStatement names (Node at word.If (Then test (Then consequent (Then alternate End)))) s
        (if_ended (if_shut (if_after_consequent (if_at s at.span true) s2)) s4 p)
    -- A loop without a label, and one that has the label right in front of it.
    Unlabeled : (loop : Syntax) (s t : State) → LoweredLoop names None loop s t → LoweredStatement names loop s t
    LabeledLoop : (at : At) (label : List ℕ) (loop : Syntax) (s t : State) → LoweredLoop names (Some label) loop s t
        → LoweredStatement names (Node at word.Labeled (Then (Said label) (Then loop End))) s t
    -- Another statement under a label.
    Labeled : (at : At) (label : List ℕ) (body : Syntax) (s s2 : State) → is_loop body ≡ false
        → LoweredStatement names body (label_begun s label) s2
        → LoweredStatement names (Node at word.Labeled (Then (Said label) (Then body End))) s
        (label_ended (label_at s at.span) s2 (span_of body))
    -- A jump goes to its target, and what follows stands in a fresh block, which is unreachable.
    Break : (at : At) (label : Label) (target : BlockId) (s : State) → lookup_break s.scopes label ≡ Ok target
        → LoweredStatement names (Node at word.Break (Then (label_part label) End)) s
        (next_hole s target.0 gotos.Break at.span blocks.Block)
    Continue : (at : At) (label : Label) (target : BlockId) (s : State) → lookup_continue s.scopes label ≡ Ok target
        → LoweredStatement names (Node at word.Continue (Then (label_part label) End)) s
        (next_hole s target.0 gotos.Continue at.span blocks.Block)
    -- A `switch`: its cases from the last to the first, and then its value.
    Switch : (at : At) (value : Syntax) (cases : Pieces) (ks : List Case) (s t u : State) (p : Place)
        → LoweredCases names s cases ks t → Lowered names value t u p
        → LoweredStatement names (Node at word.Switch (Then value (Then (Listed cases) End))) s
        (switch_finished u s.env.next_block ks p at.span)
    -- A `try` statement: its handler, and then its block. A `catch` has no parameter, or a name.
    TryPlain : (at there : At) (block body : Syntax) (s s2 s3 : State)
        → LoweredStatement names body (try_started s None) s2
        → LoweredStatement names block (try_caught (try_at s at.span None) s2 there.span) s3
        → LoweredStatement names
        (Node at word.Try (Then block (Then (Node there word.Catch (Then Absent (Then body End))) (Then Absent End)))) s
        (try_ended (try_after (try_at s at.span None) s2) s3 (span_of block))
    TryBound : (at there bind : At) (name : List ℕ) (type block body : Syntax) (symbol : SymbolId) (identifier : ℕ) (s s2 s3 : State)
        → IsAnnotation type → names.declared bind.id.0 ≡ Some symbol
        → IsFound names (catch_begun s bind.span) symbol bind.span identifier
        → LoweredStatement names body (catch_bound names s symbol identifier bind.span) s2
        → LoweredStatement names block (try_caught (catch_at s at.span bind.span) s2 there.span) s3
        → LoweredStatement names
        (Node at word.Try
        (Then block
        (Then (Node there word.Catch (Then (Node bind word.Bind (Then (Said name) (Then type End))) (Then body End))) (Then Absent End)))) s
        (try_ended (try_after (catch_at s at.span bind.span) s2) s3 (span_of block))
    -- A finalizer behind a `catch` (row F35), without which the statement was lowered.
    Finalized : (at there : At) (block param body finalizer : Syntax) (s t : State) → is_absent finalizer ≡ false
        → LoweredStatement names
        (Node at word.Try (Then block (Then (Node there word.Catch (Then param (Then body End))) (Then Absent End))))
        (recorded s (refusal row.F35 at.span)) t
        → LoweredStatement names
        (Node at word.Try (Then block (Then (Node there word.Catch (Then param (Then body End))) (Then finalizer End)))) s t
    -- A `try` statement without a `catch` (row F34).
    Uncaught : (at : At) (block finalizer : Syntax) (s : State)
        → LoweredStatement names (Node at word.Try (Then block (Then Absent (Then finalizer End)))) s (recorded s (refusal row.F34 at.span))
    -- A `with` statement (row F36).
    With : (at : At) (fields : Pieces) (s : State)
        → LoweredStatement names (Node at word.With fields) s (recorded s (refusal row.F36 at.span))

  -- The cases of a `switch` that began at `begun` were lowered, the last one first: the builder stands at `new`.
  pub data LoweredCases (names : Names) : (begun : State) → Pieces → List Case → (new : State) → Type 0 where
    NoCase : (s : State) → LoweredCases names s End [] (switch_begun s)
    NextCase : (at : At) (test : Syntax) (statements cases : Pieces) (ks : List Case) (s x y z : State) (p : Option Place)
        → LoweredCases names s cases ks x
        → LoweredStatements names statements (case_begun x None s.env.next_block) y
        → LoweredCaseTest names test (case_ended y (fall_of s.env.next_block ks) x.current at.span) z p
        → LoweredCases names s (Then (Node at word.Case (Then test (Then (Listed statements) End))) cases)
        (record { test = p; block = block_id x.env.next_block } ∷ ks) z

  -- A loop was lowered, with a label of its own or none: its body before its test.
  pub data LoweredLoop (names : Names) : (own : Label) → Syntax → (old new : State) → Type 0 where
    While : {own : Label} (at : At) (test body : Syntax) (s s2 s3 : State) (p : Place)
        → LoweredStatement names body (while_begun s own) s2
        → Lowered names test (while_bodied (while_at s at.span) s2 (span_of body)) s3 p
        → LoweredLoop names own (Node at word.While (Then test (Then body End))) s (while_ended (while_after (while_at s at.span)) s3 p)
    DoWhile : {own : Label} (at : At) (test body : Syntax) (s s2 s3 : State) (p : Place)
        → LoweredStatement names body (while_begun s own) s2
        → Lowered names test (do_while_bodied (while_at s at.span) s2 (span_of body)) s3 p
        → LoweredLoop names own (Node at word.Dowhile (Then body (Then test End))) s (while_ended (while_after (while_at s at.span)) s3 p)
    ForUpdated : {own : Label} (at : At) (init test update body : Syntax) (s s2 s3 s4 s5 : State) (u p : Place)
        → LoweredInit names at.span init (for_begun s) s2
        → Lowered names update (for_inited (for_at s at.span own true) s2 (part_span at.span init)) s3 u
        → LoweredStatement names body (for_updated (for_after_init (for_at s at.span own true) s2) s3 (span_of update)) s4
        → LoweredTest names at.span test
        (for_bodied (for_after_update (for_after_init (for_at s at.span own true) s2) s3) s4 (span_of body)) s5 p
        → LoweredLoop names own (Node at word.For (Then init (Then test (Then update (Then body End))))) s
        (for_ended (for_after (for_after_update (for_after_init (for_at s at.span own true) s2) s3)) s5 p)
    -- Without an update.
    ForPlain : {own : Label} (at : At) (init test body : Syntax) (s s2 s3 s4 : State) (p : Place)
        → LoweredInit names at.span init (for_begun s) s2
        → LoweredStatement names body (for_inited (for_at s at.span own false) s2 (part_span at.span init)) s3
        → LoweredTest names at.span test (for_bodied (for_after_init (for_at s at.span own false) s2) s3 (span_of body)) s4 p
        → LoweredLoop names own (Node at word.For (Then init (Then test (Then Absent (Then body End))))) s
        (for_ended (for_after (for_after_init (for_at s at.span own false) s2)) s4 p)
    ForIn : {own : Label} (at : At) (head right body : Syntax) (s s2 s3 s4 : State) (collection p : Place)
        → LoweredStatement names body (forin_begun s own) s2
        → Lowered names right (rounds_bodied (forin_at s at.span) s2 (span_of body)) s3 collection
        → LoweredHead names (forin_key (rounds_shut (forin_at s at.span)) s3 (span_of head)) head
        (forin_righted (rounds_shut (forin_at s at.span)) s3 (span_of head) collection) s4 p
        → LoweredLoop names own (Node at word.Forin (Then head (Then right (Then body End)))) s
        (rounds_ended (rounds_opened (rounds_shut (forin_at s at.span))) s4 p)
    ForOf : {own : Label} (at : At) (head right body : Syntax) (s s2 s3 s4 : State) (collection p : Place)
        → LoweredStatement names body (forof_begun s own) s2
        → Lowered names right (forof_bodied (forof_at s at.span) s2 (span_of body)) s3 collection
        → LoweredHead names (forof_item (forof_shut (forof_at s at.span)) s3 (span_of head) collection) head
        (forof_righted (forof_shut (forof_at s at.span)) s3 (span_of head) collection) s4 p
        → LoweredLoop names own (Node at word.Forof (Then (Flag false) (Then head (Then right (Then body End))))) s
        (forof_ended (forof_after (forof_shut (forof_at s at.span))) s4 p)
    -- `for await` (row F33).
    AwaitRefused : {own : Label} (at : At) (head right body : Syntax) (s : State)
        → LoweredLoop names own (Node at word.Forof (Then (Flag true) (Then head (Then right (Then body End))))) s
        (recorded s (refusal row.F33 at.span))

  -- The init of a `for` loop with the span `at` was lowered: undefined stands for an absent one, and an expression is refused (row F31).
  pub data LoweredInit (names : Names) : (at : Span) → Syntax → (old new : State) → Type 0 where
    NoInit : {at : Span} (s : State) → LoweredInit names at Absent s (with_value s (values.Primitive primitives.Undefined) (Some at))
    DeclaredInit : {at : Span} (there : At) (fields : Pieces) (s t : State) → LoweredStatement names (Node there word.Var fields) s t
        → LoweredInit names at (Node there word.Var fields) s t
    RefusedInit : {at : Span} (e : Syntax) (s t : State) (p : Place) → Lowered names e (recorded s (refusal row.F31 at)) t p
        → LoweredInit names at e s t

  -- Statements were lowered in order.
  pub data LoweredStatements (names : Names) : Pieces → (old new : State) → Type 0 where
    NoStatement : (s : State) → LoweredStatements names End s s
    NextStatement : (e : Syntax) (es : Pieces) (s t u : State) → LoweredStatement names e s t → LoweredStatements names es t u
        → LoweredStatements names (Then e es) s u

-- A function's body was lowered up to its end. The value of an expression is returned; the block behind that return is numbered first.
pub data LoweredBody (names : Names) : Syntax → (old new : State) → Type 0 where
  Statements : (at : At) (directives statements : Pieces) (s t : State) → every sort.Text directives ≡ true
      → LoweredStatements names statements s t
      → LoweredBody names (Node at word.Body (Then (Listed directives) (Then (Listed statements) End))) s t
  Value : (e : Syntax) (s t : State) (p : Place) → Lowered names e (reserved s) t p
      → LoweredBody names e s (completed_by t (return_of None returns.Implicit p) (new_block s.env.next_block blocks.Block))
