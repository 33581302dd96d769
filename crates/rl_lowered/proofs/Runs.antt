-- Lowered expressions have the runs of the source, where nothing of them was refused.
use Rattle.std.proofs.Common.{◌≡◌, ℕ, ◌++◌, ◌&&◌, Bool, true, false, if◌then◌else◌, is_some, List, [], ◌∷◌, length, map, true≢false}
use Rattle.std.proofs.Common.{codes, Option, Some, refl, sym, ap, ◌∙◌, subst}
use Rattle.rl_base.specs.Operators.{logical_text, operator_text, update_text}
use Rattle.rl_base.specs.declared.operator.LogicalOperator.{LogicalOperator}
use Rattle.rl_base.specs.declared.operator.LogicalOperator.TheVariants as logical
use Rattle.rl_base.specs.declared.operator.UpdateOperator.{UpdateOperator}
use Rattle.rl_base.specs.declared.operator.UpdateOperator.TheVariants as updates
use Rattle.rl_base.specs.declared.type_kind.TypeKind.{TypeKind}
use Rattle.rl_base.specs.declared.type_kind.TypeKind.TheVariants as types
use Rattle.rl_builder.specs.Temporaries.{temporary, with_value}
use Rattle.rl_frames.proofs.Logicals.{logical_runs}
use Rattle.rl_frames.proofs.Meant.{and_meant, coalesce_meant, cond_meant, or_meant}
use Rattle.rl_frames.proofs.Sequences.{sequence_runs}
use Rattle.rl_frames.proofs.Ternaries.{ternary_runs}
use Rattle.rl_frames.specs.Meanings.{connected}
use Rattle.rl_hir.specs.declared.instruction.InstructionKind.TheVariants as kinds
use Rattle.rl_hir.specs.declared.instruction.InstructionValue.TheVariants as values
use Rattle.rl_hir.specs.declared.instruction.NonLocalBinding.{NonLocalBinding}
use Rattle.rl_hir.specs.declared.instruction.NonLocalBinding.TheVariants as bindings
use Rattle.rl_hir.specs.declared.instruction.ObjectProperty.{ObjectProperty}
use Rattle.rl_hir.specs.declared.instruction.PlaceOrSpread.{PlaceOrSpread}
use Rattle.rl_hir.specs.declared.instruction.PrimitiveValue.{PrimitiveValue}
use Rattle.rl_hir.specs.declared.instruction.PrimitiveValue.TheVariants as primitives
use Rattle.rl_hir.specs.declared.instruction.PropertyLiteral.TheVariants as keys
use Rattle.rl_hir.specs.Instructions.{binding_texts}
use Rattle.rl_hir.specs.Pieces.{argument_pieces, gathered, property_pieces, texts}
use Rattle.rl_lowered.proofs.ApartRuns.{defaulted_whole, lost_whole, pattern_assigned, taking_run}
use Rattle.rl_lowered.proofs.AssignmentRuns.{assigned_member_runs, behind_runs, combined, combined_runs, compound_member_runs}
use Rattle.rl_lowered.proofs.AssignmentRuns.{name_compound, name_written, outer_runs, reloaded_runs, variable_runs}
use Rattle.rl_lowered.proofs.Blocks.{all_blocks, expression_blocks, front_blocks, last_blocks, later_blocks, moved_blocks, target_blocks}
use Rattle.rl_lowered.proofs.BoundSlots.{AreClean}
use Rattle.rl_lowered.proofs.ChainRuns.{LinkRuns, alone_front, asserted_never, call_hands, call_link, call_means, call_runs, front_action}
use Rattle.rl_lowered.proofs.ChainRuns.{front_identifiers, front_unlinked, link_front, link_lends, link_means, links_of_all}
use Rattle.rl_lowered.proofs.ChainRuns.{method_front_runs, property_hands, property_link, property_means, property_runs}
use Rattle.rl_lowered.proofs.Clean.{assigned_pattern_clean, constant_head_never, moved_never}
use Rattle.rl_lowered.proofs.Clean.{assigned_clean, assigned_member_clean, branches_clean, cast_clean, compound_clean}
use Rattle.rl_lowered.proofs.Clean.{compound_member_clean, computed_row_clean, constant_assigned_never, constant_compound_never}
use Rattle.rl_lowered.proofs.Clean.{constant_update_never, first_none, form_clean, fraction_row_never, method_clean, outer_never}
use Rattle.rl_lowered.proofs.Clean.{private_assigned_never, private_clean, private_never, property_row_clean, refused_never, refusing_never}
use Rattle.rl_lowered.proofs.Clean.{second_none, unknown_row_never, updated_member_clean, wrapper_clean}
use Rattle.rl_lowered.proofs.CleanChains.{asserted_clean, below_off, broken_never, call_link_clean, method_front_clean}
use Rattle.rl_lowered.proofs.CleanChains.{private_link_never, property_link_clean, spine_below, spine_place}
use Rattle.rl_lowered.proofs.Common.{At, BlockId, End, Names, Node, Piece, Pieces, Place, Said, Span, State, SymbolId, Syntax, Then}
use Rattle.rl_lowered.proofs.Forms.{event_with, form_acts, form_event, given_values, identifiers_in, key_by, load_acts, object_acts, store_acts}
use Rattle.rl_lowered.proofs.ItemBlocks.{ahead_stays, taken_stays}
use Rattle.rl_lowered.proofs.Keys.{HasText, Name, has_text}
use Rattle.rl_lowered.proofs.Meant.{form_means, member_means, private_compound_never, private_member_never}
use Rattle.rl_lowered.proofs.Plain.{all_shapes, first_value, lowered_plain}
use Rattle.rl_lowered.proofs.Refusals.{member_whole}
use Rattle.rl_lowered.proofs.SlotRuns.{NextRun, NoneRun, RunsLater, on_dropped, then_on}
use Rattle.rl_lowered.proofs.TakenSlots.{taken_slots}
use Rattle.rl_lowered.proofs.TargetForms.{defaulted_clean, defaulted_means, lost_target_never, member_takes, member_target_clean}
use Rattle.rl_lowered.proofs.TargetForms.{taking_clean}
use Rattle.rl_lowered.proofs.TargetMoves.{asked_pattern, pattern_same, variable_pattern}
use Rattle.rl_lowered.specs.Forms.{IsCast, IsLiteral, IsMember, IsWrapper, MemberKey, load_of, places_in, store_of, type_of, typed}
use Rattle.rl_lowered.specs.Forms.{Alone, Front, call_of, handed_on, is_property, tested_front}
use Rattle.rl_lowered.specs.Forms.{As, Boolean, Computed, Fixed, Indexed, Null, Number, Numbered, Parenthesized, Static, String}
use Rattle.rl_lowered.specs.Items.{Later, variable_at}
use Rattle.rl_lowered.specs.Lowered.{AssignedPattern, LoweredLater, LoweredMoved, LoweredTarget, Moved, NextLater, NoLater, Stays, TargetConstant}
use Rattle.rl_lowered.specs.Lowered.{TargetDefaulted, TargetGlobal, TargetLost, TargetMember, TargetPattern, TargetVariable}
use Rattle.rl_lowered.specs.Lowered.{Asked, Cast, Conditional, EarlierPart, Global, LastPart, Literal, Logical, Lowered, LoweredLast}
use Rattle.rl_lowered.specs.Lowered.{LoweredParts, Method, NextComputed, NextFraction, NextHole, NextPart, NextProperty, NextSpread}
use Rattle.rl_lowered.specs.Lowered.{NextUnknown, NoPart, Object, Private, Refused, RefusedBefore, RefusedBehind, RefusedGlobal, Same}
use Rattle.rl_lowered.specs.Lowered.{AssignedConstant, AssignedGlobal, AssignedMember, AssignedPrivate, AssignedVariable}
use Rattle.rl_lowered.specs.Lowered.{CompoundConstant, CompoundGlobal, CompoundMember, CompoundPrivate, CompoundVariable}
use Rattle.rl_lowered.specs.Lowered.{Asserted, Broken, Chain, FrontAlone, FrontBroken, FrontLink, FrontMethod, LinkedCall, LinkedPrivate}
use Rattle.rl_lowered.specs.Lowered.{LinkedProperty, LoweredFront, LoweredLink, LoweredSpine, Outermost}
use Rattle.rl_lowered.specs.Lowered.{Sequence, UpdatedConstant, UpdatedMember, UpdatedVariable, Variable}
use Rattle.rl_lowered.specs.Lowered.{binary_of, member_one, member_result, member_stored, name_computed, update_of, value_span}
use Rattle.rl_lowered.specs.Named.{IsFound, found}
use Rattle.rl_machine.specs.Acts.{Asks, act, gives}
use Rattle.rl_machine.specs.declared.trace.Answer.{Answer}
use Rattle.rl_machine.specs.declared.trace.Event.{Event}
use Rattle.rl_machine.specs.declared.trace.Value.{Value}
use Rattle.rl_machine.specs.Traces.{Store, ValueCont, World, fired, set_open}
use Rattle.rl_machine.specs.declared.trace.Value.TheVariants as value
use Rattle.rl_model.specs.Actions.{Action, Ways, ◌>>=◌, ◌>>◌, ask, chained, done, give, no_meaning}
use Rattle.rl_model.specs.Events.{event, global, load, store_global, store_in}
use Rattle.rl_model.specs.Expressions.{assign_to, write}
use Rattle.rl_model.specs.Expressions.{call_kind, callee, eval, eval_last, first_piece, one_value, place, property_key, read}
use Rattle.rl_model.specs.Expressions.{update_name, update_property, values as values_in}
use Rattle.rl_model.specs.Scene.{Scene}
use Rattle.rl_model.specs.Shapes.{first_character, is_computed, key_text, lends_receiver, shapes}
use Rattle.rl_names.specs.declared.names.Meaning.{Meaning}
use Rattle.rl_names.specs.declared.names.Meaning.TheVariants.{Local, Outer}
use Rattle.rl_optional_frames.proofs.DefaultBlocks.{default_blocks}
use Rattle.rl_optional_frames.proofs.DefaultRuns.{default_runs}
use Rattle.rl_optional_frames.proofs.Taken.{links_same, pattern_runs}
use Rattle.rl_optional_frames.specs.Frames.{default_at, default_ended, link_at, link_objected}
use Rattle.rl_optional_frames.specs.Meanings.{defaulted}
use Rattle.rl_promises.specs.Chains.{Below, Spine, Top, below_link}
use Rattle.rl_promises.specs.Moved.{said_of_moved}
use Rattle.rl_promises.specs.Patterns.{is_pattern}
use Rattle.rl_promises.specs.Rows.{refusals, refusals_by, refusals_in, refusals_to}
use Rattle.rl_runs.proofs.Expressions.{all_asked, literal_runs, means_same, next_runs, none_run}
use Rattle.rl_runs.proofs.Links.{link_plain, links_one}
use Rattle.rl_runs.proofs.Moves.{extends_refl, extends_resolved, extends_then, extends_value}
use Rattle.rl_runs.proofs.Preserving.{blocks_then, blocks_value}
use Rattle.rl_runs.proofs.Properties.{method_runs, property_postfix_runs, property_prefix_runs}
use Rattle.rl_runs.proofs.Types.{cast_runs, variable_cast_runs}
use Rattle.rl_runs.proofs.Variables.{postfix_runs, prefix_runs, read_runs}
use Rattle.rl_runs.specs.Facts.{Extends}
use Rattle.rl_runs.specs.Simulation.{RunsAll, RunsExpression, RunsLinks, RunsOn, RunsPattern}
use Rattle.rl_syntax.specs.declared.word.Word.{Word}
use Rattle.rl_syntax.specs.declared.word.Word.TheVariants as word
use Rattle.rl_syntax.specs.Syntax.{Listed, Flag, span_of}
use Rattle.rl_text.specs.Numeral.{number_of}

-- Literals, wrappers and names.

wrapper_runs : {w : Word} {fields : Pieces} {e : Syntax} → IsWrapper w fields e → (at : At) (scene : Scene) (s t : State) (identifier : ℕ)
    → RunsExpression scene.world (eval scene e) s t identifier
    → RunsExpression scene.world (eval scene (Node at w fields)) s t identifier
wrapper_runs Parenthesized at scene s t identifier r = r
wrapper_runs _ at scene s t identifier r = r

cast_means : {w : Word} {fields : Pieces} {e type : Syntax} → IsCast w fields e type → (at : At) (scene : Scene) (s t : State)
    (identifier : ℕ) → RunsExpression scene.world (eval scene e) s t identifier
    → RunsExpression scene.world (eval scene (Node at w fields)) s t identifier
cast_means As at scene s t identifier r = r
cast_means _ at scene s t identifier r = r

typed_runs : (world : World) (s t : State) (d : Action Value) (p : Place) (k : TypeKind) (there span : Span) → Extends s t
    → RunsExpression world d s t p.identifier.0
    → RunsExpression world d s (with_value (typed t k) (values.TypeCastExpression p (type_of t k) (Some there)) (Some span))
    (length (typed t k).env.identifiers)
typed_runs world s t d p types.Array there span g r = cast_runs world s t d p (type_of t types.Array) (Some there) (Some span) g r
typed_runs world s t d p types.Primitive there span g r = cast_runs world s t d p (type_of t types.Primitive) (Some there) (Some span) g r
typed_runs world s t d p types.Other there span g r = variable_cast_runs world s t d p (type_of t types.Other) (Some there) (Some span) g r

literal_means : {w : Word} {fields : Pieces} {p : PrimitiveValue} → IsLiteral w fields p → (at : At) (scene : Scene) (s : State)
    → RunsExpression scene.world (eval scene (Node at w fields)) s (with_value s (values.Primitive p) (Some at.span))
    (length s.env.identifiers)
literal_means Null at scene s = literal_runs scene.world s _ primitives.Null (Some at.span) (λ ways k source answers. refl)
literal_means (Boolean {flag}) at scene s =
    literal_runs scene.world s _ (primitives.Boolean flag) (Some at.span) (λ ways k source answers. refl)
literal_means (String {text}) at scene s =
    literal_runs scene.world s _ (primitives.String text) (Some at.span) (λ ways k source answers. refl)
literal_means (Number {text} numeral) at scene s =
    literal_runs scene.world s _ (primitives.Number (number_of text)) (Some at.span)
    (λ ways k source answers. ap (λ (b : Bool). (if b then give (value.Number (number_of text)) else no_meaning) ways k source answers)
    numeral)

-- A name of a variable reads the variable, and any other asks for it.
name_means : (scene : Scene) (names : Names) (at : At) (name : List ℕ) (m : Meaning) → scene.names ≡ names
    → names.meaning at.reference.0 name ≡ m
    → eval scene (Node at word.Id (Then (Said name) End)) ≡ read scene m
name_means scene names at name m same is =
    ap (λ (n : Names). read scene (n.meaning at.reference.0 name)) same ∙ ap (λ (o : Meaning). read scene o) is

twice : (names : Names) (s : State) (symbol : SymbolId) (there : Span) (identifier : ℕ) → IsFound names s symbol there identifier
    → IsFound names (found names s symbol there) symbol there identifier
    → Extends s (found names (found names s symbol there) symbol there)
twice names s symbol there identifier f g =
    extends_then (extends_resolved s (names.name symbol.0) symbol.0 (Some there) f.agree)
    (extends_resolved (found names s symbol there) (names.name symbol.0) symbol.0 (Some there) g.agree)

-- A variable is updated, behind its two look-ups.
updated_runs : (scene : Scene) (names : Names) (s : State) (symbol : SymbolId) (there : Span) (identifier : ℕ) (operator : UpdateOperator)
    (prefix : Bool) (span : Option Span) → IsFound names s symbol there identifier
    → IsFound names (found names s symbol there) symbol there identifier
    → RunsExpression scene.world (update_name scene prefix (update_text operator) (Local symbol)) s
    (with_value (found names (found names s symbol there) symbol there)
    (update_of prefix operator (record { identifier = record { 0 = identifier }; span = Some there })) span)
    (length (found names (found names s symbol there) symbol there).env.identifiers)
updated_runs scene names s symbol there identifier operator true span f g =
    prefix_runs scene s (found names (found names s symbol there) symbol there) symbol operator
    (record { identifier = record { 0 = identifier }; span = Some there }) span (twice names s symbol there identifier f g) refl g.bound
updated_runs scene names s symbol there identifier operator false span f g =
    postfix_runs scene s (found names (found names s symbol there) symbol there) symbol operator
    (record { identifier = record { 0 = identifier }; span = Some there }) span (twice names s symbol there identifier f g) refl g.bound

global_acts : (binding : NonLocalBinding) (id : ℕ) (store : Store)
    → act id (values.LoadGlobal binding) store ≡ Asks (global (binding_texts binding)) (gives id)
global_acts (bindings.Global name) id store = refl
global_acts _ id store = refl

global_runs : (scene : Scene) (s : State) (binding : NonLocalBinding) (span : Option Span)
    → RunsExpression scene.world (ask scene (global (binding_texts binding))) s (with_value s (values.LoadGlobal binding) span)
    (length s.env.identifiers)
global_runs scene s binding span =
    all_asked scene.world s s (give []) [] (values.LoadGlobal binding) span (extends_refl s) (λ vs. global (binding_texts binding))
    (λ store. global_acts binding (length s.env.identifiers) store) (none_run scene.world s)

-- The operator of a logical expression tells its meaning.
logical_means : (scene : Scene) (at : At) (operator : LogicalOperator) (left right : Syntax) (ways : Ways) (k : ValueCont) (source : Store)
    (answers : List Answer)
    → connected scene.world operator (eval scene left) (eval scene right) ways k source answers
    ≡ eval scene (Node at word.Logical (Then (Said (logical_text operator)) (Then left (Then right End)))) ways k source answers
logical_means scene at logical.And left right ways k source answers = sym (and_meant scene at left right ways k source answers)
logical_means scene at logical.Or left right ways k source answers = sym (or_meant scene at left right ways k source answers)
logical_means scene at logical.Coalesce left right ways k source answers = sym (coalesce_meant scene at left right ways k source answers)

-- A name takes a value.
name_taken : (scene : Scene) (names : Names) (at : At) (name : List ℕ) (m : Meaning) → scene.names ≡ names
    → names.meaning at.reference.0 name ≡ m → (v : Value)
    → (write scene m name v >>= (λ w. done)) ≡ assign_to scene (Node at word.Id (Then (Said name) End)) v
name_taken scene names at name m same is v =
    sym (ap (λ (n : Names). write scene (n.meaning at.reference.0 name) name v >>= (λ w. done)) same
    ∙ ap (λ (x : Meaning). write scene x name v >>= (λ w. done)) is)

-- Updates of properties, and calls of methods.

operator_same : (operator : UpdateOperator) → operator_text (binary_of operator) ≡ first_character (update_text operator)
operator_same updates.Increment = refl
operator_same updates.Decrement = refl

update_means : {w : Word} {fields parts : Pieces} {pieces : List Piece} {object : Place} {key : MemberKey}
    → IsMember w fields parts pieces object key → (scene : Scene) (at there : At) (operator : List ℕ) (prefix : Bool)
    → (place scene (Node there w fields) >>= (λ p. update_property scene prefix operator p.0 p.1))
    ≡ eval scene (Node at word.Update (Then (Said operator) (Then (Flag prefix) (Then (Node there w fields) End))))
update_means Static scene at there operator prefix = refl
update_means _ scene at there operator prefix = refl

stored_property_runs : {w : Word} {fields parts : Pieces} {pieces : List Piece} {object : Place} {key : MemberKey}
    (is : IsMember w fields parts pieces object key) (scene : Scene) (s t : State) (operator : UpdateOperator) (prefix : Bool) (there : Span)
    → Extends s t → RunsAll scene.world (values_in scene parts) s t (identifiers_in pieces)
    → RunsExpression scene.world
    (λ ways k. values_in scene parts ways (λ vs. update_property scene prefix (update_text operator) (first_piece vs) (key_by key vs) ways k))
    s (member_stored t object key operator there) (member_result t object key operator prefix there).identifier.0
stored_property_runs {parts} {pieces} {object} {key} is scene s t operator true there g rs =
    property_prefix_runs scene s t (values_in scene parts) (identifiers_in pieces) first_piece (key_by key) (load_of object key)
    (store_of object key (temporary (member_one t object key there) (Some there))) (binary_of operator) (update_text operator) there g rs
    (λ store. load_acts is (length t.env.identifiers) store)
    (λ store. store_acts is _ (temporary (member_one t object key there) (Some there)) store) (operator_same operator)
stored_property_runs {parts} {pieces} {object} {key} is scene s t operator false there g rs =
    property_postfix_runs scene s t (values_in scene parts) (identifiers_in pieces) first_piece (key_by key) (load_of object key)
    (store_of object key (temporary (member_one t object key there) (Some there))) (binary_of operator) (update_text operator) there g rs
    (λ store. load_acts is (length t.env.identifiers) store)
    (λ store. store_acts is _ (temporary (member_one t object key there) (Some there)) store) (operator_same operator)

-- The callee of a method call gives the object and the function.
callee_means : {w : Word} {fields parts : Pieces} {pieces : List Piece} {object : Place} {key : MemberKey}
    → IsMember w fields parts pieces object key → (scene : Scene) (there : At) → scene.ported ≡ true
    → (place scene (Node there w fields) >>= (λ p. ask scene (load p.0 p.1) >>= (λ f. give (p.0 ∷ f ∷ []))))
    ≡ (if lends_receiver scene (Node there w fields) then callee scene (Node there w fields) else one_value (eval scene (Node there w fields)))
callee_means {fields} Static scene there ported =
    sym (ap (λ (b : Bool). if (if b then true else true) then callee scene (Node there word.Member fields)
    else one_value (eval scene (Node there word.Member fields))) ported)
callee_means {fields} _ scene there ported =
    sym (ap (λ (b : Bool). if (if b then true else true) then callee scene (Node there word.Index fields)
    else one_value (eval scene (Node there word.Index fields))) ported)

method_acts : (object method : Place) (given : List PlaceOrSpread) (pieces : List Piece) → gathered argument_pieces given ≡ pieces
    → (id : ℕ) (store : Store)
    → act id (values.MethodCall (record { receiver = object; property = method; arguments = given })) store
    ≡ Asks (event (codes "methodcall") (texts pieces)
    (store object.identifier.0 ∷ store method.identifier.0 ∷ map store (identifiers_in pieces))) (gives id)
method_acts object method given pieces is id store =
    ap (λ (l : List Value). Asks (event (codes "methodcall") (texts (gathered argument_pieces given))
    (store object.identifier.0 ∷ store method.identifier.0 ∷ l)) (gives id)) (given_values given store)
    ∙ ap (λ (l : List Piece). Asks (event (codes "methodcall") (texts l)
    (store object.identifier.0 ∷ store method.identifier.0 ∷ map store (identifiers_in l))) (gives id)) is

-- The event of the call of a method.
abbrev called_with : List Piece → List Value → Event
called_with pieces vs = event (codes "methodcall") (texts pieces) vs

called_runs : {w : Word} {fields parts : Pieces} {pieces : List Piece} {object : Place} {key : MemberKey}
    (is : IsMember w fields parts pieces object key) (scene : Scene) (s t u : State) (es : Action (List Value)) (more : List Piece)
    (given : List PlaceOrSpread) (there span : Span) → gathered argument_pieces given ≡ more
    → Extends s t → Extends (with_value t (load_of object key) (Some there)) u
    → RunsAll scene.world (values_in scene parts) s t (identifiers_in pieces)
    → RunsAll scene.world es (with_value t (load_of object key) (Some there)) u (identifiers_in more)
    → RunsExpression scene.world
    (λ ways k. values_in scene parts ways (λ vs. ask scene (load (first_piece vs) (key_by key vs)) ways
    (λ f. es ways (λ ws. ask scene (called_with more (first_piece vs ∷ f ∷ ws)) ways k)))) s
    (with_value u (values.MethodCall (record { receiver = object; property = temporary t (Some there); arguments = given })) (Some span))
    (length u.env.identifiers)
called_runs (Static {object = e} {key} {p}) scene s t u es more given there span is g h rs more_rs =
    method_runs scene.world s t u (values_in scene (Then e End)) es p.identifier.0 [] (identifiers_in more) (key_by (Fixed (keys.String key)))
    (load_of p (Fixed (keys.String key))) _ (Some there) (Some span) (called_with more) g h (λ store. refl)
    (λ store. method_acts p (temporary t (Some there)) given more is (length u.env.identifiers) store) rs more_rs
called_runs (Indexed {object = e} {property} {p} {q} other) scene s t u es more given there span is g h rs more_rs =
    method_runs scene.world s t u (values_in scene (Then e (Then property End))) es p.identifier.0 (q.identifier.0 ∷ [])
    (identifiers_in more) (key_by (Computed q)) (load_of p (Computed q)) _ (Some there) (Some span) (called_with more) g h (λ store. refl)
    (λ store. method_acts p (temporary t (Some there)) given more is (length u.env.identifiers) store) rs more_rs
called_runs (Numbered {object = e} {text} {p} numeral) scene s t u es more given there span is g h rs more_rs =
    method_runs scene.world s t u (values_in scene (Then e End)) es p.identifier.0 [] (identifiers_in more)
    (key_by (Fixed (keys.Number (number_of text)))) (load_of p (Fixed (keys.Number (number_of text)))) _ (Some there) (Some span)
    (called_with more) g h (λ store. refl)
    (λ store. method_acts p (temporary t (Some there)) given more is (length u.env.identifiers) store) rs more_rs

-- Properties of object literals.

textual : {computed : Bool} {key : Syntax} {text : List ℕ} → HasText computed key text → is_computed computed key ≡ false
textual (Name at said) = refl
textual _ = refl

-- A key that has a text is not evaluated.
key_silent : (computed : Bool) (key : Syntax) (text : List ℕ) (value : Action Value) → key_text computed key ≡ Some text
    → property_key computed key value ≡ give []
key_silent computed key text value is =
    ap (λ (b : Bool). if b then one_value value else if is_some (key_text computed key) then give [] else no_meaning)
    (textual (has_text computed key text is))
    ∙ ap (λ (o : Option (List ℕ)). if is_some o then give [] else no_meaning) is

property_values : (scene : Scene) (at : At) (computed : Bool) (key e : Syntax) (es : Pieces) (text : List ℕ)
    → key_text computed key ≡ Some text
    → values_in scene (Then (Node at word.Prop (Then (Flag computed) (Then key (Then e End)))) es)
    ≡ (λ ways k. eval scene e ways (λ v. values_in scene es ways (λ vs. k (v ∷ vs))))
property_values scene at computed key e es text is =
    ap (λ (a : Action (List Value)). (a >>= (λ vs. eval scene e >>= (λ v. give (vs ++ v ∷ []))))
    >>= (λ vs. values_in scene es >>= (λ ws. give (vs ++ ws)))) (key_silent computed key text (eval scene key) is)

computed_values : (scene : Scene) (at : At) (key e : Syntax) (es : Pieces) → is_computed true key ≡ true
    → values_in scene (Then (Node at word.Prop (Then (Flag true) (Then key (Then e End)))) es)
    ≡ (λ ways k. eval scene key ways (λ w. eval scene e ways (λ v. values_in scene es ways (λ vs. k (w ∷ v ∷ vs)))))
computed_values scene at key e es is =
    ap (λ (b : Bool). ((if b then one_value (eval scene key) else if is_some (key_text true key) then give [] else no_meaning)
    >>= (λ vs. eval scene e >>= (λ v. give (vs ++ v ∷ []))))
    >>= (λ vs. values_in scene es >>= (λ ws. give (vs ++ ws)))) is

-- An object literal.
object_runs : (scene : Scene) (at : At) (es : Pieces) (pieces : List Piece) (given : List ObjectProperty) (s t : State)
    → gathered property_pieces given ≡ pieces → texts pieces ≡ shapes es → Extends s t
    → RunsAll scene.world (values_in scene es) s t (identifiers_in pieces)
    → RunsExpression scene.world (eval scene (Node at word.Object (Then (Listed es) End))) s
    (with_value t (values.ObjectExpression given) (Some at.span)) (length t.env.identifiers)
object_runs scene at es pieces given s t is shaped g rs =
    means_same scene.world s _ (length t.env.identifiers)
    (λ ways k source answers. ap (λ (l : List (List ℕ)). values_in scene es ways (λ vs. ask scene (event (codes "object") l vs) ways k)
    source answers) (ap texts is ∙ shaped))
    (all_asked scene.world s t (values_in scene es) (identifiers_in pieces) (values.ObjectExpression given) (Some at.span) g
    (event_with (values.ObjectExpression given))
    (λ store. object_acts given (length t.env.identifiers) store
    ∙ ap (λ (l : List Piece). Asks (event_with (values.ObjectExpression given) (map store (identifiers_in l)))
    (gives (length t.env.identifiers))) is)
    rs)

-- The place of an identifier at a span.
abbrev there : ℕ → Span → Place
there identifier span = record { identifier = record { 0 = identifier }; span = Some span }

mutual
  pub expression_runs : {names : Names} {e : Syntax} {s t : State} {p : Place} → Lowered names e s t p → refusals names e ≡ []
      → (scene : Scene) → scene.names ≡ names → scene.ported ≡ true → RunsExpression scene.world (eval scene e) s t p.identifier.0
  expression_runs (Literal at w fields p s is) none scene same ported = literal_means is at scene s
  expression_runs {names} (Refused at w fields r s is) none scene same ported = absurd (refused_never names at is none)
  expression_runs {names} (RefusedBefore at w fields parts r pieces s t is all) none scene same ported =
      absurd (refusing_never names at is none)
  expression_runs {names} (RefusedBehind at object name s t p by) none scene same ported =
      absurd (private_never names at (Flag false) object (Said name) none)
  expression_runs {names} (Private at w fields e s t p is by) none scene same ported =
      absurd (private_member_never is by (private_clean is names at none))
  expression_runs {names} (Variable at name symbol identifier s is f) none scene same ported =
      subst (λ (d : Action Value). RunsExpression scene.world d s
      (with_value (found names s symbol at.span) (values.LoadLocal (there identifier at.span)) (Some at.span))
      (length (found names s symbol at.span).env.identifiers))
      (sym (name_means scene names at name (Local symbol) same is))
      (read_runs scene.world s (names.name symbol.0) symbol.0 (Some at.span) (there identifier at.span) (Some at.span) f.agree f.bound)
  expression_runs {names} (UpdatedVariable at inner name symbol identifier operator prefix s is mutable f g) none scene same ported =
      subst (λ (d : Action Value). RunsExpression scene.world d s
      (with_value (found names (found names s symbol inner.span) symbol inner.span) (update_of prefix operator (there identifier inner.span))
      (Some at.span))
      (length (found names (found names s symbol inner.span) symbol inner.span).env.identifiers))
      (sym (ap (λ (n : Names). update_name scene prefix (update_text operator) (n.meaning inner.reference.0 name)) same
      ∙ ap (λ (m : Meaning). update_name scene prefix (update_text operator) m) is))
      (updated_runs scene names s symbol inner.span identifier operator prefix (Some at.span) f g)
  expression_runs {names} (UpdatedConstant at inner name symbol identifier operator prefix s is constant f) none scene same ported =
      absurd (constant_update_never names at inner operator prefix name symbol is constant none)
  expression_runs {names} (UpdatedMember at inner w fields parts pieces object key operator prefix s t is all) none scene same ported =
      let clean = updated_member_clean is names at inner (Said (update_text operator)) (Flag prefix) none in
      means_same scene.world s _ _
      (λ ways k source answers.
      member_means is all clean scene inner ways (λ p. update_property scene prefix (update_text operator) p.0 p.1 ways k) source answers
      ∙ ap (λ (a : Action Value). a ways k source answers) (update_means is scene at inner (update_text operator) prefix))
      (stored_property_runs is scene s t operator prefix inner.span (all_blocks all).extends (all_runs all clean scene same ported))
  expression_runs {names} (AssignedVariable at inner name right symbol identifier s t p is mutable by f) none scene same ported =
      means_same scene.world s _ (length (found names t symbol inner.span).env.identifiers)
      (λ ways k source answers. ap (λ (a : Action Value). a ways k source answers)
      (name_written scene names inner name (Local symbol) same is (eval scene right)))
      (variable_runs scene names s t (eval scene right) symbol name inner.span identifier p (Some inner.span)
      (expression_blocks by).extends f
      (expression_runs by (assigned_clean names at (Node inner word.Id (Then (Said name) End)) right refl none).0 scene same ported))
  expression_runs {names} (AssignedConstant at inner name right symbol identifier s t p is constant by f) none scene same ported =
      absurd (constant_assigned_never names at inner name right symbol is constant none)
  expression_runs {names} (AssignedGlobal at inner name right binding s t p is by) none scene same ported =
      means_same scene.world s _ (length t.env.identifiers)
      (λ ways k source answers. ap (λ (a : Action Value). a ways k source answers)
      (name_written scene names inner name (Outer binding) same is (eval scene right)))
      (outer_runs scene s t (eval scene right) binding name p (Some inner.span) (expression_blocks by).extends
      (expression_runs by (assigned_clean names at (Node inner word.Id (Then (Said name) End)) right refl none).0 scene same ported))
  expression_runs {names} (AssignedMember at inner w fields parts pieces object key right s t u p is by all) none scene same ported =
      let clean = assigned_member_clean is names at inner right none in
      assigned_member_runs is scene at inner right s t u p ported all clean.1 (expression_blocks by).extends (all_blocks all).extends
      (expression_runs by clean.0 scene same ported) (all_runs all clean.1 scene same ported)
  expression_runs {names} (AssignedPrivate at inner object name right s t u p q by more) none scene same ported =
      absurd (private_assigned_never names at inner object name right none)
  expression_runs {names} (AssignedPattern at inner w fields right s t u p q is by d) none scene same ported =
      let target : Syntax = Node inner w fields in
      let clean = assigned_pattern_clean names at target right is none in
      means_same scene.world s u q.identifier.0
      (λ ways k source answers. ap (λ (a : Action Value). a ways k source answers) (pattern_assigned scene at inner w fields right is))
      (then_on scene.world s t u (eval scene right) (λ v. assign_to scene target v >> give v) p.identifier.0 q.identifier.0
      (expression_blocks by).extends (target_blocks d).extends (expression_runs by clean.0 scene same ported)
      (on_target_runs d is clean.1 scene same ported))
  expression_runs {names} (CompoundVariable at inner name operator applied right symbol identifier s t u q p is mutable applies by more f)
      none scene same ported =
      let target : Syntax = Node inner word.Id (Then (Said name) End) in
      let clean = compound_clean names at target right operator applied applies refl none in
      let g : Extends s u = extends_then (expression_blocks by).extends (expression_blocks more).extends in
      means_same scene.world s _ _
      (λ ways k source answers. ap (λ (a : Action Value). a ways k source answers)
      (name_compound scene names at inner name (Local symbol) operator applied right same is applies))
      (reloaded_runs scene names s u (combined scene applied (eval scene target) (eval scene right)) symbol name applied q p at.span
      inner.span identifier g f
      (combined_runs scene s t u (eval scene target) (eval scene right) applied q p at.span (expression_blocks by).extends
      (expression_blocks more).extends (expression_runs by clean.0 scene same ported) (expression_runs more clean.1 scene same ported)))
  expression_runs {names} (CompoundConstant at inner name operator applied right symbol identifier s t u q p is constant applies by more f)
      none scene same ported =
      absurd (constant_compound_never names at inner name right operator applied applies symbol is constant none)
  expression_runs {names} (CompoundGlobal at inner name operator applied right binding s t u q p is applies by more) none scene same
      ported =
      let target : Syntax = Node inner word.Id (Then (Said name) End) in
      let clean = compound_clean names at target right operator applied applies refl none in
      let g : Extends s u = extends_then (expression_blocks by).extends (expression_blocks more).extends in
      means_same scene.world s _ _
      (λ ways k source answers. ap (λ (a : Action Value). a ways k source answers)
      (name_compound scene names at inner name (Outer binding) operator applied right same is applies))
      (outer_runs scene s (name_computed u applied q p at.span) (combined scene applied (eval scene target) (eval scene right)) binding name
      (temporary u (Some at.span)) (Some at.span) (extends_then g (extends_value u _ (Some at.span)))
      (combined_runs scene s t u (eval scene target) (eval scene right) applied q p at.span (expression_blocks by).extends
      (expression_blocks more).extends (expression_runs by clean.0 scene same ported) (expression_runs more clean.1 scene same ported)))
  expression_runs {names} (CompoundMember at inner w fields parts pieces object key operator applied right s t u p is applies all by) none
      scene same ported =
      let clean = compound_member_clean is names at inner right operator applied applies none in
      compound_member_runs is scene at inner operator applied right s t u p applies all clean.0 (all_blocks all).extends
      (expression_blocks by).extends (all_runs all clean.0 scene same ported) (expression_runs by clean.1 scene same ported)
  expression_runs {names} (CompoundPrivate at inner fields operator applied right s t u q p applies by more) none scene same ported =
      absurd (private_compound_never at inner fields right operator applied applies by none)
  expression_runs {names} (Method at inner w fields parts es pieces given_pieces object key given s t u is all more given_are) none
      scene same ported =
      let clean = method_clean is names at inner es none in
      means_same scene.world s _ (length u.env.identifiers)
      (λ ways k source answers.
      member_means is all clean.0 scene inner ways
      (λ p. ask scene (load p.0 p.1) ways
      (λ f. values_in scene es ways (λ ws. ask scene (called_with given_pieces (p.0 ∷ f ∷ ws)) ways k))) source answers
      ∙ ap (λ (l : List (List ℕ)). place scene (Node inner w fields) ways (λ p. ask scene (load p.0 p.1) ways
      (λ f. values_in scene es ways (λ ws. ask scene (event (codes "methodcall") l (p.0 ∷ f ∷ ws)) ways k))) source answers)
      (all_shapes more clean.1)
      ∙ ap (λ (a : Action (List Value)). a ways
      (λ head. values_in scene es ways (λ vs. ask scene (event (call_kind head) (shapes es) (head ++ vs)) ways k)) source answers)
      (callee_means is scene inner ported))
      (called_runs is scene s t u (values_in scene es) given_pieces given inner.span at.span given_are (all_blocks all).extends
      (all_blocks more).extends (all_runs all clean.0 scene same ported) (all_runs more clean.1 scene same ported))
  expression_runs {names} (Cast at inner w fields e type k s t p is annotated by) none scene same ported =
      cast_means is at scene s _ (length (typed t k).env.identifiers)
      (typed_runs scene.world s t (eval scene e) p k inner.span at.span (expression_blocks by).extends
      (expression_runs by (cast_clean is names at none) scene same ported))
  expression_runs {names} (Object at es pieces properties s t is all) none scene same ported =
      let clean = first_none (refusals_in names es) [] none in
      object_runs scene at es pieces properties s t is (all_shapes all clean) (all_blocks all).extends (all_runs all clean scene same ported)
  expression_runs {names} (Global at name binding s is other) none scene same ported =
      subst (λ (d : Action Value). RunsExpression scene.world d s (with_value s (values.LoadGlobal binding) (Some at.span))
      (length s.env.identifiers))
      (sym (name_means scene names at name (Outer binding) same is)) (global_runs scene s binding (Some at.span))
  expression_runs {names} (RefusedGlobal at name binding s is refused) none scene same ported =
      absurd (outer_never names at name binding is refused none)
  expression_runs {names} (Same at w fields e s t p is by) none scene same ported =
      wrapper_runs is at scene s t p.identifier.0 (expression_runs by (wrapper_clean is names at none) scene same ported)
  expression_runs {names} (Asked at w fields parts pieces v s t form all) none scene same ported =
      means_same scene.world s _ (length t.env.identifiers)
      (λ ways k source answers. form_means form all (form_clean form names at none) scene ported at ways k source answers)
      (all_asked scene.world s t (values_in scene parts) (identifiers_in pieces) v (Some at.span) (all_blocks all).extends (form_event form)
      (λ store. form_acts form (length t.env.identifiers) store) (all_runs all (form_clean form names at none) scene same ported))
  expression_runs {names} (Logical at operator left right s s2 s3 l r by_right by_left) none scene same ported =
      means_same scene.world s _ (length s.env.identifiers)
      (λ ways k source answers. logical_means scene at operator left right ways k source answers)
      (logical_runs s s2 s3 operator r l at.span (span_of left) (value_span r right)
      (expression_blocks by_right).extends (expression_blocks by_left).extends
      scene.world (eval scene left) (eval scene right)
      (expression_runs by_right (first_none (refusals names right) (refusals names left) none) scene same ported)
      (expression_runs by_left (second_none (refusals names right) (refusals names left) none) scene same ported))
  expression_runs {names} (Conditional at test consequent alternate s s2 s3 s4 c a p by_consequent by_alternate by_test) none scene same ported =
      means_same scene.world s _ (length s.env.identifiers)
      (λ ways k source answers. sym (cond_meant scene at test consequent alternate ways k source answers))
      (ternary_runs s s2 s3 s4 c a p at.span (span_of consequent) (span_of alternate)
      (expression_blocks by_consequent).extends (expression_blocks by_alternate).extends (expression_blocks by_test).extends
      scene.world (eval scene test) (eval scene consequent) (eval scene alternate)
      (expression_runs by_consequent (branches_clean names consequent alternate test none).0 scene same ported)
      (expression_runs by_alternate (branches_clean names consequent alternate test none).1 scene same ported)
      (expression_runs by_test (branches_clean names consequent alternate test none).2 scene same ported))
  expression_runs {names} (Sequence at e es s s2 p by) none scene same ported =
      sequence_runs s s2 p at.span at.span (last_blocks by).extends scene.world (eval_last scene (Then e es))
      (last_runs by (first_none (refusals_in names (Then e es)) [] none) scene same ported)
  expression_runs {names} (Chain at e s t p by) none scene same ported =
      spine_runs by (first_none (refusals_by names Top e) [] none) scene same ported

  pub moved_runs : {names : Names} {e : Syntax} {s t : State} {p : Place} → LoweredMoved names e s t p → said_of_moved names e ≡ []
      → refusals names e ≡ [] → (scene : Scene) → scene.names ≡ names → scene.ported ≡ true
      → RunsExpression scene.world (eval scene e) s t p.identifier.0
  moved_runs (Stays e s t p is d) unsaid none scene same ported = expression_runs d none scene same ported
  moved_runs {names} (Moved at w fields s t p is d) unsaid none scene same ported = absurd (moved_never names at w fields is unsaid)

  pub target_runs : {names : Names} {at : Span} {value : Place} {e : Syntax} {s t : State} {p : Place}
      → LoweredTarget names at value e s t p → refusals_to names e ≡ [] → (scene : Scene) → scene.names ≡ names → scene.ported ≡ true
      → RunsPattern scene.world (assign_to scene e) s t value.identifier.0
  target_runs {names} {at} {value} (TargetVariable inner name symbol identifier s is mutable f) none scene same ported =
      pattern_same scene.world s _ value.identifier.0
      (λ v ways k source answers. ap (λ (d : Action (Unit {0})). d ways (λ end. k) source answers)
      (name_taken scene names inner name (Local symbol) same is v))
      (variable_pattern scene.world s (found names s symbol inner.span) symbol.0 kinds.Reassign (variable_at identifier at) value (Some at)
      (extends_resolved s (names.name symbol.0) symbol.0 (Some inner.span) f.agree) refl f.bound)
  target_runs {names} (TargetConstant inner name symbol identifier s is constant f) none scene same ported =
      absurd (constant_head_never names inner name symbol is constant none)
  target_runs {names} {at} {value} (TargetGlobal inner name binding s is) none scene same ported =
      pattern_same scene.world s _ value.identifier.0
      (λ v ways k source answers. ap (λ (d : Action (Unit {0})). d ways (λ end. k) source answers)
      (name_taken scene names inner name (Outer binding) same is v))
      (asked_pattern scene.world s s (λ ways k. k []) [] (values.StoreGlobal name value) (Some at) value.identifier.0
      (λ vs v. store_global name v) (extends_refl s) (λ store. refl) (none_run scene.world s))
  target_runs {names} {at} {value} (TargetMember inner w fields parts pieces object key s t is all) none scene same ported =
      let clean = member_target_clean is names inner none in
      pattern_same scene.world s _ value.identifier.0
      (λ v ways k source answers.
      member_means is all clean scene inner ways
      (λ p source answers. fired (set_open scene.world.opens) (store_in p.0 p.1 v) source answers (λ a. k) ways.throws) source answers
      ∙ sym (ap (λ (d : Action (Unit {0})). d ways (λ end. k) source answers) (member_takes is scene inner v)))
      (asked_pattern scene.world s t (values_in scene parts) (identifiers_in pieces) (store_of object key value) (Some at)
      value.identifier.0 (λ vs v. store_in (first_piece vs) (key_by key vs) v) (all_blocks all).extends
      (λ store. store_acts is (length t.env.identifiers) value store) (all_runs all clean scene same ported))
  target_runs {names} (TargetLost inner w fields s is) none scene same ported = absurd (lost_target_never names inner w fields is none)
  target_runs {names} {at} {value} (TargetDefaulted inner w fields target default s t u q p is d dt) none scene same ported =
      let clean = defaulted_clean is names inner none in
      pattern_same scene.world s u value.identifier.0
      (λ v ways k source answers. defaulted_means is scene inner v ways k source answers)
      (pattern_runs scene.world s (default_ended (default_at s inner.span value) t q) u (defaulted scene.world (eval scene default))
      (assign_to scene target) value.identifier.0 (length s.env.identifiers)
      (default_blocks s t q value inner.span (moved_blocks d)).extends (target_blocks dt).extends
      (default_runs s t q value inner.span (moved_blocks d).extends scene.world (eval scene default)
      (moved_runs d clean.0 clean.1 scene same ported))
      (target_runs dt clean.2 scene same ported))
  target_runs {names} {at} {value}
      (TargetPattern inner w of_object forced items rest pattern pieces later s t u v is ahead taken are l) none scene same ported =
      let clean = taking_clean is ahead inner none in
      let r = taken_slots taken clean.ahead clean.behind clean.last clean.plain scene same in
      on_dropped scene.world s v (assign_to scene (Node inner w (Then (Listed items) (Then rest End)))) value.identifier.0
      (length u.env.identifiers)
      (taking_run scene inner v kinds.Reassign pattern value at is (ahead_stays ahead) (taken_stays taken) r clean.plain are
      (later_blocks l).extends
      (later_runs l (subst (λ (n : Names). AreClean (refusals_to n) later) same r.clean) scene same ported))

  -- A pattern takes the value and gives it.
  on_target_runs : {names : Names} {at : Span} {value : Place} {e : Syntax} {s t : State} {p : Place}
      → LoweredTarget names at value e s t p → is_pattern e ≡ true → refusals_to names e ≡ [] → (scene : Scene) → scene.names ≡ names
      → scene.ported ≡ true
      → RunsOn scene.world (λ v. assign_to scene e v >> give v) s t value.identifier.0 p.identifier.0
  on_target_runs (TargetVariable inner name symbol identifier s is mutable f) takes none scene same ported =
      absurd (true≢false (sym takes))
  on_target_runs (TargetConstant inner name symbol identifier s is constant f) takes none scene same ported =
      absurd (true≢false (sym takes))
  on_target_runs (TargetGlobal inner name binding s is) takes none scene same ported = absurd (true≢false (sym takes))
  on_target_runs (TargetMember inner w fields parts pieces object key s t is all) takes none scene same ported =
      absurd (true≢false (sym takes ∙ member_whole is inner))
  on_target_runs (TargetLost inner w fields s is) takes none scene same ported = absurd (lost_whole inner w fields is takes)
  on_target_runs (TargetDefaulted inner w fields target default s t u q p is d dt) takes none scene same ported =
      absurd (defaulted_whole is inner takes)
  on_target_runs {names} {at} {value}
      (TargetPattern inner w of_object forced items rest pattern pieces later s t u v is ahead taken are l) takes none scene same ported =
      let clean = taking_clean is ahead inner none in
      let r = taken_slots taken clean.ahead clean.behind clean.last clean.plain scene same in
      taking_run scene inner v kinds.Reassign pattern value at is (ahead_stays ahead) (taken_stays taken) r clean.plain are
      (later_blocks l).extends
      (later_runs l (subst (λ (n : Names). AreClean (refusals_to n) later) same r.clean) scene same ported)

  pub later_runs : {names : Names} {later : List Later} {s t : State} → LoweredLater names later s t → AreClean (refusals_to names) later
      → (scene : Scene) → scene.names ≡ names → scene.ported ≡ true → RunsLater scene.world (assign_to scene) later s t
  later_runs (NoLater s) clean scene same ported = NoneRun s
  later_runs (NextLater value part later s t u p d ds) clean scene same ported =
      NextRun (record { value = value; part = part }) later s t u (target_blocks d).extends (later_blocks ds).extends
      (target_runs d clean.0 scene same ported) (later_runs ds clean.1 scene same ported)

  pub spine_runs : {names : Names} {below : Bool} {e : Syntax} {s t : State} {p : Place} → LoweredSpine names below e s t p
      → refusals_by names (spine_place below) e ≡ [] → (scene : Scene) → scene.names ≡ names → scene.ported ≡ true
      → RunsExpression scene.world (chained value.Undefined (eval scene e)) s t p.identifier.0
  spine_runs {below} (Outermost e s t front p by) none scene same ported =
      link_runs by (spine_place below) (spine_below below) none scene same ported
  spine_runs {names} (Asserted at e s t p by) none scene same ported = spine_runs by (asserted_clean names at e none) scene same ported
  spine_runs {names} (Broken at e s t p is by) none scene same ported = absurd (broken_never names at e is none)

  pub link_runs : {names : Names} {alternate : Option BlockId} {e : Syntax} {s t : State} {front : Front} {p : Place}
      → LoweredLink names alternate e s t front p → (stands : Spine) → below_link stands ≡ Below → refusals_by names stands e ≡ []
      → (scene : Scene) → scene.names ≡ names → scene.ported ≡ true → LinkRuns scene alternate e s t front p
  link_runs {names} (LinkedProperty alternate at w optional object rest parts pieces o key s t u is by all) stands below none scene same
      ported =
      let clean = property_link_clean is names stands below at optional object none in
      let opened : State = link_objected (link_at s at.span optional alternate) t o in
      link_means scene alternate (Node at w (Then (Flag optional) (Then object rest))) s t
      (with_value u (load_of o key) (Some at.span)) at.span optional (Alone o) (temporary u (Some at.span))
      (one_value (eval scene object)) (property_link scene key parts)
      (record {
        opened = front_blocks by;
        linked = blocks_then opened u _ (all_blocks all) (blocks_value u (load_of o key) (Some at.span));
        object = front_runs by clean.0 scene same ported;
        link = property_runs is scene opened u o at.span (all_blocks all).extends (all_runs all clean.1 scene same ported);
      })
      (property_means is all clean.1 scene at optional object)
      (property_hands is at (Then (Flag optional) (Then object rest)) s at.span o)
  link_runs {names} (LinkedPrivate alternate at optional object name o s t by) stands below none scene same ported =
      absurd (private_link_never names stands at (Flag optional) object (Said name) none)
  link_runs {names} (LinkedCall alternate at optional part es pieces given front s t u by all gathers) stands below none scene same
      ported =
      let clean = call_link_clean names stands below at optional part es none in
      let opened : State = link_objected (link_at s at.span optional alternate) t (tested_front front) in
      link_means scene alternate (Node at word.Call (Then (Flag optional) (Then part (Then (Listed es) End)))) s t
      (with_value u (call_of front given) (Some at.span)) at.span optional front (temporary u (Some at.span))
      (front_action scene true part) (call_link scene es)
      (record {
        opened = front_blocks by;
        linked = blocks_then opened u _ (all_blocks all) (blocks_value u (call_of front given) (Some at.span));
        object = front_runs by clean.0 scene same ported;
        link = call_runs front given pieces gathers scene es opened u at.span (all_shapes all clean.1) (all_blocks all).extends
            (all_runs all clean.1 scene same ported);
      })
      (call_means scene at optional part es)
      (call_hands at (Then (Flag optional) (Then part (Then (Listed es) End))) s at.span front)

  pub front_runs : {names : Names} {alternate : BlockId} {is_called : Bool} {e : Syntax} {s t : State} {front : Front}
      → LoweredFront names alternate is_called e s t front → refusals_by names Below e ≡ []
      → (scene : Scene) → scene.names ≡ names → scene.ported ≡ true
      → RunsLinks scene.world (front_action scene is_called e) s t alternate.0 (front_identifiers front)
  front_runs {names} (FrontLink alternate is_called e s t front p by) none scene same ported =
      subst (λ (d : Action (List Value)). RunsLinks scene.world d s t alternate.0
      (front_identifiers (handed_on (is_called && is_property e) front p)))
      (link_front scene is_called e ported (link_lends by none))
      (link_runs by Below refl none scene same ported is_called)
  front_runs (FrontBroken alternate is_called at e s t p by) none scene same ported = absurd (asserted_never by refl none)
  front_runs {names} (FrontMethod alternate at w fields parts pieces object key s t is all) none scene same ported =
      let clean = method_front_clean is names at none in
      let loaded : State = with_value t (load_of object key) (Some at.span) in
      links_same scene.world s loaded alternate.0 _
      (λ ways k source answers.
      member_means is all clean scene at ways
      (λ p. ask scene (load p.0 p.1) ways (λ f. k (p.0 ∷ f ∷ []))) source answers
      ∙ ap (λ (a : Action (List Value)). a ways k source answers) (callee_means is scene at ported))
      (links_of_all scene.world s loaded _ alternate.0 _
      (method_front_runs is scene s t at.span (all_blocks all).extends (all_runs all clean scene same ported)))
  front_runs {names} (FrontAlone alternate is_called e s t p is by) none scene same ported =
      let clean = below_off names e none in
      subst (λ (d : Action (List Value)). RunsLinks scene.world d s t alternate.0 (p.identifier.0 ∷ []))
      (alone_front scene is_called e ported (front_unlinked by clean is_called is))
      (links_one scene.world s t (eval scene e) alternate.0 p.identifier.0
      (link_plain scene.world s t (eval scene e) alternate.0 p.identifier.0 (expression_runs by clean scene same ported)))

  pub all_runs : {names : Names} {of_object : Bool} {es : Pieces} {s t : State} {pieces : List Piece}
      → LoweredParts names of_object es s t pieces
      → refusals_in names es ≡ []
      → (scene : Scene) → scene.names ≡ names → scene.ported ≡ true
      → RunsAll scene.world (values_in scene es) s t (map (λ (q : Place). q.identifier.0) (places_in pieces))
  all_runs (NoPart s) none scene same ported = none_run scene.world s
  all_runs {names} (NextPart e es s t u p pieces by all) none scene same ported =
      subst (λ (d : Action (List Value)). RunsAll scene.world d s u (p.identifier.0 ∷ identifiers_in pieces))
      (sym (first_value scene e es (lowered_plain by)))
      (next_runs scene.world s t u (eval scene e) (values_in scene es) p.identifier.0 (identifiers_in pieces)
      (expression_blocks by).extends (all_blocks all).extends
      (expression_runs by (first_none (refusals names e) (refusals_in names es) none) scene same ported)
      (all_runs all (second_none (refusals names e) (refusals_in names es) none) scene same ported))
  all_runs {names} (NextSpread at e es s t u p pieces by all) none scene same ported =
      next_runs scene.world s t u (eval scene e) (values_in scene es) p.identifier.0 (identifiers_in pieces)
      (expression_blocks by).extends (all_blocks all).extends
      (expression_runs by (first_none (refusals names e) [] (first_none (refusals names e ++ []) (refusals_in names es) none)) scene same ported)
      (all_runs all (second_none (refusals names e ++ []) (refusals_in names es) none) scene same ported)
  all_runs {names} (NextHole at es s u pieces all) none scene same ported = all_runs all none scene same ported
  all_runs {names} (NextProperty at computed key e text es s t u p pieces is by all) none scene same ported =
      let clean = property_row_clean names at computed key e (46 ∷ text) es is none in
      subst (λ (d : Action (List Value)). RunsAll scene.world d s u (p.identifier.0 ∷ identifiers_in pieces))
      (sym (property_values scene at computed key e es (46 ∷ text) is))
      (next_runs scene.world s t u (eval scene e) (values_in scene es) p.identifier.0 (identifiers_in pieces)
      (expression_blocks by).extends (all_blocks all).extends
      (expression_runs by clean.0 scene same ported) (all_runs all clean.1 scene same ported))
  all_runs {names} (NextComputed at key e es s r t u p q pieces is first by all) none scene same ported =
      let clean = computed_row_clean names at key e es (lowered_plain first).key none in
      subst (λ (d : Action (List Value)). RunsAll scene.world d s u (p.identifier.0 ∷ q.identifier.0 ∷ identifiers_in pieces))
      (sym (computed_values scene at key e es is))
      (next_runs scene.world s r u (eval scene key) (λ ways k. eval scene e ways (λ v. values_in scene es ways (λ vs. k (v ∷ vs))))
      p.identifier.0 (q.identifier.0 ∷ identifiers_in pieces)
      (expression_blocks first).extends (extends_then (expression_blocks by).extends (all_blocks all).extends)
      (expression_runs first clean.0 scene same ported)
      (next_runs scene.world r t u (eval scene e) (values_in scene es) q.identifier.0 (identifiers_in pieces)
      (expression_blocks by).extends (all_blocks all).extends
      (expression_runs by clean.1 scene same ported) (all_runs all clean.2 scene same ported)))
  all_runs {names} (NextFraction at inner e text es s t u p pieces is by all) none scene same ported =
      absurd (fraction_row_never names at inner text e es is none)
  all_runs {names} (NextUnknown at computed key e es s u pieces is all) none scene same ported =
      absurd (unknown_row_never names at computed key e es is none)

  pub last_runs : {names : Names} {es : Pieces} {s t : State} {p : Place} → LoweredLast names es s t p
      → refusals_in names es ≡ [] → (scene : Scene) → scene.names ≡ names → scene.ported ≡ true
      → RunsExpression scene.world (eval_last scene es) s t p.identifier.0
  last_runs {names} (LastPart e s t p by) none scene same ported = expression_runs by (first_none (refusals names e) [] none) scene same ported
  last_runs {names} (EarlierPart e next es s t u p q by last) none scene same ported =
      behind_runs scene.world s t u (eval scene e) (eval_last scene (Then next es)) p.identifier.0 q.identifier.0
      (expression_blocks by).extends (last_blocks last).extends
      (expression_runs by (first_none (refusals names e) (refusals_in names (Then next es)) none) scene same ported)
      (last_runs last (second_none (refusals names e) (refusals_in names (Then next es)) none) scene same ported)
