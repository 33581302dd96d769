-- Lowering an expression keeps places known and parts writable, and its value is in a place that was made.
use Rattle.std.proofs.Common.{◌≡◌, ℕ, ◌<◌, ◌&&◌, Bool, true, false, List, [], ◌∷◌, length, map, All, Option, Some, None, codes, refl}
use Rattle.std.proofs.Common.{sym, subst, arith}
use Rattle.std.proofs.lemmas.List.Elements.{All-cons, All-head, All-nil, All-tail, All-weaker}
use Rattle.rl_base.specs.Diagnostics.{diagnostic_at}
use Rattle.rl_base.specs.Operators.{assignment_text, logical_text, update_text}
use Rattle.rl_base.specs.declared.operator.LogicalOperator.{LogicalOperator}
use Rattle.rl_base.specs.declared.operator.UpdateOperator.{UpdateOperator}
use Rattle.rl_base.specs.declared.row.Row.TheVariants as row
use Rattle.rl_base.specs.declared.type_kind.TypeKind.{TypeKind}
use Rattle.rl_builder.specs.Builder.{recorded}
use Rattle.rl_builder.specs.Temporaries.{temporary, with_value}
use Rattle.rl_frames.specs.Frames.{logical_after, logical_at, logical_ended, logical_righted}
use Rattle.rl_frames.specs.Frames.{sequence_at, sequence_ended}
use Rattle.rl_frames.specs.Frames.{ternary_after, ternary_alternated, ternary_at, ternary_consequent, ternary_ended, ternary_parted}
use Rattle.rl_frames.specs.Parts.{logical_begun, logical_place, sequence_begun, sequence_place, ternary_begun, ternary_place}
use Rattle.rl_hir.specs.Instructions.{binding_texts}
use Rattle.rl_hir.specs.Listing as listing
use Rattle.rl_hir.specs.Pieces.{Says, argument_pieces, gathered, operands}
use Rattle.rl_hir.specs.declared.instruction.InstructionKind.TheVariants as kinds
use Rattle.rl_hir.specs.declared.instruction.InstructionValue.TheVariants as values
use Rattle.rl_hir.specs.declared.instruction.NonLocalBinding.{NonLocalBinding}
use Rattle.rl_hir.specs.declared.instruction.PlaceOrSpread.{PlaceOrSpread}
use Rattle.rl_hir.specs.declared.instruction.PrimitiveValue.TheVariants as primitives
use Rattle.rl_lowered.proofs.Common.{At, BlockId, Diagnostic, End, InstructionValue, Names, Node, Piece, Pieces, Place, Said, Span, State}
use Rattle.rl_lowered.proofs.Common.{SymbolId, Syntax, Then}
use Rattle.rl_model.specs.WellFormed.{AreKnown, operand_places, value_places}
use Rattle.rl_names.specs.Locals.{HasTexts}
use Rattle.rl_names.specs.declared.names.Meaning.TheVariants.{Outer}
use Rattle.rl_optional_frames.specs.Frames.{default_at, default_ended, link_at, link_objected}
use Rattle.rl_optional_frames.specs.Parts.{default_begun}
use Rattle.rl_promises.specs.Locals.{IsSmallSpan, KnowsNames}
use Rattle.rl_promises.specs.Moved.{type_name}
use Rattle.rl_promises.specs.Rows.{refusal, row_of_head}
use Rattle.rl_syntax.specs.declared.word.Word.{Word}
use Rattle.rl_syntax.specs.declared.word.Word.TheVariants as word
use Rattle.rl_syntax.specs.Syntax.{Listed, Flag, span_of}
use Rattle.rl_text.specs.Notation.{IsWritable}
use Rattle.rl_lowered.specs.Forms.{Front, Lent, call_of, front_places, is_property, tested_front}
use Rattle.rl_lowered.specs.Forms.{IsForm, IsMember, Indexed, MemberKey, Numbered, Static, load_of, places_in, type_of, typed}
use Rattle.rl_lowered.specs.Lowered.{Asserted, Broken, Chain, FrontAlone, FrontBroken, FrontLink, FrontMethod, LinkedCall, LinkedPrivate}
use Rattle.rl_lowered.specs.Lowered.{LinkedProperty, Lowered, LoweredFront, LoweredLast, LoweredLink, LoweredParts, LoweredSpine, Outermost}
use Rattle.rl_lowered.specs.Lowered.{AssignedConstant, AssignedGlobal, AssignedMember, AssignedPattern, AssignedPrivate, AssignedVariable}
use Rattle.rl_lowered.specs.Lowered.{LoweredLater, LoweredMoved, LoweredTarget, Moved, NextLater, NoLater, Stays, TargetConstant}
use Rattle.rl_lowered.specs.Lowered.{TargetDefaulted, TargetGlobal, TargetLost, TargetMember, TargetPattern, TargetVariable}
use Rattle.rl_lowered.specs.Lowered.{CompoundConstant, CompoundGlobal, CompoundMember, CompoundPrivate, CompoundVariable}
use Rattle.rl_lowered.specs.Lowered.{Asked, Cast, Conditional, Global, Literal, Logical, Method, Object, Private, Refused, RefusedBefore}
use Rattle.rl_lowered.specs.Lowered.{RefusedBehind, RefusedGlobal, Same, Sequence, UpdatedConstant, UpdatedMember, UpdatedVariable}
use Rattle.rl_lowered.specs.Lowered.{Variable}
use Rattle.rl_lowered.specs.Lowered.{EarlierPart, LastPart, NextComputed, NextFraction, NextHole, NextPart, NextProperty, NextSpread}
use Rattle.rl_lowered.specs.Lowered.{NextUnknown, NoPart}
use Rattle.rl_lowered.specs.Lowered.{binary_of, member_loaded, member_one, member_result, member_stored, member_updated, update_of}
use Rattle.rl_lowered.specs.Lowered.{private_met, value_span}
use Rattle.rl_lowered.specs.Items.{Later, destructured}
use Rattle.rl_lowered.specs.Named.{IsFound, found}
use Rattle.rl_lowered.specs.Sound.{AreSmallTrees, IsSmallTree, IsSoundPlace, StaysSound}
use Rattle.rl_lowered.proofs.Keys.{has_text}
use Rattle.rl_lowered.proofs.SoundAssignments.{assigned_constant_sound, assigned_global_sound, assigned_member_sound}
use Rattle.rl_lowered.proofs.SoundAssignments.{assigned_private_sound, assigned_variable_sound, compound_constant_sound}
use Rattle.rl_lowered.proofs.SoundAssignments.{compound_global_sound, compound_member_sound, compound_private_sound}
use Rattle.rl_lowered.proofs.SoundAssignments.{compound_variable_sound, constant_sound, outer_stored, taken, target_small}
use Rattle.rl_lowered.proofs.SoundChains.{WasMade, call_value, handed_sound, objected_grow, opened_made, places_grown, private_value}
use Rattle.rl_lowered.proofs.SoundChains.{property_small, property_value, tested_sound, whole_link}
use Rattle.rl_lowered.proofs.SoundDefaults.{default_sound}
use Rattle.rl_lowered.proofs.SoundForms.{AreWritten, cast_small, defaulted_small, form_places, form_small, form_writable, hole_utf8}
use Rattle.rl_lowered.proofs.SoundForms.{key_utf8, literal_writable, member_small, method_places}
use Rattle.rl_lowered.proofs.SoundForms.{method_writable, object_places, object_writable, private_small, refusing_small}
use Rattle.rl_lowered.proofs.SoundForms.{wrapper_small}
use Rattle.rl_lowered.proofs.SoundFrames.{logical_sound, sequence_sound, ternary_sound}
use Rattle.rl_lowered.proofs.SoundItems.{IsKnownLater, IsSmallLater, IsSoundLater, SmallTarget, ahead_sound, apart_sound, behind_items}
use Rattle.rl_lowered.proofs.SoundItems.{given_later, given_target, laters_by, laters_next, taken_sound, target_by}
use Rattle.rl_lowered.proofs.SoundListing.{binary_writable, cast_writable, local_writable}
use Rattle.rl_lowered.proofs.SoundListing.{number_writable, outer_writable, sum_utf8, type_writable, undefined_writable}
use Rattle.rl_lowered.proofs.SoundListing.{updated_writable}
use Rattle.rl_lowered.proofs.SoundMoves.{counters_before, none_known, one_known, place_later, place_next}
use Rattle.rl_lowered.proofs.SoundMoves.{place_weaker, sound_next, sound_recorded, sound_refl}
use Rattle.rl_lowered.proofs.SoundMoves.{sound_then, sound_typed, sound_value, sound_weaker, value_place}
use Rattle.rl_lowered.proofs.SoundNames.{found_below, sound_found}
use Rattle.rl_lowered.proofs.SoundTrees.{each_small, span_small}
use Rattle.rl_lowered.proofs.SoundValues.{IsSound, loaded_sound, one_place, over_sound, places_next, places_weaker, property_stored}
use Rattle.rl_lowered.proofs.SoundValues.{property_taken, value_sound, variable_place, variable_stored}
use Rattle.rl_lowered.proofs.Spanned.{value_spanned}

-- A variable

variable_sound : (names : Names) (at : At) (text : List ℕ) (symbol : SymbolId) (identifier : ℕ) (s : State)
    → IsFound names s symbol at.span identifier
    → StaysSound (IsSmallTree (Node at word.Id (Then (Said text) End))) s
    (with_value (found names s symbol at.span)
    (values.LoadLocal (record { identifier = record { 0 = identifier }; span = Some at.span })) (Some at.span))
    × IsSoundPlace (IsSmallTree (Node at word.Id (Then (Said text) End)))
    (with_value (found names s symbol at.span)
    (values.LoadLocal (record { identifier = record { 0 = identifier }; span = Some at.span })) (Some at.span))
    (temporary (found names s symbol at.span) (Some at.span))
variable_sound names at text symbol identifier s f =
    over_sound small s (found names s symbol at.span) (values.LoadLocal variable) at.span (variable ∷ [])
    (sound_found small names s symbol at.span identifier f (λ holds. holds.0.0))
    (one_place small _ variable (variable_place small names s symbol at.span at.span identifier f (λ holds. holds.0.0))) refl
    (λ holds fits all. local_writable variable (All-head (λ (q : Place). IsWritable (listing.place q)) variable [] all))
    (λ holds. holds.0.0)
  where
    small : Type 0
    small = IsSmallTree (Node at word.Id (Then (Said text) End))

    variable : Place
    variable = record { identifier = record { 0 = identifier }; span = Some at.span }

update_places : (prefix : Bool) (operator : UpdateOperator) (p : Place) → value_places (update_of prefix operator p) ≡ p ∷ p ∷ []
update_places true operator p = refl
update_places false operator p = refl

updated_sound : (names : Names) (at there : At) (name : List ℕ) (symbol : SymbolId) (identifier : ℕ) (operator : UpdateOperator)
    (prefix : Bool) (s : State) (small : Type 0)
    → small ≡ IsSmallTree (Node at word.Update
    (Then (Said (update_text operator)) (Then (Flag prefix) (Then (Node there word.Id (Then (Said name) End)) End))))
    → IsFound names s symbol there.span identifier → IsFound names (found names s symbol there.span) symbol there.span identifier
    → IsSound small s
    (with_value (found names (found names s symbol there.span) symbol there.span)
    (update_of prefix operator (record { identifier = record { 0 = identifier }; span = Some there.span })) (Some at.span))
    (temporary (found names (found names s symbol there.span) symbol there.span) (Some at.span))
updated_sound names at there name symbol identifier operator prefix s small is f g =
    over_sound small s second (update_of prefix operator variable) at.span (variable ∷ variable ∷ [])
    (sound_next small s first second (sound_found small names s symbol there.span identifier f there_small)
    (sound_found small names first symbol there.span identifier g there_small))
    (All-cons (IsSoundPlace small second) variable (variable ∷ []) place (one_place small second variable place))
    (update_places prefix operator variable)
    (λ holds fits all. updated_writable prefix operator variable (tree holds).1.1.0
    (All-head (λ (q : Place). IsWritable (listing.place q)) variable (variable ∷ []) all))
    (λ holds. (tree holds).0.0)
  where
    first : State
    first = found names s symbol there.span

    second : State
    second = found names first symbol there.span

    variable : Place
    variable = record { identifier = record { 0 = identifier }; span = Some there.span }

    tree : small → IsSmallTree (Node at word.Update
        (Then (Said (update_text operator)) (Then (Flag prefix) (Then (Node there word.Id (Then (Said name) End)) End))))
    tree holds = subst (λ (A : Type 0). A) is holds

    there_small : small → IsSmallSpan there.span
    there_small holds = (tree holds).0.1.1.1.0.0

    place : IsSoundPlace small second variable
    place = variable_place small names first symbol there.span there.span identifier g there_small

-- A name that no local variable has reads no place
outer_places : (said : List (List ℕ)) → operand_places (operands (map Says said)) ≡ []
outer_places [] = refl
outer_places (text ∷ said) = outer_places said

global_sound : (names : Names) → HasTexts names → (at : At) (name : List ℕ) (binding : NonLocalBinding) (s t : State)
    → names.meaning at.reference.0 name ≡ Outer binding → StaysSound (IsSmallTree (Node at word.Id (Then (Said name) End))) s t
    → StaysSound (IsSmallTree (Node at word.Id (Then (Said name) End))) s (with_value t (values.LoadGlobal binding) (Some at.span))
    × IsSoundPlace (IsSmallTree (Node at word.Id (Then (Said name) End))) (with_value t (values.LoadGlobal binding) (Some at.span))
    (temporary t (Some at.span))
global_sound names texts at name binding s t is before =
    value_sound (IsSmallTree (Node at word.Id (Then (Said name) End))) s t (values.LoadGlobal binding) at.span before
    (subst (AreKnown (length t.env.identifiers)) (sym (outer_places (binding_texts binding))) (none_known (length t.env.identifiers)))
    (λ holds fits. outer_writable binding (texts.outer at.reference.0 name binding is holds.1.1.0)) (λ holds. holds.0.0)

-- Parts from left to right, and an instruction

asked_sound : (at : At) (w : Word) (fields parts : Pieces) (pieces : List Piece) (v : InstructionValue) (s t : State)
    → IsForm w fields parts pieces v
    → StaysSound (AreSmallTrees parts) s t × All (IsSoundPlace (AreSmallTrees parts) t) (places_in pieces)
    → StaysSound (IsSmallTree (Node at w fields)) s (with_value t v (Some at.span))
    × IsSoundPlace (IsSmallTree (Node at w fields)) (with_value t v (Some at.span)) (temporary t (Some at.span))
asked_sound at w fields parts pieces v s t form all =
    value_sound (IsSmallTree (Node at w fields)) s t v at.span
    (sound_weaker (AreSmallTrees parts) (IsSmallTree (Node at w fields)) s t (form_small form at) all.0)
    (subst (AreKnown (length t.env.identifiers)) (sym (form_places form))
    (All-weaker (IsSoundPlace (AreSmallTrees parts) t) (λ (q : Place). q.identifier.0 < length t.env.identifiers)
    (λ q known. known.known) (places_in pieces) all.1))
    (λ holds fits. form_writable form at holds
    (All-weaker (IsSoundPlace (AreSmallTrees parts) t) (λ (q : Place). IsWritable (listing.place q))
    (λ q known. known.writable (form_small form at holds) fits) (places_in pieces) all.1))
    (λ holds. holds.0.0)

next_sound : (P Q R : Type 0) (s t u : State) (p : Place) (ps : List Place) → (R → P) → (R → Q)
    → StaysSound P s t × IsSoundPlace P t p → StaysSound Q t u × All (IsSoundPlace Q u) ps
    → StaysSound R s u × All (IsSoundPlace R u) (p ∷ ps)
next_sound P Q R s t u p ps first second part rest = (
  sound_then P Q R s t u first second part.0 rest.0,
  All-cons (IsSoundPlace R u) p ps (place_later P Q R t u p first rest.0 part.1)
      (All-weaker (IsSoundPlace Q u) (IsSoundPlace R u) (λ q known. place_weaker Q R u q second known) ps rest.1),
)

-- Updates of properties, and calls of methods

member_object : (P : Place → Type 0) {w : Word} {fields parts : Pieces} {pieces : List Piece} {object : Place} {key : MemberKey}
    → IsMember w fields parts pieces object key → All P (places_in pieces) → P object
member_object P (Static {p}) all = All-head P p [] all
member_object P (Indexed {p} {q} other) all = All-head P p (q ∷ []) all
member_object P (Numbered {p} numeral) all = All-head P p [] all

member_update_sound : (small : Type 0) (s t : State) (there : At) (operator : UpdateOperator) (prefix : Bool) {w : Word}
    {fields parts : Pieces} {pieces : List Piece} {object : Place} {key : MemberKey} → IsMember w fields parts pieces object key
    → StaysSound small s t → All (IsSoundPlace small t) (places_in pieces) → (small → IsSmallTree (Node there w fields))
    → IsSound small s (member_stored t object key operator there.span) (member_result t object key operator prefix there.span)
member_update_sound small s t there operator prefix {pieces} {object} {key} is before all inner = (
  sound_next small s t stored before
      (sound_next small t loaded stored first.0
      (sound_next small loaded one stored second (sound_next small one updated stored third.0 fourth.0))),
  result prefix,
)
  where
    loaded : State
    loaded = member_loaded t object key there.span

    one : State
    one = member_one t object key there.span

    updated : State
    updated = member_updated t object key operator there.span

    stored : State
    stored = member_stored t object key operator there.span

    old : Place
    old = temporary t (Some there.span)

    new : Place
    new = temporary one (Some there.span)

    first : IsSound small t loaded old
    first = loaded_sound small t there is all inner

    second : StaysSound small loaded one
    second =
        sound_value small loaded (values.Primitive (primitives.Number 1)) None (none_known (length loaded.env.identifiers))
        (λ holds fits. number_writable 1 (omega arith)) (λ holds. tt)

    one_made : IsSoundPlace small one (temporary loaded None)
    one_made =
        value_place small loaded (values.Primitive (primitives.Number 1)) None (none_known (length loaded.env.identifiers))
        (λ holds fits. number_writable 1 (omega arith)) (λ holds. tt)

    old_one : IsSoundPlace small one old
    old_one = place_next small loaded one old second first.1

    third : IsSound small one updated new
    third =
        value_sound small one one (values.BinaryExpression (binary_of operator) old (temporary loaded None)) there.span
        (sound_refl small one)
        (All-cons (λ (q : Place). q.identifier.0 < length one.env.identifiers) old (temporary loaded None ∷ []) old_one.known
        (one_known (length one.env.identifiers) (temporary loaded None) one_made.known))
        (λ holds fits. binary_writable (binary_of operator) old (temporary loaded None) (sum_utf8 operator) (old_one.writable holds fits)
        (one_made.writable holds fits)) (λ holds. (inner holds).0.0)

    fourth : IsSound small updated stored (temporary updated (Some there.span))
    fourth =
        property_stored small updated updated there new is (sound_refl small updated)
        (places_next small t updated (places_in pieces)
        (sound_next small t loaded updated first.0 (sound_next small loaded one updated second third.0)) all) third.1 inner

    result : (prefix : Bool) → IsSoundPlace small stored (member_result t object key operator prefix there.span)
    result true = fourth.1
    result false = place_next small updated stored old fourth.0 (place_next small one updated old third.0 old_one)

method_sound : (small : Type 0) (s t u : State) (at there : At) (given_pieces : List Piece) (given : List PlaceOrSpread) {w : Word}
    {fields parts : Pieces} {pieces : List Piece} {object : Place} {key : MemberKey} → IsMember w fields parts pieces object key
    → gathered argument_pieces given ≡ given_pieces → StaysSound small s t → All (IsSoundPlace small t) (places_in pieces)
    → StaysSound small (with_value t (load_of object key) (Some there.span)) u → All (IsSoundPlace small u) (places_in given_pieces)
    → (small → IsSmallTree (Node there w fields)) → (small → IsSmallSpan at.span)
    → IsSound small s
    (with_value u
    (values.MethodCall (record { receiver = object; property = temporary t (Some there.span); arguments = given })) (Some at.span))
    (temporary u (Some at.span))
method_sound small s t u at there given_pieces given {pieces} {object} {key} is given_are before all behind rest inner span =
    over_sound small s u (values.MethodCall (record { receiver = object; property = method; arguments = given })) at.span
    (object ∷ method ∷ places_in given_pieces)
    (sound_next small s t u before (sound_next small t loaded u first.0 behind))
    (All-cons (IsSoundPlace small u) object (method ∷ places_in given_pieces)
    (place_next small t u object (sound_next small t loaded u first.0 behind) (member_object (IsSoundPlace small t) is all))
    (All-cons (IsSoundPlace small u) method (places_in given_pieces) (place_next small loaded u method behind first.1) rest))
    (method_places object method given given_pieces given_are)
    (λ holds fits written. method_writable object method given given_pieces given_are written) span
  where
    loaded : State
    loaded = with_value t (load_of object key) (Some there.span)

    method : Place
    method = temporary t (Some there.span)

    first : IsSound small t loaded method
    first = loaded_sound small t there is all inner

-- A property that is called in front of a chain

method_front_sound : (s t : State) (at : At) {w : Word} {fields parts : Pieces} {pieces : List Piece} {object : Place} {key : MemberKey}
    → IsMember w fields parts pieces object key → StaysSound (IsSmallTree (Node at w fields)) s t
    → All (IsSoundPlace (IsSmallTree (Node at w fields)) t) (places_in pieces)
    → StaysSound (IsSmallTree (Node at w fields)) s (with_value t (load_of object key) (Some at.span))
    × All (IsSoundPlace (IsSmallTree (Node at w fields)) (with_value t (load_of object key) (Some at.span)))
    (front_places (Lent object (temporary t (Some at.span))))
method_front_sound s t at {w} {fields} {pieces} {object} {key} is before all =
    let small : Type 0 = IsSmallTree (Node at w fields) in
    let loaded : State = with_value t (load_of object key) (Some at.span) in
    let method : Place = temporary t (Some at.span) in
    let first : IsSound small t loaded method = loaded_sound small t at is all (λ holds. holds) in (
      sound_next small s t loaded before first.0,
      All-cons (IsSoundPlace small loaded) object (method ∷ [])
          (place_next small t loaded object first.0 (member_object (IsSoundPlace small t) is all)) (one_place small loaded method first.1),
    )

-- A value under a type

cast_sound : (small : Type 0) (s t : State) (p : Place) (k : TypeKind) (there at : Span) → StaysSound small s t → IsSoundPlace small t p
    → (small → IsSmallSpan there) → (small → IsSmallSpan at)
    → IsSound small s (with_value (typed t k) (values.TypeCastExpression p (type_of t k) (Some there)) (Some at))
    (temporary (typed t k) (Some at))
cast_sound small s t p k there at before place there_small at_small =
    over_sound small s (typed t k) (values.TypeCastExpression p (type_of t k) (Some there)) at (p ∷ [])
    (sound_next small s t (typed t k) before (sound_typed small t k))
    (one_place small (typed t k) p (place_next small t (typed t k) p (sound_typed small t k) place)) refl
    (λ holds fits written.
    cast_writable p (type_of t k) there (All-head (λ (q : Place). IsWritable (listing.place q)) p [] written)
    (type_writable t k (counters_before t (typed t k) (sound_typed small t k).counters fits).types) (there_small holds)) at_small

-- Constructs, from what their parts keep

logical_tree_sound : (at : At) (operator : LogicalOperator) (left right : Syntax) (s s2 s3 : State) (l r : Place)
    → IsSound (IsSmallTree right) (logical_begun s at.span (span_of left)) s2 r
    → IsSound (IsSmallTree left) (logical_righted (logical_at s at.span operator (span_of left)) s2 r (value_span r right)) s3 l
    → (IsSmallTree right → IsSmallSpan (value_span r right))
    → IsSound (IsSmallTree (Node at word.Logical (Then (Said (logical_text operator)) (Then left (Then right End))))) s
    (logical_ended (logical_after (logical_at s at.span operator (span_of left))) s3 l) (logical_place s at.span)
logical_tree_sound at operator left right s s2 s3 l r second first value =
    logical_sound small s s2 s3 at.span (span_of left) (value_span r right) operator l r (λ holds. holds.0.0)
    (λ holds. span_small left (left_small holds).0) (λ holds. value (right_small holds)) (λ holds. holds.1.1.0)
    (sound_weaker (IsSmallTree right) small _ s2 right_small second.0) (place_weaker (IsSmallTree right) small s2 r right_small second.1)
    (sound_weaker (IsSmallTree left) small _ s3 left_small first.0) (place_weaker (IsSmallTree left) small s3 l left_small first.1)
  where
    small : Type 0
    small = IsSmallTree (Node at word.Logical (Then (Said (logical_text operator)) (Then left (Then right End))))

    left_small : small → IsSmallTree left
    left_small holds = (holds.0.1.1.0, holds.1.1.1.0)

    right_small : small → IsSmallTree right
    right_small holds = (holds.0.1.1.1.0, holds.1.1.1.1.0)

conditional_tree_sound : (at : At) (test consequent alternate : Syntax) (s s2 s3 s4 : State) (c a p : Place)
    → IsSound (IsSmallTree consequent) (ternary_begun s at.span) s2 c
    → IsSound (IsSmallTree alternate) (ternary_consequent (ternary_at s at.span) s2 c (span_of consequent)) s3 a
    → IsSound (IsSmallTree test)
    (ternary_alternated (ternary_parted (ternary_at s at.span) s2 c (span_of consequent)) s3 a (span_of alternate)) s4 p
    → IsSound (IsSmallTree (Node at word.Cond (Then test (Then consequent (Then alternate End))))) s
    (ternary_ended (ternary_after (ternary_parted (ternary_at s at.span) s2 c (span_of consequent))) s4 p) (ternary_place s at.span)
conditional_tree_sound at test consequent alternate s s2 s3 s4 c a p first second third =
    ternary_sound small s s2 s3 s4 at.span (span_of consequent) (span_of alternate) c a p (λ holds. holds.0.0)
    (λ holds. span_small consequent (consequent_small holds).0) (λ holds. span_small alternate (alternate_small holds).0)
    (sound_weaker (IsSmallTree consequent) small _ s2 consequent_small first.0)
    (place_weaker (IsSmallTree consequent) small s2 c consequent_small first.1)
    (sound_weaker (IsSmallTree alternate) small _ s3 alternate_small second.0)
    (place_weaker (IsSmallTree alternate) small s3 a alternate_small second.1)
    (sound_weaker (IsSmallTree test) small _ s4 test_small third.0) (place_weaker (IsSmallTree test) small s4 p test_small third.1)
  where
    small : Type 0
    small = IsSmallTree (Node at word.Cond (Then test (Then consequent (Then alternate End))))

    test_small : small → IsSmallTree test
    test_small holds = (holds.0.1.0, holds.1.1.0)

    consequent_small : small → IsSmallTree consequent
    consequent_small holds = (holds.0.1.1.0, holds.1.1.1.0)

    alternate_small : small → IsSmallTree alternate
    alternate_small holds = (holds.0.1.1.1.0, holds.1.1.1.1.0)

sequence_tree_sound : (at : At) (es : Pieces) (s s2 : State) (p : Place)
    → IsSound (AreSmallTrees es) (sequence_begun s at.span) s2 p
    → IsSound (IsSmallTree (Node at word.Seq (Then (Listed es) End))) s (sequence_ended (sequence_at s at.span) s2 p at.span)
    (sequence_place s at.span)
sequence_tree_sound at es s s2 p inner =
    sequence_sound small s s2 at.span at.span p (λ holds. holds.0.0) (λ holds. holds.0.0)
    (sound_weaker (AreSmallTrees es) small _ s2 all_small inner.0) (place_weaker (AreSmallTrees es) small s2 p all_small inner.1)
  where
    small : Type 0
    small = IsSmallTree (Node at word.Seq (Then (Listed es) End))

    all_small : small → AreSmallTrees es
    all_small holds = (holds.0.1.0, holds.1.1.0)

-- The notation has the texts of the pieces that small parts give

parts_written : {names : Names} {of_object : Bool} {es : Pieces} {s t : State} {pieces : List Piece}
    → LoweredParts names of_object es s t pieces → AreSmallTrees es → AreWritten pieces
parts_written (NoPart s) small = tt
parts_written (NextPart e es s t u p pieces first rest) small = parts_written rest (small.0.1, small.1.1)
parts_written (NextSpread at e es s t u p pieces first rest) small = parts_written rest (small.0.1, small.1.1)
parts_written (NextHole at es s u pieces rest) small = (hole_utf8, parts_written rest (small.0.1, small.1.1))
parts_written (NextProperty at computed key e text es s t u p pieces is first rest) small =
    (key_utf8 (has_text computed key (46 ∷ text) is) small.1.0.1.1.0, parts_written rest (small.0.1, small.1.1))
parts_written (NextComputed at key e es s r t u p q pieces is first second rest) small = parts_written rest (small.0.1, small.1.1)
parts_written (NextFraction at there e text es s t u p pieces is first rest) small = parts_written rest (small.0.1, small.1.1)
parts_written (NextUnknown at computed key e es s u pieces is rest) small = parts_written rest (small.0.1, small.1.1)

-- Expressions

mutual
  -- Names are UTF-8, and spans of declarations are small.
  pub expression_sound : {names : Names} {e : Syntax} {s t : State} {p : Place} → KnowsNames names → Lowered names e s t p
      → StaysSound (IsSmallTree e) s t × IsSoundPlace (IsSmallTree e) t p
  expression_sound knows (Literal at w fields p s literal) =
      value_sound (IsSmallTree (Node at w fields)) s s (values.Primitive p) at.span (sound_refl _ s)
      (none_known (length s.env.identifiers)) (λ holds fits. literal_writable literal at holds) (λ holds. holds.0.0)
  expression_sound knows (Refused at w fields r s is) =
      value_sound (IsSmallTree (Node at w fields)) s (recorded s _) (values.Primitive primitives.Undefined) at.span
      (sound_recorded _ s _) (none_known (length s.env.identifiers)) (λ holds fits. undefined_writable) (λ holds. holds.0.0)
  expression_sound knows (RefusedBefore at w fields parts r pieces s t is all) =
      let small : Type 0 = IsSmallTree (Node at w fields) in
      let noted : State = recorded s (refusal r at.span) in
      value_sound small s t (values.Primitive primitives.Undefined) at.span
      (sound_next small s noted t (sound_recorded small s (refusal r at.span))
      (sound_weaker (AreSmallTrees parts) small noted t (refusing_small is at) (all_sound knows all).0))
      (none_known (length t.env.identifiers)) (λ holds fits. undefined_writable) (λ holds. holds.0.0)
  expression_sound knows (RefusedBehind at object name s t p by) =
      let small : Type 0 = IsSmallTree (Node at word.Privatemember (Then (Flag false) (Then object (Then (Said name) End)))) in
      let noted : State = recorded t (refusal row.F3 at.span) in
      value_sound small s noted (values.Primitive primitives.Undefined) at.span
      (sound_next small s t noted
      (sound_weaker (IsSmallTree object) small s t (λ holds. (holds.0.1.1.0, holds.1.1.1.0)) (expression_sound knows by).0)
      (sound_recorded small t (refusal row.F3 at.span)))
      (none_known (length t.env.identifiers)) (λ holds fits. undefined_writable) (λ holds. holds.0.0)
  expression_sound knows (Private at w fields e s t p is by) =
      let inner = expression_sound knows by in (
        sound_weaker (IsSmallTree e) (IsSmallTree (Node at w fields)) s t (private_small is at) inner.0,
        place_weaker (IsSmallTree e) (IsSmallTree (Node at w fields)) t p (private_small is at) inner.1,
      )
  expression_sound {names} knows (Variable at name symbol identifier s is f) = variable_sound names at name symbol identifier s f
  expression_sound {names} knows (UpdatedVariable at there name symbol identifier operator prefix s is mutable f g) =
      updated_sound names at there name symbol identifier operator prefix s
      (IsSmallTree (Node at word.Update
      (Then (Said (update_text operator)) (Then (Flag prefix) (Then (Node there word.Id (Then (Said name) End)) End))))) refl f g
  expression_sound {names} knows (UpdatedConstant at there name symbol identifier operator prefix s is constant f) =
      let small : Type 0 =
      IsSmallTree (Node at word.Update (Then operator (Then prefix (Then (Node there word.Id (Then (Said name) End)) End)))) in
      constant_sound small names s s symbol there.span at.span identifier (sound_refl small s) f (λ holds. holds.0.1.1.1.0.0)
      (λ holds. holds.0.0)
  expression_sound knows (UpdatedMember at there w fields parts pieces object key operator prefix s t is all) =
      let small : Type 0 =
      IsSmallTree (Node at word.Update (Then (Said (update_text operator)) (Then (Flag prefix) (Then (Node there w fields) End)))) in
      let inner = all_sound knows all in
      let node : small → IsSmallTree (Node there w fields) = λ holds. (holds.0.1.1.1.0, holds.1.1.1.1.0) in
      let parts_small : small → AreSmallTrees parts = λ holds. member_small is there (node holds) in
      member_update_sound small s t there operator prefix is (sound_weaker (AreSmallTrees parts) small s t parts_small inner.0)
      (places_weaker (AreSmallTrees parts) small t (places_in pieces) parts_small inner.1) node
  expression_sound {names} knows (AssignedVariable at there name right symbol identifier s t p is mutable by f) =
      assigned_variable_sound names at there name right symbol identifier s t p (expression_sound knows by) f
  expression_sound {names} knows (AssignedConstant at there name right symbol identifier s t p is constant by f) =
      assigned_constant_sound names at there name right symbol identifier s t p (expression_sound knows by) f
  expression_sound knows (AssignedGlobal at there name right binding s t p is by) =
      assigned_global_sound at there name right s t p (expression_sound knows by)
  expression_sound knows (AssignedMember at there w fields parts pieces object key right s t u p is by all) =
      assigned_member_sound at there (codes "=") right is s t u p (expression_sound knows by) (all_sound knows all)
  expression_sound knows (AssignedPrivate at there object name right s t u p q by more) =
      assigned_private_sound at there object name right s t u p q (expression_sound knows by) (expression_sound knows more)
  expression_sound knows (AssignedPattern at there w fields right s t u p q is by more) =
      let small : Type 0 = IsSmallTree (Node at word.Assign (Then (Said (codes "=")) (Then (Node there w fields) (Then right End)))) in
      let value : IsSound small s t p = taken at (codes "=") (Node there w fields) right s t p (expression_sound knows by) in
      let rest = target_by small there.span p (Node there w fields) t u q (target_small at (codes "=") (Node there w fields) right)
      (λ holds. holds.0.1.1.0.0) value.1 (λ below. target_sound knows more below) in
      (sound_next small s t u value.0 rest.0, rest.1)
  expression_sound {names} knows
      (CompoundVariable at there name operator applied right symbol identifier s t u q p is mutable applies by more f) =
      compound_variable_sound names at there name (assignment_text operator) applied right symbol identifier s t u q p
      (expression_sound knows by) (expression_sound knows more) f
  expression_sound {names} knows
      (CompoundConstant at there name operator applied right symbol identifier s t u q p is constant applies by more f) =
      compound_constant_sound names at there name (assignment_text operator) right symbol identifier s t u q p
      (expression_sound knows by) (expression_sound knows more) f
  expression_sound knows (CompoundGlobal at there name operator applied right binding s t u q p is applies by more) =
      compound_global_sound at there name (assignment_text operator) applied right s t u q p (expression_sound knows by)
      (expression_sound knows more)
  expression_sound knows (CompoundMember at there w fields parts pieces object key operator applied right s t u p is applies all by) =
      compound_member_sound at there (assignment_text operator) right is applied s t u p (all_sound knows all) (expression_sound knows by)
  expression_sound knows (CompoundPrivate at there fields operator applied right s t u q p applies by more) =
      compound_private_sound at (assignment_text operator) (Node there word.Privatemember fields) right s t u q p
      (expression_sound knows by) (expression_sound knows more)
  expression_sound knows (Method at there w fields parts es pieces given_pieces object key given s t u is all more given_are) =
      let small : Type 0 =
      IsSmallTree (Node at word.Call (Then (Flag false) (Then (Node there w fields) (Then (Listed es) End)))) in
      let inner = all_sound knows all in
      let rest = all_sound knows more in
      let node : small → IsSmallTree (Node there w fields) = λ holds. (holds.0.1.1.0, holds.1.1.1.0) in
      let parts_small : small → AreSmallTrees parts = λ holds. member_small is there (node holds) in
      let given_small : small → AreSmallTrees es = λ holds. (holds.0.1.1.1.0, holds.1.1.1.1.0) in
      method_sound small s t u at there given_pieces given is given_are
      (sound_weaker (AreSmallTrees parts) small s t parts_small inner.0)
      (places_weaker (AreSmallTrees parts) small t (places_in pieces) parts_small inner.1)
      (sound_weaker (AreSmallTrees es) small (with_value t (load_of object key) (Some there.span)) u given_small rest.0)
      (places_weaker (AreSmallTrees es) small u (places_in given_pieces) given_small rest.1) node (λ holds. holds.0.0)
  expression_sound knows (Cast at there w fields e type k s t p is annotated by) =
      let small : Type 0 = IsSmallTree (Node at w fields) in
      let inner = expression_sound knows by in
      let part : small → IsSmallTree e = λ holds. (cast_small is at holds).0 in
      cast_sound small s t p k there.span at.span (sound_weaker (IsSmallTree e) small s t part inner.0)
      (place_weaker (IsSmallTree e) small t p part inner.1) (λ holds. (cast_small is at holds).1.0.0) (λ holds. holds.0.0)
  expression_sound knows (Object at es pieces properties s t is all) =
      let small : Type 0 = IsSmallTree (Node at word.Object (Then (Listed es) End)) in
      let inner = all_sound knows all in
      let part : small → AreSmallTrees es = λ holds. (holds.0.1.0, holds.1.1.0) in
      over_sound small s t (values.ObjectExpression properties) at.span (places_in pieces)
      (sound_weaker (AreSmallTrees es) small s t part inner.0)
      (places_weaker (AreSmallTrees es) small t (places_in pieces) part inner.1) (object_places properties pieces is)
      (λ holds fits written. object_writable properties pieces is (parts_written all (part holds)) written) (λ holds. holds.0.0)
  expression_sound {names} knows (Global at name binding s is plain) =
      global_sound names knows.outer at name binding s s is (sound_refl _ s)
  expression_sound {names} knows (RefusedGlobal at name binding s is other) =
      global_sound names knows.outer at name binding s (recorded s _) is (sound_recorded _ s _)
  expression_sound knows (Same at w fields e s t p wrapper by) =
      let inner = expression_sound knows by in (
        sound_weaker (IsSmallTree e) (IsSmallTree (Node at w fields)) s t (wrapper_small wrapper at) inner.0,
        place_weaker (IsSmallTree e) (IsSmallTree (Node at w fields)) t p (wrapper_small wrapper at) inner.1,
      )
  expression_sound knows (Asked at w fields parts pieces v s t form all) =
      asked_sound at w fields parts pieces v s t form (all_sound knows all)
  expression_sound knows (Logical at operator left right s s2 s3 l r second first) =
      logical_tree_sound at operator left right s s2 s3 l r (expression_sound knows second) (expression_sound knows first)
      (λ small. value_spanned IsSmallSpan second (each_small right small.0))
  expression_sound knows (Conditional at test consequent alternate s s2 s3 s4 c a p first second third) =
      conditional_tree_sound at test consequent alternate s s2 s3 s4 c a p (expression_sound knows first)
      (expression_sound knows second) (expression_sound knows third)
  expression_sound knows (Sequence at e es s s2 p last) =
      sequence_tree_sound at (Then e es) s s2 p (last_sound knows last)
  expression_sound knows (Chain at e s t p by) =
      let inner = spine_sound knows by in
      let small : Type 0 = IsSmallTree (Node at word.Chain (Then e End)) in (
        sound_weaker (IsSmallTree e) small s t (λ holds. (holds.0.1.0, holds.1.1.0)) inner.0,
        place_weaker (IsSmallTree e) small t p (λ holds. (holds.0.1.0, holds.1.1.0)) inner.1,
      )

  -- A default.
  pub moved_sound : {names : Names} {e : Syntax} {s t : State} {p : Place} → KnowsNames names → LoweredMoved names e s t p
      → IsSound (IsSmallTree e) s t p
  moved_sound knows (Stays e s t p is by) = expression_sound knows by
  moved_sound knows (Moved at w fields s t p is by) =
      let small : Type 0 = IsSmallTree (Node at w fields) in
      let noted : Diagnostic = diagnostic_at row.F29 (type_name w) at.span in
      let inner = expression_sound knows by in
      (sound_next small s (recorded s noted) t (sound_recorded small s noted) inner.0, inner.1)

  -- A target, whose value is in a place that was made.
  pub target_sound : {names : Names} {at : Span} {value : Place} {e : Syntax} {s t : State} {p : Place} → KnowsNames names
      → LoweredTarget names at value e s t p → value.identifier.0 < length s.env.identifiers → IsSound (SmallTarget at value e s) s t p
  target_sound {names} {at} {value} {e} knows (TargetVariable there name symbol identifier s is mutable f) below =
      variable_stored (SmallTarget at value e s) s (found names s symbol there.span) kinds.Reassign identifier at at value
      (sound_found (SmallTarget at value e s) names s symbol there.span identifier f (λ holds. holds.0.0.0))
      (found_below names s symbol there.span identifier f) (given_target at value e s below) (λ holds. holds.1.0) (λ holds. holds.1.0)
  target_sound {names} {at} {value} {e} knows (TargetConstant there name symbol identifier s is constant f) below =
      let small : Type 0 = SmallTarget at value e s in
      let first : State = found names s symbol there.span in
      let noted : Diagnostic = diagnostic_at row.F6 (names.name symbol.0) there.span in
      let stays : StaysSound small s (recorded first noted) =
      sound_next small s first (recorded first noted)
      (sound_found small names s symbol there.span identifier f (λ holds. holds.0.0.0)) (sound_recorded small first noted) in
      (stays, place_next small s (recorded first noted) value stays (given_target at value e s below))
  target_sound {at} {value} {e} knows (TargetGlobal there name binding s is) below =
      let small : Type 0 = SmallTarget at value e s in
      outer_stored small s s name value at (sound_refl small s, given_target at value e s below) (λ holds. holds.0.1.1.0)
      (λ holds. holds.1.0)
  target_sound {at} {value} {e} knows (TargetMember there w fields parts pieces object key s t is all) below =
      let small : Type 0 = SmallTarget at value e s in
      let inner = all_sound knows all in
      let parts_small : small → AreSmallTrees parts = λ holds. member_small is there holds.0 in
      let before : StaysSound small s t = sound_weaker (AreSmallTrees parts) small s t parts_small inner.0 in
      property_taken small s t there value at is before
      (places_weaker (AreSmallTrees parts) small t (places_in pieces) parts_small inner.1)
      (place_next small s t value before (given_target at value e s below)) (λ holds. holds.0) (λ holds. holds.1.0)
  target_sound {at} {value} {e} knows (TargetLost there w fields s is) below =
      let small : Type 0 = SmallTarget at value e s in
      let noted : Diagnostic = refusal (row_of_head w) there.span in
      let stays : StaysSound small s (recorded s noted) = sound_recorded small s noted in
      (stays, place_next small s (recorded s noted) value stays (given_target at value e s below))
  target_sound {at} {value} {e} knows (TargetDefaulted there w fields target default s t u q p is by rest) below =
      let small : Type 0 = SmallTarget at value e s in
      let parts : small → IsSmallTree target × IsSmallTree default = λ holds. defaulted_small is there holds.0 in
      let ended : State = default_ended (default_at s there.span value) t q in
      let inner = moved_sound knows by in
      let frame = default_sound small s t q value there.span (λ holds. holds.0.0.0) (given_target at value e s below)
      (sound_weaker (IsSmallTree default) small (default_begun s there.span) t (λ holds. (parts holds).1) inner.0)
      (place_weaker (IsSmallTree default) small t q (λ holds. (parts holds).1) inner.1) in
      let last = target_by small there.span (temporary s (Some there.span)) target ended u p (λ holds. (parts holds).0)
      (λ holds. holds.0.0.0) frame.1 (λ known. target_sound knows rest known) in
      (sound_next small s ended u frame.0 last.0, last.1)
  target_sound {at} {value} {e} knows
      (TargetPattern there w of_object forced es rest pattern pieces later s t u v is ahead taken_are are left) below =
      let small : Type 0 = SmallTarget at value e s in
      let all : small → AreSmallTrees es = λ holds. (holds.0.0.1.0, holds.0.1.1.0) in
      let last : small → IsSmallTree rest = λ holds. (holds.0.0.1.1.0, holds.0.1.1.1.0) in
      let apart : State = with_value u (destructured kinds.Reassign pattern value) (Some at) in
      apart_sound small kinds.Reassign pattern of_object value at u pieces are s v later
      (behind_items small s t u pieces later (ahead_sound small ahead all) (taken_sound small taken_are all last))
      (given_target at value e s below) (λ holds. holds.1.0)
      (λ each. laters_by small apart v later each (λ known. later_sound knows left known))

  pub later_sound : {names : Names} {later : List Later} {s t : State} → KnowsNames names → LoweredLater names later s t
      → All (IsKnownLater s) later → StaysSound (All (IsSmallLater s) later) s t
  later_sound knows (NoLater s) below = sound_refl (All (IsSmallLater s) []) s
  later_sound knows (NextLater value part later s t u p by more) below =
      let here : Later = record { value = value; part = part } in
      let small : Type 0 = All (IsSmallLater s) (here ∷ later) in
      let each : All (IsSoundLater small s) (here ∷ later) = given_later s (here ∷ later) below in
      let one : IsSoundLater small s here = All-head (IsSoundLater small s) here later each in
      let first = target_by small (span_of part) value part s t p one.part (λ holds. span_small part (one.part holds).0) one.value
      (λ known. target_sound knows by known) in
      sound_next small s t u first.0
      (laters_by small t u later (laters_next small s t later first.0 (All-tail (IsSoundLater small s) here later each))
      (λ known. later_sound knows more known))

  pub spine_sound : {names : Names} {below : Bool} {e : Syntax} {s t : State} {p : Place} → KnowsNames names
      → LoweredSpine names below e s t p → StaysSound (IsSmallTree e) s t × IsSoundPlace (IsSmallTree e) t p
  spine_sound knows (Outermost e s t front p by) = let inner = link_sound knows by tt in (inner.0, inner.1)
  spine_sound knows (Asserted at e s t p by) =
      let inner = spine_sound knows by in
      let small : Type 0 = IsSmallTree (Node at word.Nonnull (Then e End)) in (
        sound_weaker (IsSmallTree e) small s t (λ holds. (holds.0.1.0, holds.1.1.0)) inner.0,
        place_weaker (IsSmallTree e) small t p (λ holds. (holds.0.1.0, holds.1.1.0)) inner.1,
      )
  spine_sound knows (Broken at e s t p is by) =
      let inner = spine_sound knows by in
      let noted : State = recorded s (refusal row.F44 at.span) in
      let small : Type 0 = IsSmallTree (Node at word.Nonnull (Then e End)) in (
        sound_next small s noted t (sound_recorded small s (refusal row.F44 at.span))
            (sound_weaker (IsSmallTree e) small noted t (λ holds. (holds.0.1.0, holds.1.1.0)) inner.0),
        place_weaker (IsSmallTree e) small t p (λ holds. (holds.0.1.0, holds.1.1.0)) inner.1,
      )

  -- The block in which the chain ends early was numbered before.
  pub link_sound : {names : Names} {alternate : Option BlockId} {e : Syntax} {s t : State} {front : Front} {p : Place} → KnowsNames names
      → LoweredLink names alternate e s t front p → WasMade alternate s
      → StaysSound (IsSmallTree e) s t × IsSoundPlace (IsSmallTree e) t p × IsSoundPlace (IsSmallTree e) t (tested_front front)
  link_sound knows (LinkedProperty alternate at w optional object rest parts pieces o key s t u is by all) made =
      let small : Type 0 = IsSmallTree (Node at w (Then (Flag optional) (Then object rest))) in
      let before : small → IsSmallTree object = λ holds. (property_small is at optional object holds).0 in
      let behind : small → AreSmallTrees parts = λ holds. (property_small is at optional object holds).1 in
      let opened : State = link_objected (link_at s at.span optional alternate) t o in
      let first = front_sound knows by (opened_made alternate s at.span optional made) in
      let others = all_sound knows all in
      whole_link small alternate s t (with_value u (load_of o key) (Some at.span)) at.span optional o (temporary u (Some at.span)) made
      (λ holds. holds.0.0) (sound_weaker (IsSmallTree object) small _ t before first.0)
      (place_weaker (IsSmallTree object) small t o before (All-head (IsSoundPlace (IsSmallTree object) t) o [] first.1))
      (λ tested. property_value small opened u at optional object o is (sound_weaker (AreSmallTrees parts) small opened u behind others.0)
      tested (places_weaker (AreSmallTrees parts) small u (places_in pieces) behind others.1) (λ holds. holds))
  link_sound knows (LinkedPrivate alternate at optional object name o s t by) made =
      let small : Type 0 =
      IsSmallTree (Node at word.Privatemember (Then (Flag optional) (Then object (Then (Said name) End)))) in
      let before : small → IsSmallTree object = λ holds. (holds.0.1.1.0, holds.1.1.1.0) in
      let opened : State = link_objected (link_at s at.span optional alternate) t o in
      let first = front_sound knows by (opened_made alternate s at.span optional made) in
      whole_link small alternate s t (with_value (private_met opened at.span) (values.Primitive primitives.Undefined) (Some at.span))
      at.span optional o (temporary (private_met opened at.span) (Some at.span)) made (λ holds. holds.0.0)
      (sound_weaker (IsSmallTree object) small _ t before first.0)
      (place_weaker (IsSmallTree object) small t o before (All-head (IsSoundPlace (IsSmallTree object) t) o [] first.1))
      (λ tested. private_value small opened at.span (λ holds. holds.0.0))
  link_sound knows (LinkedCall alternate at optional part es pieces given front s t u by all gathers) made =
      let small : Type 0 = IsSmallTree (Node at word.Call (Then (Flag optional) (Then part (Then (Listed es) End)))) in
      let before : small → IsSmallTree part = λ holds. (holds.0.1.1.0, holds.1.1.1.0) in
      let behind : small → AreSmallTrees es = λ holds. (holds.0.1.1.1.0, holds.1.1.1.1.0) in
      let opened : State = link_objected (link_at s at.span optional alternate) t (tested_front front) in
      let first = front_sound knows by (opened_made alternate s at.span optional made) in
      let places = places_weaker (IsSmallTree part) small t (front_places front) before first.1 in
      let others = all_sound knows all in
      whole_link small alternate s t (with_value u (call_of front given) (Some at.span)) at.span optional (tested_front front)
      (temporary u (Some at.span)) made (λ holds. holds.0.0) (sound_weaker (IsSmallTree part) small _ t before first.0)
      (tested_sound (IsSoundPlace small t) front places)
      (λ tested. call_value small opened u at.span front given pieces gathers
      (sound_weaker (AreSmallTrees es) small opened u behind others.0)
      (places_grown small t opened (front_places front) (objected_grow alternate s t at.span optional (tested_front front)) places)
      (places_weaker (AreSmallTrees es) small u (places_in pieces) behind others.1) (λ holds. holds.0.0))

  pub front_sound : {names : Names} {alternate : BlockId} {is_called : Bool} {e : Syntax} {s t : State} {front : Front} → KnowsNames names
      → LoweredFront names alternate is_called e s t front → alternate.0 < s.env.next_block
      → StaysSound (IsSmallTree e) s t × All (IsSoundPlace (IsSmallTree e) t) (front_places front)
  front_sound knows (FrontLink alternate is_called e s t front p by) made =
      let inner = link_sound knows by made in
      (inner.0, handed_sound (IsSoundPlace (IsSmallTree e) t) (is_called && is_property e) front p inner.2 inner.1)
  front_sound knows (FrontBroken alternate is_called at e s t p by) made =
      let inner = spine_sound knows by in
      (inner.0, one_place (IsSmallTree (Node at word.Nonnull (Then e End))) t p inner.1)
  front_sound knows (FrontMethod alternate at w fields parts pieces object key s t is all) made =
      let inner = all_sound knows all in
      method_front_sound s t at is (sound_weaker (AreSmallTrees parts) (IsSmallTree (Node at w fields)) s t (member_small is at) inner.0)
      (places_weaker (AreSmallTrees parts) (IsSmallTree (Node at w fields)) t (places_in pieces) (member_small is at) inner.1)
  front_sound knows (FrontAlone alternate is_called e s t p is by) made =
      let inner = expression_sound knows by in (inner.0, one_place (IsSmallTree e) t p inner.1)

  pub all_sound : {names : Names} {of_object : Bool} {es : Pieces} {s t : State} {pieces : List Piece} → KnowsNames names
      → LoweredParts names of_object es s t pieces
      → StaysSound (AreSmallTrees es) s t × All (IsSoundPlace (AreSmallTrees es) t) (places_in pieces)
  all_sound knows (NoPart s) = (sound_refl (AreSmallTrees End) s, All-nil (IsSoundPlace (AreSmallTrees End) s))
  all_sound knows (NextPart e es s t u p pieces first rest) =
      next_sound (IsSmallTree e) (AreSmallTrees es) (AreSmallTrees (Then e es)) s t u p (places_in pieces)
      (λ small. (small.0.0, small.1.0)) (λ small. (small.0.1, small.1.1)) (expression_sound knows first) (all_sound knows rest)
  all_sound knows (NextSpread at e es s t u p pieces first rest) =
      next_sound (IsSmallTree e) (AreSmallTrees es) (AreSmallTrees (Then (Node at word.Spread (Then e End)) es)) s t u p
      (places_in pieces) (λ small. (small.0.0.1.0, small.1.0.1.0)) (λ small. (small.0.1, small.1.1)) (expression_sound knows first)
      (all_sound knows rest)
  all_sound knows (NextHole at es s u pieces rest) =
      let others = all_sound knows rest in (
        sound_weaker (AreSmallTrees es) (AreSmallTrees (Then (Node at word.Hole End) es)) s u (λ small. (small.0.1, small.1.1)) others.0,
        All-weaker (IsSoundPlace (AreSmallTrees es) u) (IsSoundPlace (AreSmallTrees (Then (Node at word.Hole End) es)) u)
            (λ q known. place_weaker (AreSmallTrees es) (AreSmallTrees (Then (Node at word.Hole End) es)) u q
            (λ small. (small.0.1, small.1.1)) known) (places_in pieces) others.1,
      )
  all_sound knows (NextProperty at computed key e text es s t u p pieces is first rest) =
      next_sound (IsSmallTree e) (AreSmallTrees es)
      (AreSmallTrees (Then (Node at word.Prop (Then (Flag computed) (Then key (Then e End)))) es)) s t u p (places_in pieces)
      (λ small. (small.0.0.1.1.1.0, small.1.0.1.1.1.0)) (λ small. (small.0.1, small.1.1)) (expression_sound knows first)
      (all_sound knows rest)
  all_sound knows (NextComputed at key e es s r t u p q pieces is first second rest) =
      let whole : Type 0 = AreSmallTrees (Then (Node at word.Prop (Then (Flag true) (Then key (Then e End)))) es) in
      next_sound (IsSmallTree key) whole whole s r u p (q ∷ places_in pieces)
      (λ small. (small.0.0.1.1.0, small.1.0.1.1.0)) (λ small. small) (expression_sound knows first)
      (next_sound (IsSmallTree e) (AreSmallTrees es) whole r t u q (places_in pieces)
      (λ small. (small.0.0.1.1.1.0, small.1.0.1.1.1.0)) (λ small. (small.0.1, small.1.1)) (expression_sound knows second)
      (all_sound knows rest))
  all_sound knows (NextFraction at there e text es s t u p pieces is first rest) =
      let whole : Type 0 =
      AreSmallTrees (Then (Node at word.Prop (Then (Flag false) (Then (Node there word.Num (Then (Said text) End)) (Then e End)))) es) in
      let noted : State = recorded s (refusal row.F43 there.span) in
      let others = all_sound knows rest in (
        sound_next whole s noted u (sound_recorded whole s (refusal row.F43 there.span))
            (sound_then (IsSmallTree e) (AreSmallTrees es) whole noted t u (λ small. (small.0.0.1.1.1.0, small.1.0.1.1.1.0))
            (λ small. (small.0.1, small.1.1)) (expression_sound knows first).0 others.0),
        places_weaker (AreSmallTrees es) whole u (places_in pieces) (λ small. (small.0.1, small.1.1)) others.1,
      )
  all_sound knows (NextUnknown at computed key e es s u pieces is rest) =
      let whole : Type 0 = AreSmallTrees (Then (Node at word.Prop (Then (Flag computed) (Then key (Then e End)))) es) in
      let noted : State = recorded s (refusal row.F9 (span_of key)) in
      let others = all_sound knows rest in (
        sound_next whole s noted u (sound_recorded whole s (refusal row.F9 (span_of key)))
            (sound_weaker (AreSmallTrees es) whole noted u (λ small. (small.0.1, small.1.1)) others.0),
        places_weaker (AreSmallTrees es) whole u (places_in pieces) (λ small. (small.0.1, small.1.1)) others.1,
      )

  pub last_sound : {names : Names} {es : Pieces} {s t : State} {p : Place} → KnowsNames names
      → LoweredLast names es s t p → StaysSound (AreSmallTrees es) s t × IsSoundPlace (AreSmallTrees es) t p
  last_sound knows (LastPart e s t p by) =
      let inner = expression_sound knows by in (
        sound_weaker (IsSmallTree e) (AreSmallTrees (Then e End)) s t (λ small. (small.0.0, small.1.0)) inner.0,
        place_weaker (IsSmallTree e) (AreSmallTrees (Then e End)) t p (λ small. (small.0.0, small.1.0)) inner.1,
      )
  last_sound knows (EarlierPart e next es s t u p q first rest) =
      let others = last_sound knows rest in (
        sound_then (IsSmallTree e) (AreSmallTrees (Then next es)) (AreSmallTrees (Then e (Then next es))) s t u
            (λ small. (small.0.0, small.1.0)) (λ small. (small.0.1, small.1.1)) (expression_sound knows first).0 others.0,
        place_weaker (AreSmallTrees (Then next es)) (AreSmallTrees (Then e (Then next es))) u q (λ small. (small.0.1, small.1.1)) others.1,
      )
