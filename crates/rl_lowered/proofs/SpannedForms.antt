-- Spans of the parts of a node, and of what is made of them.
use Rattle.std.proofs.Common.{◌≡◌, ℕ, Bool, true, false, List, [], ◌∷◌, ◌++◌, map, Some, None, refl, sym, ap, ◌∙◌, subst}
use Rattle.std.specs.Prelude.{IfSome}
use Rattle.std.proofs.lemmas.List.Elements.{All-append, All-head, All-tail}
use Rattle.rl_base.specs.declared.operator.UpdateOperator.{UpdateOperator}
use Rattle.rl_base.specs.declared.row.Row.{Row}
use Rattle.rl_builder.specs.Temporaries.{temporary, with_value}
use Rattle.rl_hir.specs.Pieces.{Says, argument_pieces, gathered, operands}
use Rattle.rl_hir.specs.declared.instruction.InstructionValue.TheVariants as values
use Rattle.rl_hir.specs.declared.instruction.PlaceOrSpread.{PlaceOrSpread}
use Rattle.rl_hir.specs.declared.instruction.PrimitiveValue.TheVariants as primitives
use Rattle.rl_lowered.proofs.Common.{InstructionValue, Piece, Pieces, Place, Span, State, Syntax}
use Rattle.rl_lowered.proofs.SoundForms.{member_places, method_places, operand_places_in, stored_places}
use Rattle.rl_lowered.proofs.SpannedMoves.{more_spanned, none_spanned, one_spanned, value_spans}
use Rattle.rl_lowered.specs.Forms.{DefaultName, DefaultTarget, IsDefaulted}
use Rattle.rl_lowered.specs.Forms.{Array, Await, Binary, Call, Delete, ImportMeta, IsForm, Load, New, RegExp, Tagged, Template, Unary}
use Rattle.rl_lowered.specs.Forms.{Around, Bare, Computed, Fixed, Indexed, IsInside, IsMember, MemberKey, Numbered, Static}
use Rattle.rl_lowered.specs.Forms.{As, Assert, Instantiated, IsCast, IsPrivate, IsRefusing, IsWrapper, Satisfies}
use Rattle.rl_lowered.specs.Forms.{ImportCall, ImportCallWith, NonNull, Parenthesized, PrivateDelete, PrivateIn, PrivateUpdate}
use Rattle.rl_lowered.specs.Forms.{Alone, Front, IsLinkKey, Lent, LinkIndexed, LinkNumbered, LinkStatic, call_of, delete_of, front_places}
use Rattle.rl_lowered.specs.Forms.{handed_on, load_of, places_in, store_of, tested_front}
use Rattle.rl_lowered.specs.Lowered.{binary_of, member_loaded, member_one, member_result, member_stored, member_updated, update_of}
use Rattle.rl_lowered.specs.Spanned.{EachSpan, EachSpanAmong, KeepsSpans}
use Rattle.rl_model.specs.WellFormed.{operand_places, value_places}
use Rattle.rl_promises.specs.Spans.{AreSpanned, type_span}
use Rattle.rl_syntax.specs.declared.word.Word.{Word}

-- The places of a link's value: its object, or its callee behind the receiver, and those of the parts behind.

link_places : {w : Word} {rest parts : Pieces} {pieces : List Piece} {key : MemberKey} → IsLinkKey w rest parts pieces key → (o : Place)
    → value_places (load_of o key) ≡ o ∷ places_in pieces
link_places LinkStatic o = refl
link_places _ o = refl

call_places : (front : Front) (given : List PlaceOrSpread) (pieces : List Piece) → gathered argument_pieces given ≡ pieces
    → value_places (call_of front given) ≡ front_places front ++ places_in pieces
call_places (Alone p) given pieces is =
    ap (λ (l : List Place). p ∷ l) (operand_places_in (gathered argument_pieces given) ∙ ap places_in is)
call_places (Lent receiver function) given pieces is = method_places receiver function given pieces is

module _ (P : Span → Type 0) where
  -- The parts

  inside_each : {e inner : Syntax} → IsInside e inner → EachSpan P e → EachSpan P inner
  inside_each Bare each = each
  inside_each (Around more) each = inside_each more each.1.0

  pub member_each : {w : Word} {fields parts : Pieces} {pieces : List Piece} {object : Place} {key : MemberKey}
      → IsMember w fields parts pieces object key → EachSpanAmong P fields → EachSpanAmong P parts
  member_each Static each = (each.1.0, tt)
  member_each (Indexed other) each = each.1
  member_each (Numbered numeral) each = (each.1.0, tt)

  pub form_each : {w : Word} {fields parts : Pieces} {pieces : List Piece} {v : InstructionValue} → IsForm w fields parts pieces v
      → EachSpanAmong P fields → EachSpanAmong P parts
  form_each Binary each = each.1
  form_each (Unary plain) each = each.1
  form_each Await each = each
  form_each (Load is) each = member_each is each
  form_each (Delete operator deletes inside is) each = member_each is (inside_each inside each.1.0).1
  form_each (Call plain given) each = (each.1.0, each.1.1.0)
  form_each (New given) each = (each.0, each.1.0)
  form_each (Array given) each = each.0
  form_each (Template quasis given) each = each.1.0
  form_each (Tagged raw quasis given) each = (each.0, each.1.0.1.1.0)
  form_each RegExp each = tt
  form_each ImportMeta each = tt

  pub wrapper_each : {w : Word} {fields : Pieces} {e : Syntax} → IsWrapper w fields e → EachSpanAmong P fields → EachSpan P e
  wrapper_each Parenthesized each = each.0
  wrapper_each NonNull each = each.0
  wrapper_each (Instantiated fit) each = each.0

  pub cast_each : {w : Word} {fields : Pieces} {e type : Syntax} → IsCast w fields e type → EachSpanAmong P fields
      → EachSpan P e × EachSpan P type
  cast_each As each = (each.0, each.1.0)
  cast_each Satisfies each = (each.0, each.1.0)
  cast_each Assert each = (each.1.0, each.0)

  pub defaulted_each : {w : Word} {fields : Pieces} {target default : Syntax} → IsDefaulted w fields target default
      → EachSpanAmong P fields → EachSpan P target × EachSpan P default
  defaulted_each (DefaultTarget whole) each = (each.0, each.1.0)
  defaulted_each (DefaultName whole is) each = (each.0, each.1.0)

  pub private_each : {w : Word} {fields : Pieces} {e : Syntax} → IsPrivate w fields e → EachSpanAmong P fields → EachSpan P e
  private_each PrivateUpdate each = each.1.1.0
  private_each (PrivateDelete operator deletes inside) each = inside_each inside each.1.0

  pub refusing_each : {w : Word} {fields parts : Pieces} {r : Row} → IsRefusing w fields parts r → EachSpanAmong P fields
      → EachSpanAmong P parts
  refusing_each PrivateIn each = each.1
  refusing_each ImportCall each = (each.0, tt)
  refusing_each ImportCallWith each = each

  pub link_each : {w : Word} {rest parts : Pieces} {pieces : List Piece} {key : MemberKey} → IsLinkKey w rest parts pieces key
      → EachSpanAmong P rest → EachSpanAmong P parts
  link_each LinkStatic each = tt
  link_each (LinkIndexed other) each = each
  link_each (LinkNumbered numeral) each = tt

  -- No form is a cast.

  load_cast : (object : Place) (key : MemberKey) → IfSome (type_span (load_of object key)) P
  load_cast object (Fixed key) = tt
  load_cast object (Computed p) = tt

  delete_cast : (object : Place) (key : MemberKey) → IfSome (type_span (delete_of object key)) P
  delete_cast object (Fixed key) = tt
  delete_cast object (Computed p) = tt

  pub store_cast : (object : Place) (key : MemberKey) (value : Place) → IfSome (type_span (store_of object key value)) P
  store_cast object (Fixed key) value = tt
  store_cast object (Computed p) value = tt

  pub update_cast : (prefix : Bool) (operator : UpdateOperator) (variable : Place)
      → IfSome (type_span (update_of prefix operator variable)) P
  update_cast true operator variable = tt
  update_cast false operator variable = tt

  pub form_cast : {w : Word} {fields parts : Pieces} {pieces : List Piece} {v : InstructionValue} → IsForm w fields parts pieces v
      → IfSome (type_span v) P
  form_cast (Load {object} {key} is) = load_cast object key
  form_cast (Delete operator {object} {key} deletes inside is) = delete_cast object key
  form_cast _ = tt

  -- Places of values

  pub update_spanned : (prefix : Bool) (operator : UpdateOperator) (variable : Place) → IfSome variable.span P
      → AreSpanned P (value_places (update_of prefix operator variable))
  update_spanned true operator variable at = more_spanned P variable (variable ∷ []) at (one_spanned P variable at)
  update_spanned false operator variable at = more_spanned P variable (variable ∷ []) at (one_spanned P variable at)

  -- A name that no local variable has reads no place.
  pub outer_spanned : (said : List (List ℕ)) → AreSpanned P (operand_places (operands (map Says said)))
  outer_spanned [] = none_spanned P
  outer_spanned (text ∷ said) = outer_spanned said

  pub object_spanned : {w : Word} {fields parts : Pieces} {pieces : List Piece} {object : Place} {key : MemberKey}
      → IsMember w fields parts pieces object key → AreSpanned P (places_in pieces) → IfSome object.span P
  object_spanned (Static {p}) all = All-head (λ (q : Place). IfSome q.span P) p [] all
  object_spanned (Indexed {p} {q} other) all = All-head (λ (q : Place). IfSome q.span P) p (q ∷ []) all
  object_spanned (Numbered {p} numeral) all = All-head (λ (q : Place). IfSome q.span P) p [] all

  -- A property

  pub load_spans : {w : Word} {fields parts : Pieces} {pieces : List Piece} {object : Place} {key : MemberKey}
      → IsMember w fields parts pieces object key → (t : State) (there : Span) → P there → AreSpanned P (places_in pieces)
      → KeepsSpans P t (member_loaded t object key there)
  load_spans {object} {key} is t there at places h =
      value_spans P t (load_of object key) (Some there) at (load_cast object key)
      (subst (AreSpanned P) (sym (member_places is).0) places) h

  pub update_spans : {w : Word} {fields parts : Pieces} {pieces : List Piece} {object : Place} {key : MemberKey}
      → IsMember w fields parts pieces object key → (t : State) (operator : UpdateOperator) (there : Span) → P there
      → AreSpanned P (places_in pieces) → KeepsSpans P t (member_stored t object key operator there)
  update_spans {pieces} {object} {key} is t operator there at places h =
      value_spans P updated (store_of object key (temporary one (Some there))) (Some there) at
      (store_cast object key (temporary one (Some there)))
      (subst (AreSpanned P) (sym (stored_places is (temporary one (Some there))))
      (All-append (λ (p : Place). IfSome p.span P) (places_in pieces) (temporary one (Some there) ∷ []) places
      (one_spanned P (temporary one (Some there)) at)))
      (value_spans P one (values.BinaryExpression (binary_of operator) (temporary t (Some there)) (temporary loaded None)) (Some there)
      at tt (more_spanned P (temporary t (Some there)) (temporary loaded None ∷ []) at (one_spanned P (temporary loaded None) tt))
      (value_spans P loaded (values.Primitive (primitives.Number 1)) None tt tt (none_spanned P)
      (load_spans is t there at places h)))
    where
      loaded : State
      loaded = member_loaded t object key there

      one : State
      one = member_one t object key there

      updated : State
      updated = member_updated t object key operator there

  pub result_spanned : (t : State) (object : Place) (key : MemberKey) (operator : UpdateOperator) (prefix : Bool) (there : Span) → P there
      → IfSome (member_result t object key operator prefix there).span P
  result_spanned t object key operator true there at = at
  result_spanned t object key operator false there at = at

  -- Links of chains: the places of what stands in front

  pub tested_spanned : (front : Front) → AreSpanned P (front_places front) → IfSome (tested_front front).span P
  tested_spanned (Alone p) all = All-head (λ (q : Place). IfSome q.span P) p [] all
  tested_spanned (Lent receiver function) all =
      All-head (λ (q : Place). IfSome q.span P) function []
      (All-tail (λ (q : Place). IfSome q.span P) receiver (function ∷ []) all)

  pub handed_spanned : (lends : Bool) (front : Front) (p : Place) → AreSpanned P (front_places front) → IfSome p.span P
      → AreSpanned P (front_places (handed_on lends front p))
  handed_spanned true front p all at = more_spanned P (tested_front front) (p ∷ []) (tested_spanned front all) (one_spanned P p at)
  handed_spanned false front p all at = one_spanned P p at

  -- Their values

  pub link_load_spans : {w : Word} {rest parts : Pieces} {pieces : List Piece} {key : MemberKey} → IsLinkKey w rest parts pieces key
      → (u : State) (o : Place) (span : Span) → P span → IfSome o.span P → AreSpanned P (places_in pieces)
      → KeepsSpans P u (with_value u (load_of o key) (Some span))
  link_load_spans {pieces} {key} is u o span at object places h =
      value_spans P u (load_of o key) (Some span) at (load_cast o key)
      (subst (AreSpanned P) (sym (link_places is o)) (more_spanned P o (places_in pieces) object places)) h

  call_cast : (front : Front) (given : List PlaceOrSpread) → IfSome (type_span (call_of front given)) P
  call_cast (Alone p) given = tt
  call_cast (Lent receiver function) given = tt

  pub link_call_spans : (front : Front) (u : State) (given : List PlaceOrSpread) (pieces : List Piece) (span : Span)
      → gathered argument_pieces given ≡ pieces → P span → AreSpanned P (front_places front) → AreSpanned P (places_in pieces)
      → KeepsSpans P u (with_value u (call_of front given) (Some span))
  link_call_spans front u given pieces span is at called places h =
      value_spans P u (call_of front given) (Some span) at (call_cast front given)
      (subst (AreSpanned P) (sym (call_places front given pieces is))
      (All-append (λ (p : Place). IfSome p.span P) (front_places front) (places_in pieces) called places)) h
