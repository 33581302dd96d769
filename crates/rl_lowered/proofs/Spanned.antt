-- Lowering a part gives no span that is none of the part's nodes or of a declaration, and its value is in a place without another.
use Rattle.std.proofs.Common.{◌≡◌, ℕ, ◌&&◌, Bool, true, List, [], ◌∷◌, All, map, Some, None, sym, subst, Option}
use Rattle.std.proofs.lemmas.List.Elements.{All-append, All-cons, All-head, All-nil, All-tail}
use Rattle.std.specs.Prelude.{IfSome}
use Rattle.rl_base.specs.declared.operator.BinaryOperator.{BinaryOperator}
use Rattle.rl_base.specs.declared.row.Row.TheVariants as row
use Rattle.rl_base.specs.declared.type_kind.TypeKind.{TypeKind}
use Rattle.rl_base.specs.declared.type_kind.TypeKind.TheVariants as types
use Rattle.rl_base.specs.declared.variable_kind.VariableKind.{VariableKind}
use Rattle.rl_base.specs.declared.variable_kind.VariableKind.TheVariants as kinds
use Rattle.rl_base.specs.Diagnostics.{diagnostic_at}
use Rattle.rl_builder.specs.Builder.{new_block, recorded, reserved}
use Rattle.rl_builder.specs.Temporaries.{temporary, with_value}
use Rattle.rl_frames.specs.Parts.{try_end}
use Rattle.rl_frames.specs.SwitchParts.{fall_of}
use Rattle.rl_hir.specs.declared.function.BlockKind.TheVariants as blocks
use Rattle.rl_hir.specs.declared.function.Param.{Param}
use Rattle.rl_hir.specs.declared.instruction.InstructionKind.{InstructionKind}
use Rattle.rl_hir.specs.declared.instruction.InstructionKind.TheVariants as variables
use Rattle.rl_hir.specs.declared.instruction.InstructionValue.TheVariants as values
use Rattle.rl_hir.specs.declared.instruction.NonLocalBinding.{NonLocalBinding}
use Rattle.rl_hir.specs.declared.instruction.PlaceOrSpread.{PlaceOrSpread}
use Rattle.rl_hir.specs.declared.instruction.PrimitiveValue.TheVariants as primitives
use Rattle.rl_hir.specs.declared.terminal.Case.{Case}
use Rattle.rl_hir.specs.declared.terminal.GotoVariant.TheVariants as gotos
use Rattle.rl_hir.specs.declared.terminal.ReturnVariant.TheVariants as returns
use Rattle.rl_hir.specs.Instructions.{binding_texts}
use Rattle.rl_hir.specs.Pieces.{argument_pieces, gathered}
use Rattle.rl_lowered.proofs.Catches.{catch_declared}
use Rattle.rl_lowered.proofs.Common.{BlockId, Names, Piece, Pieces, Place, Span, State, SymbolId, Syntax}
use Rattle.rl_lowered.proofs.Plain.{lowered_plain, operand_span}
use Rattle.rl_lowered.proofs.SoundForms.{form_places, method_places, object_places, stored_places}
use Rattle.rl_lowered.proofs.SpannedForms.{cast_each, form_cast, form_each, load_spans, member_each, object_spanned, outer_spanned}
use Rattle.rl_lowered.proofs.SpannedForms.{defaulted_each, private_each, refusing_each, result_spanned, store_cast, update_cast}
use Rattle.rl_lowered.proofs.SpannedForms.{handed_spanned, link_call_spans, link_each, link_load_spans, tested_spanned, update_spans}
use Rattle.rl_lowered.proofs.SpannedForms.{update_spanned, wrapper_each}
use Rattle.rl_lowered.proofs.SpannedFrames.{bound_spans, case_begun_spans, case_ended_spans, declared_spans, do_while_spans}
use Rattle.rl_lowered.proofs.SpannedFrames.{for_plain_spans, for_spans, forin_spans, forof_spans, if_else_spans, if_then_spans, label_spans}
use Rattle.rl_lowered.proofs.SpannedFrames.{logical_spans, sequence_spans, switch_spans, ternary_spans, threw_spans, throwing_spans}
use Rattle.rl_lowered.proofs.SpannedFrames.{default_spans, linked_spans, promoted_spans, tried_spans, while_spans}
use Rattle.rl_lowered.proofs.SpannedItems.{IsOwned, IsSpannedLater, ahead_spans, apart_spans, items_spans, met_spans, taken_spans}
use Rattle.rl_lowered.proofs.SpannedMoves.{found_spans, more_spanned, next_hole_spans, none_spanned, one_spanned, recorded_spans}
use Rattle.rl_lowered.proofs.SpannedMoves.{redeclared_spans, reserved_spans, return_spans, returned_spans, span_or, temporary_spans}
use Rattle.rl_lowered.proofs.SpannedMoves.{type_spans, value_spans}
use Rattle.rl_lowered.specs.Forms.{Alone, Front, IsMember, MemberKey, call_of, front_places, is_property, load_of, places_in, store_of}
use Rattle.rl_lowered.specs.Forms.{tested_front, type_of, typed}
use Rattle.rl_lowered.specs.Items.{Later, caught, found_again, met, promoted, variable_at}
use Rattle.rl_lowered.specs.Lowered.{Lowered, LoweredBody, LoweredCaseTest, LoweredCases, LoweredDeclarators, LoweredHead, LoweredInit}
use Rattle.rl_lowered.specs.Lowered.{LoweredFront, LoweredLink, LoweredSpine, private_met}
use Rattle.rl_lowered.specs.Lowered.{LoweredLast, LoweredLoop, LoweredParts, LoweredStatement, LoweredStatements, LoweredTest}
use Rattle.rl_lowered.specs.Lowered.{assigned_to, declaring, member_computed, name_computed, name_stored, part_span, throwing}
use Rattle.rl_lowered.specs.Lowered.{update_of, value_span}
use Rattle.rl_lowered.specs.Lowered.{LoweredBound, LoweredLater, LoweredMoved, LoweredParams, LoweredPattern, LoweredTarget}
use Rattle.rl_lowered.specs.Lowered as lowered
use Rattle.rl_lowered.specs.Named.{found}
use Rattle.rl_lowered.specs.Spanned.{EachSpan, EachSpanAmong, KeepsSpans}
use Rattle.rl_model.specs.Actions.{Label}
use Rattle.rl_model.specs.WellFormed.{case_places, param_place}
use Rattle.rl_optional_frames.specs.Frames.{link_at, link_objected}
use Rattle.rl_promises.specs.Moved.{type_name}
use Rattle.rl_promises.specs.Rows.{refusal, row_of_head}
use Rattle.rl_promises.specs.Spans.{AreSpanned}
use Rattle.rl_runs.specs.Moves.{block_id}
use Rattle.rl_syntax.specs.declared.word.Word.{Word}
use Rattle.rl_syntax.specs.Syntax.{span_of}

module _ (P : Span → Type 0) where
  -- A part that was lowered is a node.

  pub part_spanned : {names : Names} {e : Syntax} {s t : State} {p : Place} → Lowered names e s t p → EachSpan P e → P (span_of e)
  part_spanned (lowered.Literal at w fields p s literal) each = each.0
  part_spanned _ each = each.0

  loop_own : {names : Names} {own : Label} {e : Syntax} {s t : State} → LoweredLoop names own e s t → EachSpan P e → P (span_of e)
  loop_own (lowered.While at test body s s2 s3 p first second) each = each.0
  loop_own _ each = each.0

  pub statement_own : {names : Names} {e : Syntax} {s t : State} → LoweredStatement names e s t → EachSpan P e → P (span_of e)
  statement_own (lowered.Empty at s) each = each.0
  statement_own (lowered.Unlabeled loop s t d) each = loop_own d each
  statement_own _ each = each.0

  -- Places

  mutual
    pub place_spanned : {names : Names} {e : Syntax} {s t : State} {p : Place} → Lowered names e s t p → EachSpan P e → IfSome p.span P
    place_spanned (lowered.Private at w fields e s t p is by) each = place_spanned by (private_each P is each.1)
    place_spanned (lowered.Same at w fields e s t p wrapper by) each = place_spanned by (wrapper_each P wrapper each.1)
    place_spanned (lowered.UpdatedMember at there w fields parts pieces object key operator prefix s t is all) each =
        result_spanned P t object key operator prefix there.span each.1.1.1.0.0
    place_spanned (lowered.AssignedVariable at there name right symbol identifier s t p is mutable by f) each = each.1.1.0.0
    place_spanned (lowered.AssignedConstant at there name right symbol identifier s t p is constant by f) each = each.1.1.0.0
    place_spanned (lowered.AssignedGlobal at there name right binding s t p is by) each = each.1.1.0.0
    place_spanned (lowered.AssignedMember at there w fields parts pieces object key right s t u p is by all) each = each.1.1.0.0
    place_spanned (lowered.AssignedPattern at there w fields right s t u p q is by more) each =
        target_spanned more each.1.1.0.0 (place_spanned by each.1.1.1.0) each.1.1.0
    place_spanned (lowered.CompoundMember at there w fields parts pieces object key operator applied right s t u p is applies all by) each =
        each.1.1.0.0
    place_spanned (lowered.Chain at e s t p by) each = spine_spanned by each.1.0
    place_spanned _ each = each.0

    -- The place of a target is its own, or that of the value.
    pub target_spanned : {names : Names} {at : Span} {value : Place} {e : Syntax} {s t : State} {p : Place}
        → LoweredTarget names at value e s t p → P at → IfSome value.span P → EachSpan P e → IfSome p.span P
    target_spanned (lowered.TargetConstant there name symbol identifier s is constant f) here given each = given
    target_spanned (lowered.TargetLost there w fields s is) here given each = given
    target_spanned (lowered.TargetDefaulted there w fields target default s t u q p is by rest) here given each =
        target_spanned rest each.0 each.0 (defaulted_each P is each.1).0
    target_spanned _ here given each = here

    pub spine_spanned : {names : Names} {below : Bool} {e : Syntax} {s t : State} {p : Place} → LoweredSpine names below e s t p
        → EachSpan P e → IfSome p.span P
    spine_spanned (lowered.Outermost e s t front p by) each = link_spanned by each
    spine_spanned (lowered.Asserted at e s t p by) each = spine_spanned by each.1.0
    spine_spanned (lowered.Broken at e s t p is by) each = spine_spanned by each.1.0

    link_spanned : {names : Names} {alternate : Option BlockId} {e : Syntax} {s t : State} {front : Front} {p : Place}
        → LoweredLink names alternate e s t front p → EachSpan P e → IfSome p.span P
    link_spanned (lowered.LinkedPrivate alternate at optional object name o s t by) each = each.0
    link_spanned _ each = each.0

    handed_over : {names : Names} {alternate : Option BlockId} {e : Syntax} {s t : State} {front : Front} {p : Place}
        → LoweredLink names alternate e s t front p → EachSpan P e → AreSpanned P (front_places front)
    handed_over (lowered.LinkedProperty alternate at w optional object rest parts pieces o key s t u is by all) each =
        front_spanned by each.1.1.0
    handed_over (lowered.LinkedPrivate alternate at optional object name o s t by) each = front_spanned by each.1.1.0
    handed_over (lowered.LinkedCall alternate at optional callee es pieces given front s t u by all is) each =
        front_spanned by each.1.1.0

    pub front_spanned : {names : Names} {alternate : BlockId} {is_called : Bool} {e : Syntax} {s t : State} {front : Front}
        → LoweredFront names alternate is_called e s t front → EachSpan P e → AreSpanned P (front_places front)
    front_spanned (lowered.FrontLink alternate is_called e s t front p by) each =
        handed_spanned P (is_called && is_property e) front p (handed_over by each) (link_spanned by each)
    front_spanned (lowered.FrontBroken alternate is_called at e s t p by) each = one_spanned P p (spine_spanned by each)
    front_spanned (lowered.FrontMethod alternate at w fields parts pieces object key s t is all) each =
        more_spanned P object (temporary t (Some at.span) ∷ []) (object_spanned P is (places_spanned all (member_each P is each.1)))
        (one_spanned P (temporary t (Some at.span)) each.0)
    front_spanned (lowered.FrontAlone alternate is_called e s t p other by) each = one_spanned P p (place_spanned by each)

    pub places_spanned : {names : Names} {of_object : Bool} {es : Pieces} {s t : State} {pieces : List Piece}
        → LoweredParts names of_object es s t pieces → EachSpanAmong P es → AreSpanned P (places_in pieces)
    places_spanned (lowered.NoPart s) each = none_spanned P
    places_spanned (lowered.NextPart e es s t u p pieces first rest) each =
        more_spanned P p (places_in pieces) (place_spanned first each.0) (places_spanned rest each.1)
    places_spanned (lowered.NextSpread at e es s t u p pieces first rest) each =
        more_spanned P p (places_in pieces) (place_spanned first each.0.1.0) (places_spanned rest each.1)
    places_spanned (lowered.NextHole at es s u pieces rest) each = places_spanned rest each.1
    places_spanned (lowered.NextProperty at computed key e text es s t u p pieces is by rest) each =
        more_spanned P p (places_in pieces) (place_spanned by each.0.1.1.1.0) (places_spanned rest each.1)
    places_spanned (lowered.NextComputed at key e es s r t u p q pieces is first second rest) each =
        more_spanned P p (q ∷ places_in pieces) (place_spanned first each.0.1.1.0)
        (more_spanned P q (places_in pieces) (place_spanned second each.0.1.1.1.0) (places_spanned rest each.1))
    places_spanned (lowered.NextFraction at there e text es s t u p pieces is by rest) each = places_spanned rest each.1
    places_spanned (lowered.NextUnknown at computed key e es s u pieces is rest) each = places_spanned rest each.1

  -- The place of the test of a `for` loop.
  test_spanned : {names : Names} {at : Span} {e : Syntax} {s t : State} {p : Place} → LoweredTest names at e s t p → P at → EachSpan P e
      → IfSome p.span P
  test_spanned (lowered.NoTest s) here each = here
  test_spanned (lowered.Tested e s t p by) here each = place_spanned by each

  -- The span of a part's value, and that of the part where its value has none.
  pub value_spanned : {names : Names} {e : Syntax} {s t : State} {p : Place} → Lowered names e s t p → EachSpan P e → P (value_span p e)
  value_spanned {e = e} {p = p} by each = span_or P p.span (span_of e) (place_spanned by each) (part_spanned by each)

  pub last_spanned : {names : Names} {es : Pieces} {s t : State} {p : Place} → LoweredLast names es s t p → EachSpanAmong P es
      → IfSome p.span P
  last_spanned (lowered.LastPart e s t p by) each = place_spanned by each.0
  last_spanned (lowered.EarlierPart e next es s t u p q first rest) each = last_spanned rest each.1

  -- Moves behind parts

  undefined_spans : (s : State) (at : Span) → P at → KeepsSpans P s (with_value s (values.Primitive primitives.Undefined) (Some at))
  undefined_spans s at here h = value_spans P s (values.Primitive primitives.Undefined) (Some at) here tt (none_spanned P) h

  -- A constant that is assigned.
  constant_spans : (names : Names) (s : State) (symbol : SymbolId) (there span : Span) → P there → P span
      → KeepsSpans P s
      (with_value (recorded (found names s symbol there) (diagnostic_at row.F6 (names.name symbol.0) there))
      (values.Primitive primitives.Undefined) (Some span))
  constant_spans names s symbol there span at here h =
      undefined_spans (recorded (found names s symbol there) (diagnostic_at row.F6 (names.name symbol.0) there)) span here
      (recorded_spans P (found names s symbol there) (diagnostic_at row.F6 (names.name symbol.0) there)
      (found_spans P names s symbol there at h))

  -- The new value of a compound assignment.
  applied_spans : (s : State) (operator : BinaryOperator) (q p : Place) (span : Span) → P span → IfSome q.span P → IfSome p.span P
      → KeepsSpans P s (with_value s (values.BinaryExpression operator q p) (Some span))
  applied_spans s operator q p span here first second h =
      value_spans P s (values.BinaryExpression operator q p) (Some span) here tt
      (more_spanned P q (p ∷ []) first (one_spanned P p second)) h

  -- Stores to a variable, to a global, and to a property.

  assigned_spans : (names : Names) (s : State) (symbol : SymbolId) (identifier : ℕ) (there at : Span) (value : Place) (span : Span)
      → P there → P at → P span → IfSome value.span P
      → KeepsSpans P s (with_value (found names s symbol there) (assigned_to identifier at value) (Some span))
  assigned_spans names s symbol identifier there at value span there_at at_at here given h =
      value_spans P (found names s symbol there) (assigned_to identifier at value) (Some span) here tt
      (more_spanned P (variable_at identifier at) (value ∷ []) at_at (one_spanned P value given))
      (found_spans P names s symbol there there_at h)

  stored_global_spans : (s : State) (name : List ℕ) (value : Place) (span : Span) → P span → IfSome value.span P
      → KeepsSpans P s (with_value s (values.StoreGlobal name value) (Some span))
  stored_global_spans s name value span here given h =
      value_spans P s (values.StoreGlobal name value) (Some span) here tt (one_spanned P value given) h

  stored_member_spans : {w : Word} {fields parts : Pieces} {pieces : List Piece} {object : Place} {key : MemberKey}
      → IsMember w fields parts pieces object key → (s : State) (value : Place) (span : Span) → P span → IfSome value.span P
      → AreSpanned P (places_in pieces) → KeepsSpans P s (with_value s (store_of object key value) (Some span))
  stored_member_spans {pieces} {object} {key} is s value span here given member h =
      value_spans P s (store_of object key value) (Some span) here (store_cast P object key value)
      (subst (AreSpanned P) (sym (stored_places is value))
      (All-append (λ (p : Place). IfSome p.span P) (places_in pieces) (value ∷ []) member (one_spanned P value given)))
      h

  global_spans : (s : State) (binding : NonLocalBinding) (at : Span) → P at
      → KeepsSpans P s (with_value s (values.LoadGlobal binding) (Some at))
  global_spans s binding at here h =
      value_spans P s (values.LoadGlobal binding) (Some at) here tt
      (outer_spanned P (binding_texts binding)) h

  typed_spans : (s : State) (k : TypeKind) → KeepsSpans P s (typed s k)
  typed_spans s types.Array h = h
  typed_spans s types.Primitive h = h
  typed_spans s types.Other h = type_spans P s h

  declaring_spans : (s : State) (k : VariableKind) (at : Span) → KeepsSpans P s (declaring s k at)
  declaring_spans s kinds.Var at h = recorded_spans P s (refusal row.F39 at) h
  declaring_spans s _ at h = h

  method_spans : {w : Word} {fields parts : Pieces} {pieces : List Piece} {object : Place} {key : MemberKey}
      → IsMember w fields parts pieces object key → (t u : State) (given : List PlaceOrSpread) (given_pieces : List Piece) (at there : Span)
      → gathered argument_pieces given ≡ given_pieces → P at → P there → AreSpanned P (places_in pieces)
      → AreSpanned P (places_in given_pieces) → KeepsSpans P (with_value t (load_of object key) (Some there)) u
      → KeepsSpans P t
      (with_value u
      (values.MethodCall (record { receiver = object; property = temporary t (Some there); arguments = given })) (Some at))
  method_spans {object} is t u given given_pieces at there given_is here there_at member places between h =
      value_spans P u (values.MethodCall (record { receiver = object; property = temporary t (Some there); arguments = given })) (Some at)
      here tt
      (subst (AreSpanned P) (sym (method_places object (temporary t (Some there)) given given_pieces given_is))
      (more_spanned P object (temporary t (Some there) ∷ places_in given_pieces) (object_spanned P is member)
      (more_spanned P (temporary t (Some there)) (places_in given_pieces) there_at places)))
      (between (load_spans P is t there there_at member h))

  -- A target that took its piece is a node.

  target_own : {names : Names} {at : Span} {value : Place} {e : Syntax} {s t : State} {p : Place} → LoweredTarget names at value e s t p
      → EachSpan P e → P (span_of e)
  target_own (lowered.TargetLost there w fields s is) each = each.0
  target_own _ each = each.0

  later_own : {names : Names} {later : List Later} {s t : State} → LoweredLater names later s t → All (IsOwned P) later
  later_own (lowered.NoLater s) = All-nil (IsOwned P)
  later_own (lowered.NextLater value part later s t u p by more) =
      All-cons (IsOwned P) (record { value = value; part = part }) later (record { own = λ each. target_own by each }) (later_own more)

  moved_spanned : {names : Names} {e : Syntax} {s t : State} {p : Place} → LoweredMoved names e s t p → EachSpan P e → IfSome p.span P
  moved_spanned (lowered.Stays e s t p is by) each = place_spanned by each
  moved_spanned (lowered.Moved at w fields s t p is by) each = place_spanned by each

  -- Expressions

  mutual
    pub expression_spans : {names : Names} {e : Syntax} {s t : State} {p : Place} → Lowered names e s t p → EachSpan P e
        → KeepsSpans P s t
    expression_spans (lowered.Literal at w fields p s literal) each h =
        value_spans P s (values.Primitive p) (Some at.span) each.0 tt (none_spanned P) h
    expression_spans (lowered.Refused at w fields r s is) each h =
        undefined_spans (recorded s (refusal r at.span)) at.span each.0 (recorded_spans P s (refusal r at.span) h)
    expression_spans (lowered.RefusedBefore at w fields parts r pieces s t is all) each h =
        undefined_spans t at.span each.0
        (all_spans all (refusing_each P is each.1) (recorded_spans P s (refusal r at.span) h))
    expression_spans (lowered.RefusedBehind at object name s t p by) each h =
        undefined_spans (recorded t (refusal row.F3 at.span)) at.span each.0
        (recorded_spans P t (refusal row.F3 at.span) (expression_spans by each.1.1.0 h))
    expression_spans (lowered.Private at w fields e s t p is by) each h = expression_spans by (private_each P is each.1) h
    expression_spans {names} (lowered.Variable at name symbol identifier s is f) each h =
        value_spans P (found names s symbol at.span)
        (values.LoadLocal (record { identifier = record { 0 = identifier }; span = Some at.span })) (Some at.span) each.0 tt
        (one_spanned P (record { identifier = record { 0 = identifier }; span = Some at.span }) each.0)
        (found_spans P names s symbol at.span each.0 h)
    expression_spans {names} (lowered.UpdatedVariable at there name symbol identifier operator prefix s is mutable f g) each h =
        value_spans P (found names (found names s symbol there.span) symbol there.span)
        (update_of prefix operator (record { identifier = record { 0 = identifier }; span = Some there.span })) (Some at.span) each.0
        (update_cast P prefix operator (record { identifier = record { 0 = identifier }; span = Some there.span }))
        (update_spanned P prefix operator (record { identifier = record { 0 = identifier }; span = Some there.span }) each.1.1.1.0.0)
        (found_spans P names (found names s symbol there.span) symbol there.span each.1.1.1.0.0
        (found_spans P names s symbol there.span each.1.1.1.0.0 h))
    expression_spans {names} (lowered.UpdatedConstant at there name symbol identifier operator prefix s is constant f) each h =
        constant_spans names s symbol there.span at.span each.1.1.1.0.0 each.0 h
    expression_spans (lowered.UpdatedMember at there w fields parts pieces object key operator prefix s t is all) each h =
        update_spans P is t operator there.span each.1.1.1.0.0 (places_spanned all (member_each P is each.1.1.1.0.1))
        (all_spans all (member_each P is each.1.1.1.0.1) h)
    expression_spans {names} (lowered.AssignedVariable at there name right symbol identifier s t p is mutable by f) each h =
        assigned_spans names t symbol identifier there.span there.span p there.span each.1.1.0.0 each.1.1.0.0 each.1.1.0.0
        (place_spanned by each.1.1.1.0)
        (expression_spans by each.1.1.1.0 h)
    expression_spans {names} (lowered.AssignedConstant at there name right symbol identifier s t p is constant by f) each h =
        constant_spans names t symbol there.span there.span each.1.1.0.0 each.1.1.0.0 (expression_spans by each.1.1.1.0 h)
    expression_spans (lowered.AssignedGlobal at there name right binding s t p is by) each h =
        stored_global_spans t name p there.span each.1.1.0.0 (place_spanned by each.1.1.1.0) (expression_spans by each.1.1.1.0 h)
    expression_spans (lowered.AssignedMember at there w fields parts pieces object key right s t u p is by all) each h =
        stored_member_spans is u p there.span each.1.1.0.0 (place_spanned by each.1.1.1.0)
        (places_spanned all (member_each P is each.1.1.0.1))
        (all_spans all (member_each P is each.1.1.0.1) (expression_spans by each.1.1.1.0 h))
    expression_spans (lowered.AssignedPrivate at there object name right s t u p q by inside) each h =
        undefined_spans (recorded u (refusal row.F5 at.span)) at.span each.0
        (recorded_spans P u (refusal row.F5 at.span) (expression_spans inside each.1.1.0.1.1.0 (expression_spans by each.1.1.1.0 h)))
    expression_spans (lowered.AssignedPattern at there w fields right s t u p q is by more) each h =
        target_spans more each.1.1.0.0 (place_spanned by each.1.1.1.0) each.1.1.0 (expression_spans by each.1.1.1.0 h)
    expression_spans {names}
        (lowered.CompoundVariable at there name operator applied right symbol identifier s t u q p is mutable applies first second f) each
        h =
        value_spans P (name_stored names u applied q p at.span there.span symbol identifier)
        (values.LoadLocal (variable_at identifier there.span)) (Some at.span) each.0 tt
        (one_spanned P (variable_at identifier there.span) each.1.1.0.0)
        (assigned_spans names (name_computed u applied q p at.span) symbol identifier there.span there.span (temporary u (Some at.span))
        at.span each.1.1.0.0 each.1.1.0.0 each.0 each.0
        (applied_spans u applied q p at.span each.0 (place_spanned first each.1.1.0) (place_spanned second each.1.1.1.0)
        (expression_spans second each.1.1.1.0 (expression_spans first each.1.1.0 h))))
    expression_spans {names}
        (lowered.CompoundConstant at there name operator applied right symbol identifier s t u q p is constant applies first second f) each
        h =
        constant_spans names u symbol there.span at.span each.1.1.0.0 each.0
        (expression_spans second each.1.1.1.0 (expression_spans first each.1.1.0 h))
    expression_spans (lowered.CompoundGlobal at there name operator applied right binding s t u q p is applies first second) each h =
        stored_global_spans (name_computed u applied q p at.span) name (temporary u (Some at.span)) at.span each.0 each.0
        (applied_spans u applied q p at.span each.0 (place_spanned first each.1.1.0) (place_spanned second each.1.1.1.0)
        (expression_spans second each.1.1.1.0 (expression_spans first each.1.1.0 h)))
    expression_spans
        (lowered.CompoundMember at there w fields parts pieces object key operator applied right s t u p is applies all by) each h =
        let member = places_spanned all (member_each P is each.1.1.0.1) in
        stored_member_spans is (member_computed t u applied p there.span) (temporary u (Some there.span)) there.span each.1.1.0.0
        each.1.1.0.0 member
        (applied_spans u applied (temporary t (Some there.span)) p there.span each.1.1.0.0 each.1.1.0.0 (place_spanned by each.1.1.1.0)
        (expression_spans by each.1.1.1.0
        (load_spans P is t there.span each.1.1.0.0 member (all_spans all (member_each P is each.1.1.0.1) h))))
    expression_spans (lowered.CompoundPrivate at there fields operator applied right s t u q p applies first second) each h =
        undefined_spans u at.span each.0 (expression_spans second each.1.1.1.0 (expression_spans first each.1.1.0 h))
    expression_spans (lowered.Method at there w fields parts es pieces given_pieces object key given s t u is all others given_are) each h =
        method_spans is t u given given_pieces at.span there.span given_are each.0 each.1.1.0.0
        (places_spanned all (member_each P is each.1.1.0.1)) (places_spanned others each.1.1.1.0)
        (all_spans others each.1.1.1.0) (all_spans all (member_each P is each.1.1.0.1) h)
    expression_spans (lowered.Cast at there w fields e type k s t p is annotated by) each h =
        value_spans P (typed t k) (values.TypeCastExpression p (type_of t k) (Some there.span)) (Some at.span) each.0
        (cast_each P is each.1).1.0 (one_spanned P p (place_spanned by (cast_each P is each.1).0))
        (typed_spans t k (expression_spans by (cast_each P is each.1).0 h))
    expression_spans (lowered.Global at name binding s is plain) each h = global_spans s binding at.span each.0 h
    expression_spans (lowered.RefusedGlobal at name binding s is other) each h =
        global_spans (recorded s (refusal row.F2 at.span)) binding at.span each.0 (recorded_spans P s (refusal row.F2 at.span) h)
    expression_spans (lowered.Same at w fields e s t p wrapper by) each h = expression_spans by (wrapper_each P wrapper each.1) h
    expression_spans (lowered.Asked at w fields parts pieces v s t form all) each h =
        value_spans P t v (Some at.span) each.0 (form_cast P form)
        (subst (AreSpanned P) (sym (form_places form)) (places_spanned all (form_each P form each.1)))
        (all_spans all (form_each P form each.1) h)
    expression_spans (lowered.Object at es pieces properties s t is all) each h =
        value_spans P t (values.ObjectExpression properties) (Some at.span) each.0 tt
        (subst (AreSpanned P) (sym (object_places properties pieces is)) (places_spanned all each.1.0))
        (all_spans all each.1.0 h)
    expression_spans (lowered.Logical at operator left right s s2 s3 l r second first) each h =
        logical_spans P s s2 s3 at.span (span_of left) (value_span r right) operator l r each.0 (part_spanned first each.1.1.0)
        (value_spanned second each.1.1.1.0) (place_spanned second each.1.1.1.0) (place_spanned first each.1.1.0)
        (expression_spans second each.1.1.1.0) (expression_spans first each.1.1.0) h
    expression_spans (lowered.Conditional at test consequent alternate s s2 s3 s4 c a p first second third) each h =
        ternary_spans P s s2 s3 s4 at.span (span_of consequent) (span_of alternate) c a p each.0 (part_spanned first each.1.1.0)
        (part_spanned second each.1.1.1.0) (place_spanned first each.1.1.0) (place_spanned second each.1.1.1.0)
        (place_spanned third each.1.0) (expression_spans first each.1.1.0) (expression_spans second each.1.1.1.0)
        (expression_spans third each.1.0) h
    expression_spans (lowered.Sequence at e es s s2 p last) each h =
        sequence_spans P s s2 at.span at.span p each.0 each.0 (last_spanned last each.1.0) (last_spans last each.1.0) h
    expression_spans (lowered.Chain at e s t p by) each h = spine_spans by each.1.0 h

    pub moved_spans : {names : Names} {e : Syntax} {s t : State} {p : Place} → LoweredMoved names e s t p → EachSpan P e
        → KeepsSpans P s t
    moved_spans (lowered.Stays e s t p is by) each h = expression_spans by each h
    moved_spans (lowered.Moved at w fields s t p is by) each h =
        expression_spans by each (recorded_spans P s (diagnostic_at row.F29 (type_name w) at.span) h)

    pub target_spans : {names : Names} {at : Span} {value : Place} {e : Syntax} {s t : State} {p : Place}
        → LoweredTarget names at value e s t p → P at → IfSome value.span P → EachSpan P e → KeepsSpans P s t
    target_spans {names} {at} {value} (lowered.TargetVariable there name symbol identifier s is mutable f) here given each h =
        assigned_spans names s symbol identifier there.span at value at each.0 here here given h
    target_spans {names} (lowered.TargetConstant there name symbol identifier s is constant f) here given each h =
        recorded_spans P (found names s symbol there.span) (diagnostic_at row.F6 (names.name symbol.0) there.span)
        (found_spans P names s symbol there.span each.0 h)
    target_spans {at} {value} (lowered.TargetGlobal there name binding s is) here given each h =
        stored_global_spans s name value at here given h
    target_spans {at} {value} (lowered.TargetMember there w fields parts pieces object key s t is all) here given each h =
        stored_member_spans is t value at here given (places_spanned all (member_each P is each.1))
        (all_spans all (member_each P is each.1) h)
    target_spans (lowered.TargetLost there w fields s is) here given each h = recorded_spans P s (refusal (row_of_head w) there.span) h
    target_spans {value} (lowered.TargetDefaulted there w fields target default s t u q p is by rest) here given each h =
        let parts = defaulted_each P is each.1 in
        target_spans rest each.0 each.0 parts.0
        (default_spans P s t q value there.span each.0 (moved_spanned by parts.1) given (moved_spans by parts.1) h)
    target_spans {at} {value}
        (lowered.TargetPattern there w of_object forced es rest pattern pieces later s t u v is ahead taken are left) here given each h =
        let inner = taken_spans P taken (later_own left) each.1.0 each.1.1.0 in
        later_spans left inner.left
        (apart_spans P variables.Reassign pattern of_object value at are inner here given (ahead_spans P ahead each.1.0 h))

    pub later_spans : {names : Names} {later : List Later} {s t : State} → LoweredLater names later s t → All (IsSpannedLater P) later
        → KeepsSpans P s t
    later_spans (lowered.NoLater s) all h = h
    later_spans (lowered.NextLater value part later s t u p by more) all h =
        let l : Later = record { value = value; part = part } in
        let one : IsSpannedLater P l = All-head (IsSpannedLater P) l later all in
        later_spans more (All-tail (IsSpannedLater P) l later all) (target_spans by (target_own by one.part) one.value one.part h)

    pub spine_spans : {names : Names} {below : Bool} {e : Syntax} {s t : State} {p : Place} → LoweredSpine names below e s t p
        → EachSpan P e → KeepsSpans P s t
    spine_spans (lowered.Outermost e s t front p by) each h = link_spans by each h
    spine_spans (lowered.Asserted at e s t p by) each h = spine_spans by each.1.0 h
    spine_spans (lowered.Broken at e s t p is by) each h = spine_spans by each.1.0 (recorded_spans P s (refusal row.F44 at.span) h)

    pub link_spans : {names : Names} {alternate : Option BlockId} {e : Syntax} {s t : State} {front : Front} {p : Place}
        → LoweredLink names alternate e s t front p → EachSpan P e → KeepsSpans P s t
    link_spans (lowered.LinkedProperty alternate at w optional object rest parts pieces o key s t u is by all) each h =
        let object_place = tested_spanned P (Alone o) (front_spanned by each.1.1.0) in
        linked_spans P alternate s t (with_value u (load_of o key) (Some at.span)) at.span optional o (temporary u (Some at.span)) each.0
        object_place each.0 (front_spans by each.1.1.0)
        (λ k. link_load_spans P is u o at.span each.0 object_place (places_spanned all (link_each P is each.1.1.1))
        (all_spans all (link_each P is each.1.1.1) k)) h
    link_spans (lowered.LinkedPrivate alternate at optional object name o s t by) each h =
        let x : State = link_objected (link_at s at.span optional alternate) t o in
        let met : State = private_met x at.span in
        linked_spans P alternate s t (with_value met (values.Primitive primitives.Undefined) (Some at.span)) at.span optional o
        (temporary met (Some at.span)) each.0 (tested_spanned P (Alone o) (front_spanned by each.1.1.0)) each.0
        (front_spans by each.1.1.0)
        (λ k. undefined_spans met at.span each.0 (recorded_spans P x (refusal row.F3 at.span) k)) h
    link_spans (lowered.LinkedCall alternate at optional callee es pieces given front s t u by all is) each h =
        let called = front_spanned by each.1.1.0 in
        linked_spans P alternate s t (with_value u (call_of front given) (Some at.span)) at.span optional (tested_front front)
        (temporary u (Some at.span)) each.0 (tested_spanned P front called) each.0 (front_spans by each.1.1.0)
        (λ k. link_call_spans P front u given pieces at.span is each.0 called (places_spanned all each.1.1.1.0)
        (all_spans all each.1.1.1.0 k)) h

    pub front_spans : {names : Names} {alternate : BlockId} {is_called : Bool} {e : Syntax} {s t : State} {front : Front}
        → LoweredFront names alternate is_called e s t front → EachSpan P e → KeepsSpans P s t
    front_spans (lowered.FrontLink alternate is_called e s t front p by) each h = link_spans by each h
    front_spans (lowered.FrontBroken alternate is_called at e s t p by) each h = spine_spans by each h
    front_spans (lowered.FrontMethod alternate at w fields parts pieces object key s t is all) each h =
        load_spans P is t at.span each.0 (places_spanned all (member_each P is each.1)) (all_spans all (member_each P is each.1) h)
    front_spans (lowered.FrontAlone alternate is_called e s t p other by) each h = expression_spans by each h

    pub all_spans : {names : Names} {of_object : Bool} {es : Pieces} {s t : State} {pieces : List Piece}
        → LoweredParts names of_object es s t pieces → EachSpanAmong P es → KeepsSpans P s t
    all_spans (lowered.NoPart s) each h = h
    all_spans (lowered.NextPart e es s t u p pieces first rest) each h = all_spans rest each.1 (expression_spans first each.0 h)
    all_spans (lowered.NextSpread at e es s t u p pieces first rest) each h = all_spans rest each.1 (expression_spans first each.0.1.0 h)
    all_spans (lowered.NextHole at es s u pieces rest) each h = all_spans rest each.1 h
    all_spans (lowered.NextProperty at computed key e text es s t u p pieces is by rest) each h =
        all_spans rest each.1 (expression_spans by each.0.1.1.1.0 h)
    all_spans (lowered.NextComputed at key e es s r t u p q pieces is first second rest) each h =
        all_spans rest each.1 (expression_spans second each.0.1.1.1.0 (expression_spans first each.0.1.1.0 h))
    all_spans (lowered.NextFraction at there e text es s t u p pieces is by rest) each h =
        all_spans rest each.1 (expression_spans by each.0.1.1.1.0 (recorded_spans P s (refusal row.F43 there.span) h))
    all_spans (lowered.NextUnknown at computed key e es s u pieces is rest) each h =
        all_spans rest each.1 (recorded_spans P s (refusal row.F9 (span_of key)) h)

    pub last_spans : {names : Names} {es : Pieces} {s t : State} {p : Place} → LoweredLast names es s t p → EachSpanAmong P es
        → KeepsSpans P s t
    last_spans (lowered.LastPart e s t p by) each h = expression_spans by each.0 h
    last_spans (lowered.EarlierPart e next es s t u p q first rest) each h = last_spans rest each.1 (expression_spans first each.0 h)

  -- Binding patterns

  pattern_own : {names : Names} {again : Bool} {k : InstructionKind} {at : Span} {value : Place} {e : Syntax} {s t : State} {p : Place}
      → LoweredPattern names again k at value e s t p → EachSpan P e → P (span_of e)
  pattern_own (lowered.BoundDefault there pattern default s t u q p by rest) each = each.0
  pattern_own _ each = each.0

  bound_own : {names : Names} {again : Bool} {k : InstructionKind} {later : List Later} {s t : State}
      → LoweredBound names again k later s t → All (IsOwned P) later
  bound_own (lowered.NothingBound s) = All-nil (IsOwned P)
  bound_own (lowered.NextBound value part later s t u p by more) =
      All-cons (IsOwned P) (record { value = value; part = part }) later (record { own = λ each. pattern_own by each }) (bound_own more)

  -- The place of a pattern is its own.
  pattern_spanned : {names : Names} {again : Bool} {k : InstructionKind} {at : Span} {value : Place} {e : Syntax} {s t : State} {p : Place}
      → LoweredPattern names again k at value e s t p → P at → EachSpan P e → IfSome p.span P
  pattern_spanned (lowered.BoundDefault there pattern default s t u q p by rest) here each = pattern_spanned rest each.0 each.1.0
  pattern_spanned _ here each = here

  mutual
    pub pattern_spans : {names : Names} {again : Bool} {k : InstructionKind} {at : Span} {value : Place} {e : Syntax} {s t : State}
        {p : Place} → LoweredPattern names again k at value e s t p → P at → IfSome value.span P → EachSpan P e → KeepsSpans P s t
    pattern_spans {names} {again} {k} {at} {value} (lowered.BoundName bind name type symbol identifier s annotated is f) here given each h =
        value_spans P (met again names s symbol identifier bind.span) (values.StoreLocal k (variable_at identifier at) value) (Some at)
        here tt (more_spanned P (variable_at identifier at) (value ∷ []) here (one_spanned P value given))
        (met_spans P again names s symbol identifier bind.span each.0 h)
    pattern_spans {value} (lowered.BoundDefault there pattern default s t u q p by rest) here given each h =
        pattern_spans rest each.0 each.0 each.1.0
        (default_spans P s t q value there.span each.0 (moved_spanned by each.1.1.0) given (moved_spans by each.1.1.0) h)
    pattern_spans {k} {at} {value} (lowered.BoundPattern there w of_object es rest pattern pieces later s u v is bound are left) here given
        each h =
        let inner = items_spans P bound (bound_own left) each.1.0 each.1.1.0 in
        parts_spans left inner.left (apart_spans P k pattern of_object value at are inner here given h)

    pub parts_spans : {names : Names} {again : Bool} {k : InstructionKind} {later : List Later} {s t : State}
        → LoweredBound names again k later s t → All (IsSpannedLater P) later → KeepsSpans P s t
    parts_spans (lowered.NothingBound s) all h = h
    parts_spans (lowered.NextBound value part later s t u p by more) all h =
        let l : Later = record { value = value; part = part } in
        let one : IsSpannedLater P l = All-head (IsSpannedLater P) l later all in
        parts_spans more (All-tail (IsSpannedLater P) l later all) (pattern_spans by (pattern_own by one.part) one.value one.part h)

  -- Parameters

  pub params_spans : {names : Names} {es : Pieces} {rest : Syntax} {s t : State} {ps : List Param} → LoweredParams names es rest s t ps
      → EachSpanAmong P es → EachSpan P rest → KeepsSpans P s t
  params_spans (lowered.NoParam s) each last h = h
  params_spans (lowered.RestParam there pattern s t p by) each last h =
      pattern_spans by last.0 last.0 last.1.0 (temporary_spans P s (Some there.span) last.0 h)
  params_spans {names} (lowered.PlainParam there bind name type rest more symbol identifier s t ps annotated is f by) each last h =
      params_spans by each.1 last (found_spans P names s symbol bind.span each.0.1.0.0 h)
  params_spans (lowered.PatternParam there pattern rest more s t u p ps is by others) each last h =
      params_spans others each.1 last
      (pattern_spans by each.0.0 each.0.0 each.0.1.0 (promoted_spans P s there.span each.0.0 h))
  params_spans (lowered.DefaultParam there pattern default rest more s t u v q p ps by first others) each last h =
      params_spans others each.1 last
      (pattern_spans first each.0.0 each.0.0 each.0.1.0
      (default_spans P (promoted s there.span) t q (caught s there.span) there.span each.0.0 (moved_spanned by each.0.1.1.0) each.0.0
      (moved_spans by each.0.1.1.0) (promoted_spans P s there.span each.0.0 h)))

  -- Their places.
  pub params_spanned : {names : Names} {es : Pieces} {rest : Syntax} {s t : State} {ps : List Param} → LoweredParams names es rest s t ps
      → EachSpanAmong P es → EachSpan P rest → AreSpanned P (map param_place ps)
  params_spanned (lowered.NoParam s) each last = none_spanned P
  params_spanned (lowered.RestParam there pattern s t p by) each last = one_spanned P (temporary s (Some there.span)) last.0
  params_spanned (lowered.PlainParam there bind name type rest more symbol identifier s t ps annotated is f by) each last =
      more_spanned P (variable_at identifier bind.span) (map param_place ps) each.0.1.0.0 (params_spanned by each.1 last)
  params_spanned (lowered.PatternParam there pattern rest more s t u p ps is by others) each last =
      more_spanned P (caught s there.span) (map param_place ps) each.0.0 (params_spanned others each.1 last)
  params_spanned (lowered.DefaultParam there pattern default rest more s t u v q p ps by first others) each last =
      more_spanned P (caught s there.span) (map param_place ps) each.0.0 (params_spanned others each.1 last)

  -- Statements

  pub declarators_spans : {names : Names} {at : Span} {k : InstructionKind} {es : Pieces} {s t : State}
      → LoweredDeclarators names at k es s t → P at → EachSpanAmong P es → KeepsSpans P s t
  declarators_spans (lowered.NoDeclarator s) here each h = h
  declarators_spans {names} {at} {k} (lowered.NextDeclared there bind name type more symbol identifier s u typed is f rest) here each h =
      declarators_spans rest here each.1
      (value_spans P (found names s symbol bind.span)
      (values.DeclareLocal k (record { identifier = record { 0 = identifier }; span = Some bind.span })) (Some bind.span) each.0.1.0.0 tt
      (one_spanned P (record { identifier = record { 0 = identifier }; span = Some bind.span }) each.0.1.0.0)
      (found_spans P names s symbol bind.span each.0.1.0.0 h))
  declarators_spans {names} {at} {k} (lowered.NextInitialized there bind name type init more symbol identifier s t u p typed is by f rest)
      here each h =
      declarators_spans rest here each.1
      (value_spans P (found names t symbol bind.span)
      (values.StoreLocal k (record { identifier = record { 0 = identifier }; span = Some at }) p) (Some at) here tt
      (more_spanned P (record { identifier = record { 0 = identifier }; span = Some at }) (p ∷ []) here
      (one_spanned P p (place_spanned by each.0.1.1.0)))
      (found_spans P names t symbol bind.span each.0.1.0.0 (expression_spans by each.0.1.1.0 h)))
  declarators_spans (lowered.NextTakenApart there pattern init more s t u v p q is present by bound rest) here each h =
      declarators_spans rest here each.1
      (pattern_spans bound here (place_spanned by each.0.1.1.0) each.0.1.0 (expression_spans by each.0.1.1.0 h))
  declarators_spans {at} (lowered.NextUntaken there pattern more s u v q is bound rest) here each h =
      declarators_spans rest here each.1 (pattern_spans bound here here each.0.1.0 (undefined_spans s at here h))

  test_spans : {names : Names} {at : Span} {e : Syntax} {s t : State} {p : Place} → LoweredTest names at e s t p → P at → EachSpan P e
      → KeepsSpans P s t
  test_spans {at} (lowered.NoTest s) here each h =
      value_spans P (recorded s (refusal row.F32 at)) (values.Primitive (primitives.Boolean true)) (Some at) here tt (none_spanned P)
      (recorded_spans P s (refusal row.F32 at) h)
  test_spans (lowered.Tested e s t p by) here each h = expression_spans by each h

  init_own : {names : Names} {at : Span} {e : Syntax} {s t : State} → LoweredInit names at e s t → P at → EachSpan P e → P (part_span at e)
  init_own (lowered.NoInit s) here each = here
  init_own (lowered.DeclaredInit there fields s t by) here each = each.0
  init_own {at} (lowered.RefusedInit e s t p by) here each =
      subst P (sym (operand_span e (lowered_plain by).node at)) (part_spanned by each)

  -- The head of a loop over keys or values.

  head_own : {names : Names} {value : Place} {e : Syntax} {s t : State} {p : Place} → LoweredHead names value e s t p → EachSpan P e
      → P (span_of e)
  head_own (lowered.Declared at there bind kind name type symbol identifier s annotated is f) each = each.0
  head_own _ each = each.0

  -- Its place is its own, or that of the value.
  head_spanned : {names : Names} {value : Place} {e : Syntax} {s t : State} {p : Place} → LoweredHead names value e s t p
      → IfSome value.span P → EachSpan P e → IfSome p.span P
  head_spanned (lowered.ReassignedConstant at name symbol identifier s is constant f) given each = given
  head_spanned (lowered.Lost at w fields s is) given each = given
  head_spanned (lowered.DeclaredPattern at there kind pattern s t p is by) given each = pattern_spanned by each.0 each.1.1.0.0.1.0
  head_spanned (lowered.StoredPattern at w fields s t p is by) given each = target_spanned by each.0 given each
  head_spanned _ given each = each.0

  head_spans : {names : Names} {value : Place} {e : Syntax} {s t : State} {p : Place} → LoweredHead names value e s t p
      → IfSome value.span P → EachSpan P e → KeepsSpans P s t
  head_spans {names} {value} (lowered.Declared at there bind kind name type symbol identifier s annotated is f) given each h =
      value_spans P (found_again names s symbol identifier bind.span)
      (values.StoreLocal variables.Let (record { identifier = record { 0 = identifier }; span = Some at.span }) value) (Some at.span)
      each.0 tt
      (more_spanned P (record { identifier = record { 0 = identifier }; span = Some at.span }) (value ∷ []) each.0
      (one_spanned P value given))
      (redeclared_spans P (found names s symbol bind.span) identifier bind.span each.1.1.0.0.1.0.0
      (found_spans P names s symbol bind.span each.1.1.0.0.1.0.0 h))
  head_spans {names} {value} (lowered.Reassigned at name symbol identifier s is mutable f) given each h =
      assigned_spans names s symbol identifier at.span at.span value at.span each.0 each.0 each.0 given h
  head_spans {names} (lowered.ReassignedConstant at name symbol identifier s is constant f) given each h =
      recorded_spans P (found names s symbol at.span) (diagnostic_at row.F6 (names.name symbol.0) at.span)
      (found_spans P names s symbol at.span each.0 h)
  head_spans {value} (lowered.StoredGlobal at name binding s is) given each h =
      stored_global_spans s name value at.span each.0 given h
  head_spans {value} (lowered.StoredMember at w fields parts pieces object key s t is all) given each h =
      stored_member_spans is t value at.span each.0 given (places_spanned all (member_each P is each.1))
      (all_spans all (member_each P is each.1) h)
  head_spans (lowered.DeclaredPattern at there kind pattern s t p is by) given each h = pattern_spans by each.0 given each.1.1.0.0.1.0 h
  head_spans (lowered.StoredPattern at w fields s t p is by) given each h = target_spans by each.0 given each h
  head_spans (lowered.Lost at w fields s is) given each h = recorded_spans P s (refusal (row_of_head w) at.span) h

  -- Tests of cases.

  case_test_spans : {names : Names} {e : Syntax} {s t : State} {p : Option Place} → LoweredCaseTest names e s t p → EachSpan P e
      → KeepsSpans P s t
  case_test_spans (lowered.NoCaseTest s) each h = h
  case_test_spans (lowered.CaseTested e s t p is by) each h = expression_spans by each h
  case_test_spans (lowered.CaseMoved at w fields s t p is by) each h =
      expression_spans by each (recorded_spans P s (diagnostic_at row.F29 (type_name w) at.span) h)

  case_test_spanned : {names : Names} {e : Syntax} {s t : State} {p : Option Place} → LoweredCaseTest names e s t p → EachSpan P e
      → (k : ℕ) (ks : List Case) → AreSpanned P (case_places ks)
      → AreSpanned P (case_places (record { test = p; block = block_id k } ∷ ks))
  case_test_spanned (lowered.NoCaseTest s) each k ks rest = rest
  case_test_spanned (lowered.CaseTested e s t p is by) each k ks rest = more_spanned P p (case_places ks) (place_spanned by each) rest
  case_test_spanned (lowered.CaseMoved at w fields s t p is by) each k ks rest =
      more_spanned P p (case_places ks) (place_spanned by each) rest

  cases_spanned : {names : Names} {s : State} {es : Pieces} {ks : List Case} {t : State} → LoweredCases names s es ks t
      → EachSpanAmong P es → AreSpanned P (case_places ks)
  cases_spanned (lowered.NoCase s) each = none_spanned P
  cases_spanned (lowered.NextCase at test statements cases ks s x y z p all l tested) each =
      case_test_spanned tested each.0.1.0 x.env.next_block ks (cases_spanned all each.1)

  mutual
    pub statement_spans : {names : Names} {e : Syntax} {s t : State} → LoweredStatement names e s t → EachSpan P e → KeepsSpans P s t
    statement_spans (lowered.Empty at s) each h = h
    statement_spans (lowered.Expression at e s t p by) each h = expression_spans by each.1.0 h
    statement_spans (lowered.Debugger at s) each h = value_spans P s values.Debugger (Some at.span) each.0 tt (none_spanned P) h
    statement_spans (lowered.Variables at k declarators s t all) each h =
        declarators_spans all each.0 each.1.1.0 (declaring_spans s k at.span h)
    statement_spans (lowered.ReturnNothing at s) each h =
        returned_spans P (with_value s (values.Primitive primitives.Undefined) None) (Some at.span) returns.Explicit (temporary s None)
        blocks.Block each.0 tt (value_spans P s (values.Primitive primitives.Undefined) None tt tt (none_spanned P) h)
    statement_spans (lowered.Return at e s t p by) each h =
        returned_spans P t (Some at.span) returns.Explicit p blocks.Block each.0 (place_spanned by each.1.0)
        (expression_spans by each.1.0 h)
    statement_spans (lowered.Block at statements s t all) each h = statements_spans all each.1.0 h
    statement_spans (lowered.IfThen at test consequent s s2 s3 p first second) each h =
        if_then_spans P s s2 s3 at.span (span_of consequent) p each.0 (statement_own first each.1.1.0) (place_spanned second each.1.0)
        (statement_spans first each.1.1.0) (expression_spans second each.1.0) h
    statement_spans (lowered.IfElse at test consequent alternate s s2 s3 s4 p first second third) each h =
        if_else_spans P s s2 s3 s4 at.span (span_of consequent) (span_of alternate) p each.0 (statement_own first each.1.1.0)
        (statement_own second each.1.1.1.0) (place_spanned third each.1.0) (statement_spans first each.1.1.0)
        (statement_spans second each.1.1.1.0) (expression_spans third each.1.0) h
    statement_spans (lowered.Unlabeled loop s t by) each h = loop_spans by each h
    statement_spans (lowered.LabeledLoop at label loop s t by) each h = loop_spans by each.1.1.0 h
    statement_spans (lowered.Labeled at label body s s2 other by) each h =
        label_spans P s s2 label at.span (span_of body) each.0 (statement_own by each.1.1.0) (statement_spans by each.1.1.0) h
    statement_spans (lowered.Break at label target s is) each h =
        next_hole_spans P s target.0 gotos.Break at.span blocks.Block each.0 h
    statement_spans (lowered.Continue at label target s is) each h =
        next_hole_spans P s target.0 gotos.Continue at.span blocks.Block each.0 h
    statement_spans (lowered.Throw at e s t p by) each h =
        threw_spans P (throwing t at.span) at.span p blocks.Block each.0 (place_spanned by each.1.0)
        (throwing_spans P t at.span (expression_spans by each.1.0 h))
    statement_spans (lowered.Switch at value cases ks s t u p all by) each h =
        switch_spans P u s.env.next_block ks p at.span each.0 (place_spanned by each.1.0) (cases_spanned all each.1.1.0)
        (expression_spans by each.1.0 (cases_spans all each.1.1.0 h))
    statement_spans (lowered.TryPlain at there block body s s2 s3 first second) each h =
        tried_spans P (reserved s) s2 s3 s.env.next_block there.span (span_of block)
        (try_end s.env.next_block (reserved s).env.next_block s2.env.next_block None at.span) each.1.1.0.0 (statement_own second each.1.0)
        (record { own = each.0; places = none_spanned P }) (statement_spans first each.1.1.0.1.1.0) (statement_spans second each.1.0)
        (reserved_spans P s h)
    statement_spans {names} (lowered.TryBound at there bind name type block body symbol identifier s s2 s3 annotated is f first second) each
        h =
        let declared : State = catch_declared s bind.span in
        tried_spans P declared s2 s3 s.env.next_block there.span (span_of block)
        (try_end s.env.next_block declared.env.next_block s2.env.next_block (Some (caught s bind.span)) at.span) each.1.1.0.0
        (statement_own second each.1.0)
        (record { own = each.0; places = one_spanned P (caught s bind.span) each.1.1.0.1.0.0 })
        (λ g. statement_spans first each.1.1.0.1.1.0 (bound_spans P names s symbol identifier bind.span each.1.1.0.1.0.0 g))
        (statement_spans second each.1.0) (declared_spans P s bind.span each.1.1.0.1.0.0 h)
    statement_spans (lowered.Finalized at there block param body finalizer s t is by) each h =
        statement_spans by (each.0, (each.1.0, (each.1.1.0, (tt, tt)))) (recorded_spans P s (refusal row.F35 at.span) h)
    statement_spans (lowered.Uncaught at block finalizer s) each h = recorded_spans P s (refusal row.F34 at.span) h
    statement_spans (lowered.With at fields s) each h = recorded_spans P s (refusal row.F36 at.span) h

    cases_spans : {names : Names} {s : State} {es : Pieces} {ks : List Case} {t : State} → LoweredCases names s es ks t
        → EachSpanAmong P es → KeepsSpans P s t
    cases_spans (lowered.NoCase s) each h = reserved_spans P s h
    cases_spans (lowered.NextCase at test statements cases ks s x y z p all l tested) each h =
        case_test_spans tested each.0.1.0
        (case_ended_spans P y (fall_of s.env.next_block ks) x.current at.span each.0.0
        (statements_spans l each.0.1.1.0 (case_begun_spans P x s.env.next_block (cases_spans all each.1 h))))

    loop_spans : {names : Names} {own : Label} {e : Syntax} {s t : State} → LoweredLoop names own e s t → EachSpan P e → KeepsSpans P s t
    loop_spans {own} (lowered.While at test body s s2 s3 p first second) each h =
        while_spans P s s2 s3 own at.span (span_of body) p each.0 (statement_own first each.1.1.0) (place_spanned second each.1.0)
        (statement_spans first each.1.1.0) (expression_spans second each.1.0) h
    loop_spans {own} (lowered.DoWhile at test body s s2 s3 p first second) each h =
        do_while_spans P s s2 s3 own at.span (span_of body) p each.0 (statement_own first each.1.0) (place_spanned second each.1.1.0)
        (statement_spans first each.1.0) (expression_spans second each.1.1.0) h
    loop_spans {own} (lowered.ForUpdated at init test update body s s2 s3 s4 s5 u p first third fourth second) each h =
        for_spans P s s2 s3 s4 s5 own at.span (part_span at.span init) (span_of update) (span_of body) p each.0
        (init_own first each.0 each.1.0) (part_spanned third each.1.1.1.0) (statement_own fourth each.1.1.1.1.0)
        (test_spanned second each.0 each.1.1.0) (init_spans first each.0 each.1.0) (expression_spans third each.1.1.1.0)
        (statement_spans fourth each.1.1.1.1.0) (test_spans second each.0 each.1.1.0) h
    loop_spans {own} (lowered.ForPlain at init test body s s2 s3 s4 p first third second) each h =
        for_plain_spans P s s2 s3 s4 own at.span (part_span at.span init) (span_of body) p each.0 (init_own first each.0 each.1.0)
        (statement_own third each.1.1.1.1.0) (test_spanned second each.0 each.1.1.0) (init_spans first each.0 each.1.0)
        (statement_spans third each.1.1.1.1.0) (test_spans second each.0 each.1.1.0) h
    loop_spans {own} (lowered.ForIn at head right body s s2 s3 s4 collection p first second third) each h =
        forin_spans P s s2 s3 s4 own at.span (span_of body) (span_of head) collection p each.0 (statement_own first each.1.1.1.0)
        (head_own third each.1.0) (place_spanned second each.1.1.0) (head_spanned third (head_own third each.1.0) each.1.0)
        (statement_spans first each.1.1.1.0) (expression_spans second each.1.1.0)
        (head_spans third (head_own third each.1.0) each.1.0) h
    loop_spans {own} (lowered.ForOf at head right body s s2 s3 s4 collection p first second third) each h =
        forof_spans P s s2 s3 s4 own at.span (span_of body) (span_of head) collection p each.0 (statement_own first each.1.1.1.1.0)
        (head_own third each.1.1.0) (place_spanned second each.1.1.1.0) (head_spanned third (head_own third each.1.1.0) each.1.1.0)
        (statement_spans first each.1.1.1.1.0) (expression_spans second each.1.1.1.0)
        (head_spans third (head_own third each.1.1.0) each.1.1.0) h
    loop_spans (lowered.AwaitRefused at head right body s) each h = recorded_spans P s (refusal row.F33 at.span) h

    init_spans : {names : Names} {at : Span} {e : Syntax} {s t : State} → LoweredInit names at e s t → P at → EachSpan P e
        → KeepsSpans P s t
    init_spans {at} (lowered.NoInit s) here each h =
        value_spans P s (values.Primitive primitives.Undefined) (Some at) here tt (none_spanned P) h
    init_spans (lowered.DeclaredInit there fields s t by) here each h = statement_spans by each h
    init_spans {at} (lowered.RefusedInit e s t p by) here each h =
        expression_spans by each (recorded_spans P s (refusal row.F31 at) h)

    pub statements_spans : {names : Names} {es : Pieces} {s t : State} → LoweredStatements names es s t → EachSpanAmong P es
        → KeepsSpans P s t
    statements_spans (lowered.NoStatement s) each h = h
    statements_spans (lowered.NextStatement e es s t u first rest) each h =
        statements_spans rest each.1 (statement_spans first each.0 h)

  -- Bodies
  pub body_spans : {names : Names} {b : Syntax} {s t : State} → LoweredBody names b s t → EachSpan P b → KeepsSpans P s t
  body_spans (lowered.Statements at directives statements s t said all) each h = statements_spans all each.1.1.0 h
  body_spans (lowered.Value e s t p by) each h =
      return_spans P t None returns.Implicit p (new_block s.env.next_block blocks.Block) tt (place_spanned by each)
      (expression_spans by each (reserved_spans P s h))
