-- The diagnostics that the lowering of a part records: the part's refusals, in the order of the walk.
use Rattle.std.proofs.Common.{◌≡◌, ℕ, ◌+◌, ◌++◌, Bool, true, false, if◌then◌else◌, List, [], ◌∷◌, Option, Some, None}
use Rattle.std.proofs.Common.{append-nil, append_assoc, refl, ap, ◌∙◌, subst, is_some}
use Rattle.rl_base.specs.declared.row.Row.TheVariants as row
use Rattle.rl_base.specs.Diagnostics.{diagnostic_at}
use Rattle.rl_base.specs.Operators.{update_text}
use Rattle.rl_builder.specs.Builder.{innermost, recorded, reserved}
use Rattle.rl_builder.specs.Temporaries.{temporary, with_value}
use Rattle.rl_frames.specs.Frames.{LogicalParts, TernaryParts, logical_at, sequence_at, ternary_at}
use Rattle.rl_frames.specs.Parts.{loads, try_handler}
use Rattle.rl_frames.specs.Rounds.{ForOfParts, RoundsParts, forin_at, forin_headed, forof_at, forof_headed, forof_iterator, forof_shut}
use Rattle.rl_frames.specs.Rounds.{forof_tested, rounds_shut}
use Rattle.rl_hir.specs.declared.instruction.InstructionKind.{InstructionKind}
use Rattle.rl_hir.specs.declared.instruction.InstructionKind.TheVariants as variables
use Rattle.rl_hir.specs.declared.instruction.InstructionValue.TheVariants as values
use Rattle.rl_hir.specs.declared.instruction.PrimitiveValue.TheVariants as primitives
use Rattle.rl_hir.specs.declared.terminal.Case.{Case}
use Rattle.rl_lowered.proofs.Blocks.{blocks_caught, cases_blocks, declares_of, expression_blocks, init_blocks, statement_blocks}
use Rattle.rl_lowered.proofs.Catches.{catch_declared, declares_caught, stores_caught}
use Rattle.rl_lowered.proofs.Clean.{finalizer_said}
use Rattle.rl_lowered.proofs.CleanChains.{spine_place}
use Rattle.rl_lowered.proofs.Common.{At, BlockId, Diagnostic, End, InstructionValue, Names, Node, Piece, Pieces, Place, Said, Span, State}
use Rattle.rl_lowered.proofs.Common.{SymbolId, Syntax, Then}
use Rattle.rl_lowered.proofs.Plain.{init_said, lowered_plain, test_unsaid}
use Rattle.rl_lowered.proofs.ItemRefused.{bound_refused, left_rows, left_rows_are, met_refused, pattern_rows}
use Rattle.rl_lowered.proofs.TakenRefused.{left_taken, left_taken_are, look_refused, taken_refused, taking_rows}
use Rattle.rl_lowered.proofs.TargetForms.{ahead_forced, defaulted_refuses, lost_target_refuses, member_target, pattern_head_refuses}
use Rattle.rl_lowered.proofs.Refusals.{assigned_pattern_refuses}
use Rattle.rl_hir.specs.declared.function.Param.{Param}
use Rattle.rl_lowered.specs.Items.{Later, caught, destructured, met}
use Rattle.rl_lowered.specs.Lowered.{LoweredBound, LoweredLater, LoweredMoved, LoweredParams, LoweredPattern, LoweredTarget}
use Rattle.rl_optional_frames.specs.Frames.{default_at, default_ended, default_tested}
use Rattle.rl_optional_frames.specs.Parts.{default_given}
use Rattle.rl_promises.specs.Rows.{refusals_to}
use Rattle.rl_lowered.proofs.Records.{begun_said, constant_said, declaring_said, found_said, found_value_said}
use Rattle.rl_lowered.proofs.Records.{link_ended_said, link_opened_said, member_said, noted_said}
use Rattle.rl_lowered.proofs.Records.{pushed_said, records_all, records_before, records_behind, records_none, records_same, records_then}
use Rattle.rl_lowered.proofs.Records.{records_unit, said, stored_said, typed_said, value_said}
use Rattle.rl_lowered.proofs.Refusals.{assigned_member_refuses, bind_refuses, cast_refuses, compound_member_refuses, compound_refuses}
use Rattle.rl_lowered.proofs.Refusals.{computed_refuses, constant_refuses, declared_head_refuses, form_refuses, fraction_refuses}
use Rattle.rl_lowered.proofs.Refusals.{literal_refuses, lost_head_refuses, member_head_refuses, method_refuses, name_refuses}
use Rattle.rl_lowered.proofs.Refusals.{outer_head_refuses, outer_refuses, private_refuses, property_refuses, refused_refuses}
use Rattle.rl_lowered.proofs.Refusals.{refusing_refuses, stored_head_refuses, unknown_refuses, update_refuses, updated_member_refuses}
use Rattle.rl_lowered.proofs.Refusals.{wrapper_refuses}
use Rattle.rl_lowered.proofs.Spines.{broken_refuses, front_refuses, link_refuses, lowered_off, outermost_refuses}
use Rattle.rl_lowered.specs.Forms.{Front, IsAnnotation, call_of, load_of, store_of, typed}
use Rattle.rl_lowered.specs.Items.{found_again, promoted, variable_at}
use Rattle.rl_lowered.specs.Lowered.{Lowered, LoweredBody, LoweredCaseTest, LoweredCases, LoweredDeclarators, LoweredHead, LoweredInit}
use Rattle.rl_lowered.specs.Lowered.{LoweredFront, LoweredLink, LoweredSpine, private_met}
use Rattle.rl_lowered.specs.Lowered.{LoweredLast, LoweredLoop, LoweredParts, LoweredStatement, LoweredStatements, LoweredTest, catch_begun}
use Rattle.rl_lowered.specs.Lowered.{catch_bound, declaring, label_part, member_computed}
use Rattle.rl_lowered.specs.Lowered.{name_computed, name_stored, throwing, throwing_under}
use Rattle.rl_lowered.specs.Lowered.{value_span}
use Rattle.rl_lowered.specs.Lowered as lowered
use Rattle.rl_lowered.specs.Named.{IsFound, found}
use Rattle.rl_model.specs.Actions.{Label}
use Rattle.rl_names.specs.declared.names.Meaning.TheVariants.{Local}
use Rattle.rl_optional_frames.specs.Frames.{LinkParts, link_after, link_at, link_objected}
use Rattle.rl_optional_frames.specs.Parts.{undefined_made}
use Rattle.rl_promises.specs.Chains.{Below, Top}
use Rattle.rl_promises.specs.Moved.{may_move, said_of_moved, type_name}
use Rattle.rl_promises.specs.Rows.{Records, label_of, refusal, refusals, refusals_among, refusals_at}
use Rattle.rl_promises.specs.Rows.{refusals_at_head, refusals_by, refusals_in, refusals_in_body, refusals_in_cases, row_of_head}
use Rattle.rl_promises.specs.Rows.{said_of_init}
use Rattle.rl_promises.specs.Rows.{said_of_local, said_of_test, said_of_throw}
use Rattle.rl_runs.proofs.Holes.{last_added}
use Rattle.rl_runs.proofs.Moves.{extends_value}
use Rattle.rl_runs.specs.Moves.{block_id}
use Rattle.rl_syntax.specs.declared.word.Word.TheVariants as word
use Rattle.rl_syntax.specs.Syntax.{Absent, Flag, span_of}

pub moved_unsaid : (names : Names) (e : Syntax) → may_move names e ≡ true → said_of_moved names e ≡ []
moved_unsaid names (Node at w fields) is =
    ap (λ (b : Bool). if b then [] else diagnostic_at row.F29 (type_name w) at.span ∷ []) is
moved_unsaid names _ is = refl

-- A default records nothing behind its expression.
default_said : (s s2 : State) (value default : Place) (span : Span)
    → said (default_ended (default_at s span value) s2 default) ≡ said s2
default_said s s2 value default span =
    let place : Place = temporary s (Some span) in
    let tested : State = default_tested (default_at s span value) s2 default in
    value_said (undefined_made tested span) _ (Some span) ∙ value_said tested (values.Primitive primitives.Undefined) (Some span)
    ∙ stored_said (default_given s2 (s.env.next_block + 1) place default span) place value span ∙ stored_said s2 place default span

mutual
  pub expression_refused : {names : Names} {e : Syntax} {s t : State} {p : Place} → Lowered names e s t p
      → Records (refusals names e) (said s) (said t)
  expression_refused {names} (lowered.Literal at w fields p s is) =
      records_none _ (said s) _ (literal_refuses names at is) (value_said s (values.Primitive p) (Some at.span))
  expression_refused {names} (lowered.Refused at w fields r s is) =
      records_same _ _ (said s) _ (refused_refuses names at is)
      (noted_said s (refusal r at.span) (values.Primitive primitives.Undefined) (Some at.span))
  expression_refused {names} (lowered.RefusedBefore at w fields parts r pieces s t is l) =
      records_same _ _ (said s) _ (refusing_refuses names at is)
      (records_behind _ (said s) (said t) _ (value_said t (values.Primitive primitives.Undefined) (Some at.span))
      (records_then (refusal r at.span ∷ []) (refusals_in names parts) (said s) (said (recorded s (refusal r at.span))) (said t)
      (records_all (refusal r at.span ∷ []) (said s) _ refl) (all_refused l)))
  expression_refused {names} (lowered.RefusedBehind at object name s t p l) =
      records_then (refusals names object) (refusal row.F3 at.span ∷ []) (said s) (said t) _ (expression_refused l)
      (noted_said t (refusal row.F3 at.span) (values.Primitive primitives.Undefined) (Some at.span))
  expression_refused {names} (lowered.Private at w fields e s t p is l) =
      records_same _ _ (said s) (said t) (private_refuses names at is) (expression_refused l)
  expression_refused {names} (lowered.Variable at name symbol identifier s is f) =
      records_same _ _ (said s) _ (name_refuses names at name (Local symbol) is)
      (found_value_said names s symbol at.span identifier _ (Some at.span) f)
  expression_refused {names} (lowered.UpdatedVariable at there name symbol identifier operator prefix s is mutable f g) =
      let first : State = found names s symbol there.span in
      records_same _ _ (said s) _ (update_refuses names at there (Said (update_text operator)) (Flag prefix) name symbol is mutable)
      (records_then _ _ (said s) (said first) _ (found_said names s symbol there.span identifier f)
      (found_value_said names first symbol there.span identifier _ (Some at.span) g))
  expression_refused {names} (lowered.UpdatedConstant at there name symbol identifier operator prefix s is constant f) =
      records_same _ _ (said s) _ (constant_refuses names at there operator prefix name symbol is constant)
      (constant_said names s symbol there.span identifier (Some at.span) f)
  expression_refused {names} (lowered.UpdatedMember at there w fields parts pieces object key operator prefix s t is l) =
      records_same _ _ (said s) _ (updated_member_refuses names at there (Said (update_text operator)) (Flag prefix) is)
      (records_behind _ (said s) (said t) _ (member_said t object key operator there.span) (all_refused l))
  expression_refused {names} (lowered.AssignedVariable at there name right symbol identifier s t p is mutable l f) =
      records_then (refusals names right) _ (said s) (said t) _ (expression_refused l)
      (records_same _ _ (said t) _
      (stored_head_refuses names there name symbol false is mutable
      ∙ append-nil (said_of_local (names.name symbol.0) (label_of names symbol there.span)))
      (found_value_said names t symbol there.span identifier _ (Some there.span) f))
  expression_refused {names} (lowered.AssignedConstant at there name right symbol identifier s t p is constant l f) =
      records_then (refusals names right) _ (said s) (said t) _ (expression_refused l)
      (records_same _ _ (said t) _ (stored_head_refuses names there name symbol true is constant)
      (constant_said names t symbol there.span identifier (Some there.span) f))
  expression_refused {names} (lowered.AssignedGlobal at there name right binding s t p is l) =
      records_then (refusals names right) _ (said s) (said t) _ (expression_refused l)
      (records_none _ (said t) _ (outer_head_refuses names there name binding is)
      (value_said t (values.StoreGlobal name p) (Some there.span)))
  expression_refused {names} (lowered.AssignedMember at there w fields parts pieces object key right s t u p is l all) =
      records_same _ _ (said s) _ (assigned_member_refuses names at there right is)
      (records_behind _ (said s) (said u) _ (value_said u (store_of object key p) (Some there.span))
      (records_then (refusals names right) (refusals_in names parts) (said s) (said t) (said u) (expression_refused l) (all_refused all)))
  expression_refused {names} (lowered.AssignedPrivate at there object name right s t u p q l inside) =
      records_then (refusals names right) _ (said s) (said t) _ (expression_refused l)
      (records_then (refusals names object ++ []) (refusal row.F5 at.span ∷ []) (said t) (said u) _
      (records_unit (refusals names object) (said t) (said u) (expression_refused inside))
      (noted_said u (refusal row.F5 at.span) (values.Primitive primitives.Undefined) (Some at.span)))
  expression_refused {names} (lowered.AssignedPattern at there w fields right s t u p q is l d) =
      records_same _ _ (said s) (said u) (assigned_pattern_refuses names at (Node there w fields) right is)
      (records_then (refusals names right) (refusals_to names (Node there w fields)) (said s) (said t) (said u) (expression_refused l)
      (target_refused d))
  expression_refused {names}
      (lowered.CompoundVariable at there name operator applied right symbol identifier s t u q p is mutable applies l m f) =
      let target : Syntax = Node there word.Id (Then (Said name) End) in
      let computed : State = name_computed u applied q p at.span in
      let stored : State = name_stored names u applied q p at.span there.span symbol identifier in
      records_same _ _ (said s) _ (compound_refuses names at target right operator applied applies refl)
      (records_then (refusals names target ++ refusals names right) _ (said s) (said u) _
      (records_then (refusals names target) (refusals names right) (said s) (said t) (said u) (expression_refused l) (expression_refused m))
      (records_same _ _ (said u) _
      (stored_head_refuses names there name symbol false is mutable
      ∙ append-nil (said_of_local (names.name symbol.0) (label_of names symbol there.span)))
      (records_behind _ (said u) (said stored) _ (value_said stored (values.LoadLocal (variable_at identifier there.span)) (Some at.span))
      (records_before _ (said u) (said computed) (said stored) (value_said u (values.BinaryExpression applied q p) (Some at.span))
      (found_value_said names computed symbol there.span identifier _ (Some at.span) f)))))
  expression_refused {names}
      (lowered.CompoundConstant at there name operator applied right symbol identifier s t u q p is constant applies l m f) =
      let target : Syntax = Node there word.Id (Then (Said name) End) in
      records_same _ _ (said s) _ (compound_refuses names at target right operator applied applies refl)
      (records_then (refusals names target ++ refusals names right) _ (said s) (said u) _
      (records_then (refusals names target) (refusals names right) (said s) (said t) (said u) (expression_refused l) (expression_refused m))
      (records_same _ _ (said u) _ (stored_head_refuses names there name symbol true is constant)
      (constant_said names u symbol there.span identifier (Some at.span) f)))
  expression_refused {names} (lowered.CompoundGlobal at there name operator applied right binding s t u q p is applies l m) =
      let target : Syntax = Node there word.Id (Then (Said name) End) in
      let computed : State = name_computed u applied q p at.span in
      records_same _ _ (said s) _ (compound_refuses names at target right operator applied applies refl)
      (records_then (refusals names target ++ refusals names right) _ (said s) (said u) _
      (records_then (refusals names target) (refusals names right) (said s) (said t) (said u) (expression_refused l) (expression_refused m))
      (records_none _ (said u) _ (outer_head_refuses names there name binding is)
      (value_said computed (values.StoreGlobal name (temporary u (Some at.span))) (Some at.span)
      ∙ value_said u (values.BinaryExpression applied q p) (Some at.span))))
  expression_refused {names}
      (lowered.CompoundMember at there w fields parts pieces object key operator applied right s t u p is applies all l) =
      records_same _ _ (said s) _ (compound_member_refuses names at there right operator applied applies is)
      (records_behind _ (said s) (said u) _
      (value_said (member_computed t u applied p there.span) (store_of object key (temporary u (Some there.span))) (Some there.span)
      ∙ value_said u (values.BinaryExpression applied (temporary t (Some there.span)) p) (Some there.span))
      (records_then (refusals_in names parts) (refusals names right) (said s) (said t) (said u) (all_refused all)
      (records_before _ (said t) _ (said u) (value_said t (load_of object key) (Some there.span)) (expression_refused l))))
  expression_refused {names} (lowered.CompoundPrivate at there fields operator applied right s t u q p applies l m) =
      let target : Syntax = Node there word.Privatemember fields in
      records_same _ _ (said s) _ (compound_refuses names at target right operator applied applies refl)
      (records_unit (refusals names target ++ refusals names right) (said s) _
      (records_behind _ (said s) (said u) _ (value_said u (values.Primitive primitives.Undefined) (Some at.span))
      (records_then (refusals names target) (refusals names right) (said s) (said t) (said u) (expression_refused l)
      (expression_refused m))))
  expression_refused {names} (lowered.Method at there w fields parts es pieces given_pieces object key given s t u is l given_are m) =
      records_same _ _ (said s) _ (method_refuses names at there es is)
      (records_behind _ (said s) (said u) _ (value_said u _ (Some at.span))
      (records_then (refusals_in names parts) (refusals_in names es) (said s) (said t) (said u) (all_refused l)
      (records_before _ (said t) _ (said u) (value_said t (load_of object key) (Some there.span)) (all_refused given_are))))
  expression_refused {names} (lowered.Cast at there w fields e type k s t p is annotated l) =
      records_same _ _ (said s) _ (cast_refuses names at there is)
      (records_behind _ (said s) (said t) _ (value_said (typed t k) _ (Some at.span) ∙ typed_said t k) (expression_refused l))
  expression_refused {names} (lowered.Global at name binding s is plain) =
      records_none _ (said s) _ (outer_refuses names at name binding false is plain)
      (value_said s (values.LoadGlobal binding) (Some at.span))
  expression_refused {names} (lowered.RefusedGlobal at name binding s is refused) =
      records_same _ _ (said s) _ (outer_refuses names at name binding true is refused)
      (noted_said s (refusal row.F2 at.span) (values.LoadGlobal binding) (Some at.span))
  expression_refused {names} (lowered.Same at w fields e s t p is l) =
      records_same _ _ (said s) (said t) (wrapper_refuses names at is) (expression_refused l)
  expression_refused {names} (lowered.Asked at w fields parts pieces v s t is l) =
      records_same _ _ (said s) _ (form_refuses names at is)
      (records_behind _ (said s) (said t) _ (value_said t v (Some at.span)) (all_refused l))
  expression_refused {names} (lowered.Object at es pieces properties s t is l) =
      records_behind _ (said s) (said t) _ (value_said t (values.ObjectExpression properties) (Some at.span))
      (records_unit (refusals_in names es) (said s) (said t) (all_refused l))
  expression_refused {names} (lowered.Logical at operator left right s s2 s3 l r second first) =
      let f : LogicalParts = logical_at s at.span operator (span_of left) in
      records_then (refusals names right) (refusals names left) (said s) (said s2) _
      (records_before _ (said s) _ (said s2) (begun_said s at.span (span_of left)) (expression_refused second))
      (records_behind _ (said s2) (said s3) _ (pushed_said s3 (loads f.left l f.span))
      (records_before _ (said s2) _ (said s3) (stored_said s2 f.place r (value_span r right)) (expression_refused first)))
  expression_refused {names} (lowered.Conditional at test consequent alternate s s2 s3 s4 c a p second third first) =
      let f : TernaryParts = ternary_at s at.span in
      records_then (refusals names consequent ++ refusals names alternate) (refusals names test) (said s) (said s3) (said s4)
      (records_then (refusals names consequent) (refusals names alternate) (said s) (said s2) (said s3) (expression_refused second)
      (records_before _ (said s2) _ (said s3) (stored_said s2 f.place c at.span) (expression_refused third)))
      (records_before _ (said s3) _ (said s4) (stored_said s3 f.place a at.span) (expression_refused first))
  expression_refused {names} (lowered.Sequence at e es s s2 p l) =
      records_behind _ (said s) (said s2) _ (stored_said s2 (sequence_at s at.span).place p at.span)
      (records_unit (refusals_in names (Then e es)) (said s) (said s2) (last_refused l))
  expression_refused {names} (lowered.Chain at e s t p l) = records_unit (refusals_by names Top e) (said s) (said t) (spine_refused l)

  -- A chain, by its links.

  pub moved_refused : {names : Names} {e : Syntax} {s t : State} {p : Place} → LoweredMoved names e s t p
      → Records (said_of_moved names e ++ refusals names e) (said s) (said t)
  moved_refused {names} (lowered.Stays e s t p is l) =
      records_same _ _ (said s) (said t) (ap (λ (ds : List Diagnostic). ds ++ refusals names e) (moved_unsaid names e is))
      (expression_refused l)
  moved_refused {names} (lowered.Moved at w fields s t p is l) =
      let d : Diagnostic = diagnostic_at row.F29 (type_name w) at.span in
      records_same _ _ (said s) (said t)
      (ap (λ (b : Bool). (if b then [] else d ∷ []) ++ refusals names (Node at w fields)) is)
      (records_then (d ∷ []) (refusals names (Node at w fields)) (said s) (said (recorded s d)) (said t)
      (records_all (d ∷ []) (said s) _ refl) (expression_refused l))

  pub target_refused : {names : Names} {at : Span} {value : Place} {e : Syntax} {s t : State} {p : Place}
      → LoweredTarget names at value e s t p → Records (refusals_to names e) (said s) (said t)
  target_refused {names} {at} {value} (lowered.TargetVariable there name symbol identifier s is mutable f) =
      records_same _ _ (said s) _
      (stored_head_refuses names there name symbol false is mutable
      ∙ append-nil (said_of_local (names.name symbol.0) (label_of names symbol there.span)))
      (found_value_said names s symbol there.span identifier _ (Some at) f)
  target_refused {names} (lowered.TargetConstant there name symbol identifier s is constant f) =
      let first : State = found names s symbol there.span in
      let d : Diagnostic = diagnostic_at row.F6 (names.name symbol.0) there.span in
      records_same _ _ (said s) _ (stored_head_refuses names there name symbol true is constant)
      (records_then _ (d ∷ []) (said s) (said first) _ (found_said names s symbol there.span identifier f)
      (records_all (d ∷ []) (said first) _ refl))
  target_refused {names} {at} {value} (lowered.TargetGlobal there name binding s is) =
      records_none _ (said s) _ (outer_head_refuses names there name binding is) (value_said s (values.StoreGlobal name value) (Some at))
  target_refused {names} {at} {value} (lowered.TargetMember there w fields parts pieces object key s t is l) =
      records_same _ _ (said s) _ (member_target is names there ∙ member_head_refuses names there is)
      (records_behind _ (said s) (said t) _ (value_said t (store_of object key value) (Some at)) (all_refused l))
  target_refused {names} (lowered.TargetLost there w fields s is) =
      records_same _ _ (said s) _ (lost_target_refuses names there w fields is)
      (records_all (refusal (row_of_head w) there.span ∷ []) (said s) _ refl)
  target_refused {names} {value} (lowered.TargetDefaulted there w fields target default s t u q p is d dt) =
      let ended : State = default_ended (default_at s there.span value) t q in
      records_same _ _ (said s) (said u) (defaulted_refuses is names there)
      (records_then (said_of_moved names default ++ refusals names default) (refusals_to names target) (said s) (said ended) (said u)
      (records_behind _ (said s) (said t) (said ended) (default_said s t value q there.span) (moved_refused d)) (target_refused dt))
  target_refused {names} {at} {value}
      (lowered.TargetPattern there w of_object forced items rest pattern pieces later s t u v is ahead taken are l) =
      let apart : InstructionValue = destructured variables.Reassign pattern value in
      records_same _ _ (said s) (said v) (taking_rows is names there items rest forced (ahead_forced ahead))
      (records_then _ _ (said s) (said t) (said v) (look_refused ahead)
      (records_then _ _ (said t) (said u) (said v) (taken_refused taken)
      (records_same _ _ (said u) (said v) (left_taken_are taken)
      (records_before _ (said u) (said (with_value u apart (Some at))) (said v) (value_said u apart (Some at)) (later_refused l)))))

  pub later_refused : {names : Names} {later : List Later} {s t : State} → LoweredLater names later s t
      → Records (left_taken names later) (said s) (said t)
  later_refused (lowered.NoLater s) = records_none [] (said s) (said s) refl refl
  later_refused {names} (lowered.NextLater value part later s t u p d ds) =
      records_then (refusals_to names part) (left_taken names later) (said s) (said t) (said u) (target_refused d) (later_refused ds)

  pub spine_refused : {names : Names} {below : Bool} {e : Syntax} {s t : State} {p : Place} → LoweredSpine names below e s t p
      → Records (refusals_by names (spine_place below) e) (said s) (said t)
  spine_refused (lowered.Outermost {below} e s t front p l) =
      records_same _ _ (said s) (said t) (outermost_refuses l below) (link_refused l)
  spine_refused {names} (lowered.Asserted at e s t p l) = records_unit (refusals_by names Top e) (said s) (said t) (spine_refused l)
  spine_refused {names} (lowered.Broken at e s t p is l) =
      let d : Diagnostic = refusal row.F44 at.span in
      records_same _ _ (said s) (said t) (broken_refuses names at e is)
      (records_unit (d ∷ refusals_by names Below e) (said s) (said t)
      (records_then (d ∷ []) (refusals_by names Below e) (said s) (said (recorded s d)) (said t) (records_all (d ∷ []) (said s) _ refl)
      (spine_refused l)))

  pub link_refused : {names : Names} {alternate : Option BlockId} {e : Syntax} {s t : State} {front : Front} {p : Place}
      → LoweredLink names alternate e s t front p → Records (refusals_by names Below e) (said s) (said t)
  link_refused {names} (lowered.LinkedProperty alternate at w optional object rest parts pieces o key s t u is l more) =
      let f : LinkParts = link_after (link_at s at.span optional alternate) in
      let loaded : State = with_value u (load_of o key) (Some at.span) in
      records_same _ _ (said s) _ (link_refuses names Below at optional object is)
      (records_behind _ (said s) (said u) _
      (link_ended_said f loaded (temporary u (Some at.span)) ∙ value_said u (load_of o key) (Some at.span))
      (records_then (refusals_by names Below object) (refusals_in names parts) (said s) (said t) (said u)
      (records_before _ (said s) _ (said t) (link_opened_said alternate s at.span) (front_refused l)) (all_refused more)))
  link_refused {names} (lowered.LinkedPrivate alternate at optional object name o s t l) =
      let f : LinkParts = link_at s at.span optional alternate in
      let x : State = link_objected f t o in
      let met : State = private_met x at.span in
      let made : State = with_value met (values.Primitive primitives.Undefined) (Some at.span) in
      records_behind _ (said s) (said made) _ (link_ended_said (link_after f) made (temporary met (Some at.span)))
      (records_then (refusals_by names Below object) (refusal row.F3 at.span ∷ []) (said s) (said t) _
      (records_before _ (said s) _ (said t) (link_opened_said alternate s at.span) (front_refused l))
      (noted_said x (refusal row.F3 at.span) (values.Primitive primitives.Undefined) (Some at.span)))
  link_refused {names} (lowered.LinkedCall alternate at optional callee es pieces given front s t u l more is) =
      let f : LinkParts = link_after (link_at s at.span optional alternate) in
      let called : State = with_value u (call_of front given) (Some at.span) in
      records_behind _ (said s) (said u) _
      (link_ended_said f called (temporary u (Some at.span)) ∙ value_said u (call_of front given) (Some at.span))
      (records_then (refusals_by names Below callee) (refusals_in names es ++ []) (said s) (said t) (said u)
      (records_before _ (said s) _ (said t) (link_opened_said alternate s at.span) (front_refused l))
      (records_unit (refusals_in names es) (said t) (said u) (all_refused more)))

  pub front_refused : {names : Names} {alternate : BlockId} {called : Bool} {e : Syntax} {s t : State} {front : Front}
      → LoweredFront names alternate called e s t front → Records (refusals_by names Below e) (said s) (said t)
  front_refused (lowered.FrontLink alternate called e s t front p l) = link_refused l
  front_refused (lowered.FrontBroken alternate called at e s t p l) = spine_refused l
  front_refused (lowered.FrontMethod alternate at w fields parts pieces object key s t is l) =
      records_same _ _ (said s) _ (front_refuses is l at)
      (records_behind _ (said s) (said t) _ (value_said t (load_of object key) (Some at.span)) (all_refused l))
  front_refused (lowered.FrontAlone alternate called e s t p other l) =
      records_same _ _ (said s) (said t) (lowered_off l).below (expression_refused l)

  pub all_refused : {names : Names} {of_object : Bool} {es : Pieces} {s t : State} {pieces : List Piece}
      → LoweredParts names of_object es s t pieces → Records (refusals_in names es) (said s) (said t)
  all_refused (lowered.NoPart s) = records_none [] (said s) (said s) refl refl
  all_refused {names} (lowered.NextPart e es s t u p pieces l more) =
      records_then (refusals names e) (refusals_in names es) (said s) (said t) (said u) (expression_refused l) (all_refused more)
  all_refused {names} (lowered.NextSpread at e es s t u p pieces l more) =
      records_then (refusals names e ++ []) (refusals_in names es) (said s) (said t) (said u)
      (records_unit (refusals names e) (said s) (said t) (expression_refused l)) (all_refused more)
  all_refused (lowered.NextHole at es s u pieces more) = all_refused more
  all_refused {names} (lowered.NextProperty at computed key e text es s t u p pieces is l more) =
      records_then _ (refusals_in names es) (said s) (said t) (said u)
      (records_same _ _ (said s) (said t) (property_refuses names at computed key e _ is) (expression_refused l)) (all_refused more)
  all_refused {names} (lowered.NextComputed at key e es s r t u p q pieces is k l more) =
      records_then _ (refusals_in names es) (said s) (said t) (said u)
      (records_same _ _ (said s) (said t) (computed_refuses names at key e (lowered_plain k).key)
      (records_then (refusals names key) (refusals names e) (said s) (said r) (said t) (expression_refused k) (expression_refused l)))
      (all_refused more)
  all_refused {names} (lowered.NextFraction at there e text es s t u p pieces is l more) =
      let d : Diagnostic = refusal row.F43 there.span in
      records_then _ (refusals_in names es) (said s) (said t) (said u)
      (records_same _ _ (said s) (said t) (fraction_refuses names at there text e is)
      (records_then (d ∷ []) (refusals names e) (said s) (said (recorded s d)) (said t) (records_all (d ∷ []) (said s) _ refl)
      (expression_refused l)))
      (all_refused more)
  all_refused {names} (lowered.NextUnknown at computed key e es s u pieces is more) =
      let d : Diagnostic = refusal row.F9 (span_of key) in
      records_then _ (refusals_in names es) (said s) (said (recorded s d)) (said u)
      (records_same _ _ (said s) _ (unknown_refuses names at computed key e is) (records_all (d ∷ []) (said s) _ refl))
      (all_refused more)

  pub last_refused : {names : Names} {es : Pieces} {s t : State} {p : Place} → LoweredLast names es s t p
      → Records (refusals_in names es) (said s) (said t)
  last_refused {names} (lowered.LastPart e s t p l) = records_unit (refusals names e) (said s) (said t) (expression_refused l)
  last_refused {names} (lowered.EarlierPart e next es s t u p q l more) =
      records_then (refusals names e) (refusals_in names (Then next es)) (said s) (said t) (said u) (expression_refused l)
      (last_refused more)

mutual
  pub pattern_refused : {names : Names} {again : Bool} {k : InstructionKind} {at : Span} {value : Place} {e : Syntax} {s t : State} {p : Place}
      → LoweredPattern names again k at value e s t p → Records (refusals names e) (said s) (said t)
  pattern_refused {names} {again} {k} {at} {value} (lowered.BoundName bind name type symbol identifier s annotated is f) =
      let here : State = met again names s symbol identifier bind.span in
      records_same _ _ (said s) _ (bind_refuses names bind name type symbol annotated is)
      (records_behind _ (said s) (said here) _ (value_said here (values.StoreLocal k (variable_at identifier at) value) (Some at))
      (met_refused again names s symbol bind.span identifier f))
  pattern_refused {names} {value} (lowered.BoundDefault there pattern default s t u q p d dt) =
      let ended : State = default_ended (default_at s there.span value) t q in
      records_then (said_of_moved names default ++ refusals names default) (refusals names pattern) (said s) (said ended) (said u)
      (records_behind _ (said s) (said t) (said ended) (default_said s t value q there.span) (moved_refused d)) (pattern_refused dt)
  pattern_refused {names} {k} {at} {value} (lowered.BoundPattern there w of_object items rest pattern pieces later s u v is bound are l) =
      let apart : InstructionValue = destructured k pattern value in
      records_same _ _ (said s) (said v) (pattern_rows is names there items rest)
      (records_then _ _ (said s) (said u) (said v) (bound_refused bound)
      (records_same _ _ (said u) (said v) (left_rows_are bound)
      (records_before _ (said u) (said (with_value u apart (Some at))) (said v) (value_said u apart (Some at)) (left_refused l))))

  pub left_refused : {names : Names} {again : Bool} {k : InstructionKind} {later : List Later} {s t : State}
      → LoweredBound names again k later s t → Records (left_rows names later) (said s) (said t)
  left_refused (lowered.NothingBound s) = records_none [] (said s) (said s) refl refl
  left_refused {names} (lowered.NextBound value part later s t u p d ds) =
      records_then (refusals names part) (left_rows names later) (said s) (said t) (said u) (pattern_refused d) (left_refused ds)

pub params_refused : {names : Names} {es : Pieces} {rest : Syntax} {s t : State} {ps : List Param} → LoweredParams names es rest s t ps
    → Records (refusals_in names es ++ refusals names rest) (said s) (said t)
params_refused (lowered.NoParam s) = records_none [] (said s) (said s) refl refl
params_refused {names} (lowered.RestParam there pattern s t p d) =
    records_unit (refusals names pattern) (said s) (said t) (pattern_refused d)
params_refused {names} (lowered.PlainParam there bind name type rest more symbol identifier s t ps annotated is f ds) =
    let param : Syntax = Node there word.Param (Then (Node bind word.Bind (Then (Said name) (Then type End))) (Then Absent End)) in
    records_same _ _ (said s) (said t) (append_assoc (refusals names param) (refusals_in names more) (refusals names rest))
    (records_then (refusals names param) (refusals_in names more ++ refusals names rest) (said s) (said (found names s symbol bind.span))
    (said t)
    (records_same _ _ (said s) _ (bind_refuses names bind name type symbol annotated is)
    (found_said names s symbol bind.span identifier f)) (params_refused ds))
params_refused {names} (lowered.PatternParam there pattern rest more s t u p ps is d ds) =
    records_same _ _ (said s) (said u) (append_assoc (refusals names pattern) (refusals_in names more) (refusals names rest))
    (records_then (refusals names pattern) (refusals_in names more ++ refusals names rest) (said s) (said t) (said u) (pattern_refused d)
    (params_refused ds))
params_refused {names} (lowered.DefaultParam there pattern default rest more s t u v q p ps d dt ds) =
    let x : State = promoted s there.span in
    let ended : State = default_ended (default_at x there.span (caught s there.span)) t q in
    let first : List Diagnostic = said_of_moved names default ++ refusals names default in
    records_same _ _ (said s) (said v) (append_assoc (first ++ refusals names pattern) (refusals_in names more) (refusals names rest))
    (records_then (first ++ refusals names pattern) (refusals_in names more ++ refusals names rest) (said s) (said u) (said v)
    (records_then first (refusals names pattern) (said s) (said ended) (said u)
    (records_behind _ (said s) (said t) (said ended) (default_said x t (caught s there.span) q there.span) (moved_refused d))
    (pattern_refused dt)) (params_refused ds))

declarators_refused : {names : Names} {at : Span} {k : InstructionKind} {es : Pieces} {s t : State} → LoweredDeclarators names at k es s t
    → Records (refusals_in names es) (said s) (said t)
declarators_refused (lowered.NoDeclarator s) = records_none [] (said s) (said s) refl refl
declarators_refused {names} (lowered.NextDeclared there bind name type more symbol identifier s u annotated is f l) =
    records_then _ (refusals_in names more) (said s) _ (said u)
    (records_same _ _ (said s) _ (bind_refuses names bind name type symbol annotated is)
    (found_value_said names s symbol bind.span identifier _ (Some bind.span) f)) (declarators_refused l)
declarators_refused {names} {at} (lowered.NextInitialized there bind name type init more symbol identifier s t u p annotated is l f m) =
    records_then _ (refusals_in names more) (said s) _ (said u)
    (records_then (refusals names init) _ (said s) (said t) _ (expression_refused l)
    (records_same _ _ (said t) _ (bind_refuses names bind name type symbol annotated is)
    (found_value_said names t symbol bind.span identifier _ (Some at) f))) (declarators_refused m)
declarators_refused {names} (lowered.NextTakenApart there pattern init more s t u v p q is present d dp ds) =
    records_then (refusals names init ++ refusals names pattern) (refusals_in names more) (said s) (said u) (said v)
    (records_then (refusals names init) (refusals names pattern) (said s) (said t) (said u) (expression_refused d) (pattern_refused dp))
    (declarators_refused ds)
declarators_refused {names} {at} (lowered.NextUntaken there pattern more s u v q is dp ds) =
    let made : State = with_value s (values.Primitive primitives.Undefined) (Some at) in
    records_then (refusals names pattern) (refusals_in names more) (said s) (said u) (said v)
    (records_before _ (said s) (said made) (said u) (value_said s (values.Primitive primitives.Undefined) (Some at)) (pattern_refused dp))
    (declarators_refused ds)

-- The test of a `for` loop.
test_refused : {names : Names} {at : Span} {e : Syntax} {s t : State} {p : Place} → LoweredTest names at e s t p
    → Records (said_of_test at e ++ refusals names e) (said s) (said t)
test_refused {at} (lowered.NoTest s) =
    noted_said s (refusal row.F32 at) (values.Primitive (primitives.Boolean true)) (Some at)
test_refused {names} {at} (lowered.Tested e s t p l) =
    records_same _ _ (said s) (said t)
    (ap (λ (ds : List Diagnostic). ds ++ refusals names e) (test_unsaid e (lowered_plain l).node at)) (expression_refused l)

-- The head of a loop over keys or values.
head_refused : {names : Names} {value : Place} {e : Syntax} {s t : State} {p : Place} → LoweredHead names value e s t p
    → Records (refusals_at_head names e) (said s) (said t)
head_refused {names} (lowered.Declared at there bind kind name type symbol identifier s annotated is f) =
    let again : State = found_again names s symbol identifier bind.span in
    records_same _ _ (said s) _ (declared_head_refuses names at there bind kind name type symbol annotated is)
    (records_behind _ (said s) (said (found names s symbol bind.span)) _ (value_said again _ (Some at.span))
    (found_said names s symbol bind.span identifier f))
head_refused {names} (lowered.Reassigned at name symbol identifier s is mutable f) =
    records_same _ _ (said s) _
    (stored_head_refuses names at name symbol false is mutable
    ∙ append-nil (said_of_local (names.name symbol.0) (label_of names symbol at.span)))
    (found_value_said names s symbol at.span identifier _ (Some at.span) f)
head_refused {names} (lowered.ReassignedConstant at name symbol identifier s is constant f) =
    let first : State = found names s symbol at.span in
    let d : Diagnostic = diagnostic_at row.F6 (names.name symbol.0) at.span in
    records_same _ _ (said s) _ (stored_head_refuses names at name symbol true is constant)
    (records_then _ (d ∷ []) (said s) (said first) _ (found_said names s symbol at.span identifier f)
    (records_all (d ∷ []) (said first) _ refl))
head_refused {names} {value} (lowered.StoredGlobal at name binding s is) =
    records_none _ (said s) _ (outer_head_refuses names at name binding is) (value_said s (values.StoreGlobal name value) (Some at.span))
head_refused {names} {value} (lowered.StoredMember at w fields parts pieces object key s t is l) =
    records_same _ _ (said s) _ (member_head_refuses names at is)
    (records_behind _ (said s) (said t) _ (value_said t (store_of object key value) (Some at.span)) (all_refused l))
head_refused {names} (lowered.DeclaredPattern at there kind pattern s t p is d) =
    records_unit (refusals names pattern ++ []) (said s) (said t) (records_unit (refusals names pattern) (said s) (said t) (pattern_refused d))
head_refused {names} (lowered.StoredPattern at w fields s t p is d) =
    records_same _ _ (said s) (said t) (pattern_head_refuses names at w fields is) (target_refused d)
head_refused {names} (lowered.Lost at w fields s is) =
    records_same _ _ (said s) _ (lost_head_refuses names at w fields is)
    (records_all (refusal (row_of_head w) at.span ∷ []) (said s) _ refl)

-- A jump has no refusals.
jump_refuses : (names : Names) (label : Label) → refusals names (label_part label) ++ [] ≡ []
jump_refuses names None = refl
jump_refuses names (Some label) = refl

-- In the block of a `try`, and nowhere else, a handler is open.
abbrev pub IsTried : (tried : Bool) → State → Type 0
IsTried tried s = is_some (innermost s.handlers) ≡ tried

pub tried_on : {tried : Bool} (s t : State) → t.handlers ≡ s.handlers → IsTried tried s → IsTried tried t
tried_on s t same is = ap (λ (l : List BlockId). is_some (innermost l)) same ∙ is

pub tried_none : (s : State) → s.handlers ≡ [] → IsTried false s
tried_none s none = ap (λ (l : List BlockId). is_some (innermost l)) none

pub tried_in : (s : State) (behind handler : ℕ) (part : Span) → IsTried true (try_handler s behind handler part)
tried_in s behind handler part = ap (λ (o : Option BlockId). is_some o) (last_added s.handlers (block_id handler))

-- In front of the handler of a `try` statement, and behind the variable of its `catch`, the handlers are those in front of the statement.

pub caught_handlers : (s : State) (param : Span) → (catch_begun s param).handlers ≡ s.handlers
caught_handlers s param = (extends_value (reserved (promoted s param)) (declares_caught s param) (Some param)).handlers

pub bound_handlers : {names : Names} (s : State) (symbol : SymbolId) (identifier : ℕ) (param : Span)
    → IsFound names (catch_begun s param) symbol param identifier → (catch_bound names s symbol identifier param).handlers ≡ s.handlers
bound_handlers {names} s symbol identifier param f =
    (blocks_caught names s symbol identifier param f).extends.handlers ∙ caught_handlers s param

-- A `throw`.

throwing_said_by : (o : Option BlockId) (s : State) (at : Span)
    → Records (said_of_throw (is_some o) at) (said s) (said (throwing_under o s at))
throwing_said_by None s at = records_none [] (said s) (said s) refl refl
throwing_said_by (Some handler) s at = records_all (refusal row.F30 at ∷ []) (said s) _ refl

throwing_said : (s : State) (at : Span) (tried : Bool) → IsTried tried s → Records (said_of_throw tried at) (said s) (said (throwing s at))
throwing_said s at tried is =
    subst (λ (b : Bool). Records (said_of_throw b at) (said s) (said (throwing s at))) is (throwing_said_by (innermost s.handlers) s at)

-- The test of a case.

case_test_refused : {names : Names} {e : Syntax} {s t : State} {p : Option Place} → LoweredCaseTest names e s t p
    → Records (said_of_moved names e ++ refusals names e) (said s) (said t)
case_test_refused (lowered.NoCaseTest s) = records_none [] (said s) (said s) refl refl
case_test_refused {names} (lowered.CaseTested e s t p is l) =
    records_same _ _ (said s) (said t) (ap (λ (ds : List Diagnostic). ds ++ refusals names e) (moved_unsaid names e is))
    (expression_refused l)
case_test_refused {names} (lowered.CaseMoved at w fields s t p is l) =
    let d : Diagnostic = diagnostic_at row.F29 (type_name w) at.span in
    records_same _ _ (said s) (said t)
    (ap (λ (b : Bool). (if b then [] else d ∷ []) ++ refusals names (Node at w fields)) is)
    (records_then (d ∷ []) (refusals names (Node at w fields)) (said s) (said (recorded s d)) (said t)
    (records_all (d ∷ []) (said s) _ refl) (expression_refused l))

-- The front of a `catch` with a parameter records what the look-up of its variable does.
catch_said : {names : Names} (s : State) (bind : At) (name : List ℕ) (type : Syntax) (symbol : SymbolId) (identifier : ℕ)
    → IsAnnotation type → names.declared bind.id.0 ≡ Some symbol → IsFound names (catch_begun s bind.span) symbol bind.span identifier
    → Records (refusals names (Node bind word.Bind (Then (Said name) (Then type End)))) (said s)
    (said (catch_bound names s symbol identifier bind.span))
catch_said {names} s bind name type symbol identifier annotated is f =
    records_before _ (said s) _ _
    (value_said (reserved (promoted s bind.span)) (declares_caught s bind.span) (Some bind.span))
    (records_same _ _ (said (catch_begun s bind.span)) _ (bind_refuses names bind name type symbol annotated is)
    (found_value_said names (catch_begun s bind.span) symbol bind.span identifier (stores_caught s identifier bind.span) (Some bind.span)
    f))

init_refused : {names : Names} {at : Span} {e : Syntax} {s t : State} → LoweredInit names at e s t
    → Records (said_of_init at e ++ refusals names e) (said s) (said t)
init_refused {at} (lowered.NoInit s) =
    records_none [] (said s) _ refl (value_said s (values.Primitive primitives.Undefined) (Some at))
init_refused {names} (lowered.DeclaredInit there fields s t l) =
    let v = declares_of l in
    subst (λ (f : Pieces). Records (refusals names (Node there word.Var f)) (said s) (said t)) v.are
    (records_then _ (refusals_in names v.declarators) (said s) (said (declaring s v.kind there.span)) (said t)
    (declaring_said s v.kind there.span) (declarators_refused v.by))
init_refused {names} {at} (lowered.RefusedInit e s t p l) =
    records_same _ _ (said s) (said t)
    (ap (λ (ds : List Diagnostic). ds ++ refusals names e) (init_said e (lowered_plain l).node at))
    (records_then (refusal row.F31 at ∷ []) (refusals names e) (said s) (said (recorded s (refusal row.F31 at))) (said t)
    (records_all (refusal row.F31 at ∷ []) (said s) _ refl) (expression_refused l))

mutual
  pub statement_refused : {names : Names} {e : Syntax} {s t : State} → LoweredStatement names e s t → (tried : Bool) → IsTried tried s
      → Records (refusals_at names tried e) (said s) (said t)
  statement_refused (lowered.Empty at s) tried h = records_none [] (said s) (said s) refl refl
  statement_refused {names} (lowered.Expression at e s t p l) tried h =
      records_unit (refusals names e) (said s) (said t) (expression_refused l)
  statement_refused {names} (lowered.Debugger at s) tried h = records_none [] (said s) _ refl (value_said s values.Debugger (Some at.span))
  statement_refused {names} (lowered.Variables at k declarators s t l) tried h =
      records_then _ (refusals_in names declarators) (said s) (said (declaring s k at.span)) (said t) (declaring_said s k at.span)
      (declarators_refused l)
  statement_refused {names} (lowered.ReturnNothing at s) tried h =
      records_none [] (said s) _ refl (value_said s (values.Primitive primitives.Undefined) None)
  statement_refused {names} (lowered.Return at e s t p l) tried h =
      records_unit (refusals names e) (said s) (said t) (expression_refused l)
  statement_refused {names} (lowered.Block at statements s t l) tried h =
      statements_refused l tried h
  statement_refused {names} (lowered.IfThen at test consequent s s2 s3 p second first) tried h =
      records_then (refusals_at names tried consequent ++ []) (refusals names test) (said s) (said s2) (said s3)
      (records_unit (refusals_at names tried consequent) (said s) (said s2) (statement_refused second tried h)) (expression_refused first)
  statement_refused {names} (lowered.IfElse at test consequent alternate s s2 s3 s4 p second third first) tried h =
      records_then (refusals_at names tried consequent ++ refusals_at names tried alternate) (refusals names test) (said s) (said s3)
      (said s4)
      (records_then (refusals_at names tried consequent) (refusals_at names tried alternate) (said s) (said s2) (said s3)
      (statement_refused second tried h)
      (statement_refused third tried (tried_on s s2 (statement_blocks second).extends.handlers h))) (expression_refused first)
  statement_refused (lowered.Unlabeled loop s t l) tried h = loop_refused l tried h
  statement_refused {names} (lowered.LabeledLoop at label loop s t l) tried h =
      loop_refused l tried h
  statement_refused {names} (lowered.Labeled at label body s s2 other l) tried h =
      statement_refused l tried h
  statement_refused {names} (lowered.Break at label target s is) tried h = records_none _ (said s) _ (jump_refuses names label) refl
  statement_refused {names} (lowered.Continue at label target s is) tried h = records_none _ (said s) _ (jump_refuses names label) refl
  statement_refused {names} (lowered.Throw at e s t p l) tried h =
      records_then (refusals names e) (said_of_throw tried at.span) (said s) (said t) (said (throwing t at.span)) (expression_refused l)
      (throwing_said t at.span tried (tried_on s t (expression_blocks l).extends.handlers h))
  statement_refused {names} (lowered.Switch at value cases ks s t u p all l) tried h =
      records_then (refusals_in_cases names tried cases) (refusals names value) (said s) (said t) (said u) (cases_refused all tried h)
      (expression_refused l)
  statement_refused {names} (lowered.TryPlain at there block body s s2 s3 first second) tried h =
      records_then (refusals_at names tried body) (refusals_at names true block) (said s) (said s2) (said s3)
      (statement_refused first tried h)
      (statement_refused second true (tried_in s2 s.env.next_block (reserved s).env.next_block there.span))
  statement_refused {names} (lowered.TryBound at there bind name type block body symbol identifier s s2 s3 annotated is f first second)
      tried h =
      let param : Syntax = Node bind word.Bind (Then (Said name) (Then type End)) in
      records_then (refusals names param ++ refusals_at names tried body) (refusals_at names true block) (said s) (said s2) (said s3)
      (records_then (refusals names param) (refusals_at names tried body) (said s)
      (said (catch_bound names s symbol identifier bind.span)) (said s2)
      (catch_said s bind name type symbol identifier annotated is f)
      (statement_refused first tried
      (tried_on s (catch_bound names s symbol identifier bind.span) (bound_handlers s symbol identifier bind.span f) h)))
      (statement_refused second true (tried_in s2 s.env.next_block (catch_declared s bind.span).env.next_block there.span))
  statement_refused {names} (lowered.Finalized at there block param body finalizer s t is l) tried h =
      let d : Diagnostic = refusal row.F35 at.span in
      let inner : List Diagnostic = refusals names param ++ refusals_at names tried body ++ refusals_at names true block in
      records_same _ (d ∷ inner) (said s) (said t)
      (ap (λ (ds : List Diagnostic). ds ++ refusals names param ++ refusals_at names tried body ++ refusals_at names true block)
      (finalizer_said at.span finalizer is))
      (records_then (d ∷ []) inner (said s) (said (recorded s d)) (said t) (records_all (d ∷ []) (said s) _ refl)
      (statement_refused l tried h))
  statement_refused (lowered.Uncaught at block finalizer s) tried h = records_all (refusal row.F34 at.span ∷ []) (said s) _ refl
  statement_refused (lowered.With at fields s) tried h = records_all (refusal row.F36 at.span ∷ []) (said s) _ refl

  cases_refused : {names : Names} {s : State} {es : Pieces} {ks : List Case} {t : State} → LoweredCases names s es ks t → (tried : Bool)
      → IsTried tried s → Records (refusals_in_cases names tried es) (said s) (said t)
  cases_refused (lowered.NoCase s) tried h = records_none [] (said s) (said s) refl refl
  cases_refused {names} (lowered.NextCase at test statements cases ks s x y z p all l tested) tried h =
      let inside : List Diagnostic = refusals_among names tried statements in
      records_then (refusals_in_cases names tried cases) (inside ++ said_of_moved names test ++ refusals names test) (said s) (said x)
      (said z) (cases_refused all tried h)
      (records_same _ _ (said x) (said z) (append_assoc inside (said_of_moved names test) (refusals names test))
      (records_then inside (said_of_moved names test ++ refusals names test) (said x) (said y) (said z)
      (statements_refused l tried (tried_on s x (cases_blocks all).extends.handlers h)) (case_test_refused tested)))

  pub loop_refused : {names : Names} {own : Label} {e : Syntax} {s t : State} → LoweredLoop names own e s t → (tried : Bool)
      → IsTried tried s → Records (refusals_at names tried e) (said s) (said t)
  loop_refused {names} (lowered.While at test body s s2 s3 p second first) tried h =
      records_then (refusals_at names tried body) (refusals names test) (said s) (said s2) (said s3) (statement_refused second tried h)
      (expression_refused first)
  loop_refused {names} (lowered.DoWhile at test body s s2 s3 p first second) tried h =
      records_then (refusals_at names tried body) (refusals names test) (said s) (said s2) (said s3) (statement_refused first tried h)
      (expression_refused second)
  loop_refused {names} (lowered.ForUpdated at init test update body s s2 s3 s4 s5 u p first third fourth second) tried h =
      let front : List Diagnostic = said_of_init at.span init ++ refusals names init in
      records_same _ _ (said s) (said s5)
      (append_assoc (front ++ refusals names update ++ refusals_at names tried body) (said_of_test at.span test) (refusals names test))
      (records_then (front ++ refusals names update ++ refusals_at names tried body) _ (said s) (said s4) (said s5)
      (records_then (front ++ refusals names update) (refusals_at names tried body) (said s) (said s3) (said s4)
      (records_then front (refusals names update) (said s) (said s2) (said s3) (init_refused first) (expression_refused third))
      (statement_refused fourth tried
      (tried_on s s3 ((expression_blocks third).extends.handlers ∙ (init_blocks first).extends.handlers) h))) (test_refused second))
  loop_refused {names} (lowered.ForPlain at init test body s s2 s3 s4 p first third second) tried h =
      let front : List Diagnostic = said_of_init at.span init ++ refusals names init in
      records_same _ _ (said s) (said s4)
      (append_assoc (front ++ [] ++ refusals_at names tried body) (said_of_test at.span test) (refusals names test))
      (records_then (front ++ [] ++ refusals_at names tried body) _ (said s) (said s3) (said s4)
      (records_then (front ++ []) (refusals_at names tried body) (said s) (said s2) (said s3)
      (records_unit front (said s) (said s2) (init_refused first))
      (statement_refused third tried (tried_on s s2 (init_blocks first).extends.handlers h))) (test_refused second))
  loop_refused {names} (lowered.ForIn at head right body s s2 s3 s4 collection p first second third) tried h =
      let f : RoundsParts = rounds_shut (forin_at s at.span) in
      records_then (refusals_at names tried body ++ refusals names right) (refusals_at_head names head) (said s) (said s3) (said s4)
      (records_then (refusals_at names tried body) (refusals names right) (said s) (said s2) (said s3) (statement_refused first tried h)
      (expression_refused second))
      (records_before _ (said s3) _ (said s4) (value_said (forin_headed f s3) (values.NextPropertyOf collection) (Some (span_of head)))
      (head_refused third))
  loop_refused {names} (lowered.ForOf at head right body s s2 s3 s4 collection p first second third) tried h =
      let f : ForOfParts = forof_shut (forof_at s at.span) in
      records_then (refusals_at names tried body ++ refusals names right) (refusals_at_head names head) (said s) (said s3) (said s4)
      (records_then (refusals_at names tried body) (refusals names right) (said s) (said s2) (said s3) (statement_refused first tried h)
      (expression_refused second))
      (records_before _ (said s3) _ (said s4)
      (value_said (forof_tested f s3 collection) (values.IteratorNext (forof_iterator f s3 collection) collection) (Some (span_of head))
      ∙ value_said (forof_headed f s3) (values.GetIterator collection) collection.span) (head_refused third))
  loop_refused (lowered.AwaitRefused at head right body s) tried h = records_all (refusal row.F33 at.span ∷ []) (said s) _ refl

  pub statements_refused : {names : Names} {es : Pieces} {s t : State} → LoweredStatements names es s t → (tried : Bool)
      → IsTried tried s → Records (refusals_among names tried es) (said s) (said t)
  statements_refused (lowered.NoStatement s) tried h = records_none [] (said s) (said s) refl refl
  statements_refused {names} (lowered.NextStatement e es s t u l more) tried h =
      records_then (refusals_at names tried e) (refusals_among names tried es) (said s) (said t) (said u) (statement_refused l tried h)
      (statements_refused more tried (tried_on s t (statement_blocks l).extends.handlers h))

-- From a builder without handlers on.
pub body_refused : {names : Names} {b : Syntax} {s t : State} → s.handlers ≡ [] → LoweredBody names b s t
    → Records (refusals_in_body names b) (said s) (said t)
body_refused {s = s} none (lowered.Statements at directives statements s1 t texts l) = statements_refused l false (tried_none s none)
body_refused {names} none (lowered.Value e s t p l) =
    records_same _ _ (said s) (said t) ((lowered_plain l).refused names) (expression_refused l)
