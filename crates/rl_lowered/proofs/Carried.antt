-- A relation that each move of the lowering keeps holds between the states in front of a lowered part and behind it.
use Rattle.std.proofs.Common.{◌≡◌, ℕ, Bool, true, false, if◌then◌else◌, List, Option, Some, None, refl, sym, ap, ◌∙◌}
use Rattle.rl_base.specs.Diagnostics.{diagnostic_at}
use Rattle.rl_base.specs.declared.row.Row.TheVariants as row
use Rattle.rl_base.specs.declared.variable_kind.VariableKind.{VariableKind}
use Rattle.rl_builder.specs.Builder.{completed_by, new_block, recorded, reserved}
use Rattle.rl_builder.specs.Builder.{with_temporary}
use Rattle.rl_builder.specs.Temporaries.{temporary, with_value}
use Rattle.rl_frames.specs.Frames.{ForParts, IfParts, LogicalParts, TernaryParts, TryParts, do_while_bodied, for_after}
use Rattle.rl_frames.specs.Frames.{for_after_init, for_after_update, for_at, for_bodied, for_ended, for_inited, for_updated}
use Rattle.rl_frames.specs.Frames.{if_after_consequent, if_alternate, if_at, if_consequent, if_ended, if_shut, label_at, label_ended}
use Rattle.rl_frames.specs.Frames.{logical_after, logical_at, logical_righted, sequence_at, ternary_after}
use Rattle.rl_frames.specs.Frames.{ternary_alternated, ternary_at, ternary_consequent, ternary_ended, ternary_parted, try_after, try_at}
use Rattle.rl_frames.specs.Frames.{try_caught, try_ended, while_after, while_at, while_bodied, while_ended}
use Rattle.rl_frames.specs.Parts.{for_begun, forin_begun, forof_begun, if_begun, label_begun, logical_begun}
use Rattle.rl_frames.specs.Parts.{sequence_begun, ternary_begun, try_started, while_begun}
use Rattle.rl_frames.specs.Rounds.{ForOfParts, RoundsParts, forin_at, forin_headed, forin_righted, forof_after, forof_at, forof_bodied}
use Rattle.rl_frames.specs.Rounds.{forof_ended, forof_headed, forof_iterator, forof_righted, forof_shut, forof_tested, rounds_bodied}
use Rattle.rl_frames.specs.Rounds.{rounds_ended, rounds_opened, rounds_shut}
use Rattle.rl_frames.specs.SwitchParts.{case_begun, case_ended, fall_of, switch_begun, switch_finished}
use Rattle.rl_hir.specs.declared.function.BlockKind.TheVariants as blocks
use Rattle.rl_hir.specs.declared.function.Param.{Param}
use Rattle.rl_hir.specs.declared.instruction.InstructionKind.TheVariants as variables
use Rattle.rl_hir.specs.declared.instruction.InstructionKind.{InstructionKind}
use Rattle.rl_hir.specs.declared.instruction.InstructionValue.TheVariants as values
use Rattle.rl_hir.specs.declared.instruction.PrimitiveValue.TheVariants as primitives
use Rattle.rl_hir.specs.declared.terminal.Case.{Case}
use Rattle.rl_hir.specs.declared.terminal.GotoVariant.TheVariants as gotos
use Rattle.rl_hir.specs.declared.terminal.ReturnVariant.TheVariants as returns
use Rattle.rl_lowered.proofs.Carrying.{IsCarried, at_symbol, unchanged}
use Rattle.rl_lowered.proofs.Catches.{stores_caught}
use Rattle.rl_lowered.proofs.Common.{At, BlockId, Diagnostic, InstructionValue, Names, Node, Piece, Pieces, Place, Span, State, SymbolId}
use Rattle.rl_lowered.proofs.Common.{Syntax}
use Rattle.rl_lowered.proofs.ItemCarried.{again_span, ahead_carried, ahead_span, bound_carried, carried_met, joined_again, left_span}
use Rattle.rl_lowered.proofs.ItemCarried.{left_spans}
use Rattle.rl_lowered.proofs.ItemCarried.{pattern_spans, same_again, taken_carried}
use Rattle.rl_lowered.proofs.Plain.{lowered_plain}
use Rattle.rl_lowered.specs.Forms.{Front, IsMember, MemberKey, Static, call_of, load_of, store_of, tested_front, typed}
use Rattle.rl_lowered.specs.Items.{Later, caught, destructured, found_again, met, promoted, variable_at}
use Rattle.rl_lowered.specs.Lowered as lowered
use Rattle.rl_lowered.specs.Lowered.{LoweredBound, LoweredLater, LoweredMoved, LoweredParams, LoweredPattern, LoweredTarget, assigned_to}
use Rattle.rl_lowered.specs.Lowered.{name_computed, name_stored, member_computed, Lowered, LoweredBody, LoweredCaseTest}
use Rattle.rl_lowered.specs.Lowered.{LoweredCases, LoweredDeclarators, LoweredHead, LoweredInit, LoweredLast, LoweredLoop, LoweredParts}
use Rattle.rl_lowered.specs.Lowered.{LoweredStatement, LoweredStatements, LoweredTest, catch_at, catch_begun, catch_bound, declaring}
use Rattle.rl_lowered.specs.Lowered.{kind_of, part_span}
use Rattle.rl_lowered.specs.Lowered.{LoweredFront, LoweredLink, LoweredSpine, private_met, throwing, value_span}
use Rattle.rl_lowered.specs.Named.{found}
use Rattle.rl_model.specs.Actions.{Label}
use Rattle.rl_optional_frames.specs.Frames.{default_at, default_ended}
use Rattle.rl_optional_frames.specs.Frames.{link_at, link_objected}
use Rattle.rl_promises.specs.Moved.{type_name}
use Rattle.rl_promises.specs.Outs.{is_lost_head}
use Rattle.rl_promises.specs.Patterns.{is_pattern}
use Rattle.rl_promises.specs.Rebound.{span_in}
use Rattle.rl_promises.specs.Rebound.{is_symbol, span_at_head, span_behind, span_behind_all, span_behind_body, span_behind_cases}
use Rattle.rl_promises.specs.Rows.{refusal, row_of_head}
use Rattle.rl_runs.specs.Moves.{next_hole, return_of, returned_from, threw_from}
use Rattle.rl_syntax.specs.Syntax.{span_of}
use Rattle.rl_syntax.specs.declared.word.Word.TheVariants as word
use Rattle.rl_syntax.specs.declared.word.Word.{Word}
pub use Rattle.rl_lowered.proofs.CarriedMoves.{carried_catch_begun, carried_declaring, carried_default, carried_forin_righted}
pub use Rattle.rl_lowered.proofs.CarriedMoves.{carried_forof_righted, carried_link_opened, carried_logical_begun, carried_logical_righted}
pub use Rattle.rl_lowered.proofs.CarriedMoves.{carried_sequence_begun, carried_stored, carried_ternary_alternated, carried_ternary_begun}
pub use Rattle.rl_lowered.proofs.CarriedMoves.{carried_ternary_consequent, carried_throwing, carried_value}
pub use Rattle.rl_lowered.proofs.CarriedMoves.{carried_constant, carried_found, carried_linked, carried_logical_ended, carried_member}
pub use Rattle.rl_lowered.proofs.CarriedMoves.{carried_noted, carried_sequence_ended, carried_typed, joined}

-- Heads of loops that declare nothing.

member_unspanned : {w : Word} {fields parts : Pieces} {pieces : List Piece} {object : Place} {key : MemberKey}
    → IsMember w fields parts pieces object key → (names : Names) (at : At) (symbol : ℕ) (before : Span)
    → span_at_head names symbol (Node at w fields) before ≡ before
member_unspanned Static names at symbol before = refl
member_unspanned _ names at symbol before = refl

lost_unspanned : (names : Names) (at : At) (w : Word) (fields : Pieces) → is_lost_head (Node at w fields) ≡ true → (symbol : ℕ)
    (before : Span) → span_at_head names symbol (Node at w fields) before ≡ before
lost_unspanned names at word.Privatemember fields is symbol before = refl
lost_unspanned names at word.As fields is symbol before = refl
lost_unspanned names at word.Satisfies fields is symbol before = refl
lost_unspanned names at word.Assert fields is symbol before = refl
lost_unspanned names at word.Nonnull fields is symbol before = refl
lost_unspanned names at _ fields is symbol before = let never : false ≡ true = is in absurd (cc)

pattern_unspanned : (names : Names) (at : At) (w : Word) (fields : Pieces) → is_pattern (Node at w fields) ≡ true → (symbol : ℕ)
    (before : Span) → span_at_head names symbol (Node at w fields) before ≡ before
pattern_unspanned names at word.Arraytarget fields is symbol before = refl
pattern_unspanned names at word.Objecttarget fields is symbol before = refl
pattern_unspanned names at _ fields is symbol before = let never : false ≡ true = is in absurd (cc)

module _ {names : Names} {R : (behind : (symbol : ℕ) → (before : Span) → Span) → State → State → Type 0} (moves : IsCarried names R) where
  mutual
    pub expression_carried : {e : Syntax} {s t : State} {p : Place} → Lowered names e s t p → R unchanged s t
    expression_carried (lowered.Literal at w fields p s is) = carried_value moves s (values.Primitive p) (Some at.span)
    expression_carried (lowered.Refused at w fields r s is) =
        carried_noted moves s (refusal r at.span) (values.Primitive primitives.Undefined) (Some at.span)
    expression_carried (lowered.RefusedBefore at w fields parts r pieces s t is l) =
        let noted : State = recorded s (refusal r at.span) in
        joined moves s noted _ (moves.noted s (refusal r at.span))
        (joined moves noted t _ (all_carried l) (carried_value moves t (values.Primitive primitives.Undefined) (Some at.span)))
    expression_carried (lowered.RefusedBehind at object name s t p l) =
        joined moves s t _ (expression_carried l)
        (carried_noted moves t (refusal row.F3 at.span) (values.Primitive primitives.Undefined) (Some at.span))
    expression_carried (lowered.Private at w fields e s t p is l) = expression_carried l
    expression_carried (lowered.Variable at name symbol identifier s is f) =
        carried_found moves s symbol at.span identifier _ (Some at.span) f
    expression_carried (lowered.UpdatedVariable at there name symbol identifier operator prefix s is mutable f g) =
        let first : State = found names s symbol there.span in
        joined moves s first _ (moves.looked s symbol there.span identifier f)
        (carried_found moves first symbol there.span identifier _ (Some at.span) g)
    expression_carried (lowered.UpdatedConstant at there name symbol identifier operator prefix s is constant f) =
        carried_constant moves s symbol there.span identifier (Some at.span) f
    expression_carried (lowered.UpdatedMember at there w fields parts pieces object key operator prefix s t is l) =
        joined moves s t _ (all_carried l) (carried_member moves t object key operator there.span)
    expression_carried (lowered.AssignedVariable at there name right symbol identifier s t p is mutable l f) =
        joined moves s t _ (expression_carried l) (carried_found moves t symbol there.span identifier _ (Some there.span) f)
    expression_carried (lowered.AssignedConstant at there name right symbol identifier s t p is constant l f) =
        joined moves s t _ (expression_carried l) (carried_constant moves t symbol there.span identifier (Some there.span) f)
    expression_carried (lowered.AssignedGlobal at there name right binding s t p is l) =
        joined moves s t _ (expression_carried l) (carried_value moves t (values.StoreGlobal name p) (Some there.span))
    expression_carried (lowered.AssignedMember at there w fields parts pieces object key right s t u p is l all) =
        joined moves s t _ (expression_carried l)
        (joined moves t u _ (all_carried all) (carried_value moves u (store_of object key p) (Some there.span)))
    expression_carried (lowered.AssignedPrivate at there object name right s t u p q l inside) =
        joined moves s t _ (expression_carried l)
        (joined moves t u _ (expression_carried inside)
        (carried_noted moves u (refusal row.F5 at.span) (values.Primitive primitives.Undefined) (Some at.span)))
    expression_carried (lowered.AssignedPattern at there w fields right s t u p q is l d) =
        joined moves s t u (expression_carried l) (target_carried d)
    expression_carried
        (lowered.CompoundVariable at there name operator applied right symbol identifier s t u q p is mutable applies l m f) =
        let computed : State = name_computed u applied q p at.span in
        let stored : State = name_stored names u applied q p at.span there.span symbol identifier in
        joined moves s t _ (expression_carried l)
        (joined moves t u _ (expression_carried m)
        (joined moves u computed _ (carried_value moves u (values.BinaryExpression applied q p) (Some at.span))
        (joined moves computed stored _ (carried_found moves computed symbol there.span identifier _ (Some at.span) f)
        (carried_value moves stored (values.LoadLocal (variable_at identifier there.span)) (Some at.span)))))
    expression_carried
        (lowered.CompoundConstant at there name operator applied right symbol identifier s t u q p is constant applies l m f) =
        joined moves s t _ (expression_carried l)
        (joined moves t u _ (expression_carried m) (carried_constant moves u symbol there.span identifier (Some at.span) f))
    expression_carried (lowered.CompoundGlobal at there name operator applied right binding s t u q p is applies l m) =
        let computed : State = name_computed u applied q p at.span in
        joined moves s t _ (expression_carried l)
        (joined moves t u _ (expression_carried m)
        (joined moves u computed _ (carried_value moves u (values.BinaryExpression applied q p) (Some at.span))
        (carried_value moves computed (values.StoreGlobal name (temporary u (Some at.span))) (Some at.span))))
    expression_carried (lowered.CompoundMember at there w fields parts pieces object key operator applied right s t u p is applies all l) =
        let loaded : State = with_value t (load_of object key) (Some there.span) in
        let computed : State = member_computed t u applied p there.span in
        joined moves s t _ (all_carried all)
        (joined moves t loaded _ (carried_value moves t (load_of object key) (Some there.span))
        (joined moves loaded u _ (expression_carried l)
        (joined moves u computed _ (carried_value moves u (values.BinaryExpression applied (temporary t (Some there.span)) p)
        (Some there.span))
        (carried_value moves computed (store_of object key (temporary u (Some there.span))) (Some there.span)))))
    expression_carried (lowered.CompoundPrivate at there fields operator applied right s t u q p applies l m) =
        joined moves s t _ (expression_carried l)
        (joined moves t u _ (expression_carried m) (carried_value moves u (values.Primitive primitives.Undefined) (Some at.span)))
    expression_carried (lowered.Method at there w fields parts es pieces given_pieces object key given s t u is l given_are m) =
        let loaded : State = with_value t (load_of object key) (Some there.span) in
        joined moves s t _ (all_carried l)
        (joined moves t loaded _ (carried_value moves t (load_of object key) (Some there.span))
        (joined moves loaded u _ (all_carried given_are) (carried_value moves u _ (Some at.span))))
    expression_carried (lowered.Cast at there w fields e type k s t p is annotated l) =
        joined moves s t _ (expression_carried l)
        (joined moves t (typed t k) _ (carried_typed moves t k) (carried_value moves (typed t k) _ (Some at.span)))
    expression_carried (lowered.Global at name binding s is plain) = carried_value moves s (values.LoadGlobal binding) (Some at.span)
    expression_carried (lowered.RefusedGlobal at name binding s is refused) =
        carried_noted moves s (refusal row.F2 at.span) (values.LoadGlobal binding) (Some at.span)
    expression_carried (lowered.Same at w fields e s t p is l) = expression_carried l
    expression_carried (lowered.Asked at w fields parts pieces v s t is l) =
        joined moves s t (with_value t v (Some at.span)) (all_carried l) (carried_value moves t v (Some at.span))
    expression_carried (lowered.Object at es pieces properties s t is l) =
        joined moves s t _ (all_carried l) (carried_value moves t (values.ObjectExpression properties) (Some at.span))
    expression_carried (lowered.Logical at operator left right s s2 s3 l r second first) =
        let f : LogicalParts = logical_at s at.span operator (span_of left) in
        let begun : State = logical_begun s at.span (span_of left) in
        let righted : State = logical_righted f s2 r (value_span r right) in
        joined moves s begun _ (carried_logical_begun moves s at.span (span_of left))
        (joined moves begun s2 _ (expression_carried second)
        (joined moves s2 righted _ (carried_logical_righted moves f s2 r (value_span r right))
        (joined moves righted s3 _ (expression_carried first) (carried_logical_ended moves (logical_after f) s3 l))))
    expression_carried (lowered.Conditional at test consequent alternate s s2 s3 s4 c a p second third first) =
        let f : TernaryParts = ternary_at s at.span in
        let parted : TernaryParts = ternary_parted f s2 c (span_of consequent) in
        let begun : State = ternary_begun s at.span in
        let between : State = ternary_consequent f s2 c (span_of consequent) in
        let behind : State = ternary_alternated parted s3 a (span_of alternate) in
        joined moves s begun _ (carried_ternary_begun moves s at.span)
        (joined moves begun s2 _ (expression_carried second)
        (joined moves s2 between _ (carried_ternary_consequent moves f s2 c (span_of consequent))
        (joined moves between s3 _ (expression_carried third)
        (joined moves s3 behind _ (carried_ternary_alternated moves parted s3 a (span_of alternate))
        (joined moves behind s4 _ (expression_carried first) (moves.same s4 (ternary_ended (ternary_after parted) s4 p) refl))))))
    expression_carried (lowered.Sequence at e es s s2 p l) =
        let begun : State = sequence_begun s at.span in
        joined moves s begun _ (carried_sequence_begun moves s at.span)
        (joined moves begun s2 _ (last_carried l) (carried_sequence_ended moves (sequence_at s at.span) s2 p at.span))
    expression_carried (lowered.Chain at e s t p l) = spine_carried l

    pub moved_carried : {e : Syntax} {s t : State} {p : Place} → LoweredMoved names e s t p → R unchanged s t
    moved_carried (lowered.Stays e s t p is d) = expression_carried d
    moved_carried (lowered.Moved at w fields s t p is d) =
        let noted : Diagnostic = diagnostic_at row.F29 (type_name w) at.span in
        joined moves s (recorded s noted) t (moves.noted s noted) (expression_carried d)

    pub target_carried : {at : Span} {value : Place} {e : Syntax} {s t : State} {p : Place} → LoweredTarget names at value e s t p
        → R unchanged s t
    target_carried {at} {value} (lowered.TargetVariable there name symbol identifier s is mutable f) =
        carried_found moves s symbol there.span identifier (assigned_to identifier at value) (Some at) f
    target_carried (lowered.TargetConstant there name symbol identifier s is constant f) =
        let first : State = found names s symbol there.span in
        joined moves s first _ (moves.looked s symbol there.span identifier f)
        (moves.noted first (diagnostic_at row.F6 (names.name symbol.0) there.span))
    target_carried {at} {value} (lowered.TargetGlobal there name binding s is) =
        carried_value moves s (values.StoreGlobal name value) (Some at)
    target_carried {at} {value} (lowered.TargetMember there w fields parts pieces object key s t is l) =
        joined moves s t _ (all_carried l) (carried_value moves t (store_of object key value) (Some at))
    target_carried (lowered.TargetLost there w fields s is) = moves.noted s (refusal (row_of_head w) there.span)
    target_carried {value} (lowered.TargetDefaulted there w fields target default s t u q p is d dt) =
        joined moves s (default_ended (default_at s there.span value) t q) u (carried_default moves s t q value there.span
        (moved_carried d))
        (target_carried dt)
    target_carried {at} {value}
        (lowered.TargetPattern there w of_object forced items rest pattern pieces later s t u v is ahead taken are l) =
        let apart : InstructionValue = destructured variables.Reassign pattern value in
        joined moves s t v (ahead_carried moves ahead)
        (joined moves t u v (taken_carried moves taken)
        (joined moves u (with_value u apart (Some at)) v (carried_value moves u apart (Some at)) (later_carried l)))

    pub later_carried : {later : List Later} {s t : State} → LoweredLater names later s t → R unchanged s t
    later_carried (lowered.NoLater s) = moves.same s s refl
    later_carried (lowered.NextLater value part later s t u p d ds) = joined moves s t u (target_carried d) (later_carried ds)

    pub spine_carried : {below : Bool} {e : Syntax} {s t : State} {p : Place} → LoweredSpine names below e s t p → R unchanged s t
    spine_carried (lowered.Outermost e s t front p l) = link_carried l
    spine_carried (lowered.Asserted at e s t p l) = spine_carried l
    spine_carried (lowered.Broken at e s t p is l) =
        let noted : State = recorded s (refusal row.F44 at.span) in
        joined moves s noted t (moves.noted s (refusal row.F44 at.span)) (spine_carried l)

    pub link_carried : {alternate : Option BlockId} {e : Syntax} {s t : State} {front : Front} {p : Place}
        → LoweredLink names alternate e s t front p → R unchanged s t
    link_carried (lowered.LinkedProperty alternate at w optional object rest parts pieces o key s t u is l more) =
        let x : State = link_objected (link_at s at.span optional alternate) t o in
        let loaded : State = with_value u (load_of o key) (Some at.span) in
        carried_linked moves alternate s t loaded at.span optional o (temporary u (Some at.span)) (front_carried l)
        (joined moves x u loaded (all_carried more) (carried_value moves u (load_of o key) (Some at.span)))
    link_carried (lowered.LinkedPrivate alternate at optional object name o s t l) =
        let x : State = link_objected (link_at s at.span optional alternate) t o in
        let met : State = private_met x at.span in
        let made : State = with_value met (values.Primitive primitives.Undefined) (Some at.span) in
        carried_linked moves alternate s t made at.span optional o (temporary met (Some at.span)) (front_carried l)
        (carried_noted moves x (refusal row.F3 at.span) (values.Primitive primitives.Undefined) (Some at.span))
    link_carried (lowered.LinkedCall alternate at optional callee es pieces given front s t u l more is) =
        let x : State = link_objected (link_at s at.span optional alternate) t (tested_front front) in
        let called : State = with_value u (call_of front given) (Some at.span) in
        carried_linked moves alternate s t called at.span optional (tested_front front) (temporary u (Some at.span)) (front_carried l)
        (joined moves x u called (all_carried more) (carried_value moves u (call_of front given) (Some at.span)))

    pub front_carried : {alternate : BlockId} {is_called : Bool} {e : Syntax} {s t : State} {front : Front}
        → LoweredFront names alternate is_called e s t front → R unchanged s t
    front_carried (lowered.FrontLink alternate is_called e s t front p l) = link_carried l
    front_carried (lowered.FrontBroken alternate is_called at e s t p l) = spine_carried l
    front_carried (lowered.FrontMethod alternate at w fields parts pieces object key s t is l) =
        joined moves s t _ (all_carried l) (carried_value moves t (load_of object key) (Some at.span))
    front_carried (lowered.FrontAlone alternate is_called e s t p other l) = expression_carried l

    pub all_carried : {of_object : Bool} {es : Pieces} {s t : State} {pieces : List Piece} → LoweredParts names of_object es s t pieces
        → R unchanged s t
    all_carried (lowered.NoPart s) = moves.same s s refl
    all_carried (lowered.NextPart e es s t u p pieces l more) = joined moves s t u (expression_carried l) (all_carried more)
    all_carried (lowered.NextSpread at e es s t u p pieces l more) = joined moves s t u (expression_carried l) (all_carried more)
    all_carried (lowered.NextHole at es s u pieces more) = all_carried more
    all_carried (lowered.NextProperty at computed key e text es s t u p pieces is l more) =
        joined moves s t u (expression_carried l) (all_carried more)
    all_carried (lowered.NextComputed at key e es s r t u p q pieces is k l more) =
        joined moves s r u (expression_carried k) (joined moves r t u (expression_carried l) (all_carried more))
    all_carried (lowered.NextFraction at there e text es s t u p pieces is l more) =
        let noted : State = recorded s (refusal row.F43 there.span) in
        joined moves s noted u (moves.noted s (refusal row.F43 there.span))
        (joined moves noted t u (expression_carried l) (all_carried more))
    all_carried (lowered.NextUnknown at computed key e es s u pieces is more) =
        let noted : State = recorded s (refusal row.F9 (span_of key)) in
        joined moves s noted u (moves.noted s (refusal row.F9 (span_of key))) (all_carried more)

    pub last_carried : {es : Pieces} {s t : State} {p : Place} → LoweredLast names es s t p
        → R unchanged s t
    last_carried (lowered.LastPart e s t p l) = expression_carried l
    last_carried (lowered.EarlierPart e next es s t u p q l more) = joined moves s t u (expression_carried l) (last_carried more)

  -- Binding patterns, whose variables the head of a loop declares again, and parameters.

  mutual
    pub pattern_carried : {again : Bool} {k : InstructionKind} {at : Span} {value : Place} {e : Syntax} {s t : State} {p : Place}
        → LoweredPattern names again k at value e s t p
        → R (again_span again (λ symbol before. span_in names symbol e before)) s t
    pattern_carried {again} {k} {at} {value} (lowered.BoundName bind name type declared identifier s annotated is f) =
        let here : State = met again names s declared identifier bind.span in
        joined_again moves again (at_symbol declared.0 bind.span) unchanged _ s here _
        (λ symbol before. ap (λ (o : Option SymbolId). if is_symbol symbol o then bind.span else before) is)
        (carried_met moves again s declared bind.span identifier f)
        (same_again moves again here _ (carried_value moves here (values.StoreLocal k (variable_at identifier at) value) (Some at)))
    pattern_carried {again} {value} (lowered.BoundDefault there pattern default s t u q p d dt) =
        joined_again moves again unchanged (λ symbol before. span_in names symbol pattern before) _ s
        (default_ended (default_at s there.span value) t q) u (λ symbol before. refl)
        (same_again moves again s _ (carried_default moves s t q value there.span (moved_carried d))) (pattern_carried dt)
    pattern_carried {again} {k} {at} {value}
        (lowered.BoundPattern there w of_object items rest pattern pieces later s u v is bound are l) =
        let apart : InstructionValue = destructured k pattern value in
        let behind : State = with_value u apart (Some at) in
        joined_again moves again (λ symbol before. ahead_span names of_object items rest symbol before)
        (λ symbol before. left_span names later symbol before) _ s u v
        (λ symbol before. pattern_spans is names there items rest symbol before
        ∙ sym (left_spans bound symbol (ahead_span names of_object items rest symbol before)))
        (bound_carried moves bound)
        (joined_again moves again unchanged (λ symbol before. left_span names later symbol before) _ u behind v (λ symbol before. refl)
        (same_again moves again u behind (carried_value moves u apart (Some at))) (left_carried l))

    pub left_carried : {again : Bool} {k : InstructionKind} {later : List Later} {s t : State} → LoweredBound names again k later s t
        → R (again_span again (λ symbol before. left_span names later symbol before)) s t
    left_carried {again} (lowered.NothingBound s) = same_again moves again s s (moves.same s s refl)
    left_carried {again} (lowered.NextBound value part later s t u p d ds) =
        joined_again moves again (λ symbol before. span_in names symbol part before)
        (λ symbol before. left_span names later symbol before) _ s t u (λ symbol before. refl) (pattern_carried d) (left_carried ds)

  pub params_carried : {es : Pieces} {rest : Syntax} {s t : State} {ps : List Param} → LoweredParams names es rest s t ps → R unchanged s t
  params_carried (lowered.NoParam s) = moves.same s s refl
  params_carried (lowered.RestParam there pattern s t p d) =
      joined moves s (with_temporary s (Some there.span)) t (moves.temporary s (Some there.span)) (pattern_carried d)
  params_carried (lowered.PlainParam there bind name type rest more symbol identifier s t ps annotated is f ds) =
      joined moves s _ t (moves.looked s symbol bind.span identifier f) (params_carried ds)
  params_carried (lowered.PatternParam there pattern rest more s t u p ps is d ds) =
      joined moves s (promoted s there.span) u (moves.promotes s there.span) (joined moves _ t u (pattern_carried d) (params_carried ds))
  params_carried (lowered.DefaultParam there pattern default rest more s t u v q p ps d dt ds) =
      let x : State = promoted s there.span in
      let ended : State = default_ended (default_at x there.span (caught s there.span)) t q in
      joined moves s x v (moves.promotes s there.span)
      (joined moves x ended v (carried_default moves x t q (caught s there.span) there.span (moved_carried d))
      (joined moves ended u v (pattern_carried dt) (params_carried ds)))

  declarators_carried : {at : Span} {k : InstructionKind} {es : Pieces} {s t : State} → LoweredDeclarators names at k es s t
      → R unchanged s t
  declarators_carried (lowered.NoDeclarator s) = moves.same s s refl
  declarators_carried (lowered.NextDeclared there bind name type more symbol identifier s u annotated is f l) =
      joined moves s _ u (carried_found moves s symbol bind.span identifier _ (Some bind.span) f) (declarators_carried l)
  declarators_carried {at} (lowered.NextInitialized there bind name type init more symbol identifier s t u p annotated is l f m) =
      joined moves s t u (expression_carried l)
      (joined moves t _ u (carried_found moves t symbol bind.span identifier _ (Some at) f) (declarators_carried m))
  declarators_carried (lowered.NextTakenApart there pattern init more s t u v p q is present d dp ds) =
      joined moves s t v (expression_carried d) (joined moves t u v (pattern_carried dp) (declarators_carried ds))
  declarators_carried {at} (lowered.NextUntaken there pattern more s u v q is dp ds) =
      let made : State = with_value s (values.Primitive primitives.Undefined) (Some at) in
      joined moves s made v (carried_value moves s (values.Primitive primitives.Undefined) (Some at))
      (joined moves made u v (pattern_carried dp) (declarators_carried ds))

  pub test_carried : {at : Span} {e : Syntax} {s t : State} {p : Place} → LoweredTest names at e s t p → R unchanged s t
  test_carried {at} (lowered.NoTest s) =
      carried_noted moves s (refusal row.F32 at) (values.Primitive (primitives.Boolean true)) (Some at)
  test_carried (lowered.Tested e s t p l) = expression_carried l

  pub case_test_carried : {e : Syntax} {s t : State} {p : Option Place} → LoweredCaseTest names e s t p → R unchanged s t
  case_test_carried (lowered.NoCaseTest s) = moves.same s s refl
  case_test_carried (lowered.CaseTested e s t p is l) = expression_carried l
  case_test_carried (lowered.CaseMoved at w fields s t p is l) =
      let noted : Diagnostic = diagnostic_at row.F29 (type_name w) at.span in
      joined moves s (recorded s noted) t (moves.noted s noted) (expression_carried l)

  -- The head of a loop over keys or values.

  pub head_carried : {value : Place} {e : Syntax} {s t : State} {p : Place} → LoweredHead names value e s t p
      → R (λ symbol before. span_at_head names symbol e before) s t
  head_carried (lowered.Declared at there bind kind name type symbol identifier s annotated is f) =
      let again : State = found_again names s symbol identifier bind.span in
      moves.alike s _
      (λ other before. ap (λ (o : Option SymbolId). if is_symbol other o then bind.span else before) is)
      (moves.chain s again _ (moves.again s symbol bind.span identifier f) (carried_value moves again _ (Some at.span)))
  head_carried (lowered.Reassigned at name symbol identifier s is mutable f) =
      let first : State = found names s symbol at.span in
      moves.chain s first _ (moves.looked s symbol at.span identifier f) (carried_value moves first _ (Some at.span))
  head_carried (lowered.ReassignedConstant at name symbol identifier s is constant f) =
      let first : State = found names s symbol at.span in
      moves.chain s first _ (moves.looked s symbol at.span identifier f)
      (moves.noted first (diagnostic_at row.F6 (names.name symbol.0) at.span))
  head_carried {value} (lowered.StoredGlobal at name binding s is) = carried_value moves s (values.StoreGlobal name value) (Some at.span)
  head_carried {value} (lowered.StoredMember at w fields parts pieces object key s t is l) =
      moves.alike s _ (member_unspanned is names at)
      (moves.chain s t _ (all_carried l)
      (carried_value moves t (store_of object key value) (Some at.span)))
  head_carried (lowered.DeclaredPattern at there kind pattern s t p is d) = pattern_carried d
  head_carried (lowered.StoredPattern at w fields s t p is d) =
      moves.alike s t (pattern_unspanned names at w fields is) (target_carried d)
  head_carried (lowered.Lost at w fields s is) =
      moves.alike s _ (lost_unspanned names at w fields is) (moves.noted s (refusal (row_of_head w) at.span))

  -- Statements.

  variables_carried : (at : At) (k : VariableKind) (declarators : Pieces) (s t : State)
      → LoweredDeclarators names at.span (kind_of k) declarators (declaring s k at.span) t → R unchanged s t
  variables_carried at k declarators s t l =
      joined moves s (declaring s k at.span) t (carried_declaring moves s k at.span) (declarators_carried l)

  mutual
    pub statement_carried : {e : Syntax} {s t : State} → LoweredStatement names e s t
        → R (λ symbol before. span_behind names symbol e before) s t
    statement_carried (lowered.Empty at s) = moves.same s s refl
    statement_carried (lowered.Expression at e s t p l) = expression_carried l
    statement_carried (lowered.Debugger at s) = carried_value moves s values.Debugger (Some at.span)
    statement_carried (lowered.Variables at k declarators s t l) = variables_carried at k declarators s t l
    statement_carried (lowered.ReturnNothing at s) =
        let valued : State = with_value s (values.Primitive primitives.Undefined) None in
        moves.chain s valued _ (carried_value moves s (values.Primitive primitives.Undefined) None)
        (moves.same valued (returned_from valued (Some at.span) returns.Explicit (temporary s None) blocks.Block) refl)
    statement_carried (lowered.Return at e s t p l) =
        moves.chain s t _ (expression_carried l) (moves.same t (returned_from t (Some at.span) returns.Explicit p blocks.Block) refl)
    statement_carried (lowered.Block at statements s t l) = statements_carried l
    statement_carried (lowered.IfThen at test consequent s s2 s3 p second first) =
        let f : IfParts = if_at s at.span false in
        let between : State = if_consequent f s2 (span_of consequent) in
        moves.chain s (if_begun s) _ (moves.same s (if_begun s) refl)
        (moves.chain (if_begun s) s2 _ (statement_carried second)
        (moves.chain s2 between _ (moves.same s2 between refl)
        (moves.chain between s3 _ (expression_carried first) (moves.same s3 (if_ended (if_after_consequent f s2) s3 p) refl))))
    statement_carried (lowered.IfElse at test consequent alternate s s2 s3 s4 p second third first) =
        let f : IfParts = if_at s at.span true in
        let parted : IfParts = if_after_consequent f s2 in
        let between : State = if_consequent f s2 (span_of consequent) in
        let behind : State = if_alternate parted s3 (span_of alternate) in
        moves.chain s (if_begun s) _ (moves.same s (if_begun s) refl)
        (moves.chain (if_begun s) s2 _ (statement_carried second)
        (moves.chain s2 between _ (moves.same s2 between refl)
        (moves.chain between s3 _ (statement_carried third)
        (moves.chain s3 behind _ (moves.same s3 behind refl)
        (moves.chain behind s4 _ (expression_carried first) (moves.same s4 (if_ended (if_shut parted) s4 p) refl))))))
    statement_carried (lowered.Unlabeled loop s t l) = loop_carried l
    statement_carried (lowered.LabeledLoop at label loop s t l) = loop_carried l
    statement_carried (lowered.Labeled at label body s s2 other l) =
        moves.chain s (label_begun s label) _ (moves.same s (label_begun s label) refl)
        (moves.chain (label_begun s label) s2 _ (statement_carried l)
        (moves.same s2 (label_ended (label_at s at.span) s2 (span_of body)) refl))
    statement_carried (lowered.Break at label target s is) =
        moves.same s (next_hole s target.0 gotos.Break at.span blocks.Block) refl
    statement_carried (lowered.Continue at label target s is) =
        moves.same s (next_hole s target.0 gotos.Continue at.span blocks.Block) refl
    statement_carried (lowered.Throw at e s t p l) =
        let thrown : State = throwing t at.span in
        moves.chain s t _ (expression_carried l)
        (moves.chain t thrown _ (carried_throwing moves t at.span) (moves.same thrown (threw_from thrown at.span p blocks.Block) refl))
    statement_carried (lowered.Switch at value cases ks s t u p all l) =
        moves.chain s (switch_begun s) _ (moves.same s (switch_begun s) refl)
        (moves.chain (switch_begun s) t _ (cases_carried all)
        (moves.chain t u _ (expression_carried l) (moves.same u (switch_finished u s.env.next_block ks p at.span) refl)))
    statement_carried (lowered.TryPlain at there block body s s2 s3 first second) =
        let f : TryParts = try_at s at.span None in
        let begun : State = try_started s None in
        let handled : State = try_caught f s2 there.span in
        moves.chain s begun _ (moves.same s begun refl)
        (moves.chain begun s2 _ (statement_carried first)
        (moves.chain s2 handled _ (moves.same s2 handled refl)
        (moves.chain handled s3 _ (statement_carried second) (moves.same s3 (try_ended (try_after f s2) s3 (span_of block)) refl))))
    statement_carried (lowered.TryBound at there bind name type block body symbol identifier s s2 s3 annotated is f first second) =
        let parts : TryParts = catch_at s at.span bind.span in
        let begun : State = catch_begun s bind.span in
        let stored : State = catch_bound names s symbol identifier bind.span in
        let handled : State = try_caught parts s2 there.span in
        moves.chain s begun _ (carried_catch_begun moves s bind.span)
        (moves.chain begun stored _
        (carried_found moves begun symbol bind.span identifier (stores_caught s identifier bind.span) (Some bind.span) f)
        (moves.chain stored s2 _ (statement_carried first)
        (moves.chain s2 handled _ (moves.same s2 handled refl)
        (moves.chain handled s3 _ (statement_carried second)
        (moves.same s3 (try_ended (try_after parts s2) s3 (span_of block)) refl)))))
    statement_carried (lowered.Finalized at there block param body finalizer s t is l) =
        let noted : State = recorded s (refusal row.F35 at.span) in
        moves.chain s noted t (moves.noted s (refusal row.F35 at.span)) (statement_carried l)
    statement_carried (lowered.Uncaught at block finalizer s) = moves.noted s (refusal row.F34 at.span)
    statement_carried (lowered.With at fields s) = moves.noted s (refusal row.F36 at.span)

    pub cases_carried : {s : State} {es : Pieces} {ks : List Case} {t : State} → LoweredCases names s es ks t
        → R (λ symbol before. span_behind_cases names symbol es before) (switch_begun s) t
    cases_carried (lowered.NoCase s) = moves.same (switch_begun s) (switch_begun s) refl
    cases_carried (lowered.NextCase at test statements cases ks s x y z p all l tested) =
        let begun : State = case_begun x None s.env.next_block in
        let shut : State = case_ended y (fall_of s.env.next_block ks) x.current at.span in
        moves.chain (switch_begun s) x z (cases_carried all)
        (moves.chain x begun z (moves.same x begun refl)
        (moves.chain begun y z (statements_carried l)
        (moves.chain y shut z (moves.same y shut refl) (case_test_carried tested))))

    pub loop_carried : {own : Label} {e : Syntax} {s t : State} → LoweredLoop names own e s t
        → R (λ symbol before. span_behind names symbol e before) s t
    loop_carried {own} (lowered.While at test body s s2 s3 p second first) =
        let begun : State = while_begun s own in
        let behind : State = while_bodied (while_at s at.span) s2 (span_of body) in
        moves.chain s begun _ (moves.same s begun refl)
        (moves.chain begun s2 _ (statement_carried second)
        (moves.chain s2 behind _ (moves.same s2 behind refl)
        (moves.chain behind s3 _ (expression_carried first) (moves.same s3 (while_ended (while_after (while_at s at.span)) s3 p) refl))))
    loop_carried {own} (lowered.DoWhile at test body s s2 s3 p first second) =
        let begun : State = while_begun s own in
        let behind : State = do_while_bodied (while_at s at.span) s2 (span_of body) in
        moves.chain s begun _ (moves.same s begun refl)
        (moves.chain begun s2 _ (statement_carried first)
        (moves.chain s2 behind _ (moves.same s2 behind refl)
        (moves.chain behind s3 _ (expression_carried second) (moves.same s3 (while_ended (while_after (while_at s at.span)) s3 p) refl))))
    loop_carried {own} (lowered.ForUpdated at init test update body s s2 s3 s4 s5 u p first third fourth second) =
        let f : ForParts = for_at s at.span own true in
        let g : ForParts = for_after_init f s2 in
        let h : ForParts = for_after_update g s3 in
        let updating : State = for_inited f s2 (part_span at.span init) in
        let opened : State = for_updated g s3 (span_of update) in
        let testing : State = for_bodied h s4 (span_of body) in
        moves.chain s (for_begun s) _ (moves.same s (for_begun s) refl)
        (moves.chain (for_begun s) s2 _ (init_carried first)
        (moves.chain s2 updating _ (moves.same s2 updating refl)
        (moves.chain updating s3 _ (expression_carried third)
        (moves.chain s3 opened _ (moves.same s3 opened refl)
        (moves.chain opened s4 _ (statement_carried fourth)
        (moves.chain s4 testing _ (moves.same s4 testing refl)
        (moves.chain testing s5 _ (test_carried second) (moves.same s5 (for_ended (for_after h) s5 p) refl))))))))
    loop_carried {own} (lowered.ForPlain at init test body s s2 s3 s4 p first third second) =
        let f : ForParts = for_at s at.span own false in
        let g : ForParts = for_after_init f s2 in
        let opened : State = for_inited f s2 (part_span at.span init) in
        let testing : State = for_bodied g s3 (span_of body) in
        moves.chain s (for_begun s) _ (moves.same s (for_begun s) refl)
        (moves.chain (for_begun s) s2 _ (init_carried first)
        (moves.chain s2 opened _ (moves.same s2 opened refl)
        (moves.chain opened s3 _ (statement_carried third)
        (moves.chain s3 testing _ (moves.same s3 testing refl)
        (moves.chain testing s4 _ (test_carried second) (moves.same s4 (for_ended (for_after g) s4 p) refl))))))
    loop_carried {own} (lowered.ForIn at head right body s s2 s3 s4 collection p first second third) =
        let f : RoundsParts = rounds_shut (forin_at s at.span) in
        let begun : State = forin_begun s own in
        let behind : State = rounds_bodied (forin_at s at.span) s2 (span_of body) in
        let headed : State = forin_headed f s3 in
        let righted : State = forin_righted f s3 (span_of head) collection in
        moves.chain s begun _ (moves.same s begun refl)
        (moves.chain begun s2 _ (statement_carried first)
        (moves.chain s2 behind _ (moves.same s2 behind refl)
        (moves.chain behind s3 _ (expression_carried second)
        (moves.chain s3 headed _ (moves.same s3 headed refl)
        (moves.chain headed righted _ (carried_value moves headed (values.NextPropertyOf collection) (Some (span_of head)))
        (moves.chain righted s4 _ (head_carried third) (moves.same s4 (rounds_ended (rounds_opened f) s4 p) refl)))))))
    loop_carried {own} (lowered.ForOf at head right body s s2 s3 s4 collection p first second third) =
        let f : ForOfParts = forof_shut (forof_at s at.span) in
        let begun : State = forof_begun s own in
        let behind : State = forof_bodied (forof_at s at.span) s2 (span_of body) in
        let headed : State = forof_headed f s3 in
        let opened : State = with_value headed (values.GetIterator collection) collection.span in
        let tested : State = forof_tested f s3 collection in
        let righted : State = forof_righted f s3 (span_of head) collection in
        moves.chain s begun _ (moves.same s begun refl)
        (moves.chain begun s2 _ (statement_carried first)
        (moves.chain s2 behind _ (moves.same s2 behind refl)
        (moves.chain behind s3 _ (expression_carried second)
        (moves.chain s3 headed _ (moves.same s3 headed refl)
        (moves.chain headed opened _ (carried_value moves headed (values.GetIterator collection) collection.span)
        (moves.chain opened tested _ (moves.same opened tested refl)
        (moves.chain tested righted _
        (carried_value moves tested (values.IteratorNext (forof_iterator f s3 collection) collection) (Some (span_of head)))
        (moves.chain righted s4 _ (head_carried third) (moves.same s4 (forof_ended (forof_after f) s4 p) refl)))))))))
    loop_carried (lowered.AwaitRefused at head right body s) = moves.noted s (refusal row.F33 at.span)

    -- A declaration declares no variable of a loop over keys or values.
    pub init_carried : {at : Span} {e : Syntax} {s t : State} → LoweredInit names at e s t → R unchanged s t
    init_carried {at} (lowered.NoInit s) = carried_value moves s (values.Primitive primitives.Undefined) (Some at)
    init_carried (lowered.DeclaredInit there fields s t l) = statement_carried l
    init_carried {at} (lowered.RefusedInit e s t p l) =
        joined moves s (recorded s (refusal row.F31 at)) t (moves.noted s (refusal row.F31 at)) (expression_carried l)

    pub statements_carried : {es : Pieces} {s t : State} → LoweredStatements names es s t
        → R (λ symbol before. span_behind_all names symbol es before) s t
    statements_carried (lowered.NoStatement s) = moves.same s s refl
    statements_carried (lowered.NextStatement e es s t u l more) = moves.chain s t u (statement_carried l) (statements_carried more)

  pub body_carried : {b : Syntax} {s t : State} → LoweredBody names b s t
      → R (λ symbol before. span_behind_body names symbol b before) s t
  body_carried (lowered.Statements at directives statements s t texts l) = statements_carried l
  body_carried (lowered.Value e s t p l) =
      let last : State = completed_by t (return_of None returns.Implicit p) (new_block s.env.next_block blocks.Block) in
      moves.alike s last ((lowered_plain l).spans names)
      (moves.chain s (reserved s) last (moves.same s (reserved s) refl)
      (moves.chain (reserved s) t last (expression_carried l) (moves.same t last refl)))
