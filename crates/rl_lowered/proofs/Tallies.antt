-- The table has an instruction for each call, construction, await and store of an expression, where nothing of it was refused.
use Rattle.std.proofs.Common.{◌≡◌, ℕ, ◌+◌, ◌++◌, Bool, false, List, [], ◌∷◌, Option, Some, codes, refl}
use Rattle.std.proofs.Common.{sym, ap, ◌∙◌, arith}
use Rattle.rl_base.specs.Operators.{assignment_text, update_text}
use Rattle.rl_builder.specs.Temporaries.{temporary, with_value}
use Rattle.rl_frames.specs.Parts.{logical_entered, logical_left, logical_place, sequence_place, ternary_place}
use Rattle.rl_hir.specs.declared.instruction.Instruction.{Instruction}
use Rattle.rl_hir.specs.declared.instruction.InstructionKind.TheVariants as variables
use Rattle.rl_hir.specs.declared.instruction.InstructionValue.TheVariants as values
use Rattle.rl_lowered.proofs.Clean.{assigned_clean, assigned_member_clean, branches_clean}
use Rattle.rl_lowered.proofs.Clean.{cast_clean, compound_clean, compound_member_clean, computed_row_clean, constant_assigned_never}
use Rattle.rl_lowered.proofs.Clean.{constant_compound_never, constant_head_never, constant_update_never, first_none}
use Rattle.rl_lowered.proofs.Clean.{form_clean, fraction_row_never, method_clean}
use Rattle.rl_lowered.proofs.Clean.{moved_never, outer_never, private_assigned_never, private_clean, private_never}
use Rattle.rl_lowered.proofs.Clean.{property_row_clean, refused_never, refusing_never, row_clean, second_none}
use Rattle.rl_lowered.proofs.Clean.{spread_row_clean, unknown_row_never, updated_member_clean}
use Rattle.rl_lowered.proofs.Clean.{wrapper_clean}
use Rattle.rl_lowered.proofs.Common.{BlockId, End, Names, Node, Piece, Pieces, Place, Said, Span, State, Syntax, Then}
use Rattle.rl_lowered.proofs.HeldParts.{call_link_held, link_held, link_word}
use Rattle.rl_lowered.proofs.HeldParts.{HeldBy, assigned_held, assigned_member_held, cast_held, compound_held}
use Rattle.rl_lowered.proofs.HeldParts.{form_held, form_span, form_word}
use Rattle.rl_lowered.proofs.HeldParts.{literal_held, member_held, method_held, property_held, updated_held}
use Rattle.rl_lowered.proofs.HeldParts.{wrapper_held}
use Rattle.rl_lowered.proofs.Meant.{private_compound_never, private_member_never}
use Rattle.rl_lowered.proofs.Plain.{lowered_plain}
use Rattle.rl_lowered.proofs.Refusals.{applied_plain}
use Rattle.rl_lowered.proofs.CleanChains.{asserted_clean, below_off, broken_never, call_link_clean, method_front_clean}
use Rattle.rl_lowered.proofs.CleanChains.{private_link_never, property_link_clean, spine_place}
use Rattle.rl_lowered.proofs.Spines.{outermost_clean}
use Rattle.rl_lowered.proofs.Sums.{added_assigned, added_behind}
use Rattle.rl_lowered.proofs.Sums.{added_call_link, added_compound, added_compound_member, added_computed}
use Rattle.rl_lowered.proofs.Sums.{added_inner}
use Rattle.rl_lowered.proofs.Sums.{added_leaf, added_link, added_member, added_method}
use Rattle.rl_lowered.proofs.Sums.{added_row, added_same, added_stored, added_three, added_two}
use Rattle.rl_lowered.specs.Forms.{Front, call_of, load_of, store_of, typed}
use Rattle.rl_lowered.specs.Items.{variable_at}
use Rattle.rl_lowered.specs.Lowered.{Asserted, Broken, Chain, FrontAlone, FrontBroken, FrontLink, FrontMethod, LinkedCall}
use Rattle.rl_lowered.specs.Lowered.{LinkedPrivate, LinkedProperty, LoweredFront, LoweredLink, LoweredSpine, Outermost}
use Rattle.rl_lowered.specs.Lowered.{Asked, AssignedConstant, AssignedGlobal, AssignedMember, AssignedPrivate, AssignedVariable}
use Rattle.rl_lowered.specs.Lowered.{Cast, CompoundConstant, CompoundGlobal}
use Rattle.rl_lowered.specs.Lowered.{CompoundMember, CompoundPrivate, CompoundVariable, Conditional}
use Rattle.rl_lowered.specs.Lowered.{EarlierPart}
use Rattle.rl_lowered.specs.Lowered.{Global, LastPart, Literal, Logical, Lowered}
use Rattle.rl_lowered.specs.Lowered.{LoweredLast}
use Rattle.rl_lowered.specs.Lowered.{LoweredParts, Method, NextComputed}
use Rattle.rl_lowered.specs.Lowered.{NextFraction, NextHole, NextPart, NextProperty, NextSpread}
use Rattle.rl_lowered.specs.Lowered.{NextUnknown, NoPart}
use Rattle.rl_lowered.specs.Lowered.{Object, Private, Refused, RefusedBefore, RefusedBehind, RefusedGlobal}
use Rattle.rl_lowered.specs.Lowered.{Same, Sequence}
use Rattle.rl_lowered.specs.Lowered.{UpdatedConstant, UpdatedMember}
use Rattle.rl_lowered.specs.Lowered.{UpdatedVariable, Variable, assigned_to}
use Rattle.rl_lowered.specs.Lowered.{member_computed}
use Rattle.rl_lowered.specs.Lowered.{name_computed, name_stored, value_span}
use Rattle.rl_lowered.specs.Named.{found}
use Rattle.rl_model.specs.Counted.{Counted}
use Rattle.rl_promises.proofs.Unheld.{unheld_untallied}
use Rattle.rl_promises.specs.Held.{times}
use Rattle.rl_promises.specs.Live.{Held, held_in}
use Rattle.rl_promises.specs.Moved.{said_of_moved}
use Rattle.rl_promises.specs.Chains.{Below, Top}
use Rattle.rl_promises.specs.Rows.{refusals, refusals_by, refusals_in}
use Rattle.rl_promises.specs.Tallies.{IsHeldKind, call_word, held_word}
use Rattle.rl_promises.specs.Tallies.{tallied}
use Rattle.rl_promises.specs.Tallies.{tallied_among}
use Rattle.rl_syntax.specs.declared.word.Word.TheVariants as word
use Rattle.rl_syntax.specs.Syntax.{Flag, Listed, span_of}
use Rattle.rl_lowered.proofs.BoundSlots.{AreClean}
use Rattle.rl_lowered.proofs.Clean.{assigned_pattern_clean, constant_head_never}
use Rattle.rl_lowered.proofs.HeldItems.{assigned_pattern_held, defaulted_whole_held, left_held, member_target_held, part_stored}
use Rattle.rl_lowered.proofs.HeldItems.{pattern_stored, stored_at, taken_held, taking_held}
use Rattle.rl_lowered.proofs.HeldParts.{form_stores}
use Rattle.rl_lowered.proofs.ItemBlocks.{ahead_stays, taken_stays}
use Rattle.rl_lowered.proofs.Rearranged.{tally_append}
use Rattle.rl_lowered.proofs.Sums.{added_apart, added_both, added_form}
use Rattle.rl_lowered.proofs.TalliedMoves.{apart_tallies, call_tallied, default_tallies, global_weight, link_tallied, load_unheld}
use Rattle.rl_lowered.proofs.TalliedMoves.{loaded_tallies, member_tallies, method_tallied, opened_tallies, pair_tallied, parts_tallied}
use Rattle.rl_lowered.proofs.TalliedMoves.{row_tallied}
use Rattle.rl_lowered.proofs.TalliedMoves.{same_among, same_tallied, store_unheld, store_weight, stored_tallied, stored_tallies}
use Rattle.rl_lowered.proofs.TalliedMoves.{tally_by, typed_table, unheld_tallies, update_unheld, value_tallies, weighed, weighed_among}
use Rattle.rl_lowered.proofs.TalliedMoves.{weight}
use Rattle.rl_lowered.proofs.TargetForms.{ahead_forced, defaulted_clean, lost_target_never, member_target_clean, taking_clean}
use Rattle.rl_lowered.specs.Items.{Later}
use Rattle.rl_lowered.specs.Lowered.{AssignedPattern, LoweredLater, LoweredMoved, LoweredTarget, Moved, NextLater, NoLater, Stays}
use Rattle.rl_lowered.specs.Lowered.{TargetConstant, TargetDefaulted, TargetGlobal, TargetLost, TargetMember, TargetPattern, TargetVariable}
use Rattle.rl_promises.specs.Rows.{refusals_to}
use Rattle.rl_promises.specs.Tallies.{stored_in, tally_of}

module _ (names : Names) (key : Counted) (held : IsHeldKind key.kinds) where
  mutual
    pub expression_tallies : {e : Syntax} {s t : State} {p : Place} → Lowered names e s t p → refusals names e ≡ []
        → times key t.table ≡ times key s.table + tallied names key e
    expression_tallies (Literal at w fields p s is) none =
        added_leaf _ _ _ (unheld_untallied names key (Node at w fields) (literal_held names is at))
        (unheld_tallies key held s (values.Primitive p) (Some at.span) refl)
    expression_tallies (Refused at w fields r s is) none = absurd (refused_never names at is none)
    expression_tallies (RefusedBefore at w fields parts r pieces s t is d) none = absurd (refusing_never names at is none)
    expression_tallies (RefusedBehind at object name s t p d) none =
        absurd (private_never names at (Flag false) object (Said name) none)
    expression_tallies (Private at w fields e s t p is d) none = absurd (private_member_never is d (private_clean is names at none))
    expression_tallies (Variable at name symbol identifier s means f) none =
        added_leaf _ _ _ refl (unheld_tallies key held (found names s symbol at.span) _ (Some at.span) refl)
    expression_tallies (UpdatedVariable at there name symbol identifier operator prefix s means mutable f g) none =
        added_leaf _ _ _ refl
        (unheld_tallies key held (found names (found names s symbol there.span) symbol there.span) _ (Some at.span)
        (update_unheld prefix operator (record { identifier = record { 0 = identifier }; span = Some there.span })))
    expression_tallies (UpdatedConstant at there name symbol identifier operator prefix s means constant f) none =
        absurd (constant_update_never names at there operator prefix name symbol means constant none)
    expression_tallies (UpdatedMember at there w fields parts pieces object k operator prefix s t is d) none =
        let text : List ℕ = update_text operator in
        added_same _ _ _ _
        (row_tallied names key (Node at word.Update (Then (Said text) (Then (Flag prefix) (Then (Node there w fields) End)))) parts
        (updated_held names is at there text prefix))
        (added_behind _ _ _ _ (all_tallies d (updated_member_clean is names at there (Said text) (Flag prefix) none))
        (member_tallies key held t object k operator there.span))
    expression_tallies (AssignedVariable at there name right symbol identifier s t p is mutable d f) none =
        let target : Syntax = Node there word.Id (Then (Said name) End) in
        added_assigned _ _ _ _ _ _ _
        (stored_tallied names key (Node at word.Assign (Then (Said (codes "=")) (Then target (Then right End)))) right there.span
        (assigned_held names at there name right))
        (store_weight key held identifier there.span p there.span) (expression_tallies d (assigned_clean names at target right refl none).0)
        (value_tallies key held (found names t symbol there.span) (assigned_to identifier there.span p) (Some there.span))
    expression_tallies (AssignedConstant at there name right symbol identifier s t p is constant d f) none =
        absurd (constant_assigned_never names at there name right symbol is constant none)
    expression_tallies (AssignedGlobal at there name right binding s t p is d) none =
        let target : Syntax = Node there word.Id (Then (Said name) End) in
        added_assigned _ _ _ _ _ _ _
        (stored_tallied names key (Node at word.Assign (Then (Said (codes "=")) (Then target (Then right End)))) right there.span
        (assigned_held names at there name right))
        (global_weight key held name p there.span) (expression_tallies d (assigned_clean names at target right refl none).0)
        (value_tallies key held t (values.StoreGlobal name p) (Some there.span))
    expression_tallies (AssignedMember at there w fields parts pieces object k right s t u p is d ds) none =
        let clean = assigned_member_clean is names at there right none in
        added_member _ _ _ _ _ _ _
        (parts_tallied names key (Node at word.Assign (Then (Said (codes "=")) (Then (Node there w fields) (Then right End)))) right parts
        (assigned_member_held names is at there (codes "=") right))
        (expression_tallies d clean.0) (all_tallies ds clean.1)
        (unheld_tallies key held u (store_of object k p) (Some there.span) (store_unheld object k p))
    expression_tallies (AssignedPrivate at there object name right s t u p q d ds) none =
        absurd (private_assigned_never names at there object name right none)
    expression_tallies (AssignedPattern at there w fields right s t u p q is d dt) none =
        let target : Syntax = Node there w fields in
        let clean = assigned_pattern_clean names at target right is none in
        added_both _ _ _ _ _ _
        (pair_tallied names key (Node at word.Assign (Then (Said (codes "=")) (Then target (Then right End)))) target right
        (assigned_pattern_held names at target right is))
        (expression_tallies d clean.0)
        (added_same _ _ _ _
        (weighed names key target ∙ ap (λ (l : List Held). tally_of key (l ++ held_in names target))
        (sym (pattern_stored target there.span is)))
        (target_tallies dt clean.1))
    expression_tallies
        (CompoundVariable at there name operator applied right symbol identifier s t u q p is mutable applies dq d f) none =
        let target : Syntax = Node there word.Id (Then (Said name) End) in
        let clean = compound_clean names at target right operator applied applies refl none in
        let computed : State = name_computed u applied q p at.span in
        let stored : State = name_stored names u applied q p at.span there.span symbol identifier in
        added_behind _ _ _ _
        (added_compound _ _ _ _ _ _ _ _ _
        (stored_tallied names key (Node at word.Assign (Then (Said (assignment_text operator))
        (Then target (Then right End)))) right at.span
        (compound_held names at there name (assignment_text operator) right (applied_plain operator applied applies).0))
        (store_weight key held identifier there.span (temporary u (Some at.span)) at.span) (expression_tallies dq clean.0)
        (expression_tallies d clean.1) (unheld_tallies key held u (values.BinaryExpression applied q p) (Some at.span) refl)
        (value_tallies key held (found names computed symbol there.span) (assigned_to identifier there.span (temporary u (Some at.span)))
        (Some at.span)))
        (unheld_tallies key held stored (values.LoadLocal (variable_at identifier there.span)) (Some at.span) refl)
    expression_tallies
        (CompoundConstant at there name operator applied right symbol identifier s t u q p is constant applies dq d f) none =
        absurd (constant_compound_never names at there name right operator applied applies symbol is constant none)
    expression_tallies (CompoundGlobal at there name operator applied right binding s t u q p is applies dq d) none =
        let target : Syntax = Node there word.Id (Then (Said name) End) in
        let clean = compound_clean names at target right operator applied applies refl none in
        let computed : State = name_computed u applied q p at.span in
        let value : Place = temporary u (Some at.span) in
        added_compound _ _ _ _ _ _ _ _ _
        (stored_tallied names key (Node at word.Assign (Then (Said (assignment_text operator))
        (Then target (Then right End)))) right at.span
        (compound_held names at there name (assignment_text operator) right (applied_plain operator applied applies).0))
        (global_weight key held name value at.span) (expression_tallies dq clean.0)
        (expression_tallies d clean.1) (unheld_tallies key held u (values.BinaryExpression applied q p) (Some at.span) refl)
        (value_tallies key held computed (values.StoreGlobal name value) (Some at.span))
    expression_tallies (CompoundMember at there w fields parts pieces object k operator applied right s t u p is applies ds d)
        none =
        let clean = compound_member_clean is names at there right operator applied applies none in
        let text : List ℕ = assignment_text operator in
        let value : Place = temporary u (Some there.span) in
        added_compound_member _ _ _ _ _ _ _ _ _
        (parts_tallied names key (Node at word.Assign (Then (Said text) (Then (Node there w fields) (Then right End)))) right parts
        (assigned_member_held names is at there text right))
        (all_tallies ds clean.0) (unheld_tallies key held t (load_of object k) (Some there.span) (load_unheld object k))
        (expression_tallies d clean.1)
        (unheld_tallies key held u (values.BinaryExpression applied (temporary t (Some there.span)) p) (Some there.span) refl)
        (unheld_tallies key held (member_computed t u applied p there.span) (store_of object k value) (Some there.span)
        (store_unheld object k value))
    expression_tallies (CompoundPrivate at there fields operator applied right s t u q p applies dq d) none =
        absurd (private_compound_never at there fields right operator applied applies dq none)
    expression_tallies (Method at there w fields parts es pieces given_pieces object k given s t u is d ds given_are) none =
        let clean = method_clean is names at there es none in
        added_method _ _ _ _ _ _ _ _ _ _
        (method_tallied names key (Node at word.Call (Then (Flag false) (Then (Node there w fields)
        (Then (Listed es) End)))) at.span parts es
        (method_held names is at there es))
        (weight key held (Some (codes "methodcall"))
        (values.MethodCall (record { receiver = object; property = temporary t (Some there.span); arguments = given })) at.span
        (HeldBy (codes "methodcall") refl refl))
        (all_tallies d clean.0) (unheld_tallies key held t (load_of object k) (Some there.span) (load_unheld object k))
        (all_tallies ds clean.1)
        (value_tallies key held u _ (Some at.span))
    expression_tallies (Cast at there w fields e type k s t p is annotated d) none =
        added_same _ _ _ _ (same_tallied names key (Node at w fields) e (cast_held names is annotated at))
        (added_behind _ _ _ _ (expression_tallies d (cast_clean is names at none))
        (unheld_tallies key held (typed t k) _ (Some at.span) refl ∙ ap (λ (l : List Instruction). times key l + 0) (typed_table t k)))
    expression_tallies (Global at name binding s means other) none =
        added_leaf _ _ _ refl (unheld_tallies key held s (values.LoadGlobal binding) (Some at.span) refl)
    expression_tallies (RefusedGlobal at name binding s means is) none = absurd (outer_never names at name binding means is none)
    expression_tallies (Same at w fields e s t p is d) none =
        added_same _ _ _ _ (same_tallied names key (Node at w fields) e (wrapper_held names is at)) (expression_tallies d
        (wrapper_clean is names at none))
    expression_tallies (Asked at w fields parts pieces v s t form d) none =
        added_form _ _ _ _ _ _ _ _ (same_among names key fields parts (form_held names form))
        (weight key held (held_word w fields) v at.span (form_word form)
        ∙ ap (λ (span : Span). tally_by key (held_word w fields) span) (sym (form_span form at.span)))
        (ap (tally_of key) (form_stores names form))
        (all_tallies d (form_clean form names at none)) (value_tallies key held t v (Some at.span))
    expression_tallies (Object at es pieces properties s t is d) none =
        added_inner _ _ _ _ refl
        (added_behind _ _ _ _ (all_tallies d (first_none (refusals_in names es) [] none))
        (unheld_tallies key held t (values.ObjectExpression properties) (Some at.span) refl))
    expression_tallies (Logical at operator left right s s2 s3 l r dr dl) none =
        added_two _ _ _ _ _ _ _ _
        (stored_tallies key held (logical_entered s at.span (span_of left)) (logical_place s at.span) (logical_left s (span_of left))
        (span_of left))
        (expression_tallies dr (first_none (refusals names right) (refusals names left) none))
        (stored_tallies key held s2 (logical_place s at.span) r (value_span r right))
        (expression_tallies dl (second_none (refusals names right) (refusals names left) none))
        (loaded_tallies key held s3 (logical_left s (span_of left)) l at.span)
    expression_tallies (Conditional at test consequent alternate s s2 s3 s4 c a p dc da dt) none =
        let clean = branches_clean names consequent alternate test none in
        added_three _ _ _ _ _ _ _ _ _
        (expression_tallies dc clean.0) (stored_tallies key held s2 (ternary_place s at.span) c at.span)
        (expression_tallies da clean.1) (stored_tallies key held s3 (ternary_place s at.span) a at.span) (expression_tallies dt clean.2)
    expression_tallies (Sequence at e es s s2 p d) none =
        added_inner _ _ _ _ refl
        (added_behind _ _ _ _ (last_tallies d (first_none (refusals_in names (Then e es)) [] none))
        (stored_tallies key held s2 (sequence_place s at.span) p at.span))
    expression_tallies (Chain at e s t p d) none =
        added_inner _ _ _ _ refl (spine_tallies d (first_none (refusals_by names Top e) [] none))

    pub moved_tallies : {e : Syntax} {s t : State} {p : Place} → LoweredMoved names e s t p → said_of_moved names e ≡ []
        → refusals names e ≡ [] → times key t.table ≡ times key s.table + tallied names key e
    moved_tallies (Stays e s t p is d) unsaid none = expression_tallies d none
    moved_tallies (Moved at w fields s t p is d) unsaid none = absurd (moved_never names at w fields is unsaid)

    -- The store of a target, and what it holds.
    pub target_tallies : {at : Span} {value : Place} {e : Syntax} {s t : State} {p : Place} → LoweredTarget names at value e s t p
        → refusals_to names e ≡ [] → times key t.table ≡ times key s.table + tally_of key (stored_at e at ++ held_in names e)
    target_tallies {at} {value} (TargetVariable there name symbol identifier s is mutable f) none =
        added_stored _ _ _ _ (store_weight key held identifier at value at)
        (value_tallies key held (found names s symbol there.span) (assigned_to identifier at value) (Some at))
    target_tallies (TargetConstant there name symbol identifier s is constant f) none =
        absurd (constant_head_never names there name symbol is constant none)
    target_tallies {at} {value} (TargetGlobal there name binding s is) none =
        added_stored _ _ _ _ (global_weight key held name value at) (value_tallies key held s (values.StoreGlobal name value) (Some at))
    target_tallies {at} {value} (TargetMember there w fields parts pieces object k s t is d) none =
        added_same _ _ _ _ (ap (tally_of key) (member_target_held names is there at) ∙ sym (weighed_among names key parts))
        (added_behind _ _ _ _ (all_tallies d (member_target_clean is names there none))
        (unheld_tallies key held t (store_of object k value) (Some at) (store_unheld object k value)))
    target_tallies (TargetLost there w fields s is) none = absurd (lost_target_never names there w fields is none)
    target_tallies {at} {value} (TargetDefaulted there w fields target default s t u q p is d dt) none =
        let clean = defaulted_clean is names there none in
        let own : List Held = stored_at target there.span ++ held_in names target in
        added_both _ _ _ _ _ _
        (ap (tally_of key) (defaulted_whole_held names is there at) ∙ tally_append key own (held_in names default)
        ∙ ap (λ (n : ℕ). tally_of key own + n) (sym (weighed names key default)))
        (default_tallies key held s t q value there.span (tallied names key default) (moved_tallies d clean.0 clean.1))
        (target_tallies dt clean.2)
    target_tallies {at} {value}
        (TargetPattern there w of_object forced items rest pattern pieces later s t u v is ahead taken are l) none =
        let clean = taking_clean is ahead there none in
        let r = taken_held names taken clean.ahead clean.behind clean.last clean.plain in
        added_apart _ _ _ _ _
        (ap (tally_of key) (taking_held names is forced there items rest at (ahead_forced ahead)) ∙ r.held.sum key)
        (apart_tallies key held s u variables.Reassign pattern value at ((taken_stays taken).table ∙ (ahead_stays ahead).table))
        (later_tallies l r.clean)

    pub later_tallies : {later : List Later} {s t : State} → LoweredLater names later s t → AreClean (refusals_to names) later
        → times key t.table ≡ times key s.table + tally_of key (left_held names later)
    later_tallies (NoLater s) clean = omega arith
    later_tallies (NextLater value part later s t u p d ds) clean =
        let own : List Held = stored_in part ++ held_in names part in
        added_same _ _ _ _ (tally_append key own (left_held names later))
        (added_row _ _ _ _ _
        (added_same _ _ _ _ (ap (λ (l : List Held). tally_of key (l ++ held_in names part)) (sym (part_stored part)))
        (target_tallies d clean.0))
        (later_tallies ds clean.1))

    pub spine_tallies : {below : Bool} {e : Syntax} {s t : State} {p : Place} → LoweredSpine names below e s t p
        → refusals_by names (spine_place below) e ≡ [] → times key t.table ≡ times key s.table + tallied names key e
    spine_tallies (Outermost {below} e s t front p d) none = link_tallies d (outermost_clean d below none)
    spine_tallies (Asserted at e s t p d) none =
        added_inner _ _ _ _ refl (spine_tallies d (asserted_clean names at e none))
    spine_tallies (Broken at e s t p is d) none = absurd (broken_never names at e is none)

    pub link_tallies : {alternate : Option BlockId} {e : Syntax} {s t : State} {front : Front} {p : Place}
        → LoweredLink names alternate e s t front p → refusals_by names Below e ≡ []
        → times key t.table ≡ times key s.table + tallied names key e
    link_tallies (LinkedProperty alternate at w optional object rest parts pieces o k s t u is d ds) none =
        let clean = property_link_clean is names Below refl at optional object none in
        let loaded : State = with_value u (load_of o k) (Some at.span) in
        added_link _ _ _ _ _ _ _ _ _
        (link_tallied names key (Node at w (Then (Flag optional) (Then object rest))) object parts (link_held names is at optional object))
        (opened_tallies key held alternate s at.span) (front_tallies d clean.0) (all_tallies ds clean.1)
        (unheld_tallies key held u (load_of o k) (Some at.span) (load_unheld o k))
        (stored_tallies key held loaded (temporary s (Some at.span)) (temporary u (Some at.span)) at.span)
    link_tallies (LinkedPrivate alternate at optional object name o s t d) none =
        absurd (private_link_never names Below at (Flag optional) object (Said name) none)
    link_tallies (LinkedCall alternate at optional callee es pieces given front s t u d ds is) none =
        let clean = call_link_clean names Below refl at optional callee es none in
        let called : State = with_value u (call_of front given) (Some at.span) in
        added_call_link _ _ _ _ _ _ _ _ _ _ _
        (call_tallied names key (Node at word.Call (Then (Flag optional) (Then callee (Then (Listed es) End)))) callee es
        (call_word callee) at.span
        (call_link_held names at optional callee es))
        (weight key held (Some (call_word callee)) (call_of front given) at.span (link_word d given))
        (opened_tallies key held alternate s at.span) (front_tallies d clean.0) (all_tallies ds clean.1)
        (value_tallies key held u (call_of front given) (Some at.span))
        (stored_tallies key held called (temporary s (Some at.span)) (temporary u (Some at.span)) at.span)

    pub front_tallies : {alternate : BlockId} {is_called : Bool} {e : Syntax} {s t : State} {front : Front}
        → LoweredFront names alternate is_called e s t front → refusals_by names Below e ≡ []
        → times key t.table ≡ times key s.table + tallied names key e
    front_tallies (FrontLink alternate is_called e s t front p d) none = link_tallies d none
    front_tallies (FrontBroken alternate is_called at e s t p d) none = spine_tallies d none
    front_tallies (FrontMethod alternate at w fields parts pieces object k s t is d) none =
        added_same _ _ _ _ (row_tallied names key (Node at w fields) parts (member_held names is at))
        (added_behind _ _ _ _ (all_tallies d (method_front_clean is names at none))
        (unheld_tallies key held t (load_of object k) (Some at.span) (load_unheld object k)))
    front_tallies (FrontAlone alternate is_called e s t p other d) none = expression_tallies d (below_off names e none)

    pub all_tallies : {of_object : Bool} {es : Pieces} {s t : State} {pieces : List Piece}
        → LoweredParts names of_object es s t pieces → refusals_in names es ≡ []
        → times key t.table ≡ times key s.table + tallied_among names key es
    all_tallies (NoPart s) none = omega arith
    all_tallies (NextPart e es s t u p pieces d ds) none =
        let clean = row_clean names e es none in
        added_row _ _ _ _ _ (expression_tallies d clean.0) (all_tallies ds clean.1)
    all_tallies (NextSpread at e es s t u p pieces d ds) none =
        let clean = spread_row_clean names at e es none in
        added_row _ _ _ _ _ (added_inner _ _ _ _ refl (expression_tallies d clean.0)) (all_tallies ds clean.1)
    all_tallies (NextHole at es s u pieces ds) none = added_row _ _ _ _ _ (added_leaf _ _ _ refl (omega arith)) (all_tallies ds none)
    all_tallies (NextProperty at computed k e text es s t u p pieces is d ds) none =
        let clean = property_row_clean names at computed k e (46 ∷ text) es is none in
        added_row _ _ _ _ _
        (added_same _ _ _ _
        (same_tallied names key (Node at word.Prop (Then (Flag computed) (Then k (Then e End)))) e (property_held names at computed k e
        (46 ∷ text) is))
        (expression_tallies d clean.0))
        (all_tallies ds clean.1)
    all_tallies (NextComputed at k e es s r t u p q pieces is first d ds) none =
        let clean = computed_row_clean names at k e es (lowered_plain first).key none in
        added_computed _ _ _ _ _ _ _ (expression_tallies first clean.0) (expression_tallies d clean.1) (all_tallies ds clean.2)
    all_tallies (NextFraction at there e text es s t u p pieces is d ds) none =
        absurd (fraction_row_never names at there text e es is none)
    all_tallies (NextUnknown at computed k e es s u pieces is ds) none = absurd (unknown_row_never names at computed k e es is none)

    pub last_tallies : {es : Pieces} {s t : State} {p : Place} → LoweredLast names es s t p → refusals_in names es ≡ []
        → times key t.table ≡ times key s.table + tallied_among names key es
    last_tallies (LastPart e s t p d) none =
        added_row _ _ _ _ _ (expression_tallies d (row_clean names e End none).0) (omega arith)
    last_tallies (EarlierPart e next es s t u p q d ds) none =
        let clean = row_clean names e (Then next es) none in
        added_row _ _ _ _ _ (expression_tallies d clean.0) (last_tallies ds clean.1)
