-- Live calls, constructions, awaits and stores have an instruction in a block that is reached, where nothing was refused.
use Rattle.std.proofs.Common.{◌≡◌, ℕ, ◌++◌, Bool, true, false, List, [], ◌∷◌, Option, Some, None, codes, refl, sym, ap, ◌∙◌, subst}
use Rattle.std.proofs.Common.{append-nil}
use Rattle.rl_base.specs.declared.operator.UpdateOperator.{UpdateOperator}
use Rattle.rl_base.specs.declared.type_kind.TypeKind.{TypeKind}
use Rattle.rl_base.specs.declared.type_kind.TypeKind.TheVariants as types
use Rattle.rl_base.specs.declared.variable_kind.VariableKind.{VariableKind}
use Rattle.rl_base.specs.declared.variable_kind.VariableKind.TheVariants as kinds
use Rattle.rl_base.specs.Operators.{assignment_text, update_text}
use Rattle.rl_builder.specs.Temporaries.{temporary, with_value}
use Rattle.rl_hir.specs.declared.instruction.InstructionKind.{InstructionKind}
use Rattle.rl_hir.specs.declared.instruction.InstructionValue.TheVariants as values
use Rattle.rl_hir.specs.declared.instruction.InstructionKind.TheVariants as variables
use Rattle.rl_hir.specs.declared.instruction.Pattern.{Pattern}
use Rattle.rl_hir.specs.declared.instruction.PrimitiveValue.TheVariants as primitives
use Rattle.rl_lowered.proofs.Blocks.{all_blocks, blocks_cast, blocks_member, expression_blocks, front_blocks}
use Rattle.rl_lowered.proofs.Blocks.{last_blocks, later_blocks, target_blocks}
use Rattle.rl_lowered.proofs.ChainFrames.{linked_lives}
use Rattle.rl_lowered.proofs.BoundSlots.{AreClean}
use Rattle.rl_lowered.proofs.Clean.{assigned_pattern_clean, constant_head_never, moved_never}
use Rattle.rl_lowered.proofs.Clean.{assigned_clean, assigned_member_clean, branches_clean, cast_clean, compound_clean}
use Rattle.rl_lowered.proofs.Clean.{compound_member_clean, computed_row_clean, constant_assigned_never, constant_compound_never}
use Rattle.rl_lowered.proofs.Clean.{constant_update_never, first_none, form_clean, fraction_row_never, method_clean, outer_never}
use Rattle.rl_lowered.proofs.Clean.{private_assigned_never, private_clean, private_never, property_row_clean, refused_never, refusing_never}
use Rattle.rl_lowered.proofs.Clean.{row_clean, second_none, spread_row_clean, unknown_row_never, updated_member_clean, wrapper_clean}
use Rattle.rl_lowered.proofs.Common.{BlockId, End, InstructionValue, Names, Node, Piece, Pieces, Place, Said, Span, State, SymbolId, Syntax}
use Rattle.rl_lowered.proofs.Common.{Then}
use Rattle.rl_lowered.proofs.HeldItems.{assigned_pattern_held, defaulted_whole_held, left_held, member_target_held, nothing_behind}
use Rattle.rl_lowered.proofs.HeldItems.{part_stored, pattern_stored, stored_at, taken_held, taking_held}
use Rattle.rl_lowered.proofs.HeldParts.{call_link_held, link_held, link_word, member_held}
use Rattle.rl_lowered.proofs.HeldParts.{HeldBy, IsHeldAs, Unheld, assigned_held, assigned_member_held, cast_held, compound_held}
use Rattle.rl_lowered.proofs.HeldParts.{computed_held, form_held, form_span, form_stores, form_word, literal_held, method_held}
use Rattle.rl_lowered.proofs.HeldParts.{property_held, updated_held, wrapper_held}
use Rattle.rl_lowered.proofs.ItemBlocks.{Stays, ahead_stays, stays_passes, stays_then, taken_stays}
use Rattle.rl_lowered.proofs.LiveFrames.{lives_ahead, lives_first, lives_on, logical_lives, sequence_lives, ternary_lives, value_keyed}
use Rattle.rl_lowered.proofs.LiveFrames.{value_keyless}
use Rattle.rl_lowered.proofs.Meant.{private_compound_never, private_member_never}
use Rattle.rl_lowered.proofs.Plain.{lowered_plain}
use Rattle.rl_lowered.proofs.Refusals.{applied_plain}
use Rattle.rl_lowered.proofs.CleanChains.{asserted_clean, below_off, broken_never, call_link_clean, method_front_clean}
use Rattle.rl_lowered.proofs.CleanChains.{private_link_never, property_link_clean, spine_place}
use Rattle.rl_lowered.proofs.Rearranged.{Rearranged, all_rearranged}
use Rattle.rl_lowered.proofs.Spines.{outermost_clean}
use Rattle.rl_lowered.proofs.TargetForms.{ahead_forced, defaulted_clean, lost_target_never, member_target_clean, taking_clean}
use Rattle.rl_lowered.specs.Forms.{Front, MemberKey, call_of, load_of, store_of, tested_front}
use Rattle.rl_lowered.specs.Forms.{type_of, typed}
use Rattle.rl_lowered.specs.Items.{Later, destructured, variable_at}
use Rattle.rl_lowered.specs.Lowered.{Asserted, Broken, Chain, FrontAlone, FrontBroken, FrontLink, FrontMethod, LinkedCall}
use Rattle.rl_lowered.specs.Lowered.{LinkedPrivate, LinkedProperty, LoweredFront, LoweredLink, LoweredSpine, Outermost}
use Rattle.rl_lowered.specs.Lowered.{AssignedPattern, LoweredLater, LoweredMoved, LoweredTarget, Moved, NextLater, NoLater, Stays as Fixed}
use Rattle.rl_lowered.specs.Lowered.{TargetConstant, TargetDefaulted, TargetGlobal, TargetLost, TargetMember, TargetPattern, TargetVariable}
use Rattle.rl_lowered.specs.Lowered.{Asked, AssignedConstant, AssignedGlobal, AssignedMember, AssignedPrivate, AssignedVariable, Cast}
use Rattle.rl_lowered.specs.Lowered.{CompoundConstant, CompoundGlobal, CompoundMember, CompoundPrivate, CompoundVariable, Conditional}
use Rattle.rl_lowered.specs.Lowered.{EarlierPart, Global, LastPart, Literal, Logical, Lowered, LoweredLast}
use Rattle.rl_lowered.specs.Lowered.{LoweredParts, Method, NextComputed, NextFraction, NextHole, NextPart}
use Rattle.rl_lowered.specs.Lowered.{NextProperty, NextSpread, NextUnknown, NoPart, Object, Private, Refused, RefusedBefore}
use Rattle.rl_lowered.specs.Lowered.{RefusedBehind, RefusedGlobal, Same, Sequence, UpdatedConstant, UpdatedMember, UpdatedVariable}
use Rattle.rl_lowered.specs.Lowered.{Variable, assigned_to, declaring, member_computed, member_loaded, member_one, member_stored}
use Rattle.rl_lowered.specs.Lowered.{member_updated, name_computed, name_stored, update_of, value_span}
use Rattle.rl_lowered.specs.Named.{found}
use Rattle.rl_lowered.specs.Promised.{held_by, held_of}
use Rattle.rl_optional_frames.proofs.Lives.{default_lives}
use Rattle.rl_optional_frames.specs.Frames.{default_at, default_ended, link_at, link_objected}
use Rattle.rl_promises.specs.Chains.{Below, Top}
use Rattle.rl_promises.specs.Live.{Held, held_among, held_as, held_in}
use Rattle.rl_promises.specs.Moved.{said_of_moved}
use Rattle.rl_promises.specs.Rows.{refusals, refusals_by, refusals_in, refusals_to}
use Rattle.rl_promises.specs.Tallies.{call_word, held_word, stored_in, stores_at}
use Rattle.rl_runs.proofs.Living.{lives_none, lives_refl, lives_then}
use Rattle.rl_runs.proofs.Moves.{extends_resolved, extends_then, extends_value}
use Rattle.rl_runs.specs.Blocks.{Lives, Stands}
use Rattle.rl_runs.specs.Facts.{Extends}
use Rattle.rl_syntax.specs.declared.word.Word.TheVariants as word
use Rattle.rl_syntax.specs.Syntax.{Flag, span_of}

-- The instruction of a value, and what its node holds itself.
computed_lives : (word : Option (List ℕ)) (s : State) (v : InstructionValue) (span : Span) → IsHeldAs word v
    → Lives held_by (held_as word span) true s (with_value s v (Some span))
computed_lives word s v span (Unheld is unheld) =
    subst (λ (w : Option (List ℕ)). Lives held_by (held_as w span) true s (with_value s v (Some span))) (sym is)
    (value_keyless held_by s v (Some span))
computed_lives word s v span (HeldBy text is counted) =
    subst (λ (w : Option (List ℕ)). Lives held_by (held_as w span) true s (with_value s v (Some span))) (sym is)
    (value_keyed held_by s v (Some span) (record { word = text; span = span })
    (ap (λ (w : Option (List ℕ)). held_of w (Some span)) counted))

none_behind_three : (l m k : List Held) → l ++ (m ++ (k ++ [])) ≡ l ++ (m ++ k)
none_behind_three l m k = ap (λ (i : List Held). l ++ i) (nothing_behind m k)

-- Equal instructions.
pub lives_same : {live others : List Held} {completes : Bool} {s t : State} → others ≡ live → Lives held_by live completes s t
    → Lives held_by others completes s t
lives_same {completes} {s} {t} is l = subst (λ (keys : List Held). Lives held_by keys completes s t) (sym is) l

pub falls_same : {live : List Held} {falls other : Bool} {s t : State} → other ≡ falls → Lives held_by live falls s t
    → Lives held_by live other s t
falls_same {live} {falls} {other} {s} {t} is l = subst (λ (b : Bool). Lives held_by live b s t) (sym is) l

-- Moves without live instructions behind a part, and before it.

pub lives_behind : {live : List Held} (s : State) {t u : State} → Extends t u → Lives held_by [] true t u → Lives held_by live true s t
    → Lives held_by live true s u
lives_behind s g m l = lives_on held_by s g (m.onward refl) l

typed_lives : (t : State) (k : TypeKind) (v : InstructionValue) (span : Option Span)
    → Lives held_by [] true t (with_value (typed t k) v span)
typed_lives t types.Array v span = value_keyless held_by t v span
typed_lives t types.Primitive v span = value_keyless held_by t v span
typed_lives t types.Other v span =
    let l = value_keyless held_by (typed t types.Other) v span in record { onward = l.onward; stands = l.stands }

pub found_lives : (names : Names) (s : State) (symbol : SymbolId) (at : Span) (v : InstructionValue) (span : Option Span)
    → Lives held_by [] true s (with_value (found names s symbol at) v span)
found_lives names s symbol at v span =
    let l = value_keyless held_by (found names s symbol at) v span in record { onward = l.onward; stands = l.stands }

-- The store to a name, behind its look-up.
stored_lives : (names : Names) (s : State) (symbol : SymbolId) (there own : Span) (identifier : ℕ) (value : Place) (span : Span)
    → Lives held_by (record { word = codes "storelocal"; span = span } ∷ []) true s
    (with_value (found names s symbol there) (assigned_to identifier own value) (Some span))
stored_lives names s symbol there own identifier value span =
    let l = value_keyed held_by (found names s symbol there) (assigned_to identifier own value) (Some span)
    (record { word = codes "storelocal"; span = span }) refl in
    record { onward = l.onward; stands = l.stands }

-- A part, and then the store to a name.
assigned_lives : {live : List Held} (s t u : State) (span : Span) → Extends t u → Lives held_by live true s t
    → Lives held_by (record { word = codes "storelocal"; span = span } ∷ []) true t u
    → Lives held_by (record { word = codes "storelocal"; span = span } ∷ live) true s u
assigned_lives {live} s t u span g first store =
    lives_ahead held_by s t u live (record { word = codes "storelocal"; span = span } ∷ []) g first store

pub declaring_lives : {live : List Held} (s t : State) (k : VariableKind) (at : Span) → Lives held_by live true (declaring s k at) t
    → Lives held_by live true s t
declaring_lives s t kinds.Var at l = record { onward = l.onward; stands = l.stands }
declaring_lives s t _ at l = l

member_lives : (t : State) (object : Place) (key : MemberKey) (operator : UpdateOperator) (there : Span)
    → Lives held_by [] true t (member_stored t object key operator there)
member_lives t object key operator there =
    let loaded : State = member_loaded t object key there in
    let one : State = member_one t object key there in
    let updated : State = member_updated t object key operator there in
    let last : InstructionValue = store_of object key (temporary one (Some there)) in
    lives_behind t (extends_value updated last (Some there)) (value_keyless held_by updated last (Some there))
    (lives_behind t (extends_value one _ (Some there)) (value_keyless held_by one _ (Some there))
    (lives_behind t (extends_value loaded (values.Primitive (primitives.Number 1)) None)
    (value_keyless held_by loaded (values.Primitive (primitives.Number 1)) None)
    (value_keyless held_by t (load_of object key) (Some there))))

-- Nodes in another order.
lives_rearranged : {first second : List Held} {completes : Bool} {s t : State} → Rearranged first second
    → Lives held_by first completes s t → Lives held_by second completes s t
lives_rearranged r l = record {
  onward = l.onward;
  stands = λ c cover entry led. all_rearranged (Stands held_by c entry) r (l.stands c cover entry led);
}

-- The instruction that takes a value apart, behind the items of a pattern.
pub apart_lives : (s t : State) (kind : InstructionKind) (pattern : Pattern) (value : Place) (at : Span) → Stays s t
    → Lives held_by [] true s (with_value t (destructured kind pattern value) (Some at))
apart_lives s t kind pattern value at stays =
    let v : InstructionValue = destructured kind pattern value in
    lives_behind s (extends_value t v (Some at)) (value_keyless held_by t v (Some at))
    (lives_none held_by s t true (λ on. stays_passes stays))

mutual
  pub expression_lives : {names : Names} {e : Syntax} {s t : State} {p : Place} → Lowered names e s t p → refusals names e ≡ []
      → Lives held_by (held_in names e) true s t
  expression_lives {names} (Literal at w fields p s is) none =
      lives_same (literal_held names is at) (value_keyless held_by s (values.Primitive p) (Some at.span))
  expression_lives {names} (Refused at w fields r s is) none = absurd (refused_never names at is none)
  expression_lives {names} (RefusedBefore at w fields parts r pieces s t is d) none = absurd (refusing_never names at is none)
  expression_lives {names} (RefusedBehind at object name s t p d) none =
      absurd (private_never names at (Flag false) object (Said name) none)
  expression_lives {names} (Private at w fields e s t p is d) none = absurd (private_member_never is d (private_clean is names at none))
  expression_lives {names} (Variable at name symbol identifier s means f) none = found_lives names s symbol at.span _ (Some at.span)
  expression_lives {names} (UpdatedVariable at there name symbol identifier operator prefix s means mutable f g) none =
      let l = found_lives names (found names s symbol there.span) symbol there.span
      (update_of prefix operator (record { identifier = record { 0 = identifier }; span = Some there.span })) (Some at.span) in
      record { onward = l.onward; stands = l.stands }
  expression_lives {names} (UpdatedConstant at there name symbol identifier operator prefix s means constant f) none =
      absurd (constant_update_never names at there operator prefix name symbol means constant none)
  expression_lives {names} (UpdatedMember at there w fields parts pieces object key operator prefix s t is d) none =
      let text : List ℕ = update_text operator in
      lives_same (updated_held names is at there text prefix)
      (lives_behind s (blocks_member t object key operator there.span).extends (member_lives t object key operator there.span)
      (all_lives d (updated_member_clean is names at there (Said text) (Flag prefix) none)))
  expression_lives {names} (AssignedVariable at there name right symbol identifier s t p is mutable d f) none =
      let stored : State = with_value (found names t symbol there.span) (assigned_to identifier there.span p) (Some there.span) in
      lives_same (assigned_held names at there name right)
      (assigned_lives s t stored there.span
      (extends_then (extends_resolved t (names.name symbol.0) symbol.0 (Some there.span) f.agree)
      (extends_value (found names t symbol there.span) (assigned_to identifier there.span p) (Some there.span)))
      (expression_lives d (assigned_clean names at (Node there word.Id (Then (Said name) End)) right refl none).0)
      (stored_lives names t symbol there.span there.span identifier p there.span))
  expression_lives {names} (AssignedConstant at there name right symbol identifier s t p is constant d f) none =
      absurd (constant_assigned_never names at there name right symbol is constant none)
  expression_lives {names} (AssignedGlobal at there name right binding s t p is d) none =
      lives_same (assigned_held names at there name right)
      (assigned_lives s t (with_value t (values.StoreGlobal name p) (Some there.span)) there.span
      (extends_value t (values.StoreGlobal name p) (Some there.span))
      (expression_lives d (assigned_clean names at (Node there word.Id (Then (Said name) End)) right refl none).0)
      (value_keyed held_by t (values.StoreGlobal name p) (Some there.span) (record { word = codes "storelocal"; span = there.span }) refl))
  expression_lives {names} (AssignedMember at there w fields parts pieces object key right s t u p is d ds) none =
      let clean = assigned_member_clean is names at there right none in
      lives_same (assigned_member_held names is at there (codes "=") right)
      (lives_behind s (extends_value u (store_of object key p) (Some there.span))
      (value_keyless held_by u (store_of object key p) (Some there.span))
      (lives_ahead held_by s t u (held_in names right) (held_among names parts) (all_blocks ds).extends (expression_lives d clean.0)
      (all_lives ds clean.1)))
  expression_lives {names} (AssignedPrivate at there object name right s t u p q d ds) none =
      absurd (private_assigned_never names at there object name right none)
  expression_lives {names} (AssignedPattern at there w fields right s t u p q is d dt) none =
      let target : Syntax = Node there w fields in
      let clean = assigned_pattern_clean names at target right is none in
      lives_same (assigned_pattern_held names at target right is)
      (lives_ahead held_by s t u (held_in names right) (held_in names target) (target_blocks dt).extends (expression_lives d clean.0)
      (lives_same (sym (ap (λ (l : List Held). l ++ held_in names target) (pattern_stored target there.span is)))
      (target_lives dt clean.1)))
  expression_lives {names} (CompoundVariable at there name operator applied right symbol identifier s t u q p is mutable applies dq d f)
      none =
      let clean = compound_clean names at (Node there word.Id (Then (Said name) End)) right operator applied applies refl none in
      let computed : State = name_computed u applied q p at.span in
      let stored : State = name_stored names u applied q p at.span there.span symbol identifier in
      lives_same (compound_held names at there name (assignment_text operator) right (applied_plain operator applied applies).0)
      (lives_behind s (extends_value stored (values.LoadLocal (variable_at identifier there.span)) (Some at.span))
      (value_keyless held_by stored (values.LoadLocal (variable_at identifier there.span)) (Some at.span))
      (assigned_lives s computed stored at.span
      (extends_then (extends_resolved computed (names.name symbol.0) symbol.0 (Some there.span) f.agree)
      (extends_value (found names computed symbol there.span) (assigned_to identifier there.span (temporary u (Some at.span)))
      (Some at.span)))
      (lives_behind s (extends_value u (values.BinaryExpression applied q p) (Some at.span))
      (value_keyless held_by u (values.BinaryExpression applied q p) (Some at.span))
      (lives_then held_by s t u [] (held_in names right) true true (expression_blocks d).extends refl (expression_lives dq clean.0)
      (expression_lives d clean.1)))
      (stored_lives names computed symbol there.span there.span identifier (temporary u (Some at.span)) at.span)))
  expression_lives {names} (CompoundConstant at there name operator applied right symbol identifier s t u q p is constant applies dq d f)
      none =
      absurd (constant_compound_never names at there name right operator applied applies symbol is constant none)
  expression_lives {names} (CompoundGlobal at there name operator applied right binding s t u q p is applies dq d) none =
      let clean = compound_clean names at (Node there word.Id (Then (Said name) End)) right operator applied applies refl none in
      let computed : State = name_computed u applied q p at.span in
      let store : InstructionValue = values.StoreGlobal name (temporary u (Some at.span)) in
      lives_same (compound_held names at there name (assignment_text operator) right (applied_plain operator applied applies).0)
      (assigned_lives s computed (with_value computed store (Some at.span)) at.span (extends_value computed store (Some at.span))
      (lives_behind s (extends_value u (values.BinaryExpression applied q p) (Some at.span))
      (value_keyless held_by u (values.BinaryExpression applied q p) (Some at.span))
      (lives_then held_by s t u [] (held_in names right) true true (expression_blocks d).extends refl (expression_lives dq clean.0)
      (expression_lives d clean.1)))
      (value_keyed held_by computed store (Some at.span) (record { word = codes "storelocal"; span = at.span }) refl))
  expression_lives {names} (CompoundMember at there w fields parts pieces object key operator applied right s t u p is applies ds d) none =
      let clean = compound_member_clean is names at there right operator applied applies none in
      let loaded : State = with_value t (load_of object key) (Some there.span) in
      let computed : State = member_computed t u applied p there.span in
      let store : InstructionValue = store_of object key (temporary u (Some there.span)) in
      lives_same (assigned_member_held names is at there (assignment_text operator) right)
      (lives_behind s (extends_value computed store (Some there.span)) (value_keyless held_by computed store (Some there.span))
      (lives_behind s (extends_value u (values.BinaryExpression applied (temporary t (Some there.span)) p) (Some there.span))
      (value_keyless held_by u (values.BinaryExpression applied (temporary t (Some there.span)) p) (Some there.span))
      (lives_then held_by s loaded u (held_among names parts) (held_in names right) true true (expression_blocks d).extends refl
      (lives_behind s (extends_value t (load_of object key) (Some there.span))
      (value_keyless held_by t (load_of object key) (Some there.span)) (all_lives ds clean.0))
      (expression_lives d clean.1))))
  expression_lives {names} (CompoundPrivate at there fields operator applied right s t u q p applies dq d) none =
      absurd (private_compound_never at there fields right operator applied applies dq none)
  expression_lives {names} (Method at there w fields parts es pieces given_pieces object key given s t u is d ds given_are) none =
      let clean = method_clean is names at there es none in
      let loaded : State = with_value t (load_of object key) (Some there.span) in
      let call : InstructionValue =
      values.MethodCall (record { receiver = object; property = temporary t (Some there.span); arguments = given }) in
      lives_same (method_held names is at there es)
      (lives_ahead held_by s u _ (held_among names parts ++ held_among names es) (record { word = codes "methodcall"; span = at.span } ∷ [])
      (extends_value u call (Some at.span))
      (lives_then held_by s loaded u (held_among names parts) (held_among names es) true true (all_blocks ds).extends refl
      (lives_behind s (extends_value t (load_of object key) (Some there.span))
      (value_keyless held_by t (load_of object key) (Some there.span)) (all_lives d clean.0))
      (all_lives ds clean.1))
      (value_keyed held_by u call (Some at.span) (record { word = codes "methodcall"; span = at.span }) refl))
  expression_lives {names} (Cast at there w fields e type k s t p is annotated d) none =
      let v : InstructionValue = values.TypeCastExpression p (type_of t k) (Some there.span) in
      lives_same (cast_held names is annotated at)
      (lives_behind s (extends_then (blocks_cast t k).extends (extends_value (typed t k) v (Some at.span)))
      (typed_lives t k v (Some at.span)) (expression_lives d (cast_clean is names at none)))
  expression_lives (Global at name binding s means other) none = value_keyless held_by s (values.LoadGlobal binding) (Some at.span)
  expression_lives {names} (RefusedGlobal at name binding s means is) none = absurd (outer_never names at name binding means is none)
  expression_lives {names} (Same at w fields e s t p is d) none =
      lives_same (wrapper_held names is at) (expression_lives d (wrapper_clean is names at none))
  expression_lives {names} (Asked at w fields parts pieces v s t form d) none =
      let own : List Held = held_as (held_word w fields) at.span in
      lives_same
      (ap (λ (span : Span). (held_as (held_word w fields) span ++ stores_at names w fields) ++ held_among names fields)
      (form_span form at.span)
      ∙ ap (λ (l : List Held). (own ++ l) ++ held_among names fields) (form_stores names form)
      ∙ ap (λ (l : List Held). l ++ held_among names fields) (append-nil own)
      ∙ ap (λ (l : List Held). own ++ l) (form_held names form))
      (lives_ahead held_by s t _ (held_among names parts) (held_as (held_word w fields) at.span) (extends_value t v (Some at.span))
      (all_lives d (form_clean form names at none)) (computed_lives (held_word w fields) t v at.span (form_word form)))
  expression_lives {names} (Object at es pieces properties s t is d) none =
      let v : InstructionValue = values.ObjectExpression properties in
      lives_same (append-nil (held_among names es))
      (lives_behind s (extends_value t v (Some at.span)) (value_keyless held_by t v (Some at.span))
      (all_lives d (first_none (refusals_in names es) [] none)))
  expression_lives {names} (Logical at operator left right s s2 s3 l r dr dl) none =
      lives_same (nothing_behind (held_in names left) (held_in names right))
      (logical_lives held_by s s2 s3 operator r l at.span (span_of left) (value_span r right) (held_in names left) (held_in names right)
      (expression_blocks dr) (expression_blocks dl)
      (expression_lives dr (first_none (refusals names right) (refusals names left) none))
      (expression_lives dl (second_none (refusals names right) (refusals names left) none)))
  expression_lives {names} (Conditional at test consequent alternate s s2 s3 s4 c a p dc da dt) none =
      let clean = branches_clean names consequent alternate test none in
      lives_same (none_behind_three (held_in names test) (held_in names consequent) (held_in names alternate))
      (ternary_lives held_by s s2 s3 s4 c a p at.span (span_of consequent) (span_of alternate) (held_in names test)
      (held_in names consequent)
      (held_in names alternate) (expression_blocks da) (expression_blocks dt) (expression_lives dc clean.0) (expression_lives da clean.1)
      (expression_lives dt clean.2))
  expression_lives {names} (Sequence at e es s s2 p d) none =
      lives_same (append-nil (held_in names e ++ held_among names es))
      (sequence_lives held_by s s2 p at.span at.span (held_in names e ++ held_among names es)
      (last_lives d (first_none (refusals_in names (Then e es)) [] none)))
  expression_lives {names} (Chain at e s t p d) none =
      lives_same (append-nil (held_in names e)) (spine_lives d (first_none (refusals_by names Top e) [] none))

  pub moved_lives : {names : Names} {e : Syntax} {s t : State} {p : Place} → LoweredMoved names e s t p → said_of_moved names e ≡ []
      → refusals names e ≡ [] → Lives held_by (held_in names e) true s t
  moved_lives (Fixed e s t p is d) unsaid none = expression_lives d none
  moved_lives {names} (Moved at w fields s t p is d) unsaid none = absurd (moved_never names at w fields is unsaid)

  -- The store of a target, and what it holds.
  pub target_lives : {names : Names} {at : Span} {value : Place} {e : Syntax} {s t : State} {p : Place}
      → LoweredTarget names at value e s t p → refusals_to names e ≡ [] → Lives held_by (stored_at e at ++ held_in names e) true s t
  target_lives {names} {at} {value} (TargetVariable there name symbol identifier s is mutable f) none =
      stored_lives names s symbol there.span at identifier value at
  target_lives {names} (TargetConstant there name symbol identifier s is constant f) none =
      absurd (constant_head_never names there name symbol is constant none)
  target_lives {at} {value} (TargetGlobal there name binding s is) none =
      value_keyed held_by s (values.StoreGlobal name value) (Some at) (record { word = codes "storelocal"; span = at }) refl
  target_lives {names} {at} {value} (TargetMember there w fields parts pieces object key s t is d) none =
      lives_same (member_target_held names is there at)
      (lives_behind s (extends_value t (store_of object key value) (Some at)) (value_keyless held_by t (store_of object key value)
      (Some at))
      (all_lives d (member_target_clean is names there none)))
  target_lives {names} (TargetLost there w fields s is) none = absurd (lost_target_never names there w fields is none)
  target_lives {names} {at} {value} (TargetDefaulted there w fields target default s t u q p is d dt) none =
      let clean = defaulted_clean is names there none in
      lives_same (defaulted_whole_held names is there at)
      (lives_ahead held_by s (default_ended (default_at s there.span value) t q) u (held_in names default)
      (stored_at target there.span ++ held_in names target) (target_blocks dt).extends
      (default_lives held_by s t q value there.span (held_in names default) true (moved_lives d clean.0 clean.1))
      (target_lives dt clean.2))
  target_lives {names} {at} {value}
      (TargetPattern there w of_object forced items rest pattern pieces later s t u v is ahead taken are l) none =
      let clean = taking_clean is ahead there none in
      let r = taken_held names taken clean.ahead clean.behind clean.last clean.plain in
      lives_same (taking_held names is forced there items rest at (ahead_forced ahead))
      (lives_rearranged r.held
      (lives_then held_by s (with_value u (destructured variables.Reassign pattern value) (Some at)) v [] (left_held names later) true true
      (later_blocks l).extends refl
      (apart_lives s u variables.Reassign pattern value at (stays_then s t u (ahead_stays ahead) (taken_stays taken)))
      (later_lives l r.clean)))

  pub later_lives : {names : Names} {later : List Later} {s t : State} → LoweredLater names later s t → AreClean (refusals_to names) later
      → Lives held_by (left_held names later) true s t
  later_lives (NoLater s) clean = lives_refl held_by s
  later_lives {names} (NextLater value part later s t u p d ds) clean =
      lives_then held_by s t u (stored_in part ++ held_in names part) (left_held names later) true true (later_blocks ds).extends refl
      (lives_same (sym (ap (λ (l : List Held). l ++ held_in names part) (part_stored part))) (target_lives d clean.0))
      (later_lives ds clean.1)

  pub spine_lives : {names : Names} {below : Bool} {e : Syntax} {s t : State} {p : Place} → LoweredSpine names below e s t p
      → refusals_by names (spine_place below) e ≡ [] → Lives held_by (held_in names e) true s t
  spine_lives (Outermost {below} e s t front p d) none = link_lives d (outermost_clean d below none)
  spine_lives {names} (Asserted at e s t p d) none =
      lives_same (append-nil (held_in names e)) (spine_lives d (asserted_clean names at e none))
  spine_lives {names} (Broken at e s t p is d) none = absurd (broken_never names at e is none)

  pub link_lives : {names : Names} {alternate : Option BlockId} {e : Syntax} {s t : State} {front : Front} {p : Place}
      → LoweredLink names alternate e s t front p → refusals_by names Below e ≡ [] → Lives held_by (held_in names e) true s t
  link_lives {names} (LinkedProperty alternate at w optional object rest parts pieces o key s t u is d ds) none =
      let clean = property_link_clean is names Below refl at optional object none in
      let opened : State = link_objected (link_at s at.span optional alternate) t o in
      let loaded : State = with_value u (load_of o key) (Some at.span) in
      let g : Extends u loaded = extends_value u (load_of o key) (Some at.span) in
      lives_same (link_held names is at optional object)
      (linked_lives held_by alternate s t loaded at.span optional o (temporary u (Some at.span)) (held_in names object)
      (held_among names parts)
      (front_blocks d).extends (extends_then (all_blocks ds).extends g) (front_lives d clean.0)
      (lives_behind opened g (value_keyless held_by u (load_of o key) (Some at.span)) (all_lives ds clean.1)))
  link_lives {names} (LinkedPrivate alternate at optional object name o s t d) none =
      absurd (private_link_never names Below at (Flag optional) object (Said name) none)
  link_lives {names} (LinkedCall alternate at optional callee es pieces given front s t u d ds is) none =
      let clean = call_link_clean names Below refl at optional callee es none in
      let call : Held = record { word = call_word callee; span = at.span } in
      let opened : State = link_objected (link_at s at.span optional alternate) t (tested_front front) in
      let called : State = with_value u (call_of front given) (Some at.span) in
      let g : Extends u called = extends_value u (call_of front given) (Some at.span) in
      lives_same (call_link_held names at optional callee es)
      (lives_first held_by s _ (held_in names callee) (held_among names es) call
      (linked_lives held_by alternate s t called at.span optional (tested_front front) (temporary u (Some at.span)) (held_in names callee)
      (call ∷ held_among names es) (front_blocks d).extends (extends_then (all_blocks ds).extends g) (front_lives d clean.0)
      (lives_ahead held_by opened u called (held_among names es) (call ∷ []) g (all_lives ds clean.1)
      (computed_lives (Some (call_word callee)) u (call_of front given) at.span (link_word d given)))))

  pub front_lives : {names : Names} {alternate : BlockId} {is_called : Bool} {e : Syntax} {s t : State} {front : Front}
      → LoweredFront names alternate is_called e s t front → refusals_by names Below e ≡ [] → Lives held_by (held_in names e) true s t
  front_lives (FrontLink alternate is_called e s t front p d) none = link_lives d none
  front_lives (FrontBroken alternate is_called at e s t p d) none = spine_lives d none
  front_lives {names} (FrontMethod alternate at w fields parts pieces object key s t is d) none =
      lives_same (member_held names is at)
      (lives_behind s (extends_value t (load_of object key) (Some at.span)) (value_keyless held_by t (load_of object key) (Some at.span))
      (all_lives d (method_front_clean is names at none)))
  front_lives {names} (FrontAlone alternate is_called e s t p other d) none = expression_lives d (below_off names e none)

  pub all_lives : {names : Names} {of_object : Bool} {es : Pieces} {s t : State} {pieces : List Piece}
      → LoweredParts names of_object es s t pieces → refusals_in names es ≡ [] → Lives held_by (held_among names es) true s t
  all_lives (NoPart s) none = lives_refl held_by s
  all_lives {names} (NextPart e es s t u p pieces d ds) none =
      let clean = row_clean names e es none in
      lives_then held_by s t u (held_in names e) (held_among names es) true true (all_blocks ds).extends refl (expression_lives d clean.0)
      (all_lives ds clean.1)
  all_lives {names} (NextSpread at e es s t u p pieces d ds) none =
      let clean = spread_row_clean names at e es none in
      lives_same (ap (λ (l : List Held). l ++ held_among names es) (append-nil (held_in names e)))
      (lives_then held_by s t u (held_in names e) (held_among names es) true true (all_blocks ds).extends refl (expression_lives d clean.0)
      (all_lives ds clean.1))
  all_lives (NextHole at es s u pieces ds) none = all_lives ds none
  all_lives {names} (NextProperty at computed key e text es s t u p pieces is d ds) none =
      let clean = property_row_clean names at computed key e (46 ∷ text) es is none in
      lives_same (ap (λ (l : List Held). l ++ held_among names es) (property_held names at computed key e (46 ∷ text) is))
      (lives_then held_by s t u (held_in names e) (held_among names es) true true (all_blocks ds).extends refl (expression_lives d clean.0)
      (all_lives ds clean.1))
  all_lives {names} (NextComputed at key e es s r t u p q pieces is first d ds) none =
      let clean = computed_row_clean names at key e es (lowered_plain first).key none in
      lives_same (ap (λ (l : List Held). l ++ held_among names es) (computed_held names at key e))
      (lives_then held_by s t u (held_in names key ++ held_in names e) (held_among names es) true true (all_blocks ds).extends refl
      (lives_then held_by s r t (held_in names key) (held_in names e) true true (expression_blocks d).extends refl
      (expression_lives first clean.0)
      (expression_lives d clean.1))
      (all_lives ds clean.2))
  all_lives {names} (NextFraction at there e text es s t u p pieces is d ds) none =
      absurd (fraction_row_never names at there text e es is none)
  all_lives {names} (NextUnknown at computed key e es s u pieces is ds) none = absurd (unknown_row_never names at computed key e es is none)

  pub last_lives : {names : Names} {es : Pieces} {s t : State} {p : Place} → LoweredLast names es s t p → refusals_in names es ≡ []
      → Lives held_by (held_among names es) true s t
  last_lives {names} (LastPart e s t p d) none =
      lives_same (append-nil (held_in names e)) (expression_lives d (row_clean names e End none).0)
  last_lives {names} (EarlierPart e next es s t u p q d ds) none =
      let clean = row_clean names e (Then next es) none in
      lives_then held_by s t u (held_in names e) (held_in names next ++ held_among names es) true true (last_blocks ds).extends refl
      (expression_lives d clean.0) (last_lives ds clean.1)
