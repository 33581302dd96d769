-- Parts that are evaluated under a handler lead to it.
use Rattle.std.proofs.Common.{◌≡◌, ℕ, ◌+◌, ◌-◌, ◌||◌, ◌&&◌, Bool, true, false, List, [], ◌∷◌, length, take, Option, Some, None, refl, sym}
use Rattle.std.proofs.Common.{ap, ◌∙◌, subst}
use Rattle.std.specs.List.{list_any}
use Rattle.rl_base.specs.declared.operator.LogicalOperator.{LogicalOperator}
use Rattle.rl_base.specs.declared.row.Row.TheVariants as row
use Rattle.rl_base.specs.declared.variable_kind.VariableKind.{VariableKind}
use Rattle.rl_base.specs.declared.variable_kind.VariableKind.TheVariants as kinds
use Rattle.rl_base.specs.Diagnostics.{diagnostic_at}
use Rattle.rl_builder.specs.Builder.{innermost, maybe_throw, new_block, plainly_pushed, pushed, pushed_under, recorded}
use Rattle.rl_builder.specs.Builder.{reserved, with_temporary}
use Rattle.rl_builder.specs.declared.blocks.WipBlock.{WipBlock}
use Rattle.rl_builder.specs.Temporaries.{temporary, unordered, with_value}
use Rattle.rl_frames.proofs.ForFronts.{init_comes}
use Rattle.rl_frames.proofs.ForLives.{led_test, met as for_met}
use Rattle.rl_frames.proofs.ForStates.{for_front, for_tests, update_extends}
use Rattle.rl_frames.proofs.LoopLives.{do_goes_on, loop_into, met, while_into}
use Rattle.rl_frames.proofs.LoopStates.{loop_in}
use Rattle.rl_frames.proofs.RoundStates.{init_extends, last_extends}
use Rattle.rl_frames.specs.Frames.{logical_after, logical_at, logical_ended, logical_righted, sequence_at, sequence_ended, ternary_after}
use Rattle.rl_frames.specs.Frames.{ternary_alternated, ternary_at, ternary_consequent, ternary_ended, ternary_parted}
use Rattle.rl_frames.specs.Parts.{chain_begun, chain_reserved, link_begun, link_end, link_finished, link_object}
use Rattle.rl_frames.specs.Parts.{do_while_body, do_while_end, for_begun, for_body, for_finished, for_update, forin_end, forin_init}
use Rattle.rl_frames.specs.Parts.{forin_next, forof_end, forof_init, forof_next, forof_opened, forof_test, if_end, if_finished, label_begun}
use Rattle.rl_frames.specs.Parts.{label_end, label_finished, loads, logical_begun, logical_end, logical_entered, logical_left}
use Rattle.rl_frames.specs.Parts.{logical_place, rounds_body, rounds_finished, sequence_begun, sequence_end, sequence_place, ternary_begun}
use Rattle.rl_frames.specs.Parts.{ternary_end, ternary_place, while_begun, while_body, while_finished}
use Rattle.rl_frames.specs.SwitchParts.{switch_end, switch_finished}
use Rattle.rl_hir.specs.Blocks.{same_id}
use Rattle.rl_hir.specs.declared.function.BlockKind.{BlockKind}
use Rattle.rl_hir.specs.declared.function.BlockKind.TheVariants as block
use Rattle.rl_hir.specs.declared.instruction.Instruction.{Instruction}
use Rattle.rl_hir.specs.declared.instruction.InstructionKind.{InstructionKind}
use Rattle.rl_hir.specs.declared.instruction.InstructionKind.TheVariants as variables
use Rattle.rl_hir.specs.declared.instruction.InstructionValue.TheVariants as values
use Rattle.rl_hir.specs.declared.instruction.PrimitiveValue.TheVariants as primitives
use Rattle.rl_hir.specs.declared.terminal.Case.{Case}
use Rattle.rl_hir.specs.declared.terminal.GotoVariant.TheVariants as gotos
use Rattle.rl_hir.specs.declared.terminal.Terminal.{Terminal}
use Rattle.rl_lowered.proofs.Blocks.{all_blocks, all_passes, blocks_assigned, blocks_cast, blocks_constant, blocks_found_value}
use Rattle.rl_lowered.proofs.Blocks.{blocks_noted_value, blocks_reloaded, declarators_blocks, expression_blocks, last_blocks}
use Rattle.rl_lowered.proofs.Blocks.{pattern_blocks, target_blocks}
use Rattle.rl_lowered.proofs.ChainFrames.{linked_state, opened_handlers}
use Rattle.rl_lowered.proofs.Common.{BlockId, End, InstructionValue, Names, Pieces, Place, Span, State, Syntax, Then}
use Rattle.rl_lowered.specs.Forms.{Front, call_of, load_of, store_of, tested_front, typed}
use Rattle.rl_lowered.specs.Lowered.{Lowered, LoweredDeclarators, LoweredLast, declaring, member_loaded, member_one, member_updated}
use Rattle.rl_lowered.specs.Lowered.{LoweredFront, LoweredLink, LoweredSpine, name_computed, private_met, value_span}
use Rattle.rl_lowered.specs.Lowered as lowered
use Rattle.rl_lowered.specs.Named.{found}
use Rattle.rl_machine.specs.Machine.{Code}
use Rattle.rl_model.specs.Actions.{Label}
use Rattle.rl_model.specs.Dead.{Lives as DeadLives, Outs, declares, goes_on, lives_in_row}
use Rattle.rl_order.proofs.Ordering.{or_left, or_right, same_self}
use Rattle.rl_optional_frames.specs.Frames.{link_at, link_objected}
use Rattle.rl_optional_frames.specs.Parts.{link_opened}
use Rattle.rl_promises.specs.Rows.{refusal}
use Rattle.rl_runs.proofs.Holes.{contained_hole, contained_stacked}
use Rattle.rl_runs.proofs.Moves.{contained_before, extends_completed, extends_pushed, extends_resolved, extends_then, extends_value}
use Rattle.rl_runs.proofs.Moves.{terminal_met}
use Rattle.rl_runs.specs.Blocks.{IsLedTo, Leads, Leaves, Passes}
use Rattle.rl_runs.specs.Facts.{Extends, IsContainedIn}
use Rattle.rl_runs.specs.Moves.{block_id, branch, goto, last_hole, stored_in, without_scope}
use Rattle.rl_syntax.specs.Syntax.{Listed, span_of}

-- The handler is reached where the part is.
abbrev pub Throws : (handler : BlockId) → (s t : State) → Type 0
Throws handler s t = (c : Code) → IsContainedIn t c → (entry : ℕ) → IsLedTo c entry s.current.id.0 → IsLedTo c entry handler.0

pub throws_on : (h : BlockId) (s : State) {t u : State} → Extends t u → Throws h s t → Throws h s u
throws_on h s g l c cover entry r = l c (contained_before g cover) entry r

pub throws_behind : (h : BlockId) (s : State) {t u : State} → Extends t u → Passes s t → Throws h t u → Throws h s u
throws_behind h s g p l c cover entry r = l c cover entry (p c (contained_before g cover) entry r)

throws_under : (h : BlockId) (s : State) (i : Instruction) → Throws h s (pushed_under (Some h) s i)
throws_under h s i c cover entry r =
    Leads s.current.id.0 (length (plainly_pushed s i).current.instructions) (maybe_throw s.env.next_block h i.span) h r
    (terminal_met (reserved (plainly_pushed s i)) (maybe_throw s.env.next_block h i.span) (new_block s.env.next_block s.current.kind) c
    cover)
    (or_right (same_id h (block_id s.env.next_block)) _ (or_left (same_id h h) false (same_self h)))

pub value_throws : (h : BlockId) (s : State) (v : InstructionValue) (span : Option Span) → innermost s.handlers ≡ Some h
    → Throws h s (with_value s v span)
value_throws h s v span on =
    subst (λ (o : Option BlockId). Throws h s (pushed_under o (with_temporary s span) (unordered (temporary s span) v span))) (sym on)
    (throws_under h (with_temporary s span) (unordered (temporary s span) v span))

-- The handler is the same behind a part.
pub handler_kept : {s t : State} (h : BlockId) → Extends s t → innermost s.handlers ≡ Some h → innermost t.handlers ≡ Some h
handler_kept h g on = ap (λ (l : List BlockId). innermost l) g.handlers ∙ on

pub behind_throws : (h : BlockId) (s t : State) (v : InstructionValue) (span : Option Span) → Extends s t → Passes s t
    → innermost s.handlers ≡ Some h → Throws h s (with_value t v span)
behind_throws h s t v span g p on =
    throws_behind h s (extends_value t v span) p (value_throws h t v span (handler_kept h g on))

to_only : (id : BlockId) → list_any (same_id id) (id ∷ []) ≡ true
to_only id = or_left (same_id id id) false (same_self id)

-- Frames of values: what comes first in them throws.

sequence_throws : (h : BlockId) (s s2 : State) (span : Span) (value : Place) → Throws h (sequence_begun s span) s2
    → Throws h s (sequence_ended (sequence_at s span) s2 value span)
sequence_throws h s s2 span value l c cover entry r =
    let n : ℕ = s.env.next_block in
    let place : Place = sequence_place s span in
    let sr : State = stored_in s2 place value span in
    let shut : State = last_hole sr n gotos.Break span s.current in
    let end : Terminal = sequence_end n span in
    let next : WipBlock = new_block n s.current.kind in
    l c
    (contained_before (extends_value s2 (values.StoreLocal variables.Const place value) (Some span))
    (contained_hole sr n gotos.Break span s.current c (contained_before (extends_completed shut end next (λ none. refl)) cover)))
    entry
    (Leads s.current.id.0 (length s.current.instructions) end (block_id (n + 1)) r (terminal_met shut end next c cover)
    (to_only (block_id (n + 1))))

logical_throws : (h : BlockId) (s s2 s3 : State) (span left part : Span) (operator : LogicalOperator) (l r : Place)
    → Extends (logical_begun s span left) s2
    → Extends (logical_righted (logical_at s span operator left) s2 r part) s3
    → (innermost (logical_righted (logical_at s span operator left) s2 r part).handlers ≡ Some h
    → Throws h (logical_righted (logical_at s span operator left) s2 r part) s3)
    → innermost s.handlers ≡ Some h → Throws h s (logical_ended (logical_after (logical_at s span operator left)) s3 l)
logical_throws h s s2 s3 span left part operator l r g2 g3 throws on c cover entry led =
    let n : ℕ = s.env.next_block in
    let place : Place = logical_place s span in
    let begun : State = logical_entered s span left in
    let v : InstructionValue = values.StoreLocal variables.Const place (logical_left s left) in
    let w : InstructionValue = values.StoreLocal variables.Const place r in
    let sm : State = stored_in begun place (logical_left s left) left in
    let sr : State = stored_in s2 place r part in
    let shut : State = last_hole sr n gotos.Break part s.current in
    let end : Terminal = logical_end n operator span in
    let next : WipBlock = new_block (n + 1) block.Value in
    let s5 : State = pushed s3 (loads (logical_left s left) l span) in
    let met : IsContainedIn s3 c =
    contained_before
    (extends_then (extends_pushed s3 (loads (logical_left s left) l span))
    (extends_completed s5 (branch (logical_left s left) (n + 1 + 1) sm.env.next_block n span) (new_block n s.current.kind)
    (λ none. refl))) cover in
    throws
    (handler_kept h (extends_value s2 w (Some part)) (handler_kept h g2 (handler_kept h (extends_value begun v (Some left)) on))) c met
    entry
    (Leads s.current.id.0 (length s.current.instructions) end (block_id (n + 1)) led
    (terminal_met shut end next c (contained_before g3 met)) (to_only (block_id (n + 1))))

ternary_throws : (h : BlockId) (s s2 s3 s4 : State) (span part other : Span) (c a p : Place)
    → Extends (ternary_begun s span) s2
    → Extends (ternary_consequent (ternary_at s span) s2 c part) s3
    → Extends (ternary_alternated (ternary_parted (ternary_at s span) s2 c part) s3 a other) s4
    → (innermost (ternary_alternated (ternary_parted (ternary_at s span) s2 c part) s3 a other).handlers ≡ Some h
    → Throws h (ternary_alternated (ternary_parted (ternary_at s span) s2 c part) s3 a other) s4)
    → innermost s.handlers ≡ Some h
    → Throws h s (ternary_ended (ternary_after (ternary_parted (ternary_at s span) s2 c part)) s4 p)
ternary_throws h s s2 s3 s4 span part other c a p g2 g3 g4 throws on code cover entry led =
    let n : ℕ = s.env.next_block in
    let place : Place = ternary_place s span in
    let sm : State = stored_in s2 place c span in
    let sr : State = stored_in s3 place a span in
    let shut : State = last_hole sr n gotos.Break other s.current in
    let end : Terminal = ternary_end n span in
    let next : WipBlock = new_block (n + 1) block.Value in
    let met : IsContainedIn s4 code =
    contained_before
    (extends_completed s4 (branch p (n + 1 + 1) sm.env.next_block n span) (new_block n s.current.kind) (λ none. refl)) cover in
    throws
    (handler_kept h (extends_value s3 (values.StoreLocal variables.Const place a) (Some span))
    (handler_kept h g3
    (handler_kept h (extends_value s2 (values.StoreLocal variables.Const place c) (Some span)) (handler_kept h g2 on))))
    code met entry
    (Leads s.current.id.0 (length s.current.instructions) end (block_id (n + 1)) led
    (terminal_met shut end next code (contained_before g4 met)) (to_only (block_id (n + 1))))

-- A link of an optional chain, from a state in which it may begin.
link_throws_from : (h : BlockId) (s x s2 s4 : State) (optional : Bool) (f q a : ℕ) (kind : BlockKind) (span : Span)
    (object place value : Place) → x.current ≡ s.current → Extends (link_object s2 f q a span object) s4 → Throws h (link_begun x) s2
    → Throws h s (link_finished s4 f x.env.next_block optional kind span place value x.current)
link_throws_from h s x s2 s4 optional f q a kind span object place value position gk l c cover entry led =
    let test : ℕ = x.env.next_block in
    let end : Terminal = link_end f test optional span in
    let next : WipBlock = new_block f kind in
    let stored : State = stored_in s4 place value span in
    let shut : State = last_hole stored f gotos.Break span x.current in
    let met : IsContainedIn s4 c =
    contained_before (extends_value s4 (values.StoreLocal variables.Const place value) (Some span))
    (contained_hole stored f gotos.Break span x.current c (contained_before (extends_completed shut end next (λ none. refl)) cover)) in
    l c
    (contained_before (extends_completed s2 (branch object q a f span) (new_block q block.Value) (λ none. refl))
    (contained_before gk met))
    entry
    (Leads x.current.id.0 (length x.current.instructions) end (block_id test)
    (subst (λ (w : WipBlock). IsLedTo c entry w.id.0) (sym position) led) (terminal_met shut end next c cover)
    (to_only (block_id test)))

linked_throws : (h : BlockId) (alternate : Option BlockId) (s s2 s4 : State) (span : Span) (optional : Bool) (object value : Place)
    → Extends (link_objected (link_at s span optional alternate) s2 object) s4
    → (innermost (link_opened alternate s span).handlers ≡ Some h → Throws h (link_opened alternate s span) s2)
    → innermost s.handlers ≡ Some h → Throws h s (linked_state alternate s span optional s4 value)
linked_throws h (Some alternate) s s2 s4 span optional object value gk l on =
    link_throws_from h s (chain_reserved s span) s2 s4 optional s.env.next_block (s.env.next_block + 1) alternate.0 s.current.kind span
    object (temporary s (Some span)) value refl gk (l on)
linked_throws h None s s2 s4 span optional object value gk l on =
    link_throws_from h s (chain_begun s span) s2 s4 optional s.env.next_block (s.env.next_block + 1) (s.env.next_block + 1 + 1)
    s.current.kind span object (temporary s (Some span)) value refl gk
    (l (ap (λ (l : List BlockId). innermost l) (opened_handlers None s span) ∙ on))

mutual
  pub expression_throws : {names : Names} {e : Syntax} {s t : State} {p : Place} → Lowered names e s t p → (h : BlockId)
      → innermost s.handlers ≡ Some h → Throws h s t
  expression_throws (lowered.Literal at w fields p s is) h on = value_throws h s (values.Primitive p) (Some at.span) on
  expression_throws (lowered.Refused at w fields r s is) h on =
      value_throws h (recorded s (refusal r at.span)) (values.Primitive primitives.Undefined) (Some at.span) on
  expression_throws (lowered.RefusedBefore at w fields parts r pieces s t is d) h on =
      behind_throws h (recorded s (refusal r at.span)) t (values.Primitive primitives.Undefined) (Some at.span) (all_blocks d).extends
      (all_passes d) on
  expression_throws (lowered.RefusedBehind at object name s t p d) h on =
      throws_on h s
      (blocks_noted_value t (refusal row.F3 at.span) (values.Primitive primitives.Undefined) (Some at.span)).extends
      (expression_throws d h on)
  expression_throws (lowered.Private at w fields e s t p is d) h on = expression_throws d h on
  expression_throws {names} (lowered.Variable at name symbol identifier s is f) h on =
      value_throws h (found names s symbol at.span) _ (Some at.span) on
  expression_throws {names} (lowered.UpdatedVariable at there name symbol identifier operator prefix s is mutable f again) h on =
      value_throws h (found names (found names s symbol there.span) symbol there.span) _ (Some at.span) on
  expression_throws {names} (lowered.UpdatedConstant at there name symbol identifier operator prefix s is constant f) h on =
      value_throws h (recorded (found names s symbol there.span) (diagnostic_at row.F6 (names.name symbol.0) there.span))
      (values.Primitive primitives.Undefined) (Some at.span) on
  expression_throws (lowered.UpdatedMember at there w fields parts pieces object key operator prefix s t is d) h on =
      let loaded : State = member_loaded t object key there.span in
      let one : State = member_one t object key there.span in
      let updated : State = member_updated t object key operator there.span in
      throws_on h s
      (extends_then (extends_value loaded (values.Primitive (primitives.Number 1)) None)
      (extends_then (extends_value one _ (Some there.span)) (extends_value updated _ (Some there.span))))
      (behind_throws h s t (load_of object key) (Some there.span) (all_blocks d).extends (all_passes d) on)
  expression_throws {names} (lowered.AssignedVariable at there name right symbol identifier s t p is mutable d f) h on =
      throws_on h s (blocks_found_value names t symbol there.span identifier _ (Some there.span) f).extends (expression_throws d h on)
  expression_throws {names} (lowered.AssignedConstant at there name right symbol identifier s t p is constant d f) h on =
      throws_on h s (blocks_constant names t symbol there.span there.span identifier f).extends (expression_throws d h on)
  expression_throws (lowered.AssignedGlobal at there name right binding s t p is d) h on =
      throws_on h s (extends_value t (values.StoreGlobal name p) (Some there.span)) (expression_throws d h on)
  expression_throws (lowered.AssignedMember at there w fields parts pieces object key right s t u p is d ds) h on =
      throws_on h s (extends_then (all_blocks ds).extends (extends_value u (store_of object key p) (Some there.span)))
      (expression_throws d h on)
  expression_throws (lowered.AssignedPrivate at there object name right s t u p q d more) h on =
      throws_on h s
      (extends_then (expression_blocks more).extends
      (blocks_noted_value u (refusal row.F5 at.span) (values.Primitive primitives.Undefined) (Some at.span)).extends)
      (expression_throws d h on)
  expression_throws (lowered.AssignedPattern at there w fields right s t u p q is d more) h on =
      throws_on h s (target_blocks more).extends (expression_throws d h on)
  expression_throws {names}
      (lowered.CompoundVariable at there name operator applied right symbol identifier s t u q p is mutable applies d more f) h on =
      throws_on h s
      (extends_then (expression_blocks more).extends (blocks_reloaded names u applied q p at.span there.span symbol identifier f).extends)
      (expression_throws d h on)
  expression_throws {names}
      (lowered.CompoundConstant at there name operator applied right symbol identifier s t u q p is constant applies d more f) h on =
      throws_on h s (extends_then (expression_blocks more).extends (blocks_constant names u symbol there.span at.span identifier f).extends)
      (expression_throws d h on)
  expression_throws (lowered.CompoundGlobal at there name operator applied right binding s t u q p is applies d more) h on =
      throws_on h s
      (extends_then (expression_blocks more).extends
      (extends_then (extends_value u (values.BinaryExpression applied q p) (Some at.span))
      (extends_value (name_computed u applied q p at.span) (values.StoreGlobal name (temporary u (Some at.span))) (Some at.span))))
      (expression_throws d h on)
  expression_throws (lowered.CompoundMember at there w fields parts pieces object key operator applied right s t u p is applies ds d) h on =
      throws_on h s (extends_then (expression_blocks d).extends (blocks_assigned t u object key applied p there.span).extends)
      (behind_throws h s t (load_of object key) (Some there.span) (all_blocks ds).extends (all_passes ds) on)
  expression_throws (lowered.CompoundPrivate at there fields operator applied right s t u q p applies d more) h on =
      throws_on h s
      (extends_then (expression_blocks more).extends (extends_value u (values.Primitive primitives.Undefined) (Some at.span)))
      (expression_throws d h on)
  expression_throws (lowered.Method at there w fields parts es pieces given_pieces object key given s t u is d ds gathers) h on =
      throws_on h s (extends_then (all_blocks ds).extends (extends_value u _ (Some at.span)))
      (behind_throws h s t (load_of object key) (Some there.span) (all_blocks d).extends (all_passes d) on)
  expression_throws (lowered.Cast at there w fields e type k s t p is annotated d) h on =
      throws_on h s (extends_then (blocks_cast t k).extends (extends_value (typed t k) _ (Some at.span))) (expression_throws d h on)
  expression_throws (lowered.Global at name binding s is calm) h on = value_throws h s (values.LoadGlobal binding) (Some at.span) on
  expression_throws (lowered.RefusedGlobal at name binding s is calm) h on =
      value_throws h (recorded s (refusal row.F2 at.span)) (values.LoadGlobal binding) (Some at.span) on
  expression_throws (lowered.Same at w fields e s t p is d) h on = expression_throws d h on
  expression_throws (lowered.Asked at w fields parts pieces v s t is d) h on =
      behind_throws h s t v (Some at.span) (all_blocks d).extends (all_passes d) on
  expression_throws (lowered.Object at es pieces properties s t gathers d) h on =
      behind_throws h s t (values.ObjectExpression properties) (Some at.span) (all_blocks d).extends (all_passes d) on
  expression_throws (lowered.Logical at operator left right s s2 s3 l r dr dl) h on =
      logical_throws h s s2 s3 at.span (span_of left) (value_span r right) operator l r (expression_blocks dr).extends
      (expression_blocks dl).extends (expression_throws dl h) on
  expression_throws (lowered.Conditional at test consequent alternate s s2 s3 s4 c a p dc da dt) h on =
      ternary_throws h s s2 s3 s4 at.span (span_of consequent) (span_of alternate) c a p (expression_blocks dc).extends
      (expression_blocks da).extends (expression_blocks dt).extends (expression_throws dt h) on
  expression_throws (lowered.Sequence at e es s s2 p d) h on =
      sequence_throws h s s2 at.span p (last_throws d h on)
  expression_throws (lowered.Chain at e s t p d) h on = spine_throws d h on

  spine_throws : {names : Names} {below : Bool} {e : Syntax} {s t : State} {p : Place} → LoweredSpine names below e s t p → (h : BlockId)
      → innermost s.handlers ≡ Some h → Throws h s t
  spine_throws (lowered.Outermost e s t front p d) h on = link_throws d h on
  spine_throws (lowered.Asserted at e s t p d) h on = spine_throws d h on
  spine_throws (lowered.Broken at e s t p is d) h on = spine_throws d h on

  link_throws : {names : Names} {alternate : Option BlockId} {e : Syntax} {s t : State} {front : Front} {p : Place}
      → LoweredLink names alternate e s t front p → (h : BlockId) → innermost s.handlers ≡ Some h → Throws h s t
  link_throws (lowered.LinkedProperty alternate at w optional object rest parts pieces o key s t u is d ds) h on =
      linked_throws h alternate s t (with_value u (load_of o key) (Some at.span)) at.span optional o (temporary u (Some at.span))
      (extends_then (all_blocks ds).extends (extends_value u (load_of o key) (Some at.span))) (front_throws d h) on
  link_throws (lowered.LinkedPrivate alternate at optional object name o s t d) h on =
      let opened : State = link_objected (link_at s at.span optional alternate) t o in
      linked_throws h alternate s t (with_value (private_met opened at.span) (values.Primitive primitives.Undefined) (Some at.span))
      at.span optional o (temporary (private_met opened at.span) (Some at.span))
      (blocks_noted_value opened (refusal row.F3 at.span) (values.Primitive primitives.Undefined) (Some at.span)).extends
      (front_throws d h) on
  link_throws (lowered.LinkedCall alternate at optional part es pieces given front s t u d ds gathers) h on =
      linked_throws h alternate s t (with_value u (call_of front given) (Some at.span)) at.span optional (tested_front front)
      (temporary u (Some at.span)) (extends_then (all_blocks ds).extends (extends_value u (call_of front given) (Some at.span)))
      (front_throws d h) on

  front_throws : {names : Names} {alternate : BlockId} {is_called : Bool} {e : Syntax} {s t : State} {front : Front}
      → LoweredFront names alternate is_called e s t front → (h : BlockId) → innermost s.handlers ≡ Some h → Throws h s t
  front_throws (lowered.FrontLink alternate is_called e s t front p d) h on = link_throws d h on
  front_throws (lowered.FrontBroken alternate is_called at e s t p d) h on = spine_throws d h on
  front_throws (lowered.FrontMethod alternate at w fields parts pieces object key s t is d) h on =
      behind_throws h s t (load_of object key) (Some at.span) (all_blocks d).extends (all_passes d) on
  front_throws (lowered.FrontAlone alternate is_called e s t p is d) h on = expression_throws d h on

  last_throws : {names : Names} {es : Pieces} {s t : State} {p : Place} → LoweredLast names es s t p → (h : BlockId)
      → innermost s.handlers ≡ Some h → Throws h s t
  last_throws (lowered.LastPart e s t p d) h on = expression_throws d h on
  last_throws (lowered.EarlierPart e next es s t u p q d ds) h on = throws_on h s (last_blocks ds).extends (expression_throws d h on)

-- Statements: what comes first in them throws.

pub while_throws : (h : BlockId) (s s2 s4 : State) (test : Place) (span part : Span)
    → Extends (while_body s2 s.env.next_block span s.current part) s4 → Throws h (while_body s2 s.env.next_block span s.current part) s4
    → Throws h s (while_finished s4 s.env.next_block span test)
while_throws h s s2 s4 test span part g l c cover entry led =
    let n : ℕ = s.env.next_block in
    l c
    (contained_before
    (extends_completed s4 (branch test (n + 1 + 1) (n + 1) n span) (new_block (n + 1) block.Block) (λ none. refl)) cover) entry
    (while_into s s2 s4 test span part g c cover entry led)

pub do_while_throws : (h : BlockId) (s s2 s4 : State) (label : Label) (test : Place) (span part : Span)
    → Extends (do_while_body s2 s.env.next_block span s.current part) s4 → Throws h (while_begun s label) s2
    → Throws h s (while_finished s4 s.env.next_block span test)
do_while_throws h s s2 s4 label test span part g l c cover entry led =
    let n : ℕ = s.env.next_block in
    l c (loop_in s s2 s4 test span part (do_while_end n span) refl g c cover).body entry
    (loop_into s s2 s4 test span part (do_while_end n span) refl g (n + 1 + 1)
    (or_left (same_id (block_id (n + 1 + 1)) (block_id (n + 1 + 1))) false (same_self (block_id (n + 1 + 1)))) c cover entry led)

pub label_throws : (h : BlockId) (s s2 : State) (own : List ℕ) (span part : Span) → Throws h (label_begun s own) s2
    → Throws h s (label_finished s2 s.env.next_block span s.current part)
label_throws h s s2 own span part l c cover entry led =
    let n : ℕ = s.env.next_block in
    let closed : State = last_hole (without_scope s2) n gotos.Break part s.current in
    let next : WipBlock = new_block n block.Block in
    l c
    (contained_stacked s2 (take (length s2.scopes - 1) s2.scopes) s2.handlers c (λ none. none)
    (contained_hole (without_scope s2) n gotos.Break part s.current c
    (contained_before (extends_completed closed (label_end n span) next (λ none. refl)) cover))) entry
    (Leads s.current.id.0 (length s.current.instructions) (label_end n span) (block_id (n + 1)) led
    (terminal_met closed (label_end n span) next c cover) (to_only (block_id (n + 1))))

-- A part that acts throws to the handler around it.
abbrev pub ThrowsIf : (acts : Bool) → (s t : State) → Type 0
ThrowsIf acts s t = acts ≡ true → (h : BlockId) → innermost s.handlers ≡ Some h → Throws h s t

-- Parts of which one acts, or that act under a condition.

either_throws : (a b : Bool) (h : BlockId) (s t : State) → (a ≡ true → Throws h s t) → (b ≡ true → Throws h s t) → (a || b) ≡ true
    → Throws h s t
either_throws true b h s t one other is = one refl
either_throws false b h s t one other is = other is

both_throw : (a b : Bool) (h : BlockId) (s t : State) → (a ≡ true → b ≡ true → Throws h s t) → (a && b) ≡ true → Throws h s t
both_throw true b h s t both is = both refl is
both_throw false b h s t both is = let never : false ≡ true = is in absurd (cc)

-- Two statements in a row.
pub row_throws : (a b : DeadLives) (s t u : State) → Extends s t → Extends t u → (a.outs.falls ≡ true → Passes s t) → ThrowsIf a.acts s t
    → ThrowsIf b.acts t u → ThrowsIf (lives_in_row a b).acts s u
row_throws a b s t u g g2 passes first second is h on =
    either_throws a.acts (a.outs.falls && b.acts) h s u (λ one. throws_on h s g2 (first one h on))
    (λ both. both_throw a.outs.falls b.acts h s u
    (λ falls acts. throws_behind h s g2 (passes falls) (second acts h (handler_kept h g on))) both) is

-- Declarations of variables.

pub declaring_throws : (h : BlockId) (s t : State) (k : VariableKind) (at : Span)
    → (innermost (declaring s k at).handlers ≡ Some h → Throws h (declaring s k at) t) → innermost s.handlers ≡ Some h → Throws h s t
declaring_throws h s t kinds.Var at l on = l on
declaring_throws h s t _ at l on = l on

pub declarators_throw : {names : Names} {at : Span} {k : InstructionKind} {es : Pieces} {s t : State}
    → LoweredDeclarators names at k es s t → (kind : Syntax) → declares (Then kind (Then (Listed es) End)) ≡ true → (h : BlockId)
    → innermost s.handlers ≡ Some h → Throws h s t
declarators_throw (lowered.NoDeclarator s) kind is h on = let never : false ≡ true = is in absurd (cc)
declarators_throw {names} {at} {k}
    (lowered.NextDeclared there bind name type more symbol identifier s u annotated declared f d) kind is h on =
    throws_on h s (declarators_blocks d).extends (value_throws h (found names s symbol bind.span) _ (Some bind.span) on)
declarators_throw {names} {at} {k}
    (lowered.NextInitialized there bind name type init more symbol identifier s t u p annotated declared d f ds) kind is h on =
    throws_on h s
    (extends_then (extends_resolved t (names.name symbol.0) symbol.0 (Some bind.span) f.agree)
    (extends_then
    (extends_value (found names t symbol bind.span)
    (values.StoreLocal k (record { identifier = record { 0 = identifier }; span = Some at }) p) (Some at))
    (declarators_blocks ds).extends))
    (expression_throws d h on)
declarators_throw {k} (lowered.NextTakenApart there pattern init more s t u v p q is present d dp ds) kind shows h on =
    throws_on h s (extends_then (pattern_blocks dp).extends (declarators_blocks ds).extends) (expression_throws d h on)
declarators_throw {at} {k} (lowered.NextUntaken there pattern more s u v q is dp ds) kind shows h on =
    throws_on h s (extends_then (pattern_blocks dp).extends (declarators_blocks ds).extends)
    (value_throws h s (values.Primitive primitives.Undefined) (Some at) on)

-- The test of an `if` statement.
pub if_throws : (h : BlockId) (s s4 : State) (behind consequent alternate : ℕ) (test : Place) (span : Span) → Throws h s s4
    → Throws h s (if_finished s4 behind consequent alternate test span)
if_throws h s s4 behind consequent alternate test span l =
    throws_on h s (extends_completed s4 (if_end behind consequent alternate test span) (new_block behind block.Block) (λ none. refl)) l

-- The value of a `switch`, behind the tests of its cases.
pub switch_throws : (h : BlockId) (s t u : State) (ks : List Case) (value : Place) (span : Span) → Extends t u → Passes s t
    → Throws h t u → Throws h s (switch_finished u s.env.next_block ks value span)
switch_throws h s t u ks value span g passes l =
    throws_on h s
    (extends_completed u (switch_end s.env.next_block ks value span) (new_block s.env.next_block block.Block) (λ none. refl))
    (throws_behind h s g passes l)

-- A `do`-`while` loop acts in its body, or in its test where its body goes on.
pub do_while_throws_by : (h : BlockId) (s s2 s4 : State) (label : Label) (test : Place) (span part : Span) (acts : Bool) (body : Outs)
    → Extends (do_while_body s2 s.env.next_block span s.current part) s4 → Leaves body (while_begun s label) s2
    → (body.falls ≡ true → Passes (while_begun s label) s2) → (acts ≡ true → Throws h (while_begun s label) s2)
    → Throws h (do_while_body s2 s.env.next_block span s.current part) s4 → (acts || goes_on label body) ≡ true
    → Throws h s (while_finished s4 s.env.next_block span test)
do_while_throws_by h s s2 s4 label test span part acts body g j passes in_body in_test is =
    either_throws acts (goes_on label body) h s (while_finished s4 s.env.next_block span test)
    (λ one. do_while_throws h s s2 s4 label test span part g (in_body one))
    (λ on c cover entry led. in_test c (met s s2 s4 label test span part body g j c cover).behind entry
    (do_goes_on s s2 s4 label test span part body g j passes on c cover entry led)) is

-- The test of a `for` loop: in front of its body stand its init and its update, the last of which ends at `y`.
pub for_throws : (h : BlockId) (s y s4 s5 : State) (label : Label) (again : BlockId) (update : Option BlockId) (test : Place)
    (span part last : Span) → Extends (for_body y s.env.next_block label again part) s4
    → Extends (for_tests s y s4 again update span last) s5
    → ((c : Code) → IsContainedIn (for_front s y part) c → (entry : ℕ) → IsLedTo c entry (s.env.next_block + 1 + 1)
    → IsLedTo c entry s.env.next_block)
    → Passes (for_tests s y s4 again update span last) s5 → Throws h (for_tests s y s4 again update span last) s5
    → Throws h s (for_finished s5 s.env.next_block y.env.next_block span test)
for_throws h s y s4 s5 label again update test span part last gb gt comes passes l c cover entry led =
    l c (for_met s y s4 s5 label again update test span part last gb gt comes passes c cover).behind entry
    (led_test s y s4 s5 label again update test span part last gb gt comes passes c cover entry led)

-- An init that completes leads to the test where an update follows it too.
pub updated_comes : (s s2 s3 : State) (part other : Span) → Extends (for_update s2 s.env.next_block part) s3 → Passes (for_begun s) s2
    → (c : Code) → IsContainedIn (for_front s s3 other) c → (entry : ℕ) → IsLedTo c entry (s.env.next_block + 1 + 1)
    → IsLedTo c entry s.env.next_block
updated_comes s s2 s3 part other g passes c cover =
    init_comes s s2 part passes c (contained_before (update_extends s s2 s3 part other g) cover)

-- The right side of a loop over keys or values.

pub forin_throws : (h : BlockId) (s s2 s3 s5 : State) (label : Label) (collection test : Place) (span left part : Span)
    → Extends (forin_next s3 s.env.next_block collection span left) s5
    → Throws h (rounds_body s2 s.env.next_block s.current part) s3
    → Throws h s (rounds_finished s5 s.env.next_block (s.env.next_block + 1 + 1) span test)
forin_throws h s s2 s3 s5 label collection test span left part g l =
    let n : ℕ = s.env.next_block in
    throws_on h s
    (extends_then (init_extends s s2 s3 s5 (n + 1 + 1) label (forin_end n span) test span part refl)
    (extends_then (extends_value (forin_init s3 n span) (values.NextPropertyOf collection) (Some left))
    (extends_then g (last_extends s s2 s3 s5 (n + 1 + 1) label (forin_end n span) test span part refl)))) l

pub forof_throws : (h : BlockId) (s s2 s3 s5 : State) (label : Label) (collection test : Place) (span left part : Span)
    → Extends (forof_next s3 s.env.next_block collection span left) s5
    → Throws h (rounds_body s2 s.env.next_block s.current part) s3
    → Throws h s (rounds_finished s5 s.env.next_block (s.env.next_block + 1 + 1 + 1) span test)
forof_throws h s s2 s3 s5 label collection test span left part g l =
    let n : ℕ = s.env.next_block in
    let opened : State = forof_opened s3 n collection span in
    let tested : State = forof_test s3 n collection span in
    throws_on h s
    (extends_then (init_extends s s2 s3 s5 (n + 1 + 1 + 1) label (forof_end n span) test span part refl)
    (extends_then (extends_value (forof_init s3 n span) (values.GetIterator collection) collection.span)
    (extends_then (extends_completed opened (goto (n + 1 + 1) gotos.Break span) (new_block (n + 1 + 1) block.Loop) (λ none. refl))
    (extends_then
    (extends_value tested (values.IteratorNext (temporary (forof_init s3 n span) collection.span) collection) (Some left))
    (extends_then g (last_extends s s2 s3 s5 (n + 1 + 1 + 1) label (forof_end n span) test span part refl)))))) l
