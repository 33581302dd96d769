-- Lowered expressions and declarations complete, refused or not.
use Rattle.std.proofs.Common.{◌≡◌, ℕ, Bool, true, false, List, [], Option, Some, None, refl}
use Rattle.rl_base.specs.declared.operator.BinaryOperator.{BinaryOperator}
use Rattle.rl_base.specs.declared.operator.UpdateOperator.{UpdateOperator}
use Rattle.rl_base.specs.declared.row.Row.TheVariants as row
use Rattle.rl_base.specs.declared.type_kind.TypeKind.{TypeKind}
use Rattle.rl_base.specs.declared.type_kind.TypeKind.TheVariants as types
use Rattle.rl_base.specs.declared.variable_kind.VariableKind.{VariableKind}
use Rattle.rl_base.specs.declared.variable_kind.VariableKind.TheVariants as kinds
use Rattle.rl_base.specs.Diagnostics.{diagnostic_at}
use Rattle.rl_base.specs.VariableKinds.{variable_text}
use Rattle.rl_builder.specs.Builder.{recorded, with_temporary}
use Rattle.rl_builder.specs.Temporaries.{temporary, unordered, with_value}
use Rattle.rl_hir.specs.declared.function.Param.{Param}
use Rattle.rl_hir.specs.declared.instruction.Instruction.{Instruction}
use Rattle.rl_hir.specs.declared.instruction.InstructionKind.{InstructionKind}
use Rattle.rl_hir.specs.declared.instruction.InstructionKind.TheVariants as variables
use Rattle.rl_hir.specs.declared.instruction.InstructionValue.TheVariants as values
use Rattle.rl_hir.specs.declared.instruction.PrimitiveValue.TheVariants as primitives
use Rattle.rl_lowered.proofs.ChainFrames.{linked_lives, linked_state}
use Rattle.rl_lowered.proofs.Common.{At, BlockId, End, InstructionValue, Names, Node, Piece, Pieces, Place, Said, Span, State, SymbolId}
use Rattle.rl_lowered.proofs.Common.{Syntax, Then}
use Rattle.rl_lowered.proofs.ItemBlocks.{ahead_stays, bound_stays, stays_met, stays_passes, taken_stays}
use Rattle.rl_lowered.proofs.LiveFrames.{logical_lives, sequence_lives, ternary_lives}
use Rattle.rl_lowered.specs.Forms.{Front, MemberKey, call_of, load_of, store_of, tested_front, type_of, typed}
use Rattle.rl_lowered.specs.Items.{Later, caught, destructured, found_again, met, promoted, variable_at}
use Rattle.rl_lowered.specs.Lowered.{Lowered, LoweredCaseTest, LoweredDeclarators, LoweredHead, LoweredInit}
use Rattle.rl_lowered.specs.Lowered.{LoweredFront, LoweredLast, LoweredLink, LoweredLoop, LoweredParts, LoweredSpine, LoweredStatement}
use Rattle.rl_lowered.specs.Lowered.{LoweredTest, private_met}
use Rattle.rl_lowered.specs.Lowered.{assigned_to, declaring, kind_of}
use Rattle.rl_lowered.specs.Lowered.{member_computed, member_loaded, member_one, member_stored, member_updated, name_computed}
use Rattle.rl_lowered.specs.Lowered.{name_reloaded, name_stored, update_of, value_span}
use Rattle.rl_lowered.specs.Lowered.{LoweredBound, LoweredLater, LoweredMoved, LoweredParams, LoweredPattern, LoweredTarget}
use Rattle.rl_lowered.specs.Lowered as lowered
use Rattle.rl_lowered.specs.Named.{IsFound, found}
use Rattle.rl_model.specs.Actions.{Label}
use Rattle.rl_optional_frames.proofs.Lives.{default_lives}
use Rattle.rl_optional_frames.specs.Frames.{default_at, default_ended, link_at, link_objected}
use Rattle.rl_optional_frames.specs.Parts.{default_begun, link_opened}
use Rattle.rl_promises.specs.Jumps.{is_loop}
use Rattle.rl_promises.specs.Rows.{refusal, row_of_head}
use Rattle.rl_runs.proofs.Living.{lives_none}
use Rattle.rl_runs.proofs.Moves.{extends_then, extends_value}
use Rattle.rl_runs.proofs.Passing.{passes_pushed, passes_refl, passes_then}
use Rattle.rl_runs.proofs.Types.{blocks_typed}
use Rattle.rl_runs.specs.Blocks.{Lives, Passes}
use Rattle.rl_runs.specs.Facts.{Extends}
use Rattle.rl_syntax.specs.declared.word.Word.TheVariants as word
use Rattle.rl_syntax.specs.Syntax.{Listed, span_of}
use Rattle.rl_lowered.proofs.BlockMoves.{blocks_constant, blocks_found_value, blocks_member, blocks_noted_value, blocks_reloaded}
use Rattle.rl_lowered.proofs.ExpressionBlocks.{all_blocks, bound_blocks, declarators_blocks, expression_blocks, front_blocks, last_blocks}
use Rattle.rl_lowered.proofs.ExpressionBlocks.{later_blocks, params_blocks, pattern_blocks, target_blocks}

-- Expressions and declarations complete: the block behind is reached where that in front is.

abbrev unkeyed : Instruction → Option (Unit {0})
unkeyed i = None

passed : {s t : State} → Lives unkeyed [] true s t → Passes s t
passed l = l.onward refl

passing : {s t : State} → Passes s t → Lives unkeyed [] true s t
passing {s} {t} onward = lives_none unkeyed s t true (λ is. onward)

value_passes : (s : State) (v : InstructionValue) (span : Option Span) → Passes s (with_value s v span)
value_passes s v span = passes_pushed (with_temporary s span) (unordered (temporary s span) v span)

-- A value behind a part.
passes_value : (s t : State) (v : InstructionValue) (span : Option Span) → Passes s t → Passes s (with_value t v span)
passes_value s t v span first = passes_then s (extends_value t v span) first (value_passes t v span)

typed_passes : (s t : State) (k : TypeKind) (v : InstructionValue) (span : Option Span) → Passes s t
    → Passes s (with_value (typed t k) v span)
typed_passes s t types.Array v span first = passes_value s t v span first
typed_passes s t types.Primitive v span first = passes_value s t v span first
typed_passes s t types.Other v span first =
    passes_then s (extends_then (blocks_typed t).extends (extends_value (typed t types.Other) v span)) first
    (value_passes (typed t types.Other) v span)

member_passes : (t : State) (object : Place) (key : MemberKey) (operator : UpdateOperator) (there : Span)
    → Passes t (member_stored t object key operator there)
member_passes t object key operator there =
    let loaded : State = member_loaded t object key there in
    let one : State = member_one t object key there in
    let updated : State = member_updated t object key operator there in
    passes_value t updated (store_of object key (temporary one (Some there))) (Some there)
    (passes_value t one _ (Some there)
    (passes_value t loaded (values.Primitive (primitives.Number 1)) None (value_passes t (load_of object key) (Some there))))

constant_passes : (names : Names) (s : State) (symbol : SymbolId) (there span : Span)
    → Passes s
    (with_value (recorded (found names s symbol there) (diagnostic_at row.F6 (names.name symbol.0) there))
    (values.Primitive primitives.Undefined) (Some span))
constant_passes names s symbol there span =
    value_passes (recorded (found names s symbol there) (diagnostic_at row.F6 (names.name symbol.0) there))
    (values.Primitive primitives.Undefined) (Some span)

reloaded_passes : (names : Names) (u : State) (operator : BinaryOperator) (q p : Place) (at there : Span) (symbol : SymbolId)
    (identifier : ℕ) → IsFound names (name_computed u operator q p at) symbol there identifier
    → Passes u (name_reloaded names u operator q p at there symbol identifier)
reloaded_passes names u operator q p at there symbol identifier f =
    let computed : State = name_computed u operator q p at in
    let stored : State = name_stored names u operator q p at there symbol identifier in
    let value : InstructionValue = assigned_to identifier there (temporary u (Some at)) in
    passes_value u stored (values.LoadLocal (variable_at identifier there)) (Some at)
    (passes_then u (blocks_found_value names computed symbol there identifier value (Some at) f).extends
    (value_passes u (values.BinaryExpression operator q p) (Some at))
    (value_passes (found names computed symbol there) value (Some at)))

-- A link of a chain completes where its holes do.
linked_passes : (alternate : Option BlockId) (s s2 s4 : State) (span : Span) (optional : Bool) (object value : Place)
    → Extends (link_opened alternate s span) s2 → Extends (link_objected (link_at s span optional alternate) s2 object) s4
    → Passes (link_opened alternate s span) s2 → Passes (link_objected (link_at s span optional alternate) s2 object) s4
    → Passes s (linked_state alternate s span optional s4 value)
linked_passes alternate s s2 s4 span optional object value go gk first second =
    passed (linked_lives unkeyed alternate s s2 s4 span optional object value [] [] go gk (passing first) (passing second))

-- A default completes, whether it is taken or not.
defaulted_passes : (s s2 : State) (default value : Place) (span : Span) → Passes (default_begun s span) s2
    → Passes s (default_ended (default_at s span value) s2 default)
defaulted_passes s s2 default value span first = passed (default_lives unkeyed s s2 default value span [] true (passing first))

mutual
  pub expression_passes : {names : Names} {e : Syntax} {s t : State} {p : Place} → Lowered names e s t p → Passes s t
  expression_passes (lowered.Literal at w fields p s is) = value_passes s (values.Primitive p) (Some at.span)
  expression_passes (lowered.Refused at w fields r s is) =
      value_passes (recorded s (refusal r at.span)) (values.Primitive primitives.Undefined) (Some at.span)
  expression_passes (lowered.RefusedBefore at w fields parts r pieces s t is l) =
      passes_value s t (values.Primitive primitives.Undefined) (Some at.span) (all_passes l)
  expression_passes (lowered.RefusedBehind at object name s t p l) =
      passes_then s (blocks_noted_value t (refusal row.F3 at.span) (values.Primitive primitives.Undefined) (Some at.span)).extends
      (expression_passes l) (value_passes (recorded t (refusal row.F3 at.span)) (values.Primitive primitives.Undefined) (Some at.span))
  expression_passes (lowered.Private at w fields e s t p is l) = expression_passes l
  expression_passes {names} (lowered.Variable at name symbol identifier s is f) =
      value_passes (found names s symbol at.span)
      (values.LoadLocal (record { identifier = record { 0 = identifier }; span = Some at.span })) (Some at.span)
  expression_passes {names} (lowered.UpdatedVariable at there name symbol identifier operator prefix s is mutable f g) =
      value_passes (found names (found names s symbol there.span) symbol there.span)
      (update_of prefix operator (record { identifier = record { 0 = identifier }; span = Some there.span })) (Some at.span)
  expression_passes {names} (lowered.UpdatedConstant at there name symbol identifier operator prefix s is constant f) =
      constant_passes names s symbol there.span at.span
  expression_passes (lowered.UpdatedMember at there w fields parts pieces object key operator prefix s t is l) =
      passes_then s (blocks_member t object key operator there.span).extends (all_passes l) (member_passes t object key operator there.span)
  expression_passes {names} (lowered.AssignedVariable at there name right symbol identifier s t p is mutable l f) =
      passes_then s
      (blocks_found_value names t symbol there.span identifier (assigned_to identifier there.span p) (Some there.span) f).extends
      (expression_passes l)
      (value_passes (found names t symbol there.span) (assigned_to identifier there.span p) (Some there.span))
  expression_passes {names} (lowered.AssignedConstant at there name right symbol identifier s t p is constant l f) =
      passes_then s (blocks_constant names t symbol there.span there.span identifier f).extends (expression_passes l)
      (constant_passes names t symbol there.span there.span)
  expression_passes (lowered.AssignedGlobal at there name right binding s t p is l) =
      passes_value s t (values.StoreGlobal name p) (Some there.span) (expression_passes l)
  expression_passes (lowered.AssignedMember at there w fields parts pieces object key right s t u p is l ls) =
      passes_value s u (store_of object key p) (Some there.span)
      (passes_then s (all_blocks ls).extends (expression_passes l) (all_passes ls))
  expression_passes (lowered.AssignedPrivate at there object name right s t u p q l m) =
      passes_then s (blocks_noted_value u (refusal row.F5 at.span) (values.Primitive primitives.Undefined) (Some at.span)).extends
      (passes_then s (expression_blocks m).extends (expression_passes l) (expression_passes m))
      (value_passes (recorded u (refusal row.F5 at.span)) (values.Primitive primitives.Undefined) (Some at.span))
  expression_passes (lowered.AssignedPattern at there w fields right s t u p q is l d) =
      passes_then s (target_blocks d).extends (expression_passes l) (target_passes d)
  expression_passes {names}
      (lowered.CompoundVariable at there name operator applied right symbol identifier s t u q p is mutable applies l m f) =
      passes_then s (blocks_reloaded names u applied q p at.span there.span symbol identifier f).extends
      (passes_then s (expression_blocks m).extends (expression_passes l) (expression_passes m))
      (reloaded_passes names u applied q p at.span there.span symbol identifier f)
  expression_passes {names}
      (lowered.CompoundConstant at there name operator applied right symbol identifier s t u q p is constant applies l m f) =
      passes_then s (blocks_constant names u symbol there.span at.span identifier f).extends
      (passes_then s (expression_blocks m).extends (expression_passes l) (expression_passes m))
      (constant_passes names u symbol there.span at.span)
  expression_passes (lowered.CompoundGlobal at there name operator applied right binding s t u q p is applies l m) =
      passes_value s (name_computed u applied q p at.span) (values.StoreGlobal name (temporary u (Some at.span))) (Some at.span)
      (passes_value s u (values.BinaryExpression applied q p) (Some at.span)
      (passes_then s (expression_blocks m).extends (expression_passes l) (expression_passes m)))
  expression_passes (lowered.CompoundMember at there w fields parts pieces object key operator applied right s t u p is applies ls l) =
      passes_value s (member_computed t u applied p there.span) (store_of object key (temporary u (Some there.span))) (Some there.span)
      (passes_value s u (values.BinaryExpression applied (temporary t (Some there.span)) p) (Some there.span)
      (passes_then s (expression_blocks l).extends (passes_value s t (load_of object key) (Some there.span) (all_passes ls))
      (expression_passes l)))
  expression_passes (lowered.CompoundPrivate at there fields operator applied right s t u q p applies l m) =
      passes_value s u (values.Primitive primitives.Undefined) (Some at.span)
      (passes_then s (expression_blocks m).extends (expression_passes l) (expression_passes m))
  expression_passes (lowered.Method at there w fields parts es pieces given_pieces object key given s t u is l given_are m) =
      let loaded : State = with_value t (load_of object key) (Some there.span) in
      passes_value s u _ (Some at.span)
      (passes_then s (all_blocks given_are).extends (passes_value s t (load_of object key) (Some there.span) (all_passes l))
      (all_passes given_are))
  expression_passes (lowered.Cast at there w fields e type k s t p is annotated l) =
      typed_passes s t k (values.TypeCastExpression p (type_of t k) (Some there.span)) (Some at.span) (expression_passes l)
  expression_passes (lowered.Global at name binding s means other) = value_passes s (values.LoadGlobal binding) (Some at.span)
  expression_passes (lowered.RefusedGlobal at name binding s means is) =
      value_passes (recorded s (refusal row.F2 at.span)) (values.LoadGlobal binding) (Some at.span)
  expression_passes (lowered.Same at w fields e s t p is d) = expression_passes d
  expression_passes (lowered.Asked at w fields parts pieces v s t form d) = passes_value s t v (Some at.span) (all_passes d)
  expression_passes (lowered.Object at es pieces properties s t is l) =
      passes_value s t (values.ObjectExpression properties) (Some at.span) (all_passes l)
  expression_passes (lowered.Logical at operator left right s s2 s3 l r dr dl) =
      passed (logical_lives unkeyed s s2 s3 operator r l at.span (span_of left) (value_span r right) [] [] (expression_blocks dr)
      (expression_blocks dl) (passing (expression_passes dr)) (passing (expression_passes dl)))
  expression_passes (lowered.Conditional at test consequent alternate s s2 s3 s4 c a p dc da dt) =
      passed (ternary_lives unkeyed s s2 s3 s4 c a p at.span (span_of consequent) (span_of alternate) [] [] [] (expression_blocks da)
      (expression_blocks dt) (passing (expression_passes dc)) (passing (expression_passes da)) (passing (expression_passes dt)))
  expression_passes (lowered.Sequence at e es s s2 p d) =
      passed (sequence_lives unkeyed s s2 p at.span at.span [] (passing (last_passes d)))
  expression_passes (lowered.Chain at e s t p d) = spine_passes d

  pub moved_passes : {names : Names} {e : Syntax} {s t : State} {p : Place} → LoweredMoved names e s t p → Passes s t
  moved_passes (lowered.Stays e s t p is d) = expression_passes d
  moved_passes (lowered.Moved at w fields s t p is d) = expression_passes d

  pub target_passes : {names : Names} {at : Span} {value : Place} {e : Syntax} {s t : State} {p : Place}
      → LoweredTarget names at value e s t p → Passes s t
  target_passes {names} {at} {value} (lowered.TargetVariable there name symbol identifier s is mutable f) =
      value_passes (found names s symbol there.span) (assigned_to identifier at value) (Some at)
  target_passes {names} (lowered.TargetConstant there name symbol identifier s is constant f) =
      passes_refl (recorded (found names s symbol there.span) (diagnostic_at row.F6 (names.name symbol.0) there.span))
  target_passes {at} {value} (lowered.TargetGlobal there name binding s is) = value_passes s (values.StoreGlobal name value) (Some at)
  target_passes {at} {value} (lowered.TargetMember there w fields parts pieces object key s t is l) =
      passes_value s t (store_of object key value) (Some at) (all_passes l)
  target_passes (lowered.TargetLost there w fields s is) = passes_refl (recorded s (refusal (row_of_head w) there.span))
  target_passes {value} (lowered.TargetDefaulted there w fields target default s t u q p is d dt) =
      passes_then s (target_blocks dt).extends (defaulted_passes s t q value there.span (moved_passes d)) (target_passes dt)
  target_passes {at} {value}
      (lowered.TargetPattern there w of_object forced items rest pattern pieces later s t u v is ahead taken are l) =
      passes_then s (later_blocks l).extends
      (passes_value s u (destructured variables.Reassign pattern value) (Some at)
      (passes_then s (taken_stays taken).blocks.extends (stays_passes (ahead_stays ahead)) (stays_passes (taken_stays taken))))
      (later_passes l)

  pub later_passes : {names : Names} {later : List Later} {s t : State} → LoweredLater names later s t → Passes s t
  later_passes (lowered.NoLater s) = passes_refl s
  later_passes (lowered.NextLater value part later s t u p d ds) =
      passes_then s (later_blocks ds).extends (target_passes d) (later_passes ds)

  pub spine_passes : {names : Names} {below : Bool} {e : Syntax} {s t : State} {p : Place} → LoweredSpine names below e s t p
      → Passes s t
  spine_passes (lowered.Outermost e s t front p d) = link_passes d
  spine_passes (lowered.Asserted at e s t p d) = spine_passes d
  spine_passes (lowered.Broken at e s t p is d) = spine_passes d

  pub link_passes : {names : Names} {alternate : Option BlockId} {e : Syntax} {s t : State} {front : Front} {p : Place}
      → LoweredLink names alternate e s t front p → Passes s t
  link_passes (lowered.LinkedProperty alternate at w optional object rest parts pieces o key s t u is d ds) =
      let opened : State = link_objected (link_at s at.span optional alternate) t o in
      linked_passes alternate s t (with_value u (load_of o key) (Some at.span)) at.span optional o (temporary u (Some at.span))
      (front_blocks d).extends (extends_then (all_blocks ds).extends (extends_value u (load_of o key) (Some at.span)))
      (front_passes d) (passes_value opened u (load_of o key) (Some at.span) (all_passes ds))
  link_passes (lowered.LinkedPrivate alternate at optional object name o s t d) =
      let opened : State = link_objected (link_at s at.span optional alternate) t o in
      let value : InstructionValue = values.Primitive primitives.Undefined in
      linked_passes alternate s t (with_value (private_met opened at.span) value (Some at.span))
      at.span optional o (temporary (private_met opened at.span) (Some at.span)) (front_blocks d).extends
      (blocks_noted_value opened (refusal row.F3 at.span) value (Some at.span)).extends (front_passes d)
      (value_passes (private_met opened at.span) value (Some at.span))
  link_passes (lowered.LinkedCall alternate at optional callee es pieces given front s t u d ds is) =
      let opened : State = link_objected (link_at s at.span optional alternate) t (tested_front front) in
      linked_passes alternate s t (with_value u (call_of front given) (Some at.span)) at.span optional (tested_front front)
      (temporary u (Some at.span)) (front_blocks d).extends
      (extends_then (all_blocks ds).extends (extends_value u (call_of front given) (Some at.span))) (front_passes d)
      (passes_value opened u (call_of front given) (Some at.span) (all_passes ds))

  pub front_passes : {names : Names} {alternate : BlockId} {is_called : Bool} {e : Syntax} {s t : State} {front : Front}
      → LoweredFront names alternate is_called e s t front → Passes s t
  front_passes (lowered.FrontLink alternate is_called e s t front p d) = link_passes d
  front_passes (lowered.FrontBroken alternate is_called at e s t p d) = spine_passes d
  front_passes (lowered.FrontMethod alternate at w fields parts pieces object key s t is ds) =
      passes_value s t (load_of object key) (Some at.span) (all_passes ds)
  front_passes (lowered.FrontAlone alternate is_called e s t p is d) = expression_passes d

  pub all_passes : {names : Names} {of_object : Bool} {es : Pieces} {s t : State} {pieces : List Piece}
      → LoweredParts names of_object es s t pieces → Passes s t
  all_passes (lowered.NoPart s) = passes_refl s
  all_passes (lowered.NextPart e es s t u p pieces d ds) = passes_then s (all_blocks ds).extends (expression_passes d) (all_passes ds)
  all_passes (lowered.NextSpread at e es s t u p pieces d ds) = passes_then s (all_blocks ds).extends (expression_passes d) (all_passes ds)
  all_passes (lowered.NextHole at es s u pieces ds) = all_passes ds
  all_passes (lowered.NextProperty at computed key e text es s t u p pieces is d ds) =
      passes_then s (all_blocks ds).extends (expression_passes d) (all_passes ds)
  all_passes (lowered.NextComputed at key e es s r t u p q pieces is k d ds) =
      passes_then s (all_blocks ds).extends (passes_then s (expression_blocks d).extends (expression_passes k) (expression_passes d))
      (all_passes ds)
  all_passes (lowered.NextFraction at there e text es s t u p pieces is d ds) =
      passes_then (recorded s (refusal row.F43 there.span)) (all_blocks ds).extends (expression_passes d) (all_passes ds)
  all_passes (lowered.NextUnknown at computed key e es s u pieces is ds) = all_passes ds

  pub last_passes : {names : Names} {es : Pieces} {s t : State} {p : Place} → LoweredLast names es s t p → Passes s t
  last_passes (lowered.LastPart e s t p d) = expression_passes d
  last_passes (lowered.EarlierPart e next es s t u p q d ds) = passes_then s (last_blocks ds).extends (expression_passes d) (last_passes ds)

mutual
  pub pattern_passes : {names : Names} {again : Bool} {k : InstructionKind} {at : Span} {value : Place} {e : Syntax} {s t : State}
      {p : Place} → LoweredPattern names again k at value e s t p → Passes s t
  pattern_passes {names} {again} {k} {at} {value} (lowered.BoundName bind name type symbol identifier s annotated is f) =
      passes_value s (met again names s symbol identifier bind.span) (values.StoreLocal k (variable_at identifier at) value) (Some at)
      (stays_passes (stays_met again names s symbol bind.span identifier f))
  pattern_passes {value} (lowered.BoundDefault there pattern default s t u q p d dt) =
      passes_then s (pattern_blocks dt).extends (defaulted_passes s t q value there.span (moved_passes d)) (pattern_passes dt)
  pattern_passes {k} {at} {value} (lowered.BoundPattern there w of_object items rest pattern pieces later s u v is bound are l) =
      passes_then s (bound_blocks l).extends
      (passes_value s u (destructured k pattern value) (Some at) (stays_passes (bound_stays bound))) (bound_passes l)

  pub bound_passes : {names : Names} {again : Bool} {k : InstructionKind} {later : List Later} {s t : State}
      → LoweredBound names again k later s t → Passes s t
  bound_passes (lowered.NothingBound s) = passes_refl s
  bound_passes (lowered.NextBound value part later s t u p d ds) =
      passes_then s (bound_blocks ds).extends (pattern_passes d) (bound_passes ds)

pub params_passes : {names : Names} {es : Pieces} {rest : Syntax} {s t : State} {ps : List Param}
    → LoweredParams names es rest s t ps → Passes s t
params_passes (lowered.NoParam s) = passes_refl s
params_passes (lowered.RestParam there pattern s t p d) = pattern_passes d
params_passes {names} (lowered.PlainParam there bind name type rest more symbol identifier s t ps annotated is f ds) = params_passes ds
params_passes (lowered.PatternParam there pattern rest more s t u p ps is d ds) =
    passes_then s (params_blocks ds).extends (pattern_passes d) (params_passes ds)
params_passes (lowered.DefaultParam there pattern default rest more s t u v q p ps d dt ds) =
    let x : State = promoted s there.span in
    passes_then s (params_blocks ds).extends
    (passes_then s (pattern_blocks dt).extends (defaulted_passes x t q (caught s there.span) there.span (moved_passes d))
    (pattern_passes dt)) (params_passes ds)

declarators_passes : {names : Names} {at : Span} {k : InstructionKind} {es : Pieces} {s t : State} → LoweredDeclarators names at k es s t
    → Passes s t
declarators_passes (lowered.NoDeclarator s) = passes_refl s
declarators_passes {names} {k} (lowered.NextDeclared there bind name type more symbol identifier s u annotated is f d) =
    passes_then s (declarators_blocks d).extends
    (value_passes (found names s symbol bind.span)
    (values.DeclareLocal k (record { identifier = record { 0 = identifier }; span = Some bind.span })) (Some bind.span))
    (declarators_passes d)
declarators_passes {names} {at} {k} (lowered.NextInitialized there bind name type init more symbol identifier s t u p annotated is d f ds) =
    passes_then s (declarators_blocks ds).extends
    (passes_then s (blocks_found_value names t symbol bind.span identifier _ (Some at) f).extends (expression_passes d)
    (value_passes (found names t symbol bind.span)
    (values.StoreLocal k (record { identifier = record { 0 = identifier }; span = Some at }) p) (Some at)))
    (declarators_passes ds)
declarators_passes (lowered.NextTakenApart there pattern init more s t u v p q is present d dp ds) =
    passes_then s (declarators_blocks ds).extends
    (passes_then s (pattern_blocks dp).extends (expression_passes d) (pattern_passes dp)) (declarators_passes ds)
declarators_passes {at} (lowered.NextUntaken there pattern more s u v q is dp ds) =
    passes_then s (declarators_blocks ds).extends
    (passes_then s (pattern_blocks dp).extends (value_passes s (values.Primitive primitives.Undefined) (Some at)) (pattern_passes dp))
    (declarators_passes ds)

pub head_passes : {names : Names} {value : Place} {e : Syntax} {s t : State} {p : Place} → LoweredHead names value e s t p → Passes s t
head_passes {names} {value} (lowered.Declared at there bind kind name type symbol identifier s annotated is f) =
    value_passes (found_again names s symbol identifier bind.span)
    (values.StoreLocal variables.Let (record { identifier = record { 0 = identifier }; span = Some at.span }) value) (Some at.span)
head_passes {names} {value} (lowered.Reassigned at name symbol identifier s is mutable f) =
    value_passes (found names s symbol at.span)
    (values.StoreLocal variables.Reassign (record { identifier = record { 0 = identifier }; span = Some at.span }) value) (Some at.span)
head_passes {names} (lowered.ReassignedConstant at name symbol identifier s is constant f) =
    passes_refl (recorded (found names s symbol at.span) (diagnostic_at row.F6 (names.name symbol.0) at.span))
head_passes {value} (lowered.StoredGlobal at name binding s is) = value_passes s (values.StoreGlobal name value) (Some at.span)
head_passes {value} (lowered.StoredMember at w fields parts pieces object key s t is l) =
    passes_value s t (store_of object key value) (Some at.span) (all_passes l)
head_passes (lowered.DeclaredPattern at there kind pattern s t p is d) = pattern_passes d
head_passes (lowered.StoredPattern at w fields s t p is d) = target_passes d
head_passes (lowered.Lost at w fields s is) = passes_refl (recorded s (refusal (row_of_head w) at.span))

-- A declaration of variables, from its statement.
pub record Declares (names : Names) (at : At) (fields : Pieces) (s t : State) : Type 0 where
  pub kind : VariableKind
  pub declarators : Pieces
  pub are : Then (Said (variable_text kind)) (Then (Listed declarators) End) ≡ fields
  pub by : LoweredDeclarators names at.span (kind_of kind) declarators (declaring s kind at.span) t

pub loop_is : {names : Names} {own : Label} {e : Syntax} {s t : State} → LoweredLoop names own e s t → is_loop e ≡ true
loop_is (lowered.While at test body s s2 s3 p d dt) = refl
loop_is (lowered.DoWhile at test body s s2 s3 p d dt) = refl
loop_is (lowered.ForUpdated at init test update body s s2 s3 s4 s5 u p di du d dt) = refl
loop_is (lowered.ForPlain at init test body s s2 s3 s4 p di d dt) = refl
loop_is (lowered.ForIn at head right body s s2 s3 s4 collection p d dr dp) = refl
loop_is (lowered.ForOf at head right body s s2 s3 s4 collection p d dr dp) = refl
loop_is (lowered.AwaitRefused at head right body s) = refl

pub declares_of : {names : Names} {at : At} {fields : Pieces} {s t : State} → LoweredStatement names (Node at word.Var fields) s t
    → Declares names at fields s t
declares_of (lowered.Variables at k declarators s t d) = record { kind = k; declarators = declarators; are = refl; by = d }
declares_of (lowered.Unlabeled loop s t d) = let never : false ≡ true = loop_is d in absurd (cc)

declaring_passes : (s t : State) (k : VariableKind) (at : Span) → Passes (declaring s k at) t → Passes s t
declaring_passes s t kinds.Var at onward = onward
declaring_passes s t _ at onward = onward

pub init_passes : {names : Names} {at : Span} {e : Syntax} {s t : State} → LoweredInit names at e s t → Passes s t
init_passes {at} (lowered.NoInit s) = value_passes s (values.Primitive primitives.Undefined) (Some at)
init_passes (lowered.DeclaredInit there fields s t d) =
    let v = declares_of d in declaring_passes s t v.kind there.span (declarators_passes v.by)
init_passes (lowered.RefusedInit e s t p d) = expression_passes d

pub test_passes : {names : Names} {at : Span} {e : Syntax} {s t : State} {p : Place} → LoweredTest names at e s t p → Passes s t
test_passes {at} (lowered.NoTest s) =
    value_passes (recorded s (refusal row.F32 at)) (values.Primitive (primitives.Boolean true)) (Some at)
test_passes (lowered.Tested e s t p d) = expression_passes d

-- A test that may be evaluated in another place completes, as one does that may not.
pub case_test_passes : {names : Names} {e : Syntax} {s t : State} {p : Option Place} → LoweredCaseTest names e s t p → Passes s t
case_test_passes (lowered.NoCaseTest s) = passes_refl s
case_test_passes (lowered.CaseTested e s t p is d) = expression_passes d
case_test_passes (lowered.CaseMoved at w fields s t p is d) = expression_passes d
