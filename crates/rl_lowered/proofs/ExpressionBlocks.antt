-- The lowering of expressions, patterns, parameters and declarations preserves the blocks.
use Rattle.std.proofs.Common.{Bool, true, List, Option, Some}
use Rattle.rl_base.specs.declared.row.Row.TheVariants as row
use Rattle.rl_base.specs.Diagnostics.{diagnostic_at}
use Rattle.rl_builder.specs.Builder.{recorded, with_temporary}
use Rattle.rl_builder.specs.Temporaries.{temporary, with_value}
use Rattle.rl_frames.proofs.Sequences.{sequence_blocks}
use Rattle.rl_frames.proofs.ValueFrames.{logical_blocks, ternary_blocks}
use Rattle.rl_hir.specs.declared.function.Param.{Param}
use Rattle.rl_hir.specs.declared.instruction.InstructionKind.{InstructionKind}
use Rattle.rl_hir.specs.declared.instruction.InstructionKind.TheVariants as variables
use Rattle.rl_hir.specs.declared.instruction.InstructionValue.TheVariants as values
use Rattle.rl_hir.specs.declared.instruction.PrimitiveValue.TheVariants as primitives
use Rattle.rl_lowered.proofs.ChainFrames.{BlocksTo, linked_blocks}
use Rattle.rl_lowered.proofs.Catches.{blocks_promoted}
use Rattle.rl_lowered.proofs.Common.{BlockId, Diagnostic, InstructionValue, Names, Piece, Pieces, Place, Span, State, Syntax}
use Rattle.rl_lowered.proofs.ItemBlocks.{ahead_stays, blocks_found, blocks_found_again, bound_stays, stays_met, taken_stays}
use Rattle.rl_lowered.specs.Forms.{Front, call_of, load_of, store_of, tested_front, typed}
use Rattle.rl_lowered.specs.Items.{Later, caught, destructured, found_again, met, promoted, variable_at}
use Rattle.rl_lowered.specs.Lowered.{Lowered, LoweredCaseTest, LoweredDeclarators, LoweredHead}
use Rattle.rl_lowered.specs.Lowered.{LoweredFront, LoweredLast, LoweredLink, LoweredParts, LoweredSpine}
use Rattle.rl_lowered.specs.Lowered.{LoweredTest, private_met}
use Rattle.rl_lowered.specs.Lowered.{assigned_to}
use Rattle.rl_lowered.specs.Lowered.{name_computed}
use Rattle.rl_lowered.specs.Lowered.{value_span}
use Rattle.rl_lowered.specs.Lowered.{LoweredBound, LoweredLater, LoweredMoved, LoweredParams, LoweredPattern, LoweredTarget}
use Rattle.rl_lowered.specs.Lowered as lowered
use Rattle.rl_lowered.specs.Named.{found}
use Rattle.rl_optional_frames.proofs.DefaultBlocks.{default_blocks}
use Rattle.rl_optional_frames.proofs.Reaching.{link_of_blocks}
use Rattle.rl_optional_frames.specs.Frames.{default_at, default_ended, link_at, link_objected}
use Rattle.rl_optional_frames.specs.Links.{LinkBlocks}
use Rattle.rl_promises.specs.Moved.{type_name}
use Rattle.rl_promises.specs.Rows.{refusal, row_of_head}
use Rattle.rl_runs.proofs.Preserving.{blocks_recorded, blocks_refl}
use Rattle.rl_runs.proofs.Preserving.{blocks_temporary, blocks_then, blocks_value}
use Rattle.rl_runs.specs.Blocks.{PreservesBlocks}
use Rattle.rl_syntax.specs.Syntax.{span_of}
use Rattle.rl_lowered.proofs.BlockMoves.{blocks_assigned, blocks_cast, blocks_constant, blocks_found_value, blocks_member}
use Rattle.rl_lowered.proofs.BlockMoves.{blocks_noted_value, blocks_reloaded}

mutual
  pub expression_blocks : {names : Names} {e : Syntax} {s t : State} {p : Place} → Lowered names e s t p → PreservesBlocks s t
  expression_blocks (lowered.Literal at w fields p s is) = blocks_value s (values.Primitive p) (Some at.span)
  expression_blocks (lowered.Refused at w fields r s is) =
      blocks_noted_value s (refusal r at.span) (values.Primitive primitives.Undefined) (Some at.span)
  expression_blocks (lowered.RefusedBefore at w fields parts r pieces s t is l) =
      let noted : State = recorded s (refusal r at.span) in
      blocks_then s noted _ (blocks_recorded s (refusal r at.span))
      (blocks_then noted t _ (all_blocks l) (blocks_value t (values.Primitive primitives.Undefined) (Some at.span)))
  expression_blocks (lowered.RefusedBehind at object name s t p l) =
      blocks_then s t _ (expression_blocks l)
      (blocks_noted_value t (refusal row.F3 at.span) (values.Primitive primitives.Undefined) (Some at.span))
  expression_blocks (lowered.Private at w fields e s t p is l) = expression_blocks l
  expression_blocks {names} (lowered.Variable at name symbol identifier s is f) =
      blocks_found_value names s symbol at.span identifier _ (Some at.span) f
  expression_blocks {names} (lowered.UpdatedVariable at there name symbol identifier operator prefix s is mutable f g) =
      let first : State = found names s symbol there.span in
      blocks_then s first _ (blocks_found names s symbol there.span identifier f)
      (blocks_found_value names first symbol there.span identifier _ (Some at.span) g)
  expression_blocks {names} (lowered.UpdatedConstant at there name symbol identifier operator prefix s is constant f) =
      blocks_constant names s symbol there.span at.span identifier f
  expression_blocks (lowered.UpdatedMember at there w fields parts pieces object key operator prefix s t is l) =
      blocks_then s t _ (all_blocks l) (blocks_member t object key operator there.span)
  expression_blocks {names} (lowered.AssignedVariable at there name right symbol identifier s t p is mutable l f) =
      blocks_then s t _ (expression_blocks l)
      (blocks_found_value names t symbol there.span identifier (assigned_to identifier there.span p) (Some there.span) f)
  expression_blocks {names} (lowered.AssignedConstant at there name right symbol identifier s t p is constant l f) =
      blocks_then s t _ (expression_blocks l) (blocks_constant names t symbol there.span there.span identifier f)
  expression_blocks (lowered.AssignedGlobal at there name right binding s t p is l) =
      blocks_then s t _ (expression_blocks l) (blocks_value t (values.StoreGlobal name p) (Some there.span))
  expression_blocks (lowered.AssignedMember at there w fields parts pieces object key right s t u p is l ls) =
      blocks_then s t _ (expression_blocks l)
      (blocks_then t u _ (all_blocks ls) (blocks_value u (store_of object key p) (Some there.span)))
  expression_blocks (lowered.AssignedPrivate at there object name right s t u p q l m) =
      blocks_then s t _ (expression_blocks l)
      (blocks_then t u _ (expression_blocks m)
      (blocks_noted_value u (refusal row.F5 at.span) (values.Primitive primitives.Undefined) (Some at.span)))
  expression_blocks (lowered.AssignedPattern at there w fields right s t u p q is l d) =
      blocks_then s t u (expression_blocks l) (target_blocks d)
  expression_blocks {names}
      (lowered.CompoundVariable at there name operator applied right symbol identifier s t u q p is mutable applies l m f) =
      blocks_then s t _ (expression_blocks l)
      (blocks_then t u _ (expression_blocks m) (blocks_reloaded names u applied q p at.span there.span symbol identifier f))
  expression_blocks {names}
      (lowered.CompoundConstant at there name operator applied right symbol identifier s t u q p is constant applies l m f) =
      blocks_then s t _ (expression_blocks l)
      (blocks_then t u _ (expression_blocks m) (blocks_constant names u symbol there.span at.span identifier f))
  expression_blocks (lowered.CompoundGlobal at there name operator applied right binding s t u q p is applies l m) =
      let computed : State = name_computed u applied q p at.span in
      blocks_then s t _ (expression_blocks l)
      (blocks_then t u _ (expression_blocks m)
      (blocks_then u computed _ (blocks_value u (values.BinaryExpression applied q p) (Some at.span))
      (blocks_value computed (values.StoreGlobal name (temporary u (Some at.span))) (Some at.span))))
  expression_blocks (lowered.CompoundMember at there w fields parts pieces object key operator applied right s t u p is applies ls l) =
      let loaded : State = with_value t (load_of object key) (Some there.span) in
      blocks_then s t _ (all_blocks ls)
      (blocks_then t loaded _ (blocks_value t (load_of object key) (Some there.span))
      (blocks_then loaded u _ (expression_blocks l) (blocks_assigned t u object key applied p there.span)))
  expression_blocks (lowered.CompoundPrivate at there fields operator applied right s t u q p applies l m) =
      blocks_then s t _ (expression_blocks l)
      (blocks_then t u _ (expression_blocks m) (blocks_value u (values.Primitive primitives.Undefined) (Some at.span)))
  expression_blocks (lowered.Method at there w fields parts es pieces given_pieces object key given s t u is l given_are m) =
      let loaded : State = with_value t (load_of object key) (Some there.span) in
      blocks_then s t _ (all_blocks l)
      (blocks_then t loaded _ (blocks_value t (load_of object key) (Some there.span))
      (blocks_then loaded u _ (all_blocks given_are) (blocks_value u _ (Some at.span))))
  expression_blocks (lowered.Cast at there w fields e type k s t p is annotated l) =
      blocks_then s t _ (expression_blocks l)
      (blocks_then t (typed t k) _ (blocks_cast t k) (blocks_value (typed t k) _ (Some at.span)))
  expression_blocks (lowered.Global at name binding s means other) = blocks_value s (values.LoadGlobal binding) (Some at.span)
  expression_blocks (lowered.RefusedGlobal at name binding s means is) =
      blocks_noted_value s (refusal row.F2 at.span) (values.LoadGlobal binding) (Some at.span)
  expression_blocks (lowered.Same at w fields e s t p is d) = expression_blocks d
  expression_blocks (lowered.Asked at w fields parts pieces v s t form d) =
      blocks_then s t _ (all_blocks d) (blocks_value t v (Some at.span))
  expression_blocks (lowered.Object at es pieces properties s t is l) =
      blocks_then s t _ (all_blocks l) (blocks_value t (values.ObjectExpression properties) (Some at.span))
  expression_blocks (lowered.Logical at operator left right s s2 s3 l r dr dl) =
      logical_blocks s s2 s3 operator r l at.span (span_of left) (value_span r right) (expression_blocks dr) (expression_blocks dl)
  expression_blocks (lowered.Conditional at test consequent alternate s s2 s3 s4 c a p dc da dt) =
      ternary_blocks s s2 s3 s4 c a p at.span (span_of consequent) (span_of alternate) (expression_blocks dc) (expression_blocks da)
      (expression_blocks dt)
  expression_blocks (lowered.Sequence at e es s s2 p d) = sequence_blocks s s2 p at.span at.span (last_blocks d)
  expression_blocks (lowered.Chain at e s t p d) = spine_blocks d

  pub moved_blocks : {names : Names} {e : Syntax} {s t : State} {p : Place} → LoweredMoved names e s t p → PreservesBlocks s t
  moved_blocks (lowered.Stays e s t p is d) = expression_blocks d
  moved_blocks (lowered.Moved at w fields s t p is d) =
      let noted : Diagnostic = diagnostic_at row.F29 (type_name w) at.span in
      blocks_then s (recorded s noted) t (blocks_recorded s noted) (expression_blocks d)

  pub target_blocks : {names : Names} {at : Span} {value : Place} {e : Syntax} {s t : State} {p : Place}
      → LoweredTarget names at value e s t p → PreservesBlocks s t
  target_blocks {names} {at} {value} (lowered.TargetVariable there name symbol identifier s is mutable f) =
      blocks_found_value names s symbol there.span identifier (assigned_to identifier at value) (Some at) f
  target_blocks {names} (lowered.TargetConstant there name symbol identifier s is constant f) =
      let first : State = found names s symbol there.span in
      blocks_then s first _ (blocks_found names s symbol there.span identifier f)
      (blocks_recorded first (diagnostic_at row.F6 (names.name symbol.0) there.span))
  target_blocks {at} {value} (lowered.TargetGlobal there name binding s is) = blocks_value s (values.StoreGlobal name value) (Some at)
  target_blocks {at} {value} (lowered.TargetMember there w fields parts pieces object key s t is l) =
      blocks_then s t _ (all_blocks l) (blocks_value t (store_of object key value) (Some at))
  target_blocks (lowered.TargetLost there w fields s is) = blocks_recorded s (refusal (row_of_head w) there.span)
  target_blocks {value} (lowered.TargetDefaulted there w fields target default s t u q p is d dt) =
      blocks_then s (default_ended (default_at s there.span value) t q) u (default_blocks s t q value there.span (moved_blocks d))
      (target_blocks dt)
  target_blocks {at} {value}
      (lowered.TargetPattern there w of_object forced items rest pattern pieces later s t u v is ahead taken are l) =
      let apart : InstructionValue = destructured variables.Reassign pattern value in
      blocks_then s t v (ahead_stays ahead).blocks
      (blocks_then t u v (taken_stays taken).blocks
      (blocks_then u (with_value u apart (Some at)) v (blocks_value u apart (Some at)) (later_blocks l)))

  pub later_blocks : {names : Names} {later : List Later} {s t : State} → LoweredLater names later s t → PreservesBlocks s t
  later_blocks (lowered.NoLater s) = blocks_refl s
  later_blocks (lowered.NextLater value part later s t u p d ds) = blocks_then s t u (target_blocks d) (later_blocks ds)

  pub spine_blocks : {names : Names} {below : Bool} {e : Syntax} {s t : State} {p : Place} → LoweredSpine names below e s t p
      → PreservesBlocks s t
  spine_blocks (lowered.Outermost e s t front p d) = link_blocks d
  spine_blocks (lowered.Asserted at e s t p d) = spine_blocks d
  spine_blocks (lowered.Broken at e s t p is d) =
      blocks_then s (recorded s (refusal row.F44 at.span)) t (blocks_recorded s (refusal row.F44 at.span)) (spine_blocks d)

  pub link_blocks : {names : Names} {alternate : Option BlockId} {e : Syntax} {s t : State} {front : Front} {p : Place}
      → LoweredLink names alternate e s t front p → BlocksTo alternate s t
  link_blocks (lowered.LinkedProperty alternate at w optional object rest parts pieces o key s t u is d ds) =
      linked_blocks alternate s t (with_value u (load_of o key) (Some at.span)) at.span optional o (temporary u (Some at.span))
      (front_blocks d)
      (blocks_then (link_objected (link_at s at.span optional alternate) t o) u _ (all_blocks ds)
      (blocks_value u (load_of o key) (Some at.span)))
  link_blocks (lowered.LinkedPrivate alternate at optional object name o s t d) =
      let opened : State = link_objected (link_at s at.span optional alternate) t o in
      linked_blocks alternate s t (with_value (private_met opened at.span) (values.Primitive primitives.Undefined) (Some at.span))
      at.span optional o (temporary (private_met opened at.span) (Some at.span)) (front_blocks d)
      (blocks_noted_value opened (refusal row.F3 at.span) (values.Primitive primitives.Undefined) (Some at.span))
  link_blocks (lowered.LinkedCall alternate at optional callee es pieces given front s t u d ds is) =
      linked_blocks alternate s t (with_value u (call_of front given) (Some at.span)) at.span optional (tested_front front)
      (temporary u (Some at.span)) (front_blocks d)
      (blocks_then (link_objected (link_at s at.span optional alternate) t (tested_front front)) u _ (all_blocks ds)
      (blocks_value u (call_of front given) (Some at.span)))

  pub front_blocks : {names : Names} {alternate : BlockId} {is_called : Bool} {e : Syntax} {s t : State} {front : Front}
      → LoweredFront names alternate is_called e s t front → LinkBlocks alternate.0 s t
  front_blocks (lowered.FrontLink alternate is_called e s t front p d) = link_blocks d
  front_blocks (lowered.FrontBroken alternate is_called at e s t p d) = link_of_blocks alternate.0 s t (spine_blocks d)
  front_blocks (lowered.FrontMethod alternate at w fields parts pieces object key s t is ds) =
      link_of_blocks alternate.0 s (with_value t (load_of object key) (Some at.span))
      (blocks_then s t _ (all_blocks ds) (blocks_value t (load_of object key) (Some at.span)))
  front_blocks (lowered.FrontAlone alternate is_called e s t p is d) = link_of_blocks alternate.0 s t (expression_blocks d)

  pub all_blocks : {names : Names} {of_object : Bool} {es : Pieces} {s t : State} {pieces : List Piece}
      → LoweredParts names of_object es s t pieces
      → PreservesBlocks s t
  all_blocks (lowered.NoPart s) = blocks_refl s
  all_blocks (lowered.NextPart e es s t u p pieces d ds) = blocks_then s t u (expression_blocks d) (all_blocks ds)
  all_blocks (lowered.NextSpread at e es s t u p pieces d ds) = blocks_then s t u (expression_blocks d) (all_blocks ds)
  all_blocks (lowered.NextHole at es s u pieces ds) = all_blocks ds
  all_blocks (lowered.NextProperty at computed key e text es s t u p pieces is d ds) =
      blocks_then s t u (expression_blocks d) (all_blocks ds)
  all_blocks (lowered.NextComputed at key e es s r t u p q pieces is k d ds) =
      blocks_then s r u (expression_blocks k) (blocks_then r t u (expression_blocks d) (all_blocks ds))
  all_blocks (lowered.NextFraction at there e text es s t u p pieces is d ds) =
      let noted : State = recorded s (refusal row.F43 there.span) in
      blocks_then s noted u (blocks_recorded s (refusal row.F43 there.span)) (blocks_then noted t u (expression_blocks d) (all_blocks ds))
  all_blocks (lowered.NextUnknown at computed key e es s u pieces is ds) =
      blocks_then s (recorded s (refusal row.F9 (span_of key))) u (blocks_recorded s (refusal row.F9 (span_of key))) (all_blocks ds)

  pub last_blocks : {names : Names} {es : Pieces} {s t : State} {p : Place} → LoweredLast names es s t p
      → PreservesBlocks s t
  last_blocks (lowered.LastPart e s t p d) = expression_blocks d
  last_blocks (lowered.EarlierPart e next es s t u p q d ds) = blocks_then s t u (expression_blocks d) (last_blocks ds)

-- A binding pattern, and parameters.

mutual
  pub pattern_blocks : {names : Names} {again : Bool} {k : InstructionKind} {at : Span} {value : Place} {e : Syntax} {s t : State}
      {p : Place} → LoweredPattern names again k at value e s t p → PreservesBlocks s t
  pattern_blocks {names} {again} {k} {at} {value} (lowered.BoundName bind name type symbol identifier s annotated is f) =
      let here : State = met again names s symbol identifier bind.span in
      blocks_then s here _ (stays_met again names s symbol bind.span identifier f).blocks
      (blocks_value here (values.StoreLocal k (variable_at identifier at) value) (Some at))
  pattern_blocks {value} (lowered.BoundDefault there pattern default s t u q p d dt) =
      blocks_then s (default_ended (default_at s there.span value) t q) u (default_blocks s t q value there.span (moved_blocks d))
      (pattern_blocks dt)
  pattern_blocks {k} {at} {value} (lowered.BoundPattern there w of_object items rest pattern pieces later s u v is bound are l) =
      let apart : InstructionValue = destructured k pattern value in
      blocks_then s u v (bound_stays bound).blocks
      (blocks_then u (with_value u apart (Some at)) v (blocks_value u apart (Some at)) (bound_blocks l))

  pub bound_blocks : {names : Names} {again : Bool} {k : InstructionKind} {later : List Later} {s t : State}
      → LoweredBound names again k later s t → PreservesBlocks s t
  bound_blocks (lowered.NothingBound s) = blocks_refl s
  bound_blocks (lowered.NextBound value part later s t u p d ds) = blocks_then s t u (pattern_blocks d) (bound_blocks ds)

pub params_blocks : {names : Names} {es : Pieces} {rest : Syntax} {s t : State} {ps : List Param}
    → LoweredParams names es rest s t ps → PreservesBlocks s t
params_blocks (lowered.NoParam s) = blocks_refl s
params_blocks (lowered.RestParam there pattern s t p d) =
    blocks_then s (with_temporary s (Some there.span)) t (blocks_temporary s (Some there.span)) (pattern_blocks d)
params_blocks {names} (lowered.PlainParam there bind name type rest more symbol identifier s t ps annotated is f ds) =
    blocks_then s _ t (blocks_found names s symbol bind.span identifier f) (params_blocks ds)
params_blocks (lowered.PatternParam there pattern rest more s t u p ps is d ds) =
    blocks_then s (promoted s there.span) u (blocks_promoted s there.span) (blocks_then _ t u (pattern_blocks d) (params_blocks ds))
params_blocks (lowered.DefaultParam there pattern default rest more s t u v q p ps d dt ds) =
    let x : State = promoted s there.span in
    let ended : State = default_ended (default_at x there.span (caught s there.span)) t q in
    blocks_then s x v (blocks_promoted s there.span)
    (blocks_then x ended v (default_blocks x t q (caught s there.span) there.span (moved_blocks d))
    (blocks_then ended u v (pattern_blocks dt) (params_blocks ds)))

pub declarators_blocks : {names : Names} {at : Span} {k : InstructionKind} {es : Pieces} {s t : State}
    → LoweredDeclarators names at k es s t → PreservesBlocks s t
declarators_blocks (lowered.NoDeclarator s) = blocks_refl s
declarators_blocks {names} (lowered.NextDeclared there bind name type more symbol identifier s u annotated is f d) =
    blocks_then s _ u (blocks_found_value names s symbol bind.span identifier _ (Some bind.span) f) (declarators_blocks d)
declarators_blocks {names} {at} (lowered.NextInitialized there bind name type init more symbol identifier s t u p annotated is d f ds) =
    blocks_then s t u (expression_blocks d)
    (blocks_then t _ u (blocks_found_value names t symbol bind.span identifier _ (Some at) f) (declarators_blocks ds))
declarators_blocks (lowered.NextTakenApart there pattern init more s t u v p q is present d dp ds) =
    blocks_then s t v (expression_blocks d) (blocks_then t u v (pattern_blocks dp) (declarators_blocks ds))
declarators_blocks {at} (lowered.NextUntaken there pattern more s u v q is dp ds) =
    let made : State = with_value s (values.Primitive primitives.Undefined) (Some at) in
    blocks_then s made v (blocks_value s (values.Primitive primitives.Undefined) (Some at))
    (blocks_then made u v (pattern_blocks dp) (declarators_blocks ds))

-- The head of a loop over keys or values.
pub head_blocks : {names : Names} {value : Place} {e : Syntax} {s t : State} {p : Place} → LoweredHead names value e s t p
    → PreservesBlocks s t
head_blocks {names} (lowered.Declared at there bind kind name type symbol identifier s annotated is f) =
    let again : State = found_again names s symbol identifier bind.span in
    blocks_then s again _ (blocks_found_again names s symbol bind.span identifier f) (blocks_value again _ (Some at.span))
head_blocks {names} (lowered.Reassigned at name symbol identifier s is mutable f) =
    blocks_found_value names s symbol at.span identifier _ (Some at.span) f
head_blocks {names} (lowered.ReassignedConstant at name symbol identifier s is constant f) =
    let first : State = found names s symbol at.span in
    blocks_then s first _ (blocks_found names s symbol at.span identifier f)
    (blocks_recorded first (diagnostic_at row.F6 (names.name symbol.0) at.span))
head_blocks {value} (lowered.StoredGlobal at name binding s is) = blocks_value s (values.StoreGlobal name value) (Some at.span)
head_blocks {value} (lowered.StoredMember at w fields parts pieces object key s t is l) =
    blocks_then s t _ (all_blocks l) (blocks_value t (store_of object key value) (Some at.span))
head_blocks (lowered.DeclaredPattern at there kind pattern s t p is d) = pattern_blocks d
head_blocks (lowered.StoredPattern at w fields s t p is d) = target_blocks d
head_blocks (lowered.Lost at w fields s is) = blocks_recorded s (refusal (row_of_head w) at.span)

-- The tests of loops and of cases.

pub test_blocks : {names : Names} {at : Span} {e : Syntax} {s t : State} {p : Place} → LoweredTest names at e s t p → PreservesBlocks s t
test_blocks {at} (lowered.NoTest s) =
    blocks_noted_value s (refusal row.F32 at) (values.Primitive (primitives.Boolean true)) (Some at)
test_blocks (lowered.Tested e s t p d) = expression_blocks d

pub case_test_blocks : {names : Names} {e : Syntax} {s t : State} {p : Option Place} → LoweredCaseTest names e s t p → PreservesBlocks s t
case_test_blocks (lowered.NoCaseTest s) = blocks_refl s
case_test_blocks (lowered.CaseTested e s t p is d) = expression_blocks d
case_test_blocks (lowered.CaseMoved at w fields s t p is d) =
    let noted : Diagnostic = diagnostic_at row.F29 (type_name w) at.span in
    blocks_then s (recorded s noted) t (blocks_recorded s noted) (expression_blocks d)
