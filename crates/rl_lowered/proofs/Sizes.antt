-- The numbers of blocks, types, identifiers and instructions that the lowering of a part adds, together: a bound by the part's nodes.
use Rattle.std.proofs.Common.{ℕ, ◌+◌, ◌≤◌, Bool, true, false, Option, Some, None, List, ◌*◌, length, arith}
use Rattle.rl_base.specs.declared.operator.UpdateOperator.{UpdateOperator}
use Rattle.rl_base.specs.declared.row.Row.{Row}
use Rattle.rl_base.specs.declared.row.Row.TheVariants as row
use Rattle.rl_base.specs.declared.type_kind.TypeKind.{TypeKind}
use Rattle.rl_base.specs.declared.type_kind.TypeKind.TheVariants as types
use Rattle.rl_base.specs.declared.variable_kind.VariableKind.{VariableKind}
use Rattle.rl_base.specs.declared.variable_kind.VariableKind.TheVariants as kinds
use Rattle.rl_base.specs.Diagnostics.{diagnostic_at}
use Rattle.rl_builder.specs.Builder.{recorded}
use Rattle.rl_builder.specs.Temporaries.{temporary, with_value}
use Rattle.rl_frames.proofs.FrameSizes.{if_alternate_size, if_begun_size, if_consequent_size, logical_begun_size, logical_ended_size}
use Rattle.rl_frames.proofs.FrameSizes.{logical_righted_size, sequence_begun_size, sequence_ended_size, ternary_alternated_size}
use Rattle.rl_frames.proofs.FrameSizes.{ternary_begun_size, ternary_consequent_size, try_size}
use Rattle.rl_frames.proofs.RoundSizes.{forin_size, forof_size}
use Rattle.rl_frames.specs.Frames.{IfParts, LogicalParts, TernaryParts, if_after_consequent, if_at, logical_after, logical_at, sequence_at}
use Rattle.rl_frames.specs.Frames.{ternary_at, ternary_parted}
use Rattle.rl_hir.specs.declared.function.Param.{Param}
use Rattle.rl_hir.specs.declared.instruction.InstructionKind.{InstructionKind}
use Rattle.rl_hir.specs.declared.instruction.InstructionKind.TheVariants as variables
use Rattle.rl_hir.specs.declared.instruction.InstructionValue.TheVariants as values
use Rattle.rl_hir.specs.declared.instruction.PrimitiveValue.TheVariants as primitives
use Rattle.rl_hir.specs.declared.terminal.Case.{Case}
use Rattle.rl_lowered.proofs.Catches.{size_promoted, size_throwing, stores_caught}
use Rattle.rl_lowered.proofs.Common.{BlockId, InstructionValue, Names, Piece, Pieces, Place, Span, State, SymbolId, Syntax}
use Rattle.rl_lowered.proofs.ItemSizes.{ahead_size, bound_size, met_size, taken_size}
use Rattle.rl_lowered.proofs.LookSizes.{found_size}
use Rattle.rl_lowered.proofs.Redeclared.{size_redeclared}
use Rattle.rl_lowered.specs.Forms.{IsDefaulted}
use Rattle.rl_lowered.specs.Forms.{Front, IsCast, IsForm, IsInside, IsLinkKey, IsMember, IsPrivate, IsRefusing, IsWrapper, MemberKey}
use Rattle.rl_lowered.specs.Forms.{call_of, load_of, store_of, tested_front, type_of, typed}
use Rattle.rl_lowered.specs.Forms as forms
use Rattle.rl_lowered.specs.Items.{Later, caught, destructured, found_again, met, promoted, variable_at}
use Rattle.rl_lowered.specs.Lowered.{Lowered, LoweredBody, LoweredCaseTest, LoweredCases, LoweredDeclarators, LoweredHead, LoweredInit}
use Rattle.rl_lowered.specs.Lowered.{LoweredFront, LoweredLink, LoweredSpine, private_met}
use Rattle.rl_lowered.specs.Lowered.{LoweredLast, LoweredLoop, LoweredParts, LoweredStatement, LoweredStatements, LoweredTest, binary_of}
use Rattle.rl_lowered.specs.Lowered.{assigned_to, catch_begun, declaring, member_computed, member_loaded, member_one}
use Rattle.rl_lowered.specs.Lowered.{member_stored, member_updated, name_computed, name_stored, update_of, value_span}
use Rattle.rl_lowered.specs.Lowered.{LoweredBound, LoweredLater, LoweredMoved, LoweredParams, LoweredPattern, LoweredTarget}
use Rattle.rl_lowered.specs.Lowered as lowered
use Rattle.rl_lowered.specs.Named.{found}
use Rattle.rl_lowered.specs.Promised.{nodes_left, share}
use Rattle.rl_model.specs.Actions.{Label}
use Rattle.rl_optional_frames.proofs.Sizes.{default_size, inner_link_size, outer_link_size}
use Rattle.rl_optional_frames.specs.Frames.{link_after, link_at, link_ended, link_objected}
use Rattle.rl_optional_frames.specs.Parts.{link_opened}
use Rattle.rl_promises.specs.Rows.{refusal}
use Rattle.rl_runs.proofs.Sizes.{size_temporary, size_value}
use Rattle.rl_runs.specs.Blocks.{size_of}
use Rattle.rl_syntax.specs.declared.word.Word.{Word}
use Rattle.rl_syntax.specs.Syntax.{nodes, nodes_of, span_of}

typed_size : (s : State) (k : TypeKind) → size_of (typed s k) ≤ size_of s + 1
typed_size s types.Array = omega arith
typed_size s types.Primitive = omega arith
typed_size s types.Other = omega arith

declaring_size : (s : State) (k : VariableKind) (at : Span) → size_of (declaring s k at) ≤ size_of s
declaring_size s kinds.Var at = omega arith
declaring_size s _ at = omega arith

member_size : (t : State) (object : Place) (key : MemberKey) (operator : UpdateOperator) (there : Span)
    → size_of (member_stored t object key operator there) ≤ size_of t + 16
member_size t object key operator there =
    let loaded : State = member_loaded t object key there in
    let one : State = member_one t object key there in
    let updated : State = member_updated t object key operator there in
    let first = size_value t (load_of object key) (Some there) in
    let second = size_value loaded (values.Primitive (primitives.Number 1)) None in
    let third = size_value one
    (values.BinaryExpression (binary_of operator) (temporary t (Some there)) (temporary loaded None)) (Some there) in
    let fourth = size_value updated (store_of object key (temporary one (Some there))) (Some there) in
    omega (arith, first, second, third, fourth)

-- The states of a store to a variable, behind its look-up, and of an assignment to a constant.

stored_size : (names : Names) (s : State) (symbol : SymbolId) (there : Span) (identifier : ℕ) (value : Place) (span : Option Span)
    → size_of (with_value (found names s symbol there) (assigned_to identifier there value) span) ≤ size_of s + 6
stored_size names s symbol there identifier value span =
    let first = found_size names s symbol there in
    let second = size_value (found names s symbol there) (assigned_to identifier there value) span in
    omega (arith, first, second)

constant_size : (names : Names) (s : State) (symbol : SymbolId) (there : Span) (span : Option Span)
    → size_of
    (with_value (recorded (found names s symbol there) (diagnostic_at row.F6 (names.name symbol.0) there))
    (values.Primitive primitives.Undefined) span) ≤ size_of s + 6
constant_size names s symbol there span =
    let noted : State = recorded (found names s symbol there) (diagnostic_at row.F6 (names.name symbol.0) there) in
    let first = found_size names s symbol there in
    let second = size_value noted (values.Primitive primitives.Undefined) span in
    omega (arith, first, second)

-- Parts in fields.

inside_nodes : {e inner : Syntax} → IsInside e inner → nodes inner ≤ nodes e
inside_nodes forms.Bare = omega arith
inside_nodes (forms.Around more) = let less = inside_nodes more in omega (arith, less)

member_nodes : {w : Word} {fields parts : Pieces} {pieces : List Piece} {object : Place} {key : MemberKey}
    → IsMember w fields parts pieces object key → nodes_of parts ≤ nodes_of fields
member_nodes forms.Static = omega arith
member_nodes (forms.Indexed other) = omega arith
member_nodes (forms.Numbered is) = omega arith

wrapper_nodes : {w : Word} {fields : Pieces} {e : Syntax} → IsWrapper w fields e → nodes e ≤ nodes_of fields
wrapper_nodes forms.Parenthesized = omega arith
wrapper_nodes forms.NonNull = omega arith
wrapper_nodes (forms.Instantiated fit) = omega arith

cast_nodes : {w : Word} {fields : Pieces} {e type : Syntax} → IsCast w fields e type → nodes e ≤ nodes_of fields
cast_nodes forms.As = omega arith
cast_nodes forms.Satisfies = omega arith
cast_nodes forms.Assert = omega arith

private_nodes : {w : Word} {fields : Pieces} {e : Syntax} → IsPrivate w fields e → nodes e ≤ nodes_of fields
private_nodes forms.PrivateUpdate = omega arith
private_nodes (forms.PrivateDelete operator deletes inside) = omega (arith, inside_nodes inside)

refusing_nodes : {w : Word} {fields parts : Pieces} {r : Row} → IsRefusing w fields parts r → nodes_of parts ≤ nodes_of fields
refusing_nodes forms.PrivateIn = omega arith
refusing_nodes forms.ImportCall = omega arith
refusing_nodes forms.ImportCallWith = omega arith

-- The parts of a kind of the table are among its fields.
pub form_nodes : {w : Word} {fields parts : Pieces} {pieces : List Piece} {v : InstructionValue} → IsForm w fields parts pieces v
    → nodes_of parts ≤ nodes_of fields
form_nodes forms.Binary = omega arith
form_nodes (forms.Unary plain) = omega arith
form_nodes forms.Await = omega arith
form_nodes (forms.Load is) = member_nodes is
form_nodes (forms.Delete operator deletes inside is) = omega (arith, inside_nodes inside, member_nodes is)
form_nodes (forms.Call plain given) = omega arith
form_nodes (forms.New given) = omega arith
form_nodes (forms.Array given) = omega arith
form_nodes (forms.Template texts given) = omega arith
form_nodes (forms.Tagged raw texts given) = omega arith
form_nodes forms.RegExp = omega arith
form_nodes forms.ImportMeta = omega arith

link_nodes : {w : Word} {rest parts : Pieces} {pieces : List Piece} {key : MemberKey} → IsLinkKey w rest parts pieces key
    → nodes_of parts ≤ nodes_of rest
link_nodes forms.LinkStatic = omega arith
link_nodes (forms.LinkIndexed other) = omega arith
link_nodes (forms.LinkNumbered is) = omega arith

-- A link of a chain, inside it or outermost.
linked_size : (alternate : Option BlockId) (s s2 s4 : State) (object value : Place) (span : Span) (optional : Bool) (m k : ℕ)
    → size_of s2 ≤ size_of (link_opened alternate s span) + m
    → size_of s4 ≤ size_of (link_objected (link_at s span optional alternate) s2 object) + k
    → size_of (link_ended (link_after (link_at s span optional alternate)) s4 value) ≤ size_of s + (18 + m + k)
linked_size None s s2 s4 object value span optional m k first second =
    outer_link_size s s2 s4 object value span optional m k first second
linked_size (Some given) s s2 s4 object value span optional m k first second =
    let less = inner_link_size s s2 s4 object value span optional given m k first second in omega (arith, less)

defaulted_nodes : {w : Word} {fields : Pieces} {target default : Syntax} → IsDefaulted w fields target default
    → nodes target + nodes default ≤ nodes_of fields
defaulted_nodes (forms.DefaultTarget whole) = omega arith
defaulted_nodes (forms.DefaultName whole is) = omega arith

-- A value behind some parts.
made_size : (s u : State) (v : InstructionValue) (span : Span) (m : ℕ) → size_of u ≤ size_of s + m
    → size_of (with_value u v (Some span)) ≤ size_of s + (m + 4)
made_size s u v span m less = omega (arith, less, size_value u v (Some span))

mutual
  pub expression_size : {names : Names} {e : Syntax} {s t : State} {p : Place} → Lowered names e s t p
      → size_of t ≤ size_of s + share (nodes e)
  expression_size (lowered.Literal at w fields p s is) = omega (arith, size_value s (values.Primitive p) (Some at.span))
  expression_size (lowered.Refused at w fields r s is) =
      omega (arith, size_value (recorded s (refusal r at.span)) (values.Primitive primitives.Undefined) (Some at.span))
  expression_size (lowered.RefusedBefore at w fields parts r pieces s t is l) =
      omega (arith, refusing_nodes is, all_size l, size_value t (values.Primitive primitives.Undefined) (Some at.span))
  expression_size (lowered.RefusedBehind at object name s t p l) =
      let noted : State = recorded t (refusal row.F3 at.span) in
      omega (arith, expression_size l, size_value noted (values.Primitive primitives.Undefined) (Some at.span))
  expression_size (lowered.Private at w fields e s t p is l) = omega (arith, private_nodes is, expression_size l)
  expression_size {names} (lowered.Variable at name symbol identifier s is f) =
      let place : Place = record { identifier = record { 0 = identifier }; span = Some at.span } in
      omega (arith, found_size names s symbol at.span, size_value (found names s symbol at.span) (values.LoadLocal place) (Some at.span))
  expression_size {names} (lowered.UpdatedVariable at there name symbol identifier operator prefix s is mutable f g) =
      let first : State = found names s symbol there.span in
      let place : Place = record { identifier = record { 0 = identifier }; span = Some there.span } in
      omega (
        arith,
        found_size names s symbol there.span,
        found_size names first symbol there.span,
        size_value (found names first symbol there.span) (update_of prefix operator place) (Some at.span),
      )
  expression_size {names} (lowered.UpdatedConstant at there name symbol identifier operator prefix s is constant f) =
      omega (arith, constant_size names s symbol there.span (Some at.span))
  expression_size (lowered.UpdatedMember at there w fields parts pieces object key operator prefix s t is l) =
      omega (arith, member_nodes is, all_size l, member_size t object key operator there.span)
  expression_size {names} (lowered.AssignedVariable at there name right symbol identifier s t p is mutable l f) =
      omega (arith, expression_size l, stored_size names t symbol there.span identifier p (Some there.span))
  expression_size {names} (lowered.AssignedConstant at there name right symbol identifier s t p is constant l f) =
      omega (arith, expression_size l, constant_size names t symbol there.span (Some there.span))
  expression_size (lowered.AssignedGlobal at there name right binding s t p is l) =
      omega (arith, expression_size l, size_value t (values.StoreGlobal name p) (Some there.span))
  expression_size (lowered.AssignedMember at there w fields parts pieces object key right s t u p is l all) =
      omega (arith, member_nodes is, expression_size l, all_size all, size_value u (store_of object key p) (Some there.span))
  expression_size (lowered.AssignedPrivate at there object name right s t u p q l inside) =
      omega (
        arith,
        expression_size l,
        expression_size inside,
        size_value (recorded u (refusal row.F5 at.span)) (values.Primitive primitives.Undefined) (Some at.span),
      )
  expression_size (lowered.AssignedPattern at there w fields right s t u p q is l d) = omega (arith, expression_size l, target_size d)
  expression_size {names}
      (lowered.CompoundVariable at there name operator applied right symbol identifier s t u q p is mutable applies l m f) =
      let computed : State = name_computed u applied q p at.span in
      let stored : State = name_stored names u applied q p at.span there.span symbol identifier in
      omega (
        arith,
        expression_size l,
        expression_size m,
        size_value u (values.BinaryExpression applied q p) (Some at.span),
        stored_size names computed symbol there.span identifier (temporary u (Some at.span)) (Some at.span),
        size_value stored (values.LoadLocal (variable_at identifier there.span)) (Some at.span),
      )
  expression_size {names}
      (lowered.CompoundConstant at there name operator applied right symbol identifier s t u q p is constant applies l m f) =
      omega (arith, expression_size l, expression_size m, constant_size names u symbol there.span (Some at.span))
  expression_size (lowered.CompoundGlobal at there name operator applied right binding s t u q p is applies l m) =
      let computed : State = name_computed u applied q p at.span in
      omega (
        arith,
        expression_size l,
        expression_size m,
        size_value u (values.BinaryExpression applied q p) (Some at.span),
        size_value computed (values.StoreGlobal name (temporary u (Some at.span))) (Some at.span),
      )
  expression_size (lowered.CompoundMember at there w fields parts pieces object key operator applied right s t u p is applies all l) =
      let computed : State = member_computed t u applied p there.span in
      omega (
        arith,
        member_nodes is,
        all_size all,
        size_value t (load_of object key) (Some there.span),
        expression_size l,
        size_value u (values.BinaryExpression applied (temporary t (Some there.span)) p) (Some there.span),
        size_value computed (store_of object key (temporary u (Some there.span))) (Some there.span),
      )
  expression_size (lowered.CompoundPrivate at there fields operator applied right s t u q p applies l m) =
      omega (arith, expression_size l, expression_size m, size_value u (values.Primitive primitives.Undefined) (Some at.span))
  expression_size (lowered.Method at there w fields parts es pieces given_pieces object key given s t u is l given_are m) =
      omega (
        arith,
        member_nodes is,
        all_size l,
        size_value t (load_of object key) (Some there.span),
        all_size given_are,
        size_value u (values.MethodCall (record { receiver = object; property = temporary t (Some there.span); arguments = given }))
            (Some at.span),
      )
  expression_size (lowered.Cast at there w fields e type k s t p is annotated l) =
      omega (
        arith,
        cast_nodes is,
        expression_size l,
        typed_size t k,
        size_value (typed t k) (values.TypeCastExpression p (type_of t k) (Some there.span)) (Some at.span),
      )
  expression_size (lowered.Global at name binding s is plain) = omega (arith, size_value s (values.LoadGlobal binding) (Some at.span))
  expression_size (lowered.RefusedGlobal at name binding s is refused) =
      omega (arith, size_value (recorded s (refusal row.F2 at.span)) (values.LoadGlobal binding) (Some at.span))
  expression_size (lowered.Same at w fields e s t p is l) = omega (arith, wrapper_nodes is, expression_size l)
  expression_size (lowered.Asked at w fields parts pieces v s t is l) =
      omega (arith, form_nodes is, all_size l, size_value t v (Some at.span))
  expression_size (lowered.Object at es pieces properties s t is l) =
      omega (arith, all_size l, size_value t (values.ObjectExpression properties) (Some at.span))
  expression_size (lowered.Logical at operator left right s s2 s3 l r second first) =
      let f : LogicalParts = logical_at s at.span operator (span_of left) in
      let begun = logical_begun_size s at.span (span_of left) in
      let righted = logical_righted_size f s2 r (value_span r right) in
      let ended = logical_ended_size (logical_after f) s3 l in
      omega (arith, begun, expression_size second, righted, expression_size first, ended)
  expression_size (lowered.Conditional at test consequent alternate s s2 s3 s4 c a p second third first) =
      let f : TernaryParts = ternary_at s at.span in
      let begun = ternary_begun_size s at.span in
      let between = ternary_consequent_size f s2 c (span_of consequent) in
      let behind = ternary_alternated_size (ternary_parted f s2 c (span_of consequent)) s3 a (span_of alternate) in
      omega (arith, begun, expression_size second, between, expression_size third, behind, expression_size first)
  expression_size (lowered.Sequence at e es s s2 p l) =
      omega (arith, last_size l, sequence_begun_size s at.span, sequence_ended_size (sequence_at s at.span) s2 p at.span)
  expression_size (lowered.Chain at e s t p l) = omega (arith, spine_size l)

  pub moved_size : {names : Names} {e : Syntax} {s t : State} {p : Place} → LoweredMoved names e s t p
      → size_of t ≤ size_of s + share (nodes e)
  moved_size (lowered.Stays e s t p is d) = expression_size d
  moved_size (lowered.Moved at w fields s t p is d) = omega (arith, expression_size d)

  -- A target leaves some of its share, for the temporary that it takes its piece from.
  pub target_size : {names : Names} {at : Span} {value : Place} {e : Syntax} {s t : State} {p : Place}
      → LoweredTarget names at value e s t p → size_of t + 40 ≤ size_of s + share (nodes e)
  target_size {names} {at} {value} (lowered.TargetVariable there name symbol identifier s is mutable f) =
      omega (
        arith,
        found_size names s symbol there.span,
        size_value (found names s symbol there.span) (assigned_to identifier at value)
            (Some at),
      )
  target_size {names} (lowered.TargetConstant there name symbol identifier s is constant f) =
      omega (arith, found_size names s symbol there.span)
  target_size {at} {value} (lowered.TargetGlobal there name binding s is) =
      omega (arith, size_value s (values.StoreGlobal name value) (Some at))
  target_size {at} {value} (lowered.TargetMember there w fields parts pieces object key s t is l) =
      omega (arith, member_nodes is, all_size l, size_value t (store_of object key value) (Some at))
  target_size (lowered.TargetLost there w fields s is) = omega arith
  target_size {value} (lowered.TargetDefaulted there w fields target default s t u q p is d dt) =
      omega (
        arith,
        defaulted_nodes is,
        default_size s t value q there.span (share (nodes default)) (moved_size d),
        target_size dt,
      )
  target_size {at} {value}
      (lowered.TargetPattern there w of_object forced items rest pattern pieces later s t u v is ahead taken are l) =
      omega (
        arith,
        ahead_size ahead,
        taken_size taken,
        size_value u (destructured variables.Reassign pattern value) (Some at),
        later_size l,
      )

  pub later_size : {names : Names} {later : List Later} {s t : State} → LoweredLater names later s t
      → size_of t + 40 * length later ≤ size_of s + 64 * nodes_left later
  later_size (lowered.NoLater s) = omega arith
  later_size (lowered.NextLater value part later s t u p d ds) = omega (arith, target_size d, later_size ds)

  pub spine_size : {names : Names} {below : Bool} {e : Syntax} {s t : State} {p : Place} → LoweredSpine names below e s t p
      → size_of t ≤ size_of s + share (nodes e)
  spine_size (lowered.Outermost e s t front p l) = link_size l
  spine_size (lowered.Asserted at e s t p l) = omega (arith, spine_size l)
  spine_size (lowered.Broken at e s t p is l) = omega (arith, spine_size l)

  pub link_size : {names : Names} {alternate : Option BlockId} {e : Syntax} {s t : State} {front : Front} {p : Place}
      → LoweredLink names alternate e s t front p → size_of t ≤ size_of s + share (nodes e)
  link_size (lowered.LinkedProperty alternate at w optional object rest parts pieces o key s t u is l more) =
      let opened : State = link_objected (link_at s at.span optional alternate) t o in
      let whole = linked_size alternate s t (with_value u (load_of o key) (Some at.span)) o (temporary u (Some at.span)) at.span optional
      (share (nodes object)) (share (nodes_of parts) + 4) (front_size l)
      (made_size opened u (load_of o key) at.span (share (nodes_of parts)) (all_size more)) in
      omega (arith, link_nodes is, whole)
  link_size (lowered.LinkedPrivate alternate at optional object name o s t l) =
      let opened : State = link_objected (link_at s at.span optional alternate) t o in
      let met : State = private_met opened at.span in
      let whole = linked_size alternate s t (with_value met (values.Primitive primitives.Undefined) (Some at.span)) o
      (temporary met (Some at.span)) at.span optional (share (nodes object)) (0 + 4) (front_size l)
      (made_size opened met (values.Primitive primitives.Undefined) at.span 0 (omega arith)) in
      omega (arith, whole)
  link_size (lowered.LinkedCall alternate at optional callee es pieces given front s t u l more is) =
      let o : Place = tested_front front in
      let opened : State = link_objected (link_at s at.span optional alternate) t o in
      let whole = linked_size alternate s t (with_value u (call_of front given) (Some at.span)) o (temporary u (Some at.span)) at.span
      optional (share (nodes callee)) (share (nodes_of es) + 4) (front_size l)
      (made_size opened u (call_of front given) at.span (share (nodes_of es)) (all_size more)) in
      omega (arith, whole)

  pub front_size : {names : Names} {alternate : BlockId} {is_called : Bool} {e : Syntax} {s t : State} {front : Front}
      → LoweredFront names alternate is_called e s t front → size_of t ≤ size_of s + share (nodes e)
  front_size (lowered.FrontLink alternate is_called e s t front p l) = link_size l
  front_size (lowered.FrontBroken alternate is_called at e s t p l) = spine_size l
  front_size (lowered.FrontMethod alternate at w fields parts pieces object key s t is l) =
      omega (arith, member_nodes is, all_size l, size_value t (load_of object key) (Some at.span))
  front_size (lowered.FrontAlone alternate is_called e s t p other l) = expression_size l

  pub all_size : {names : Names} {of_object : Bool} {es : Pieces} {s t : State} {pieces : List Piece}
      → LoweredParts names of_object es s t pieces → size_of t ≤ size_of s + share (nodes_of es)
  all_size (lowered.NoPart s) = omega arith
  all_size (lowered.NextPart e es s t u p pieces l more) = omega (arith, expression_size l, all_size more)
  all_size (lowered.NextSpread at e es s t u p pieces l more) = omega (arith, expression_size l, all_size more)
  all_size (lowered.NextHole at es s u pieces more) = omega (arith, all_size more)
  all_size (lowered.NextProperty at computed key e text es s t u p pieces is l more) = omega (arith, expression_size l, all_size more)
  all_size (lowered.NextComputed at key e es s r t u p q pieces is k l more) =
      omega (arith, expression_size k, expression_size l, all_size more)
  all_size (lowered.NextFraction at there e text es s t u p pieces is l more) = omega (arith, expression_size l, all_size more)
  all_size (lowered.NextUnknown at computed key e es s u pieces is more) = omega (arith, all_size more)

  pub last_size : {names : Names} {es : Pieces} {s t : State} {p : Place} → LoweredLast names es s t p
      → size_of t ≤ size_of s + share (nodes_of es)
  last_size (lowered.LastPart e s t p l) = omega (arith, expression_size l)
  last_size (lowered.EarlierPart e next es s t u p q l more) = omega (arith, expression_size l, last_size more)

mutual
  pub pattern_size : {names : Names} {again : Bool} {k : InstructionKind} {at : Span} {value : Place} {e : Syntax} {s t : State} {p : Place}
      → LoweredPattern names again k at value e s t p → size_of t + 40 ≤ size_of s + share (nodes e)
  pattern_size {names} {again} {k} {at} {value} (lowered.BoundName bind name type symbol identifier s annotated is f) =
      let here : State = met again names s symbol identifier bind.span in
      omega (
        arith,
        met_size again names s symbol identifier bind.span,
        size_value here (values.StoreLocal k (variable_at identifier at) value) (Some at),
      )
  pattern_size {value} (lowered.BoundDefault there pattern default s t u q p d dt) =
      omega (arith, default_size s t value q there.span (share (nodes default)) (moved_size d), pattern_size dt)
  pattern_size {k} {at} {value} (lowered.BoundPattern there w of_object items rest pattern pieces later s u v is bound are l) =
      omega (arith, bound_size bound, size_value u (destructured k pattern value) (Some at), left_size l)

  pub left_size : {names : Names} {again : Bool} {k : InstructionKind} {later : List Later} {s t : State}
      → LoweredBound names again k later s t → size_of t + 40 * length later ≤ size_of s + 64 * nodes_left later
  left_size (lowered.NothingBound s) = omega arith
  left_size (lowered.NextBound value part later s t u p d ds) = omega (arith, pattern_size d, left_size ds)

pub params_size : {names : Names} {es : Pieces} {rest : Syntax} {s t : State} {ps : List Param}
    → LoweredParams names es rest s t ps → size_of t ≤ size_of s + share (nodes_of es + nodes rest)
params_size (lowered.NoParam s) = omega arith
params_size (lowered.RestParam there pattern s t p d) = omega (arith, size_temporary s (Some there.span), pattern_size d)
params_size {names} (lowered.PlainParam there bind name type rest more symbol identifier s t ps annotated is f ds) =
    omega (arith, found_size names s symbol bind.span, params_size ds)
params_size (lowered.PatternParam there pattern rest more s t u p ps is d ds) =
    omega (arith, size_promoted s there.span, pattern_size d, params_size ds)
params_size (lowered.DefaultParam there pattern default rest more s t u v q p ps d dt ds) =
    let x : State = promoted s there.span in
    omega (
      arith,
      size_promoted s there.span,
      default_size x t (caught s there.span) q there.span (share (nodes default)) (moved_size d),
      pattern_size dt,
      params_size ds,
    )

declarators_size : {names : Names} {at : Span} {k : InstructionKind} {es : Pieces} {s t : State} → LoweredDeclarators names at k es s t
    → size_of t ≤ size_of s + share (nodes_of es)
declarators_size (lowered.NoDeclarator s) = omega arith
declarators_size {names} {at} {k} (lowered.NextDeclared there bind name type more symbol identifier s u annotated is f l) =
    let place : Place = record { identifier = record { 0 = identifier }; span = Some bind.span } in
    omega (
      arith,
      found_size names s symbol bind.span,
      size_value (found names s symbol bind.span) (values.DeclareLocal k place) (Some bind.span),
      declarators_size l,
    )
declarators_size {names} {at} {k} (lowered.NextInitialized there bind name type init more symbol identifier s t u p annotated is l f m) =
    let place : Place = record { identifier = record { 0 = identifier }; span = Some at } in
    omega (
      arith,
      expression_size l,
      found_size names t symbol bind.span,
      size_value (found names t symbol bind.span) (values.StoreLocal k place p) (Some at),
      declarators_size m,
    )
declarators_size (lowered.NextTakenApart there pattern init more s t u v p q is present d dp ds) =
    omega (arith, expression_size d, pattern_size dp, declarators_size ds)
declarators_size {at} (lowered.NextUntaken there pattern more s u v q is dp ds) =
    omega (arith, size_value s (values.Primitive primitives.Undefined) (Some at), pattern_size dp, declarators_size ds)

pub test_size : {names : Names} {at : Span} {e : Syntax} {s t : State} {p : Place} → LoweredTest names at e s t p
    → size_of t ≤ size_of s + share (nodes e) + 4
test_size {at} (lowered.NoTest s) =
    omega (arith, size_value (recorded s (refusal row.F32 at)) (values.Primitive (primitives.Boolean true)) (Some at))
test_size (lowered.Tested e s t p l) = omega (arith, expression_size l)

-- The test of a case.
pub case_test_size : {names : Names} {e : Syntax} {s t : State} {p : Option Place} → LoweredCaseTest names e s t p
    → size_of t ≤ size_of s + share (nodes e)
case_test_size (lowered.NoCaseTest s) = omega arith
case_test_size (lowered.CaseTested e s t p is l) = omega (arith, expression_size l)
case_test_size (lowered.CaseMoved at w fields s t p is l) = omega (arith, expression_size l)

-- The head of a loop over keys or values.
pub head_size : {names : Names} {value : Place} {e : Syntax} {s t : State} {p : Place} → LoweredHead names value e s t p
    → size_of t ≤ size_of s + share (nodes e)
head_size {names} {value} (lowered.Declared at there bind kind name type symbol identifier s annotated is f) =
    let place : Place = record { identifier = record { 0 = identifier }; span = Some at.span } in
    omega (
      arith,
      found_size names s symbol bind.span,
      size_redeclared (found names s symbol bind.span) identifier bind.span,
      size_value (found_again names s symbol identifier bind.span) (values.StoreLocal variables.Let place value) (Some at.span),
    )
head_size {names} {value} (lowered.Reassigned at name symbol identifier s is mutable f) =
    omega (arith, stored_size names s symbol at.span identifier value (Some at.span))
head_size {names} (lowered.ReassignedConstant at name symbol identifier s is constant f) =
    omega (arith, found_size names s symbol at.span)
head_size {value} (lowered.StoredGlobal at name binding s is) =
    omega (arith, size_value s (values.StoreGlobal name value) (Some at.span))
head_size {value} (lowered.StoredMember at w fields parts pieces object key s t is l) =
    omega (arith, member_nodes is, all_size l, size_value t (store_of object key value) (Some at.span))
head_size (lowered.DeclaredPattern at there kind pattern s t p is d) = omega (arith, pattern_size d)
head_size (lowered.StoredPattern at w fields s t p is d) = omega (arith, target_size d)
head_size (lowered.Lost at w fields s is) = omega arith

mutual
  pub statement_size : {names : Names} {e : Syntax} {s t : State} → LoweredStatement names e s t
      → size_of t ≤ size_of s + share (nodes e)
  statement_size (lowered.Empty at s) = omega arith
  statement_size (lowered.Expression at e s t p l) = omega (arith, expression_size l)
  statement_size (lowered.Debugger at s) = omega (arith, size_value s values.Debugger (Some at.span))
  statement_size (lowered.Variables at k declarators s t l) = omega (arith, declaring_size s k at.span, declarators_size l)
  statement_size (lowered.ReturnNothing at s) = omega (arith, size_value s (values.Primitive primitives.Undefined) None)
  statement_size (lowered.Return at e s t p l) = omega (arith, expression_size l)
  statement_size (lowered.Block at statements s t l) = omega (arith, statements_size l)
  statement_size (lowered.IfThen at test consequent s s2 s3 p second first) =
      let behind = if_consequent_size (if_at s at.span false) s2 (span_of consequent) in
      omega (arith, if_begun_size s, statement_size second, behind, expression_size first)
  statement_size (lowered.IfElse at test consequent alternate s s2 s3 s4 p second third first) =
      let f : IfParts = if_at s at.span true in
      let between = if_consequent_size f s2 (span_of consequent) in
      let behind = if_alternate_size (if_after_consequent f s2) s3 (span_of alternate) in
      omega (arith, if_begun_size s, statement_size second, between, statement_size third, behind, expression_size first)
  statement_size (lowered.Unlabeled loop s t l) = loop_size l
  statement_size (lowered.LabeledLoop at label loop s t l) = omega (arith, loop_size l)
  statement_size (lowered.Labeled at label body s s2 other l) = omega (arith, statement_size l)
  statement_size (lowered.Break at label target s is) = omega arith
  statement_size (lowered.Continue at label target s is) = omega arith
  statement_size (lowered.Throw at e s t p l) = omega (arith, expression_size l, size_throwing t at.span)
  statement_size (lowered.Switch at value cases ks s t u p all l) = omega (arith, cases_size all, expression_size l)
  statement_size (lowered.TryPlain at there block body s s2 s3 first second) =
      let whole = try_size s s2 s3 None at.span there.span (span_of block) (share (nodes body)) (share (nodes block)) (statement_size first)
      (statement_size second) in
      omega (arith, whole)
  statement_size {names} (lowered.TryBound at there bind name type block body symbol identifier s s2 s3 annotated is f first second) =
      let begun : State = catch_begun s bind.span in
      let stored = size_value (found names begun symbol bind.span) (stores_caught s identifier bind.span) (Some bind.span) in
      let handled : size_of s2 ≤ size_of begun + (6 + share (nodes body)) =
      omega (arith, found_size names begun symbol bind.span, stored, statement_size first) in
      let whole = try_size (promoted s bind.span) s2 s3 (Some (caught s bind.span)) at.span there.span (span_of block)
      (6 + share (nodes body)) (share (nodes block)) handled (statement_size second) in
      omega (arith, size_promoted s bind.span, whole)
  statement_size (lowered.Finalized at there block param body finalizer s t is l) = omega (arith, statement_size l)
  statement_size (lowered.Uncaught at block finalizer s) = omega arith
  statement_size (lowered.With at fields s) = omega arith

  pub cases_size : {names : Names} {s : State} {es : Pieces} {ks : List Case} {t : State} → LoweredCases names s es ks t
      → size_of t ≤ size_of s + share (nodes_of es) + 1
  cases_size (lowered.NoCase s) = omega arith
  cases_size (lowered.NextCase at test statements cases ks s x y z p all l tested) =
      omega (arith, cases_size all, statements_size l, case_test_size tested)

  pub loop_size : {names : Names} {own : Label} {e : Syntax} {s t : State} → LoweredLoop names own e s t
      → size_of t ≤ size_of s + share (nodes e)
  loop_size (lowered.While at test body s s2 s3 p second first) = omega (arith, statement_size second, expression_size first)
  loop_size (lowered.DoWhile at test body s s2 s3 p first second) = omega (arith, statement_size first, expression_size second)
  loop_size (lowered.ForUpdated at init test update body s s2 s3 s4 s5 u p first third fourth second) =
      omega (arith, init_size first, expression_size third, statement_size fourth, test_size second)
  loop_size (lowered.ForPlain at init test body s s2 s3 s4 p first third second) =
      omega (arith, init_size first, statement_size third, test_size second)
  loop_size {own} (lowered.ForIn at head right body s s2 s3 s4 collection p first second third) =
      let whole = forin_size s s2 s3 s4 own collection p at.span (span_of head) (span_of body) (share (nodes body)) (share (nodes right))
      (share (nodes head)) (statement_size first) (expression_size second) (head_size third) in
      omega (arith, whole)
  loop_size {own} (lowered.ForOf at head right body s s2 s3 s4 collection p first second third) =
      let whole = forof_size s s2 s3 s4 own collection p at.span (span_of head) (span_of body) (share (nodes body)) (share (nodes right))
      (share (nodes head)) (statement_size first) (expression_size second) (head_size third) in
      omega (arith, whole)
  loop_size (lowered.AwaitRefused at head right body s) = omega arith

  pub init_size : {names : Names} {at : Span} {e : Syntax} {s t : State} → LoweredInit names at e s t
      → size_of t ≤ size_of s + share (nodes e) + 4
  init_size {at} (lowered.NoInit s) = omega (arith, size_value s (values.Primitive primitives.Undefined) (Some at))
  init_size (lowered.DeclaredInit there fields s t l) = omega (arith, statement_size l)
  init_size (lowered.RefusedInit e s t p l) = omega (arith, expression_size l)

  pub statements_size : {names : Names} {es : Pieces} {s t : State} → LoweredStatements names es s t
      → size_of t ≤ size_of s + share (nodes_of es)
  statements_size (lowered.NoStatement s) = omega arith
  statements_size (lowered.NextStatement e es s t u l more) = omega (arith, statement_size l, statements_size more)

-- The block behind the return of a body that is an expression is one more.
pub body_size : {names : Names} {b : Syntax} {s t : State} → LoweredBody names b s t → size_of t ≤ size_of s + share (nodes b + 1)
body_size (lowered.Statements at directives statements s t texts l) = omega (arith, statements_size l)
body_size (lowered.Value e s t p l) = omega (arith, expression_size l)
