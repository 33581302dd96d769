-- Listings that the notation has, from those of their parts.
use Rattle.std.proofs.Common.{◌≡◌, Some, ℕ, ◌<◌, ◌≤◌, ◌^◌, Bool, true, false, List, [], ◌∷◌, map, All, Option, None, codes}
use Rattle.std.proofs.Common.{lit<, refl, subst, arith}
use Rattle.std.specs.Prelude.{IfSome}
use Rattle.std.specs.Str.{IsUtf8}
use Rattle.std.proofs.lemmas.List.Elements.{All-append, All-cons, All-head, All-nil, All-tail}
use Rattle.rl_base.specs.declared.operator.BinaryOperator.{BinaryOperator}
use Rattle.rl_base.specs.declared.operator.LogicalOperator.{LogicalOperator}
use Rattle.rl_base.specs.declared.operator.UpdateOperator.{UpdateOperator}
use Rattle.rl_base.specs.declared.operator.UpdateOperator.TheVariants as updates
use Rattle.rl_base.specs.declared.type_kind.TypeKind.{TypeKind}
use Rattle.rl_base.specs.declared.type_kind.TypeKind.TheVariants as cases
use Rattle.rl_base.specs.declared.ids.InstructionId.{InstructionId}
use Rattle.rl_base.specs.Operators.{logical_text, operator_text, update_text}
use Rattle.rl_lowered.proofs.Common.{BlockId, Place, Span, State}
use Rattle.rl_text.specs.Notation.{Tree, IsWritable, AreWritable}
use Rattle.rl_text.specs.Number.{largest}
use Rattle.rl_text.specs.Raw.{parts_of}
use Rattle.rl_hir.specs.Instructions.{argument_shape, binding_texts}
use Rattle.rl_hir.specs.Listing as listing
use Rattle.rl_hir.specs.declared.function.IdentifierName.TheVariants.{Named}
use Rattle.rl_hir.specs.Pieces.{Says, row_parts}
use Rattle.rl_hir.specs.Terminals.{Chooses, Field, Follows, Leads, MayLead, MayName, Names, fields_of, goto_variant, listed_id}
use Rattle.rl_hir.specs.Terminals.{names, return_variant, unreachable, with_order}
use Rattle.rl_builder.specs.Builder.{ended_by, maybe_throw}
use Rattle.rl_builder.specs.declared.blocks.WipBlock.{WipBlock}
use Rattle.rl_hir.specs.declared.function.BlockKind.{BlockKind}
use Rattle.rl_hir.specs.declared.function.BlockKind.TheVariants as kinds
use Rattle.rl_hir.specs.declared.function.HirFunction.{HirFunction}
use Rattle.rl_hir.specs.Blocks.{Pair as BlockPair}
use Rattle.rl_hir.specs.declared.function.ReactFunctionType.{ReactFunctionType}
use Rattle.rl_hir.specs.declared.function.ReactFunctionType.TheVariants as types
use Rattle.rl_hir.specs.declared.instruction.Instruction.{Instruction}
use Rattle.rl_hir.specs.declared.instruction.HirType.{HirType}
use Rattle.rl_hir.specs.declared.instruction.InstructionKind.{InstructionKind}
use Rattle.rl_hir.specs.declared.instruction.InstructionKind.TheVariants as variables
use Rattle.rl_hir.specs.Trees.{hir_type, instruction_kind}
use Rattle.rl_hir.specs.declared.instruction.InstructionValue.TheVariants as values
use Rattle.rl_hir.specs.declared.instruction.NonLocalBinding.{NonLocalBinding}
use Rattle.rl_hir.specs.declared.instruction.PrimitiveValue.TheVariants as primitives
use Rattle.rl_hir.specs.declared.instruction.PlaceOrSpread.{PlaceOrSpread}
use Rattle.rl_hir.specs.declared.instruction.PlaceOrSpread.TheVariants as arguments
use Rattle.rl_hir.specs.declared.pieces.Row.TheVariants as rows
use Rattle.rl_hir.specs.declared.terminal.Case.{Case}
use Rattle.rl_hir.specs.declared.terminal.GotoVariant.{GotoVariant}
use Rattle.rl_hir.specs.declared.terminal.GotoVariant.TheVariants as gotos
use Rattle.rl_hir.specs.declared.terminal.Terminal.{Terminal}
use Rattle.rl_hir.specs.declared.terminal.TerminalKind.{TerminalKind}
use Rattle.rl_hir.specs.declared.terminal.TerminalKind.TheVariants as ends
use Rattle.rl_hir.specs.declared.terminal.ReturnVariant.{ReturnVariant}
use Rattle.rl_hir.specs.declared.terminal.ReturnVariant.TheVariants as returns
use Rattle.rl_order.proofs.PrunedBlocks.{StaysPruned}
use Rattle.rl_order.specs.Removals.{with_kind}
use Rattle.rl_order.specs.Walk.{emptied}
use Rattle.rl_runs.specs.Moves.{block_id, branch, ends_by, goto}
use Rattle.rl_lowered.specs.Forms.{type_of}
use Rattle.rl_lowered.specs.Lowered.{binary_of, update_of}
use Rattle.rl_promises.specs.Locals.{IsSmallSpan}

pub all_writable : {X : Type 0} (tree : X → Tree) (items : List X) → All (λ x. IsWritable (tree x)) items
    → AreWritable (parts_of (map tree items))
all_writable tree [] all = tt
all_writable tree (x ∷ items) all =
    (All-head (λ y. IsWritable (tree y)) x items all, all_writable tree items (All-tail (λ y. IsWritable (tree y)) x items all))

pub small_fits : (n : ℕ) → n < 2 ^ 32 → n ≤ largest
small_fits n small = omega arith

-- The texts of variants

shape_utf8 : (a : PlaceOrSpread) → IsUtf8 (argument_shape a)
unfolding lib.Utf8.encode
shape_utf8 (arguments.Place p) = (codes "place", (refl, refl))
shape_utf8 (arguments.Spread p) = (codes "spread", (refl, refl))

variant_utf8 : (variant : ReturnVariant) → IsUtf8 (return_variant variant)
unfolding lib.Utf8.encode
variant_utf8 returns.Implicit = (codes "implicit", (refl, refl))
variant_utf8 returns.Explicit = (codes "explicit", (refl, refl))
variant_utf8 returns.Void = (codes "void", (refl, refl))

kind_utf8 : (kind : BlockKind) → IsUtf8 (listing.block_kind kind)
unfolding lib.Utf8.encode
kind_utf8 kinds.Block = (codes "block", (refl, refl))
kind_utf8 kinds.Value = (codes "value", (refl, refl))
kind_utf8 kinds.Loop = (codes "loop", (refl, refl))
kind_utf8 kinds.Sequence = (codes "sequence", (refl, refl))
kind_utf8 kinds.Catch = (codes "catch", (refl, refl))

type_utf8 : (type : ReactFunctionType) → IsUtf8 (listing.function_type type)
unfolding lib.Utf8.encode
type_utf8 types.Component = (codes "component", (refl, refl))
type_utf8 types.Hook = (codes "hook", (refl, refl))
type_utf8 types.Other = (codes "other", (refl, refl))

-- Spans and places

pub span_writable : (s : Span) → IsSmallSpan s → IsWritable (listing.span s)
span_writable s small = ((lit< tt, refl), (small_fits s.start small.0, (small_fits s.end small.1, tt)))

pub span_optional : (o : Option Span) → IfSome o IsSmallSpan → IsWritable (listing.optional listing.span o)
span_optional None small = tt
span_optional (Some at) small = span_writable at small

pub place_writable : (p : Place) → p.identifier.0 ≤ largest → IsWritable (listing.optional listing.span p.span)
    → IsWritable (listing.place p)
place_writable p count at = ((lit< tt, refl), (count, (at, tt)))

-- Values

pub undefined_writable : IsWritable (listing.value (values.Primitive primitives.Undefined))
undefined_writable = ((lit< tt, refl), (((lit< tt, refl), tt), tt))

pub null_writable : IsWritable (listing.value (values.Primitive primitives.Null))
null_writable = ((lit< tt, refl), (((lit< tt, refl), tt), tt))

pub boolean_writable : (flag : Bool) → IsWritable (listing.value (values.Primitive (primitives.Boolean flag)))
boolean_writable flag = ((lit< tt, refl), (((lit< tt, refl), (tt, tt)), tt))

pub number_writable : (number : ℕ) → number ≤ largest → IsWritable (listing.value (values.Primitive (primitives.Number number)))
number_writable number fits = ((lit< tt, refl), (((lit< tt, refl), (fits, tt)), tt))

pub string_writable : (text : List ℕ) → IsUtf8 text → IsWritable (listing.value (values.Primitive (primitives.String text)))
string_writable text utf8 = ((lit< tt, refl), (((lit< tt, refl), (utf8, tt)), tt))

pub local_writable : (p : Place) → IsWritable (listing.place p) → IsWritable (listing.value (values.LoadLocal p))
local_writable p w = ((lit< tt, refl), (w, tt))

said_writable : (said : List (List ℕ)) → All IsUtf8 said → AreWritable (row_parts rows.Texts (map Says said))
said_writable [] utf8 = tt
said_writable (text ∷ said) utf8 = (All-head IsUtf8 text said utf8, said_writable said (All-tail IsUtf8 text said utf8))

none_taken : (said : List (List ℕ)) → AreWritable (row_parts rows.Operands (map Says said))
none_taken [] = tt
none_taken (text ∷ said) = none_taken said

pub outer_writable : (binding : NonLocalBinding) → All IsUtf8 (binding_texts binding)
    → IsWritable (listing.value (values.LoadGlobal binding))
outer_writable binding utf8 =
    ((lit< tt, refl), (said_writable (binding_texts binding) utf8, (none_taken (binding_texts binding), tt)))

pub binary_writable : (operator : BinaryOperator) (left right : Place) → IsUtf8 (operator_text operator)
    → IsWritable (listing.place left) → IsWritable (listing.place right)
    → IsWritable (listing.value (values.BinaryExpression operator left right))
binary_writable operator left right utf8 l r = ((lit< tt, refl), ((utf8, tt), ((l, (r, tt)), tt)))

pub stored_writable : (place value : Place) → IsWritable (listing.place place) → IsWritable (listing.place value)
    → IsWritable (listing.value (values.StoreLocal variables.Const place value))
unfolding lib.Utf8.encode
stored_writable place value first second = ((lit< tt, refl), ((codes "const", (refl, refl)), (first, (second, tt))))

-- Variables that are declared, stored and updated, and values under a type

pub variable_kind_utf8 : (k : InstructionKind) → IsUtf8 (instruction_kind k)
unfolding lib.Utf8.encode
variable_kind_utf8 variables.Const = (codes "const", (refl, refl))
variable_kind_utf8 variables.Let = (codes "let", (refl, refl))
variable_kind_utf8 variables.Reassign = (codes "reassign", (refl, refl))
variable_kind_utf8 variables.Catch = (codes "catch", (refl, refl))
variable_kind_utf8 variables.Function = (codes "function", (refl, refl))
variable_kind_utf8 variables.HoistedConst = (codes "hoistedconst", (refl, refl))
variable_kind_utf8 variables.HoistedLet = (codes "hoistedlet", (refl, refl))
variable_kind_utf8 variables.HoistedFunction = (codes "hoistedfunction", (refl, refl))

pub declared_writable : (k : InstructionKind) (p : Place) → IsWritable (listing.place p)
    → IsWritable (listing.value (values.DeclareLocal k p))
declared_writable k p w = ((lit< tt, refl), (variable_kind_utf8 k, (w, tt)))

pub initialized_writable : (k : InstructionKind) (p v : Place) → IsWritable (listing.place p) → IsWritable (listing.place v)
    → IsWritable (listing.value (values.StoreLocal k p v))
initialized_writable k p v first second = ((lit< tt, refl), (variable_kind_utf8 k, (first, (second, tt))))

pub updated_writable : (prefix : Bool) (operator : UpdateOperator) (p : Place) → IsUtf8 (update_text operator)
    → IsWritable (listing.place p) → IsWritable (listing.value (update_of prefix operator p))
updated_writable true operator p utf8 w = ((lit< tt, refl), ((utf8, tt), ((w, tt), ((w, tt), tt))))
updated_writable false operator p utf8 w = ((lit< tt, refl), ((utf8, tt), ((w, tt), ((w, tt), tt))))

pub sum_utf8 : (operator : UpdateOperator) → IsUtf8 (operator_text (binary_of operator))
unfolding lib.Utf8.encode
sum_utf8 updates.Increment = (codes "+", (refl, refl))
sum_utf8 updates.Decrement = (codes "-", (refl, refl))

pub type_writable : (s : State) (k : TypeKind) → s.env.next_type ≤ largest → IsWritable (hir_type (type_of s k))
unfolding lib.Utf8.encode
type_writable s cases.Array fits = (codes "array", (refl, refl))
type_writable s cases.Primitive fits = (codes "primitive", (refl, refl))
type_writable s cases.Other fits = fits

pub cast_writable : (p : Place) (type : HirType) (at : Span) → IsWritable (listing.place p) → IsWritable (hir_type type) → IsSmallSpan at
    → IsWritable (listing.value (values.TypeCastExpression p type (Some at)))
cast_writable p type at place cast span = ((lit< tt, refl), (place, (cast, (span_writable at span, tt))))

-- Instructions, terminals and blocks

pub instruction_writable : (i : Instruction) → i.order.0 ≤ largest → IsWritable (listing.place i.lvalue)
    → IsWritable (listing.optional listing.span i.span) → IsWritable (listing.value i.value)
    → IsWritable (listing.instruction i)
instruction_writable i order lvalue at value = ((lit< tt, refl), (order, (lvalue, (at, (value, tt)))))

pub instruction_span : (i : Instruction) → IsWritable (listing.instruction i) → IsWritable (listing.optional listing.span i.span)
instruction_span i w = w.1.1.1.0

pub instruction_ordered : (order : ℕ) (i : Instruction) → order ≤ largest → IsWritable (listing.instruction i)
    → IsWritable (listing.instruction (record i { order = record { 0 = order } }))
instruction_ordered order i fits w = ((lit< tt, refl), (fits, w.1.1))

pub return_writable : (at : Option Span) (variant : ReturnVariant) (p : Place) → IsWritable (listing.optional listing.span at)
    → IsWritable (listing.place p)
    → IsWritable (listing.terminal (record { order = record { 0 = 0 }; span = at; kind = ends.Return variant p }))
return_writable at variant p span place = ((lit< tt, refl), (omega arith, (span, (variant_utf8 variant, (place, tt)))))

pub throw_writable : (continuation : ℕ) (handler : BlockId) (at : Option Span) → continuation ≤ largest → handler.0 ≤ largest
    → IsWritable (listing.optional listing.span at) → IsWritable (listing.terminal (maybe_throw continuation handler at))
throw_writable continuation handler at next caught span = ((lit< tt, refl), (omega arith, (span, (next, (caught, tt)))))

jump_utf8 : (variant : GotoVariant) → IsUtf8 (goto_variant variant)
unfolding lib.Utf8.encode
jump_utf8 gotos.Break = (codes "break", (refl, refl))
jump_utf8 gotos.Continue = (codes "continue", (refl, refl))
jump_utf8 gotos.Try = (codes "try", (refl, refl))

pub goto_end_writable : (block : ℕ) (variant : GotoVariant) (at : Span) → block ≤ largest → IsSmallSpan at
    → IsWritable (listing.terminal (goto block variant at))
goto_end_writable block variant at id span =
    ((lit< tt, refl), (omega arith, (span_writable at span, (id, (jump_utf8 variant, tt)))))

pub branch_writable : (test : Place) (consequent alternate behind : ℕ) (at : Span) → IsWritable (listing.place test)
    → consequent ≤ largest → alternate ≤ largest → behind ≤ largest → IsSmallSpan at
    → IsWritable (listing.terminal (branch test consequent alternate behind at))
branch_writable test consequent alternate behind at place first second third span =
    ((lit< tt, refl), (omega arith, (span_writable at span, (place, (first, (second, (third, tt)))))))

pub if_writable : (test : Place) (consequent alternate behind : ℕ) (at : Span) → IsWritable (listing.place test)
    → consequent ≤ largest → alternate ≤ largest → behind ≤ largest → IsSmallSpan at
    → IsWritable (listing.terminal (ends_by (ends.If test (block_id consequent) (block_id alternate) (block_id behind)) (Some at)))
if_writable test consequent alternate behind at place first second third span =
    ((lit< tt, refl), (omega arith, (span_writable at span, (place, (first, (second, (third, tt)))))))

pub logical_writable : (operator : LogicalOperator) (test behind : ℕ) (at : Span) → IsUtf8 (logical_text operator)
    → test ≤ largest → behind ≤ largest → IsSmallSpan at
    → IsWritable (listing.terminal (ends_by (ends.Logical operator (block_id test) (block_id behind)) (Some at)))
logical_writable operator test behind at text first second span =
    ((lit< tt, refl), (omega arith, (span_writable at span, (text, (first, (second, tt))))))

pub ternary_writable : (test behind : ℕ) (at : Span) → test ≤ largest → behind ≤ largest → IsSmallSpan at
    → IsWritable (listing.terminal (ends_by (ends.Ternary (block_id test) (block_id behind)) (Some at)))
ternary_writable test behind at first second span =
    ((lit< tt, refl), (omega arith, (span_writable at span, (first, (second, tt)))))

pub optional_writable : (optional : Bool) (test behind : ℕ) (at : Span) → test ≤ largest → behind ≤ largest → IsSmallSpan at
    → IsWritable (listing.terminal (ends_by (ends.Optional optional (block_id test) (block_id behind)) (Some at)))
optional_writable optional test behind at first second span =
    ((lit< tt, refl), (omega arith, (span_writable at span, (tt, (first, (second, tt))))))

pub sequence_writable : (block behind : ℕ) (at : Span) → block ≤ largest → behind ≤ largest → IsSmallSpan at
    → IsWritable (listing.terminal (ends_by (ends.Sequence (block_id block) (block_id behind)) (Some at)))
sequence_writable block behind at first second span =
    ((lit< tt, refl), (omega arith, (span_writable at span, (first, (second, tt)))))

pub while_writable : (test body behind : ℕ) (at : Span) → test ≤ largest → body ≤ largest → behind ≤ largest → IsSmallSpan at
    → IsWritable (listing.terminal (ends_by (ends.While (block_id test) (block_id body) (block_id behind)) (Some at)))
while_writable test body behind at first second third span =
    ((lit< tt, refl), (omega arith, (span_writable at span, (first, (second, (third, tt))))))

pub do_while_writable : (body test behind : ℕ) (at : Span) → body ≤ largest → test ≤ largest → behind ≤ largest → IsSmallSpan at
    → IsWritable (listing.terminal (ends_by (ends.DoWhile (block_id body) (block_id test) (block_id behind)) (Some at)))
do_while_writable body test behind at first second third span =
    ((lit< tt, refl), (omega arith, (span_writable at span, (first, (second, (third, tt))))))

pub for_writable : (init test : ℕ) (update : Option BlockId) (body behind : ℕ) (at : Span) → init ≤ largest → test ≤ largest
    → IsWritable (listing.optional listing.block_id update) → body ≤ largest → behind ≤ largest → IsSmallSpan at
    → IsWritable (listing.terminal (ends_by (ends.For (block_id init) (block_id test) update (block_id body) (block_id behind)) (Some at)))
for_writable init test update body behind at first second third fourth fifth span =
    ((lit< tt, refl), (omega arith, (span_writable at span, (first, (second, (third, (fourth, (fifth, tt))))))))

pub forin_writable : (init body behind : ℕ) (at : Span) → init ≤ largest → body ≤ largest → behind ≤ largest → IsSmallSpan at
    → IsWritable (listing.terminal (ends_by (ends.ForIn (block_id init) (block_id body) (block_id behind)) (Some at)))
forin_writable init body behind at first second third span =
    ((lit< tt, refl), (omega arith, (span_writable at span, (first, (second, (third, tt))))))

pub forof_writable : (init test body behind : ℕ) (at : Span) → init ≤ largest → test ≤ largest → body ≤ largest → behind ≤ largest
    → IsSmallSpan at
    → IsWritable (listing.terminal (ends_by (ends.ForOf (block_id init) (block_id test) (block_id body) (block_id behind)) (Some at)))
forof_writable init test body behind at first second third fourth span =
    ((lit< tt, refl), (omega arith, (span_writable at span, (first, (second, (third, (fourth, tt)))))))

pub label_writable : (block behind : ℕ) (at : Span) → block ≤ largest → behind ≤ largest → IsSmallSpan at
    → IsWritable (listing.terminal (ends_by (ends.Label (block_id block) (block_id behind)) (Some at)))
label_writable block behind at first second span =
    ((lit< tt, refl), (omega arith, (span_writable at span, (first, (second, tt)))))

terminal_ordered : (order : ℕ) (t : Terminal) → order ≤ largest → IsWritable (listing.terminal t)
    → IsWritable (listing.terminal (with_order order t))
terminal_ordered order t fits w = (w.0, (fits, w.1.1))

-- A block with other instructions and another terminal
block_with : (b : BlockPair) (listed : List InstructionId) (t : Terminal) → AreWritable (parts_of (map listing.listed_instruction listed))
    → IsWritable (listing.terminal t) → IsWritable (listing.block b)
    → IsWritable (listing.block (b.0, record b.1 { instructions = listed; terminal = t }))
block_with b listed t instructions terminal w = ((lit< tt, refl), (w.1.0, (w.1.1.0, (instructions, (terminal, w.1.1.1.1.1)))))

pub ended_writable : (wip : WipBlock) (t : Terminal) → wip.id.0 ≤ largest
    → All (λ (id : InstructionId). id.0 ≤ largest) wip.instructions → IsWritable (listing.terminal t)
    → IsWritable (listing.block (ended_by wip t))
ended_writable wip t id listed terminal = (
  (lit< tt, refl),
  (
    id,
    (
      kind_utf8 wip.kind,
      (all_writable listing.listed_instruction wip.instructions listed, (terminal, (tt, tt))),
    ),
  ),
)

-- Blocks through the passes

-- The id is a number of the notation.
abbrev pub IsSmallId : BlockId → Type 0
IsSmallId id = id.0 ≤ largest

ids_small : (ids : List BlockId) → AreWritable (parts_of (map listing.block_id ids)) → All IsSmallId ids
ids_small [] w = All-nil IsSmallId
ids_small (id ∷ ids) w = All-cons IsSmallId id ids w.0 (ids_small ids w.1)

optional_small : (id : Option BlockId) → IsWritable (listing.optional listing.block_id id) → All IsSmallId (listed_id id)
optional_small None w = All-nil IsSmallId
optional_small (Some id) w = All-cons IsSmallId id [] w (All-nil IsSmallId)

cases_small : (cases : List Case) → AreWritable (parts_of (map listing.case cases)) → All IsSmallId (map (λ c. c.block) cases)
cases_small [] w = All-nil IsSmallId
cases_small (c ∷ cases) w = All-cons IsSmallId c.block (map (λ x. x.block) cases) w.0.1.1.0 (cases_small cases w.1)

names_small : (fields : List Field) → AreWritable (parts_of (map listing.field fields)) → All IsSmallId (names fields)
names_small [] w = All-nil IsSmallId
names_small (Leads block ∷ fields) w = All-cons IsSmallId block (names fields) w.0 (names_small fields w.1)
names_small (MayLead block ∷ fields) w =
    All-append IsSmallId (listed_id block) (names fields) (optional_small block w.0) (names_small fields w.1)
names_small (Chooses cases ∷ fields) w =
    All-append IsSmallId (map (λ c. c.block) cases) (names fields) (cases_small cases w.0) (names_small fields w.1)
names_small (Follows block ∷ fields) w = All-cons IsSmallId block (names fields) w.0 (names_small fields w.1)
names_small (Names block ∷ fields) w = All-cons IsSmallId block (names fields) w.0 (names_small fields w.1)
names_small (MayName block ∷ fields) w =
    All-append IsSmallId (listed_id block) (names fields) (optional_small block w.0) (names_small fields w.1)
names_small (_ ∷ fields) w = names_small fields w.1

emptied_writable : (b : BlockPair) → IsWritable (listing.block b) → IsWritable (listing.block (b.0, emptied b.1))
emptied_writable b w =
    let end = w.1.1.1.1.0 in block_with b [] (unreachable b.1.terminal) tt ((lit< tt, refl), (end.1.0, (end.1.1.0, tt))) w

without_update_writable : (b : BlockPair) (init test : BlockId) (update : Option BlockId) (body fallthrough : BlockId)
    → b.1.terminal.kind ≡ ends.For init test update body fallthrough → IsWritable (listing.block b)
    → IsWritable (listing.block (b.0, with_kind b.1 (ends.For init test None body fallthrough)))
without_update_writable b init test update body fallthrough is w =
    let end = w.1.1.1.1.0 in
    let fields = subst (λ (k : TerminalKind). AreWritable (parts_of (map listing.field (fields_of k)))) is end.1.1.1 in
    block_with b b.1.instructions (record b.1.terminal { kind = ends.For init test None body fallthrough }) w.1.1.1.0
    ((lit< tt, refl), (end.1.0, (end.1.1.0, (fields.0, (fields.1.0, (tt, fields.1.1.1)))))) w

goto_writable : (b : BlockPair) (target : BlockId) → IsSmallId target → IsWritable (listing.block b)
    → IsWritable (listing.block (b.0, with_kind b.1 (ends.Goto target gotos.Break)))
unfolding lib.Utf8.encode
goto_writable b target small w =
    let end = w.1.1.1.1.0 in
    block_with b b.1.instructions (record b.1.terminal { kind = ends.Goto target gotos.Break }) w.1.1.1.0
    ((lit< tt, refl), (end.1.0, (end.1.1.0, (small, ((codes "break", (refl, refl)), tt))))) w

linked_writable : (b : BlockPair) (preds : List BlockId) → All IsSmallId preds → IsWritable (listing.block b)
    → IsWritable (listing.block (b.0, record b.1 { preds = preds }))
linked_writable b preds small w =
    ((lit< tt, refl), (w.1.0, (w.1.1.0, (w.1.1.1.0, (w.1.1.1.1.0, (all_writable listing.block_id preds small, tt))))))

pub blocks_stay : StaysPruned (λ (b : BlockPair). IsWritable (listing.block b)) IsSmallId largest
blocks_stay = record {
  own = λ b w. w.1.0;
  named = λ b w. names_small (fields_of b.1.terminal.kind) w.1.1.1.1.0.1.1.1;
  linked = λ b w. ids_small b.1.preds w.1.1.1.1.1.0;
  empties = emptied_writable;
  loses_update = without_update_writable;
  goes = goto_writable;
  orders = λ b order within w. block_with b b.1.instructions (with_order order b.1.terminal) w.1.1.1.0
      (terminal_ordered order b.1.terminal within w.1.1.1.1.0) w;
  links = linked_writable;
}

-- Identifiers and functions

pub unnamed_writable : (at : Option Span) (type : ℕ) → IsWritable (listing.optional listing.span at) → type ≤ largest
    → IsWritable (listing.identifier (record { name = None; span = at; type_id = record { 0 = type } }))
unnamed_writable at type span fits = ((lit< tt, refl), (tt, (span, (fits, tt))))

pub named_writable : (name : List ℕ) (span : Option Span) (type : ℕ) → IsUtf8 name → IsWritable (listing.optional listing.span span)
    → type ≤ largest → IsWritable (listing.identifier (record { name = Some (Named name); span = span; type_id = record { 0 = type } }))
named_writable name span type utf8 small fits =
    ((lit< tt, refl), (((lit< tt, refl), (utf8, tt)), (small, (fits, tt))))

pub function_writable : (f : HirFunction (List BlockPair)) → IsWritable (listing.optional listing.span f.span)
    → IsWritable (listing.optional listing.said f.name) → All IsUtf8 f.directives
    → All (λ p. IsWritable (listing.param p)) f.params → All (λ p. IsWritable (listing.place p)) f.context
    → IsWritable (listing.place f.returns) → f.body.entry.0 ≤ largest → All (λ b. IsWritable (listing.block b)) f.body.blocks
    → All (λ i. IsWritable (listing.instruction i)) f.instructions → IsWritable (listing.function f)
function_writable f span name directives params context returned entry blocks table =
    let graph = both (all_writable listing.block f.body.blocks blocks)
    (both (all_writable listing.instruction f.instructions table) tt) in
    let places = both (all_writable listing.param f.params params)
    (both (all_writable listing.place f.context context) (both returned (both entry graph))) in
    let texts = both (all_writable listing.said f.directives directives) places in
    ((lit< tt, refl), (span, (name, (type_utf8 f.fn_type, (tt, (tt, texts))))))
  where
    both : {A B : Type 0} → A → B → A × B
    both a b = (a, b)
