-- A result is read back from its tree, so no two results have one tree. Where a tree is no result's, what is read does
-- not matter.
use Rattle.std.proofs.Common.{◌≡◌, ℕ, if◌then◌else◌, Option, List, [], ◌∷◌, codes, refl, sym, ap, ◌∙◌, arith}
use Rattle.std.specs.Str.{bytes_eq}
use Rattle.rl_base.proofs.ClosedTexts.{value_of as written_value, value_back}
use Rattle.rl_base.specs.FoundOperators.{logical_operators_found}
use Rattle.rl_base.specs.Operators.{logical_text, logical_operators}
use Rattle.rl_base.specs.declared.span.Span.{Span}
use Rattle.rl_base.specs.declared.ids.BlockId.{BlockId}
use Rattle.rl_base.specs.declared.ids.EvaluationOrder.{EvaluationOrder}
use Rattle.rl_base.specs.declared.ids.InstructionId.{InstructionId}
use Rattle.rl_base.specs.declared.operator.LogicalOperator.{LogicalOperator}
use Rattle.rl_base.specs.declared.operator.LogicalOperator.TheVariants as logical
use Rattle.rl_text.proofs.Worded.{Worded-one}
use Rattle.rl_text.specs.Notation.{Tree, Said}
use Rattle.rl_hir.proofs.ReadParts.{part, number_of, flag_of, word_of, text_of, optional_of, IsPresent, optional-back, list_of, list-back, choose, spans_of, spans-back, place_of, place-back}
use Rattle.rl_hir.proofs.ReadValues.{value_of, value-back}
use Rattle.rl_hir.proofs.Words.{lowered_worded}
use Rattle.rl_hir.specs.Blocks.{Pair as BlockPair}
use Rattle.rl_hir.specs.Listing as spec
use Rattle.rl_hir.specs.Terminals.{goto_variant, return_variant}
use Rattle.rl_hir.specs.Trees as trees
use Rattle.rl_hir.specs.declared.instruction.Place.{Place}
use Rattle.rl_hir.specs.declared.instruction.Instruction.{Instruction}
use Rattle.rl_hir.specs.declared.terminal.Case.{Case}
use Rattle.rl_hir.specs.declared.terminal.Terminal.{Terminal}
use Rattle.rl_hir.specs.declared.terminal.TerminalKind.{TerminalKind}
use Rattle.rl_hir.specs.declared.terminal.TerminalKind.TheVariants as ends
use Rattle.rl_hir.specs.declared.terminal.GotoVariant.{GotoVariant}
use Rattle.rl_hir.specs.declared.terminal.GotoVariant.TheVariants as gotos
use Rattle.rl_hir.specs.declared.terminal.ReturnVariant.{ReturnVariant}
use Rattle.rl_hir.specs.declared.terminal.ReturnVariant.TheVariants as returns
use Rattle.rl_hir.specs.declared.function.BlockKind.{BlockKind}
use Rattle.rl_hir.specs.declared.function.BlockKind.TheVariants as kinds
use Rattle.rl_hir.specs.declared.function.ReactFunctionType.{ReactFunctionType}
use Rattle.rl_hir.specs.declared.function.ReactFunctionType.TheVariants as types
use Rattle.rl_hir.specs.declared.function.Param.{Param}
use Rattle.rl_hir.specs.declared.function.Param.TheVariants as params
use Rattle.rl_hir.specs.declared.function.HirFunction.{HirFunction}
use Rattle.rl_hir.specs.declared.function.IdentifierName.{IdentifierName}
use Rattle.rl_hir.specs.declared.function.IdentifierName.TheVariants as names
use Rattle.rl_hir.specs.declared.function.Identifier.{Identifier}
use Rattle.rl_hir.specs.declared.function.InnerFunction.{InnerFunction}
use Rattle.rl_hir.specs.declared.function.Pair.{Pair}
use Rattle.rl_hir.specs.declared.function.Lowered.{Lowered}

instruction_of : Tree → Instruction
instruction_of tree = record {
  order = record { 0 = number_of (part 0 tree) };
  lvalue = place_of (part 1 tree);
  span = spans_of (part 2 tree);
  value = value_of (part 3 tree);
}

instruction-back : (i : Instruction) → instruction_of (spec.instruction i) ≡ i
unfolding instruction_of
instruction-back i = rw (place-back i.lvalue, spans-back i.span, value-back i.value) refl

goto_variant_of : Tree → GotoVariant
goto_variant_of tree = choose (text_of tree) ((codes "continue", gotos.Continue) ∷ (codes "try", gotos.Try) ∷ []) gotos.Break

goto_variant-back : (variant : GotoVariant) → goto_variant_of (Said (goto_variant variant)) ≡ variant
unfolding goto_variant_of text_of
goto_variant-back gotos.Break = refl
goto_variant-back gotos.Continue = refl
goto_variant-back gotos.Try = refl

return_variant_of : Tree → ReturnVariant
return_variant_of tree = choose (text_of tree) ((codes "implicit", returns.Implicit) ∷ (codes "explicit", returns.Explicit) ∷ []) returns.Void

return_variant-back : (variant : ReturnVariant) → return_variant_of (Said (return_variant variant)) ≡ variant
unfolding return_variant_of text_of
return_variant-back returns.Implicit = refl
return_variant-back returns.Explicit = refl
return_variant-back returns.Void = refl

logical_of : Tree → LogicalOperator
logical_of tree = written_value logical.Or logical_text logical_operators (text_of tree)

logical-back : (o : LogicalOperator) → logical_of (Said (logical_text o)) ≡ o
unfolding logical_of text_of
logical-back o = value_back logical.Or logical_text logical_operators logical_operators_found o

block_id_of : Tree → BlockId
block_id_of tree = record { 0 = number_of tree }

block_id-back : (id : BlockId) → block_id_of (spec.block_id id) ≡ id
unfolding block_id_of
block_id-back id = refl

ids_of : Tree → Option BlockId
ids_of = optional_of block_id_of

ids-back : (id : Option BlockId) → ids_of (trees.optional spec.block_id id) ≡ id
unfolding ids_of
ids-back = optional-back spec.block_id block_id_of (λ id. tt) block_id-back

places_of : Tree → Option Place
places_of = optional_of place_of

places-back : (p : Option Place) → places_of (trees.optional trees.place p) ≡ p
unfolding places_of
places-back = optional-back trees.place place_of (λ p. tt) place-back

case_of : Tree → Case
case_of tree = record { test = places_of (part 0 tree); block = block_id_of (part 1 tree) }

case-back : (c : Case) → case_of (spec.case c) ≡ c
unfolding case_of
case-back c = λ i. record { test = places-back c.test i; block = block_id-back c.block i }

-- The fields of a terminal follow its order and its span.
end_readers : List (List ℕ × (Tree → TerminalKind))
end_readers =
    (codes "goto", λ tree. ends.Goto (block_id_of (part 2 tree)) (goto_variant_of (part 3 tree)))
    ∷ (codes "if", λ tree. ends.If (place_of (part 2 tree)) (block_id_of (part 3 tree)) (block_id_of (part 4 tree)) (block_id_of (part 5 tree)))
    ∷ (codes "branch", λ tree. ends.Branch (place_of (part 2 tree)) (block_id_of (part 3 tree)) (block_id_of (part 4 tree)) (block_id_of (part 5 tree)))
    ∷ (codes "switch", λ tree. ends.Switch (place_of (part 2 tree)) (list_of case_of (part 3 tree)) (block_id_of (part 4 tree)))
    ∷ (codes "logical", λ tree. ends.Logical (logical_of (part 2 tree)) (block_id_of (part 3 tree)) (block_id_of (part 4 tree)))
    ∷ (codes "ternary", λ tree. ends.Ternary (block_id_of (part 2 tree)) (block_id_of (part 3 tree)))
    ∷ (codes "optional", λ tree. ends.Optional (flag_of (part 2 tree)) (block_id_of (part 3 tree)) (block_id_of (part 4 tree)))
    ∷ (codes "sequence", λ tree. ends.Sequence (block_id_of (part 2 tree)) (block_id_of (part 3 tree)))
    ∷ (codes "label", λ tree. ends.Label (block_id_of (part 2 tree)) (block_id_of (part 3 tree)))
    ∷ (codes "try", λ tree. ends.Try (block_id_of (part 2 tree)) (places_of (part 3 tree)) (block_id_of (part 4 tree)) (block_id_of (part 5 tree)))
    ∷ (codes "while", λ tree. ends.While (block_id_of (part 2 tree)) (block_id_of (part 3 tree)) (block_id_of (part 4 tree)))
    ∷ (codes "dowhile", λ tree. ends.DoWhile (block_id_of (part 2 tree)) (block_id_of (part 3 tree)) (block_id_of (part 4 tree)))
    ∷ (codes "for", λ tree. ends.For (block_id_of (part 2 tree)) (block_id_of (part 3 tree)) (ids_of (part 4 tree)) (block_id_of (part 5 tree)) (block_id_of (part 6 tree)))
    ∷ (codes "forin", λ tree. ends.ForIn (block_id_of (part 2 tree)) (block_id_of (part 3 tree)) (block_id_of (part 4 tree)))
    ∷ (codes "forof", λ tree. ends.ForOf (block_id_of (part 2 tree)) (block_id_of (part 3 tree)) (block_id_of (part 4 tree)) (block_id_of (part 5 tree)))
    ∷ (codes "maybethrow", λ tree. ends.MaybeThrow (block_id_of (part 2 tree)) (ids_of (part 3 tree)))
    ∷ (codes "return", λ tree. ends.Return (return_variant_of (part 2 tree)) (place_of (part 3 tree)))
    ∷ (codes "throw", λ tree. ends.Throw (place_of (part 2 tree)))
    ∷ []

end_of : Tree → TerminalKind
end_of tree = choose (word_of tree) end_readers (λ tree. ends.Unreachable) tree

abbrev ended : EvaluationOrder → Option Span → TerminalKind → Terminal
ended order span kind = record { order = order; span = span; kind = kind }

end-back : (order : EvaluationOrder) (at : Option Span) (kind : TerminalKind) → end_of (spec.terminal (ended order at kind)) ≡ kind
unfolding end_of end_readers block_id_of
end-back order at ends.Unreachable = refl
end-back order at _ = grind (arith, place-back, places-back, ids-back, logical-back, goto_variant-back, return_variant-back, list-back spec.case case_of case-back)

terminal_of : Tree → Terminal
terminal_of tree = record { order = record { 0 = number_of (part 0 tree) }; span = spans_of (part 1 tree); kind = end_of tree }

terminal-back : (t : Terminal) → terminal_of (spec.terminal t) ≡ t
unfolding terminal_of
terminal-back t = λ i. record { order = t.order; span = spans-back t.span i; kind = end-back t.order t.span t.kind i }

block_kinds : List (List ℕ × BlockKind)
block_kinds =
    (codes "block", kinds.Block) ∷ (codes "value", kinds.Value) ∷ (codes "loop", kinds.Loop) ∷ (codes "sequence", kinds.Sequence) ∷ (codes "catch", kinds.Catch) ∷ []

block_kind_of : Tree → BlockKind
block_kind_of tree = choose (text_of tree) block_kinds kinds.Block

block_kind-back : (kind : BlockKind) → block_kind_of (Said (spec.block_kind kind)) ≡ kind
unfolding block_kind_of block_kinds text_of
block_kind-back kinds.Block = refl
block_kind-back kinds.Value = refl
block_kind-back kinds.Loop = refl
block_kind-back kinds.Sequence = refl
block_kind-back kinds.Catch = refl

listed_instruction_of : Tree → InstructionId
listed_instruction_of tree = record { 0 = number_of tree }

listed_instruction-back : (id : InstructionId) → listed_instruction_of (spec.listed_instruction id) ≡ id
unfolding listed_instruction_of
listed_instruction-back id = refl

block_of : Tree → BlockPair
block_of tree = (
  record { 0 = number_of (part 0 tree) },
  record {
    kind = block_kind_of (part 1 tree);
    instructions = list_of listed_instruction_of (part 2 tree);
    terminal = terminal_of (part 3 tree);
    preds = list_of block_id_of (part 4 tree);
  },
)

block-back : (b : BlockPair) → block_of (spec.block b) ≡ b
unfolding block_of
block-back b = rw (
  block_kind-back b.1.kind,
  list-back spec.listed_instruction listed_instruction_of listed_instruction-back b.1.instructions,
  terminal-back b.1.terminal,
  list-back spec.block_id block_id_of block_id-back b.1.preds,
) refl

function_types : List (List ℕ × ReactFunctionType)
function_types = (codes "component", types.Component) ∷ (codes "hook", types.Hook) ∷ (codes "other", types.Other) ∷ []

function_type_of : Tree → ReactFunctionType
function_type_of tree = choose (text_of tree) function_types types.Other

function_type-back : (type : ReactFunctionType) → function_type_of (Said (spec.function_type type)) ≡ type
unfolding function_type_of function_types text_of
function_type-back types.Component = refl
function_type-back types.Hook = refl
function_type-back types.Other = refl

param_of : Tree → Param
param_of tree = if bytes_eq (word_of tree) (codes "spread") then params.Spread (place_of (part 0 tree)) else params.Place (place_of tree)

param-back : (p : Param) → param_of (spec.param p) ≡ p
unfolding param_of
param-back (params.Place p) = λ i. params.Place (place-back p i)
param-back (params.Spread p) = λ i. params.Spread (place-back p i)

text-back : (text : List ℕ) → text_of (trees.said text) ≡ text
unfolding text_of
text-back text = refl

function_of : Tree → HirFunction (List BlockPair)
function_of tree = record {
  span = spans_of (part 0 tree);
  name = optional_of text_of (part 1 tree);
  fn_type = function_type_of (part 2 tree);
  generator = flag_of (part 3 tree);
  is_async = flag_of (part 4 tree);
  directives = list_of text_of (part 5 tree);
  params = list_of param_of (part 6 tree);
  context = list_of place_of (part 7 tree);
  returns = place_of (part 8 tree);
  body = record { entry = record { 0 = number_of (part 9 tree) }; blocks = list_of block_of (part 10 tree) };
  instructions = list_of instruction_of (part 11 tree);
}

function-back : (f : HirFunction (List BlockPair)) → function_of (spec.function f) ≡ f
unfolding function_of
function-back f = rw (
  spans-back f.span,
  optional-back trees.said text_of (λ text. tt) text-back f.name,
  function_type-back f.fn_type,
  list-back trees.said text_of text-back f.directives,
  list-back spec.param param_of param-back f.params,
  list-back trees.place place_of place-back f.context,
  place-back f.returns,
  list-back spec.block block_of block-back f.body.blocks,
  list-back spec.instruction instruction_of instruction-back f.instructions,
) refl

inner_of : Tree → InnerFunction
inner_of tree = record { node = record { 0 = number_of (part 0 tree) }; function = function_of (part 1 tree) }

inner-back : (i : InnerFunction) → inner_of (spec.inner i) ≡ i
unfolding inner_of
inner-back i = rw (function-back i.function) refl

name_of : Tree → IdentifierName
name_of tree = if bytes_eq (word_of tree) (codes "named") then names.Named (text_of (part 0 tree)) else names.Promoted (text_of (part 0 tree))

name-back : (n : IdentifierName) → name_of (spec.name n) ≡ n
unfolding name_of text_of
name-back (names.Named text) = refl
name-back (names.Promoted text) = refl

name_present : (n : IdentifierName) → IsPresent (spec.name n)
name_present (names.Named text) = tt
name_present (names.Promoted text) = tt

identifier_of : Tree → Identifier
identifier_of tree = record { name = optional_of name_of (part 0 tree); span = spans_of (part 1 tree); type_id = record { 0 = number_of (part 2 tree) } }

identifier-back : (i : Identifier) → identifier_of (spec.identifier i) ≡ i
unfolding identifier_of
identifier-back i = rw (optional-back spec.name name_of name_present name-back i.name, spans-back i.span) refl

pair_of : Tree → Pair
pair_of tree = record { symbol = record { 0 = number_of (part 0 tree) }; identifier = record { 0 = number_of (part 1 tree) } }

pair-back : (p : Pair) → pair_of (spec.pair p) ≡ p
unfolding pair_of
pair-back p = refl

lowered_of : Tree → Lowered
lowered_of tree = record {
  function = function_of (part 0 tree);
  inner = list_of inner_of (part 1 tree);
  identifiers = list_of identifier_of (part 2 tree);
  pairs = list_of pair_of (part 3 tree);
}

lowered-back : (l : Lowered) → lowered_of (spec.lowered l) ≡ l
unfolding spec.lowered lowered_of
lowered-back l = rw (
  function-back l.function,
  list-back spec.inner inner_of inner-back l.inner,
  list-back spec.identifier identifier_of identifier-back l.identifiers,
  list-back spec.pair pair_of pair-back l.pairs,
) refl

-- No two results have one tree.
pub lowered-apart : (a b : Lowered) → spec.lowered a ≡ spec.lowered b → a ≡ b
lowered-apart a b same = sym (lowered-back a) ∙ (ap lowered_of same ∙ lowered-back b)

-- No two results have one listing, byte for byte.
pub only_result : (l : Lowered) → spec.IsOnlyResult l
only_result l other same = lowered-apart other l (Worded-one (spec.lowered other) (spec.lowered l) (lowered_worded other) (lowered_worded l) same)
