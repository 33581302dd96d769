-- The node words of a listing are words of the notation.
use Rattle.std.proofs.Common.{ℕ, Option, Some, None, List, [], ◌∷◌, ◌++◌, map, refl, lit<}
use Rattle.rl_base.specs.declared.span.Span.{Span}
use Rattle.rl_text.proofs.Worded.{IsWorded, AreWorded}
use Rattle.rl_text.specs.Notation.{Tree, IsWord}
use Rattle.rl_text.specs.Raw.{parts_of}
use Rattle.rl_hir.specs.Blocks.{Pair as BlockPair}
use Rattle.rl_hir.specs.Listing as spec
use Rattle.rl_hir.specs.Pieces.{Operand, Use, Key, Piece, used, texts, operands, operand_tree, row_parts}
use Rattle.rl_hir.specs.Terminals.{Field, Leads, MayLead, Chooses, Follows, Names, MayName, Reads, MayBind, Says, Holds, fields_of, terminal_word}
use Rattle.rl_hir.specs.Trees as trees
use Rattle.rl_hir.specs.Values.{Form, Silent, Asks, Assigns, form_of, form_tree, value}
use Rattle.rl_hir.specs.Written.{form_word, value_word}
use Rattle.rl_hir.specs.declared.pieces.Row.{Row}
use Rattle.rl_hir.specs.declared.pieces.Row.TheVariants as rows
use Rattle.rl_hir.specs.declared.instruction.HirType.{HirType}
use Rattle.rl_hir.specs.declared.instruction.HirType.TheVariants as hir_types
use Rattle.rl_hir.specs.declared.instruction.Place.{Place}
use Rattle.rl_hir.specs.declared.instruction.Instruction.{Instruction}
use Rattle.rl_hir.specs.declared.instruction.InstructionValue.{InstructionValue}
use Rattle.rl_hir.specs.declared.instruction.InstructionValue.TheVariants as values
use Rattle.rl_hir.specs.declared.instruction.PrimitiveValue.{PrimitiveValue}
use Rattle.rl_hir.specs.declared.instruction.PrimitiveValue.TheVariants as primitives
use Rattle.rl_hir.specs.declared.instruction.PropertyLiteral.TheVariants as keys
use Rattle.rl_hir.specs.declared.terminal.Case.{Case}
use Rattle.rl_hir.specs.declared.terminal.Terminal.{Terminal}
use Rattle.rl_hir.specs.declared.terminal.TerminalKind.{TerminalKind}
use Rattle.rl_hir.specs.declared.terminal.TerminalKind.TheVariants as kinds
use Rattle.rl_hir.specs.declared.function.Param.{Param}
use Rattle.rl_hir.specs.declared.function.Param.TheVariants as params
use Rattle.rl_hir.specs.declared.function.HirFunction.{HirFunction}
use Rattle.rl_hir.specs.declared.function.IdentifierName.{IdentifierName}
use Rattle.rl_hir.specs.declared.function.IdentifierName.TheVariants as names
use Rattle.rl_hir.specs.declared.function.Identifier.{Identifier}
use Rattle.rl_hir.specs.declared.function.InnerFunction.{InnerFunction}
use Rattle.rl_hir.specs.declared.function.Pair.{Pair}
use Rattle.rl_hir.specs.declared.function.Lowered.{Lowered}

-- Lists and options of worded trees.

list_worded : {X : Type 0} (show : X → Tree) → ((x : X) → IsWorded (show x)) → (xs : List X) → AreWorded (parts_of (map show xs))
list_worded show each [] = tt
list_worded show each (x ∷ xs) = (each x, list_worded show each xs)

optional_worded : {X : Type 0} (show : X → Tree) → ((x : X) → IsWorded (show x)) → (o : Option X) → IsWorded (trees.optional show o)
optional_worded show each None = tt
optional_worded show each (Some x) = each x

-- Each type.

span_worded : (s : Span) → IsWorded (trees.span s)
span_worded s = ((lit< tt, refl), (tt, (tt, tt)))

spans_worded : (s : Option Span) → IsWorded (trees.optional trees.span s)
spans_worded s = optional_worded trees.span span_worded s

place_worded : (p : Place) → IsWorded (trees.place p)
place_worded p = ((lit< tt, refl), (tt, (spans_worded p.span, tt)))

primitive_worded : (v : PrimitiveValue) → IsWorded (trees.primitive v)
primitive_worded primitives.Undefined = ((lit< tt, refl), tt)
primitive_worded primitives.Null = ((lit< tt, refl), tt)
primitive_worded (primitives.Boolean value) = ((lit< tt, refl), (tt, tt))
primitive_worded (primitives.Number number) = ((lit< tt, refl), (tt, tt))
primitive_worded (primitives.String text) = ((lit< tt, refl), (tt, tt))

texts_worded : (texts : List (List ℕ)) → AreWorded (parts_of (map trees.said texts))
texts_worded texts = list_worded trees.said (λ text. tt) texts

operand_worded : (o : Operand) → IsWorded (operand_tree o)
operand_worded (Use place) = place_worded place
operand_worded (Key (keys.String text)) = ((lit< tt, refl), (tt, tt))
operand_worded (Key (keys.Number number)) = ((lit< tt, refl), (tt, tt))

row_worded : (row : Row) (pieces : List Piece) → AreWorded (row_parts row pieces)
row_worded rows.Texts pieces = texts_worded (texts pieces)
row_worded rows.Operands pieces = list_worded operand_tree operand_worded (operands pieces)

type_worded : (cast : HirType) → IsWorded (trees.hir_type cast)
type_worded (hir_types.Var id) = tt
type_worded hir_types.Primitive = tt
type_worded hir_types.Array = tt

-- The trees that a form shows beside its texts and operands.
abbrev shown : Form → List Tree
shown (Silent word fields) = fields
shown (Asks word pieces) = []
shown (Assigns word head texts value targets) = head

joined_worded : (head rest : List Tree) → AreWorded (parts_of head) → AreWorded (parts_of rest) → AreWorded (parts_of (head ++ rest))
joined_worded [] rest first second = second
joined_worded (tree ∷ head) rest first second = (first.0, joined_worded head rest first.1 second)

form_worded : (f : Form) → IsWord (form_word f) → AreWorded (parts_of (shown f)) → IsWorded (form_tree f)
form_worded (Silent word fields) is_word each = (is_word, each)
form_worded (Asks word pieces) is_word each = (is_word, (row_worded rows.Texts pieces, (row_worded rows.Operands pieces, tt)))
form_worded (Assigns word head texts value targets) is_word each =
    (is_word, joined_worded head _ each (row_worded rows.Texts texts, (row_worded rows.Operands (used value ∷ []), (row_worded rows.Operands targets, tt))))

word_is_word : (v : InstructionValue) → IsWord (value_word v)
word_is_word values.Debugger = (lit< tt, refl)
word_is_word _ = (lit< tt, refl)

shown_worded : (v : InstructionValue) → AreWorded (parts_of (shown (form_of v)))
shown_worded (values.Primitive v) = (primitive_worded v, tt)
shown_worded (values.JsxText text) = (tt, tt)
shown_worded (values.LoadLocal place) = (place_worded place, tt)
shown_worded (values.LoadContext place) = (place_worded place, tt)
shown_worded (values.TypeCastExpression value cast at) = (place_worded value, (type_worded cast, (spans_worded at, tt)))
shown_worded (values.DeclareLocal kind place) = (tt, (place_worded place, tt))
shown_worded (values.DeclareContext kind place) = (tt, (place_worded place, tt))
shown_worded (values.StoreLocal kind place value) = (tt, (place_worded place, (place_worded value, tt)))
shown_worded (values.StoreContext kind place value) = (tt, (place_worded place, (place_worded value, tt)))
shown_worded (values.Destructure destructure) = (tt, tt)
shown_worded _ = tt

value_worded : (v : InstructionValue) → IsWorded (value v)
value_worded v = form_worded (form_of v) (word_is_word v) (shown_worded v)

instruction_worded : (i : Instruction) → IsWorded (spec.instruction i)
instruction_worded i = ((lit< tt, refl), (tt, (place_worded i.lvalue, (spans_worded i.span, (value_worded i.value, tt)))))

case_worded : (c : Case) → IsWorded (spec.case c)
case_worded c = ((lit< tt, refl), (optional_worded trees.place place_worded c.test, (tt, tt)))

field_worded : (f : Field) → IsWorded (spec.field f)
field_worded (Leads id) = tt
field_worded (MayLead id) = optional_worded spec.block_id (λ block. tt) id
field_worded (Chooses cases) = list_worded spec.case case_worded cases
field_worded (Follows id) = tt
field_worded (Names id) = tt
field_worded (MayName id) = optional_worded spec.block_id (λ block. tt) id
field_worded (Reads place) = place_worded place
field_worded (MayBind place) = optional_worded trees.place place_worded place
field_worded (Says text) = tt
field_worded (Holds flag) = tt

terminal_is_word : (k : TerminalKind) → IsWord (terminal_word k)
terminal_is_word kinds.Unreachable = (lit< tt, refl)
terminal_is_word _ = (lit< tt, refl)

terminal_worded : (t : Terminal) → IsWorded (spec.terminal t)
terminal_worded t = (terminal_is_word t.kind, (tt, (spans_worded t.span, list_worded spec.field field_worded (fields_of t.kind))))

block_worded : (b : BlockPair) → IsWorded (spec.block b)
block_worded b = (
  (lit< tt, refl),
  (tt, (tt, (list_worded spec.listed_instruction (λ id. tt) b.1.instructions, (terminal_worded b.1.terminal, (list_worded spec.block_id (λ id. tt) b.1.preds, tt))))),
)

param_worded : (p : Param) → IsWorded (spec.param p)
param_worded (params.Place p) = place_worded p
param_worded (params.Spread p) = ((lit< tt, refl), (place_worded p, tt))

function_worded : (f : HirFunction (List BlockPair)) → IsWorded (spec.function f)
function_worded f =
    let tables : AreWorded (parts_of (trees.listed (map spec.block f.body.blocks) ∷ trees.listed (map spec.instruction f.instructions) ∷ [])) =
    (list_worded spec.block block_worded f.body.blocks, (list_worded spec.instruction instruction_worded f.instructions, tt)) in
    let lists : AreWorded (parts_of (trees.listed (map trees.said f.directives) ∷ trees.listed (map spec.param f.params) ∷ trees.listed (map trees.place f.context) ∷ [])) =
    (texts_worded f.directives, (list_worded spec.param param_worded f.params, (list_worded trees.place place_worded f.context, tt))) in (
      (lit< tt, refl),
      (spans_worded f.span, (optional_worded trees.said (λ text. tt) f.name, (tt, (tt, (tt, (lists.0, (lists.1.0, (lists.1.1.0, (place_worded f.returns, (tt, tables)))))))))),
    )

inner_worded : (i : InnerFunction) → IsWorded (spec.inner i)
inner_worded i = ((lit< tt, refl), (tt, (function_worded i.function, tt)))

name_worded : (n : IdentifierName) → IsWorded (spec.name n)
name_worded (names.Named text) = ((lit< tt, refl), (tt, tt))
name_worded (names.Promoted text) = ((lit< tt, refl), (tt, tt))

identifier_worded : (i : Identifier) → IsWorded (spec.identifier i)
identifier_worded i = ((lit< tt, refl), (optional_worded spec.name name_worded i.name, (spans_worded i.span, (tt, tt))))

pair_worded : (p : Pair) → IsWorded (spec.pair p)
pair_worded p = ((lit< tt, refl), (tt, (tt, tt)))

pub lowered_worded : (l : Lowered) → IsWorded (spec.lowered l)
unfolding spec.lowered
lowered_worded l = (
  (lit< tt, refl),
  (
    function_worded l.function,
    (list_worded spec.inner inner_worded l.inner, (list_worded spec.identifier identifier_worded l.identifiers, (list_worded spec.pair pair_worded l.pairs, tt))),
  ),
)
