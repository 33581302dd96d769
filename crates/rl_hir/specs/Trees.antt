-- Trees of the notation, and those of the small parts of a listing.
use Rattle.std.specs.Prelude.{ℕ, Option, Some, None, List, [], ◌∷◌, map, codes}
use Rattle.rl_text.specs.Notation.{Tree, Node, Listed, Said, Count, Flag, Absent}
use Rattle.rl_text.specs.Raw.{parts_of}
use Rattle.rl_base.specs.declared.span.Span.{Span}
use Rattle.rl_hir.specs.declared.instruction.Place.{Place}
use Rattle.rl_hir.specs.declared.instruction.HirType.{HirType}
use Rattle.rl_hir.specs.declared.instruction.HirType.TheVariants as hir_types
use Rattle.rl_hir.specs.declared.instruction.InstructionKind.{InstructionKind}
use Rattle.rl_hir.specs.declared.instruction.InstructionKind.TheVariants as instruction_kinds
use Rattle.rl_hir.specs.declared.instruction.PrimitiveValue.{PrimitiveValue}
use Rattle.rl_hir.specs.declared.instruction.PrimitiveValue.TheVariants as primitives
use Rattle.rl_hir.specs.declared.instruction.PropertyLiteral.{PropertyLiteral}
use Rattle.rl_hir.specs.declared.instruction.PropertyLiteral.TheVariants as keys

-- A node with its word and parts.
abbrev pub node : List ℕ → List Tree → Tree
node word parts = Node word (parts_of parts)

abbrev pub listed : List Tree → Tree
listed parts = Listed (parts_of parts)

-- A list with a tree for each item.
abbrev pub list : {X : Type 0} → (X → Tree) → List X → Tree
list tree items = listed (map tree items)

-- The tree of an optional item; the sign of absence for `None`.
abbrev pub optional : {X : Type 0} → (X → Tree) → Option X → Tree
optional tree None = Absent
optional tree (Some item) = tree item

abbrev pub said : List ℕ → Tree
said text = Said text

-- `(at START END)`
abbrev pub span : Span → Tree
span s = node (codes "at") (Count s.start ∷ Count s.end ∷ [])

-- `(p IDENTIFIER SPAN)`
abbrev pub place : Place → Tree
place p = node (codes "p") (Count p.identifier.0 ∷ optional span p.span ∷ [])

-- `(undefined)`, `(null)`, `(bool FLAG)`, `(number NUMBER)`, `(text TEXT)`
abbrev pub primitive : PrimitiveValue → Tree
primitive primitives.Undefined = node (codes "undefined") []
primitive primitives.Null = node (codes "null") []
primitive (primitives.Boolean value) = node (codes "bool") (Flag value ∷ [])
primitive (primitives.Number number) = node (codes "number") (Count number ∷ [])
primitive (primitives.String text) = node (codes "text") (Said text ∷ [])

-- `(text TEXT)`, `(number NUMBER)`
abbrev pub property : PropertyLiteral → Tree
property (keys.String text) = node (codes "text") (Said text ∷ [])
property (keys.Number number) = node (codes "number") (Count number ∷ [])

abbrev pub instruction_kind : InstructionKind → List ℕ
instruction_kind instruction_kinds.Const = codes "const"
instruction_kind instruction_kinds.Let = codes "let"
instruction_kind instruction_kinds.Reassign = codes "reassign"
instruction_kind instruction_kinds.Catch = codes "catch"
instruction_kind instruction_kinds.Function = codes "function"
instruction_kind instruction_kinds.HoistedConst = codes "hoistedconst"
instruction_kind instruction_kinds.HoistedLet = codes "hoistedlet"
instruction_kind instruction_kinds.HoistedFunction = codes "hoistedfunction"

abbrev pub kind : InstructionKind → Tree
kind k = Said (instruction_kind k)

-- A number, `"primitive"`, `"array"`
abbrev pub hir_type : HirType → Tree
hir_type (hir_types.Var id) = Count id.0
hir_type hir_types.Primitive = Said (codes "primitive")
hir_type hir_types.Array = Said (codes "array")
