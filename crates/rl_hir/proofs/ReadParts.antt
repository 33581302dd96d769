-- The parts of a tree, and the small types, are read back from their trees.
use Rattle.std.proofs.Common.{◌≡◌, ℕ, zero, suc, Bool, false, if◌then◌else◌, Option, Some, None, List, [], ◌∷◌, codes, refl, ap, ◌∙◌}
use Rattle.std.specs.Str.{bytes_eq}
use Rattle.rl_base.specs.declared.span.Span.{Span}
use Rattle.rl_text.specs.Notation.{Tree, Node, Listed, Said, Count, Flag, Absent, Parts, End, Then}
use Rattle.rl_hir.specs.Trees as trees
use Rattle.rl_hir.specs.declared.instruction.HirType.{HirType}
use Rattle.rl_hir.specs.declared.instruction.HirType.TheVariants as hir_types
use Rattle.rl_hir.specs.declared.instruction.InstructionKind.{InstructionKind}
use Rattle.rl_hir.specs.declared.instruction.InstructionKind.TheVariants as instruction_kinds
use Rattle.rl_hir.specs.declared.instruction.Place.{Place}
use Rattle.rl_hir.specs.declared.instruction.PrimitiveValue.{PrimitiveValue}
use Rattle.rl_hir.specs.declared.instruction.PrimitiveValue.TheVariants as primitives
use Rattle.rl_hir.specs.declared.instruction.PropertyLiteral.{PropertyLiteral}
use Rattle.rl_hir.specs.declared.instruction.PropertyLiteral.TheVariants as keys

-- The parts of a tree.

abbrev pub word_of : Tree → List ℕ
word_of (Node word parts) = word
word_of _ = []

abbrev pub parts_in : Tree → Parts
parts_in (Node word parts) = parts
parts_in (Listed parts) = parts
parts_in _ = End

abbrev pub nth : Parts → ℕ → Tree
nth End n = Absent
nth (Then first rest) zero = first
nth (Then first rest) (suc n) = nth rest n

abbrev pub later : Parts → Parts
later End = End
later (Then first rest) = rest

abbrev pub part : ℕ → Tree → Tree
part n tree = nth (parts_in tree) n

abbrev pub number_of : Tree → ℕ
number_of (Count number) = number
number_of _ = 0

abbrev pub flag_of : Tree → Bool
flag_of (Flag flag) = flag
flag_of _ = false

unfoldable pub text_of : Tree → List ℕ
text_of (Said text) = text
text_of _ = []

pub optional_of : {X : Type 0} → (Tree → X) → Tree → Option X
optional_of read Absent = None
optional_of read tree = Some (read tree)

-- The tree says that something is there.
abbrev pub IsPresent : Tree → Type 0
IsPresent Absent = ⊥
IsPresent tree = Unit {0}

some_of : {X : Type 0} (read : Tree → X) (tree : Tree) → IsPresent tree → optional_of read tree ≡ Some (read tree)
unfolding optional_of
some_of read (Node word parts) present = refl
some_of read (Listed parts) present = refl
some_of read (Said text) present = refl
some_of read (Count number) present = refl
some_of read (Flag flag) present = refl
some_of read Absent present = absurd present

pub optional-back : {X : Type 0} (show : X → Tree) (read : Tree → X) → ((x : X) → IsPresent (show x)) → ((x : X) → read (show x) ≡ x)
    → (o : Option X) → optional_of read (trees.optional show o) ≡ o
unfolding optional_of
optional-back show read present back None = refl
optional-back show read present back (Some x) = some_of read (show x) (present x) ∙ ap Some (back x)

abbrev pub items_of : {X : Type 0} → (Tree → X) → Parts → List X
items_of read End = []
items_of read (Then first rest) = read first ∷ items_of read rest

pub list_of : {X : Type 0} → (Tree → X) → Tree → List X
list_of read tree = items_of read (parts_in tree)

pub list-back : {X : Type 0} (show : X → Tree) (read : Tree → X) → ((x : X) → read (show x) ≡ x) → (xs : List X) → list_of read (trees.list show xs) ≡ xs
unfolding list_of
list-back show read back [] = refl
list-back show read back (x ∷ xs) = ap (λ first. first ∷ list_of read (trees.list show xs)) (back x) ∙ ap (λ rest. x ∷ rest) (list-back show read back xs)

-- The entry of the first row with a word; `other` where there is none.
abbrev pub choose : {X : Type 0} → List ℕ → List (List ℕ × X) → X → X
choose word [] other = other
choose word (row ∷ rows) other = if bytes_eq word row.0 then row.1 else choose word rows other

-- Each type.

pub span_of : Tree → Span
span_of tree = record { start = number_of (part 0 tree); end = number_of (part 1 tree) }

pub span-back : (s : Span) → span_of (trees.span s) ≡ s
unfolding span_of
span-back s = refl

pub spans_of : Tree → Option Span
spans_of = optional_of span_of

pub spans-back : (s : Option Span) → spans_of (trees.optional trees.span s) ≡ s
unfolding spans_of
spans-back = optional-back trees.span span_of (λ s. tt) span-back

pub place_of : Tree → Place
place_of tree = record { identifier = record { 0 = number_of (part 0 tree) }; span = spans_of (part 1 tree) }

pub place-back : (p : Place) → place_of (trees.place p) ≡ p
unfolding place_of
place-back p = rw (spans-back p.span) refl

primitive_readers : List (List ℕ × (Tree → PrimitiveValue))
primitive_readers =
    (codes "undefined", λ tree. primitives.Undefined)
    ∷ (codes "null", λ tree. primitives.Null)
    ∷ (codes "bool", λ tree. primitives.Boolean (flag_of (part 0 tree)))
    ∷ (codes "number", λ tree. primitives.Number (number_of (part 0 tree)))
    ∷ (codes "text", λ tree. primitives.String (text_of (part 0 tree)))
    ∷ []

pub primitive_of : Tree → PrimitiveValue
primitive_of tree = choose (word_of tree) primitive_readers (λ tree. primitives.Undefined) tree

pub primitive-back : (v : PrimitiveValue) → primitive_of (trees.primitive v) ≡ v
unfolding primitive_of primitive_readers text_of
primitive-back primitives.Undefined = refl
primitive-back primitives.Null = refl
primitive-back (primitives.Boolean value) = refl
primitive-back (primitives.Number number) = refl
primitive-back (primitives.String text) = refl

pub key_of : Tree → PropertyLiteral
key_of tree = if bytes_eq (word_of tree) (codes "text") then keys.String (text_of (part 0 tree)) else keys.Number (number_of (part 0 tree))

pub key-back : (key : PropertyLiteral) → key_of (trees.property key) ≡ key
unfolding key_of text_of
key-back (keys.String text) = refl
key-back (keys.Number number) = refl

kinds : List (List ℕ × InstructionKind)
kinds =
    (codes "const", instruction_kinds.Const) ∷ (codes "let", instruction_kinds.Let) ∷ (codes "reassign", instruction_kinds.Reassign) ∷ (codes "catch", instruction_kinds.Catch)
    ∷ (codes "function", instruction_kinds.Function) ∷ (codes "hoistedconst", instruction_kinds.HoistedConst) ∷ (codes "hoistedlet", instruction_kinds.HoistedLet)
    ∷ (codes "hoistedfunction", instruction_kinds.HoistedFunction) ∷ []

pub kind_of : Tree → InstructionKind
kind_of tree = choose (text_of tree) kinds instruction_kinds.Const

pub kind-back : (kind : InstructionKind) → kind_of (trees.kind kind) ≡ kind
unfolding kind_of kinds text_of
kind-back instruction_kinds.Const = refl
kind-back instruction_kinds.Let = refl
kind-back instruction_kinds.Reassign = refl
kind-back instruction_kinds.Catch = refl
kind-back instruction_kinds.Function = refl
kind-back instruction_kinds.HoistedConst = refl
kind-back instruction_kinds.HoistedLet = refl
kind-back instruction_kinds.HoistedFunction = refl

pub type_of : Tree → HirType
type_of (Count number) = hir_types.Var (record { 0 = number })
type_of tree = if bytes_eq (text_of tree) (codes "array") then hir_types.Array else hir_types.Primitive

pub type-back : (cast : HirType) → type_of (trees.hir_type cast) ≡ cast
unfolding type_of text_of
type-back (hir_types.Var id) = refl
type-back hir_types.Primitive = refl
type-back hir_types.Array = refl
