-- Kinds of type annotations, and the text that writes each.
use Rattle.std.specs.Prelude.{ℕ, List, [], ◌∷◌, codes}
use Rattle.rl_base.specs.declared.type_kind.TypeKind.{TypeKind}
use Rattle.rl_base.specs.declared.type_kind.TypeKind.TheVariants as kind

-- The text that writes a kind.
abbrev pub type_text : TypeKind → List ℕ
type_text kind.Array = codes "array"
type_text kind.Primitive = codes "primitive"
type_text kind.Other = codes "other"

-- Every kind, in the order of the declaration.
abbrev pub type_kinds : List TypeKind
type_kinds = kind.Array ∷ kind.Primitive ∷ kind.Other ∷ []
