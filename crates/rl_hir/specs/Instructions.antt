-- The bindings and arguments of instructions, as texts and places.
use Rattle.std.specs.Prelude.{ℕ, List, [], ◌∷◌, codes}
use Rattle.rl_hir.specs.declared.instruction.Place.{Place}
use Rattle.rl_hir.specs.declared.instruction.NonLocalBinding.{NonLocalBinding}
use Rattle.rl_hir.specs.declared.instruction.NonLocalBinding.TheVariants as bindings
use Rattle.rl_hir.specs.declared.instruction.PlaceOrSpread.{PlaceOrSpread}
use Rattle.rl_hir.specs.declared.instruction.PlaceOrSpread.TheVariants as arguments

-- The texts that tell a binding from all others: the name, the word of its kind (none for a global), and for an import the
-- module, and the name there where that is imported.
abbrev pub binding_texts : NonLocalBinding → List (List ℕ)
binding_texts (bindings.Global name) = name ∷ []
binding_texts (bindings.ModuleLocal name) = name ∷ codes "module" ∷ []
binding_texts (bindings.ImportDefault name source) = name ∷ codes "default" ∷ source ∷ []
binding_texts (bindings.ImportNamespace name source) = name ∷ codes "namespace" ∷ source ∷ []
binding_texts (bindings.ImportSpecifier name export) = name ∷ codes "named" ∷ export.module ∷ export.imported ∷ []

-- The text that stands for an argument's shape.
abbrev pub argument_shape : PlaceOrSpread → List ℕ
argument_shape (arguments.Place p) = codes "place"
argument_shape (arguments.Spread p) = codes "spread"

-- The place of the value, or of the value that is spread.
abbrev pub argument_place : PlaceOrSpread → Place
argument_place (arguments.Place p) = p
argument_place (arguments.Spread p) = p
