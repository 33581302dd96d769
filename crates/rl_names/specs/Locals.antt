-- Parameters that declare symbols, each its own, and texts of other names.
use Rattle.std.specs.Prelude.{◌≡◌, ◌≢◌, ℕ, true, false, is_some, List, [], ◌∷◌, All}
use Rattle.std.specs.Str.{IsUtf8, bytes_eq}
use Rattle.rl_names.specs.Names.{Names}
use Rattle.rl_names.specs.declared.parameters.Parameter.{Parameter}
use Rattle.rl_hir.specs.Instructions.{binding_texts}
use Rattle.rl_hir.specs.declared.instruction.NonLocalBinding.{NonLocalBinding}
use Rattle.rl_names.specs.declared.names.Meaning.TheVariants.{Outer}
use Rattle.rl_syntax.specs.Syntax.{Syntax, Node, Listed, Pieces, End, Then}
use Rattle.rl_syntax.specs.declared.word.Word.TheVariants as word

-- The `bind` node of a parameter declares a symbol, if the parameter is a name.
abbrev pub IsDeclared : Names → Syntax → Type 0
IsDeclared names (Node at word.Param (Then (Node bind word.Bind parts) default)) = is_some (names.declared bind.id.0) ≡ true
IsDeclared names _ = Unit {0}

-- As `IsDeclared`, for parameters in a row.
abbrev pub AreDeclared : Names → Pieces → Type 0
AreDeclared names End = Unit {0}
AreDeclared names (Then param params) = IsDeclared names param × AreDeclared names params

-- As `IsDeclared`, for the parameters in a `params` node.
abbrev pub DeclaresAll : Names → Syntax → Type 0
DeclaresAll names (Node at word.Params (Then (Listed params) rest)) = AreDeclared names params
DeclaresAll names _ = Unit {0}

-- Two parameters have two symbols and two names.
pub record IsApart (p q : Parameter) : Type 0 where
  pub symbols : p.symbol.0 ≢ q.symbol.0
  pub names : bytes_eq p.name q.name ≡ false

-- As `IsApart`, for every two of a list, the one before the other.
abbrev pub AreApart : List Parameter → Type 0
AreApart [] = Unit {0}
AreApart (p ∷ ps) = All (IsApart p) ps × AreApart ps

-- The texts of what is no local are UTF-8: the name, as it stands in the unit, and those of an import.
pub record HasTexts (names : Names) : Type 0 where
  pub outer : (reference : ℕ) (name : List ℕ) (binding : NonLocalBinding) → names.meaning reference name ≡ Outer binding → IsUtf8 name → All IsUtf8 (binding_texts binding)
