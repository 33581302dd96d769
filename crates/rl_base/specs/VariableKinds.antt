-- Kinds of variable declarations, and the text that writes each.
use Rattle.std.specs.Prelude.{ℕ, List, [], ◌∷◌, codes}
use Rattle.rl_base.specs.declared.variable_kind.VariableKind.{VariableKind}
use Rattle.rl_base.specs.declared.variable_kind.VariableKind.TheVariants as kind

-- The text that writes a kind.
abbrev pub variable_text : VariableKind → List ℕ
variable_text kind.Var = codes "var"
variable_text kind.Let = codes "let"
variable_text kind.Const = codes "const"
variable_text kind.Using = codes "using"
variable_text kind.AwaitUsing = codes "await using"

-- Every kind, in the order of the declaration.
abbrev pub variable_kinds : List VariableKind
variable_kinds = kind.Var ∷ kind.Let ∷ kind.Const ∷ kind.Using ∷ kind.AwaitUsing ∷ []
