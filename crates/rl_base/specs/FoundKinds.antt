-- Each kind of variable declarations and of type annotations is found by its text among all of its sort.
use Rattle.std.specs.Prelude.{refl}
use Rattle.rl_base.specs.FoundTexts.{AreFound}
use Rattle.rl_base.specs.TypeKinds.{type_text, type_kinds}
use Rattle.rl_base.specs.VariableKinds.{variable_text, variable_kinds}
use Rattle.rl_base.specs.declared.type_kind.TypeKind.TheVariants as type_kind
use Rattle.rl_base.specs.declared.variable_kind.VariableKind.TheVariants as variable_kind

-- Kinds of type annotations.
pub type_kinds_found : AreFound type_text type_kinds
type_kinds_found type_kind.Array = refl
type_kinds_found type_kind.Primitive = refl
type_kinds_found type_kind.Other = refl

-- Kinds of variable declarations.
pub variable_kinds_found : AreFound variable_text variable_kinds
variable_kinds_found variable_kind.Var = refl
variable_kinds_found variable_kind.Let = refl
variable_kinds_found variable_kind.Const = refl
variable_kinds_found variable_kind.Using = refl
variable_kinds_found variable_kind.AwaitUsing = refl
