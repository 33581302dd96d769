-- A name `this` among parameters, by the role of a node.
use Rattle.std.specs.Prelude.{ℕ, Bool, false, List, codes}
use Rattle.std.specs.Str.{bytes_eq}
use Rattle.rl_code.specs.Roles.{part_at, pattern_role}
use Rattle.rl_code.specs.declared.role.Part.TheVariants as part
use Rattle.rl_code.specs.declared.role.Role.{Role}
use Rattle.rl_code.specs.declared.role.Role.TheVariants as role
use Rattle.rl_model.specs.Applied.{has_this, has_this_among}
use Rattle.rl_row_forms.specs.Shaped.{first_said}
use Rattle.rl_semantic.specs.Items.{of_item}
use Rattle.rl_syntax.specs.Syntax.{Pieces}
use Rattle.rl_syntax.specs.declared.word.Word.{Word}
use Rattle.rl_syntax.specs.declared.word.Word.TheVariants as word

-- The role of a node of parameters.
abbrev pub parameter_role : Word → Role
parameter_role word.Param = role.Part part.First
parameter_role w = pattern_role w

abbrev pub is_this : List ℕ → Bool
is_this name = bytes_eq name (codes "this")

-- As `has_this`, of a node by its role.
abbrev pub has_this_as : Role → Pieces → Bool
has_this_as role.Name parts = of_item false is_this (first_said parts)
has_this_as role.Items parts = has_this_among parts
has_this_as (role.Part p) parts = of_item false has_this (part_at p parts)
has_this_as role.Nothing parts = false
