-- Roles of the nodes of targets and of binding patterns, and the variables of a node by its role.
use Rattle.std.specs.Prelude.{ℕ, Option, List, [], ◌++◌}
use Rattle.rl_code.specs.Parts.{first, items_and_rest, only, said_only, third_of_three}
use Rattle.rl_code.specs.declared.role.Part.{Part}
use Rattle.rl_code.specs.declared.role.Part.TheVariants as part
use Rattle.rl_code.specs.declared.role.Role.{Role}
use Rattle.rl_code.specs.declared.role.Role.TheVariants as role
use Rattle.rl_model.specs.Code.{assigned_among, assigned_by, bound_among, bound_by, declared_by, local_of}
use Rattle.rl_names.specs.Names.{Names}
use Rattle.rl_semantic.specs.Items.{of_item}
use Rattle.rl_syntax.specs.Syntax.{Syntax, Pieces}
use Rattle.rl_syntax.specs.declared.numbered.At.{At}
use Rattle.rl_syntax.specs.declared.word.Word.{Word}
use Rattle.rl_syntax.specs.declared.word.Word.TheVariants as word

-- The role of a node of a target.
abbrev pub target_role : Word → Role
target_role word.Id = role.Name
target_role word.Arraytarget = role.Items
target_role word.Objecttarget = role.Items
target_role word.Default = role.Part part.First
target_role word.Short = role.Part part.First
target_role word.Keyed = role.Part part.Last
target_role word.Rest = role.Part part.Only
target_role _ = role.Nothing

-- The role of a node of a binding pattern.
abbrev pub pattern_role : Word → Role
pattern_role word.Bind = role.Name
pattern_role word.Arraypat = role.Items
pattern_role word.Objectpat = role.Items
pattern_role word.Defaultpat = role.Part part.First
pattern_role word.Keyedpat = role.Part part.Last
pattern_role word.Rest = role.Part part.Only
pattern_role _ = role.Nothing

abbrev pub part_at : Part → Pieces → Option Syntax
part_at part.First parts = first parts
part_at part.Last parts = third_of_three parts
part_at part.Only parts = only parts

-- The variables that a node of a target assigns, by its role.
abbrev pub assigned_as : Names → At → Pieces → Role → List ℕ
assigned_as names at parts role.Name = of_item [] (λ name. local_of (names.meaning at.reference.0 name)) (said_only parts)
assigned_as names at parts role.Items = of_item [] (λ p. assigned_among names p.0 ++ assigned_by names p.1) (items_and_rest parts)
assigned_as names at parts (role.Part p) = of_item [] (assigned_by names) (part_at p parts)
assigned_as names at parts role.Nothing = []

-- The symbols that a node of a binding pattern declares, by its role.
abbrev pub bound_as : Names → At → Pieces → Role → List ℕ
bound_as names at parts role.Name = declared_by (names.declared at.id.0)
bound_as names at parts role.Items = of_item [] (λ p. bound_among names p.0 ++ bound_by names p.1) (items_and_rest parts)
bound_as names at parts (role.Part p) = of_item [] (bound_by names) (part_at p parts)
bound_as names at parts role.Nothing = []
