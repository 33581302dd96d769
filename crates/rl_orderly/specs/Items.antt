-- Items and defaults of patterns, by the roles of nodes.
use Rattle.std.specs.Prelude.{ℕ, if◌then◌else◌, Option, Some, None, List, [], ◌∷◌, ◌++◌, map}
use Rattle.rl_code.specs.Parts.{both, items_and_rest}
use Rattle.rl_code.specs.Roles.{part_at}
use Rattle.rl_code.specs.declared.role.Part.TheVariants as part
use Rattle.rl_model.specs.Code.{declared_by}
use Rattle.rl_model.specs.Orderly.{Item, Binds, Passes, defaults_among, defaults_in, items_among, items_of_part}
use Rattle.rl_model.specs.Shapes.{is_absent}
use Rattle.rl_names.specs.Names.{Names}
use Rattle.rl_orderly.specs.declared.items.ItemRole.{ItemRole}
use Rattle.rl_orderly.specs.declared.items.ItemRole.TheVariants as role
use Rattle.rl_semantic.specs.Items.{of_item}
use Rattle.rl_syntax.specs.Syntax.{Syntax, Node, Pieces}
use Rattle.rl_syntax.specs.declared.numbered.At.{At}
use Rattle.rl_syntax.specs.declared.word.Word.{Word}
use Rattle.rl_syntax.specs.declared.word.Word.TheVariants as word

-- An item, by the symbol that it binds; None of an end that is passed.
abbrev pub item_of : Option ℕ → Item
item_of None = Passes
item_of (Some symbol) = Binds symbol

-- The role of a node of a pattern or a parameter list.
abbrev pub item_role : Word → ItemRole
item_role word.Bind = role.Name
item_role word.Arraypat = role.Nested
item_role word.Objectpat = role.Nested
item_role word.Defaultpat = role.Default
item_role word.Param = role.Param
item_role word.Keyedpat = role.Part part.Last
item_role word.Rest = role.Part part.Only
item_role _ = role.Nothing

-- Behind a parameter with a default something has passed.
abbrev pub passed_behind : (default : Syntax) → List Item
passed_behind default = if is_absent default then [] else Passes ∷ []

-- The items of a part, by its role.
abbrev pub items_as : Names → At → Pieces → ItemRole → List Item
items_as names at parts role.Name = map (λ symbol. Binds symbol) (declared_by (names.declared at.id.0))
items_as names at parts role.Nested =
    of_item [] (λ p. items_among names p.0 ++ items_of_part names p.1 ++ Passes ∷ []) (items_and_rest parts)
items_as names at parts role.Default = of_item [] (λ p. items_of_part names p.0 ++ Passes ∷ []) (both parts)
items_as names at parts role.Param = of_item [] (λ p. items_of_part names p.0 ++ passed_behind p.1) (both parts)
items_as names at parts (role.Part p) = of_item [] (items_of_part names) (part_at p parts)
items_as names at parts role.Nothing = []

-- The defaults of a part, by its role; those of a list are those of its parts.
abbrev pub defaults_as : Pieces → ItemRole → List Syntax
defaults_as parts role.Name = []
defaults_as parts role.Nested = of_item [] (λ p. defaults_among p.0 ++ defaults_in p.1) (items_and_rest parts)
defaults_as parts role.Default = of_item [] (λ p. defaults_in p.0 ++ p.1 ∷ []) (both parts)
defaults_as parts role.Param = of_item [] (λ p. defaults_in p.0 ++ p.1 ∷ []) (both parts)
defaults_as parts (role.Part p) = of_item [] defaults_in (part_at p parts)
defaults_as parts role.Nothing = []

-- The role of a node that is a whole pattern or a parameter list.
abbrev pub whole_role : Word → ItemRole
whole_role word.Params = role.Nested
whole_role w = item_role w

-- Items and a rest, of a whole pattern or a parameter list.
abbrev pub list_of : Word → Pieces → Option (Pieces × Syntax)
list_of word.Arraypat parts = items_and_rest parts
list_of word.Objectpat parts = items_and_rest parts
list_of word.Params parts = items_and_rest parts
list_of _ parts = None

-- As `list_of`, of a tree.
abbrev pub list_in : Syntax → Option (Pieces × Syntax)
list_in (Node at w parts) = list_of w parts
list_in _ = None
