-- Entities: names with a code point each.
use Rattle.std.specs.Prelude.{ℕ, Bool, Option, List}
use Rattle.std.specs.List.{list_all}
use Rattle.std.specs.Option.{option_map}
use Rattle.rl_base.specs.NameTables.{item_named}
use Rattle.rl_base.specs.Scalars.{is_scalar_value}
use Rattle.rl_atoms.specs.declared.entity.Entity.{Entity}

-- The name of an entity.
abbrev pub entity_name : Entity → List ℕ
entity_name entity = entity.name

-- The value of the first of `entities` that is named `name`.
abbrev pub entity_value : (entities : List Entity) → (name : List ℕ) → Option ℕ
entity_value entities name = option_map (λ entity. entity.value) (item_named entity_name entities name)

-- True if each value is a Unicode scalar value.
abbrev pub are_scalar : (entities : List Entity) → Bool
are_scalar entities = list_all (λ entity. is_scalar_value entity.value) entities
