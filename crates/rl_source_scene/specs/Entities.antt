-- Entities of a unit that are added to a table, one after the other.
use Rattle.std.specs.Prelude.{◌≡◌, ℕ, Option, Some, None, List}
use Rattle.rl_atoms.specs.Entities.{entity_value}
use Rattle.rl_atoms.specs.declared.entity.Entity.{Entity}
use Rattle.rl_model.specs.JsxText.{value_among}
use Rattle.rl_syntax.specs.Syntax.{Syntax, Node, Said, Count, Pieces, End, Then}
use Rattle.rl_syntax.specs.declared.numbered.At.{At}
use Rattle.rl_syntax.specs.declared.word.Word.TheVariants as word

-- A value that was found first, or else a later one.
abbrev pub first_found : Option ℕ → (later : Option ℕ) → Option ℕ
first_found (Some value) later = Some value
first_found None later = later

-- The node of an entity.
abbrev pub entity_node : At → (text : List ℕ) → (value : ℕ) → Syntax
entity_node at text value = Node at word.Entity (Then (Said text) (Then (Count value) End))

-- The table has an entity of a unit more, which counts where its name was none's.
pub record IsAdded (old : List Entity) (entity : Syntax) (new : List Entity) : Type 0 where
  pub at : At
  pub text : List ℕ
  pub value : ℕ
  pub is : entity_node at text value ≡ entity
  pub same : (name : List ℕ) → entity_value new name ≡ first_found (entity_value old name) (value_among (Then entity End) name)

-- The value that the table finds, and else the one among the entities that are left, is the one that all of them have.
pub record AreAdded (table : List Entity) (left all : Pieces) : Type 0 where
  pub same : (name : List ℕ) → first_found (entity_value table name) (value_among left name) ≡ value_among all name
