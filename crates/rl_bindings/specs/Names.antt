-- The names that a unit declares or uses, each once, and their numbers.
use Rattle.std.specs.Prelude.{ℕ, not, if◌then◌else◌, Option, is_some, List, [], ◌∷◌, ◌++◌}
use Rattle.std.specs.Option.{unwrap_or}
use Rattle.rl_base.specs.NameTables.{index_named}
use Rattle.rl_bindings.specs.declared.names.Name.{Name}
use Rattle.rl_syntax.specs.Syntax.{Syntax, Node, Listed, Said, Pieces, End, Then}
use Rattle.rl_syntax.specs.declared.word.Word.{Word}
use Rattle.rl_syntax.specs.declared.word.Word.TheVariants as word

-- The number of a name: its index among `names`.
abbrev pub number_of : List Name → (text : List ℕ) → Option ℕ
number_of names text = index_named (λ n. n.text) names text

-- `names` with one more name, if it is new.
abbrev pub add_name : List Name → (text : List ℕ) → List Name
add_name names text = if not (is_some (number_of names text)) then names ++ record { text = text } ∷ [] else names

abbrev pub add_names : List Name → (texts : List (List ℕ)) → List Name
add_names names [] = names
add_names names (text ∷ texts) = add_names (add_name names text) texts

-- The name that a `bind` or `id` node with these parts says. A list of one, or of none at other parts.
abbrev pub said : Pieces → List (List ℕ)
said (Then (Said text) parts) = text ∷ []
said _ = []

-- The name that a node itself says, if it is a `bind` or an `id`.
abbrev pub named_by : Word → Pieces → List (List ℕ)
named_by word.Bind parts = said parts
named_by word.Id parts = said parts
named_by _ parts = []

abbrev mutual
  -- The names of a tree's `bind` and `id` nodes, in order.
  pub texts : Syntax → List (List ℕ)
  texts (Node at word parts) = named_by word parts ++ texts_of parts
  texts (Listed parts) = texts_of parts
  texts _ = []

  -- As `texts`, for parts in a row.
  pub texts_of : Pieces → List (List ℕ)
  texts_of End = []
  texts_of (Then piece pieces) = texts piece ++ texts_of pieces

-- The names of a tree, each once, in the order in which they come first.
abbrev pub names_in : Syntax → List Name
names_in tree = add_names [] (texts tree)

-- The number of the name of a node that says it; 0 where none is said.
abbrev pub numbered : List Name → (said : List (List ℕ)) → ℕ
numbered names [] = 0
numbered names (text ∷ texts) = unwrap_or (number_of names text) 0

-- The number of the name that a `bind` or `id` node with these parts says; 0 at parts that say none, which no unit has.
abbrev pub name_of : List Name → Pieces → ℕ
name_of names parts = numbered names (said parts)
