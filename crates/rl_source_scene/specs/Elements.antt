-- Elements of JSX, by their parts.
use Rattle.std.specs.Prelude.{ℕ, Bool, true, false, ◌&&◌, Option, Some, None, List}
use Rattle.std.specs.Option.{option_map}
use Rattle.rl_code.specs.Parts.{both, said_only}
use Rattle.rl_model.specs.JsxText.{is_fbt}
use Rattle.rl_syntax.specs.Syntax.{Syntax, Node, Pieces, End, Then, syntax}
use Rattle.rl_syntax.specs.declared.word.Word.{Word}
use Rattle.rl_syntax.specs.declared.word.Word.TheVariants as word
use Rattle.rl_source_scene.specs.declared.elements.ElementParts.{ElementParts}

-- Tag and attributes of an element's beginning.
abbrev pub opening_by : Word → Pieces → Option (Syntax × Syntax)
opening_by word.Opening parts = both parts
opening_by w parts = None

abbrev pub opening_parts : Syntax → Option (Syntax × Syntax)
opening_parts (Node at w parts) = opening_by w parts
opening_parts _ = None

-- Tag, attributes and children of an element.
pub record Element : Type 0 where
  pub tag : Syntax
  pub attributes : Syntax
  pub children : Syntax

abbrev pub element_of : Syntax → (opening : Syntax × Syntax) → Element
element_of children opening = record { tag = opening.0; attributes = opening.1; children = children }

abbrev pub element_parts : Word → Pieces → Option Element
element_parts word.Element (Then opening (Then children closing)) = option_map (element_of children) (opening_parts opening)
element_parts w parts = None

abbrev pub seen_parts : ElementParts → Element
seen_parts p = record { tag = syntax p.tag.now; attributes = syntax p.attributes.now; children = syntax p.children.now }

-- True of a part that is the name of an element whose texts keep their spaces.
abbrev pub fbt_said : Option (List ℕ) → Bool
fbt_said (Some name) = is_fbt name
fbt_said None = false

abbrev pub says_fbt : Pieces → Bool
says_fbt parts = fbt_said (said_only parts)

-- True of a tag that is a name.
abbrev pub is_named : Word → Bool
is_named word.Tag = true
is_named word.Id = true
is_named w = false

abbrev pub is_fbt_by : Word → Pieces → Bool
is_fbt_by w parts = is_named w && says_fbt parts

-- True of a text of JSX.
abbrev pub is_text : Word → Bool
is_text word.Text = true
is_text w = false
