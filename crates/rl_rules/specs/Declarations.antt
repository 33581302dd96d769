-- Rule B8, and rule B5 of namespaces: the places where declarations stand.
use Rattle.std.specs.Prelude.{ℕ, nat_eq, if◌then◌else◌, Option, Some, None, List, codes, Bool, true, false, not}
use Rattle.std.specs.Str.{bytes_eq}
use Rattle.rl_grammar.specs.Rules.{rule}
use Rattle.rl_grammar.specs.declared.kind.Field.{Field}
use Rattle.rl_grammar.specs.declared.kind.Kind.TheVariants as kind
use Rattle.rl_syntax.specs.Forms.{is_absent}
use Rattle.rl_syntax.specs.Syntax.{Syntax, Said, Pieces}
use Rattle.rl_syntax.specs.declared.word.Word.{Word}
use Rattle.rl_syntax.specs.declared.word.Word.TheVariants as word
use Rattle.rl_rules.specs.Pieces.{first_is, behind}
use Rattle.rl_rules.specs.Walks.{passes}
use Rattle.rl_rules.specs.declared.declarations.Declared.{Declared}
use Rattle.rl_rules.specs.declared.declarations.Declared.TheVariants as declared
use Rattle.rl_rules.specs.declared.declarations.Place.{Place}
use Rattle.rl_rules.specs.declared.declarations.Place.TheVariants as place

-- The declaration that the nodes of a word make.
abbrev pub declared_by : Word → Declared
declared_by word.Var = declared.Variables
declared_by word.Fundecl = declared.Function
declared_by word.Classdecl = declared.Class
declared_by word.Typealias = declared.Type
declared_by word.Interface = declared.Type
declared_by word.Enum = declared.Type
declared_by word.Namespace = declared.Namespace
declared_by _ = declared.Nothing

-- The place `at` for the part at the index `wanted` of a node alone.
abbrev pub only_at : (at : Place) (wanted index : ℕ) → Place
only_at at wanted index = if nat_eq index wanted then at else place.Elsewhere

-- The place of the part at an index of a node. Lists of statements and heads of loops are one kind of place, but for the
-- program's list.
abbrev pub place_below : Place → Word → (index : ℕ) → Place
place_below above word.Program index = only_at place.Program 0 index
place_below above word.Block index = only_at place.Statements 0 index
place_below above word.Body index = only_at place.Statements 1 index
place_below above word.Case index = only_at place.Statements 1 index
place_below above word.Static index = only_at place.Statements 0 index
place_below above word.For index = only_at place.Statements 0 index
place_below above word.Forin index = only_at place.Statements 0 index
place_below above word.Forof index = only_at place.Statements 1 index
place_below above word.Export index = only_at place.Export 0 index
place_below above word.Exportdefault index = only_at place.DefaultExport 0 index
place_below above word.Import index = only_at place.Specifiers 1 index
place_below above _ index = place.Elsewhere

-- True of the kind `var`.
abbrev pub is_var_kind : Syntax → Bool
is_var_kind (Said text) = bytes_eq text (codes "var")
is_var_kind _ = false

-- A declaration of variables stands anywhere if its kind is `var`, but is no default export.
abbrev pub variables_stand : Place → Pieces → Bool
variables_stand place.DefaultExport parts = false
variables_stand place.Elsewhere parts = first_is is_var_kind parts
variables_stand place.Specifiers parts = first_is is_var_kind parts
variables_stand _ parts = true

-- A declaration of a function or class lacks a name only as a default export.
abbrev pub named_stands : Place → (name : Pieces) → Bool
named_stands place.DefaultExport name = true
named_stands place.Elsewhere name = false
named_stands place.Specifiers name = false
named_stands _ name = not (first_is is_absent name)

abbrev pub type_stands : Place → Bool
type_stands place.Program = true
type_stands place.Statements = true
type_stands place.Export = true
type_stands _ = false

-- A namespace stands only in the program's list. An import's binding of all exports is a node of the same word.
abbrev pub namespace_stands : Place → Bool
namespace_stands place.Program = true
namespace_stands place.Specifiers = true
namespace_stands _ = false

abbrev pub has_fields : Option (List Field) → Bool
has_fields None = false
has_fields (Some fields) = true

-- True of the words of expressions: those with fields where the grammar asks for an expression.
abbrev pub is_expression : Word → Bool
is_expression w = has_fields (rule kind.Expression w)

-- A node that declares nothing is not exported; by default it is if it is an expression.
abbrev pub other_stands : Place → Word → Bool
other_stands place.Export w = false
other_stands place.DefaultExport w = is_expression w
other_stands _ w = true

abbrev pub declared_stands : Declared → Place → Word → Pieces → Bool
declared_stands declared.Variables at w parts = variables_stand at parts
declared_stands declared.Function at w parts = named_stands at (behind (behind (behind parts)))
declared_stands declared.Class at w parts = named_stands at parts
declared_stands declared.Type at w parts = type_stands at
declared_stands declared.Namespace at w parts = namespace_stands at
declared_stands declared.Nothing at w parts = other_stands at w

abbrev pub node_stands : Place → Word → Pieces → Bool
node_stands at w parts = declared_stands (declared_by w) at w parts

-- Rule B8 of a tree, and that its namespaces stand only in the program's list.
abbrev pub keeps_declarations : Syntax → Bool
keeps_declarations unit = passes node_stands place_below place.Elsewhere unit
