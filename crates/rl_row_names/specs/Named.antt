-- The rows of names, as tests: true where none applies.
use Rattle.std.specs.Prelude.{ℕ, Bool, true, false, ◌&&◌, not, if◌then◌else◌, Option, Some, None, List, codes}
use Rattle.std.specs.Str.{bytes_eq}
use Rattle.rl_base.specs.Reserved.{is_reserved}
use Rattle.rl_code.specs.Parts.{first, said_only}
use Rattle.rl_model.specs.Applied.{Facts, is_assigned, is_bound_tag, is_read}
use Rattle.rl_model.specs.JsxText.{is_fbt}
use Rattle.rl_names.specs.declared.names.Meaning.{Meaning}
use Rattle.rl_names.specs.declared.names.Meaning.TheVariants.{Local, Outer}
use Rattle.rl_row_forms.specs.Aboves.{use_of}
use Rattle.rl_row_forms.specs.Shaped.{first_said}
use Rattle.rl_row_forms.specs.declared.above.Above.{Above}
use Rattle.rl_semantic.specs.Items.{of_item}
use Rattle.rl_syntax.specs.Syntax.{Syntax, Node, Said, Pieces, End, Then}
use Rattle.rl_syntax.specs.declared.numbered.At.{At}
use Rattle.rl_syntax.specs.declared.word.Word.{Word}
use Rattle.rl_syntax.specs.declared.word.Word.TheVariants as word

-- The name of a local variable.
abbrev pub clear_local : (name : List ℕ) → Bool
clear_local name = not (is_reserved name) && not (bytes_eq name (codes "fbt"))

-- A name that is used in a function without a body.
abbrev pub clear_used : (name : List ℕ) → Meaning → Bool
clear_used name (Local symbol) = clear_local name
clear_used name (Outer b) = true

-- A local variable that is used.
abbrev pub clear_as_local : Facts → Above → (name : List ℕ) → (symbol : ℕ) → Bool
clear_as_local f a name symbol = clear_local name && not (is_assigned (use_of a.used) && f.is_const symbol)

-- Another name that is used.
abbrev pub clear_as_outer : Facts → Above → (reference : ℕ) → (name : List ℕ) → Bool
clear_as_outer f a reference name = not (bytes_eq name (codes "eval") && f.is_global reference && is_read (use_of a.used) && not a.tag)

abbrev pub clear_name : Facts → Above → (reference : ℕ) → (name : List ℕ) → Meaning → Bool
clear_name f a reference name (Local symbol) = clear_as_local f a name symbol.0
clear_name f a reference name (Outer b) = clear_as_outer f a reference name

-- An `id` node.
abbrev pub clear_id : Facts → Above → (reference : ℕ) → Pieces → Bool
clear_id f a reference parts =
    of_item true (λ name. clear_name f a reference name (f.names.meaning reference name)) (said_only parts)

-- The name of a declaration.
abbrev pub clear_variable : Facts → (bind : ℕ) → (name : List ℕ) → Bool
clear_variable f bind name = if f.is_variable bind then clear_local name else true

-- A `bind` node.
abbrev pub clear_bind : Facts → (bind : ℕ) → Pieces → Bool
clear_bind f bind parts = of_item true (λ name. clear_variable f bind name && not (f.is_lost bind)) (first_said parts)

-- The tag of an opening.
abbrev pub clear_opening : Facts → Pieces → Bool
clear_opening f parts = of_item true (λ tag. not (is_bound_tag f tag)) (first parts)

-- The update of a name.
abbrev pub clear_updated : Facts → (node : ℕ) → Meaning → Bool
clear_updated f node (Local symbol) = not (f.is_context node symbol.0)
clear_updated f node (Outer b) = false

-- Ids and name of an `id` node.
abbrev pub id_in : Syntax → Option (At × List ℕ)
id_in (Node at word.Id (Then (Said name) End)) = Some (at, name)
id_in _ = None

abbrev pub id_of : At → Word → Pieces → Option (At × List ℕ)
id_of at word.Id parts = of_item None (λ name. Some (at, name)) (said_only parts)
id_of at _ parts = None

-- The name that an update changes.
abbrev pub updated_in : Pieces → Option (At × List ℕ)
updated_in (Then operator (Then prefix (Then (Node there word.Id (Then (Said name) End)) End))) = Some (there, name)
updated_in _ = None

abbrev pub clear_updated_name : Facts → At → (name : List ℕ) → Bool
clear_updated_name f at name = clear_updated f at.id.0 (f.names.meaning at.reference.0 name)

-- An `update` node.
abbrev pub clear_update : Facts → Pieces → Bool
clear_update f parts = of_item true (λ u. clear_updated_name f u.0 u.1) (updated_in parts)

-- The only part of a tag, if it is the name of an `fbt` or `fbs` element that the marked function binds.
abbrev pub says_bound : Facts → Pieces → Bool
says_bound f parts = of_item false (λ name. is_fbt name && f.is_bound name) (said_only parts)

abbrev pub node_says_bound : Facts → Word → Pieces → Bool
node_says_bound f word.Tag parts = says_bound f parts
node_says_bound f word.Id parts = says_bound f parts
node_says_bound f _ parts = false
