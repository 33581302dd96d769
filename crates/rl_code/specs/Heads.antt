-- The parts of a node that assign, declare or name.
use Rattle.std.specs.Prelude.{ℕ, Bool, true, false, if◌then◌else◌, Option, None, option_map, List, [], ◌∷◌}
use Rattle.rl_base.specs.declared.ids.SymbolId.{SymbolId}
use Rattle.rl_code.specs.Parts.{both, first, said_only, second, third_of_three}
use Rattle.rl_model.specs.Code.{assigned_by, bound_by, contains, declared_by, is_builtin_tag, local_of}
use Rattle.rl_names.specs.Names.{Names, at_of}
use Rattle.rl_semantic.specs.Items.{of_item}
use Rattle.rl_syntax.specs.Syntax.{Syntax, Pieces}
use Rattle.rl_syntax.specs.declared.numbered.At.{At}
use Rattle.rl_syntax.specs.declared.word.Word.{Word}
use Rattle.rl_syntax.specs.declared.word.Word.TheVariants as word

-- The target of a node that assigns.
abbrev pub target_of : Word → Pieces → Option Syntax
target_of word.Assign parts = second parts
target_of word.Update parts = third_of_three parts
target_of word.Forin parts = first parts
target_of word.Forof parts = second parts
target_of _ parts = None

-- The variables that a node assigns, by its word.
abbrev pub assigned_head : Names → Word → Pieces → List ℕ
assigned_head names w parts = of_item [] (assigned_by names) (target_of w parts)

-- The pattern of a node that declares variables: of a parameter, the rest of parameters, a declarator or a `catch`.
abbrev pub bound_part : Word → Pieces → Option Syntax
bound_part word.Param parts = first parts
bound_part word.Params parts = option_map (λ p. p.1) (both parts)
bound_part word.Declarator parts = first parts
bound_part word.Catch parts = first parts
bound_part _ parts = None

-- The tag of an element.
abbrev pub tag_part : Word → Pieces → Option Syntax
tag_part word.Opening parts = first parts
tag_part _ parts = None

abbrev pub is_id : Word → Bool
is_id word.Id = true
is_id _ = false

-- The variable that an `id` node names, unless it is a tag that is a builtin name.
abbrev pub used_as : Names → (tags : List ℕ) → At → Pieces → List ℕ
used_as names tags at parts =
    of_item [] (λ name. if contains tags at.id.0 then [] else local_of (names.meaning at.reference.0 name)) (said_only parts)

-- The symbols that a node names, by its word.
abbrev pub named_as : Names → (tags : List ℕ) → At → Word → Pieces → List ℕ
named_as names tags at w parts = if is_id w then used_as names tags at parts else of_item [] (bound_by names) (bound_part w parts)

-- The id of a builtin tag.
abbrev pub tag_as : Word → Pieces → List ℕ
tag_as w parts = of_item [] (λ tag. if is_builtin_tag tag then (at_of tag).id.0 ∷ [] else []) (tag_part w parts)

-- The symbols that the names of function declarations store to.
abbrev pub stored_as : (stored : ℕ → Option SymbolId) → (names : List Syntax) → List ℕ
stored_as stored [] = []
stored_as stored (name ∷ more) = declared_by (stored (at_of name).id.0)
