-- Rule B7: the form of variable declarations.
use Rattle.std.specs.Prelude.{ℕ, nat_eq, codes, Bool, true, false, not, ◌&&◌, ◌||◌}
use Rattle.std.specs.Str.{bytes_eq}
use Rattle.rl_syntax.specs.Forms.{is_absent}
use Rattle.rl_syntax.specs.Syntax.{Syntax, Said, Pieces, End, Then}
use Rattle.rl_syntax.specs.declared.word.Word.{Word}
use Rattle.rl_syntax.specs.declared.word.Word.TheVariants as word
use Rattle.rl_rules.specs.Pieces.{is_node_of, parts_of, first_is, first_items, has_some, behind}
use Rattle.rl_rules.specs.Walks.{passes}

abbrev pub is_var : Word → Bool
is_var word.Var = true
is_var _ = false

abbrev pub is_bind : Word → Bool
is_bind word.Bind = true
is_bind _ = false

-- True of the kinds whose names may lack an initialiser.
abbrev pub is_let_or_var : Syntax → Bool
is_let_or_var (Said text) = bytes_eq text (codes "let") || bytes_eq text (codes "var")
is_let_or_var _ = false

-- True of a declarator without initialiser.
abbrev pub is_bare : Syntax → Bool
is_bare declarator = first_is is_absent (behind (parts_of declarator))

-- True of a declarator of a plain name, in place of a pattern.
abbrev pub declares_name : Syntax → Bool
declares_name declarator = first_is (is_node_of is_bind) (parts_of declarator)

-- True of declarators that each have an initialiser, or declare a plain name, if `bare` says that names may lack one.
abbrev pub are_initialised : (bare : Bool) → Pieces → Bool
are_initialised bare End = true
are_initialised bare (Then piece pieces) = (not (is_bare piece) || (bare && declares_name piece)) && are_initialised bare pieces

-- True of one declarator, without initialiser.
abbrev pub is_one_bare : Pieces → Bool
is_one_bare pieces = first_is is_bare pieces && not (has_some (behind pieces))

-- True of the declarators of a declaration, if `head` says that it stands in the head of a `forin` or `forof`, and `bare` that
-- its names may lack an initialiser.
abbrev pub declarators_fit : (head bare : Bool) → Pieces → Bool
declarators_fit true bare declarators = is_one_bare declarators
declarators_fit false bare declarators = has_some declarators && are_initialised bare declarators

abbrev pub declaration_fits : (head : Bool) → Pieces → Bool
declaration_fits head parts = declarators_fit head (first_is is_let_or_var parts) (first_items (behind parts))

abbrev pub variables_fit : (head : Bool) → Word → Pieces → Bool
variables_fit head w parts = not (is_var w) || declaration_fits head parts

-- True of the part of a `forin` or `forof` that is its head.
abbrev pub head_below : (head : Bool) → Word → (index : ℕ) → Bool
head_below head word.Forin index = nat_eq index 0
head_below head word.Forof index = nat_eq index 1
head_below head _ index = false

-- Rule B7 of a tree.
abbrev pub keeps_variables : Syntax → Bool
keeps_variables unit = passes variables_fit head_below false unit
