-- Symbols that a function shares with the others in a list.
use Rattle.std.specs.Prelude.{ℕ, Bool, ◌&&◌, not, nat_eq, filter, List}
use Rattle.std.specs.List.{list_any}
use Rattle.rl_model.specs.Code.{contains, named_in, names_symbol}
use Rattle.rl_names.specs.Names.{Names, at_of}
use Rattle.rl_syntax.specs.Syntax.{Syntax}

-- A function that is not the one that `function` is, by their ids.
abbrev pub is_other : (function other : Syntax) → Bool
is_other function other = not (nat_eq (at_of other).id.0 (at_of function).id.0)

-- The functions but one.
abbrev pub others_among : (functions : List Syntax) → (function : Syntax) → List Syntax
others_among functions function = filter (is_other function) functions

-- The variables that a function names.
unfoldable pub named_here : Names → (function : Syntax) → List ℕ
named_here names function = named_in names function

-- The variables that the function names, and that another one names otherwise than as its function declaration.
abbrev pub is_shared : Names → (functions : List Syntax) → (function : Syntax) → (symbol : ℕ) → Bool
is_shared names functions function symbol =
    names_symbol names names.declared function symbol && list_any (λ other. contains (named_in names other) symbol)
    (others_among functions function)
