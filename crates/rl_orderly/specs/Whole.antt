-- Orderly functions, by the parts of their definition.
use Rattle.std.specs.Prelude.{ℕ, Bool, false, ◌&&◌, option_map, Option, List, ◌∷◌}
use Rattle.std.specs.List.{list_all}
use Rattle.rl_model.specs.Code.{assigned_in, code_of, contains, flat}
use Rattle.rl_model.specs.Facts.{is_shadowed}
use Rattle.rl_model.specs.Marked.{marked}
use Rattle.rl_model.specs.Orderly.{is_orderly_by, is_orderly_name, is_orderly_node, patterns_in}
use Rattle.rl_model.specs.Source.{function_at}
use Rattle.rl_model.specs.Tables.{tables_of}
use Rattle.rl_model.specs.Units.{names_of}
use Rattle.rl_names.specs.Functions.{body_in, params_in}
use Rattle.rl_names.specs.Names.{Names}
use Rattle.rl_orderly.specs.Patterns.{are_orderly}
use Rattle.rl_syntax.specs.Syntax.{Syntax}
use Rattle.rl_worlds.specs.Worlds.{others_among}

-- (a), (b), (c) and (e) of each node of the function; `functions` are all lowered functions.
abbrev pub has_orderly_nodes : Names → (shadowed : Syntax → Bool) → (functions : List Syntax) → (function : Syntax) → Bool
has_orderly_nodes names shadowed functions function =
    list_all (is_orderly_node names (flat (assigned_in names) functions)) (code_of function)
    && list_all (is_orderly_name shadowed) (code_of function)

-- (d) of each pattern of the function.
abbrev pub has_orderly_patterns : Names → (functions : List Syntax) → (function : Syntax) → Bool
has_orderly_patterns names functions function =
    are_orderly names (contains (flat (assigned_in names) (others_among functions function)))
    ((false, params_in function) ∷ patterns_in false (body_in function))

-- True of an orderly function of a unit, by its node. None where the number names no inner function.
abbrev pub orderly_at : (u : Syntax) → (function : Option ℕ) → Option Bool
orderly_at u function =
    option_map (λ f. is_orderly_by (names_of u) (is_shadowed (tables_of u) (names_of u)) (marked u) f) (function_at u function)
