-- Maps of a builder with the entries of the builder of an inner function.
use Rattle.std.specs.Prelude.{if◌then◌else◌, is_some, List, [], ◌∷◌, ◌++◌}
use Rattle.rl_hir.specs.Pairs.{identifier_of}
use Rattle.rl_hir.specs.declared.function.Pair.{Pair}
use Rattle.rl_used_names.specs.NameSearch.{is_used}
use Rattle.rl_used_names.specs.UsedName.{UsedName}

-- The entries with `u` at the end, unless its name is used.
abbrev pub with_missing_name : List UsedName → UsedName → List UsedName
with_missing_name used u = if is_used used u.name then used else used ++ u ∷ []

-- The entries of `parent`, then those of `child` whose names are new.
abbrev pub merged_names : (parent child : List UsedName) → List UsedName
merged_names parent [] = parent
merged_names parent (u ∷ child) = merged_names (with_missing_name parent u) child

-- The pairs with `p` at the end, unless its symbol has an identifier.
abbrev pub with_missing_pair : List Pair → Pair → List Pair
with_missing_pair pairs p = if is_some (identifier_of pairs p.symbol.0) then pairs else pairs ++ p ∷ []

-- The pairs of `parent`, then those of `child` whose symbols are new.
abbrev pub merged_bindings : (parent child : List Pair) → List Pair
merged_bindings parent [] = parent
merged_bindings parent (p ∷ child) = merged_bindings (with_missing_pair parent p) child
