-- Symbols that share nothing.
use Rattle.std.specs.Prelude.{◌≡◌, ℕ, Some, List}
use Rattle.rl_hir.specs.Pairs.{identifier_of}
use Rattle.rl_hir.specs.declared.function.Identifier.{Identifier}
use Rattle.rl_hir.specs.declared.function.Pair.{Pair}
use Rattle.rl_used_names.specs.IdentifierNames.{name_of}

-- No two symbols have one identifier, and no two have identifiers of one name.
pub record AreApart (bindings : List Pair) (identifiers : List Identifier) : Type 0 where
  pub by_identifier : (a b identifier : ℕ) → identifier_of bindings a ≡ Some identifier → identifier_of bindings b ≡ Some identifier → a ≡ b
  pub by_name : (a b i j : ℕ) → identifier_of bindings a ≡ Some i → identifier_of bindings b ≡ Some j → name_of identifiers i ≡ name_of identifiers j → a ≡ b
