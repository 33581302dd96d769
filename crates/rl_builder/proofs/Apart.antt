-- No two symbols of a builder share an identifier or a name.
use Rattle.std.proofs.Common.{◌≡◌, ℕ, Some, refl}
use Rattle.rl_hir.specs.Pairs.{identifier_of}
use Rattle.rl_builder.proofs.NameLaws.{name_of-injective}
use Rattle.rl_used_names.specs.Apart.{AreApart}
use Rattle.rl_builder.specs.Builder.{State}
use Rattle.rl_builder.specs.Names.{NamesAgree}
use Rattle.rl_used_names.specs.IdentifierNames.{name_of}

pub names_apart : (s : State) → NamesAgree s → (a b i j : ℕ) → identifier_of s.bindings a ≡ Some i → identifier_of s.bindings b ≡ Some j → name_of s.env.identifiers i ≡ name_of s.env.identifiers j → a ≡ b
names_apart s agree a b i j has_i has_j same = name_of-injective s agree a b i j has_i has_j same

pub identifiers_apart : (s : State) → NamesAgree s → (a b identifier : ℕ) → identifier_of s.bindings a ≡ Some identifier → identifier_of s.bindings b ≡ Some identifier → a ≡ b
identifiers_apart s agree a b identifier has other = name_of-injective s agree a b identifier identifier has other refl

pub are_apart : (s : State) → NamesAgree s → AreApart s.bindings s.env.identifiers
are_apart s agree = record { by_identifier = identifiers_apart s agree; by_name = names_apart s agree }
