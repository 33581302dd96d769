-- The numbers of types and identifiers that a look-up adds.
use Rattle.std.proofs.Common.{ℕ, ◌+◌, ◌≤◌, List, Option, Some, None, [], ◌∷◌, length-append, arith}
use Rattle.rl_builder.specs.Names.{fresh_identifier, new_span, resolved_by}
use Rattle.rl_hir.specs.Pairs.{identifier_of}
use Rattle.rl_lowered.proofs.Common.{Names, Span, State, SymbolId}
use Rattle.rl_lowered.specs.Named.{found}
use Rattle.rl_runs.specs.Blocks.{size_of}
use Rattle.rl_used_names.specs.Choosing.{chosen}

-- A look-up makes an identifier of a type of its own, or nothing.

by_size : (known : Option ℕ) (s : State) (name : List ℕ) (symbol : ℕ) (given : Option Span)
    → size_of (resolved_by known s name symbol given) ≤ size_of s + 2
by_size None s name symbol given =
    let one = length-append s.env.identifiers
    (fresh_identifier (chosen s.used_names symbol name) (new_span s symbol given) s.env.next_type ∷ []) in
    omega (arith, one)
by_size (Some known) s name symbol given = omega arith

pub found_size : (names : Names) (s : State) (symbol : SymbolId) (at : Span) → size_of (found names s symbol at) ≤ size_of s + 2
found_size names s symbol at = by_size (identifier_of s.bindings symbol.0) s (names.name symbol.0) symbol.0 (Some at)
