-- Steady expressions, by their words.
use Rattle.std.specs.Prelude.{ℕ, Bool, true, false, not, Option, None, option_map, List, [], ◌∷◌}
use Rattle.rl_code.specs.Parts.{both, first, only, said_only}
use Rattle.rl_model.specs.Code.{contains}
use Rattle.rl_model.specs.Orderly.{is_link_inside, is_steady, is_steady_name}
use Rattle.rl_names.specs.Names.{Names}
use Rattle.rl_semantic.specs.Items.{of_item}
use Rattle.rl_syntax.specs.Syntax.{Syntax, Pieces}
use Rattle.rl_syntax.specs.declared.numbered.At.{At}
use Rattle.rl_syntax.specs.declared.word.Word.{Word}
use Rattle.rl_syntax.specs.declared.word.Word.TheVariants as word

-- The expression in parentheses or under a type.
abbrev pub wrapped : Word → Pieces → Option Syntax
wrapped word.Paren parts = only parts
wrapped word.As parts = first parts
wrapped word.Satisfies parts = first parts
wrapped word.Assert parts = option_map (λ p. p.1) (both parts)
wrapped word.Nonnull parts = only parts
wrapped word.Instantiate parts = first parts
wrapped _ parts = None

-- A local variable that is not assigned.
abbrev pub is_unassigned : (assigned : List ℕ) → (local : List ℕ) → Bool
is_unassigned assigned [] = false
is_unassigned assigned (symbol ∷ symbols) = not (contains assigned symbol)

abbrev pub steady_leaf : Names → (assigned : List ℕ) → At → Word → Pieces → Bool
steady_leaf names assigned at word.Null parts = true
steady_leaf names assigned at word.Bool parts = true
steady_leaf names assigned at word.Num parts = true
steady_leaf names assigned at word.Str parts = true
steady_leaf names assigned at word.Id parts =
    of_item false (λ name. is_steady_name assigned (names.meaning at.reference.0 name)) (said_only parts)
steady_leaf names assigned at _ parts = false

abbrev pub steady_as : Names → (assigned : List ℕ) → At → Word → Pieces → Bool
steady_as names assigned at w parts = of_item (steady_leaf names assigned at w parts) (is_steady names assigned) (wrapped w parts)

-- A property or a chain.
abbrev pub is_chain_or_link : Word → Bool
is_chain_or_link word.Chain = true
is_chain_or_link word.Member = true
is_chain_or_link word.Index = true
is_chain_or_link word.Privatemember = true
is_chain_or_link _ = false

abbrev pub link_as : Word → Pieces → Bool
link_as w parts = of_item (is_chain_or_link w) is_link_inside (wrapped w parts)
