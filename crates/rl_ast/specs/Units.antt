-- Units as plain trees, and the bytes that spell them.
use Rattle.std.specs.Prelude.{◌≡◌, ℕ, true, List}
use Rattle.rl_text.specs.Notation as notation
use Rattle.rl_grammar.specs.Grammar.{fits}
use Rattle.rl_syntax.specs.Syntax.{Syntax, plain, outset, IsPlaced}
use Rattle.rl_grammar.specs.declared.kind.Field.TheVariants as field
use Rattle.rl_grammar.specs.declared.kind.Kind.TheVariants as kind

-- The tree is a unit of the grammar.
abbrev pub IsOfGrammar : Syntax → Type 0
IsOfGrammar u = fits (field.One kind.Unit) u ≡ true

-- The bytes, all of them, spell the unit `u`, whose nodes have the ids and spans that the bytes give to them.
pub record Spells (bytes : List ℕ) (u : Syntax) : Type 0 where
  pub grammar : IsOfGrammar u
  pub numbers : IsPlaced outset u
  pub spelled : notation.Spells bytes (plain u)
