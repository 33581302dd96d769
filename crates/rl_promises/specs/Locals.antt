-- The local variables of a covered function: its parameters, the variables that its body declares, and its own name.
use Rattle.std.specs.Prelude.{◌≡◌, ◌⊎◌, ℕ, ◌<◌, ◌≤◌, ◌^◌, Some, List, All}
use Rattle.std.specs.Str.{IsUtf8}
use Rattle.rl_base.specs.declared.ids.SymbolId.{SymbolId}
use Rattle.rl_base.specs.declared.span.Span.{Span}
use Rattle.rl_names.specs.Functions.{body_in, params_in, parameters_of}
use Rattle.rl_names.specs.Locals.{AreApart, DeclaresAll, HasTexts}
use Rattle.rl_names.specs.Names.{Names}
use Rattle.rl_names.specs.declared.names.Meaning.TheVariants.{Local}
use Rattle.rl_names.specs.declared.parameters.Parameter.{Parameter}
use Rattle.rl_syntax.specs.Syntax.{Syntax, Node, Listed, Said, Count, Flag, Absent, Pieces, End, Then}
use Rattle.rl_syntax.specs.declared.word.Word.TheVariants as word
use Rattle.rl_text.specs.Number.{largest}

-- The span starts and ends below 2^32.
abbrev pub IsSmallSpan : Span → Type 0
IsSmallSpan span = (span.start < 2 ^ 32) × (span.end < 2 ^ 32)

-- The symbol has a declaration identifier, and its id is a number of the notation.
pub record IsVariable (names : Names) (symbol : SymbolId) : Type 0 where
  pub at : Span
  pub declared : names.declaration symbol.0 ≡ Some at
  pub small : symbol.0 ≤ largest

-- The node with the id `bind` declares a variable.
pub record DeclaresVariable (names : Names) (bind : ℕ) : Type 0 where
  pub symbol : SymbolId
  pub is : names.declared bind ≡ Some symbol
  pub variable : IsVariable names symbol

abbrev mutual
  -- Each `bind` node of a tree declares a variable. Types declare none.
  pub DeclaresIn : Names → Syntax → Type 0
  DeclaresIn names (Node at word.Type parts) = Unit {0}
  DeclaresIn names (Node at word.Bind parts) = DeclaresVariable names at.id.0 × DeclareIn names parts
  DeclaresIn names (Node at w parts) = DeclareIn names parts
  DeclaresIn names (Listed parts) = DeclareIn names parts
  DeclaresIn names (Said text) = Unit {0}
  DeclaresIn names (Count number) = Unit {0}
  DeclaresIn names (Flag flag) = Unit {0}
  DeclaresIn names Absent = Unit {0}

  -- As `DeclaresIn`, for parts in a row.
  pub DeclareIn : Names → Pieces → Type 0
  DeclareIn names End = Unit {0}
  DeclareIn names (Then piece pieces) = DeclaresIn names piece × DeclareIn names pieces

abbrev mutual
  -- The tree uses or declares the symbol. Types do neither.
  pub Mentions : Names → SymbolId → Syntax → Type 0
  Mentions names symbol (Node at word.Type parts) = ⊥
  Mentions names symbol (Node at word.Bind parts) = names.declared at.id.0 ≡ Some symbol
  Mentions names symbol (Node at word.Id (Then (Said name) End)) = names.meaning at.reference.0 name ≡ Local symbol
  Mentions names symbol (Node at w parts) = MentionsAmong names symbol parts
  Mentions names symbol (Listed parts) = MentionsAmong names symbol parts
  Mentions names symbol (Said text) = ⊥
  Mentions names symbol (Count number) = ⊥
  Mentions names symbol (Flag flag) = ⊥
  Mentions names symbol Absent = ⊥

  -- As `Mentions`, for parts in a row.
  pub MentionsAmong : Names → SymbolId → Pieces → Type 0
  MentionsAmong names symbol End = ⊥
  MentionsAmong names symbol (Then piece pieces) = Mentions names symbol piece ⊎ MentionsAmong names symbol pieces

-- The symbols that a tree uses or declares have names of their own.
pub record AreToldApart (names : Names) (tree : Syntax) : Type 0 where
  pub told : (s t : SymbolId) → Mentions names s tree → Mentions names t tree → names.name s.0 ≡ names.name t.0 → s.0 ≡ t.0

-- Texts of names are UTF-8, spans of declarations are small, and each local variable that is used is one of the function.
pub record KnowsNames (names : Names) : Type 0 where
  pub outer : HasTexts names
  pub named : (symbol : ℕ) → IsUtf8 (names.name symbol)
  pub spanned : (symbol : ℕ) (span : Span) → names.declaration symbol ≡ Some span → IsSmallSpan span
  pub used : (reference : ℕ) (name : List ℕ) (symbol : SymbolId) → names.meaning reference name ≡ Local symbol → IsVariable names symbol

-- Each of the parameters has the name of its symbol, and stands at its symbol's declaration identifier.
pub record AreLocals (names : Names) (parameters : List Parameter) : Type 0 where
  pub named : All (λ p. names.name p.symbol.0 ≡ p.name) parameters
  pub spanned : All (λ p. names.declaration p.symbol.0 ≡ Some p.declaration) parameters

-- Each parameter of the function that is a name declares a symbol, no two have one symbol or one name, and the declarations in its
-- parameters and its body are of variables. The names that its parameters use and declare stand for one symbol each.
pub record HasLocals (names : Names) (f : Syntax) : Type 0 where
  pub declared : DeclaresAll names (params_in f)
  pub apart : AreApart (parameters_of names f)
  pub locals : AreLocals names (parameters_of names f)
  pub params : DeclaresIn names (params_in f)
  pub told : AreToldApart names (params_in f)
  pub body : DeclaresIn names (body_in f)
  pub knows : KnowsNames names
