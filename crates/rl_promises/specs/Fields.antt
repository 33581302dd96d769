-- The fields of a result that runs do not read: those of the function, its pairs, and the identifiers of its parameters.
use Rattle.std.specs.Prelude.{◌≡◌, ℕ, ◌+◌, ◌<◌, false, Option, Some, None, List, [], ◌∷◌, ◌++◌, All, codes, length, map, slice_get}
use Rattle.std.specs.Fmt.{decimal}
use Rattle.std.specs.Option.{option_map_or}
use Rattle.rl_base.specs.Distinct.{AreDistinct}
use Rattle.rl_base.specs.declared.span.Span.{Span}
use Rattle.rl_bindings.specs.Tables.{symbols_in}
use Rattle.rl_syntax.specs.declared.numbered.At.{At}
use Rattle.rl_syntax.specs.Syntax.{Syntax, Node, Listed, Said, Absent, Pieces, End, Then, span_of}
use Rattle.rl_syntax.specs.declared.word.Word.TheVariants as word
use Rattle.rl_hir.specs.Blocks.{Pair as BlockPair}
use Rattle.rl_hir.specs.Identifiers.{named_identifier}
use Rattle.rl_hir.specs.Pairs.{identifier_of}
use Rattle.rl_hir.specs.declared.function.HirFunction.{HirFunction}
use Rattle.rl_hir.specs.declared.function.Identifier.{Identifier}
use Rattle.rl_hir.specs.declared.function.IdentifierName.{IdentifierName}
use Rattle.rl_hir.specs.declared.function.IdentifierName.TheVariants.{Named, Promoted}
use Rattle.rl_hir.specs.declared.function.Lowered.{Lowered}
use Rattle.rl_hir.specs.declared.function.Pair.{Pair}
use Rattle.rl_hir.specs.declared.function.Param.{Param}
use Rattle.rl_hir.specs.declared.function.Param.TheVariants as params
use Rattle.rl_hir.specs.declared.function.ReactFunctionType.TheVariants as types
use Rattle.rl_used_names.specs.Candidates.{candidate}
use Rattle.rl_hir.specs.declared.instruction.Place.{Place}
use Rattle.rl_model.specs.Functions.{is_plain}
use Rattle.rl_base.specs.declared.ids.SymbolId.{SymbolId}
use Rattle.rl_names.specs.Functions.{async_in, body_in, generator_in, name_in, params_in}
use Rattle.rl_names.specs.Names.{Names}
use Rattle.rl_promises.specs.Rebound.{span_behind_body}

-- The texts at the head of a list.
abbrev pub texts_in : Pieces → List (List ℕ)
texts_in (Then (Said text) texts) = text ∷ texts_in texts
texts_in _ = []

-- The directives that begin a body.
abbrev pub directives_in : Syntax → List (List ℕ)
directives_in (Node at word.Body (Then (Listed directives) statements)) = texts_in directives
directives_in _ = []

-- The name of an identifier; None of one without a name, and past the end of the list.
abbrev pub name_at : List Identifier → (identifier : ℕ) → Option IdentifierName
name_at identifiers identifier = option_map_or (λ i. i.name) (slice_get identifiers identifier) None

-- The symbol of the pair has a declaration identifier in the unit, and the identifier of the pair has a name of the source: a
-- candidate of the symbol's name.
pub record IsNamedPair (names : Names) (identifiers : List Identifier) (p : Pair) : Type 0 where
  pub at : Span
  pub declared : names.declaration p.symbol.0 ≡ Some at
  pub index : ℕ
  pub named : name_at identifiers p.identifier.0 ≡ Some (Named (candidate (names.name p.symbol.0) index))

-- The symbols of the pairs are declared in the unit, and their identifiers are named for them. Two pairs share neither symbol nor
-- identifier, and their identifiers share no name.
pub record ArePairs (names : Names) (identifiers : List Identifier) (pairs : List Pair) : Type 0 where
  pub named : All (IsNamedPair names identifiers) pairs
  pub symbols : AreDistinct (map (λ (p : Pair). p.symbol.0) pairs)
  pub given : AreDistinct (map (λ (p : Pair). p.identifier.0) pairs)
  pub apart : AreDistinct (map (λ (p : Pair). name_at identifiers p.identifier.0) pairs)

-- The symbols of the pairs are those of the unit: their ids are indices into its list of symbols.
abbrev pub HaveSymbolsOf : (unit : Syntax) → List Pair → Type 0
HaveSymbolsOf unit pairs = All (λ (p : Pair). p.symbol.0 < length (symbols_in unit)) pairs

-- The symbol is paired with the identifier, which has the name and the span.
pub record IsGiven (identifiers : List Identifier) (pairs : List Pair) (symbol : SymbolId) (name : List ℕ) (span : Span) (identifier : ℕ)
    : Type 0 where
  pub paired : identifier_of pairs symbol.0 ≡ Some identifier
  pub type_id : ℕ
  pub known : slice_get identifiers identifier ≡ Some (named_identifier name span type_id)

-- The place has the span, and its identifier the name of a temporary.
pub record IsPromoted (identifiers : List Identifier) (span : Span) (p : Place) : Type 0 where
  pub at : p.span ≡ Some span
  pub named : name_at identifiers p.identifier.0 ≡ Some (Promoted (codes "#t" ++ decimal p.identifier.0))

-- The place has the span, and its identifier no name.
pub record IsUnnamed (identifiers : List Identifier) (span : Span) (p : Place) : Type 0 where
  pub at : p.span ≡ Some span
  pub unnamed : name_at identifiers p.identifier.0 ≡ None

-- Each of the parameters in a graph is that of its node, in order: a name has the identifier that its symbol is paired with, and a pattern,
-- a parameter with a default and the rest have temporaries. In the end the identifier of a symbol has the span `behind symbol before`;
-- `before` is the span of its name.
pub data AreParams (names : Names) (behind : (symbol : ℕ) → (before : Span) → Span) (identifiers : List Identifier) (pairs : List Pair)
    : (params : Pieces) → (rest : Syntax) → List Param → Type 0 where
  NoParam : AreParams names behind identifiers pairs End Absent []
  RestParam : (at : At) (pattern : Syntax) (p : Place) → IsUnnamed identifiers at.span p
      → AreParams names behind identifiers pairs End (Node at word.Rest (Then pattern End)) (params.Spread p ∷ [])
  PlainParam : (at bind : At) (name : List ℕ) (type rest : Syntax) (more : Pieces) (symbol : SymbolId) (p : Place) (ps : List Param)
      → names.declared bind.id.0 ≡ Some symbol → p.span ≡ Some bind.span
      → IsGiven identifiers pairs symbol name (behind symbol.0 bind.span) p.identifier.0
      → AreParams names behind identifiers pairs more rest ps
      → AreParams names behind identifiers pairs
      (Then (Node at word.Param (Then (Node bind word.Bind (Then (Said name) (Then type End))) (Then Absent End))) more) rest
      (params.Place p ∷ ps)
  OtherParam : (at : At) (parts more : Pieces) (rest : Syntax) (p : Place) (ps : List Param)
      → is_plain (Node at word.Param parts) ≡ false → IsPromoted identifiers at.span p
      → AreParams names behind identifiers pairs more rest ps
      → AreParams names behind identifiers pairs (Then (Node at word.Param parts) more) rest (params.Place p ∷ ps)

-- As `AreParams`, for the parameters in a `params` node.
abbrev pub HasParams : Names → (behind : (symbol : ℕ) → (before : Span) → Span) → List Identifier → List Pair → Syntax → List Param → Type 0
HasParams names behind identifiers pairs (Node at word.Params (Then (Listed params) (Then rest End))) ps =
    AreParams names behind identifiers pairs params rest ps
HasParams names behind identifiers pairs tree ps = ps ≡ []

-- The graph has the span, name, flags and directives of its function, and no context and type `Other`.
pub record HasFieldsOf (function : Syntax) (f : HirFunction (List BlockPair)) : Type 0 where
  pub span : f.span ≡ Some (span_of function)
  pub name : f.name ≡ name_in function
  pub fn_type : f.fn_type ≡ types.Other
  pub is_async : f.is_async ≡ async_in function
  pub generator : f.generator ≡ generator_in function
  pub directives : f.directives ≡ directives_in (body_in function)
  pub context : f.context ≡ []

-- The pairs are those of variables and their identifiers. Each parameter stands at its place; the identifier of one that is a name has the
-- span of its name where it was declared last. The last identifier is the one that is returned, whose place has no span.
pub record HasIdentifiersOf (names : Names) (function : Syntax) (l : Lowered) : Type 0 where
  pub pairs : ArePairs names l.identifiers l.pairs
  pub parameters : HasParams names (λ symbol before. span_behind_body names symbol (body_in function) before) l.identifiers l.pairs
      (params_in function) l.function.params
  pub returns_at : l.function.returns.span ≡ None
  pub returns_last : l.function.returns.identifier.0 + 1 ≡ length l.identifiers
