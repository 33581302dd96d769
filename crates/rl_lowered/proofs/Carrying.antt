-- A relation that each move of the lowering keeps: what it takes to be one.
use Rattle.std.proofs.Common.{◌≡◌, ℕ, nat_eq, Bool, if◌then◌else◌, List, Option}
use Rattle.rl_builder.specs.Builder.{recorded}
use Rattle.rl_builder.specs.Builder.{with_temporary}
use Rattle.rl_builder.specs.Temporaries.{temporary}
use Rattle.rl_context.specs.declared.site.Site.{Site}
use Rattle.rl_hir.specs.declared.function.Identifier.{Identifier}
use Rattle.rl_hir.specs.declared.function.InnerFunction.{InnerFunction}
use Rattle.rl_hir.specs.declared.function.Pair.{Pair}
use Rattle.rl_hir.specs.declared.function.ReactFunctionType.{ReactFunctionType}
use Rattle.rl_lowered.proofs.Common.{Diagnostic, Names, Span, State, SymbolId}
use Rattle.rl_lowered.specs.Items.{found_again, promoted}
use Rattle.rl_lowered.specs.Named.{IsFound, found}
use Rattle.rl_semantic.specs.declared.semantic.Semantic.{Semantic}
use Rattle.rl_used_names.specs.UsedName.{UsedName}

-- All of a state that names speak of.
pub record Naming : Type 0 where
  pub identifiers : List Identifier
  pub pairs : List Pair
  pub functions : List InnerFunction
  pub fn_type : ReactFunctionType
  pub skip : Bool
  pub bindings : List Pair
  pub used : List UsedName
  pub semantic : Semantic
  pub sites : List Site
  pub diagnostics : List Diagnostic

abbrev pub naming : State → Naming
naming s = record {
  identifiers = s.env.identifiers;
  pairs = s.env.pairs;
  functions = s.env.functions;
  fn_type = s.env.fn_type;
  skip = s.env.skip;
  bindings = s.bindings;
  used = s.used_names;
  semantic = s.semantic;
  sites = s.sites;
  diagnostics = s.env.diagnostics;
}

abbrev pub unchanged : (symbol : ℕ) → (before : Span) → Span
unchanged symbol before = before

-- The span behind the head of a loop that declares the symbol.
abbrev pub at_symbol : (symbol : ℕ) → Span → (other : ℕ) → (before : Span) → Span
at_symbol symbol span other before = if nat_eq symbol other then span else before

-- A relation of states that each move keeps, by the spans that the identifiers of symbols have behind it.
pub record IsCarried (names : Names) (R : (behind : (symbol : ℕ) → (before : Span) → Span) → State → State → Type 0) : Type 0 where
  pub alike : {f g : (symbol : ℕ) → (before : Span) → Span} (s t : State)
      → ((symbol : ℕ) (before : Span) → g symbol before ≡ f symbol before) → R f s t → R g s t
  pub chain : {f g : (symbol : ℕ) → (before : Span) → Span} (a b c : State) → R f a b → R g b c
      → R (λ symbol before. g symbol (f symbol before)) a c
  pub same : (s t : State) → naming s ≡ naming t → R unchanged s t
  pub temporary : (s : State) (span : Option Span) → R unchanged s (with_temporary s span)
  pub noted : (s : State) (d : Diagnostic) → R unchanged s (recorded s d)
  pub promotes : (s : State) (span : Span) → R unchanged s (promoted s span)
  pub looked : (s : State) (symbol : SymbolId) (at : Span) (identifier : ℕ) → IsFound names s symbol at identifier
      → R unchanged s (found names s symbol at)
  pub again : (s : State) (symbol : SymbolId) (at : Span) (identifier : ℕ) → IsFound names s symbol at identifier
      → R (at_symbol symbol.0 at) s (found_again names s symbol identifier at)
