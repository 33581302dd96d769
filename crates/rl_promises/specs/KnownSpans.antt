-- Spans of declarations, as the index of a function's identifiers has them.
use Rattle.std.specs.Prelude.{◌≡◌, ℕ, Some, List, All}
use Rattle.rl_base.specs.declared.span.Span.{Span}
use Rattle.rl_bindings.specs.declared.event.Bound.{Bound}
use Rattle.rl_context.specs.Index.{declaration_span}
use Rattle.rl_context.specs.Sites.{sites_in}
use Rattle.rl_names.specs.Functions.{parameters_of}
use Rattle.rl_names.specs.Names.{Names}
use Rattle.rl_promises.specs.Spans.{IsSpanOf}
use Rattle.rl_syntax.specs.Syntax.{Syntax}

-- The spans of the declarations that stand in a function, among the symbols of a unit, are those of its nodes. Of its parameters that are
-- names the declarations stand in it.
pub record KnowsSpans (names : Names) (symbols : List Bound) (function : Syntax) : Type 0 where
  pub spanned : (symbol : ℕ) (span : Span) → declaration_span (sites_in function) symbols symbol ≡ Some span → IsSpanOf function span
  pub params : All (λ p. declaration_span (sites_in function) symbols p.symbol.0 ≡ Some p.declaration) (parameters_of names function)
