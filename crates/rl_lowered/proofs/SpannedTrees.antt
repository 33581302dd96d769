-- The spans of a tree's nodes are those of nodes of the tree.
use Rattle.std.proofs.Common.{inl, inr, refl}
use Rattle.rl_lowered.proofs.Common.{End, Node, Pieces, Said, Span, Syntax, Then}
use Rattle.rl_lowered.specs.Spanned.{EachSpan, EachSpanAmong}
use Rattle.rl_names.specs.Functions.{body_in, params_in}
use Rattle.rl_promises.specs.Spans.{IsSpanAmong, IsSpanOf}
use Rattle.rl_syntax.specs.Syntax.{Listed, Count, Flag, Absent}
use Rattle.rl_syntax.specs.declared.word.Word.TheVariants as word

mutual
  -- A property of the spans of a tree's nodes holds of each.
  pub each_of : (P : Span → Type 0) (tree : Syntax) → ((span : Span) → IsSpanOf tree span → P span) → EachSpan P tree
  each_of P (Node at w parts) holds = (holds at.span (inl refl), each_among P parts (λ span is. holds span (inr is)))
  each_of P (Listed parts) holds = each_among P parts holds
  each_of P (Said text) holds = tt
  each_of P (Count number) holds = tt
  each_of P (Flag flag) holds = tt
  each_of P Absent holds = tt

  each_among : (P : Span → Type 0) (parts : Pieces) → ((span : Span) → IsSpanAmong parts span → P span) → EachSpanAmong P parts
  each_among P End holds = tt
  each_among P (Then piece pieces) holds =
      (each_of P piece (λ span is. holds span (inl is)), each_among P pieces (λ span is. holds span (inr is)))

pub each_span : (tree : Syntax) → EachSpan (IsSpanOf tree) tree
each_span tree = each_of (IsSpanOf tree) tree (λ span is. is)

-- The parameters and the body of a function are parts of it.

pub params_each : (P : Span → Type 0) (f : Syntax) → EachSpan P f → EachSpan P (params_in f)
params_each P (Node at word.Arrow (Then marked (Then is_async (Then params (Then body End))))) each = each.1.1.1.0
params_each P (Node at word.Fundecl (Then marked (Then is_async (Then generator (Then name (Then params (Then body End))))))) each =
    each.1.1.1.1.1.0
params_each P (Node at word.Funexpr (Then marked (Then is_async (Then generator (Then name (Then params (Then body End))))))) each =
    each.1.1.1.1.1.0
params_each P _ each = tt

pub body_each : (P : Span → Type 0) (f : Syntax) → EachSpan P f → EachSpan P (body_in f)
body_each P (Node at word.Arrow (Then marked (Then is_async (Then params (Then body End))))) each = each.1.1.1.1.0
body_each P (Node at word.Fundecl (Then marked (Then is_async (Then generator (Then name (Then params (Then body End))))))) each =
    each.1.1.1.1.1.1.0
body_each P (Node at word.Funexpr (Then marked (Then is_async (Then generator (Then name (Then params (Then body End))))))) each =
    each.1.1.1.1.1.1.0
body_each P _ each = tt
