-- The size of formulas, and the room that their lowering needs.
use Rattle.std.specs.Prelude.{ℕ, ◌+◌, ◌*◌, ◌<◌, ◌^◌}
use Rattle.frame_tests.specs.declared.formula.Formula.{Formula, Truth, Not', Both', Either', Choice'}
use Rattle.rl_base.specs.declared.span.Span.{Span}
use Rattle.rl_builder.specs.Builder.{State}
use Rattle.rl_runs.specs.Blocks.{size_of}

abbrev pub span_of : Formula → Span
span_of (Truth span holds) = span
span_of (Not' span at part) = span
span_of (Both' span at left there right) = span
span_of (Either' span at left there right) = span
span_of (Choice' span at test here consequent there alternate) = span

-- The number of formulas in a formula, with it.
abbrev pub nodes : Formula → ℕ
nodes (Truth span holds) = 1
nodes (Not' span at part) = nodes part + 1
nodes (Both' span at left there right) = nodes left + nodes right + 1
nodes (Either' span at left there right) = nodes left + nodes right + 1
nodes (Choice' span at test here consequent there alternate) = nodes test + nodes consequent + nodes alternate + 1

-- The blocks, types, identifiers and instructions that are made for a formula are at most these, all together.
abbrev pub share : Formula → ℕ
share f = 64 * nodes f

-- Numbers below 2^31 for so many more.
abbrev pub HasRoom : State → (more : ℕ) → Type 0
HasRoom s more = size_of s + more < 2 ^ 31
