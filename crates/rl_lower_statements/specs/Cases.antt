-- Cases of a `switch`, and their tests.
use Rattle.std.specs.Prelude.{◌≡◌, List, None}
use Rattle.rl_base.specs.declared.span.Span.{Span}
use Rattle.rl_builder.specs.Builder.{State}
use Rattle.rl_frames.specs.SwitchParts.{SwitchParts, switch_at}
use Rattle.rl_hir.specs.declared.terminal.Case.{Case}
use Rattle.rl_lowered.specs.Lowered.{LoweredCases}
use Rattle.rl_names.specs.Names.{Names}
use Rattle.rl_syntax.specs.Syntax.{Syntax, Pieces, End, Then}

-- The rows of pieces, one behind the other.
abbrev pub joined : (first second : Pieces) → Pieces
joined End second = second
joined (Then piece first) second = Then piece (joined first second)

-- The cases, the last of a `switch` at the span that began at `begun`, were lowered, and its frame has the parts then.
pub record FramesCases (names : Names) (begun : State) (span : Span) (cases : Pieces) (parts : SwitchParts) (now : State) : Type 0 where
  pub ks : List Case
  pub framed : parts ≡ switch_at begun span None ks
  pub by : LoweredCases names begun cases ks now

-- A case was lowered, by a frame behind the cases after it.
pub record FramesCase (names : Names) (case : Syntax) (before after : SwitchParts) (old new : State) : Type 0 where
  pub next : (begun : State) (span : Span) (cases : Pieces) → FramesCases names begun span cases before old
      → FramesCases names begun span (Then case cases) after new

-- Of all cases those behind `left` were lowered.
pub record FramesBehind (names : Names) (begun : State) (span : Span) (all left : Pieces) (parts : SwitchParts) (now : State)
    : Type 0 where
  pub behind : Pieces
  pub whole : joined left behind ≡ all
  pub cases : FramesCases names begun span behind parts now
