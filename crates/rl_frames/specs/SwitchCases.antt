-- The cases of a `switch` between the calls of its frame: the parts of the blocks that those which were lowered preserve, from the last one
-- on, and their runs.
use Rattle.std.specs.Prelude.{◌≡◌, ℕ, ◌<◌, Option, Some, None, List, [], ◌∷◌, length}
use Rattle.rl_base.specs.declared.span.Span.{Span}
use Rattle.rl_builder.specs.Builder.{State, innermost, reserved}
use Rattle.rl_frames.specs.SwitchMeanings.{CaseMeaning, case_ways, in_turn, selecting, test_values}
use Rattle.rl_frames.specs.SwitchParts.{SwitchParts, switch_at}
use Rattle.rl_hir.specs.declared.instruction.Place.{Place}
use Rattle.rl_hir.specs.declared.terminal.Case.{Case}
use Rattle.rl_machine.specs.declared.trace.Answer.{Answer}
use Rattle.rl_machine.specs.declared.trace.Value.{Value}
use Rattle.rl_machine.specs.Ends.{Notes}
use Rattle.rl_machine.specs.Machine.{Code}
use Rattle.rl_machine.specs.Silence.{Settles}
use Rattle.rl_machine.specs.Traces.{Cont, Store, World}
use Rattle.rl_model.specs.Actions.{Action, Label, Ways}
use Rattle.rl_runs.specs.Blocks.{AreEnds, AreUsed, InCompletedPoint, JumpsSettle, Looping, NamesSince, NotesOwn, PointsSettle}
use Rattle.rl_runs.specs.Blocks.{PreservesBlocks, PreservesIds, StraightBelow, StraightSince, UniqueIds, WasNumbered}
use Rattle.rl_runs.specs.Continuations.{Agrees, Follows, Inside, Jumps, Range, SharesVariables, Since, Throws, TracesAt, TracesFrom}
use Rattle.rl_runs.specs.Continuations.{between}
use Rattle.rl_runs.specs.Exits.{IsTest}
use Rattle.rl_runs.specs.Facts.{Extends, HasSoundNames, IsContainedIn, IsCurrentOrCompleted}
use Rattle.rl_runs.specs.Simulation.{RunsExpression, RunsStatement}

-- The blocks of the cases were numbered between two values of the counter.
abbrev pub AreNumbered : (first next : ℕ) → List Case → Type 0
AreNumbered first next [] = Unit {0}
AreNumbered first next (k ∷ cases) = WasNumbered first next k.block.0 × AreNumbered first next cases

-- Facts of the graph `c` around the cases.
pub record SettlesAround (c : Code) (s x : State) : Type 0 where
  pub cover : IsContainedIn x c
  pub own : NotesOwn c s x
  pub below : StraightBelow s
  pub jumps : JumpsSettle c s.scopes
  pub behind : Settles c s.env.next_block 0
  pub old : PointsSettle c s

-- The program points of the complete blocks settle.
abbrev pub DoneSettle : Code → State → Type 0
DoneSettle c x = (id place : ℕ) → InCompletedPoint x.completed id place → Settles c id place

-- Each case's block settles, if the program points of all complete blocks do whenever it does.
abbrev pub EachSettles : Code → State → List Case → Type 0
EachSettles c x [] = Unit {0}
EachSettles c x (k ∷ cases) = ((Settles c k.block.0 0 → DoneSettle c x) → Settles c k.block.0 0) × EachSettles c x cases

-- The cases `cases` of a `switch` that began at `s` were lowered, the last one first, and the builder stands at `x`. These parts of
-- the blocks are preserved; the block behind the statement is not there yet.
pub record PreservesCases (s : State) (cases : List Case) (x : State) : Type 0 where
  pub extends : Extends (reserved s) x
  pub ids : PreservesIds s x
  pub free : UniqueIds s.completed s.current.id.0 s.env.next_block → IsCurrentOrCompleted x s.env.next_block → ⊥
  pub used : AreUsed (reserved s) x
  pub named : NamesSince s x
  pub numbered : AreNumbered s.env.next_block x.env.next_block cases
  pub ended : AreEnds s.completed → AreEnds x.completed
  pub straight : StraightSince s x
  pub settle : (c : Code) → SettlesAround c s x → PointsSettle c x
  pub each : (c : Code) → SettlesAround c s x → EachSettles c x cases
  pub looped : Looping s x

-- The values of the cases' tests are in their places.
abbrev pub AreTested : Code → Store → List Case → List (Option Value) → Type 0
AreTested c store [] [] = Unit {0}
AreTested c store (k ∷ cases) (v ∷ vs) = IsTest c store k.test v × AreTested c store cases vs
AreTested c store _ _ = ⊥

-- The run from index `place` of a block has the traces of the continuation `k`, which takes the values of the cases' tests.
pub record ContinuesTested (c : Code) (r : Range) (store : Store) (notes : Notes) (answers : List Answer)
    (block place : ℕ) (cases : List Case) (k : List (Option Value) → Cont) : Type 0 where
  pub goes : (vs : List (Option Value)) (source later : Store) (left : Notes) (rest : List Answer)
      → Since c r store notes answers source later left rest → AreTested c later cases vs
      → TracesAt c block place later left rest (k vs source rest)

-- The run from each case's block has the traces of its statements and of those behind it.
abbrev pub FollowCases : Code → Range → Store → Notes → List Answer → List Case → List CaseMeaning → Ways → (behind : Cont) → Type 0
FollowCases c r store notes answers [] [] ways behind = Unit {0}
FollowCases c r store notes answers (k ∷ cases) (m ∷ ms) ways behind =
    Follows c r store notes answers k.block.0 0 (in_turn (m ∷ ms) ways (λ end. behind))
    × FollowCases c r store notes answers cases ms ways behind
FollowCases c r store notes answers _ _ ways behind = ⊥

abbrev pub IsAlike : Option Place → Option (Action Value) → Type 0
IsAlike None None = Unit {0}
IsAlike (Some place) (Some test) = Unit {0}
IsAlike _ _ = ⊥

-- Both lists are of one length, and the cases that have tests stand at the same indices of both.
abbrev pub AreAlike : List Case → List CaseMeaning → Type 0
AreAlike [] [] = Unit {0}
AreAlike (k ∷ cases) (m ∷ ms) = IsAlike k.test m.test × AreAlike cases ms
AreAlike _ _ = ⊥

-- The place of a test was made below the count.
abbrev pub IsMade : Option Place → (made : ℕ) → Type 0
IsMade None made = Unit {0}
IsMade (Some place) made = place.identifier.0 < made

abbrev pub AreMade : List Case → (made : ℕ) → Type 0
AreMade [] made = Unit {0}
AreMade (k ∷ cases) made = IsMade k.test made × AreMade cases made

-- The runs of the cases: their tests from the last to the first, and their statements, which fall through to the next case.
pub record RunsCases (world : World) (own : Label) (s : State) (cases : List Case) (x : State) (ms : List CaseMeaning) : Type 0 where
  pub alike : AreAlike cases ms
  pub made : AreMade cases (length x.env.identifiers)
  pub tests : (c : Code) → IsContainedIn x c → HasSoundNames s → SharesVariables c.ident world c.world
      → (ways : Ways) (k : List (Option Value) → Cont) (source store : Store) (notes : Notes) (answers : List Answer)
      → Agrees c.ident source store
      → Throws c (between s x) store notes answers (innermost s.handlers) ways.throws
      → ContinuesTested c (between s x) store notes answers x.current.id.0 (length x.current.instructions) cases k
      → TracesFrom c s store notes answers (test_values ms ways k source answers)
  pub bodies : (c : Code) → IsContainedIn x c → HasSoundNames s → SharesVariables c.ident world c.world
      → (r : Range) → Inside r (between s x) → (ways : Ways) (behind : Cont) (store : Store) (notes : Notes) (answers : List Answer)
      → Throws c r store notes answers (innermost s.handlers) ways.throws
      → Jumps c r store notes answers s.scopes ways.breaks ways.continues
      → Follows c r store notes answers s.env.next_block 0 behind
      → FollowCases c r store notes answers cases ms (case_ways own behind ways) behind

-- The run of a case's test, if it has one.
abbrev pub RunsTest : World → Option (Action Value) → (old new : State) → Option Place → Type 0
RunsTest world None old new None = new ≡ old
RunsTest world (Some test) old new (Some place) = RunsExpression world test old new place.identifier.0
RunsTest world _ old new _ = ⊥

-- From any begin, and whatever the holes of the cases mean.
pub record SwitchComposes (f : SwitchParts) (old new : State) (value : Place) : Type 0 where
  pub all : (s x : State) (span : Span) (own : Label) (cases : List Case) (world : World) (ms : List CaseMeaning) (d : Action Value)
      → f ≡ switch_at s span own cases → PreservesCases s cases x → RunsCases world own s cases x ms
      → PreservesBlocks x old → RunsExpression world d x old value.identifier.0
      → PreservesBlocks s new × RunsStatement world (selecting world own ms d) s new
