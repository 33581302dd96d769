-- The result of a walk over statements.
use Rattle.std.specs.Prelude.{◌≡◌, ℕ, Bool, true, ◌&&◌, ◌||◌, not, if◌then◌else◌, None, List, [], ◌∷◌, ◌++◌}
use Rattle.std.specs.Prelude.{filter}
use Rattle.std.specs.List.{list_any}
use Rattle.rl_dead.specs.Jumps.{breaks, continues}
use Rattle.rl_dead.specs.Ranges.{Adds, is_covered}
use Rattle.rl_dead.specs.declared.flow.Flow.{Flow}
use Rattle.rl_dead.specs.declared.jumps.Jumps.{Jumps}
use Rattle.rl_dead.specs.declared.ranges.Range.{Range}
use Rattle.rl_dead.specs.declared.walk.Body.{Body}
use Rattle.rl_model.specs.Actions.{Label, is_own}
use Rattle.rl_dead.specs.Parts.{For, init_acts}
use Rattle.rl_model.specs.Dead.{Lives, acting, loop_outs, dead_among, dead_in, dead_in_cases, goes_on, is_broken, is_unlabeled, lives, lives_all, lives_cases}
use Rattle.rl_model.specs.Supported.{is_among}
use Rattle.rl_syntax.specs.Forms.{is_absent}
use Rattle.rl_syntax.specs.Syntax.{Syntax, Node, Listed, Said, Pieces, End, Then}
use Rattle.rl_syntax.specs.declared.numbered.At.{At}
use Rattle.rl_syntax.specs.declared.word.Word.{Word}
use Rattle.rl_syntax.specs.declared.word.Word.TheVariants as word

-- The walk over what has the exits `l` and the dead parts `parts`: from the jumps `j` and the ranges `d` to `k` and `e`.
pub record Walked (j k : Jumps) (d e : List Range) (flow : Flow) (l : Lives) (parts : List Syntax) : Type 0 where
  pub falls : flow.falls ≡ l.outs.falls
  pub acts : flow.acts ≡ l.acts
  pub broken : breaks k ≡ breaks j ++ l.outs.breaks
  pub continued : continues k ≡ continues j ++ l.outs.continues
  pub dead : Adds d e parts

-- The walk over a node, whatever its ids.
pub record WalkedNode (j k : Jumps) (d e : List Range) (flow : Flow) (own : Label) (w : Word) (parts : Pieces) : Type 0 where
  pub node : (at : At) → Walked j k d e flow (lives own (Node at w parts)) (dead_in own (Node at w parts))

-- The walk over the body of a loop.
pub record WalkedBody (j k : Jumps) (d e : List Range) (result : Body) (own : Label) (body : Syntax) : Type 0 where
  pub goes_on : result.goes_on ≡ goes_on own (lives None body).outs
  pub is_broken : result.is_broken ≡ is_broken (lives None body).outs
  pub acts : result.acts ≡ (lives None body).acts
  pub broken : breaks k ≡ breaks j ++ filter (λ l. not (is_unlabeled l)) (lives None body).outs.breaks
  pub continued : continues k ≡ continues j ++ filter (λ l. not (is_own own l)) (lives None body).outs.continues
  pub dead : Adds d e (dead_in None body)

-- The step of a walk over statements in a row.
pub record Stepped (j k : Jumps) (d e : List Range) (before after : Flow) (statement : Syntax) : Type 0 where
  pub falls : after.falls ≡ (before.falls && (lives None statement).outs.falls)
  pub acts : after.acts ≡ (before.acts || (before.falls && (lives None statement).acts))
  pub broken : breaks k ≡ breaks j ++ (if before.falls then (lives None statement).outs.breaks else [])
  pub continued : continues k ≡ continues j ++ (if before.falls then (lives None statement).outs.continues else [])
  pub dead : Adds d e (if before.falls then dead_in None statement else statement ∷ [])

-- A walk over the statements `all` that has those of `left` before it.
pub record StatementsLeft (j k : Jumps) (d e : List Range) (flow : Flow) (all left : Pieces) : Type 0 where
  pub falls : (flow.falls && (lives_all left).outs.falls) ≡ (lives_all all).outs.falls
  pub acts : (flow.acts || (flow.falls && (lives_all left).acts)) ≡ (lives_all all).acts
  pub broken : breaks k ++ (if flow.falls then (lives_all left).outs.breaks else []) ≡ breaks j ++ (lives_all all).outs.breaks
  pub continued : continues k ++ (if flow.falls then (lives_all left).outs.continues else []) ≡ continues j ++ (lives_all all).outs.continues
  pub dead : (n : ℕ) → (is_covered e n || list_any (is_among n) (dead_among flow.falls left)) ≡ (is_covered d n || list_any (is_among n) (dead_among true all))

-- True of cases that may complete normally, of which those of `left` are to come; `falls` tells if the last one before them may.
abbrev pub cases_fall : (falls : Bool) → (left : Pieces) → Bool
cases_fall falls End = falls
cases_fall falls (Then case cases) = (lives_cases (Then case cases)).outs.falls

-- As `StatementsLeft`, for the cases of a `switch`.
pub record CasesLeft (j k : Jumps) (d e : List Range) (falls acts : Bool) (all left : Pieces) : Type 0 where
  pub fell : cases_fall falls left ≡ (lives_cases all).outs.falls
  pub acted : (acts || (lives_cases left).acts) ≡ (lives_cases all).acts
  pub broken : breaks k ++ (lives_cases left).outs.breaks ≡ breaks j ++ (lives_cases all).outs.breaks
  pub continued : continues k ++ (lives_cases left).outs.continues ≡ continues j ++ (lives_cases all).outs.continues
  pub dead : (n : ℕ) → (is_covered e n || list_any (is_among n) (dead_in_cases left)) ≡ (is_covered d n || list_any (is_among n) (dead_in_cases all))

-- As `WalkedNode`, of a node whose own label does not matter.
pub record WalkedPlain (j k : Jumps) (d e : List Range) (flow : Flow) (w : Word) (parts : Pieces) : Type 0 where
  pub node : (own : Label) → WalkedNode j k d e flow own w parts

-- As `WalkedPlain`, of a node without dead parts.
pub record WalkedJump (j k : Jumps) (flow : Flow) (w : Word) (parts : Pieces) : Type 0 where
  pub node : (d : List Range) → WalkedPlain j k d d flow w parts

-- As `WalkedJump`, of a node without jumps.
pub record WalkedStill (flow : Flow) (w : Word) (parts : Pieces) : Type 0 where
  pub node : (j : Jumps) → WalkedJump j j flow w parts

-- The walk over a loop that may complete normally whatever its body does.
pub record WalkedLoop (j k : Jumps) (d e : List Range) (flow : Flow) (own : Label) (body : Syntax) : Type 0 where
  pub walked : Walked j k d e flow (acting (loop_outs own true (lives None body).outs)) (dead_in None body)

-- The walk over statements in a row.
pub record WalkedStatements (j k : Jumps) (d e : List Range) (flow : Flow) (statements : Pieces) : Type 0 where
  pub walked : Walked j k d e flow (lives_all statements) (dead_among true statements)

-- The walk over the cases of a `switch`.
pub record WalkedCases (j k : Jumps) (d e : List Range) (flow : Flow) (cases : Pieces) : Type 0 where
  pub walked : Walked j k d e flow (lives_cases cases) (dead_in_cases cases)

-- True of a `for` loop in which something live, but for its jumps, may throw.
abbrev pub for_acts : For → Body → Bool
for_acts p body = init_acts p.init || not (is_absent p.condition) || body.acts || (not (is_absent p.update) && body.goes_on)

-- The walk over a `switch`, whatever its discriminant.
pub record WalkedSwitch (j k : Jumps) (d e : List Range) (flow : Flow) (cases : Pieces) : Type 0 where
  pub walked : (discriminant : Syntax) → WalkedPlain j k d e flow word.Switch (Then discriminant (Then (Listed cases) End))

-- The walk over a labelled statement.
pub record WalkedLabeled (j k : Jumps) (d e : List Range) (flow : Flow) (label : List ℕ) (body : Syntax) : Type 0 where
  pub walked : WalkedPlain j k d e flow word.Labeled (Then (Said label) (Then body End))

-- The walk over a `for` loop.
pub record WalkedFor (j k : Jumps) (d e : List Range) (flow : Flow) (own : Label) (p : For) : Type 0 where
  pub walked : WalkedNode j k d e flow own word.For (Then p.init (Then p.condition (Then p.update (Then p.body End))))
