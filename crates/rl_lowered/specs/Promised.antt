-- Promises of the lowering of a part.
use Rattle.std.specs.Prelude.{◌≡◌, ℕ, ◌+◌, ◌*◌, ◌<◌, ◌≤◌, ◌^◌, Bool, true, false, if◌then◌else◌, List, [], ◌∷◌, ◌++◌, Option, Some, None, codes}
use Rattle.std.specs.Prelude.{option_map}
use Rattle.rl_base.specs.declared.ids.BlockId.{BlockId}
use Rattle.rl_base.specs.declared.span.Span.{Span}
use Rattle.rl_builder.specs.Builder.{State}
use Rattle.rl_hir.specs.Pieces.{Piece}
use Rattle.rl_hir.specs.declared.instruction.Instruction.{Instruction}
use Rattle.rl_hir.specs.declared.function.Param.{Param}
use Rattle.rl_hir.specs.declared.instruction.InstructionKind.{InstructionKind}
use Rattle.rl_hir.specs.declared.instruction.InstructionValue.{InstructionValue}
use Rattle.rl_hir.specs.declared.instruction.InstructionValue.TheVariants as values
use Rattle.rl_hir.specs.declared.instruction.Place.{Place}
use Rattle.rl_hir.specs.declared.terminal.Case.{Case}
use Rattle.rl_hir.specs.declared.terminal.ReturnVariant.TheVariants as returns
use Rattle.rl_lowered.specs.Listing.{ListsSince}
use Rattle.rl_lowered.specs.Params.{RunsParams, TakesEarly}
use Rattle.rl_lowered.specs.Forms.{Front}
use Rattle.rl_lowered.specs.Lowered.{LoweredFront, LoweredLink, LoweredSpine}
use Rattle.rl_lowered.specs.Lowered.{Lowered, LoweredAll, LoweredBody, LoweredCases, LoweredCaseTest, LoweredHead, LoweredInit, LoweredLast}
use Rattle.rl_lowered.specs.Items.{Later}
use Rattle.rl_lowered.specs.Lowered.{LoweredBound, LoweredLater, LoweredLoop, LoweredParams, LoweredPattern, LoweredProperties}
use Rattle.rl_lowered.specs.Lowered.{LoweredStatement, LoweredStatements, LoweredTarget, LoweredTest}
use Rattle.rl_lowered.specs.Named.{IsNamed, KeepsNames, Respans}
use Rattle.rl_lowered.specs.Sound.{AreSmallTrees, IsSmallTree, StaysSound}
use Rattle.rl_lowered.specs.Steps.{KeepsStepsApart}
use Rattle.rl_model.specs.Actions.{Action, Label, ◌>>=◌, return_with}
use Rattle.rl_model.specs.Counted.{Counted}
use Rattle.rl_model.specs.Expressions.{eval}
use Rattle.rl_model.specs.Scene.{Scene}
use Rattle.rl_model.specs.Statements.{exec_all}
use Rattle.rl_model.specs.Worlds.{is_reassign}
use Rattle.rl_names.specs.Names.{Names}
use Rattle.rl_hir.specs.Written.{value_word}
use Rattle.rl_promises.specs.Held.{times}
use Rattle.rl_model.specs.Dead.{lives_all}
use Rattle.rl_promises.specs.Live.{Held, held_among, held_in, live_in_body}
use Rattle.rl_promises.specs.Rebound.{span_behind_body}
use Rattle.rl_promises.specs.Rows.{Records, refusals, refusals_in, refusals_in_body}
use Rattle.rl_promises.specs.Stops.{has_using}
use Rattle.rl_promises.specs.Tallies.{IsHeldKind, tallied, tallied_among}
use Rattle.rl_runs.specs.Blocks.{Lives, PreservesBlocks, size_of}
use Rattle.rl_runs.specs.ReadNotes.{KeepsUnread}
use Rattle.rl_runs.specs.Simulation.{RunsStatement}
use Rattle.rl_syntax.specs.declared.word.Word.TheVariants as word
use Rattle.rl_syntax.specs.Syntax.{Syntax, Node, Listed, Pieces, End, Then, nodes, nodes_of}

-- The most blocks, types, identifiers and instructions, all together, that are made for `count` nodes.
abbrev pub share : (nodes : ℕ) → ℕ
share count = 64 * count

-- The blocks, types, identifiers and instructions of the state and `more` others are fewer than 2^31, all together.
abbrev pub HasRoom : State → (more : ℕ) → Type 0
HasRoom s more = size_of s + more < 2 ^ 31

-- The number of nodes of parts that were left.
abbrev pub nodes_left : List Later → ℕ
nodes_left [] = 0
nodes_left (part ∷ later) = nodes part.part + nodes_left later

-- An expression was lowered: its derivation, what is known of names behind it, and a bound on all that was made.
pub record LowersExpression (names : Names) (e : Syntax) (old new : State) (place : Place) : Type 0 where
  pub by : Lowered names e old new place
  pub named : IsNamed names old → IsNamed names new
  pub size : size_of new ≤ size_of old + share (nodes e)

-- As `LowersExpression`, for the spine of a chain, a link of one, and the object or callee of a link.

pub record LowersSpine (names : Names) (below : Bool) (e : Syntax) (old new : State) (place : Place) : Type 0 where
  pub by : LoweredSpine names below e old new place
  pub named : IsNamed names old → IsNamed names new
  pub size : size_of new ≤ size_of old + share (nodes e)

pub record LowersLink (names : Names) (alternate : Option BlockId) (e : Syntax) (old new : State) (front : Front) (place : Place)
    : Type 0 where
  pub by : LoweredLink names alternate e old new front place
  pub named : IsNamed names old → IsNamed names new
  pub size : size_of new ≤ size_of old + share (nodes e)

pub record LowersFront (names : Names) (alternate : BlockId) (called : Bool) (e : Syntax) (old new : State) (front : Front)
    : Type 0 where
  pub by : LoweredFront names alternate called e old new front
  pub named : IsNamed names old → IsNamed names new
  pub size : size_of new ≤ size_of old + share (nodes e)

-- As `LowersExpression`, for parts from left to right and the pieces that they give.
pub record LowersAll (names : Names) (es : Pieces) (old new : State) (pieces : List Piece) : Type 0 where
  pub by : LoweredAll names es old new pieces
  pub named : IsNamed names old → IsNamed names new
  pub size : size_of new ≤ size_of old + share (nodes_of es)

-- As `LowersAll`, for the properties of an object literal.
pub record LowersProperties (names : Names) (es : Pieces) (old new : State) (pieces : List Piece) : Type 0 where
  pub by : LoweredProperties names es old new pieces
  pub named : IsNamed names old → IsNamed names new
  pub size : size_of new ≤ size_of old + share (nodes_of es)

-- As `LowersExpression`, for expressions of which the last has the value.
pub record LowersLast (names : Names) (es : Pieces) (old new : State) (place : Place) : Type 0 where
  pub by : LoweredLast names es old new place
  pub named : IsNamed names old → IsNamed names new
  pub size : size_of new ≤ size_of old + share (nodes_of es)

-- As `LowersExpression`, for a statement.
pub record LowersStatement (names : Names) (e : Syntax) (old new : State) : Type 0 where
  pub by : LoweredStatement names e old new
  pub named : IsNamed names old → IsNamed names new
  pub size : size_of new ≤ size_of old + share (nodes e)

-- As `LowersStatement`, for a loop, with a label of its own or none.
pub record LowersLoop (names : Names) (own : Label) (e : Syntax) (old new : State) : Type 0 where
  pub by : LoweredLoop names own e old new
  pub named : IsNamed names old → IsNamed names new
  pub size : size_of new ≤ size_of old + share (nodes e)

-- As `LowersStatement`, for what stands in front in a `for` loop with the span `at`.
pub record LowersInit (names : Names) (at : Span) (e : Syntax) (old new : State) : Type 0 where
  pub by : LoweredInit names at e old new
  pub named : IsNamed names old → IsNamed names new
  pub size : size_of new ≤ size_of old + share (nodes e) + 4

-- As `LowersExpression`, for the test of a `for` loop with the span `at`.
pub record LowersTest (names : Names) (at : Span) (e : Syntax) (old new : State) (place : Place) : Type 0 where
  pub by : LoweredTest names at e old new place
  pub named : IsNamed names old → IsNamed names new
  pub size : size_of new ≤ size_of old + share (nodes e) + 4

-- As `LowersExpression`, for the head of a `for`-`in` or `for`-`of` loop, which takes `value`.
pub record LowersHead (names : Names) (value : Place) (e : Syntax) (old new : State) (place : Place) : Type 0 where
  pub by : LoweredHead names value e old new place
  pub named : IsNamed names old → IsNamed names new
  pub size : size_of new ≤ size_of old + share (nodes e)

-- As `LowersExpression`, for a target that takes `value`, whose instruction has the span `at`.
pub record LowersTarget (names : Names) (at : Span) (value : Place) (e : Syntax) (old new : State) (place : Place) : Type 0 where
  pub by : LoweredTarget names at value e old new place
  pub named : IsNamed names old → IsNamed names new
  pub size : size_of new ≤ size_of old + share (nodes e)

-- As `LowersTarget`, for the parts of a target that were left, in order.
pub record LowersLater (names : Names) (later : List Later) (old new : State) : Type 0 where
  pub by : LoweredLater names later old new
  pub named : IsNamed names old → IsNamed names new
  pub size : size_of new ≤ size_of old + share (nodes_left later)

-- As `LowersTarget`, for a binding pattern of variables of the kind `k`, in the head of a loop if `again` is true.
pub record LowersPattern (names : Names) (again : Bool) (k : InstructionKind) (at : Span) (value : Place) (e : Syntax) (old new : State)
    (place : Place) : Type 0 where
  pub by : LoweredPattern names again k at value e old new place
  pub named : IsNamed names old → IsNamed names new
  pub size : size_of new ≤ size_of old + share (nodes e)

-- As `LowersPattern`, for the parts of a binding pattern that were left, in order.
pub record LowersBound (names : Names) (again : Bool) (k : InstructionKind) (later : List Later) (old new : State) : Type 0 where
  pub by : LoweredBound names again k later old new
  pub named : IsNamed names old → IsNamed names new
  pub size : size_of new ≤ size_of old + share (nodes_left later)

-- As `LowersStatement`, for statements in order.
pub record LowersStatements (names : Names) (es : Pieces) (old new : State) : Type 0 where
  pub by : LoweredStatements names es old new
  pub named : IsNamed names old → IsNamed names new
  pub size : size_of new ≤ size_of old + share (nodes_of es)

-- As `LowersExpression`, for the test of a case, if it has one.
pub record LowersCaseTest (names : Names) (e : Syntax) (old new : State) (place : Option Place) : Type 0 where
  pub by : LoweredCaseTest names e old new place
  pub named : IsNamed names old → IsNamed names new
  pub size : size_of new ≤ size_of old + share (nodes e)

-- As `LowersStatement`, for the cases of a `switch` that began at `begun`, from the last to the first.
pub record LowersCases (names : Names) (begun : State) (es : Pieces) (cases : List Case) (new : State) : Type 0 where
  pub by : LoweredCases names begun es cases new
  pub named : IsNamed names begun → IsNamed names new
  pub size : size_of new ≤ size_of begun + share (nodes_of es) + 1

-- The meaning of a body before its end, where the function returns undefined: an expression returns its value.
abbrev pub exec_before_end : Scene → Syntax → Action (Unit {0})
exec_before_end scene (Node at word.Body (Then directives (Then (Listed statements) End))) = exec_all scene statements
exec_before_end scene body = do
  v ← eval scene body
  return_with scene returns.Implicit v

-- True of a body that may end behind its last statement.
abbrev pub body_falls : Syntax → Bool
body_falls (Node at word.Body (Then directives (Then (Listed statements) End))) = (lives_all statements).outs.falls
body_falls body = false

-- The word by which an instruction is counted: a store to a variable that was declared before, or to a global, has one for the three that
-- there are. None of any other store to a variable.
abbrev pub counted_word : InstructionValue → Option (List ℕ)
counted_word (values.StoreLocal kind place value) = if is_reassign kind then Some (codes "storelocal") else None
counted_word (values.StoreContext kind place value) = if is_reassign kind then Some (codes "storelocal") else None
counted_word (values.StoreGlobal name value) = Some (codes "storelocal")
counted_word v = Some (value_word v)

abbrev pub held_of : (word : Option (List ℕ)) → Option Span → Option Held
held_of None span = None
held_of (Some word) span = option_map (λ at. record { word = word; span = at }) span

-- The word by which an instruction is counted, and its span. None of one that is not counted, or that has no span.
abbrev pub held_by : Instruction → Option Held
held_by i = held_of (counted_word i.value) i.span

-- Parameters were lowered: all that the graph of their function is proved by. Where nothing of them is refused, a run from a store in which
-- each place of theirs has its argument goes on as the port's run does behind the parameters.
pub record LowersParams (names : Names) (params : Pieces) (rest : Syntax) (old new : State) (places : List Param) : Type 0 where
  pub by : LoweredParams names params rest old new places
  pub names_kept : KeepsNames names old new
  pub size : size_of new ≤ size_of old + share (nodes_of params + nodes rest)
  pub blocks : PreservesBlocks old new
  pub lists : ListsSince old new
  pub unread : KeepsUnread old new
  pub steps : KeepsStepsApart old new
  pub refused : Records (refusals_in names params ++ refusals names rest) old.env.diagnostics new.env.diagnostics
  pub tallies : refusals_in names params ++ refusals names rest ≡ [] → (key : Counted) → IsHeldKind key.kinds
      → times key new.table ≡ times key old.table + (tallied_among names key params + tallied names key rest)
  pub lives : refusals_in names params ++ refusals names rest ≡ []
      → Lives held_by (held_among names params ++ held_in names rest) true old new
  pub sound : StaysSound (AreSmallTrees params × IsSmallTree rest) old new
  pub runs : refusals_in names params ++ refusals names rest ≡ [] → (scene : Scene) → scene.names ≡ names → scene.ported ≡ true
      → TakesEarly scene → RunsParams scene params rest places old new

-- A body was lowered up to its end: all that the graph of its function is proved by. Where no node of it is refused, the graph has
-- the port's run of it.
pub record LowersBody (names : Names) (b : Syntax) (old new : State) : Type 0 where
  pub by : LoweredBody names b old new
  pub names_kept : KeepsNames names old new
  pub respans : Respans (λ symbol before. span_behind_body names symbol b before) old new
  pub size : size_of new ≤ size_of old + share (nodes b + 1)
  pub blocks : PreservesBlocks old new
  pub lists : ListsSince old new
  pub unread : KeepsUnread old new
  pub steps : KeepsStepsApart old new
  pub refused : Records (refusals_in_body names b) old.env.diagnostics new.env.diagnostics
  pub tallies : refusals_in_body names b ≡ [] → (key : Counted) → IsHeldKind key.kinds
      → times key new.table ≡ times key old.table + tallied names key b
  pub lives : refusals_in_body names b ≡ [] → Lives held_by (live_in_body names b) (body_falls b) old new
  pub sound : StaysSound (IsSmallTree b) old new
  pub runs : refusals_in_body names b ≡ [] → has_using b ≡ false → (scene : Scene) → scene.names ≡ names → scene.ported ≡ true
      → TakesEarly scene → RunsStatement scene.world (exec_before_end scene b) old new
