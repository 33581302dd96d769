-- The results of lowering the marked function of a unit that was read, and the causes of its errors.
use Rattle.std.specs.Prelude.{◌≡◌, ◌≢◌, ℕ, ◌*◌, ◌≤◌, true, Some, None, List, []}
use Rattle.rl_ast.specs.FunctionTrees.{is_function}
use Rattle.rl_ast.specs.Units.{Spells}
use Rattle.rl_hir.specs.Listing.{lowered}
use Rattle.rl_hir.specs.declared.function.Lowered.{Lowered}
use Rattle.rl_lower.specs.Scenes.{IsSceneOf}
use Rattle.rl_lower.specs.Rooms.{IsSmallTree}
use Rattle.rl_promises.specs.Chains.{HasChains}
use Rattle.rl_promises.specs.Covered.{IsCoveredFunction, pending}
use Rattle.rl_promises.specs.Fields.{HasIdentifiersOf}
use Rattle.rl_promises.specs.Headline.{IsGraph, IsLowered}
use Rattle.rl_promises.specs.Rows.{IsSupported, IsTold, refusals_of}
use Rattle.rl_promises.specs.Spans.{IsSpanned}
use Rattle.rl_promises.specs.Stops.{has_using, stop_of}
use Rattle.rl_promises.specs.Size.{function_size}
use Rattle.rl_model.specs.Marked.{marked}
use Rattle.rl_model.specs.Scene.{Scene}
use Rattle.rl_model.specs.Units.{names_of}
use Rattle.rl_model.specs.Worlds.{graphs, world_in}
use Rattle.rl_names.specs.Functions.{body_in}
use Rattle.rl_promises.specs.Locals.{HasLocals}
use Rattle.rl_names.specs.Names.{Names}
use Rattle.rl_semantic.specs.Rules.{least_broken}
use Rattle.rl_syntax.specs.Limits.{IsTooLarge}
use Rattle.rl_syntax.specs.Syntax.{IsPlaced, Syntax, Absent, nodes}
use Rattle.rl_syntax.specs.declared.numbered.Position.{Position}
use Rattle.rl_text.specs.Notation.{IsWritable}
use Rattle.rl_unit.specs.declared.unit.LowerError.{LowerError}
use Rattle.rl_unit.specs.declared.unit.LowerError.TheVariants as errors

-- The unit was read from bytes within the limits.
pub record IsRead (u : Syntax) : Type 0 where
  pub bytes : List ℕ
  pub spells : Spells bytes u
  pub within : IsTooLarge bytes → ⊥

-- The function may be lowered under these names: it is covered and has a body, its links of chains are where they may be, its local
-- variables are known, it is not too large, and its nodes stand where they are numbered.
pub record MayLower (names : Names) (f : Syntax) : Type 0 where
  pub covered : IsCoveredFunction f
  pub chained : HasChains f
  pub body : body_in f ≢ Absent
  pub locals : HasLocals names f
  pub few : nodes f ≤ 65536
  pub from : Position
  pub placed : IsPlaced from f
  pub fits : is_function f ≡ true
  pub small : IsSmallTree f

-- The result of lowering a function to which no row applies, and which is not skipped.
pub record IsResultOf (names : Names) (f : Syntax) (l : Lowered) : Type 0 where
  pub supported : IsSupported names f
  pub main : (scene : Scene) → IsSceneOf names l.pairs scene (world_in l l.function (graphs l.inner))
      → IsGraph scene f l (graphs l.inner) l.function
  pub inner : l.inner ≡ []
  pub identifiers : HasIdentifiersOf names f l
  pub bounded : function_size l.function ≤ 64 * nodes f
  pub writable : IsWritable (lowered l)
  pub spanned : IsSpanned f l.function l.identifiers

-- The cause of an error in the lowering of a function.
abbrev pub IsFunctionError : Names → Syntax → LowerError → Type 0
IsFunctionError names f (errors.Stopped said) = stop_of names f ≡ Some said
IsFunctionError names f (errors.Refused said) = (stop_of names f ≡ None) × IsTold (refusals_of names f) said × (said ≢ [])
IsFunctionError names f errors.Skipped = (stop_of names f ≡ None) × (refusals_of names f ≡ []) × (has_using (body_in f) ≡ true)
IsFunctionError names f errors.OutOfMemory = Unit {0}
IsFunctionError names f errors.TooLarge = ⊥
IsFunctionError names f errors.Malformed = ⊥
IsFunctionError names f (errors.Pending node) = ⊥

-- The result of lowering the marked function of a unit.
pub record IsUnitResult (u : Syntax) (l : Lowered) : Type 0 where
  pub rules : least_broken u ≡ None
  pub lowers : IsLowered u l

-- The unit keeps the rules, its marked function is covered, and lowering that has an error for its cause.
pub record IsFunctionErrorOf (u : Syntax) (e : LowerError) : Type 0 where
  pub rules : least_broken u ≡ None
  pub covered : pending u ≡ None
  pub cause : IsFunctionError (names_of u) (marked u) e

-- The cause of an error in the lowering of a unit that was read.
abbrev pub IsUnitError : Syntax → LowerError → Type 0
IsUnitError u (errors.Stopped said) = IsFunctionErrorOf u (errors.Stopped said)
IsUnitError u (errors.Refused said) = IsFunctionErrorOf u (errors.Refused said)
IsUnitError u errors.Skipped = IsFunctionErrorOf u errors.Skipped
IsUnitError u (errors.Pending node) = (least_broken u ≡ None) × (pending u ≡ Some node.0)
IsUnitError u errors.Malformed = least_broken u ≢ None
IsUnitError u errors.OutOfMemory = Unit {0}
IsUnitError u errors.TooLarge = ⊥
