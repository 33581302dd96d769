-- Small trees, and what lowering them keeps: each place names an identifier that was made, and the notation has each part.
use Rattle.std.specs.Prelude.{◌<◌, ◌≤◌, List, All, length}
use Rattle.rl_text.specs.Notation.{IsWritable, AreWritable}
use Rattle.rl_text.specs.Number.{largest}
use Rattle.rl_syntax.specs.Syntax.{Syntax, Node, Listed, Said, Count, Flag, Absent, Pieces, End, Then, plain, plain_parts}
use Rattle.rl_hir.specs.Listing as listing
use Rattle.rl_hir.specs.declared.function.Identifier.{Identifier}
use Rattle.rl_hir.specs.declared.function.Pair.{Pair}
use Rattle.rl_hir.specs.declared.instruction.Place.{Place}
use Rattle.rl_builder.specs.Builder.{State}
use Rattle.rl_builder.specs.declared.jumps.JumpScope.{JumpScope}
use Rattle.rl_builder.specs.declared.jumps.JumpScope.TheVariants as scope
use Rattle.rl_model.specs.WellFormed.{AreKnown, instruction_places, terminal_places}
use Rattle.rl_names.specs.declared.parameters.Parameter.{Parameter}
use Rattle.rl_promises.specs.Locals.{IsSmallSpan}

abbrev mutual
  -- The span of each node of the tree is small.
  pub HasSmallSpans : Syntax → Type 0
  HasSmallSpans (Node at word parts) = IsSmallSpan at.span × HaveSmallSpans parts
  HasSmallSpans (Listed parts) = HaveSmallSpans parts
  HasSmallSpans (Said text) = Unit {0}
  HasSmallSpans (Count number) = Unit {0}
  HasSmallSpans (Flag flag) = Unit {0}
  HasSmallSpans Absent = Unit {0}

  -- As `HasSmallSpans`, for parts in a row.
  pub HaveSmallSpans : Pieces → Type 0
  HaveSmallSpans End = Unit {0}
  HaveSmallSpans (Then piece pieces) = HasSmallSpans piece × HaveSmallSpans pieces

-- The spans of the tree are small, and the notation has its kinds, texts and numbers.
abbrev pub IsSmallTree : Syntax → Type 0
IsSmallTree tree = HasSmallSpans tree × IsWritable (plain tree)

-- As `IsSmallTree`, for parts in a row.
abbrev pub AreSmallTrees : Pieces → Type 0
AreSmallTrees trees = HaveSmallSpans trees × AreWritable (plain_parts trees)

-- The id of the parameter's symbol is a number of the notation.
abbrev pub HasSmallSymbol : Parameter → Type 0
HasSmallSymbol p = p.symbol.0 ≤ largest

-- The counters of the environment and the length of the instruction table are numbers of the notation, at most `largest`.
pub record HasSmallCounters (s : State) : Type 0 where
  pub blocks : s.env.next_block ≤ largest
  pub types : s.env.next_type ≤ largest
  pub identifiers : length s.env.identifiers ≤ largest
  pub instructions : length s.table ≤ largest

-- No counter of `old` is above that of `new`.
pub record CountersGrow (old new : State) : Type 0 where
  pub blocks : old.env.next_block ≤ new.env.next_block
  pub types : old.env.next_type ≤ new.env.next_type
  pub identifiers : length old.env.identifiers ≤ length new.env.identifiers
  pub instructions : length old.table ≤ length new.table

-- The places of the instruction table and of the terminals of completed blocks name identifiers that were made.
pub record HasKnownParts (s : State) : Type 0 where
  pub table : All (λ i. AreKnown (length s.env.identifiers) (instruction_places i)) s.table
  pub terminals : All (λ b. AreKnown (length s.env.identifiers) (terminal_places b.1.terminal)) s.completed

-- The notation has the ids of the blocks to which jumps out of the scope go.
abbrev pub HasSmallTargets : JumpScope → Type 0
HasSmallTargets (scope.Loop label again behind) = (again.0 ≤ largest) × (behind.0 ≤ largest)
HasSmallTargets (scope.Label label behind) = behind.0 ≤ largest
HasSmallTargets (scope.Switch label behind) = behind.0 ≤ largest

-- The notation has the listings of instructions and completed blocks, the id and the indices of the current block, and the ids of the
-- blocks to which instructions throw and jumps go.
pub record HasWritableParts (s : State) : Type 0 where
  pub table : All (λ i. IsWritable (listing.instruction i)) s.table
  pub completed : All (λ b. IsWritable (listing.block b)) s.completed
  pub current : s.current.id.0 ≤ largest
  pub listed : All (λ id. id.0 ≤ largest) s.current.instructions
  pub handlers : All (λ id. id.0 ≤ largest) s.handlers
  pub scopes : All HasSmallTargets s.scopes

-- The notation has the listings of the identifiers.
abbrev pub AreWritableIdentifiers : List Identifier → Type 0
AreWritableIdentifiers identifiers = All (λ i. IsWritable (listing.identifier i)) identifiers

-- The notation has the listings of the pairs.
abbrev pub AreWritablePairs : List Pair → Type 0
AreWritablePairs pairs = All (λ p. IsWritable (listing.pair p)) pairs

-- From `old` to `new` places stay known and, where the counters of `new` are small, pairs stay writable, and so do parts and
-- identifiers where `small` holds too.
pub record StaysSound (small : Type 0) (old new : State) : Type 0 where
  pub counters : CountersGrow old new
  pub known : HasKnownParts old → HasKnownParts new
  pub parts : small → HasSmallCounters new → HasWritableParts old → HasWritableParts new
  pub identifiers : small → HasSmallCounters new → AreWritableIdentifiers old.env.identifiers
      → AreWritableIdentifiers new.env.identifiers
  pub pairs : HasSmallCounters new → AreWritablePairs old.env.pairs → AreWritablePairs new.env.pairs

-- The place names an identifier of `new`, and the notation has it where `small` holds and the counters of `new` are small.
pub record IsSoundPlace (small : Type 0) (new : State) (place : Place) : Type 0 where
  pub known : place.identifier.0 < length new.env.identifiers
  pub writable : small → HasSmallCounters new → IsWritable (listing.place place)
