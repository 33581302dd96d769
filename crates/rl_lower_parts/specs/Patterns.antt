-- The parts of patterns that the walk holds between two instructions.
use Rattle.std.specs.Prelude.{◌≡◌, ℕ, ◌+◌, ◌*◌, ◌<◌, ◌≤◌, ◌^◌, ◌++◌, Bool, true, false, Option, Some, None, List, [], ◌∷◌, length, map}
use Rattle.rl_base.specs.Diagnostics.{diagnostic_at}
use Rattle.rl_base.specs.Reserved.{is_reserved}
use Rattle.rl_base.specs.declared.ids.SymbolId.{SymbolId}
use Rattle.rl_base.specs.declared.row.Row.TheVariants as row
use Rattle.rl_base.specs.declared.span.Span.{Span}
use Rattle.rl_builder.specs.Builder.{State, recorded}
use Rattle.rl_builder.specs.Temporaries.{temporary}
use Rattle.rl_hir.specs.Pieces.{Piece}
use Rattle.rl_hir.specs.declared.instruction.ObjectPatternProperty.{ObjectPatternProperty}
use Rattle.rl_hir.specs.declared.instruction.Place.{Place}
use Rattle.rl_lower_parts.specs.declared.target_items.LeftTarget.{LeftTarget}
use Rattle.rl_lower_parts.specs.declared.target_items.TargetPart.{TargetPart}
use Rattle.rl_lower_parts.specs.declared.target_items.TargetPart.TheVariants as part
use Rattle.rl_lowered.specs.Items.{Later, TakenItems, caught, fraction_met, promoted, variable_at}
use Rattle.rl_lowered.specs.Lowered.{LoweredMoved}
use Rattle.rl_lowered.specs.Named.{IsFound, IsNamed, found}
use Rattle.rl_lowered.specs.Promised.{nodes_left, share}
use Rattle.rl_names.specs.Names.{Names}
use Rattle.rl_optional_frames.specs.Frames.{default_at, default_ended}
use Rattle.rl_optional_frames.specs.Parts.{default_begun}
use Rattle.rl_promises.specs.Locals.{IsVariable}
use Rattle.rl_promises.specs.Lowerable.{IsFree, IsLowerableTo}
use Rattle.rl_promises.specs.Patterns.{fraction_of, key_name, local_at, lost_key, loses_item}
use Rattle.rl_runs.specs.Blocks.{size_of}
use Rattle.rl_syntax.specs.Syntax.{Syntax, Node, Flag, Pieces, End, Then, nodes, span_of, syntax}
use Rattle.rl_syntax.specs.declared.word.Word.TheVariants as word

-- A part of a target that is left for later, as a tree.
abbrev pub seen_part : TargetPart → Syntax
seen_part (part.MaybeDefault target) = syntax target.tree.now
seen_part (part.Target target) = syntax target.tree.now
seen_part (part.Name name) = syntax name.tree.now
seen_part (part.Short at name default) = Node at word.Short (Then (syntax name.tree.now) (Then (syntax default.tree.now) End))

abbrev pub seen_left : LeftTarget → Later
seen_left left = record { value = left.value; part = seen_part left.part }

abbrev pub all_left : List LeftTarget → List Later
all_left left = map seen_left left

-- The room that a target wants. A target leaves some of its share, for the temporary that it takes its piece from.
abbrev pub HasTargetRoom : State → (target : Syntax) → Type 0
HasTargetRoom s target = size_of s + share (nodes target) < 2 ^ 31 + 40

-- As `HasTargetRoom`, for parts that were left.
abbrev pub HasLeftRoom : State → List Later → Type 0
HasLeftRoom s later = size_of s + share (nodes_left later) < 2 ^ 31 + 40 * length later

-- As `IsLowerableTo`, for parts that were left.
abbrev pub AreLowerableLeft : Names → List Later → Type 0
AreLowerableLeft names [] = Unit {0}
AreLowerableLeft names (first ∷ later) = IsLowerableTo names first.part × AreLowerableLeft names later

-- A key that is a name, a text or a number was met: `name` is its text.
pub record MeetsKey (computed : Bool) (key : Syntax) (name : List ℕ) (old new : State) : Type 0 where
  pub plain : computed ≡ false
  pub named : key_name key ≡ Some name
  pub moved : new ≡ fraction_met old (fraction_of key)

-- The property at `at` with any other key was refused.
pub record LosesKey (at : Span) (computed : Bool) (key : Syntax) (old new : State) : Type 0 where
  pub lost : loses_item (Flag computed) key ≡ true
  pub moved : new ≡ recorded old (lost_key at computed key)

-- A default of `value` was lowered, and the place has the one that is taken.
pub record TakesDefault (names : Names) (at : Span) (default : Syntax) (value : Place) (old new : State) (place : Place) : Type 0 where
  pub behind : State
  pub given : Place
  pub by : LoweredMoved names default (default_begun old at) behind given
  pub moved : new ≡ default_ended (default_at old at value) behind given
  pub taken : place ≡ temporary old (Some at)
  pub named : IsNamed names new
  pub size : size_of new ≤ size_of old + share (nodes default + 1)

-- A name. None of any other part.
abbrev pub named : Syntax → Option Syntax
named (Node at word.Id parts) = Some (Node at word.Id parts)
named part = None

-- A name was looked up, if it is that of a local variable: `found` is true then.
pub data LooksUp (names : Names) : (name : Option Syntax) → (old new : State) → (found : Bool) → Type 0 where
  FindsLocal : (name : Syntax) (symbol : SymbolId) (identifier : ℕ) (s : State) → local_at names name ≡ Some symbol
      → IsFound names s symbol (span_of name) identifier → LooksUp names (Some name) s (found names s symbol (span_of name)) true
  FindsOther : (name : Syntax) (s : State) → local_at names name ≡ None → LooksUp names (Some name) s s false
  FindsNone : (s : State) → LooksUp names None s s false

-- A local variable among items that take their pieces themselves got its place. A constant has none, and is refused.
pub data GivesPlace (names : Names) (name : Syntax) : (old new : State) → Option Place → Type 0 where
  GivesVariable : (symbol : SymbolId) (identifier : ℕ) (s : State) → local_at names name ≡ Some symbol → names.is_const symbol.0 ≡ false
      → IsFound names s symbol (span_of name) identifier
      → GivesPlace names name s (found names s symbol (span_of name)) (Some (variable_at identifier (span_of name)))
  GivesNothing : (symbol : SymbolId) (identifier : ℕ) (s : State) → local_at names name ≡ Some symbol → names.is_const symbol.0 ≡ true
      → IsFound names s symbol (span_of name) identifier
      → GivesPlace names name s
      (recorded (found names s symbol (span_of name)) (diagnostic_at row.F6 (names.name symbol.0) (span_of name))) None

-- An item of a target got its place, and gives these pieces; others may be taken behind it. `before` and `after` are the parts that were
-- left.
pub record TakesItem (names : Names) (of_object forced : Bool) (item : Syntax) (pieces : List Piece) (before after : List LeftTarget)
    (old new : State) : Type 0 where
  pub added : List LeftTarget
  pub grown : after ≡ before ++ added
  pub next : (items : Pieces) (rest : Syntax) (last : State) (more : List Piece) (later : List Later)
      → TakenItems names of_object forced items rest new last more later
      → TakenItems names of_object forced (Then item items) rest old last (pieces ++ more) (all_left added ++ later)
  pub named : IsNamed names new
  pub size : size_of new ≤ size_of old + 4

-- The name, if it is that of a local variable, is not reserved.
abbrev pub IsFreeName : Names → (name : Option Syntax) → Type 0
IsFreeName names None = Unit {0}
IsFreeName names (Some name) = IsFree names (local_at names name)

-- The name is that of a local variable, which is not reserved.
pub record IsLocalName (names : Names) (name : Option Syntax) : Type 0 where
  pub tree : Syntax
  pub symbol : SymbolId
  pub is : name ≡ Some tree
  pub local : local_at names tree ≡ Some symbol
  pub variable : IsVariable names symbol
  pub free : is_reserved (names.name symbol.0) ≡ false

-- An item that takes its piece itself is such a name.
abbrev pub IsDirect : Names → (forced : Bool) → (name : Option Syntax) → Type 0
IsDirect names true name = Unit {0}
IsDirect names false name = IsLocalName names name

-- The part that takes a piece, of a part that may be left for later and the name that it is, if it is one.
abbrev pub IsTakenPart : (forced : Bool) → (part : Syntax) → (name : Option Syntax) → (taken : Syntax) → Type 0
IsTakenPart true part name taken = part ≡ taken
IsTakenPart false part name taken = name ≡ Some taken

-- The part that takes a piece got its place: a temporary, where it is left for later, or that of a local variable. A constant has none.
pub data TakesPart (names : Names) : (forced : Bool) → (part : Syntax) → (before after : List LeftTarget) → (old new : State)
    → Option Place → Type 0 where
  TakesLater : (part : TargetPart) (left : List LeftTarget) (s : State)
      → TakesPart names true (seen_part part) left
      (left ++ record { value = caught s (span_of (seen_part part)); part = part } ∷ []) s (promoted s (span_of (seen_part part)))
      (Some (caught s (span_of (seen_part part))))
  TakesNow : (name : Syntax) (left : List LeftTarget) (s t : State) (place : Option Place) → GivesPlace names name s t place
      → TakesPart names false name left left s t place

-- A property of a pattern, as a list.
abbrev pub taken_list : Option ObjectPatternProperty → List ObjectPatternProperty
taken_list None = []
taken_list (Some property) = property ∷ []
