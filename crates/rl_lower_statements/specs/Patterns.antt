-- The parts of binding patterns that the walk holds between two instructions.
use Rattle.std.specs.Prelude.{◌≡◌, ℕ, ◌+◌, ◌<◌, ◌≤◌, ◌^◌, ◌++◌, Bool, true, false, Option, Some, None, List, [], ◌∷◌, map}
use Rattle.rl_ast.specs.BindingViews.{seen_binding_identifier}
use Rattle.rl_ast.specs.declared.binding.BindingIdentifier.{BindingIdentifier}
use Rattle.rl_base.specs.declared.ids.SymbolId.{SymbolId}
use Rattle.rl_base.specs.declared.span.Span.{Span}
use Rattle.rl_builder.specs.Builder.{State}
use Rattle.rl_hir.specs.Pieces.{Piece}
use Rattle.rl_hir.specs.declared.instruction.Place.{Place}
use Rattle.rl_lower_statements.specs.declared.pattern_items.LeftPattern.{LeftPattern}
use Rattle.rl_lower_statements.specs.declared.pattern_items.PatternPart.{PatternPart}
use Rattle.rl_lower_statements.specs.declared.pattern_items.PatternPart.TheVariants as part
use Rattle.rl_lowered.specs.Forms.{IsAnnotation}
use Rattle.rl_lowered.specs.Items.{BoundItems, Later, caught, met, promoted, variable_at}
use Rattle.rl_lowered.specs.Named.{IsFound, IsNamed}
use Rattle.rl_lowered.specs.Promised.{share}
use Rattle.rl_names.specs.Names.{Names}
use Rattle.rl_promises.specs.Lowerable.{IsLowerable}
use Rattle.rl_promises.specs.Patterns.{is_ahead, takes_apart}
use Rattle.rl_runs.specs.Blocks.{size_of}
use Rattle.rl_syntax.specs.Syntax.{Syntax, Node, Said, Pieces, End, Then, nodes, span_of, syntax}
use Rattle.rl_syntax.specs.declared.numbered.At.{At}
use Rattle.rl_syntax.specs.declared.word.Word.TheVariants as word

-- A part of a binding pattern that is left for later, as a tree.
abbrev pub seen_part : PatternPart → Syntax
seen_part (part.MaybeDefault pattern) = syntax pattern.tree.now
seen_part (part.Pattern pattern) = syntax pattern.tree.now

abbrev pub seen_left : LeftPattern → Later
seen_left left = record { value = left.value; part = seen_part left.part }

abbrev pub all_left : List LeftPattern → List Later
all_left left = map seen_left left

-- The room that a pattern wants. A pattern leaves some of its share, for the temporary that it takes its piece from.
abbrev pub HasPatternRoom : State → (pattern : Syntax) → Type 0
HasPatternRoom s pattern = size_of s + share (nodes pattern) < 2 ^ 31 + 40

-- As `IsLowerable`, for parts that were left.
abbrev pub AreLowerableLeft : Names → List Later → Type 0
AreLowerableLeft names [] = Unit {0}
AreLowerableLeft names (first ∷ later) = IsLowerable names first.part × AreLowerableLeft names later

-- The name is that of the pattern. Where there is none, the pattern takes a value apart.
abbrev pub IsPatternName : Option BindingIdentifier → (pattern : Syntax) → Type 0
IsPatternName (Some name) pattern = seen_binding_identifier name ≡ pattern
IsPatternName None pattern = takes_apart pattern ≡ true

-- As `IsPatternName`, for a pattern that may have a default.
abbrev pub IsPlainName : Option BindingIdentifier → (pattern : Syntax) → Type 0
IsPlainName (Some name) pattern = seen_binding_identifier name ≡ pattern
IsPlainName None pattern = is_ahead pattern ≡ false

-- The variable that the `bind` node at `bind` declares has the place, at `at`; `again` is true in the head of a loop.
pub record PlacesName (names : Names) (again : Bool) (bind : At) (at : Span) (old new : State) (place : Place) : Type 0 where
  pub symbol : SymbolId
  pub identifier : ℕ
  pub declared : names.declared bind.id.0 ≡ Some symbol
  pub found : IsFound names old symbol bind.span identifier
  pub moved : new ≡ met again names old symbol identifier bind.span
  pub is : place ≡ variable_at identifier at
  pub named : IsNamed names new
  pub size : size_of new ≤ size_of old + 2

-- A part got its place, and the parts that were left grew from `before` to `after`: a name, and any other part, which takes its piece from
-- a temporary.
pub data BindsPart (names : Names) (again : Bool) (pattern : Syntax) (before : List LeftPattern) : (after : List LeftPattern)
    → (old new : State) → Place → Type 0 where
  BindsName : (bind : At) (name : List ℕ) (type : Syntax) (s t : State) (place : Place)
      → pattern ≡ Node bind word.Bind (Then (Said name) (Then type End)) → IsAnnotation type
      → PlacesName names again bind bind.span s t place → BindsPart names again pattern before before s t place
  BindsLater : (left : PatternPart) (s : State) → seen_part left ≡ pattern → is_ahead pattern ≡ false
      → BindsPart names again pattern before (before ++ record { value = caught s (span_of pattern); part = left } ∷ []) s
      (promoted s (span_of pattern)) (caught s (span_of pattern))

-- As `BindsPart`, for what takes the rest of an array, whose span is `at`.
pub data BindsRest (names : Names) (again : Bool) (at : Span) (pattern : Syntax) (before : List LeftPattern) : (after : List LeftPattern)
    → (old new : State) → Place → Type 0 where
  RestName : (bind : At) (name : List ℕ) (type : Syntax) (s t : State) (place : Place)
      → pattern ≡ Node bind word.Bind (Then (Said name) (Then type End)) → IsAnnotation type
      → PlacesName names again bind at s t place → BindsRest names again at pattern before before s t place
  RestLater : (left : PatternPart) (s : State) → seen_part left ≡ pattern → takes_apart pattern ≡ true
      → BindsRest names again at pattern before (before ++ record { value = caught s at; part = left } ∷ []) s (promoted s at) (caught s at)

-- An item of a binding pattern got its place, and gives these pieces; others may be bound behind it. `before` and `after` are the parts
-- that were left.
pub record BindsItem (names : Names) (again of_object : Bool) (item : Syntax) (pieces : List Piece) (before after : List LeftPattern)
    (old new : State) : Type 0 where
  pub added : List LeftPattern
  pub grown : after ≡ before ++ added
  pub next : (items : Pieces) (rest : Syntax) (last : State) (more : List Piece) (later : List Later)
      → BoundItems names again of_object items rest new last more later
      → BoundItems names again of_object (Then item items) rest old last (pieces ++ more) (all_left added ++ later)
  pub named : IsNamed names new
  pub size : size_of new ≤ size_of old + 4
