-- Trees that the lowering goes through without a stop.
use Rattle.std.specs.Prelude.{◌≡◌, Bool, true, false, not, Option, Some, None, List, [], ◌∷◌, codes}
use Rattle.std.specs.Str.{bytes_eq}
use Rattle.rl_base.specs.Reserved.{is_reserved}
use Rattle.rl_base.specs.declared.ids.SymbolId.{SymbolId}
use Rattle.rl_model.specs.Actions.{Label}
use Rattle.rl_model.specs.Shapes.{are_raw, is_absent, is_logical, is_plain_rest}
use Rattle.rl_names.specs.Names.{Names, local_of}
use Rattle.rl_promises.specs.Chains.{Off, Spine, Top, below_link}
use Rattle.rl_promises.specs.Conditions.{is_plain_head}
use Rattle.rl_promises.specs.CoveredWords.{covers}
use Rattle.rl_promises.specs.Jumps.{Around, InLoop, InSwitch, own_label, stop_of_break, stop_of_continue, within_label}
use Rattle.rl_promises.specs.Locals.{IsVariable}
use Rattle.rl_promises.specs.Outs.{is_known_key, is_lost_delete, is_lost_head, is_wrapped}
use Rattle.rl_promises.specs.Patterns.{is_lost_item, is_pattern, local_at, stop_of_caught, target_under}
use Rattle.rl_rules.specs.Chains.{has_optional}
use Rattle.rl_rules.specs.Pieces.{first_is, is_yes}
use Rattle.rl_syntax.specs.Syntax.{Syntax, Node, Listed, Said, Count, Flag, Absent, Pieces, End, Then}
use Rattle.rl_syntax.specs.declared.word.Word.TheVariants as word

-- The type, if the test holds.
abbrev pub Where : Bool → Type 0 → Type 0
Where true holds = holds
Where false holds = Unit {0}

-- The name of a local variable, if it is one, is not reserved.
abbrev pub IsFree : Names → Option SymbolId → Type 0
IsFree names None = Unit {0}
IsFree names (Some symbol) = is_reserved (names.name symbol.0) ≡ false

-- As `IsFree`, with what is asked of the names behind that of a local variable.
abbrev pub IsFreeAhead : Names → Option SymbolId → (behind : Type 0) → Type 0
IsFreeAhead names None behind = Unit {0}
IsFreeAhead names (Some symbol) behind = (is_reserved (names.name symbol.0) ≡ false) × behind

-- A declaration is that of a variable, whose name is not reserved.
pub record DeclaresFree (names : Names) (declared : Option SymbolId) : Type 0 where
  pub symbol : SymbolId
  pub is : declared ≡ Some symbol
  pub variable : IsVariable names symbol
  pub free : is_reserved (names.name symbol.0) ≡ false

-- The names of a target that are looked at before anything of it is lowered are not reserved: those in front of the first item that is no
-- local variable.
abbrev pub AreFreeAhead : Names → Pieces → Type 0
AreFreeAhead names End = Unit {0}
AreFreeAhead names (Then item items) = IsFreeAhead names (local_at names (target_under item)) (AreFreeAhead names items)

abbrev mutual
  -- Each node of the tree that is lowered is covered, stops nothing, and is optional only where it stands on the spine of a chain.
  pub IsLowerableAt : Names → Spine → Syntax → Type 0
  IsLowerableAt names place (Node at word.Id (Then (Said name) End)) = IsFree names (local_of (names.meaning at.reference.0 name))
  IsLowerableAt names place (Node at word.Bind (Then (Said name) type)) = DeclaresFree names (names.declared at.id.0)
  IsLowerableAt names place (Node at word.Type parts) = Unit {0}
  IsLowerableAt names place (Node at word.Instantiate (Then expression types)) = IsLowerableAt names Off expression
  IsLowerableAt names place (Node at word.Yield parts) = Unit {0}
  IsLowerableAt names place (Node at word.Unary (Then (Said operator) (Then argument End))) =
      Where (not (is_lost_delete operator argument)) (IsLowerableAt names Off argument)
  IsLowerableAt names place (Node at word.Update (Then operator (Then prefix (Then target End)))) =
      (is_pattern target ≡ false) × Where (not (is_wrapped target)) (IsLowerableAt names Off target)
  IsLowerableAt names place (Node at word.Assign (Then (Said operator) (Then target (Then right End)))) =
      (is_wrapped target ≡ false)
      × Where (not (is_pattern target)) (Where (not (is_logical operator)) (IsLowerableAt names Off target × IsLowerableAt names Off right))
      × Where (is_pattern target) (Where (bytes_eq operator (codes "=")) (IsLowerableTo names target × IsLowerableAt names Off right))
  IsLowerableAt names place (Node at word.Keyedpat (Then computed (Then key (Then pattern End)))) =
      Where (not (is_lost_item (Node at word.Keyedpat (Then computed (Then key (Then pattern End)))))) (IsLowerableAt names Off pattern)
  IsLowerableAt names place (Node at word.Objectpat (Then (Listed properties) (Then rest End))) =
      AreLowerable names properties × Where (is_plain_rest rest) (IsLowerableAt names Off rest)
  IsLowerableAt names place
      (Node at word.Tagged (Then tag (Then (Node there word.Template (Then (Listed quasis) (Then (Listed expressions) End))) End))) =
      Where (are_raw quasis) (IsLowerableAt names Off tag × AreLowerable names expressions)
  IsLowerableAt names place (Node at word.Prop (Then (Flag computed) (Then key (Then expression End)))) =
      Where (is_known_key computed key) (IsLowerableAt names Off key × IsLowerableAt names Off expression)
  IsLowerableAt names place (Node at word.Chain (Then expression rest)) =
      (has_optional expression ≡ true) × IsLowerableAt names Top expression
  IsLowerableAt names Off (Node at word.Member parts) = (first_is is_yes parts ≡ false) × AreLowerable names parts
  IsLowerableAt names Off (Node at word.Index parts) = (first_is is_yes parts ≡ false) × AreLowerable names parts
  IsLowerableAt names Off (Node at word.Privatemember parts) = (first_is is_yes parts ≡ false) × AreLowerable names parts
  IsLowerableAt names Off (Node at word.Call parts) = (first_is is_yes parts ≡ false) × AreLowerable names parts
  IsLowerableAt names Off (Node at w parts) = (covers w parts ≡ true) × AreLowerable names parts
  IsLowerableAt names place (Node at word.Member (Then optional (Then object rest))) =
      IsLowerableAt names Off optional × IsLowerableAt names (below_link place) object × AreLowerable names rest
  IsLowerableAt names place (Node at word.Member parts) = Unit {0}
  IsLowerableAt names place (Node at word.Index (Then optional (Then object rest))) =
      IsLowerableAt names Off optional × IsLowerableAt names (below_link place) object × AreLowerable names rest
  IsLowerableAt names place (Node at word.Index parts) = Unit {0}
  IsLowerableAt names place (Node at word.Privatemember (Then optional (Then object rest))) =
      IsLowerableAt names Off optional × IsLowerableAt names (below_link place) object × AreLowerable names rest
  IsLowerableAt names place (Node at word.Privatemember parts) = Unit {0}
  IsLowerableAt names place (Node at word.Call (Then optional (Then callee rest))) =
      IsLowerableAt names Off optional × IsLowerableAt names (below_link place) callee × AreLowerable names rest
  IsLowerableAt names place (Node at word.Call parts) = Unit {0}
  IsLowerableAt names place (Node at word.Nonnull (Then expression rest)) = IsLowerableAt names place expression
  IsLowerableAt names place (Node at w parts) = (covers w parts ≡ true) × AreLowerable names parts
  IsLowerableAt names Off (Listed parts) = AreLowerable names parts
  IsLowerableAt names place (Listed parts) = Unit {0}
  IsLowerableAt names place (Said text) = Unit {0}
  IsLowerableAt names place (Count number) = Unit {0}
  IsLowerableAt names place (Flag flag) = Unit {0}
  IsLowerableAt names place Absent = Unit {0}

  -- As `IsLowerableAt`, for parts in a row that stand off the spine.
  pub AreLowerable : Names → Pieces → Type 0
  AreLowerable names End = Unit {0}
  AreLowerable names (Then piece pieces) = IsLowerableAt names Off piece × AreLowerable names pieces

  -- As `IsLowerableAt`, for a target that takes a piece of a value, in a pattern. A private property and a target under a wrapper are not
  -- lowered.
  pub IsLowerableTo : Names → Syntax → Type 0
  IsLowerableTo names (Node at word.Id (Then (Said name) End)) = IsFree names (local_of (names.meaning at.reference.0 name))
  IsLowerableTo names (Node at word.Member parts) = (first_is is_yes parts ≡ false) × AreLowerable names parts
  IsLowerableTo names (Node at word.Index parts) = (first_is is_yes parts ≡ false) × AreLowerable names parts
  IsLowerableTo names (Node at word.Default (Then target (Then default End))) =
      IsLowerableAt names Off default × IsLowerableTo names target
  IsLowerableTo names (Node at word.Short (Then target (Then default End))) =
      IsLowerableAt names Off default × IsLowerableTo names target
  IsLowerableTo names (Node at word.Keyed (Then computed (Then key (Then target End)))) =
      Where (not (is_lost_item (Node at word.Keyed (Then computed (Then key (Then target End)))))) (IsLowerableTo names target)
  IsLowerableTo names (Node at word.Rest (Then target End)) = IsLowerableTo names target
  IsLowerableTo names (Node at word.Arraytarget (Then (Listed items) (Then rest End))) =
      Where (is_absent rest) (AreFreeAhead names items) × AreLowerableTo names items × IsLowerableTo names rest
  IsLowerableTo names (Node at word.Objecttarget (Then (Listed properties) (Then rest End))) =
      Where (is_absent rest) (AreFreeAhead names properties) × AreLowerableTo names properties
      × Where (is_plain_rest rest) (IsLowerableTo names rest)
  IsLowerableTo names _ = Unit {0}

  -- As `IsLowerableTo`, for items in a row.
  pub AreLowerableTo : Names → Pieces → Type 0
  AreLowerableTo names End = Unit {0}
  AreLowerableTo names (Then item items) = IsLowerableTo names item × AreLowerableTo names items

-- As `IsLowerableAt`, for a tree that stands off the spine.
abbrev pub IsLowerable : Names → Syntax → Type 0
IsLowerable names tree = IsLowerableAt names Off tree

-- As `IsLowerable`, for the head of a `for`-`in` or `for`-`of` loop: one variable is declared, without an initializer, or a target takes
-- the values.
pub record IsLowerableHead (names : Names) (head : Syntax) : Type 0 where
  pub plain : is_plain_head head ≡ true
  pub lowerable : Where (not (is_pattern head)) (Where (not (is_lost_head head)) (IsLowerable names head))
  pub taken : Where (is_pattern head) (IsLowerableTo names head)

abbrev mutual
  -- As `IsLowerable`, for a statement inside others, with the label that is its own: each jump in it has a target.
  pub IsLowerableIn : Names → List Around → (own : Label) → Syntax → Type 0
  IsLowerableIn names around own (Node at word.Break (Then Absent End)) = stop_of_break None at.span around ≡ None
  IsLowerableIn names around own (Node at word.Break (Then (Said label) End)) = stop_of_break (Some label) at.span around ≡ None
  IsLowerableIn names around own (Node at word.Continue (Then Absent End)) = stop_of_continue None at.span around ≡ None
  IsLowerableIn names around own (Node at word.Continue (Then (Said label) End)) = stop_of_continue (Some label) at.span around ≡ None
  IsLowerableIn names around own (Node at word.Block (Then (Listed statements) End)) = AreLowerableIn names around statements
  IsLowerableIn names around own (Node at word.If (Then condition (Then consequent (Then alternate End)))) =
      IsLowerable names condition × IsLowerableIn names around None consequent × IsLowerableIn names around None alternate
  IsLowerableIn names around own (Node at word.While (Then condition (Then body End))) =
      IsLowerable names condition × IsLowerableIn names (InLoop own ∷ around) None body
  IsLowerableIn names around own (Node at word.Dowhile (Then body (Then condition End))) =
      IsLowerableIn names (InLoop own ∷ around) None body × IsLowerable names condition
  IsLowerableIn names around own (Node at word.For (Then init (Then condition (Then update (Then body End))))) =
      IsLowerable names init × IsLowerable names condition × IsLowerable names update × IsLowerableIn names (InLoop own ∷ around) None body
  IsLowerableIn names around own (Node at word.Forin (Then head (Then right (Then body End)))) =
      IsLowerableIn names (InLoop own ∷ around) None body × IsLowerable names right × IsLowerableHead names head
  IsLowerableIn names around own (Node at word.Forof (Then (Flag is_await) (Then head (Then right (Then body End))))) =
      Where (not is_await) (IsLowerableIn names (InLoop own ∷ around) None body × IsLowerable names right × IsLowerableHead names head)
  IsLowerableIn names around own (Node at word.Switch (Then discriminant (Then (Listed cases) End))) =
      AreLowerableCases names (InSwitch own ∷ around) cases × IsLowerable names discriminant
  IsLowerableIn names around own
      (Node at word.Try (Then block (Then (Node there word.Catch (Then param (Then body End))) (Then finalizer End)))) =
      (stop_of_caught param ≡ None) × IsLowerable names param
      × IsLowerableIn names around None body × IsLowerableIn names around None block
  IsLowerableIn names around own (Node at word.Try parts) = Unit {0}
  IsLowerableIn names around own (Node at word.With parts) = Unit {0}
  IsLowerableIn names around own (Node at word.Labeled (Then (Said label) (Then body End))) =
      IsLowerableIn names (within_label label body around) (own_label label body) body
  IsLowerableIn names around own statement = IsLowerable names statement

  -- As `IsLowerableIn`, for statements in a row.
  pub AreLowerableIn : Names → List Around → Pieces → Type 0
  AreLowerableIn names around End = Unit {0}
  AreLowerableIn names around (Then statement statements) =
      IsLowerableIn names around None statement × AreLowerableIn names around statements

  -- As `IsLowerableIn`, for a case of a `switch`.
  pub IsLowerableCase : Names → List Around → Syntax → Type 0
  IsLowerableCase names around (Node at word.Case (Then condition (Then (Listed statements) End))) =
      AreLowerableIn names around statements × IsLowerable names condition
  IsLowerableCase names around case = Unit {0}

  -- As `IsLowerableCase`, for cases in a row.
  pub AreLowerableCases : Names → List Around → Pieces → Type 0
  AreLowerableCases names around End = Unit {0}
  AreLowerableCases names around (Then case cases) = IsLowerableCase names around case × AreLowerableCases names around cases

-- As `IsLowerable`, for a body.
abbrev pub IsLowerableBody : Names → Syntax → Type 0
IsLowerableBody names (Node at word.Body (Then directives (Then (Listed statements) End))) = AreLowerableIn names [] statements
IsLowerableBody names body = IsLowerable names body
