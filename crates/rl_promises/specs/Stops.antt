-- The rows that end the lowering of a function at once, and declarations for which a unit is skipped.
use Rattle.std.specs.Prelude.{Bool, true, false, ◌||◌, if◌then◌else◌, Option, Some, None, List, [], ◌∷◌, codes}
use Rattle.std.specs.Option.{option_map, option_or}
use Rattle.std.specs.Str.{bytes_eq}
use Rattle.rl_base.specs.Diagnostics.{diagnostic_at}
use Rattle.rl_base.specs.Reserved.{is_reserved}
use Rattle.rl_base.specs.declared.diagnostic.Diagnostic.{Diagnostic}
use Rattle.rl_base.specs.declared.ids.SymbolId.{SymbolId}
use Rattle.rl_base.specs.declared.row.Row.TheVariants as row
use Rattle.rl_base.specs.declared.span.Span.{Span}
use Rattle.rl_context.specs.Sites.{sites_in}
use Rattle.rl_context.specs.Wrapped as wrapped
use Rattle.rl_model.specs.Actions.{Label}
use Rattle.rl_model.specs.Patterns.{is_turn}
use Rattle.rl_model.specs.Shapes.{are_raw, is_absent, is_logical, is_plain_rest}
use Rattle.rl_model.specs.Statements.{is_using}
use Rattle.rl_names.specs.Functions.{body_in, params_in}
use Rattle.rl_names.specs.Names.{Names, local_of}
use Rattle.rl_promises.specs.Jumps.{Around, InLoop, InSwitch, own_label, stop_of_break, stop_of_continue, within_label}
use Rattle.rl_promises.specs.Outs.{is_known_key, is_lost_delete, is_lost_head, is_wrapped}
use Rattle.rl_promises.specs.Patterns.{is_ahead, is_lost_item, is_pattern, local_at, stop_of_caught, target_under, this_in}
use Rattle.rl_semantic.specs.Items.{of_item}
use Rattle.rl_syntax.specs.Syntax.{Syntax, Node, Listed, Said, Flag, Absent, Pieces, End, Then, span_of}
use Rattle.rl_syntax.specs.declared.word.Word.TheVariants as word

-- The stop at a node of a local variable, whose span is the label: S1 of a reserved name.
abbrev pub stop_of_local : Names → Option SymbolId → (label : Span) → Option Diagnostic
stop_of_local names None label = None
stop_of_local names (Some symbol) label =
    if is_reserved (names.name symbol.0) then Some (diagnostic_at row.S1 (names.name symbol.0) label) else None

-- The first stop at the names of a target that are looked at before anything of it is lowered: those in front of the first item that is
-- no local variable.
abbrev pub stop_ahead : Names → Pieces → Option Diagnostic
stop_ahead names End = None
stop_ahead names (Then item items) =
    of_item None (λ (symbol : SymbolId).
    option_or (stop_of_local names (Some symbol) (span_of (target_under item))) (stop_ahead names items))
    (local_at names (target_under item))

abbrev mutual
  -- The first stop in a tree without statements in it, in the order in which the lowering meets the nodes. What it does not lower has none.
  pub first_stop : Names → Syntax → Option Diagnostic
  first_stop names (Node at word.Id (Then (Said name) End)) =
      stop_of_local names (local_of (names.meaning at.reference.0 name)) at.span
  first_stop names (Node at word.Bind (Then (Said name) type)) = stop_of_local names (names.declared at.id.0) at.span
  first_stop names (Node at word.Cond (Then condition (Then consequent (Then alternate End)))) =
      option_or (first_stop names consequent) (option_or (first_stop names alternate) (first_stop names condition))
  first_stop names (Node at word.Logical (Then (Said operator) (Then left (Then right End)))) =
      option_or (first_stop names right) (first_stop names left)
  first_stop names (Node at word.Declarator (Then pattern (Then init End))) =
      option_or (first_stop names init) (first_stop names pattern)
  first_stop names (Node at word.Param (Then pattern (Then default End))) =
      option_or (first_stop names default) (first_stop names pattern)
  first_stop names (Node at word.Defaultpat (Then pattern (Then default End))) =
      option_or (first_stop names default) (first_stop names pattern)
  first_stop names (Node at word.Keyedpat (Then computed (Then key (Then pattern End)))) =
      if is_lost_item (Node at word.Keyedpat (Then computed (Then key (Then pattern End)))) then None else first_stop names pattern
  first_stop names (Node at word.Arraypat (Then (Listed items) (Then rest End))) =
      option_or (first_in_round names true items)
      (option_or (if is_ahead rest then first_stop names rest else None)
      (option_or (first_in_round names false items) (if is_ahead rest then None else first_stop names rest)))
  first_stop names (Node at word.Objectpat (Then (Listed properties) (Then rest End))) =
      option_or (first_in_round names true properties)
      (option_or (if is_plain_rest rest then first_stop names rest else None) (first_in_round names false properties))
  first_stop names (Node at word.Type parts) = None
  first_stop names (Node at word.Instantiate (Then expression types)) = first_stop names expression
  first_stop names (Node at word.Yield parts) = None
  first_stop names (Node at word.Unary (Then (Said operator) (Then argument End))) =
      if is_lost_delete operator argument then None else first_stop names argument
  first_stop names (Node at word.Update (Then operator (Then prefix (Then target End)))) =
      if is_wrapped target then None else first_stop names target
  first_stop names (Node at word.Assign (Then (Said operator) (Then target (Then right End)))) =
      if bytes_eq operator (codes "=")
      then option_or (first_stop names right) (if is_pattern target then stop_to names target else first_stop names target)
      else if is_logical operator then None
      else if is_pattern target then None
      else option_or (first_stop names target) (first_stop names right)
  first_stop names
      (Node at word.Tagged (Then tag (Then (Node there word.Template (Then (Listed quasis) (Then (Listed expressions) End))) End))) =
      if are_raw quasis then option_or (first_stop names tag) (first_among names expressions) else None
  first_stop names (Node at word.Prop (Then (Flag computed) (Then key (Then expression End)))) =
      if is_known_key computed key then option_or (first_stop names key) (first_stop names expression) else None
  first_stop names (Node at word parts) = first_among names parts
  first_stop names (Listed parts) = first_among names parts
  first_stop names _ = None

  -- As `first_stop`, for parts in a row.
  pub first_among : Names → Pieces → Option Diagnostic
  first_among names End = None
  first_among names (Then piece pieces) = option_or (first_stop names piece) (first_among names pieces)

  -- As `first_among`, for the items of a binding pattern that are met ahead of the others, or for these.
  pub first_in_round : Names → (ahead : Bool) → Pieces → Option Diagnostic
  first_in_round names ahead End = None
  first_in_round names ahead (Then item items) =
      option_or (if is_turn ahead (is_ahead item) then first_stop names item else None) (first_in_round names ahead items)

  -- As `first_stop`, for a target that takes a piece of a value, in a pattern.
  pub stop_to : Names → Syntax → Option Diagnostic
  stop_to names (Node at word.Id (Then (Said name) End)) = stop_of_local names (local_of (names.meaning at.reference.0 name)) at.span
  stop_to names (Node at word.Member parts) = first_among names parts
  stop_to names (Node at word.Index parts) = first_among names parts
  stop_to names (Node at word.Default (Then target (Then default End))) = option_or (first_stop names default) (stop_to names target)
  stop_to names (Node at word.Short (Then target (Then default End))) = option_or (first_stop names default) (stop_to names target)
  stop_to names (Node at word.Keyed (Then computed (Then key (Then target End)))) =
      if is_lost_item (Node at word.Keyed (Then computed (Then key (Then target End)))) then None else stop_to names target
  stop_to names (Node at word.Rest (Then target End)) = stop_to names target
  stop_to names (Node at word.Arraytarget (Then (Listed items) (Then rest End))) =
      option_or (if is_absent rest then stop_ahead names items else None) (option_or (stop_to_all names items) (stop_to names rest))
  stop_to names (Node at word.Objecttarget (Then (Listed properties) (Then rest End))) =
      option_or (if is_absent rest then stop_ahead names properties else None)
      (option_or (stop_to_all names properties) (if is_plain_rest rest then stop_to names rest else None))
  stop_to names _ = None

  -- As `stop_to`, for items in a row.
  pub stop_to_all : Names → Pieces → Option Diagnostic
  stop_to_all names End = None
  stop_to_all names (Then item items) = option_or (stop_to names item) (stop_to_all names items)

-- As `stop_to`, for items, and for the rest where `kept` is true.
abbrev pub stop_to_items : Names → (kept : Bool) → (items : Pieces) → (rest : Syntax) → Option Diagnostic
stop_to_items names kept items rest =
    option_or (if is_absent rest then stop_ahead names items else None)
    (option_or (stop_to_all names items) (if kept then stop_to names rest else None))

-- As `first_stop`, for a target, which may be a pattern.
abbrev pub stop_at : Names → Syntax → Option Diagnostic
stop_at names target = if is_pattern target then stop_to names target else first_stop names target

-- As `stop_at`, for the head of a `for`-`in` or `for`-`of` loop.
abbrev pub stop_at_head : Names → Syntax → Option Diagnostic
stop_at_head names head = if is_lost_head head then None else stop_at names head

abbrev mutual
  -- As `first_stop`, for a statement inside others, with the label that is its own: a jump without a target is one (rows S6 and S7), and a
  -- pattern that a `catch` binds (row S4).
  pub stop_in : Names → List Around → (own : Label) → Syntax → Option Diagnostic
  stop_in names around own (Node at word.Break (Then Absent End)) = stop_of_break None at.span around
  stop_in names around own (Node at word.Break (Then (Said label) End)) = stop_of_break (Some label) at.span around
  stop_in names around own (Node at word.Continue (Then Absent End)) = stop_of_continue None at.span around
  stop_in names around own (Node at word.Continue (Then (Said label) End)) = stop_of_continue (Some label) at.span around
  stop_in names around own (Node at word.Block (Then (Listed statements) End)) = stop_among names around statements
  stop_in names around own (Node at word.If (Then condition (Then consequent (Then alternate End)))) =
      option_or (stop_in names around None consequent) (option_or (stop_in names around None alternate) (first_stop names condition))
  stop_in names around own (Node at word.While (Then condition (Then body End))) =
      option_or (stop_in names (InLoop own ∷ around) None body) (first_stop names condition)
  stop_in names around own (Node at word.Dowhile (Then body (Then condition End))) =
      option_or (stop_in names (InLoop own ∷ around) None body) (first_stop names condition)
  stop_in names around own (Node at word.For (Then init (Then condition (Then update (Then body End))))) =
      option_or (first_stop names init) (option_or (first_stop names update)
      (option_or (stop_in names (InLoop own ∷ around) None body) (first_stop names condition)))
  stop_in names around own (Node at word.Forin (Then head (Then right (Then body End)))) =
      option_or (stop_in names (InLoop own ∷ around) None body) (option_or (first_stop names right) (stop_at_head names head))
  stop_in names around own (Node at word.Forof (Then (Flag is_await) (Then head (Then right (Then body End))))) =
      if is_await then None
      else option_or (stop_in names (InLoop own ∷ around) None body) (option_or (first_stop names right) (stop_at_head names head))
  stop_in names around own (Node at word.Switch (Then discriminant (Then (Listed cases) End))) =
      option_or (stop_in_cases names (InSwitch own ∷ around) cases) (first_stop names discriminant)
  stop_in names around own
      (Node at word.Try (Then block (Then (Node there word.Catch (Then param (Then body End))) (Then finalizer End)))) =
      option_or (stop_of_caught param)
      (option_or (first_stop names param) (option_or (stop_in names around None body) (stop_in names around None block)))
  stop_in names around own (Node at word.Try parts) = None
  stop_in names around own (Node at word.With parts) = None
  stop_in names around own (Node at word.Labeled (Then (Said label) (Then body End))) =
      stop_in names (within_label label body around) (own_label label body) body
  stop_in names around own statement = first_stop names statement

  -- As `stop_in`, for statements in a row.
  pub stop_among : Names → List Around → Pieces → Option Diagnostic
  stop_among names around End = None
  stop_among names around (Then statement statements) = option_or (stop_in names around None statement) (stop_among names around statements)

  -- As `stop_in`, for a case of a `switch`: its statements come before its test.
  pub stop_in_case : Names → List Around → Syntax → Option Diagnostic
  stop_in_case names around (Node at word.Case (Then condition (Then (Listed statements) End))) =
      option_or (stop_among names around statements) (first_stop names condition)
  stop_in_case names around case = None

  -- As `stop_in_case`, for cases in a row, from the last to the first.
  pub stop_in_cases : Names → List Around → Pieces → Option Diagnostic
  stop_in_cases names around End = None
  stop_in_cases names around (Then case cases) = option_or (stop_in_cases names around cases) (stop_in_case names around case)

-- As `first_stop`, for a body.
abbrev pub stop_in_body : Names → Syntax → Option Diagnostic
stop_in_body names (Node at word.Body (Then directives (Then (Listed statements) End))) = stop_among names [] statements
stop_in_body names body = first_stop names body

-- The stop at a parameter `this`, if there is one.
abbrev pub stop_of_this : Option Span → Option Diagnostic
stop_of_this at = option_map (λ (span : Span). diagnostic_at row.S2 (codes "this") span) at

-- The stop of a function: S2 at a parameter `this`, else S3 at the first wrapped target of an assignment, else the first S1 in the
-- parameters, and the first S1, S4, S6 or S7 in the body.
abbrev pub stop_of : Names → (function : Syntax) → Option Diagnostic
stop_of names function =
    option_or (stop_of_this (this_in (params_in function)))
    (option_or (wrapped.stop_among (sites_in function))
    (option_or (first_stop names (params_in function)) (stop_in_body names (body_in function))))

abbrev mutual
  -- True of a tree with a declaration by `using` or `await using` (skips K2 and K3).
  pub has_using : Syntax → Bool
  has_using (Node at word.Var (Then (Said kind) declarators)) = is_using kind || have_using declarators
  has_using (Node at word parts) = have_using parts
  has_using (Listed parts) = have_using parts
  has_using _ = false

  -- As `has_using`, for parts in a row.
  pub have_using : Pieces → Bool
  have_using End = false
  have_using (Then piece pieces) = has_using piece || have_using pieces
