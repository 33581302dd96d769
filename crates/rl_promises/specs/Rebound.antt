-- The spans of identifiers of variables: the head of a loop that declares by `var` gives the variable's identifier the span of its name
-- there, also where the variable is declared already.
use Rattle.std.specs.Prelude.{ℕ, nat_eq, Bool, true, false, if◌then◌else◌, Option}
use Rattle.std.specs.Option.{option_map_or}
use Rattle.rl_base.specs.declared.ids.SymbolId.{SymbolId}
use Rattle.rl_base.specs.declared.span.Span.{Span}
use Rattle.rl_model.specs.Patterns.{is_turn}
use Rattle.rl_model.specs.Shapes.{is_plain_rest}
use Rattle.rl_names.specs.Names.{Names}
use Rattle.rl_promises.specs.Patterns.{is_ahead, is_lost_item}
use Rattle.rl_syntax.specs.Syntax.{Syntax, Node, Listed, Said, Flag, Pieces, End, Then}
use Rattle.rl_syntax.specs.declared.word.Word.TheVariants as word

abbrev pub is_symbol : (symbol : ℕ) → Option SymbolId → Bool
is_symbol symbol declared = option_map_or (λ s. nat_eq s.0 symbol) declared false

abbrev mutual
  -- The span of the variable's identifier behind a binding pattern in the head of a loop, which is `before` in front of it: names come
  -- first, and then the other items.
  pub span_in : Names → (symbol : ℕ) → (pattern : Syntax) → (before : Span) → Span
  span_in names symbol (Node at word.Bind parts) before = if is_symbol symbol (names.declared at.id.0) then at.span else before
  span_in names symbol (Node at word.Defaultpat (Then pattern default)) before = span_in names symbol pattern before
  span_in names symbol (Node at word.Keyedpat (Then computed (Then key (Then pattern End)))) before =
      if is_lost_item (Node at word.Keyedpat (Then computed (Then key (Then pattern End)))) then before
      else span_in names symbol pattern before
  span_in names symbol (Node at word.Rest (Then pattern End)) before = span_in names symbol pattern before
  span_in names symbol (Node at word.Arraypat (Then (Listed items) (Then rest End))) before =
      let ahead : Span = span_in_round names symbol true items before in
      let named : Span = (if is_ahead rest then span_in names symbol rest ahead else ahead) in
      let behind : Span = span_in_round names symbol false items named in
      if is_ahead rest then behind else span_in names symbol rest behind
  span_in names symbol (Node at word.Objectpat (Then (Listed properties) (Then rest End))) before =
      let ahead : Span = span_in_round names symbol true properties before in
      span_in_round names symbol false properties (if is_plain_rest rest then span_in names symbol rest ahead else ahead)
  span_in names symbol pattern before = before

  -- As `span_in`, for the items that are met ahead of the others, or for these.
  pub span_in_round : Names → (symbol : ℕ) → (ahead : Bool) → (items : Pieces) → (before : Span) → Span
  span_in_round names symbol ahead End before = before
  span_in_round names symbol ahead (Then item items) before =
      span_in_round names symbol ahead items (if is_turn ahead (is_ahead item) then span_in names symbol item before else before)

-- The span of the variable's identifier behind the head of a loop, which is `before` in front of it.
abbrev pub span_at_head : Names → (symbol : ℕ) → (head : Syntax) → (before : Span) → Span
span_at_head names symbol
    (Node at word.Var (Then kind (Then (Listed (Then (Node there word.Declarator (Then pattern rest)) End)) End))) before =
    span_in names symbol pattern before
span_at_head names symbol head before = before

abbrev mutual
  -- As `span_at_head`, for a statement, in the order in which the lowering meets the heads in it.
  pub span_behind : Names → (symbol : ℕ) → (statement : Syntax) → (before : Span) → Span
  span_behind names symbol (Node at word.Block (Then (Listed statements) End)) before = span_behind_all names symbol statements before
  span_behind names symbol (Node at word.If (Then condition (Then consequent (Then alternate End)))) before =
      span_behind names symbol alternate (span_behind names symbol consequent before)
  span_behind names symbol (Node at word.While (Then condition (Then body End))) before = span_behind names symbol body before
  span_behind names symbol (Node at word.Dowhile (Then body (Then condition End))) before = span_behind names symbol body before
  span_behind names symbol (Node at word.For (Then init (Then condition (Then update (Then body End))))) before =
      span_behind names symbol body before
  span_behind names symbol (Node at word.Forin (Then head (Then right (Then body End)))) before =
      span_at_head names symbol head (span_behind names symbol body before)
  span_behind names symbol (Node at word.Forof (Then (Flag is_await) (Then head (Then right (Then body End))))) before =
      if is_await then before else span_at_head names symbol head (span_behind names symbol body before)
  span_behind names symbol (Node at word.Switch (Then discriminant (Then (Listed cases) End))) before =
      span_behind_cases names symbol cases before
  span_behind names symbol
      (Node at word.Try (Then block (Then (Node there word.Catch (Then param (Then body End))) (Then finalizer End)))) before =
      span_behind names symbol block (span_behind names symbol body before)
  span_behind names symbol (Node at word.Labeled (Then (Said label) (Then body End))) before = span_behind names symbol body before
  span_behind names symbol statement before = before

  -- As `span_behind`, for statements in a row.
  pub span_behind_all : Names → (symbol : ℕ) → (statements : Pieces) → (before : Span) → Span
  span_behind_all names symbol End before = before
  span_behind_all names symbol (Then statement statements) before =
      span_behind_all names symbol statements (span_behind names symbol statement before)

  -- As `span_behind`, for the cases of a `switch`, from the last to the first.
  pub span_behind_cases : Names → (symbol : ℕ) → (cases : Pieces) → (before : Span) → Span
  span_behind_cases names symbol (Then (Node at word.Case (Then condition (Then (Listed statements) End))) cases) before =
      span_behind_all names symbol statements (span_behind_cases names symbol cases before)
  span_behind_cases names symbol _ before = before

-- As `span_behind`, for a body.
abbrev pub span_behind_body : Names → (symbol : ℕ) → (body : Syntax) → (before : Span) → Span
span_behind_body names symbol (Node at word.Body (Then directives (Then (Listed statements) End))) before =
    span_behind_all names symbol statements before
span_behind_body names symbol body before = before
