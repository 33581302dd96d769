-- The rows of refusals by node: the nodes of a tree that are refused, and their diagnostics.
use Rattle.std.specs.Prelude.{◌≡◌, ℕ, Bool, true, false, not, if◌then◌else◌, None, unwrap_or, List, [], ◌∷◌, ◌++◌, codes}
use Rattle.std.specs.Str.{bytes_eq}
use Rattle.rl_base.specs.Diagnostics.{diagnostic_at}
use Rattle.rl_base.specs.declared.diagnostic.Diagnostic.{Diagnostic}
use Rattle.rl_base.specs.declared.row.Row.{Row}
use Rattle.rl_base.specs.declared.row.Row.TheVariants as row
use Rattle.rl_base.specs.declared.ids.SymbolId.{SymbolId}
use Rattle.rl_base.specs.declared.span.Span.{Span}
use Rattle.rl_text.specs.Numeral.{is_numeral}
use Rattle.rl_syntax.specs.declared.word.Word.{Word}
use Rattle.rl_syntax.specs.declared.word.Word.TheVariants as word
use Rattle.rl_syntax.specs.Syntax.{Syntax, Node, Listed, Said, Flag, Absent, Pieces, End, Then, span_of}
use Rattle.rl_hir.specs.declared.instruction.NonLocalBinding.{NonLocalBinding}
use Rattle.rl_hir.specs.declared.instruction.NonLocalBinding.TheVariants as binding
use Rattle.rl_names.specs.Functions.{body_in, params_in}
use Rattle.rl_names.specs.Names.{Names}
use Rattle.rl_promises.specs.Chains.{Below, Off, Spine, Top, below_link}
use Rattle.rl_promises.specs.Moved.{said_of_moved}
use Rattle.rl_promises.specs.Outs.{is_known_key, is_lost_delete, is_lost_head, is_wrapped}
use Rattle.rl_promises.specs.Patterns.{is_ahead, is_forced, is_lost_item, is_pattern, local_at, lost_rest, said_of_key, target_under}
use Rattle.rl_promises.specs.Stops.{has_using, stop_of}
use Rattle.rl_names.specs.declared.names.Meaning.{Meaning}
use Rattle.rl_names.specs.declared.names.Meaning.TheVariants.{Local, Outer}
use Rattle.rl_model.specs.Patterns.{is_turn}
use Rattle.rl_model.specs.Shapes.{are_raw, is_absent, is_logical, is_plain_rest}
use Rattle.rl_rules.specs.Chains.{has_optional}
use Rattle.rl_semantic.specs.Items.{of_item}

-- The text is the given word.
abbrev pub is_text : List ℕ → List ℕ → Bool
is_text word text = bytes_eq text word

-- The diagnostic of a row without a word.
abbrev pub refusal : Row → Span → Diagnostic
refusal r label = diagnostic_at r [] label

-- The diagnostics of a local variable by its name: F40 of `fbt`.
abbrev pub said_of_local : (name : List ℕ) → (label : Span) → List Diagnostic
said_of_local name label = if is_text (codes "fbt") name then refusal row.F40 label ∷ [] else []

-- The label of F40 at a node with the span `at`: the declaration identifier of its symbol, where it has one.
abbrev pub label_of : Names → (symbol : SymbolId) → (at : Span) → Span
label_of names symbol at = unwrap_or (names.declaration symbol.0) at

-- True of the global `eval`.
abbrev pub is_eval : NonLocalBinding → Bool
is_eval (binding.Global name) = is_text (codes "eval") name
is_eval _ = false

-- The diagnostics of a name that is read and is no local: F2 of the global `eval`.
abbrev pub said_of_outer : NonLocalBinding → (label : Span) → List Diagnostic
said_of_outer b label = if is_eval b then refusal row.F2 label ∷ [] else []

-- The diagnostics of a name that is read.
abbrev pub said_of_name : Names → Meaning → (label : Span) → List Diagnostic
said_of_name names (Local symbol) label = said_of_local (names.name symbol.0) (label_of names symbol label)
said_of_name names (Outer binding) label = said_of_outer binding label

-- The row of an update of a name that is no local: F20 of a global, F21 of another.
abbrev pub row_of_update : NonLocalBinding → Row
row_of_update (binding.Global name) = row.F20
row_of_update _ = row.F21

-- The diagnostics of an update, at `at`, of a name at `there`: a local is resolved, and again where it is read. A constant is not read
-- (row F6).
abbrev pub said_of_update : Names → (at there : Span) → Meaning → List Diagnostic
said_of_update names at there (Local symbol) =
    said_of_local (names.name symbol.0) (label_of names symbol there)
    ++ (if names.is_const symbol.0 then diagnostic_at row.F6 (names.name symbol.0) there ∷ []
    else said_of_local (names.name symbol.0) (label_of names symbol there))
said_of_update names at there (Outer b) = refusal (row_of_update b) at ∷ []

-- The diagnostics of an update at `at` by its target, which has `inside` by itself: F22 of a wrapped target.
abbrev pub said_of_target : Names → (at : Span) → (target : Syntax) → (inside : List Diagnostic) → List Diagnostic
said_of_target names at (Node there word.Id (Then (Said name) End)) inside =
    said_of_update names at there.span (names.meaning there.reference.0 name)
said_of_target names at target inside = if is_wrapped target then refusal row.F22 at ∷ [] else inside

-- The diagnostics of a node by itself.
abbrev pub said_of : Names → Syntax → List Diagnostic
said_of names (Node at word.Num (Then (Said text) End)) = if is_numeral text then [] else refusal row.F43 at.span ∷ []
said_of names (Node at word.Id (Then (Said name) End)) = said_of_name names (names.meaning at.reference.0 name) at.span
said_of names (Node at word.Bind (Then (Said name) type)) =
    of_item [] (λ symbol. said_of_local (names.name symbol.0) (label_of names symbol at.span)) (names.declared at.id.0)
said_of names (Node at word.Importcall parts) = refusal row.F4 at.span ∷ []
said_of names (Node at word.Privatein parts) = refusal row.F5 at.span ∷ []
said_of names (Node at word.Yield parts) = refusal row.F14 at.span ∷ []
said_of names (Node at word.Newtarget parts) = refusal row.F15 at.span ∷ []
said_of names (Node at word.Super parts) = refusal row.F17 at.span ∷ []
said_of names (Node at word.This parts) = refusal row.F18 at.span ∷ []
said_of names (Node at word.Bigint parts) = refusal row.F42 at.span ∷ []
said_of names _ = []

-- The diagnostics of a name at `at` that an assignment or the head of a loop stores to: a local is resolved, and none that is constant
-- (row F6). Any other is stored as a global.
abbrev pub said_of_stored : Names → (at : Span) → Meaning → List Diagnostic
said_of_stored names at (Local symbol) =
    said_of_local (names.name symbol.0) (label_of names symbol at)
    ++ (if names.is_const symbol.0 then diagnostic_at row.F6 (names.name symbol.0) at ∷ [] else [])
said_of_stored names at (Outer b) = []

-- The diagnostics of the target of an assignment at `at` with the operator `=`, behind those of its value: a name is stored to, and a
-- private name is met behind its object (row F5), whose diagnostics are `inside`.
abbrev pub said_of_assigned : Names → (at : Span) → (target : Syntax) → (inside : List Diagnostic) → List Diagnostic
said_of_assigned names at (Node there word.Id (Then (Said name) End)) inside =
    said_of_stored names there.span (names.meaning there.reference.0 name)
said_of_assigned names at (Node there word.Privatemember parts) inside = inside ++ refusal row.F5 at ∷ []
said_of_assigned names at target inside = inside

-- The diagnostics of the target of a compound assignment, behind those of its parts: a name, which was read, is stored to.
abbrev pub said_of_updated : Names → (target : Syntax) → List Diagnostic
said_of_updated names (Node there word.Id (Then (Said name) End)) = said_of_stored names there.span (names.meaning there.reference.0 name)
said_of_updated names target = []

-- The diagnostics of the names of a target that are looked at before anything of it is lowered, each a local variable: those in front of
-- the first item that is none.
abbrev pub said_of_items : Names → Pieces → List Diagnostic
said_of_items names End = []
said_of_items names (Then item items) =
    of_item [] (λ (symbol : SymbolId).
    said_of_local (names.name symbol.0) (label_of names symbol (span_of (target_under item))) ++ said_of_items names items)
    (local_at names (target_under item))

-- A target with a rest has no look at its names.
abbrev pub said_ahead : Names → (items : Pieces) → (rest : Syntax) → List Diagnostic
said_ahead names items rest = if is_absent rest then said_of_items names items else []

-- The diagnostics of the rest of an object pattern by itself: F10 where it is no plain name.
abbrev pub said_of_rest : Syntax → List Diagnostic
said_of_rest rest = if is_plain_rest rest then [] else lost_rest rest ∷ []

-- The diagnostics of a `!` at `at` around an expression: F44 below a link of a chain, where the expression has an optional link on its own
-- spine.
abbrev pub said_of_assertion : Spine → (at : Span) → (expression : Syntax) → List Diagnostic
said_of_assertion Below at expression = if has_optional expression then refusal row.F44 at ∷ [] else []
said_of_assertion place at expression = []

-- The row of a target that is left out in the head of a loop: F11 of a private property, F45 of a target under a wrapper.
abbrev pub row_of_head : Word → Row
row_of_head word.Privatemember = row.F11
row_of_head w = row.F45

-- The diagnostics of a `for` loop at `at` by its head: F31 where an expression stands in front, F32 where the test is absent.

abbrev pub said_of_init : (at : Span) → (init : Syntax) → List Diagnostic
said_of_init at Absent = []
said_of_init at (Node there word.Var parts) = []
said_of_init at init = refusal row.F31 at ∷ []

abbrev pub said_of_test : (at : Span) → (condition : Syntax) → List Diagnostic
said_of_test at Absent = refusal row.F32 at ∷ []
said_of_test at condition = []

abbrev mutual
  -- The diagnostics of a tree without statements in it, on the spine of a chain or off it, in the order in which the lowering meets the
  -- nodes: a node by itself, and then its parts from left to right. Branches are lowered before the test that leads to them, a variable is
  -- declared behind its initializer, the value of `=` comes before its target, and a private name is met behind its object. A logical
  -- assignment is left out (row F23), and a compound one to a pattern (row F24). In a binding pattern names come first, and then the other
  -- items; a default comes before what takes the value. Types, the argument of a `yield`, and what a row leaves out are not lowered.
  pub refusals_by : Names → Spine → Syntax → List Diagnostic
  refusals_by names place (Node at word.Cond (Then condition (Then consequent (Then alternate End)))) =
      refusals_by names Off consequent ++ refusals_by names Off alternate ++ refusals_by names Off condition
  refusals_by names place (Node at word.Logical (Then operator (Then left (Then right End)))) =
      refusals_by names Off right ++ refusals_by names Off left
  refusals_by names place (Node at word.Var (Then (Said kind) (Then declarators End))) =
      (if bytes_eq kind (codes "var") then refusal row.F39 at.span ∷ [] else []) ++ refusals_by names Off declarators
  refusals_by names place (Node at word.Declarator (Then pattern (Then init End))) =
      refusals_by names Off init ++ refusals_by names Off pattern
  refusals_by names place (Node at word.Param (Then pattern (Then default End))) =
      said_of_moved names default ++ refusals_by names Off default ++ refusals_by names Off pattern
  refusals_by names place (Node at word.Defaultpat (Then pattern (Then default End))) =
      said_of_moved names default ++ refusals_by names Off default ++ refusals_by names Off pattern
  refusals_by names place (Node at word.Keyedpat (Then computed (Then key (Then pattern End)))) =
      if is_lost_item (Node at word.Keyedpat (Then computed (Then key (Then pattern End)))) then [] else refusals_by names Off pattern
  refusals_by names place (Node at word.Arraypat (Then (Listed items) (Then rest End))) =
      refusals_in_round names true items ++ (if is_ahead rest then refusals_by names Off rest else [])
      ++ refusals_in_round names false items ++ (if is_ahead rest then [] else refusals_by names Off rest)
  refusals_by names place (Node at word.Objectpat (Then (Listed properties) (Then rest End))) =
      refusals_in_round names true properties ++ (if is_plain_rest rest then refusals_by names Off rest else lost_rest rest ∷ [])
      ++ refusals_in_round names false properties
  refusals_by names place (Node at word.Type parts) = []
  refusals_by names place (Node at word.Instantiate (Then expression types)) = refusals_by names Off expression
  refusals_by names place (Node at word.Yield parts) = said_of names (Node at word.Yield parts)
  refusals_by names place (Node at word.Privatemember (Then optional (Then object name))) =
      refusals_by names (below_link place) object ++ refusal row.F3 at.span ∷ []
  refusals_by names place (Node at word.Member (Then optional (Then object rest))) =
      refusals_by names Off optional ++ refusals_by names (below_link place) object ++ refusals_in names rest
  refusals_by names place (Node at word.Index (Then optional (Then object rest))) =
      refusals_by names Off optional ++ refusals_by names (below_link place) object ++ refusals_in names rest
  refusals_by names place (Node at word.Call (Then optional (Then callee rest))) =
      refusals_by names Off optional ++ refusals_by names (below_link place) callee ++ refusals_in names rest
  refusals_by names place (Node at word.Nonnull (Then expression rest)) =
      said_of_assertion place at.span expression ++ refusals_by names place expression ++ refusals_in names rest
  refusals_by names place (Node at word.Chain (Then expression rest)) = refusals_by names Top expression ++ refusals_in names rest
  refusals_by names place (Node at word.Unary (Then (Said operator) (Then argument End))) =
      if is_lost_delete operator argument then refusal row.F12 at.span ∷ [] else refusals_by names Off argument
  refusals_by names place (Node at word.Update (Then operator (Then prefix (Then target End)))) =
      said_of_target names at.span target (refusals_by names Off target)
  refusals_by names place (Node at word.Assign (Then (Said operator) (Then target (Then right End)))) =
      if bytes_eq operator (codes "=")
      then refusals_by names Off right
      ++ (if is_pattern target then refusals_to names target else said_of_assigned names at.span target (refusals_below names target))
      else if is_logical operator then refusal row.F23 at.span ∷ []
      else if is_pattern target then refusal row.F24 at.span ∷ []
      else refusals_by names Off target ++ refusals_by names Off right ++ said_of_updated names target
  refusals_by names place
      (Node at word.Tagged (Then tag (Then (Node there word.Template (Then (Listed quasis) (Then (Listed expressions) End))) End))) =
      if are_raw quasis then refusals_by names Off tag ++ refusals_in names expressions else refusal row.F13 at.span ∷ []
  refusals_by names place (Node at word.Prop (Then (Flag computed) (Then key (Then expression End)))) =
      if is_known_key computed key then refusals_by names Off key ++ refusals_by names Off expression
      else refusal row.F9 (span_of key) ∷ []
  refusals_by names place (Node at word parts) = said_of names (Node at word parts) ++ refusals_in names parts
  refusals_by names place (Listed parts) = refusals_in names parts
  refusals_by names place _ = []

  -- As `refusals`, for parts in a row.
  pub refusals_in : Names → Pieces → List Diagnostic
  refusals_in names End = []
  refusals_in names (Then piece pieces) = refusals_by names Off piece ++ refusals_in names pieces

  -- As `refusals_in`, for the items of a binding pattern. Where `ahead` is true these are the keys and the names, else the other items.
  pub refusals_in_round : Names → (ahead : Bool) → Pieces → List Diagnostic
  refusals_in_round names ahead End = []
  refusals_in_round names ahead (Then item items) =
      (if ahead then said_of_key item else []) ++ (if is_turn ahead (is_ahead item) then refusals_by names Off item else [])
      ++ refusals_in_round names ahead items

  -- As `refusals`, for a target that takes a piece of a value, in a pattern. Of a private property (row F11) and of a target under a
  -- wrapper (row F45) nothing is lowered.
  pub refusals_to : Names → Syntax → List Diagnostic
  refusals_to names (Node at word.Id (Then (Said name) End)) = said_of_stored names at.span (names.meaning at.reference.0 name)
  refusals_to names (Node at word.Member parts) = refusals_in names parts
  refusals_to names (Node at word.Index parts) = refusals_in names parts
  refusals_to names (Node at word.Privatemember parts) = refusal row.F11 at.span ∷ []
  refusals_to names (Node at word.Default (Then target (Then default End))) =
      said_of_moved names default ++ refusals_by names Off default ++ refusals_to names target
  refusals_to names (Node at word.Short (Then target (Then default End))) =
      said_of_moved names default ++ refusals_by names Off default ++ refusals_to names target
  refusals_to names (Node at word.Keyed (Then computed (Then key (Then target End)))) =
      if is_lost_item (Node at word.Keyed (Then computed (Then key (Then target End)))) then [] else refusals_to names target
  refusals_to names (Node at word.Rest (Then target End)) = refusals_to names target
  refusals_to names (Node at word.Hole parts) = []
  refusals_to names (Node at word.Arraytarget (Then (Listed items) (Then rest End))) =
      said_ahead names items rest ++ refusals_to_round names (is_forced names items rest) true items
      ++ refusals_to_round names (is_forced names items rest) false items ++ refusals_to names rest
  refusals_to names (Node at word.Objecttarget (Then (Listed properties) (Then rest End))) =
      said_ahead names properties rest ++ refusals_to_round names (is_forced names properties rest) true properties
      ++ said_of_rest rest ++ refusals_to_round names (is_forced names properties rest) false properties
      ++ (if is_plain_rest rest then refusals_to names rest else [])
  refusals_to names (Node at w parts) = refusal row.F45 at.span ∷ []
  refusals_to names _ = []

  -- As `refusals_to`, for the items of a target. Where `ahead` is true these are the keys, and the items too unless they take their pieces
  -- from temporaries; else the items that do.
  pub refusals_to_round : Names → (forced ahead : Bool) → Pieces → List Diagnostic
  refusals_to_round names forced ahead End = []
  refusals_to_round names forced ahead (Then item items) =
      (if ahead then said_of_key item else []) ++ (if is_turn ahead (not forced) then refusals_to names item else [])
      ++ refusals_to_round names forced ahead items

  -- As `refusals`, for the parts of a node.
  pub refusals_below : Names → Syntax → List Diagnostic
  refusals_below names (Node at word parts) = refusals_in names parts
  refusals_below names _ = []

-- As `refusals_by`, for a tree that stands off the spine of a chain.
abbrev pub refusals : Names → Syntax → List Diagnostic
refusals names tree = refusals_by names Off tree

-- As `refusals`, for the head of a `for`-`in` or `for`-`of` loop, which may declare by `var`.
abbrev pub refusals_at_head : Names → Syntax → List Diagnostic
refusals_at_head names (Node at word.Id (Then (Said name) End)) = said_of_stored names at.span (names.meaning at.reference.0 name)
refusals_at_head names (Node at w parts) =
    if is_lost_head (Node at w parts) then refusal (row_of_head w) at.span ∷ []
    else if is_pattern (Node at w parts) then refusals_to names (Node at w parts) else refusals_in names parts
refusals_at_head names _ = []

-- The diagnostics of a `throw` at `at`: F30 in the block of a `try`.
abbrev pub said_of_throw : (tried : Bool) → (at : Span) → List Diagnostic
said_of_throw tried at = if tried then refusal row.F30 at ∷ [] else []

-- The diagnostics of a `try` at `at` by its finalizer, which is left out: F35.
abbrev pub said_of_finalizer : (at : Span) → (finalizer : Syntax) → List Diagnostic
said_of_finalizer at finalizer = if is_absent finalizer then [] else refusal row.F35 at ∷ []

abbrev mutual
  -- As `refusals`, for a statement; `tried` is true of one in the block of a `try`. Blocks of branches and bodies of loops are lowered
  -- before the test that leads to them, the cases of a `switch` from the last to the first, each before its test, and a `catch` before
  -- the block.
  pub refusals_at : Names → (tried : Bool) → Syntax → List Diagnostic
  refusals_at names tried (Node at word.Throw (Then argument End)) = refusals names argument ++ said_of_throw tried at.span
  refusals_at names tried (Node at word.Block (Then (Listed statements) End)) = refusals_among names tried statements
  refusals_at names tried (Node at word.If (Then condition (Then consequent (Then alternate End)))) =
      refusals_at names tried consequent ++ refusals_at names tried alternate ++ refusals names condition
  refusals_at names tried (Node at word.While (Then condition (Then body End))) = refusals_at names tried body ++ refusals names condition
  refusals_at names tried (Node at word.Dowhile (Then body (Then condition End))) = refusals_at names tried body ++ refusals names condition
  refusals_at names tried (Node at word.For (Then init (Then condition (Then update (Then body End))))) =
      said_of_init at.span init ++ refusals names init ++ refusals names update ++ refusals_at names tried body
      ++ said_of_test at.span condition ++ refusals names condition
  refusals_at names tried (Node at word.Forin (Then head (Then right (Then body End)))) =
      refusals_at names tried body ++ refusals names right ++ refusals_at_head names head
  refusals_at names tried (Node at word.Forof (Then (Flag is_await) (Then head (Then right (Then body End))))) =
      if is_await then refusal row.F33 at.span ∷ []
      else refusals_at names tried body ++ refusals names right ++ refusals_at_head names head
  refusals_at names tried (Node at word.Switch (Then discriminant (Then (Listed cases) End))) =
      refusals_in_cases names tried cases ++ refusals names discriminant
  refusals_at names tried
      (Node at word.Try (Then block (Then (Node there word.Catch (Then param (Then body End))) (Then finalizer End)))) =
      said_of_finalizer at.span finalizer ++ refusals names param ++ refusals_at names tried body ++ refusals_at names true block
  refusals_at names tried (Node at word.Try parts) = refusal row.F34 at.span ∷ []
  refusals_at names tried (Node at word.With parts) = refusal row.F36 at.span ∷ []
  refusals_at names tried (Node at word.Labeled (Then label (Then body End))) = refusals_at names tried body
  refusals_at names tried statement = refusals names statement

  -- As `refusals_at`, for statements in a row.
  pub refusals_among : Names → (tried : Bool) → Pieces → List Diagnostic
  refusals_among names tried End = []
  refusals_among names tried (Then statement statements) = refusals_at names tried statement ++ refusals_among names tried statements

  -- As `refusals_at`, for a case of a `switch`.
  pub refusals_in_case : Names → (tried : Bool) → Syntax → List Diagnostic
  refusals_in_case names tried (Node at word.Case (Then condition (Then (Listed statements) End))) =
      refusals_among names tried statements ++ said_of_moved names condition ++ refusals names condition
  refusals_in_case names tried case = refusals names case

  -- As `refusals_in_case`, for cases in a row, from the last to the first.
  pub refusals_in_cases : Names → (tried : Bool) → Pieces → List Diagnostic
  refusals_in_cases names tried End = []
  refusals_in_cases names tried (Then case cases) = refusals_in_cases names tried cases ++ refusals_in_case names tried case

-- As `refusals`, for a body.
abbrev pub refusals_in_body : Names → Syntax → List Diagnostic
refusals_in_body names (Node at word.Body (Then directives (Then (Listed statements) End))) = refusals_among names false statements
refusals_in_body names body = refusals names body

-- The refusals of a function: those of its parameters and of its body.
abbrev pub refusals_of : Names → Syntax → List Diagnostic
refusals_of names function = refusals names (params_in function) ++ refusals_in_body names (body_in function)

-- The diagnostics that are recorded for a tree are those of `refusals` in their order, but that some of row F40 may lack: the lowering
-- refuses a variable `fbt` that got another name where it is resolved first, and not again.
pub data IsTold : (all told : List Diagnostic) → Type 0 where
  Nothing : IsTold [] []
  Told : {all told : List Diagnostic} (d : Diagnostic) → IsTold all told → IsTold (d ∷ all) (d ∷ told)
  Renamed : {all told : List Diagnostic} (d : Diagnostic) → d.row ≡ row.F40 → IsTold all told → IsTold (d ∷ all) told

-- `new` has the diagnostics `old`, and behind them those that are recorded for a tree with the refusals `all`. If there is no diagnostic
-- then, the tree has no refusals.
pub record Records (all old new : List Diagnostic) : Type 0 where
  pub told : List Diagnostic
  pub is : new ≡ old ++ told
  pub kept : IsTold all told
  pub none : new ≡ [] → all ≡ []

-- No row applies to a function.
pub record IsSupported (names : Names) (function : Syntax) : Type 0 where
  pub goes_on : stop_of names function ≡ None
  pub accepted : refusals_of names function ≡ []
  pub unskipped : has_using (body_in function) ≡ false
