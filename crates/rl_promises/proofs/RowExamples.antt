-- The rows, the covered nodes, the live nodes and the fields of functions, each kind of node tried once.
use Rattle.std.proofs.Common.{◌≡◌, ℕ, Bool, true, false, Option, Some, None, List, [], ◌∷◌, codes, refl}
use Rattle.std.specs.Fmt.{digits}
use Rattle.rl_base.specs.Diagnostics.{diagnostic_at}
use Rattle.rl_base.specs.declared.diagnostic.Diagnostic.{Diagnostic}
use Rattle.rl_base.specs.declared.row.Row.TheVariants as row
use Rattle.rl_model.proofs.ExampleUnits.{arrow, body, called, function, name, node, params, span, unit, unit_of}
use Rattle.rl_promises.specs.Covered.{pending}
use Rattle.rl_promises.specs.Fields.{directives_in}
use Rattle.rl_promises.specs.Live.{Held, held_in, live_in_body}
use Rattle.rl_promises.specs.Tallies.{tallied}
use Rattle.rl_model.specs.Counted.{Counted}
use Rattle.rl_promises.specs.Rows.{refusal, refusals_of}
use Rattle.rl_promises.specs.Stops.{has_using, stop_of}
use Rattle.rl_model.specs.Marked.{marked}
use Rattle.rl_model.specs.Source.{is_orderly}
use Rattle.rl_model.specs.Units.{names_of}
use Rattle.rl_names.specs.Functions.{async_in, body_in, generator_in, name_in}
use Rattle.rl_syntax.specs.Syntax.{Syntax, Listed, Said, Flag, Absent, End, pieces_of}
use Rattle.rl_syntax.specs.declared.word.Word.{Word}
use Rattle.rl_syntax.specs.declared.word.Word.TheVariants as word

-- The refusals and the stop of the marked function of a unit.

abbrev refusals_in : Syntax → List Diagnostic
refusals_in u = refusals_of (names_of u) (marked u)

abbrev stop_in : Syntax → Option Diagnostic
stop_in u = stop_of (names_of u) (marked u)

-- Stops: S2 comes before S1, which names the first; a unit that goes on meets neither.
this_first : stop_in (unit_of (function (codes "class" ∷ codes "this" ∷ []) []))
    ≡ Some (record { row = row.S2; word = codes "this"; labels = span 6 ∷ [] })
this_first = refl

reserved_first : stop_in (unit_of (function (codes "a" ∷ codes "enum" ∷ codes "class" ∷ []) []))
    ≡ Some (record { row = row.S1; word = codes "enum"; labels = span 6 ∷ [] })
reserved_first = refl

-- A variable of the body stops the lowering too, but not in what a row leaves out: the argument of a `yield`.
abbrev declared_as : (kind name : List ℕ) → (init : Syntax) → Syntax
declared_as kind name init =
    node 11 word.Var (Said kind
    ∷ Listed (pieces_of (node 12 word.Declarator (node 13 word.Bind (Said name ∷ Absent ∷ []) ∷ init ∷ []) ∷ [])) ∷ [])

reserved_in_body : stop_in (unit_of (function [] (declared_as (codes "let") (codes "enum") Absent ∷ [])))
    ≡ Some (record { row = row.S1; word = codes "enum"; labels = span 13 ∷ [] })
reserved_in_body = refl

goes_on : stop_in (unit_of (function (codes "eval" ∷ codes "fbt" ∷ []) [])) ≡ None
goes_on = refl

-- Each read of the global `eval` is refused, and none of a parameter `eval`.
global_eval : refusals_in (unit_of (function (codes "x" ∷ []) (
    node 11 word.Expr (name 12 (codes "eval") ∷ []) ∷ node 13 word.Return (name 14 (codes "eval") ∷ []) ∷ [])))
    ≡ refusal row.F2 (span 12) ∷ refusal row.F2 (span 14) ∷ []
global_eval = refl

local_eval : refusals_in (unit_of (function (codes "eval" ∷ []) (node 11 word.Return (name 12 (codes "eval") ∷ []) ∷ []))) ≡ []
local_eval = refl

-- A parameter `fbt` is refused where it stands and at each read, always with its own span; the global `fbt` is not.
local_fbt : refusals_in (unit_of (function (codes "fbt" ∷ []) (node 11 word.Return (name 12 (codes "fbt") ∷ []) ∷ [])))
    ≡ refusal row.F40 (span 6) ∷ refusal row.F40 (span 6) ∷ []
local_fbt = refl

global_fbt : refusals_in (unit_of (arrow [] (name 11 (codes "fbt")))) ≡ []
global_fbt = refl

-- A number that is no numeral is refused, also behind a return, where it never runs. The order is that of the nodes.
no_numerals : refusals_in (unit_of (function [] (
    node 11 word.Return (node 12 word.Binary (
    Said (codes "+") ∷ node 13 word.Num (Said (codes "1.5") ∷ []) ∷ node 14 word.Num (Said (codes "2") ∷ []) ∷ []) ∷ [])
    ∷ node 15 word.Expr (node 16 word.Paren (node 17 word.Num (Said (codes "1e3") ∷ []) ∷ []) ∷ []) ∷ [])))
    ≡ refusal row.F43 (span 13) ∷ refusal row.F43 (span 17) ∷ []
unfolding digits
no_numerals = refl

-- The statements that an `if` chooses from come before its test, and so do the values of a conditional expression; of a logical operation
-- the right part comes first. A number that is a key is refused as all others.
abbrev wrong : Syntax → Syntax → Syntax → Syntax
wrong one other more = unit_of (function [] (one ∷ other ∷ more ∷ []))

abbrev number : (start : ℕ) → Syntax
number start = node start word.Num (Said (codes "1.5") ∷ [])

branches_first : refusals_in (wrong
    (node 11 word.If (number 12 ∷ node 13 word.Expr (number 14 ∷ []) ∷ node 15 word.Expr (number 16 ∷ []) ∷ []))
    (node 17 word.Expr (node 18 word.Cond (number 19 ∷ number 20 ∷ number 21 ∷ []) ∷ []))
    (node 22 word.Expr (node 23 word.Logical (
    Said (codes "&&") ∷ number 24 ∷ node 25 word.Index (Flag false ∷ number 26 ∷ number 27 ∷ []) ∷ []) ∷ [])))
    ≡ refusal row.F43 (span 14) ∷ refusal row.F43 (span 16) ∷ refusal row.F43 (span 12)
    ∷ refusal row.F43 (span 20) ∷ refusal row.F43 (span 21) ∷ refusal row.F43 (span 19)
    ∷ refusal row.F43 (span 26) ∷ refusal row.F43 (span 27) ∷ refusal row.F43 (span 24) ∷ []
unfolding digits
branches_first = refl

-- Other literals are not refused.
literals : refusals_in (unit_of (arrow [] (called 11 (node 12 word.Null []) (
    node 13 word.Bool (Flag false ∷ []) ∷ node 14 word.Str (Said (codes "eval") ∷ []) ∷ []))))
    ≡ []
literals = refl

-- The refusals of a function that returns an expression.
abbrev refusals_at : Syntax → List Diagnostic
refusals_at e = refusals_in (unit_of (arrow [] e))

-- Kinds that are refused by themselves: `this.#b` behind its object, `import(eval)` and `#b in eval` in front of theirs, `yield eval`
-- without its argument, `new.target`, `super` and `1n`.
private_member : refusals_at (node 11 word.Privatemember (Flag false ∷ node 12 word.This [] ∷ Said (codes "b") ∷ []))
    ≡ refusal row.F18 (span 12) ∷ refusal row.F3 (span 11) ∷ []
private_member = refl

import_call : refusals_at (node 11 word.Importcall (name 12 (codes "eval") ∷ Absent ∷ []))
    ≡ refusal row.F4 (span 11) ∷ refusal row.F2 (span 12) ∷ []
import_call = refl

private_in : refusals_at (node 11 word.Privatein (Said (codes "b") ∷ name 12 (codes "eval") ∷ []))
    ≡ refusal row.F5 (span 11) ∷ refusal row.F2 (span 12) ∷ []
private_in = refl

yielding : refusals_at (node 11 word.Yield (Flag false ∷ name 12 (codes "eval") ∷ [])) ≡ refusal row.F14 (span 11) ∷ []
yielding = refl

three_words : refusals_at (node 11 word.Seq (Listed (pieces_of (
    node 12 word.Newtarget [] ∷ node 13 word.Super [] ∷ node 14 word.Bigint (Said (codes "1") ∷ []) ∷ [])) ∷ []))
    ≡ refusal row.F15 (span 12) ∷ refusal row.F17 (span 13) ∷ refusal row.F42 (span 14) ∷ []
three_words = refl

-- A `delete` of a name is refused without its argument, that of a property is not: `delete eval`, and `delete (eval.a)`.
abbrev deleted : (argument : Syntax) → Syntax
deleted argument = node 11 word.Unary (Said (codes "delete") ∷ argument ∷ [])

abbrev property_of : (start : ℕ) → (object : Syntax) → Syntax
property_of start object = node start word.Member (Flag false ∷ object ∷ Said (codes "a") ∷ [])

lost_delete : refusals_at (deleted (name 12 (codes "eval"))) ≡ refusal row.F12 (span 11) ∷ []
lost_delete = refl

kept_delete : refusals_at (deleted (node 12 word.Paren (property_of 13 (name 14 (codes "eval")) ∷ []))) ≡ refusal row.F2 (span 14) ∷ []
kept_delete = refl

-- A tagged template whose text is not cooked as it is written is refused without its parts.
abbrev tagged_with : (raw cooked : List ℕ) → Syntax
tagged_with raw cooked =
    node 11 word.Tagged (name 12 (codes "eval")
    ∷ node 13 word.Template (Listed (pieces_of (node 14 word.Quasi (Said raw ∷ Said cooked ∷ []) ∷ [])) ∷ Listed End ∷ []) ∷ [])

cooked_tag : refusals_at (tagged_with (codes "a") (codes "b")) ≡ refusal row.F13 (span 11) ∷ []
cooked_tag = refl

raw_tag : refusals_at (tagged_with (codes "a") (codes "a")) ≡ refusal row.F2 (span 12) ∷ []
raw_tag = refl

-- Keys of properties: one with a private name is refused without its value, and one that is no numeral in front of it.
abbrev object_of : (computed : Bool) → (key : Syntax) → Syntax
object_of computed key =
    node 11 word.Object (Listed (pieces_of (node 12 word.Prop (Flag computed ∷ key ∷ name 16 (codes "eval") ∷ []) ∷ [])) ∷ [])

private_key : refusals_at (object_of false (node 13 word.Private (Said (codes "a") ∷ []))) ≡ refusal row.F9 (span 13) ∷ []
private_key = refl

fraction_key : refusals_at (object_of false (number 13)) ≡ refusal row.F43 (span 13) ∷ refusal row.F2 (span 16) ∷ []
unfolding digits
fraction_key = refl

name_key : refusals_at (object_of false (node 13 word.Name (Said (codes "eval") ∷ []))) ≡ refusal row.F2 (span 16) ∷ []
name_key = refl

computed_key : refusals_at (object_of true (name 13 (codes "eval"))) ≡ refusal row.F2 (span 13) ∷ refusal row.F2 (span 16) ∷ []
computed_key = refl

-- Types are not lowered: `(eval as T)`, `<T>eval` and `eval<T>`, where `T` is named `eval`.
abbrev named_type : Syntax
named_type = node 15 word.Type (Said (codes "other") ∷ Listed (pieces_of (name 16 (codes "eval") ∷ [])) ∷ [])

types_free : refusals_at (node 11 word.Seq (Listed (pieces_of (
    node 12 word.As (node 13 word.Null [] ∷ named_type ∷ [])
    ∷ node 12 word.Satisfies (node 13 word.Null [] ∷ named_type ∷ [])
    ∷ node 12 word.Assert (named_type ∷ node 13 word.Null [] ∷ [])
    ∷ node 12 word.Instantiate (node 13 word.Null [] ∷ Listed (pieces_of (name 16 (codes "eval") ∷ [])) ∷ []) ∷ [])) ∷ []))
    ≡ []
types_free = refl

-- `var` is refused in front of its declarators, each behind its initializer.
var_first : refusals_in (unit_of (function [] (declared_as (codes "var") (codes "fbt") (name 14 (codes "eval")) ∷ [])))
    ≡ refusal row.F39 (span 11) ∷ refusal row.F2 (span 14) ∷ refusal row.F40 (span 13) ∷ []
var_first = refl

let_free : refusals_in (unit_of (function [] (declared_as (codes "let") (codes "a") (node 14 word.Null []) ∷ []))) ≡ []
let_free = refl

-- Updates: of a constant, of a variable, of one named `fbt`, of a global, of a name of the module, of a property, and of a wrapped target.
abbrev updated : (target : Syntax) → Syntax
updated target = node 17 word.Update (Said (codes "++") ∷ Flag true ∷ target ∷ [])

abbrev updates : (kind declared : List ℕ) → (target : Syntax) → List Diagnostic
updates kind declared target =
    refusals_in (unit_of (function [] (declared_as kind declared (node 14 word.Null []) ∷ node 16 word.Expr (updated target ∷ []) ∷ [])))

constant_updated : updates (codes "const") (codes "a") (name 18 (codes "a")) ≡ diagnostic_at row.F6 (codes "a") (span 18) ∷ []
constant_updated = refl

variable_updated : updates (codes "let") (codes "a") (name 18 (codes "a")) ≡ []
variable_updated = refl

fbt_updated : updates (codes "let") (codes "fbt") (name 18 (codes "fbt"))
    ≡ refusal row.F40 (span 13) ∷ refusal row.F40 (span 13) ∷ refusal row.F40 (span 13) ∷ []
fbt_updated = refl

global_updated : updates (codes "let") (codes "a") (name 18 (codes "b")) ≡ refusal row.F20 (span 17) ∷ []
global_updated = refl

property_updated : updates (codes "let") (codes "a") (property_of 18 (node 19 word.This [])) ≡ refusal row.F18 (span 19) ∷ []
property_updated = refl

wrapped_updated : updates (codes "let") (codes "a") (node 18 word.Nonnull (node 19 word.This [] ∷ [])) ≡ refusal row.F22 (span 17) ∷ []
wrapped_updated = refl

module_updated : refusals_in (unit (
    declared_as (codes "let") (codes "m") Absent
    ∷ node 20 word.Expr (arrow [] (updated (name 18 (codes "m"))) ∷ []) ∷ []))
    ≡ refusal row.F21 (span 17) ∷ []
module_updated = refl

-- Assignments: of a constant, of one named `fbt`, of a global, of properties, and of one of a private name; by a logical operator.
abbrev assigned : (operator : List ℕ) → (target right : Syntax) → Syntax
assigned operator target right = node 17 word.Assign (Said operator ∷ target ∷ right ∷ [])

abbrev private_of : (start : ℕ) → (object : Syntax) → Syntax
private_of start object = node start word.Privatemember (Flag false ∷ object ∷ Said (codes "p") ∷ [])

abbrev assigns : (kind declared operator : List ℕ) → (target : Syntax) → List Diagnostic
assigns kind declared operator target =
    refusals_in (unit_of (function [] (declared_as kind declared (node 14 word.Null [])
    ∷ node 16 word.Expr (assigned operator target (node 30 word.This []) ∷ []) ∷ [])))

constant_assigned : assigns (codes "const") (codes "a") (codes "=") (name 18 (codes "a"))
    ≡ refusal row.F18 (span 30) ∷ diagnostic_at row.F6 (codes "a") (span 18) ∷ []
constant_assigned = refl

constant_compound : assigns (codes "const") (codes "a") (codes "+=") (name 18 (codes "a"))
    ≡ refusal row.F18 (span 30) ∷ diagnostic_at row.F6 (codes "a") (span 18) ∷ []
constant_compound = refl

fbt_assigned : assigns (codes "let") (codes "fbt") (codes "=") (name 18 (codes "fbt"))
    ≡ refusal row.F40 (span 13) ∷ refusal row.F18 (span 30) ∷ refusal row.F40 (span 13) ∷ []
fbt_assigned = refl

fbt_compound : assigns (codes "let") (codes "fbt") (codes "**=") (name 18 (codes "fbt"))
    ≡ refusal row.F40 (span 13) ∷ refusal row.F40 (span 13) ∷ refusal row.F18 (span 30) ∷ refusal row.F40 (span 13) ∷ []
fbt_compound = refl

global_assigned : assigns (codes "let") (codes "a") (codes "=") (name 18 (codes "eval")) ≡ refusal row.F18 (span 30) ∷ []
global_assigned = refl

global_compound : assigns (codes "let") (codes "a") (codes "-=") (name 18 (codes "eval"))
    ≡ refusal row.F2 (span 18) ∷ refusal row.F18 (span 30) ∷ []
global_compound = refl

property_assigned : assigns (codes "let") (codes "a") (codes "=") (property_of 18 (node 19 word.This []))
    ≡ refusal row.F18 (span 30) ∷ refusal row.F18 (span 19) ∷ []
property_assigned = refl

property_compound : assigns (codes "let") (codes "a") (codes ">>>=") (property_of 18 (node 19 word.This []))
    ≡ refusal row.F18 (span 19) ∷ refusal row.F18 (span 30) ∷ []
property_compound = refl

private_assigned : assigns (codes "let") (codes "a") (codes "=") (private_of 18 (node 19 word.This []))
    ≡ refusal row.F18 (span 30) ∷ refusal row.F18 (span 19) ∷ refusal row.F5 (span 17) ∷ []
private_assigned = refl

private_compound : assigns (codes "let") (codes "a") (codes "+=") (private_of 18 (node 19 word.This []))
    ≡ refusal row.F18 (span 19) ∷ refusal row.F3 (span 18) ∷ refusal row.F18 (span 30) ∷ []
private_compound = refl

logical_assigned : assigns (codes "let") (codes "a") (codes "??=") (private_of 18 (node 19 word.This [])) ≡ refusal row.F23 (span 17) ∷ []
logical_assigned = refl

-- A wrapped target ends the lowering before a reserved name in front of it, and behind a parameter `this`.
abbrev wraps : (parameters : List (List ℕ)) → (declared operator : List ℕ) → Option Diagnostic
wraps parameters declared operator =
    stop_in (unit_of (function parameters (declared_as (codes "let") declared (node 14 word.Null [])
    ∷ node 16 word.Expr (assigned operator (node 18 word.Nonnull (node 19 word.This [] ∷ [])) (node 30 word.Null []) ∷ []) ∷ [])))

wrapped_assigned : wraps [] (codes "class") (codes "||=") ≡ Some (diagnostic_at row.S3 (codes "TSNonNullExpression") (span 18))
wrapped_assigned = refl

wrapped_behind : wraps (codes "this" ∷ []) (codes "a") (codes "=") ≡ Some (diagnostic_at row.S2 (codes "this") (span 6))
wrapped_behind = refl

-- A declaration by `using`, for which a unit is skipped.
skipped : has_using (body_in (marked (unit_of (function [] (declared_as (codes "using") (codes "a") (node 14 word.Null []) ∷ []))))) ≡ true
skipped = refl

unskipped : has_using (body_in (marked (
    unit_of (function [] (declared_as (codes "const") (codes "a") (node 14 word.Null []) ∷ []))))) ≡ false
unskipped = refl

-- `(p) => { "use strict"; f(p, (null), true, 1 + "a"); return; }`: each covered node once.
abbrev covered_body : Syntax
covered_body = body (codes "use strict" ∷ []) (
    node 11 word.Expr (called 12 (name 13 (codes "f")) (
    name 14 (codes "p") ∷ node 15 word.Paren (node 16 word.Null [] ∷ []) ∷ node 17 word.Bool (Flag true ∷ [])
    ∷ node 18 word.Binary (
    Said (codes "+") ∷ node 19 word.Num (Said (codes "1") ∷ []) ∷ node 20 word.Str (Said (codes "a") ∷ []) ∷ []) ∷ []) ∷ [])
    ∷ node 21 word.Return (Absent ∷ []) ∷ [])

covered : pending (unit_of (arrow (codes "p" ∷ []) covered_body)) ≡ None
covered = refl

-- `(p) => { ; { p ? (-p, p!.a) : p[1] && await p; } if (p) [...p, ,] else new p(`a`, /a/g); return import.meta; }`: each node that is
-- covered besides.
abbrev expressions : Syntax
expressions = node 14 word.Cond (
    name 15 (codes "p")
    ∷ node 16 word.Seq (Listed (pieces_of (
    node 17 word.Unary (Said (codes "-") ∷ name 18 (codes "p") ∷ [])
    ∷ node 19 word.Member (Flag false ∷ node 20 word.Nonnull (name 21 (codes "p") ∷ []) ∷ Said (codes "a") ∷ []) ∷ [])) ∷ [])
    ∷ node 22 word.Logical (
    Said (codes "&&")
    ∷ node 23 word.Index (Flag false ∷ name 24 (codes "p") ∷ node 25 word.Num (Said (codes "1") ∷ []) ∷ [])
    ∷ node 26 word.Await (name 27 (codes "p") ∷ []) ∷ []) ∷ [])

abbrev array : Syntax
array = node 30 word.Array (Listed (pieces_of (node 31 word.Spread (name 32 (codes "p") ∷ []) ∷ node 33 word.Hole [] ∷ [])) ∷ [])

abbrev construction : Syntax
construction = node 35 word.New (
    name 36 (codes "p")
    ∷ Listed (pieces_of (
    node 37 word.Template (Listed (pieces_of (node 38 word.Quasi (Said (codes "a") ∷ Said (codes "a") ∷ []) ∷ [])) ∷ Listed End ∷ [])
    ∷ node 39 word.Regexp (Said (codes "a") ∷ Said (codes "g") ∷ []) ∷ [])) ∷ [])

abbrev more_covered : Syntax
more_covered = body [] (
    node 11 word.Empty []
    ∷ node 12 word.Block (Listed (pieces_of (node 13 word.Expr (expressions ∷ []) ∷ [])) ∷ [])
    ∷ node 28 word.If (name 29 (codes "p") ∷ node 34 word.Expr (array ∷ []) ∷ node 40 word.Expr (construction ∷ []) ∷ [])
    ∷ node 41 word.Return (node 42 word.Importmeta [] ∷ []) ∷ [])

covered_too : pending (unit_of (arrow (codes "p" ∷ []) more_covered)) ≡ None
covered_too = refl

-- `(p) => { debugger; var a: T; const b = {p: a, [p]: p.a(), #p: 1n}; delete p.a; ++a; eval`a`; }`: declarations, properties and a method.
abbrev typed : (start : ℕ) → Syntax
typed start = node start word.Type (Said (codes "other") ∷ Listed (pieces_of (name start (codes "T") ∷ [])) ∷ [])

abbrev method_of : (start : ℕ) → Syntax
method_of start = called start (property_of 52 (name 53 (codes "p"))) []

abbrev declarations : List Syntax
declarations =
    node 31 word.Debugger []
    ∷ node 32 word.Var (Said (codes "var") ∷ Listed (pieces_of (
    node 33 word.Declarator (node 34 word.Bind (Said (codes "a") ∷ typed 35 ∷ []) ∷ Absent ∷ []) ∷ [])) ∷ [])
    ∷ node 36 word.Var (Said (codes "const") ∷ Listed (pieces_of (
    node 37 word.Declarator (node 38 word.Bind (Said (codes "b") ∷ Absent ∷ []) ∷ node 39 word.Object (Listed (pieces_of (
    node 40 word.Prop (Flag false ∷ node 41 word.Name (Said (codes "p") ∷ []) ∷ name 42 (codes "a") ∷ [])
    ∷ node 43 word.Prop (Flag true ∷ name 44 (codes "p") ∷ method_of 45 ∷ [])
    ∷ node 46 word.Prop (Flag false ∷ node 47 word.Private (Said (codes "p") ∷ []) ∷ node 48 word.Bigint (Said (codes "1") ∷ []) ∷ [])
    ∷ [])) ∷ []) ∷ []) ∷ [])) ∷ [])
    ∷ node 50 word.Expr (deleted (property_of 51 (name 52 (codes "p"))) ∷ [])
    ∷ node 53 word.Expr (updated (name 54 (codes "a")) ∷ [])
    ∷ node 55 word.Expr (tagged_with (codes "a") (codes "a") ∷ []) ∷ []

-- The kinds that are covered besides, in a sequence.
abbrev others : Syntax
others = node 60 word.Seq (Listed (pieces_of (
    node 61 word.Privatein (Said (codes "a") ∷ name 62 (codes "p") ∷ [])
    ∷ node 63 word.Yield (Flag false ∷ Absent ∷ [])
    ∷ node 64 word.Newtarget [] ∷ node 65 word.Super [] ∷ node 66 word.This []
    ∷ node 67 word.Importcall (name 68 (codes "p") ∷ Absent ∷ [])
    ∷ node 69 word.As (name 70 (codes "p") ∷ typed 71 ∷ [])
    ∷ node 72 word.Satisfies (name 73 (codes "p") ∷ typed 74 ∷ [])
    ∷ node 75 word.Assert (typed 76 ∷ name 77 (codes "p") ∷ [])
    ∷ node 78 word.Instantiate (name 79 (codes "p") ∷ Listed (pieces_of (name 80 (codes "T") ∷ [])) ∷ [])
    ∷ node 81 word.Privatemember (Flag false ∷ name 82 (codes "p") ∷ Said (codes "a") ∷ []) ∷ [])) ∷ [])

declarations_covered : pending (unit_of (function (codes "p" ∷ []) declarations)) ≡ None
declarations_covered = refl

others_covered : pending (unit_of (arrow (codes "p" ∷ []) others)) ≡ None
others_covered = refl

-- A tag that is a property: the function is covered, and not orderly. A call of a property is.
property_tag : is_orderly (unit_of (arrow [] (node 11 word.Tagged (
    property_of 12 (name 13 (codes "f"))
    ∷ node 14 word.Template (Listed (pieces_of (node 15 word.Quasi (Said [] ∷ Said [] ∷ []) ∷ [])) ∷ Listed End ∷ []) ∷ [])))) None
    ≡ false
property_tag = refl

method_orderly : is_orderly (unit_of (arrow [] (called 11 (property_of 12 (name 13 (codes "f"))) []))) None ≡ true
method_orderly = refl

-- A callee that is a property in parentheses: the function is covered, and not orderly.
abbrev parenthesized : Syntax
parenthesized =
    unit_of (arrow [] (called 11
    (node 12 word.Paren (node 13 word.Member (Flag false ∷ name 14 (codes "f") ∷ Said (codes "a") ∷ []) ∷ [])) []))

callee_covered : pending parenthesized ≡ None
callee_covered = refl

callee_not_orderly : is_orderly parenthesized None ≡ false
callee_not_orderly = refl

-- Nodes outside the marked function are free. Inside it a class is not covered, nor is a function, nor a sequence without expressions; a
-- pattern is. The least id is given.
abbrev class_at : (start : ℕ) → Syntax
class_at start = node start word.Classdecl (Absent ∷ Absent ∷ Listed End ∷ [])

outside : pending (unit (class_at 2 ∷ node 4 word.Expr (arrow [] covered_body ∷ []) ∷ [])) ≡ None
outside = refl

inside : pending (unit_of (function [] (class_at 11 ∷ class_at 12 ∷ []))) ≡ Some 6
inside = refl

pattern : pending (unit_of (function [] (node 11 word.Var (Said (codes "let") ∷ Listed (pieces_of (
    node 12 word.Declarator (node 13 word.Arraypat (Listed End ∷ Absent ∷ []) ∷ node 14 word.Null [] ∷ []) ∷ [])) ∷ []) ∷ []))) ≡ None
pattern = refl

unmarked : pending (unit_of (function [] (node 11 word.Expr (node 12 word.Arrow (
    Flag false ∷ Flag false ∷ node 13 word.Params (Listed End ∷ Absent ∷ []) ∷ node 14 word.Null [] ∷ []) ∷ []) ∷ [])))
    ≡ Some 7
unmarked = refl

no_expressions : pending (unit_of (arrow [] (node 11 word.Seq (Listed End ∷ [])))) ≡ Some 5
no_expressions = refl

-- A parameter with a default, a rest parameter and one with a type are covered.
abbrev with_params : (params : Syntax) → Syntax
with_params params = unit_of (node 3 word.Arrow (Flag true ∷ Flag false ∷ params ∷ node 10 word.Null [] ∷ []))

default_parameter : pending (with_params (node 4 word.Params (Listed (pieces_of (
    node 5 word.Param (node 6 word.Bind (Said (codes "p") ∷ Absent ∷ []) ∷ node 7 word.Null [] ∷ []) ∷ [])) ∷ Absent ∷ [])))
    ≡ None
default_parameter = refl

typed_parameter : pending (with_params (node 4 word.Params (Listed (pieces_of (
    node 5 word.Param (node 6 word.Bind (Said (codes "p") ∷ node 7 word.Type (Said (codes "other") ∷ Listed End ∷ []) ∷ []) ∷ Absent ∷ [])
    ∷ [])) ∷ Absent ∷ [])))
    ≡ None
typed_parameter = refl

rest_parameter : pending (with_params (node 4 word.Params (
    Listed End ∷ node 5 word.Rest (node 6 word.Bind (Said (codes "p") ∷ Absent ∷ []) ∷ []) ∷ [])))
    ≡ None
rest_parameter = refl

-- A marked declaration is covered, and so is a marked function expression.
abbrev with_form : Word → Syntax
with_form form = node 3 form (
    Flag true ∷ Flag true ∷ Flag true ∷ node 4 word.Bind (Said (codes "f") ∷ Absent ∷ []) ∷ params (codes "p" ∷ [])
    ∷ body (codes "use client" ∷ codes "a" ∷ []) (node 11 word.Return (name 12 (codes "f") ∷ []) ∷ []) ∷ [])

declaration : pending (unit (with_form word.Fundecl ∷ [])) ≡ None
declaration = refl

expression : pending (unit_of (with_form word.Funexpr)) ≡ None
expression = refl

-- The fields of the declaration `async function* f(p) { "use client"; "a"; return f; }`, and of an arrow function.
abbrev declared : Syntax
declared = marked (unit (with_form word.Fundecl ∷ []))

declared_name : name_in declared ≡ Some (codes "f")
declared_name = refl

declared_async : async_in declared ≡ true
declared_async = refl

declared_generator : generator_in declared ≡ true
declared_generator = refl

declared_directives : directives_in (body_in declared) ≡ codes "use client" ∷ codes "a" ∷ []
declared_directives = refl

arrow_name : name_in (arrow [] (node 11 word.Null [])) ≡ None
arrow_name = refl

arrow_generator : generator_in (arrow [] (node 11 word.Null [])) ≡ false
arrow_generator = refl

arrow_directives : directives_in (body_in (arrow [] (node 11 word.Null []))) ≡ []
arrow_directives = refl

-- `() => { f(g()); return; h(); }`: three calls are held, each before those in its parts, and the last is dead.
abbrev three_calls : Syntax
three_calls = function [] (
    node 11 word.Expr (called 12 (name 13 (codes "f")) (called 14 (name 15 (codes "g")) [] ∷ []) ∷ []) ∷
    node 16 word.Return (Absent ∷ []) ∷
    node 17 word.Expr (called 18 (name 19 (codes "h")) [] ∷ []) ∷ [])

abbrev call_of : (start : ℕ) → Held
call_of start = record { word = codes "call"; span = span start }

held : held_in (names_of (unit_of three_calls)) (body_in three_calls) ≡ call_of 12 ∷ call_of 14 ∷ call_of 18 ∷ []
held = refl

live : live_in_body (names_of (unit_of three_calls)) (body_in three_calls) ≡ call_of 12 ∷ call_of 14 ∷ []
live = refl

-- Each of them is the counted node of its span once.
abbrev key : (start : ℕ) → Counted
key start = record { node = 0; kinds = codes "call" ∷ codes "methodcall" ∷ []; span = span start }

tallied_once : tallied (names_of (unit_of three_calls)) (key 14) (body_in three_calls) ≡ 1
tallied_once = refl

tallied_never : tallied (names_of (unit_of three_calls)) (key 11) (body_in three_calls) ≡ 0
tallied_never = refl

-- `() => a.b(c[d]())`: calls of methods.
abbrev methods : Syntax
methods = arrow [] (called 11 (property_of 12 (name 13 (codes "a")))
    (called 14 (node 15 word.Index (Flag false ∷ name 16 (codes "c") ∷ name 17 (codes "d") ∷ [])) [] ∷ []))

methods_held : held_in (names_of (unit_of methods)) (body_in methods)
    ≡ record { word = codes "methodcall"; span = span 11 } ∷ record { word = codes "methodcall"; span = span 14 } ∷ []
methods_held = refl

method_tallied : tallied (names_of (unit_of methods)) (key 14) (body_in methods) ≡ 1
method_tallied = refl

-- `() => new (await f()) + g()`: of each kind, in a body that is an expression.
abbrev each_kind : Syntax
each_kind = arrow [] (node 11 word.Binary (
    Said (codes "+")
    ∷ node 12 word.New (node 13 word.Paren (node 14 word.Await (called 15 (name 16 (codes "f")) [] ∷ []) ∷ []) ∷ Listed End ∷ [])
    ∷ called 17 (name 18 (codes "g")) [] ∷ []))

live_of_each_kind : live_in_body (names_of (unit_of each_kind)) (body_in each_kind)
    ≡ record { word = codes "new"; span = span 12 } ∷ record { word = codes "await"; span = span 14 } ∷ call_of 15 ∷ call_of 17 ∷ []
live_of_each_kind = refl

-- `if (c()) return f();` in front of `g();`: all are live. With `else { return h(); g(); }` no `g()` is.
abbrev returning : (other : Syntax) → Syntax
returning other = function [] (
    node 11 word.If (
    called 12 (name 13 (codes "c")) []
    ∷ node 14 word.Return (called 15 (name 16 (codes "f")) [] ∷ [])
    ∷ other ∷ [])
    ∷ node 30 word.Expr (called 31 (name 32 (codes "g")) [] ∷ []) ∷ [])

live_behind : live_in_body (names_of (unit_of (returning Absent))) (body_in (returning Absent)) ≡ call_of 12 ∷ call_of 15 ∷ call_of 31 ∷ []
live_behind = refl

abbrev last : Syntax
last = node 20 word.Block (Listed (pieces_of (
    node 21 word.Return (called 22 (name 23 (codes "h")) [] ∷ [])
    ∷ node 24 word.Expr (called 25 (name 26 (codes "g")) [] ∷ []) ∷ [])) ∷ [])

dead_behind : live_in_body (names_of (unit_of (returning last))) (body_in (returning last)) ≡ call_of 12 ∷ call_of 15 ∷ call_of 22 ∷ []
dead_behind = refl
