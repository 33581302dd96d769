-- Binding patterns, targets that are patterns and parameters: their stops, their rows, and the stores that are counted, tried on small
-- functions.
use Rattle.std.proofs.Common.{◌≡◌, ℕ, ◌+◌, Bool, true, false, Option, Some, List, [], ◌∷◌, codes, refl}
use Rattle.std.specs.Fmt.{digits}
use Rattle.rl_base.specs.Diagnostics.{diagnostic_at}
use Rattle.rl_base.specs.declared.diagnostic.Diagnostic.{Diagnostic}
use Rattle.rl_base.specs.declared.row.Row.TheVariants as row
use Rattle.rl_model.proofs.ExampleUnits.{body, called, function, name, node, span, unit_of}
use Rattle.rl_model.specs.Counted.{Counted}
use Rattle.rl_model.specs.Marked.{marked}
use Rattle.rl_model.specs.Units.{names_of}
use Rattle.rl_names.specs.Functions.{body_in, params_in}
use Rattle.rl_promises.specs.Live.{Held, held_in}
use Rattle.rl_promises.specs.Rows.{refusal, refusals_of}
use Rattle.rl_promises.specs.Stops.{stop_of}
use Rattle.rl_promises.specs.Tallies.{tallied}
use Rattle.rl_syntax.specs.Syntax.{Syntax, Listed, Said, Flag, Absent, End, pieces_of}
use Rattle.rl_syntax.specs.declared.word.Word.{Word}
use Rattle.rl_syntax.specs.declared.word.Word.TheVariants as word

-- The stop and the refusals of the marked function of a unit.

abbrev stops : Syntax → Option Diagnostic
stops u = stop_of (names_of u) (marked u)

abbrev refused : Syntax → List Diagnostic
refused u = refusals_of (names_of u) (marked u)

-- Parts of patterns and of targets.

abbrev bind : (start : ℕ) → (text : List ℕ) → Syntax
bind start text = node start word.Bind (Said text ∷ Absent ∷ [])

abbrev eval_at : (start : ℕ) → Syntax
eval_at start = name start (codes "eval")

abbrev this_at : (start : ℕ) → Syntax
this_at start = node start word.This []

abbrev row_of : (start : ℕ) → Word → (items : List Syntax) → (rest : Syntax) → Syntax
row_of start w items rest = node start w (Listed (pieces_of items) ∷ rest ∷ [])

abbrev keyed : (start : ℕ) → Word → (computed : Bool) → (key part : Syntax) → Syntax
keyed start w computed key part = node start w (Flag computed ∷ key ∷ part ∷ [])

-- A marked function with the parameters, the function `() => { let PATTERN = this; }`, and `() => { let a, fbt; TARGET OPERATOR this; }`.

abbrev taking : (params : List Syntax) → (rest : Syntax) → (body : Syntax) → Syntax
taking params rest body = unit_of (node 3 word.Arrow (Flag true ∷ Flag false ∷ row_of 4 word.Params params rest ∷ body ∷ []))

abbrev param : (start : ℕ) → (pattern default : Syntax) → Syntax
param start pattern default = node start word.Param (pattern ∷ default ∷ [])

abbrev declaring : (start : ℕ) → (pattern init : Syntax) → Syntax
declaring start pattern init =
    node start word.Var (Said (codes "let")
    ∷ Listed (pieces_of (node (start + 1) word.Declarator (pattern ∷ init ∷ []) ∷ [])) ∷ [])

abbrev declares : (pattern : Syntax) → Syntax
declares pattern = unit_of (function [] (declaring 11 pattern (this_at 60) ∷ []))

abbrev assigning : (operator : List ℕ) → (target right : Syntax) → Syntax
assigning operator target right =
    function [] (declaring 11 (bind 13 (codes "a")) Absent ∷ declaring 14 (bind 16 (codes "fbt")) Absent
    ∷ node 17 word.Expr (node 18 word.Assign (Said operator ∷ target ∷ right ∷ []) ∷ []) ∷ [])

abbrev assigns : (operator : List ℕ) → (target : Syntax) → List Diagnostic
assigns operator target = refused (unit_of (assigning operator target (this_at 60)))

-- Names come before the items with a default, `let [a = eval, fbt] = this`, and what takes the value behind its default.
names_first : refused (declares (row_of 13 word.Arraypat (
    node 14 word.Defaultpat (bind 15 (codes "a") ∷ eval_at 16 ∷ []) ∷ bind 17 (codes "fbt") ∷ []) Absent))
    ≡ refusal row.F18 (span 60) ∷ refusal row.F40 (span 17) ∷ refusal row.F2 (span 16) ∷ []
names_first = refl

-- A default that may not be evaluated in another place: `let [fbt = this] = this`.
moved_default : refused (declares (row_of 13 word.Arraypat (
    node 14 word.Defaultpat (bind 15 (codes "fbt") ∷ this_at 16 ∷ []) ∷ []) Absent))
    ≡ refusal row.F18 (span 60) ∷ diagnostic_at row.F29 (codes "ThisExpression") (span 16) ∷ refusal row.F18 (span 16)
    ∷ refusal row.F40 (span 15) ∷ []
moved_default = refl

-- Keys: `let {[eval]: fbt, #b: c, 1.5: fbt, ..} = this`. A property that is left out binds nothing; that of a number is lowered all the
-- same.
abbrev key_items : List Syntax
key_items =
    keyed 14 word.Keyedpat true (eval_at 15) (bind 16 (codes "c"))
    ∷ keyed 17 word.Keyedpat false (node 18 word.Private (Said (codes "b") ∷ [])) (bind 19 (codes "d"))
    ∷ keyed 20 word.Keyedpat false (node 21 word.Num (Said (codes "1.5") ∷ [])) (bind 22 (codes "fbt")) ∷ []

lost_keys : refused (declares (row_of 13 word.Objectpat key_items Absent))
    ≡ refusal row.F18 (span 60) ∷ refusal row.F8 (span 14) ∷ refusal row.F9 (span 18) ∷ refusal row.F43 (span 21)
    ∷ refusal row.F40 (span 22) ∷ []
unfolding digits
lost_keys = refl

-- The rest of an object that is no plain name is left out, in front of the items that are no names: `let {b: [fbt], ...[c]} = this`.
lost_rest : refused (declares (row_of 13 word.Objectpat (
    keyed 14 word.Keyedpat false (node 15 word.Name (Said (codes "b") ∷ [])) (row_of 16 word.Arraypat (bind 17 (codes "fbt") ∷ []) Absent)
    ∷ []) (node 18 word.Rest (row_of 19 word.Arraypat (bind 20 (codes "c") ∷ []) Absent ∷ []))))
    ≡ refusal row.F18 (span 60) ∷ diagnostic_at row.F10 (codes "ArrayPattern") (span 18) ∷ refusal row.F40 (span 17) ∷ []
lost_rest = refl

-- Parameters come in order, each behind its default: `(p = eval, [fbt], ...q) => null`.
parameters : refused (taking (
    param 5 (bind 6 (codes "p")) (eval_at 7) ∷ param 8 (row_of 9 word.Arraypat (bind 10 (codes "fbt") ∷ []) Absent) Absent ∷ [])
    (node 11 word.Rest (bind 12 (codes "q") ∷ [])) (node 13 word.Null []))
    ≡ refusal row.F2 (span 7) ∷ refusal row.F40 (span 10) ∷ []
parameters = refl

-- A target looks its names up first, up to the first item that is no local variable: `[fbt, eval.x] = this`. One with a rest does not.
abbrev property : (start : ℕ) → Word → (object : Syntax) → Syntax
property start w object = node start w (Flag false ∷ object ∷ Said (codes "x") ∷ [])

looked_up : assigns (codes "=") (row_of 19 word.Arraytarget (name 20 (codes "fbt") ∷ property 21 word.Member (eval_at 22) ∷ []) Absent)
    ≡ refusal row.F40 (span 16) ∷ refusal row.F18 (span 60) ∷ refusal row.F40 (span 16) ∷ refusal row.F40 (span 16)
    ∷ refusal row.F2 (span 22) ∷ []
looked_up = refl

with_rest : assigns (codes "=")
    (row_of 19 word.Arraytarget (name 20 (codes "fbt") ∷ []) (node 21 word.Rest (property 22 word.Member (eval_at 23) ∷ [])))
    ≡ refusal row.F40 (span 16) ∷ refusal row.F18 (span 60) ∷ refusal row.F40 (span 16) ∷ refusal row.F2 (span 23) ∷ []
with_rest = refl

-- Targets that are left out: `({b: this.#x, c: (eval)} = this)`, and `[a] += this` as a whole.
lost_targets : assigns (codes "=") (row_of 19 word.Objecttarget (
    keyed 20 word.Keyed false (node 21 word.Name (Said (codes "b") ∷ [])) (property 22 word.Privatemember (this_at 23))
    ∷ keyed 24 word.Keyed false (node 25 word.Name (Said (codes "c") ∷ [])) (node 26 word.Paren (eval_at 27 ∷ [])) ∷ []) Absent)
    ≡ refusal row.F40 (span 16) ∷ refusal row.F18 (span 60) ∷ refusal row.F11 (span 22) ∷ refusal row.F45 (span 26) ∷ []
lost_targets = refl

lost_compound : assigns (codes "+=") (row_of 19 word.Arraytarget (name 20 (codes "a") ∷ []) Absent)
    ≡ refusal row.F40 (span 16) ∷ refusal row.F24 (span 18) ∷ []
lost_compound = refl

-- Stops: a name `this` in a pattern, before a reserved name in front of it; and the first name of a pattern that a `catch` binds.
this_inside : stops (taking (
    param 5 (row_of 6 word.Arraypat (bind 7 (codes "class") ∷ keyed 8 word.Keyedpat true (eval_at 9) (bind 10 (codes "this")) ∷ []) Absent)
    Absent ∷ []) Absent (node 13 word.Null []))
    ≡ Some (diagnostic_at row.S2 (codes "this") (span 10))
this_inside = refl

reserved_inside : stops (taking (
    param 5 (row_of 6 word.Arraypat (node 7 word.Defaultpat (bind 8 (codes "enum") ∷ node 9 word.Null [] ∷ [])
    ∷ bind 10 (codes "class") ∷ []) Absent) Absent ∷ []) Absent (node 13 word.Null []))
    ≡ Some (diagnostic_at row.S1 (codes "class") (span 10))
reserved_inside = refl

caught : stops (taking [] Absent (body [] (node 11 word.Try (
    node 12 word.Block (Listed End ∷ [])
    ∷ node 13 word.Catch (row_of 14 word.Arraypat (
    node 15 word.Defaultpat (bind 16 (codes "a") ∷ node 17 word.Null [] ∷ []) ∷ bind 18 (codes "b") ∷ []) Absent
    ∷ node 19 word.Block (Listed End ∷ []) ∷ [])
    ∷ Absent ∷ []) ∷ [])))
    ≡ Some (diagnostic_at row.S4 [] (span 18))
caught = refl

-- Stores of items: of a target whose items are all local variables none is counted, `[a] = f()`; with another item each name is, and one
-- with a default has the span of both: `[a, fbt = null, eval.x] = f()`.
abbrev f_called : Syntax
f_called = called 61 (name 62 (codes "f")) []

abbrev plain_target : Syntax
plain_target = assigning (codes "=") (row_of 19 word.Arraytarget (name 20 (codes "a") ∷ []) Absent) f_called

abbrev forced_target : Syntax
forced_target = assigning (codes "=") (row_of 19 word.Arraytarget (
    name 20 (codes "a") ∷ node 21 word.Default (name 22 (codes "fbt") ∷ node 23 word.Null [] ∷ [])
    ∷ property 24 word.Member (eval_at 25) ∷ []) Absent) f_called

abbrev store_of : (start : ℕ) → Held
store_of start = record { word = codes "storelocal"; span = span start }

abbrev called_held : Held
called_held = record { word = codes "call"; span = span 61 }

plain_held : held_in (names_of (unit_of plain_target)) (body_in (marked (unit_of plain_target))) ≡ called_held ∷ []
plain_held = refl

forced_held : held_in (names_of (unit_of forced_target)) (body_in (marked (unit_of forced_target)))
    ≡ store_of 20 ∷ store_of 21 ∷ called_held ∷ []
forced_held = refl

-- A call in the default of a parameter is counted.
abbrev with_default : Syntax
with_default = taking (param 5 (bind 6 (codes "p")) f_called ∷ []) Absent (node 13 word.Null [])

abbrev key : Counted
key = record { node = 0; kinds = codes "call" ∷ codes "methodcall" ∷ []; span = span 61 }

default_tallied : tallied (names_of with_default) key (params_in (marked with_default)) ≡ 1
default_tallied = refl
