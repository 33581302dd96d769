-- `switch`, `try`, `throw` and `with`: their stops, their rows and their live nodes, tried on small functions.
use Rattle.std.proofs.Common.{◌≡◌, ℕ, ◌+◌, false, Option, Some, None, List, [], ◌∷◌, codes, refl}
use Rattle.rl_base.specs.Diagnostics.{diagnostic_at}
use Rattle.rl_base.specs.declared.diagnostic.Diagnostic.{Diagnostic}
use Rattle.rl_base.specs.declared.row.Row.TheVariants as row
use Rattle.rl_model.proofs.ExampleUnits.{called, function, name, node, span, unit_of}
use Rattle.rl_model.specs.Marked.{marked}
use Rattle.rl_model.specs.Units.{names_of}
use Rattle.rl_names.specs.Functions.{body_in}
use Rattle.rl_promises.specs.Covered.{pending}
use Rattle.rl_promises.specs.Live.{Held, live_in_body}
use Rattle.rl_promises.specs.Rows.{refusal, refusals_of}
use Rattle.rl_promises.specs.Stops.{stop_of}
use Rattle.rl_syntax.specs.Syntax.{Syntax, Listed, Said, Flag, Absent, pieces_of}
use Rattle.rl_syntax.specs.declared.word.Word.{Word}
use Rattle.rl_syntax.specs.declared.word.Word.TheVariants as word

-- The function `(p) => { STATEMENT }`, its stop and its refusals.

abbrev of : Syntax → Syntax
of statement = unit_of (function (codes "p" ∷ []) (statement ∷ []))

abbrev stops : Syntax → Option Diagnostic
stops statement = stop_of (names_of (of statement)) (marked (of statement))

abbrev refused : Syntax → List Diagnostic
refused statement = refusals_of (names_of (of statement)) (marked (of statement))

-- Cases, blocks, `catch` clauses, jumps without a label, and uses of the global `eval`.

abbrev chosen : (start : ℕ) → (discriminant : Syntax) → (cases : List Syntax) → Syntax
chosen start discriminant cases = node start word.Switch (discriminant ∷ Listed (pieces_of cases) ∷ [])

abbrev case : (start : ℕ) → (condition : Syntax) → (statements : List Syntax) → Syntax
case start condition statements = node start word.Case (condition ∷ Listed (pieces_of statements) ∷ [])

abbrev block : (start : ℕ) → List Syntax → Syntax
block start statements = node start word.Block (Listed (pieces_of statements) ∷ [])

abbrev tried : (start : ℕ) → (body handler finalizer : Syntax) → Syntax
tried start body handler finalizer = node start word.Try (body ∷ handler ∷ finalizer ∷ [])

abbrev caught : (start : ℕ) → (param : Syntax) → (statements : List Syntax) → Syntax
caught start param statements = node start word.Catch (param ∷ block (start + 1) statements ∷ [])

abbrev named : (start : ℕ) → (text : List ℕ) → Syntax
named start text = node start word.Bind (Said text ∷ Absent ∷ [])

abbrev jump : (start : ℕ) → Word → Syntax
jump start w = node start w (Absent ∷ [])

abbrev eval_at : (start : ℕ) → Syntax
eval_at start = name start (codes "eval")

abbrev use_of : (start : ℕ) → Syntax
use_of start = node start word.Expr (eval_at start ∷ [])

abbrev thrown : (start : ℕ) → Syntax
thrown start = node start word.Throw (eval_at (start + 1) ∷ [])

-- A `switch` takes a `break`, and no `continue`; the discriminant comes last.
break_of_switch : stops (chosen 11 (name 12 (codes "p")) (case 13 Absent (jump 14 word.Break ∷ []) ∷ [])) ≡ None
break_of_switch = refl

continue_of_switch : stops (chosen 11 (name 12 (codes "p")) (case 13 Absent (jump 14 word.Continue ∷ []) ∷ []))
    ≡ Some (diagnostic_at row.S7 [] (span 14))
continue_of_switch = refl

last_case_first : stops (chosen 11 (name 12 (codes "p"))
    (case 13 Absent (jump 14 word.Continue ∷ []) ∷ case 15 (eval_at 16) (jump 17 word.Continue ∷ []) ∷ []))
    ≡ Some (diagnostic_at row.S7 [] (span 17))
last_case_first = refl

-- The cases come from the last to the first, the statements of each before its test.
switch_order : refused (chosen 11 (eval_at 12) (case 13 (eval_at 14) (use_of 15 ∷ []) ∷ case 16 Absent (use_of 17 ∷ []) ∷ []))
    ≡ refusal row.F2 (span 17) ∷ refusal row.F2 (span 15) ∷ refusal row.F2 (span 14) ∷ refusal row.F2 (span 12) ∷ []
switch_order = refl

-- A test that may not be evaluated in another place is refused behind the statements of its case, and lowered: a property of a local
-- variable, but not of a global.

abbrev property_of : (start : ℕ) → (text : List ℕ) → Syntax
property_of start text = node start word.Member (Flag false ∷ name (start + 1) text ∷ Said (codes "b") ∷ [])

moved_test : refused (chosen 11 (name 12 (codes "p")) (case 13 (property_of 14 (codes "p")) (use_of 16 ∷ []) ∷ []))
    ≡ refusal row.F2 (span 16) ∷ diagnostic_at row.F29 (codes "MemberExpression") (span 14) ∷ []
moved_test = refl

moved_operands : refused (chosen 11 (name 12 (codes "p"))
    (case 13 (node 14 word.Binary (Said (codes "+") ∷ eval_at 15 ∷ name 16 (codes "p") ∷ [])) [] ∷ []))
    ≡ diagnostic_at row.F29 (codes "BinaryExpression") (span 14) ∷ refusal row.F2 (span 15) ∷ []
moved_operands = refl

global_test : refused (chosen 11 (name 12 (codes "p")) (case 13 (property_of 14 (codes "g")) [] ∷ [])) ≡ []
global_test = refl

-- A `catch` comes before the block, in which a `throw` is refused, also in a `catch` there.
throw_in_block : refused (tried 11 (block 12 (thrown 13 ∷ [])) (caught 15 (named 18 (codes "e")) (thrown 20 ∷ [])) Absent)
    ≡ refusal row.F2 (span 21) ∷ refusal row.F2 (span 14) ∷ refusal row.F30 (span 13) ∷ []
throw_in_block = refl

throw_in_both : refused (tried 11
    (block 12 (tried 13 (block 14 []) (caught 15 Absent (thrown 17 ∷ [])) Absent ∷ [])) (caught 20 Absent []) Absent)
    ≡ refusal row.F2 (span 18) ∷ refusal row.F30 (span 17) ∷ []
throw_in_both = refl

-- A finalizer is left out, and a `try` without a `catch`, and a `with`.
finalizer : refused (tried 11 (block 12 []) (caught 13 Absent (use_of 15 ∷ [])) (block 16 (use_of 17 ∷ [])))
    ≡ refusal row.F35 (span 11) ∷ refusal row.F2 (span 15) ∷ []
finalizer = refl

uncaught : refused (tried 11 (block 12 (use_of 13 ∷ [])) Absent (block 14 (use_of 15 ∷ []))) ≡ refusal row.F34 (span 11) ∷ []
uncaught = refl

uncaught_stops : stops (tried 11 (block 12 (jump 13 word.Break ∷ [])) Absent (block 14 [])) ≡ None
uncaught_stops = refl

with_statement : refused (node 11 word.With (eval_at 12 ∷ use_of 13 ∷ [])) ≡ refusal row.F36 (span 11) ∷ []
with_statement = refl

-- The name of a `catch` is declared.
reserved_caught : stops (tried 11 (block 12 []) (caught 13 (named 16 (codes "enum")) []) Absent)
    ≡ Some (diagnostic_at row.S1 (codes "enum") (span 16))
reserved_caught = refl

covered : pending (of (tried 11 (block 12 (chosen 13 (name 14 (codes "p")) (case 15 Absent (thrown 16 ∷ []) ∷ []) ∷ []))
    (caught 18 (named 20 (codes "e")) []) Absent)) ≡ None
covered = refl

-- Calls of `f`, by where they stand; those of a function that are live.

abbrev call_at : (start : ℕ) → Syntax
call_at start = called start (name (start + 1) (codes "f")) []

abbrev calls_at : (start : ℕ) → Syntax
calls_at start = node start word.Expr (call_at start ∷ [])

abbrev held : (start : ℕ) → Held
held start = record { word = codes "call"; span = span start }

abbrev live : List Syntax → List Held
live statements = live_in_body (names_of (unit_of (function [] statements))) (body_in (function [] statements))

-- All cases are live, but for what is behind a jump in one. Where no case falls out of the `switch`, and one is the default, what stands
-- behind it is dead.
cases_live : live (chosen 11 (call_at 12) (case 14 (call_at 15) (jump 17 word.Break ∷ calls_at 18 ∷ []) ∷ []) ∷ calls_at 20 ∷ [])
    ≡ held 12 ∷ held 15 ∷ held 20 ∷ []
cases_live = refl

all_return : live (chosen 11 (call_at 12) (case 14 Absent (node 15 word.Return (Absent ∷ []) ∷ []) ∷ []) ∷ calls_at 20 ∷ []) ≡ held 12 ∷ []
all_return = refl

-- A `catch` is dead if nothing in the block acts.
catch_live : live (tried 11 (block 12 (calls_at 13 ∷ [])) (caught 15 Absent (calls_at 17 ∷ [])) Absent ∷ []) ≡ held 13 ∷ held 17 ∷ []
catch_live = refl

catch_dead : live (tried 11 (block 12 []) (caught 15 Absent (calls_at 17 ∷ [])) Absent ∷ []) ≡ []
catch_dead = refl
