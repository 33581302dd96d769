-- Loops, labels and jumps: their stops, their rows, and their live nodes, tried on small functions.
use Rattle.std.proofs.Common.{◌≡◌, ℕ, ◌+◌, Option, Some, None, List, [], ◌∷◌, codes, refl}
use Rattle.rl_base.specs.Diagnostics.{diagnostic_at}
use Rattle.rl_base.specs.declared.diagnostic.Diagnostic.{Diagnostic}
use Rattle.rl_base.specs.declared.row.Row.TheVariants as row
use Rattle.rl_model.proofs.ExampleUnits.{called, function, name, node, span, unit_of}
use Rattle.rl_model.specs.Marked.{marked}
use Rattle.rl_model.specs.Units.{names_of}
use Rattle.rl_names.specs.Functions.{body_in}
use Rattle.rl_promises.specs.Covered.{pending}
use Rattle.rl_promises.specs.Live.{Held, live_in_body}
use Rattle.rl_promises.specs.Rows.{refusal, refusals_of}
use Rattle.rl_promises.specs.Stops.{stop_of}
use Rattle.rl_syntax.specs.Syntax.{Syntax, Listed, Said, Absent, pieces_of}
use Rattle.rl_syntax.specs.declared.word.Word.{Word}
use Rattle.rl_syntax.specs.declared.word.Word.TheVariants as word

-- The function `(p) => { STATEMENT .. }`, its stop and its refusals.

abbrev of : List Syntax → Syntax
of statements = unit_of (function (codes "p" ∷ []) statements)

abbrev stops : Syntax → Option Diagnostic
stops statement = stop_of (names_of (of (statement ∷ []))) (marked (of (statement ∷ [])))

abbrev refused : Syntax → List Diagnostic
refused statement = refusals_of (names_of (of (statement ∷ []))) (marked (of (statement ∷ [])))

-- Statements: blocks, jumps to a label or without one, loops that test `p`, and labels.

abbrev block : (start : ℕ) → List Syntax → Syntax
block start statements = node start word.Block (Listed (pieces_of statements) ∷ [])

abbrev jump : (start : ℕ) → Word → (label : Syntax) → Syntax
jump start w label = node start w (label ∷ [])

abbrev repeated : (start : ℕ) → (body : Syntax) → Syntax
repeated start body = node start word.While (name 90 (codes "p") ∷ body ∷ [])

abbrev labeled : (start : ℕ) → (label : List ℕ) → (body : Syntax) → Syntax
labeled start label body = node start word.Labeled (Said label ∷ body ∷ [])

-- `break;` and `continue;` outside of loops, and `continue a;` where no label is `a`.
break_nowhere : stops (jump 11 word.Break Absent) ≡ Some (diagnostic_at row.S6 [] (span 11))
break_nowhere = refl

continue_nowhere : stops (jump 11 word.Continue Absent) ≡ Some (diagnostic_at row.S7 [] (span 11))
continue_nowhere = refl

unknown_label : stops (repeated 11 (jump 12 word.Continue (Said (codes "a")))) ≡ Some (diagnostic_at row.S7 [] (span 12))
unknown_label = refl

-- `a: { break; }`, `a: { break a; }`, `a: { continue a; }` and `a: { while (p) continue; }`.
break_of_block : stops (labeled 11 (codes "a") (block 12 (jump 13 word.Break Absent ∷ []))) ≡ Some (diagnostic_at row.S6 [] (span 13))
break_of_block = refl

break_to_block : stops (labeled 11 (codes "a") (block 12 (jump 13 word.Break (Said (codes "a")) ∷ []))) ≡ None
break_to_block = refl

continue_to_block : stops (labeled 11 (codes "a") (block 12 (jump 13 word.Continue (Said (codes "a")) ∷ [])))
    ≡ Some (diagnostic_at row.S7 (codes "label") (span 13))
continue_to_block = refl

continue_inside : stops (labeled 11 (codes "a") (block 12 (repeated 13 (jump 14 word.Continue Absent) ∷ []))) ≡ None
continue_inside = refl

-- A loop with two labels, `a: b: while (p) JUMP`: the inner label is the loop's own.
abbrev twice : (w : Word) → (label : List ℕ) → Syntax
twice w label = labeled 11 (codes "a") (labeled 12 (codes "b") (repeated 13 (jump 14 w (Said label))))

break_to_outer : stops (twice word.Break (codes "a")) ≡ None
break_to_outer = refl

break_to_inner : stops (twice word.Break (codes "b")) ≡ None
break_to_inner = refl

continue_to_outer : stops (twice word.Continue (codes "a")) ≡ Some (diagnostic_at row.S7 (codes "label") (span 14))
continue_to_outer = refl

continue_to_inner : stops (twice word.Continue (codes "b")) ≡ None
continue_to_inner = refl

-- Each kind of loop takes jumps: in `while (p) JUMP`, `do JUMP while (p);`, and `for (; p; ) JUMP`, inside an `if`.
abbrev within : (w : Word) → Syntax
within w = node 20 word.If (name 21 (codes "p") ∷ jump 22 w Absent ∷ jump 23 w Absent ∷ [])

in_while : stops (repeated 11 (within word.Break)) ≡ None
in_while = refl

in_do_while : stops (node 11 word.Dowhile (within word.Continue ∷ name 12 (codes "p") ∷ [])) ≡ None
in_do_while = refl

in_for : stops (node 11 word.For (Absent ∷ name 12 (codes "p") ∷ Absent ∷ within word.Continue ∷ [])) ≡ None
in_for = refl

-- `for (INIT; TEST; UPDATE) BODY`: refused where an expression stands in front, and where the test is absent. The body comes before the
-- test.
abbrev for_loop : (init condition update : Syntax) → (body : Syntax) → Syntax
for_loop init condition update body = node 11 word.For (init ∷ condition ∷ update ∷ body ∷ [])

abbrev declaration : Syntax
declaration =
    node 12 word.Var (Said (codes "let")
    ∷ Listed (pieces_of (node 13 word.Declarator (node 14 word.Bind (Said (codes "a") ∷ Absent ∷ []) ∷ Absent ∷ []) ∷ [])) ∷ [])

abbrev eval_at : (start : ℕ) → Syntax
eval_at start = name start (codes "eval")

abbrev use_of : (start : ℕ) → Syntax
use_of start = node start word.Expr (eval_at start ∷ [])

declared_for : refused (for_loop declaration (name 15 (codes "a")) Absent (block 16 [])) ≡ []
declared_for = refl

empty_for : refused (for_loop Absent Absent Absent (block 16 [])) ≡ refusal row.F32 (span 11) ∷ []
empty_for = refl

expression_for : refused (for_loop (eval_at 12) (eval_at 13) (eval_at 14) (use_of 15))
    ≡ refusal row.F31 (span 11) ∷ refusal row.F2 (span 12) ∷ refusal row.F2 (span 14) ∷ refusal row.F2 (span 15)
    ∷ refusal row.F2 (span 13) ∷ []
expression_for = refl

endless_for : refused (for_loop (eval_at 12) Absent (eval_at 14) (use_of 15))
    ≡ refusal row.F31 (span 11) ∷ refusal row.F2 (span 12) ∷ refusal row.F2 (span 14) ∷ refusal row.F2 (span 15)
    ∷ refusal row.F32 (span 11) ∷ []
endless_for = refl

-- The body of a `while` loop comes before its test, and the test of a `do`-`while` loop behind its body.
while_order : refused (node 11 word.While (eval_at 12 ∷ use_of 13 ∷ [])) ≡ refusal row.F2 (span 13) ∷ refusal row.F2 (span 12) ∷ []
while_order = refl

do_while_order : refused (node 11 word.Dowhile (use_of 12 ∷ eval_at 13 ∷ [])) ≡ refusal row.F2 (span 12) ∷ refusal row.F2 (span 13) ∷ []
do_while_order = refl

-- Each of these kinds is covered.
covered : pending (of (labeled 11 (codes "a") (for_loop declaration (name 15 (codes "a")) Absent (block 16 (
    repeated 17 (jump 18 word.Continue (Said (codes "a")))
    ∷ node 19 word.Dowhile (jump 20 word.Break Absent ∷ name 21 (codes "p") ∷ []) ∷ []))) ∷ [])) ≡ None
covered = refl

-- Calls of `f`, by where they stand, as expressions and as statements; those of a function that are live.

abbrev call_at : (start : ℕ) → Syntax
call_at start = called start (name (start + 1) (codes "f")) []

abbrev calls_at : (start : ℕ) → Syntax
calls_at start = node start word.Expr (call_at start ∷ [])

abbrev live : List Syntax → List Held
live statements = live_in_body (names_of (of statements)) (body_in (function [] statements))

abbrev held : (start : ℕ) → Held
held start = record { word = codes "call"; span = span start }

abbrev gives_back : (start : ℕ) → Syntax
gives_back start = node start word.Return (call_at start ∷ [])

-- `do return f(); while (f());`: the test is dead. That of `do continue; while (f());` is not, and what is behind it is live.
do_return : live (node 11 word.Dowhile (gives_back 12 ∷ call_at 14 ∷ []) ∷ calls_at 16 ∷ []) ≡ held 12 ∷ []
do_return = refl

do_continue : live (node 11 word.Dowhile (jump 12 word.Continue Absent ∷ call_at 14 ∷ []) ∷ calls_at 16 ∷ []) ≡ held 14 ∷ held 16 ∷ []
do_continue = refl

do_break : live (node 11 word.Dowhile (jump 12 word.Break Absent ∷ call_at 14 ∷ []) ∷ calls_at 16 ∷ []) ≡ held 16 ∷ []
do_break = refl

-- The update of `for (f(); f(); f()) return f();` is dead, and that of a loop whose body continues it from inside another is live.
for_return : live (for_loop (call_at 12) (call_at 14) (call_at 16) (gives_back 18) ∷ calls_at 20 ∷ [])
    ≡ held 12 ∷ held 14 ∷ held 18 ∷ held 20 ∷ []
for_return = refl

for_continue : live (labeled 10 (codes "a") (for_loop Absent (call_at 14) (call_at 16) (block 18 (
    node 19 word.While (call_at 20 ∷ jump 22 word.Continue (Said (codes "a")) ∷ []) ∷ gives_back 24 ∷ []))) ∷ [])
    ≡ held 14 ∷ held 16 ∷ held 20 ∷ held 24 ∷ []
for_continue = refl

-- A statement behind a jump is dead; one behind `a: { break a; }` is live, and one behind `a: { return; }` dead.
behind_jump : live (node 11 word.While (call_at 12 ∷ block 14 (jump 15 word.Break Absent ∷ calls_at 16 ∷ []) ∷ []) ∷ calls_at 18 ∷ [])
    ≡ held 12 ∷ held 18 ∷ []
behind_jump = refl

behind_block : live (labeled 11 (codes "a") (block 12 (jump 13 word.Break (Said (codes "a")) ∷ calls_at 14 ∷ [])) ∷ calls_at 16 ∷ [])
    ≡ held 16 ∷ []
behind_block = refl

behind_return : live (labeled 11 (codes "a") (block 12 (gives_back 13 ∷ [])) ∷ calls_at 16 ∷ []) ≡ held 13 ∷ []
behind_return = refl
