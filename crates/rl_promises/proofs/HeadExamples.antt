-- The heads of `for`-`in` and `for`-`of` loops: their stops, their rows, what of them is covered and live, and the spans of variables
-- that they declare, tried on small functions.
use Rattle.std.proofs.Common.{◌≡◌, ℕ, ◌+◌, Bool, true, false, Option, Some, None, List, [], ◌∷◌, codes, map, refl}
use Rattle.rl_base.specs.Diagnostics.{diagnostic_at}
use Rattle.rl_base.specs.declared.diagnostic.Diagnostic.{Diagnostic}
use Rattle.rl_base.specs.declared.row.Row.TheVariants as row
use Rattle.rl_base.specs.declared.span.Span.{Span}
use Rattle.rl_model.proofs.ExampleUnits.{called, function, name, node, span, unit_of}
use Rattle.rl_model.specs.Marked.{marked}
use Rattle.rl_model.specs.Units.{names_of}
use Rattle.rl_names.specs.Functions.{body_in, parameters_of}
use Rattle.rl_names.specs.declared.parameters.Parameter.{Parameter}
use Rattle.rl_promises.specs.Covered.{pending}
use Rattle.rl_promises.specs.Live.{Held, live_in_body}
use Rattle.rl_promises.specs.Rebound.{span_behind_body}
use Rattle.rl_promises.specs.Rows.{refusal, refusals_of}
use Rattle.rl_promises.specs.Stops.{has_using, stop_of}
use Rattle.rl_syntax.specs.Syntax.{Syntax, Listed, Said, Flag, Absent, pieces_of}
use Rattle.rl_syntax.specs.declared.word.Word.{Word}
use Rattle.rl_syntax.specs.declared.word.Word.TheVariants as word

-- The function `(p) => { STATEMENT .. }`, its stop and its refusals.

abbrev of : List Syntax → Syntax
of statements = unit_of (function (codes "p" ∷ []) statements)

abbrev stops : List Syntax → Option Diagnostic
stops statements = stop_of (names_of (of statements)) (marked (of statements))

abbrev refused : List Syntax → List Diagnostic
refused statements = refusals_of (names_of (of statements)) (marked (of statements))

-- Heads: `KIND NAME`, and targets. Loops: `for (HEAD in RIGHT) BODY`, `for (HEAD of RIGHT) BODY`, `for await (HEAD of RIGHT) BODY`.

abbrev declared : (start : ℕ) → (kind name : List ℕ) → Syntax
declared start kind name =
    node start word.Var (Said kind
    ∷ Listed (pieces_of (node (start + 1) word.Declarator (node (start + 2) word.Bind (Said name ∷ Absent ∷ []) ∷ Absent ∷ []) ∷ [])) ∷ [])

abbrev keys : (start : ℕ) → (head right body : Syntax) → Syntax
keys start head right body = node start word.Forin (head ∷ right ∷ body ∷ [])

abbrev items : (start : ℕ) → (waits : Bool) → (head right body : Syntax) → Syntax
items start waits head right body = node start word.Forof (Flag waits ∷ head ∷ right ∷ body ∷ [])

abbrev jump : (start : ℕ) → Word → Syntax
jump start w = node start w (Absent ∷ [])

abbrev nothing : Syntax
nothing = node 99 word.Empty []

abbrev eval_at : (start : ℕ) → Syntax
eval_at start = name start (codes "eval")

abbrev use_of : (start : ℕ) → Syntax
use_of start = node start word.Expr (eval_at start ∷ [])

abbrev property : (start : ℕ) → Word → (object : Syntax) → Syntax
property start w object = node start w (Flag false ∷ object ∷ Said (codes "x") ∷ [])

-- Both loops take jumps, in their bodies.
keys_take : stops (keys 11 (declared 12 (codes "let") (codes "a")) (name 15 (codes "p")) (jump 16 word.Continue) ∷ []) ≡ None
keys_take = refl

items_take : stops (items 11 false (declared 12 (codes "let") (codes "a")) (name 15 (codes "p")) (jump 16 word.Break) ∷ []) ≡ None
items_take = refl

-- The body comes first, then the right side, then the head: a reserved name in the head stops the lowering last.
body_first : stops (
    keys 11 (declared 12 (codes "let") (codes "enum")) (name 15 (codes "p")) (node 16 word.Break (Said (codes "a") ∷ [])) ∷ [])
    ≡ Some (diagnostic_at row.S6 [] (span 16))
body_first = refl

head_last : stops (items 11 false (declared 12 (codes "let") (codes "enum")) (name 15 (codes "p")) nothing ∷ [])
    ≡ Some (diagnostic_at row.S1 (codes "enum") (span 14))
head_last = refl

-- Nothing of a `for await` loop is lowered.
awaited_stops : stops (items 11 true (declared 12 (codes "let") (codes "enum")) (name 15 (codes "p")) (jump 16 word.Continue) ∷ []) ≡ None
awaited_stops = refl

awaited : refused (items 11 true (eval_at 12) (eval_at 13) (use_of 14) ∷ []) ≡ refusal row.F33 (span 11) ∷ []
awaited = refl

-- A name that the head assigns is not read: the global `eval` is none of row F2, a constant is one of F6, and a local `fbt` of F40.
order : refused (keys 11 (eval_at 12) (eval_at 13) (use_of 14) ∷ []) ≡ refusal row.F2 (span 14) ∷ refusal row.F2 (span 13) ∷ []
order = refl

abbrev constant : (start : ℕ) → (name : List ℕ) → Syntax
constant start text =
    node start word.Var (Said (codes "const")
    ∷ Listed (pieces_of (node (start + 1) word.Declarator
    (node (start + 2) word.Bind (Said text ∷ Absent ∷ []) ∷ name (start + 3) (codes "p") ∷ []) ∷ []))
    ∷ [])

constant_assigned : refused (constant 11 (codes "c") ∷ items 15 false (name 16 (codes "c")) (name 17 (codes "p")) (use_of 18) ∷ [])
    ≡ refusal row.F2 (span 18) ∷ diagnostic_at row.F6 (codes "c") (span 16) ∷ []
constant_assigned = refl

fbt_assigned : refused (constant 11 (codes "fbt") ∷ items 15 false (name 16 (codes "fbt")) (name 17 (codes "p")) nothing ∷ [])
    ≡ refusal row.F40 (span 13) ∷ refusal row.F40 (span 13) ∷ diagnostic_at row.F6 (codes "fbt") (span 16) ∷ []
fbt_assigned = refl

fbt_declared : refused (keys 11 (declared 12 (codes "const") (codes "fbt")) (name 15 (codes "p")) nothing ∷ [])
    ≡ refusal row.F40 (span 14) ∷ []
fbt_declared = refl

-- `var` is no row in a head.
var_head : refused (keys 11 (declared 12 (codes "var") (codes "a")) (name 15 (codes "p")) nothing ∷ []) ≡ []
var_head = refl

-- Of a property the object is lowered, behind the right side; of a private one, and of a target under a wrapper, nothing is.
property_head : refused (items 11 false (property 12 word.Member (eval_at 13)) (eval_at 14) nothing ∷ [])
    ≡ refusal row.F2 (span 14) ∷ refusal row.F2 (span 13) ∷ []
property_head = refl

private_head : refused (items 11 false (property 12 word.Privatemember (eval_at 13)) (eval_at 14) nothing ∷ [])
    ≡ refusal row.F2 (span 14) ∷ refusal row.F11 (span 12) ∷ []
private_head = refl

wrapped_head : refused (items 11 false (node 12 word.Nonnull (property 13 word.Privatemember (eval_at 14) ∷ [])) (eval_at 15) nothing ∷ [])
    ≡ refusal row.F2 (span 15) ∷ refusal row.F45 (span 12) ∷ []
wrapped_head = refl

-- Heads that declare by `using` skip the unit.
using_head : has_using (keys 11 (declared 12 (codes "using") (codes "a")) (name 15 (codes "p")) nothing) ≡ true
using_head = refl

-- Heads with patterns are covered. A loop that declares no variable is not: the loop has the id 8.
covered : pending (of (keys 11 (declared 12 (codes "var") (codes "a")) (name 15 (codes "p"))
    (items 16 false (property 17 word.Member (name 18 (codes "p"))) (name 19 (codes "p")) nothing) ∷ [])) ≡ None
covered = refl

pattern_head : pending (of (keys 11 (node 12 word.Arraytarget (Listed (pieces_of []) ∷ Absent ∷ [])) (name 13 (codes "p")) nothing ∷ []))
    ≡ None
pattern_head = refl

none_declared : pending (of (
    keys 11 (node 12 word.Var (Said (codes "let") ∷ Listed (pieces_of []) ∷ [])) (name 13 (codes "p")) nothing ∷ []))
    ≡ Some 8
none_declared = refl

-- The code behind such a loop is live, whatever its body does. All of it is live but what is dead in its body.

abbrev call_at : (start : ℕ) → Syntax
call_at start = called start (name (start + 1) (codes "f")) []

abbrev calls_at : (start : ℕ) → Syntax
calls_at start = node start word.Expr (call_at start ∷ [])

abbrev held : (start : ℕ) → Held
held start = record { word = codes "call"; span = span start }

abbrev dead_end : (start : ℕ) → Syntax
dead_end start = node start word.Block (Listed (pieces_of (node (start + 1) word.Return (Absent ∷ []) ∷ calls_at (start + 2) ∷ [])) ∷ [])

abbrev live : List Syntax → List Held
live statements = live_in_body (names_of (of statements)) (body_in (function [] statements))

keys_live : live (keys 11 (property 12 word.Member (call_at 13)) (call_at 15) (dead_end 17) ∷ calls_at 22 ∷ [])
    ≡ held 13 ∷ held 15 ∷ held 22 ∷ []
keys_live = refl

items_live : live (items 11 false (property 12 word.Member (call_at 13)) (call_at 15) (dead_end 17) ∷ calls_at 22 ∷ [])
    ≡ held 13 ∷ held 15 ∷ held 22 ∷ []
items_live = refl

-- `(p) => { for (var p in p) for (var p in p) ; }`: the head of the outer loop is lowered last.
abbrev spans : List Syntax → List Span
spans statements =
    map (λ (p : Parameter). span_behind_body (names_of (of statements)) p.symbol.0 (body_in (marked (of statements))) p.declaration)
    (parameters_of (names_of (of statements)) (marked (of statements)))

abbrev twice : Syntax
twice =
    keys 11 (declared 12 (codes "var") (codes "p")) (name 15 (codes "p"))
    (keys 16 (declared 17 (codes "var") (codes "p")) (name 20 (codes "p")) nothing)

outer_last : spans (twice ∷ []) ≡ span 14 ∷ []
outer_last = refl

-- `(p) => { for (var p in p) ; for (var p of p) ; for await (var p of p) ; }`: of heads in a row the last one counts. Of a `for await`
-- loop nothing is lowered.
abbrev in_row : List Syntax
in_row =
    keys 11 (declared 12 (codes "var") (codes "p")) (name 15 (codes "p")) nothing
    ∷ items 16 false (declared 17 (codes "var") (codes "p")) (name 20 (codes "p")) nothing
    ∷ items 21 true (declared 22 (codes "var") (codes "p")) (name 25 (codes "p")) nothing
    ∷ []

last_of_row : spans in_row ≡ span 19 ∷ []
last_of_row = refl

-- A `let` in a head declares another variable.
own_span : spans (keys 11 (declared 12 (codes "let") (codes "p")) (name 15 (codes "q")) nothing ∷ []) ≡ span 6 ∷ []
own_span = refl
