-- The meanings of expressions and statements, each kind tried once.
use Rattle.std.proofs.Common.{◌≡◌, true, false, List, [], ◌∷◌, codes, refl}
use Rattle.std.specs.Fmt.{digits}
use Rattle.rl_hir.specs.declared.terminal.ReturnVariant.{ReturnVariant}
use Rattle.rl_hir.specs.declared.terminal.ReturnVariant.TheVariants as returns
use Rattle.rl_machine.specs.declared.trace.Answer.{Answer}
use Rattle.rl_machine.specs.declared.trace.AnswerKind.TheVariants.{Yes, No, Throw}
use Rattle.rl_machine.specs.declared.trace.Ending.{Ending}
use Rattle.rl_machine.specs.declared.trace.Ending.TheVariants as ending
use Rattle.rl_machine.specs.declared.trace.Event.{Event}
use Rattle.rl_machine.specs.declared.trace.Value.{Value}
use Rattle.rl_machine.specs.declared.trace.Value.TheVariants as value
use Rattle.rl_model.proofs.ExampleUnits.{answer, arrow, body, call, called, function, given, loads, name, node, params, trace_of, unit, unit_of}
use Rattle.rl_model.specs.Events.{binary, global}
use Rattle.rl_syntax.specs.Syntax.{Syntax, Said, Flag, Absent}
use Rattle.rl_syntax.specs.declared.word.Word.TheVariants as word

-- The marked function of the unit, called without arguments, has these events and this ending.
abbrev Runs : Syntax → List Answer → List Event → Ending → Type 0
Runs u answers events e = trace_of u [] [] answers ≡ record { events = events; ending = e }

abbrev returned : ReturnVariant → Value → Ending
returned variant v = ending.Returned variant v []

-- The function `() => expression`, which returns the expression's value.
abbrev Gives : Syntax → List Answer → List Event → Value → Type 0
Gives expression answers events v = Runs (unit_of (arrow [] expression)) answers events (returned returns.Implicit v)

-- Literals, without an event.
gives_null : Gives (node 11 word.Null []) [] [] value.Null
gives_null = refl

gives_bool : Gives (node 11 word.Bool (Flag true ∷ [])) [] [] (value.Bool true)
gives_bool = refl

gives_num : Gives (node 11 word.Num (Said (codes "17") ∷ [])) [] [] (value.Number 17)
unfolding digits
gives_num = refl

gives_str : Gives (node 11 word.Str (Said (codes "ab") ∷ [])) [] [] (value.Text (codes "ab"))
gives_str = refl

-- A number that is no numeral, which row F43 refuses, has no meaning.
no_numeral : Runs (unit_of (arrow [] (node 11 word.Num (Said (codes "1.5") ∷ [])))) (answer Yes 1 ∷ []) [] ending.Waiting
unfolding digits
no_numeral = refl

-- A name that nothing declares.
gives_id : Gives (name 11 (codes "f")) (answer Yes 2 ∷ []) (loads ∷ []) (given 2)
gives_id = refl

gives_paren : Gives (node 11 word.Paren (name 12 (codes "f") ∷ [])) (answer No 2 ∷ []) (loads ∷ []) (given 2)
gives_paren = refl

-- `f + null`: the operands from left to right, and then the operator. Each event may throw.
abbrev sum : Syntax
sum = node 11 word.Binary (Said (codes "+") ∷ name 12 (codes "f") ∷ name 13 (codes "g") ∷ [])

abbrev loads_g : Event
loads_g = global (codes "g" ∷ [])

abbrev adds : Event
adds = binary (codes "+") (given 2) (given 3)

gives_binary : Gives sum (answer Yes 2 ∷ answer Yes 3 ∷ answer Yes 4 ∷ []) (loads ∷ loads_g ∷ adds ∷ []) (given 4)
gives_binary = refl

left_throws : Runs (unit_of (arrow [] sum)) (answer Throw 2 ∷ []) (loads ∷ []) (ending.Threw (given 2))
left_throws = refl

right_throws : Runs (unit_of (arrow [] sum)) (answer Yes 2 ∷ answer Throw 3 ∷ []) (loads ∷ loads_g ∷ []) (ending.Threw (given 3))
right_throws = refl

binary_throws : Runs (unit_of (arrow [] sum)) (answer Yes 2 ∷ answer Yes 3 ∷ answer Throw 4 ∷ []) (loads ∷ loads_g ∷ adds ∷ []) (ending.Threw (given 4))
binary_throws = refl

-- `f(g, null)`: the callee, then the arguments from left to right, then the call.
gives_call : Gives (called 11 (name 12 (codes "f")) (name 13 (codes "g") ∷ node 14 word.Null [] ∷ [])) (answer Yes 2 ∷ answer Yes 3 ∷ answer Yes 4 ∷ [])
    (loads ∷ loads_g ∷ call (codes "place" ∷ codes "place" ∷ []) (given 2) (given 3 ∷ value.Null ∷ []) ∷ []) (given 4)
gives_call = refl

argument_throws : Runs (unit_of (arrow [] (called 11 (name 12 (codes "f")) (name 13 (codes "g") ∷ [])))) (answer Yes 2 ∷ answer Throw 3 ∷ []) (loads ∷ loads_g ∷ []) (ending.Threw (given 3))
argument_throws = refl

-- `() => {}`, and `() => { "use strict"; f; }`: the end of a body returns undefined, and directives do nothing.
empty_body : Runs (unit_of (function [] [])) [] [] (returned returns.Void value.Undefined)
empty_body = refl

expression_statement : Runs (unit_of (arrow [] (body (codes "use strict" ∷ []) (node 11 word.Expr (name 12 (codes "f") ∷ []) ∷ [])))) (answer Yes 2 ∷ []) (loads ∷ []) (returned returns.Void value.Undefined)
expression_statement = refl

statement_throws : Runs (unit_of (function [] (node 11 word.Expr (name 12 (codes "f") ∷ []) ∷ node 13 word.Expr (name 14 (codes "g") ∷ []) ∷ []))) (answer Throw 2 ∷ answer Yes 3 ∷ []) (loads ∷ []) (ending.Threw (given 2))
statement_throws = refl

-- `() => { return; f; }`, and `() => { return null; f; }`: what stands behind a return does not run.
return_nothing : Runs (unit_of (function [] (node 11 word.Return (Absent ∷ []) ∷ node 12 word.Expr (name 13 (codes "f") ∷ []) ∷ []))) (answer Yes 2 ∷ []) [] (returned returns.Explicit value.Undefined)
return_nothing = refl

return_value : Runs (unit_of (function [] (node 11 word.Return (node 12 word.Null [] ∷ []) ∷ node 13 word.Expr (name 14 (codes "f") ∷ []) ∷ []))) (answer Yes 2 ∷ []) [] (returned returns.Explicit value.Null)
return_value = refl

-- `(a, b) => { f(g); return b; }`: the callee comes before its arguments, and each parameter takes its own argument.
ordered : trace_of (unit_of (function (codes "a" ∷ codes "b" ∷ []) (node 11 word.Expr (called 12 (name 13 (codes "f")) (name 14 (codes "g") ∷ []) ∷ []) ∷ node 15 word.Return (name 16 (codes "b") ∷ []) ∷ [])))
    [] (given 7 ∷ given 8 ∷ []) (answer Yes 2 ∷ answer Yes 3 ∷ answer Yes 4 ∷ [])
    ≡ record { events = loads ∷ loads_g ∷ call (codes "place" ∷ []) (given 2) (given 3 ∷ []) ∷ []; ending = returned returns.Explicit (given 8) }
ordered = refl

-- `(a) => { return a; }` without an argument, whatever the start store says of `a`.
missing : trace_of (unit_of (function (codes "a" ∷ []) (node 11 word.Return (name 12 (codes "a") ∷ []) ∷ []))) (record { symbol = record { 0 = 0 }; value = given 9 } ∷ []) [] []
    ≡ record { events = []; ending = returned returns.Explicit value.Undefined }
missing = refl

-- `function f() { return f; }`: for the function that it names, its own name is a name of the module.
own_name : Runs (unit (node 3 word.Fundecl (Flag true ∷ Flag false ∷ Flag false ∷ node 4 word.Bind (Said (codes "f") ∷ Absent ∷ []) ∷ params [] ∷ body [] (node 11 word.Return (name 12 (codes "f") ∷ []) ∷ []) ∷ []) ∷ []))
    (answer Yes 2 ∷ []) (global (codes "f" ∷ codes "module" ∷ []) ∷ []) (returned returns.Explicit (given 2))
own_name = refl
