-- The runs of `x => x && f(x)` that docs/MEANINGS.md lists.
use Rattle.std.proofs.Common.{◌≡◌, None, List, [], ◌∷◌, codes, refl, Option}
use Rattle.rl_hir.specs.declared.terminal.ReturnVariant.TheVariants as returns
use Rattle.rl_machine.specs.declared.trace.Answer.{Answer}
use Rattle.rl_machine.specs.declared.trace.Ending.TheVariants as ending
use Rattle.rl_machine.specs.declared.trace.Trace.{Trace}
use Rattle.rl_model.proofs.ExampleTrees.{given, id, listed, name, no, refuses, text, throws, traced, tree, unit, yes, yields}
use Rattle.rl_model.specs.Events.{event}
use Rattle.rl_model.specs.Source.{source_trace_of}
use Rattle.rl_syntax.specs.Syntax.{Syntax, Absent}
use Rattle.rl_syntax.specs.declared.word.Word.TheVariants as word

abbrev parameters : Syntax
parameters = tree word.Params (listed (tree word.Param (name (codes "x") ∷ Absent ∷ []) ∷ []) ∷ Absent ∷ [])

abbrev called : Syntax
called = tree word.Call (no ∷ id (codes "f") ∷ listed (id (codes "x") ∷ []) ∷ [])

abbrev choice : Syntax
choice = tree word.Arrow (yes ∷ no ∷ parameters ∷ tree word.Logical (text (codes "&&") ∷ id (codes "x") ∷ called ∷ []) ∷ [])

-- The trace with the argument 7.
abbrev runs : List Answer → Option Trace
runs answers = source_trace_of (unit (tree word.Expr (choice ∷ []) ∷ [])) None [] (given 7 ∷ []) answers

waits_at_once : runs [] ≡ traced [] ending.Waiting
waits_at_once = refl

is_not_truthy : runs (refuses 0 ∷ [])
    ≡ traced (event (codes "truthy") [] (given 7 ∷ []) ∷ []) (ending.Returned returns.Implicit (given 7) [])
is_not_truthy = refl

waits_for_the_global : runs (yields 0 ∷ []) ≡ traced (event (codes "truthy") [] (given 7 ∷ []) ∷ []) ending.Waiting
waits_for_the_global = refl

waits_for_the_call : runs (yields 0 ∷ yields 1 ∷ [])
    ≡ traced (event (codes "truthy") [] (given 7 ∷ []) ∷ event (codes "global") (codes "f" ∷ []) [] ∷ []) ending.Waiting
waits_for_the_call = refl

global_throws : runs (yields 0 ∷ throws 1 ∷ [])
    ≡ traced (event (codes "truthy") [] (given 7 ∷ []) ∷ event (codes "global") (codes "f" ∷ []) [] ∷ []) (ending.Threw (given 1))
global_throws = refl

returns_the_call : runs (yields 0 ∷ yields 1 ∷ yields 2 ∷ [])
    ≡ traced (
    event (codes "truthy") [] (given 7 ∷ []) ∷ event (codes "global") (codes "f" ∷ []) [] ∷
    event (codes "call") (codes "place" ∷ []) (given 1 ∷ given 7 ∷ []) ∷
    []) (ending.Returned returns.Implicit (given 2) [])
returns_the_call = refl

call_throws : runs (yields 0 ∷ yields 1 ∷ throws 2 ∷ [])
    ≡ traced (
    event (codes "truthy") [] (given 7 ∷ []) ∷ event (codes "global") (codes "f" ∷ []) [] ∷
    event (codes "call") (codes "place" ∷ []) (given 1 ∷ given 7 ∷ []) ∷
    []) (ending.Threw (given 2))
call_throws = refl
