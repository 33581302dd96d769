-- The definitions, tried on a small function: its runs and those of its graph.
use Rattle.std.proofs.Common.{◌≡◌, false, ℕ, Some, None, List, [], ◌∷◌, codes, refl}
use Rattle.rl_hir.specs.Blocks.{Pair as BlockPair}
use Rattle.rl_hir.specs.declared.function.BlockKind.TheVariants as kinds
use Rattle.rl_hir.specs.declared.function.HirFunction.{HirFunction}
use Rattle.rl_hir.specs.declared.function.Param.TheVariants as params
use Rattle.rl_hir.specs.declared.function.ReactFunctionType.TheVariants as types
use Rattle.rl_hir.specs.declared.instruction.Instruction.{Instruction}
use Rattle.rl_hir.specs.declared.instruction.InstructionValue.{InstructionValue}
use Rattle.rl_hir.specs.declared.instruction.InstructionValue.TheVariants as values
use Rattle.rl_hir.specs.declared.instruction.NonLocalBinding.TheVariants as bindings
use Rattle.rl_hir.specs.declared.instruction.Place.{Place}
use Rattle.rl_hir.specs.declared.instruction.PlaceOrSpread.TheVariants as arguments
use Rattle.rl_hir.specs.declared.terminal.ReturnVariant.TheVariants as returns
use Rattle.rl_hir.specs.declared.terminal.TerminalKind.TheVariants as ends
use Rattle.rl_machine.specs.Machine.{code_of, trace_in}
use Rattle.rl_machine.specs.Traces.{World, waiting}
use Rattle.rl_machine.specs.declared.trace.Answer.{Answer}
use Rattle.rl_machine.specs.declared.trace.AnswerKind.TheVariants.{Yes, Throw}
use Rattle.rl_machine.specs.declared.trace.Ending.TheVariants as ending
use Rattle.rl_machine.specs.declared.trace.Trace.{Trace}
use Rattle.rl_model.proofs.ExampleUnits.{answer, calls, called, function, given, loads, name, node, span, trace_of, unit_of}
use Rattle.rl_model.specs.Runs.{function_trace, graph_of, trace_by}
use Rattle.rl_syntax.specs.Syntax.{Syntax}
use Rattle.rl_syntax.specs.declared.word.Word.TheVariants as word

-- `(x) => { return f(x); }`
abbrev source : Syntax
source = function (codes "x" ∷ []) (node 11 word.Return (called 12 (name 13 (codes "f")) (name 14 (codes "x") ∷ []) ∷ []) ∷ [])

abbrev pub unit : Syntax
unit = unit_of source

-- Its graph.

abbrev place : (identifier : ℕ) → Place
place identifier = record { identifier = record { 0 = identifier }; span = None }

abbrev instruction : (identifier : ℕ) → InstructionValue → Instruction
instruction identifier v = record { order = record { 0 = identifier }; lvalue = place identifier; value = v; span = Some (span 12) }

abbrev pub graph : HirFunction (List BlockPair)
graph = record {
  span = Some (span 3);
  name = None;
  fn_type = types.Other;
  generator = false;
  is_async = false;
  directives = [];
  params = params.Place (record { identifier = record { 0 = 0 }; span = Some (span 6) }) ∷ [];
  context = [];
  returns = place 4;
  body = record {
    entry = record { 0 = 0 };
    blocks = (
      record { 0 = 0 },
      record {
        kind = kinds.Block;
        instructions = record { 0 = 0 } ∷ record { 0 = 1 } ∷ record { 0 = 2 } ∷ [];
        terminal = record { order = record { 0 = 4 }; span = None; kind = ends.Return returns.Explicit (place 3) };
        preds = [];
      },
    ) ∷ [];
  };
  instructions =
      instruction 1 (values.LoadGlobal (bindings.Global (codes "f"))) ∷
      instruction 2 (values.LoadLocal (place 0)) ∷
      instruction 3 (values.CallExpression (place 1) (arguments.Place (place 2) ∷ [])) ∷ [];
}

-- No other function shares a variable with this one.
abbrev no_world : World
no_world = record { opens = λ symbol. false; keeps = [] }

-- The runs of both with the argument 1 come to this trace.
record Both (answers : List Answer) (trace : Trace) : Type 0 where
  of_source : trace_of unit [] (given 1 ∷ []) answers ≡ trace
  of_graph : function_trace no_world graph [] [] (given 1 ∷ []) answers ≡ trace

-- With no answer they wait, and an event that is not answered is not recorded.
unanswered : Both [] (record { events = []; ending = ending.Waiting })
unanswered = record { of_source = refl; of_graph = refl }

answered_once : Both (answer Yes 2 ∷ []) (record { events = loads ∷ []; ending = ending.Waiting })
answered_once = record { of_source = refl; of_graph = refl }

answered : Both (answer Yes 2 ∷ answer Yes 3 ∷ []) (record { events = loads ∷ calls ∷ []; ending = ending.Returned returns.Explicit (given 3) [] })
answered = record { of_source = refl; of_graph = refl }

-- A thrown value ends the run.
load_throws : Both (answer Throw 2 ∷ answer Yes 3 ∷ []) (record { events = loads ∷ []; ending = ending.Threw (given 2) })
load_throws = record { of_source = refl; of_graph = refl }

call_throws : Both (answer Yes 2 ∷ answer Throw 3 ∷ []) (record { events = loads ∷ calls ∷ []; ending = ending.Threw (given 3) })
call_throws = record { of_source = refl; of_graph = refl }

-- The run of the graph in which at most `most` silent steps follow one another.
abbrev limited : (most : ℕ) → List Answer → Trace
limited most answers = trace_in waiting (code_of (graph_of graph) (λ symbol. None) no_world) most (record { 0 = 0 }) (0 ∷ []) [] (given 1 ∷ []) answers

-- A run that may take two silent steps in a row and no more is at its end: the load of `x` is followed by an event.
two_in_a_row : limited 2 (answer Yes 2 ∷ answer Yes 3 ∷ []) ≡ function_trace no_world graph [] [] (given 1 ∷ []) (answer Yes 2 ∷ answer Yes 3 ∷ [])
two_in_a_row = refl

-- The load of `x` is the last step if none may follow another.
none_in_a_row : limited 0 (answer Yes 2 ∷ answer Yes 3 ∷ []) ≡ record { events = loads ∷ []; ending = ending.Waiting }
none_in_a_row = refl

-- A run that finds no answer is not stuck.
waits_for_an_answer : (stuck : Trace) → trace_by stuck no_world graph [] [] (given 1 ∷ []) [] ≡ record { events = []; ending = ending.Waiting }
waits_for_an_answer stuck = refl
