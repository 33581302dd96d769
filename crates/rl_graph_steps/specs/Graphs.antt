-- The traces of functions.
use Rattle.std.specs.Prelude.{ℕ, Option, true, List, [], map}
use Rattle.rl_hir.specs.Blocks.{Pair}
use Rattle.rl_hir.specs.declared.function.HirFunction.{HirFunction}
use Rattle.rl_hir.specs.declared.function.Param.{Param}
use Rattle.rl_hir.specs.declared.function.Param.TheVariants as params
use Rattle.rl_hir.specs.declared.instruction.Instruction.{Instruction}
use Rattle.rl_machine.specs.Ends.{no_notes}
use Rattle.rl_machine.specs.Machine.{Code, code_in, graph_trace, positions, set_by, start_store, steps_for}
use Rattle.rl_machine.specs.Traces.{World, take_values, unset, waiting}
use Rattle.rl_machine.specs.declared.trace.Answer.{Answer}
use Rattle.rl_machine.specs.declared.trace.Assignment.{Assignment}
use Rattle.rl_machine.specs.declared.trace.Trace.{Trace}
use Rattle.rl_machine.specs.declared.trace.Value.{Value}
use Rattle.rl_trace.specs.Shared.{ident_of, world_of}
use Rattle.rl_trace.specs.declared.shared.Shared.{Shared}
use Rattle.rl_graph_steps.specs.Runs.{made}
use Rattle.rl_graph_steps.specs.States.{State}

-- The identifier that takes the argument of a parameter.
abbrev pub parameter : Param → ℕ
parameter (params.Place p) = p.identifier.0
parameter (params.Spread p) = p.identifier.0

-- A run that begins: the start values are set, and the parameters have their arguments.
abbrev pub begins : List Pair → List Instruction → Shared → (params : List ℕ) → List Assignment → List Value → List Answer → State
begins blocks table shared params start arguments answers = record {
  blocks = blocks;
  table = table;
  notes = no_notes;
  seen = record {
    ident = ident_of shared.numbers;
    world = world_of shared;
    store = take_values params arguments (set_by (ident_of shared.numbers) (λ symbol. true) start unset);
    answers = answers;
    events = [];
  };
}

-- The trace of a function's graph in a world. A run that is stuck waits.
abbrev pub trace_of : HirFunction (List Pair) → (ident : ℕ → Option ℕ) → World → List Assignment → List Value → List Answer → Trace
trace_of f ident world start arguments answers =
    graph_trace waiting (record { blocks = f.body.blocks; table = f.instructions; entry = f.body.entry }) ident world
    (map parameter f.params)
    start arguments answers

-- The number of steps of that run.
abbrev pub steps_in : HirFunction (List Pair) → (ident : ℕ → Option ℕ) → World → List Assignment → List Value → List Answer → ℕ
steps_in f ident world start arguments answers =
    let c : Code = code_in f.body.blocks f.instructions ident world in
    let most : ℕ = positions f.body.blocks in
    made c most (steps_for answers most) most f.body.entry.0 0 (start_store c (map parameter f.params) start arguments) no_notes answers
