-- The runs of the graphs of a result.
use Rattle.std.specs.Prelude.{ℕ, List, map}
use Rattle.rl_hir.specs.Blocks.{Pair as BlockPair}
use Rattle.rl_hir.specs.Pairs.{identifier_of}
use Rattle.rl_hir.specs.declared.function.HirFunction.{HirFunction}
use Rattle.rl_hir.specs.declared.function.Pair.{Pair}
use Rattle.rl_hir.specs.declared.function.Param.{Param}
use Rattle.rl_hir.specs.declared.function.Param.TheVariants as params
use Rattle.rl_machine.specs.Machine.{Graph, graph_trace}
use Rattle.rl_machine.specs.Traces.{World, waiting}
use Rattle.rl_machine.specs.declared.trace.Answer.{Answer}
use Rattle.rl_machine.specs.declared.trace.Assignment.{Assignment}
use Rattle.rl_machine.specs.declared.trace.Trace.{Trace}
use Rattle.rl_machine.specs.declared.trace.Value.{Value}

abbrev pub param_identifier : Param → ℕ
param_identifier (params.Place p) = p.identifier.0
param_identifier (params.Spread p) = p.identifier.0

-- The blocks of a function, with its instruction table.
abbrev pub graph_of : HirFunction (List BlockPair) → Graph
graph_of f = record { blocks = f.body.blocks; table = f.instructions; entry = f.body.entry }

-- The run of a function's graph in a world. A run that ends for another cause than that it returns, throws, or finds no answer left has
-- the trace `stuck`.
abbrev pub trace_by : (stuck : Trace) → World → HirFunction (List BlockPair) → List Pair → List Assignment → List Value → List Answer
    → Trace
trace_by stuck world f pairs start arguments answers =
    graph_trace stuck (graph_of f) (identifier_of pairs) world (map param_identifier f.params) start arguments answers

-- The run of a function's graph, which waits where it is stuck.
abbrev pub function_trace : World → HirFunction (List BlockPair) → List Pair → List Assignment → List Value → List Answer → Trace
function_trace world f = trace_by waiting world f
