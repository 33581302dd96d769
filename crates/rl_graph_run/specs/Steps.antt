-- The steps of runs.
use Rattle.std.specs.Prelude.{ℕ, Option, List}
use Rattle.std.specs.Option.{option_map_or}
use Rattle.rl_base.specs.declared.ids.FunctionId.{FunctionId}
use Rattle.rl_hir.specs.Pairs.{identifier_of}
use Rattle.rl_hir.specs.declared.function.Lowered.{Lowered}
use Rattle.rl_machine.specs.declared.trace.Answer.{Answer}
use Rattle.rl_machine.specs.declared.trace.Assignment.{Assignment}
use Rattle.rl_machine.specs.declared.trace.Value.{Value}
use Rattle.rl_model.specs.Worlds.{Function, function_in, others_in, world_in}
use Rattle.rl_graph_steps.specs.Graphs.{steps_in}

-- The number of steps that the machine makes in the run of a function of the result; none where there is no such function.
abbrev pub graph_steps_of : Lowered → (function : Option FunctionId) → List Assignment → List Value → List Answer → ℕ
graph_steps_of l function start arguments answers =
    option_map_or (λ (f : Function). steps_in f (identifier_of l.pairs) (world_in l f (others_in l function)) start arguments answers)
    (function_in l function) 0
