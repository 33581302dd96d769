-- The traces of a unit's functions in the port's run.
use Rattle.std.specs.Prelude.{ℕ, Option, List}
use Rattle.std.specs.Option.{option_map}
use Rattle.rl_base.specs.declared.ids.SymbolId.{SymbolId}
use Rattle.rl_machine.specs.declared.trace.Answer.{Answer}
use Rattle.rl_machine.specs.declared.trace.Assignment.{Assignment}
use Rattle.rl_machine.specs.declared.trace.Trace.{Trace}
use Rattle.rl_machine.specs.declared.trace.Value.{Value}
use Rattle.rl_model.specs.Functions.{run_function}
use Rattle.rl_model.specs.PortedScenes.{ported_scene}
use Rattle.rl_model.specs.Source.{function_at}
use Rattle.rl_syntax.specs.Syntax.{Syntax}

-- As `source_trace_of`, in the port's run. `pick` gives the symbol that a function declaration stores to, by the `bind` of its name.
abbrev pub ported_trace_of : (u : Syntax) → (pick : (bind : ℕ) → Option SymbolId) → (function : Option ℕ) →
    List Assignment → List Value → List Answer → Option Trace
ported_trace_of u pick function start arguments answers =
    option_map (λ f. run_function (ported_scene u pick f) f start arguments answers) (function_at u function)
