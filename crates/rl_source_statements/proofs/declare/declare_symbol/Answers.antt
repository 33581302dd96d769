use Rattle.std.proofs.Common.{ap, sym, ◌∙◌}
use Rattle.rl_model.specs.Patterns.{declare}
use Rattle.rl_source_stack.specs.Controls.{from_normal, trace_of}
use Rattle.rl_source_stack.specs.States.{state_of}
use Rattle.rl_source_stack.specs.declared.control.Control.TheVariants as control
use Rattle.rl_trace.specs.Values.{shown}
use Rattle.rl_source_statements.proofs.declare.declare_symbol.Goals as goal

pub returns-in_ok-assign-in-Some : goal.returns-in_ok-assign-in-Some
returns-in_ok-assign-in-Some c =
    ap (trace_of control.Normal) c.in_ok-assign-in-Some.ensures
    ∙ ap (λ symbol. from_normal (declare symbol (shown c.args.value)) (state_of c.args.run.now)) (sym c.in-Some.is)
