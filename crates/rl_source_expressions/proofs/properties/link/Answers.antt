use Rattle.std.proofs.Common.{sym, ap}
use Rattle.rl_source_stack.proofs.Goings.{goes_as}
use Rattle.rl_source_stack.specs.Controls.{trace_of}
use Rattle.rl_source_stack.specs.States.{state_of}
use Rattle.rl_source_stack.specs.declared.control.Control.TheVariants as control
use Rattle.rl_source_expressions.proofs.properties.link.Goals as goal

pub returns-in-Named : goal.returns-in-Named
returns-in-Named c =
    goes_as c.use_property.result (state_of c.use_property.new.run)
    (ap (λ p. trace_of (control.Link p c.args.purpose c.args.object) (state_of c.args.run.now)) (sym c.in-Named.is))
    c.use_property.ensures

pub returns-in-Computed : goal.returns-in-Computed
returns-in-Computed c =
    goes_as c.link_computed.result (state_of c.link_computed.new.run)
    (ap (λ p. trace_of (control.Link p c.args.purpose c.args.object) (state_of c.args.run.now)) (sym c.in-Computed.is))
    c.link_computed.ensures
