use Rattle.std.proofs.Common.{ap, codes, ◌∙◌}
use Rattle.rl_machine.specs.declared.trace.Value.TheVariants as value
use Rattle.rl_model.specs.Actions.{ask}
use Rattle.rl_model.specs.Events as events
use Rattle.rl_source_stack.proofs.Goings.{goes_as}
use Rattle.rl_source_stack.specs.Controls.{from}
use Rattle.rl_source_stack.specs.States.{pushed, state_of}
use Rattle.rl_source_stack.specs.declared.behind.Behind.TheVariants as behind
use Rattle.rl_source_stack.specs.declared.stack.Frame.TheVariants as frame
use Rattle.rl_trace.specs.Values.{shown}
use Rattle.rl_source_expressions.proofs.targets.assign_default.Goals as goal

pub returns : goal.returns
returns c =
    goes_as c.ask_binary.result (state_of c.ask_binary.new.run)
    (ap (λ s. from (ask s.scene (events.binary (codes "===") (shown c.args.value) value.Undefined)) s)
    (c.in_ok-push-2.ensures ∙ ap (pushed (frame.Value (behind.Same c.args.value c.args.default))) c.in_ok-push.ensures))
    c.ask_binary.ensures
