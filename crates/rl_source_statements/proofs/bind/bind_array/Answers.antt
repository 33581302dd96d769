use Rattle.std.proofs.Common.{ap, ◌∙◌}
use Rattle.rl_source_stack.specs.Controls.{apart_in}
use Rattle.rl_source_stack.specs.States.{State, pushed, state_of}
use Rattle.rl_source_stack.specs.declared.apart.Apart.TheVariants as apart
use Rattle.rl_source_stack.specs.declared.apart.Bindings.TheVariants as bindings
use Rattle.rl_source_stack.specs.declared.stack.Frame.TheVariants as frame
use Rattle.rl_source_stack.proofs.Goings.{goes_as}
use Rattle.rl_source_statements.proofs.bind.bind_array.Goals as goal

pub returns : goal.returns
returns c =
    let old : State = state_of c.args.run.now in
    goes_as c.ask_pieces.result (state_of c.ask_pieces.new.self)
    (ap (apart_in c.in_ok-event.event) c.in_ok-push.ensures
    ∙ ap (λ e. apart_in e (pushed (frame.Pieces (apart.Bind c.args.everywhere (bindings.Elements c.args.items) c.args.rest)) old))
    c.in_ok-event.ensures)
    c.ask_pieces.ensures
