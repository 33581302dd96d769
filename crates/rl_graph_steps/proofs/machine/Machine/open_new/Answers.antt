use Rattle.std.proofs.Common.{◌≡◌, IfOk, subst}
use Rattle.rl_machine.specs.Acts.{gives}
use Rattle.rl_graph_steps.specs.States.{Ahead, came, fires, state_of}
use Rattle.rl_graph_steps.proofs.machine.Machine.open_new.Goals as goal

pub returns : goal.returns
returns c =
    subst (λ s. IfOk c.fire.result (λ g. (ahead : Ahead) → came ahead g (state_of c.args.self.now c.fire.new.run) ≡ fires ahead c.args.event
    (gives c.args.target.0) c.args.block.0 c.args.index s))
    c.in_ok-note.ensures c.fire.ensures
