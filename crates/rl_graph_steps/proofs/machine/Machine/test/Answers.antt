use Rattle.std.proofs.Common.{◌≡◌, Some, IfOk, subst}
use Rattle.rl_machine.specs.Ends.{Chooses}
use Rattle.rl_graph_steps.specs.States.{Ahead, branches, came, state_of}
use Rattle.rl_graph_steps.proofs.machine.Machine.test.Goals as goal

pub returns : goal.returns
returns c =
    subst (λ s. IfOk c.choose_at.result (λ g. (ahead : Ahead) → came ahead g (state_of c.args.self.now c.choose_at.new.run) ≡ branches ahead
    (Some Chooses) c.args.test.0 c.args.consequent c.args.alternate s))
    c.in_ok-note.ensures c.choose_at.ensures
