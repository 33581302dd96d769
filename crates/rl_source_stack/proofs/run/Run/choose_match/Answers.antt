use Rattle.std.proofs.Common.{◌≡◌, IfOk, subst}
use Rattle.rl_source_stack.specs.Controls.{tested_in, trace_of}
use Rattle.rl_source_stack.specs.States.{state_of}
use Rattle.rl_source_stack.proofs.run.Run.choose_match.Goals as goal

pub returns : goal.returns
returns c =
    subst (λ x. IfOk c.choose.result (λ d. trace_of d (state_of c.choose.new.self)
    ≡ tested_in x c.args.if_yes c.args.if_no (state_of c.args.self.now)))
    c.in_ok-event.ensures c.choose.ensures
