use Rattle.std.proofs.Common.{◌≡◌, IfOk, ap, subst}
use Rattle.rl_source_stack.specs.Controls.{from, trace_of}
use Rattle.rl_source_stack.specs.Parts.{gathering, parts_among}
use Rattle.rl_source_stack.specs.States.{state_of}
use Rattle.rl_source_gather.proofs.gather.gather_one.Goals as goal

pub returns : goal.returns
returns c =
    subst (λ t. IfOk c.gather.result (λ d. trace_of d (state_of c.gather.new.run) ≡ t))
    (ap (λ g. from (gathering (state_of c.args.run.now).scene c.args.what (parts_among c.args.left) g) (state_of c.args.run.now))
    c.in_ok-given.ensures)
    c.gather.ensures
