use Rattle.std.proofs.Common.{◌≡◌, ◌∙◌, ap, arith}
use Rattle.rl_trace.specs.Variables.{store_in}
use Rattle.rl_trace.proofs.Stores.{store_far, store_set}
use Rattle.rl_trace.proofs.variables.Variables.set.Goals as goal

pub returns-then-index-len : goal.returns-then-index-len
returns-then-index-len c = store_set c.args.self.now.near.items c.args.self.now.far.items c.args.number c.args.value (omega arith)

pub returns : goal.returns
returns c =
    ap (store_in c.args.self.now.near.items) c.in_ok-push.ensures.items
    ∙ store_far c.args.self.now.near.items c.args.self.now.far.items (record { number = c.args.number; value = c.args.value }) (omega arith)
