use Rattle.rl_lint.proofs.Declaring.{found_declared}
use Rattle.rl_lint.proofs.names.UnitNames.declared.Goals as goal

pub returns-then-declaration-node : goal.returns-then-declaration-node
returns-then-declaration-node c =
    let names = c.args.self.now in
    found_declared names.bindings.now.declarations c.next_row.result c.args.node.0 c.in-Some.declaration.now names.in_order names.ordered
    c.if-self.true c.in-Some.ensures c.if-declaration-node.true
