use Rattle.std.proofs.Common.{arith}
use Rattle.rl_order.proofs.Loop.{begins, ends, falls, goes_on, stops}
use Rattle.rl_order.proofs.order.walk.Goals as goal

pub loop-task-init : goal.loop-task-init
loop-task-init g c =
    begins (g.B.Blocks.pairs c.args.blocks.now) c.args.entry c.new-tasks.result.items c.push.new.self.items
    c.in_ok-walked.walked c.args.steps.now c.requires c.new-tasks.ensures.items c.in_ok-push.ensures.items
    c.in_ok-walked.ensures

pub loop-task-smaller : goal.loop-task-smaller
loop-task-smaller g c =
    falls (g.B.Blocks.pairs c.args.blocks.now) c.args.entry c.loop-task.tasks.items c.pop.new.self.items c.in-Some.task
    c.loop-task.walked c.args.steps.now c.loop-task.steps c.do_task.new.tasks.items c.do_task.new.walked
    c.loop-task.invariant c.in-Some.ensures.items c.in_ok-do_task.ensures.tasks c.in_ok-do_task.ensures.walked

pub loop-task-preserved : goal.loop-task-preserved
loop-task-preserved g c =
    goes_on (g.B.Blocks.pairs c.args.blocks.now) c.args.entry c.loop-task.tasks.items c.pop.new.self.items c.in-Some.task
    c.loop-task.walked c.args.steps.now c.loop-task.steps c.do_task.new.tasks.items c.do_task.new.walked c.do_task.new.steps
    c.requires c.loop-task.invariant c.in-Some.ensures.items c.in_ok-do_task.ensures.tasks c.in_ok-do_task.ensures.walked
    c.in_ok-do_task.ensures.cost

pub returns-in_err-do_task-clause-cost : goal.returns-in_err-do_task-clause-cost
returns-in_err-do_task-clause-cost g c =
    stops (g.B.Blocks.pairs c.args.blocks.now) c.args.entry c.loop-task.tasks.items c.pop.new.self.items c.in-Some.task
    c.loop-task.walked c.args.steps.now c.loop-task.steps c.do_task.new.steps
    c.loop-task.invariant c.in-Some.ensures.items c.in_err-do_task.ensures.cost

pub returns-clause-walk : goal.returns-clause-walk
returns-clause-walk g c =
    (ends (g.B.Blocks.pairs c.args.blocks.now) c.args.entry c.loop-task.tasks.items c.loop-task.walked c.args.steps.now
    c.loop-task.steps c.loop-task.invariant (omega (arith, c.in_default.ensures.cases.0))).0

pub returns-clause-steps : goal.returns-clause-steps
returns-clause-steps g c =
    ends (g.B.Blocks.pairs c.args.blocks.now) c.args.entry c.loop-task.tasks.items c.loop-task.walked c.args.steps.now
    c.loop-task.steps c.loop-task.invariant (omega (arith, c.in_default.ensures.cases.0))
