use Rattle.std.proofs.Common.{◌≡◌, ◌++◌, map, take}
use Rattle.rl_order.proofs.step.push_visits.Given as goal
use Rattle.rl_order.specs.Walk.{visit}
use Rattle.rl_order.specs.declared.tasks.Task.TheVariants as tasks_of

abbrev pub invariant-loop-id : goal.invariant-loop-id
invariant-loop-id l = l.tasks.items ≡ l.fn.tasks.items ++ map (λ id. tasks_of.Enter (visit l.used id)) (take l.id-index l.ids)
