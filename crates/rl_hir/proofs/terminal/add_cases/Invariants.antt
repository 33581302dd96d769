use Rattle.std.proofs.Common.{◌≡◌, ◌++◌, map, take}
use Rattle.rl_hir.proofs.terminal.add_cases.Given as goal

abbrev pub invariant-loop-case : goal.invariant-loop-case
invariant-loop-case l = l.ids.items ≡ l.fn.ids.items ++ map (λ c. c.block) (take l.case-index l.cases)
