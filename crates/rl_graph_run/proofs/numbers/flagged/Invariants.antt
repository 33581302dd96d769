use Rattle.std.proofs.Common.{◌≡◌, ◌++◌, drop, filter}
use Rattle.rl_code.specs.Flags.{flag_at}
use Rattle.rl_graph_run.proofs.numbers.flagged.Given as goal

-- Those found so far and those among the numbers that are left are all.
abbrev pub invariant-numbers : goal.invariant-numbers
invariant-numbers l = l.found.items ++ filter (flag_at l.flags) (drop l.number-index l.numbers) ≡ filter (flag_at l.flags) l.numbers
