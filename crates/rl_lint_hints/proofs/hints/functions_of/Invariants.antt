use Rattle.std.proofs.Common.{◌≡◌, ◌||◌, drop}
use Rattle.rl_lint_hints.specs.Hints.{any_labeled}
use Rattle.rl_lint_hints.proofs.hints.functions_of.Given as goal

abbrev pub invariant-nodes : goal.invariant-nodes
invariant-nodes l = (l.labeled || any_labeled (drop l.node-index l.nodes)) ≡ any_labeled l.nodes
