use Rattle.rl_lint_hints.proofs.hints.put_path.Given as goal

abbrev pub decreases-around : goal.decreases-around
decreases-around l = l.next
