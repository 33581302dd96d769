use Rattle.rl_syntax.specs.Sizes.{size}
use Rattle.rl_syntax.specs.Syntax.{syntax}
use Rattle.rl_source_gather.proofs.jsx.+evaluate_member.Given as goal

abbrev pub decreases-evaluate_member : goal.decreases-evaluate_member
decreases-evaluate_member l = size (syntax l.object.tree.now)
