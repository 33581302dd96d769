use Rattle.std.proofs.Common.{map, arith}
use Rattle.std.proofs.lemmas.Grind.{common_steps}
use Rattle.rl_rows.proofs.Found.{single_found}
use Rattle.rl_rows.proofs.tags.is_single.Goals as goal

pub returns-then-once : goal.returns-then-once
returns-then-once c = single_found c.args.name.now (map (λ t. t.now) c.args.found.now) _ (grind (arith, common_steps))

pub returns : goal.returns
returns c = single_found c.args.name.now (map (λ t. t.now) c.args.found.now) _ (grind (arith, common_steps))
