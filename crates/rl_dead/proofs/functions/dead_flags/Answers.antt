use Rattle.std.proofs.Common.{ap, ◌∙◌}
use Rattle.rl_dead.specs.Ranges.{is_covered}
use Rattle.rl_dead.proofs.functions.dead_flags.Goals as goal

pub returns : goal.returns
returns c n = c.in_ok-flags.ensures n ∙ c.in_ok-ids.ensures n ∙ ap (λ l. is_covered l n) c.as_slice.ensures.value ∙ c.in_ok-dead.ensures n
