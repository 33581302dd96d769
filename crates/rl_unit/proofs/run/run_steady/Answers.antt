use Rattle.std.proofs.Common.{arith}
use Rattle.rl_base.specs.Faults.{Rose}
use Rattle.rl_unit.proofs.Answering.{steady_answer}
use Rattle.rl_unit.proofs.run.run_steady.Goals as goal

never : Rose 0 0 → ⊥
never h = omega arith

pub returns : goal.returns
returns c =
    steady_answer c.run.result _ _ _ _ c.new-source.ensures.left c.run.ensures.explained (c.run.ensures.usage.1 c.requires)
    (λ is. never (c.run.ensures.read_cause is)) (λ is. never (c.run.ensures.write_cause is))
