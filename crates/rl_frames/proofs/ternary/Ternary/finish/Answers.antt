use Rattle.rl_frames.specs.Frames.{ternary_of}
use Rattle.rl_frames.proofs.Composes.{ternary_composes}
use Rattle.rl_frames.proofs.ternary.Ternary.finish.Goals as goal

pub returns-clause-composes : goal.returns-clause-composes
returns-clause-composes g c = ternary_composes (ternary_of c.args.self) _ _ _ c.in_ok-terminate_with_continuation.ensures.state
