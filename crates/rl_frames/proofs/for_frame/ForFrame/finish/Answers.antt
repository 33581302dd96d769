use Rattle.rl_frames.specs.Frames.{for_of}
use Rattle.rl_frames.proofs.Composes.{for_composes}
use Rattle.rl_frames.proofs.for_frame.ForFrame.finish.Goals as goal

pub returns-clause-composes : goal.returns-clause-composes
returns-clause-composes g c = for_composes (for_of c.args.self) _ _ _ c.in_ok-terminate_with_continuation.ensures.state
