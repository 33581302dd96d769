use Rattle.rl_frames.specs.Rounds.{forof_of}
use Rattle.rl_frames.proofs.RoundComposes.{forof_composes}
use Rattle.rl_frames.proofs.for_of_frame.ForOfFrame.finish.Goals as goal

pub returns-clause-composes : goal.returns-clause-composes
returns-clause-composes g c = forof_composes (forof_of c.args.self) _ _ _ c.in_ok-finish.ensures.state
