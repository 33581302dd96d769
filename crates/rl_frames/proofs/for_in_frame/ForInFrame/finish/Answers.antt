use Rattle.rl_frames.specs.Rounds.{forin_of}
use Rattle.rl_frames.proofs.RoundComposes.{forin_composes}
use Rattle.rl_frames.proofs.for_in_frame.ForInFrame.finish.Goals as goal

pub returns-clause-composes : goal.returns-clause-composes
returns-clause-composes g c = forin_composes (forin_of c.args.self) _ _ _ c.in_ok-finish.ensures.state
