use Rattle.rl_frames.specs.Frames.{do_while_of}
use Rattle.rl_frames.proofs.Composes.{do_while_composes}
use Rattle.rl_frames.proofs.do_while_frame.DoWhileFrame.finish.Goals as goal

pub returns-clause-composes : goal.returns-clause-composes
returns-clause-composes g c = do_while_composes (do_while_of c.args.self) _ _ _ c.in_ok-finish.ensures.state
