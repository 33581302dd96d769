use Rattle.rl_frames.specs.Frames.{sequence_of}
use Rattle.rl_frames.proofs.Composes.{sequence_finish}
use Rattle.rl_frames.proofs.sequence.SequenceFrame.finish.Goals as goal

pub returns-clause-composes : goal.returns-clause-composes
returns-clause-composes g c =
    sequence_finish (sequence_of c.args.self) _ _ _ _ _ _ c.args.part c.in_ok-store_in.ensures.state c.goto-end.ensures
    c.in_ok-leave.ensures.state c.in_ok-terminate_with_continuation.ensures.state
