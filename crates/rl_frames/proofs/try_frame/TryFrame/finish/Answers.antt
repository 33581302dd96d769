use Rattle.rl_frames.specs.Frames.{try_of}
use Rattle.rl_frames.proofs.Composes.{try_finish}
use Rattle.rl_frames.proofs.try_frame.TryFrame.finish.Goals as goal

pub returns-clause-composes : goal.returns-clause-composes
returns-clause-composes g c =
    try_finish (try_of c.args.self) _ _ _ _ _ c.args.part c.close_handler.ensures.state c.goto-end.ensures c.in_ok-leave.ensures.state
    c.in_ok-terminate_with_continuation.ensures.state
