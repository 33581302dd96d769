use Rattle.rl_frames.specs.Frames.{label_of}
use Rattle.rl_frames.proofs.Composes.{label_finish}
use Rattle.rl_frames.proofs.label_frame.LabelFrame.finish.Goals as goal

pub returns-clause-composes : goal.returns-clause-composes
returns-clause-composes g c =
    label_finish (label_of c.args.self) _ _ _ _ _ c.args.part c.close_scope.ensures.state c.goto-end.ensures c.in_ok-leave.ensures.state
    c.in_ok-terminate_with_continuation.ensures.state
