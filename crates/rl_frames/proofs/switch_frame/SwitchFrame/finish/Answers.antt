use Rattle.rl_frames.specs.SwitchParts.{switch_of}
use Rattle.rl_frames.proofs.SwitchComposes.{switch_finish}
use Rattle.rl_frames.proofs.switch_frame.SwitchFrame.finish.Goals as goal

pub returns-clause-composes : goal.returns-clause-composes
returns-clause-composes g c =
    switch_finish (switch_of c.args.self) _ _ _ _ c.in_ok-cases.ensures c.in_ok-terminate_with_continuation.ensures.state
