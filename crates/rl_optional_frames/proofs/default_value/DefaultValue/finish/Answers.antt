use Rattle.rl_optional_frames.specs.Frames.{default_of}
use Rattle.rl_optional_frames.proofs.Composes.{default_composes}
use Rattle.rl_optional_frames.proofs.default_value.DefaultValue.finish.Goals as goal

pub returns-clause-composes : goal.returns-clause-composes
returns-clause-composes g c = default_composes (default_of c.args.self) _ _ _ c.in_ok-place.ensures.state
