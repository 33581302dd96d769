use Rattle.rl_optional_frames.specs.Frames.{link_of}
use Rattle.rl_optional_frames.proofs.Composes.{link_composes}
use Rattle.rl_optional_frames.proofs.chain_link.ChainLink.finish.Goals as goal

pub returns-clause-composes : goal.returns-clause-composes
returns-clause-composes g c = link_composes (link_of c.args.self) _ _ _ c.in_ok-place.ensures.state
