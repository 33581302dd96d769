use Rattle.rl_lower_parts.proofs.ItemDerivations.{lost_taken}
use Rattle.rl_lower_parts.proofs.PropertyDerivations.{keyed_direct, keyed_told}
use Rattle.rl_names.specs.Seen.{seen}
use Rattle.rl_syntax.specs.Syntax.{syntax}
use Rattle.rl_lower_parts.proofs.target_items.take_keyed.Goals as goal

pub returns-in_default-clause-taken : goal.returns-in_default-clause-taken
returns-in_default-clause-taken g c = lost_taken c.requires.names (c.in_ok-key.ensures.lost c.in_default.is)

pub take_part-requires-clause-direct : goal.take_part-requires-clause-direct
take_part-requires-clause-direct g c =
    keyed_direct (seen c.args.names.now) c.args.forced (syntax c.args.value.tree.now) c.requires.direct
    (c.in_ok-key.ensures.met c.in-Some.key c.in-Some.is) c.plain_name.ensures

pub returns-in-Some-2-clause-taken : goal.returns-in-Some-2-clause-taken
returns-in-Some-2-clause-taken g c =
    keyed_told c.requires.names c.requires.direct (c.in_ok-key.ensures.met c.in-Some.key c.in-Some.is) c.plain_name.ensures
    c.in_ok-place.ensures.taken c.in-Some-2.is

pub returns-in-None-clause-taken : goal.returns-in-None-clause-taken
returns-in-None-clause-taken g c =
    keyed_told c.requires.names c.requires.direct (c.in_ok-key.ensures.met c.in-Some.key c.in-Some.is) c.plain_name.ensures
    c.in_ok-place.ensures.taken c.in-None.is
