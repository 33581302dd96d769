use Rattle.std.proofs.Common.{refl}
use Rattle.rl_names.specs.Seen.{seen}
use Rattle.rl_lower_statements.proofs.ItemDerivations.{left_rest_ok, name_may, named_rest_ok}
use Rattle.rl_lower_statements.proofs.pattern_items.bind_rest.Goals as goal

pub name_place-requires-clause-free : goal.name_place-requires-clause-free
name_place-requires-clause-free g c = name_may {names = seen c.args.names.now} c.in-Some.name c.in-Some.ensures.name c.requires.may

pub returns-in-Some-clause-bound : goal.returns-in-Some-clause-bound
returns-in-Some-clause-bound g c =
    named_rest_ok (seen c.args.names.now) c.args.again _ c.args.at c.name_place.result c.in-Some.name _ _ c.in-Some.ensures.name
    c.name_place.ensures.placed

pub returns-in-None-clause-bound : goal.returns-in-None-clause-bound
returns-in-None-clause-bound g c =
    left_rest_ok (seen c.args.names.now) c.args.again _ _ c.args.at c.leave.result _ _ _ refl c.in-None.ensures.name c.leave.ensures.state
    c.leave.ensures.place c.leave.ensures.left
