use Rattle.std.proofs.Common.{option_map}
use Rattle.rl_ast.specs.BindingViews.{seen_identifier_reference}
use Rattle.rl_builder.specs.Builder.{state_of}
use Rattle.rl_lower_parts.proofs.ItemDerivations.{part_later, part_now_ok}
use Rattle.rl_lower_parts.specs.Patterns.{seen_part}
use Rattle.rl_names.specs.Seen.{seen}
use Rattle.rl_lower_parts.proofs.target_items.take_part.Goals as goal

pub returns-then-forced-clause-taken : goal.returns-then-forced-clause-taken
returns-then-forced-clause-taken g c = λ tree taken.
    part_later c.args.part (option_map seen_identifier_reference c.args.name) tree c.if-forced.true c.part_span.ensures
    c.in_ok-place.ensures.state c.in_ok-place.ensures.place c.in_ok-place.ensures.left taken

pub returns-clause-taken : goal.returns-clause-taken
returns-clause-taken g c =
    part_now_ok (seen c.args.names.now) (seen_part c.args.part) (option_map seen_identifier_reference c.args.name) c.args.left.now
    (state_of g.U.ReadsUnit.tables c.args.builder.now) (state_of g.U.ReadsUnit.tables c.direct_place.new.builder) c.direct_place.result
    c.if-forced.false c.direct_place.ensures.given
