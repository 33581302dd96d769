use Rattle.rl_builder.specs.Builder.{State, state_of}
use Rattle.rl_lower_expressions.proofs.ChainDerivations.{alone_ok, asserted_ok, broken_ok, called_link_ok, callee_ok}
use Rattle.rl_lower_expressions.proofs.ChainDerivations.{handed_ok, lent_ok, opened_named, opened_room, opens_ok, outermost_ok}
use Rattle.rl_lower_expressions.proofs.ChainDerivations.{private_link_ok, property_link_ok, refused_grown}
use Rattle.rl_lower_expressions.proofs.ChainPlaces.{off_spine}
use Rattle.rl_lower_expressions.proofs.Derivations.{index_told, member_told}
use Rattle.rl_lower_parts.proofs.Derivations.{grown}
use Rattle.rl_lower_expressions.proofs.MemberDerivations.{static_key}
use Rattle.rl_lowered.specs.Forms.{is_property}
use Rattle.rl_lowered.specs.Promised.{share}
use Rattle.rl_names.specs.Seen.{seen}
use Rattle.rl_runs.specs.Blocks.{size_of}
use Rattle.rl_syntax.specs.Syntax.{nodes, nodes_of, pieces_of, syntax}
use Rattle.std.proofs.lemmas.Bool.{and_parts}
use Rattle.std.proofs.Common.{rules, ℕ, ◌+◌, ◌≤◌, map, refl, sym, arith}
use Rattle.rl_lower_expressions.proofs.+expressions.Goals as goal

pub chain::lower_called_link-returns-clause-lowered : goal.chain::lower_called_link-returns-clause-lowered
chain::lower_called_link-returns-clause-lowered g t c =
    called_link_ok c.args.at c.in_ok-arguments.arguments c.args.optional c.in_ok-opened.opened c.close_link.result
    (state_of g.U.ReadsUnit.tables c.close_link.new.builder) c.in_ok-opened.ensures.lowered c.in_ok-arguments.ensures.lowered
    c.in_ok-value.ensures c.in_ok-value-2.ensures.state c.in_ok-value-2.ensures.place
    c.close_link.ensures.state c.close_link.ensures.front c.close_link.ensures.place

pub chain::lower_called_link-close_link-requires : goal.chain::lower_called_link-close_link-requires
chain::lower_called_link-close_link-requires g t c =
    let s : State = state_of g.U.ReadsUnit.tables c.args.builder.now in
    let s1 : State = state_of g.U.ReadsUnit.tables c.open_link.new.builder in
    let s2 : State = state_of g.U.ReadsUnit.tables c.lower_arguments.new.builder in
    let s3 : State = state_of g.U.ReadsUnit.tables c.lower_value_to_temporary.new.builder in
    let callee : ℕ = nodes (syntax c.args.callee.tree.now) in
    let count : ℕ = nodes_of (pieces_of (map syntax c.args.arguments.trees.now)) in
    let first : size_of s1 ≤ size_of s + (14 + share callee) = c.in_ok-opened.ensures.lowered.size in
    let second : size_of s2 ≤ size_of s1 + share count = c.in_ok-arguments.ensures.lowered.size in
    let third : size_of s3 ≤ size_of s2 + 4 = grown s2 s3 _ _ c.in_ok-value-2.ensures.state in
    record { room = omega (arith, first, second, third, c.requires.room) }

pub chain::lower_computed_link-returns-clause-lowered : goal.chain::lower_computed_link-returns-clause-lowered
chain::lower_computed_link-returns-clause-lowered g t c =
    property_link_ok c.args.at c.args.optional c.in_ok-opened.opened _ c.load_link.result
    (state_of g.U.ReadsUnit.tables c.load_link.new.builder) c.in_ok-opened.ensures.lowered c.in_ok-key.ensures.lowered
    c.load_link.ensures.state c.load_link.ensures.front c.load_link.ensures.place

pub chain::lower_front-returns-then-lends-clause-lowered : goal.chain::lower_front-returns-then-lends-clause-lowered
chain::lower_front-returns-then-lends-clause-lowered g t c =
    callee_ok (seen c.args.names.now) (syntax c.args.expression.tree.now) (state_of g.U.ReadsUnit.tables c.args.builder.now)
    (state_of g.U.ReadsUnit.tables c.lower_lent.new.builder) c.args.alternate c.args.called c.lower_lent.result
    (and_parts c.args.called (is_property (syntax c.args.expression.tree.now)) (sym c.if-lends.ensures)).0 c.lower_lent.ensures.lowered

pub chain::lower_front-returns-clause-lowered : goal.chain::lower_front-returns-clause-lowered
chain::lower_front-returns-clause-lowered g t c =
    alone_ok c.args.alternate c.args.called (sym c.if-lends.ensures) c.in_ok-place.ensures.lowered

pub chain::lower_front-lower_lent-requires : goal.chain::lower_front-lower_lent-requires
chain::lower_front-lower_lent-requires g t c =
    let free = off_spine (seen c.args.names.now) (syntax c.args.expression.tree.now) c.args.expression.fit (sym c.if-has_optional.ensures)
    c.requires.may in
    λ lifetimes outlives. (search rules, (search rules, (search rules, (search rules, (free, search rules)))))

pub chain::lower_front-lower_expression-requires : goal.chain::lower_front-lower_expression-requires
chain::lower_front-lower_expression-requires g t c =
    let free = off_spine (seen c.args.names.now) (syntax c.args.expression.tree.now) c.args.expression.fit (sym c.if-has_optional.ensures)
    c.requires.may in
    λ lifetimes outlives. (search rules, (search rules, (search rules, (free, search rules))))

pub chain::lower_inner-returns-then-is_assertion-clause-lowered : goal.chain::lower_inner-returns-then-is_assertion-clause-lowered
chain::lower_inner-returns-then-is_assertion-clause-lowered g t c =
    broken_ok c.args.alternate c.args.called refl (sym c.if-is_assertion.ensures) c.in_ok-place.ensures.lowered.by

pub chain::lower_inner-returns-clause-lowered : goal.chain::lower_inner-returns-clause-lowered
chain::lower_inner-returns-clause-lowered g t c =
    handed_ok c.args.alternate c.args.called c.lends-lends.result c.handed_on.result c.lends-lends.ensures c.handed_on.ensures
    c.in_ok-link.ensures.lowered

pub chain::lower_lent-returns-in_ok-member-in-Member-clause-lowered : goal.chain::lower_lent-returns-in_ok-member-in-Member-clause-lowered
chain::lower_lent-returns-in_ok-member-in-Member-clause-lowered g t c =
    lent_ok c.in_ok-member-in-Member.member c.lend.result (state_of g.U.ReadsUnit.tables c.lend.new.builder)
    (member_told (seen c.args.names.now) c.in-Member.optional c.in-Member.ensures c.requires.may)
    c.in_ok-member-in-Member.ensures.lowered c.lend.ensures.state c.lend.ensures.front

pub chain::lower_lent-returns-in_ok-member-in-Index-clause-lowered : goal.chain::lower_lent-returns-in_ok-member-in-Index-clause-lowered
chain::lower_lent-returns-in_ok-member-in-Index-clause-lowered g t c =
    lent_ok c.in_ok-member-in-Index.member c.lend-in-Index.result (state_of g.U.ReadsUnit.tables c.lend-in-Index.new.builder)
    (index_told (seen c.args.names.now) c.in-Index.optional c.in-Index.ensures c.requires.may)
    c.in_ok-member-in-Index.ensures.lowered c.lend-in-Index.ensures.state c.lend-in-Index.ensures.front

pub chain::lower_private_link-returns-clause-lowered : goal.chain::lower_private_link-returns-clause-lowered
chain::lower_private_link-returns-clause-lowered g t c =
    private_link_ok c.args.at c.args.property.now c.args.optional c.in_ok-opened.opened c.close_link.result
    (state_of g.U.ReadsUnit.tables c.close_link.new.builder) c.in_ok-opened.ensures.lowered
    c.in_ok-value.ensures.state c.in_ok-value.ensures.place
    c.close_link.ensures.state c.close_link.ensures.front c.close_link.ensures.place

pub chain::lower_private_link-close_link-requires : goal.chain::lower_private_link-close_link-requires
chain::lower_private_link-close_link-requires g t c =
    let s : State = state_of g.U.ReadsUnit.tables c.args.builder.now in
    let s1 : State = state_of g.U.ReadsUnit.tables c.open_link.new.builder in
    let s2 : State = state_of g.U.ReadsUnit.tables c.refuse_as_undefined.new.builder in
    let first : size_of s1 ≤ size_of s + (14 + share (nodes (syntax c.args.object.tree.now))) = c.in_ok-opened.ensures.lowered.size in
    let second : size_of s2 ≤ size_of s1 + 4 = refused_grown s1 s2 c.args.at.span c.in_ok-value.ensures.state in
    record { room = omega (arith, first, second, c.requires.room) }

pub chain::lower_spine-returns-then-not-is_assertion-clause-lowered : goal.chain::lower_spine-returns-then-not-is_assertion-clause-lowered
chain::lower_spine-returns-then-not-is_assertion-clause-lowered g t c = outermost_ok c.args.below c.in_ok-link.ensures.lowered

pub chain::lower_spine-returns-clause-lowered : goal.chain::lower_spine-returns-clause-lowered
chain::lower_spine-returns-clause-lowered g t c =
    asserted_ok (seen c.args.names.now) c.args.below (state_of g.U.ReadsUnit.tables c.args.builder.now)
    (state_of g.U.ReadsUnit.tables c.lower_spine.new.builder) c.lower_spine.result c.in-NonNull.ensures c.requires.optional
    c.in_ok-refuse_below-in-NonNull.ensures.state c.lower_spine.ensures.lowered

pub chain::lower_static_link-returns-clause-lowered : goal.chain::lower_static_link-returns-clause-lowered
chain::lower_static_link-returns-clause-lowered g t c =
    property_link_ok c.args.at c.args.optional c.in_ok-opened.opened _ c.load_link.result
    (state_of g.U.ReadsUnit.tables c.load_link.new.builder) c.in_ok-opened.ensures.lowered (static_key _ c.in_ok-copy.ensures)
    c.load_link.ensures.state c.load_link.ensures.front c.load_link.ensures.place

pub chain::open_link-returns-clause-lowered : goal.chain::open_link-returns-clause-lowered
chain::open_link-returns-clause-lowered g t c =
    opens_ok c.args.at c.args.alternate c.args.optional (state_of g.U.ReadsUnit.tables c.args.builder.now)
    (state_of g.U.ReadsUnit.tables c.object.new.b) c.in_ok-front.front c.tested.result c.object.new.self c.in_ok-link.ensures.state
    c.in_ok-link.ensures.frame c.alternate-early.ensures c.in_ok-front.ensures.lowered c.tested.ensures c.in_ok-object.ensures.state
    c.in_ok-object.ensures.frame

pub chain::open_link-lower_front-requires : goal.chain::open_link-lower_front-requires
chain::open_link-lower_front-requires g t c =
    let count : ℕ = nodes (syntax c.args.expression.tree.now) in
    let s : State = state_of g.U.ReadsUnit.tables c.args.builder.now in
    let b : State = state_of g.U.ReadsUnit.tables c.begin.new.b in
    let named = opened_named c.args.alternate s b c.args.at.span c.in_ok-link.ensures.state c.requires.names in
    let roomy = opened_room c.args.alternate s b c.args.at.span (share count) (share (count + 1)) c.in_ok-link.ensures.state (omega arith)
    c.requires.room in
    λ lifetimes outlives. (search rules, (search rules, (named, (c.requires.may, roomy))))
