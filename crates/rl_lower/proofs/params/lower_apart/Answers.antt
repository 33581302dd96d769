use Rattle.rl_builder.specs.Builder.{state_of}
use Rattle.rl_syntax.specs.Syntax.{nodes, syntax}
use Rattle.rl_lower.proofs.ParamDerivations.{apart_param, promoted_named, promoted_room}
use Rattle.rl_lower_statements.proofs.PatternDerivations.{pattern_node}
use Rattle.rl_lower.proofs.params.lower_apart.Goals as goal

pub lower_pattern-requires-clause-names : goal.lower_pattern-requires-clause-names
lower_pattern-requires-clause-names g c =
    promoted_named c.args.at.span (state_of g.U.ReadsUnit.tables c.args.builder.now) _ c.in_ok-place.ensures.state c.requires.names

pub lower_pattern-requires-clause-room : goal.lower_pattern-requires-clause-room
lower_pattern-requires-clause-room g c =
    promoted_room c.args.at.span (state_of g.U.ReadsUnit.tables c.args.builder.now) _ (nodes (syntax c.args.pattern.tree.now))
    c.in_ok-place.ensures.state (pattern_node (syntax c.args.pattern.tree.now) c.args.pattern.fit) c.requires.room

pub returns-clause-lowered : goal.returns-clause-lowered
returns-clause-lowered g c =
    apart_param c.requires.apart c.in_ok-place.ensures.state c.in_ok-place.ensures.place c.in_ok-lower_pattern.ensures.lowered
    c.requires.names
