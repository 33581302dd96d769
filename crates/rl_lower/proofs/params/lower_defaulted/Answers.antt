use Rattle.rl_builder.specs.Builder.{state_of}
use Rattle.rl_syntax.specs.Syntax.{syntax}
use Rattle.rl_lower.proofs.ParamDerivations.{behind_room, default_room, defaulted_param, promoted_named}
use Rattle.rl_lower.proofs.params.lower_defaulted.Goals as goal

pub lower_default-requires-clause-names : goal.lower_default-requires-clause-names
lower_default-requires-clause-names g c =
    promoted_named c.args.at.span (state_of g.U.ReadsUnit.tables c.args.builder.now) _ c.in_ok-place.ensures.state c.requires.names

pub lower_default-requires-clause-room : goal.lower_default-requires-clause-room
lower_default-requires-clause-room g c =
    default_room c.args.at.span (syntax c.args.pattern.tree.now) (syntax c.args.default.tree.now)
    (state_of g.U.ReadsUnit.tables c.args.builder.now) _ c.in_ok-place.ensures.state c.args.pattern.fit c.requires.room

pub lower_pattern-requires-clause-names : goal.lower_pattern-requires-clause-names
lower_pattern-requires-clause-names g c = c.in_ok-value.ensures.defaulted.named

pub lower_pattern-requires-clause-room : goal.lower_pattern-requires-clause-room
lower_pattern-requires-clause-room g c =
    behind_room (syntax c.args.pattern.tree.now) (state_of g.U.ReadsUnit.tables c.args.builder.now)
    (state_of g.U.ReadsUnit.tables c.make_promoted.new.builder) _
    c.in_ok-place.ensures.state c.in_ok-value.ensures.defaulted c.requires.room

pub returns-clause-lowered : goal.returns-clause-lowered
returns-clause-lowered g c =
    defaulted_param c.in_ok-place.ensures.state c.in_ok-place.ensures.place c.in_ok-value.ensures.defaulted
    c.in_ok-lower_pattern.ensures.lowered
