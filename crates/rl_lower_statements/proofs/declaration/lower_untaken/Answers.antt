use Rattle.rl_builder.specs.Builder.{state_of}
use Rattle.rl_syntax.specs.Syntax.{syntax}
use Rattle.rl_lower_statements.proofs.DeclarationDerivations.{untaken_named, untaken_room, untaken_told}
use Rattle.rl_lower_statements.proofs.declaration.lower_untaken.Goals as goal

pub lower_pattern-requires-clause-names : goal.lower_pattern-requires-clause-names
lower_pattern-requires-clause-names g c =
    untaken_named c.args.span (state_of g.U.ReadsUnit.tables c.args.builder.now) _ c.in_ok-value.ensures.state c.requires.names

pub lower_pattern-requires-clause-room : goal.lower_pattern-requires-clause-room
lower_pattern-requires-clause-room g c =
    untaken_room c.args.span (syntax c.args.pattern.tree.now) (state_of g.U.ReadsUnit.tables c.args.builder.now) _
    c.in_ok-value.ensures.state c.requires.room

pub returns-clause-lowered : goal.returns-clause-lowered
returns-clause-lowered g c =
    untaken_told c.requires.apart c.in_ok-value.ensures.state c.in_ok-value.ensures.place c.in_ok-lower_pattern.ensures.lowered
    c.requires.names
