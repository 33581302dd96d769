use Rattle.rl_builder.specs.Builder.{state_of}
use Rattle.rl_grammar.specs.declared.kind.Kind.TheVariants as kind
use Rattle.rl_lower_parts.proofs.TargetTrees.{one_there}
use Rattle.rl_syntax.specs.Syntax.{syntax}
use Rattle.rl_lower_statements.proofs.DeclarationDerivations.{taken_room, taken_told}
use Rattle.rl_lower_statements.proofs.declaration.lower_taken.Goals as goal

pub lower_pattern-requires-clause-room : goal.lower_pattern-requires-clause-room
lower_pattern-requires-clause-room g c =
    taken_room (syntax c.args.pattern.tree.now) (state_of g.U.ReadsUnit.tables c.args.builder.now) _
    c.in_ok-value.ensures.lowered c.requires.room

pub returns-clause-lowered : goal.returns-clause-lowered
returns-clause-lowered g c =
    taken_told c.requires.apart (one_there kind.Expression (syntax c.args.init.tree.now) c.args.init.fit) c.in_ok-value.ensures.lowered
    c.in_ok-lower_pattern.ensures.lowered c.requires.names
