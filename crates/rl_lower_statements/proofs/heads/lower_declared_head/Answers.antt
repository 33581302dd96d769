use Rattle.rl_grammar.specs.Fields.{maybe}
use Rattle.rl_syntax.specs.Syntax.{syntax}
use Rattle.rl_lower_statements.proofs.DeclarationDerivations.{annotation_fits, declared_within}
use Rattle.rl_lower_statements.proofs.HeadDerivations.{declared_head_ok, declared_room}
use Rattle.rl_lower_statements.proofs.heads.lower_declared_head.Goals as goal

pub set_identifier_declaration_span-requires : goal.set_identifier_declaration_span-requires
set_identifier_declaration_span-requires g c = declared_within c.in_ok-identifier.ensures.found

pub lower_value_to_temporary-requires : goal.lower_value_to_temporary-requires
lower_value_to_temporary-requires g c =
    record { room = declared_room _ c.in_ok-identifier.ensures.found c.set_identifier_declaration_span.ensures.state c.requires.room }

pub returns-clause-lowered : goal.returns-clause-lowered
returns-clause-lowered g c =
    declared_head_ok c.args.bind.now.name.now (maybe c.args.bind.now.annotation (λ t. syntax t.tree.now)) c.lower_value_to_temporary.result
    c.args.value c.args.at _
    (annotation_fits (λ t. syntax t.tree.now) c.args.bind.now.annotation (λ t. t.fit)) c.in_ok-identifier.ensures.found
    c.set_identifier_declaration_span.ensures.state c.lower_value_to_temporary.ensures.state c.lower_value_to_temporary.ensures.place
