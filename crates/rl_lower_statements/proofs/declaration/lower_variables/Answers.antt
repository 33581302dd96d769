use Rattle.rl_builder.specs.Builder.{state_of}
use Rattle.rl_names.specs.Seen.{seen}
use Rattle.rl_lower_statements.proofs.DeclarationDerivations.{variables_init_ok, variables_ok}
use Rattle.rl_lower_statements.proofs.declaration.lower_variables.Goals as goal

pub returns-clause-lowered : goal.returns-clause-lowered
returns-clause-lowered g c =
    variables_ok (seen c.args.names.now) c.variable_declaration_view-declaration.result.kind
    (state_of g.U.ReadsUnit.tables c.args.builder.now) c.lower_declarators.result _ c.variable_declaration_view-declaration.ensures
    c.in_ok-note_keyword.ensures.state c.kind_of.ensures c.lower_declarators.ensures.lowered

pub returns-clause-init : goal.returns-clause-init
returns-clause-init g c =
    variables_init_ok (seen c.args.names.now) (state_of g.U.ReadsUnit.tables c.args.builder.now) _ c.lower_declarators.result
    c.variable_declaration_view-declaration.ensures
    (variables_ok (seen c.args.names.now) c.variable_declaration_view-declaration.result.kind
    (state_of g.U.ReadsUnit.tables c.args.builder.now) c.lower_declarators.result _ c.variable_declaration_view-declaration.ensures
    c.in_ok-note_keyword.ensures.state c.kind_of.ensures c.lower_declarators.ensures.lowered)
