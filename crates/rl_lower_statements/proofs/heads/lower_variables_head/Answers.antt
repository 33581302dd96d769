use Rattle.std.proofs.Common.{ap, sym, ◌∙◌}
use Rattle.rl_builder.specs.Builder.{state_of}
use Rattle.rl_names.specs.Seen.{seen}
use Rattle.rl_promises.specs.Patterns.{takes_apart}
use Rattle.rl_lower_statements.proofs.HeadDerivations.{declared_pattern_may, declared_pattern_ok, declared_pattern_room, variables_head_ok}
use Rattle.rl_lower_statements.proofs.heads.lower_variables_head.Goals as goal

pub returns-in-Identifier-clause-lowered : goal.returns-in-Identifier-clause-lowered
returns-in-Identifier-clause-lowered g c =
    variables_head_ok (seen c.args.names.now) c.args.value c.variable_declaration_view-declaration.result.kind c.lower_declared_head.result
    _ _ c.variable_declaration_view-declaration.ensures c.requires.plain
    c.in-Some.ensures c.variable_declarator_view.ensures
    (c.binding_identifier_view-bind.ensures ∙ c.in-Identifier.ensures) c.lower_declared_head.ensures.lowered

pub lower_pattern-requires-clause-may : goal.lower_pattern-requires-clause-may
lower_pattern-requires-clause-may g c =
    declared_pattern_may (seen c.args.names.now) c.variable_declaration_view-declaration.ensures c.in-Some.ensures
    c.variable_declarator_view.ensures c.requires.may

pub lower_pattern-requires-clause-room : goal.lower_pattern-requires-clause-room
lower_pattern-requires-clause-room g c =
    declared_pattern_room (state_of g.U.ReadsUnit.tables c.args.builder.now) c.variable_declaration_view-declaration.ensures
    c.in-Some.ensures c.variable_declarator_view.ensures c.requires.room

pub returns-in-Array-clause-lowered : goal.returns-in-Array-clause-lowered
returns-in-Array-clause-lowered g c =
    declared_pattern_ok (seen c.args.names.now) c.args.value c.variable_declaration_view-declaration.result.kind c.lower_pattern.result
    _ _ c.variable_declaration_view-declaration.ensures c.requires.plain c.in-Some.ensures c.variable_declarator_view.ensures
    (ap takes_apart (sym c.in-Array.ensures)) c.lower_pattern.ensures.lowered

pub lower_pattern-requires-in-Object-clause-may : goal.lower_pattern-requires-in-Object-clause-may
lower_pattern-requires-in-Object-clause-may g c =
    declared_pattern_may (seen c.args.names.now) c.variable_declaration_view-declaration.ensures c.in-Some.ensures
    c.variable_declarator_view.ensures c.requires.may

pub lower_pattern-requires-in-Object-clause-room : goal.lower_pattern-requires-in-Object-clause-room
lower_pattern-requires-in-Object-clause-room g c =
    declared_pattern_room (state_of g.U.ReadsUnit.tables c.args.builder.now) c.variable_declaration_view-declaration.ensures
    c.in-Some.ensures c.variable_declarator_view.ensures c.requires.room

pub returns-in-Object-clause-lowered : goal.returns-in-Object-clause-lowered
returns-in-Object-clause-lowered g c =
    declared_pattern_ok (seen c.args.names.now) c.args.value c.variable_declaration_view-declaration.result.kind
    c.lower_pattern-in-Object.result
    _ _ c.variable_declaration_view-declaration.ensures c.requires.plain c.in-Some.ensures c.variable_declarator_view.ensures
    (ap takes_apart (sym c.in-Object.ensures)) c.lower_pattern-in-Object.ensures.lowered
