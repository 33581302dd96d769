use Rattle.std.proofs.Common.{sym, ap, ◌∙◌, subst}
use Rattle.rl_builder.specs.Builder.{state_of}
use Rattle.rl_grammar.specs.Fields.{maybe}
use Rattle.rl_names.specs.Seen.{seen}
use Rattle.rl_promises.specs.Lowerable.{IsLowerable}
use Rattle.rl_syntax.specs.Syntax.{syntax}
use Rattle.rl_lower.proofs.ParamDerivations.{default_parts_may, default_parts_room, named_viewed, param_ok, param_viewed}
use Rattle.rl_lower.proofs.ParamDerivations.{pattern_may, pattern_room}
use Rattle.rl_lower.proofs.params.lower_parameter.Goals as goal

pub lower_defaulted-requires-clause-may : goal.lower_defaulted-requires-clause-may
lower_defaulted-requires-clause-may g c =
    default_parts_may (seen c.args.names.now)
    (param_viewed (sym (ap (λ default. maybe default (λ t. syntax t.tree.now)) c.in-Some.is))
    c.formal_parameter_view-parameter.ensures) c.requires.may

pub lower_defaulted-requires-clause-room : goal.lower_defaulted-requires-clause-room
lower_defaulted-requires-clause-room g c =
    default_parts_room (state_of g.U.ReadsUnit.tables c.args.builder.now)
    (param_viewed (sym (ap (λ default. maybe default (λ t. syntax t.tree.now)) c.in-Some.is))
    c.formal_parameter_view-parameter.ensures) c.requires.room

pub returns-in-Some-clause-lowered : goal.returns-in-Some-clause-lowered
returns-in-Some-clause-lowered g c =
    param_ok (seen c.args.names.now) _ _ c.lower_defaulted.result
    (param_viewed (sym (ap (λ default. maybe default (λ t. syntax t.tree.now)) c.in-Some.is))
    c.formal_parameter_view-parameter.ensures) c.lower_defaulted.ensures.lowered

-- Without a default.

pub lower_named-requires-clause-free : goal.lower_named-requires-clause-free
lower_named-requires-clause-free g c =
    subst (IsLowerable (seen c.args.names.now)) (sym (c.binding_identifier_view-bind.ensures ∙ c.in-Identifier.ensures))
    (pattern_may (seen c.args.names.now) c.formal_parameter_view-parameter.ensures c.requires.may)

pub returns-in-Identifier-clause-lowered : goal.returns-in-Identifier-clause-lowered
returns-in-Identifier-clause-lowered g c =
    param_ok (seen c.args.names.now) _ _ c.lower_named.result
    (named_viewed (c.binding_identifier_view-bind.ensures ∙ c.in-Identifier.ensures)
    (param_viewed (sym (ap (λ default. maybe default (λ t. syntax t.tree.now)) c.in-None.is))
    c.formal_parameter_view-parameter.ensures)) c.lower_named.ensures.lowered

pub lower_apart-requires-clause-may : goal.lower_apart-requires-clause-may
lower_apart-requires-clause-may g c =
    pattern_may (seen c.args.names.now) c.formal_parameter_view-parameter.ensures c.requires.may

pub lower_apart-requires-clause-room : goal.lower_apart-requires-clause-room
lower_apart-requires-clause-room g c =
    pattern_room (state_of g.U.ReadsUnit.tables c.args.builder.now) c.formal_parameter_view-parameter.ensures c.requires.room

pub returns-in-Array-clause-lowered : goal.returns-in-Array-clause-lowered
returns-in-Array-clause-lowered g c =
    param_ok (seen c.args.names.now) _ _ c.lower_apart.result
    (param_viewed (sym (ap (λ default. maybe default (λ t. syntax t.tree.now)) c.in-None.is))
    c.formal_parameter_view-parameter.ensures) c.lower_apart.ensures.lowered

pub lower_apart-requires-in-Object-clause-may : goal.lower_apart-requires-in-Object-clause-may
lower_apart-requires-in-Object-clause-may g c =
    pattern_may (seen c.args.names.now) c.formal_parameter_view-parameter.ensures c.requires.may

pub lower_apart-requires-in-Object-clause-room : goal.lower_apart-requires-in-Object-clause-room
lower_apart-requires-in-Object-clause-room g c =
    pattern_room (state_of g.U.ReadsUnit.tables c.args.builder.now) c.formal_parameter_view-parameter.ensures c.requires.room

pub returns-in-Object-clause-lowered : goal.returns-in-Object-clause-lowered
returns-in-Object-clause-lowered g c =
    param_ok (seen c.args.names.now) _ _ c.lower_apart-in-Object.result
    (param_viewed (sym (ap (λ default. maybe default (λ t. syntax t.tree.now)) c.in-None.is))
    c.formal_parameter_view-parameter.ensures) c.lower_apart-in-Object.ensures.lowered
