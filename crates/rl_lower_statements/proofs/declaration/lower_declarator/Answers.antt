use Rattle.std.proofs.Common.{refl, ap, sym, ◌∙◌}
use Rattle.rl_builder.specs.Builder.{state_of}
use Rattle.rl_grammar.specs.Fields.{maybe}
use Rattle.rl_names.specs.Seen.{seen}
use Rattle.rl_promises.specs.Patterns.{takes_apart}
use Rattle.rl_syntax.specs.Syntax.{syntax}
use Rattle.rl_lower_statements.proofs.DeclarationDerivations.{declarator_parts_may, declarator_parts_room, declarator_room}
use Rattle.rl_lower_statements.proofs.DeclarationDerivations.{declared_declarator_ok, initialized_declarator_ok}
use Rattle.rl_lower_statements.proofs.declaration.lower_declarator.Goals as goal

pub returns-in-Some-clause-lowered : goal.returns-in-Some-clause-lowered
returns-in-Some-clause-lowered g c =
    initialized_declarator_ok (seen c.args.names.now) c.args.span c.args.kind (state_of g.U.ReadsUnit.tables c.args.builder.now)
    (state_of g.U.ReadsUnit.tables c.lower_initialized.new.builder) c.lower_initialized.result
    (c.binding_identifier_view-bind.ensures ∙ c.in-Identifier.ensures)
    (sym (ap (λ init. maybe init (λ t. syntax t.tree.now)) c.in-Some.is)) c.variable_declarator_view-declarator.ensures
    c.lower_initialized.ensures.lowered

pub returns-in-None-clause-lowered : goal.returns-in-None-clause-lowered
returns-in-None-clause-lowered g c =
    declared_declarator_ok (seen c.args.names.now) c.args.span c.args.kind (state_of g.U.ReadsUnit.tables c.args.builder.now)
    (state_of g.U.ReadsUnit.tables c.lower_declared.new.builder) c.lower_declared.result
    (c.binding_identifier_view-bind.ensures ∙ c.in-Identifier.ensures)
    (sym (ap (λ init. maybe init (λ t. syntax t.tree.now)) c.in-None.is)) c.variable_declarator_view-declarator.ensures
    c.lower_declared.ensures.lowered

-- Patterns.

pub lower_taken-requires-clause-apart : goal.lower_taken-requires-clause-apart
lower_taken-requires-clause-apart g c =
    ap takes_apart (sym c.in-Array.ensures)

pub lower_taken-requires-clause-may : goal.lower_taken-requires-clause-may
lower_taken-requires-clause-may g c =
    declarator_parts_may (seen c.args.names.now) (sym (ap (λ init. maybe init (λ t. syntax t.tree.now)) c.in-Some-init.is))
    c.variable_declarator_view-declarator.ensures c.requires.may

pub lower_taken-requires-clause-room : goal.lower_taken-requires-clause-room
lower_taken-requires-clause-room g c =
    declarator_parts_room (state_of g.U.ReadsUnit.tables c.args.builder.now)
    (sym (ap (λ init. maybe init (λ t. syntax t.tree.now)) c.in-Some-init.is)) c.variable_declarator_view-declarator.ensures
    c.requires.room

pub returns-in-Some-init-clause-lowered : goal.returns-in-Some-init-clause-lowered
returns-in-Some-init-clause-lowered g c =
    initialized_declarator_ok (seen c.args.names.now) c.args.span c.args.kind (state_of g.U.ReadsUnit.tables c.args.builder.now)
    (state_of g.U.ReadsUnit.tables c.lower_taken.new.builder) c.lower_taken.result refl
    (sym (ap (λ init. maybe init (λ t. syntax t.tree.now)) c.in-Some-init.is)) c.variable_declarator_view-declarator.ensures
    c.lower_taken.ensures.lowered

pub lower_untaken-requires-clause-apart : goal.lower_untaken-requires-clause-apart
lower_untaken-requires-clause-apart g c =
    ap takes_apart (sym c.in-Array.ensures)

pub lower_untaken-requires-clause-may : goal.lower_untaken-requires-clause-may
lower_untaken-requires-clause-may g c =
    (declarator_parts_may (seen c.args.names.now) (sym (ap (λ init. maybe init (λ t. syntax t.tree.now)) c.in-None-init.is))
    c.variable_declarator_view-declarator.ensures c.requires.may).0

pub lower_untaken-requires-clause-room : goal.lower_untaken-requires-clause-room
lower_untaken-requires-clause-room g c =
    declarator_room (state_of g.U.ReadsUnit.tables c.args.builder.now)
    (sym (ap (λ init. maybe init (λ t. syntax t.tree.now)) c.in-None-init.is)) c.variable_declarator_view-declarator.ensures
    c.requires.room

pub returns-in-None-init-clause-lowered : goal.returns-in-None-init-clause-lowered
returns-in-None-init-clause-lowered g c =
    initialized_declarator_ok (seen c.args.names.now) c.args.span c.args.kind (state_of g.U.ReadsUnit.tables c.args.builder.now)
    (state_of g.U.ReadsUnit.tables c.lower_untaken.new.builder) c.lower_untaken.result refl
    (sym (ap (λ init. maybe init (λ t. syntax t.tree.now)) c.in-None-init.is)) c.variable_declarator_view-declarator.ensures
    c.lower_untaken.ensures.lowered

pub lower_taken-requires-in-Some-init-2-clause-apart : goal.lower_taken-requires-in-Some-init-2-clause-apart
lower_taken-requires-in-Some-init-2-clause-apart g c =
    ap takes_apart (sym c.in-Object.ensures)

pub lower_taken-requires-in-Some-init-2-clause-may : goal.lower_taken-requires-in-Some-init-2-clause-may
lower_taken-requires-in-Some-init-2-clause-may g c =
    declarator_parts_may (seen c.args.names.now) (sym (ap (λ init. maybe init (λ t. syntax t.tree.now)) c.in-Some-init-2.is))
    c.variable_declarator_view-declarator.ensures c.requires.may

pub lower_taken-requires-in-Some-init-2-clause-room : goal.lower_taken-requires-in-Some-init-2-clause-room
lower_taken-requires-in-Some-init-2-clause-room g c =
    declarator_parts_room (state_of g.U.ReadsUnit.tables c.args.builder.now)
    (sym (ap (λ init. maybe init (λ t. syntax t.tree.now)) c.in-Some-init-2.is)) c.variable_declarator_view-declarator.ensures
    c.requires.room

pub returns-in-Some-init-2-clause-lowered : goal.returns-in-Some-init-2-clause-lowered
returns-in-Some-init-2-clause-lowered g c =
    initialized_declarator_ok (seen c.args.names.now) c.args.span c.args.kind (state_of g.U.ReadsUnit.tables c.args.builder.now)
    (state_of g.U.ReadsUnit.tables c.lower_taken-in-Some-init-2.new.builder) c.lower_taken-in-Some-init-2.result refl
    (sym (ap (λ init. maybe init (λ t. syntax t.tree.now)) c.in-Some-init-2.is)) c.variable_declarator_view-declarator.ensures
    c.lower_taken-in-Some-init-2.ensures.lowered

pub lower_untaken-requires-in-None-init-2-clause-apart : goal.lower_untaken-requires-in-None-init-2-clause-apart
lower_untaken-requires-in-None-init-2-clause-apart g c =
    ap takes_apart (sym c.in-Object.ensures)

pub lower_untaken-requires-in-None-init-2-clause-may : goal.lower_untaken-requires-in-None-init-2-clause-may
lower_untaken-requires-in-None-init-2-clause-may g c =
    (declarator_parts_may (seen c.args.names.now) (sym (ap (λ init. maybe init (λ t. syntax t.tree.now)) c.in-None-init-2.is))
    c.variable_declarator_view-declarator.ensures c.requires.may).0

pub lower_untaken-requires-in-None-init-2-clause-room : goal.lower_untaken-requires-in-None-init-2-clause-room
lower_untaken-requires-in-None-init-2-clause-room g c =
    declarator_room (state_of g.U.ReadsUnit.tables c.args.builder.now)
    (sym (ap (λ init. maybe init (λ t. syntax t.tree.now)) c.in-None-init-2.is)) c.variable_declarator_view-declarator.ensures
    c.requires.room

pub returns-in-None-init-2-clause-lowered : goal.returns-in-None-init-2-clause-lowered
returns-in-None-init-2-clause-lowered g c =
    initialized_declarator_ok (seen c.args.names.now) c.args.span c.args.kind (state_of g.U.ReadsUnit.tables c.args.builder.now)
    (state_of g.U.ReadsUnit.tables c.lower_untaken-in-None-init-2.new.builder) c.lower_untaken-in-None-init-2.result refl
    (sym (ap (λ init. maybe init (λ t. syntax t.tree.now)) c.in-None-init-2.is)) c.variable_declarator_view-declarator.ensures
    c.lower_untaken-in-None-init-2.ensures.lowered
