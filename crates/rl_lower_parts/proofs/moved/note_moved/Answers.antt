use Rattle.std.proofs.Common.{refl, ap, sym, ◌∙◌}
use Rattle.rl_builder.specs.Builder.{state_of}
use Rattle.rl_names.specs.Seen.{seen}
use Rattle.rl_syntax.proofs.Layers.{syntax_absent, syntax_flag, syntax_list, syntax_node, syntax_number, syntax_text}
use Rattle.rl_syntax.specs.Syntax.{syntax}
use Rattle.rl_lower_parts.proofs.MovedDerivations.{moving_kept, moving_noted_ok, unmoved}
use Rattle.rl_lower_parts.proofs.moved.note_moved.Goals as goal

pub returns-then-may_move-clause-state : goal.returns-then-may_move-clause-state
returns-then-may_move-clause-state g c =
    moving_kept (seen c.args.names.now) (syntax c.args.tree.now) (state_of g.U.ReadsUnit.tables c.args.builder.now)
    (sym c.if-may_move.ensures)

pub returns-in_ok-diagnostic-in-Node-clause-state : goal.returns-in_ok-diagnostic-in-Node-clause-state
returns-in_ok-diagnostic-in-Node-clause-state g c =
    moving_noted_ok (seen c.args.names.now) (state_of g.U.ReadsUnit.tables c.args.builder.now) _ c.in_ok-diagnostic-in-Node.diagnostic
    c.record_diagnostic.result (sym (ap syntax c.in-Node.is ∙ syntax_node c.in-Node.at c.in-Node.word c.in-Node.field-2))
    (sym c.if-may_move.ensures) c.in_ok-diagnostic-in-Node.ensures c.type_name.ensures c.record_diagnostic.ensures.state

pub returns-in-List-clause-state : goal.returns-in-List-clause-state
returns-in-List-clause-state g c =
    unmoved (seen c.args.names.now) (state_of g.U.ReadsUnit.tables c.args.builder.now)
    (ap syntax c.in-List.is ∙ syntax_list c.in-List.field-0) refl

pub returns-in-Text-clause-state : goal.returns-in-Text-clause-state
returns-in-Text-clause-state g c =
    unmoved (seen c.args.names.now) (state_of g.U.ReadsUnit.tables c.args.builder.now)
    (ap syntax c.in-Text.is ∙ syntax_text c.in-Text.field-0) refl

pub returns-in-Number-clause-state : goal.returns-in-Number-clause-state
returns-in-Number-clause-state g c =
    unmoved (seen c.args.names.now) (state_of g.U.ReadsUnit.tables c.args.builder.now)
    (ap syntax c.in-Number.is ∙ syntax_number c.in-Number.field-0) refl

pub returns-in-Flag-clause-state : goal.returns-in-Flag-clause-state
returns-in-Flag-clause-state g c =
    unmoved (seen c.args.names.now) (state_of g.U.ReadsUnit.tables c.args.builder.now)
    (ap syntax c.in-Flag.is ∙ syntax_flag c.in-Flag.field-0) refl

pub returns-in-Absent-clause-state : goal.returns-in-Absent-clause-state
returns-in-Absent-clause-state g c =
    unmoved (seen c.args.names.now) (state_of g.U.ReadsUnit.tables c.args.builder.now)
    (ap syntax c.in-Absent.is ∙ syntax_absent) refl
