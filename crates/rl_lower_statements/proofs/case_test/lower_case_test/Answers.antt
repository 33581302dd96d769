use Rattle.std.proofs.Common.{ap, sym, subst}
use Rattle.rl_builder.specs.Builder.{state_of}
use Rattle.rl_grammar.specs.Fields.{maybe}
use Rattle.rl_lowered.specs.Promised.{HasRoom, share}
use Rattle.rl_names.specs.Seen.{seen}
use Rattle.rl_syntax.specs.Syntax.{Syntax, nodes, syntax}
use Rattle.rl_lower_statements.proofs.SwitchDerivations.{case_test_shown, case_tested, case_untested, moving_room}
use Rattle.rl_lower_parts.proofs.MovedDerivations.{moving_named}
use Rattle.rl_lower_statements.proofs.case_test.lower_case_test.Goals as goal

pub lower_expression-requires-clause-names : goal.lower_expression-requires-clause-names
lower_expression-requires-clause-names g c =
    moving_named (syntax c.in-Some.test.tree.now) (state_of g.U.ReadsUnit.tables c.args.builder.now) _
    c.in_ok-note_moved-in-Some.ensures.state
    c.requires.names

pub lower_expression-requires-clause-room : goal.lower_expression-requires-clause-room
lower_expression-requires-clause-room g c =
    moving_room (seen c.args.names.now) (syntax c.in-Some.test.tree.now) (state_of g.U.ReadsUnit.tables c.args.builder.now) _
    (share (nodes (syntax c.in-Some.test.tree.now))) c.in_ok-note_moved-in-Some.ensures.state
    (subst (λ (e : Syntax). HasRoom (state_of g.U.ReadsUnit.tables c.args.builder.now) (share (nodes e)))
    (ap (λ test. maybe test (λ t. syntax t.tree.now)) c.in-Some.is) c.requires.room)

pub returns-in_ok-place-in-Some-clause-lowered : goal.returns-in_ok-place-in-Some-clause-lowered
returns-in_ok-place-in-Some-clause-lowered g c =
    case_test_shown (sym (ap (λ test. maybe test (λ t. syntax t.tree.now)) c.in-Some.is))
    (case_tested (syntax c.in-Some.test.tree.now) c.in-Some.test.fit c.in_ok-note_moved-in-Some.ensures.state
    c.in_ok-place-in-Some.ensures.lowered)

pub returns-in-None-clause-lowered : goal.returns-in-None-clause-lowered
returns-in-None-clause-lowered g c =
    case_untested (state_of g.U.ReadsUnit.tables c.args.builder.now) (sym (ap (λ test. maybe test (λ t. syntax t.tree.now)) c.in-None.is))
