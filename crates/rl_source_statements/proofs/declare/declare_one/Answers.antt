use Rattle.std.proofs.Common.{ap, sym}
use Rattle.rl_grammar.specs.Fields.{maybe}
use Rattle.rl_source_stack.specs.Controls.{from_normal}
use Rattle.rl_source_stack.specs.States.{State, state_of}
use Rattle.rl_source_stack.proofs.Goings.{goes_as}
use Rattle.rl_source_statements.proofs.Parts.{declared_none, declared_some}
use Rattle.rl_syntax.specs.Syntax.{syntax}
use Rattle.rl_source_statements.proofs.declare.declare_one.Goals as goal

pub returns-in-None : goal.returns-in-None
returns-in-None c =
    let old : State = state_of c.args.run.now in
    sym (ap (λ action. from_normal action old)
    (declared_none old.scene c.variable_declarator_view-declarator.result (syntax c.args.tree.tree.now)
    c.variable_declarator_view-declarator.ensures c.in-None.is))

pub returns-in-Some : goal.returns-in-Some
returns-in-Some c =
    let old : State = state_of c.args.run.now in
    goes_as c.evaluate_for.result (state_of c.evaluate_for.new.run)
    (sym (ap (λ action. from_normal action old)
    (declared_some old.scene c.variable_declarator_view-declarator.result (syntax c.args.tree.tree.now) (syntax c.in-Some.init.tree.now)
    c.variable_declarator_view-declarator.ensures (ap (λ o. maybe o (λ t. syntax t.tree.now)) c.in-Some.is) c.in-Some.init.fit)))
    c.evaluate_for.ensures
