use Rattle.std.proofs.Common.{sym}
use Rattle.rl_base.specs.Operators.{assignment_text}
use Rattle.rl_model.specs.Expressions.{eval}
use Rattle.rl_model.specs.Shapes.{is_logical, operator_in}
use Rattle.rl_source_expressions.proofs.Targeted.{assigned_value}
use Rattle.rl_source_stack.proofs.Goings.{goes_as}
use Rattle.rl_source_stack.specs.Controls.{from}
use Rattle.rl_source_stack.specs.States.{state_of}
use Rattle.rl_syntax.specs.Syntax.{syntax}
use Rattle.rl_source_expressions.proofs.assignment.evaluate_assignment.Goals as goal

pub returns-in-Plain : goal.returns-in-Plain
returns-in-Plain c =
    goes_as c.assign_plain.result (state_of c.assign_plain.new.run)
    (λ i. from (assigned_value (state_of c.args.run.now).scene (sym c.in-Plain.ensures i) (is_logical (assignment_text c.args.operator))
    (operator_in (assignment_text c.args.operator))
    (syntax c.args.left.tree.now) (eval (state_of c.args.run.now).scene (syntax c.args.right.tree.now))) (state_of c.args.run.now))
    c.assign_plain.ensures

pub returns-in-Logical : goal.returns-in-Logical
returns-in-Logical c =
    λ i. from (assigned_value (state_of c.args.run.now).scene (sym c.in-Logical.ensures.plain i) (sym c.in-Logical.ensures.logical i)
    (operator_in (assignment_text c.args.operator))
    (syntax c.args.left.tree.now) (eval (state_of c.args.run.now).scene (syntax c.args.right.tree.now))) (state_of c.args.run.now)

pub returns-in-Compound : goal.returns-in-Compound
returns-in-Compound c =
    goes_as c.assign_compound.result (state_of c.assign_compound.new.run)
    (λ i. from (assigned_value (state_of c.args.run.now).scene (sym c.in-Compound.ensures.plain i) (sym c.in-Compound.ensures.logical i)
    (sym c.in-Compound.ensures.operator i)
    (syntax c.args.left.tree.now) (eval (state_of c.args.run.now).scene (syntax c.args.right.tree.now))) (state_of c.args.run.now))
    c.assign_compound.ensures
