use Rattle.std.proofs.Common.{ap, refl, sym}
use Rattle.rl_grammar.specs.Fields.{maybe}
use Rattle.rl_model.specs.Actions.{Label}
use Rattle.rl_source_stack.specs.Controls.{from_normal}
use Rattle.rl_source_stack.specs.Parts.{label_of}
use Rattle.rl_source_stack.specs.States.{State, state_of}
use Rattle.rl_source_stack.specs.declared.control.Control.TheVariants as control
use Rattle.rl_source_statements.proofs.Parts.{exec_break, exec_continue, exec_declared, exec_for_of, exec_return, exec_try}
use Rattle.rl_source_statements.proofs.Parts.{exec_here, exec_so, own_block, own_variables}
use Rattle.rl_syntax.specs.Syntax.{syntax}
use Rattle.rl_source_statements.proofs.execute.execute.Goals as goal

pub returns-in-Empty : goal.returns-in-Empty
returns-in-Empty c = exec_here control.Normal (state_of c.args.run.now) (label_of c.args.label) _ _ c.in-Empty.ensures refl

pub returns-in-TypeAlias : goal.returns-in-TypeAlias
returns-in-TypeAlias c = exec_here control.Normal (state_of c.args.run.now) (label_of c.args.label) _ _ c.in-TypeAlias.ensures refl

pub returns-in-Interface : goal.returns-in-Interface
returns-in-Interface c = exec_here control.Normal (state_of c.args.run.now) (label_of c.args.label) _ _ c.in-Interface.ensures refl

pub returns-in-Namespace : goal.returns-in-Namespace
returns-in-Namespace c = exec_here control.Normal (state_of c.args.run.now) (label_of c.args.label) _ _ c.in-Namespace.ensures refl

pub returns-in-Debugger : goal.returns-in-Debugger
returns-in-Debugger c =
    exec_so c.execute_debugger.result (state_of c.execute_debugger.new.run)
    (state_of c.args.run.now) (label_of c.args.label) _ _ _ c.in-Debugger.ensures refl c.execute_debugger.ensures

pub returns-in-Expression : goal.returns-in-Expression
returns-in-Expression c =
    exec_so c.evaluate_for.result (state_of c.evaluate_for.new.run)
    (state_of c.args.run.now) (label_of c.args.label) _ _ _ c.in-Expression.ensures refl c.evaluate_for.ensures

pub returns-in-Return : goal.returns-in-Return
returns-in-Return c =
    let old : State = state_of c.args.run.now in
    let own : Label = label_of c.args.label in
    exec_so c.execute_return.result (state_of c.execute_return.new.run) old own _ _ _ c.in-Return.ensures
    (ap (λ action. from_normal action old)
    (sym (exec_return old.scene own c.in-Return.at (maybe c.in-Return.argument (λ t. syntax t.tree.now))))) c.execute_return.ensures

pub returns-in-Throw : goal.returns-in-Throw
returns-in-Throw c =
    exec_so c.evaluate_for-in-Throw.result (state_of c.evaluate_for-in-Throw.new.run)
    (state_of c.args.run.now) (label_of c.args.label) _ _ _ c.in-Throw.ensures refl c.evaluate_for-in-Throw.ensures

pub returns-in-Block : goal.returns-in-Block
returns-in-Block c =
    let old : State = state_of c.args.run.now in
    let own : Label = label_of c.args.label in
    exec_here (control.Block c.in-Block.block) old own _ _ c.in-Block.ensures
    (ap (λ action. from_normal action old) (own_block old.scene own (syntax c.in-Block.block.tree.now) c.in-Block.block.fit))

pub returns-in-If : goal.returns-in-If
returns-in-If c =
    exec_so c.evaluate_for-in-If.result (state_of c.evaluate_for-in-If.new.run)
    (state_of c.args.run.now) (label_of c.args.label) _ _ _ c.in-If.ensures refl c.evaluate_for-in-If.ensures

pub returns-in-For : goal.returns-in-For
returns-in-For c =
    exec_so c.start_for.result (state_of c.start_for.new.run)
    (state_of c.args.run.now) (label_of c.args.label) _ _ _ c.in-For.ensures refl c.start_for.ensures

pub returns-in-While : goal.returns-in-While
returns-in-While c =
    exec_so c.start_loop.result (state_of c.start_loop.new.run)
    (state_of c.args.run.now) (label_of c.args.label) _ _ _ c.in-While.ensures refl c.start_loop.ensures

pub returns-in-DoWhile : goal.returns-in-DoWhile
returns-in-DoWhile c =
    exec_so c.start_loop-in-DoWhile.result (state_of c.start_loop-in-DoWhile.new.run)
    (state_of c.args.run.now) (label_of c.args.label) _ _ _ c.in-DoWhile.ensures refl c.start_loop-in-DoWhile.ensures

pub returns-in-ForIn : goal.returns-in-ForIn
returns-in-ForIn c =
    exec_so c.evaluate_for-in-ForIn.result (state_of c.evaluate_for-in-ForIn.new.run)
    (state_of c.args.run.now) (label_of c.args.label) _ _ _ c.in-ForIn.ensures refl c.evaluate_for-in-ForIn.ensures

pub returns-in-ForOf : goal.returns-in-ForOf
returns-in-ForOf c =
    let old : State = state_of c.args.run.now in
    let own : Label = label_of c.args.label in
    exec_so c.execute_for_of.result (state_of c.execute_for_of.new.run) old own _ _ _ c.in-ForOf.ensures
    (ap (λ action. from_normal action old)
    (sym (exec_for_of old.scene own c.in-ForOf.at c.in-ForOf.is_await (syntax c.in-ForOf.head.tree.now)
    (syntax c.in-ForOf.right.tree.now) (syntax c.in-ForOf.body.tree.now)))) c.execute_for_of.ensures

pub returns-in-Switch : goal.returns-in-Switch
returns-in-Switch c =
    exec_so c.evaluate_for-in-Switch.result (state_of c.evaluate_for-in-Switch.new.run)
    (state_of c.args.run.now) (label_of c.args.label) _ _ _ c.in-Switch.ensures refl c.evaluate_for-in-Switch.ensures

pub returns-in-Try : goal.returns-in-Try
returns-in-Try c =
    let old : State = state_of c.args.run.now in
    let own : Label = label_of c.args.label in
    exec_so c.execute_try.result (state_of c.execute_try.new.run) old own _ _ _ c.in-Try.ensures
    (ap (λ action. from_normal action old)
    (sym (exec_try old.scene own c.in-Try.at (syntax c.in-Try.block.tree.now) (maybe c.in-Try.handler (λ t. syntax t.tree.now))
    (maybe c.in-Try.finalizer (λ t. syntax t.tree.now))))) c.execute_try.ensures

pub returns-in-Break : goal.returns-in-Break
returns-in-Break c =
    let old : State = state_of c.args.run.now in
    let own : Label = label_of c.args.label in
    exec_here (control.Break c.in-Break.label) old own _ _ c.in-Break.ensures
    (ap (λ action. from_normal action old) (sym (exec_break old.scene own c.in-Break.at c.in-Break.label)))

pub returns-in-Continue : goal.returns-in-Continue
returns-in-Continue c =
    let old : State = state_of c.args.run.now in
    let own : Label = label_of c.args.label in
    exec_here (control.Continue c.in-Continue.label) old own _ _ c.in-Continue.ensures
    (ap (λ action. from_normal action old) (sym (exec_continue old.scene own c.in-Continue.at c.in-Continue.label)))

pub returns-in-Labeled : goal.returns-in-Labeled
returns-in-Labeled c =
    exec_so c.execute_labeled.result (state_of c.execute_labeled.new.run)
    (state_of c.args.run.now) (label_of c.args.label) _ _ _ c.in-Labeled.ensures refl c.execute_labeled.ensures

pub returns-in-Variables : goal.returns-in-Variables
returns-in-Variables c =
    let old : State = state_of c.args.run.now in
    let own : Label = label_of c.args.label in
    exec_here (control.Variables c.in-Variables.variables) old own _ _ c.in-Variables.ensures
    (ap (λ action. from_normal action old)
    (own_variables old.scene own (syntax c.in-Variables.variables.tree.now) c.in-Variables.variables.fit))

pub returns-in-Function : goal.returns-in-Function
returns-in-Function c =
    let old : State = state_of c.args.run.now in
    let own : Label = label_of c.args.label in
    exec_so c.declare_function.result (state_of c.declare_function.new.run) old own _ _ _ c.in-Function.ensures
    (ap (λ action. from_normal action old)
    (exec_declared old.scene own c.function_declaration_view.result (syntax c.in-Function.function.tree.now)
    c.function_declaration_view.ensures c.in-Function.function.fit)) c.declare_function.ensures

pub returns-in-With : goal.returns-in-With
returns-in-With c = exec_here control.Waiting (state_of c.args.run.now) (label_of c.args.label) _ _ c.in-With.ensures refl

pub returns-in-Class : goal.returns-in-Class
returns-in-Class c = exec_here control.Waiting (state_of c.args.run.now) (label_of c.args.label) _ _ c.in-Class.ensures refl

pub returns-in-Enum : goal.returns-in-Enum
returns-in-Enum c = exec_here control.Waiting (state_of c.args.run.now) (label_of c.args.label) _ _ c.in-Enum.ensures refl

pub returns-in-Import : goal.returns-in-Import
returns-in-Import c = exec_here control.Waiting (state_of c.args.run.now) (label_of c.args.label) _ _ c.in-Import.ensures refl

pub returns-in-Export : goal.returns-in-Export
returns-in-Export c = exec_here control.Waiting (state_of c.args.run.now) (label_of c.args.label) _ _ c.in-Export.ensures refl

pub returns-in-ExportDefault : goal.returns-in-ExportDefault
returns-in-ExportDefault c = exec_here control.Waiting (state_of c.args.run.now) (label_of c.args.label) _ _ c.in-ExportDefault.ensures refl

pub returns-in-ExportList : goal.returns-in-ExportList
returns-in-ExportList c = exec_here control.Waiting (state_of c.args.run.now) (label_of c.args.label) _ _ c.in-ExportList.ensures refl

pub returns-in-ExportFrom : goal.returns-in-ExportFrom
returns-in-ExportFrom c = exec_here control.Waiting (state_of c.args.run.now) (label_of c.args.label) _ _ c.in-ExportFrom.ensures refl
