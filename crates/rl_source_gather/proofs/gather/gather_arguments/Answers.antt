use Rattle.std.proofs.Common.{◌≡◌, ◌++◌, IfOk, ap, sym, subst, ◌∙◌, append-nil}
use Rattle.rl_model.specs.Actions.{◌>>=◌}
use Rattle.rl_model.specs.Expressions.{eval, values}
use Rattle.rl_source_stack.specs.Controls.{from, trace_of}
use Rattle.rl_source_stack.specs.Parts.{among, gathered, gathering}
use Rattle.rl_source_stack.specs.States.{state_of}
use Rattle.rl_syntax.specs.Syntax.{Then, syntax}
use Rattle.rl_source_gather.proofs.Forms.{expression_values}
use Rattle.rl_source_gather.proofs.gather.gather_arguments.Goals as goal

pub returns-in-None : goal.returns-in-None
returns-in-None c =
    subst (λ t. IfOk c.finish.result (λ d. trace_of d (state_of c.finish.new.run) ≡ t))
    (ap (λ g. from (gathered (state_of c.args.run.now).scene c.args.what g) (state_of c.args.run.now))
    (sym (append-nil c.args.given))
    ∙ sym (ap (λ ps. from (gathering (state_of c.args.run.now).scene c.args.what ps c.args.given) (state_of c.args.run.now))
    c.in-None.ensures))
    c.finish.ensures

pub returns-in-Expression : goal.returns-in-Expression
returns-in-Expression c =
    subst (λ t. IfOk c.give_part.result (λ d. trace_of d (state_of c.give_part.new.run) ≡ t))
    (sym (ap (λ plain. from (plain >>= (λ vs. values (state_of c.args.run.now).scene (among c.in-Some.left.trees.now)
    >>= (λ ws. gathered (state_of c.args.run.now).scene c.args.what (c.args.given ++ (vs ++ ws))))) (state_of c.args.run.now))
    (expression_values (state_of c.args.run.now).scene (syntax c.in-Expression.argument.tree.now)
    (eval (state_of c.args.run.now).scene (syntax c.in-Expression.argument.tree.now)) c.in-Expression.argument.fit))
    ∙ ap (λ t. from (gathering (state_of c.args.run.now).scene c.args.what (Then t (among c.in-Some.left.trees.now)) c.args.given)
    (state_of c.args.run.now)) c.in-Expression.ensures
    ∙ sym (ap (λ ps. from (gathering (state_of c.args.run.now).scene c.args.what ps c.args.given) (state_of c.args.run.now))
    c.in-Some.ensures))
    c.give_part.ensures

pub returns-in-Spread : goal.returns-in-Spread
returns-in-Spread c =
    subst (λ t. IfOk c.give_part-in-Spread.result (λ d. trace_of d (state_of c.give_part-in-Spread.new.run) ≡ t))
    (ap (λ t. from (gathering (state_of c.args.run.now).scene c.args.what (Then t (among c.in-Some.left.trees.now)) c.args.given)
    (state_of c.args.run.now)) c.in-Spread.ensures
    ∙ sym (ap (λ ps. from (gathering (state_of c.args.run.now).scene c.args.what ps c.args.given) (state_of c.args.run.now))
    c.in-Some.ensures))
    c.give_part-in-Spread.ensures
