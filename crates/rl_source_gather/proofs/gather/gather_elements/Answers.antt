use Rattle.std.proofs.Common.{◌≡◌, ◌++◌, IfOk, ap, append-nil, sym, subst, ◌∙◌}
use Rattle.rl_model.specs.Actions.{◌>>=◌}
use Rattle.rl_model.specs.Expressions.{eval, values}
use Rattle.rl_source_stack.specs.Controls.{from, trace_of}
use Rattle.rl_source_stack.specs.Parts.{among, gathered, gathering}
use Rattle.rl_source_stack.specs.States.{state_of}
use Rattle.rl_syntax.specs.Syntax.{Then, syntax}
use Rattle.rl_source_gather.proofs.Forms.{expression_values}
use Rattle.rl_source_gather.proofs.gather.gather_elements.Goals as goal

pub elements-preserved : goal.elements-preserved
elements-preserved c =
    ap (λ t. from (gathering (state_of c.elements.run).scene c.args.what (Then t (among c.in-Some.behind.trees.now)) c.args.given)
    (state_of c.elements.run)) c.in-Hole.ensures
    ∙ sym (ap (λ ps. from (gathering (state_of c.elements.run).scene c.args.what ps c.args.given) (state_of c.elements.run))
    c.in-Some.ensures)
    ∙ c.elements.invariant

pub returns-in-Expression : goal.returns-in-Expression
returns-in-Expression c =
    subst (λ t. IfOk c.give_part.result (λ d. trace_of d (state_of c.give_part.new.run) ≡ t))
    (sym (ap (λ plain. from (plain >>= (λ vs. values (state_of c.elements.run).scene (among c.in-Some.behind.trees.now)
    >>= (λ ws. gathered (state_of c.elements.run).scene c.args.what (c.args.given ++ (vs ++ ws))))) (state_of c.elements.run))
    (expression_values (state_of c.elements.run).scene (syntax c.in-Expression.element.tree.now)
    (eval (state_of c.elements.run).scene (syntax c.in-Expression.element.tree.now)) c.in-Expression.element.fit))
    ∙ ap (λ t. from (gathering (state_of c.elements.run).scene c.args.what (Then t (among c.in-Some.behind.trees.now))
    c.args.given) (state_of c.elements.run)) c.in-Expression.ensures
    ∙ sym (ap (λ ps. from (gathering (state_of c.elements.run).scene c.args.what ps c.args.given) (state_of c.elements.run))
    c.in-Some.ensures)
    ∙ c.elements.invariant)
    c.give_part.ensures

pub returns-in-Spread : goal.returns-in-Spread
returns-in-Spread c =
    subst (λ t. IfOk c.give_part-in-Spread.result (λ d. trace_of d (state_of c.give_part-in-Spread.new.run) ≡ t))
    (ap (λ t. from (gathering (state_of c.elements.run).scene c.args.what (Then t (among c.in-Some.behind.trees.now))
    c.args.given) (state_of c.elements.run)) c.in-Spread.ensures
    ∙ sym (ap (λ ps. from (gathering (state_of c.elements.run).scene c.args.what ps c.args.given) (state_of c.elements.run))
    c.in-Some.ensures)
    ∙ c.elements.invariant)
    c.give_part-in-Spread.ensures

pub returns : goal.returns
returns c =
    subst (λ t. IfOk c.finish.result (λ d. trace_of d (state_of c.finish.new.run) ≡ t))
    (ap (λ g. from (gathered (state_of c.elements.run).scene c.args.what g) (state_of c.elements.run))
    (sym (append-nil c.args.given))
    ∙ sym (ap (λ ps. from (gathering (state_of c.elements.run).scene c.args.what ps c.args.given) (state_of c.elements.run))
    c.in_default.ensures)
    ∙ c.elements.invariant)
    c.finish.ensures
