use Rattle.rl_model.specs.Expressions.{eval, values_of}
use Rattle.rl_source_gather.proofs.Markup.{attribute_values}
use Rattle.rl_source_gather.specs.Items.{item_values}
use Rattle.rl_source_stack.specs.States.{state_of}
use Rattle.rl_syntax.specs.Syntax.{syntax}
use Rattle.std.proofs.Common.{IfOk, ap, subst, sym, ◌∙◌, ◌≡◌}
use Rattle.rl_source_gather.proofs.jsx_item.attribute_item.Goals as goal

pub returns-in-Some : goal.returns-in-Some
returns-in-Some c =
    subst (λ t. IfOk c.value_item.result (λ item. t ≡ item_values (state_of c.args.run.now).scene item))
    (sym (ap (λ t. values_of (state_of c.args.run.now).scene t (eval (state_of c.args.run.now).scene t))
    (sym (rw c.in-Some.is at c.in-Attribute.ensures))
    ∙ attribute_values (state_of c.args.run.now).scene c.in-Attribute.at (syntax c.in-Attribute.name.tree.now)
    (syntax c.in-Some.value.tree.now) _ c.in-Some.value.fit))
    c.value_item.ensures

pub returns-in-None : goal.returns-in-None
returns-in-None c =
    ap (λ t. values_of (state_of c.args.run.now).scene t (eval (state_of c.args.run.now).scene t))
    (sym (rw c.in-None.is at c.in-Attribute.ensures))

pub returns-in-Spread : goal.returns-in-Spread
returns-in-Spread c =
    ap (λ t. values_of (state_of c.args.run.now).scene t (eval (state_of c.args.run.now).scene t)) (sym c.in-Spread.ensures)
