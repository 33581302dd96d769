use Rattle.rl_model.specs.Expressions.{eval, values_of}
use Rattle.rl_model.specs.Shapes.{child_shape}
use Rattle.rl_source_gather.proofs.Markup.{element_child, element_place, fragment_child, fragment_place}
use Rattle.rl_source_gather.specs.Items.{IsChild}
use Rattle.rl_source_stack.specs.States.{state_of}
use Rattle.rl_syntax.specs.Syntax.{syntax}
use Rattle.std.proofs.Common.{IfOk, ap, subst, sym, ◌∙◌}
use Rattle.rl_source_gather.proofs.jsx_item.child_item.Goals as goal

pub returns-in-Text : goal.returns-in-Text
returns-in-Text c =
    subst (λ t. IfOk c.text_item.result (IsChild (state_of c.args.run.now).scene t)) c.in-Text.ensures c.text_item.ensures

pub returns-in-Container : goal.returns-in-Container
returns-in-Container c =
    subst (λ t. IsChild (state_of c.args.run.now).scene t c.container_item.result) c.in-Container.ensures
    c.container_item.ensures.child

pub returns-in-Element : goal.returns-in-Element
returns-in-Element c = record {
  values = ap (λ t. values_of (state_of c.args.run.now).scene t (eval (state_of c.args.run.now).scene t))
      (sym c.in-Element.ensures) ∙ element_child (state_of c.args.run.now).scene (syntax c.in-Element.element.tree.now)
      c.in-Element.element.fit;
  shape = ap (child_shape (state_of c.args.run.now).scene) (sym c.in-Element.ensures)
      ∙ element_place (state_of c.args.run.now).scene (syntax c.in-Element.element.tree.now) c.in-Element.element.fit;
}

pub returns-in-Fragment : goal.returns-in-Fragment
returns-in-Fragment c = record {
  values = ap (λ t. values_of (state_of c.args.run.now).scene t (eval (state_of c.args.run.now).scene t))
      (sym c.in-Fragment.ensures) ∙ fragment_child (state_of c.args.run.now).scene (syntax c.in-Fragment.fragment.tree.now)
      c.in-Fragment.fragment.fit;
  shape = ap (child_shape (state_of c.args.run.now).scene) (sym c.in-Fragment.ensures)
      ∙ fragment_place (state_of c.args.run.now).scene (syntax c.in-Fragment.fragment.tree.now) c.in-Fragment.fragment.fit;
}

pub returns-in-Spread : goal.returns-in-Spread
returns-in-Spread c = record {
  values = ap (λ t. values_of (state_of c.args.run.now).scene t (eval (state_of c.args.run.now).scene t))
      (sym c.in-Spread.ensures);
  shape = ap (child_shape (state_of c.args.run.now).scene) (sym c.in-Spread.ensures);
}
