use Rattle.rl_machine.specs.declared.trace.Value.TheVariants as value
use Rattle.rl_model.specs.Actions.{give}
use Rattle.rl_source_gather.proofs.Markup.{element_value, fragment_value}
use Rattle.rl_source_gather.specs.Items.{value_values}
use Rattle.rl_source_stack.specs.States.{state_of}
use Rattle.rl_syntax.specs.Syntax.{syntax}
use Rattle.std.proofs.Common.{[], ap, sym, ◌∙◌, ◌∷◌}
use Rattle.rl_source_gather.proofs.jsx_item.value_item.Goals as goal

pub returns-in_ok-text-in-String : goal.returns-in_ok-text-in-String
returns-in_ok-text-in-String c =
    ap (value_values (state_of c.args.run.now).scene) (sym c.in-String.ensures)
    ∙ ap (λ text. give (value.Text text ∷ [])) (sym c.in_ok-text-in-String.ensures)

pub returns-in-Container : goal.returns-in-Container
returns-in-Container c =
    ap (value_values (state_of c.args.run.now).scene) (sym c.in-Container.ensures) ∙ c.container_item.ensures.value

pub returns-in-Element : goal.returns-in-Element
returns-in-Element c =
    ap (value_values (state_of c.args.run.now).scene) (sym c.in-Element.ensures)
    ∙ element_value (state_of c.args.run.now).scene (syntax c.in-Element.element.tree.now) c.in-Element.element.fit

pub returns-in-Fragment : goal.returns-in-Fragment
returns-in-Fragment c =
    ap (value_values (state_of c.args.run.now).scene) (sym c.in-Fragment.ensures)
    ∙ fragment_value (state_of c.args.run.now).scene (syntax c.in-Fragment.fragment.tree.now) c.in-Fragment.fragment.fit
