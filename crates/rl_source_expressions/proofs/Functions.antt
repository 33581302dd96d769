-- A function that is an expression, by its view.
use Rattle.std.proofs.Common.{◌≡◌, true, refl, ap, ◌∙◌}
use Rattle.rl_ast.specs.FunctionNodes.{function_word, seen_function}
use Rattle.rl_ast.specs.declared.function_node.Function.{Function}
use Rattle.rl_ast.specs.declared.function_node.FunctionForm.{FunctionForm}
use Rattle.rl_ast.specs.declared.function_node.FunctionForm.TheVariants as form
use Rattle.rl_grammar.specs.Grammar.{fits}
use Rattle.rl_grammar.specs.declared.kind.Field.TheVariants as field
use Rattle.rl_grammar.specs.declared.kind.Kind.TheVariants as kind
use Rattle.rl_model.specs.Actions.{ask}
use Rattle.rl_model.specs.Events.{function}
use Rattle.rl_model.specs.Expressions.{eval}
use Rattle.rl_source_gather.proofs.Forms.{none_fits}
use Rattle.rl_source_stack.specs.Controls.{from}
use Rattle.rl_source_stack.specs.States.{State}
use Rattle.rl_syntax.specs.Syntax.{Syntax, Node, Pieces}
use Rattle.rl_syntax.specs.declared.numbered.At.{At}

-- Of a node that is an expression the word is that of function expressions, whose value is asked by an event.
form_evaluated : (s : State) (at : At) (x : FunctionForm) (ps : Pieces)
    → fits (field.One kind.FunctionExpression) (Node at (function_word x) ps) ≡ true
    → from (ask s.scene (function at.id.0)) s ≡ from (eval s.scene (Node at (function_word x) ps)) s
form_evaluated s at form.Expression ps fit = refl
form_evaluated s at form.Declaration ps fit = absurd (none_fits ps fit)

pub function_evaluated : (s : State) (f : Function) (t : Syntax) → seen_function f ≡ t → fits (field.One kind.FunctionExpression) t ≡ true
    → from (ask s.scene (function f.at.id.0)) s ≡ from (eval s.scene t) s
function_evaluated s f t is fit =
    form_evaluated s f.at f.form _ (ap (fits (field.One kind.FunctionExpression)) is ∙ fit) ∙ ap (λ x. from (eval s.scene x) s) is
