-- Methods of objects by the functions that their nodes make.
use Rattle.std.proofs.Common.{◌≡◌, Bool, true, List, refl, sym, ap, ◌∙◌}
use Rattle.rl_ast.specs.FunctionNodes.{function_word, seen_function}
use Rattle.rl_ast.specs.declared.function_node.Function.{Function}
use Rattle.rl_ast.specs.declared.function_node.FunctionForm.{FunctionForm}
use Rattle.rl_ast.specs.declared.function_node.FunctionForm.TheVariants as form
use Rattle.rl_grammar.specs.Fields.{maybe}
use Rattle.rl_grammar.specs.Grammar.{fits}
use Rattle.rl_grammar.specs.declared.kind.Field.TheVariants as field
use Rattle.rl_grammar.specs.declared.kind.Kind.TheVariants as kind
use Rattle.rl_machine.specs.declared.trace.Value.{Value}
use Rattle.rl_model.specs.Actions.{ask}
use Rattle.rl_model.specs.Events.{method}
use Rattle.rl_model.specs.Expressions.{eval, property_key}
use Rattle.rl_source_gather.proofs.Forms.{none_fits}
use Rattle.rl_source_gather.specs.Pairs.{pair_then}
use Rattle.rl_source_stack.specs.Controls.{from}
use Rattle.rl_source_stack.specs.Parts.{gathering}
use Rattle.rl_source_stack.specs.States.{State}
use Rattle.rl_source_stack.specs.declared.gather.Gather.{Gather}
use Rattle.rl_syntax.specs.Syntax.{Syntax, Node, Flag, Pieces, End, Then, syntax}
use Rattle.rl_syntax.specs.declared.numbered.At.{At}
use Rattle.rl_syntax.specs.declared.word.Word.TheVariants as word

-- The word of a function expression.
pub expression_form : (f : FunctionForm) (at : At) (parts : Pieces) (t : Syntax) → Node at (function_word f) parts ≡ t
    → fits (field.One kind.FunctionExpression) t ≡ true → function_word f ≡ word.Funexpr
expression_form form.Expression at parts t is fit = refl
expression_form form.Declaration at parts t is fit =
    absurd (none_fits parts (ap (fits (field.One kind.FunctionExpression)) is ∙ fit))

abbrev parts_of : Function → Pieces
parts_of f =
    Then (Flag f.marked) (Then (Flag f.is_async) (Then (Flag f.generator) (Then (maybe f.name (λ t. syntax t.tree.now))
    (Then (syntax f.params.tree.now) (Then (maybe f.body (λ t. syntax t.tree.now)) End)))))

-- A method gives the value of its key, where that is computed, and then the method.
pub method_first : (s : State) (what : Gather) (at : At) (computed : Bool) (key t : Syntax) (f : Function) (left : Pieces)
    (given : List Value)
    → seen_function f ≡ t → fits (field.One kind.FunctionExpression) t ≡ true
    → from (pair_then s.scene what (property_key computed key (eval s.scene key)) (ask s.scene (method f.at.id.0)) left given) s
    ≡ from (gathering s.scene what (Then (Node at word.Method (Then (Flag computed) (Then key (Then t End)))) left) given) s
method_first s what at computed key t f left given is fit =
    ap (λ w. from (gathering s.scene what
    (Then (Node at word.Method (Then (Flag computed) (Then key (Then (Node f.at w (parts_of f)) End)))) left) given) s)
    (sym (expression_form f.form f.at (parts_of f) t is fit))
    ∙ ap (λ u. from (gathering s.scene what (Then (Node at word.Method (Then (Flag computed) (Then key (Then u End)))) left)
    given) s) is
