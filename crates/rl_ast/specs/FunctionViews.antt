-- The trees that views show, one level each. Written by tools/syntax.py from tools/grammar.txt.
use Rattle.std.specs.Prelude.{map}
use Rattle.rl_grammar.specs.Fields.{maybe}
use Rattle.rl_syntax.specs.Syntax.{Syntax, End, Flag, Listed, Node, Then, pieces_of, syntax}
use Rattle.rl_ast.specs.declared.function.Arrow.{Arrow}
use Rattle.rl_ast.specs.declared.function.FormalParameters.{FormalParameters}
use Rattle.rl_ast.specs.declared.function.FormalParameter.{FormalParameter}
use Rattle.rl_ast.specs.declared.function.BindingRestElement.{BindingRestElement}
use Rattle.rl_ast.specs.declared.function.FunctionBody.{FunctionBody}
use Rattle.rl_ast.specs.declared.function.ArrowBody.{ArrowBody}
use Rattle.rl_ast.specs.declared.function.ArrowBody.TheVariants as arrow_body
use Rattle.rl_syntax.specs.declared.word.Word.TheVariants as word

abbrev pub seen_arrow : Arrow → Syntax
seen_arrow v = Node v.at word.Arrow (Then (Flag v.marked) (Then (Flag v.is_async) (Then (syntax v.params.tree.now) (Then (syntax v.body.tree.now) End))))

abbrev pub seen_formal_parameters : FormalParameters → Syntax
seen_formal_parameters v = Node v.at word.Params (Then (Listed (pieces_of (map syntax v.items.trees.now))) (Then (maybe v.rest (λ t. syntax t.tree.now)) End))

abbrev pub seen_formal_parameter : FormalParameter → Syntax
seen_formal_parameter v = Node v.at word.Param (Then (syntax v.pattern.tree.now) (Then (maybe v.default (λ t. syntax t.tree.now)) End))

abbrev pub seen_binding_rest_element : BindingRestElement → Syntax
seen_binding_rest_element v = Node v.at word.Rest (Then (syntax v.pattern.tree.now) End)

abbrev pub seen_function_body : FunctionBody → Syntax
seen_function_body v = Node v.at word.Body (Then (Listed (pieces_of (map syntax v.directives.trees.now))) (Then (Listed (pieces_of (map syntax v.statements.trees.now))) End))

abbrev pub seen_arrow_body : ArrowBody → Syntax
seen_arrow_body (arrow_body.Body inner) = syntax inner.tree.now
seen_arrow_body (arrow_body.Expression inner) = syntax inner.tree.now
