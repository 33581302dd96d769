-- The trees that views show, one level each. Written by tools/syntax.py from tools/grammar.txt.
use Rattle.std.specs.Prelude.{map}
use Rattle.rl_grammar.specs.Fields.{maybe}
use Rattle.rl_syntax.specs.Syntax.{Syntax, End, Flag, Listed, Node, Said, Then, pieces_of, syntax}
use Rattle.rl_ast.specs.declared.expression_part.TemplateLiteral.{TemplateLiteral}
use Rattle.rl_ast.specs.declared.expression_part.TemplateElement.{TemplateElement}
use Rattle.rl_ast.specs.declared.expression_part.ArrayElement.{ArrayElement}
use Rattle.rl_ast.specs.declared.expression_part.ArrayElement.TheVariants as array_element
use Rattle.rl_ast.specs.declared.expression_part.Argument.{Argument}
use Rattle.rl_ast.specs.declared.expression_part.Argument.TheVariants as argument
use Rattle.rl_ast.specs.declared.expression_part.ObjectProperty.{ObjectProperty}
use Rattle.rl_ast.specs.declared.expression_part.ObjectProperty.TheVariants as object_property
use Rattle.rl_syntax.specs.declared.word.Word.TheVariants as word

abbrev pub seen_template_literal : TemplateLiteral → Syntax
seen_template_literal v = Node v.at word.Template (Then (Listed (pieces_of (map syntax v.quasis.trees.now))) (Then (Listed (pieces_of (map syntax v.expressions.trees.now))) End))

abbrev pub seen_template_element : TemplateElement → Syntax
seen_template_element v = Node v.at word.Quasi (Then (Said v.raw.now) (Then (maybe v.cooked (λ t. Said t.now)) End))

abbrev pub seen_array_element : ArrayElement → Syntax
seen_array_element (array_element.Expression inner) = syntax inner.tree.now
seen_array_element (array_element.Spread at argument) = Node at word.Spread (Then (syntax argument.tree.now) End)
seen_array_element (array_element.Hole at) = Node at word.Hole End

abbrev pub seen_argument : Argument → Syntax
seen_argument (argument.Expression inner) = syntax inner.tree.now
seen_argument (argument.Spread at argument) = Node at word.Spread (Then (syntax argument.tree.now) End)

abbrev pub seen_object_property : ObjectProperty → Syntax
seen_object_property (object_property.Value at computed key value) = Node at word.Prop (Then (Flag computed) (Then (syntax key.tree.now) (Then (syntax value.tree.now) End)))
seen_object_property (object_property.Method at computed key function) = Node at word.Method (Then (Flag computed) (Then (syntax key.tree.now) (Then (syntax function.tree.now) End)))
seen_object_property (object_property.Get at computed key function) = Node at word.Get (Then (Flag computed) (Then (syntax key.tree.now) (Then (syntax function.tree.now) End)))
seen_object_property (object_property.Set at computed key function) = Node at word.Set (Then (Flag computed) (Then (syntax key.tree.now) (Then (syntax function.tree.now) End)))
seen_object_property (object_property.Spread at argument) = Node at word.Spread (Then (syntax argument.tree.now) End)
