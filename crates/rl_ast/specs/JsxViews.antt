-- The trees that views show, one level each. Written by tools/syntax.py from tools/grammar.txt.
use Rattle.std.specs.Prelude.{map}
use Rattle.rl_grammar.specs.Fields.{maybe}
use Rattle.rl_syntax.specs.Syntax.{Syntax, End, Listed, Node, Said, Then, pieces_of, syntax}
use Rattle.rl_ast.specs.declared.jsx.JsxElement.{JsxElement}
use Rattle.rl_ast.specs.declared.jsx.JsxFragment.{JsxFragment}
use Rattle.rl_ast.specs.declared.jsx.JsxOpeningElement.{JsxOpeningElement}
use Rattle.rl_ast.specs.declared.jsx.JsxClosingElement.{JsxClosingElement}
use Rattle.rl_ast.specs.declared.jsx.JsxElementName.{JsxElementName}
use Rattle.rl_ast.specs.declared.jsx.JsxElementName.TheVariants as jsx_element_name
use Rattle.rl_ast.specs.declared.jsx.JsxAttribute.{JsxAttribute}
use Rattle.rl_ast.specs.declared.jsx.JsxAttribute.TheVariants as jsx_attribute
use Rattle.rl_ast.specs.declared.jsx.JsxAttributeName.{JsxAttributeName}
use Rattle.rl_ast.specs.declared.jsx.JsxAttributeName.TheVariants as jsx_attribute_name
use Rattle.rl_ast.specs.declared.jsx.JsxAttributeValue.{JsxAttributeValue}
use Rattle.rl_ast.specs.declared.jsx.JsxAttributeValue.TheVariants as jsx_attribute_value
use Rattle.rl_ast.specs.declared.jsx.JsxChild.{JsxChild}
use Rattle.rl_ast.specs.declared.jsx.JsxChild.TheVariants as jsx_child
use Rattle.rl_syntax.specs.declared.word.Word.TheVariants as word

abbrev pub seen_jsx_element : JsxElement → Syntax
seen_jsx_element v = Node v.at word.Element (Then (syntax v.opening.tree.now) (Then (Listed (pieces_of (map syntax v.children.trees.now))) (Then (maybe v.closing (λ t. syntax t.tree.now)) End)))

abbrev pub seen_jsx_fragment : JsxFragment → Syntax
seen_jsx_fragment v = Node v.at word.Fragment (Then (Listed (pieces_of (map syntax v.children.trees.now))) End)

abbrev pub seen_jsx_opening_element : JsxOpeningElement → Syntax
seen_jsx_opening_element v = Node v.at word.Opening (Then (syntax v.tag.tree.now) (Then (Listed (pieces_of (map syntax v.attributes.trees.now))) End))

abbrev pub seen_jsx_closing_element : JsxClosingElement → Syntax
seen_jsx_closing_element v = Node v.at word.Closing End

abbrev pub seen_jsx_element_name : JsxElementName → Syntax
seen_jsx_element_name (jsx_element_name.Name at name) = Node at word.Tag (Then (Said name.now) End)
seen_jsx_element_name (jsx_element_name.Identifier inner) = syntax inner.tree.now
seen_jsx_element_name (jsx_element_name.This at) = Node at word.This End
seen_jsx_element_name (jsx_element_name.Member at object property) = Node at word.Tagmember (Then (syntax object.tree.now) (Then (Said property.now) End))
seen_jsx_element_name (jsx_element_name.Namespaced at namespace name) = Node at word.Tagns (Then (Said namespace.now) (Then (Said name.now) End))

abbrev pub seen_jsx_attribute : JsxAttribute → Syntax
seen_jsx_attribute (jsx_attribute.Attribute at name value) = Node at word.Attr (Then (syntax name.tree.now) (Then (maybe value (λ t. syntax t.tree.now)) End))
seen_jsx_attribute (jsx_attribute.Spread at argument) = Node at word.Attrspread (Then (syntax argument.tree.now) End)

abbrev pub seen_jsx_attribute_name : JsxAttributeName → Syntax
seen_jsx_attribute_name (jsx_attribute_name.Name at name) = Node at word.Attrname (Then (Said name.now) End)
seen_jsx_attribute_name (jsx_attribute_name.Namespaced at namespace name) = Node at word.Attrns (Then (Said namespace.now) (Then (Said name.now) End))

abbrev pub seen_jsx_attribute_value : JsxAttributeValue → Syntax
seen_jsx_attribute_value (jsx_attribute_value.String at text) = Node at word.Str (Then (Said text.now) End)
seen_jsx_attribute_value (jsx_attribute_value.Container at expression) = Node at word.Container (Then (maybe expression (λ t. syntax t.tree.now)) End)
seen_jsx_attribute_value (jsx_attribute_value.Element inner) = syntax inner.tree.now
seen_jsx_attribute_value (jsx_attribute_value.Fragment inner) = syntax inner.tree.now

abbrev pub seen_jsx_child : JsxChild → Syntax
seen_jsx_child (jsx_child.Text at text) = Node at word.Text (Then (Said text.now) End)
seen_jsx_child (jsx_child.Container at expression) = Node at word.Container (Then (maybe expression (λ t. syntax t.tree.now)) End)
seen_jsx_child (jsx_child.Element inner) = syntax inner.tree.now
seen_jsx_child (jsx_child.Fragment inner) = syntax inner.tree.now
seen_jsx_child (jsx_child.Spread at argument) = Node at word.Spreadchild (Then (syntax argument.tree.now) End)
