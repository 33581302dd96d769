-- The trees that views show, one level each. Written by tools/syntax.py from tools/grammar.txt.
use Rattle.std.specs.Prelude.{map}
use Rattle.rl_grammar.specs.Fields.{maybe}
use Rattle.rl_syntax.specs.Syntax.{Syntax, End, Listed, Node, Said, Then, pieces_of, syntax}
use Rattle.rl_ast.specs.declared.class.ClassElement.{ClassElement}
use Rattle.rl_ast.specs.declared.class.ClassElement.TheVariants as class_element
use Rattle.rl_ast.specs.declared.class.ImportSpecifier.{ImportSpecifier}
use Rattle.rl_ast.specs.declared.class.ImportSpecifier.TheVariants as import_specifier
use Rattle.rl_syntax.specs.declared.word.Word.TheVariants as word

abbrev pub seen_class_element : ClassElement → Syntax
seen_class_element (class_element.Method at function) = Node at word.Method (Then (syntax function.tree.now) End)
seen_class_element (class_element.Field at value) = Node at word.Field (Then (maybe value (λ t. syntax t.tree.now)) End)
seen_class_element (class_element.Static at body) = Node at word.Static (Then (Listed (pieces_of (map syntax body.trees.now))) End)

abbrev pub seen_import_specifier : ImportSpecifier → Syntax
seen_import_specifier (import_specifier.Default at local) = Node at word.Default (Then (syntax local.tree.now) End)
seen_import_specifier (import_specifier.Namespace at local) = Node at word.Namespace (Then (syntax local.tree.now) End)
seen_import_specifier (import_specifier.Named at imported local) = Node at word.Named (Then (Said imported.now) (Then (syntax local.tree.now) End))
