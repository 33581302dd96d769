-- The trees that views show, one level each. Written by tools/syntax.py from tools/grammar.txt.
use Rattle.std.specs.Prelude.{map}
use Rattle.rl_base.specs.Operators.{assignment_text, logical_text, operator_text, unary_text, update_text}
use Rattle.rl_grammar.specs.Fields.{maybe}
use Rattle.rl_syntax.specs.Syntax.{Syntax, End, Flag, Listed, Node, Said, Then, pieces_of, syntax}
use Rattle.rl_ast.specs.declared.expression.Expression.{Expression}
use Rattle.rl_ast.specs.declared.expression.Expression.TheVariants as expression
use Rattle.rl_syntax.specs.declared.word.Word.TheVariants as word

abbrev pub seen_expression : Expression → Syntax
seen_expression (expression.Identifier inner) = syntax inner.tree.now
seen_expression (expression.Null at) = Node at word.Null End
seen_expression (expression.Boolean at value) = Node at word.Bool (Then (Flag value) End)
seen_expression (expression.Number at text) = Node at word.Num (Then (Said text.now) End)
seen_expression (expression.String at text) = Node at word.Str (Then (Said text.now) End)
seen_expression (expression.BigInt at text) = Node at word.Bigint (Then (Said text.now) End)
seen_expression (expression.RegExp at pattern flags) = Node at word.Regexp (Then (Said pattern.now) (Then (Said flags.now) End))
seen_expression (expression.Template inner) = syntax inner.tree.now
seen_expression (expression.Tagged at tag quasi) = Node at word.Tagged (Then (syntax tag.tree.now) (Then (syntax quasi.tree.now) End))
seen_expression (expression.Array at items) = Node at word.Array (Then (Listed (pieces_of (map syntax items.trees.now))) End)
seen_expression (expression.Object at properties) = Node at word.Object (Then (Listed (pieces_of (map syntax properties.trees.now))) End)
seen_expression (expression.Unary at operator argument) = Node at word.Unary (Then (Said (unary_text operator)) (Then (syntax argument.tree.now) End))
seen_expression (expression.Update at operator prefix argument) = Node at word.Update (Then (Said (update_text operator)) (Then (Flag prefix) (Then (syntax argument.tree.now) End)))
seen_expression (expression.Binary at operator left right) = Node at word.Binary (Then (Said (operator_text operator)) (Then (syntax left.tree.now) (Then (syntax right.tree.now) End)))
seen_expression (expression.PrivateIn at name right) = Node at word.Privatein (Then (Said name.now) (Then (syntax right.tree.now) End))
seen_expression (expression.Logical at operator left right) = Node at word.Logical (Then (Said (logical_text operator)) (Then (syntax left.tree.now) (Then (syntax right.tree.now) End)))
seen_expression (expression.Conditional at test consequent alternate) = Node at word.Cond (Then (syntax test.tree.now) (Then (syntax consequent.tree.now) (Then (syntax alternate.tree.now) End)))
seen_expression (expression.Assignment at operator left right) = Node at word.Assign (Then (Said (assignment_text operator)) (Then (syntax left.tree.now) (Then (syntax right.tree.now) End)))
seen_expression (expression.Sequence at expressions) = Node at word.Seq (Then (Listed (pieces_of (map syntax expressions.trees.now))) End)
seen_expression (expression.New at callee arguments) = Node at word.New (Then (syntax callee.tree.now) (Then (Listed (pieces_of (map syntax arguments.trees.now))) End))
seen_expression (expression.Await at argument) = Node at word.Await (Then (syntax argument.tree.now) End)
seen_expression (expression.Yield at delegate argument) = Node at word.Yield (Then (Flag delegate) (Then (maybe argument (λ t. syntax t.tree.now)) End))
seen_expression (expression.ImportMeta at) = Node at word.Importmeta End
seen_expression (expression.NewTarget at) = Node at word.Newtarget End
seen_expression (expression.Super at) = Node at word.Super End
seen_expression (expression.This at) = Node at word.This End
seen_expression (expression.ImportCall at source options) = Node at word.Importcall (Then (syntax source.tree.now) (Then (maybe options (λ t. syntax t.tree.now)) End))
seen_expression (expression.Parenthesized at expression) = Node at word.Paren (Then (syntax expression.tree.now) End)
seen_expression (expression.As at expression annotation) = Node at word.As (Then (syntax expression.tree.now) (Then (syntax annotation.tree.now) End))
seen_expression (expression.Satisfies at expression annotation) = Node at word.Satisfies (Then (syntax expression.tree.now) (Then (syntax annotation.tree.now) End))
seen_expression (expression.Assert at annotation expression) = Node at word.Assert (Then (syntax annotation.tree.now) (Then (syntax expression.tree.now) End))
seen_expression (expression.NonNull at expression) = Node at word.Nonnull (Then (syntax expression.tree.now) End)
seen_expression (expression.Instantiate at expression names) = Node at word.Instantiate (Then (syntax expression.tree.now) (Then (Listed (pieces_of (map syntax names.trees.now))) End))
seen_expression (expression.Arrow inner) = syntax inner.tree.now
seen_expression (expression.Function inner) = syntax inner.tree.now
seen_expression (expression.Class at name super_class members) = Node at word.Classexpr (Then (maybe name (λ t. syntax t.tree.now)) (Then (maybe super_class (λ t. syntax t.tree.now)) (Then (Listed (pieces_of (map syntax members.trees.now))) End)))
seen_expression (expression.Element inner) = syntax inner.tree.now
seen_expression (expression.Fragment inner) = syntax inner.tree.now
seen_expression (expression.Member at optional object property) = Node at word.Member (Then (Flag optional) (Then (syntax object.tree.now) (Then (Said property.now) End)))
seen_expression (expression.Index at optional object property) = Node at word.Index (Then (Flag optional) (Then (syntax object.tree.now) (Then (syntax property.tree.now) End)))
seen_expression (expression.PrivateMember at optional object property) = Node at word.Privatemember (Then (Flag optional) (Then (syntax object.tree.now) (Then (Said property.now) End)))
seen_expression (expression.Call at optional callee arguments) = Node at word.Call (Then (Flag optional) (Then (syntax callee.tree.now) (Then (Listed (pieces_of (map syntax arguments.trees.now))) End)))
seen_expression (expression.Chain at expression) = Node at word.Chain (Then (syntax expression.tree.now) End)
