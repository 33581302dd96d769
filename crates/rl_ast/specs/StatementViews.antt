-- The trees that views show, one level each. Written by tools/syntax.py from tools/grammar.txt.
use Rattle.std.specs.Prelude.{map}
use Rattle.rl_grammar.specs.Fields.{maybe}
use Rattle.rl_syntax.specs.Syntax.{Syntax, End, Flag, Listed, Node, Said, Then, pieces_of, syntax}
use Rattle.rl_ast.specs.declared.statement.Statement.{Statement}
use Rattle.rl_ast.specs.declared.statement.Statement.TheVariants as statement
use Rattle.rl_syntax.specs.declared.word.Word.TheVariants as word

abbrev pub seen_statement : Statement → Syntax
seen_statement (statement.Empty at) = Node at word.Empty End
seen_statement (statement.Debugger at) = Node at word.Debugger End
seen_statement (statement.Expression at expression) = Node at word.Expr (Then (syntax expression.tree.now) End)
seen_statement (statement.Return at argument) = Node at word.Return (Then (maybe argument (λ t. syntax t.tree.now)) End)
seen_statement (statement.Throw at argument) = Node at word.Throw (Then (syntax argument.tree.now) End)
seen_statement (statement.Block inner) = syntax inner.tree.now
seen_statement (statement.If at test consequent alternate) = Node at word.If (Then (syntax test.tree.now) (Then (syntax consequent.tree.now) (Then (maybe alternate (λ t. syntax t.tree.now)) End)))
seen_statement (statement.For at init test update body) = Node at word.For (Then (maybe init (λ t. syntax t.tree.now)) (Then (maybe test (λ t. syntax t.tree.now)) (Then (maybe update (λ t. syntax t.tree.now)) (Then (syntax body.tree.now) End))))
seen_statement (statement.While at test body) = Node at word.While (Then (syntax test.tree.now) (Then (syntax body.tree.now) End))
seen_statement (statement.DoWhile at body test) = Node at word.Dowhile (Then (syntax body.tree.now) (Then (syntax test.tree.now) End))
seen_statement (statement.ForIn at left right body) = Node at word.Forin (Then (syntax left.tree.now) (Then (syntax right.tree.now) (Then (syntax body.tree.now) End)))
seen_statement (statement.ForOf at is_await left right body) = Node at word.Forof (Then (Flag is_await) (Then (syntax left.tree.now) (Then (syntax right.tree.now) (Then (syntax body.tree.now) End))))
seen_statement (statement.Switch at discriminant cases) = Node at word.Switch (Then (syntax discriminant.tree.now) (Then (Listed (pieces_of (map syntax cases.trees.now))) End))
seen_statement (statement.Try at block handler finalizer) = Node at word.Try (Then (syntax block.tree.now) (Then (maybe handler (λ t. syntax t.tree.now)) (Then (maybe finalizer (λ t. syntax t.tree.now)) End)))
seen_statement (statement.Break at label) = Node at word.Break (Then (maybe label (λ t. Said t.now)) End)
seen_statement (statement.Continue at label) = Node at word.Continue (Then (maybe label (λ t. Said t.now)) End)
seen_statement (statement.Labeled at label body) = Node at word.Labeled (Then (Said label.now) (Then (syntax body.tree.now) End))
seen_statement (statement.With at object body) = Node at word.With (Then (syntax object.tree.now) (Then (syntax body.tree.now) End))
seen_statement (statement.Variables inner) = syntax inner.tree.now
seen_statement (statement.Function inner) = syntax inner.tree.now
seen_statement (statement.Class at name super_class members) = Node at word.Classdecl (Then (maybe name (λ t. syntax t.tree.now)) (Then (maybe super_class (λ t. syntax t.tree.now)) (Then (Listed (pieces_of (map syntax members.trees.now))) End)))
seen_statement (statement.TypeAlias at name annotation) = Node at word.Typealias (Then (syntax name.tree.now) (Then (syntax annotation.tree.now) End))
seen_statement (statement.Interface at name) = Node at word.Interface (Then (syntax name.tree.now) End)
seen_statement (statement.Enum at name) = Node at word.Enum (Then (syntax name.tree.now) End)
seen_statement (statement.Namespace at name) = Node at word.Namespace (Then (syntax name.tree.now) End)
seen_statement (statement.Import at source specifiers) = Node at word.Import (Then (Said source.now) (Then (Listed (pieces_of (map syntax specifiers.trees.now))) End))
seen_statement (statement.Export at declaration) = Node at word.Export (Then (syntax declaration.tree.now) End)
seen_statement (statement.ExportDefault at declaration) = Node at word.Exportdefault (Then (syntax declaration.tree.now) End)
seen_statement (statement.ExportList at names) = Node at word.Exportlist (Then (Listed (pieces_of (map syntax names.trees.now))) End)
seen_statement (statement.ExportFrom at source) = Node at word.Exportfrom (Then (Said source.now) End)
