-- The trees that views show, one level each. Written by tools/syntax.py from tools/grammar.txt.
use Rattle.std.specs.Prelude.{map}
use Rattle.rl_base.specs.VariableKinds.{variable_text}
use Rattle.rl_grammar.specs.Fields.{maybe}
use Rattle.rl_syntax.specs.Syntax.{Syntax, End, Listed, Node, Said, Then, pieces_of, syntax}
use Rattle.rl_ast.specs.declared.statement_part.BlockStatement.{BlockStatement}
use Rattle.rl_ast.specs.declared.statement_part.SwitchCase.{SwitchCase}
use Rattle.rl_ast.specs.declared.statement_part.CatchClause.{CatchClause}
use Rattle.rl_ast.specs.declared.statement_part.VariableDeclaration.{VariableDeclaration}
use Rattle.rl_ast.specs.declared.statement_part.VariableDeclarator.{VariableDeclarator}
use Rattle.rl_ast.specs.declared.statement_part.ForInit.{ForInit}
use Rattle.rl_ast.specs.declared.statement_part.ForInit.TheVariants as for_init
use Rattle.rl_ast.specs.declared.statement_part.ForHead.{ForHead}
use Rattle.rl_ast.specs.declared.statement_part.ForHead.TheVariants as for_head
use Rattle.rl_ast.specs.declared.statement_part.ExportDefault.{ExportDefault}
use Rattle.rl_ast.specs.declared.statement_part.ExportDefault.TheVariants as export_default
use Rattle.rl_syntax.specs.declared.word.Word.TheVariants as word

abbrev pub seen_block_statement : BlockStatement → Syntax
seen_block_statement v = Node v.at word.Block (Then (Listed (pieces_of (map syntax v.body.trees.now))) End)

abbrev pub seen_switch_case : SwitchCase → Syntax
seen_switch_case v = Node v.at word.Case (Then (maybe v.test (λ t. syntax t.tree.now)) (Then (Listed (pieces_of (map syntax v.consequent.trees.now))) End))

abbrev pub seen_catch_clause : CatchClause → Syntax
seen_catch_clause v = Node v.at word.Catch (Then (maybe v.param (λ t. syntax t.tree.now)) (Then (syntax v.body.tree.now) End))

abbrev pub seen_variable_declaration : VariableDeclaration → Syntax
seen_variable_declaration v = Node v.at word.Var (Then (Said (variable_text v.kind)) (Then (Listed (pieces_of (map syntax v.declarators.trees.now))) End))

abbrev pub seen_variable_declarator : VariableDeclarator → Syntax
seen_variable_declarator v = Node v.at word.Declarator (Then (syntax v.pattern.tree.now) (Then (maybe v.init (λ t. syntax t.tree.now)) End))

abbrev pub seen_for_init : ForInit → Syntax
seen_for_init (for_init.Variables inner) = syntax inner.tree.now
seen_for_init (for_init.Expression inner) = syntax inner.tree.now

abbrev pub seen_for_head : ForHead → Syntax
seen_for_head (for_head.Variables inner) = syntax inner.tree.now
seen_for_head (for_head.Target inner) = syntax inner.tree.now

abbrev pub seen_export_default : ExportDefault → Syntax
seen_export_default (export_default.Statement inner) = syntax inner.tree.now
seen_export_default (export_default.Expression inner) = syntax inner.tree.now
