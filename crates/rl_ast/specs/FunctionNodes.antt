-- The trees that views of functions show.
use Rattle.rl_base.specs.declared.ids.ScopeId.{ScopeId}
use Rattle.rl_grammar.specs.Fields.{maybe}
use Rattle.rl_syntax.specs.Syntax.{Syntax, Node, Flag, End, Then, syntax}
use Rattle.rl_ast.specs.FunctionViews.{seen_arrow}
use Rattle.rl_ast.specs.declared.function_node.Function.{Function}
use Rattle.rl_ast.specs.declared.function_node.FunctionForm.{FunctionForm}
use Rattle.rl_ast.specs.declared.function_node.FunctionForm.TheVariants as form
use Rattle.rl_ast.specs.declared.function_node.FunctionNode.{FunctionNode}
use Rattle.rl_ast.specs.declared.function_node.FunctionNode.TheVariants as function_node
use Rattle.rl_syntax.specs.declared.word.Word.{Word}
use Rattle.rl_syntax.specs.declared.word.Word.TheVariants as word

abbrev pub function_word : FunctionForm → Word
function_word form.Declaration = word.Fundecl
function_word form.Expression = word.Funexpr

abbrev pub seen_function : Function → Syntax
seen_function v = Node v.at (function_word v.form) (Then (Flag v.marked) (Then (Flag v.is_async) (Then (Flag v.generator) (Then (maybe v.name (λ t. syntax t.tree.now)) (Then (syntax v.params.tree.now) (Then (maybe v.body (λ t. syntax t.tree.now)) End))))))

abbrev pub seen_function_node : FunctionNode → Syntax
seen_function_node (function_node.Function inner) = seen_function inner
seen_function_node (function_node.Arrow inner) = seen_arrow inner

-- The scope that a node makes; number 0 at a tree that is no node.
abbrev pub scope_of : Syntax → ScopeId
scope_of (Node at word parts) = at.scope
scope_of _ = record { 0 = 0 }
