-- The beginnings of runs.
use Rattle.std.proofs.Common.{◌≡◌, true, List, [], ◌∷◌, refl}
use Rattle.rl_ast.specs.FunctionNodes.{function_word, seen_function}
use Rattle.rl_ast.specs.declared.function_node.Function.{Function}
use Rattle.rl_ast.specs.declared.function_node.FunctionForm.{FunctionForm}
use Rattle.rl_ast.specs.declared.function_node.FunctionForm.TheVariants as form
use Rattle.rl_grammar.specs.Fields.{maybe}
use Rattle.rl_machine.specs.Machine.{set_by}
use Rattle.rl_machine.specs.Traces.{Store, set}
use Rattle.rl_machine.specs.declared.trace.Assignment.{Assignment}
use Rattle.rl_model.specs.Functions.{set_all}
use Rattle.rl_names.specs.Functions.{body_in, params_in}
use Rattle.rl_syntax.specs.Syntax.{Node, Flag, Pieces, End, Then, syntax}
use Rattle.rl_trace.specs.Shared.{ident_of}
use Rattle.rl_trace.specs.declared.shared.Numbers.TheVariants as numbers

-- Start stores have variables that are symbols by their own numbers.
pub set_begun : (start : List Assignment) (store : Store) → set_by (ident_of numbers.Own) (λ symbol. true) start store ≡ set_all start store
set_begun [] store = refl
set_begun (a ∷ start) store = set_begun start (set store a.symbol.0 a.value)

abbrev parts_of : Function → Pieces
parts_of f =
    Then (Flag f.marked) (Then (Flag f.is_async) (Then (Flag f.generator) (Then (maybe f.name (λ t. syntax t.tree.now))
    (Then (syntax f.params.tree.now) (Then (maybe f.body (λ t. syntax t.tree.now)) End)))))

params_by : (f : Function) (w : FunctionForm) → params_in (Node f.at (function_word w) (parts_of f)) ≡ syntax f.params.tree.now
params_by f form.Declaration = refl
params_by f form.Expression = refl

body_by : (f : Function) (w : FunctionForm) → body_in (Node f.at (function_word w) (parts_of f)) ≡ maybe f.body (λ t. syntax t.tree.now)
body_by f form.Declaration = refl
body_by f form.Expression = refl

-- Parameters and body of a function that is no arrow function.
pub params_are : (f : Function) → params_in (seen_function f) ≡ syntax f.params.tree.now
params_are f = params_by f f.form

pub body_is : (f : Function) → body_in (seen_function f) ≡ maybe f.body (λ t. syntax t.tree.now)
body_is f = body_by f f.form
