-- The marked function of a unit that keeps the rules.
use Rattle.std.proofs.Common.{◌≡◌, ◌≢◌, refl, true, not, true≢false, ap, sym, subst, ◌∙◌, Some, None, unwrap_or, [], ◌∷◌}
use Rattle.rl_ast.proofs.MarkedFunctions.{first_found}
use Rattle.rl_ast.specs.FunctionNodes.{function_word, seen_function_node}
use Rattle.rl_ast.specs.Marked.{first, marked_functions}
use Rattle.rl_ast.specs.declared.function_node.Function.{Function}
use Rattle.rl_ast.specs.declared.function_node.FunctionForm.{FunctionForm}
use Rattle.rl_ast.specs.declared.function_node.FunctionForm.TheVariants as form
use Rattle.rl_ast.specs.declared.function_node.FunctionNode.{FunctionNode}
use Rattle.rl_ast.specs.declared.function_node.FunctionNode.TheVariants as function_node
use Rattle.rl_ast.specs.FunctionTrees.{is_function}
use Rattle.rl_grammar.proofs.Viewing.{six_fit}
use Rattle.rl_grammar.specs.Fields.{maybe}
use Rattle.rl_grammar.specs.Grammar.{fits}
use Rattle.rl_grammar.specs.declared.kind.Field.{Field}
use Rattle.rl_grammar.specs.declared.kind.Field.TheVariants as field
use Rattle.rl_grammar.specs.declared.kind.Kind.TheVariants as kind
use Rattle.rl_promises.proofs.Covering.{function_covered}
use Rattle.rl_promises.specs.Covered.{IsCoveredFunction, uncovered_in}
use Rattle.rl_model.specs.Marked.{marked}
use Rattle.rl_names.proofs.Marks.{HasBody, keeps_marked, one_marked}
use Rattle.rl_names.specs.Functions.{body_in}
use Rattle.rl_semantic.specs.Rules.{least_broken}
use Rattle.rl_syntax.specs.Forms.{is_absent}
use Rattle.rl_syntax.specs.Syntax.{Syntax, Node, Flag, Absent, Pieces, End, Then, syntax}

-- A unit without a marked function breaks a rule.
pub none_breaks : (u : Syntax) → least_broken u ≡ None → marked_functions u ≡ [] → ⊥
none_breaks u rules none =
    let one = one_marked u (keeps_marked u rules) in
    let never : [] ≡ one.0 ∷ [] = sym none ∙ one.1 in
    cc

-- The function that was found is the marked one.
pub marked_is : (u f : Syntax) → first (marked_functions u) ≡ Some f → f ≡ marked u
marked_is u f found = ap (λ o. unwrap_or o Absent) (sym found)

-- The function that was found has a body.
pub has_body : (u f : Syntax) → least_broken u ≡ None → first (marked_functions u) ≡ Some f → HasBody f
has_body u f rules found =
    let one = one_marked u (keeps_marked u rules) in
    let same : Some one.0 ≡ Some f = sym (ap first one.1) ∙ found in
    let is : one.0 ≡ f = cc in
    subst HasBody is one.2

-- The function that was found is covered, if it has no uncovered node.
pub is_covered : (u f : Syntax) → first (marked_functions u) ≡ Some f → first (uncovered_in f) ≡ None → IsCoveredFunction f
is_covered u f found none = function_covered f none (first_found u f found).1

absent_body : (t : Syntax) → fits (field.One kind.ArrowBody) t ≡ true → t ≢ Absent
absent_body t fit is = true≢false (sym fit ∙ ap (fits (field.One kind.ArrowBody)) is)

absent_braces : (t : Syntax) → fits (field.One kind.FunctionBody) t ≡ true → t ≢ Absent
absent_braces t fit is = true≢false (sym fit ∙ ap (fits (field.One kind.FunctionBody)) is)

absent_last : (t : Syntax) → not (is_absent t) ≡ true → t ≢ Absent
absent_last t has is = true≢false (sym has ∙ ap (λ (t : Syntax). not (is_absent t)) is)

abbrev parts_of : Function → Pieces
parts_of f = Then (Flag f.marked) (Then (Flag f.is_async) (Then (Flag f.generator) (Then (maybe f.name (λ t. syntax t.tree.now))
    (Then (syntax f.params.tree.now) (Then (maybe f.body (λ t. syntax t.tree.now)) End)))))

abbrev with_form : Function → FunctionForm → Syntax
with_form f form = Node f.at (function_word form) (parts_of f)

by_form : (f : Function) (form : FunctionForm) → f.form ≡ form → is_function (with_form f f.form) ≡ true → HasBody (with_form f f.form)
    → body_in (with_form f f.form) ≢ Absent
by_form f form.Declaration is fit has =
    subst (λ (form : FunctionForm). body_in (with_form f form) ≢ Absent) (sym is)
    (absent_last (maybe f.body (λ t. syntax t.tree.now)) (subst (λ (form : FunctionForm). HasBody (with_form f form)) is has))
by_form f form.Expression is fit has =
    let flag : Field = field.One kind.Flag in
    let body : Syntax = maybe f.body (λ t. syntax t.tree.now) in
    let parts = six_fit (parts_of f) (Flag f.marked) (Flag f.is_async) (Flag f.generator) (maybe f.name (λ t. syntax t.tree.now))
    (syntax f.params.tree.now) body refl flag flag flag (field.Maybe kind.BindingIdentifier) (field.One kind.FormalParameters)
    (field.One kind.FunctionBody) (subst (λ (form : FunctionForm). is_function (with_form f form) ≡ true) is fit) in
    subst (λ (form : FunctionForm). body_in (with_form f form) ≢ Absent) (sym is) (absent_braces body parts.5)

-- The body of a function that fits the grammar is there, if it has one.
pub body_there : (f : FunctionNode) → is_function (seen_function_node f) ≡ true → HasBody (seen_function_node f)
    → body_in (seen_function_node f) ≢ Absent
body_there (function_node.Arrow f) fit has = absent_body (syntax f.body.tree.now) f.body.fit
body_there (function_node.Function f) fit has = by_form f f.form refl fit has
