-- The meaning of statements and of parts of them, by their parts.
use Rattle.std.proofs.Common.{◌≡◌, Bool, true, false, Option, Some, None, Result, List, ℕ}
use Rattle.std.proofs.Common.{IfOk, ap, refl, subst, sym, ◌∙◌}
use Rattle.std.specs.Borrow.{Bor}
use Rattle.rl_ast.specs.FunctionNodes.{function_word, seen_function}
use Rattle.rl_ast.specs.FunctionViews.{seen_formal_parameter}
use Rattle.rl_ast.specs.StatementPartViews.{seen_variable_declarator}
use Rattle.rl_ast.specs.declared.function.FormalParameter.{FormalParameter}
use Rattle.rl_ast.specs.declared.function_node.Function.{Function}
use Rattle.rl_ast.specs.declared.function_node.FunctionForm.{FunctionForm}
use Rattle.rl_ast.specs.declared.function_node.FunctionForm.TheVariants as form
use Rattle.rl_ast.specs.declared.statement_part.VariableDeclarator.{VariableDeclarator}
use Rattle.rl_base.specs.declared.error.OutOfMemory.{OutOfMemory}
use Rattle.rl_grammar.specs.Fields.{maybe}
use Rattle.rl_grammar.specs.Grammar.{fits}
use Rattle.rl_grammar.specs.declared.kind.Field.TheVariants as field
use Rattle.rl_grammar.specs.declared.kind.Kind.{Kind}
use Rattle.rl_grammar.specs.declared.kind.Kind.TheVariants as kind
use Rattle.rl_hir.specs.declared.terminal.ReturnVariant.TheVariants as returns
use Rattle.rl_machine.specs.declared.trace.Trace.{Trace}
use Rattle.rl_machine.specs.declared.trace.Value.{Value}
use Rattle.rl_machine.specs.declared.trace.Value.TheVariants as value
use Rattle.rl_model.specs.Actions.{Label, ◌>>=◌, break_to, continue_to, return_with}
use Rattle.rl_model.specs.Expressions.{eval, or_default}
use Rattle.rl_model.specs.Functions.{run_body, take_argument}
use Rattle.rl_model.specs.Patterns.{bind}
use Rattle.rl_model.specs.Scene.{Scene}
use Rattle.rl_model.specs.Shapes as shapes
use Rattle.rl_model.specs.Statements.{declare_one, exec}
use Rattle.rl_source_stack.proofs.Goings.{goes_as}
use Rattle.rl_source_stack.specs.Controls.{from_normal, trace_of}
use Rattle.rl_source_stack.specs.Parts.{label_of}
use Rattle.rl_source_stack.specs.States.{State}
use Rattle.rl_source_stack.specs.declared.control.Control.{Control}
use Rattle.rl_source_statements.specs.Starts.{iterating, returning, storing_body, trying}
use Rattle.rl_syntax.specs.Syntax.{Syntax, Node, Said, Flag, Listed, Absent, Pieces, End, Then, syntax}
use Rattle.rl_syntax.specs.declared.numbered.At.{At}
use Rattle.rl_syntax.specs.declared.word.Word.TheVariants as word

-- A statement that does as its tree says.
pub exec_so : (result : Result Control OutOfMemory) (new old : State) (own : Label) (p t : Syntax) (q : Trace) → p ≡ t
    → q ≡ from_normal (exec old.scene own p) old → IfOk result (λ d. trace_of d new ≡ q)
    → IfOk result (λ d. trace_of d new ≡ from_normal (exec old.scene own t) old)
exec_so result new old own p t q is same ensured =
    subst (λ t. IfOk result (λ d. trace_of d new ≡ from_normal (exec old.scene own t) old)) is
    (goes_as result new same ensured)

pub exec_here : (d : Control) (s : State) (own : Label) (p t : Syntax) → p ≡ t → trace_of d s ≡ from_normal (exec s.scene own p) s
    → trace_of d s ≡ from_normal (exec s.scene own t) s
exec_here d s own p t is same = same ∙ ap (λ t. from_normal (exec s.scene own t) s) is

-- A part that fits is there.
pub is_there : (k : Kind) (t : Syntax) → fits (field.One k) t ≡ true → shapes.is_absent t ≡ false
is_there k Absent h = absurd (cc)
is_there k _ h = refl

-- `return`, with an expression or without one.
pub exec_return : (scene : Scene) (own : Label) (at : At) (x : Syntax)
    → exec scene own (Node at word.Return (Then x End)) ≡ returning scene x
exec_return scene own at Absent = refl
exec_return scene own at _ = refl

pub returning_some : (scene : Scene) (x : Syntax) → fits (field.One kind.Expression) x ≡ true
    → returning scene x ≡ (do v ← eval scene x; return_with scene returns.Explicit v)
returning_some scene Absent h = absurd (cc)
returning_some scene _ h = refl

-- `try`.
pub exec_try : (scene : Scene) (own : Label) (at : At) (block handler finalizer : Syntax)
    → exec scene own (Node at word.Try (Then block (Then handler (Then finalizer End)))) ≡ trying scene block handler finalizer
exec_try scene own at block (Node there word.Catch (Then param (Then body End))) finalizer = refl
exec_try scene own at block _ finalizer = refl

-- Jumps.
pub exec_break : (scene : Scene) (own : Label) (at : At) (label : Option (Bor (List ℕ)))
    → exec scene own (Node at word.Break (Then (maybe label (λ t. Said t.now)) End)) ≡ break_to (label_of label)
exec_break scene own at None = refl
exec_break scene own at (Some label) = refl

pub exec_continue : (scene : Scene) (own : Label) (at : At) (label : Option (Bor (List ℕ)))
    → exec scene own (Node at word.Continue (Then (maybe label (λ t. Said t.now)) End)) ≡ continue_to (label_of label)
exec_continue scene own at None = refl
exec_continue scene own at (Some label) = refl

-- A block and a declaration of variables do not see the label in front of them.
pub own_block : (scene : Scene) (own : Label) (t : Syntax) → fits (field.One kind.BlockStatement) t ≡ true
    → exec scene None t ≡ exec scene own t
own_block scene own (Node at word.Block (Then (Listed ss) End)) h = refl
own_block scene own (Node at word.Block _) h = refl
own_block scene own _ h = absurd (cc)

pub own_variables : (scene : Scene) (own : Label) (t : Syntax) → fits (field.One kind.VariableDeclaration) t ≡ true
    → exec scene None t ≡ exec scene own t
own_variables scene own (Node at word.Var (Then (Said kind) (Then (Listed ds) End))) h = refl
own_variables scene own (Node at word.Var _) h = refl
own_variables scene own _ h = absurd (cc)

-- A `for`-`of` loop.
pub exec_for_of : (scene : Scene) (own : Label) (at : At) (is_await : Bool) (head right body : Syntax)
    → exec scene own (Node at word.Forof (Then (Flag is_await) (Then head (Then right (Then body End)))))
    ≡ iterating scene own is_await head right body
exec_for_of scene own at true head right body = refl
exec_for_of scene own at false head right body = refl

-- A function declaration.
pub exec_function : (scene : Scene) (own : Label) (at : At) (a b c name params body : Syntax)
    → exec scene own (Node at word.Fundecl (Then a (Then b (Then c (Then name (Then params (Then body End)))))))
    ≡ storing_body scene at.id.0 name body
exec_function scene own at a b c name params Absent = refl
exec_function scene own at a b c (Node there word.Bind parts) params _ = refl
exec_function scene own at a b c _ params _ = refl

pub declaration_form : (f : FunctionForm) (at : At) (parts : Pieces) (t : Syntax) → Node at (function_word f) parts ≡ t
    → fits (field.One kind.FunctionDeclaration) t ≡ true → function_word f ≡ word.Fundecl
declaration_form form.Declaration at parts t is h = refl
declaration_form form.Expression at parts t is h =
    let never : false ≡ true = ap (fits (field.One kind.FunctionDeclaration)) is ∙ h in absurd (cc)

abbrev parts_of : Function → Pieces
parts_of f =
    Then (Flag f.marked) (Then (Flag f.is_async) (Then (Flag f.generator) (Then (maybe f.name (λ t. syntax t.tree.now))
    (Then (syntax f.params.tree.now) (Then (maybe f.body (λ t. syntax t.tree.now)) End)))))

pub exec_declared : (scene : Scene) (own : Label) (f : Function) (t : Syntax) → seen_function f ≡ t
    → fits (field.One kind.FunctionDeclaration) t ≡ true
    → storing_body scene f.at.id.0 (maybe f.name (λ t. syntax t.tree.now)) (maybe f.body (λ t. syntax t.tree.now)) ≡ exec scene own t
exec_declared scene own f t is h =
    sym (exec_function scene own f.at (Flag f.marked) (Flag f.is_async) (Flag f.generator) (maybe f.name (λ t. syntax t.tree.now))
    (syntax f.params.tree.now) (maybe f.body (λ t. syntax t.tree.now)))
    ∙ ap (λ w. exec scene own (Node f.at w (parts_of f))) (sym (declaration_form f.form f.at (parts_of f) t is h))
    ∙ ap (exec scene own) is

-- A declarator, and a parameter.
declare_some : (scene : Scene) (at : At) (pattern init : Syntax) → fits (field.One kind.Expression) init ≡ true
    → declare_one scene (Node at word.Declarator (Then pattern (Then init End))) ≡ (do v ← eval scene init; bind scene false pattern v)
declare_some scene at pattern Absent h = absurd (cc)
declare_some scene at pattern _ h = refl

pub declared_none : (scene : Scene) (d : VariableDeclarator) (t : Syntax) → seen_variable_declarator d ≡ t → d.init ≡ None
    → declare_one scene t ≡ bind scene false (syntax d.pattern.tree.now) value.Undefined
declared_none scene d t is none =
    ap (declare_one scene) (sym is)
    ∙ ap (λ o. declare_one scene
    (Node d.at word.Declarator (Then (syntax d.pattern.tree.now) (Then (maybe o (λ t. syntax t.tree.now)) End)))) none

pub declared_some : (scene : Scene) (d : VariableDeclarator) (t x : Syntax) → seen_variable_declarator d ≡ t
    → maybe d.init (λ t. syntax t.tree.now) ≡ x → fits (field.One kind.Expression) x ≡ true
    → declare_one scene t ≡ (do v ← eval scene x; bind scene false (syntax d.pattern.tree.now) v)
declared_some scene d t x is some h =
    ap (declare_one scene) (sym is)
    ∙ ap (λ x. declare_one scene (Node d.at word.Declarator (Then (syntax d.pattern.tree.now) (Then x End)))) some
    ∙ declare_some scene d.at (syntax d.pattern.tree.now) x h

argument_some : (scene : Scene) (at : At) (pattern default : Syntax) (v : Value) → fits (field.One kind.Expression) default ≡ true
    → take_argument scene (Node at word.Param (Then pattern (Then default End))) v
    ≡ (do w ← or_default scene v (eval scene default); bind scene true pattern w)
argument_some scene at pattern Absent v h = absurd (cc)
argument_some scene at pattern _ v h = refl

pub taken_none : (scene : Scene) (p : FormalParameter) (t : Syntax) (v : Value) → seen_formal_parameter p ≡ t → p.default ≡ None
    → take_argument scene t v ≡ bind scene true (syntax p.pattern.tree.now) v
taken_none scene p t v is none =
    ap (λ t. take_argument scene t v) (sym is)
    ∙ ap (λ o. take_argument scene
    (Node p.at word.Param (Then (syntax p.pattern.tree.now) (Then (maybe o (λ t. syntax t.tree.now)) End))) v) none

pub taken_some : (scene : Scene) (p : FormalParameter) (t x : Syntax) (v : Value) → seen_formal_parameter p ≡ t
    → maybe p.default (λ t. syntax t.tree.now) ≡ x → fits (field.One kind.Expression) x ≡ true
    → take_argument scene t v ≡ (do w ← or_default scene v (eval scene x); bind scene true (syntax p.pattern.tree.now) w)
taken_some scene p t x v is some h =
    ap (λ t. take_argument scene t v) (sym is)
    ∙ ap (λ x. take_argument scene (Node p.at word.Param (Then (syntax p.pattern.tree.now) (Then x End))) v) some
    ∙ argument_some scene p.at (syntax p.pattern.tree.now) x v h

-- A body that is an expression.
pub body_value : (scene : Scene) (t : Syntax) → fits (field.One kind.Expression) t ≡ true
    → run_body scene t ≡ (do v ← eval scene t; return_with scene returns.Implicit v)
body_value scene (Node at word.Body parts) h = absurd (cc)
body_value scene _ h = refl
