use Rattle.std.proofs.Common.{◌≡◌, IfOk, ap, subst, ◌∙◌}
use Rattle.rl_source_stack.specs.Controls.{from, trace_of}
use Rattle.rl_source_stack.specs.Parts.{gathering, parts_among}
use Rattle.rl_source_stack.specs.States.{state_of}
use Rattle.rl_syntax.specs.Syntax.{Then, syntax}
use Rattle.rl_source_gather.proofs.Methods.{method_first}
use Rattle.rl_source_gather.proofs.gather.gather_property.Goals as goal

pub returns-in-Value : goal.returns-in-Value
returns-in-Value c =
    subst (λ t. IfOk c.gather_pair.result (λ d. trace_of d (state_of c.gather_pair.new.run) ≡ t))
    (ap (λ t. from (gathering (state_of c.args.run.now).scene c.args.what (Then t (parts_among c.args.left)) c.args.given)
    (state_of c.args.run.now)) c.in-Value.ensures)
    c.gather_pair.ensures

pub returns-in-Method : goal.returns-in-Method
returns-in-Method c =
    subst (λ t. IfOk c.gather_method.result (λ d. trace_of d (state_of c.gather_method.new.run) ≡ t))
    (method_first (state_of c.args.run.now) c.args.what c.in-Method._at c.in-Method.computed (syntax c.in-Method.key.tree.now)
    (syntax c.in-Method.function.tree.now) c.function_expression_view-function.result
    (parts_among c.args.left) c.args.given c.function_expression_view-function.ensures c.in-Method.function.fit
    ∙ ap (λ t. from (gathering (state_of c.args.run.now).scene c.args.what (Then t (parts_among c.args.left)) c.args.given)
    (state_of c.args.run.now)) c.in-Method.ensures)
    c.gather_method.ensures

pub returns-in-Spread : goal.returns-in-Spread
returns-in-Spread c =
    subst (λ t. IfOk c.give_part.result (λ d. trace_of d (state_of c.give_part.new.run) ≡ t))
    (ap (λ t. from (gathering (state_of c.args.run.now).scene c.args.what (Then t (parts_among c.args.left)) c.args.given)
    (state_of c.args.run.now)) c.in-Spread.ensures)
    c.give_part.ensures
