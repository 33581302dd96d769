use Rattle.std.proofs.Common.{Bool, if◌then◌else◌, None, ap, sym, ◌∙◌}
use Rattle.rl_machine.specs.declared.trace.Trace.{Trace}
use Rattle.rl_model.specs.Actions.{no_meaning}
use Rattle.rl_model.specs.Statements.{declare_all, exec}
use Rattle.rl_source_stack.specs.Controls.{from_normal, trace_of}
use Rattle.rl_source_stack.specs.Parts.{among}
use Rattle.rl_source_stack.specs.States.{State, state_of}
use Rattle.rl_source_stack.specs.declared.control.Control.TheVariants as control
use Rattle.rl_syntax.specs.Syntax.{Pieces}
use Rattle.rl_source_statements.proofs.declare.declare_variables.Goals as goal

-- The trace of a run that declares variables, by whether they are those of `using`.
abbrev declaring_by : State → (declarators : Pieces) → Bool → Trace
declaring_by s declarators used = from_normal (if used then no_meaning else declare_all s.scene declarators) s

pub returns-then-is_using : goal.returns-then-is_using
returns-then-is_using c =
    let old : State = state_of c.args.run.now in
    sym (ap (declaring_by old (among c.variable_declaration_view-declaration.result.declarators.trees.now))
    (sym c.is_using.ensures ∙ c.if-is_using.true))
    ∙ ap (λ t. from_normal (exec old.scene None t) old) c.variable_declaration_view-declaration.ensures

pub returns : goal.returns
returns c =
    let old : State = state_of c.args.run.now in
    ap (trace_of control.Normal) c.in_ok-push.ensures
    ∙ sym (ap (declaring_by old (among c.variable_declaration_view-declaration.result.declarators.trees.now))
    (sym c.is_using.ensures ∙ c.if-is_using.false))
    ∙ ap (λ t. from_normal (exec old.scene None t) old) c.variable_declaration_view-declaration.ensures
