use Rattle.std.proofs.Common.{ap, sym, ◌∙◌}
use Rattle.rl_ast.specs.FunctionNodes.{seen_function_node}
use Rattle.rl_ast.specs.declared.function_node.FunctionNode.{FunctionNode}
use Rattle.rl_grammar.specs.Fields.{maybe}
use Rattle.rl_machine.specs.declared.trace.Trace.{Trace}
use Rattle.rl_machine.specs.declared.trace.Value.{Value}
use Rattle.rl_model.specs.Functions.{take_params}
use Rattle.rl_names.specs.Functions.{body_in, params_in}
use Rattle.rl_source_run.proofs.Beginnings.{body_is, params_are}
use Rattle.rl_source_stack.proofs.Goings.{goes_as}
use Rattle.rl_source_stack.specs.Controls.{from_normal}
use Rattle.rl_source_stack.specs.Konts.{Konts}
use Rattle.rl_source_stack.specs.States.{State, state_of}
use Rattle.rl_source_statements.specs.Starts.{called}
use Rattle.rl_syntax.specs.Syntax.{Syntax, syntax}
use Rattle.rl_trace.specs.Progress.{after}
use Rattle.rl_source_run.proofs.source.start_node.Goals as goal
use Rattle.std.proofs.Common.{List}

-- The trace of a run that calls a function.
abbrev calling : State → List Value → FunctionNode → Trace
calling s arguments f =
    from_normal (called s.scene (params_in (seen_function_node f)) arguments (body_in (seen_function_node f))) s

abbrev calling_by : State → List Value → (params body : Syntax) → Trace
calling_by s arguments params body = from_normal (called s.scene params arguments body) s

pub returns-in-Arrow : goal.returns-in-Arrow
returns-in-Arrow c =
    let old : State = state_of c.args.run.now in
    goes_as c.start_function.result (state_of c.start_function.new.run)
    (ap (calling old c.args.arguments.now) (sym c.in-Arrow.is)) c.start_function.ensures

pub returns-in-Some : goal.returns-in-Some
returns-in-Some c =
    let old : State = state_of c.args.run.now in
    goes_as c.start_function-in-Some.result (state_of c.start_function-in-Some.new.run)
    (ap (λ b. calling_by old c.args.arguments.now (syntax c.in-Function.function.params.tree.now) (maybe b (λ t. syntax t.tree.now)))
    (sym c.in-Some.is)
    ∙ sym (λ i. calling_by old c.args.arguments.now (params_are c.in-Function.function i) (body_is c.in-Function.function i))
    ∙ ap (calling old c.args.arguments.now) (sym c.in-Function.is)) c.start_function-in-Some.ensures

pub returns-in-None : goal.returns-in-None
returns-in-None c =
    let old : State = state_of c.args.run.now in
    goes_as c.start_bodiless.result (state_of c.start_bodiless.new.run)
    (ap (λ (k : Konts).
    after old.events
    (take_params old.scene (syntax c.in-Function.function.params.tree.now) c.args.arguments.now old.konts.ways (λ u. k.normal) old.store
    old.answers)) c.requires
    ∙ ap (λ b. calling_by old c.args.arguments.now (syntax c.in-Function.function.params.tree.now) (maybe b (λ t. syntax t.tree.now)))
    (sym c.in-None.is)
    ∙ sym (λ i. calling_by old c.args.arguments.now (params_are c.in-Function.function i) (body_is c.in-Function.function i))
    ∙ ap (calling old c.args.arguments.now) (sym c.in-Function.is)) c.start_bodiless.ensures
