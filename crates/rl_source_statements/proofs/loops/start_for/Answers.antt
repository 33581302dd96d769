use Rattle.std.proofs.Common.{Bool, if◌then◌else◌, None, ap, sym, ◌∙◌}
use Rattle.rl_grammar.specs.Fields.{maybe}
use Rattle.rl_machine.specs.declared.trace.Trace.{Trace}
use Rattle.rl_model.specs.Actions.{Label, ◌>>◌, breakable, loop, no_meaning}
use Rattle.rl_model.specs.Statements.{exec}
use Rattle.rl_source_stack.specs.Controls.{from_normal, trace_of}
use Rattle.rl_source_stack.specs.Loops.{turn_for}
use Rattle.rl_source_stack.specs.Parts.{label_of}
use Rattle.rl_source_stack.specs.States.{State, state_of}
use Rattle.rl_source_stack.specs.declared.control.Control.TheVariants as control
use Rattle.rl_source_statements.proofs.Heads.{meaning_bare, meaning_expression, meaning_variables}
use Rattle.rl_source_stack.proofs.Goings.{goes_as}
use Rattle.rl_source_statements.specs.Starts.{for_loop}
use Rattle.rl_syntax.specs.Syntax.{Syntax, Absent, syntax}
use Rattle.rl_source_statements.proofs.loops.start_for.Goals as goal

-- The trace of a run that starts a `for` loop, by its parts, and by whether it has a meaning.
abbrev starting : State → Label → (update body init condition : Syntax) → Trace
starting s own update body init condition = from_normal (for_loop s.scene own init condition update body) s

abbrev starting_by : State → Label → (update body init condition : Syntax) → Bool → Trace
starting_by s own update body init condition meant =
    from_normal (if meant then (do
      exec s.scene None init
      breakable (loop (turn_for s.scene own condition update body)))
    else no_meaning) s

pub returns-in-None : goal.returns-in-None
returns-in-None c =
    ap (λ t. starting (state_of c.args.run.now) (label_of c.args.own) (maybe c.args.update (λ t. syntax t.tree.now))
    (syntax c.args.body.tree.now) (maybe c.args.init (λ t. syntax t.tree.now)) (maybe t (λ t. syntax t.tree.now))) (sym c.in-None.is)

pub returns-in-None-init : goal.returns-in-None-init
returns-in-None-init c =
    let old : State = state_of c.args.run.now in
    let own : Label = label_of c.args.own in
    let update : Syntax = maybe c.args.update (λ t. syntax t.tree.now) in
    let body : Syntax = syntax c.args.body.tree.now in
    let condition : Syntax = syntax c.in-Some.condition.tree.now in
    goes_as c.start_loop.result (state_of c.start_loop.new.run)
    (sym (ap (starting_by old own update body Absent condition) (meaning_bare condition c.in-Some.condition.fit))
    ∙ ap (λ i. starting old own update body (maybe i (λ t. syntax t.tree.now)) condition) (sym c.in-None-init.is)
    ∙ ap (λ t. starting old own update body (maybe c.args.init (λ t. syntax t.tree.now)) (maybe t (λ t. syntax t.tree.now)))
    (sym c.in-Some.is)) c.start_loop.ensures

pub returns-in_ok-push-in-Variables : goal.returns-in_ok-push-in-Variables
returns-in_ok-push-in-Variables c =
    let old : State = state_of c.args.run.now in
    let own : Label = label_of c.args.own in
    let update : Syntax = maybe c.args.update (λ t. syntax t.tree.now) in
    let body : Syntax = syntax c.args.body.tree.now in
    let condition : Syntax = syntax c.in-Some.condition.tree.now in
    let variables : Syntax = syntax c.in-Variables.variables.tree.now in
    ap (trace_of (control.Variables c.in-Variables.variables)) c.in_ok-push-in-Variables.ensures
    ∙ sym (ap (starting_by old own update body variables condition)
    (meaning_variables variables condition c.in-Variables.variables.fit c.in-Some.condition.fit))
    ∙ ap (λ i. starting old own update body i condition) c.in-Variables.ensures
    ∙ ap (λ i. starting old own update body (maybe i (λ t. syntax t.tree.now)) condition) (sym c.in-Some-init.is)
    ∙ ap (λ t. starting old own update body (maybe c.args.init (λ t. syntax t.tree.now)) (maybe t (λ t. syntax t.tree.now)))
    (sym c.in-Some.is)

pub returns-in-Expression : goal.returns-in-Expression
returns-in-Expression c =
    let old : State = state_of c.args.run.now in
    let own : Label = label_of c.args.own in
    let update : Syntax = maybe c.args.update (λ t. syntax t.tree.now) in
    let body : Syntax = syntax c.args.body.tree.now in
    let condition : Syntax = syntax c.in-Some.condition.tree.now in
    let expression : Syntax = syntax c.in-Expression._expression.tree.now in
    sym (ap (starting_by old own update body expression condition)
    (meaning_expression expression condition c.in-Expression._expression.fit c.in-Some.condition.fit))
    ∙ ap (λ i. starting old own update body i condition) c.in-Expression.ensures
    ∙ ap (λ i. starting old own update body (maybe i (λ t. syntax t.tree.now)) condition) (sym c.in-Some-init.is)
    ∙ ap (λ t. starting old own update body (maybe c.args.init (λ t. syntax t.tree.now)) (maybe t (λ t. syntax t.tree.now)))
    (sym c.in-Some.is)
