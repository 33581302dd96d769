use Rattle.std.proofs.Common.{◌≡◌, Bool, if◌then◌else◌, IfOk, ap, subst, sym, ◌∙◌}
use Rattle.rl_machine.specs.Traces.{truthy}
use Rattle.rl_machine.specs.declared.trace.Trace.{Trace}
use Rattle.rl_model.specs.Actions.{◌>>=◌, ◌>>◌, done, test}
use Rattle.rl_model.specs.Expressions.{eval}
use Rattle.rl_source_stack.specs.Controls.{from_normal, trace_of}
use Rattle.rl_source_stack.specs.Loops.{behind_body, on_yes, turns_behind, turns_left}
use Rattle.rl_source_stack.specs.States.{State, state_of}
use Rattle.rl_source_stack.specs.declared.behind.Loop.{Loop}
use Rattle.rl_source_stack.specs.declared.behind.Loop.TheVariants as loops
use Rattle.rl_source_stack.specs.declared.behind.Turns.{Turns}
use Rattle.rl_source_stack.proofs.Goings.{goes_as}
use Rattle.rl_source_statements.proofs.Parts.{is_there}
use Rattle.rl_syntax.specs.Syntax.{Syntax, syntax}
use Rattle.rl_grammar.specs.declared.kind.Kind.TheVariants as kind
use Rattle.rl_source_statements.proofs.loops.go_on_with_loop.Goals as goal

-- The trace of a run that goes on with a loop behind its body.
abbrev rest_by : State → Turns → Loop → Trace
rest_by s turns parts = from_normal (do goes_on ← behind_body s.scene parts; turns_behind s.scene turns goes_on) s

-- The trace of a run that goes on with the test of a loop behind its body.
abbrev tested_by : State → Turns → Syntax → Loop → Trace
tested_by s turns condition parts = from_normal (do
  v ← eval s.scene condition
  met ← test s.scene (truthy v)
  if met then on_yes s.scene turns parts else done) s

pub returns-in-While : goal.returns-in-While
returns-in-While c = ap (rest_by (state_of c.args.run.now) c.args.turns) (sym c.in-While.is)

pub returns-in-DoWhile : goal.returns-in-DoWhile
returns-in-DoWhile c =
    subst (λ p. IfOk c.evaluate_for.result (λ d. trace_of d (state_of c.evaluate_for.new.run)
    ≡ rest_by (state_of c.args.run.now) c.args.turns p)) (sym c.in-DoWhile.is)
    (subst (λ p. IfOk c.evaluate_for.result (λ d. trace_of d (state_of c.evaluate_for.new.run)
    ≡ tested_by (state_of c.args.run.now) c.args.turns (syntax c.in-DoWhile.condition.tree.now) p)) c.in-DoWhile.is
    c.evaluate_for.ensures)

pub returns-in-Some : goal.returns-in-Some
returns-in-Some c =
    let old : State = state_of c.args.run.now in
    subst (λ p. IfOk c.evaluate_for-in-Some.result (λ d. trace_of d (state_of c.evaluate_for-in-Some.new.run)
    ≡ rest_by old c.args.turns p)) (sym c.in-For.is)
    (subst (λ u. IfOk c.evaluate_for-in-Some.result (λ d. trace_of d (state_of c.evaluate_for-in-Some.new.run)
    ≡ rest_by old c.args.turns (loops.For c.in-For.condition u c.in-For.body))) (sym c.in-Some.is)
    (goes_as c.evaluate_for-in-Some.result (state_of c.evaluate_for-in-Some.new.run)
    (ap (λ (absent : Bool). from_normal (do
      if absent then done else (do
        eval old.scene (syntax c.in-Some.update.tree.now)
        done)
      turns_left old.scene c.args.turns) old) (sym (is_there kind.Expression (syntax c.in-Some.update.tree.now) c.in-Some.update.fit)))
    c.evaluate_for-in-Some.ensures))

pub returns-in-None : goal.returns-in-None
returns-in-None c =
    ap (λ u. rest_by (state_of c.args.run.now) c.args.turns (loops.For c.in-For.condition u c.in-For.body)) (sym c.in-None.is)
    ∙ ap (rest_by (state_of c.args.run.now) c.args.turns) (sym c.in-For.is)

pub returns-in-ForIn : goal.returns-in-ForIn
returns-in-ForIn c = ap (rest_by (state_of c.args.run.now) c.args.turns) (sym c.in-ForIn.is)

pub returns-in-ForOf : goal.returns-in-ForOf
returns-in-ForOf c = ap (rest_by (state_of c.args.run.now) c.args.turns) (sym c.in-ForOf.is)
