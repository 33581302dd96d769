use Rattle.std.proofs.Common.{ℕ, Bool, List, ap, sym, ◌∙◌}
use Rattle.rl_machine.specs.declared.trace.Trace.{Trace}
use Rattle.rl_machine.specs.declared.trace.Value.TheVariants as value
use Rattle.rl_model.specs.Actions.{◌>>=◌, ask}
use Rattle.rl_model.specs.Events as events
use Rattle.rl_source_stack.proofs.Goings.{goes_as}
use Rattle.rl_source_stack.specs.Behinds.{updated_in}
use Rattle.rl_source_stack.specs.Controls.{from, runs, trace_of}
use Rattle.rl_source_stack.specs.Properties.{key_of, used}
use Rattle.rl_source_stack.specs.States.{State, state_of}
use Rattle.rl_source_stack.specs.declared.control.Control.TheVariants as control
use Rattle.rl_source_stack.specs.declared.property.Key.{Key}
use Rattle.rl_source_stack.specs.declared.property.Use.{Use}
use Rattle.rl_trace.specs.Values.{shown}
use Rattle.rl_trace.specs.declared.value.Val.{Val}
use Rattle.rl_source_expressions.proofs.properties.use_property.Goals as goal

-- The trace of a run that uses a property.
abbrev used_by : State → Val → Key → Use → Trace
used_by s object key purpose = runs (used s.scene purpose (shown object) (key_of key) s.konts) s

-- The trace of a run that updates a property by a binary operator.
abbrev updating : State → (prefix : Bool) → Val → Key → (operator : List ℕ) → Trace
updating s prefix object key operator = from (do
  old ← ask s.scene (events.load (shown object) (key_of key))
  new ← ask s.scene (events.binary operator old (value.Number 1))
  updated_in s.scene (shown object) (key_of key) prefix old new) s

pub returns-in_ok-push-in-Assign : goal.returns-in_ok-push-in-Assign
returns-in_ok-push-in-Assign c =
    ap (trace_of (control.Evaluate c.in-Assign.right)) c.in_ok-push-in-Assign.ensures
    ∙ ap (used_by (state_of c.args.run.now) c.args.object c.args.key) (sym c.in-Assign.is)

pub returns-in_ok-push-in-Compound : goal.returns-in_ok-push-in-Compound
returns-in_ok-push-in-Compound c =
    goes_as c.load-in-Compound.result (state_of c.load-in-Compound.new.run)
    (ap (λ s. from (ask s.scene (events.load (shown c.args.object) (key_of c.args.key))) s) c.in_ok-push-in-Compound.ensures
    ∙ ap (used_by (state_of c.args.run.now) c.args.object c.args.key) (sym c.in-Compound.is))
    c.load-in-Compound.ensures

pub returns-in-Store : goal.returns-in-Store
returns-in-Store c =
    goes_as c.store_target.result (state_of c.store_target.new.run)
    (ap (used_by (state_of c.args.run.now) c.args.object c.args.key) (sym c.in-Store.is))
    c.store_target.ensures

pub returns-in-Load : goal.returns-in-Load
returns-in-Load c =
    goes_as c.load.result (state_of c.load.new.run)
    (ap (used_by (state_of c.args.run.now) c.args.object c.args.key) (sym c.in-Load.is))
    c.load.ensures

pub returns-in-Lend : goal.returns-in-Lend
returns-in-Lend c =
    goes_as c.lend.result (state_of c.lend.new.run) (ap (used_by (state_of c.args.run.now) c.args.object c.args.key) (sym c.in-Lend.is))
    c.lend.ensures

pub returns-in-Delete : goal.returns-in-Delete
returns-in-Delete c =
    goes_as c.delete.result (state_of c.delete.new.run)
    (ap (used_by (state_of c.args.run.now) c.args.object c.args.key) (sym c.in-Delete.is))
    c.delete.ensures

pub returns-in_ok-push-in-Update : goal.returns-in_ok-push-in-Update
returns-in_ok-push-in-Update c =
    goes_as c.load-in-Update.result (state_of c.load-in-Update.new.run)
    (ap (λ s. from (ask s.scene (events.load (shown c.args.object) (key_of c.args.key))) s) c.in_ok-push-in-Update.ensures
    ∙ ap (updating (state_of c.args.run.now) c.in-Update.prefix c.args.object c.args.key) c.step_of-operator.ensures
    ∙ ap (used_by (state_of c.args.run.now) c.args.object c.args.key) (sym c.in-Update.is))
    c.load-in-Update.ensures
