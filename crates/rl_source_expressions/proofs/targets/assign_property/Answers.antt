use Rattle.std.proofs.Common.{ap, sym, ◌∙◌}
use Rattle.rl_ast.specs.TargetViews.{seen_assignment_target_property}
use Rattle.rl_ast.specs.declared.target.AssignmentTargetProperty.{AssignmentTargetProperty}
use Rattle.rl_ast.specs.declared.target.AssignmentTargetProperty.TheVariants as properties
use Rattle.rl_machine.specs.declared.trace.Trace.{Trace}
use Rattle.rl_model.specs.Expressions.{assign_to}
use Rattle.rl_source_expressions.proofs.Targeted.{short_defaulted}
use Rattle.rl_source_stack.proofs.Goings.{goes_as}
use Rattle.rl_source_stack.specs.Controls.{from_normal}
use Rattle.rl_source_stack.specs.States.{State, state_of}
use Rattle.rl_syntax.specs.Syntax.{syntax}
use Rattle.rl_trace.specs.Values.{shown}
use Rattle.rl_trace.specs.declared.value.Val.{Val}
use Rattle.rl_source_expressions.proofs.targets.assign_property.Goals as goal

-- The trace of a run in which a property of an object target takes a value.
abbrev taken_by : State → Val → AssignmentTargetProperty → Trace
taken_by s v p = from_normal (assign_to s.scene (seen_assignment_target_property p) (shown v)) s

pub returns-in-None : goal.returns-in-None
returns-in-None c =
    ap (taken_by (state_of c.args.run.now) c.args.value)
    (sym (c.in-Short.is ∙ ap (properties.Short c.in-Short.at c.in-Short.name) c.in-None.is))

pub returns-in-Some : goal.returns-in-Some
returns-in-Some c =
    goes_as c.assign_default.result (state_of c.assign_default.new.run)
    (sym (ap (λ a. from_normal a (state_of c.args.run.now))
    (short_defaulted (state_of c.args.run.now).scene c.in-Short.at (syntax c.in-Short.name.tree.now) (syntax c.in-Some.default.tree.now)
    (shown c.args.value) c.in-Some.default.fit))
    ∙ ap (taken_by (state_of c.args.run.now) c.args.value)
    (sym (c.in-Short.is ∙ ap (properties.Short c.in-Short.at c.in-Short.name) c.in-Some.is)))
    c.assign_default.ensures

pub returns-in-Keyed : goal.returns-in-Keyed
returns-in-Keyed c = ap (taken_by (state_of c.args.run.now) c.args.value) (sym c.in-Keyed.is)
