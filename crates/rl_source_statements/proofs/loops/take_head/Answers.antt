use Rattle.std.proofs.Common.{ap, sym, ◌∙◌}
use Rattle.rl_model.specs.Statements.{take_head}
use Rattle.rl_source_stack.specs.Controls.{from_normal}
use Rattle.rl_source_stack.specs.States.{State, state_of}
use Rattle.rl_source_statements.proofs.Heads.{head_target}
use Rattle.rl_source_statements.specs.Starts.{taken_by}
use Rattle.rl_syntax.specs.Syntax.{syntax}
use Rattle.rl_trace.specs.Values.{shown}
use Rattle.rl_source_statements.proofs.loops.take_head.Goals as goal

pub returns-in-Some : goal.returns-in-Some
returns-in-Some c =
    let s : State = state_of c.args.run.now in
    ap (λ o. from_normal (taken_by o s.scene (shown c.args.value)) s) (sym c.in-Some.is)
    ∙ sym (ap (λ action. from_normal action s) (c.declared_in_head.ensures s.scene (shown c.args.value)))
    ∙ ap (λ t. from_normal (take_head s.scene t (shown c.args.value)) s) c.in-Variables.ensures

pub returns-in-None : goal.returns-in-None
returns-in-None c =
    let s : State = state_of c.args.run.now in
    ap (λ o. from_normal (taken_by o s.scene (shown c.args.value)) s) (sym c.in-None.is)
    ∙ sym (ap (λ action. from_normal action s) (c.declared_in_head.ensures s.scene (shown c.args.value)))
    ∙ ap (λ t. from_normal (take_head s.scene t (shown c.args.value)) s) c.in-Variables.ensures

pub returns-in-Target : goal.returns-in-Target
returns-in-Target c =
    let s : State = state_of c.args.run.now in
    sym (ap (λ action. from_normal action s)
    (head_target s.scene (syntax c.in-Target.target.tree.now) (shown c.args.value) c.in-Target.target.fit))
    ∙ ap (λ t. from_normal (take_head s.scene t (shown c.args.value)) s) c.in-Target.ensures
