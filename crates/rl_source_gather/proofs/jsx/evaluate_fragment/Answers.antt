use Rattle.rl_model.specs.Expressions.{eval}
use Rattle.rl_source_stack.specs.Controls.{from, trace_of}
use Rattle.rl_source_stack.specs.Parts.{among, gathering}
use Rattle.rl_source_stack.specs.States.{state_of}
use Rattle.rl_source_stack.specs.declared.gather.Gather.TheVariants as gather
use Rattle.std.proofs.Common.{IfOk, ap, subst, ◌∙◌, ◌≡◌}
use Rattle.rl_source_gather.proofs.jsx.evaluate_fragment.Goals as goal

pub returns : goal.returns
returns c =
    subst (λ t. IfOk c.gather_children.result (λ d. trace_of d (state_of c.gather_children.new.run) ≡ t))
    (ap (λ g. from (gathering (state_of c.args.run.now).scene (gather.Fragment c.jsx_fragment_view-fragment.result.children)
    (among c.jsx_fragment_view-fragment.result.children.trees.now) g) (state_of c.args.run.now)) c.new-given.ensures
    ∙ ap (λ t. from (eval (state_of c.args.run.now).scene t) (state_of c.args.run.now)) c.jsx_fragment_view-fragment.ensures)
    c.gather_children.ensures
