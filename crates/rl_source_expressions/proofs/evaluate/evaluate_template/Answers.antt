use Rattle.std.proofs.Common.{ap, ◌∙◌}
use Rattle.rl_model.specs.Expressions.{eval}
use Rattle.rl_source_stack.proofs.Goings.{goes_as}
use Rattle.rl_source_stack.specs.Controls.{from}
use Rattle.rl_source_stack.specs.Parts.{among, gathering}
use Rattle.rl_source_stack.specs.States.{state_of}
use Rattle.rl_source_stack.specs.declared.gather.Gather.TheVariants as gather
use Rattle.rl_source_expressions.proofs.evaluate.evaluate_template.Goals as goal

pub returns : goal.returns
returns c =
    let template = c.template_literal_view-template.result in
    goes_as c.gather.result (state_of c.gather.new.run)
    (ap (λ given. from (gathering (state_of c.args.run.now).scene (gather.Template template.quasis template.expressions)
    (among template.expressions.trees.now) given) (state_of c.args.run.now)) c.new-given.ensures
    ∙ ap (λ t. from (eval (state_of c.args.run.now).scene t) (state_of c.args.run.now)) c.template_literal_view-template.ensures)
    c.gather.ensures
