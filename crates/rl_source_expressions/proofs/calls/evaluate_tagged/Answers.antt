use Rattle.std.proofs.Common.{ap, sym, ◌∙◌}
use Rattle.rl_model.specs.Expressions.{eval}
use Rattle.rl_source_expressions.specs.Callees.{tagged_value}
use Rattle.rl_source_stack.proofs.Goings.{goes_as}
use Rattle.rl_source_stack.specs.Controls.{from}
use Rattle.rl_source_stack.specs.Parts.{among}
use Rattle.rl_source_stack.specs.States.{state_of}
use Rattle.rl_syntax.specs.Syntax.{End, Node, Then, syntax}
use Rattle.rl_syntax.specs.declared.word.Word.TheVariants as word
use Rattle.rl_source_expressions.proofs.calls.evaluate_tagged.Goals as goal

pub returns-then-not-are_raw : goal.returns-then-not-are_raw
returns-then-not-are_raw c =
    ap (λ raw. from (tagged_value (state_of c.args.run.now).scene raw (syntax c.args.tag.tree.now)
    (among c.template_literal_view-template.result.quasis.trees.now)
    (among c.template_literal_view-template.result.expressions.trees.now)) (state_of c.args.run.now))
    (sym (sym c.are_raw.ensures ∙ c.if-not-are_raw.true))
    ∙ ap (λ t. from (eval (state_of c.args.run.now).scene (Node c.args.at word.Tagged (Then (syntax c.args.tag.tree.now) (Then t End))))
    (state_of c.args.run.now))
    c.template_literal_view-template.ensures

pub returns : goal.returns
returns c =
    goes_as c.evaluate_heading.result (state_of c.evaluate_heading.new.run)
    (ap (λ raw. from (tagged_value (state_of c.args.run.now).scene raw (syntax c.args.tag.tree.now)
    (among c.template_literal_view-template.result.quasis.trees.now)
    (among c.template_literal_view-template.result.expressions.trees.now)) (state_of c.args.run.now))
    (sym (sym c.are_raw.ensures ∙ c.if-not-are_raw.false))
    ∙ ap (λ t. from (eval (state_of c.args.run.now).scene (Node c.args.at word.Tagged (Then (syntax c.args.tag.tree.now) (Then t End))))
    (state_of c.args.run.now))
    c.template_literal_view-template.ensures)
    c.evaluate_heading.ensures
