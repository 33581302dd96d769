use Rattle.rl_grammar.specs.Fields.{maybe}
use Rattle.rl_model.specs.Expressions.{eval}
use Rattle.rl_source_gather.specs.Tags.{element_by}
use Rattle.rl_source_stack.specs.Controls.{from, trace_of}
use Rattle.rl_source_stack.specs.Parts.{among, gathering}
use Rattle.rl_source_stack.specs.States.{state_of}
use Rattle.rl_source_stack.specs.declared.gather.Gather.TheVariants as gather
use Rattle.rl_syntax.specs.Syntax.{End, Listed, Node, Then, syntax}
use Rattle.rl_syntax.specs.declared.word.Word.TheVariants as word
use Rattle.std.proofs.Common.{IfOk, ap, subst, sym, ◌∙◌, ◌≡◌}
use Rattle.rl_source_gather.proofs.jsx.evaluate_element.Goals as goal

pub returns-then-not-is_builtin : goal.returns-then-not-is_builtin
returns-then-not-is_builtin c =
    subst (λ t. IfOk c.evaluate_tag.result (λ d. trace_of d (state_of c.evaluate_tag.new.run) ≡ t))
    (ap (λ b. from (element_by (state_of c.args.run.now).scene b (syntax c.jsx_opening_element_view-opening.result.tag.tree.now)
    (among c.jsx_opening_element_view-opening.result.attributes.trees.now)
    (among c.jsx_element_view-element.result.children.trees.now)) (state_of c.args.run.now))
    (sym (sym c.is_builtin.ensures ∙ c.if-not-is_builtin.true))
    ∙ ap (λ o. from (eval (state_of c.args.run.now).scene (Node c.jsx_element_view-element.result.at word.Element (Then o
    (Then (Listed (among c.jsx_element_view-element.result.children.trees.now))
    (Then (maybe c.jsx_element_view-element.result.closing (λ t. syntax t.tree.now)) End)))))
    (state_of c.args.run.now)) c.jsx_opening_element_view-opening.ensures
    ∙ ap (λ t. from (eval (state_of c.args.run.now).scene t) (state_of c.args.run.now)) c.jsx_element_view-element.ensures)
    c.evaluate_tag.ensures

pub returns : goal.returns
returns c =
    subst (λ t. IfOk c.gather_attributes.result (λ d. trace_of d (state_of c.gather_attributes.new.run) ≡ t))
    (ap (λ g. from (gathering (state_of c.args.run.now).scene
    (gather.Attributes c.jsx_opening_element_view-opening.result.tag c.jsx_opening_element_view-opening.result.attributes
    c.jsx_element_view-element.result.children)
    (among c.jsx_opening_element_view-opening.result.attributes.trees.now) g) (state_of c.args.run.now)) c.new-given.ensures
    ∙ ap (λ b. from (element_by (state_of c.args.run.now).scene b (syntax c.jsx_opening_element_view-opening.result.tag.tree.now)
    (among c.jsx_opening_element_view-opening.result.attributes.trees.now)
    (among c.jsx_element_view-element.result.children.trees.now)) (state_of c.args.run.now))
    (sym (sym c.is_builtin.ensures ∙ c.if-not-is_builtin.false))
    ∙ ap (λ o. from (eval (state_of c.args.run.now).scene (Node c.jsx_element_view-element.result.at word.Element (Then o
    (Then (Listed (among c.jsx_element_view-element.result.children.trees.now))
    (Then (maybe c.jsx_element_view-element.result.closing (λ t. syntax t.tree.now)) End)))))
    (state_of c.args.run.now)) c.jsx_opening_element_view-opening.ensures
    ∙ ap (λ t. from (eval (state_of c.args.run.now).scene t) (state_of c.args.run.now)) c.jsx_element_view-element.ensures)
    c.gather_attributes.ensures
