use Rattle.rl_source_gather.proofs.GivenItems.{item_step, known_given}
use Rattle.rl_source_gather.specs.declared.jsx_item.Item.TheVariants as items
use Rattle.rl_source_stack.specs.Controls.{from, trace_of}
use Rattle.rl_source_stack.specs.Parts.{among, gathered, gathering}
use Rattle.rl_source_stack.specs.States.{state_of}
use Rattle.rl_syntax.specs.Syntax.{syntax}
use Rattle.std.proofs.Common.{IfOk, ap, append-nil, subst, sym, ◌∙◌, ◌≡◌}
use Rattle.rl_source_gather.proofs.jsx.gather_attributes.Goals as goal

pub attributes-preserved-in-Nothing : goal.attributes-preserved-in-Nothing
attributes-preserved-in-Nothing c =
    item_step (state_of c.attributes.run) c.args.what (among c.attributes.next.trees.now) (syntax c.in-Some.attribute.tree.now)
    (among c.in-Some.behind.trees.now) c.attributes.given c.in_ok-item.item items.Nothing
    c.in-Some.ensures c.in_ok-item.ensures c.in-Nothing.is
    ∙ c.attributes.invariant

pub attributes-preserved : goal.attributes-preserved
attributes-preserved c =
    ap (λ g. from (gathering (state_of c.attributes.run).scene c.args.what (among c.in-Some.behind.trees.now) g)
    (state_of c.attributes.run)) c.in_ok-push-in-Known.ensures.ok
    ∙ sym (known_given (state_of c.attributes.run) c.args.what c.in-Known.value (among c.in-Some.behind.trees.now)
    c.attributes.given)
    ∙ item_step (state_of c.attributes.run) c.args.what (among c.attributes.next.trees.now) (syntax c.in-Some.attribute.tree.now)
    (among c.in-Some.behind.trees.now) c.attributes.given c.in_ok-item.item (items.Known c.in-Known.value)
    c.in-Some.ensures c.in_ok-item.ensures c.in-Known.is
    ∙ c.attributes.invariant

pub returns-in-Meaningless : goal.returns-in-Meaningless
returns-in-Meaningless c =
    item_step (state_of c.attributes.run) c.args.what (among c.attributes.next.trees.now) (syntax c.in-Some.attribute.tree.now)
    (among c.in-Some.behind.trees.now) c.attributes.given c.in_ok-item.item items.Meaningless
    c.in-Some.ensures c.in_ok-item.ensures c.in-Meaningless.is
    ∙ c.attributes.invariant

pub returns : goal.returns
returns c =
    subst (λ t. IfOk c.finish.result (λ d. trace_of d (state_of c.finish.new.run) ≡ t))
    (ap (λ g. from (gathered (state_of c.attributes.run).scene c.args.what g) (state_of c.attributes.run))
    (sym (append-nil c.attributes.given))
    ∙ sym (ap (λ ps. from (gathering (state_of c.attributes.run).scene c.args.what ps c.attributes.given)
    (state_of c.attributes.run)) c.in_default.ensures)
    ∙ c.attributes.invariant)
    c.finish.ensures

pub returns-in-Expression : goal.returns-in-Expression
returns-in-Expression c =
    subst (λ t. IfOk c.give_part.result (λ d. trace_of d (state_of c.give_part.new.run) ≡ t))
    (item_step (state_of c.attributes.run) c.args.what (among c.attributes.next.trees.now) (syntax c.in-Some.attribute.tree.now)
    (among c.in-Some.behind.trees.now) c.attributes.given c.in_ok-item.item (items.Expression c.in-Expression.tree)
    c.in-Some.ensures c.in_ok-item.ensures c.in-Expression.is
    ∙ c.attributes.invariant)
    c.give_part.ensures

pub returns-in-Element : goal.returns-in-Element
returns-in-Element c =
    subst (λ t. IfOk c.give_part-in-Element.result (λ d. trace_of d (state_of c.give_part-in-Element.new.run) ≡ t))
    (item_step (state_of c.attributes.run) c.args.what (among c.attributes.next.trees.now) (syntax c.in-Some.attribute.tree.now)
    (among c.in-Some.behind.trees.now) c.attributes.given c.in_ok-item.item (items.Element c.in-Element.tree)
    c.in-Some.ensures c.in_ok-item.ensures c.in-Element.is
    ∙ c.attributes.invariant)
    c.give_part-in-Element.ensures

pub returns-in-Fragment : goal.returns-in-Fragment
returns-in-Fragment c =
    subst (λ t. IfOk c.give_part-in-Fragment.result (λ d. trace_of d (state_of c.give_part-in-Fragment.new.run) ≡ t))
    (item_step (state_of c.attributes.run) c.args.what (among c.attributes.next.trees.now) (syntax c.in-Some.attribute.tree.now)
    (among c.in-Some.behind.trees.now) c.attributes.given c.in_ok-item.item (items.Fragment c.in-Fragment.tree)
    c.in-Some.ensures c.in_ok-item.ensures c.in-Fragment.is
    ∙ c.attributes.invariant)
    c.give_part-in-Fragment.ensures
