use Rattle.std.proofs.Common.{IfOk, ap, append-nil, subst, sym, ◌∙◌, ◌≡◌}
use Rattle.rl_source_gather.proofs.Finishing.{gathered_last, is_last}
use Rattle.rl_source_gather.proofs.GivenItems.{item_step, known_given}
use Rattle.rl_source_gather.specs.declared.jsx_item.Item.TheVariants as items
use Rattle.rl_source_stack.specs.Controls.{from, trace_of}
use Rattle.rl_source_stack.specs.Parts.{among, gathered, gathering}
use Rattle.rl_source_stack.specs.States.{state_of}
use Rattle.rl_syntax.specs.Syntax.{syntax}
use Rattle.rl_source_gather.proofs.gather.+gathering.Goals as goal

pub gather_children-children-preserved-in-Nothing : goal.gather_children-children-preserved-in-Nothing
gather_children-children-preserved-in-Nothing m c =
    item_step (state_of c.children.run) c.args.what (among c.children.next.trees.now) (syntax c.in-Some.child.tree.now)
    (among c.in-Some.behind.trees.now) c.children.given c.in_ok-item.item items.Nothing
    c.in-Some.ensures c.in_ok-item.ensures.values c.in-Nothing.is
    ∙ c.children.invariant

pub gather_children-children-preserved : goal.gather_children-children-preserved
gather_children-children-preserved m c =
    ap (λ g. from (gathering (state_of c.children.run).scene c.args.what (among c.in-Some.behind.trees.now) g)
    (state_of c.children.run)) c.in_ok-push-in-Known.ensures.ok
    ∙ sym (known_given (state_of c.children.run) c.args.what c.in-Known.value (among c.in-Some.behind.trees.now) c.children.given)
    ∙ item_step (state_of c.children.run) c.args.what (among c.children.next.trees.now) (syntax c.in-Some.child.tree.now)
    (among c.in-Some.behind.trees.now) c.children.given c.in_ok-item.item (items.Known c.in-Known.value)
    c.in-Some.ensures c.in_ok-item.ensures.values c.in-Known.is
    ∙ c.children.invariant

pub gather_children-returns-in-Meaningless : goal.gather_children-returns-in-Meaningless
gather_children-returns-in-Meaningless m c =
    item_step (state_of c.children.run) c.args.what (among c.children.next.trees.now) (syntax c.in-Some.child.tree.now)
    (among c.in-Some.behind.trees.now) c.children.given c.in_ok-item.item items.Meaningless
    c.in-Some.ensures c.in_ok-item.ensures.values c.in-Meaningless.is
    ∙ c.children.invariant

pub gather_children-returns : goal.gather_children-returns
gather_children-returns m c =
    subst (λ t. IfOk c.finish.result (λ d. trace_of d (state_of c.finish.new.run) ≡ t))
    (ap (λ g. from (gathered (state_of c.children.run).scene c.args.what g) (state_of c.children.run))
    (sym (append-nil c.children.given))
    ∙ sym (ap (λ ps. from (gathering (state_of c.children.run).scene c.args.what ps c.children.given) (state_of c.children.run))
    c.in_default.ensures)
    ∙ c.children.invariant)
    c.finish.ensures

pub gather_children-returns-in-Expression : goal.gather_children-returns-in-Expression
gather_children-returns-in-Expression m c =
    subst (λ t. IfOk c.give_part.result (λ d. trace_of d (state_of c.give_part.new.run) ≡ t))
    (item_step (state_of c.children.run) c.args.what (among c.children.next.trees.now) (syntax c.in-Some.child.tree.now)
    (among c.in-Some.behind.trees.now) c.children.given c.in_ok-item.item (items.Expression c.in-Expression.tree)
    c.in-Some.ensures c.in_ok-item.ensures.values c.in-Expression.is
    ∙ c.children.invariant)
    c.give_part.ensures

pub gather_children-returns-in-Element : goal.gather_children-returns-in-Element
gather_children-returns-in-Element m c =
    subst (λ t. IfOk c.give_part-in-Element.result (λ d. trace_of d (state_of c.give_part-in-Element.new.run) ≡ t))
    (item_step (state_of c.children.run) c.args.what (among c.children.next.trees.now) (syntax c.in-Some.child.tree.now)
    (among c.in-Some.behind.trees.now) c.children.given c.in_ok-item.item (items.Element c.in-Element.tree)
    c.in-Some.ensures c.in_ok-item.ensures.values c.in-Element.is
    ∙ c.children.invariant)
    c.give_part-in-Element.ensures

pub gather_children-returns-in-Fragment : goal.gather_children-returns-in-Fragment
gather_children-returns-in-Fragment m c =
    subst (λ t. IfOk c.give_part-in-Fragment.result (λ d. trace_of d (state_of c.give_part-in-Fragment.new.run) ≡ t))
    (item_step (state_of c.children.run) c.args.what (among c.children.next.trees.now) (syntax c.in-Some.child.tree.now)
    (among c.in-Some.behind.trees.now) c.children.given c.in_ok-item.item (items.Fragment c.in-Fragment.tree)
    c.in-Some.ensures c.in_ok-item.ensures.values c.in-Fragment.is
    ∙ c.children.invariant)
    c.give_part-in-Fragment.ensures

pub finish-returns-in-Attributes : goal.finish-returns-in-Attributes
finish-returns-in-Attributes m c =
    subst (λ w. IfOk c.gather_children.result
    (λ d. trace_of d (state_of c.gather_children.new.run) ≡ from (gathered (state_of c.args.run.now).scene w c.args.given)
    (state_of c.args.run.now)))
    (sym c.in-Attributes.is) c.gather_children.ensures

pub finish-returns-in-Call : goal.finish-returns-in-Call
finish-returns-in-Call m c =
    subst (λ a. IfOk c.ask_gathered.result (λ d. trace_of d (state_of c.ask_gathered.new.run) ≡ from a (state_of c.args.run.now)))
    (gathered_last (state_of c.args.run.now).scene c.args.what c.args.given (ap is_last c.in-Call.is)) c.ask_gathered.ensures

pub finish-returns-in-New : goal.finish-returns-in-New
finish-returns-in-New m c =
    subst (λ a. IfOk c.ask_gathered-in-New.result
    (λ d. trace_of d (state_of c.ask_gathered-in-New.new.run) ≡ from a (state_of c.args.run.now)))
    (gathered_last (state_of c.args.run.now).scene c.args.what c.args.given (ap is_last c.in-New.is))
    c.ask_gathered-in-New.ensures

pub finish-returns-in-Template : goal.finish-returns-in-Template
finish-returns-in-Template m c =
    subst (λ a. IfOk c.ask_gathered-in-Template.result
    (λ d. trace_of d (state_of c.ask_gathered-in-Template.new.run) ≡ from a (state_of c.args.run.now)))
    (gathered_last (state_of c.args.run.now).scene c.args.what c.args.given (ap is_last c.in-Template.is))
    c.ask_gathered-in-Template.ensures

pub finish-returns-in-Tagged : goal.finish-returns-in-Tagged
finish-returns-in-Tagged m c =
    subst (λ a. IfOk c.ask_gathered-in-Tagged.result
    (λ d. trace_of d (state_of c.ask_gathered-in-Tagged.new.run) ≡ from a (state_of c.args.run.now)))
    (gathered_last (state_of c.args.run.now).scene c.args.what c.args.given (ap is_last c.in-Tagged.is))
    c.ask_gathered-in-Tagged.ensures

pub finish-returns-in-Array : goal.finish-returns-in-Array
finish-returns-in-Array m c =
    subst (λ a. IfOk c.ask_gathered-in-Array.result
    (λ d. trace_of d (state_of c.ask_gathered-in-Array.new.run) ≡ from a (state_of c.args.run.now)))
    (gathered_last (state_of c.args.run.now).scene c.args.what c.args.given (ap is_last c.in-Array.is))
    c.ask_gathered-in-Array.ensures

pub finish-returns-in-Object : goal.finish-returns-in-Object
finish-returns-in-Object m c =
    subst (λ a. IfOk c.ask_gathered-in-Object.result
    (λ d. trace_of d (state_of c.ask_gathered-in-Object.new.run) ≡ from a (state_of c.args.run.now)))
    (gathered_last (state_of c.args.run.now).scene c.args.what c.args.given (ap is_last c.in-Object.is))
    c.ask_gathered-in-Object.ensures

pub finish-returns-in-Children : goal.finish-returns-in-Children
finish-returns-in-Children m c =
    subst (λ a. IfOk c.ask_gathered-in-Children.result
    (λ d. trace_of d (state_of c.ask_gathered-in-Children.new.run) ≡ from a (state_of c.args.run.now)))
    (gathered_last (state_of c.args.run.now).scene c.args.what c.args.given (ap is_last c.in-Children.is))
    c.ask_gathered-in-Children.ensures

pub finish-returns-in-Fragment : goal.finish-returns-in-Fragment
finish-returns-in-Fragment m c =
    subst (λ a. IfOk c.ask_gathered-in-Fragment.result
    (λ d. trace_of d (state_of c.ask_gathered-in-Fragment.new.run) ≡ from a (state_of c.args.run.now)))
    (gathered_last (state_of c.args.run.now).scene c.args.what c.args.given (ap is_last c.in-Fragment.is))
    c.ask_gathered-in-Fragment.ensures
