use Rattle.std.proofs.Common.{ap, map, sym, ◌∙◌}
use Rattle.rl_source_expressions.proofs.Callees.{callee_other, callee_trace, chain_callee}
use Rattle.rl_source_stack.proofs.Goings.{goes_as}
use Rattle.rl_source_stack.specs.Controls.{trace_of}
use Rattle.rl_source_stack.specs.States.{state_of}
use Rattle.rl_source_stack.specs.declared.control.Control.TheVariants as control
use Rattle.rl_syntax.specs.Syntax.{End, Node, Then, pieces_of, syntax}
use Rattle.rl_syntax.specs.declared.word.Word.TheVariants as word
use Rattle.rl_source_expressions.proofs.calls.evaluate_callee.Goals as goal

pub returns-in-Paren : goal.returns-in-Paren
returns-in-Paren c =
    ap (callee_trace (state_of c.args.run.now)) c.new.ensures
    ∙ sym (ap (callee_trace (state_of c.args.run.now))
    (c.node_of-word.ensures ∙ (λ i. Node c.node_of-word.result.0 (c.in-Paren.is i) (c.one.ensures.parts i))))

pub returns-in-Nonnull : goal.returns-in-Nonnull
returns-in-Nonnull c =
    ap (callee_trace (state_of c.args.run.now)) c.new-in-Nonnull.ensures
    ∙ sym (ap (callee_trace (state_of c.args.run.now))
    (c.node_of-word.ensures ∙ (λ i. Node c.node_of-word.result.0 (c.in-Nonnull.is i) (c.one-in-Nonnull.ensures.parts i))))

pub returns-in-As : goal.returns-in-As
returns-in-As c =
    ap (callee_trace (state_of c.args.run.now)) c.new-in-As.ensures
    ∙ sym (ap (callee_trace (state_of c.args.run.now))
    (c.node_of-word.ensures ∙ (λ i. Node c.node_of-word.result.0 (c.in-As.is i) (c.two.ensures.parts i))))

pub returns-in-Satisfies : goal.returns-in-Satisfies
returns-in-Satisfies c =
    ap (callee_trace (state_of c.args.run.now)) c.new-in-Satisfies.ensures
    ∙ sym (ap (callee_trace (state_of c.args.run.now))
    (c.node_of-word.ensures ∙ (λ i. Node c.node_of-word.result.0 (c.in-Satisfies.is i) (c.two-in-Satisfies.ensures.parts i))))

pub returns-in-Assert : goal.returns-in-Assert
returns-in-Assert c =
    ap (callee_trace (state_of c.args.run.now)) c.new-in-Assert.ensures
    ∙ sym (ap (callee_trace (state_of c.args.run.now))
    (c.node_of-word.ensures ∙ (λ i. Node c.node_of-word.result.0 (c.in-Assert.is i) (c.two-in-Assert.ensures.parts i))))

pub returns-in-Instantiate : goal.returns-in-Instantiate
returns-in-Instantiate c =
    ap (callee_trace (state_of c.args.run.now)) c.new-in-Instantiate.ensures
    ∙ sym (ap (callee_trace (state_of c.args.run.now))
    (c.node_of-word.ensures ∙ (λ i. Node c.node_of-word.result.0 (c.in-Instantiate.is i) (c.two-in-Instantiate.ensures.parts i))))

pub returns-in_ok-push-in-Chain : goal.returns-in_ok-push-in-Chain
returns-in_ok-push-in-Chain c =
    ap (trace_of (control.Callee c.new-in-Chain.result)) c.in_ok-push-in-Chain.ensures
    ∙ chain_callee (state_of c.args.run.now) c.node_of-word.result.0 (syntax c.new-in-Chain.result.tree.now)
    ∙ sym (ap (callee_trace (state_of c.args.run.now))
    (c.node_of-word.ensures ∙ (λ i. Node c.node_of-word.result.0 (c.in-Chain.is i) (c.one-in-Chain.ensures.parts i))
    ∙ (λ i. Node c.node_of-word.result.0 word.Chain (Then (sym c.new-in-Chain.ensures i) End))))

pub returns-in-Member : goal.returns-in-Member
returns-in-Member c =
    goes_as c.evaluate_property.result (state_of c.evaluate_property.new.run)
    (ap (callee_trace (state_of c.args.run.now))
    (sym (c.node_of-word.ensures ∙ (λ i. Node c.node_of-word.result.0 (c.in-Member.is i) (c.three.ensures.parts i))
    ∙ (λ i. Node c.node_of-word.result.0 word.Member
    (Then (c.flag_of-optional.ensures i) (Then (sym c.new-in-Member.ensures i) (Then (c.text_of.ensures i) End)))))))
    c.evaluate_property.ensures

pub returns-in-Index : goal.returns-in-Index
returns-in-Index c =
    goes_as c.evaluate_property-in-Index.result (state_of c.evaluate_property-in-Index.new.run)
    (ap (callee_trace (state_of c.args.run.now))
    (sym (c.node_of-word.ensures ∙ (λ i. Node c.node_of-word.result.0 (c.in-Index.is i) (c.three-in-Index.ensures.parts i))
    ∙ (λ i. Node c.node_of-word.result.0 word.Index
    (Then (c.flag_of-optional-in-Index.ensures i) (Then (sym c.new-in-Index-2.ensures i) (Then (sym c.new-in-Index.ensures i) End)))))))
    c.evaluate_property-in-Index.ensures

pub returns-in_default : goal.returns-in_default
returns-in_default c =
    callee_other (state_of c.args.run.now) c.node_of-word.result.0 c.node_of-word.result.1
    (pieces_of (map syntax c.node_of-word.result.2.now))
    c.in_default.not-Paren c.in_default.not-Nonnull c.in_default.not-As c.in_default.not-Satisfies c.in_default.not-Assert
    c.in_default.not-Instantiate
    c.in_default.not-Chain c.in_default.not-Member c.in_default.not-Index
    ∙ sym (ap (callee_trace (state_of c.args.run.now)) c.node_of-word.ensures)
