use Rattle.std.proofs.Common.{ap, map, sym, ◌∙◌}
use Rattle.rl_machine.specs.declared.trace.Trace.{Trace}
use Rattle.rl_model.specs.Expressions.{delete_property}
use Rattle.rl_source_expressions.proofs.Callees.{delete_other}
use Rattle.rl_source_stack.proofs.Goings.{goes_as}
use Rattle.rl_source_stack.specs.Controls.{from}
use Rattle.rl_source_stack.specs.States.{State, state_of}
use Rattle.rl_syntax.specs.Syntax.{Syntax, End, Node, Then, pieces_of, syntax}
use Rattle.rl_syntax.specs.declared.word.Word.TheVariants as word
use Rattle.rl_source_expressions.proofs.calls.delete_property.Goals as goal

-- The trace of a run that deletes a property.
abbrev deleted : State → Syntax → Trace
deleted s t = from (delete_property s.scene t) s

pub returns-in-Paren : goal.returns-in-Paren
returns-in-Paren c =
    ap (deleted (state_of c.args.run.now)) c.new.ensures
    ∙ sym (ap (deleted (state_of c.args.run.now))
    (c.node_of-word.ensures ∙ (λ i. Node c.node_of-word.result.0 (c.in-Paren.is i) (c.one.ensures.parts i))))

pub returns-in-Member : goal.returns-in-Member
returns-in-Member c =
    goes_as c.evaluate_property.result (state_of c.evaluate_property.new.run)
    (ap (deleted (state_of c.args.run.now))
    (sym (c.node_of-word.ensures ∙ (λ i. Node c.node_of-word.result.0 (c.in-Member.is i) (c.three.ensures.parts i))
    ∙ (λ i. Node c.node_of-word.result.0 word.Member
    (Then (syntax c.three.result.0.now) (Then (sym c.new-in-Member.ensures i) (Then (c.text_of.ensures i) End)))))))
    c.evaluate_property.ensures

pub returns-in-Index : goal.returns-in-Index
returns-in-Index c =
    goes_as c.evaluate_property-in-Index.result (state_of c.evaluate_property-in-Index.new.run)
    (ap (deleted (state_of c.args.run.now))
    (sym (c.node_of-word.ensures ∙ (λ i. Node c.node_of-word.result.0 (c.in-Index.is i) (c.three-in-Index.ensures.parts i))
    ∙ (λ i. Node c.node_of-word.result.0 word.Index
    (Then (syntax c.three-in-Index.result.0.now) (Then (sym c.new-in-Index-2.ensures i) (Then (sym c.new-in-Index.ensures i) End)))))))
    c.evaluate_property-in-Index.ensures

pub returns-in_default : goal.returns-in_default
returns-in_default c =
    delete_other (state_of c.args.run.now) c.node_of-word.result.0 c.node_of-word.result.1
    (pieces_of (map syntax c.node_of-word.result.2.now))
    c.in_default.not-Paren c.in_default.not-Member c.in_default.not-Index
    ∙ sym (ap (deleted (state_of c.args.run.now)) c.node_of-word.ensures)
