use Rattle.std.proofs.Common.{true, ap, sym, ◌∙◌}
use Rattle.rl_grammar.specs.Fields.{maybe}
use Rattle.rl_model.specs.Actions.{◌>>◌}
use Rattle.rl_model.specs.Expressions.{first_piece}
use Rattle.rl_model.specs.Functions.{take_argument}
use Rattle.rl_model.specs.Patterns.{bind}
use Rattle.rl_source_stack.specs.Controls.{from_normal}
use Rattle.rl_source_stack.specs.Frames.{take_rest}
use Rattle.rl_source_stack.specs.Parts.{among}
use Rattle.rl_source_stack.specs.States.{State, state_of}
use Rattle.rl_source_stack.proofs.Goings.{goes_as}
use Rattle.rl_syntax.specs.Syntax.{Syntax, syntax}
use Rattle.rl_trace.specs.Values.{shown}
use Rattle.rl_source_statements.proofs.parameters.take_parameters.Goals as goal

pub returns-in-None : goal.returns-in-None
returns-in-None c =
    let old : State = state_of c.args.run.now in
    c.bind_the_rest.ensures
    ∙ ap (λ v. from_normal (bind old.scene true (maybe c.args.rest (λ t. syntax t.tree.now)) v) old) c.first_piece.ensures
    ∙ sym (ap (λ ps. from_normal (take_rest old.scene ps c.args.arguments.now (maybe c.args.rest (λ t. syntax t.tree.now))) old)
    c.in-None.ensures)

pub returns-in_ok-push-in-Some : goal.returns-in_ok-push-in-Some
returns-in_ok-push-in-Some c =
    let old : State = state_of c.args.run.now in
    let rest : Syntax = maybe c.args.rest (λ t. syntax t.tree.now) in
    let left = among c.in-Some.left.trees.now in
    goes_as c.take_argument.result (state_of c.take_argument.new.run)
    (ap (λ s. from_normal (take_argument s.scene (syntax c.in-Some.first.tree.now) (shown c.first_piece-in-Some.result)) s)
    c.in_ok-push-in-Some.ensures
    ∙ ap (λ v. from_normal (do
      take_argument old.scene (syntax c.in-Some.first.tree.now) v
      take_rest old.scene left c.later_pieces.result.now rest) old) c.first_piece-in-Some.ensures
    ∙ ap (λ vs. from_normal (do
      take_argument old.scene (syntax c.in-Some.first.tree.now) (first_piece c.args.arguments.now)
      take_rest old.scene left vs rest) old) c.later_pieces.ensures
    ∙ sym (ap (λ ps. from_normal (take_rest old.scene ps c.args.arguments.now rest) old) c.in-Some.ensures)) c.take_argument.ensures
