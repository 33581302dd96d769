use Rattle.std.proofs.Common.{ap, sym, ◌∙◌}
use Rattle.rl_grammar.specs.Fields.{maybe}
use Rattle.rl_model.specs.Expressions.{assign_to}
use Rattle.rl_source_expressions.proofs.Targeted.{item_taken, property_there, left_to}
use Rattle.rl_source_stack.proofs.Goings.{goes_as}
use Rattle.rl_source_stack.specs.Controls.{from_normal}
use Rattle.rl_source_stack.specs.Parts.{among}
use Rattle.rl_source_stack.specs.States.{state_of}
use Rattle.rl_syntax.specs.Syntax.{syntax}
use Rattle.rl_trace.specs.Values.{shown}
use Rattle.rl_source_expressions.proofs.targets.assign_properties.Goals as goal

pub returns-in_ok-push-in-Some : goal.returns-in_ok-push-in-Some
returns-in_ok-push-in-Some c =
    goes_as c.assign_property.result (state_of c.assign_property.new.run)
    (ap (λ t. from_normal (assign_to (state_of c.push.new.self).scene t (shown c.first_piece-piece.result)) (state_of c.push.new.self))
    c.assignment_target_property_view.ensures
    ∙ ap (λ s. from_normal (assign_to s.scene (syntax c.in-Some.first.tree.now) (shown c.first_piece-piece.result)) s)
    c.in_ok-push-in-Some.ensures
    ∙ item_taken (state_of c.args.run.now) (syntax c.in-Some.first.tree.now) (among c.in-Some.behind.trees.now)
    (maybe c.args.rest (λ t. syntax t.tree.now)) c.args.pieces.now
    (shown c.first_piece-piece.result) c.later_pieces.result.now (property_there (syntax c.in-Some.first.tree.now) c.in-Some.first.fit)
    c.first_piece-piece.ensures c.later_pieces.ensures
    ∙ ap (left_to (state_of c.args.run.now) c.args.pieces.now (maybe c.args.rest (λ t. syntax t.tree.now)))
    (sym c.in-Some.ensures))
    c.assign_property.ensures
