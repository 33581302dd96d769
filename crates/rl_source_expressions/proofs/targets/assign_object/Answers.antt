use Rattle.std.proofs.Common.{ap, codes, false, refl, sym, true, ◌++◌, ◌∙◌, ◌∷◌}
use Rattle.rl_grammar.specs.Fields.{maybe}
use Rattle.rl_model.specs.Events as events
use Rattle.rl_model.specs.Shapes as shapes
use Rattle.rl_source_expressions.proofs.Targeted.{object_met, object_unmet}
use Rattle.rl_source_stack.proofs.Goings.{goes_as}
use Rattle.rl_source_stack.specs.Controls.{apart_in}
use Rattle.rl_source_stack.specs.Parts.{among}
use Rattle.rl_source_stack.specs.States.{state_of}
use Rattle.rl_syntax.specs.Syntax.{syntax}
use Rattle.rl_trace.specs.Values.{shown}
use Rattle.rl_source_expressions.proofs.targets.assign_object.Goals as goal

pub returns-then-not-have_keys : goal.returns-then-not-have_keys
returns-then-not-have_keys c =
    object_unmet (state_of c.args.run.now) (among c.args.properties.trees.now) (maybe c.args.rest (λ t. syntax t.tree.now))
    (shown c.args.value) false _
    (sym c.have_keys.ensures ∙ c.if-not-have_keys.true) refl refl

pub returns-then-not-is_plain_rest : goal.returns-then-not-is_plain_rest
returns-then-not-is_plain_rest c =
    object_unmet (state_of c.args.run.now) (among c.args.properties.trees.now) (maybe c.args.rest (λ t. syntax t.tree.now))
    (shown c.args.value) true false
    (sym c.have_keys.ensures ∙ c.if-not-have_keys.false) (sym c.is_plain_rest.ensures ∙ c.if-not-is_plain_rest.true) refl

pub returns : goal.returns
returns c =
    goes_as c.ask_pieces.result (state_of c.ask_pieces.new.self)
    (ap (λ e. apart_in e (state_of c.push.new.self)) c.in_ok-event.ensures
    ∙ ap (apart_in (events.destructure (codes "object" ∷ shapes.piece_shapes (among c.args.properties.trees.now)
    ++ shapes.rest_shape (maybe c.args.rest (λ t. syntax t.tree.now))) (shown c.args.value))) c.in_ok-push.ensures
    ∙ object_met (state_of c.args.run.now) (among c.args.properties.trees.now) (maybe c.args.rest (λ t. syntax t.tree.now))
    (shown c.args.value)
    (sym c.have_keys.ensures ∙ c.if-not-have_keys.false) (sym c.is_plain_rest.ensures ∙ c.if-not-is_plain_rest.false))
    c.ask_pieces.ensures
