use Rattle.std.proofs.Common.{ap, codes, ◌++◌, ◌∙◌, ◌∷◌}
use Rattle.rl_grammar.specs.Fields.{maybe}
use Rattle.rl_model.specs.Events as events
use Rattle.rl_model.specs.Shapes as shapes
use Rattle.rl_source_stack.proofs.Goings.{goes_as}
use Rattle.rl_source_stack.specs.Controls.{apart_in}
use Rattle.rl_source_stack.specs.Parts.{among}
use Rattle.rl_source_stack.specs.States.{state_of}
use Rattle.rl_syntax.specs.Syntax.{syntax}
use Rattle.rl_trace.specs.Values.{shown}
use Rattle.rl_source_expressions.proofs.targets.assign_array.Goals as goal

pub returns : goal.returns
returns c =
    goes_as c.ask_pieces.result (state_of c.ask_pieces.new.self)
    (ap (λ e. apart_in e (state_of c.push.new.self)) c.in_ok-event.ensures
    ∙ ap (apart_in (events.destructure (codes "array" ∷ shapes.piece_shapes (among c.args.items.trees.now)
    ++ shapes.rest_shape (maybe c.args.rest (λ t. syntax t.tree.now))) (shown c.args.value))) c.in_ok-push.ensures)
    c.ask_pieces.ensures
