use Rattle.std.proofs.Common.{sym, ap}
use Rattle.rl_grammar.specs.Fields.{maybe}
use Rattle.rl_source_stack.proofs.Goings.{goes_as}
use Rattle.rl_source_stack.specs.Controls.{from_normal}
use Rattle.rl_source_stack.specs.Frames.{assign_rest}
use Rattle.rl_source_stack.specs.Parts.{targets_among}
use Rattle.rl_source_stack.specs.States.{state_of}
use Rattle.rl_syntax.specs.Syntax.{syntax}
use Rattle.rl_source_expressions.proofs.targets.assign_parts.Goals as goal

pub returns-in-Elements : goal.returns-in-Elements
returns-in-Elements c =
    goes_as c.assign_elements.result (state_of c.assign_elements.new.run)
    (ap (λ t. from_normal (assign_rest (state_of c.args.run.now).scene (targets_among t) c.args.pieces.now
    (maybe c.args.rest (λ t. syntax t.tree.now))) (state_of c.args.run.now)) (sym c.in-Elements.is))
    c.assign_elements.ensures

pub returns-in-Properties : goal.returns-in-Properties
returns-in-Properties c =
    goes_as c.assign_properties.result (state_of c.assign_properties.new.run)
    (ap (λ t. from_normal (assign_rest (state_of c.args.run.now).scene (targets_among t) c.args.pieces.now
    (maybe c.args.rest (λ t. syntax t.tree.now))) (state_of c.args.run.now)) (sym c.in-Properties.is))
    c.assign_properties.ensures
