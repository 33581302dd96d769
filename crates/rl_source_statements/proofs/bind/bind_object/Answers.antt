use Rattle.std.proofs.Common.{Bool, if◌then◌else◌, ap, sym, ◌∙◌}
use Rattle.rl_grammar.specs.Fields.{maybe}
use Rattle.rl_machine.specs.declared.trace.Trace.{Trace}
use Rattle.rl_machine.specs.declared.trace.Value.{Value}
use Rattle.rl_model.specs.Actions.{no_meaning}
use Rattle.rl_source_stack.proofs.Goings.{goes_as}
use Rattle.rl_source_stack.specs.Controls.{from_normal}
use Rattle.rl_source_stack.specs.Parts.{among}
use Rattle.rl_source_stack.specs.States.{State, state_of}
use Rattle.rl_source_statements.specs.Starts.{taken_object}
use Rattle.rl_syntax.specs.Syntax.{Pieces, Syntax, syntax}
use Rattle.rl_trace.specs.Values.{shown}
use Rattle.rl_source_statements.proofs.bind.bind_object.Goals as goal

-- The trace of a run that takes an object apart, by whether the pattern has a meaning.
abbrev taking_by : State → (everywhere : Bool) → (properties : Pieces) → (rest : Syntax) → Value → Bool → Trace
taking_by s everywhere properties rest v meant =
    from_normal (if meant then taken_object s.scene everywhere properties rest v else no_meaning) s

pub returns-then-has_pieces : goal.returns-then-has_pieces
returns-then-has_pieces c =
    goes_as c.take_object.result (state_of c.take_object.new.run)
    (sym (ap (taking_by (state_of c.args.run.now) c.args.everywhere (among c.args.properties.trees.now)
    (maybe c.args.rest (λ t. syntax t.tree.now)) (shown c.args.value)) (sym c.has_pieces.ensures ∙ c.if-has_pieces.true)))
    c.take_object.ensures

pub returns : goal.returns
returns c =
    sym (ap (taking_by (state_of c.args.run.now) c.args.everywhere (among c.args.properties.trees.now)
    (maybe c.args.rest (λ t. syntax t.tree.now)) (shown c.args.value)) (sym c.has_pieces.ensures ∙ c.if-has_pieces.false))
