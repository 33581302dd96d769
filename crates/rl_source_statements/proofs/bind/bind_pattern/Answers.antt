use Rattle.std.proofs.Common.{ap, ◌∙◌}
use Rattle.rl_grammar.specs.Fields.{maybe}
use Rattle.rl_model.specs.Patterns.{bind, declare}
use Rattle.rl_source_stack.specs.Controls.{from_normal}
use Rattle.rl_source_stack.specs.Parts.{among}
use Rattle.rl_source_stack.specs.States.{State, state_of}
use Rattle.rl_source_stack.proofs.Goings.{goes_as}
use Rattle.rl_source_statements.proofs.Patterns.{bind_array, bind_object}
use Rattle.rl_syntax.specs.Syntax.{syntax}
use Rattle.rl_trace.specs.Values.{shown}
use Rattle.rl_source_statements.proofs.bind.bind_pattern.Goals as goal

pub returns-in-Identifier : goal.returns-in-Identifier
returns-in-Identifier c =
    let old : State = state_of c.args.run.now in
    goes_as c.declare_symbol.result (state_of c.declare_symbol.new.run)
    (ap (λ symbol. from_normal (declare symbol (shown c.args.value)) old) c.declared-symbol.ensures
    ∙ ap (λ t. from_normal (bind old.scene c.args.everywhere t (shown c.args.value)) old)
    (c.binding_identifier_view-identifier.ensures ∙ c.in-Identifier.ensures)) c.declare_symbol.ensures

pub returns-in-Array : goal.returns-in-Array
returns-in-Array c =
    let old : State = state_of c.args.run.now in
    goes_as c.bind_array.result (state_of c.bind_array.new.run)
    (ap (λ action. from_normal action old)
    (bind_array old.scene.names old.scene.world old.scene.child_text old.scene.attribute_text c.args.everywhere c.in-Array.at
    (among c.in-Array.items.trees.now) (maybe c.in-Array.rest (λ t. syntax t.tree.now)) (shown c.args.value))
    ∙ ap (λ t. from_normal (bind old.scene c.args.everywhere t (shown c.args.value)) old) c.in-Array.ensures) c.bind_array.ensures

pub returns-in-Object : goal.returns-in-Object
returns-in-Object c =
    let old : State = state_of c.args.run.now in
    goes_as c.bind_object.result (state_of c.bind_object.new.run)
    (ap (λ action. from_normal action old)
    (bind_object old.scene.names old.scene.world old.scene.child_text old.scene.attribute_text c.args.everywhere c.in-Object.at
    (among c.in-Object.properties.trees.now) (maybe c.in-Object.rest (λ t. syntax t.tree.now)) (shown c.args.value))
    ∙ ap (λ t. from_normal (bind old.scene c.args.everywhere t (shown c.args.value)) old) c.in-Object.ensures) c.bind_object.ensures
