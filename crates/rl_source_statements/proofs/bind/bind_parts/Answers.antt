use Rattle.std.proofs.Common.{Bool, List, ap, sym}
use Rattle.rl_grammar.specs.Fields.{maybe}
use Rattle.rl_machine.specs.declared.trace.Trace.{Trace}
use Rattle.rl_machine.specs.declared.trace.Value.{Value}
use Rattle.rl_source_stack.proofs.Goings.{goes_as}
use Rattle.rl_source_stack.specs.Controls.{from_normal}
use Rattle.rl_source_stack.specs.Frames.{bind_rest}
use Rattle.rl_source_stack.specs.Parts.{bindings_among}
use Rattle.rl_source_stack.specs.States.{State, state_of}
use Rattle.rl_source_stack.specs.declared.apart.Bindings.{Bindings}
use Rattle.rl_syntax.specs.Syntax.{Syntax, syntax}
use Rattle.rl_source_statements.proofs.bind.bind_parts.Goals as goal

-- The trace of a run whose pieces that are left go to these parts.
abbrev binding : State → (everywhere : Bool) → List Value → (rest : Syntax) → Bindings → Trace
binding s everywhere pieces rest items = from_normal (bind_rest s.scene everywhere (bindings_among items) pieces rest) s

pub returns-in-Elements : goal.returns-in-Elements
returns-in-Elements c =
    goes_as c.bind_item.result (state_of c.bind_item.new.run)
    (ap (binding (state_of c.args.run.now) c.args.everywhere c.args.pieces.now (maybe c.args.rest (λ t. syntax t.tree.now)))
    (sym c.in-Elements.is)) c.bind_item.ensures

pub returns-in-Properties : goal.returns-in-Properties
returns-in-Properties c =
    goes_as c.bind_property.result (state_of c.bind_property.new.run)
    (ap (binding (state_of c.args.run.now) c.args.everywhere c.args.pieces.now (maybe c.args.rest (λ t. syntax t.tree.now)))
    (sym c.in-Properties.is)) c.bind_property.ensures
