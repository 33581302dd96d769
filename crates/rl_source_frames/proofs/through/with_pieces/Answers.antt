use Rattle.std.proofs.Common.{refl, ap, ◌∙◌}
use Rattle.rl_source_frames.proofs.Passing.{passes, takes}
use Rattle.rl_source_stack.specs.States.{state_of}
use Rattle.rl_source_stack.specs.declared.control.Control.TheVariants as control
use Rattle.rl_source_stack.specs.declared.stack.Frame.TheVariants as frame
use Rattle.rl_source_frames.proofs.through.with_pieces.Goals as goal

pub returns-in-Some-Value : goal.returns-in-Some-Value
returns-in-Some-Value c =
    passes (control.Pieces c.args.pieces) (control.Pieces c.args.pieces) (state_of c.args.run.now) (state_of c.pop.new.self) _ _ c.in-Some-Value.ensures
    c.in-Some-Value.field-0-is refl

pub returns-in-Some-Following : goal.returns-in-Some-Following
returns-in-Some-Following c =
    passes (control.Pieces c.args.pieces) (control.Pieces c.args.pieces) (state_of c.args.run.now) (state_of c.pop.new.self) _ _ c.in-Some-Following.ensures
    c.in-Some-Following.field-0-is refl

pub returns-in-Some-Statement : goal.returns-in-Some-Statement
returns-in-Some-Statement c =
    passes (control.Pieces c.args.pieces) (control.Pieces c.args.pieces) (state_of c.args.run.now) (state_of c.pop.new.self) _ _ c.in-Some-Statement.ensures
    c.in-Some-Statement.field-0-is refl

pub returns-in-Some-Target : goal.returns-in-Some-Target
returns-in-Some-Target c =
    passes (control.Pieces c.args.pieces) (control.Pieces c.args.pieces) (state_of c.args.run.now) (state_of c.pop.new.self) _ _ c.in-Some-Target.ensures
    c.in-Some-Target.field-0-is refl

pub returns-in-Some-Head : goal.returns-in-Some-Head
returns-in-Some-Head c =
    passes (control.Pieces c.args.pieces) (control.Pieces c.args.pieces) (state_of c.args.run.now) (state_of c.pop.new.self) _ _ c.in-Some-Head.ensures
    c.in-Some-Head.field-0-is refl

pub returns-in-Some-Pieces-Bind : goal.returns-in-Some-Pieces-Bind
returns-in-Some-Pieces-Bind c =
    takes (control.Pieces c.args.pieces) (state_of c.args.run.now) (state_of c.pop.new.self) _ _ c.in-Some-Pieces-Bind.ensures
    (c.in-Some-Pieces-Bind.field-0-is ∙ ap frame.Pieces c.in-Some-Pieces-Bind.field-0-0-is)
    c.bind_parts.result (state_of c.bind_parts.new.run) c.bind_parts.ensures

pub returns-in-Some-Pieces-Assign : goal.returns-in-Some-Pieces-Assign
returns-in-Some-Pieces-Assign c =
    takes (control.Pieces c.args.pieces) (state_of c.args.run.now) (state_of c.pop.new.self) _ _ c.in-Some-Pieces-Assign.ensures
    (c.in-Some-Pieces-Assign.field-0-is ∙ ap frame.Pieces c.in-Some-Pieces-Assign.field-0-0-is)
    c.assign_parts.result (state_of c.assign_parts.new.run) c.assign_parts.ensures

pub returns-in-Some-Given : goal.returns-in-Some-Given
returns-in-Some-Given c =
    passes (control.Pieces c.args.pieces) (control.Pieces c.args.pieces) (state_of c.args.run.now) (state_of c.pop.new.self) _ _ c.in-Some-Given.ensures
    c.in-Some-Given.field-0-is refl

pub returns-in-Some-Chained : goal.returns-in-Some-Chained
returns-in-Some-Chained c =
    passes (control.Pieces c.args.pieces) (control.Pieces c.args.pieces) (state_of c.args.run.now) (state_of c.pop.new.self) _ _ c.in-Some-Chained.ensures
    c.in-Some-Chained.field-0-is refl
