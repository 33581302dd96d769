use Rattle.std.proofs.Common.{refl}
use Rattle.rl_source_frames.proofs.Passing.{passes, takes}
use Rattle.rl_source_stack.specs.States.{state_of}
use Rattle.rl_source_stack.specs.declared.control.Control.TheVariants as control
use Rattle.rl_source_frames.proofs.through.with_throw.Goals as goal

pub returns-in-Some-Value : goal.returns-in-Some-Value
returns-in-Some-Value c =
    passes (control.Throw c.args.value) (control.Throw c.args.value) (state_of c.args.run.now) (state_of c.pop.new.self) _ _ c.in-Some-Value.ensures
    c.in-Some-Value.field-0-is refl

pub returns-in-Some-Following : goal.returns-in-Some-Following
returns-in-Some-Following c =
    passes (control.Throw c.args.value) (control.Throw c.args.value) (state_of c.args.run.now) (state_of c.pop.new.self) _ _ c.in-Some-Following.ensures
    c.in-Some-Following.field-0-is refl

pub returns-in-Some-Statement : goal.returns-in-Some-Statement
returns-in-Some-Statement c =
    takes (control.Throw c.args.value) (state_of c.args.run.now) (state_of c.pop.new.self) _ _ c.in-Some-Statement.ensures c.in-Some-Statement.field-0-is
    c.leave_thrown.result (state_of c.leave_thrown.new.run) c.leave_thrown.ensures

pub returns-in-Some-Target : goal.returns-in-Some-Target
returns-in-Some-Target c =
    passes (control.Throw c.args.value) (control.Throw c.args.value) (state_of c.args.run.now) (state_of c.pop.new.self) _ _ c.in-Some-Target.ensures
    c.in-Some-Target.field-0-is refl

pub returns-in-Some-Head : goal.returns-in-Some-Head
returns-in-Some-Head c =
    passes (control.Throw c.args.value) (control.Throw c.args.value) (state_of c.args.run.now) (state_of c.pop.new.self) _ _ c.in-Some-Head.ensures
    c.in-Some-Head.field-0-is refl

pub returns-in-Some-Pieces : goal.returns-in-Some-Pieces
returns-in-Some-Pieces c =
    passes (control.Throw c.args.value) (control.Throw c.args.value) (state_of c.args.run.now) (state_of c.pop.new.self) _ _ c.in-Some-Pieces.ensures
    c.in-Some-Pieces.field-0-is refl

pub returns-in-Some-Given : goal.returns-in-Some-Given
returns-in-Some-Given c =
    passes (control.Throw c.args.value) (control.Throw c.args.value) (state_of c.args.run.now) (state_of c.pop.new.self) _ _ c.in-Some-Given.ensures
    c.in-Some-Given.field-0-is refl

pub returns-in-Some-Chained : goal.returns-in-Some-Chained
returns-in-Some-Chained c =
    passes (control.Throw c.args.value) (control.Throw c.args.value) (state_of c.args.run.now) (state_of c.pop.new.self) _ _ c.in-Some-Chained.ensures
    c.in-Some-Chained.field-0-is refl
