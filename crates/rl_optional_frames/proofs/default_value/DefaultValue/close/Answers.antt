use Rattle.rl_builder.specs.Builder.{state_of}
use Rattle.rl_optional_frames.specs.Frames.{default_of}
use Rattle.rl_optional_frames.proofs.Composes.{default_closed}
use Rattle.rl_optional_frames.proofs.default_value.DefaultValue.close.Goals as goal

pub returns-clause-state : goal.returns-clause-state
returns-clause-state g c =
    default_closed (default_of c.args.self) (state_of g.U.ReadsUnit.tables c.args.b.now)
    (state_of g.U.ReadsUnit.tables c.give_value.new.b) (state_of g.U.ReadsUnit.tables c.begin_test.new.b)
    (state_of g.U.ReadsUnit.tables c.compare.new.b) (state_of g.U.ReadsUnit.tables c.terminate_with_continuation.new.self)
    c.args.default c.in_ok-test.test c.in_ok-alternate.alternate c.ends_by.result c.in_ok-alternate.ensures.state
    c.in_ok-alternate.ensures.block c.in_ok-begin_test.ensures.state c.in_ok-test.ensures.state c.in_ok-test.ensures.place
    c.ends_by.ensures c.in_ok-terminate_with_continuation.ensures.state
