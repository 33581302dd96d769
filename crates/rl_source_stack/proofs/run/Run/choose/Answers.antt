use Rattle.rl_machine.specs.declared.trace.AnswerKind.TheVariants as kinds
use Rattle.rl_source_stack.specs.States.{state_of}
use Rattle.rl_source_stack.proofs.Asks.{in_some, test_by}
use Rattle.rl_source_stack.proofs.run.Run.choose.Goals as goal

pub returns-in-Yes : goal.returns-in-Yes
returns-in-Yes c =
    test_by c.args.if_yes c.args.if_no _ _ _ _
    (in_some c.args.event _ _ (state_of c.args.self.now) (state_of c.ask.new.self) c.in-Some.is c.in_ok-answer.ensures)
    kinds.Yes c.in-Yes.is

pub returns-in-No : goal.returns-in-No
returns-in-No c =
    test_by c.args.if_yes c.args.if_no _ _ _ _
    (in_some c.args.event _ _ (state_of c.args.self.now) (state_of c.ask.new.self) c.in-Some.is c.in_ok-answer.ensures)
    kinds.No c.in-No.is

pub returns-in-Throw : goal.returns-in-Throw
returns-in-Throw c =
    test_by c.args.if_yes c.args.if_no _ _ _ _
    (in_some c.args.event _ _ (state_of c.args.self.now) (state_of c.ask.new.self) c.in-Some.is c.in_ok-answer.ensures)
    kinds.Throw c.in-Throw.is
