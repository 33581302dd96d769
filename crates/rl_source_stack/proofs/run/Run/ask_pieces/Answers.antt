use Rattle.std.proofs.Common.{◌∙◌}
use Rattle.rl_machine.specs.declared.trace.AnswerKind.TheVariants as kinds
use Rattle.rl_source_stack.specs.States.{state_of}
use Rattle.rl_source_stack.proofs.Asks.{as_pieces, as_throw, in_some, pieces_by}
use Rattle.rl_source_stack.proofs.run.Run.ask_pieces.Goals as goal

pub returns-in-Yes : goal.returns-in-Yes
returns-in-Yes c =
    as_pieces (state_of c.ask.new.self) c.as_slice-pieces.result _ c.as_slice-pieces.ensures
    ∙ pieces_by _ _ _ _
    (in_some c.args.event _ _ (state_of c.args.self.now) (state_of c.ask.new.self) c.in-Some.is c.in_ok-answer.ensures)
    kinds.Yes c.in-Yes.is

pub returns-in-No : goal.returns-in-No
returns-in-No c =
    as_pieces (state_of c.ask.new.self) c.as_slice-pieces.result _ c.as_slice-pieces.ensures
    ∙ pieces_by _ _ _ _
    (in_some c.args.event _ _ (state_of c.args.self.now) (state_of c.ask.new.self) c.in-Some.is c.in_ok-answer.ensures)
    kinds.No c.in-No.is

pub returns-in-Throw : goal.returns-in-Throw
returns-in-Throw c =
    as_throw (state_of c.ask.new.self) _ _ c.of-value.ensures
    ∙ pieces_by _ _ _ _
    (in_some c.args.event _ _ (state_of c.args.self.now) (state_of c.ask.new.self) c.in-Some.is c.in_ok-answer.ensures)
    kinds.Throw c.in-Throw.is
