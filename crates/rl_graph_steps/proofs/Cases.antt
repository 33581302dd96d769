-- The cases of a `switch`, behind the answer to one of them.
use Rattle.std.proofs.Common.{◌≡◌, ℕ, Bool, true, Option, Some, List, ◌∷◌}
use Rattle.rl_base.specs.declared.ids.BlockId.{BlockId}
use Rattle.rl_hir.specs.declared.instruction.Place.{Place}
use Rattle.rl_hir.specs.declared.terminal.Case.{Case}
use Rattle.rl_machine.specs.Machine.{Code, at, compared}
use Rattle.rl_machine.specs.Traces.{AnswerCont, waiting}
use Rattle.rl_machine.specs.declared.trace.Answer.{Answer}
use Rattle.rl_machine.specs.declared.trace.AnswerKind.TheVariants as kinds
use Rattle.rl_trace.specs.Progress.{IsAsked, Seen}
use Rattle.rl_graph_steps.specs.States.{Ahead, State, came, compares, test_of, with_seen}
use Rattle.rl_graph_steps.specs.declared.machine.Goes.TheVariants as goes
use Rattle.rl_graph_steps.proofs.Goes.{goes_by}

abbrev hit : Ahead → State → BlockId → Code → AnswerCont
hit ahead s block c a = at (ahead.loud c) block s.notes

abbrev miss : Ahead → State → List Case → (other : Option BlockId) → (value : ℕ) → Code → AnswerCont
miss ahead s cases other value c a = compared waiting c cases other value (ahead.loud c) (ahead.loud c) s.notes

pub case_hit : (ahead : Ahead) (test : Place) (block : BlockId) (cases : List Case) (other : Option BlockId) (value : ℕ) (asked : Bool) (a : Answer)
    (s : State) (new : Seen)
    → IsAsked (test_of s value test) a s.seen new → a.kind ≡ kinds.Yes
    → came ahead (goes.Loudly block 0) (with_seen s new) ≡ compares ahead (record { test = Some test; block = block } ∷ cases) other value asked s
case_hit ahead test block cases other value asked a s new q is =
    goes_by (test_of s value test) a s new q kinds.Yes is (hit ahead s block) (miss ahead s cases other value) (miss ahead s cases other value)

pub case_missed : (ahead : Ahead) (test : Place) (block : BlockId) (cases : List Case) (other : Option BlockId) (value : ℕ) (asked : Bool) (a : Answer)
    (s : State) (new : Seen)
    → IsAsked (test_of s value test) a s.seen new → a.kind ≡ kinds.No
    → compares ahead cases other value true (with_seen s new)
    ≡ compares ahead (record { test = Some test; block = block } ∷ cases) other value asked s
case_missed ahead test block cases other value asked a s new q is =
    goes_by (test_of s value test) a s new q kinds.No is (hit ahead s block) (miss ahead s cases other value) (miss ahead s cases other value)

pub case_thrown : (ahead : Ahead) (test : Place) (block : BlockId) (cases : List Case) (other : Option BlockId) (value : ℕ) (asked : Bool) (a : Answer)
    (s : State) (new : Seen)
    → IsAsked (test_of s value test) a s.seen new → a.kind ≡ kinds.Throw
    → compares ahead cases other value true (with_seen s new)
    ≡ compares ahead (record { test = Some test; block = block } ∷ cases) other value asked s
case_thrown ahead test block cases other value asked a s new q is =
    goes_by (test_of s value test) a s new q kinds.Throw is (hit ahead s block) (miss ahead s cases other value) (miss ahead s cases other value)
