-- Runs with a bound on their steps, and the steps that they make.
use Rattle.std.specs.Prelude.{ℕ, zero, suc, ◌+◌, ◌-◌, ◌*◌, List, [], codes, length}
use Rattle.rl_machine.specs.Ends.{Notes}
use Rattle.rl_machine.specs.Machine.{Code, Next, exec, no_way, step}
use Rattle.rl_machine.specs.Traces.{Store, emit, waiting}
use Rattle.rl_machine.specs.declared.trace.Answer.{Answer}
use Rattle.rl_machine.specs.declared.trace.Event.{Event}
use Rattle.rl_machine.specs.declared.trace.Trace.{Trace}
use Rattle.rl_trace.specs.Progress.{after}
use Rattle.rl_graph_steps.specs.States.{State, code}
use Rattle.rl_graph_steps.specs.declared.fuel.Fuel.{Fuel}

-- The steps that are left.
abbrev pub steps_of : Fuel → ℕ
steps_of f = f.rounds * (f.most + 1) + f.within

-- An event that stands for a step.
abbrev pub tick : Event
tick = record { kind = codes "tick"; texts = []; operands = [] }

-- As `exec` of rl_machine, with a tick in front of each step that is made.
abbrev pub ticking : Code → (most steps quiet : ℕ) → Next
ticking code most zero quiet id index store notes answers = waiting
ticking code most (suc steps) zero id index store notes answers =
    emit tick (step waiting code (code.item id index) (no_way waiting) (ticking code most steps most) id index store notes answers)
ticking code most (suc steps) (suc quiet) id index store notes answers =
    emit tick (step waiting code (code.item id index) (ticking code most steps quiet) (ticking code most steps most) id index store notes answers)

-- The number of steps that a run makes: its trace with ticks has so many events more than its trace.
abbrev pub made : Code → (most steps quiet id index : ℕ) → Store → Notes → List Answer → ℕ
made code most steps quiet id index store notes answers =
    length (ticking code most steps quiet id index store notes answers).events
    - length (exec waiting code most steps quiet id index store notes answers).events

-- The trace of a state's run from a point, and the number of its steps.
abbrev pub runs : (most steps quiet id index : ℕ) → State → Trace
runs most steps quiet id index s = after s.seen.events (exec waiting (code s) most steps quiet id index s.seen.store s.notes s.seen.answers)

abbrev pub made_by : (most steps quiet id index : ℕ) → State → ℕ
made_by most steps quiet id index s = made (code s) most steps quiet id index s.seen.store s.notes s.seen.answers
