use Rattle.std.proofs.Common.{◌≡◌, ◌-◌, refl, sym, ◌∙◌}
use Rattle.std.proofs.lemmas.Bool.{false≢true}
use Rattle.rl_trace.specs.Progress.{after}
use Rattle.rl_machine.specs.Traces.{waiting}
use Rattle.rl_graph_steps.specs.Runs.{steps_of}
use Rattle.rl_graph_steps.specs.States.{ended, state_of}
use Rattle.rl_graph_steps.specs.declared.machine.Goes.TheVariants as goes
use Rattle.rl_graph_steps.proofs.Turns.{HasEnded, Spends, begins, ends, ends_over, goes_on, goes_out, loudly, none_left, silently_on, silently_out}
use Rattle.rl_graph_steps.proofs.machine.Machine.run.Goals as goal

pub turns-init : goal.turns-init
turns-init g c = begins c.args.fuel c.args.entry.0 (state_of c.args.self.now c.args.run.now) c.args.steps.now

pub returns : goal.returns
returns g c =
    let m = c.args.self.now in
    let start = state_of m c.args.run.now in
    let over : steps_of c.turns.left ≡ 0 = none_left (steps_of c.turns.left) (λ some. false≢true (sym c.turns-test.false ∙ c.is_left.ensures.1 some)) in
    let done : HasEnded c.args.fuel c.args.entry.0 start c.args.steps.now (after (state_of m c.turns.run).seen.events waiting) c.turns.steps
    = ends_over c.args.fuel c.args.entry.0 start c.args.steps.now c.turns.left c.turns.block.0 c.turns.index (state_of m c.turns.run)
    c.turns.steps c.turns.invariant over in
    record { trace = done.trace; steps = done.counted }

pub turns-preserved-in-Silently : goal.turns-preserved-in-Silently
turns-preserved-in-Silently g c =
    let m = c.args.self.now in
    let f = c.args.fuel in
    let start = state_of m c.args.run.now in
    let old = state_of m c.turns.run in
    let new = state_of m c.advance.new.run in
    let left = c.turns.left in
    let k = c.spent-left.result in
    let less : Spends left k = record { steps = c.spent-left.ensures.steps; most = c.spent-left.ensures.most; quiet = c.spent-left.ensures.quiet } in
    goes_on f c.args.entry.0 start c.args.steps.now left (record k { quiet = k.quiet - 1 }) c.turns.block.0 c.turns.index
    c.in-Silently.next.0 c.in-Silently.next_index old new c.turns.steps c.tick.new.self c.turns.invariant
    (silently_on left k less _ c.in-Silently.next c.in-Silently.next_index c.turns.block.0 c.turns.index old new c.in-Silently.is
    c.if-left-eq0.false c.in_ok-next.ensures)
    c.tick.ensures

pub turns-preserved : goal.turns-preserved
turns-preserved g c =
    let m = c.args.self.now in
    let f = c.args.fuel in
    let start = state_of m c.args.run.now in
    let old = state_of m c.turns.run in
    let new = state_of m c.advance.new.run in
    let left = c.turns.left in
    let k = c.spent-left.result in
    let less : Spends left k = record { steps = c.spent-left.ensures.steps; most = c.spent-left.ensures.most; quiet = c.spent-left.ensures.quiet } in
    goes_on f c.args.entry.0 start c.args.steps.now left (record k { quiet = k.most }) c.turns.block.0 c.turns.index
    c.in-Loudly.next.0 c.in-Loudly.next_index old new c.turns.steps c.tick.new.self c.turns.invariant
    (loudly left k less _ c.in-Loudly.next c.in-Loudly.next_index c.turns.block.0 c.turns.index old new c.in-Loudly.is
    c.in_ok-next.ensures)
    c.tick.ensures

pub returns-then-left-eq0 : goal.returns-then-left-eq0
returns-then-left-eq0 g c =
    let m = c.args.self.now in
    let f = c.args.fuel in
    let start = state_of m c.args.run.now in
    let old = state_of m c.turns.run in
    let new = state_of m c.advance.new.run in
    let left = c.turns.left in
    let k = c.spent-left.result in
    let less : Spends left k = record { steps = c.spent-left.ensures.steps; most = c.spent-left.ensures.most; quiet = c.spent-left.ensures.quiet } in
    let done : HasEnded f c.args.entry.0 start c.args.steps.now (after new.seen.events waiting) c.tick.new.self = ends f c.args.entry.0 start c.args.steps.now left
    c.turns.block.0 c.turns.index old c.turns.steps c.tick.new.self (after new.seen.events waiting) c.turns.invariant
    (silently_out left k less _ c.in-Silently.next c.in-Silently.next_index c.turns.block.0 c.turns.index old new c.in-Silently.is
    c.if-left-eq0.true c.in_ok-next.ensures)
    c.tick.ensures in
    record { trace = done.trace; steps = done.counted }

pub returns-in-Returned : goal.returns-in-Returned
returns-in-Returned g c =
    let m = c.args.self.now in
    let f = c.args.fuel in
    let start = state_of m c.args.run.now in
    let old = state_of m c.turns.run in
    let new = state_of m c.advance.new.run in
    let left = c.turns.left in
    let k = c.spent-left.result in
    let less : Spends left k = record { steps = c.spent-left.ensures.steps; most = c.spent-left.ensures.most; quiet = c.spent-left.ensures.quiet } in
    let done : HasEnded f c.args.entry.0 start c.args.steps.now (ended (goes.Returned c.in-Returned.variant c.in-Returned.value) new) c.tick.new.self = ends f c.args.entry.0 start c.args.steps.now left
    c.turns.block.0 c.turns.index old c.turns.steps c.tick.new.self (ended (goes.Returned c.in-Returned.variant c.in-Returned.value) new) c.turns.invariant
    (goes_out left k less _ (goes.Returned c.in-Returned.variant c.in-Returned.value) (ended (goes.Returned c.in-Returned.variant c.in-Returned.value) new) c.turns.block.0 c.turns.index old new c.in-Returned.is refl refl
    c.in_ok-next.ensures)
    c.tick.ensures in
    record { trace = done.trace; steps = done.counted }

pub returns-in-Threw : goal.returns-in-Threw
returns-in-Threw g c =
    let m = c.args.self.now in
    let f = c.args.fuel in
    let start = state_of m c.args.run.now in
    let old = state_of m c.turns.run in
    let new = state_of m c.advance.new.run in
    let left = c.turns.left in
    let k = c.spent-left.result in
    let less : Spends left k = record { steps = c.spent-left.ensures.steps; most = c.spent-left.ensures.most; quiet = c.spent-left.ensures.quiet } in
    let done : HasEnded f c.args.entry.0 start c.args.steps.now (ended (goes.Threw c.in-Threw.value) new) c.tick.new.self = ends f c.args.entry.0 start c.args.steps.now left
    c.turns.block.0 c.turns.index old c.turns.steps c.tick.new.self (ended (goes.Threw c.in-Threw.value) new) c.turns.invariant
    (goes_out left k less _ (goes.Threw c.in-Threw.value) (ended (goes.Threw c.in-Threw.value) new) c.turns.block.0 c.turns.index old new c.in-Threw.is refl refl
    c.in_ok-next.ensures)
    c.tick.ensures in
    record { trace = done.trace; steps = done.counted }

pub returns-in-Waiting : goal.returns-in-Waiting
returns-in-Waiting g c =
    let m = c.args.self.now in
    let f = c.args.fuel in
    let start = state_of m c.args.run.now in
    let old = state_of m c.turns.run in
    let new = state_of m c.advance.new.run in
    let left = c.turns.left in
    let k = c.spent-left.result in
    let less : Spends left k = record { steps = c.spent-left.ensures.steps; most = c.spent-left.ensures.most; quiet = c.spent-left.ensures.quiet } in
    let done : HasEnded f c.args.entry.0 start c.args.steps.now (ended (goes.Waiting) new) c.tick.new.self = ends f c.args.entry.0 start c.args.steps.now left
    c.turns.block.0 c.turns.index old c.turns.steps c.tick.new.self (ended (goes.Waiting) new) c.turns.invariant
    (goes_out left k less _ (goes.Waiting) (ended (goes.Waiting) new) c.turns.block.0 c.turns.index old new c.in-Waiting.is refl refl
    c.in_ok-next.ensures)
    c.tick.ensures in
    record { trace = done.trace; steps = done.counted }
