use Rattle.std.proofs.Common.{List, ap, sym, ◌∙◌}
use Rattle.rl_hir.specs.declared.terminal.Case.{Case}
use Rattle.rl_graph_steps.specs.States.{compared_by, compares, state_of}
use Rattle.rl_graph_steps.proofs.machine.Machine.compare.Goals as goal

pub cases-preserved : goal.cases-preserved
cases-preserved c = λ ahead.
    let m = c.args.self.now in
    ap (λ hit. compared_by ahead hit c.in-Some.rest.now c.args.other c.args.value.0 (state_of m c.compare_one.new.run)) (sym c.in-Missed.is)
    ∙ c.in_ok-now.ensures ahead
    ∙ ap (λ (cases : List Case). compares ahead cases c.args.other c.args.value.0 c.cases.asked (state_of m c.cases.run))
    (sym c.in-Some.ensures.cases.0)
    ∙ c.cases.invariant ahead

pub returns-in-Ends : goal.returns-in-Ends
returns-in-Ends c = λ ahead.
    let m = c.args.self.now in
    ap (λ hit. compared_by ahead hit c.in-Some.rest.now c.args.other c.args.value.0 (state_of m c.compare_one.new.run)) (sym c.in-Ends.is)
    ∙ c.in_ok-now.ensures ahead
    ∙ ap (λ (cases : List Case). compares ahead cases c.args.other c.args.value.0 c.cases.asked (state_of m c.cases.run))
    (sym c.in-Some.ensures.cases.0)
    ∙ c.cases.invariant ahead
