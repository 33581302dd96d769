use Rattle.std.proofs.Common.{◌≡◌, IfOk, subst, sym}
use Rattle.rl_hir.specs.declared.terminal.TerminalKind.{TerminalKind}
use Rattle.rl_machine.specs.Ends.{leaving}
use Rattle.rl_graph_steps.specs.States.{Ahead, came, cases_of, comparing, leaves_by, state_of}
use Rattle.rl_graph_steps.proofs.machine.Machine.leave.Goals as goal

pub returns-in-If : goal.returns-in-If
returns-in-If c =
    let old = state_of c.args.self.now c.args.run.now in
    subst (λ k. IfOk c.test.result (λ g. (ahead : Ahead) → came ahead g (state_of c.args.self.now c.test.new.run) ≡ leaves_by ahead (leaving k) old)) (sym c.in-If.is)
    c.test.ensures

pub returns-in-Switch : goal.returns-in-Switch
returns-in-Switch c =
    let old = state_of c.args.self.now c.args.run.now in
    subst (λ k. IfOk c.switch.result (λ g. (ahead : Ahead) → came ahead g (state_of c.args.self.now c.switch.new.run) ≡ leaves_by ahead (leaving k) old))
    (sym c.in-Switch.is)
    (subst (λ (k : TerminalKind). IfOk c.switch.result (λ g. (ahead : Ahead) → came ahead g (state_of c.args.self.now c.switch.new.run)
    ≡ leaves_by ahead (comparing c.in-Switch.test.identifier.0 (cases_of k) c.in-Switch.fallthrough) old)) c.in-Switch.is c.switch.ensures)
