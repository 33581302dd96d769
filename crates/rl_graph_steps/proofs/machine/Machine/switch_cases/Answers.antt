use Rattle.std.proofs.Common.{◌≡◌, false, List, IfOk, subst}
use Rattle.rl_hir.specs.declared.terminal.Case.{Case}
use Rattle.rl_machine.specs.Ends.{Compares}
use Rattle.rl_graph_steps.specs.States.{Ahead, came, compares, leaves_by, noted_in, state_of}
use Rattle.rl_graph_steps.specs.declared.note.Note.TheVariants as note
use Rattle.rl_graph_steps.proofs.machine.Machine.switch_cases.Goals as goal

pub returns : goal.returns
returns c =
    let old = state_of c.args.self.now c.args.run.now in
    let noted = noted_in c.args.fallthrough note.Passes old in
    subst (λ (cases : List Case). IfOk c.compare.result (λ g. (ahead : Ahead) → came ahead g (state_of c.args.self.now c.compare.new.run)
    ≡ leaves_by ahead (Compares c.args.test.0 cases c.args.fallthrough) old)) c.as_slice-cases.ensures
    (subst (λ o. IfOk c.compare.result (λ g. (ahead : Ahead) → came ahead g
    (state_of c.args.self.now c.compare.new.run) ≡ compares ahead c.as_slice-cases.result.now o c.args.test.0 false noted))
    c.default_case-other.ensures
    (subst (λ s. IfOk c.compare.result (λ g. (ahead : Ahead) → came ahead g
    (state_of c.args.self.now c.compare.new.run) ≡ compares ahead c.as_slice-cases.result.now c.default_case-other.result c.args.test.0 false s))
    c.in_ok-note.ensures c.compare.ensures))
