use Rattle.std.proofs.Common.{◌≡◌, Option, List, IfOk, ap, subst, sym, ◌∙◌}
use Rattle.std.specs.Borrow.{Bor}
use Rattle.std.specs.Option.{option_map}
use Rattle.rl_hir.specs.declared.terminal.Case.{Case}
use Rattle.rl_graph_steps.specs.States.{Ahead, came, comparing, leaves_by, state_of}
use Rattle.rl_graph_steps.proofs.machine.Machine.switch.Goals as goal

pub returns-in-Some : goal.returns-in-Some
returns-in-Some c =
    subst (λ (o : Option (List Case)). IfOk c.switch_cases.result (λ g. (ahead : Ahead) → came ahead g
    (state_of c.args.self.now c.switch_cases.new.run) ≡ leaves_by ahead (comparing c.args.test.0 o c.args.fallthrough)
    (state_of c.args.self.now c.args.run.now)))
    (ap (option_map (λ (cases : Bor (List Case)). cases.now)) (sym c.in-Some.is) ∙ c.cases_of.ensures) c.switch_cases.ensures
