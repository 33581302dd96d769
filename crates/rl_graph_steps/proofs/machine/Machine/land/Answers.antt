use Rattle.std.proofs.Common.{◌≡◌, ◌∷◌, [], OnOk, ap, subst, sym, ◌∙◌}
use Rattle.rl_hir.specs.Pieces.{operands, pattern_pieces}
use Rattle.rl_machine.specs.Acts.{targets}
use Rattle.rl_trace.specs.Values.{shown}
use Rattle.rl_graph_steps.specs.Effects.{landing_of}
use Rattle.rl_graph_steps.specs.States.{given, lands, state_of, takes, took}
use Rattle.rl_graph_steps.proofs.Taken.{takes_values}
use Rattle.rl_graph_steps.proofs.machine.Machine.land.Goals as goal

pub returns-in_ok-take_pattern-in-Takes : goal.returns-in_ok-take_pattern-in-Takes
returns-in_ok-take_pattern-in-Takes c =
    subst (λ l. OnOk c.set-in-Takes.result (state_of c.args.self.now c.set-in-Takes.new.run ≡ lands (landing_of l) c.args.answer.now
    (state_of c.args.self.now c.args.run.now))) (sym c.in-Takes.is)
    (subst (λ s. OnOk c.set-in-Takes.result (state_of c.args.self.now c.set-in-Takes.new.run ≡ given (c.in-Takes.target.0 ∷ [])
    (shown c.in-Takes.value) s))
    (ap (λ t. t.state) c.in_ok-take_pattern-in-Takes.ensures
    ∙ ap (λ left. (takes (targets (operands (pattern_pieces c.in-Takes.pattern.now))) (took left
    (state_of c.args.self.now c.args.run.now))).state) c.as_slice.ensures
    ∙ takes_values (targets (operands (pattern_pieces c.in-Takes.pattern.now))) c.args.answer.now.pieces
    (state_of c.args.self.now c.args.run.now))
    c.set-in-Takes.ensures)
