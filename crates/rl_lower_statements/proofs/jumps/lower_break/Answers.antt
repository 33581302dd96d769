use Rattle.std.proofs.Common.{ℕ, List, Option, option_map, ap, sym, ◌∙◌}
use Rattle.rl_builder.specs.Builder.{State, state_of}
use Rattle.rl_builder.specs.Jumps.{lookup_break}
use Rattle.rl_lower_statements.proofs.LoopDerivations.{break_goes, break_ok}
use Rattle.rl_lower_statements.proofs.jumps.lower_break.Goals as goal

pub unreachable-requires : goal.unreachable-requires
unreachable-requires g c =
    let s : State = state_of g.U.ReadsUnit.tables c.args.builder.now in
    break_goes s (option_map (λ l. l.now) c.args.label) c.args.at.span c.requires.may
    (c.lookup_break.ensures ∙ ap (λ (l : Option (List ℕ)). lookup_break s.scopes l) c.text_of_label.ensures) c.in-Err.is

pub returns-clause-lowered : goal.returns-clause-lowered
returns-clause-lowered g c =
    let s : State = state_of g.U.ReadsUnit.tables c.args.builder.now in
    break_ok c.args.at c.args.label s _ c.end_by_jump.result
    (sym (c.lookup_break.ensures ∙ ap (λ (l : Option (List ℕ)). lookup_break s.scopes l) c.text_of_label.ensures) ∙ c.in-Ok.is)
    c.end_by_jump.ensures.state
