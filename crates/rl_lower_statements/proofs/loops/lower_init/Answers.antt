use Rattle.std.proofs.Common.{ap, sym, ◌∙◌, subst}
use Rattle.rl_builder.specs.Builder.{state_of}
use Rattle.rl_grammar.specs.Fields.{maybe}
use Rattle.rl_lowered.specs.Lowered.{part_span}
use Rattle.rl_lowered.specs.Promised.{LowersInit}
use Rattle.rl_names.specs.Seen.{seen}
use Rattle.rl_syntax.specs.Syntax.{Syntax, syntax}
use Rattle.rl_lower_statements.proofs.LoopDerivations.{no_init_told, part_there}
use Rattle.rl_lower_statements.proofs.loops.lower_init.Goals as goal

pub returns-in_ok-lower_head-in-Some-clause-lowered : goal.returns-in_ok-lower_head-in-Some-clause-lowered
returns-in_ok-lower_head-in-Some-clause-lowered g c =
    subst (λ (t : Syntax). LowersInit (seen c.args.names.now) c.args.at t (state_of g.U.ReadsUnit.tables c.args.builder.now)
    (state_of g.U.ReadsUnit.tables c.lower_head.new.builder)) (ap (λ init. maybe init (λ t. syntax t.tree.now)) (sym c.in-Some.is))
    c.in_ok-lower_head-in-Some.ensures.lowered

pub returns-in_ok-lower_head-in-Some-clause-span : goal.returns-in_ok-lower_head-in-Some-clause-span
returns-in_ok-lower_head-in-Some-clause-span g c =
    c.span_of.ensures ∙ part_there c.args.at (syntax c.in-Some.init.tree.now) c.in-Some.init.fit
    ∙ ap (λ (t : Syntax). part_span c.args.at t) (ap (λ init. maybe init (λ t. syntax t.tree.now)) (sym c.in-Some.is))

pub returns-in_ok-lower_undefined-in-None-clause-lowered : goal.returns-in_ok-lower_undefined-in-None-clause-lowered
returns-in_ok-lower_undefined-in-None-clause-lowered g c =
    subst (λ (t : Syntax). LowersInit (seen c.args.names.now) c.args.at t (state_of g.U.ReadsUnit.tables c.args.builder.now)
    (state_of g.U.ReadsUnit.tables c.lower_undefined.new.builder))
    (ap (λ init. maybe init (λ t. syntax t.tree.now)) (sym c.in-None.is)) (no_init_told c.in_ok-lower_undefined-in-None.ensures.state)
