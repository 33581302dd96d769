use Rattle.std.proofs.Common.{sym, ◌∙◌}
use Rattle.rl_builder.proofs.Refusals.{function_found, function_missed, function_next}
use Rattle.rl_builder.proofs.graph.first_function.Goals as goal

pub returns-in-Some : goal.returns-in-Some
returns-in-Some c =
    sym (function_found _ _ _ (sym c.in-Some.ensures))
    ∙ function_next c.args.table.now c.args.listed.now c.loop-id.id-index _ c.loop-id-test.true ∙ c.loop-id.invariant

pub loop-id-preserved : goal.loop-id-preserved
loop-id-preserved c =
    sym (function_missed _ _ (sym c.in_default.ensures))
    ∙ function_next c.args.table.now c.args.listed.now c.loop-id.id-index _ c.loop-id-test.true ∙ c.loop-id.invariant
