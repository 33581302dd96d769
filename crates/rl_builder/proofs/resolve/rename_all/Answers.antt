use Rattle.std.proofs.Common.{◌∙◌, arith}
use Rattle.rl_builder.proofs.Renaming.{renamed_step, all_renamed}
use Rattle.rl_builder.proofs.resolve.rename_all.Goals as goal

pub loop-reference-preserved : goal.loop-reference-preserved
loop-reference-preserved c =
    renamed_step c.loop-reference.env c.add_rename.new.self c.args.references.now c.args.free.now c.in_ok-name.name c.loop-reference.reference-index _ c.loop-reference-test.true c.in_ok-name.ensures c.in_ok-add_rename.ensures.ok
    ∙ c.loop-reference.invariant

pub returns : goal.returns
returns c =
    all_renamed c.loop-reference.env c.args.references.now c.args.free.now c.loop-reference.reference-index (omega arith)
    ∙ c.loop-reference.invariant
