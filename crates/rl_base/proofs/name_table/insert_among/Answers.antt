use Rattle.std.proofs.Common.{◌∙◌}
use Rattle.rl_base.proofs.NameTables.{added_item}
use Rattle.rl_base.proofs.name_table.insert_among.Goals as goal

pub returns-in_ok-push-in-None-clause-added : goal.returns-in_ok-push-in-None-clause-added
returns-in_ok-push-in-None-clause-added g c = λ is_new.
    added_item g.T.Named.name c.args.indices.now c.insert_if_new.new.indices c.in_ok-name.name c.len-index.result _ c.args.item
    (c.in_ok-name.ensures.ok ∙ c.name.ensures)
    (c.in_ok-known.ensures.added c.in-None.is)
    (c.len-index.ensures ∙ c.args.items.now.ok.0)
