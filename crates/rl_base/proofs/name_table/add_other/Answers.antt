use Rattle.std.proofs.Common.{◌∙◌}
use Rattle.rl_base.proofs.NameTables.{added_other}
use Rattle.rl_base.proofs.name_table.add_other.Goals as goal

pub returns-clause-added : goal.returns-clause-added
returns-clause-added g c =
    added_other g.T.Named.name c.args.indices.now c.insert.new.self c.in_ok-name.name c.args.index c.args.items.now c.index-items-index.result c.requires.within c.index-items-index.is
    (c.in_ok-name.ensures.ok ∙ c.name.ensures)
    c.in_ok-insert.ensures.updates
