use Rattle.std.proofs.Common.{◌∙◌, sym, ap}
use Rattle.std.specs.Option.{option_copied}
use Rattle.rl_atoms.proofs.Entities.{entity_scalar}
use Rattle.rl_atoms.proofs.entity_table.EntityTable.get.Goals as goal

pub returns-in-Some-clause-scalar : goal.returns-in-Some-clause-scalar
returns-in-Some-clause-scalar c =
    entity_scalar c.self.inside.table c.args.name.now c.in-Some.entity.now (sym c.get.ensures ∙ ap option_copied c.in-Some.is) c.self.invariant
