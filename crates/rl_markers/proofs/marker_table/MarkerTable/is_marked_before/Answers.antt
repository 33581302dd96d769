use Rattle.std.proofs.Common.{◌∙◌}
use Rattle.rl_markers.proofs.Least.{answered_some}
use Rattle.rl_markers.specs.Named.{tables}
use Rattle.rl_names.specs.Seen.{seen}
use Rattle.rl_markers.proofs.marker_table.MarkerTable.is_marked_before.Goals as goal

pub returns-in-Some : goal.returns-in-Some
returns-in-Some c function q =
    c.has.ensures
    ∙ answered_some (tables c.args.variables.now) (seen c.args.variables.now.names) function c.args.self.now c.args.node c.args.symbol _
    c.in-Some.ensures q
