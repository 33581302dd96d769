use Rattle.std.proofs.Common.{nat_eq, Some, if◌then◌else◌, ap, ◌∙◌}
use Rattle.rl_graph_run.proofs.Tables.{entry_set}
use Rattle.rl_graph_run.proofs.numbers.put_pair.Goals as goal

pub returns : goal.returns
returns c n =
    entry_set c.make_entry.new.table.items c.args.pair.symbol.0 c.args.pair.identifier c.in_ok-make_entry.ensures.place n
    ∙ ap (if◌then◌else◌ (nat_eq c.args.pair.symbol.0 n) (Some c.args.pair.identifier.0)) (c.in_ok-make_entry.ensures.same n)
