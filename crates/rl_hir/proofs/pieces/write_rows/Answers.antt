use Rattle.std.proofs.Common.{◌∙◌}
use Rattle.rl_hir.proofs.Rows.{rows_step, rows_step_writable}
use Rattle.rl_hir.proofs.pieces.write_rows.Goals as goal

pub items-preserved : goal.items-preserved
items-preserved g c =
    let items = c.args.items.now in
    let item = c.item-item.result in record {
      written = rows_step g.T.Pieces.pieces c.args.row items c.items.item-index item _ _ c.items-test.true c.item-item.is c.in_ok-write_row.ensures.written ∙ c.items.invariant.written;
      writable = λ rest. c.items.invariant.writable (rows_step_writable g.T.Pieces.pieces c.args.row items c.items.item-index item c.items-test.true c.item-item.is c.in_ok-write_row.ensures.writable rest);
    }
