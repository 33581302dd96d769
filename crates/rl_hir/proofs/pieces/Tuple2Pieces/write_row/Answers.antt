use Rattle.rl_hir.proofs.Rows.{row_listed}
use Rattle.rl_hir.proofs.pieces.Tuple2Pieces.write_row.Goals as goal

pub returns : goal.returns
returns g c = row_listed c.args.row (g.A.Pieces.pieces c.args.self.now.0) (g.B.Pieces.pieces c.args.self.now.1) _ _ _ c.in_ok-write_row.ensures c.in_ok-write_row-2.ensures
