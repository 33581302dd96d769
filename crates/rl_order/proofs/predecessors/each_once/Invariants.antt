use Rattle.std.proofs.Common.{◌≡◌, [], drop}
use Rattle.indexmap.specs.IndexSet.{insert_all}
use Rattle.rl_hir.specs.Blocks.{same_id}
use Rattle.rl_order.proofs.predecessors.each_once.Given as goal

-- Those to come are put behind those that are there already
abbrev pub invariant-loop-id : goal.invariant-loop-id
invariant-loop-id l = insert_all same_id l.distinct.keys (drop l.id-index l.fn.ids) ≡ insert_all same_id [] l.fn.ids
