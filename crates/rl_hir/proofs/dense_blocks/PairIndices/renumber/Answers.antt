use Rattle.std.proofs.Common.{◌≡◌, ◌≤◌, length, Some, slice_get, refl, arith}
use Rattle.std.proofs.lemmas.Option.{slice_get_read}
use Rattle.rl_hir.proofs.Indexed.{all_below, id_at, one_more}
use Rattle.rl_hir.proofs.dense_blocks.PairIndices.renumber.Goals as goal

pub set-requires : goal.set-requires
set-requires c =
    let pairs = c.args.pairs.now in
    let pair = c.index-pairs-index.result in
    let at : slice_get pairs c.loop-index.index ≡ Some pair = slice_get_read pairs (length pairs) c.loop-index.index pair refl (omega arith) c.index-pairs-index.is in
    c.loop-index.invariant.entries c.loop-index.index pair.0.0 (id_at pairs c.loop-index.index pair at)

pub loop-index-preserved : goal.loop-index-preserved
loop-index-preserved c =
    let pairs = c.args.pairs.now in
    let pair = c.index-pairs-index.result in
    let at : slice_get pairs c.loop-index.index ≡ Some pair = slice_get_read pairs (length pairs) c.loop-index.index pair refl (omega arith) c.index-pairs-index.is in
    one_more c.loop-index.self c.set.new.self pairs c.loop-index.index pair.0.0 c.loop-index.invariant (id_at pairs c.loop-index.index pair at) c.set.ensures.indices c.set.ensures.entries

pub returns : goal.returns
returns c =
    let past : length c.args.pairs.now ≤ c.loop-index.index = omega arith in
    all_below c.loop-index.self c.args.pairs.now c.loop-index.index past c.loop-index.invariant
