use Rattle.std.proofs.Common.{◌≡◌, ◌+◌, List, ◌∷◌, drop, slice_index_or, add-one, ap, sym, subst, ◌∙◌}
use Rattle.std.proofs.Math.ListN.{drop_of_length-le}
use Rattle.std.proofs.Math.Seq.{drop-cons}
use Rattle.rl_base.specs.declared.ids.BlockId.{BlockId}
use Rattle.rl_hir.specs.Blocks.{HaveOwnIds, Pair, kept}
use Rattle.rl_hir.proofs.KeptBlocks.{first_out, kept_all}
use Rattle.rl_hir.proofs.OwnIds.{removed}
use Rattle.rl_hir.proofs.blocks.Blocks.remove_all.Goals as goal

pub loop-id-init : goal.loop-id-init
loop-id-init g c =
    record {
      left = ap (λ (l : List BlockId). kept l (g.Self.Blocks.pairs c.args.self.now)) c.as_slice-id-items.ensures.keys;
      own = c.len.ensures.distinct;
    }

pub loop-id-preserved : goal.loop-id-preserved
loop-id-preserved g c =
    let items = c.as_slice-id-items.result.now in
    let i = c.loop-id.id-index in
    let now : List Pair = g.Self.Blocks.pairs c.loop-id.self in
    let id : BlockId = slice_index_or items i (record { 0 = 0 }) in
    let rest = drop (i + 1) items in
    let step : drop i items ≡ id ∷ rest = rw add-one (drop-cons items i (record { 0 = 0 }) c.loop-id-test.true) in
    record {
      left = ap (kept rest) c.remove.ensures.removed ∙ first_out rest id now c.loop-id.invariant.own ∙ sym (ap (λ (l : List BlockId). kept l now) step) ∙ c.loop-id.invariant.left;
      own = subst HaveOwnIds (sym c.remove.ensures.removed) (removed now id c.loop-id.invariant.own);
    }

pub returns : goal.returns
returns g c =
    let now : List Pair = g.Self.Blocks.pairs c.loop-id.self in
    sym (kept_all now) ∙ sym (ap (λ (l : List BlockId). kept l now) (drop_of_length-le c.as_slice-id-items.result.now c.loop-id-test.false)) ∙ c.loop-id.invariant.left
