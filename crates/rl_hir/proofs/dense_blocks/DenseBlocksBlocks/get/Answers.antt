use Rattle.std.proofs.Common.{◌≡◌, List, length, Some, slice_get, refl, ap, sym, subst, ◌∙◌, arith}
use Rattle.std.proofs.lemmas.Option.{slice_get_read}
use Rattle.rl_hir.proofs.Indexed.{block_is, index_within, no_block}
use Rattle.rl_hir.specs.Blocks.{Pair, block_at}
use Rattle.rl_hir.specs.Indexed.{IsIndexed}
use Rattle.rl_hir.proofs.dense_blocks.DenseBlocksBlocks.get.Goals as goal

pub returns-in_err-index : goal.returns-in_err-index
returns-in_err-index c =
    let table = c.self.inside.indices in
    let now : List Pair = c.args.self.now in
    let h : IsIndexed table now = subst (λ (l : List Pair). IsIndexed table l) c.self.view_is c.self.invariant in
    rw c.from_residual.ensures (sym (no_block table now h c.args.id (sym c.in_err-index.ensures)))

pub index-requires : goal.index-requires
index-requires c =
    let low = index_within c.self.inside.indices c.self.inside.pairs.items c.self.invariant c.in_ok-index.index c.args.id.0 (sym c.in_ok-index.ensures) in
    omega (arith, low, c.self.inside.pairs.ok.0)

pub returns : goal.returns
returns c =
    let items = c.self.inside.pairs.items in
    let e = sym c.in_ok-index.ensures in
    let low = index_within c.self.inside.indices items c.self.invariant c.in_ok-index.index c.args.id.0 e in
    let pair : slice_get items c.in_ok-index.index ≡ Some c.index.result.now = slice_get_read items (length items) c.in_ok-index.index c.index.result.now refl low c.index.ensures in
    sym (block_is c.self.inside.indices items c.self.invariant c.in_ok-index.index c.args.id c.index.result.now e pair) ∙ ap (λ (l : List Pair). block_at l c.args.id) c.self.view_is
