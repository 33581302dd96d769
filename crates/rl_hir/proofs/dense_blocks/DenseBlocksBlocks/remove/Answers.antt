use Rattle.std.proofs.Common.{◌≡◌, List, length, Some, slice_get, refl, ap, sym, subst, ◌∙◌, arith}
use Rattle.std.proofs.lemmas.Option.{slice_get_read}
use Rattle.rl_hir.proofs.IndexEntries.{entry_of}
use Rattle.rl_hir.proofs.Indexed.{block_is, index_within, no_block, none_removed, removed_there, taken_out}
use Rattle.rl_hir.specs.Blocks.{Pair, block_at, without_block}
use Rattle.rl_hir.specs.Indexed.{IsIndexed, IsIndexedBelow}
use Rattle.rl_hir.proofs.dense_blocks.DenseBlocksBlocks.remove.Goals as goal

pub returns-in_err-index-clause-value : goal.returns-in_err-index-clause-value
returns-in_err-index-clause-value c =
    let table = c.self.inside.indices in
    let now : List Pair = c.args.self.now in
    let h : IsIndexed table now = subst (λ (l : List Pair). IsIndexed table l) c.self.view_is c.self.invariant in
    c.from_residual.ensures ∙ sym (no_block table now h c.args.id (sym c.in_err-index.ensures))

pub returns-in_err-index-clause-removed : goal.returns-in_err-index-clause-removed
returns-in_err-index-clause-removed c =
    let table = c.self.inside.indices in
    let now : List Pair = c.args.self.now in
    let h : IsIndexed table now = subst (λ (l : List Pair). IsIndexed table l) c.self.view_is c.self.invariant in
    sym (none_removed table now h c.args.id (sym c.in_err-index.ensures))

pub remove-pair-requires : goal.remove-pair-requires
remove-pair-requires c =
    let low = index_within c.self.inside.indices c.self.inside.pairs.items c.self.invariant c.in_ok-index.index c.args.id.0 (sym c.in_ok-index.ensures) in
    omega (arith, low, c.self.inside.pairs.ok.0)

pub set-requires : goal.set-requires
set-requires c = entry_of c.self.inside.indices c.args.id.0 c.in_ok-index.index (sym c.in_ok-index.ensures)

pub renumber-requires : goal.renumber-requires
renumber-requires c =
    let items = c.self.inside.pairs.items in
    subst (λ (l : List Pair). IsIndexedBelow c.set.new.self c.in_ok-index.index l) (sym (c.as_slice.ensures.value ∙ c.remove-pair.ensures.items))
    (taken_out c.self.inside.indices c.set.new.self items c.in_ok-index.index c.args.id c.self.invariant (sym c.in_ok-index.ensures) c.set.ensures.indices c.set.ensures.entries)

pub invariant_of-self : goal.invariant_of-self
invariant_of-self c = subst (λ (l : List Pair). IsIndexed c.renumber.new.self l) c.as_slice.ensures.value c.renumber.ensures

pub returns-clause-value : goal.returns-clause-value
returns-clause-value c =
    let items = c.self.inside.pairs.items in
    let e = sym c.in_ok-index.ensures in
    let low = index_within c.self.inside.indices items c.self.invariant c.in_ok-index.index c.args.id.0 e in
    let pair : slice_get items c.in_ok-index.index ≡ Some c.remove-pair.result = slice_get_read items (length items) c.in_ok-index.index c.remove-pair.result refl low c.remove-pair.ensures.value in
    sym (block_is c.self.inside.indices items c.self.invariant c.in_ok-index.index c.args.id c.remove-pair.result e pair) ∙ ap (λ (l : List Pair). block_at l c.args.id) c.self.view_is

pub returns-clause-removed : goal.returns-clause-removed
returns-clause-removed c =
    let items = c.self.inside.pairs.items in
    c.remove-pair.ensures.items ∙ sym (removed_there c.self.inside.indices items c.self.invariant c.in_ok-index.index c.args.id (sym c.in_ok-index.ensures)) ∙ ap (λ (l : List Pair). without_block l c.args.id) c.self.view_is
