use Rattle.std.proofs.Common.{◌≡◌, ◌<◌, List, length, Some, slice_get, refl, ap, sym, subst, ◌∙◌, arith}
use Rattle.std.proofs.lemmas.Option.{slice_get_read}
use Rattle.std.specs.Map.{values_of}
use Rattle.rl_hir.proofs.Indexed.{exchanged, pair_set, value_at}
use Rattle.rl_hir.specs.Blocks.{Pair, with_block_at}
use Rattle.rl_hir.specs.Indexed.{IsIndexed}
use Rattle.rl_hir.specs.declared.function.BasicBlock.{BasicBlock}
use Rattle.rl_hir.proofs.dense_blocks.DenseBlocksBlocks.set_at.Goals as goal

pub invariant_of-self : goal.invariant_of-self
invariant_of-self c =
    let items = c.self.inside.pairs.items in
    let low : c.args.index < length items = omega (arith, c.requires, ap length c.self.view_is) in
    let pair : slice_get items c.args.index ≡ Some c.index_mut.result.now = slice_get_read items (length items) c.args.index c.index_mut.result.now refl low c.index_mut.ensures.value in
    subst (λ (l : List Pair). IsIndexed c.self.inside.indices l) (sym (pair_set items c.args.index c.index_mut.result.now c.replace.new.dest pair))
    (exchanged c.self.inside.indices items c.self.invariant c.args.index c.replace.new.dest)

pub returns-clause-old : goal.returns-clause-old
returns-clause-old c =
    let items = c.self.inside.pairs.items in
    let low : c.args.index < length items = omega (arith, c.requires, ap length c.self.view_is) in
    let pair : slice_get items c.args.index ≡ Some c.index_mut.result.now = slice_get_read items (length items) c.args.index c.index_mut.result.now refl low c.index_mut.ensures.value in
    ap (λ (l : List Pair). slice_get (values_of l) c.args.index) (sym c.self.view_is) ∙ value_at items c.args.index c.index_mut.result.now pair ∙ ap (λ (b : BasicBlock). Some b) (sym c.replace.ensures.value)

pub returns-clause-new : goal.returns-clause-new
returns-clause-new c =
    let items = c.self.inside.pairs.items in
    let low : c.args.index < length items = omega (arith, c.requires, ap length c.self.view_is) in
    let pair : slice_get items c.args.index ≡ Some c.index_mut.result.now = slice_get_read items (length items) c.args.index c.index_mut.result.now refl low c.index_mut.ensures.value in
    pair_set items c.args.index c.index_mut.result.now c.replace.new.dest pair ∙ (λ j. with_block_at (c.self.view_is j) c.args.index (c.replace.ensures.after j))
