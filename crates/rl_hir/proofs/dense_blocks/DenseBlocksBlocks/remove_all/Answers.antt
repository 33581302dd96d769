use Rattle.std.proofs.Common.{rules, ◌≡◌, List, ap, sym, subst, ◌∙◌}
use Rattle.std.proofs.lemmas.Fn.{filter_same}
use Rattle.rl_hir.proofs.Indexed.{kept_start}
use Rattle.rl_hir.specs.Blocks.{Pair, kept}
use Rattle.rl_hir.specs.Indexed.{IsIndexed, IsIndexedBelow}
use Rattle.rl_hir.proofs.dense_blocks.DenseBlocksBlocks.remove_all.Goals as goal

pub renumber-requires : goal.renumber-requires
renumber-requires c =
    let stay : c.retain.new.self.items ≡ kept c.args.ids.now.keys c.self.inside.pairs.items = filter_same _ _ _ (λ p b g call. search rules) _ _ c.retain.ensures.filtered in
    subst (λ (l : List Pair). IsIndexedBelow c.clear.new.self 0 l) (sym (c.as_slice.ensures.value ∙ stay))
    (kept_start c.self.inside.indices c.clear.new.self c.args.ids.now.keys c.self.inside.pairs.items c.self.invariant c.clear.ensures.indices c.clear.ensures.entries)

pub invariant_of-self : goal.invariant_of-self
invariant_of-self c = subst (λ (l : List Pair). IsIndexed c.renumber.new.self l) c.as_slice.ensures.value c.renumber.ensures

pub returns : goal.returns
returns c =
    let stay : c.retain.new.self.items ≡ kept c.args.ids.now.keys c.self.inside.pairs.items = filter_same _ _ _ (λ p b g call. search rules) _ _ c.retain.ensures.filtered in
    stay ∙ ap (λ (l : List Pair). kept c.args.ids.now.keys l) c.self.view_is
