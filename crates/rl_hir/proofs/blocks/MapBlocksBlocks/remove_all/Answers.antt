use Rattle.std.proofs.Common.{rules, ◌≡◌, List, ap, sym, subst, ◌∙◌}
use Rattle.indexmap.proofs.CallerLemmas.{filter-RetainsPairs}
use Rattle.rl_hir.specs.Blocks.{HaveOwnIds, Pair, kept}
use Rattle.rl_hir.proofs.KeptBlocks.{kept_own}
use Rattle.rl_hir.proofs.blocks.MapBlocksBlocks.remove_all.Goals as goal

pub invariant_of-self : goal.invariant_of-self
invariant_of-self c =
    let stay : c.retain.new.self.entries ≡ kept c.args.ids.now.keys c.self.inside.map.entries = filter-RetainsPairs _ _ _ (λ k v b w g call. search rules) _ _ c.retain.ensures.filtered in
    subst HaveOwnIds (sym stay) (kept_own c.args.ids.now.keys c.self.inside.map.entries c.self.invariant)

pub returns : goal.returns
returns c =
    let stay : c.retain.new.self.entries ≡ kept c.args.ids.now.keys c.self.inside.map.entries = filter-RetainsPairs _ _ _ (λ k v b w g call. search rules) _ _ c.retain.ensures.filtered in
    stay ∙ ap (λ (pairs : List Pair). kept c.args.ids.now.keys pairs) c.self.view_is
