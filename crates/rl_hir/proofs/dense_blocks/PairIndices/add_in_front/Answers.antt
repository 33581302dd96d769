use Rattle.std.proofs.Common.{rules, ◌≡◌, ◌-◌, ℕ, List, ◌++◌, replicate, Option, None, ap, ◌∙◌}
use Rattle.rl_hir.proofs.IndexEntries.{index_from, more_in_front}
use Rattle.rl_hir.proofs.dense_blocks.PairIndices.add_in_front.Goals as goal

pub returns-clause-same : goal.returns-clause-same
returns-clause-same c =
    let self = c.args.self.now in
    let more = c.args.more in
    let made : c.in_ok-entries.entries.items ≡ replicate more None = c.in_ok-entries.ensures.items_if_clones_equal (λ y h. search rules) in
    let items : c.extend_from_slice.new.self.items ≡ replicate more None ++ self.entries.items = c.in_ok-extend_from_slice.ensures.items ∙ (λ j. made j ++ c.as_slice.ensures.value j) in
    λ other. ap (λ (t : List (Option ℕ)). index_from (self.first - more) t other) items ∙ more_in_front self.first more self.entries.items other c.requires
