use Rattle.std.proofs.Common.{ℕ, List, Option, ap, ◌∙◌}
use Rattle.rl_hir.proofs.IndexEntries.{first_entry, index_from}
use Rattle.rl_hir.proofs.dense_blocks.PairIndices.begin.Goals as goal

pub returns-clause-same : goal.returns-clause-same
returns-clause-same c =
    let self = c.args.self.now in
    λ other. ap (λ (t : List (Option ℕ)). index_from c.args.id.0 t other) c.in_ok-push.ensures.items ∙ first_entry self.first c.args.id.0 self.entries.items other c.requires
