use Rattle.std.proofs.Common.{◌+◌, ◌-◌, ◌≤◌, ℕ, List, Option, length, vec_len, ap, ◌∙◌, arith}
use Rattle.rl_hir.proofs.IndexEntries.{index_from, resized}
use Rattle.rl_hir.proofs.dense_blocks.PairIndices.make_room_behind.Goals as goal

pub returns-clause-same : goal.returns-clause-same
returns-clause-same c =
    let self = c.args.self.now in
    let wanted = c.args.id.0 - self.first + 1 in
    let few : length self.entries.items ≤ wanted = omega (arith, self.entries.ok.0) in
    λ other. ap (λ (t : List (Option ℕ)). index_from self.first t other) c.in_ok-resize.ensures.items ∙ resized self.first wanted (vec_len self.entries) self.entries.items other few
