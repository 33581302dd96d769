use Rattle.std.proofs.Common.{◌≡◌, ◌+◌, reverse}
use Rattle.rl_order.proofs.Forwards.{ends_forward, if_ok}
use Rattle.rl_order.proofs.Ordering.{walked_good}
use Rattle.rl_order.proofs.KeepsReached.{ends_reached}
use Rattle.rl_order.proofs.order.get_reverse_postordered_blocks.Goals as goal
use Rattle.rl_order.specs.Forward.{GoesForward}
use Rattle.rl_order.specs.Walk.{IsOrdered, KeepsReached, expansions, kept}

pub keep_blocks-requires : goal.keep_blocks-requires
keep_blocks-requires g c =
    (walked_good (g.B.Blocks.pairs c.args.hir.now.blocks) c.args.hir.now.entry c.in_ok-walked.walked c.in_ok-walked.ensures.walk).own

pub returns-clause-forward : goal.returns-clause-forward
returns-clause-forward g c =
    if_ok c.keep_blocks.result
    (λ ordered. g.B.Blocks.pairs ordered ≡ kept (g.B.Blocks.pairs c.args.hir.now.blocks) c.in_ok-walked.walked
    (reverse c.in_ok-walked.walked.appended))
    (λ ordered. GoesForward (g.B.Blocks.pairs c.args.hir.now.blocks) (g.B.Blocks.pairs ordered))
    (λ ordered. ends_forward (g.B.Blocks.pairs c.args.hir.now.blocks) c.args.hir.now.entry c.in_ok-walked.walked
    (g.B.Blocks.pairs ordered) c.in_ok-walked.ensures.walk)
    c.keep_blocks.ensures

pub returns-clause-reached : goal.returns-clause-reached
returns-clause-reached g c =
    if_ok c.keep_blocks.result
    (λ ordered. g.B.Blocks.pairs ordered ≡ kept (g.B.Blocks.pairs c.args.hir.now.blocks) c.in_ok-walked.walked
    (reverse c.in_ok-walked.walked.appended))
    (λ ordered. KeepsReached (g.B.Blocks.pairs c.args.hir.now.blocks) c.args.hir.now.entry (g.B.Blocks.pairs ordered))
    (λ ordered. ends_reached (g.B.Blocks.pairs c.args.hir.now.blocks) c.args.hir.now.entry c.in_ok-walked.walked
    (g.B.Blocks.pairs ordered) c.in_ok-walked.ensures.walk)
    c.keep_blocks.ensures

pub returns-clause-steps : goal.returns-clause-steps
returns-clause-steps g c =
    let along = c.in_ok-walked.ensures.steps in
    if_ok c.keep_blocks.result
    (λ ordered. g.B.Blocks.pairs ordered ≡ kept (g.B.Blocks.pairs c.args.hir.now.blocks) c.in_ok-walked.walked
    (reverse c.in_ok-walked.walked.appended))
    (λ ordered. (order : IsOrdered (g.B.Blocks.pairs c.args.hir.now.blocks) c.args.hir.now.entry (g.B.Blocks.pairs ordered))
    × (c.walk.new.steps ≡ c.args.steps.now + expansions order.walk))
    (λ ordered is. (record { end = c.in_ok-walked.walked; walk = along.0; blocks = is }, along.1))
    c.keep_blocks.ensures
