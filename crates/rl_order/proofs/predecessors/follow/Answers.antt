use Rattle.std.proofs.Common.{◌≡◌, ◌∙◌, None, reverse, sym}
use Rattle.std.specs.List.{list_any}
use Rattle.rl_hir.specs.Blocks.{block_at, same_id}
use Rattle.rl_order.proofs.Follows.{meets, misses, not_false, not_true, visits, visit_falls}
use Rattle.rl_order.proofs.predecessors.follow.Goals as goal

pub returns-in_ok-leave_edges-clause-goes : goal.returns-in_ok-leave_edges-clause-goes
returns-in_ok-leave_edges-clause-goes g c =
    let walk = c.args.walk.now in
    visits (g.B.Blocks.pairs c.args.blocks.now) c.args.edge (reverse walk.left.items) walk.seen.keys walk.edges.items c.in-Some.block.now (sym c.in-Some.ensures)
    c.push.new.self.items c.in_ok-push.ensures.items c.insert.new.self.keys (reverse c.leave_edges.new.left.items)
    (not_true (list_any (same_id c.args.edge.to) walk.seen.keys) (sym c.if-branch.true ∙ c.in_ok-insert.ensures.added)) c.in_ok-insert.ensures.keys c.in_ok-leave_edges.ensures

pub returns-in_ok-leave_edges-clause-falls : goal.returns-in_ok-leave_edges-clause-falls
returns-in_ok-leave_edges-clause-falls g c =
    let walk = c.args.walk.now in
    visit_falls (g.B.Blocks.pairs c.args.blocks.now) walk.seen.keys c.insert.new.self.keys c.args.edge.to c.in-Some.block.now walk.left.items c.leave_edges.new.left.items (sym c.in-Some.ensures)
    (not_true (list_any (same_id c.args.edge.to) walk.seen.keys) (sym c.if-branch.true ∙ c.in_ok-insert.ensures.added)) c.in_ok-insert.ensures.keys c.in_ok-leave_edges.ensures

pub returns-else-branch-clause-goes : goal.returns-else-branch-clause-goes
returns-else-branch-clause-goes g c =
    let walk = c.args.walk.now in
    meets (g.B.Blocks.pairs c.args.blocks.now) c.args.edge (reverse walk.left.items) walk.seen.keys walk.edges.items c.in-Some.block.now (sym c.in-Some.ensures)
    c.push.new.self.items c.in_ok-push.ensures.items c.insert.new.self.keys
    (not_false (list_any (same_id c.args.edge.to) walk.seen.keys) (sym c.if-branch.false ∙ c.in_ok-insert.ensures.added)) c.in_ok-insert.ensures.keys

pub returns-in_default-clause-goes : goal.returns-in_default-clause-goes
returns-in_default-clause-goes g c =
    let walk = c.args.walk.now in
    let gone : block_at (g.B.Blocks.pairs c.args.blocks.now) c.args.edge.to ≡ None = sym c.in_default.ensures in
    misses (g.B.Blocks.pairs c.args.blocks.now) c.args.edge (reverse walk.left.items) walk.seen.keys walk.edges.items gone
