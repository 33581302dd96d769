use Rattle.std.proofs.Common.{◌≡◌, List, [], reverse, subst, sym, arith}
use Rattle.rl_order.specs.declared.predecessors.Edge.{Edge}
use Rattle.rl_order.specs.PredecessorWalk.{Follows, Ends, Trail}
use Rattle.rl_order.specs.Walked.{trail_of}
use Rattle.rl_order.proofs.Follows.{empty_list}
use Rattle.rl_order.proofs.predecessors.walk_along.Goals as goal

pub returns : goal.returns
returns g c =
    let walk = c.loop-edge.walk in
    let none : walk.left.items ≡ [] = empty_list walk.left.items (omega (arith, c.in_default-pop.ensures.cases.0)) in
    let end : Trail = trail_of walk in
    record {
      seen = walk.seen.keys;
      walk =
          c.loop-edge.invariant.goes end
          (subst (λ (t : List Edge). Follows (g.B.Blocks.pairs c.args.blocks.now) (reverse t) end end) (sym none) (Ends end));
    }
