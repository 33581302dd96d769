use Rattle.std.proofs.Common.{◌≡◌, List, ap, sym, ◌∙◌, get_or, position, take}
use Rattle.std.specs.Map.{keys_of}
use Rattle.std.proofs.lemmas.List.{take_more}
use Rattle.rl_base.specs.declared.ids.BlockId.{BlockId}
use Rattle.rl_hir.specs.Blocks.{Pair, same_id}
use Rattle.rl_order.proofs.SourceLists.{one_more_source}
use Rattle.rl_order.specs.PredecessorWalk.{source_lists}
use Rattle.rl_order.specs.Walked.{with_source}
use Rattle.rl_order.specs.declared.predecessors.Edge.{Edge}
use Rattle.rl_order.proofs.predecessors.predecessor_lists.Goals as goal

pub loop-edge-preserved : goal.loop-edge-preserved
loop-edge-preserved g c =
    let graph : List Pair = g.B.Blocks.pairs c.args.blocks.now in
    let index = c.loop-edge.edge-index in
    let zero_edge : Edge = record { from = record { 0 = 0 }; to = record { 0 = 0 } } in
    let e : Edge = get_or c.args.edges.now index zero_edge in
    let found : c.get_index_of.result ≡ position (same_id e.to) (keys_of graph) = c.get_index_of.ensures.index ∙ ap (λ (k : List BlockId). position (same_id e.to) k) c.in_ok-indices.ensures.keys in
    c.in_ok-add_source.ensures
    ∙ ap (λ (l : List (List BlockId)). with_source c.get_index_of.result e.from l) c.loop-edge.invariant
    ∙ one_more_source graph e (take index c.args.edges.now) c.get_index_of.result c.index_by_id.ensures.distinct found
    ∙ ap (λ (t : List Edge). source_lists t graph) (sym (take_more c.args.edges.now index zero_edge c.loop-edge-test.true))
