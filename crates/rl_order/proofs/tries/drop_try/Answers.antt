use Rattle.std.proofs.Common.{◌≡◌, List, ap, position, sym, ◌∙◌}
use Rattle.std.specs.Map.{keys_of}
use Rattle.rl_base.specs.declared.ids.BlockId.{BlockId}
use Rattle.rl_hir.specs.Blocks.{HaveOwnIds, Pair, same_id}
use Rattle.rl_order.proofs.DeadTries.{change_there, keys_changed, keys_changed_at, own_by_keys, index_within, try_dropped}
use Rattle.rl_order.specs.Removals.{ended_by_goto, with_changed, without_predecessor}
use Rattle.rl_order.proofs.tries.drop_try.Goals as goal

pub returns-clause-kept : goal.returns-clause-kept
returns-clause-kept g c =
    let graph : List Pair = g.B.Blocks.pairs c.args.blocks.now in
    let after : List Pair = g.B.Blocks.pairs c.end_by_goto.new.blocks in
    let dead = c.args.dead in
    let first : after ≡ with_changed dead.id (ended_by_goto dead.block) graph =
    c.end_by_goto.ensures ∙ change_there dead.id (ended_by_goto dead.block) graph c.get_index_of.result c.requires.distinct
    (c.get_index_of.ensures.index ∙ ap (λ (k : List BlockId). position (same_id dead.id) k) c.requires.indices) in
    let keys : keys_of after ≡ keys_of graph = ap keys_of first ∙ keys_changed dead.id (ended_by_goto dead.block) graph in
    let own : HaveOwnIds after = own_by_keys graph after keys c.requires.distinct in
    let second : g.B.Blocks.pairs c.drop_predecessor.new.blocks ≡ with_changed dead.fallthrough (without_predecessor dead.handler) after =
    c.in_ok-drop_predecessor.ensures.ok ∙ change_there dead.fallthrough (without_predecessor dead.handler) after c.get_index_of-2.result own
    (c.get_index_of-2.ensures.index ∙ ap (λ (k : List BlockId). position (same_id dead.fallthrough) k) (c.requires.indices ∙ sym keys)) in
    try_dropped dead graph after (g.B.Blocks.pairs c.drop_predecessor.new.blocks) c.args.lost.now.keys c.note_lost.new.lost.keys c.has_alone-is_lost.result c.requires.distinct
    first c.has_alone-is_lost.ensures c.in_ok-note_lost.ensures second

pub drop_predecessor-requires : goal.drop_predecessor-requires
drop_predecessor-requires g c =
    let graph : List Pair = g.B.Blocks.pairs c.args.blocks.now in
    let after : List Pair = g.B.Blocks.pairs c.end_by_goto.new.blocks in
    let dead = c.args.dead in
    let first : after ≡ with_changed dead.id (ended_by_goto dead.block) graph =
    c.end_by_goto.ensures ∙ change_there dead.id (ended_by_goto dead.block) graph c.get_index_of.result c.requires.distinct
    (c.get_index_of.ensures.index ∙ ap (λ (k : List BlockId). position (same_id dead.id) k) c.requires.indices) in
    let keys : keys_of after ≡ keys_of graph = ap keys_of first ∙ keys_changed dead.id (ended_by_goto dead.block) graph in
    index_within c.args.indices.now.keys after c.get_index_of-2.result c.get_index_of-2.ensures.within (c.requires.indices ∙ sym keys)

pub returns-clause-keys : goal.returns-clause-keys
returns-clause-keys g c =
    let dead = c.args.dead in
    keys_changed_at c.get_index_of-2.result (without_predecessor dead.handler) (g.B.Blocks.pairs c.end_by_goto.new.blocks) (g.B.Blocks.pairs c.drop_predecessor.new.blocks) c.in_ok-drop_predecessor.ensures.ok
    ∙ keys_changed_at c.get_index_of.result (ended_by_goto dead.block) (g.B.Blocks.pairs c.args.blocks.now) (g.B.Blocks.pairs c.end_by_goto.new.blocks) c.end_by_goto.ensures

pub returns-in_err-note_lost-clause-keys : goal.returns-in_err-note_lost-clause-keys
returns-in_err-note_lost-clause-keys g c =
    keys_changed_at c.get_index_of.result (ended_by_goto c.args.dead.block) (g.B.Blocks.pairs c.args.blocks.now) (g.B.Blocks.pairs c.end_by_goto.new.blocks) c.end_by_goto.ensures

pub returns-in_err-drop_predecessor-clause-keys : goal.returns-in_err-drop_predecessor-clause-keys
returns-in_err-drop_predecessor-clause-keys g c =
    ap keys_of c.in_err-drop_predecessor.ensures.err
    ∙ keys_changed_at c.get_index_of.result (ended_by_goto c.args.dead.block) (g.B.Blocks.pairs c.args.blocks.now) (g.B.Blocks.pairs c.end_by_goto.new.blocks) c.end_by_goto.ensures
