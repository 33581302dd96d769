use Rattle.std.proofs.Common.{arith}
use Rattle.indexmap.proofs.MapLemmas.{OnOk-map}
use Rattle.rl_hir.proofs.dense_blocks.PairIndices.make_room_in_front.Goals as goal

pub returns-then-wanted-entries-clause-room : goal.returns-then-wanted-entries-clause-room
returns-then-wanted-entries-clause-room c =
    OnOk-map c.add_in_front.result _ _ (λ h. h c.args.id.0 (omega arith) (omega arith)) c.add_in_front.ensures.room

pub returns-clause-room : goal.returns-clause-room
returns-clause-room c =
    OnOk-map c.add_in_front-2.result _ _ (λ h. h c.args.id.0 (omega arith) (omega arith)) c.add_in_front-2.ensures.room
