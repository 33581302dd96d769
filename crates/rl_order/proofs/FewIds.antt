-- Ids that are too few for one to be there twice.
use Rattle.std.proofs.Common.{◌≡◌, ◌<◌, List, [], ◌∷◌, length, refl, arith}
use Rattle.indexmap.specs.IndexSet.{insert_all}
use Rattle.rl_base.specs.declared.ids.BlockId.{BlockId}
use Rattle.rl_hir.specs.Blocks.{same_id}

pub one_once : (ids : List BlockId) → length ids < 2 → insert_all same_id [] ids ≡ ids
one_once [] few = refl
one_once (id ∷ []) few = refl
one_once (id ∷ next ∷ ids) few = absurd (omega arith)
