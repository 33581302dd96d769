-- Lists of ids without repetition.
use Rattle.std.specs.Prelude.{◌≡◌, false, List, [], ◌∷◌}
use Rattle.std.specs.List.{list_any}
use Rattle.rl_base.specs.declared.ids.BlockId.{BlockId}
use Rattle.rl_hir.specs.Blocks.{same_id}

-- No id stands twice.
abbrev pub AreOwn : List BlockId → Type 0
AreOwn [] = Unit {0}
AreOwn (id ∷ ids) = (list_any (same_id id) ids ≡ false) × AreOwn ids
