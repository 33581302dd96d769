-- Tests of a block that may be missing.
use Rattle.std.specs.Prelude.{Bool, false, Option, Some, None}
use Rattle.rl_base.specs.declared.ids.BlockId.{BlockId}
use Rattle.rl_hir.specs.declared.function.BasicBlock.{BasicBlock}
use Rattle.rl_order.specs.Removals.{is_alone}

-- True of a block that is there and has this one predecessor.
abbrev pub has_alone : Option BasicBlock → BlockId → Bool
has_alone None only = false
has_alone (Some block) only = is_alone only block.preds
