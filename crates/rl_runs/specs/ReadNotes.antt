-- Notes that runs may read, and those of terminals that `build` may replace.
use Rattle.std.specs.Prelude.{◌≡◌, ℕ, ◌<◌, ◌≤◌, ◌⊎◌, true, Some, List, [], ◌∷◌}
use Rattle.std.specs.List.{list_any}
use Rattle.rl_base.specs.declared.ids.BlockId.{BlockId}
use Rattle.rl_builder.specs.Builder.{State}
use Rattle.rl_hir.specs.Blocks.{Pair as BlockPair, same_id}
use Rattle.rl_hir.specs.declared.terminal.TerminalKind.{TerminalKind}
use Rattle.rl_hir.specs.declared.terminal.TerminalKind.TheVariants as kinds
use Rattle.rl_runs.specs.Blocks.{IsOneOf, IsTarget}

-- The block whose note is read behind the terminal's block.
abbrev pub reads_of : TerminalKind → List BlockId
reads_of (kinds.Branch test consequent alternate fallthrough) = fallthrough ∷ []
reads_of (kinds.MaybeThrow continuation (Some handler)) = handler ∷ []
reads_of _ = []

-- The block behind the construct, if `build` may replace the terminal.
abbrev pub replaced_of : TerminalKind → List BlockId
replaced_of (kinds.DoWhile body test fallthrough) = fallthrough ∷ []
replaced_of (kinds.Try block binding handler fallthrough) = fallthrough ∷ []
replaced_of _ = []

abbrev pub HasId : List BlockId → ℕ → Type 0
HasId ids id = list_any (same_id (record { 0 = id })) ids ≡ true

-- A complete block's terminal marks the block `id`.
pub record MarkedAt (of : TerminalKind → List BlockId) (completed : List BlockPair) (id : ℕ) : Type 0 where
  pub block : BlockPair
  pub one : IsOneOf completed block
  pub marks : HasId (of block.1.terminal.kind) id

abbrev pub IsHandler : State → ℕ → Type 0
IsHandler s id = IsTarget s.handlers [] id

-- Replaced terminals stand before blocks alone that were numbered since.
abbrev pub ReplacesSince : State → State → Type 0
ReplacesSince old new =
    (id : ℕ) → MarkedAt replaced_of new.completed id
    → MarkedAt replaced_of old.completed id ⊎ ((old.env.next_block ≤ id) × (id < new.env.next_block))

-- Notes are read alone of blocks that were numbered since, and of open handlers.
abbrev pub ReadsSince : State → State → Type 0
ReadsSince old new =
    (id : ℕ) → MarkedAt reads_of new.completed id
    → MarkedAt reads_of old.completed id ⊎ ((old.env.next_block ≤ id) × (id < new.env.next_block)) ⊎ IsHandler old id

-- No note is read of a block behind a construct whose terminal may be replaced.
abbrev pub Unread : State → Type 0
Unread s = (id : ℕ) → MarkedAt replaced_of s.completed id → MarkedAt reads_of s.completed id → ⊥

-- The blocks and the handlers are below the counter, and no handler stands behind such a construct.
pub record KnowsReads (s : State) : Type 0 where
  pub replaced : (id : ℕ) → MarkedAt replaced_of s.completed id → id < s.env.next_block
  pub read : (id : ℕ) → MarkedAt reads_of s.completed id → id < s.env.next_block
  pub handlers : (id : ℕ) → IsHandler s id → id < s.env.next_block
  pub apart : (id : ℕ) → IsHandler s id → MarkedAt replaced_of s.completed id → ⊥

-- Parts keep that no such note is read.
pub record KeepsUnread (old new : State) : Type 0 where
  pub replaces : ReplacesSince old new
  pub reads : ReadsSince old new
  pub unread : KnowsReads old → Unread old → Unread new
