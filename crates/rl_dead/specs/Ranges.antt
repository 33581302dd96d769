-- Ranges of ids that stand for parts of a function.
use Rattle.std.specs.Prelude.{◌≡◌, ℕ, nat_le, Bool, ◌&&◌, ◌||◌, not, List}
use Rattle.std.specs.List.{list_any}
use Rattle.rl_dead.specs.declared.ranges.Range.{Range}
use Rattle.rl_model.specs.Supported.{is_among}
use Rattle.rl_syntax.specs.Syntax.{Syntax}

abbrev pub holds : (node : ℕ) → Range → Bool
holds node range = nat_le range.start node && not (nat_le range.end node)

-- True of a node in one of the ranges.
abbrev pub is_covered : List Range → (node : ℕ) → Bool
is_covered ranges node = list_any (holds node) ranges

-- The ranges `new` cover what `old` do, and the nodes in the parts.
pub record Adds (old new : List Range) (parts : List Syntax) : Type 0 where
  pub covers : (node : ℕ) → is_covered new node ≡ (is_covered old node || list_any (is_among node) parts)
