-- Symbols by the nodes of their first declarations.
use Rattle.std.specs.Prelude.{◌≡◌, ℕ, zero, suc, ◌+◌, nat_le, nat_lt, ◌&&◌, ◌||◌, Some, slice_get, List, [], ◌∷◌, ◌++◌}
use Rattle.rl_bindings.specs.declared.event.Bound.{Bound}
use Rattle.rl_markers.specs.declared.node_symbols.NodeSymbols.{NodeSymbols}
use Rattle.rl_model.specs.Code.{contains}
use Rattle.rl_semantic.specs.Buckets.{AreBuckets, bucket}

-- The pairs of a node and a symbol, if `number` is that of the first of the symbols.
abbrev pub pairs_from : (number : ℕ) → List Bound → List (ℕ × ℕ)
pairs_from number [] = []
pairs_from number (b ∷ bs) = (b.node.0, number) ∷ pairs_from (number + 1) bs

-- The table is that of the symbols.
pub record AreOf (table : NodeSymbols) (symbols : List Bound) : Type 0 where
  pub buckets : AreBuckets table.table 4294967296 (pairs_from 0 symbols)

-- The symbols at `count` nodes from `start` on.
abbrev pub between : NodeSymbols → (start count : ℕ) → List ℕ
between table start zero = []
between table start (suc count) = bucket table.table start ++ between table (start + 1) count

-- The numbers of `new` are those of `old`, and the symbols whose first declarations are nodes from `start` to before `end`.
pub record AddsBetween (table : NodeSymbols) (old new : List ℕ) (start end : ℕ) : Type 0 where
  pub adds : (symbols : List Bound) → AreOf table symbols → (symbol : ℕ) (first : Bound) → slice_get symbols symbol ≡ Some first
      → contains new symbol ≡ (contains old symbol || (nat_le start first.node.0 && nat_lt first.node.0 end))
