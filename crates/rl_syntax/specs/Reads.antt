-- Reading of syntax at a position.
use Rattle.std.specs.Prelude.{◌≡◌, ℕ, ◌≤◌, ◌<◌, Bool, true, false, ◌==◌, nat_le, List, ◌++◌, length, drop, map}
use Rattle.rl_text.specs.Places.{Begins, GoesOn}
use Rattle.rl_syntax.specs.Syntax.{Syntax, Pieces, End, Then, pieces_of, syntax, plain, plain_parts, part_count, is_item, is_shaped, are_shaped, are_items, next_byte, behind, IsPlaced, ArePlaced}
use Rattle.rl_syntax.specs.declared.numbered.Numbered.{Numbered}
use Rattle.rl_syntax.specs.declared.numbered.Position.{Position}

-- At most as many nodes as bytes stand before the position, and at most as many scopes and references as nodes.
abbrev pub IsLow : Position → Type 0
IsLow at = (at.node ≤ at.byte) × (at.scope ≤ at.node) × (at.reference ≤ at.node)

-- The shaped `tree` stands in `bytes` from the position `from` to before the position `next`, with at most `depth` nodes and
-- lists open at once.
pub record IsRead (depth : ℕ) (from : Position) (bytes : List ℕ) (tree : Syntax) (next : Position) : Type 0 where
  pub forward : from.byte < next.byte
  pub within : next.byte ≤ length bytes
  pub begins : Begins depth (plain tree) (drop from.byte bytes) (drop next.byte bytes)
  pub shaped : is_shaped tree ≡ true
  pub placed : IsPlaced from tree
  pub passed : next ≡ behind from tree
  pub low : IsLow next

-- No shaped tree with at most `depth` nodes and lists open at once begins the bytes.
abbrev pub NoneIsRead : (depth : ℕ) → List ℕ → Type 0
NoneIsRead depth bytes = (tree : Syntax) (rest : List ℕ) → is_shaped tree ≡ true → Begins depth (plain tree) bytes rest → ⊥

-- The tree may be a part of a list, if `listed`, or else of a node.
abbrev pub may_stand : (listed : Bool) → Syntax → Bool
may_stand true tree = is_item tree
may_stand false tree = true

-- A list, if `listed`, or else a node, may have `count` parts.
abbrev pub may_hold : (listed : Bool) (count : ℕ) → Bool
may_hold true count = true
may_hold false count = nat_le count 8

-- Each of the pieces may be a part of a list, if `listed`, or else of a node.
abbrev pub are_parts : (listed : Bool) → Pieces → Bool
are_parts true pieces = are_items pieces
are_parts false pieces = are_shaped pieces

-- The position behind parts that stand from the position `from` on, each behind one byte.
abbrev pub behind_all : (from : Position) → Pieces → Position
behind_all from End = from
behind_all from (Then piece pieces) = behind_all (behind (next_byte from) piece) pieces

-- `new` is `old` followed by the parts that `bytes` spell from the position `from` to before the position `next`, each behind a
-- space, up to the bracket `close`, which is the last byte of them.
pub record AddsRead (close depth : ℕ) (from : Position) (bytes : List ℕ) (old new : List Numbered) (next : Position) : Type 0 where
  pub more : List Numbered
  pub added : new ≡ old ++ more
  pub forward : from.byte < next.byte
  pub within : next.byte ≤ length bytes
  pub there : GoesOn close depth (plain_parts (pieces_of (map syntax more))) (drop from.byte bytes) (drop next.byte bytes)
  pub few : may_hold (close == 93) (part_count (pieces_of (map syntax more))) ≡ true
  pub shaped : are_parts (close == 93) (pieces_of (map syntax more)) ≡ true
  pub placed : ArePlaced from (pieces_of (map syntax more))
  pub passed : next ≡ next_byte (behind_all from (pieces_of (map syntax more)))
  pub low : IsLow next

-- No parts with at most `depth` nodes and lists open at once, each behind a space, up to the bracket `close`, begin the bytes.
abbrev pub NoneAdds : (close depth : ℕ) → List ℕ → Type 0
NoneAdds close depth bytes = (pieces : Pieces) (rest : List ℕ) → may_hold (close == 93) (part_count pieces) ≡ true → are_parts (close == 93) pieces ≡ true → GoesOn close depth (plain_parts pieces) bytes rest → ⊥
