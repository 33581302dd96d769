-- Syntax as plain trees: nodes with ids, spans and known words.
use Rattle.std.specs.Prelude.{◌≡◌, ℕ, ◌+◌, if◌then◌else◌, Bool, true, false, ◌&&◌, nat_le, List, [], ◌∷◌, length}
use Rattle.rl_text.specs.Notation as notation
use Rattle.rl_base.specs.declared.span.Span.{Span}
use Rattle.rl_syntax.specs.Words.{word_text, makes_scope}
use Rattle.rl_syntax.specs.declared.word.Word.{Word}
use Rattle.rl_syntax.specs.declared.word.Word.TheVariants as word
use Rattle.rl_syntax.specs.declared.numbered.At.{At}
use Rattle.rl_syntax.specs.declared.numbered.Position.{Position}
use Rattle.rl_syntax.specs.declared.numbered.Numbered.{Numbered}
use Rattle.rl_syntax.specs.declared.numbered.Numbered.TheOpen as numbered
use Rattle.rl_syntax.specs.declared.numbered.Numbered.TheFolds.{fold-Numbered}

mutual
  pub data Syntax : Type 0 where
    Node : (at : At) (word : Word) (parts : Pieces) → Syntax
    Listed : (parts : Pieces) → Syntax
    Said : (text : List ℕ) → Syntax
    Count : (number : ℕ) → Syntax
    Flag : (flag : Bool) → Syntax
    Absent : Syntax

  pub data Pieces : Type 0 where
    End : Pieces
    Then : (first : Syntax) (rest : Pieces) → Pieces

abbrev pub pieces_of : List Syntax → Pieces
pieces_of [] = End
pieces_of (piece ∷ pieces) = Then piece (pieces_of pieces)

-- A layer of `syntax`.
abbrev pub layer : numbered.Numbered-F Syntax → Syntax
layer (numbered.Node at word parts) = Node at word (pieces_of parts)
layer (numbered.List parts) = Listed (pieces_of parts)
layer (numbered.Text text) = Said text
layer (numbered.Number number) = Count number
layer (numbered.Flag flag) = Flag flag
layer numbered.Absent = Absent

-- The plain tree of a numbered tree.
unfoldable pub syntax : Numbered → Syntax
syntax = fold-Numbered Syntax layer

abbrev mutual
  -- The tree of the notation, without ids and spans.
  pub plain : Syntax → notation.Tree
  plain (Node at word parts) = notation.Node (word_text word) (plain_parts parts)
  plain (Listed parts) = notation.Listed (plain_parts parts)
  plain (Said text) = notation.Said text
  plain (Count number) = notation.Count number
  plain (Flag flag) = notation.Flag flag
  plain Absent = notation.Absent

  pub plain_parts : Pieces → notation.Parts
  plain_parts End = notation.End
  plain_parts (Then piece pieces) = notation.Then (plain piece) (plain_parts pieces)

-- The number of bytes of a tree's spelling.
abbrev pub width : Syntax → ℕ
width tree = length (notation.spelling (plain tree))

abbrev mutual
  -- The number of a tree's nodes.
  pub nodes : Syntax → ℕ
  nodes (Node at word parts) = nodes_of parts + 1
  nodes (Listed parts) = nodes_of parts
  nodes (Said text) = 0
  nodes (Count number) = 0
  nodes (Flag flag) = 0
  nodes Absent = 0

  -- As `nodes`, for parts.
  pub nodes_of : Pieces → ℕ
  nodes_of End = 0
  nodes_of (Then piece pieces) = nodes piece + nodes_of pieces

-- The span of a node; `0..0` at any other piece.
abbrev pub span_of : Syntax → Span
span_of (Node at word parts) = at.span
span_of _ = record { start = 0; end = 0 }

-- True of the word of the nodes that are references.
abbrev pub is_reference : Word → Bool
is_reference word.Id = true
is_reference _ = false

-- 1 if the word is one of those that `counted` is true of.
abbrev pub one_if : (counted : Word → Bool) → Word → ℕ
one_if counted word = if counted word then 1 else 0

abbrev mutual
  -- The number of a tree's nodes of the words that `counted` is true of.
  pub tally : (counted : Word → Bool) → Syntax → ℕ
  tally counted (Node at word parts) = tally_of counted parts + one_if counted word
  tally counted (Listed parts) = tally_of counted parts
  tally counted (Said text) = 0
  tally counted (Count number) = 0
  tally counted (Flag flag) = 0
  tally counted Absent = 0

  -- As `tally`, for parts.
  pub tally_of : (counted : Word → Bool) → Pieces → ℕ
  tally_of counted End = 0
  tally_of counted (Then piece pieces) = tally counted piece + tally_of counted pieces

-- The number of a tree's nodes that make a scope.
abbrev pub scopes : Syntax → ℕ
scopes tree = tally makes_scope tree

-- The number of a tree's nodes that are references.
abbrev pub references : Syntax → ℕ
references tree = tally is_reference tree

-- The position before a unit's text.
abbrev pub outset : Position
outset = record { byte = 0; node = 0; scope = 0; reference = 0 }

-- The position one byte further, if no node opens in between.
abbrev pub next_byte : (from : Position) → Position
next_byte from = record { byte = from.byte + 1; node = from.node; scope = from.scope; reference = from.reference }

-- The position behind `(` and the word of a node that opens at `from`.
abbrev pub inside : (from : Position) → Word → Position
inside from word = record { byte = from.byte + 1 + length (word_text word); node = from.node + 1; scope = from.scope + one_if makes_scope word; reference = from.reference + one_if is_reference word }

-- The position behind a tree that begins at `from`.
abbrev pub behind : (from : Position) → Syntax → Position
behind from tree = record { byte = from.byte + width tree; node = from.node + nodes tree; scope = from.scope + scopes tree; reference = from.reference + references tree }

-- A node that opens at the position `from` and closes before the position `next` has these ids and this span.
pub record StandsAt (at : At) (from next : Position) : Type 0 where
  pub number : at.id.0 ≡ from.node
  pub last : at.end.0 ≡ next.node
  pub scope : at.scope.0 ≡ from.scope
  pub reference : at.reference.0 ≡ from.reference
  pub start : at.span.start ≡ from.byte
  pub end : at.span.end ≡ next.byte

-- A node or a text: the trees that stand in lists.
abbrev pub is_item : Syntax → Bool
is_item (Node at word parts) = true
is_item (Said text) = true
is_item _ = false

-- The number of parts in a row.
abbrev pub part_count : Pieces → ℕ
part_count End = 0
part_count (Then piece pieces) = part_count pieces + 1

-- At most 8 parts.
abbrev pub are_few : Pieces → Bool
are_few pieces = nat_le (part_count pieces) 8

abbrev mutual
  -- Every list in the tree holds nodes and texts alone, and every node has at most 8 parts.
  pub is_shaped : Syntax → Bool
  is_shaped (Node at word parts) = are_few parts && are_shaped parts
  is_shaped (Listed parts) = are_items parts
  is_shaped (Said text) = true
  is_shaped (Count number) = true
  is_shaped (Flag flag) = true
  is_shaped Absent = true

  -- As `is_shaped`, for the parts of a node.
  pub are_shaped : Pieces → Bool
  are_shaped End = true
  are_shaped (Then piece pieces) = is_shaped piece && are_shaped pieces

  -- As `is_shaped`, for the parts of a list.
  pub are_items : Pieces → Bool
  are_items End = true
  are_items (Then piece pieces) = is_item piece && is_shaped piece && are_items pieces

abbrev mutual
  -- Each node of the tree has its ids and its span, if the tree begins at the position `from`.
  pub IsPlaced : (from : Position) → Syntax → Type 0
  IsPlaced from (Node at word parts) = StandsAt at from (behind from (Node at word parts)) × ArePlaced (inside from word) parts
  IsPlaced from (Listed parts) = ArePlaced from parts
  IsPlaced from (Said text) = Unit {0}
  IsPlaced from (Count number) = Unit {0}
  IsPlaced from (Flag flag) = Unit {0}
  IsPlaced from Absent = Unit {0}

  -- As `IsPlaced`, for parts that stand from the position `from` on, each behind one byte.
  pub ArePlaced : (from : Position) → Pieces → Type 0
  ArePlaced from End = Unit {0}
  ArePlaced from (Then piece pieces) = IsPlaced (next_byte from) piece × ArePlaced (behind (next_byte from) piece) pieces
