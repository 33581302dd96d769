-- The numbers of blocks, types, identifiers and instructions that the items of patterns add, together. A part that is left for behind the
-- instruction leaves room for its temporary.
use Rattle.std.proofs.Common.{◌≡◌, ℕ, ◌+◌, ◌*◌, ◌≤◌, Bool, true, false, true≢false, List, Option, Some, None, refl, sym, arith}
use Rattle.std.proofs.Common.{length}
use Rattle.rl_lowered.proofs.Catches.{size_promoted}
use Rattle.rl_lowered.proofs.Common.{End, Names, Node, Piece, Pieces, Span, State, SymbolId, Syntax, Then}
use Rattle.rl_lowered.proofs.LookSizes.{found_size}
use Rattle.rl_lowered.proofs.Redeclared.{size_redeclared}
use Rattle.rl_lowered.specs.Forms.{BoundProperty, Element, IsItem, Shorthand, ShorthandDefault, TakenProperty}
use Rattle.rl_lowered.specs.Items.{BoundItems, Later, LoweredAhead, TakenItems, fraction_met, key_met, met}
use Rattle.rl_lowered.specs.Items as items
use Rattle.rl_lowered.specs.Named.{found}
use Rattle.rl_lowered.specs.Promised.{nodes_left}
use Rattle.rl_promises.specs.Patterns.{fraction_in, is_lost_item, target_under}
use Rattle.rl_runs.specs.Blocks.{size_of}
use Rattle.rl_syntax.specs.Syntax.{nodes, nodes_of, span_of}

-- The number of parts in a row.
abbrev pub count_of : Pieces → ℕ
count_of End = 0
count_of (Then e es) = count_of es + 1

pub fraction_size : (s : State) (o : Option Span) → size_of (fraction_met s o) ≡ size_of s
fraction_size s None = refl
fraction_size s (Some at) = refl

key_size : (s : State) (item : Syntax) → size_of (key_met s item) ≡ size_of s
key_size s item = fraction_size s (fraction_in item)

pub met_size : (again : Bool) (names : Names) (s : State) (symbol : SymbolId) (identifier : ℕ) (at : Span)
    → size_of (met again names s symbol identifier at) ≤ size_of s + 2
met_size true names s symbol identifier at =
    omega (arith, found_size names s symbol at, size_redeclared (found names s symbol at) identifier at)
met_size false names s symbol identifier at = found_size names s symbol at

pub ahead_size : {names : Names} {es : Pieces} {rest : Syntax} {s t : State} {forced : Bool} → LoweredAhead names es rest s t forced
    → size_of t ≤ size_of s + 2 * count_of es
ahead_size (items.NoLook es rest s is) = omega arith
ahead_size (items.LookEnds s) = omega arith
ahead_size (items.LookOther item es s is) = omega arith
ahead_size {names} (items.LookLocal item es symbol identifier s t forced is f d) =
    omega (arith, found_size names s symbol (span_of (target_under item)), ahead_size d)

-- Nodes of items.

pub item_nodes : {binds of_object : Bool} {item part : Syntax} {key : List Piece} → IsItem binds of_object item key part
    → nodes part ≤ nodes item
item_nodes (Element is shaped) = omega arith
item_nodes (BoundProperty is) = omega arith
item_nodes (TakenProperty is) = omega arith
item_nodes Shorthand = omega arith
item_nodes (ShorthandDefault is) = omega arith

lost_nodes : (item : Syntax) → is_lost_item item ≡ true → 1 ≤ nodes item
lost_nodes (Node at w parts) is = omega arith
lost_nodes _ is = absurd (true≢false (sym is))

pub taken_size : {names : Names} {of_object forced : Bool} {es : Pieces} {rest : Syntax} {s u : State} {pieces : List Piece}
    {later : List Later} → TakenItems names of_object forced es rest s u pieces later
    → size_of u + 64 * nodes_left later + 2 * count_of es ≤ size_of s + 40 * length later + 64 * (nodes_of es + nodes rest)
taken_size (items.NoItem s) = omega arith
taken_size (items.RestTaken there target s is) = omega (arith, size_promoted s there.span)
taken_size (items.RestLost rest s is) = omega arith
taken_size (items.ItemHole there es rest s t pieces later d) = omega (arith, taken_size d)
taken_size (items.ItemLost item es rest s t pieces later shaped is d) = omega (arith, lost_nodes item is, taken_size d)
taken_size {names} (items.ItemVariable item es rest there name symbol identifier s t key pieces later is means kept mutable f d) =
    omega (arith, item_nodes is, key_size s item, found_size names (key_met s item) symbol there.span, taken_size d)
taken_size {names} (items.ItemConstant item es rest there name symbol identifier s t key pieces later is means kept constant f d) =
    omega (arith, item_nodes is, key_size s item, found_size names (key_met s item) symbol there.span, taken_size d)
taken_size (items.ItemLater item part es rest s t key pieces later is kept d) =
    omega (arith, item_nodes is, key_size s item, size_promoted (key_met s item) (span_of part), taken_size d)

pub bound_size : {names : Names} {again of_object : Bool} {es : Pieces} {rest : Syntax} {s u : State} {pieces : List Piece}
    {later : List Later} → BoundItems names again of_object es rest s u pieces later
    → size_of u + 64 * nodes_left later ≤ size_of s + 40 * length later + 64 * (nodes_of es + nodes rest)
bound_size (items.NoBound s) = omega arith
bound_size {names} {again} (items.RestNamed there bind_at name type symbol identifier s annotated is f) =
    omega (arith, met_size again names s symbol identifier bind_at.span)
bound_size (items.RestNested there pattern s is) = omega (arith, size_promoted s there.span)
bound_size (items.RestUnbound rest s is) = omega arith
bound_size (items.BoundHole there es rest s t pieces later d) = omega (arith, bound_size d)
bound_size (items.BoundLost item es rest s t pieces later shaped is d) = omega (arith, bound_size d)
bound_size {names} {again}
    (items.BoundVariable item es rest bind_at name type symbol identifier s t key pieces later is annotated kept declared f d) =
    omega (arith, item_nodes is, key_size s item, met_size again names (key_met s item) symbol identifier bind_at.span, bound_size d)
bound_size (items.BoundLater item part es rest s t key pieces later is kept behind d) =
    omega (arith, item_nodes is, key_size s item, size_promoted (key_met s item) (span_of part), bound_size d)
