-- A test of every node of a tree in its context: the facts on the nodes above it that the test asks for.
use Rattle.std.specs.Prelude.{ℕ, ◌+◌, Bool, true, ◌&&◌}
use Rattle.rl_syntax.specs.Syntax.{Syntax, Node, Listed, Said, Count, Flag, Absent, Pieces, End, Then}
use Rattle.rl_syntax.specs.declared.word.Word.{Word}

-- `test` is a property of a node's context, its word and its parts. `below` gives the context of the part at an index of a
-- node, by the node's context and its word. The items of a list have the context of the list.
module _ {A : Type 0} (test : A → Word → Pieces → Bool) (below : A → Word → ℕ → A) where
  abbrev mutual
    -- True of a tree whose every node passes the test.
    pub passes : A → Syntax → Bool
    passes above (Node at w parts) = test above w parts && parts_pass above w 0 parts
    passes above (Listed parts) = items_pass above parts
    passes above (Said text) = true
    passes above (Count number) = true
    passes above (Flag flag) = true
    passes above Absent = true

    -- As `passes`, for parts of a node of the word `w`, the first of them at `index`.
    pub parts_pass : A → Word → (index : ℕ) → Pieces → Bool
    parts_pass above w index End = true
    parts_pass above w index (Then piece pieces) = passes (below above w index) piece && parts_pass above w (index + 1) pieces

    -- As `passes`, for the items of a list.
    pub items_pass : A → Pieces → Bool
    items_pass above End = true
    items_pass above (Then piece pieces) = passes above piece && items_pass above pieces
