-- The measure of bytes that spell syntax, and its height.
use Rattle.std.proofs.Common.{◌≡◌, ℕ, ◌+◌, ◌*◌, ◌^◌, ◌≤◌, ◌<◌, Bool, true, false, ◌&&◌, if◌then◌else◌, List, length, ap, ◌∙◌, refl, inl, inr, arith}
use Rattle.std.proofs.lemmas.Bool.{and_parts}
use Rattle.rl_text.specs.Notation as notation
use Rattle.rl_text.specs.Notation.{height, height_of}
use Rattle.rl_text.specs.Nodes.{count, count_of, depth, depth_of}
use Rattle.rl_text.specs.Measure.{nodes_in, deepest_in}
use Rattle.rl_text.proofs.Measures.{nodes_in-spelling, deepest_in-spelling}
use Rattle.rl_syntax.specs.declared.word.Word.{Word}
use Rattle.rl_syntax.specs.Limits.{IsTooLarge}
use Rattle.rl_syntax.specs.Syntax.{Syntax, Node, Listed, Said, Count, Flag, Absent, Pieces, End, Then, plain, plain_parts, nodes, nodes_of, one_if, tally, tally_of, is_item, are_few, is_shaped, are_shaped, are_items}

mutual
  -- The nodes of syntax are those of its tree of the notation.
  pub count_plain : (s : Syntax) → count (plain s) ≡ nodes s
  count_plain (Node at word parts) = ap (λ n. n + 1) (count_of_plain parts)
  count_plain (Listed parts) = count_of_plain parts
  count_plain (Said text) = refl
  count_plain (Count number) = refl
  count_plain (Flag flag) = refl
  count_plain Absent = refl

  pub count_of_plain : (p : Pieces) → count_of (plain_parts p) ≡ nodes_of p
  count_of_plain End = refl
  count_of_plain (Then s p) = λ i. count_plain s i + count_of_plain p i

one_low : (counted : Word → Bool) (word : Word) → one_if counted word ≤ 1
one_low counted word = go (counted word)
  where
    go : (b : Bool) → (if b then 1 else 0) ≤ 1
    go true = omega arith
    go false = omega arith

mutual
  -- No more of a tree's nodes are counted than it has.
  pub tally_low : (counted : Word → Bool) (s : Syntax) → tally counted s ≤ nodes s
  tally_low counted (Node at word parts) = let rest = tally_of_low counted parts in let one = one_low counted word in omega arith
  tally_low counted (Listed parts) = tally_of_low counted parts
  tally_low counted (Said text) = omega arith
  tally_low counted (Count number) = omega arith
  tally_low counted (Flag flag) = omega arith
  tally_low counted Absent = omega arith

  pub tally_of_low : (counted : Word → Bool) (p : Pieces) → tally_of counted p ≤ nodes_of p
  tally_of_low counted End = omega arith
  tally_of_low counted (Then s p) = let first = tally_low counted s in let rest = tally_of_low counted p in omega arith

module _ (bytes : List ℕ) (s : Syntax) (spells : notation.Spells bytes (plain s)) where
  pub nodes_measured : nodes_in bytes ≡ nodes s
  nodes_measured = ap nodes_in spells.spelled ∙ nodes_in-spelling (plain s) spells.writable ∙ count_plain s

  pub depth_measured : deepest_in bytes ≡ depth (plain s)
  depth_measured = ap deepest_in spells.spelled ∙ deepest_in-spelling (plain s) spells.writable

mutual
  -- A list holds no list directly, so at most one list is open in each node that is open, and one around all.
  pub shaped_low : (s : Syntax) → is_shaped s ≡ true → height (plain s) ≤ 2 * depth (plain s) + 1
  shaped_low (Node at word parts) e = let low = are_shaped_low parts (and_parts (are_few parts) (are_shaped parts) e).1 in omega arith
  shaped_low (Listed parts) e = let low = are_items_low parts e in omega arith
  shaped_low (Said text) e = omega arith
  shaped_low (Count number) e = omega arith
  shaped_low (Flag flag) e = omega arith
  shaped_low Absent e = omega arith

  -- A node or a text: no list is open around its nodes.
  pub item_low : (s : Syntax) → is_item s ≡ true → is_shaped s ≡ true → height (plain s) ≤ 2 * depth (plain s)
  item_low (Node at word parts) item e = let low = are_shaped_low parts (and_parts (are_few parts) (are_shaped parts) e).1 in omega arith
  item_low (Said text) item e = omega arith
  item_low _ item e = absurd (cc)

  pub are_shaped_low : (p : Pieces) → are_shaped p ≡ true → height_of (plain_parts p) ≤ 2 * depth_of (plain_parts p) + 1
  are_shaped_low End e = omega arith
  are_shaped_low (Then s p) e =
      let both = and_parts (is_shaped s) (are_shaped p) e in
      let first = shaped_low s both.0 in
      let rest = are_shaped_low p both.1 in
      omega arith

  pub are_items_low : (p : Pieces) → are_items p ≡ true → height_of (plain_parts p) ≤ 2 * depth_of (plain_parts p)
  are_items_low End e = omega arith
  are_items_low (Then s p) e =
      let both = and_parts (is_item s && is_shaped s) (are_items p) e in
      let one = and_parts (is_item s) (is_shaped s) both.0 in
      let first = item_low s one.0 one.1 in
      let rest = are_items_low p both.1 in
      omega arith

-- Bytes within the limits have offsets of 32 bits.
pub small_short : (bytes : List ℕ) → (IsTooLarge bytes → ⊥) → length bytes < 2 ^ 32
small_short bytes small =
    let short : 16777216 < length bytes → ⊥ = λ more. small (inl more) in
    omega arith

-- A shaped tree within the limits has at most 513 nodes and lists open at once.
pub small_low : (bytes : List ℕ) (s : Syntax) → is_shaped s ≡ true → notation.Spells bytes (plain s) → (IsTooLarge bytes → ⊥) → height (plain s) ≤ 2 * 256 + 1
small_low bytes s shaped spells small =
    let shallow : 256 < deepest_in bytes → ⊥ = λ more. small (inr (inr more)) in
    let low = shaped_low s shaped in
    omega (arith, depth_measured bytes s spells)
