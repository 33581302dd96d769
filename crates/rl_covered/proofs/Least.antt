-- The ids of uncovered nodes ascend, so the first is the least.
use Rattle.std.proofs.Common.{◌≡◌, ℕ, ◌+◌, ◌≤◌, Bool, true, false, if◌then◌else◌, Option, Some, None, IfSome, List, [], ◌∷◌, ◌++◌, All, sym, subst, arith}
use Rattle.std.proofs.lemmas.List.Elements.{All-cons}
use Rattle.std.specs.Option.{option_map}
use Rattle.rl_base.specs.declared.ids.NodeId.{NodeId}
use Rattle.rl_syntax.specs.Syntax.{Syntax, Node, Listed, Said, Count, Flag, Absent, Pieces, End, Then, IsPlaced, ArePlaced, behind, inside, next_byte, nodes, nodes_of}
use Rattle.rl_syntax.specs.declared.numbered.Position.{Position}
use Rattle.rl_ast.specs.Marked.{first}
use Rattle.rl_promises.specs.Covered.{covers, uncovered, uncovered_among, uncovered_in}
use Rattle.rl_syntax.specs.declared.word.Word.{Word}
use Rattle.rl_syntax.specs.declared.word.Word.TheVariants as word

-- The numbers ascend, from `low` to before `high`.
abbrev Ascends : (low : ℕ) → List ℕ → (high : ℕ) → Type 0
Ascends low [] high = low ≤ high
Ascends low (x ∷ xs) high = (low ≤ x) × Ascends (x + 1) xs high

ascends_from : (xs : List ℕ) (lower low high : ℕ) → lower ≤ low → Ascends low xs high → Ascends lower xs high
ascends_from [] lower low high below r = omega (arith, below, r)
ascends_from (x ∷ xs) lower low high below r = (omega (arith, below, r.0), r.1)

ascends_then : (xs ys : List ℕ) (low between high : ℕ) → Ascends low xs between → Ascends between ys high → Ascends low (xs ++ ys) high
ascends_then [] ys low between high r s = ascends_from ys low between high r s
ascends_then (x ∷ xs) ys low between high r s = (r.0, ascends_then xs ys (x + 1) between high r.1 s)

node_ascends : (b : Bool) (id : ℕ) (more : List ℕ) (low high : ℕ) → id ≡ low → Ascends (low + 1) more high
    → Ascends low ((if b then [] else id ∷ []) ++ more) high
node_ascends true id more low high here r = ascends_from more low (low + 1) high (omega arith) r
node_ascends false id more low high here r = (omega (arith, here), ascends_from more (id + 1) (low + 1) high (omega (arith, here)) r)

ascends_to : (xs : List ℕ) (low high higher : ℕ) → high ≡ higher → Ascends low xs high → Ascends low xs higher
ascends_to xs low high higher same r = subst (λ n. Ascends low xs n) same r

mutual
  uncovered_ascend : (t : Syntax) (from : Position) → IsPlaced from t → Ascends from.node (uncovered t) (from.node + nodes t)
  uncovered_ascend (Node at w parts) from placed =
      node_ascends (covers w parts) at.id.0 (uncovered_among parts) from.node (from.node + (nodes_of parts + 1)) placed.0.number
      (ascends_to (uncovered_among parts) (from.node + 1) (from.node + 1 + nodes_of parts) (from.node + (nodes_of parts + 1))
      (omega arith) (uncovered_among_ascend parts (inside from w) placed.1))
  uncovered_ascend (Listed parts) from placed = uncovered_among_ascend parts from placed
  uncovered_ascend (Said text) from placed = omega arith
  uncovered_ascend (Count number) from placed = omega arith
  uncovered_ascend (Flag flag) from placed = omega arith
  uncovered_ascend Absent from placed = omega arith

  uncovered_among_ascend : (ps : Pieces) (from : Position) → ArePlaced from ps
      → Ascends from.node (uncovered_among ps) (from.node + nodes_of ps)
  uncovered_among_ascend End from placed = omega arith
  uncovered_among_ascend (Then p ps) from placed =
      ascends_then (uncovered p) (uncovered_among ps) from.node (from.node + nodes p) (from.node + (nodes p + nodes_of ps))
      (uncovered_ascend p (next_byte from) placed.0)
      (ascends_to (uncovered_among ps) (from.node + nodes p) (from.node + nodes p + nodes_of ps) (from.node + (nodes p + nodes_of ps))
      (omega arith) (uncovered_among_ascend ps (behind (next_byte from) p) placed.1))

all_from : (xs : List ℕ) (low high : ℕ) → Ascends low xs high → All (λ x. low ≤ x) xs
all_from [] low high r = λ k d within. absurd (omega (arith, within))
all_from (x ∷ xs) low high r =
    let rest : All (λ y. x + 1 ≤ y) xs = all_from xs (x + 1) high r.1 in
    All-cons (λ y. low ≤ y) x xs r.0 (λ k d within. omega (arith, r.0, rest k d within))

first_least : (xs : List ℕ) (low high n : ℕ) → Ascends low xs high → first xs ≡ Some n → All (λ x. n ≤ x) xs
first_least [] low high n r is = absurd (cc)
first_least (x ∷ xs) low high n r is =
    let same : n ≡ x = cc in
    let rest : All (λ y. x + 1 ≤ y) xs = all_from xs (x + 1) high r.1 in
    All-cons (λ y. n ≤ y) x xs (omega (arith, same)) (λ k d within. omega (arith, same, rest k d within))

-- The parts of a function.
parts_ascend : (w : Word) (parts : Pieces) (from : Position) → ArePlaced (inside from w) parts
    → Ascends from.node (uncovered_among parts) (from.node + (nodes_of parts + 1))
parts_ascend w parts from placed =
    ascends_from (uncovered_among parts) from.node (from.node + 1) (from.node + (nodes_of parts + 1)) (omega arith)
    (ascends_to (uncovered_among parts) (from.node + 1) (from.node + 1 + nodes_of parts) (from.node + (nodes_of parts + 1)) (omega arith)
    (uncovered_among_ascend parts (inside from w) placed))

in_ascend : (f : Syntax) (from : Position) → IsPlaced from f → Ascends from.node (uncovered_in f) (from.node + nodes f)
in_ascend (Node at word.Arrow parts) from placed = parts_ascend word.Arrow parts from placed.1
in_ascend (Node at word.Fundecl parts) from placed = parts_ascend word.Fundecl parts from placed.1
in_ascend (Node at word.Funexpr parts) from placed = parts_ascend word.Funexpr parts from placed.1
in_ascend f from placed = uncovered_ascend f from placed

-- The node that a function waits for is the least that is not covered.
pub least_of : (f : Syntax) (o : Option NodeId) → option_map (λ (n : NodeId). n.0) o ≡ first (uncovered_in f) → (from : Position)
    → IsPlaced from f → IfSome o (λ n. All (λ id. n.0 ≤ id) (uncovered_in f))
least_of f None is from placed = tt
least_of f (Some n) is from placed = first_least (uncovered_in f) from.node (from.node + nodes f) n.0 (in_ascend f from placed) (sym is)
