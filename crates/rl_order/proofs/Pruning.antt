-- Facts of a graph that the ordering, the removals and the marks keep.
use Rattle.std.proofs.Common.{◌≡◌, ℕ, zero, suc, ◌+◌, ◌<◌, ◌≤◌, inl, inr, Bool, true, false, if◌then◌else◌, Option, Some, None, List, [], ◌∷◌, ◌++◌, All, Contains, length, map, slice_get, nat_eq, refl, sym, ap, ◌∙◌, subst, arith, eq-eqb}
use Rattle.std.proofs.Math.Dec.{ltb}
use Rattle.std.proofs.lemmas.Bool.{lt-ltb, ltb-true}
use Rattle.std.proofs.lemmas.Bool.Decides.{eqb_tells}
use Rattle.std.proofs.lemmas.List.Elements.{All-cons, All-head, All-tail, All-nil}
use Rattle.std.specs.List.{list_any}
use Rattle.std.specs.Option.{option_map}
use Rattle.rl_base.proofs.DistinctLists.{IsIn, distinct_cons, distinct_head, distinct_none, distinct_tail, in_head, in_tail}
use Rattle.rl_base.specs.Distinct.{AreDistinct}
use Rattle.rl_base.specs.declared.ids.BlockId.{BlockId}
use Rattle.rl_base.specs.declared.ids.InstructionId.{InstructionId}
use Rattle.rl_hir.specs.Blocks.{Pair, block_at, same_id}
use Rattle.rl_hir.specs.Numbered.{IsNumbered, listed_in, order_at, orders_in}
use Rattle.rl_hir.specs.Terminals.{successor_ids}
use Rattle.rl_hir.specs.declared.terminal.Terminal.{Terminal}
use Rattle.rl_hir.specs.declared.function.BasicBlock.{BasicBlock}
use Rattle.rl_hir.specs.declared.instruction.Instruction.{Instruction}
use Rattle.rl_order.proofs.Ordering.{walked_good}
use Rattle.rl_order.proofs.PredecessorsReached.{predecessors_reached}
use Rattle.rl_order.proofs.Totals.{IsLeast, cleaned_total, kept_total, marked_total, ordered_total, total}
use Rattle.rl_order.specs.Numbering.{ordered_blocks, orders_of}
use Rattle.rl_order.specs.PredecessorWalk.{IsMarked, sources, with_predecessors}
use Rattle.rl_order.specs.Predecessors.{LeadsTo, PredecessorsReached}
use Rattle.rl_order.specs.Prune.{IsPruned, cleaned}
use Rattle.rl_order.specs.Reached.{Begins, Goes, IsReached}
use Rattle.rl_order.specs.Walk.{IsOrdered}
use Rattle.rl_order.specs.declared.predecessors.Edge.{Edge}

-- The blocks in their order count no more than those of the graph.
pub order_total : (count : List InstructionId → ℕ) → IsLeast count → (graph : List Pair) (entry : BlockId) (ordered : List Pair)
    → IsOrdered graph entry ordered → total count ordered ≤ total count graph
order_total count least graph entry ordered o =
    subst (λ (pairs : List Pair). total count pairs ≤ total count graph) (sym o.blocks) (kept_total count least graph o.end _ (walked_good graph entry o.end o.walk).own)

-- The number of blocks.

abbrev one_each : List InstructionId → ℕ
one_each ids = 1

blocks_total : (pairs : List Pair) → length pairs ≡ total one_each pairs
blocks_total [] = refl
blocks_total (p ∷ pairs) = let rest : length pairs ≡ total one_each pairs = blocks_total pairs in omega (arith, rest)

-- The number of orders.

abbrev orders_taken : List InstructionId → ℕ
orders_taken ids = length ids + 1

orders_total : (pairs : List Pair) → orders_of pairs ≡ total orders_taken pairs
orders_total [] = refl
orders_total (p ∷ pairs) = let rest : orders_of pairs ≡ total orders_taken pairs = orders_total pairs in omega (arith, rest)

fewer_orders : (pairs left : List Pair) → total orders_taken left ≤ total orders_taken pairs → orders_of left ≤ orders_of pairs
fewer_orders pairs left fewer =
    let before = orders_total pairs in
    let behind = orders_total left in
    omega (arith, fewer, before, behind)

pub ordered_orders : (graph : List Pair) (entry : BlockId) (ordered : List Pair) → IsOrdered graph entry ordered → orders_of ordered ≤ orders_of graph
ordered_orders graph entry ordered o = fewer_orders graph ordered (order_total orders_taken (λ ids. omega arith) graph entry ordered o)

pub cleaned_orders : (ordered : List Pair) → orders_of (cleaned ordered) ≤ orders_of ordered
cleaned_orders ordered = fewer_orders ordered (cleaned ordered) (cleaned_total orders_taken ordered)

-- The instructions that lie outside of the table.

abbrev past : (bound : ℕ) → List InstructionId → ℕ
past bound [] = 0
past bound (id ∷ ids) = (if ltb id.0 bound then 0 else 1) + past bound ids

abbrev IsWithin : (bound : ℕ) → InstructionId → Type 0
IsWithin bound id = id.0 < bound

-- A block lists instructions of the table.
abbrev ListsWithin : (bound : ℕ) → Pair → Type 0
ListsWithin bound p = All (λ id. id.0 < bound) p.1.instructions

past_none : (bound : ℕ) (ids : List InstructionId) → All (λ id. id.0 < bound) ids → past bound ids ≡ 0
past_none bound [] all = refl
past_none bound (id ∷ ids) all =
    let first : past bound (id ∷ ids) ≡ 0 + past bound ids = ap (λ (b : Bool). (if b then 0 else 1) + past bound ids) (lt-ltb id.0 bound (All-head (IsWithin bound) id ids all)) in
    let rest : past bound ids ≡ 0 = past_none bound ids (All-tail (IsWithin bound) id ids all) in
    omega (arith, first, rest)

none_past : (bound : ℕ) (ids : List InstructionId) → past bound ids ≡ 0 → All (λ id. id.0 < bound) ids
none_past bound [] none = All-nil (IsWithin bound)
none_past bound (id ∷ ids) none = by_test (ltb id.0 bound) refl (none_past bound ids)
  where
    by_test : (b : Bool) → ltb id.0 bound ≡ b → (past bound ids ≡ 0 → All (λ id. id.0 < bound) ids) → All (λ id. id.0 < bound) (id ∷ ids)
    by_test true is rest =
        let left : 0 + past bound ids ≡ 0 = sym (ap (λ (b : Bool). (if b then 0 else 1) + past bound ids) is) ∙ none in
        All-cons (IsWithin bound) id ids (ltb-true id.0 bound is) (rest (omega (arith, left)))
    by_test false is rest =
        let left : 1 + past bound ids ≡ 0 = sym (ap (λ (b : Bool). (if b then 0 else 1) + past bound ids) is) ∙ none in absurd (omega (arith, left))

past_total : (bound : ℕ) (pairs : List Pair) → All (ListsWithin bound) pairs → total (past bound) pairs ≡ 0
past_total bound [] all = refl
past_total bound (p ∷ pairs) all =
    let first = past_none bound p.1.instructions (All-head (ListsWithin bound) p pairs all) in
    let rest : total (past bound) pairs ≡ 0 = past_total bound pairs (All-tail (ListsWithin bound) p pairs all) in
    omega (arith, first, rest)

total_past : (bound : ℕ) (pairs : List Pair) → total (past bound) pairs ≡ 0 → All (ListsWithin bound) pairs
total_past bound [] none = All-nil (ListsWithin bound)
total_past bound (p ∷ pairs) none =
    All-cons (ListsWithin bound) p pairs (none_past bound p.1.instructions (omega (arith, none))) (total_past bound pairs (omega (arith, none)))

fewer_past : (bound : ℕ) (pairs left : List Pair) → total (past bound) left ≤ total (past bound) pairs → All (ListsWithin bound) pairs → All (ListsWithin bound) left
fewer_past bound pairs left fewer all =
    let none = past_total bound pairs all in
    total_past bound left (omega (arith, fewer, none))

pub ordered_within : (bound : ℕ) (graph : List Pair) (entry : BlockId) (ordered : List Pair) → IsOrdered graph entry ordered
    → All (λ p. All (λ id. id.0 < bound) p.1.instructions) graph → All (λ p. All (λ id. id.0 < bound) p.1.instructions) ordered
ordered_within bound graph entry ordered o all = fewer_past bound graph ordered (order_total (past bound) (λ ids. omega arith) graph entry ordered o) all

pub cleaned_within : (bound : ℕ) (ordered : List Pair) → All (λ p. All (λ id. id.0 < bound) p.1.instructions) ordered
    → All (λ p. All (λ id. id.0 < bound) p.1.instructions) (cleaned ordered)
cleaned_within bound ordered all = fewer_past bound ordered (cleaned ordered) (cleaned_total (past bound) ordered) all

-- The number of times that an instruction is listed.

abbrev times : ℕ → List ℕ → ℕ
times n [] = 0
times n (x ∷ xs) = (if nat_eq x n then 1 else 0) + times n xs

times_append : (n : ℕ) (xs ys : List ℕ) → times n (xs ++ ys) ≡ times n xs + times n ys
times_append n [] ys = omega arith
times_append n (x ∷ xs) ys =
    let rest : times n (xs ++ ys) ≡ times n xs + times n ys = times_append n xs ys in omega (arith, rest)

times_in : (n : ℕ) (xs : List ℕ) → IsIn xs n → 1 ≤ times n xs
times_in n xs h = at xs h.index h.found
  where
    at : (ys : List ℕ) (index : ℕ) → slice_get ys index ≡ Some n → 1 ≤ times n ys
    at [] index found = absurd (cc)
    at (y ∷ ys) zero found =
        let same : y ≡ n = cc in
        let one : times n (y ∷ ys) ≡ 1 + times n ys = ap (λ (b : Bool). (if b then 1 else 0) + times n ys) (eq-eqb y n same) in omega (arith, one)
    at (y ∷ ys) (suc index) found = let rest : 1 ≤ times n ys = at ys index found in omega (arith, rest)

times_none : (n : ℕ) (xs : List ℕ) → (IsIn xs n → ⊥) → times n xs ≡ 0
times_none n [] none = refl
times_none n (x ∷ xs) none =
    let rest : times n xs ≡ 0 = times_none n xs (λ h. none (in_tail x xs n h)) in
    elim (eqb_tells x n) [
      | inl t ↦ absurd (none (subst (λ (y : ℕ). IsIn (x ∷ xs) y) t.1 (in_head x xs)))
      | inr t ↦ (let zero_here : times n (x ∷ xs) ≡ 0 + times n xs = ap (λ (b : Bool). (if b then 1 else 0) + times n xs) t.0 in omega (arith, zero_here, rest))
    ]

distinct_times : (xs : List ℕ) → AreDistinct xs → (n : ℕ) → times n xs ≤ 1
distinct_times [] distinct n = omega arith
distinct_times (x ∷ xs) distinct n = elim (eqb_tells x n) [
  | inl t ↦ (let none : times n xs ≡ 0 = times_none n xs (λ h. distinct_head x xs distinct (subst (λ (y : ℕ). IsIn xs y) (sym t.1) h)) in
      let one : times n (x ∷ xs) ≡ 1 + times n xs = ap (λ (b : Bool). (if b then 1 else 0) + times n xs) t.0 in omega (arith, none, one))
  | inr t ↦ (let rest : times n xs ≤ 1 = distinct_times xs (distinct_tail x xs distinct) n in
      let zero_here : times n (x ∷ xs) ≡ 0 + times n xs = ap (λ (b : Bool). (if b then 1 else 0) + times n xs) t.0 in omega (arith, zero_here, rest))
]

times_distinct : (xs : List ℕ) → ((n : ℕ) → times n xs ≤ 1) → AreDistinct xs
times_distinct [] few = distinct_none
times_distinct (x ∷ xs) few = distinct_cons x xs apart (times_distinct xs fewer)
  where
    apart : IsIn xs x → ⊥
    apart h =
        let more : 1 ≤ times x xs = times_in x xs h in
        let all : times x (x ∷ xs) ≤ 1 = few x in
        let one : times x (x ∷ xs) ≡ 1 + times x xs = ap (λ (b : Bool). (if b then 1 else 0) + times x xs) (eq-eqb x x refl) in absurd (omega (arith, more, all, one))

    fewer : (n : ℕ) → times n xs ≤ 1
    fewer n = let all : times n (x ∷ xs) ≤ 1 = few n in omega (arith, all)

abbrev times_of : ℕ → List InstructionId → ℕ
times_of n ids = times n (map (λ id. id.0) ids)

listed_total : (n : ℕ) (pairs : List Pair) → times n (listed_in pairs) ≡ total (times_of n) pairs
listed_total n [] = refl
listed_total n (p ∷ pairs) =
    let rest : times n (listed_in pairs) ≡ total (times_of n) pairs = listed_total n pairs in
    let both = times_append n (map (λ id. id.0) p.1.instructions) (listed_in pairs) in
    omega (arith, rest, both)

fewer_times : (pairs left : List Pair) → ((n : ℕ) → total (times_of n) left ≤ total (times_of n) pairs) → AreDistinct (listed_in pairs) → AreDistinct (listed_in left)
fewer_times pairs left fewer distinct = times_distinct (listed_in left) few
  where
    few : (n : ℕ) → times n (listed_in left) ≤ 1
    few n =
        let less : total (times_of n) left ≤ total (times_of n) pairs = fewer n in
        let before = listed_total n pairs in
        let behind = listed_total n left in
        let once : times n (listed_in pairs) ≤ 1 = distinct_times (listed_in pairs) distinct n in
        omega (arith, less, before, behind, once)

pub ordered_once : (graph : List Pair) (entry : BlockId) (ordered : List Pair) → IsOrdered graph entry ordered
    → AreDistinct (listed_in graph) → AreDistinct (listed_in ordered)
ordered_once graph entry ordered o once = fewer_times graph ordered (λ n. order_total (times_of n) (λ ids. omega arith) graph entry ordered o) once

pub cleaned_once : (ordered : List Pair) → AreDistinct (listed_in ordered) → AreDistinct (listed_in (cleaned ordered))
cleaned_once ordered once = fewer_times ordered (cleaned ordered) (λ n. cleaned_total (times_of n) ordered) once

pub marked_same : (graph graph1 marked : List Pair) (entry entry1 : BlockId) → graph ≡ graph1 → entry ≡ entry1 → IsMarked graph entry marked → IsMarked graph1 entry1 marked
marked_same graph graph1 marked entry entry1 same at m =
    subst (λ (pairs : List Pair). IsMarked pairs entry1 marked) same (subst (λ (id : BlockId). IsMarked graph id marked) at m)

-- Predecessors change no order and no listed instruction.

marked_orders : (table : List Instruction) (edges : List Edge) (pairs : List Pair) → orders_in table (with_predecessors edges pairs) ≡ orders_in table pairs
marked_orders table edges [] = refl
marked_orders table edges (p ∷ pairs) = ap (λ (rest : List (Option ℕ)). map (λ id. order_at table id) p.1.instructions ++ Some p.1.terminal.order.0 ∷ rest) (marked_orders table edges pairs)

marked_listed : (edges : List Edge) (pairs : List Pair) → listed_in (with_predecessors edges pairs) ≡ listed_in pairs
marked_listed edges [] = refl
marked_listed edges (p ∷ pairs) = ap (λ (rest : List ℕ). map (λ id. id.0) p.1.instructions ++ rest) (marked_listed edges pairs)

pub marked_numbered : (table : List Instruction) (graph marked : List Pair) (entry : BlockId) → IsMarked graph entry marked → IsNumbered table graph → IsNumbered table marked
marked_numbered table graph marked entry m n = subst (λ (pairs : List Pair). IsNumbered table pairs) (sym m.blocks) (record {
  counted = record { in_order = λ index order found. n.counted.in_order index order (sym (ap (λ (l : List (Option ℕ)). slice_get l index) (marked_orders table m.edges graph)) ∙ found) };
  unlisted = λ index i found none. n.unlisted index i found (λ there. none (subst (λ (l : List ℕ). Contains l index) (sym (marked_listed m.edges graph)) there));
})

-- Nor do they change the blocks that are reached.

given_at : (edges : List Edge) (graph : List Pair) (id : BlockId)
    → (preds : List BlockId) × (block_at (with_predecessors edges graph) id ≡ option_map {T = BasicBlock} (λ (b : BasicBlock). record b { preds = preds }) (block_at graph id))
given_at edges [] id = ([], refl)
given_at edges (p ∷ graph) id = by_test (same_id id p.0) refl (given_at edges graph id)
  where
    by_test : (b : Bool) → same_id id p.0 ≡ b
        → (preds : List BlockId) × (block_at (with_predecessors edges graph) id ≡ option_map {T = BasicBlock} (λ (b : BasicBlock). record b { preds = preds }) (block_at graph id))
        → (preds : List BlockId) × (block_at (with_predecessors edges (p ∷ graph)) id ≡ option_map {T = BasicBlock} (λ (b : BasicBlock). record b { preds = preds }) (block_at (p ∷ graph) id))
    by_test true is rest = (sources edges p.0, rw is refl)
    by_test false is rest = (rest.0, rw is rest.1)

module _ (edges : List Edge) (graph : List Pair) where
  abbrev marked : List Pair
  marked = with_predecessors edges graph

  there : (id : BlockId) (block : BasicBlock) → block_at graph id ≡ Some block → (preds : List BlockId) × (block_at marked id ≡ Some (record block { preds = preds }))
  there id block found = let g = given_at edges graph id in (g.0, g.1 ∙ ap (λ (o : Option BasicBlock). option_map {T = BasicBlock} (λ (b : BasicBlock). record b { preds = g.0 }) o) found)

  back : (id : BlockId) (block : BasicBlock) → block_at marked id ≡ Some block → (old : BasicBlock) × (block_at graph id ≡ Some old) × (old.terminal ≡ block.terminal)
  back id block found = by_found (block_at graph id) refl
    where
      by_found : (o : Option BasicBlock) → block_at graph id ≡ o → (old : BasicBlock) × (block_at graph id ≡ Some old) × (old.terminal ≡ block.terminal)
      by_found None none = absurd (let g = given_at edges graph id in let never : None ≡ Some block = sym (g.1 ∙ ap (λ (o : Option BasicBlock). option_map {T = BasicBlock} (λ (b : BasicBlock). record b { preds = g.0 }) o) none) ∙ found in cc)
      by_found (Some old) is =
          let g = there id old is in
          let both : Some (record old { preds = g.0 }) ≡ Some block = sym g.1 ∙ found in
          let same : record old { preds = g.0 } ≡ block = cc in
          (old, is, ap (λ (b : BasicBlock). b.terminal) same)

  pub reached_marked : (entry id : BlockId) → IsReached graph entry id → IsReached marked entry id
  reached_marked entry _ Begins = Begins
  reached_marked entry _ (Goes a b block before found leads) = let g = there a block found in Goes a b (record block { preds = g.0 }) (reached_marked entry a before) g.1 leads

  pub reached_graph : (entry id : BlockId) → IsReached marked entry id → IsReached graph entry id
  reached_graph entry _ Begins = Begins
  reached_graph entry _ (Goes a b block before found leads) =
      let g = back a block found in
      Goes a b g.0 (reached_graph entry a before) g.1 (ap (λ (t : Terminal). list_any (same_id b) (successor_ids t)) g.2 ∙ leads)

  leads_marked : (from to : BlockId) → LeadsTo graph from to → LeadsTo marked from to
  leads_marked from to l = let g = there from l.block l.found in record { block = record l.block { preds = g.0 }; found = g.1; leads = l.leads }

  leads_graph : (from to : BlockId) → LeadsTo marked from to → LeadsTo graph from to
  leads_graph from to l = let g = back from l.block l.found in record { block = g.0; found = g.1; leads = ap (λ (t : Terminal). list_any (same_id to) (successor_ids t)) g.2 ∙ l.leads }

  marked_again : (entry : BlockId) → PredecessorsReached graph entry marked → PredecessorsReached marked entry marked
  marked_again entry p id block found from =
      let both = p id block found from in (
        λ h. (let r = both.0 h in (reached_marked entry from r.0, leads_marked from id r.1)),
        λ h. both.1 (reached_graph entry from h.0, leads_graph from id h.1),
      )

-- A marked graph knows its own predecessors.
pub own_predecessors : (graph marked : List Pair) (entry : BlockId) → IsMarked graph entry marked → PredecessorsReached marked entry marked
own_predecessors graph marked entry m =
    subst (λ (pairs : List Pair). PredecessorsReached pairs entry pairs) (sym m.blocks)
    (marked_again m.edges graph entry (subst (λ (pairs : List Pair). PredecessorsReached graph entry pairs) m.blocks (predecessors_reached graph marked entry m)))

-- The blocks of the result, and the instructions that they list.

pub pruned_total : (count : List InstructionId → ℕ) → IsLeast count → (graph : List Pair) (entry : BlockId) (table : List Instruction) (pruned : List Pair) (numbered : List Instruction)
    → IsPruned graph entry table pruned numbered → total count pruned ≤ total count graph
pruned_total count least graph entry table pruned numbered p =
    let kept : total count p.ordered ≤ total count graph = order_total count least graph entry p.ordered p.order in
    let left : total count (cleaned p.ordered) ≤ total count p.ordered = cleaned_total count p.ordered in
    let ordered = ordered_total count 1 (cleaned p.ordered) in
    let marked : total count pruned ≡ total count (ordered_blocks 1 (cleaned p.ordered)) = ap (λ (pairs : List Pair). total count pairs) p.marked.blocks ∙ marked_total count p.marked.edges (ordered_blocks 1 (cleaned p.ordered)) in
    omega (arith, kept, left, ordered, marked)

pub pruned_size : (graph : List Pair) (entry : BlockId) (table : List Instruction) (pruned : List Pair) (numbered : List Instruction)
    → IsPruned graph entry table pruned numbered → length pruned ≤ length graph
pruned_size graph entry table pruned numbered p =
    let fewer : total one_each pruned ≤ total one_each graph = pruned_total one_each (λ ids. omega arith) graph entry table pruned numbered p in
    let before = blocks_total graph in
    let behind = blocks_total pruned in
    omega (arith, fewer, before, behind)

pub pruned_within : (bound : ℕ) (graph : List Pair) (entry : BlockId) (table : List Instruction) (pruned : List Pair) (numbered : List Instruction)
    → IsPruned graph entry table pruned numbered → All (λ p. All (λ id. id.0 < bound) p.1.instructions) graph → All (λ p. All (λ id. id.0 < bound) p.1.instructions) pruned
pruned_within bound graph entry table pruned numbered p all =
    fewer_past bound graph pruned (pruned_total (past bound) (λ ids. omega arith) graph entry table pruned numbered p) all
