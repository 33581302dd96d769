-- Sums over blocks of a count of the instructions that each lists: ordering and removals add nothing.
use Rattle.std.proofs.Common.{◌≡◌, ℕ, ◌+◌, ◌≤◌, Bool, true, false, ◌||◌, not, if◌then◌else◌, Option, Some, None, List, [], ◌∷◌, ◌++◌, filter, fold, refl, sym, ap, ◌∙◌, subst, arith, eq-eqb}
use Rattle.std.specs.List.{list_any}
use Rattle.rl_base.specs.declared.ids.BlockId.{BlockId}
use Rattle.rl_base.specs.declared.ids.InstructionId.{InstructionId}
use Rattle.rl_hir.specs.Blocks.{Pair, block_at, same_id}
use Rattle.rl_hir.specs.declared.function.BasicBlock.{BasicBlock}
use Rattle.rl_hir.specs.declared.terminal.TerminalKind.{TerminalKind}
use Rattle.rl_order.proofs.Follows.{one_id}
use Rattle.rl_order.specs.Numbering.{order_after, ordered_blocks}
use Rattle.rl_order.specs.Own.{AreOwn}
use Rattle.rl_order.specs.PredecessorWalk.{with_predecessors}
use Rattle.rl_order.specs.Prune.{cleaned}
use Rattle.rl_order.specs.Removals.{dead_tries, ended_by_goto, is_lost, is_there, live_do_while, live_for, with_changed, with_kinds, without_dead_do_whiles, without_predecessor, without_try, without_unreachable_updates}
use Rattle.rl_order.specs.Walk.{Walk, emptied, is_noted, is_used, kept, kept_block}
use Rattle.rl_order.specs.declared.predecessors.Edge.{Edge}
use Rattle.rl_order.specs.declared.tries.DeadTry.{DeadTry}

-- The sum of `count` over the blocks.
abbrev pub total : (count : List InstructionId → ℕ) → List Pair → ℕ
total count [] = 0
total count (p ∷ pairs) = count p.1.instructions + total count pairs

-- No list counts less than the empty one.
abbrev pub IsLeast : (count : List InstructionId → ℕ) → Type 0
IsLeast count = (ids : List InstructionId) → count [] ≤ count ids

module _ (count : List InstructionId → ℕ) where
  total_append : (xs ys : List Pair) → total count (xs ++ ys) ≡ total count xs + total count ys
  total_append [] ys = omega arith
  total_append (p ∷ xs) ys = let rest : total count (xs ++ ys) ≡ total count xs + total count ys = total_append xs ys in omega (arith, rest)

  -- The count of a block that may be missing.
  abbrev of_found : Option BasicBlock → ℕ
  of_found None = 0
  of_found (Some block) = count block.instructions

  -- The sum over the blocks with these ids.
  abbrev chosen : List Pair → List BlockId → ℕ
  chosen graph [] = 0
  chosen graph (id ∷ ids) = of_found (block_at graph id) + chosen graph ids

  kept_chosen : IsLeast count → (graph : List Pair) (w : Walk) (ids : List BlockId) → total count (kept graph w ids) ≤ chosen graph ids
  kept_chosen least graph w [] = omega arith
  kept_chosen least graph w (id ∷ ids) =
      let both = total_append (elim (block_at graph id) [ Some block ↦ kept_block w id block | None ↦ [] ]) (kept graph w ids) in
      let rest : total count (kept graph w ids) ≤ chosen graph ids = kept_chosen least graph w ids in
      let first : total count (elim (block_at graph id) [ Some block ↦ kept_block w id block | None ↦ [] ]) ≤ of_found (block_at graph id) = by_found (block_at graph id) in
      omega (arith, both, rest, first)
    where
      by_test : (block : BasicBlock) (used noted : Bool)
          → total count (if used then (id, block) ∷ [] else (if noted then (id, emptied block) ∷ [] else [])) ≤ count block.instructions
      by_test block true noted = omega arith
      by_test block false true = let few : count [] ≤ count block.instructions = least block.instructions in omega (arith, few)
      by_test block false false = omega arith

      by_found : (found : Option BasicBlock) → total count (elim found [ Some block ↦ kept_block w id block | None ↦ [] ]) ≤ of_found found
      by_found None = omega arith
      by_found (Some block) = by_test block (is_used w id) (is_noted w id)

  -- A count, if the test is true.
  abbrev weighed : Bool → ℕ → ℕ
  weighed true n = n
  weighed false n = 0

  chosen_more : (p : Pair) (graph : List Pair) (ids : List BlockId) → AreOwn ids
      → chosen (p ∷ graph) ids ≤ weighed (list_any (same_id p.0) ids) (count p.1.instructions) + chosen graph ids
  chosen_more p graph [] own = omega arith
  chosen_more p graph (id ∷ ids) own = by_test (same_id id p.0) refl (chosen_more p graph ids own.1)
    where
      heavier : (a b : Bool) (n : ℕ) → weighed b n ≤ weighed (a || b) n
      heavier true true n = omega arith
      heavier true false n = omega arith
      heavier false b n = omega arith

      by_test : (t : Bool) → same_id id p.0 ≡ t → chosen (p ∷ graph) ids ≤ weighed (list_any (same_id p.0) ids) (count p.1.instructions) + chosen graph ids
          → chosen (p ∷ graph) (id ∷ ids) ≤ weighed (list_any (same_id p.0) (id ∷ ids)) (count p.1.instructions) + chosen graph (id ∷ ids)
      by_test true is rest =
          let same : id ≡ p.0 = one_id id p.0 is in
          let none : list_any (same_id p.0) ids ≡ false = subst (λ (x : BlockId). list_any (same_id x) ids ≡ false) same own.0 in
          let here : same_id p.0 id ≡ true = eq-eqb p.0.0 id.0 (ap (λ (x : BlockId). x.0) (sym same)) in
          let found : of_found (block_at (p ∷ graph) id) ≡ count p.1.instructions = ap (λ (b : Bool). of_found (if b then Some p.1 else block_at graph id)) is in
          let less : chosen (p ∷ graph) ids ≤ 0 + chosen graph ids = subst (λ (b : Bool). chosen (p ∷ graph) ids ≤ weighed b (count p.1.instructions) + chosen graph ids) none rest in
          let heavy : weighed (list_any (same_id p.0) (id ∷ ids)) (count p.1.instructions) ≡ count p.1.instructions = ap (λ (b : Bool). weighed (b || list_any (same_id p.0) ids) (count p.1.instructions)) here in
          omega (arith, found, less, heavy)
      by_test false is rest =
          let found : of_found (block_at (p ∷ graph) id) ≡ of_found (block_at graph id) = ap (λ (b : Bool). of_found (if b then Some p.1 else block_at graph id)) is in
          let more : weighed (list_any (same_id p.0) ids) (count p.1.instructions) ≤ weighed (list_any (same_id p.0) (id ∷ ids)) (count p.1.instructions) = heavier (same_id p.0 id) (list_any (same_id p.0) ids) (count p.1.instructions) in
          omega (arith, found, more, rest)

  chosen_none : (ids : List BlockId) → chosen [] ids ≡ 0
  chosen_none [] = refl
  chosen_none (id ∷ ids) = let rest : chosen [] ids ≡ 0 = chosen_none ids in omega (arith, rest)

  chosen_total : (graph : List Pair) (ids : List BlockId) → AreOwn ids → chosen graph ids ≤ total count graph
  chosen_total [] ids own = let none = chosen_none ids in omega (arith, none)
  chosen_total (p ∷ graph) ids own =
      let more = chosen_more p graph ids own in
      let rest : chosen graph ids ≤ total count graph = chosen_total graph ids own in
      let some : weighed (list_any (same_id p.0) ids) (count p.1.instructions) ≤ count p.1.instructions = at_most (list_any (same_id p.0) ids) in
      omega (arith, more, rest, some)
    where
      at_most : (b : Bool) → weighed b (count p.1.instructions) ≤ count p.1.instructions
      at_most true = omega arith
      at_most false = omega arith

  pub kept_total : IsLeast count → (graph : List Pair) (w : Walk) (ids : List BlockId) → AreOwn ids → total count (kept graph w ids) ≤ total count graph
  kept_total least graph w ids own =
      let first = kept_chosen least graph w ids in
      let second : chosen graph ids ≤ total count graph = chosen_total graph ids own in
      omega (arith, first, second)

  kinds_total : (change : TerminalKind → TerminalKind) (pairs : List Pair) → total count (with_kinds change pairs) ≡ total count pairs
  kinds_total change [] = refl
  kinds_total change (p ∷ pairs) = ap (λ (n : ℕ). count p.1.instructions + n) (kinds_total change pairs)

  changed_total : (id : BlockId) (change : BasicBlock → BasicBlock) → ((b : BasicBlock) → (change b).instructions ≡ b.instructions)
      → (pairs : List Pair) → total count (with_changed id change pairs) ≡ total count pairs
  changed_total id change same [] = refl
  changed_total id change same (p ∷ pairs) =
      ap (λ (n : ℕ). count (if same_id id p.0 then change p.1 else p.1).instructions + n) (changed_total id change same pairs)
      ∙ ap (λ (ids : List InstructionId). count ids + total count pairs) (by_test (same_id id p.0))
    where
      by_test : (b : Bool) → (if b then change p.1 else p.1).instructions ≡ p.1.instructions
      by_test true = same p.1
      by_test false = refl

  filter_total : (test : Pair → Bool) (pairs : List Pair) → total count (filter test pairs) ≤ total count pairs
  filter_total test [] = omega arith
  filter_total test (p ∷ pairs) = by_test (filter_total test pairs) (test p)
    where
      by_test : total count (filter test pairs) ≤ total count pairs → (b : Bool)
          → total count (if b then p ∷ filter test pairs else filter test pairs) ≤ total count (p ∷ pairs)
      by_test rest true = omega (arith, rest)
      by_test rest false = omega (arith, rest)

  try_total : (dead : DeadTry) (pairs : List Pair) → total count (without_try dead pairs) ≤ total count pairs
  try_total dead pairs =
      let ended : List Pair = with_changed dead.id (ended_by_goto dead.block) pairs in
      let left : List Pair = filter (λ p. not (is_lost dead p)) ended in
      let first : total count ended ≡ total count pairs = changed_total dead.id (ended_by_goto dead.block) (λ b. refl) pairs in
      let second : total count left ≤ total count ended = filter_total (λ p. not (is_lost dead p)) ended in
      let third : total count (without_try dead pairs) ≡ total count left = changed_total dead.fallthrough (without_predecessor dead.handler) (λ b. refl) left in
      omega (arith, first, second, third)

  tries_total : (tries : List DeadTry) (pairs : List Pair) → total count (fold (λ now dead. without_try dead now) pairs tries) ≤ total count pairs
  tries_total [] pairs = omega arith
  tries_total (dead ∷ tries) pairs =
      let first : total count (without_try dead pairs) ≤ total count pairs = try_total dead pairs in
      let rest : total count (fold (λ now dead. without_try dead now) (without_try dead pairs) tries) ≤ total count (without_try dead pairs) = tries_total tries (without_try dead pairs) in
      omega (arith, first, rest)

  pub cleaned_total : (pairs : List Pair) → total count (cleaned pairs) ≤ total count pairs
  cleaned_total pairs =
      let fors : List Pair = without_unreachable_updates pairs in
      let whiles : List Pair = without_dead_do_whiles fors in
      let first : total count fors ≡ total count pairs = kinds_total (live_for (is_there pairs)) pairs in
      let second : total count whiles ≡ total count fors = kinds_total (live_do_while (is_there fors)) fors in
      let third : total count (cleaned pairs) ≤ total count whiles = tries_total (dead_tries (is_there whiles) whiles) whiles in
      omega (arith, first, second, third)

  pub ordered_total : (order : ℕ) (pairs : List Pair) → total count (ordered_blocks order pairs) ≡ total count pairs
  ordered_total order [] = refl
  ordered_total order (p ∷ pairs) = ap (λ (n : ℕ). count p.1.instructions + n) (ordered_total (order_after order p) pairs)

  pub marked_total : (edges : List Edge) (pairs : List Pair) → total count (with_predecessors edges pairs) ≡ total count pairs
  marked_total edges [] = refl
  marked_total edges (p ∷ pairs) = ap (λ (n : ℕ). count p.1.instructions + n) (marked_total edges pairs)
