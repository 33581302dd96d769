-- The instructions that the blocks of a built graph list (`HoldsNodes`): each once at most, and those of reached blocks.
use Rattle.std.proofs.Common.{◌≡◌, ℕ, zero, suc, ◌+◌, ◌≤◌, Bool, ◌&&◌, if◌then◌else◌, Option, Some, None, List, [], ◌∷◌, ◌++◌}
use Rattle.std.proofs.Common.{inl, inr, nat_eq, eq-eqb, map, slice_get, refl, sym, ap, ◌∙◌, subst, arith}
use Rattle.std.proofs.lemmas.Bool.{ne_eqb}
use Rattle.std.proofs.lemmas.Bool.Decides.{eqb_tells}
use Rattle.std.specs.Option.{option_map}
use Rattle.rl_base.proofs.DistinctLists.{IsIn, in_left, in_right}
use Rattle.rl_base.specs.Distinct.{AreDistinct}
use Rattle.rl_base.specs.declared.ids.BlockId.{BlockId}
use Rattle.rl_base.specs.declared.ids.InstructionId.{InstructionId}
use Rattle.rl_builder.specs.Build.{IsBuilt, graph_of}
use Rattle.rl_builder.specs.Builder.{State}
use Rattle.rl_hir.specs.Blocks.{Pair as BlockPair, block_at}
use Rattle.rl_hir.specs.Numbered.{listed_in}
use Rattle.rl_hir.specs.declared.environment.Environment.{Environment}
use Rattle.rl_hir.specs.declared.function.BasicBlock.{BasicBlock}
use Rattle.rl_hir.specs.declared.instruction.Instruction.{Instruction}
use Rattle.rl_lower.proofs.Linked.{built_plain}
use Rattle.rl_lowered.proofs.Listed.{distinct_occurs}
use Rattle.rl_lowered.specs.Listing.{occurrences}
use Rattle.rl_machine.proofs.Cleaned.{cleaned_lists, lists}
use Rattle.rl_machine.proofs.KeptRuns.{no_preds_ordered}
use Rattle.rl_machine.specs.Machine.{Graph}
use Rattle.rl_model.specs.Counted.{Counted}
use Rattle.rl_order.proofs.KeepsReached.{ends_reached}
use Rattle.rl_order.proofs.Pruning.{cleaned_once, ordered_once}
use Rattle.rl_order.specs.Numbering.{order_after, ordered_blocks}
use Rattle.rl_order.specs.PredecessorWalk.{with_predecessors}
use Rattle.rl_order.specs.Prune.{cleaned}
use Rattle.rl_order.specs.Reached.{IsReached}
use Rattle.rl_order.specs.declared.predecessors.Edge.{Edge}
use Rattle.rl_promises.specs.Held.{found_one, is_of, is_span, listed, listed_at, times}
use Rattle.rl_runs.proofs.Graphs.{FoundAt, found_at, get_map, without_order}
use Rattle.rl_runs.proofs.Listed.{numbers}

abbrev one_if : Bool → ℕ
one_if b = if b then 1 else 0

-- 1 of an instruction that the key counts, else 0.
abbrev pub weight : Counted → Instruction → ℕ
weight key i = if is_of key.kinds i.value && is_span key.span i.span then 1 else 0

-- The instructions at these indices that the key counts.
abbrev pub times_at : Counted → List Instruction → List ℕ → ℕ
times_at key table [] = 0
times_at key table (n ∷ ns) = times key (found_one (slice_get table n)) + times_at key table ns

module _ (key : Counted) where
  pub times_append : (xs ys : List Instruction) → times key (xs ++ ys) ≡ times key xs + times key ys
  times_append [] ys = omega arith
  times_append (x ∷ xs) ys =
      let rest : times key (xs ++ ys) ≡ times key xs + times key ys = times_append xs ys in omega (arith, rest)

  at_append : (table : List Instruction) (ns ms : List ℕ) → times_at key table (ns ++ ms) ≡ times_at key table ns + times_at key table ms
  at_append table [] ms = omega arith
  at_append table (n ∷ ns) ms =
      let rest : times_at key table (ns ++ ms) ≡ times_at key table ns + times_at key table ms =
      at_append table ns ms in omega (arith, rest)

  at_numbers : (table : List Instruction) (ids : List InstructionId) → times key (listed_at table ids) ≡ times_at key table (numbers ids)
  at_numbers table [] = refl
  at_numbers table (id ∷ ids) =
      let rest : times key (listed_at table ids) ≡ times_at key table (numbers ids) = at_numbers table ids in
      let both = times_append (found_one (slice_get table id.0)) (listed_at table ids) in
      omega (arith, rest, both)

  -- The instructions that blocks list stand at the indices that they list.
  pub times_listed : (table : List Instruction) (blocks : List BlockPair)
      → times key (listed table blocks) ≡ times_at key table (listed_in blocks)
  times_listed table [] = refl
  times_listed table (b ∷ blocks) =
      let rest : times key (listed table blocks) ≡ times_at key table (listed_in blocks) = times_listed table blocks in
      let here : times key (listed_at table b.1.instructions) ≡ times_at key table (numbers b.1.instructions) =
      at_numbers table b.1.instructions in
      let both = times_append (listed_at table b.1.instructions) (listed table blocks) in
      let split = at_append table (numbers b.1.instructions) (listed_in blocks) in
      omega (arith, rest, here, both, split)

  -- Orders do not count.
  pub times_plain : (xs : List Instruction) → times key (map without_order xs) ≡ times key xs
  times_plain [] = refl
  times_plain (x ∷ xs) = ap (λ (n : ℕ). weight key x + n) (times_plain xs)

  -- An index that is listed counts.
  pub times_in : (table : List Instruction) (n : ℕ) (i : Instruction) (ns : List ℕ) → IsIn ns n → slice_get table n ≡ Some i
      → weight key i ≡ 1
      → 1 ≤ times_at key table ns
  times_in table n i ns h there one = at ns h.index h.found
    where
      at : (ms : List ℕ) (index : ℕ) → slice_get ms index ≡ Some n → 1 ≤ times_at key table ms
      at [] index found = absurd (cc)
      at (m ∷ ms) zero found =
          let same : m ≡ n = cc in
          let here : times key (found_one (slice_get table m)) ≡ weight key i + 0 =
          ap (λ (k : ℕ). times key (found_one (slice_get table k))) same ∙ ap (λ (o : Option Instruction). times key (found_one o)) there in
          omega (arith, here, one)
      at (m ∷ ms) (suc index) found = let rest : 1 ≤ times_at key table ms = at ms index found in omega (arith, rest)

  -- Indices behind the first.
  abbrev down : List ℕ → List ℕ
  down [] = []
  down (zero ∷ ns) = down ns
  down (suc n ∷ ns) = n ∷ down ns

  other : (n m : ℕ) (ns : List ℕ) → (n ≡ m → ⊥) → occurrences n (m ∷ ns) ≡ 0 + occurrences n ns
  other n m ns apart = ap (λ (b : Bool). (if b then 1 else 0) + occurrences n ns) (ne_eqb n m apart)

  eq_suc : (n m : ℕ) → nat_eq (suc n) (suc m) ≡ nat_eq n m
  eq_suc n m = elim (eqb_tells n m) [
    | inl t ↦ eq-eqb (suc n) (suc m) (ap (λ (k : ℕ). suc k) t.1) ∙ sym t.0
    | inr t ↦ ne_eqb (suc n) (suc m) (λ e. t.1 (omega (arith, e))) ∙ sym t.0
  ]

  down_occurs : (n : ℕ) (ns : List ℕ) → occurrences n (down ns) ≡ occurrences (suc n) ns
  down_occurs n [] = refl
  down_occurs n (zero ∷ ns) =
      let rest : occurrences n (down ns) ≡ occurrences (suc n) ns = down_occurs n ns in
      let none : occurrences (suc n) (zero ∷ ns) ≡ 0 + occurrences (suc n) ns = other (suc n) zero ns (λ e. absurd (omega (arith, e))) in
      omega (arith, rest, none)
  down_occurs n (suc m ∷ ns) =
      let rest : occurrences n (down ns) ≡ occurrences (suc n) ns = down_occurs n ns in
      let here : one_if (nat_eq (suc n) (suc m)) ≡ one_if (nat_eq n m) = ap one_if (eq_suc n m) in
      omega (arith, rest, here)

  abbrev weighted : (count : ℕ) → ℕ → ℕ
  weighted zero w = 0
  weighted (suc count) w = w + weighted count w

  weighted_more : (count less w : ℕ) → count ≡ 1 + less → weighted count w ≡ w + weighted less w
  weighted_more zero less w is = absurd (omega (arith, is))
  weighted_more (suc count) less w is = let same : count ≡ less = omega (arith, is) in ap (λ (n : ℕ). w + weighted n w) same

  weighted_once : (count w : ℕ) → count ≤ 1 → weighted count w ≤ w
  weighted_once zero w few = omega arith
  weighted_once (suc zero) w few = omega arith
  weighted_once (suc (suc count)) w few = absurd (omega (arith, few))

  first_apart : (i : Instruction) (table : List Instruction) (ns : List ℕ)
      → times_at key (i ∷ table) ns ≡ weighted (occurrences 0 ns) (weight key i) + times_at key table (down ns)
  first_apart i table [] = refl
  first_apart i table (zero ∷ ns) =
      let rest : times_at key (i ∷ table) ns ≡ weighted (occurrences 0 ns) (weight key i) + times_at key table (down ns) =
      first_apart i table ns in
      let more : weighted (occurrences 0 (zero ∷ ns)) (weight key i) ≡ weight key i + weighted (occurrences 0 ns) (weight key i) =
      weighted_more (occurrences 0 (zero ∷ ns)) (occurrences 0 ns) (weight key i) refl in
      omega (arith, rest, more)
  first_apart i table (suc n ∷ ns) =
      let rest : times_at key (i ∷ table) ns ≡ weighted (occurrences 0 ns) (weight key i) + times_at key table (down ns) =
      first_apart i table ns in
      let none : occurrences 0 (suc n ∷ ns) ≡ 0 + occurrences 0 ns = other 0 (suc n) ns (λ e. absurd (omega (arith, e))) in
      let less : occurrences 0 (suc n ∷ ns) ≡ occurrences 0 ns = omega (arith, none) in
      let same : weighted (occurrences 0 (suc n ∷ ns)) (weight key i) ≡ weighted (occurrences 0 ns) (weight key i) =
      ap (λ (k : ℕ). weighted k (weight key i)) less in
      omega (arith, rest, same)

  none_at : (ns : List ℕ) → times_at key [] ns ≡ 0
  none_at [] = refl
  none_at (n ∷ ns) = let rest : times_at key [] ns ≡ 0 = none_at ns in omega (arith, rest)

  -- Indices that are listed once at most count no more than the table.
  pub listed_once : (table : List Instruction) (ns : List ℕ) → ((n : ℕ) → occurrences n ns ≤ 1) → times_at key table ns ≤ times key table
  listed_once [] ns few = let none : times_at key [] ns ≡ 0 = none_at ns in omega (arith, none)
  listed_once (i ∷ table) ns few =
      let rest : times_at key table (down ns) ≤ times key table =
      listed_once table (down ns) (λ n. let same : occurrences n (down ns) ≡ occurrences (suc n) ns =
      down_occurs n ns in omega (arith, same, few (suc n))) in
      let first : weighted (occurrences 0 ns) (weight key i) ≤ weight key i = weighted_once (occurrences 0 ns) (weight key i) (few 0) in
      omega (arith, rest, first, first_apart i table ns)

-- An instruction that has another order in the built table.
pub plain_at : (xs ys : List Instruction) (n : ℕ) (i : Instruction) → map without_order ys ≡ map without_order xs → slice_get xs n ≡ Some i
    → (j : Instruction) × (slice_get ys n ≡ Some j) × (without_order j ≡ without_order i)
plain_at xs ys n i same there =
    by_found (slice_get ys n) refl (sym (get_map without_order ys n) ∙ ap (λ (l : List Instruction). slice_get l n) same
    ∙ get_map without_order xs n ∙ ap (λ (o : Option Instruction). option_map without_order o) there)
  where
    by_found : (o : Option Instruction) → slice_get ys n ≡ o → option_map without_order (slice_get ys n) ≡ Some (without_order i)
        → (j : Instruction) × (slice_get ys n ≡ Some j) × (without_order j ≡ without_order i)
    by_found None is e =
        absurd (let never : None ≡ Some (without_order i) = sym (ap (λ (o : Option Instruction). option_map without_order o) is) ∙ e in cc)
    by_found (Some j) is e =
        let both : Some (without_order j) ≡ Some (without_order i) =
        sym (ap (λ (o : Option Instruction). option_map without_order o) is) ∙ e in
        (j, is, cc)

-- The indices that the blocks of a built graph list.

linked_listed : (edges : List Edge) (pairs : List BlockPair) → listed_in (with_predecessors edges pairs) ≡ listed_in pairs
linked_listed edges [] = refl
linked_listed edges (p ∷ pairs) = ap (λ (rest : List ℕ). numbers p.1.instructions ++ rest) (linked_listed edges pairs)

ordered_listed : (order : ℕ) (pairs : List BlockPair) → listed_in (ordered_blocks order pairs) ≡ listed_in pairs
ordered_listed order [] = refl
ordered_listed order (p ∷ pairs) = ap (λ (rest : List ℕ). numbers p.1.instructions ++ rest) (ordered_listed (order_after order p) pairs)

abbrev in_lists : List (List InstructionId) → List ℕ
in_lists [] = []
in_lists (l ∷ ls) = numbers l ++ in_lists ls

lists_listed : (pairs : List BlockPair) → listed_in pairs ≡ in_lists (lists pairs)
lists_listed [] = refl
lists_listed (p ∷ pairs) = ap (λ (rest : List ℕ). numbers p.1.instructions ++ rest) (lists_listed pairs)

-- The indices of a block that stands in the list.
in_listed : (pairs : List BlockPair) (index : ℕ) (p : BlockPair) (n : ℕ) → slice_get pairs index ≡ Some p
    → IsIn (numbers p.1.instructions) n
    → IsIn (listed_in pairs) n
in_listed [] index p n found h = absurd (cc)
in_listed (q ∷ pairs) zero p n found h =
    (let same : p ≡ q =
    cc in in_left (numbers q.1.instructions) (listed_in pairs) n (subst (λ (x : BlockPair). IsIn (numbers x.1.instructions) n) same h))
in_listed (q ∷ pairs) (suc index) p n found h = in_right (numbers q.1.instructions) (listed_in pairs) n (in_listed pairs index p n found h)

module _ (s : State) (built : Graph) (env : Environment) (b : IsBuilt s built env) where
  built_listed : listed_in built.blocks ≡ listed_in (cleaned b.pruned.ordered)
  built_listed =
      ap listed_in b.pruned.marked.blocks ∙ linked_listed b.pruned.marked.edges (ordered_blocks 1 (cleaned b.pruned.ordered))
      ∙ ordered_listed 1 (cleaned b.pruned.ordered)

  -- An index that the builder lists once is listed once at most.
  pub built_once : AreDistinct (listed_in (graph_of s)) → (n : ℕ) → occurrences n (listed_in built.blocks) ≤ 1
  built_once once =
      distinct_occurs (listed_in built.blocks)
      (subst AreDistinct (sym built_listed) (cleaned_once b.pruned.ordered
      (ordered_once (graph_of s) s.entry b.pruned.ordered b.pruned.order once)))

  -- A reached block's instructions are listed.
  pub built_reached : ((id : BlockId) (block : BasicBlock) → block_at (graph_of s) id ≡ Some block → block.preds ≡ [])
      → (id : ℕ) (block : BasicBlock) → block_at (graph_of s) (record { 0 = id }) ≡ Some block
      → IsReached (graph_of s) s.entry (record { 0 = id })
      → (n : ℕ) → IsIn (numbers block.instructions) n → IsIn (listed_in built.blocks) n
  built_reached unlinked id block found reached n h =
      subst (λ (l : List ℕ). IsIn l n) (sym listed_same)
      (in_listed b.pruned.ordered at.index (at.own, block) n at.found h)
    where
      kept : block_at b.pruned.ordered (record { 0 = id }) ≡ Some block
      kept =
          ends_reached (graph_of s) s.entry b.pruned.order.end b.pruned.ordered b.pruned.order.walk b.pruned.order.blocks
          (record { 0 = id }) reached ∙ found

      at : FoundAt b.pruned.ordered id block
      at = found_at b.pruned.ordered id block kept

      listed_same : listed_in built.blocks ≡ listed_in b.pruned.ordered
      listed_same =
          built_listed ∙ lists_listed (cleaned b.pruned.ordered)
          ∙ ap in_lists (cleaned_lists b.pruned.ordered (no_preds_ordered (graph_of s) b.pruned.ordered s.entry b.pruned.order unlinked))
          ∙ sym (lists_listed b.pruned.ordered)

  -- An instruction of the builder's table, with an order.
  pub built_at : (n : ℕ) (i : Instruction) → slice_get s.table n ≡ Some i
      → (j : Instruction) × (slice_get built.table n ≡ Some j) × (without_order j ≡ without_order i)
  built_at n i there = plain_at s.table built.table n i (built_plain s built env b) there
