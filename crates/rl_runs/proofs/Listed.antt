-- The moves of a builder keep what blocks list.
use Rattle.std.proofs.Common.{◌≡◌, ℕ, zero, suc, ◌+◌, ◌<◌, ◌≤◌, inl, inr, ◌++◌, false, List, [], ◌∷◌, All}
use Rattle.std.proofs.Common.{length, length-append, append-nil, append_assoc, map, Option, Some, None, refl, sym, ap, ◌∙◌, subst}
use Rattle.std.proofs.Common.{arith}
use Rattle.std.proofs.lemmas.List.{map-append}
use Rattle.std.proofs.lemmas.List.Elements.{All-append, All-nil, All-push}
use Rattle.rl_base.proofs.DistinctLists.{IsIn, distinct_none, distinct_push}
use Rattle.rl_base.proofs.DistinctLists.{in_either}
use Rattle.rl_base.specs.declared.ids.InstructionId.{InstructionId}
use Rattle.rl_base.specs.Distinct.{AreDistinct}
use Rattle.rl_builder.specs.Builder.{completed_by, ended_by, innermost, maybe_throw, new_block, plainly_pushed, pushed}
use Rattle.rl_builder.specs.Builder.{pushed_under, reserved, with_temporary}
use Rattle.rl_builder.specs.declared.blocks.WipBlock.{WipBlock}
use Rattle.rl_builder.specs.Dropped.{is_function_expression}
use Rattle.rl_builder.specs.Temporaries.{temporary, unordered, with_value}
use Rattle.rl_hir.specs.Blocks.{Pair as BlockPair}
use Rattle.rl_hir.specs.declared.instruction.InstructionValue.{InstructionValue}
use Rattle.rl_hir.specs.declared.terminal.Terminal.{Terminal}
use Rattle.rl_hir.specs.Numbered.{listed_in}
use Rattle.rl_order.proofs.NumberedOrders.{listed_below, numbers_below}
use Rattle.rl_order.specs.Numbering.{orders_of}
use Rattle.rl_runs.proofs.Common.{BlockId, Instruction, Span, State}
use Rattle.rl_runs.specs.Listed.{AreBelow, IsListed}

-- The indices of a list.
abbrev pub numbers : List InstructionId → List ℕ
numbers ids = map (λ (id : InstructionId). id.0) ids

-- The block lists indices below `bound`.
abbrev pub ListsBelow : (bound : ℕ) → BlockPair → Type 0
ListsBelow bound b = AreBelow bound b.1.instructions

-- No instruction has an order.
abbrev AreUnordered : List Instruction → Type 0
AreUnordered table = All (λ (i : Instruction). i.order.0 ≡ 0) table

-- No block has predecessors.
abbrev pub AreUnlinked : List BlockPair → Type 0
AreUnlinked blocks = All (λ (b : BlockPair). b.1.preds ≡ []) blocks

-- The index of the instruction that comes next.
abbrev next_index : State → InstructionId
next_index s = record { 0 = length s.table }

-- The indices that completed blocks and the current block list.
abbrev pub all_listed : State → List ℕ
all_listed s = listed_in s.completed ++ numbers s.current.instructions

below_more : (bound later : ℕ) (ids : List InstructionId) → bound ≤ later → AreBelow bound ids → AreBelow later ids
below_more bound later ids le below place default within = omega (arith, le, below place default within)

one_below : (bound : ℕ) → AreBelow (bound + 1) (record { 0 = bound } ∷ [])
one_below bound zero default within = omega arith
one_below bound (suc place) default within = absurd (omega arith)

none_below : (bound : ℕ) (ids : List InstructionId) → ids ≡ [] → AreBelow bound ids
none_below bound ids none place default within = absurd (omega (arith, ap (λ (l : List InstructionId). length l) none))

-- No block lists the end of the table.
end_unlisted : (s : State) → IsListed s → IsIn (all_listed s) (length s.table) → ⊥
end_unlisted s l h = elim (in_either (listed_in s.completed) (numbers s.current.instructions) (length s.table) h) [
  | inl completed ↦ never (listed_below (length s.table) s.completed l.completed (length s.table) completed)
  | inr current ↦ never (numbers_below (length s.table) s.current.instructions l.current (length s.table) current)
]
  where
    never : length s.table < length s.table → ⊥
    never below = absurd (omega arith)

-- An instruction without an order that makes no function is appended.
pub listed_plain : (s : State) (i : Instruction) → i.order.0 ≡ 0 → is_function_expression i.value ≡ false → IsListed s
    → IsListed (plainly_pushed s i)
listed_plain s i unnumbered plain l = record {
  completed = λ place default within. below_more (length s.table) _ _ longer (l.completed place default within);
  current = All-append (λ (id : InstructionId). id.0 < length (s.table ++ i ∷ [])) s.current.instructions (next_index s ∷ [])
      (below_more (length s.table) _ s.current.instructions longer l.current)
      (subst (λ (n : ℕ). AreBelow n (next_index s ∷ [])) (sym (length-append s.table (i ∷ []))) (one_below (length s.table)));
  counted = simp length-append (omega (arith, l.counted));
  once = subst (λ (indices : List ℕ). AreDistinct indices) pushed_last
      (distinct_push (all_listed s) (length s.table) l.once (end_unlisted s l));
  unordered = All-push (λ (j : Instruction). j.order.0 ≡ 0) s.table i l.unordered unnumbered;
  no_functions = All-push (λ (j : Instruction). is_function_expression j.value ≡ false) s.table i l.no_functions plain;
  predecessors = l.predecessors;
}
  where
    longer : length s.table ≤ length (s.table ++ i ∷ [])
    longer = simp length-append (omega arith)

    pushed_last : all_listed s ++ length s.table ∷ []
        ≡ listed_in s.completed ++ numbers (s.current.instructions ++ next_index s ∷ [])
    pushed_last =
        append_assoc (listed_in s.completed) (numbers s.current.instructions) (length s.table ∷ [])
        ∙ ap (λ (indices : List ℕ). listed_in s.completed ++ indices)
        (sym (map-append (λ (id : InstructionId). id.0) s.current.instructions (next_index s ∷ [])))

-- Counters that change no list.

pub listed_reserved : (s : State) → IsListed s → IsListed (reserved s)
listed_reserved s l =
    record { completed = l.completed; current = l.current; counted = l.counted; once = l.once; unordered = l.unordered; no_functions = l.no_functions; predecessors = l.predecessors }

pub listed_temporary : (s : State) (span : Option Span) → IsListed s → IsListed (with_temporary s span)
listed_temporary s span l =
    record { completed = l.completed; current = l.current; counted = l.counted; once = l.once; unordered = l.unordered; no_functions = l.no_functions; predecessors = l.predecessors }

pub orders_append : (xs ys : List BlockPair) → orders_of (xs ++ ys) ≡ orders_of xs + orders_of ys
orders_append [] ys = omega arith
orders_append (x ∷ xs) ys =
    let rest : orders_of (xs ++ ys) ≡ orders_of xs + orders_of ys = orders_append xs ys in
    omega (arith, rest)

listed_append : (xs ys : List BlockPair) → listed_in (xs ++ ys) ≡ listed_in xs ++ listed_in ys
listed_append [] ys = refl
listed_append (x ∷ xs) ys =
    ap (λ (indices : List ℕ). numbers x.1.instructions ++ indices) (listed_append xs ys)
    ∙ sym (append_assoc (numbers x.1.instructions) (listed_in xs) (listed_in ys))

pub listed_completed : (s : State) (t : Terminal) (next : WipBlock) → next.instructions ≡ [] → IsListed s
    → IsListed (completed_by s t next)
listed_completed s t next none l = record {
  completed = All-push (ListsBelow (length s.table)) s.completed ended l.completed l.current;
  current = none_below (length s.table) next.instructions none;
  counted =
      let one : orders_of (s.completed ++ ended ∷ []) ≡ orders_of s.completed + orders_of (ended ∷ []) =
      orders_append s.completed (ended ∷ []) in
      let empty : length next.instructions ≡ 0 = ap (λ (ids : List InstructionId). length ids) none in
      let more : length (s.completed ++ ended ∷ []) ≡ length s.completed + 1 = length-append s.completed (ended ∷ []) in
      omega (arith, one, empty, more, l.counted);
  once = subst (λ (indices : List ℕ). AreDistinct indices) (sym same) l.once;
  unordered = l.unordered;
  no_functions = l.no_functions;
  predecessors = All-push (λ (b : BlockPair). b.1.preds ≡ []) s.completed ended l.predecessors refl;
}
  where
    ended : BlockPair
    ended = ended_by s.current t

    same : listed_in (s.completed ++ ended ∷ []) ++ numbers next.instructions ≡ all_listed s
    same =
        ap (λ (ids : List InstructionId). listed_in (s.completed ++ ended ∷ []) ++ numbers ids) none
        ∙ append-nil (listed_in (s.completed ++ ended ∷ []))
        ∙ listed_append s.completed (ended ∷ [])
        ∙ ap (λ (indices : List ℕ). listed_in s.completed ++ indices) (append-nil (numbers s.current.instructions))

-- An instruction under the innermost handler, and a value that goes into a fresh identifier.

listed_under : (o : Option BlockId) (s : State) (i : Instruction) → i.order.0 ≡ 0 → is_function_expression i.value ≡ false → IsListed s
    → IsListed (pushed_under o s i)
listed_under None s i unnumbered plain l = listed_plain s i unnumbered plain l
listed_under (Some handler) s i unnumbered plain l =
    listed_completed (reserved (plainly_pushed s i)) (maybe_throw s.env.next_block handler i.span)
    (new_block s.env.next_block s.current.kind) refl
    (listed_reserved (plainly_pushed s i) (listed_plain s i unnumbered plain l))

pub listed_pushed : (s : State) (i : Instruction) → i.order.0 ≡ 0 → is_function_expression i.value ≡ false → IsListed s
    → IsListed (pushed s i)
listed_pushed s i unnumbered plain l = listed_under (innermost s.handlers) s i unnumbered plain l

pub listed_value : (s : State) (v : InstructionValue) (span : Option Span) → is_function_expression v ≡ false → IsListed s
    → IsListed (with_value s v span)
listed_value s v span plain l =
    listed_pushed (with_temporary s span) (unordered (temporary s span) v span) refl plain (listed_temporary s span l)

-- A builder that has neither blocks nor instructions.
pub listed_none : (s : State) → s.completed ≡ [] → s.current.instructions ≡ [] → s.table ≡ [] → IsListed s
listed_none s completed instructions table = record {
  completed = subst (λ (blocks : List BlockPair). All (ListsBelow (length s.table)) blocks) (sym completed)
      (All-nil (ListsBelow (length s.table)));
  current = none_below (length s.table) s.current.instructions instructions;
  counted =
      let orders : orders_of s.completed ≡ 0 = ap orders_of completed in
      let listed : length s.current.instructions ≡ 0 = ap (λ (l : List InstructionId). length l) instructions in
      let rows : length s.table ≡ 0 = ap (λ (l : List Instruction). length l) table in
      let blocks : length s.completed ≡ 0 = ap (λ (l : List BlockPair). length l) completed in
      omega (arith, orders, listed, rows, blocks);
  once = subst (λ (indices : List ℕ). AreDistinct indices) (sym nothing) distinct_none;
  unordered = subst (λ (l : List Instruction). AreUnordered l) (sym table) (All-nil (λ (i : Instruction). i.order.0 ≡ 0));
  no_functions = subst (λ (l : List Instruction). All (λ (i : Instruction). is_function_expression i.value ≡ false) l) (sym table)
      (All-nil (λ (i : Instruction). is_function_expression i.value ≡ false));
  predecessors = subst (λ (blocks : List BlockPair). AreUnlinked blocks) (sym completed)
      (All-nil (λ (b : BlockPair). b.1.preds ≡ []));
}
  where
    nothing : all_listed s ≡ []
    nothing =
        ap (λ (blocks : List BlockPair). listed_in blocks ++ numbers s.current.instructions) completed
        ∙ ap (λ (ids : List InstructionId). numbers ids) instructions
