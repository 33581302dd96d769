-- The instructions that blocks list behind the moves of the frames and of the builder.
use Rattle.std.proofs.Common.{◌≡◌, ℕ, ◌+◌, ◌<◌, ◌≤◌, ◌++◌, Bool, false, List, [], ◌∷◌, All, length, length-append, append-nil}
use Rattle.std.proofs.Common.{Option, Some, None, refl, sym, ap, ◌∙◌, subst, arith}
use Rattle.std.proofs.lemmas.List.Elements.{All-append, All-cons, All-head, All-nil, All-push, All-tail}
use Rattle.rl_base.specs.declared.ids.InstructionId.{InstructionId}
use Rattle.rl_base.specs.declared.operator.BinaryOperator.TheVariants as operator
use Rattle.rl_builder.specs.Builder.{completed_by, ended_by, entered, innermost, maybe_throw, new_block, plainly_pushed, pushed}
use Rattle.rl_builder.specs.Builder.{pushed_under, reserved, with_temporary}
use Rattle.rl_builder.specs.declared.blocks.WipBlock.{WipBlock}
use Rattle.rl_builder.specs.Dropped.{is_function_expression}
use Rattle.rl_builder.specs.Temporaries.{temporary, unordered, with_value}
use Rattle.rl_frames.specs.Frames.{ForParts, IfParts, LogicalParts, SequenceParts, TernaryParts, aside_of}
use Rattle.rl_frames.specs.Frames.{for_opened, if_ended}
use Rattle.rl_frames.specs.Frames.{logical_ended, logical_righted}
use Rattle.rl_frames.specs.Frames.{sequence_ended, ternary_alternated, ternary_aside, ternary_consequent}
use Rattle.rl_frames.specs.Parts.{chain_begun, chain_reserved, chain_undefined, if_end, link_begun, link_end, link_finished, link_object}
use Rattle.rl_frames.specs.Parts.{loads, logical_begun, logical_entered, logical_left, logical_place}
use Rattle.rl_hir.specs.Blocks.{Pair as BlockPair}
use Rattle.rl_hir.specs.declared.function.BlockKind.{BlockKind}
use Rattle.rl_hir.specs.declared.function.BlockKind.TheVariants as blocks
use Rattle.rl_hir.specs.declared.instruction.Instruction.{Instruction}
use Rattle.rl_hir.specs.declared.instruction.InstructionKind.TheVariants as variables
use Rattle.rl_hir.specs.declared.instruction.InstructionValue.TheVariants as values
use Rattle.rl_hir.specs.declared.instruction.PrimitiveValue.TheVariants as primitives
use Rattle.rl_hir.specs.declared.terminal.GotoVariant.{GotoVariant}
use Rattle.rl_hir.specs.declared.terminal.GotoVariant.TheVariants as gotos
use Rattle.rl_hir.specs.declared.terminal.Terminal.{Terminal}
use Rattle.rl_hir.specs.declared.terminal.TerminalKind.TheVariants as kinds
use Rattle.rl_hir.specs.Numbered.{listed_in}
use Rattle.rl_lowered.proofs.ChainFrames.{linked_state}
use Rattle.rl_lowered.proofs.Common.{BlockId, InstructionValue, Place, Span, State}
use Rattle.rl_lowered.proofs.ItemBlocks.{Stays}
use Rattle.rl_lowered.proofs.Occurring.{occurs_append, occurs_blocks, occurs_numbers, within_last, within_none, within_then}
use Rattle.rl_lowered.specs.Listing.{ListsSince, ListsTable, all_listed, occurrences, one_within}
use Rattle.rl_optional_frames.specs.Frames.{default_at, default_ended, default_tested, link_at, link_objected}
use Rattle.rl_optional_frames.specs.Parts.{compared, comparison, default_begun, default_end, default_given, default_other, link_opened}
use Rattle.rl_optional_frames.specs.Parts.{undefined_made}
use Rattle.rl_order.specs.Numbering.{orders_of}
use Rattle.rl_runs.proofs.Listed.{ListsBelow, numbers, orders_append}
use Rattle.rl_runs.specs.Listed.{AreBelow}
use Rattle.rl_runs.specs.Moves.{branch, ends_by, goto, last_hole, next_hole, stored_in}
use Rattle.rl_runs.specs.Moves.{without_scope}

left_all : {X : Type 0} (P : X → Type 0) (xs ys : List X) → All P (xs ++ ys) → All P xs
left_all P [] ys all = All-nil P
left_all P (x ∷ xs) ys all = All-cons P x xs (All-head P x (xs ++ ys) all) (left_all P xs ys (All-tail P x (xs ++ ys) all))

right_all : {X : Type 0} (P : X → Type 0) (xs ys : List X) → All P (xs ++ ys) → All P ys
right_all P [] ys all = all
right_all P (x ∷ xs) ys all = right_all P xs ys (All-tail P x (xs ++ ys) all)

below_more : (bound later : ℕ) (ids : List InstructionId) → bound ≤ later → AreBelow bound ids → AreBelow later ids
below_more bound later ids le below place default inside = omega (arith, le, below place default inside)

-- Parts one behind the other.

pub lists_then : (a b c : State) → ListsSince a b → ListsSince b c → ListsSince a c
lists_then a b c j k = record {
  longer = omega (arith, j.longer, k.longer);
  within = λ l. k.within (j.within l);
  once = λ n. omega (arith, j.once n, k.once n, within_then (length a.table) (length b.table) (length c.table) n j.longer k.longer);
  counted = omega (arith, j.counted, k.counted);
  unordered = λ all. k.unordered (j.unordered all);
  no_functions = λ all. k.no_functions (j.no_functions all);
  predecessors = λ all. k.predecessors (j.predecessors all);
}

-- All of a state that the listing speaks of.
record Lists : Type 0 where
  pub completed : List BlockPair
  pub listed : List InstructionId
  pub table : List Instruction

abbrev lists_of : State → Lists
lists_of s = record { completed = s.completed; listed = s.current.instructions; table = s.table }

-- A move that changes none of it.
pub lists_same : (s t : State) → lists_of s ≡ lists_of t → ListsSince s t
lists_same s t same = record {
  longer = (let longer : length s.table ≡ length t.table = ap (λ (v : Lists). length v.table) same in omega (arith, longer));
  within = λ l. record {
    completed = subst (λ (v : Lists). All (ListsBelow (length v.table)) v.completed) same l.completed;
    current = subst (λ (v : Lists). AreBelow (length v.table) v.listed) same l.current;
  };
  once = λ n.
      let none : occurrences n (all_listed s) ≡ occurrences n (all_listed s) + one_within (length s.table) (length s.table) n =
      omega (arith, within_none (length s.table) n) in
      subst
      (λ (v : Lists). occurrences n (listed_in v.completed ++ numbers v.listed)
      ≡ occurrences n (all_listed s) + one_within (length s.table) (length v.table) n) same none;
  counted = subst
      (λ (v : Lists). orders_of v.completed + length v.listed + (length s.table + length s.completed)
      ≡ orders_of s.completed + length s.current.instructions + (length v.table + length v.completed)) same refl;
  unordered = λ all. subst (λ (v : Lists). All (λ (i : Instruction). i.order.0 ≡ 0) v.table) same all;
  no_functions = λ all. subst (λ (v : Lists). All (λ (i : Instruction). is_function_expression i.value ≡ false) v.table) same all;
  predecessors = λ all. subst (λ (v : Lists). All (λ (b : BlockPair). b.1.preds ≡ []) v.completed) same all;
}

pub lists_refl : (s : State) → ListsSince s s
lists_refl s = lists_same s s refl

-- The indices that an outer block lists, which was set aside, in front of those of the current block.
abbrev pub beside : List InstructionId → State → State
beside outer s = record s { current = record s.current { instructions = outer ++ s.current.instructions } }

occurs_beside : (n : ℕ) (outer : List InstructionId) (s : State)
    → occurrences n (all_listed (beside outer s)) ≡ occurrences n (numbers outer) + occurrences n (all_listed s)
occurs_beside n outer s =
    let with_both = occurs_append n (listed_in s.completed) (numbers (outer ++ s.current.instructions)) in
    let alone = occurs_append n (listed_in s.completed) (numbers s.current.instructions) in
    omega (arith, with_both, alone, occurs_numbers n outer s.current.instructions)

-- A part in a block of its own lists the same beside the outer block.
pub lists_beside : (outer : List InstructionId) (a b : State) → ListsSince a b → ListsSince (beside outer a) (beside outer b)
lists_beside outer a b k = record {
  longer = k.longer;
  within = λ l.
      let own : AreBelow (length a.table) outer =
      left_all (λ (id : InstructionId). id.0 < length a.table) outer a.current.instructions l.current in
      let before : ListsTable a = record {
        completed = l.completed;
        current = right_all (λ (id : InstructionId). id.0 < length a.table) outer a.current.instructions l.current;
      } in
      let behind : ListsTable b = k.within before in record {
        completed = behind.completed;
        current = All-append (λ (id : InstructionId). id.0 < length b.table) outer b.current.instructions
            (below_more (length a.table) (length b.table) outer k.longer own) behind.current;
      };
  once = λ n. omega (arith, k.once n, occurs_beside n outer a, occurs_beside n outer b);
  counted = omega (arith, k.counted, length-append outer a.current.instructions, length-append outer b.current.instructions);
  unordered = k.unordered;
  no_functions = k.no_functions;
  predecessors = k.predecessors;
}

-- The current block is complete, and the block goes on that was set aside.
pub lists_left : (s : State) (t : Terminal) (outer : WipBlock)
    → ListsSince (beside outer.instructions s) (completed_by s t outer)
lists_left s t outer = record {
  longer = omega arith;
  within = λ l. record {
    completed = All-push (ListsBelow (length s.table)) s.completed ended l.completed
        (right_all (λ (id : InstructionId). id.0 < length s.table) outer.instructions s.current.instructions l.current);
    current = left_all (λ (id : InstructionId). id.0 < length s.table) outer.instructions s.current.instructions l.current;
  };
  once = λ n.
      let one : occurrences n (listed_in (ended ∷ [])) ≡ occurrences n (numbers s.current.instructions) =
      ap (occurrences n) (append-nil (numbers s.current.instructions)) in
      let behind = occurs_append n (listed_in (s.completed ++ ended ∷ [])) (numbers outer.instructions) in
      let before = occurs_append n (listed_in s.completed) (numbers s.current.instructions) in
      let blocks = occurs_blocks n s.completed (ended ∷ []) in
      omega (arith, one, behind, before, blocks, occurs_beside n outer.instructions s, within_none (length s.table) n);
  counted =
      let more : length (s.completed ++ ended ∷ []) ≡ length s.completed + 1 = length-append s.completed (ended ∷ []) in
      omega (arith, more, orders_append s.completed (ended ∷ []), length-append outer.instructions s.current.instructions);
  unordered = λ all. all;
  no_functions = λ all. all;
  predecessors = λ all. All-push (λ (b : BlockPair). b.1.preds ≡ []) s.completed ended all refl;
}
  where
    ended : BlockPair
    ended = ended_by s.current t

-- A fresh block goes on.
pub lists_completed : (s : State) (t : Terminal) (next : WipBlock) → next.instructions ≡ []
    → ListsSince s (completed_by s t next)
lists_completed s t next none =
    lists_then s (beside next.instructions s) (completed_by s t next)
    (lists_same s (beside next.instructions s) (ap (λ (ids : List InstructionId). lists_of (beside ids s)) (sym none)))
    (lists_left s t next)

-- A fresh block is entered, and the current one is set aside.
pub lists_entered : (s t : State) → t.completed ≡ s.completed → t.current.instructions ≡ [] → t.table ≡ s.table
    → ListsSince s (beside s.current.instructions t)
lists_entered s t completed none table = lists_same s (beside s.current.instructions t) same
  where
    here : Lists
    here = lists_of (beside s.current.instructions t)

    same : lists_of s ≡ here
    same =
        ap (λ (ids : List InstructionId). record (lists_of s) { listed = ids }) (sym (append-nil s.current.instructions))
        ∙ ap (λ (ids : List InstructionId). record (lists_of s) { listed = s.current.instructions ++ ids }) (sym none)
        ∙ ap (λ (done : List BlockPair). record here { completed = done; table = s.table }) (sym completed)
        ∙ ap (λ (rows : List Instruction). record here { table = rows }) (sym table)

-- Instructions.

lists_plain : (s : State) (i : Instruction) → i.order.0 ≡ 0 → is_function_expression i.value ≡ false
    → ListsSince s (plainly_pushed s i)
lists_plain s i fresh plain = record {
  longer = omega (arith, longer);
  within = λ l. record {
    completed = λ place default inside.
        below_more (length s.table) (length (s.table ++ i ∷ [])) _ grows (l.completed place default inside);
    current = All-append (λ (id : InstructionId). id.0 < length (s.table ++ i ∷ [])) s.current.instructions (next ∷ [])
        (below_more (length s.table) (length (s.table ++ i ∷ [])) s.current.instructions grows l.current)
        (All-cons (λ (id : InstructionId). id.0 < length (s.table ++ i ∷ [])) next [] (omega (arith, longer))
        (All-nil (λ (id : InstructionId). id.0 < length (s.table ++ i ∷ []))));
  };
  once = λ n.
      let here : one_within (length s.table) (length (s.table ++ i ∷ [])) n ≡ occurrences n (length s.table ∷ []) =
      ap (λ (end : ℕ). one_within (length s.table) end n) longer ∙ within_last (length s.table) n in
      let behind = occurs_append n (listed_in s.completed) (numbers (s.current.instructions ++ next ∷ [])) in
      let before = occurs_append n (listed_in s.completed) (numbers s.current.instructions) in
      omega (arith, here, behind, before, occurs_numbers n s.current.instructions (next ∷ []));
  counted = omega (arith, longer, length-append s.current.instructions (next ∷ []));
  unordered = λ all. All-push (λ (j : Instruction). j.order.0 ≡ 0) s.table i all fresh;
  no_functions = λ all. All-push (λ (j : Instruction). is_function_expression j.value ≡ false) s.table i all plain;
  predecessors = λ all. all;
}
  where
    next : InstructionId
    next = record { 0 = length s.table }

    longer : length (s.table ++ i ∷ []) ≡ length s.table + 1
    longer = length-append s.table (i ∷ [])

    grows : length s.table ≤ length (s.table ++ i ∷ [])
    grows = omega (arith, longer)

-- Under a handler the block ends behind it.
lists_under : (o : Option BlockId) (s : State) (i : Instruction) → i.order.0 ≡ 0 → is_function_expression i.value ≡ false
    → ListsSince s (pushed_under o s i)
lists_under None s i fresh plain = lists_plain s i fresh plain
lists_under (Some handler) s i fresh plain =
    let on : State = reserved (plainly_pushed s i) in
    lists_then s (plainly_pushed s i) (pushed_under (Some handler) s i) (lists_plain s i fresh plain)
    (lists_then (plainly_pushed s i) on (pushed_under (Some handler) s i) (lists_same (plainly_pushed s i) on refl)
    (lists_completed on (maybe_throw s.env.next_block handler i.span) (new_block s.env.next_block s.current.kind) refl))

pub lists_pushed : (s : State) (i : Instruction) → i.order.0 ≡ 0 → is_function_expression i.value ≡ false → ListsSince s (pushed s i)
lists_pushed s i fresh plain = lists_under (innermost s.handlers) s i fresh plain

pub lists_value : (s : State) (v : InstructionValue) (span : Option Span) → is_function_expression v ≡ false
    → ListsSince s (with_value s v span)
lists_value s v span plain =
    lists_then s (with_temporary s span) (with_value s v span) (lists_same s (with_temporary s span) refl)
    (lists_pushed (with_temporary s span) (unordered (temporary s span) v span) refl plain)

lists_stored : (s : State) (place value : Place) (part : Span) → ListsSince s (stored_in s place value part)
lists_stored s place value part = lists_value s (values.StoreLocal variables.Const place value) (Some part) refl

-- Between holes.

pub lists_next : (s : State) (behind : ℕ) (variant : GotoVariant) (part : Span) (kind : BlockKind)
    → ListsSince s (next_hole s behind variant part kind)
lists_next s behind variant part kind =
    lists_then s (reserved s) (next_hole s behind variant part kind) (lists_same s (reserved s) refl)
    (lists_completed (reserved s) (goto behind variant part) (new_block s.env.next_block kind) refl)

pub lists_last : (s : State) (behind : ℕ) (variant : GotoVariant) (part : Span) (outer : WipBlock)
    → ListsSince (beside outer.instructions s) (last_hole s behind variant part outer)
lists_last s behind variant part outer = lists_left s (goto behind variant part) outer

-- The hole ends with its value.
lists_stored_last : (s : State) (place value : Place) (span part : Span) (behind : ℕ) (outer : WipBlock)
    → ListsSince (beside outer.instructions s) (last_hole (stored_in s place value span) behind gotos.Break part outer)
lists_stored_last s place value span part behind outer =
    let stored : State = stored_in s place value span in
    lists_then (beside outer.instructions s) (beside outer.instructions stored) (last_hole stored behind gotos.Break part outer)
    (lists_beside outer.instructions s stored (lists_stored s place value span)) (lists_last stored behind gotos.Break part outer)

-- The body of a loop or of a labelled statement ends.
pub lists_scope_left : (s : State) (behind : ℕ) (variant : GotoVariant) (part : Span) (outer : WipBlock)
    → ListsSince (beside outer.instructions s) (last_hole (without_scope s) behind variant part outer)
lists_scope_left s behind variant part outer =
    let ids : List InstructionId = outer.instructions in
    let left : State = without_scope s in
    lists_then (beside ids s) (beside ids left) (last_hole left behind variant part outer)
    (lists_same (beside ids s) (beside ids left) refl)
    (lists_last left behind variant part outer)

-- Behind it the block ends that was set aside, with the terminal `end`.
pub lists_scope_ended : (s : State) (behind : ℕ) (variant : GotoVariant) (part : Span) (outer : WipBlock) (end : Terminal) (next : WipBlock)
    → next.instructions ≡ []
    → ListsSince (beside outer.instructions s) (completed_by (last_hole (without_scope s) behind variant part outer) end next)
lists_scope_ended s behind variant part outer end next none =
    let gone : State = last_hole (without_scope s) behind variant part outer in
    lists_then (beside outer.instructions s) gone (completed_by gone end next) (lists_scope_left s behind variant part outer)
    (lists_completed gone end next none)

-- The part in front of a loop's body ends, and the body's hole opens.
pub lists_for_opened : (f : ForParts) (s : State) (part : Span) → ListsSince s (for_opened f s part)
lists_for_opened f s part =
    let next : State = next_hole s f.test gotos.Break part blocks.Block in
    lists_then s next (for_opened f s part) (lists_next s f.test gotos.Break part blocks.Block) (lists_same next (for_opened f s part) refl)

pub lists_logical_begun : (s : State) (span left : Span) → ListsSince s (beside s.current.instructions (logical_begun s span left))
lists_logical_begun s span left =
    let outer : List InstructionId = s.current.instructions in
    let entry : State = logical_entered s span left in
    let stored : State = stored_in entry (logical_place s span) (logical_left s left) left in
    lists_then s (beside outer entry) (beside outer (logical_begun s span left)) (lists_entered s entry refl refl refl)
    (lists_beside outer entry (logical_begun s span left)
    (lists_then entry stored (logical_begun s span left) (lists_stored entry (logical_place s span) (logical_left s left) left)
    (lists_next stored s.env.next_block gotos.Break left blocks.Value)))

pub lists_logical_righted : (f : LogicalParts) (s : State) (value : Place) (part : Span) → (aside_of f).1.instructions ≡ []
    → ListsSince (beside (aside_of f).0.instructions s) (logical_righted f s value part)
lists_logical_righted f s value part none =
    let gone : State = last_hole (stored_in s f.place value part) f.behind.id.0 gotos.Break part (aside_of f).0 in
    lists_then (beside (aside_of f).0.instructions s) gone (logical_righted f s value part)
    (lists_stored_last s f.place value part part f.behind.id.0 (aside_of f).0)
    (lists_completed gone (ends_by (kinds.Logical f.operator (aside_of f).1.id f.behind.id) (Some f.span)) (aside_of f).1 none)

pub lists_logical_ended : (f : LogicalParts) (s : State) (value : Place) → f.behind.instructions ≡ []
    → ListsSince s (logical_ended f s value)
lists_logical_ended f s value none =
    let loaded : State = pushed s (loads f.left value f.span) in
    lists_then s loaded (logical_ended f s value) (lists_pushed s (loads f.left value f.span) refl refl)
    (lists_completed loaded (branch f.left f.consequent f.alternate f.behind.id.0 f.span) f.behind none)

pub lists_ternary_consequent : (f : TernaryParts) (s : State) (value : Place) (part : Span)
    → ListsSince s (ternary_consequent f s value part)
lists_ternary_consequent f s value part =
    let stored : State = stored_in s f.place value f.span in
    lists_then s stored (ternary_consequent f s value part) (lists_stored s f.place value f.span)
    (lists_next stored f.behind.id.0 gotos.Break part blocks.Value)

pub lists_ternary_alternated : (f : TernaryParts) (s : State) (value : Place) (part : Span) → (ternary_aside f).1.instructions ≡ []
    → ListsSince (beside (ternary_aside f).0.instructions s) (ternary_alternated f s value part)
lists_ternary_alternated f s value part none =
    let gone : State = last_hole (stored_in s f.place value f.span) f.behind.id.0 gotos.Break part (ternary_aside f).0 in
    lists_then (beside (ternary_aside f).0.instructions s) gone (ternary_alternated f s value part)
    (lists_stored_last s f.place value f.span part f.behind.id.0 (ternary_aside f).0)
    (lists_completed gone (ends_by (kinds.Ternary (ternary_aside f).1.id f.behind.id) (Some f.span)) (ternary_aside f).1 none)

pub lists_sequence_ended : (f : SequenceParts) (s : State) (value : Place) (part : Span) → f.behind.instructions ≡ []
    → ListsSince (beside f.outer.instructions s) (sequence_ended f s value part)
lists_sequence_ended f s value part none =
    let gone : State = last_hole (stored_in s f.place value part) f.behind.id.0 gotos.Break part f.outer in
    lists_then (beside f.outer.instructions s) gone (sequence_ended f s value part)
    (lists_stored_last s f.place value part part f.behind.id.0 f.outer)
    (lists_completed gone (ends_by (kinds.Sequence (record { 0 = f.block }) f.behind.id) (Some f.span)) f.behind none)

pub lists_if_ended : (f : IfParts) (s : State) (test : Place) → f.behind.instructions ≡ [] → ListsSince s (if_ended f s test)
lists_if_ended f s test none = lists_completed s (if_end f.behind.id.0 f.consequent f.alternate test f.span) f.behind none

-- A link of an optional chain, from a state in which it may begin.
link_from : (x s2 s4 : State) (optional : Bool) (f q a : ℕ) (kind : BlockKind) (span : Span) (object place value : Place)
    → ListsSince (link_begun x) s2 → ListsSince (link_object s2 f q a span object) s4
    → ListsSince x (link_finished s4 f x.env.next_block optional kind span place value x.current)
link_from x s2 s4 optional f q a kind span object place value o k =
    let outer : List InstructionId = x.current.instructions in
    let opened : State = link_object s2 f q a span object in
    let shut : State = last_hole (stored_in s4 place value span) f gotos.Break span x.current in
    lists_then x (beside outer (link_begun x)) _ (lists_entered x (link_begun x) refl refl refl)
    (lists_then (beside outer (link_begun x)) (beside outer s2) _ (lists_beside outer (link_begun x) s2 o)
    (lists_then (beside outer s2) (beside outer opened) _
    (lists_beside outer s2 opened (lists_completed s2 (branch object q a f span) (new_block q blocks.Value) refl))
    (lists_then (beside outer opened) (beside outer s4) _ (lists_beside outer opened s4 k)
    (lists_then (beside outer s4) shut _ (lists_stored_last s4 place value span span f x.current)
    (lists_completed shut (link_end f x.env.next_block optional span) (new_block f kind) refl)))))

-- The block in which a chain ends early.
early_from : (s : State) (span : Span) → ListsSince (chain_reserved s span) (chain_begun s span)
early_from s span =
    let outer : List InstructionId = s.current.instructions in
    let y : State = chain_reserved s span in
    let begun : State = entered (reserved y) (new_block (s.env.next_block + 1 + 1) blocks.Value) in
    let made : State = chain_undefined s span in
    lists_then y (beside outer begun) _ (lists_entered y begun refl refl refl)
    (lists_then (beside outer begun) (beside outer made) _
    (lists_beside outer begun made (lists_value begun (values.Primitive primitives.Undefined) (Some span) refl))
    (lists_stored_last made (temporary s (Some span)) (temporary y (Some span)) span span s.env.next_block s.current))

pub lists_link : (alternate : Option BlockId) (s s2 s4 : State) (span : Span) (optional : Bool) (object value : Place)
    → ListsSince (link_opened alternate s span) s2 → ListsSince (link_objected (link_at s span optional alternate) s2 object) s4
    → ListsSince s (linked_state alternate s span optional s4 value)
lists_link (Some alternate) s s2 s4 span optional object value o k =
    let y : State = chain_reserved s span in
    lists_then s y _ (lists_same s y refl)
    (link_from y s2 s4 optional s.env.next_block (s.env.next_block + 1) alternate.0 s.current.kind span object (temporary s (Some span))
    value o k)
lists_link None s s2 s4 span optional object value o k =
    let y : State = chain_reserved s span in
    let x : State = chain_begun s span in
    lists_then s y _ (lists_same s y refl)
    (lists_then y x _ (early_from s span)
    (link_from x s2 s4 optional s.env.next_block (s.env.next_block + 1) (s.env.next_block + 1 + 1) s.current.kind span object
    (temporary s (Some span)) value o k))

-- The moves of the items of a pattern.
pub lists_stays : {s t : State} → Stays s t → ListsSince s t
lists_stays {s} {t} a = lists_same s t same
  where
    same : lists_of s ≡ lists_of t
    same = λ i. record { completed = sym a.completed i; listed = (sym a.current i).instructions; table = sym a.table i }

-- A default.
pub lists_default : (s s2 : State) (default value : Place) (span : Span) → ListsSince (default_begun s span) s2
    → ListsSince s (default_ended (default_at s span value) s2 default)
lists_default s s2 default value span k =
    let n : ℕ = s.env.next_block in
    let f : ℕ = n + 1 in
    let outer : List InstructionId = s.current.instructions in
    let place : Place = temporary s (Some span) in
    let begun : State = default_begun s span in
    let valued : State = stored_in s2 place default span in
    let between : State = default_given s2 f place default span in
    let gone : State = last_hole (stored_in between place value span) f gotos.Break span s.current in
    let tested : State = default_tested (default_at s span value) s2 default in
    let made : State = undefined_made tested span in
    let met : State = compared tested value span in
    lists_then s (beside outer begun) _ (lists_entered s begun refl refl refl)
    (lists_then (beside outer begun) (beside outer s2) _ (lists_beside outer begun s2 k)
    (lists_then (beside outer s2) (beside outer between) _
    (lists_beside outer s2 between
    (lists_then s2 valued between (lists_stored s2 place default span) (lists_next valued f gotos.Break span blocks.Value)))
    (lists_then (beside outer between) gone _ (lists_stored_last between place value span span f s.current)
    (lists_then gone tested _ (lists_completed gone (default_end n f span) (new_block n blocks.Value) refl)
    (lists_then tested made _ (lists_value tested (values.Primitive primitives.Undefined) (Some span) refl)
    (lists_then made met _
    (lists_value made (values.BinaryExpression operator.StrictEquality value (temporary tested (Some span))) (Some span) refl)
    (lists_completed met (branch (comparison tested span) (n + 1 + 1) (default_other s2 place default span) f span)
    (new_block f s.current.kind) refl)))))))
