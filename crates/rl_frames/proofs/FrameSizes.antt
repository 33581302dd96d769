-- The numbers of blocks, types, identifiers and instructions that constructs add, together.
use Rattle.std.proofs.Common.{◌≡◌, ℕ, ◌+◌, ◌≤◌, Bool, true, false, List, length-append, Option, Some, None, arith}
use Rattle.rl_base.specs.declared.operator.LogicalOperator.{LogicalOperator}
use Rattle.rl_builder.specs.Builder.{reserved}
use Rattle.rl_frames.proofs.Common.{Label, Place, Span, State}
use Rattle.rl_frames.specs.Frames.{ForParts, IfParts, LogicalParts, SequenceParts, TernaryParts, if_alternate, if_branched, if_consequent}
use Rattle.rl_frames.specs.Frames.{if_ended}
use Rattle.rl_frames.specs.Frames.{for_bodied, for_ended, for_inited, for_inited_by, for_updated}
use Rattle.rl_frames.specs.Frames.{logical_ended, logical_righted, sequence_ended, ternary_alternated, ternary_consequent, ternary_ended}
use Rattle.rl_frames.specs.Parts.{do_while_body, if_begun, if_finished, label_begun, label_finished, loads, logical_begun, logical_entered}
use Rattle.rl_frames.specs.Parts.{for_begun, for_body, for_finished, for_test, for_update}
use Rattle.rl_frames.specs.Parts.{logical_finished, logical_left, logical_place, logical_right, sequence_begun, ternary_begun, try_bound}
use Rattle.rl_frames.specs.Parts.{try_finished, try_handler, try_started, while_begun, while_body, while_finished}
use Rattle.rl_frames.specs.SwitchParts.{switch_begun}
use Rattle.rl_hir.specs.declared.function.BlockKind.TheVariants as block
use Rattle.rl_hir.specs.declared.instruction.InstructionKind.TheVariants as kind
use Rattle.rl_hir.specs.declared.instruction.InstructionValue.TheVariants as values
use Rattle.rl_hir.specs.declared.terminal.GotoVariant.TheVariants as gotos
use Rattle.rl_runs.proofs.Sizes.{size_pushed, size_value}
use Rattle.rl_runs.specs.Blocks.{size_of}
use Rattle.rl_runs.specs.Moves.{block_id, last_hole, next_hole, stored_in}

-- The states between the holes of a construct, each with what it adds to the one before. Under a handler each instruction takes a block
-- more.

pub stored_size : (s : State) (place value : Place) (part : Span) → size_of (stored_in s place value part) ≤ size_of s + 4
stored_size s place value part = size_value s (values.StoreLocal kind.Const place value) (Some part)

entered_size : (s : State) (span left : Span) → size_of (logical_entered s span left) ≡ size_of s + 7
entered_size s span left = simp length-append (omega arith)

pub logical_begun_size : (s : State) (span left : Span) → size_of (logical_begun s span left) ≤ size_of s + 12
logical_begun_size s span left =
    omega (arith, entered_size s span left, stored_size (logical_entered s span left) (logical_place s span) (logical_left s left) left)

pub logical_righted_size : (f : LogicalParts) (s : State) (value : Place) (part : Span)
    → size_of (logical_righted f s value part) ≤ size_of s + 4
logical_righted_size f s value part = omega (arith, stored_size s f.place value part)

pub logical_ended_size : (f : LogicalParts) (s : State) (value : Place) → size_of (logical_ended f s value) ≤ size_of s + 2
logical_ended_size f s value = omega (arith, size_pushed s (loads f.left value f.span))

pub ternary_begun_size : (s : State) (span : Span) → size_of (ternary_begun s span) ≤ size_of s + 5
ternary_begun_size s span = simp length-append (omega arith)

pub ternary_consequent_size : (f : TernaryParts) (s : State) (value : Place) (part : Span)
    → size_of (ternary_consequent f s value part) ≤ size_of s + 5
ternary_consequent_size f s value part = omega (arith, stored_size s f.place value f.span)

pub ternary_alternated_size : (f : TernaryParts) (s : State) (value : Place) (part : Span)
    → size_of (ternary_alternated f s value part) ≤ size_of s + 4
ternary_alternated_size f s value part = omega (arith, stored_size s f.place value f.span)

pub ternary_ended_size : (f : TernaryParts) (s : State) (test : Place) → size_of (ternary_ended f s test) ≤ size_of s + 0
ternary_ended_size f s test = omega arith

pub sequence_begun_size : (s : State) (span : Span) → size_of (sequence_begun s span) ≤ size_of s + 4
sequence_begun_size s span = simp length-append (omega arith)

pub sequence_ended_size : (f : SequenceParts) (s : State) (value : Place) (part : Span)
    → size_of (sequence_ended f s value part) ≤ size_of s + 4
sequence_ended_size f s value part = omega (arith, stored_size s f.place value part)

pub if_begun_size : (s : State) → size_of (if_begun s) ≤ size_of s + 2
if_begun_size s = omega arith

pub if_alternate_size : (f : IfParts) (s : State) (part : Span) → size_of (if_alternate f s part) ≤ size_of s + 0
if_alternate_size f s part = omega arith

branched_size : (b : Bool) (f : IfParts) (s : State) (part : Span) → size_of (if_branched b f s part) ≤ size_of s + 1
branched_size true f s part = omega arith
branched_size false f s part = omega arith

pub if_consequent_size : (f : IfParts) (s : State) (part : Span) → size_of (if_consequent f s part) ≤ size_of s + 1
if_consequent_size f s part = branched_size f.has_alternate f s part

pub if_ended_size : (f : IfParts) (s : State) (test : Place) → size_of (if_ended f s test) ≤ size_of s + 0
if_ended_size f s test = omega arith

-- A `for` loop: its states between its holes.

for_inited_by_size : (has_update : Bool) (f : ForParts) (s : State) (part : Span)
    → size_of (for_inited_by has_update f s part) ≤ size_of s + 1
for_inited_by_size true f s part = omega arith
for_inited_by_size false f s part = omega arith

pub for_begun_size : (s : State) → size_of (for_begun s) ≤ size_of s + 3
for_begun_size s = omega arith

pub for_inited_size : (f : ForParts) (s : State) (part : Span) → size_of (for_inited f s part) ≤ size_of s + 1
for_inited_size f s part = for_inited_by_size f.has_update f s part

pub for_updated_size : (f : ForParts) (s : State) (part : Span) → size_of (for_updated f s part) ≤ size_of s + 1
for_updated_size f s part = omega arith

pub for_bodied_size : (f : ForParts) (s : State) (part : Span) → size_of (for_bodied f s part) ≤ size_of s + 0
for_bodied_size f s part = omega arith

pub for_ended_size : (f : ForParts) (s : State) (value : Place) → size_of (for_ended f s value) ≤ size_of s + 0
for_ended_size f s value = omega arith

-- Constructs, each with what its holes add.

pub if_size : (s s2 s3 s4 : State) (test : Place) (span part other : Span) (m n k : ℕ) → size_of s2 ≤ size_of (if_begun s) + m
    → size_of s3 ≤ size_of (next_hole s2 s.env.next_block gotos.Break part block.Block) + n
    → size_of s4 ≤ size_of (last_hole s3 s.env.next_block gotos.Break other s.current) + k
    → size_of (if_finished s4 s.env.next_block (s.env.next_block + 1) s2.env.next_block test span) ≤ size_of s + (3 + m + n + k)
if_size s s2 s3 s4 test span part other m n k a b c = omega (arith, a, b, c)

pub while_size : (s s2 s4 : State) (label : Option (List ℕ)) (test : Place) (span part : Span) (m n : ℕ)
    → size_of s2 ≤ size_of (while_begun s label) + m → size_of s4 ≤ size_of (while_body s2 s.env.next_block span s.current part) + n
    → size_of (while_finished s4 s.env.next_block span test) ≤ size_of s + (3 + m + n)
while_size s s2 s4 label test span part m n a b = omega (arith, a, b)

pub do_while_size : (s s2 s4 : State) (label : Option (List ℕ)) (test : Place) (span part : Span) (m n : ℕ)
    → size_of s2 ≤ size_of (while_begun s label) + m
    → size_of s4 ≤ size_of (do_while_body s2 s.env.next_block span s.current part) + n
    → size_of (while_finished s4 s.env.next_block span test) ≤ size_of s + (3 + m + n)
do_while_size s s2 s4 label test span part m n a b = omega (arith, a, b)

-- Without an update, and with one.

pub for_plain_size : (s s2 s4 s5 : State) (label : Label) (test : Place) (span part last : Span) (l m n : ℕ)
    → size_of s2 ≤ size_of (for_begun s) + l
    → size_of s4 ≤ size_of (for_body s2 s.env.next_block label (block_id s.env.next_block) part) + m
    → size_of s5 ≤ size_of (for_test s4 s.env.next_block (block_id s.env.next_block) None s2.env.next_block span s.current last) + n
    → size_of (for_finished s5 s.env.next_block s2.env.next_block span test) ≤ size_of s + (4 + l + m + n)
for_plain_size s s2 s4 s5 label test span part last l m n a b c = omega (arith, a, b, c)

pub for_size : (s s2 s3 s4 s5 : State) (label : Label) (test : Place) (span part other last : Span) (k l m n : ℕ)
    → size_of s2 ≤ size_of (for_begun s) + k → size_of s3 ≤ size_of (for_update s2 s.env.next_block part) + l
    → size_of s4 ≤ size_of (for_body s3 s.env.next_block label (block_id s2.env.next_block) other) + m
    → size_of s5 ≤ size_of
    (for_test s4 s.env.next_block (block_id s2.env.next_block) (Some (block_id s2.env.next_block)) s3.env.next_block span s.current
    last) + n
    → size_of (for_finished s5 s.env.next_block s3.env.next_block span test) ≤ size_of s + (5 + k + l + m + n)
for_size s s2 s3 s4 s5 label test span part other last k l m n a b c d = omega (arith, a, b, c, d)

pub label_size : (s s2 : State) (label : List ℕ) (span part : Span) (m : ℕ) → size_of s2 ≤ size_of (label_begun s label) + m
    → size_of (label_finished s2 s.env.next_block span s.current part) ≤ size_of s + (2 + m)
label_size s s2 label span part m a = omega (arith, a)

bound_size : (x : State) (binding : Option Place) → size_of (try_bound x binding) ≤ size_of x + 4
bound_size x None = omega arith
bound_size x (Some place) = size_value x (values.DeclareLocal kind.Catch place) place.span

pub try_size : (s s2 s4 : State) (binding : Option Place) (span part other : Span) (m n : ℕ)
    → size_of s2 ≤ size_of (try_started s binding) + m
    → size_of s4 ≤ size_of (try_handler s2 s.env.next_block (try_bound (reserved s) binding).env.next_block part) + n
    → size_of (try_finished s4 s.env.next_block (try_bound (reserved s) binding).env.next_block s2.env.next_block binding span
    (try_bound (reserved s) binding).current other) ≤ size_of s + (7 + m + n)
try_size s s2 s4 binding span part other m n a b = omega (arith, a, b, bound_size (reserved s) binding)

pub logical_size : (s s2 s4 : State) (operator : LogicalOperator) (right_value left_value : Place) (span left part : Span)
    (alternate m n : ℕ) → size_of s2 ≤ size_of (logical_begun s span left) + m
    → size_of s4 ≤ size_of (logical_right s2 s.env.next_block (logical_place s span) operator span s.current right_value part) + n
    → size_of (logical_finished s4 s.env.next_block alternate (logical_left s left) s.current.kind span left_value) ≤ size_of s +
    (18 + m + n)
logical_size s s2 s4 operator right_value left_value span left part alternate m n a b =
    let begun = logical_begun_size s span left in
    let stored = stored_size s2 (logical_place s span) right_value part in
    omega (arith, a, b, begun, stored, size_pushed s4 (loads (logical_left s left) left_value span))

-- The block behind a `switch` is numbered.
pub switch_begun_size : (s : State) → size_of (switch_begun s) ≤ size_of s + 1
switch_begun_size s = omega arith
