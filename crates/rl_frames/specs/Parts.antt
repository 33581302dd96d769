-- The moves of each construct, as functions of the builder's states between its holes.
use Rattle.std.specs.Prelude.{ℕ, ◌+◌, ◌<◌, ◌≤◌, Bool, Option, Some, None, List, length}
use Rattle.rl_base.specs.declared.ids.BlockId.{BlockId}
use Rattle.rl_base.specs.declared.operator.LogicalOperator.{LogicalOperator}
use Rattle.rl_base.specs.declared.span.Span.{Span}
use Rattle.rl_builder.specs.Builder.{State, completed_by, entered, new_block, pushed, reserved, with_handler, with_scope, with_temporary}
use Rattle.rl_builder.specs.declared.blocks.WipBlock.{WipBlock}
use Rattle.rl_builder.specs.declared.jumps.JumpScope.{JumpScope}
use Rattle.rl_builder.specs.declared.jumps.JumpScope.TheVariants as scope
use Rattle.rl_builder.specs.Temporaries.{temporary, unordered, with_value}
use Rattle.rl_hir.specs.declared.function.BlockKind.{BlockKind}
use Rattle.rl_hir.specs.declared.function.BlockKind.TheVariants as block
use Rattle.rl_hir.specs.declared.instruction.Instruction.{Instruction}
use Rattle.rl_hir.specs.declared.instruction.InstructionKind.TheVariants as variables
use Rattle.rl_hir.specs.declared.instruction.InstructionValue.TheVariants as values
use Rattle.rl_hir.specs.declared.instruction.Place.{Place}
use Rattle.rl_hir.specs.declared.instruction.PrimitiveValue.TheVariants as primitives
use Rattle.rl_hir.specs.declared.terminal.GotoVariant.TheVariants as gotos
use Rattle.rl_hir.specs.declared.terminal.Terminal.{Terminal}
use Rattle.rl_hir.specs.declared.terminal.TerminalKind.TheVariants as kinds
use Rattle.rl_model.specs.Actions.{Label}
use Rattle.rl_runs.specs.Moves.{block_id, branch, ends_by, goto, last_hole, next_hole, stored_in, without_handler, without_scope}

-- An `if` statement: the block behind it and that of the consequent are numbered, and the hole of the consequent opens.
abbrev pub if_begun : State → State
if_begun s = entered (reserved (reserved s)) (new_block (s.env.next_block + 1) block.Block)

abbrev pub if_end : (behind consequent alternate : ℕ) → Place → Span → Terminal
if_end behind consequent alternate test span =
    ends_by (kinds.If test (block_id consequent) (block_id alternate) (block_id behind)) (Some span)

-- The hole of the test ends.
abbrev pub if_finished : State → (behind consequent alternate : ℕ) → Place → Span → State
if_finished s behind consequent alternate test span =
    completed_by s (if_end behind consequent alternate test span) (new_block behind block.Block)

-- A logical expression: the blocks behind it and of its test are numbered, and the places of its value and of its left part made.
abbrev pub logical_reserved : State → (span left : Span) → State
logical_reserved s span left = with_temporary (with_temporary (reserved (reserved s)) (Some span)) (Some left)

abbrev pub logical_place : State → (span : Span) → Place
logical_place s span = record { identifier = record { 0 = length s.env.identifiers }; span = Some span }

abbrev pub logical_left : State → (left : Span) → Place
logical_left s left = record { identifier = record { 0 = length s.env.identifiers + 1 }; span = Some left }

-- The block of the consequent, which moves the left value.
abbrev pub logical_entered : State → (span left : Span) → State
logical_entered s span left = entered (reserved (logical_reserved s span left)) (new_block (s.env.next_block + 1 + 1) block.Value)

-- The hole of the right part opens.
abbrev pub logical_begun : State → (span left : Span) → State
logical_begun s span left =
    next_hole
    (stored_in (logical_entered s span left) (logical_place s span)
    (logical_left s left) left) s.env.next_block gotos.Break left block.Value

abbrev pub logical_end : (behind : ℕ) → LogicalOperator → Span → Terminal
logical_end behind operator span = ends_by (kinds.Logical operator (block_id (behind + 1)) (block_id behind)) (Some span)

-- The hole of the right part ends with its value, and that of the left part opens.
abbrev pub logical_right : State → (behind : ℕ) → (place : Place) → LogicalOperator → (span : Span) → (outer : WipBlock)
    → (value : Place) → (part : Span) → State
logical_right s behind place operator span outer value part =
    completed_by (last_hole (stored_in s place value part) behind gotos.Break part outer) (logical_end behind operator span)
    (new_block (behind + 1) block.Value)

-- The value of the left part is stored_in to its place.
abbrev pub loads : Place → Place → Span → Instruction
loads place value span = unordered place (values.LoadLocal value) (Some span)

-- The hole of the left part ends with its value.
abbrev pub logical_finished : State → (behind alternate : ℕ) → (left : Place) → (kind : BlockKind) → (span : Span) → (value : Place)
    → State
logical_finished s behind alternate left kind span value =
    completed_by (pushed s (loads left value span)) (branch left (behind + 1 + 1) alternate behind span) (new_block behind kind)

-- A `while` loop: the blocks of its test, behind it and of its body are numbered, and the hole of the body opens.
abbrev pub while_scope : State → Label → JumpScope
while_scope s label = scope.Loop label (block_id s.env.next_block) (block_id (s.env.next_block + 1))

abbrev pub while_begun : State → Label → State
while_begun s label =
    with_scope (entered (reserved (reserved (reserved s))) (new_block (s.env.next_block + 1 + 1) block.Block)) (while_scope s label)

abbrev pub while_end : (test : ℕ) → Span → Terminal
while_end test span = ends_by (kinds.While (block_id test) (block_id (test + 1 + 1)) (block_id (test + 1))) (Some span)

-- The hole of the body ends, and that of the test opens behind the loop's terminal.
abbrev pub loop_body : State → (test : ℕ) → (end : Terminal) → (outer : WipBlock) → (part : Span) → State
loop_body s test end outer part =
    completed_by (last_hole (without_scope s) test gotos.Continue part outer) end (new_block test block.Loop)

abbrev pub while_body : State → (test : ℕ) → (span : Span) → (outer : WipBlock) → (part : Span) → State
while_body s test span outer part = loop_body s test (while_end test span) outer part

-- The hole of the test ends.
abbrev pub while_finished : State → (test : ℕ) → (span : Span) → (value : Place) → State
while_finished s test span value =
    completed_by s (branch value (test + 1 + 1) (test + 1) test span) (new_block (test + 1) block.Block)

-- A `do`-`while` loop begins and ends as a `while` loop does. Its terminal leads to its body first.
abbrev pub do_while_end : (test : ℕ) → Span → Terminal
do_while_end test span = ends_by (kinds.DoWhile (block_id (test + 1 + 1)) (block_id test) (block_id (test + 1))) (Some span)

abbrev pub do_while_body : State → (test : ℕ) → (span : Span) → (outer : WipBlock) → (part : Span) → State
do_while_body s test span outer part = loop_body s test (do_while_end test span) outer part

-- A `for` loop: the blocks of its test, behind it and of its init are numbered, and the hole of the init opens.
abbrev pub for_begun : State → State
for_begun s = entered (reserved (reserved (reserved s))) (new_block (s.env.next_block + 1 + 1) block.Loop)

-- The hole of the init ends, and that of the update opens.
abbrev pub for_update : State → (test : ℕ) → (part : Span) → State
for_update s test part = next_hole s test gotos.Break part block.Loop

abbrev pub for_scope : (test : ℕ) → Label → (again : BlockId) → JumpScope
for_scope test label again = scope.Loop label again (block_id (test + 1))

-- The hole in front of the body ends, that of the init or of the update, and that of the body opens; a `continue` in it goes to `again`.
abbrev pub for_body : State → (test : ℕ) → Label → (again : BlockId) → (part : Span) → State
for_body s test label again part = with_scope (next_hole s test gotos.Break part block.Block) (for_scope test label again)

abbrev pub for_end : (test : ℕ) → (update : Option BlockId) → (body : ℕ) → Span → Terminal
for_end test update body span =
    ends_by (kinds.For (block_id (test + 1 + 1)) (block_id test) update (block_id body) (block_id (test + 1))) (Some span)

-- The hole of the body ends, and that of the test opens behind the loop's terminal.
abbrev pub for_test : State → (test : ℕ) → (again : BlockId) → (update : Option BlockId) → (body : ℕ) → Span → (outer : WipBlock)
    → (part : Span) → State
for_test s test again update body span outer part =
    completed_by (last_hole (without_scope s) again.0 gotos.Continue part outer) (for_end test update body span) (new_block test block.Loop)

-- The hole of the test ends.
abbrev pub for_finished : State → (test body : ℕ) → Span → (value : Place) → State
for_finished s test body span value =
    completed_by s (branch value body (test + 1) (test + 1) span) (new_block (test + 1) block.Block)

-- A conditional expression: the blocks behind it and of its test are numbered, and the place of its value made.
abbrev pub ternary_reserved : State → (span : Span) → State
ternary_reserved s span = with_temporary (reserved (reserved s)) (Some span)

abbrev pub ternary_place : State → (span : Span) → Place
ternary_place s span = record { identifier = record { 0 = length s.env.identifiers }; span = Some span }

-- The hole of the consequent opens.
abbrev pub ternary_begun : State → (span : Span) → State
ternary_begun s span = entered (reserved (ternary_reserved s span)) (new_block (s.env.next_block + 1 + 1) block.Value)

-- The hole of the consequent ends with its value, and that of the alternate opens.
abbrev pub ternary_alternate : State → (behind : ℕ) → (place value : Place) → (span part : Span) → State
ternary_alternate s behind place value span part = next_hole (stored_in s place value span) behind gotos.Break part block.Value

abbrev pub ternary_end : (behind : ℕ) → Span → Terminal
ternary_end behind span = ends_by (kinds.Ternary (block_id (behind + 1)) (block_id behind)) (Some span)

-- The hole of the alternate ends with its value, and that of the test opens.
abbrev pub ternary_test : State → (behind : ℕ) → (place value : Place) → (span part : Span) → (outer : WipBlock) → State
ternary_test s behind place value span part outer =
    completed_by (last_hole (stored_in s place value span) behind gotos.Break part outer) (ternary_end behind span)
    (new_block (behind + 1) block.Value)

-- The hole of the test ends with its value.
abbrev pub ternary_finished : State → (behind alternate : ℕ) → (kind : BlockKind) → (span : Span) → (test : Place) → State
ternary_finished s behind alternate kind span test =
    completed_by s (branch test (behind + 1 + 1) alternate behind span) (new_block behind kind)

-- A sequence of expressions: the block behind it is numbered and the place of its value made, and the hole of the expressions opens.
abbrev pub sequence_reserved : State → (span : Span) → State
sequence_reserved s span = with_temporary (reserved s) (Some span)

abbrev pub sequence_place : State → (span : Span) → Place
sequence_place s span = record { identifier = record { 0 = length s.env.identifiers }; span = Some span }

abbrev pub sequence_begun : State → (span : Span) → State
sequence_begun s span = entered (reserved (sequence_reserved s span)) (new_block (s.env.next_block + 1) block.Sequence)

abbrev pub sequence_end : (behind : ℕ) → Span → Terminal
sequence_end behind span = ends_by (kinds.Sequence (block_id (behind + 1)) (block_id behind)) (Some span)

-- The hole ends with the value of the last expression.
abbrev pub sequence_finished : State → (behind : ℕ) → (kind : BlockKind) → (place value : Place) → (span part : Span)
    → (outer : WipBlock) → State
sequence_finished s behind kind place value span part outer =
    completed_by (last_hole (stored_in s place value part) behind gotos.Break part outer) (sequence_end behind span)
    (new_block behind kind)

-- A labelled statement that is no loop: the blocks behind it and of its body are numbered, and the hole of the body opens.
abbrev pub label_scope : State → (own : List ℕ) → JumpScope
label_scope s own = scope.Label own (block_id s.env.next_block)

abbrev pub label_begun : State → (own : List ℕ) → State
label_begun s own =
    with_scope (entered (reserved (reserved s)) (new_block (s.env.next_block + 1) block.Block)) (label_scope s own)

abbrev pub label_end : (behind : ℕ) → Span → Terminal
label_end behind span = ends_by (kinds.Label (block_id (behind + 1)) (block_id behind)) (Some span)

-- The hole of the body ends.
abbrev pub label_finished : State → (behind : ℕ) → (span : Span) → (outer : WipBlock) → (part : Span) → State
label_finished s behind span outer part =
    completed_by (last_hole (without_scope s) behind gotos.Break part outer) (label_end behind span) (new_block behind block.Block)

-- A `try` statement: the block behind it is numbered, and the place that takes the value of a throw declared.
abbrev pub try_bound : State → Option Place → State
try_bound s None = s
try_bound s (Some place) = with_value s (values.DeclareLocal variables.Catch place) place.span

-- The place is a temporary that was made for the statement, between these states.
abbrev pub IsFreshBinding : Option Place → State → State → Type 0
IsFreshBinding None z s = Unit {0}
IsFreshBinding (Some place) z s = (length z.env.identifiers ≤ place.identifier.0) × (place.identifier.0 < length s.env.identifiers)

-- The block of the handler is numbered, and its hole opens.
abbrev pub try_begun : State → State
try_begun s = entered (reserved s) (new_block s.env.next_block block.Catch)

abbrev pub try_started : State → Option Place → State
try_started s binding = try_begun (try_bound (reserved s) binding)

-- The hole of the handler ends, and that of the block opens.
abbrev pub try_handler : State → (behind handler : ℕ) → (part : Span) → State
try_handler s behind handler part = with_handler (next_hole s behind gotos.Break part block.Block) (block_id handler)

abbrev pub try_end : (behind handler body : ℕ) → Option Place → Span → Terminal
try_end behind handler body binding span =
    ends_by (kinds.Try (block_id body) binding (block_id handler) (block_id behind)) (Some span)

-- The hole of the block ends.
abbrev pub try_finished : State → (behind handler body : ℕ) → Option Place → (span : Span) → (outer : WipBlock) → (part : Span)
    → State
try_finished s behind handler body binding span outer part =
    completed_by (last_hole (without_handler s) behind gotos.Try part outer) (try_end behind handler body binding span)
    (new_block behind block.Block)

-- Loops over keys or values: the blocks behind the loop and of its init are numbered first, and that of its body last.
-- The hole of the body ends, and that of the right side opens.
abbrev pub rounds_body : State → (behind : ℕ) → (outer : WipBlock) → (part : Span) → State
rounds_body s behind outer part = last_hole (without_scope s) (behind + 1) gotos.Continue part outer

-- The hole of the assignment ends. The block behind the loop goes on.
abbrev pub rounds_finished : State → (behind body : ℕ) → Span → (test : Place) → State
rounds_finished s behind body span test = completed_by s (branch test body behind behind span) (new_block behind block.Block)

-- A `for`-`in` loop: the hole of the body opens.
abbrev pub forin_begun : State → Label → State
forin_begun s label =
    with_scope (entered (reserved (reserved (reserved s))) (new_block (s.env.next_block + 1 + 1) block.Block))
    (scope.Loop label (block_id (s.env.next_block + 1)) (block_id s.env.next_block))

abbrev pub forin_end : (behind : ℕ) → Span → Terminal
forin_end behind span = ends_by (kinds.ForIn (block_id (behind + 1)) (block_id (behind + 1 + 1)) (block_id behind)) (Some span)

-- The hole of the right side ends with its value: the loop's terminal, and its init.
abbrev pub forin_init : State → (behind : ℕ) → Span → State
forin_init s behind span = completed_by s (forin_end behind span) (new_block (behind + 1) block.Loop)

-- The hole of the assignment opens.
abbrev pub forin_next : State → (behind : ℕ) → (collection : Place) → (span left : Span) → State
forin_next s behind collection span left = with_value (forin_init s behind span) (values.NextPropertyOf collection) (Some left)

-- A `for`-`of` loop: behind the block of its init that of its test is numbered, and the hole of the body opens.
abbrev pub forof_begun : State → Label → State
forof_begun s label =
    with_scope (entered (reserved (reserved (reserved (reserved s)))) (new_block (s.env.next_block + 1 + 1 + 1) block.Block))
    (scope.Loop label (block_id (s.env.next_block + 1)) (block_id s.env.next_block))

abbrev pub forof_end : (behind : ℕ) → Span → Terminal
forof_end behind span =
    ends_by (kinds.ForOf (block_id (behind + 1)) (block_id (behind + 1 + 1)) (block_id (behind + 1 + 1 + 1)) (block_id behind)) (Some span)

-- The hole of the right side ends with its value: the loop's terminal, and its init.
abbrev pub forof_init : State → (behind : ℕ) → Span → State
forof_init s behind span = completed_by s (forof_end behind span) (new_block (behind + 1) block.Loop)

abbrev pub forof_opened : State → (behind : ℕ) → (collection : Place) → Span → State
forof_opened s behind collection span = with_value (forof_init s behind span) (values.GetIterator collection) collection.span

-- The test begins.
abbrev pub forof_test : State → (behind : ℕ) → (collection : Place) → Span → State
forof_test s behind collection span =
    completed_by (forof_opened s behind collection span) (goto (behind + 1 + 1) gotos.Break span) (new_block (behind + 1 + 1) block.Loop)

-- The hole of the assignment opens.
abbrev pub forof_next : State → (behind : ℕ) → (collection : Place) → (span left : Span) → State
forof_next s behind collection span left =
    with_value (forof_test s behind collection span)
    (values.IteratorNext (temporary (forof_init s behind span) collection.span) collection) (Some left)

-- A link of an optional chain: the block of its test is numbered, and the hole of the object opens.
abbrev pub link_begun : State → State
link_begun x = entered (reserved x) (new_block x.env.next_block block.Value)

-- The hole of the object ends with its value, and that of the link opens in the block `consequent`.
abbrev pub link_object : State → (behind consequent alternate : ℕ) → Span → (object : Place) → State
link_object s behind consequent alternate span object =
    completed_by s (branch object consequent alternate behind span) (new_block consequent block.Value)

abbrev pub link_end : (behind test : ℕ) → Bool → Span → Terminal
link_end behind test optional span = ends_by (kinds.Optional optional (block_id test) (block_id behind)) (Some span)

-- The hole of the link ends with its value.
abbrev pub link_finished : State → (behind test : ℕ) → Bool → BlockKind → Span → (place value : Place) → (outer : WipBlock) → State
link_finished s behind test optional kind span place value outer =
    completed_by (last_hole (stored_in s place value span) behind gotos.Break span outer) (link_end behind test optional span)
    (new_block behind kind)

-- The outermost link of a chain: the blocks behind it and of the link are numbered, and the place of the value made.
abbrev pub chain_reserved : State → Span → State
chain_reserved s span = with_temporary (reserved (reserved s)) (Some span)

-- In the block in which the chain ends as undefined: the value is stored in the place.
abbrev pub chain_undefined : State → Span → State
chain_undefined s span =
    with_value (entered (reserved (chain_reserved s span)) (new_block (s.env.next_block + 1 + 1) block.Value))
    (values.Primitive primitives.Undefined) (Some span)

abbrev pub chain_ended : State → Span → State
chain_ended s span =
    stored_in (chain_undefined s span) (temporary s (Some span)) (temporary (chain_reserved s span) (Some span)) span

-- That block is complete, and the one before goes on.
abbrev pub chain_begun : State → Span → State
chain_begun s span = last_hole (chain_ended s span) s.env.next_block gotos.Break span s.current
