-- The numbers of blocks, types, identifiers and instructions that loops over keys or values add, together.
use Rattle.std.proofs.Common.{ℕ, ◌+◌, ◌≤◌, Some, arith}
use Rattle.rl_builder.specs.Temporaries.{temporary}
use Rattle.rl_frames.proofs.Common.{Label, Place, Span, State}
use Rattle.rl_frames.specs.Parts.{forin_begun, forin_init, forin_next, forof_begun, forof_init, forof_next, forof_test, rounds_body}
use Rattle.rl_frames.specs.Parts.{rounds_finished}
use Rattle.rl_frames.specs.Rounds.{ForOfParts, RoundsParts, forin_headed, forin_righted, forof_bodied, forof_ended, forof_headed}
use Rattle.rl_frames.specs.Rounds.{forof_iterator}
use Rattle.rl_frames.specs.Rounds.{forof_righted, forof_tested, rounds_bodied, rounds_ended}
use Rattle.rl_hir.specs.declared.instruction.InstructionValue.TheVariants as values
use Rattle.rl_runs.proofs.Sizes.{size_value}
use Rattle.rl_runs.specs.Blocks.{size_of}

-- The states between the holes.

pub forin_begun_size : (s : State) (label : Label) → size_of (forin_begun s label) ≤ size_of s + 3
forin_begun_size s label = omega arith

pub forof_begun_size : (s : State) (label : Label) → size_of (forof_begun s label) ≤ size_of s + 4
forof_begun_size s label = omega arith

pub rounds_bodied_size : (f : RoundsParts) (s : State) (part : Span) → size_of (rounds_bodied f s part) ≤ size_of s + 0
rounds_bodied_size f s part = omega arith

pub forof_bodied_size : (f : ForOfParts) (s : State) (part : Span) → size_of (forof_bodied f s part) ≤ size_of s + 0
forof_bodied_size f s part = omega arith

pub forin_righted_size : (f : RoundsParts) (s : State) (left : Span) (collection : Place)
    → size_of (forin_righted f s left collection) ≤ size_of s + 4
forin_righted_size f s left collection = size_value (forin_headed f s) (values.NextPropertyOf collection) (Some left)

pub forof_righted_size : (f : ForOfParts) (s : State) (left : Span) (collection : Place)
    → size_of (forof_righted f s left collection) ≤ size_of s + 8
forof_righted_size f s left collection =
    let first = size_value (forof_headed f s) (values.GetIterator collection) collection.span in
    let second = size_value (forof_tested f s collection) (values.IteratorNext (forof_iterator f s collection) collection) (Some left) in
    omega (arith, first, second)

pub rounds_ended_size : (f : RoundsParts) (s : State) (test : Place) → size_of (rounds_ended f s test) ≤ size_of s + 0
rounds_ended_size f s test = omega arith

pub forof_ended_size : (f : ForOfParts) (s : State) (test : Place) → size_of (forof_ended f s test) ≤ size_of s + 0
forof_ended_size f s test = omega arith

-- The loops, each with what its holes add.

pub forin_size : (s s2 s3 s5 : State) (label : Label) (collection test : Place) (span left part : Span) (l m n : ℕ)
    → size_of s2 ≤ size_of (forin_begun s label) + l → size_of s3 ≤ size_of (rounds_body s2 s.env.next_block s.current part) + m
    → size_of s5 ≤ size_of (forin_next s3 s.env.next_block collection span left) + n
    → size_of (rounds_finished s5 s.env.next_block (s.env.next_block + 1 + 1) span test) ≤ size_of s + (7 + l + m + n)
forin_size s s2 s3 s5 label collection test span left part l m n a b c =
    let step = size_value (forin_init s3 s.env.next_block span) (values.NextPropertyOf collection) (Some left) in
    omega (arith, a, b, c, step)

pub forof_size : (s s2 s3 s5 : State) (label : Label) (collection test : Place) (span left part : Span) (l m n : ℕ)
    → size_of s2 ≤ size_of (forof_begun s label) + l → size_of s3 ≤ size_of (rounds_body s2 s.env.next_block s.current part) + m
    → size_of s5 ≤ size_of (forof_next s3 s.env.next_block collection span left) + n
    → size_of (rounds_finished s5 s.env.next_block (s.env.next_block + 1 + 1 + 1) span test) ≤ size_of s + (12 + l + m + n)
forof_size s s2 s3 s5 label collection test span left part l m n a b c =
    let first = size_value (forof_init s3 s.env.next_block span) (values.GetIterator collection) collection.span in
    let second = size_value (forof_test s3 s.env.next_block collection span) (values.IteratorNext (temporary (forof_init s3 s.env.next_block span) collection.span) collection) (Some left) in
    omega (arith, a, b, c, first, second)
