-- The numbers of blocks, types, identifiers and instructions that moves add, together.
use Rattle.std.proofs.Common.{◌≡◌, ◌+◌, ◌≤◌, ◌++◌, [], ◌∷◌, length, length-append, Option, Some, None, arith}
use Rattle.rl_builder.specs.Builder.{innermost, pushed, pushed_under, with_temporary}
use Rattle.rl_builder.specs.Temporaries.{temporary, unordered, with_value}
use Rattle.rl_hir.specs.declared.instruction.InstructionValue.{InstructionValue}
use Rattle.rl_runs.proofs.Common.{BlockId, Instruction, Span, State}
use Rattle.rl_runs.specs.Blocks.{size_of}

size_under : (o : Option BlockId) (s : State) (i : Instruction) → size_of (pushed_under o s i) ≤ size_of s + 2
size_under None s i = let one : length (s.table ++ i ∷ []) ≡ length s.table + 1 = length-append s.table (i ∷ []) in omega (arith, one)
size_under (Some handler) s i =
    let one : length (s.table ++ i ∷ []) ≡ length s.table + 1 = length-append s.table (i ∷ []) in omega (arith, one)

pub size_pushed : (s : State) (i : Instruction) → size_of (pushed s i) ≤ size_of s + 2
size_pushed s i = size_under (innermost s.handlers) s i

pub size_temporary : (s : State) (span : Option Span) → size_of (with_temporary s span) ≡ size_of s + 2
size_temporary s span = simp length-append (omega arith)

pub size_value : (s : State) (v : InstructionValue) (span : Option Span) → size_of (with_value s v span) ≤ size_of s + 4
size_value s v span =
    omega (arith, size_temporary s span, size_pushed (with_temporary s span) (unordered (temporary s span) v span))
