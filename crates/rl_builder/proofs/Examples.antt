-- Small examples by computation: jumps among scopes, an instruction under a handler, and the refusals of dropped blocks.
use Rattle.std.proofs.Common.{◌≡◌, ℕ, Ok, Err, Some, None, List, [], ◌∷◌, codes, refl}
use Rattle.rl_base.specs.Diagnostics.{diagnostic_at}
use Rattle.rl_base.specs.declared.ids.BlockId.{BlockId}
use Rattle.rl_base.specs.declared.ids.InstructionId.{InstructionId}
use Rattle.rl_base.specs.declared.row.Row.TheVariants as rows
use Rattle.rl_base.specs.declared.span.Span.{Span}
use Rattle.rl_builder.specs.Builder.{State, completed_by, maybe_throw, new_block, plainly_pushed, pushed, reserved}
use Rattle.rl_builder.specs.Dropped.{refused_blocks}
use Rattle.rl_builder.specs.Jumps.{lookup_break, lookup_continue}
use Rattle.rl_builder.specs.declared.jumps.JumpError.TheVariants.{NoBreak, NotALoop, NoContinue}
use Rattle.rl_builder.specs.declared.jumps.JumpScope.{JumpScope}
use Rattle.rl_builder.specs.declared.jumps.JumpScope.TheVariants as scopes
use Rattle.rl_hir.specs.Blocks.{Pair}
use Rattle.rl_hir.specs.declared.function.BlockKind.TheVariants as blocks
use Rattle.rl_hir.specs.declared.instruction.Instruction.{Instruction}
use Rattle.rl_hir.specs.declared.instruction.InstructionValue.{InstructionValue}
use Rattle.rl_hir.specs.declared.instruction.InstructionValue.TheVariants as values
use Rattle.rl_hir.specs.declared.instruction.Place.{Place}
use Rattle.rl_hir.specs.declared.terminal.TerminalKind.TheVariants as ends

abbrev target : ℕ → BlockId
target n = record { 0 = n }

-- A loop `outer`, and in it a `switch` without a label.
abbrev switch_in_loop : List JumpScope
switch_in_loop = scopes.Loop (Some (codes "outer")) (target 0) (target 1) ∷ scopes.Switch None (target 2) ∷ []

-- A `break` without a label leaves the `switch`.
break_inner : lookup_break switch_in_loop None ≡ Ok (target 2)
break_inner = refl

-- One with the label leaves the loop.
break_outer : lookup_break switch_in_loop (Some (codes "outer")) ≡ Ok (target 1)
break_outer = refl

break_unknown : lookup_break switch_in_loop (Some (codes "inner")) ≡ Err NoBreak
break_unknown = refl

-- A `continue` passes over the `switch`.
continue_inner : lookup_continue switch_in_loop None ≡ Ok (target 0)
continue_inner = refl

-- A labelled statement that is no loop.
abbrev labelled : List JumpScope
labelled = scopes.Label (codes "L") (target 5) ∷ []

break_labelled : lookup_break labelled (Some (codes "L")) ≡ Ok (target 5)
break_labelled = refl

-- A `break` without a label does not leave it.
break_plain : lookup_break labelled None ≡ Err NoBreak
break_plain = refl

-- A `continue` with its label has no target, though a loop of that label is around it.
continue_labelled : lookup_continue (scopes.Loop (Some (codes "L")) (target 0) (target 1) ∷ labelled) (Some (codes "L")) ≡ Err NotALoop
continue_labelled = refl

continue_plain : lookup_continue labelled None ≡ Err NoContinue
continue_plain = refl

-- Under two handlers, the block ends behind the instruction, and throws to the inner one.
pushed_under_handler : (s : State) (outer inner : BlockId) (i : Instruction)
    → pushed (record s { handlers = outer ∷ inner ∷ [] }) i
    ≡ completed_by (reserved (plainly_pushed (record s { handlers = outer ∷ inner ∷ [] }) i)) (maybe_throw s.env.next_block inner i.span) (new_block s.env.next_block s.current.kind)
pushed_under_handler s outer inner i = refl

-- Without a handler, it goes on.
pushed_alone : (s : State) (i : Instruction) → pushed (record s { handlers = [] }) i ≡ plainly_pushed (record s { handlers = [] }) i
pushed_alone s i = refl

abbrev place : Place
place = record { identifier = record { 0 = 0 }; span = None }

abbrev span : ℕ → ℕ → Span
span start end = record { start = start; end = end }

-- An instruction at a span.
abbrev made : InstructionValue → Span → Instruction
made value at = record { order = record { 0 = 0 }; lvalue = place; value = value; span = Some at }

-- Block `n`, which lists these instructions.
abbrev block : ℕ → List InstructionId → Pair
block n listed = (record { 0 = n }, record { kind = blocks.Block; instructions = listed; terminal = record { order = record { 0 = 0 }; span = None; kind = ends.Throw place }; preds = [] })

-- Instruction 0 loads a place, 1 and 2 are functions, and 3 is a method.
abbrev table : List Instruction
table =
    made (values.LoadLocal place) (span 1 2) ∷ made (values.FunctionExpression (record { 0 = 5 })) (span 10 20)
    ∷ made (values.FunctionExpression (record { 0 = 7 })) (span 30 40) ∷ made (values.ObjectMethod (record { 0 = 9 })) (span 50 60) ∷ []

-- A dropped block is refused once, at its first function.
dropped_function : refused_blocks table (block 0 [] ∷ []) (block 0 [] ∷ block 1 (record { 0 = 0 } ∷ record { 0 = 1 } ∷ record { 0 = 2 } ∷ []) ∷ [])
    ≡ diagnostic_at rows.F41 [] (span 10 20) ∷ []
dropped_function = refl

-- A block that is kept makes its function.
kept_function : refused_blocks table (block 1 [] ∷ []) (block 1 (record { 0 = 1 } ∷ []) ∷ []) ≡ []
kept_function = refl

-- A method is no function expression.
dropped_method : refused_blocks table [] (block 1 (record { 0 = 0 } ∷ record { 0 = 3 } ∷ []) ∷ []) ≡ []
dropped_method = refl
