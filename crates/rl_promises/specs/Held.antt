-- Each counted node of a function is held once in its graph.
use Rattle.std.specs.Prelude.{◌≡◌, ◌⊎◌, ℕ, ◌+◌, nat_eq, Bool, true, false, ◌&&◌, if◌then◌else◌, Option, Some, None, List, [], ◌∷◌, ◌++◌, All, Contains, slice_get}
use Rattle.std.specs.List.{list_any}
use Rattle.std.specs.Str.{bytes_eq}
use Rattle.rl_base.specs.declared.ids.InstructionId.{InstructionId}
use Rattle.rl_base.specs.declared.span.Span.{Span}
use Rattle.rl_hir.specs.Blocks.{Pair as BlockPair}
use Rattle.rl_hir.specs.ValueWords.{value_word}
use Rattle.rl_hir.specs.declared.function.HirFunction.{HirFunction}
use Rattle.rl_hir.specs.declared.instruction.Instruction.{Instruction}
use Rattle.rl_hir.specs.declared.instruction.InstructionValue.{InstructionValue}
use Rattle.rl_hir.specs.declared.instruction.InstructionValue.TheVariants as values
use Rattle.rl_model.specs.Code.{code, code_of, flat}
use Rattle.rl_model.specs.Counted.{Counted, counted_at, counted_in, method_at}
use Rattle.rl_model.specs.Dead.{dead_parts}
use Rattle.rl_model.specs.Worlds.{is_reassign}
use Rattle.rl_names.specs.Functions.{body_in}
use Rattle.rl_syntax.specs.Syntax.{Syntax}

-- True of a value that its word is enough to count. A store is counted where it assigns a variable that was declared before.
abbrev pub is_counted : InstructionValue → Bool
is_counted (values.StoreLocal kind p v) = is_reassign kind
is_counted (values.StoreContext kind p v) = is_reassign kind
is_counted _ = true

-- True of a value of one of the kinds.
abbrev pub is_of : (kinds : List (List ℕ)) → InstructionValue → Bool
is_of kinds v = list_any (bytes_eq (value_word v)) kinds && is_counted v

-- True of a span that is the given one.
abbrev pub is_span : Span → Option Span → Bool
is_span span None = false
is_span span (Some at) = nat_eq at.start span.start && nat_eq at.end span.end

-- The instructions that hold a counted node, counted: those of one of its kinds that have its span.
abbrev pub times : Counted → List Instruction → ℕ
times key [] = 0
times key (i ∷ table) = (if is_of key.kinds i.value && is_span key.span i.span then 1 else 0) + times key table

-- The instruction that was found, if there is one.
abbrev pub found_one : Option Instruction → List Instruction
found_one None = []
found_one (Some i) = i ∷ []

-- The instructions at a list of indices into the table.
abbrev pub listed_at : List Instruction → List InstructionId → List Instruction
listed_at table [] = []
listed_at table (id ∷ ids) = found_one (slice_get table id.0) ++ listed_at table ids

-- The instructions that the blocks list.
abbrev pub listed : List Instruction → List BlockPair → List Instruction
listed table [] = []
listed table (b ∷ blocks) = listed_at table b.1.instructions ++ listed table blocks

-- The counted nodes of the dead parts of a function.
abbrev pub dead_nodes : (function : Syntax) → List Counted
dead_nodes function = flat (counted_at (flat method_at (code_of function))) (flat code (dead_parts (body_in function)))

-- The table holds each counted node of the function once; a node that is not dead is listed by the blocks once.
pub record HoldsOnce (function : Syntax) (f : HirFunction (List BlockPair)) : Type 0 where
  pub table : All (λ key. times key f.instructions ≡ 1) (counted_in function)
  pub blocks : All (λ key. Contains (dead_nodes function) key ⊎ (times key (listed f.instructions f.body.blocks) ≡ 1)) (counted_in function)
