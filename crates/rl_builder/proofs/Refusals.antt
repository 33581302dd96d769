-- Refusals of dropped blocks: those so far, and those of the blocks that are left.
use Rattle.std.proofs.Common.{◌≡◌, ℕ, suc, zero, ◌+◌, ◌≤◌, ◌<◌, Bool, true, false, if◌then◌else◌, Option, Some, None, List, [], ◌∷◌, ◌++◌, append_assoc, drop, get_or, length, slice_get, refl, sym, ap, ◌∙◌, arith}
use Rattle.std.proofs.lemmas.List.{append-nil, at_drop_more, drop_all}
use Rattle.rl_base.specs.declared.diagnostic.Diagnostic.{Diagnostic}
use Rattle.rl_base.specs.declared.ids.InstructionId.{InstructionId}
use Rattle.rl_builder.specs.Dropped.{first_function, function_or, is_function_expression, refused_block, refused_blocks}
use Rattle.rl_hir.specs.Blocks.{Pair}
use Rattle.rl_hir.specs.declared.environment.Environment.{Environment}
use Rattle.rl_hir.specs.declared.instruction.Instruction.{Instruction}

-- The first function of those that are left: the next one if it makes a function, else the first behind it.
pub function_next : (table : List Instruction) (listed : List InstructionId) (place : ℕ) (id : InstructionId) → place < length listed
    → function_or (slice_get table (get_or listed place id).0) (first_function table (drop (place + 1) listed)) ≡ first_function table (drop place listed)
function_next table listed place id within = sym (at_drop_more (first_function table) listed place id within)

pub function_found : (at rest : Option Instruction) (i : Instruction) → function_or at None ≡ Some i → function_or at rest ≡ Some i
function_found None rest i is = absurd (cc)
function_found (Some x) rest i is = by_test (is_function_expression x.value) refl
  where
    by_test : (b : Bool) → is_function_expression x.value ≡ b → function_or (Some x) rest ≡ Some i
    by_test true t = ap (λ (b : Bool). if b then Some x else rest) t ∙ sym (ap (λ (b : Bool). if b then Some x else None) t) ∙ is
    by_test false t = absurd (let never : None ≡ Some i = sym (ap (λ (b : Bool). if b then Some x else None) t) ∙ is in cc)

pub function_missed : (at rest : Option Instruction) → function_or at None ≡ None → function_or at rest ≡ rest
function_missed None rest is = refl
function_missed (Some x) rest is = by_test (is_function_expression x.value) refl
  where
    by_test : (b : Bool) → is_function_expression x.value ≡ b → function_or (Some x) rest ≡ rest
    by_test true t = absurd (let never : Some x ≡ None = sym (ap (λ (b : Bool). if b then Some x else None) t) ∙ is in cc)
    by_test false t = ap (λ (b : Bool). if b then Some x else rest) t

-- The environment with more diagnostics.
abbrev pub with_more : Environment → List Diagnostic → Environment
with_more env more = record env { diagnostics = env.diagnostics ++ more }

drop_at : (pairs : List Pair) (place : ℕ) (p : Pair) → slice_get pairs place ≡ Some p → drop place pairs ≡ p ∷ drop (place + 1) pairs
drop_at [] place p at = absurd (cc)
drop_at (x ∷ pairs) zero p at = let same : x ≡ p = cc in ap (λ (y : Pair). y ∷ pairs) same
drop_at (x ∷ pairs) (suc place) p at =
    let next : suc (place + 1) ≡ suc place + 1 = omega arith in
    drop_at pairs place p at ∙ ap (λ (n : ℕ). p ∷ drop n (x ∷ pairs)) next

-- The refusal of the next block, and those of the blocks behind it.
pub one_more_refused : (table : List Instruction) (ordered pairs : List Pair) (env : Environment) (place : ℕ) (p : Pair) → slice_get pairs place ≡ Some p
    → with_more (with_more env (refused_block table ordered p)) (refused_blocks table ordered (drop (place + 1) pairs))
    ≡ with_more env (refused_blocks table ordered (drop place pairs))
one_more_refused table ordered pairs env place p at =
    ap (λ (all : List Diagnostic). record env { diagnostics = all }) (append_assoc env.diagnostics (refused_block table ordered p) (refused_blocks table ordered (drop (place + 1) pairs)))
    ∙ ap (λ (left : List Pair). with_more env (refused_blocks table ordered left)) (sym (drop_at pairs place p at))

-- No block is left.
pub all_refused : (table : List Instruction) (ordered pairs : List Pair) (env : Environment) (place : ℕ) → length pairs ≤ place
    → env ≡ with_more env (refused_blocks table ordered (drop place pairs))
all_refused table ordered pairs env place past =
    ap (λ (all : List Diagnostic). record env { diagnostics = all }) (sym (append-nil env.diagnostics))
    ∙ ap (λ (left : List Pair). with_more env (refused_blocks table ordered left)) (sym (drop_all place pairs past))

-- From equal parts.
pub refused_same : (env env1 after : Environment) (table table1 : List Instruction) (ordered blocks graph : List Pair) → env ≡ env1 → table ≡ table1 → blocks ≡ graph
    → after ≡ with_more env (refused_blocks table ordered blocks) → after ≡ with_more env1 (refused_blocks table1 ordered graph)
refused_same env env1 after table table1 ordered blocks graph e t b is =
    is ∙ ap (λ (x : Environment). with_more x (refused_blocks table ordered blocks)) e
    ∙ ap (λ (x : List Instruction). with_more env1 (refused_blocks x ordered blocks)) t
    ∙ ap (λ (x : List Pair). with_more env1 (refused_blocks table1 ordered x)) b
