-- The marked function of a unit within the limits leaves room for its graph.
use Rattle.std.proofs.Common.{◌≡◌, ℕ, ◌+◌, ◌*◌, ◌<◌, ◌≤◌, inl, inr, Some, List, [], length, ap, ◌∙◌, arith}
use Rattle.rl_text.specs.Measure.{nodes_in}
use Rattle.rl_syntax.specs.Limits.{IsTooLarge}
use Rattle.rl_syntax.specs.Syntax.{Syntax, nodes}
use Rattle.rl_ast.specs.Units.{Spells}
use Rattle.rl_syntax.proofs.Measured.{nodes_measured}
use Rattle.rl_ast.specs.Marked.{first, marked_functions}
use Rattle.rl_ast.proofs.MarkedFunctions.{first_found, inside_few}
use Rattle.rl_hir.specs.declared.environment.Environment.{Environment}
use Rattle.rl_hir.specs.declared.function.Identifier.{Identifier}
use Rattle.rl_hir.specs.Blocks.{Pair as BlockPair}
use Rattle.rl_hir.specs.declared.function.HirFunction.{HirFunction}
use Rattle.rl_hir.specs.declared.function.InnerFunction.{InnerFunction}
use Rattle.rl_promises.specs.Size.{function_size, inner_size}
use Rattle.rl_lower.specs.Begun.{FunctionTables, begun_by}
use Rattle.rl_lower.specs.Rooms.{HasRoom, share}

pub unit_nodes : (bytes : List ℕ) (u : Syntax) → Spells bytes u → (IsTooLarge bytes → ⊥) → nodes u ≤ 65536
unit_nodes bytes u spells small =
    let counted : nodes_in bytes ≡ nodes u = nodes_measured bytes u spells.spelled in
    let few : 65536 < nodes_in bytes → ⊥ = λ more. small (inr (inl more)) in
    omega (arith, counted, few)

pub few_nodes : (bytes : List ℕ) (u f : Syntax) → Spells bytes u → (IsTooLarge bytes → ⊥) → first (marked_functions u) ≡ Some f
    → nodes f ≤ 65536
few_nodes bytes u f spells small found =
    let all : nodes u ≤ 65536 = unit_nodes bytes u spells small in
    let inside : nodes f ≤ nodes u = inside_few u f (first_found u f found).0 in
    omega (arith, all, inside)

-- A function alone is bounded in the unit's nodes if it is in its own.
pub alone_bounded : (u f : Syntax) (h : HirFunction (List BlockPair)) → first (marked_functions u) ≡ Some f
    → function_size h ≤ 64 * nodes f → (inner : List InnerFunction) → inner ≡ [] → function_size h + inner_size inner ≤ 64 * nodes u
alone_bounded u f h found few inner none =
    let nothing : inner_size inner ≡ 0 = ap inner_size none in
    let inside : nodes f ≤ nodes u = inside_few u f (first_found u f found).0 in
    omega (arith, few, nothing, inside)

-- An environment in which nothing was made leaves room.
pub fresh_room : (env fresh : Environment) (n : ℕ) → env ≡ fresh → fresh.next_block ≡ 0 → fresh.next_type ≡ 0 → fresh.identifiers ≡ []
    → n ≤ 65536 → (tables : FunctionTables) → HasRoom (begun_by env tables) (share n)
fresh_room env fresh n is blocks types identifiers few tables =
    let none : length env.identifiers ≡ 0 =
    ap (λ (e : Environment). length e.identifiers) is ∙ ap (λ (l : List Identifier). length l) identifiers in
    let no_block : env.next_block ≡ 0 = ap (λ (e : Environment). e.next_block) is ∙ blocks in
    let no_type : env.next_type ≡ 0 = ap (λ (e : Environment). e.next_type) is ∙ types in
    omega (arith, no_block, no_type, none, few)
