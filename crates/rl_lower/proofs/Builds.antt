-- A builder that was closed off can be built.
use Rattle.std.proofs.Common.{◌≡◌, ℕ, zero, suc, ◌+◌, ◌*◌, ◌<◌, ◌≤◌, ◌^◌, Bool, true, false, if◌then◌else◌, Option, Some, None, is_some}
use Rattle.std.proofs.Common.{List, [], ◌∷◌}
use Rattle.std.proofs.Common.{◌++◌}
use Rattle.std.proofs.Common.{All, length, slice_get, append-nil, arith, refl, sym, ap, ◌∙◌, subst}
use Rattle.std.proofs.lemmas.List.Elements.{All-head, All-tail}
use Rattle.std.proofs.lemmas.Option.{none-some, same_Some}
use Rattle.rl_base.specs.declared.diagnostic.Diagnostic.{Diagnostic}
use Rattle.rl_base.specs.declared.ids.InstructionId.{InstructionId}
use Rattle.rl_builder.specs.Build.{IsBuilt, graph_of}
use Rattle.rl_builder.specs.Builder.{State}
use Rattle.rl_builder.specs.Dropped.{first_function, function_or, is_function_expression, refused_blocks, refused_function}
use Rattle.rl_hir.specs.Blocks.{Pair as BlockPair, block_at}
use Rattle.rl_hir.specs.declared.environment.Environment.{Environment}
use Rattle.rl_hir.specs.declared.instruction.Instruction.{Instruction}
use Rattle.rl_lower.proofs.Building.{IsFresh, closed_listed, size_closed, sound_closed}
use Rattle.rl_lower.proofs.Functions.{few_completed, function_finished, function_whole}
use Rattle.rl_lower.proofs.LoweredFunctions.{LowersFunction}
use Rattle.rl_lower.specs.Endings.{closed_off}
use Rattle.rl_lowered.proofs.SoundMoves.{counters_then}
use Rattle.rl_lowered.specs.Promised.{HasRoom, share}
use Rattle.rl_lowered.specs.Sound.{CountersGrow}
use Rattle.rl_machine.specs.Machine.{Graph}
use Rattle.rl_names.specs.Names.{Names}
use Rattle.rl_order.specs.Numbering.{orders_of}
use Rattle.rl_order.specs.Walk.{IsWhole}
use Rattle.rl_runs.proofs.Tables.{table_same}
use Rattle.rl_runs.specs.Blocks.{size_of}
use Rattle.rl_runs.specs.Listed.{AreBelow}

-- A fact about each item of a list, at an item.
all_at : {X : Type 0} (P : X → Type 0) (xs : List X) (place : ℕ) (x : X) → slice_get xs place ≡ Some x → All P xs → P x
all_at P [] place x there all = absurd (none-some x there)
all_at P (y ∷ xs) zero x there all = subst P (same_Some y x there) (All-head P y xs all)
all_at P (y ∷ xs) (suc place) x there all = all_at P xs place x there (All-tail P y xs all)

-- Blocks are not refused without instructions that make functions.

none_found : (table : List Instruction) → All (λ i. is_function_expression i.value ≡ false) table → (ids : List InstructionId)
    → first_function table ids ≡ None
none_found table plain [] = refl
none_found table plain (id ∷ ids) = by_item (slice_get table id.0) refl (none_found table plain ids)
  where
    by_item : (o : Option Instruction) → slice_get table id.0 ≡ o → first_function table ids ≡ None
        → function_or o (first_function table ids) ≡ None
    by_item None is rest = rest
    by_item (Some i) is rest =
        ap (λ (b : Bool). if b then Some i else first_function table ids)
        (all_at (λ i. is_function_expression i.value ≡ false) table id.0 i is plain) ∙ rest

none_refused : (table : List Instruction) (ordered : List BlockPair) → All (λ i. is_function_expression i.value ≡ false) table
    → (pairs : List BlockPair) → refused_blocks table ordered pairs ≡ []
none_refused table ordered plain [] = refl
none_refused table ordered plain (p ∷ pairs) =
    ap (λ (l : List Diagnostic). l ++ refused_blocks table ordered pairs) (by_test (is_some (block_at ordered p.0)))
    ∙ none_refused table ordered plain pairs
  where
    by_test : (b : Bool) → (if b then [] else refused_function (first_function table p.1.instructions)) ≡ []
    by_test true = refl
    by_test false = ap refused_function (none_found table plain p.1.instructions)

-- The size of the builder behind the parameters and the body.
module _ (names : Names) (small : Type 0) (count : ℕ) (begun s : State) (l : LowersFunction names small count begun s) where
  pub closed_size : size_of (closed_off s) ≤ size_of begun + (64 * (count + 1) + 4)
  closed_size = omega (arith, l.size, size_closed s)

  pub closed_grows : CountersGrow begun (closed_off s)
  closed_grows = counters_then begun s (closed_off s) l.sound.counters (sound_closed small s).counters

  pub closed_fits : HasRoom begun (share (count + 2)) → (closed_off s).env.next_block < 2 ^ 32
  closed_fits room = omega (arith, closed_size, room)

module _ (names : Names) (small : Type 0) (count : ℕ) (begun s : State) (fresh : IsFresh begun)
    (l : LowersFunction names small count begun s) (fits : (closed_off s).env.next_block < 2 ^ 32) where
  pub closed_table : graph_of (closed_off s) ≡ (closed_off s).completed
  closed_table = table_same (closed_off s).completed (function_finished begun s fresh l.blocks fits).apart

  pub closed_whole : IsWhole (graph_of (closed_off s)) (closed_off s).entry
  closed_whole =
      subst (λ (pairs : List BlockPair). IsWhole pairs (closed_off s).entry) (sym closed_table) (function_whole begun s fresh l.blocks fits)

  pub closed_below : All (λ p. AreBelow (length (closed_off s).table) p.1.instructions) (graph_of (closed_off s))
  closed_below =
      subst (λ (pairs : List BlockPair). All (λ p. AreBelow (length (closed_off s).table) p.1.instructions) pairs) (sym closed_table)
      (closed_listed begun s fresh l.lists).completed

  -- Instructions and blocks are as many as the numbers that were given.
  pub few_parts : length (closed_off s).table + length (closed_off s).completed ≤ 64 * (count + 1) + 5
  few_parts =
      let size : size_of (closed_off s) ≤ size_of begun + (64 * (count + 1) + 4) = closed_size names small count begun s l in
      let grows : CountersGrow begun (closed_off s) = closed_grows names small count begun s l in
      let blocks : length (closed_off s).completed + begun.current.id.0 ≤ (closed_off s).env.next_block =
      few_completed begun s fresh l.blocks fits in
      let table : length begun.table ≡ 0 = ap (λ (t : List Instruction). length t) fresh.table in
      omega (arith, size, grows.types, grows.identifiers, blocks, table, fresh.last)

  pub few_orders : orders_of (closed_off s).completed ≤ 64 * (count + 1) + 5
  few_orders =
      let counted : orders_of (closed_off s).completed + 0 ≡ length (closed_off s).table + length (closed_off s).completed =
      (closed_listed begun s fresh l.lists).counted in
      omega (arith, counted, few_parts)

  pub orders_fit : HasRoom begun (share (count + 2)) → 1 + orders_of (closed_off s).completed < 2 ^ 32
  orders_fit room = omega (arith, few_orders, room)

  pub closed_orders : HasRoom begun (share (count + 2)) → orders_of (graph_of (closed_off s)) < 2 ^ 32
  closed_orders room =
      let fewer : orders_of (closed_off s).completed < 2 ^ 32 = omega (arith, orders_fit room) in
      subst (λ (pairs : List BlockPair). orders_of pairs < 2 ^ 32) (sym closed_table) fewer

  -- No block makes a function, so none is refused.
  pub closed_env : (built : Graph) (env : Environment) → IsBuilt (closed_off s) built env → env ≡ (closed_off s).env
  closed_env built env is_built =
      is_built.refused
      ∙ ap (λ (said : List Diagnostic). record (closed_off s).env { diagnostics = (closed_off s).env.diagnostics ++ said })
      (none_refused (closed_off s).table is_built.pruned.ordered (closed_listed begun s fresh l.lists).no_functions
      (graph_of (closed_off s)))
      ∙ ap (λ (said : List Diagnostic). record (closed_off s).env { diagnostics = said }) (append-nil (closed_off s).env.diagnostics)
