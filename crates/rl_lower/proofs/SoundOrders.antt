-- Facts of instructions and blocks of a graph that is built, from those of the builder's.
use Rattle.std.proofs.Common.{◌≡◌, ℕ, ◌+◌, ◌≤◌, List, All, sym, subst, arith}
use Rattle.rl_text.specs.Notation.{IsWritable}
use Rattle.rl_text.specs.Number.{largest}
use Rattle.rl_hir.specs.Listing as listing
use Rattle.rl_hir.specs.Blocks.{Pair as BlockPair}
use Rattle.rl_hir.specs.declared.environment.Environment.{Environment}
use Rattle.rl_hir.specs.declared.instruction.Instruction.{Instruction}
use Rattle.rl_builder.specs.Build.{IsBuilt, graph_of}
use Rattle.rl_builder.specs.Builder.{State}
use Rattle.rl_machine.specs.Machine.{Graph}
use Rattle.rl_order.proofs.PrunedBlocks.{StaysPruned, pruned_all, pruned_table_all}
use Rattle.rl_order.specs.Numbering.{orders_of}
use Rattle.rl_model.specs.WellFormed.{AreKnown, instruction_places, terminal_places}
use Rattle.rl_lower.specs.Sound.{IsWritableGraph}
use Rattle.rl_lowered.proofs.SoundListing.{IsSmallId, blocks_stay, instruction_ordered}
use Rattle.rl_lowered.proofs.SoundMoves.{none_known}
use Rattle.rl_lowered.specs.Sound.{HasWritableParts}

-- The places of a block's terminal are known.
abbrev EndsKnown : (count : ℕ) → BlockPair → Type 0
EndsKnown count b = AreKnown count (terminal_places b.1.terminal)

known_stay : (count bound : ℕ) → StaysPruned (EndsKnown count) (λ id. Unit {0}) bound
known_stay count bound = record {
  own = λ b known. tt;
  named = λ b known. (λ k d within. tt);
  linked = λ b known. (λ k d within. tt);
  empties = λ b known. none_known count;
  loses_update = λ b init test update body fallthrough is known. none_known count;
  goes = λ b target there known. none_known count;
  orders = λ b order within known. known;
  links = λ b preds there known. known;
}

-- Facts of a graph that is built, where the completed blocks are their own table.
module _ (s : State) (built : Graph) (env : Environment) (b : IsBuilt s built env) where
  pub built_table_known : (count : ℕ) → All (λ i. AreKnown count (instruction_places i)) s.table
      → All (λ i. AreKnown count (instruction_places i)) built.table
  built_table_known count known =
      pruned_table_all (λ (i : Instruction). AreKnown count (instruction_places i)) (1 + orders_of (graph_of s)) (λ order i within k. k)
      (graph_of s) s.entry s.table built.blocks built.table b.pruned (omega arith) known

  pub built_terminals_known : (count : ℕ) → graph_of s ≡ s.completed → All (λ p. AreKnown count (terminal_places p.1.terminal)) s.completed
      → All (λ p. AreKnown count (terminal_places p.1.terminal)) built.blocks
  built_terminals_known count same known =
      pruned_all (EndsKnown count) (λ id. Unit {0}) (1 + orders_of (graph_of s)) (known_stay count (1 + orders_of (graph_of s)))
      (graph_of s) s.entry s.table built.blocks built.table b.pruned (omega arith) (subst (All (EndsKnown count)) (sym same) known)

  pub built_writable : graph_of s ≡ s.completed → s.entry.0 ≤ largest → 1 + orders_of s.completed ≤ largest → HasWritableParts s
      → IsWritableGraph built
  built_writable same entry orders w = record {
    entry = subst IsSmallId (sym b.entry) entry;
    blocks = pruned_all (λ (p : BlockPair). IsWritable (listing.block p)) IsSmallId largest blocks_stay
        (graph_of s) s.entry s.table built.blocks built.table b.pruned few
        (subst (All (λ (p : BlockPair). IsWritable (listing.block p))) (sym same) w.completed);
    table =
        pruned_table_all (λ (i : Instruction). IsWritable (listing.instruction i)) largest
        (λ order i within k. instruction_ordered order i within k)
        (graph_of s) s.entry s.table built.blocks built.table b.pruned few w.table;
  }
    where
      few : 1 + orders_of (graph_of s) ≤ largest
      few = subst (λ (pairs : List BlockPair). 1 + orders_of pairs ≤ largest) (sym same) orders
