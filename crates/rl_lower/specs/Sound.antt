-- The graph of a function whose places are known, and which the notation has where the function is small.
use Rattle.std.specs.Prelude.{◌≤◌, List, All, length, map}
use Rattle.rl_hir.specs.Listing as listing
use Rattle.rl_hir.specs.declared.environment.Environment.{Environment}
use Rattle.rl_hir.specs.declared.function.Param.{Param}
use Rattle.rl_lowered.specs.Sound.{AreSmallTrees, AreWritableIdentifiers, AreWritablePairs, IsSmallTree}
use Rattle.rl_machine.specs.Machine.{Graph}
use Rattle.rl_model.specs.WellFormed.{AreKnown, instruction_places, param_place, terminal_places}
use Rattle.rl_syntax.specs.Syntax.{Pieces, Syntax}
use Rattle.rl_text.specs.Notation.{IsWritable}
use Rattle.rl_text.specs.Number.{largest}

-- The notation has the listings of a graph and of its instruction table.
pub record IsWritableGraph (built : Graph) : Type 0 where
  pub entry : built.entry.0 ≤ largest
  pub blocks : All (λ b. IsWritable (listing.block b)) built.blocks
  pub table : All (λ i. IsWritable (listing.instruction i)) built.table

-- The graph that was built from the parameters of a `params` node and a body over the environment `old` names identifiers of `new`, among
-- which the places of the parameters have theirs. Where these trees are small, the notation has the parameters, the graph and the
-- identifiers; and it has the pairs.
pub record IsSoundGraph (parameters : Pieces) (rest body : Syntax) (params : List Param) (old new : Environment) (built : Graph)
    : Type 0 where
  pub given : AreKnown (length new.identifiers) (map param_place params)
  pub listed : AreSmallTrees parameters → IsSmallTree rest → All (λ p. IsWritable (listing.param p)) params
  pub count : length new.identifiers ≤ largest
  pub types : new.next_type ≤ largest
  pub table : All (λ i. AreKnown (length new.identifiers) (instruction_places i)) built.table
  pub terminals : All (λ b. AreKnown (length new.identifiers) (terminal_places b.1.terminal)) built.blocks
  pub graph : AreSmallTrees parameters → IsSmallTree rest → IsSmallTree body → IsWritableGraph built
  pub identifiers : AreSmallTrees parameters → IsSmallTree rest → IsSmallTree body → AreWritableIdentifiers old.identifiers
      → AreWritableIdentifiers new.identifiers
  pub pairs : AreWritablePairs old.pairs → AreWritablePairs new.pairs
