use Rattle.std.proofs.Common.{◌≡◌, ◌+◌, ◌++◌, List, map}
use Rattle.rl_builder.specs.Builder.{State, state_of}
use Rattle.rl_grammar.specs.Fields.{maybe}
use Rattle.rl_hir.specs.declared.function.Param.{Param}
use Rattle.rl_lowered.specs.Lowered.{LoweredParams}
use Rattle.rl_lowered.specs.Named.{IsNamed}
use Rattle.rl_lowered.specs.Promised.{HasRoom, share}
use Rattle.rl_names.specs.Seen.{seen}
use Rattle.rl_promises.specs.Lowerable.{AreLowerable}
use Rattle.rl_syntax.specs.Sizes.{size_of}
use Rattle.rl_syntax.specs.Syntax.{Pieces, Syntax, nodes, nodes_of, pieces_of, syntax}
use Rattle.rl_syntax.specs.declared.numbered.Numbered.{Numbered}
use Rattle.rl_lower.proofs.params.lower_parameters.Given as goal

-- The plain trees of a row.
abbrev shown : List Numbered → Pieces
shown trees = pieces_of (map syntax trees)

abbrev pub decreases-parameters : goal.decreases-parameters
decreases-parameters g l = size_of (shown l.left.trees.now)

-- The parameters that are left may be lowered, and with them all are.
abbrev pub invariant-parameters : goal.invariant-parameters
invariant-parameters g l =
    let rest : Syntax = maybe l.parameters.rest (λ t. syntax t.tree.now) in
    record {
      same_reference : l.builder.env.ghost_name ≡ l.initial.builder.env.ghost_name;
      names : IsNamed (seen l.names) (state_of g.U.ReadsUnit.tables l.builder);
      may : AreLowerable (seen l.names) (shown l.left.trees.now);
      room : HasRoom (state_of g.U.ReadsUnit.tables l.builder) (share (nodes_of (shown l.left.trees.now) + nodes rest));
      lowers : (new : State) (more : List Param)
          → LoweredParams (seen l.names) (shown l.left.trees.now) rest (state_of g.U.ReadsUnit.tables l.builder) new more
          → LoweredParams (seen l.names) (shown l.parameters.items.trees.now) rest (state_of g.U.ReadsUnit.tables l.initial.builder) new
          (l.params ++ more);
    }
