use Rattle.std.proofs.Common.{◌≡◌, ◌+◌, ◌*◌, List, map, true}
use Rattle.rl_builder.specs.Builder.{state_of}
use Rattle.rl_grammar.specs.Fields.{maybe}
use Rattle.rl_hir.specs.Pieces.{taken_pieces}
use Rattle.rl_lower_statements.proofs.ItemDerivations.{BindsLeft}
use Rattle.rl_lowered.specs.Named.{IsNamed}
use Rattle.rl_lowered.specs.Promised.{HasRoom}
use Rattle.rl_names.specs.Seen.{seen}
use Rattle.rl_promises.specs.Lowerable.{AreLowerable}
use Rattle.rl_syntax.specs.Sizes.{size_of}
use Rattle.rl_syntax.specs.Syntax.{Pieces, nodes_of, pieces_of, syntax}
use Rattle.rl_syntax.specs.declared.numbered.Numbered.{Numbered}
use Rattle.rl_lower_statements.proofs.pattern_items.bind_properties.Given as goal

-- The plain trees of a row.
abbrev shown : List Numbered → Pieces
shown trees = pieces_of (map syntax trees)

abbrev pub decreases-properties : goal.decreases-properties
decreases-properties g l = size_of (shown l.left.trees.now)

-- The properties that are left may get their places, and with them all have.
abbrev pub invariant-properties : goal.invariant-properties
invariant-properties g l = record {
  same_reference : l.builder.env.ghost_name ≡ l.initial.builder.env.ghost_name;
  names : IsNamed (seen l.names) (state_of g.U.ReadsUnit.tables l.builder);
  may : AreLowerable (seen l.names) (shown l.left.trees.now);
  room : HasRoom (state_of g.U.ReadsUnit.tables l.builder) (4 * nodes_of (shown l.left.trees.now) + 4);
  binds : BindsLeft taken_pieces (seen l.names) l.again true (shown l.properties.trees.now) (shown l.left.trees.now)
      (maybe l.rest (λ t. syntax t.tree.now)) (state_of g.U.ReadsUnit.tables l.initial.builder) (state_of g.U.ReadsUnit.tables l.builder)
      l.bound l.later;
}
