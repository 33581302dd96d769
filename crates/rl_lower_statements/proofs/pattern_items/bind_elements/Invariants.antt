use Rattle.std.proofs.Common.{◌≡◌, ◌+◌, ◌*◌, List, false, map}
use Rattle.rl_builder.specs.Builder.{state_of}
use Rattle.rl_grammar.specs.Fields.{maybe}
use Rattle.rl_hir.specs.Pieces.{element_pieces}
use Rattle.rl_lower_statements.proofs.ItemDerivations.{BindsLeft}
use Rattle.rl_lowered.specs.Named.{IsNamed}
use Rattle.rl_lowered.specs.Promised.{HasRoom}
use Rattle.rl_names.specs.Seen.{seen}
use Rattle.rl_promises.specs.Lowerable.{AreLowerable}
use Rattle.rl_syntax.specs.Sizes.{size_of}
use Rattle.rl_syntax.specs.Syntax.{Pieces, nodes_of, pieces_of, syntax}
use Rattle.rl_syntax.specs.declared.numbered.Numbered.{Numbered}
use Rattle.rl_lower_statements.proofs.pattern_items.bind_elements.Given as goal

-- The plain trees of a row.
abbrev shown : List Numbered → Pieces
shown trees = pieces_of (map syntax trees)

abbrev pub decreases-items : goal.decreases-items
decreases-items g l = size_of (shown l.left.trees.now)

-- The items that are left may get their places, and with them all have.
abbrev pub invariant-items : goal.invariant-items
invariant-items g l = record {
  same_reference : l.builder.env.ghost_name ≡ l.initial.builder.env.ghost_name;
  names : IsNamed (seen l.names) (state_of g.U.ReadsUnit.tables l.builder);
  may : AreLowerable (seen l.names) (shown l.left.trees.now);
  room : HasRoom (state_of g.U.ReadsUnit.tables l.builder) (4 * nodes_of (shown l.left.trees.now) + 4);
  binds : BindsLeft element_pieces (seen l.names) l.again false (shown l.items.trees.now) (shown l.left.trees.now)
      (maybe l.rest (λ t. syntax t.tree.now)) (state_of g.U.ReadsUnit.tables l.initial.builder) (state_of g.U.ReadsUnit.tables l.builder)
      l.bound l.later;
}
