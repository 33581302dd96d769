use Rattle.std.proofs.Common.{◌≡◌, List, map}
use Rattle.rl_builder.specs.Builder.{state_of}
use Rattle.rl_lower_parts.proofs.LookDerivations.{LooksLeft}
use Rattle.rl_lowered.specs.Named.{IsNamed}
use Rattle.rl_lowered.specs.Promised.{HasRoom, share}
use Rattle.rl_names.specs.Seen.{seen}
use Rattle.rl_promises.specs.Lowerable.{AreFreeAhead}
use Rattle.rl_syntax.specs.Sizes.{size_of}
use Rattle.rl_syntax.specs.Syntax.{Pieces, nodes_of, pieces_of, syntax}
use Rattle.rl_syntax.specs.declared.numbered.Numbered.{Numbered}
use Rattle.rl_lower_parts.proofs.target_items.look_at_elements.Given as goal

-- The plain trees of a row.
abbrev shown : List Numbered → Pieces
shown trees = pieces_of (map syntax trees)

abbrev pub decreases-items : goal.decreases-items
decreases-items g l = size_of (shown l.left.trees.now)

-- The names that are left may be looked up, and with them all are.
abbrev pub invariant-items : goal.invariant-items
invariant-items g l = record {
  same_reference : l.builder.env.ghost_name ≡ l.initial.builder.env.ghost_name;
  names : IsNamed (seen l.names) (state_of g.U.ReadsUnit.tables l.builder);
  may : AreFreeAhead (seen l.names) (shown l.left.trees.now);
  room : HasRoom (state_of g.U.ReadsUnit.tables l.builder) (share (nodes_of (shown l.left.trees.now)));
  looks : LooksLeft (seen l.names) (shown l.items.trees.now) (shown l.left.trees.now) (state_of g.U.ReadsUnit.tables l.initial.builder)
      (state_of g.U.ReadsUnit.tables l.builder);
}
