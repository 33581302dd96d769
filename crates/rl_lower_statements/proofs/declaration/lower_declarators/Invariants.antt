use Rattle.std.proofs.Common.{◌≡◌, List, map}
use Rattle.rl_builder.specs.Builder.{State, state_of}
use Rattle.rl_lowered.specs.Lowered.{LoweredDeclarators}
use Rattle.rl_lowered.specs.Named.{IsNamed}
use Rattle.rl_lowered.specs.Promised.{HasRoom, share}
use Rattle.rl_names.specs.Seen.{seen}
use Rattle.rl_promises.specs.Lowerable.{AreLowerable}
use Rattle.rl_syntax.specs.Sizes.{size_of}
use Rattle.rl_syntax.specs.Syntax.{Pieces, nodes_of, pieces_of, syntax}
use Rattle.rl_syntax.specs.declared.numbered.Numbered.{Numbered}
use Rattle.rl_lower_statements.proofs.declaration.lower_declarators.Given as goal

-- The plain trees of a row.
abbrev shown : List Numbered → Pieces
shown trees = pieces_of (map syntax trees)

abbrev pub decreases-declarators : goal.decreases-declarators
decreases-declarators g l = size_of (shown l.left.trees.now)

-- The declarators that are left may be lowered, and with them all are.
abbrev pub invariant-declarators : goal.invariant-declarators
invariant-declarators g l = record {
  same_reference : l.builder.env.ghost_name ≡ l.initial.builder.env.ghost_name;
  names : IsNamed (seen l.names) (state_of g.U.ReadsUnit.tables l.builder);
  may : AreLowerable (seen l.names) (shown l.left.trees.now);
  room : HasRoom (state_of g.U.ReadsUnit.tables l.builder) (share (nodes_of (shown l.left.trees.now)));
  gives : (new : State)
      → LoweredDeclarators (seen l.names) l.span l.kind (shown l.left.trees.now) (state_of g.U.ReadsUnit.tables l.builder) new
      → LoweredDeclarators (seen l.names) l.span l.kind (shown l.declarators.trees.now)
      (state_of g.U.ReadsUnit.tables l.initial.builder) new;
}
