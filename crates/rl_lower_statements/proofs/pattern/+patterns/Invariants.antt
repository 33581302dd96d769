use Rattle.std.proofs.Common.{◌≡◌, ◌+◌, ◌*◌, ◌≤◌, List, drop}
use Rattle.rl_builder.specs.Builder.{State, state_of}
use Rattle.rl_lower_parts.specs.Patterns.{HasLeftRoom}
use Rattle.rl_lower_statements.specs.Patterns.{AreLowerableLeft, all_left, seen_part}
use Rattle.rl_lower_statements.specs.declared.pattern_items.LeftPattern.{LeftPattern}
use Rattle.rl_lowered.specs.Lowered.{LoweredBound}
use Rattle.rl_lowered.specs.Named.{IsNamed}
use Rattle.rl_lowered.specs.Promised.{nodes_left}
use Rattle.rl_names.specs.Seen.{seen}
use Rattle.rl_syntax.specs.Syntax.{nodes, syntax}
use Rattle.rl_lower_statements.proofs.pattern.+patterns.Given as goal

-- The nodes that are left; parts that were left behind the pattern that they are parts of.
abbrev pub decreases-lower_pattern : goal.decreases-lower_pattern
decreases-lower_pattern g l = 4 * nodes (syntax l.pattern.tree.now)

abbrev pub decreases-lower_maybe_default : goal.decreases-lower_maybe_default
decreases-lower_maybe_default g l = 4 * nodes (syntax l.pattern.tree.now) + 1

abbrev pub decreases-lower_left_part : goal.decreases-lower_left_part
decreases-lower_left_part g l = 4 * nodes (seen_part l.left.part) + 2

abbrev pub decreases-lower_left : goal.decreases-lower_left
decreases-lower_left g l = 4 * nodes_left (all_left l.parts.now) + 3

-- The parts that are left may be lowered, and with them all are.
abbrev pub invariant-lower_left-loop-part : goal.invariant-lower_left-loop-part
invariant-lower_left-loop-part g l =
    let left : List LeftPattern = drop l.part-index l.parts in
    record {
      same_reference : l.builder.env.ghost_name ≡ l.initial.builder.env.ghost_name;
      names : IsNamed (seen l.names) (state_of g.U.ReadsUnit.tables l.builder);
      may : AreLowerableLeft (seen l.names) (all_left left);
      room : HasLeftRoom (state_of g.U.ReadsUnit.tables l.builder) (all_left left);
      fewer : nodes_left (all_left left) ≤ nodes_left (all_left l.parts);
      lowers : (new : State) → LoweredBound (seen l.names) l.again l.kind (all_left left) (state_of g.U.ReadsUnit.tables l.builder) new
          → LoweredBound (seen l.names) l.again l.kind (all_left l.parts) (state_of g.U.ReadsUnit.tables l.initial.builder) new;
    }
