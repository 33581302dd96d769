use Rattle.std.proofs.Common.{◌≡◌, ◌+◌, ◌*◌, ◌≤◌, ◌∷◌, false, List, None, Some, length, map}
use Rattle.rl_ast.specs.BindingViews.{seen_binding_identifier}
use Rattle.rl_ast.specs.StatementViews.{seen_statement}
use Rattle.rl_ast.specs.declared.statement.Statement.TheVariants as statement
use Rattle.rl_builder.specs.Builder.{State, state_of}
use Rattle.rl_frames.specs.SwitchParts.{switch_of}
use Rattle.rl_grammar.specs.Fields.{maybe}
use Rattle.rl_lower_statements.specs.Cases.{FramesBehind}
use Rattle.rl_lower_statements.specs.Tries.{caught_try}
use Rattle.rl_lowered.specs.Arounds.{arounds}
use Rattle.rl_lowered.specs.Lowered.{LoweredStatements}
use Rattle.rl_lowered.specs.Named.{IsNamed}
use Rattle.rl_lowered.specs.Promised.{HasRoom, share}
use Rattle.rl_names.specs.Seen.{seen}
use Rattle.rl_promises.specs.Jumps.{InSwitch}
use Rattle.rl_promises.specs.Lowerable.{AreLowerableCases, AreLowerableIn}
use Rattle.rl_syntax.specs.Sizes.{size_of}
use Rattle.rl_syntax.specs.Syntax.{Absent, Pieces, nodes, nodes_of, pieces_of, syntax}
use Rattle.rl_syntax.specs.declared.numbered.Numbered.{Numbered}
use Rattle.rl_lower_statements.proofs.+statements.Given as goal

-- The plain trees of a row.
abbrev shown : List Numbered → Pieces
shown trees = pieces_of (map syntax trees)

-- The nodes that are left; a loop behind the statement that it is, and rows of statements below the node that they are parts of.
abbrev pub decreases-statement::lower_statement : goal.decreases-statement::lower_statement
decreases-statement::lower_statement g l = 5 * nodes (syntax l.statement.tree.now) + 3

abbrev pub decreases-statement::lower_if_then : goal.decreases-statement::lower_if_then
decreases-statement::lower_if_then g l = 5 * nodes (seen_statement (statement.If l.at l.test l.consequent None))

abbrev pub decreases-statement::lower_if_else : goal.decreases-statement::lower_if_else
decreases-statement::lower_if_else g l = 5 * nodes (seen_statement (statement.If l.at l.test l.consequent (Some l.alternate)))

abbrev pub decreases-statement::lower_block : goal.decreases-statement::lower_block
decreases-statement::lower_block g l = 5 * nodes (syntax l.block.tree.now)

abbrev pub decreases-switch::lower_switch : goal.decreases-switch::lower_switch
decreases-switch::lower_switch g l = 5 * nodes (seen_statement (statement.Switch l.at l.discriminant l.cases))

abbrev pub decreases-switch::lower_cases : goal.decreases-switch::lower_cases
decreases-switch::lower_cases g l = 5 * nodes_of (shown l.cases.trees.now) + 4

abbrev pub decreases-switch::lower_case : goal.decreases-switch::lower_case
decreases-switch::lower_case g l = 5 * nodes (syntax l.case.tree.now)

abbrev pub decreases-try_statement::lower_try : goal.decreases-try_statement::lower_try
decreases-try_statement::lower_try g l = 5 * nodes (seen_statement (statement.Try l.at l.block l.handler l.finalizer)) + 2

abbrev pub decreases-try_statement::lower_caught : goal.decreases-try_statement::lower_caught
decreases-try_statement::lower_caught g l =
    5 * nodes (caught_try l.at l.clause.at (syntax l.block.tree.now) (maybe l.clause.param (λ t. syntax t.tree.now))
    (syntax l.clause.body.tree.now)) + 1

abbrev pub decreases-try_statement::lower_try_plain : goal.decreases-try_statement::lower_try_plain
decreases-try_statement::lower_try_plain g l = 5 * nodes (caught_try l.at l.there (syntax l.block.tree.now) Absent (syntax l.body.tree.now))

abbrev pub decreases-try_statement::lower_try_bound : goal.decreases-try_statement::lower_try_bound
decreases-try_statement::lower_try_bound g l =
    5 * nodes (caught_try l.at l.there (syntax l.block.tree.now) (seen_binding_identifier l.bind.now) (syntax l.body.tree.now))

abbrev pub decreases-loops::lower_labeled : goal.decreases-loops::lower_labeled
decreases-loops::lower_labeled g l = 5 * nodes (seen_statement (statement.Labeled l.at l.label l.body)) + 1

abbrev pub decreases-loops::lower_loop : goal.decreases-loops::lower_loop
decreases-loops::lower_loop g l = 5 * nodes (syntax l.statement.tree.now) + 2

abbrev pub decreases-loops::lower_while : goal.decreases-loops::lower_while
decreases-loops::lower_while g l = 5 * nodes (seen_statement (statement.While l.at l.test l.body))

abbrev pub decreases-loops::lower_do_while : goal.decreases-loops::lower_do_while
decreases-loops::lower_do_while g l = 5 * nodes (seen_statement (statement.DoWhile l.at l.body l.test))

abbrev pub decreases-loops::lower_for_updated : goal.decreases-loops::lower_for_updated
decreases-loops::lower_for_updated g l = 5 * nodes (seen_statement (statement.For l.at l.init l.test (Some l.update) l.body))

abbrev pub decreases-loops::lower_for_plain : goal.decreases-loops::lower_for_plain
decreases-loops::lower_for_plain g l = 5 * nodes (seen_statement (statement.For l.at l.init l.test None l.body))

abbrev pub decreases-loops::lower_for_in : goal.decreases-loops::lower_for_in
decreases-loops::lower_for_in g l = 5 * nodes (seen_statement (statement.ForIn l.at l.left l.right l.body))

abbrev pub decreases-loops::lower_for_of_plain : goal.decreases-loops::lower_for_of_plain
decreases-loops::lower_for_of_plain g l = 5 * nodes (seen_statement (statement.ForOf l.at false l.left l.right l.body))

abbrev pub decreases-loops::lower_for_of : goal.decreases-loops::lower_for_of
decreases-loops::lower_for_of g l = 5 * nodes (seen_statement (statement.ForOf l.at l.is_await l.left l.right l.body)) + 1

abbrev pub decreases-statement::lower_statements : goal.decreases-statement::lower_statements
decreases-statement::lower_statements g l = 5 * nodes_of (shown l.statements.trees.now) + 4

abbrev pub decreases-statement::lower_statements-statements : goal.decreases-statement::lower_statements-statements
decreases-statement::lower_statements-statements g l = size_of (shown l.left.trees.now)

-- The statements that are left may be lowered, and with them all are.
abbrev pub invariant-statement::lower_statements-statements : goal.invariant-statement::lower_statements-statements
invariant-statement::lower_statements-statements g l = record {
  same_reference : l.builder.env.ghost_name ≡ l.initial.builder.env.ghost_name;
  names : IsNamed (seen l.names) (state_of g.U.ReadsUnit.tables l.builder);
  may : AreLowerableIn (seen l.names) (arounds (state_of g.U.ReadsUnit.tables l.builder)) (shown l.left.trees.now);
  room : HasRoom (state_of g.U.ReadsUnit.tables l.builder) (share (nodes_of (shown l.left.trees.now)));
  fewer : nodes_of (shown l.left.trees.now) ≤ nodes_of (shown l.statements.trees.now);
  lowers : (new : State)
      → LoweredStatements (seen l.names) (shown l.left.trees.now) (state_of g.U.ReadsUnit.tables l.builder) new
      → LoweredStatements (seen l.names) (shown l.statements.trees.now) (state_of g.U.ReadsUnit.tables l.initial.builder) new;
}

-- The cases behind those that are left were lowered.

abbrev pub decreases-switch::lower_cases-cases : goal.decreases-switch::lower_cases-cases
decreases-switch::lower_cases-cases g l = length l.left.trees.now

abbrev pub invariant-switch::lower_cases-cases : goal.invariant-switch::lower_cases-cases
invariant-switch::lower_cases-cases g l = record {
  same_reference : l.builder.env.ghost_name ≡ l.initial.builder.env.ghost_name;
  names : IsNamed (seen l.names) (state_of g.U.ReadsUnit.tables l.builder);
  may : AreLowerableCases (seen l.names) (InSwitch None ∷ arounds (state_of g.U.ReadsUnit.tables l.builder)) (shown l.left.trees.now);
  room : HasRoom (state_of g.U.ReadsUnit.tables l.builder) (share (nodes_of (shown l.left.trees.now)));
  fewer : nodes_of (shown l.left.trees.now) ≤ nodes_of (shown l.cases.trees.now);
  lowers : FramesBehind (seen l.names) (state_of g.U.ReadsUnit.tables l.fn.builder) l.fn.span (shown l.cases.trees.now)
      (shown l.left.trees.now) (switch_of l.frame) (state_of g.U.ReadsUnit.tables l.builder);
}
