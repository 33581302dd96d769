use Rattle.std.proofs.Common.{◌+◌, ◌*◌, ◌≤◌, map, drop}
use Rattle.rl_dead.specs.Walks.{CasesLeft, StatementsLeft}
use Rattle.rl_syntax.specs.Sizes.{size, size_of}
use Rattle.rl_syntax.specs.Syntax.{pieces_of, syntax}
use Rattle.rl_dead.proofs.walk.+walking.Given as goal

abbrev pub decreases-walk : goal.decreases-walk
decreases-walk l = 4 * size (syntax l.tree.now)

abbrev pub decreases-walk_node : goal.decreases-walk_node
decreases-walk_node l = 4 * size_of (pieces_of (map syntax l.parts.now)) + 3

abbrev pub decreases-walk_block : goal.decreases-walk_block
decreases-walk_block l = 4 * size_of (pieces_of (map syntax l.parts.now)) + 2

abbrev pub decreases-walk_if : goal.decreases-walk_if
decreases-walk_if l = 4 * size_of (pieces_of (map syntax l.parts.now)) + 2

abbrev pub decreases-walk_body : goal.decreases-walk_body
decreases-walk_body l = 4 * size (syntax l.body.now) + 1

abbrev pub decreases-walk_loop : goal.decreases-walk_loop
decreases-walk_loop l = 4 * size (syntax l.body.now) + 2

abbrev pub decreases-walk_while : goal.decreases-walk_while
decreases-walk_while l = 4 * size_of (pieces_of (map syntax l.parts.now)) + 2

abbrev pub decreases-walk_for : goal.decreases-walk_for
decreases-walk_for l = 4 * size_of (pieces_of (map syntax l.parts.now)) + 2

abbrev pub decreases-walk_for_in : goal.decreases-walk_for_in
decreases-walk_for_in l = 4 * size_of (pieces_of (map syntax l.parts.now)) + 2

abbrev pub decreases-walk_for_of : goal.decreases-walk_for_of
decreases-walk_for_of l = 4 * size_of (pieces_of (map syntax l.parts.now)) + 2

abbrev pub decreases-walk_do_while : goal.decreases-walk_do_while
decreases-walk_do_while l = 4 * size_of (pieces_of (map syntax l.parts.now)) + 2

abbrev pub decreases-walk_switch : goal.decreases-walk_switch
decreases-walk_switch l = 4 * size_of (pieces_of (map syntax l.parts.now)) + 2

abbrev pub decreases-walk_labeled : goal.decreases-walk_labeled
decreases-walk_labeled l = 4 * size_of (pieces_of (map syntax l.parts.now)) + 2

abbrev pub decreases-walk_try : goal.decreases-walk_try
decreases-walk_try l = 4 * size_of (pieces_of (map syntax l.parts.now)) + 2

abbrev pub decreases-walk_for_parts : goal.decreases-walk_for_parts
decreases-walk_for_parts l = 4 * size (syntax l.found.body.now) + 2

abbrev pub decreases-walk_clauses : goal.decreases-walk_clauses
decreases-walk_clauses l = 4 * size_of (pieces_of (map syntax l.cases.now)) + 1

abbrev pub decreases-walk_under : goal.decreases-walk_under
decreases-walk_under l = 4 * size (syntax l.body.now) + 1

abbrev pub decreases-walk_next : goal.decreases-walk_next
decreases-walk_next l = 4 * size (syntax l.statement.now) + 1

abbrev pub decreases-walk_statements : goal.decreases-walk_statements
decreases-walk_statements l = 4 * size_of (pieces_of (map syntax l.statements.now))

abbrev pub decreases-walk_cases : goal.decreases-walk_cases
decreases-walk_cases l = 4 * size_of (pieces_of (map syntax l.cases.now))

abbrev pub invariant-walk_statements-statements : goal.invariant-walk_statements-statements
invariant-walk_statements-statements l = record {
  walked : StatementsLeft l.initial.jumps l.jumps l.initial.dead.items l.dead.items l.flow (pieces_of (map syntax l.statements))
      (pieces_of (map syntax (drop l.statement-index l.statements)));
  fewer : size_of (pieces_of (map syntax (drop l.statement-index l.statements))) ≤ size_of (pieces_of (map syntax l.statements));
}

abbrev pub invariant-walk_cases-cases : goal.invariant-walk_cases-cases
invariant-walk_cases-cases l = record {
  walked : CasesLeft l.initial.jumps l.jumps l.initial.dead.items l.dead.items l.falls l.acts (pieces_of (map syntax l.cases))
      (pieces_of (map syntax (drop l.part-index l.cases)));
  fewer : size_of (pieces_of (map syntax (drop l.part-index l.cases))) ≤ size_of (pieces_of (map syntax l.cases));
}
