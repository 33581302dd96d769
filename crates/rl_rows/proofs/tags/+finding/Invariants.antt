use Rattle.std.proofs.Common.{◌≡◌, ◌+◌, ◌*◌, ◌≤◌, ◌++◌, map, drop}
use Rattle.rl_model.specs.Fbt.{found_among}
use Rattle.rl_rows.specs.Finds.{found_among_statements}
use Rattle.rl_syntax.specs.Sizes.{size, size_of}
use Rattle.rl_syntax.specs.Syntax.{pieces_of, syntax}
use Rattle.rl_rows.proofs.tags.+finding.Given as goal

abbrev pub decreases-push_found : goal.decreases-push_found
decreases-push_found l = 6 * size (syntax l.tree.now)

abbrev pub decreases-push_by : goal.decreases-push_by
decreases-push_by l = 6 * size_of (pieces_of (map syntax l.parts.now)) + 5

abbrev pub decreases-push_parts : goal.decreases-push_parts
decreases-push_parts l = 6 * size_of (pieces_of (map syntax l.parts.now)) + 4

abbrev pub decreases-push_element : goal.decreases-push_element
decreases-push_element l = 6 * (size (syntax l.opening.now) + size (syntax l.children.now)) + 1

abbrev pub decreases-push_value : goal.decreases-push_value
decreases-push_value l = 6 * size (syntax l.value.now) + 1

abbrev pub decreases-push_two : goal.decreases-push_two
decreases-push_two l = 6 * (size (syntax l.first.now) + size (syntax l.second.now)) + 1

abbrev pub decreases-push_body : goal.decreases-push_body
decreases-push_body l = 6 * size (syntax l.body.now) + 2

abbrev pub decreases-push_statement : goal.decreases-push_statement
decreases-push_statement l = 6 * size (syntax l.statement.now) + 1

abbrev pub decreases-push_statements : goal.decreases-push_statements
decreases-push_statements l = 6 * size_of (pieces_of (map syntax l.statements.now))

abbrev pub decreases-push_among : goal.decreases-push_among
decreases-push_among l = 6 * size_of (pieces_of (map syntax l.trees.now))

abbrev pub invariant-push_statements-statements : goal.invariant-push_statements-statements
invariant-push_statements-statements l = record {
  walked : map (λ t. t.now) l.out.items ++ found_among_statements l.namespace (pieces_of (map syntax (drop l.statement-index l.statements)))
      ≡ map (λ t. t.now) l.initial.out.items ++ found_among_statements l.namespace (pieces_of (map syntax l.statements));
  fewer : size_of (pieces_of (map syntax (drop l.statement-index l.statements))) ≤ size_of (pieces_of (map syntax l.statements));
}

abbrev pub invariant-push_among-trees : goal.invariant-push_among-trees
invariant-push_among-trees l = record {
  walked : map (λ t. t.now) l.out.items ++ found_among l.namespace (pieces_of (map syntax (drop l.tree-index l.trees)))
      ≡ map (λ t. t.now) l.initial.out.items ++ found_among l.namespace (pieces_of (map syntax l.trees));
  fewer : size_of (pieces_of (map syntax (drop l.tree-index l.trees))) ≤ size_of (pieces_of (map syntax l.trees));
}
