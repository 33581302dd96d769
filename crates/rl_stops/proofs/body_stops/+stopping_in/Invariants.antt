use Rattle.std.proofs.Common.{◌≡◌, ◌+◌, ◌*◌, ◌≤◌, map, option_map, drop}
use Rattle.std.specs.Option.{option_or}
use Rattle.rl_names.specs.Seen.{seen}
use Rattle.rl_stops.specs.SeenStops.{seen_around, seen_stop}
use Rattle.rl_promises.specs.Stops.{stop_among, stop_in_cases}
use Rattle.rl_syntax.specs.Sizes.{size, size_of}
use Rattle.rl_syntax.specs.Syntax.{pieces_of, syntax}
use Rattle.rl_stops.proofs.body_stops.+stopping_in.Given as goal

abbrev pub decreases-stop_in : goal.decreases-stop_in
decreases-stop_in l = 3 * size (syntax l.statement.now)

abbrev pub decreases-stop_in_statement : goal.decreases-stop_in_statement
decreases-stop_in_statement l = 3 * size_of (pieces_of (map syntax l.parts.now)) + 2

abbrev pub decreases-stop_in_branches : goal.decreases-stop_in_branches
decreases-stop_in_branches l = 3 * (size (syntax l.consequent.now) + size (syntax l.alternate.now)) + 1

abbrev pub decreases-stop_in_loop : goal.decreases-stop_in_loop
decreases-stop_in_loop l = 3 * size (syntax l.body.now) + 1

abbrev pub decreases-stop_in_for : goal.decreases-stop_in_for
decreases-stop_in_for l = 3 * size (syntax l.body.now) + 2

abbrev pub decreases-stop_in_values : goal.decreases-stop_in_values
decreases-stop_in_values l = 3 * size (syntax l.body.now) + 1

abbrev pub decreases-stop_in_case : goal.decreases-stop_in_case
decreases-stop_in_case l = 3 * size (syntax l.case.now)

abbrev pub decreases-stop_in_cases : goal.decreases-stop_in_cases
decreases-stop_in_cases l = 3 * size_of (pieces_of (map syntax l.cases.now)) + 1

abbrev pub invariant-stop_in_cases-cases : goal.invariant-stop_in_cases-cases
invariant-stop_in_cases-cases l = record {
  same : option_or (stop_in_cases (seen l.names) (seen_around l.around) (pieces_of (map syntax (drop l.case-index l.cases))))
      (option_map (seen_stop (seen l.names)) l.last)
      ≡ stop_in_cases (seen l.names) (seen_around l.around) (pieces_of (map syntax l.cases));
  fewer : size_of (pieces_of (map syntax (drop l.case-index l.cases))) ≤ size_of (pieces_of (map syntax l.cases));
}

abbrev pub decreases-stop_in_switch : goal.decreases-stop_in_switch
decreases-stop_in_switch l = 3 * size_of (pieces_of (map syntax l.cases.now)) + 2

abbrev pub decreases-stop_in_try : goal.decreases-stop_in_try
decreases-stop_in_try l = 3 * (size (syntax l.block.now) + size (syntax l.body.now)) + 1

abbrev pub decreases-stop_in_labeled : goal.decreases-stop_in_labeled
decreases-stop_in_labeled l = 3 * size (syntax l.body.now) + 1

abbrev pub decreases-stop_among : goal.decreases-stop_among
decreases-stop_among l = 3 * size_of (pieces_of (map syntax l.statements.now)) + 1

abbrev pub invariant-stop_among-statements : goal.invariant-stop_among-statements
invariant-stop_among-statements l = record {
  same : stop_among (seen l.names) (seen_around l.around) (pieces_of (map syntax (drop l.statement-index l.statements)))
      ≡ stop_among (seen l.names) (seen_around l.around) (pieces_of (map syntax l.statements));
  fewer : size_of (pieces_of (map syntax (drop l.statement-index l.statements))) ≤ size_of (pieces_of (map syntax l.statements));
}
