use Rattle.std.proofs.Common.{◌≡◌, ◌+◌, ◌∙◌, List, Option, None, map, option_map, drop, ap, sym, rules, arith}
use Rattle.std.proofs.lemmas.List.{drop_more}
use Rattle.std.specs.Option.{option_or}
use Rattle.rl_names.specs.Seen.{seen}
use Rattle.rl_stops.proofs.BodyStopping.{break_stop, continue_stop, dowhile_stop, for_stop, forin_stop, forof_await, forof_stop, if_stop, labeled_stop, while_stop, worded_in}
use Rattle.rl_stops.proofs.CaseStopping.{case_behind, case_found, case_stop, switch_stop, try_other, try_stop, try_uncaught}
use Rattle.rl_stops.specs.SeenStops.{seen_around, seen_stop}
use Rattle.rl_promises.specs.Stops.{first_stop, stop_in_case, stop_in_cases}
use Rattle.rl_stops.specs.declared.found_stop.FoundStop.{FoundStop}
use Rattle.rl_syntax.specs.Sizes.{size_of}
use Rattle.rl_syntax.specs.Syntax.{Pieces, Then, pieces_of, syntax}
use Rattle.rl_syntax.specs.declared.numbered.Numbered.{Numbered}
use Rattle.rl_stops.proofs.body_stops.+stopping_in.Goals as goal
use Rattle.rl_stops.proofs.body_stops.+stopping_in.Goals.{stop_in_cases-in-Some, stop_in_cases-in_default}

pub stop_in_statement-returns-in-Some : goal.stop_in_statement-returns-in-Some
stop_in_statement-returns-in-Some t c =
    let n = seen c.args.names.now in
    let around = seen_around c.args.around.now in
    let own = option_map (λ l. l.now) c.args.own in
    let ps = pieces_of (map syntax c.args.parts.now) in
    worded_in n around own c.args.at ps _ _ _ c.in-Break.is
    (break_stop n around own (option_map (λ l. l.now) c.in-Some.jump) c.args.at ps _ c.in-Some.ensures (c.stop_of_break.ensures n))

pub stop_in_statement-returns-in-Some-jump_label : goal.stop_in_statement-returns-in-Some-jump_label
stop_in_statement-returns-in-Some-jump_label t c =
    let n = seen c.args.names.now in
    let around = seen_around c.args.around.now in
    let own = option_map (λ l. l.now) c.args.own in
    let ps = pieces_of (map syntax c.args.parts.now) in
    worded_in n around own c.args.at ps _ _ _ c.in-Continue.is
    (continue_stop n around own (option_map (λ l. l.now) c.in-Some-jump_label.jump) c.args.at ps _ c.in-Some-jump_label.ensures
    (c.stop_of_continue.ensures n))

pub stop_in_statement-returns-in-Some-three : goal.stop_in_statement-returns-in-Some-three
stop_in_statement-returns-in-Some-three t c =
    let n = seen c.args.names.now in
    let around = seen_around c.args.around.now in
    let own = option_map (λ l. l.now) c.args.own in
    let ps = pieces_of (map syntax c.args.parts.now) in
    worded_in n around own c.args.at ps _ _ _ c.in-If.is
    (if_stop n around own c.args.at ps _ _ _ _ c.in-Some-three.ensures c.stop_in_branches.ensures)

pub stop_in_statement-returns-in-Some-two : goal.stop_in_statement-returns-in-Some-two
stop_in_statement-returns-in-Some-two t c =
    let n = seen c.args.names.now in
    let around = seen_around c.args.around.now in
    let own = option_map (λ l. l.now) c.args.own in
    let ps = pieces_of (map syntax c.args.parts.now) in
    worded_in n around own c.args.at ps _ _ _ c.in-While.is
    (while_stop n around own c.args.at ps _ _ _ c.in-Some-two.ensures c.stop_in_loop.ensures)

pub stop_in_statement-returns-in-Some-two-2 : goal.stop_in_statement-returns-in-Some-two-2
stop_in_statement-returns-in-Some-two-2 t c =
    let n = seen c.args.names.now in
    let around = seen_around c.args.around.now in
    let own = option_map (λ l. l.now) c.args.own in
    let ps = pieces_of (map syntax c.args.parts.now) in
    worded_in n around own c.args.at ps _ _ _ c.in-Dowhile.is
    (dowhile_stop n around own c.args.at ps _ _ _ c.in-Some-two-2.ensures c.stop_in_loop-in-Some-two-2.ensures)

pub stop_in_statement-returns-in-Some-four : goal.stop_in_statement-returns-in-Some-four
stop_in_statement-returns-in-Some-four t c =
    let n = seen c.args.names.now in
    let around = seen_around c.args.around.now in
    let own = option_map (λ l. l.now) c.args.own in
    let ps = pieces_of (map syntax c.args.parts.now) in
    worded_in n around own c.args.at ps _ _ _ c.in-For.is
    (for_stop n around own c.args.at ps _ _ _ _ _ c.in-Some-four.ensures c.stop_in_for.ensures)

pub stop_in_statement-returns-in-Some-text_and_tree : goal.stop_in_statement-returns-in-Some-text_and_tree
stop_in_statement-returns-in-Some-text_and_tree t c =
    let n = seen c.args.names.now in
    let around = seen_around c.args.around.now in
    let own = option_map (λ l. l.now) c.args.own in
    let ps = pieces_of (map syntax c.args.parts.now) in
    worded_in n around own c.args.at ps _ _ _ c.in-Labeled.is
    (labeled_stop n around own c.args.at ps _ _ _ c.in-Some-text_and_tree.ensures c.stop_in_labeled.ensures)

pub stop_in_statement-returns-in-Some-three-2 : goal.stop_in_statement-returns-in-Some-three-2
stop_in_statement-returns-in-Some-three-2 t c =
    let n = seen c.args.names.now in
    let around = seen_around c.args.around.now in
    let own = option_map (λ l. l.now) c.args.own in
    let ps = pieces_of (map syntax c.args.parts.now) in
    worded_in n around own c.args.at ps _ _ _ c.in-Forin.is
    (forin_stop n around own c.args.at ps _ _ _ _ c.in-Some-three-2.ensures c.stop_in_values.ensures)

pub stop_in_statement-returns-then-is_await : goal.stop_in_statement-returns-then-is_await
stop_in_statement-returns-then-is_await t c =
    let n = seen c.args.names.now in
    let around = seen_around c.args.around.now in
    let own = option_map (λ l. l.now) c.args.own in
    let ps = pieces_of (map syntax c.args.parts.now) in
    worded_in n around own c.args.at ps _ _ _ c.in-Forof.is
    (forof_await n around own c.args.at ps _ _ _ _ c.in-Some-flag_and_three.ensures c.if-is_await.true)

pub stop_in_statement-returns-else-is_await : goal.stop_in_statement-returns-else-is_await
stop_in_statement-returns-else-is_await t c =
    let n = seen c.args.names.now in
    let around = seen_around c.args.around.now in
    let own = option_map (λ l. l.now) c.args.own in
    let ps = pieces_of (map syntax c.args.parts.now) in
    worded_in n around own c.args.at ps _ _ _ c.in-Forof.is
    (forof_stop n around own c.args.at ps _ _ _ _ _ c.in-Some-flag_and_three.ensures c.if-is_await.false
    c.stop_in_values-else-is_await.ensures)

pub stop_in_statement-returns-in-Some-tree_and_list : goal.stop_in_statement-returns-in-Some-tree_and_list
stop_in_statement-returns-in-Some-tree_and_list t c =
    let n = seen c.args.names.now in
    let around = seen_around c.args.around.now in
    let own = option_map (λ l. l.now) c.args.own in
    let ps = pieces_of (map syntax c.args.parts.now) in
    worded_in n around own c.args.at ps _ _ _ c.in-Switch.is
    (switch_stop n around own c.args.at ps (syntax c.in-Some-tree_and_list.discriminant.now)
    (pieces_of (map syntax c.in-Some-tree_and_list.cases.now)) _ c.in-Some-tree_and_list.ensures c.stop_in_switch.ensures)

pub stop_in_statement-returns-in-Some-catch_in : goal.stop_in_statement-returns-in-Some-catch_in
stop_in_statement-returns-in-Some-catch_in t c =
    let n = seen c.args.names.now in
    let around = seen_around c.args.around.now in
    let own = option_map (λ l. l.now) c.args.own in
    let ps = pieces_of (map syntax c.args.parts.now) in
    worded_in n around own c.args.at ps _ _ _ c.in-Try.is
    (try_stop n around own c.args.at ps _ _ _ (syntax c.in-Some-catch_in.param.now) (syntax c.in-Some-catch_in.body.now) _
    c.in-Some-three-3.ensures c.in-Some-catch_in.ensures c.stop_in_try.ensures)

pub stop_in_statement-returns-in-None-catch_in : goal.stop_in_statement-returns-in-None-catch_in
stop_in_statement-returns-in-None-catch_in t c =
    let n = seen c.args.names.now in
    let around = seen_around c.args.around.now in
    let own = option_map (λ l. l.now) c.args.own in
    let ps = pieces_of (map syntax c.args.parts.now) in
    worded_in n around own c.args.at ps _ _ _ c.in-Try.is
    (try_uncaught n around own c.args.at ps _ _ _ c.in-Some-three-3.ensures c.in-None-catch_in.ensures)

pub stop_in_statement-returns-in-None-three-3 : goal.stop_in_statement-returns-in-None-three-3
stop_in_statement-returns-in-None-three-3 t c =
    let n = seen c.args.names.now in
    let around = seen_around c.args.around.now in
    let own = option_map (λ l. l.now) c.args.own in
    let ps = pieces_of (map syntax c.args.parts.now) in
    worded_in n around own c.args.at ps _ _ _ c.in-Try.is
    (try_other n around own c.args.at ps c.in-None-three-3.ensures)

pub stop_in_case-returns-in-Some-stop_among : goal.stop_in_case-returns-in-Some-stop_among
stop_in_case-returns-in-Some-stop_among t c =
    let n = seen c.args.names.now in
    let condition = syntax c.in-Some.condition.now in
    case_stop n (seen_around c.args.around.now) (syntax c.args.case.now) condition (pieces_of (map syntax c.in-Some.statements.now)) _
    c.in-Some.ensures (ap (λ o. option_or o (first_stop n condition)) c.in-Some-stop_among.ensures)

pub stop_in_case-returns-in-None-stop_among : goal.stop_in_case-returns-in-None-stop_among
stop_in_case-returns-in-None-stop_among t c =
    let n = seen c.args.names.now in
    let condition = syntax c.in-Some.condition.now in
    case_stop n (seen_around c.args.around.now) (syntax c.args.case.now) condition (pieces_of (map syntax c.in-Some.statements.now)) _
    c.in-Some.ensures (c.first_stop.ensures ∙ ap (λ o. option_or o (first_stop n condition)) c.in-None-stop_among.ensures)

pub stop_in_cases-cases-preserved : goal.stop_in_cases-cases-preserved
stop_in_cases-cases-preserved t c =
    let n = seen c.args.names.now in
    let around = seen_around c.args.around.now in
    let case = syntax c.case-item.result in
    let later = pieces_of (map syntax (drop (c.cases.case-index + 1) c.args.cases.now)) in
    let all = stop_in_cases n around (pieces_of (map syntax c.args.cases.now)) in
    let before = option_map (seen_stop n) c.cases.last in
    let left = drop_more c.args.cases.now c.cases.case-index c.case-item.result c.cases-test.true in
    let split : pieces_of (map syntax (drop c.cases.case-index c.args.cases.now)) ≡ Then case later =
    ap (λ (l : List Numbered). pieces_of (map syntax l)) left ∙ ap (λ (x : Numbered). Then (syntax x) later) (sym c.case-item.is) in
    let turn : option_or (stop_in_cases n around (Then case later)) before ≡ all =
    ap (λ (p : Pieces). option_or (stop_in_cases n around p) before) (sym split) ∙ c.cases.invariant.same in
    let same : option_or (stop_in_cases n around later) (option_map (seen_stop n) c.match-stop_in_case.last) ≡ all =
    elim c.match-stop_in_case.branch [
      | stop_in_cases-in-Some w ↦
          ap (λ (o : Option FoundStop). option_or (stop_in_cases n around later) (option_map (seen_stop n) o)) w.last-is
          ∙ case_found n around case later (seen_stop n w.in-Some.found) before all w.in-Some.ensures turn
      | stop_in_cases-in_default w ↦
          ap (λ (o : Option FoundStop). option_or (stop_in_cases n around later) (option_map (seen_stop n) o)) w.last-is
          ∙ case_behind n around case later before all (let none : None ≡ stop_in_case n around case = search rules in none) turn
    ] in
    record { same = same; fewer = omega (arith, ap size_of split, c.cases.invariant.fewer) }
