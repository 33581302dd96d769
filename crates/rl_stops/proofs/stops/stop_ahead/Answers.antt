use Rattle.std.proofs.Common.{◌≡◌, ◌+◌, ◌∙◌, List, Option, Some, None, map, option_map, drop, ap, sym, rules}
use Rattle.std.proofs.lemmas.List.{drop_more}
use Rattle.rl_names.specs.Seen.{seen}
use Rattle.rl_stops.proofs.TargetStopping.{ahead_behind, ahead_found}
use Rattle.rl_stops.specs.SeenStops.{seen_stop}
use Rattle.rl_promises.specs.StopForms.{stop_at_item}
use Rattle.rl_promises.specs.Stops.{stop_ahead}
use Rattle.rl_stops.specs.declared.found_stop.FoundStop.{FoundStop}
use Rattle.rl_syntax.specs.Syntax.{Then, pieces_of, syntax}
use Rattle.rl_syntax.specs.declared.numbered.Numbered.{Numbered}
use Rattle.rl_stops.proofs.stops.stop_ahead.Goals as goal

pub returns-in-Some-stop : goal.returns-in-Some-stop
returns-in-Some-stop c =
    let n = seen c.args.names.now in
    let item = syntax c.item-item.result in
    let later = pieces_of (map syntax (drop (c.items.item-index + 1) c.args.items.now)) in
    let left = drop_more c.args.items.now c.items.item-index c.item-item.result c.items-test.true in
    let split : pieces_of (map syntax (drop c.items.item-index c.args.items.now)) ≡ Then item later =
    ap (λ (l : List Numbered). pieces_of (map syntax l)) left ∙ ap (λ (x : Numbered). Then (syntax x) later) (sym c.item-item.is) in
    let turn : stop_ahead n (Then item later) ≡ stop_ahead n (pieces_of (map syntax c.args.items.now)) =
    ap (stop_ahead n) (sym split) ∙ c.items.invariant in
    let stop : Some (Some (seen_stop n c.in-Some-stop.found)) ≡ stop_at_item n item =
    ap (λ (o : Option FoundStop). Some (option_map (seen_stop n) o)) (sym c.in-Some-stop.is) ∙ c.in-Some.ensures in
    ahead_found n item later (seen_stop n c.in-Some-stop.found) stop ∙ turn

pub items-preserved : goal.items-preserved
items-preserved c =
    let n = seen c.args.names.now in
    let item = syntax c.item-item.result in
    let later = pieces_of (map syntax (drop (c.items.item-index + 1) c.args.items.now)) in
    let left = drop_more c.args.items.now c.items.item-index c.item-item.result c.items-test.true in
    let split : pieces_of (map syntax (drop c.items.item-index c.args.items.now)) ≡ Then item later =
    ap (λ (l : List Numbered). pieces_of (map syntax l)) left ∙ ap (λ (x : Numbered). Then (syntax x) later) (sym c.item-item.is) in
    let turn : stop_ahead n (Then item later) ≡ stop_ahead n (pieces_of (map syntax c.args.items.now)) =
    ap (stop_ahead n) (sym split) ∙ c.items.invariant in
    let stop : Some None ≡ stop_at_item n item = search rules in
    sym (ahead_behind n item later stop) ∙ turn
