use Rattle.std.proofs.Common.{false, ap, ◌∙◌}
use Rattle.std.specs.List.{list_all}
use Rattle.rl_model.specs.Orderly.{items_of, right_of, symbols_in}
use Rattle.rl_names.specs.Seen.{seen}
use Rattle.rl_orderly.specs.Repeats.{is_alone, repeats}
use Rattle.rl_orderly.proofs.Repeating.{alone}
use Rattle.rl_syntax.specs.Syntax.{syntax}
use Rattle.rl_orderly.proofs.pattern.are_names_alone.Goals as goal

pub returns : goal.returns
returns c =
    let n = seen c.args.variables.now.names in
    let pattern = syntax c.args.pattern.now in
    let opens = c.args.opens.now.list.items in
    let twice = c.in_ok-twice.twice in
    c.are_all_alone.ensures
    ∙ ap (λ r. list_all (is_alone opens c.in_ok-used.used.list.items twice) r) (c.in_ok-right.ensures ∙ ap right_of c.in_ok-items.ensures)
    ∙ ap (λ u. list_all (is_alone opens u twice) (right_of (items_of n pattern))) c.in_ok-used.ensures
    ∙ alone n opens pattern twice
    (λ s. c.in_ok-twice.ensures s ∙ ap (λ l. repeats false false s l) (c.in_ok-symbols.ensures ∙ ap symbols_in c.in_ok-items.ensures))
