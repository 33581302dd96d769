use Rattle.std.proofs.Common.{false, filter, ap, ◌∙◌}
use Rattle.std.specs.Option.{option_map_or}
use Rattle.rl_hir.specs.Pairs.{identifier_of}
use Rattle.rl_model.specs.Code.{below, contains}
use Rattle.rl_model.specs.Worlds.{kept_identifiers, others_in, stands_for, symbol_bound}
use Rattle.rl_graph_run.specs.Symbols.{symbol_flag}
use Rattle.rl_graph_run.proofs.Kept.{same_kept}
use Rattle.rl_graph_run.proofs.world.keeps_of.Goals as goal

pub returns : goal.returns
returns c same =
    let l = c.args.lowered.now in
    let kept = kept_identifiers c.args.graph.now (others_in l c.args.function) in
    c.in_ok-keeps.ensures
    ∙ ap (λ flags. filter (symbol_flag flags) (below c.symbol_bound-bound.result)) c.as_slice-2.ensures.value
    ∙ same_kept (symbol_flag c.in_ok-flags.flags.items) (stands_for l.pairs kept) (λ n. c.in_ok-flags.ensures n
    ∙ ap (λ i. option_map_or (contains c.in_ok-kept.kept.items) i false) (same n)
    ∙ ap (λ ids. option_map_or (contains ids) (identifier_of l.pairs n) false) c.in_ok-kept.ensures) (below c.symbol_bound-bound.result)
    ∙ ap (λ b. filter (stands_for l.pairs kept) (below b)) (c.symbol_bound-bound.ensures.bound ∙ ap symbol_bound c.as_slice.ensures)
