use Rattle.std.proofs.Common.{ap, false, map, ◌∙◌}
use Rattle.std.specs.Option.{option_map_or}
use Rattle.rl_graph_run.specs.Symbols.{has_flag, identifier_at, symbol_flag}
use Rattle.rl_graph_run.proofs.Tables.{flag_of_symbol}
use Rattle.rl_graph_run.proofs.numbers.symbols_of.Goals as goal

pub returns : goal.returns
returns c n =
    ap (λ items. symbol_flag items n) c.in_ok-symbols.ensures
    ∙ ap (λ flags. symbol_flag (map (has_flag flags) c.args.table.now) n) c.as_slice.ensures.value
    ∙ flag_of_symbol c.in_ok-flags.flags.items c.args.table.now n
    ∙ (λ i. option_map_or (λ m. c.in_ok-flags.ensures m i) (identifier_at c.args.table.now n) false)
