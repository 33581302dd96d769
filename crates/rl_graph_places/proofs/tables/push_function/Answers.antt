use Rattle.std.proofs.Common.{◌++◌, ap, append_assoc, ◌∙◌}
use Rattle.rl_graph_places.specs.Tables.{param_identifiers, table_identifiers}
use Rattle.rl_graph_places.proofs.Splitting.{function_splits}
use Rattle.rl_graph_places.proofs.tables.push_function.Goals as goal

pub returns : goal.returns
returns c =
    let f = c.args.function.now in
    let which = c.args.which in
    let out = c.args.out.now.items in
    c.in_ok-push_table.ensures
    ∙ ap (λ table. c.push_params_by.new.out.items ++ table_identifiers which table) c.as_slice-table.ensures
    ∙ ap (λ ids. ids ++ table_identifiers which f.instructions) (c.in_ok-push_params_by.ensures
    ∙ ap (λ params. out ++ param_identifiers which params) c.as_slice-params.ensures)
    ∙ append_assoc out (param_identifiers which f.params) (table_identifiers which f.instructions)
    ∙ ap (λ ids. out ++ ids) (function_splits which f)
