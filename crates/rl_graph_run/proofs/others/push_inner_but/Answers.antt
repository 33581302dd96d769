use Rattle.std.proofs.Common.{◌++◌, ◌-◌, List, ap, append-nil, append_assoc, sym, ◌∙◌}
use Rattle.rl_hir.specs.declared.function.InnerFunction.{InnerFunction}
use Rattle.rl_model.specs.Code.{flat}
use Rattle.rl_model.specs.Worlds.{graphs, without}
use Rattle.rl_graph_places.specs.Tables.{function_identifiers}
use Rattle.rl_graph_run.proofs.Without.{without_next, without_none}
use Rattle.rl_graph_run.proofs.others.push_inner_but.Goals as goal

pub functions-preserved : goal.functions-preserved
functions-preserved c =
    let of = function_identifiers c.args.which in
    let out = c.functions.out.items in
    let first = c.in-Some.first.now in
    let rest = c.in-Some.rest.now in
    let behind = flat of (graphs (without (c.functions.skip - 1) rest)) in
    ap (λ o. o ++ behind) c.in_ok-push_function.ensures
    ∙ append_assoc out (of first.function) behind
    ∙ ap (λ (xs : List InnerFunction). out ++ flat of (graphs xs)) (sym (without_next c.functions.skip first rest c.if-skip-eq0.false)
    ∙ ap (without c.functions.skip) (sym c.in-Some.ensures.cases.0))
    ∙ c.functions.invariant

pub returns : goal.returns
returns c =
    let out = c.functions.out.items in
    sym (append-nil out)
    ∙ ap (λ (xs : List InnerFunction). out ++ flat (function_identifiers c.args.which) (graphs xs)) (sym (without_none c.functions.skip
    c.functions.left.now c.in_default.ensures.cases))
    ∙ c.functions.invariant
