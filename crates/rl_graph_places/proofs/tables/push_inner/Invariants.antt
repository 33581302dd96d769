use Rattle.std.proofs.Common.{◌≡◌, ◌++◌, drop, map}
use Rattle.rl_hir.specs.declared.function.InnerFunction.{InnerFunction}
use Rattle.rl_model.specs.Code.{flat}
use Rattle.rl_graph_places.specs.Tables.{function_identifiers}
use Rattle.rl_graph_places.proofs.tables.push_inner.Given as goal

-- Those so far and those of the functions that are left are all.
abbrev pub invariant-functions : goal.invariant-functions
invariant-functions l =
    l.out.items ++ flat (function_identifiers l.which) (map (λ (i : InnerFunction). i.function) (drop l.inner-index l.functions))
    ≡ l.initial.out.items ++ flat (function_identifiers l.which) (map (λ (i : InnerFunction). i.function) l.functions)
