use Rattle.std.proofs.Common.{◌≡◌, ◌++◌, drop, map}
use Rattle.rl_model.specs.Runs.{param_identifier}
use Rattle.rl_graph_places.proofs.tables.push_params.Given as goal

-- Those so far and those of the parameters that are left are all.
abbrev pub invariant-params : goal.invariant-params
invariant-params l =
    l.out.items ++ map param_identifier (drop l.param-index l.params) ≡ l.initial.out.items ++ map param_identifier l.params
