use Rattle.std.proofs.Common.{◌≡◌, ◌++◌, length}
use Rattle.rl_model.specs.Code.{flat}
use Rattle.rl_model.specs.Worlds.{graphs, without}
use Rattle.rl_graph_places.specs.Tables.{function_identifiers}
use Rattle.rl_graph_run.proofs.others.push_inner_but.Given as goal

abbrev pub decreases-functions : goal.decreases-functions
decreases-functions l = length l.left

-- Those so far and those of the functions that are left are all.
abbrev pub invariant-functions : goal.invariant-functions
invariant-functions l =
    l.out.items ++ flat (function_identifiers l.which) (graphs (without l.skip l.left))
    ≡ l.initial.out.items ++ flat (function_identifiers l.which) (graphs (without l.index l.inner))
