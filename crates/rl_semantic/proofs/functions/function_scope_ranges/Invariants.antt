use Rattle.std.proofs.Common.{◌≡◌, ◌++◌, drop}
use Rattle.rl_semantic.specs.Functions.{function_scope_ranges}
use Rattle.rl_semantic.proofs.functions.function_scope_ranges.Given as goal

abbrev pub invariant-loop-scope : goal.invariant-loop-scope
invariant-loop-scope l = l.found ++ function_scope_ranges l.nodes (drop l.scope-index l.scopes) ≡ function_scope_ranges l.nodes l.scopes
