use Rattle.std.proofs.Common.{◌≡◌, ◌++◌, drop}
use Rattle.rl_semantic.specs.Functions.{functions_from}
use Rattle.rl_semantic.proofs.functions.function_scopes.Given as goal

abbrev pub invariant-loop-scope : goal.invariant-loop-scope
invariant-loop-scope l = l.found ++ functions_from l.number (drop l.scope-index l.scopes) ≡ functions_from 0 l.scopes
