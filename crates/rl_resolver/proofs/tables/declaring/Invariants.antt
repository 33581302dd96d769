use Rattle.std.proofs.Common.{◌≡◌, ◌++◌, drop, map}
use Rattle.rl_resolver.specs.Listed.{declaration_pair}
use Rattle.rl_resolver.proofs.tables.declaring.Given as goal

abbrev pub invariant-loop-declaration : goal.invariant-loop-declaration
invariant-loop-declaration l = l.pairs ++ map declaration_pair (drop l.declaration-index l.declarations) ≡ map declaration_pair l.declarations
