use Rattle.std.proofs.Common.{◌≡◌, ◌++◌, drop, map}
use Rattle.rl_resolver.specs.Imported.{import_pair}
use Rattle.rl_resolver.proofs.imported.importing.Given as goal

abbrev pub invariant-loop-entry : goal.invariant-loop-entry
invariant-loop-entry l = l.pairs ++ map import_pair (drop l.entry-index l.imports) ≡ map import_pair l.imports
