use Rattle.std.proofs.Common.{◌≡◌, drop}
use Rattle.rl_semantic.specs.ImportNodes.{has_import}
use Rattle.rl_semantic.proofs.imports.has_import.Given as goal

abbrev pub invariant-loop-entry : goal.invariant-loop-entry
invariant-loop-entry l = has_import (drop l.entry-index l.nodes) ≡ has_import l.nodes
