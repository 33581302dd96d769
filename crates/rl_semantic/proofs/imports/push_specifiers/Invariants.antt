use Rattle.std.proofs.Common.{◌≡◌, ◌++◌, map, drop}
use Rattle.rl_semantic.specs.Imports.{seen, specifiers}
use Rattle.rl_syntax.specs.Syntax.{pieces_of, syntax}
use Rattle.rl_semantic.proofs.imports.push_specifiers.Given as goal

abbrev pub invariant-trees : goal.invariant-trees
invariant-trees l = map seen l.found ++ specifiers l.source (pieces_of (map syntax (drop l.tree-index l.trees))) ≡ map seen l.initial.found ++ specifiers l.source (pieces_of (map syntax l.trees))
