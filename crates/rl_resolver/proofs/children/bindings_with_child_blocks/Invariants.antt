use Rattle.std.proofs.Common.{◌≡◌, ◌++◌, drop}
use Rattle.rl_resolver.specs.Children.{children_from, bindings_with_child_blocks}
use Rattle.rl_resolver.proofs.children.bindings_with_child_blocks.Given as goal

abbrev pub invariant-loop-entry : goal.invariant-loop-entry
invariant-loop-entry l =
    (l.number ≡ l.entry-index) ×
    (l.found ++ children_from l.scopes l.symbols l.scope l.number (drop l.entry-index l.scopes) ≡ bindings_with_child_blocks l.scopes l.symbols l.scope)
