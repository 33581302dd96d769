use Rattle.std.proofs.Common.{◌≡◌, drop}
use Rattle.rl_lint.specs.Clear.{are_clear_declarations as are_clear}
use Rattle.rl_lint.specs.Tables.{tables}
use Rattle.rl_lint.proofs.clear.are_clear_declarations.Given as goal

abbrev pub invariant-declarations : goal.invariant-declarations
invariant-declarations l =
    are_clear l.nodes l.hints (tables l.bindings) (drop l.declaration-index l.bindings.declarations)
    ≡ are_clear l.nodes l.hints (tables l.bindings) l.bindings.declarations
