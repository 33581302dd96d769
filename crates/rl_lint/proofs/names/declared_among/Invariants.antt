use Rattle.std.proofs.Common.{◌≡◌, drop}
use Rattle.rl_lint.specs.Rules.{declared}
use Rattle.rl_lint.proofs.names.declared_among.Given as goal

abbrev pub invariant-declarations : goal.invariant-declarations
invariant-declarations l = declared (drop l.declaration-index l.declarations) l.node.0 ≡ declared l.declarations l.node.0
