use Rattle.std.proofs.Common.{◌≡◌, drop}
use Rattle.rl_bindings.specs.Machines as machine
use Rattle.rl_bindings.proofs.resolve.count_scopes.Given as goal

abbrev pub invariant-loop-symbol : goal.invariant-loop-symbol
invariant-loop-symbol l = machine.count_scopes l.most (drop l.symbol-index l.symbols) ≡ machine.count_scopes 0 l.symbols
