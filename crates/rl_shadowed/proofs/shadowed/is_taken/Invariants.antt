use Rattle.std.proofs.Common.{◌≡◌, drop}
use Rattle.rl_shadowed.specs.Shadowed.{is_taken_by}
use Rattle.rl_shadowed.proofs.shadowed.is_taken.Given as goal

abbrev pub invariant-symbols : goal.invariant-symbols
invariant-symbols l =
    is_taken_by l.bindings.names l.own l.scopes l.name l.other l.number (drop l.number l.bindings.symbols) ≡ is_taken_by
    l.bindings.names l.own l.scopes l.name l.other 0 l.bindings.symbols
