use Rattle.std.proofs.Common.{◌≡◌, drop}
use Rattle.rl_shadowed.specs.Shadowed.{is_among as is_one_of}
use Rattle.rl_shadowed.proofs.shadowed.is_among.Given as goal

abbrev pub invariant-scopes : goal.invariant-scopes
invariant-scopes l = is_one_of (drop l.other-index l.scopes) l.scope ≡ is_one_of l.scopes l.scope
