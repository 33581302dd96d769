use Rattle.std.proofs.Common.{◌≡◌, ◌+◌, map}
use Rattle.rl_used_names.specs.Choosing.{AllTaken}
use Rattle.rl_used_names.specs.UsedName.{used_name_of}
use Rattle.rl_used_names.proofs.names.claim_numbered.Given as goal

-- No name was given yet, and the candidates before the next one are taken.
abbrev pub invariant-loop-number : goal.invariant-loop-number
invariant-loop-number l = record {
  same : map used_name_of l.users ≡ map used_name_of l.initial.users;
  taken : AllTaken (map used_name_of l.initial.users) l.symbol.0 l.name (l.number-counter + 1);
}
