use Rattle.std.proofs.Common.{◌≡◌, ◌<◌, drop}
use Rattle.rl_base.specs.Slots.{hash_from}
use Rattle.rl_base.proofs.slots.hash_of.Given as goal

abbrev pub invariant-loop-byte : goal.invariant-loop-byte
invariant-loop-byte l = record {
  rest : hash_from l.hash (drop l.byte-index l.bytes) ≡ hash_from 0 l.bytes;
  small : l.hash < 4294967296;
}
