use Rattle.std.proofs.Common.{◌≡◌, ◌&&◌, drop}
use Rattle.std.specs.List.{list_all}
use Rattle.rl_text.proofs.scan.all_in.Given as goal

abbrev pub invariant-testing : goal.invariant-testing
invariant-testing g l = (l.all && list_all g.C.ByteClass.test (drop l.byte-index l.block)) ≡ list_all g.C.ByteClass.test l.block
