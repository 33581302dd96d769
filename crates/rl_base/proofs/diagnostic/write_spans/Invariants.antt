use Rattle.std.proofs.Common.{◌≡◌, ◌++◌, drop}
use Rattle.rl_base.proofs.Lines.{later_spans}
use Rattle.rl_base.proofs.diagnostic.write_spans.Given as goal

abbrev pub invariant-rest : goal.invariant-rest
invariant-rest l = l.out.items ++ later_spans (drop l.span-index l.rest) ≡ l.initial.out.items ++ later_spans l.rest
