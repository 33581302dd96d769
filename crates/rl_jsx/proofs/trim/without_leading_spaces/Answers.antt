use Rattle.std.proofs.Common.{◌+◌, ◌-◌, subst, arith}
use Rattle.std.specs.Str.{IsCharBoundary}
use Rattle.std.proofs.lemmas.Str.{IsCharBoundary-after_ascii}
use Rattle.rl_jsx.proofs.trim.without_leading_spaces.Goals as goal

pub range_from-requires : goal.range_from-requires
range_from-requires c =
    let line = c.args.line.now in
    let start = c.skipping.start in
    λ some. subst (IsCharBoundary line) {x = (start - 1) + 1} {y = start} (omega arith) (IsCharBoundary-after_ascii line (start - 1) c.utf8.line (omega arith) (c.skipping.invariant.ascii some))
