use Rattle.std.proofs.Common.{sym}
use Rattle.rl_supported.proofs.Units.{by_semantic}
use Rattle.rl_syntax.specs.Syntax.{syntax}
use Rattle.rl_supported.proofs.supported.is_supported.Goals as goal

pub returns-in_ok-supported-in-Some-first_marked : goal.returns-in_ok-supported-in-Some-first_marked
returns-in_ok-supported-in-Some-first_marked c is =
    by_semantic c.args.semantic.now (syntax c.args.unit.now.tree) (syntax c.in-Some-first_marked.marked.now)
    c.in_ok-supported-in-Some-first_marked.supported (sym c.in-Some-first_marked.ensures) c.in_ok-supported-in-Some-first_marked.ensures is
