use Rattle.std.proofs.Common.{sym}
use Rattle.std.specs.Str.Parse.{without_leading_plus}
use Rattle.rl_jsx.proofs.Numbers.{scalar-read, scalar-unread}
use Rattle.rl_jsx.proofs.entities.parse_scalar.Goals as goal

pub returns-in-Ok : goal.returns-in-Ok
returns-in-Ok c =
    let read = c.in-Ok.ensures.value in
    scalar-read c.args.base c.in-Ok.value (without_leading_plus c.args.text.now) c.from_u32.result read.0.0 read.1 c.from_u32.ensures.value c.from_u32.ensures.cases

pub returns-in-Err : goal.returns-in-Err
returns-in-Err c = sym (scalar-unread c.args.base (without_leading_plus c.args.text.now) c.in-Err.ensures.value)
