use Rattle.std.proofs.Common.{arith}
use Rattle.std.proofs.lemmas.List.{drop_all}
use Rattle.rl_text.proofs.Digits.{numeral-decimal}
use Rattle.rl_text.proofs.span.write_span.Goals as goal

pub returns-clause-written : goal.returns-clause-written
returns-clause-written c =
    let none = drop_all 26 c.args.buffer.now (omega arith) in
    let start = numeral-decimal c.args.span.start (omega arith) in
    let end = numeral-decimal c.args.span.end (omega arith) in
    cc
