use Rattle.rl_base.proofs.Lines.{spans-written}
use Rattle.rl_base.proofs.diagnostic.write_spans.Goals as goal

pub returns : goal.returns
returns c =
    spans-written c.args.spans.now c.in-Some.rest.now c.in-Some.first.now c.args.out.now.items
    c.write_span.new.out.items c.rest.out.items c.rest.span-index c.in-Some.ensures.cases.0 c.in_ok-write_span.ensures c.rest-test.false c.rest.invariant
