use Rattle.std.proofs.Common.{map, string_bytes, subst, sym}
use Rattle.react_lower.proofs.Words.{only_some}
use Rattle.rl_unit.specs.Known.{ExplainsBy, IsCompleteBy}
use Rattle.react_lower.specs.Traced.{AreWords, IsTraceAnswer, IsTraceOutput}
use Rattle.rl_trace_text.specs.declared.words.Arguments.{Arguments}
use Rattle.react_lower.proofs.run.run.Goals as goal

pub returns-in-Some-clause-traces : goal.returns-in-Some-clause-traces
returns-in-Some-clause-traces g c a spelled =
    let left = g.S.Source.left c.args.source.now in
    let old = g.K.Sink.held c.args.sink.now in
    let new = g.K.Sink.held c.trace.new.sink in
    subst (λ (x : Arguments). ExplainsBy (IsTraceOutput x) c.trace.result left old new × IsCompleteBy (IsTraceAnswer x) left c.trace.result)
    (sym (only_some (AreWords (map string_bytes c.args.words.now)) c.in-Ok.found c.in-Some.arguments c.in-Some.is
    c.in-Ok.ensures.only a spelled))
    (c.trace.ensures.explained, c.trace.ensures.complete)
