use Rattle.rl_base.proofs.Lines.{line-written}
use Rattle.rl_base.proofs.diagnostic.Diagnostic.write_line.Goals as goal

pub returns : goal.returns
returns c =
    line-written c.args.self.now _ _ _ _ _ _ _ _ _ _ c.as_slice.ensures c.as_str-word.ensures c.message_template.ensures c.in_ok-write_heading.ensures c.in_ok-write_spans.ensures
    c.in_ok-push.ensures.items c.in_ok-write_filled.ensures c.in_ok-write_help.ensures c.in_ok-push-2.ensures.items
