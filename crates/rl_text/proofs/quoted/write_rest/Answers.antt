use Rattle.std.proofs.Common.{◌+◌, ◌∙◌}
use Rattle.rl_text.proofs.Quotes.{run-written, escape-written}
use Rattle.rl_text.proofs.quoted.write_rest.Goals as goal

pub writing-init : goal.writing-init
writing-init c =
    let text = c.args.text.now in
    let run = c.in_ok-end.ensures.run in record {
      within = run.within;
      stopped = run.stopped;
      written = run-written _ _ text 0 c.in_ok-end.end run c.in_ok-end.ensures.appended;
    }

pub writing-preserved : goal.writing-preserved
writing-preserved c =
    let text = c.args.text.now in
    let run = c.in_ok-end-2.ensures.run in record {
      within = run.within;
      stopped = run.stopped;
      written = run-written _ _ text (c.writing.end + 1) c.in_ok-end-2.end run c.in_ok-end-2.ensures.appended ∙ escape-written _ _ text c.writing.end c.writing-test.true c.in_ok-push_escape.ensures ∙ c.writing.invariant.written;
    }
