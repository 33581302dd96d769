use Rattle.std.proofs.Common.{◌≡◌, ◌+◌, ◌-◌, List, ℕ, [], ◌++◌, take, drop, sym, subst, arith, refl, true≢false, ap, ◌∙◌}
use Rattle.std.proofs.lemmas.List.{drop-drop, append-nil, take_rest}
use Rattle.rl_text.specs.Quoted.{quoted_rest, escape}
use Rattle.rl_text.proofs.Quotes.{ReadsText, text-begun, text-more, text-run, text-stopped}
use Rattle.rl_text.proofs.quoted.read_quoted.Goals as goal

pub reading-init : goal.reading-init
reading-init c =
    let bytes = c.args.bytes.now in
    let at = c.args.at in
    let end = c.plain_end-end.result in
    let run = c.plain_end-end.ensures in record {
      forward = run.forward;
      within = run.within;
      stopped = run.stopped;
      reads = subst (λ t. ReadsText bytes at end t) (sym (c.in_ok-extend_from_slice.ensures.items ∙ ap (λ l. l ++ take (end - at) (drop at bytes)) c.in_ok-text.ensures.items)) (text-run bytes at at end [] (text-begun bytes at) run);
    }

pub returns-in_default-clause-none : goal.returns-in_default-clause-none
returns-in_default-clause-none c =
    text-stopped c.args.bytes.now c.args.at c.reading.end c.reading.text.items c.reading.invariant.reads
    (λ u e. true≢false (sym (c.reading-test.ensures.no u e)))
    (λ byte u e. c.in_default.ensures.none byte u (take_rest c.args.bytes.now c.reading.end ∙ e))

pub reading-preserved : goal.reading-preserved
reading-preserved c =
    let bytes = c.args.bytes.now in
    let at = c.args.at in
    let end = c.reading.end in
    let after = c.in_ok-end.end in
    let run = c.in_ok-end.ensures.run in
    let found = rw (take_rest bytes end) at c.in-Some.ensures.some in
    let stands : drop end bytes ≡ escape c.in-Some.byte ++ drop (end + 3) bytes = found.1 ∙ ap (λ t. escape c.in-Some.byte ++ t) (drop-drop 3 end bytes) in
    let reads = text-more bytes at end (end + 3) c.reading.text.items c.in-Some.byte c.reading.invariant.reads stands in record {
      forward = omega (arith, run.forward, c.reading.invariant.forward);
      within = run.within;
      stopped = run.stopped;
      reads = subst (λ t. ReadsText bytes at after t) (sym (c.in_ok-end.ensures.appended ∙ ap (λ l. l ++ take (after - (end + 3)) (drop (end + 3) bytes)) c.in_ok-push.ensures.items)) (text-run bytes at (end + 3) after _ reads run);
    }

pub returns-clause-found : goal.returns-clause-found
returns-clause-found c =
    let bytes = c.args.bytes.now in
    let there = c.reading-test.ensures.yes refl in (
      omega (arith, c.reading.invariant.forward),
      omega (arith, there.0),
      c.reading.invariant.reads.whole [] (drop (c.reading.end + 1) bytes) there.1 ∙ ap (λ (t : List ℕ). quoted_rest t ++ drop (c.reading.end + 1) bytes) (append-nil c.reading.text.items),
    )
