use Rattle.std.proofs.Common.{◌≡◌, ◌<◌, length, sym, ap, subst, ◌∙◌, arith}
use Rattle.std.specs.Option.{option_map_or}
use Rattle.rl_used_names.specs.Merged.{with_missing_pair}
use Rattle.rl_used_names.proofs.Merging.{merge-step, merge-end}
use Rattle.rl_used_names.proofs.names.Bindings.merge.Goals as goal

pub loop-index-preserved : goal.loop-index-preserved
loop-index-preserved c =
    let child = c.args.child.now in
    let pairs = c.loop-index.self in
    merge-step pairs child c.insert_missing.new.self c.loop-index.index (subst (λ n. c.loop-index.index < n) c.len-index-end.ensures c.loop-index-test.true)
    (c.in_ok-insert_missing.ensures ∙ ap (λ o. option_map_or (λ p. with_missing_pair pairs p) o pairs) c.pair_at.ensures)
    ∙ c.loop-index.invariant

pub returns : goal.returns
returns c =
    let end : c.loop-index.index ≡ length c.args.child.now = omega (arith, c.loop-index-test.false, c.loop-index.auto.index-end, c.len-index-end.ensures) in
    sym (merge-end c.loop-index.self c.args.child.now c.loop-index.index end) ∙ c.loop-index.invariant
