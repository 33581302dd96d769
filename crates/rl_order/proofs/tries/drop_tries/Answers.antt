use Rattle.std.proofs.Common.{List, ap, fold, refl, ◌∙◌}
use Rattle.rl_base.specs.declared.ids.BlockId.{BlockId}
use Rattle.rl_hir.specs.Blocks.{HaveOwnIds, Pair, kept}
use Rattle.rl_hir.proofs.KeptBlocks.{kept_all}
use Rattle.rl_order.proofs.DeadTries.{own_by_keys, rest_next}
use Rattle.rl_order.specs.Removals.{without_try}
use Rattle.rl_order.specs.declared.tries.DeadTry.{DeadTry}
use Rattle.rl_order.proofs.tries.drop_tries.Goals as goal

pub loop-dead-init : goal.loop-dead-init
loop-dead-init g c =
    let graph : List Pair = g.B.Blocks.pairs c.args.blocks.now in
    record {
      rest =
          ap (λ (l : List BlockId). fold (λ (b : List Pair) (d : DeadTry). without_try d b) (kept l graph) c.args.tries.now) c.new_set-lost.ensures
          ∙ ap (λ (b : List Pair). fold (λ (b : List Pair) (d : DeadTry). without_try d b) b c.args.tries.now) (kept_all graph);
      keys = refl;
    }

pub drop_try-requires-clause-distinct : goal.drop_try-requires-clause-distinct
drop_try-requires-clause-distinct g c =
    let own : HaveOwnIds (g.B.Blocks.pairs c.loop-dead.blocks) = own_by_keys (g.B.Blocks.pairs c.args.blocks.now) (g.B.Blocks.pairs c.loop-dead.blocks) c.loop-dead.invariant.keys c.index_by_id.ensures.distinct in
    own

pub loop-dead-preserved : goal.loop-dead-preserved
loop-dead-preserved g c =
    let some : DeadTry = record { id = record { 0 = 0 }; block = record { 0 = 0 }; handler = record { 0 = 0 }; fallthrough = record { 0 = 0 } } in
    record {
      rest =
          rest_next (kept c.loop-dead.lost.keys (g.B.Blocks.pairs c.loop-dead.blocks)) (kept c.drop_try.new.lost.keys (g.B.Blocks.pairs c.drop_try.new.blocks)) c.args.tries.now c.loop-dead.dead-index some
          c.loop-dead-test.true c.in_ok-drop_try.ensures.kept
          ∙ c.loop-dead.invariant.rest;
      keys = c.in_ok-drop_try.ensures.keys ∙ c.loop-dead.invariant.keys;
    }
