use Rattle.std.proofs.Common.{◌≡◌, drop}
use Rattle.rl_hir.specs.Blocks.{HaveOwnIds, kept}
use Rattle.rl_hir.proofs.blocks.Blocks.remove_all.Given as goal

abbrev pub invariant-loop-id : goal.invariant-loop-id
invariant-loop-id g l =
    record {
      left : kept (drop l.id-index l.id-items) (g.Self.Blocks.pairs l.self) ≡ kept l.ids.keys (g.Self.Blocks.pairs l.fn.self);
      own : HaveOwnIds (g.Self.Blocks.pairs l.self);
    }
