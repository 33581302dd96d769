use Rattle.std.proofs.Common.{◌≡◌, ◌++◌, drop, map}
use Rattle.std.specs.Prelude.{All}
use Rattle.rl_text.specs.Raw.{tree, parts_of}
use Rattle.rl_trace_text.specs.Reading.{NoneAreShown}
use Rattle.rl_trace_text.proofs.from_tree.from_items.Given as goal

abbrev pub invariant-items : goal.invariant-items
invariant-items g l = record {
  found : map g.T.FromTree.shown l.values ++ map tree (drop l.item-index l.items) ≡ map tree l.items;
  fitting : All g.T.FromTree.fits l.values;
  none :
      NoneAreShown (λ v. parts_of (map g.T.FromTree.shown v)) (All g.T.FromTree.fits) (parts_of (map tree (drop l.item-index l.items)))
      → NoneAreShown (λ v. parts_of (map g.T.FromTree.shown v)) (All g.T.FromTree.fits) (parts_of (map tree l.items));
}
