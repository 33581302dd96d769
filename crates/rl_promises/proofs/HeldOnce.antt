-- Each counted node of a covered function is held once in a graph that holds the nodes of its parameters and its body.
use Rattle.std.proofs.Common.{◌≡◌, ◌⊎◌, inl, inr, true, List, Contains, ◌++◌, ◌∙◌, arith}
use Rattle.rl_ast.specs.FunctionTrees.{is_function as fits_function}
use Rattle.rl_names.specs.Functions.{body_in, params_in}
use Rattle.rl_names.specs.Names.{Names}
use Rattle.rl_hir.specs.Blocks.{Pair as BlockPair}
use Rattle.rl_hir.specs.declared.function.HirFunction.{HirFunction}
use Rattle.rl_model.specs.Counted.{Counted}
use Rattle.rl_promises.proofs.CountedLives.{counted_lives}
use Rattle.rl_promises.proofs.CountedOnce.{IsOneOf, counted_once}
use Rattle.rl_promises.specs.Covered.{IsCoveredFunction}
use Rattle.rl_promises.specs.Held.{HoldsOnce, dead_nodes, listed, times}
use Rattle.rl_promises.specs.HeldNodes.{HoldsNodes}
use Rattle.rl_promises.specs.Live.{LivesOn, held_in, live_in_body}
use Rattle.rl_syntax.specs.Syntax.{IsPlaced, Syntax}
use Rattle.rl_syntax.specs.declared.numbered.Position.{Position}

pub held_once : (names : Names) (f : Syntax) (from : Position) → IsPlaced from f → IsCoveredFunction f → fits_function f ≡ true
    → (h : HirFunction (List BlockPair)) → HoldsNodes names f h → HoldsOnce f h
held_once names f from placed covered fit h holds = record {
  table = λ place default within. in_table _ (counted_once names f from placed covered place default within);
  blocks = λ place default within.
      in_blocks _ (counted_once names f from placed covered place default within)
      (counted_lives names f covered fit place default within);
}
  where
    in_table : (key : Counted) → IsOneOf names f key → times key h.instructions ≡ 1
    in_table key one = holds.table key one.0 ∙ one.1

    in_blocks : (key : Counted) → IsOneOf names f key
        → Contains (dead_nodes f) key ⊎ LivesOn (held_in names (params_in f) ++ live_in_body names (body_in f)) key
        → Contains (dead_nodes f) key ⊎ (times key (listed h.instructions h.body.blocks) ≡ 1)
    in_blocks key one (inl dead) = inl dead
    in_blocks key one (inr lives) =
        let least = holds.live key one.0 lives in
        let most = holds.once key in
        let all = in_table key one in
        inr (omega (arith, least, most, all))
