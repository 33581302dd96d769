-- Small graphs before and after the passes, by computation.
use Rattle.std.proofs.Common.{◌≡◌, ℕ, Some, None, List, [], ◌∷◌, map, refl}
use Rattle.rl_base.specs.declared.ids.BlockId.{BlockId}
use Rattle.rl_hir.specs.Blocks.{Pair}
use Rattle.rl_hir.specs.declared.function.BlockKind.TheVariants as blocks
use Rattle.rl_hir.specs.declared.instruction.Place.{Place}
use Rattle.rl_hir.specs.declared.terminal.GotoVariant.TheVariants as gotos
use Rattle.rl_hir.specs.declared.terminal.TerminalKind.{TerminalKind}
use Rattle.rl_hir.specs.declared.terminal.TerminalKind.TheVariants as kinds
use Rattle.rl_order.specs.Numbering.{ordered_blocks}
use Rattle.rl_order.specs.PredecessorWalk.{IsMarked, Visits, Ends}
use Rattle.rl_order.specs.Removals.{without_dead_do_whiles, without_dead_tries, without_unreachable_updates}

abbrev id : ℕ → BlockId
id n = record { 0 = n }

abbrev place : Place
place = record { identifier = record { 0 = 0 }; span = None }

-- Block `n`, with a terminal of an order and of a kind, and with predecessors.
abbrev block : ℕ → (order : ℕ) → TerminalKind → (preds : List ℕ) → Pair
block n order kind preds = (id n, record { kind = blocks.Block; instructions = []; terminal = record { order = record { 0 = order }; span = None; kind = kind }; preds = map id preds })

-- A `do`-`while` loop whose test is missing is a goto to its block, with its order.
missing_test : without_dead_do_whiles (block 0 7 (kinds.DoWhile (id 1) (id 2) (id 3)) [] ∷ block 1 8 (kinds.Throw place) (0 ∷ []) ∷ [])
    ≡ block 0 7 (kinds.Goto (id 1) gotos.Break) [] ∷ block 1 8 (kinds.Throw place) (0 ∷ []) ∷ []
missing_test = refl

-- A loop whose test is there stays.
present_test : without_dead_do_whiles (block 0 7 (kinds.DoWhile (id 0) (id 1) (id 1)) [] ∷ block 1 8 (kinds.Throw place) [] ∷ []) ≡ block 0 7 (kinds.DoWhile (id 0) (id 1) (id 1)) [] ∷ block 1 8 (kinds.Throw place) [] ∷ []
present_test = refl

-- A `for` loop loses an update that is missing, and no other.
missing_update : without_unreachable_updates (block 0 7 (kinds.For (id 0) (id 0) (Some (id 2)) (id 1) (id 1)) [] ∷ block 1 8 (kinds.For (id 0) (id 0) (Some (id 0)) (id 1) (id 1)) [] ∷ [])
    ≡ block 0 7 (kinds.For (id 0) (id 0) None (id 1) (id 1)) [] ∷ block 1 8 (kinds.For (id 0) (id 0) (Some (id 0)) (id 1) (id 1)) [] ∷ []
missing_update = refl

-- A `try` whose handler is missing is a goto to its block, of order 0; the fallthrough loses the handler.
missing_handler : without_dead_tries (block 0 7 (kinds.Try (id 1) None (id 2) (id 3)) [] ∷ block 1 8 (kinds.Goto (id 3) gotos.Try) (0 ∷ []) ∷ block 3 9 (kinds.Throw place) (1 ∷ 2 ∷ []) ∷ [])
    ≡ block 0 0 (kinds.Goto (id 1) gotos.Break) [] ∷ block 1 8 (kinds.Goto (id 3) gotos.Try) (0 ∷ []) ∷ block 3 9 (kinds.Throw place) (1 ∷ []) ∷ []
missing_handler = refl

-- A fallthrough that the handler alone leads to is removed.
lost_fallthrough : without_dead_tries (block 0 7 (kinds.Try (id 1) None (id 2) (id 3)) [] ∷ block 3 9 (kinds.Throw place) (2 ∷ []) ∷ block 1 8 (kinds.Throw place) (0 ∷ []) ∷ [])
    ≡ block 0 0 (kinds.Goto (id 1) gotos.Break) [] ∷ block 1 8 (kinds.Throw place) (0 ∷ []) ∷ []
lost_fallthrough = refl

-- Orders count from 1 in block order.
two_orders : ordered_blocks 1 (block 4 0 (kinds.Goto (id 5) gotos.Break) [] ∷ block 5 0 (kinds.Throw place) [] ∷ []) ≡ block 4 1 (kinds.Goto (id 5) gotos.Break) [] ∷ block 5 2 (kinds.Throw place) [] ∷ []
two_orders = refl

-- A block that is only a fallthrough has no predecessors; a successor that is named twice has one.
only_fallthrough : IsMarked (block 0 1 (kinds.If place (id 1) (id 1) (id 2)) [] ∷ block 1 2 (kinds.Throw place) [] ∷ block 2 3 kinds.Unreachable (1 ∷ []) ∷ []) (id 0)
    (block 0 1 (kinds.If place (id 1) (id 1) (id 2)) [] ∷ block 1 2 (kinds.Throw place) (0 ∷ []) ∷ block 2 3 kinds.Unreachable [] ∷ [])
only_fallthrough = record {
  edges = (record { from = id 0; to = id 1 }) ∷ [];
  walk = record { seen = id 0 ∷ id 1 ∷ []; walk = Visits (record { from = id 0; to = id 1 }) [] _ _ _ refl refl (Ends _) };
  blocks = refl;
}
