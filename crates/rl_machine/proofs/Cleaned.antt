-- The removals keep what blocks list, where no block has a predecessor.
use Rattle.std.proofs.Common.{◌≡◌, Bool, true, false, if◌then◌else◌, List, [], ◌∷◌, map, fold, refl, ap, ◌∙◌}
use Rattle.rl_base.specs.declared.ids.BlockId.{BlockId}
use Rattle.rl_base.specs.declared.ids.InstructionId.{InstructionId}
use Rattle.rl_hir.specs.Blocks.{Pair, same_id}
use Rattle.rl_hir.specs.declared.function.BasicBlock.{BasicBlock}
use Rattle.rl_hir.specs.declared.terminal.TerminalKind.{TerminalKind}
use Rattle.rl_machine.proofs.Found.{NoPreds, no_preds_kinds, no_preds_tried, tried}
use Rattle.rl_order.specs.Prune.{cleaned}
use Rattle.rl_order.specs.Removals.{dead_tries, ended_by_goto, is_there, live_do_while, live_for, with_changed, with_kind, with_kinds, without_dead_do_whiles, without_predecessor, without_try, without_unreachable_updates}
use Rattle.rl_order.specs.declared.tries.DeadTry.{DeadTry}

-- The instructions that blocks list, block by block.
abbrev pub lists : List Pair → List (List InstructionId)
lists pairs = map (λ p. p.1.instructions) pairs

lists_change : (change : Pair → BasicBlock) (pairs : List Pair) → ((p : Pair) → (change p).instructions ≡ p.1.instructions)
    → lists (map (λ (p : Pair). (p.0, change p)) pairs) ≡ lists pairs
lists_change change [] keeps = refl
lists_change change (p ∷ pairs) keeps =
    ap (λ (l : List InstructionId). l ∷ lists (map (λ (q : Pair). (q.0, change q)) pairs)) (keeps p)
    ∙ ap (λ (l : List (List InstructionId)). p.1.instructions ∷ l) (lists_change change pairs keeps)

lists_kinds : (change : TerminalKind → TerminalKind) (pairs : List Pair) → lists (with_kinds change pairs) ≡ lists pairs
lists_kinds change pairs = lists_change (λ p. with_kind p.1 (change p.1.terminal.kind)) pairs (λ p. refl)

lists_changed : (id : BlockId) (change : BasicBlock → BasicBlock) (pairs : List Pair) → ((block : BasicBlock) → (change block).instructions ≡ block.instructions)
    → lists (with_changed id change pairs) ≡ lists pairs
lists_changed id change pairs keeps = lists_change (λ p. if same_id id p.0 then change p.1 else p.1) pairs (λ p. by_id (same_id id p.0) p)
  where
    by_id : (b : Bool) (p : Pair) → (if b then change p.1 else p.1).instructions ≡ p.1.instructions
    by_id true p = keeps p.1
    by_id false p = refl

lists_tried : (dead : DeadTry) (pairs : List Pair) → NoPreds pairs → lists (without_try dead pairs) ≡ lists pairs
lists_tried dead pairs none =
    ap lists (tried dead pairs none)
    ∙ lists_changed dead.fallthrough (without_predecessor dead.handler) (with_changed dead.id (ended_by_goto dead.block) pairs) (λ block. refl)
    ∙ lists_changed dead.id (ended_by_goto dead.block) pairs (λ block. refl)

lists_tries : (tries : List DeadTry) (pairs : List Pair) → NoPreds pairs → lists (fold (λ now dead. without_try dead now) pairs tries) ≡ lists pairs
lists_tries [] pairs none = refl
lists_tries (dead ∷ tries) pairs none =
    lists_tries tries (without_try dead pairs) (no_preds_tried dead pairs none) ∙ lists_tried dead pairs none

pub cleaned_lists : (pairs : List Pair) → NoPreds pairs → lists (cleaned pairs) ≡ lists pairs
cleaned_lists pairs none =
    lists_tries (dead_tries (is_there whiles) whiles) whiles
    (no_preds_kinds (live_do_while (is_there fors)) fors (no_preds_kinds (live_for (is_there pairs)) pairs none))
    ∙ lists_kinds (live_do_while (is_there fors)) fors ∙ lists_kinds (live_for (is_there pairs)) pairs
  where
    fors : List Pair
    fors = without_unreachable_updates pairs

    whiles : List Pair
    whiles = without_dead_do_whiles fors
