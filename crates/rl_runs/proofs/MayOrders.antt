-- The conditions of `build` on a graph of constructs.
use Rattle.std.proofs.Common.{◌≡◌, ℕ, true, false, Option, Some, None, [], refl, sym, ap, subst}
use Rattle.std.specs.List.{list_any}
use Rattle.rl_base.specs.declared.ids.BlockId.{BlockId}
use Rattle.rl_hir.specs.Blocks.{block_at, same_id}
use Rattle.rl_hir.specs.declared.function.BasicBlock.{BasicBlock}
use Rattle.rl_hir.specs.declared.terminal.TerminalKind.{TerminalKind}
use Rattle.rl_hir.specs.declared.terminal.TerminalKind.TheVariants as kinds
use Rattle.rl_hir.specs.Terminals.{fields_of, leads}
use Rattle.rl_machine.specs.Conditions.{ByBranch, ByStep, ByThrow, EndsAs, IsDropped, MayOrder, Reached, ReadsAt, StepsAt, loop_blocks}
use Rattle.rl_machine.specs.Machine.{Graph}
use Rattle.rl_machine.specs.Prunes.{Each}
use Rattle.rl_order.proofs.Ordering.{or_left, or_right, same_self}
use Rattle.rl_order.specs.Reached.{Goes}
use Rattle.rl_runs.specs.Blocks.{is_end}

-- No note of a block is read that the ordering drops.
pub dropped_unread : (g : Graph) (id : BlockId) → IsDropped g id → (x : ℕ) → x ≡ id.0 → ReadsAt g x → ⊥
dropped_unread g id dropped x same (ByBranch from test consequent alternate fallthrough e) =
    dropped.behind_none from (kinds.Branch test consequent alternate fallthrough) e (ap (λ (n : ℕ). Some (record { 0 = n })) same)
dropped_unread g id dropped x same (ByThrow from continuation handler e) =
    dropped.unreached
    (subst (λ (n : ℕ). Reached g n) same
    (Goes from handler e.block e.reached e.there
    (subst (λ (k : TerminalKind). list_any (same_id handler) (leads (fields_of k)) ≡ true) (sym e.ends)
    (or_right (same_id handler continuation) _ (or_left (same_id handler handler) false (same_self handler))))))
dropped_unread g id dropped x same (ByStep from e) = dropped.unreached (subst (λ (n : ℕ). Reached g n) same e.reached)

-- The block behind a construct whose terminal `build` may replace.
abbrev pub replaced_behind : TerminalKind → Option BlockId
replaced_behind (kinds.DoWhile body test fallthrough) = Some fallthrough
replaced_behind (kinds.Try block binding handler fallthrough) = Some fallthrough
replaced_behind _ = None

-- The blocks of constructs keep the conditions: none ends as unreachable, loops are reached, no step stands in the test of a `do`-`while`
-- loop, and no note is read of the block behind such a loop and behind a `try`.
pub may_order : (g : Graph) → ((id : BlockId) (block : BasicBlock) → block_at g.blocks id ≡ Some block → block.preds ≡ [])
    → ((id : BlockId) (kind : TerminalKind) → EndsAs g id kind → is_end kind ≡ true)
    → ((id : BlockId) (kind : TerminalKind) → EndsAs g id kind → Each (Reached g) (loop_blocks kind))
    → ((id body test fallthrough : BlockId) → EndsAs g id (kinds.DoWhile body test fallthrough) → StepsAt g test.0 → ⊥)
    → ((id behind : BlockId) (kind : TerminalKind) → EndsAs g id kind → replaced_behind kind ≡ Some behind → ReadsAt g behind.0 → ⊥)
    → MayOrder g
may_order g preds ends looped stepless unread = record {
  fresh = preds;
  ended = λ id e. let never : false ≡ true = ends id kinds.Unreachable e in absurd (cc);
  loops = looped;
  steps = λ id body test fallthrough e. (
    stepless id body test fallthrough e,
    λ step. unread id fallthrough (kinds.DoWhile body test fallthrough) e refl
        (ByStep fallthrough.0 step),
  );
  dead_loops =
      λ id body test fallthrough e gone.
      (λ read. dropped_unread g test gone test.0 refl read, unread id fallthrough (kinds.DoWhile body test fallthrough) e refl);
  dead_tries =
      λ id block binding handler fallthrough e gone. (
        λ read. dropped_unread g handler gone handler.0 refl read,
        unread id fallthrough
            (kinds.Try block binding handler fallthrough) e refl,
      );
}
