-- The graph of a finished builder may be ordered: its notes are read as `build` wants it.
use Rattle.std.proofs.Common.{◌≡◌, ℕ, inl, nat_eq, Bool, true, false, Option, Some, None, All, List, [], ◌∷◌, length, slice_get, refl}
use Rattle.std.proofs.Common.{sym, subst}
use Rattle.std.proofs.lemmas.List.Elements.{All-head, All-tail}
use Rattle.std.specs.Option.{option_map}
use Rattle.rl_base.specs.declared.ids.InstructionId.{InstructionId}
use Rattle.rl_hir.specs.Blocks.{Pair as BlockPair, block_at, same_id}
use Rattle.rl_hir.specs.declared.function.BasicBlock.{BasicBlock}
use Rattle.rl_hir.specs.declared.terminal.TerminalKind.{TerminalKind}
use Rattle.rl_hir.specs.declared.terminal.TerminalKind.TheVariants as kinds
use Rattle.rl_machine.specs.Conditions.{ByBranch, ByStep, ByThrow, EndsAs, MayOrder, Reached, ReadsAt, StepsAt, loop_blocks}
use Rattle.rl_machine.specs.Machine.{Graph, Runs, item_by, item_in}
use Rattle.rl_machine.specs.Prunes.{Each, ReadsNote}
use Rattle.rl_order.proofs.Ordering.{or_left, or_right, same_self}
use Rattle.rl_runs.proofs.Common.{BlockId, Instruction, State}
use Rattle.rl_runs.proofs.Graphs.{FoundAt, found_at}
use Rattle.rl_runs.proofs.MayOrders.{may_order, replaced_behind}
use Rattle.rl_runs.specs.Blocks.{AreEnds, is_end}
use Rattle.rl_runs.specs.ReadNotes.{HasId, MarkedAt, Unread, reads_of, replaced_of}
use Rattle.rl_runs.specs.StepNotes.{HasStep, StepIn, Stepless, stepless_of}

-- The completed blocks as a graph.
abbrev pub completed_graph : State → Graph
completed_graph s = record { blocks = s.completed; table = s.table; entry = s.entry }

-- A block that is found is one of all.
pub found_holds : (P : BlockPair → Type 0) (pairs : List BlockPair) (id : BlockId) (block : BasicBlock) → All P pairs
    → block_at pairs id ≡ Some block
    → (other : BlockId) × P (other, block)
found_holds P [] id block all found = absurd (cc)
found_holds P (p ∷ pairs) id block all found =
    by_test (same_id id p.0) refl found (found_holds P pairs id block (All-tail P p pairs all))
  where
    by_test : (b : Bool) → same_id id p.0 ≡ b → block_at (p ∷ pairs) id ≡ Some block
        → (block_at pairs id ≡ Some block → (other : BlockId) × P (other, block))
        → (other : BlockId) × P (other, block)
    by_test true is found1 rest =
        let at : Some p.1 ≡ Some block = rw is at found1 in
        let same : p.1 ≡ block = cc in
        (p.0, subst (λ (b : BasicBlock). P (p.0, b)) same (All-head P p pairs all))
    by_test false is found1 rest = let later : block_at pairs id ≡ Some block = rw is at found1 in rest later

module _ (s : State) where
  -- A block whose terminal marks another.
  marked_by : (of : TerminalKind → List BlockId) (id : BlockId) (kind : TerminalKind) (n : ℕ) → EndsAs (completed_graph s) id kind
      → HasId (of kind) n
      → MarkedAt of s.completed n
  marked_by of id kind n e is =
      let at : FoundAt s.completed id.0 e.block = found_at s.completed id.0 e.block e.there in
      record { block = (at.own, e.block); one = record { index = at.index; found = at.found }; marks = subst (λ (k : TerminalKind). HasId (of k) n) (sym e.ends) is }

  -- A step of the graph stands in a block of the builder.
  step_in : (n : ℕ) → StepsAt (completed_graph s) n → StepIn s n
  step_in n e =
      let at : FoundAt s.completed n e.block = found_at s.completed n e.block e.there in
      inl (record {
        block =
            (at.own, e.block);
        one = record { index = at.index; found = at.found };
        named = at.named;
        step =
            listed e.block e.place e.instruction e.item e.reads;
      })
    where
      by_kept : (o : Option Instruction) (i : Instruction)
          → option_map (λ j. Runs j) o ≡ Some (Runs i) → o ≡ Some i
      by_kept None i e1 = absurd (cc)
      by_kept (Some j) i e1 = cc

      listed : (block : BasicBlock) (place : ℕ) (i : Instruction) → item_in s.table block place ≡ Some (Runs i)
          → ReadsNote i → HasStep s.table block.instructions
      listed block place i is reads = by_listed (slice_get block.instructions place) (nat_eq place (length block.instructions)) refl is
        where
          by_listed : (o : Option InstructionId) (b : Bool) → slice_get block.instructions place ≡ o
              → item_by s.table o b block.terminal ≡ Some (Runs i) → HasStep s.table block.instructions
          by_listed (Some number) b found e1 =
              record {
                place = place;
                number = number;
                instruction = i;
                at = found;
                kept = by_kept
                    (slice_get s.table number.0) i e1;
                reads = reads;
              }
          by_listed None true found e1 = absurd (cc)
          by_listed None false found e1 = absurd (cc)

  -- No note is read of a block behind a construct whose terminal may be replaced.
  behind_unread : Unread s → Stepless s → (id behind : BlockId) (kind : TerminalKind) → EndsAs (completed_graph s) id kind
      → replaced_behind kind ≡ Some behind
      → ReadsAt (completed_graph s) behind.0 → ⊥
  behind_unread unread stepless id behind kind e is reads = by_read behind.0 refl reads
    where
      replaced : (kind : TerminalKind) → replaced_behind kind ≡ Some behind → HasId (replaced_of kind) behind.0
      replaced (kinds.DoWhile body test fallthrough) e1 =
          (let same : behind ≡ fallthrough = cc in subst (λ (b : BlockId). HasId (b ∷ []) behind.0) same (or_left (same_id behind behind) false (same_self behind)))
      replaced (kinds.Try block binding handler fallthrough) e1 =
          (let same : behind ≡ fallthrough = cc in subst (λ (b : BlockId). HasId (b ∷ []) behind.0) same (or_left (same_id behind behind) false (same_self behind)))
      replaced _ e1 = absurd (cc)

      no_step : (kind : TerminalKind) → replaced_behind kind ≡ Some behind → HasId (stepless_of kind) behind.0
      no_step (kinds.DoWhile body test fallthrough) e1 =
          (let same : behind ≡ fallthrough = cc in subst (λ (b : BlockId). HasId (test ∷ b ∷ []) behind.0) same (or_right (same_id behind test) _ (or_left (same_id behind behind) false (same_self behind))))
      no_step (kinds.Try block binding handler fallthrough) e1 =
          (let same : behind ≡ fallthrough = cc in subst (λ (b : BlockId). HasId (b ∷ []) behind.0) same (or_left (same_id behind behind) false (same_self behind)))
      no_step _ e1 = absurd (cc)

      by_read : (n : ℕ) → n ≡ behind.0 → ReadsAt (completed_graph s) n → ⊥
      by_read n same (ByBranch from test consequent alternate fallthrough e1) =
          unread fallthrough.0
          (subst (λ (m : ℕ). MarkedAt replaced_of s.completed m) (sym same) (marked_by replaced_of id kind behind.0 e (replaced kind is)))
          (marked_by reads_of from (kinds.Branch test consequent alternate fallthrough) fallthrough.0 e1
          (or_left (same_id fallthrough fallthrough) false (same_self fallthrough)))
      by_read n same (ByThrow from continuation handler e1) =
          unread handler.0
          (subst (λ (m : ℕ). MarkedAt replaced_of s.completed m) (sym same) (marked_by replaced_of id kind behind.0 e (replaced kind is)))
          (marked_by reads_of from (kinds.MaybeThrow continuation (Some handler)) handler.0 e1
          (or_left (same_id handler handler) false (same_self handler)))
      by_read n same (ByStep from e1) =
          stepless from
          (subst (λ (m : ℕ). MarkedAt stepless_of s.completed m) (sym same) (marked_by stepless_of id kind behind.0 e (no_step kind is)))
          (step_in from e1)

  -- The graph of a finished builder may be ordered.
  pub finished_may_order : All (λ b. b.1.preds ≡ []) s.completed → AreEnds s.completed
      → ((id : BlockId) (kind : TerminalKind) → EndsAs (completed_graph s) id kind → Each (Reached (completed_graph s)) (loop_blocks kind))
      → Unread s → Stepless s → MayOrder (completed_graph s)
  finished_may_order unlinked ends looped unread stepless =
      may_order (completed_graph s)
      (λ id block found. (found_holds (λ (b : BlockPair). b.1.preds ≡ []) s.completed id block unlinked found).1)
      (λ id kind e. subst (λ (k : TerminalKind). is_end k ≡ true) e.ends
      (found_holds (λ (b : BlockPair). is_end b.1.terminal.kind ≡ true) s.completed id e.block ends e.there).1)
      looped
      (λ id body test fallthrough e step. stepless test.0
      (marked_by stepless_of id (kinds.DoWhile body test fallthrough) test.0 e (or_left (same_id test test) _ (same_self test)))
      (step_in test.0 step))
      (behind_unread unread stepless)
