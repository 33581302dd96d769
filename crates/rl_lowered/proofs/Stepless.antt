-- A builder that began without blocks reads no note behind a construct whose terminal `build` may replace, and has no step of a loop where
-- none may stand.
use Rattle.std.proofs.Common.{◌≡◌, ℕ, inl, inr, List, [], Some, slice_get, sym, ap, ◌∙◌, subst}
use Rattle.rl_base.specs.declared.ids.InstructionId.{InstructionId}
use Rattle.rl_builder.specs.declared.jumps.JumpScope.{JumpScope}
use Rattle.rl_hir.specs.Blocks.{Pair as BlockPair}
use Rattle.rl_hir.specs.declared.terminal.TerminalKind.{TerminalKind}
use Rattle.rl_lowered.proofs.Common.{BlockId, State}
use Rattle.rl_lowered.specs.Steps.{KeepsStepsApart}
use Rattle.rl_runs.proofs.StepNotes.{none_at, none_listed}
use Rattle.rl_runs.specs.Blocks.{ByBreak, ByContinue, ByHandler, IsOneOf, IsTarget}
use Rattle.rl_runs.specs.ReadNotes.{KeepsUnread, KnowsReads, MarkedAt, Unread}
use Rattle.rl_runs.specs.StepNotes.{HasStep, KnowsListed, KnowsStepless, StepIn, Stepless}

-- Steps

-- From a builder that has neither blocks nor instructions on.
pub stepless_whole : (s t : State) → s.completed ≡ [] → s.current.instructions ≡ [] → KeepsStepsApart s t → Stepless t
stepless_whole s t completed blank k = k.keeps.stepless listed knows (λ id m h. none_stands id h)
  where
    none_done : (block : BlockPair) → IsOneOf s.completed block → ⊥
    none_done block one =
        let never : slice_get {X = BlockPair} [] one.index ≡ Some block =
        ap (λ (l : List BlockPair). slice_get l one.index) (sym completed) ∙ one.found in
        absurd (cc)

    none_stands : (id : ℕ) → StepIn s id → ⊥
    none_stands id h = elim h [
      | inl d ↦ none_done d.block d.one
      | inr w ↦ none_listed s.table (subst (λ (ids : List InstructionId). HasStep s.table ids) blank w.1)
    ]

    listed : KnowsListed s
    listed = record {
      done = λ block one. absurd (none_done block one);
      current = λ place number at.
          absurd (none_at place number (subst (λ (ids : List InstructionId). slice_get ids place ≡ Some number) blank at));
    }

    knows : KnowsStepless s
    knows = record {
      marked = λ id m. absurd (none_done m.block m.one);
      steps = λ id h. absurd (none_stands id h);
    }

-- Notes that are read

no_target : (id : ℕ) → IsTarget [] [] id → ⊥
no_target id (ByHandler index block found) = let never : slice_get {X = BlockId} [] index ≡ Some block = found in cc
no_target id (ByBreak index scope found) = let never : slice_get {X = JumpScope} [] index ≡ Some scope = found in cc
no_target id (ByContinue index scope block found is) = let never : slice_get {X = JumpScope} [] index ≡ Some scope = found in cc

none_handled : (handlers : List BlockId) → handlers ≡ [] → (id : ℕ) → IsTarget handlers [] id → ⊥
none_handled handlers none id h = no_target id (subst (λ (l : List BlockId). IsTarget l [] id) none h)

-- From a builder that has neither blocks nor handlers on.
pub unread_whole : (s t : State) → s.completed ≡ [] → s.handlers ≡ [] → KeepsUnread s t → Unread t
unread_whole s t completed handlers k = k.unread knows (λ id m n. none_marked id m)
  where
    none_marked : {of : TerminalKind → List BlockId} (id : ℕ) → MarkedAt of s.completed id → ⊥
    none_marked id m =
        let never : slice_get {X = BlockPair} [] m.one.index ≡ Some m.block =
        ap (λ (l : List BlockPair). slice_get l m.one.index) (sym completed) ∙ m.one.found in
        cc

    knows : KnowsReads s
    knows = record {
      replaced = λ id m. absurd (none_marked id m);
      read = λ id m. absurd (none_marked id m);
      handlers = λ id h. absurd (none_handled s.handlers handlers id h);
      apart = λ id h m. none_marked id m;
    }
