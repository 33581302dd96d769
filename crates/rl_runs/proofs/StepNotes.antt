-- Steps of loops, move by move.
use Rattle.std.proofs.Common.{◌≡◌, ℕ, zero, suc, ◌<◌, ◌⊎◌, inl, inr, List, [], ◌∷◌, length, slice_get}
use Rattle.std.proofs.Common.{Some, refl, sym, ap, ◌∙◌, subst, arith}
use Rattle.std.proofs.lemmas.Option.{slice_get_within}
use Rattle.rl_base.specs.declared.ids.InstructionId.{InstructionId}
use Rattle.rl_builder.specs.Builder.{completed_by, ended_by}
use Rattle.rl_builder.specs.declared.blocks.WipBlock.{WipBlock}
use Rattle.rl_hir.specs.Blocks.{Pair as BlockPair}
use Rattle.rl_hir.specs.declared.terminal.Terminal.{Terminal}
use Rattle.rl_machine.specs.Prunes.{ReadsNote}
use Rattle.rl_runs.proofs.Common.{Instruction, State}
use Rattle.rl_runs.proofs.Steps.{added_cases}
use Rattle.rl_runs.specs.StepNotes.{AreIn, HasStep, KnowsListed, StepIn}

pub none_at : (place : ℕ) (number : InstructionId) → slice_get {X = InstructionId} [] place ≡ Some number → ⊥
none_at place number at = absurd (cc)

pub found_below : {X : Type 0} (xs : List X) (n : ℕ) → n < length xs → (x : X) × (slice_get xs n ≡ Some x)
found_below [] n below = absurd (omega (arith, below))
found_below (x ∷ xs) zero below = (x, refl)
found_below (x ∷ xs) (suc n) below = found_below xs n (omega (arith, below))

pub none_listed : (table : List Instruction) → HasStep table [] → ⊥
none_listed table h = (let never : slice_get {X = InstructionId} [] h.place ≡ Some h.number = h.at in absurd (cc))

-- The current block ends, and an empty one goes on.
pub steps_ended : (x : State) (t : Terminal) (next : WipBlock) (id : ℕ) → next.instructions ≡ [] → StepIn (completed_by x t next) id
    → StepIn x id
steps_ended x t next id blank h = elim h [
  | inl d ↦ elim (added_cases x.completed (ended_by x.current t) d.one.index d.block d.one.found) [
    | inl e ↦ inl (record { block = d.block; one = record { index = d.one.index; found = e }; named = d.named; step = d.step })
    | inr e ↦ inr (ap (λ (b : BlockPair). b.0.0) (sym e) ∙ d.named, subst (λ (b : BlockPair). HasStep x.table b.1.instructions) e d.step)
  ]
  | inr w ↦ absurd (none_listed x.table (subst (λ (l : List InstructionId). HasStep x.table l) blank w.1))
]

pub listed_ended : (x : State) (t : Terminal) (next : WipBlock) → next.instructions ≡ [] → KnowsListed x
    → KnowsListed (completed_by x t next)
listed_ended x t next blank k = record {
  done = λ b one. elim (added_cases x.completed (ended_by x.current t) one.index b one.found) [
    | inl e ↦ k.done b (record { index = one.index; found = e })
    | inr e ↦ subst (λ (y : BlockPair). AreIn x.table y.1.instructions) (sym e) k.current
  ];
  current = subst (λ (l : List InstructionId). AreIn x.table l) (sym blank) (λ place number at. absurd (none_at place number at));
}

-- A block that was set aside meets a longer table.
module _ (s s2 : State) (t : Terminal)
    (larger : (number : ℕ) (i : Instruction) → slice_get s.table number ≡ Some i → slice_get s2.table number ≡ Some i)
    (k : KnowsListed s) where
  before : HasStep s2.table s.current.instructions → HasStep s.table s.current.instructions
  before h =
      let old = found_below s.table h.number.0 (k.current h.place h.number h.at) in
      let both : Some old.0 ≡ Some h.instruction = sym (larger h.number.0 old.0 old.1) ∙ h.kept in
      let same : h.instruction ≡ old.0 = cc in
      record { place = h.place; number = h.number; instruction = old.0; at = h.at; kept = old.1; reads = subst ReadsNote same h.reads }

  pub steps_aside : (id : ℕ) → StepIn (completed_by s2 t s.current) id → StepIn s2 id ⊎ StepIn s id
  steps_aside id h = elim h [
    | inl d ↦ elim (added_cases s2.completed (ended_by s2.current t) d.one.index d.block d.one.found) [
      | inl e ↦ inl (inl (record { block = d.block; one = record { index = d.one.index; found = e }; named = d.named; step = d.step }))
      | inr e ↦ inl (inr (ap (λ (b : BlockPair). b.0.0) (sym e) ∙ d.named, subst (λ (b : BlockPair). HasStep s2.table b.1.instructions) e d.step))
    ]
    | inr w ↦ inr (inr (w.0, before w.1))
  ]

  pub listed_aside : KnowsListed s2 → KnowsListed (completed_by s2 t s.current)
  listed_aside k2 = record {
    done = λ b one. elim (added_cases s2.completed (ended_by s2.current t) one.index b one.found) [
      | inl e ↦ k2.done b (record { index = one.index; found = e })
      | inr e ↦ subst (λ (y : BlockPair). AreIn s2.table y.1.instructions) (sym e) k2.current
    ];
    current = λ place number at. (let old = found_below s.table number.0 (k.current place number at) in slice_get_within s2.table number.0 old.0 (larger number.0 old.0 old.1));
  }
