-- Steps of loops, and the blocks at which none may stand, move by move.
use Rattle.std.proofs.Common.{◌≡◌, ℕ, ◌+◌, ◌<◌, ◌≤◌, inl, inr, ◌++◌, Bool, true, false, List, [], ◌∷◌, length, slice_get}
use Rattle.std.proofs.Common.{Option, Some, None, refl, sym, ap, ◌∙◌, subst, arith}
use Rattle.rl_base.specs.declared.ids.InstructionId.{InstructionId}
use Rattle.rl_builder.specs.Builder.{completed_by, entered, innermost, maybe_throw, new_block, plainly_pushed, pushed}
use Rattle.rl_builder.specs.Builder.{pushed_under, recorded}
use Rattle.rl_builder.specs.Builder.{reserved, with_temporary}
use Rattle.rl_builder.specs.declared.blocks.WipBlock.{WipBlock}
use Rattle.rl_builder.specs.declared.jumps.JumpScope.{JumpScope}
use Rattle.rl_builder.specs.Temporaries.{temporary, unordered, with_value}
use Rattle.rl_frames.proofs.RoundNotes.{pushed_listed, pushed_marks, pushed_step}
use Rattle.rl_frames.specs.Parts.{chain_begun, chain_ended, chain_reserved, chain_undefined, link_begun, link_end, link_finished}
use Rattle.rl_frames.specs.Parts.{link_object}
use Rattle.rl_hir.specs.Blocks.{Pair as BlockPair}
use Rattle.rl_hir.specs.declared.environment.Environment.{Environment}
use Rattle.rl_hir.specs.declared.function.BlockKind.{BlockKind}
use Rattle.rl_hir.specs.declared.function.BlockKind.TheVariants as blocks
use Rattle.rl_hir.specs.declared.instruction.Instruction.{Instruction}
use Rattle.rl_hir.specs.declared.instruction.InstructionKind.{InstructionKind}
use Rattle.rl_hir.specs.declared.instruction.InstructionKind.TheVariants as kinds
use Rattle.rl_hir.specs.declared.instruction.InstructionValue.TheVariants as values
use Rattle.rl_hir.specs.declared.instruction.PrimitiveValue.TheVariants as primitives
use Rattle.rl_hir.specs.declared.terminal.GotoVariant.{GotoVariant}
use Rattle.rl_hir.specs.declared.terminal.GotoVariant.TheVariants as gotos
use Rattle.rl_hir.specs.declared.terminal.Terminal.{Terminal}
use Rattle.rl_lowered.proofs.ChainFrames.{linked_state}
use Rattle.rl_lowered.proofs.Common.{BlockId, Diagnostic, InstructionValue, Place, Span, State}
use Rattle.rl_lowered.proofs.ItemBlocks.{Stays}
use Rattle.rl_lowered.specs.Steps.{KeepsStepsApart}
use Rattle.rl_machine.specs.Acts.{act, declared}
use Rattle.rl_machine.specs.Prunes.{IsStep, ReadsNote}
use Rattle.rl_machine.specs.Traces.{Store}
use Rattle.rl_base.specs.declared.operator.BinaryOperator.TheVariants as operator
use Rattle.rl_optional_frames.specs.Frames.{default_at, default_ended, default_tested, link_at, link_objected}
use Rattle.rl_optional_frames.specs.Parts.{compared, comparison, default_begun, default_end, default_given, default_other, default_reserved}
use Rattle.rl_optional_frames.specs.Parts.{link_opened, undefined_made}
use Rattle.rl_runs.proofs.Moves.{extends_pushed}
use Rattle.rl_runs.proofs.Naming.{named_none}
use Rattle.rl_runs.proofs.ReadNotes.{marked_ended}
use Rattle.rl_runs.proofs.StepNotes.{found_below, listed_aside, listed_ended, none_at, none_listed, steps_aside, steps_ended}
use Rattle.rl_runs.proofs.Steps.{added_cases, get_more, get_seam}
use Rattle.rl_runs.specs.Blocks.{WasNumbered}
use Rattle.rl_runs.specs.Moves.{branch, goto, last_hole, next_hole, set_aside, stacked, stored_in}
use Rattle.rl_runs.specs.ReadNotes.{HasId, MarkedAt}
use Rattle.rl_runs.specs.StepNotes.{AreIn, HasStep, KnowsListed, KnowsStepless, StepIn, stepless_of}

-- True of a value that asks for an iterator, or for the next value of a loop.
abbrev pub is_step : InstructionValue → Bool
is_step (values.GetIterator collection) = true
is_step (values.IteratorNext iterator collection) = true
is_step (values.NextPropertyOf object) = true
is_step _ = false

declared_unstepped : (kind : InstructionKind) (variable : ℕ) → IsStep (declared kind variable) → ⊥
declared_unstepped kinds.Catch variable step = step
declared_unstepped _ variable step = step

value_unstepped : (v : InstructionValue) → is_step v ≡ false → (result : ℕ) (store : Store) → IsStep (act result v store) → ⊥
value_unstepped (values.GetIterator p) is result store step = cc
value_unstepped (values.IteratorNext iterator p) is result store step = cc
value_unstepped (values.NextPropertyOf p) is result store step = cc
value_unstepped (values.DeclareLocal kind p) is result store step = declared_unstepped kind p.identifier.0 step
value_unstepped (values.DeclareContext kind p) is result store step = declared_unstepped kind p.identifier.0 step
value_unstepped _ is result store step = step

-- The blocks of a state that moves change in nothing but the environment and the stacks.

same_steps : (s t : State) → t.completed ≡ s.completed → t.current ≡ s.current → t.table ≡ s.table → (id : ℕ) → StepIn t id → StepIn s id
same_steps s t completed current table id h = elim h [
  | inl d ↦ inl (record {
    block = d.block;
    one = record { index = d.one.index; found = ap (λ (l : List BlockPair). slice_get l d.one.index) (sym completed) ∙ d.one.found };
    named = d.named;
    step = subst (λ (rows : List Instruction). HasStep rows d.block.1.instructions) table d.step;
  })
  | inr w ↦ inr (
    ap (λ (b : WipBlock). b.id.0) (sym current) ∙ w.0,
    subst (λ (rows : List Instruction). HasStep rows s.current.instructions) table
        (subst (λ (b : WipBlock). HasStep t.table b.instructions) current w.1),
  )
]

-- Parts one behind the other.
pub apart_then : (a b c : State) → KeepsStepsApart a b → KeepsStepsApart b c → KeepsStepsApart a c
apart_then a b c j k = record {
  grows = omega (arith, j.grows, k.grows);
  table = λ number i is. k.table number i (j.table number i is);
  listed = λ l. k.listed (j.listed l);
  since = λ l id h. elim (k.since (j.listed l) id h) [
    | inl h1 ↦ elim (j.since l id h1) [ inl old ↦ inl old | inr own ↦ inr (own.0, omega (arith, own.1, k.grows)) ]
    | inr own ↦ inr (omega (arith, own.0, j.grows), own.1)
  ];
  keeps = record {
    marks = λ id m. elim (k.keeps.marks id m) [
      | inl m1 ↦ elim (j.keeps.marks id m1) [ inl old ↦ inl old | inr own ↦ inr (own.0, omega (arith, own.1, k.grows)) ]
      | inr own ↦ inr (omega (arith, own.0, j.grows), own.1)
    ];
    stepless = λ l kn u. k.keeps.stepless (j.listed l) (known l kn) (j.keeps.stepless l kn u);
  };
}
  where
    known : KnowsListed a → KnowsStepless a → KnowsStepless b
    known l kn = record {
      marked = λ id m. elim (j.keeps.marks id m) [
        | inl old ↦ (let small : id < a.env.next_block = kn.marked id old in omega (arith, small, j.grows))
        | inr own ↦ own.1
      ];
      steps = λ id h. elim (j.since l id h) [
        | inl old ↦ (let small : id < a.env.next_block = kn.steps id old in omega (arith, small, j.grows))
        | inr own ↦ own.1
      ];
    }

-- The blocks stay as they are, and the counter of blocks does not fall.
pub apart_same : (s t : State) → t.completed ≡ s.completed → t.current ≡ s.current → t.table ≡ s.table
    → s.env.next_block ≤ t.env.next_block → KeepsStepsApart s t
apart_same s t completed current table grows = record {
  grows = grows;
  table = λ number i is. ap (λ (rows : List Instruction). slice_get rows number) table ∙ is;
  listed = λ l. record {
    done = λ b one. subst (λ (rows : List Instruction). AreIn rows b.1.instructions) (sym table)
        (l.done b (record { index = one.index; found = ap (λ (l : List BlockPair). slice_get l one.index) (sym completed) ∙ one.found }));
    current = subst (λ (rows : List Instruction). AreIn rows t.current.instructions) (sym table)
        (subst (λ (b : WipBlock). AreIn s.table b.instructions) (sym current) l.current);
  };
  since = λ l id h. inl (same_steps s t completed current table id h);
  keeps = record {
    marks = λ id m. inl (subst (λ (l : List BlockPair). MarkedAt stepless_of l id) completed m);
    stepless = λ l kn u id m h. u id (subst (λ (l : List BlockPair). MarkedAt stepless_of l id) completed m)
        (same_steps s t completed current table id h);
  };
}

pub apart_refl : (s : State) → KeepsStepsApart s s
apart_refl s = apart_same s s refl refl refl (omega arith)

-- The environment alone changes.
pub apart_numbered : (s : State) (env : Environment) → s.env.next_block ≤ env.next_block → KeepsStepsApart s (record s { env = env })
apart_numbered s env grows = apart_same s (record s { env = env }) refl refl refl grows

pub apart_noted : (s : State) (d : Diagnostic) → KeepsStepsApart s (recorded s d)
apart_noted s d = apart_same s (recorded s d) refl refl refl (omega arith)

-- A terminal that marks no block.
pub apart_ended : (s : State) (t : Terminal) (next : WipBlock) → stepless_of t.kind ≡ [] → next.instructions ≡ []
    → KeepsStepsApart s (completed_by s t next)
apart_ended s t next none blank = record {
  grows = omega arith;
  table = λ number i is. is;
  listed = λ l. listed_ended s t next blank l;
  since = λ l id h. inl (steps_ended s t next id blank h);
  keeps = record {
    marks = λ id m. inl (before id m);
    stepless = λ l kn u id m h. u id (before id m) (steps_ended s t next id blank h);
  };
}
  where
    before : (id : ℕ) → MarkedAt stepless_of (completed_by s t next).completed id → MarkedAt stepless_of s.completed id
    before id m = elim (marked_ended stepless_of s t next id m) [
      | inl old ↦ old
      | inr new ↦ absurd (named_none id (subst (λ (l : List BlockId). HasId l id) none new))
    ]

-- Terminals that mark blocks which were numbered before the part between the states `numbered` and `x`.
pub apart_marked : (s x : State) (env : Environment) (t : Terminal) (next : WipBlock) → next.instructions ≡ []
    → s.env.next_block ≤ env.next_block
    → ((id : ℕ) → HasId (stepless_of t.kind) id → WasNumbered s.env.next_block env.next_block id)
    → KeepsStepsApart (record s { env = env }) x → KeepsStepsApart s (completed_by x t next)
apart_marked s x env t next blank more owns k = record {
  grows = base.grows;
  table = base.table;
  listed = λ l. listed_ended x t next blank (base.listed l);
  since = λ l id h. base.since l id (steps_ended x t next id blank h);
  keeps = record {
    marks = λ id m. elim (marked_ended stepless_of x t next id m) [
      | inl m1 ↦ base.keeps.marks id m1
      | inr own ↦ (let o = owns id own in inr (o.0, omega (arith, o.1, k.grows)))
    ];
    stepless = λ l kn u id m h. elim (marked_ended stepless_of x t next id m) [
      | inl m1 ↦ base.keeps.stepless l kn u id m1 (steps_ended x t next id blank h)
      | inr own ↦ none_there l kn id (owns id own) (steps_ended x t next id blank h)
    ];
  };
}
  where
    numbered : State
    numbered = record s { env = env }

    first : KeepsStepsApart s numbered
    first = apart_numbered s env more

    base : KeepsStepsApart s x
    base = apart_then s numbered x first k

    none_there : KnowsListed s → KnowsStepless s → (id : ℕ) → WasNumbered s.env.next_block env.next_block id → StepIn x id → ⊥
    none_there l kn id own h = elim (k.since (first.listed l) id h) [
      | inl h1 ↦ (
          let small : id < s.env.next_block = kn.steps id (same_steps s numbered refl refl refl id h1) in
          omega (arith, small, own.0)
          )
      | inr above ↦ omega (arith, above.0, own.1)
    ]

-- Instructions.

-- An instruction that is no step.
module _ (s : State) (i : Instruction) (no_step : ReadsNote i → ⊥) where
  fewer : (listed : List InstructionId) → AreIn s.table listed → HasStep (s.table ++ i ∷ []) listed → HasStep s.table listed
  fewer listed below h =
      let old = found_below s.table h.number.0 (below h.place h.number h.at) in
      let both : Some old.0 ≡ Some h.instruction = sym (get_more s.table (i ∷ []) h.number.0 old.0 old.1) ∙ h.kept in
      let same : h.instruction ≡ old.0 = cc in
      record { place = h.place; number = h.number; instruction = old.0; at = h.at; kept = old.1; reads = subst ReadsNote same h.reads }

  not_last : KnowsListed s → HasStep (s.table ++ i ∷ []) (s.current.instructions ++ record { 0 = length s.table } ∷ [])
      → HasStep s.table s.current.instructions
  not_last l h = elim (added_cases s.current.instructions (record { 0 = length s.table }) h.place h.number h.at) [
    | inl at ↦ fewer s.current.instructions l.current
        (record { place = h.place; number = h.number; instruction = h.instruction; at = at; kept = h.kept; reads = h.reads })
    | inr e ↦ (
        let kept : slice_get (s.table ++ i ∷ []) (length s.table) ≡ Some h.instruction =
        ap (λ (n : InstructionId). slice_get (s.table ++ i ∷ []) n.0) (sym e) ∙ h.kept in
        let both : Some i ≡ Some h.instruction = sym (get_seam s.table i []) ∙ kept in
        let same : h.instruction ≡ i = cc in
        absurd (no_step (subst ReadsNote same h.reads))
        )
  ]

  plain_step : KnowsListed s → (id : ℕ) → StepIn (plainly_pushed s i) id → StepIn s id
  plain_step l id h = elim h [
    | inl d ↦ inl (record {
      block = d.block;
      one = d.one;
      named = d.named;
      step = fewer d.block.1.instructions (l.done d.block d.one) d.step;
    })
    | inr w ↦ inr (w.0, not_last l w.1)
  ]

  under_step : (o : Option BlockId) → KnowsListed s → (id : ℕ) → StepIn (pushed_under o s i) id → StepIn s id
  under_step None l id h = plain_step l id h
  under_step (Some handler) l id h =
      plain_step l id
      (same_steps (plainly_pushed s i) (reserved (plainly_pushed s i)) refl refl refl id
      (steps_ended (reserved (plainly_pushed s i)) (maybe_throw s.env.next_block handler i.span)
      (new_block s.env.next_block s.current.kind) id refl h))

  pub apart_pushed : KeepsStepsApart s (pushed s i)
  apart_pushed = record {
    grows = (extends_pushed s i).blocks;
    table = (extends_pushed s i).table;
    listed = λ l. pushed_listed s i (innermost s.handlers) l;
    since = λ l id h. inl (under_step (innermost s.handlers) l id h);
    keeps = record {
      marks = λ id m. inl (pushed_marks (innermost s.handlers) s i id m);
      stepless = λ l kn u id m h. u id (pushed_marks (innermost s.handlers) s i id m) (under_step (innermost s.handlers) l id h);
    };
  }

pub apart_value : (s : State) (v : InstructionValue) (span : Option Span) → is_step v ≡ false → KeepsStepsApart s (with_value s v span)
apart_value s v span plain =
    let named : State = with_temporary s span in
    apart_then s named _ (apart_same s named refl refl refl (omega arith))
    (apart_pushed named (unordered (temporary s span) v span)
    (λ reads. value_unstepped v plain (temporary s span).identifier.0 reads.store reads.step))

pub apart_stored : (s : State) (place value : Place) (part : Span) → KeepsStepsApart s (stored_in s place value part)
apart_stored s place value part = apart_value s (values.StoreLocal kinds.Const place value) (Some part) refl

-- A step, in a block that was numbered since and at which steps may stand.
pub apart_step : (s x : State) (v : InstructionValue) (span : Option Span) → WasNumbered s.env.next_block x.env.next_block x.current.id.0
    → (KnowsStepless s → MarkedAt stepless_of x.completed x.current.id.0 → ⊥) → KeepsStepsApart s x
    → KeepsStepsApart s (with_value x v span)
apart_step s x v span own unmarked k = record {
  grows = omega (arith, k.grows, grows);
  table = λ number j is. (extends_pushed named i).table number j (k.table number j is);
  listed = λ l. pushed_listed named i (innermost x.handlers) (on_named.listed (k.listed l));
  since = λ l id h. elim (pushed_step named i (innermost x.handlers) (on_named.listed (k.listed l)) id h) [
    | inl old ↦ elim (k.since l id (same_steps x named refl refl refl id old)) [
      | inl before ↦ inl before
      | inr later ↦ inr (later.0, omega (arith, later.1, grows))
    ]
    | inr here ↦ inr (omega (arith, here, own.0), omega (arith, here, own.1, grows))
  ];
  keeps = record {
    marks = λ id m. elim (k.keeps.marks id (pushed_marks (innermost x.handlers) named i id m)) [
      | inl before ↦ inl before
      | inr later ↦ inr (later.0, omega (arith, later.1, grows))
    ];
    stepless = λ l kn u id m h.
        elim (pushed_step named i (innermost x.handlers) (on_named.listed (k.listed l)) id h) [
          | inl old ↦ k.keeps.stepless l kn u id (pushed_marks (innermost x.handlers) named i id m)
              (same_steps x named refl refl refl id old)
          | inr here ↦ unmarked kn
              (subst (λ (n : ℕ). MarkedAt stepless_of x.completed n) (sym here) (pushed_marks (innermost x.handlers) named i id m))
        ];
  };
}
  where
    named : State
    named = with_temporary x span

    i : Instruction
    i = unordered (temporary x span) v span

    on_named : KeepsStepsApart x named
    on_named = apart_same x named refl refl refl (omega arith)

    grows : x.env.next_block ≤ (with_value x v span).env.next_block
    grows = (extends_pushed named i).blocks

-- Holes.

pub apart_next : (s : State) (behind : ℕ) (variant : GotoVariant) (part : Span) (kind : BlockKind)
    → KeepsStepsApart s (next_hole s behind variant part kind)
apart_next s behind variant part kind =
    apart_then s (reserved s) _ (apart_same s (reserved s) refl refl refl (omega arith))
    (apart_ended (reserved s) (goto behind variant part) (new_block s.env.next_block kind) refl refl)

-- A block was set aside, and goes on behind the hole in its place, which began without instructions.
module _ (r s2 : State) (wip : WipBlock) (scopes scopes2 : List JumpScope) (handlers2 : List BlockId) (t : Terminal) where
  hole_steps : wip.instructions ≡ [] → (id : ℕ) → StepIn (set_aside r wip scopes r.handlers) id → StepIn r id
  hole_steps blank id h = elim h [
    | inl d ↦ inl (record { block = d.block; one = d.one; named = d.named; step = d.step })
    | inr w ↦ absurd (none_listed r.table (subst (λ (ids : List InstructionId). HasStep r.table ids) blank w.1))
  ]

  pub apart_hole : wip.instructions ≡ [] → stepless_of t.kind ≡ []
      → KeepsStepsApart (set_aside r wip scopes r.handlers) s2
      → KeepsStepsApart r (completed_by (stacked s2 scopes2 handlers2) t r.current)
  apart_hole blank none k = record {
    grows = k.grows;
    table = k.table;
    listed = λ l. listed_aside r left t k.table l (on_left.listed (k.listed (in_hole l)));
    since = λ l id h. elim (steps_aside r left t k.table l id h) [
      | inl inside ↦ elim (k.since (in_hole l) id (same_steps s2 left refl refl refl id inside)) [
        | inl before ↦ inl (hole_steps blank id before)
        | inr own ↦ inr own
      ]
      | inr before ↦ inl before
    ];
    keeps = record {
      marks = λ id m. k.keeps.marks id (before_left id m);
      stepless = λ l kn u id m h. elim (steps_aside r left t k.table l id h) [
        | inl inside ↦ k.keeps.stepless (in_hole l) (known kn) (λ id1 m1 h1. u id1 m1 (hole_steps blank id1 h1)) id (before_left id m)
            (same_steps s2 left refl refl refl id inside)
        | inr before ↦ elim (k.keeps.marks id (before_left id m)) [
          | inl old ↦ u id old before
          | inr own ↦ (let small : id < r.env.next_block = kn.steps id before in omega (arith, small, own.0))
        ]
      ];
    };
  }
    where
      left : State
      left = stacked s2 scopes2 handlers2

      on_left : KeepsStepsApart s2 left
      on_left = apart_same s2 left refl refl refl (omega arith)

      in_hole : KnowsListed r → KnowsListed (set_aside r wip scopes r.handlers)
      in_hole l = record {
        done = l.done;
        current = λ place number at.
            absurd (none_at place number (subst (λ (ids : List InstructionId). slice_get ids place ≡ Some number) blank at));
      }

      known : KnowsStepless r → KnowsStepless (set_aside r wip scopes r.handlers)
      known kn = record { marked = kn.marked; steps = λ id h. kn.steps id (hole_steps blank id h) }

      before_left : (id : ℕ) → MarkedAt stepless_of (completed_by left t r.current).completed id → MarkedAt stepless_of s2.completed id
      before_left id m = elim (marked_ended stepless_of left t r.current id m) [
        | inl old ↦ old
        | inr new ↦ absurd (named_none id (subst (λ (l : List BlockId). HasId l id) none new))
      ]

-- No block is marked that was numbered before a part which marks none of them.

pub unmarked_between : (s x : State) (env : Environment) (block : ℕ) → WasNumbered s.env.next_block env.next_block block
    → KeepsStepsApart (record s { env = env }) x → KnowsStepless s → MarkedAt stepless_of x.completed block → ⊥
unmarked_between s x env block own k kn m = elim (k.keeps.marks block m) [
  | inl old ↦ (let small : block < s.env.next_block = kn.marked block old in omega (arith, small, own.0))
  | inr later ↦ omega (arith, later.0, own.1)
]

pub unmarked_value : (x : State) (v : InstructionValue) (span : Option Span) (t : Terminal) (next : WipBlock) (block : ℕ)
    → stepless_of t.kind ≡ [] → (MarkedAt stepless_of x.completed block → ⊥)
    → MarkedAt stepless_of (completed_by (with_value x v span) t next).completed block → ⊥
unmarked_value x v span t next block none unmarked m = elim (marked_ended stepless_of (with_value x v span) t next block m) [
  | inl old ↦ unmarked (pushed_marks (innermost x.handlers) (with_temporary x span) (unordered (temporary x span) v span) block old)
  | inr new ↦ absurd (named_none block (subst (λ (l : List BlockId). HasId l block) none new))
]

-- A link of an optional chain, from a state in which it may begin.
link_from : (x s2 s4 : State) (optional : Bool) (f q a : ℕ) (kind : BlockKind) (span : Span) (object place value : Place)
    → KeepsStepsApart (link_begun x) s2 → KeepsStepsApart (link_object s2 f q a span object) s4
    → KeepsStepsApart x (link_finished s4 f x.env.next_block optional kind span place value x.current)
link_from x s2 s4 optional f q a kind span object place value o k =
    let opened : State = link_object s2 f q a span object in
    let stored : State = stored_in s4 place value span in
    let shut : State = last_hole stored f gotos.Break span x.current in
    let inside : KeepsStepsApart (link_begun x) stored =
    apart_then (link_begun x) s2 _ o
    (apart_then s2 opened _ (apart_ended s2 (branch object q a f span) (new_block q blocks.Value) refl refl)
    (apart_then opened s4 _ k (apart_stored s4 place value span))) in
    apart_then x (reserved x) _ (apart_same x (reserved x) refl refl refl (omega arith))
    (apart_then (reserved x) shut _
    (apart_hole (reserved x) stored (new_block x.env.next_block blocks.Value) x.scopes stored.scopes stored.handlers
    (goto f gotos.Break span) refl refl inside)
    (apart_ended shut (link_end f x.env.next_block optional span) (new_block f kind) refl refl))

-- The block in which a chain ends early.
early_from : (s : State) (span : Span) → KeepsStepsApart (chain_reserved s span) (chain_begun s span)
early_from s span =
    let y : State = chain_reserved s span in
    let begun : State = entered (reserved y) (new_block (s.env.next_block + 1 + 1) blocks.Value) in
    let made : State = chain_undefined s span in
    let ended : State = chain_ended s span in
    apart_then y (reserved y) _ (apart_same y (reserved y) refl refl refl (omega arith))
    (apart_hole (reserved y) ended (new_block (s.env.next_block + 1 + 1) blocks.Value) s.scopes ended.scopes ended.handlers
    (goto s.env.next_block gotos.Break span) refl refl
    (apart_then begun made _ (apart_value begun (values.Primitive primitives.Undefined) (Some span) refl)
    (apart_stored made (temporary s (Some span)) (temporary y (Some span)) span)))

pub apart_link : (alternate : Option BlockId) (s s2 s4 : State) (span : Span) (optional : Bool) (object value : Place)
    → KeepsStepsApart (link_opened alternate s span) s2
    → KeepsStepsApart (link_objected (link_at s span optional alternate) s2 object) s4
    → KeepsStepsApart s (linked_state alternate s span optional s4 value)
apart_link (Some alternate) s s2 s4 span optional object value o k =
    let y : State = chain_reserved s span in
    apart_then s y _ (apart_same s y refl refl refl (omega arith))
    (link_from y s2 s4 optional s.env.next_block (s.env.next_block + 1) alternate.0 s.current.kind span object (temporary s (Some span))
    value o k)
apart_link None s s2 s4 span optional object value o k =
    let y : State = chain_reserved s span in
    let x : State = chain_begun s span in
    apart_then s y _ (apart_same s y refl refl refl (omega arith))
    (apart_then y x _ (early_from s span)
    (link_from x s2 s4 optional s.env.next_block (s.env.next_block + 1) (s.env.next_block + 1 + 1) s.current.kind span object
    (temporary s (Some span)) value o k))

-- The moves of the items of a pattern.
pub apart_stays : {s t : State} → Stays s t → KeepsStepsApart s t
apart_stays {s} {t} a = apart_same s t a.completed a.current a.table (omega (arith, a.numbered))

-- A default.
pub apart_default : (s s2 : State) (default value : Place) (span : Span) → KeepsStepsApart (default_begun s span) s2
    → KeepsStepsApart s (default_ended (default_at s span value) s2 default)
apart_default s s2 default value span k =
    let n : ℕ = s.env.next_block in
    let f : ℕ = n + 1 in
    let place : Place = temporary s (Some span) in
    let numbered : State = reserved (default_reserved s span) in
    let begun : State = default_begun s span in
    let valued : State = stored_in s2 place default span in
    let between : State = default_given s2 f place default span in
    let other : State = stored_in between place value span in
    let gone : State = last_hole other f gotos.Break span s.current in
    let tested : State = default_tested (default_at s span value) s2 default in
    let made : State = undefined_made tested span in
    let met : State = compared tested value span in
    let inside : KeepsStepsApart begun other =
    apart_then begun s2 _ k
    (apart_then s2 valued _ (apart_stored s2 place default span)
    (apart_then valued between _ (apart_next valued f gotos.Break span blocks.Value) (apart_stored between place value span))) in
    apart_then s numbered _ (apart_same s numbered refl refl refl (omega arith))
    (apart_then numbered gone _
    (apart_hole numbered other (new_block (n + 1 + 1) blocks.Value) s.scopes other.scopes other.handlers (goto f gotos.Break span) refl refl
    inside)
    (apart_then gone tested _ (apart_ended gone (default_end n f span) (new_block n blocks.Value) refl refl)
    (apart_then tested made _ (apart_value tested (values.Primitive primitives.Undefined) (Some span) refl)
    (apart_then made met _
    (apart_value made (values.BinaryExpression operator.StrictEquality value (temporary tested (Some span))) (Some span) refl)
    (apart_ended met (branch (comparison tested span) (n + 1 + 1) (default_other s2 place default span) f span)
    (new_block f s.current.kind) refl refl)))))
