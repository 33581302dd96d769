-- The moves of the lowering keep that no run reads the note behind a construct whose terminal `build` may replace.
use Rattle.std.proofs.Common.{◌≡◌, ℕ, ◌+◌, Bool, ◌<◌, ◌≤◌, inl, inr, List, [], ◌∷◌, Option, Some, None, refl, ◌∙◌, subst, arith, ap, length}
use Rattle.std.proofs.Common.{take}
use Rattle.std.specs.Prelude.{◌++◌, ◌-◌, ◌⊎◌}
use Rattle.rl_base.specs.declared.operator.BinaryOperator.{BinaryOperator}
use Rattle.rl_base.specs.declared.operator.UpdateOperator.{UpdateOperator}
use Rattle.rl_base.specs.declared.row.Row.TheVariants as row
use Rattle.rl_base.specs.declared.type_kind.TypeKind.{TypeKind}
use Rattle.rl_base.specs.declared.type_kind.TypeKind.TheVariants as types
use Rattle.rl_base.specs.declared.variable_kind.VariableKind.{VariableKind}
use Rattle.rl_base.specs.declared.variable_kind.VariableKind.TheVariants as declared
use Rattle.rl_base.specs.Diagnostics.{diagnostic_at}
use Rattle.rl_builder.specs.Builder.{completed_by, innermost, new_block, pushed, recorded, reserved, with_temporary, with_type}
use Rattle.rl_builder.specs.declared.blocks.WipBlock.{WipBlock}
use Rattle.rl_builder.specs.Temporaries.{temporary, unordered, with_value}
use Rattle.rl_frames.specs.Frames.{ForParts, for_opened}
use Rattle.rl_frames.specs.Parts.{chain_begun, chain_reserved, try_begun, try_handler}
use Rattle.rl_hir.specs.Blocks.{Pair as BlockPair}
use Rattle.rl_hir.specs.declared.function.BlockKind.{BlockKind}
use Rattle.rl_hir.specs.declared.function.BlockKind.TheVariants as blocks
use Rattle.rl_hir.specs.declared.instruction.Instruction.{Instruction}
use Rattle.rl_hir.specs.declared.instruction.InstructionKind.TheVariants as variables
use Rattle.rl_hir.specs.declared.instruction.InstructionValue.TheVariants as values
use Rattle.rl_hir.specs.declared.instruction.PrimitiveValue.TheVariants as primitives
use Rattle.rl_hir.specs.declared.terminal.GotoVariant.{GotoVariant}
use Rattle.rl_hir.specs.declared.terminal.GotoVariant.TheVariants as gotos
use Rattle.rl_hir.specs.declared.terminal.Terminal.{Terminal}
use Rattle.rl_hir.specs.declared.terminal.TerminalKind.{TerminalKind}
use Rattle.rl_lowered.proofs.ChainFrames.{linked_state}
use Rattle.rl_lowered.proofs.Common.{BlockId, Diagnostic, InstructionValue, Names, Place, Span, State, SymbolId}
use Rattle.rl_lowered.proofs.ItemBlocks.{Stays}
use Rattle.rl_lowered.specs.Forms.{MemberKey, load_of, store_of, typed}
use Rattle.rl_lowered.specs.Items.{variable_at}
use Rattle.rl_lowered.specs.Lowered.{assigned_to, declaring, member_assigned, member_computed, member_loaded, member_one, member_stored}
use Rattle.rl_lowered.specs.Lowered.{member_updated, name_computed, name_reloaded, name_stored, throwing, throwing_under}
use Rattle.rl_lowered.specs.Named.{found}
use Rattle.rl_optional_frames.proofs.LinkStarts.{early_extends}
use Rattle.rl_optional_frames.proofs.DefaultBlocks.{default_blocks}
use Rattle.rl_optional_frames.proofs.Notes.{default_unread, early_unread, link_unread}
use Rattle.rl_optional_frames.specs.Frames.{default_at, default_ended, link_at, link_objected}
use Rattle.rl_optional_frames.specs.Parts.{default_begun, link_opened}
use Rattle.rl_promises.specs.Rows.{refusal}
use Rattle.rl_runs.proofs.Holes.{front_added}
use Rattle.rl_runs.proofs.Moves.{extends_pushed, extends_value}
use Rattle.rl_runs.proofs.Naming.{named_first, named_none}
use Rattle.rl_runs.proofs.ReadNotes.{knows_then, marked_ended, unread_ended, unread_pushed, unread_then}
use Rattle.rl_runs.proofs.Steps.{added_cases}
use Rattle.rl_runs.specs.Blocks.{ByBreak, ByContinue, ByHandler, IsTarget, PreservesBlocks}
use Rattle.rl_runs.specs.Facts.{Extends}
use Rattle.rl_runs.specs.Moves.{block_id, goto, last_hole, next_hole, stored_in, without_handler, without_scope}
use Rattle.rl_runs.specs.ReadNotes.{HasId, IsHandler, KeepsUnread, KnowsReads, MarkedAt, ReadsSince, ReplacesSince, Unread, reads_of}
use Rattle.rl_runs.specs.ReadNotes.{replaced_of}

-- Moves one after the other: no handler opens or closes, and the counter of blocks does not fall.
pub record Unreads (old new : State) : Type 0 where
  pub grows : old.env.next_block ≤ new.env.next_block
  pub handlers : new.handlers ≡ old.handlers
  pub keeps : KeepsUnread old new

pub unreads_then : (a b c : State) → Unreads a b → Unreads b c → Unreads a c
unreads_then a b c j k = record {
  grows = omega (arith, j.grows, k.grows);
  handlers = k.handlers ∙ j.handlers;
  keeps = unread_then a b c j.grows k.grows j.handlers j.keeps k.keeps;
}

-- A move that completes no block.
pub unreads_same : (s t : State) → t.completed ≡ s.completed → t.handlers ≡ s.handlers → s.env.next_block ≤ t.env.next_block → Unreads s t
unreads_same s t completed handlers grows = record {
  grows = grows;
  handlers = handlers;
  keeps = record {
    replaces = λ id m. inl (before replaced_of id m);
    reads = λ id m. inl (before reads_of id m);
    unread = λ k u id m n. u id (before replaced_of id m) (before reads_of id n);
  };
}
  where
    before : (of : TerminalKind → List BlockId) (id : ℕ) → MarkedAt of t.completed id → MarkedAt of s.completed id
    before of id m = subst (λ (l : List BlockPair). MarkedAt of l id) completed m

pub unreads_refl : (s : State) → Unreads s s
unreads_refl s = unreads_same s s refl refl (omega arith)

-- The moves of the items of a pattern, and a default.

pub unreads_stays : {s t : State} → Stays s t → Unreads s t
unreads_stays {s} {t} a = unreads_same s t a.completed a.blocks.extends.handlers (omega (arith, a.numbered))

pub unreads_defaulted : (s s2 : State) (default value : Place) (span : Span) → PreservesBlocks (default_begun s span) s2
    → Unreads (default_begun s span) s2 → Unreads s (default_ended (default_at s span value) s2 default)
unreads_defaulted s s2 default value span b k =
    let g = (default_blocks s s2 default value span b).extends in record {
      grows = g.blocks;
      handlers = g.handlers;
      keeps = default_unread s s2 default value span b.extends k.keeps;
    }

-- A terminal that marks no block.
pub unreads_ended : (s : State) (t : Terminal) (next : WipBlock) → replaced_of t.kind ≡ [] → reads_of t.kind ≡ []
    → Unreads s (completed_by s t next)
unreads_ended s t next replaced reads =
    record { grows = omega arith; handlers = refl; keeps = unread_ended s t next replaced reads }

-- Holes

pub unreads_next : (s : State) (behind : ℕ) (variant : GotoVariant) (part : Span) (kind : BlockKind)
    → Unreads s (next_hole s behind variant part kind)
unreads_next s behind variant part kind =
    unreads_then s (reserved s) _ (unreads_same s (reserved s) refl refl (omega arith))
    (unreads_ended (reserved s) (goto behind variant part) (new_block s.env.next_block kind) refl refl)

pub unreads_last : (s : State) (behind : ℕ) (variant : GotoVariant) (part : Span) (outer : WipBlock)
    → Unreads s (last_hole s behind variant part outer)
unreads_last s behind variant part outer = unreads_ended s (goto behind variant part) outer refl refl

-- Instructions

pub unreads_pushed : (s : State) (i : Instruction) → Unreads s (pushed s i)
unreads_pushed s i =
    let g = extends_pushed s i in record { grows = g.blocks; handlers = g.handlers; keeps = unread_pushed s i }

pub unreads_value : (s : State) (v : InstructionValue) (span : Option Span) → Unreads s (with_value s v span)
unreads_value s v span =
    unreads_then s (with_temporary s span) _ (unreads_same s (with_temporary s span) refl refl (omega arith))
    (unreads_pushed (with_temporary s span) (unordered (temporary s span) v span))

pub unreads_stored : (s : State) (place value : Place) (part : Span) → Unreads s (stored_in s place value part)
unreads_stored s place value part = unreads_value s (values.StoreLocal variables.Const place value) (Some part)

pub unreads_noted : (s : State) (d : Diagnostic) → Unreads s (recorded s d)
unreads_noted s d = unreads_same s (recorded s d) refl refl (omega arith)

pub unreads_noted_value : (s : State) (d : Diagnostic) (v : InstructionValue) (span : Option Span)
    → Unreads s (with_value (recorded s d) v span)
unreads_noted_value s d v span = unreads_then s (recorded s d) _ (unreads_noted s d) (unreads_value (recorded s d) v span)

pub unreads_undefined : (s : State) (d : Diagnostic) (at : Span)
    → Unreads s (with_value (recorded s d) (values.Primitive primitives.Undefined) (Some at))
unreads_undefined s d at = unreads_noted_value s d (values.Primitive primitives.Undefined) (Some at)

pub unreads_found : (names : Names) (s : State) (symbol : SymbolId) (at : Span) → Unreads s (found names s symbol at)
unreads_found names s symbol at = unreads_same s (found names s symbol at) refl refl (omega arith)

pub unreads_found_value : (names : Names) (s : State) (symbol : SymbolId) (at : Span) (v : InstructionValue) (span : Option Span)
    → Unreads s (with_value (found names s symbol at) v span)
unreads_found_value names s symbol at v span =
    unreads_then s (found names s symbol at) _ (unreads_found names s symbol at) (unreads_value (found names s symbol at) v span)

pub unreads_typed : (s : State) (k : TypeKind) → Unreads s (typed s k)
unreads_typed s types.Array = unreads_refl s
unreads_typed s types.Primitive = unreads_refl s
unreads_typed s types.Other = unreads_same s (with_type s) refl refl (omega arith)

pub unreads_declaring : (s : State) (k : VariableKind) (at : Span) → Unreads s (declaring s k at)
unreads_declaring s declared.Var at = unreads_noted s (refusal row.F39 at)
unreads_declaring s _ at = unreads_refl s

pub unreads_member : (t : State) (object : Place) (key : MemberKey) (operator : UpdateOperator) (there : Span)
    → Unreads t (member_stored t object key operator there)
unreads_member t object key operator there =
    let loaded : State = member_loaded t object key there in
    let one : State = member_one t object key there in
    let updated : State = member_updated t object key operator there in
    unreads_then t loaded _ (unreads_value t (load_of object key) (Some there))
    (unreads_then loaded one _ (unreads_value loaded (values.Primitive (primitives.Number 1)) None)
    (unreads_then one updated _ (unreads_value one _ (Some there))
    (unreads_value updated (store_of object key (temporary one (Some there))) (Some there))))

-- A constant that was looked up is refused.
pub unreads_constant : (names : Names) (s : State) (symbol : SymbolId) (there span : Span)
    → Unreads s
    (with_value (recorded (found names s symbol there) (diagnostic_at row.F6 (names.name symbol.0) there))
    (values.Primitive primitives.Undefined) (Some span))
unreads_constant names s symbol there span =
    let first : State = found names s symbol there in
    unreads_then s first _ (unreads_found names s symbol there)
    (unreads_undefined first (diagnostic_at row.F6 (names.name symbol.0) there) span)

-- Compound assignments, behind their right part.

pub unreads_reloaded : (names : Names) (u : State) (operator : BinaryOperator) (q p : Place) (at there : Span) (symbol : SymbolId)
    (identifier : ℕ) → Unreads u (name_reloaded names u operator q p at there symbol identifier)
unreads_reloaded names u operator q p at there symbol identifier =
    let computed : State = name_computed u operator q p at in
    let stored : State = name_stored names u operator q p at there symbol identifier in
    unreads_then u computed _ (unreads_value u (values.BinaryExpression operator q p) (Some at))
    (unreads_then computed stored _
    (unreads_found_value names computed symbol there (assigned_to identifier there (temporary u (Some at))) (Some at))
    (unreads_value stored (values.LoadLocal (variable_at identifier there)) (Some at)))

pub unreads_assigned : (t u : State) (object : Place) (key : MemberKey) (operator : BinaryOperator) (p : Place) (there : Span)
    → Unreads u (member_assigned t u object key operator p there)
unreads_assigned t u object key operator p there =
    let computed : State = member_computed t u operator p there in
    unreads_then u computed _ (unreads_value u (values.BinaryExpression operator (temporary t (Some there)) p) (Some there))
    (unreads_value computed (store_of object key (temporary u (Some there))) (Some there))

-- Constructs whose last terminal reads the note of a block of their own, one that was numbered before the first hole opened in `begun`.
module _ (s begun x : State) (t : Terminal) (next : WipBlock) (completed : begun.completed ≡ s.completed)
    (handlers : begun.handlers ≡ s.handlers) (grows : s.env.next_block ≤ begun.env.next_block) (unreplaced : replaced_of t.kind ≡ [])
    (own : (id : ℕ) → HasId (reads_of t.kind) id → (s.env.next_block ≤ id) × (id < begun.env.next_block)) (hole : Unreads begun x) where
  abbrev last : State
  last = completed_by x t next

  before : (of : TerminalKind → List BlockId) (id : ℕ) → MarkedAt of begun.completed id → MarkedAt of s.completed id
  before of id m = subst (λ (l : List BlockPair). MarkedAt of l id) completed m

  handled : (id : ℕ) → IsHandler begun id → IsHandler s id
  handled id h = subst (λ (l : List BlockId). IsTarget l [] id) handlers h

  never_replaced : (id : ℕ) → HasId (replaced_of t.kind) id → ⊥
  never_replaced id has = named_none id (subst (λ (l : List BlockId). HasId l id) unreplaced has)

  replaces : ReplacesSince s last
  replaces id m = elim (marked_ended replaced_of x t next id m) [
    | inl m1 ↦ elim (hole.keeps.replaces id m1) [
      | inl old ↦ inl (before replaced_of id old)
      | inr o ↦ inr (omega (arith, o.0, grows), o.1)
    ]
    | inr never ↦ absurd (never_replaced id never)
  ]

  reads : ReadsSince s last
  reads id m = elim (marked_ended reads_of x t next id m) [
    | inl m1 ↦ elim (hole.keeps.reads id m1) [
      | inl old ↦ inl (before reads_of id old)
      | inr new ↦ elim new [ inl o ↦ inr (inl (omega (arith, o.0, grows), o.1)) | inr h ↦ inr (inr (handled id h)) ]
    ]
    | inr mine ↦ (let o = own id mine in inr (inl (o.0, omega (arith, o.1, hole.grows))))
  ]

  knows_begun : KnowsReads s → KnowsReads begun
  knows_begun k = record {
    replaced = λ id m. (let small : id < s.env.next_block = k.replaced id (before replaced_of id m) in omega (arith, small, grows));
    read = λ id m. (let small : id < s.env.next_block = k.read id (before reads_of id m) in omega (arith, small, grows));
    handlers = λ id h. (let small : id < s.env.next_block = k.handlers id (handled id h) in omega (arith, small, grows));
    apart = λ id h m. k.apart id (handled id h) (before replaced_of id m);
  }

  unread : KnowsReads s → Unread s → Unread last
  unread k u id m n = elim (marked_ended replaced_of x t next id m) [
    | inl m1 ↦ elim (marked_ended reads_of x t next id n) [
      | inl n1 ↦ hole.keeps.unread (knows_begun k) (λ id1 m2 n2. u id1 (before replaced_of id1 m2) (before reads_of id1 n2)) id m1 n1
      | inr mine ↦ apart m1 (own id mine)
    ]
    | inr never ↦ never_replaced id never
  ]
    where
      apart : MarkedAt replaced_of x.completed id → (s.env.next_block ≤ id) × (id < begun.env.next_block) → ⊥
      apart m1 o = elim (hole.keeps.replaces id m1) [
        | inl old ↦ (let small : id < s.env.next_block = k.replaced id (before replaced_of id old) in omega (arith, small, o.0))
        | inr new ↦ omega (arith, new.0, o.1)
      ]

  pub unreads_frame : Unreads s (completed_by x t next)
  unreads_frame = record {
    grows = omega (arith, grows, hole.grows);
    handlers = hole.handlers ∙ handlers;
    keeps = record { replaces = replaces; reads = reads; unread = unread };
  }

-- The note that the last terminal reads is that of one of the numbered blocks.
pub own_note : (note first end : ℕ) → first ≤ note → note < end → (id : ℕ) → HasId (block_id note ∷ []) id → (first ≤ id) × (id < end)
own_note note first end low high id has = elim (named_first id (block_id note) [] has) [
  | inl e ↦ (omega (arith, e, low), omega (arith, e, high))
  | inr never ↦ absurd (named_none id never)
]

-- A block in a scope ends, and the block that was set aside by a terminal that marks none.
pub unreads_scope_ended : (s : State) (behind : ℕ) (variant : GotoVariant) (part : Span) (outer : WipBlock) (end : Terminal)
    (next : WipBlock)
    → replaced_of end.kind ≡ [] → reads_of end.kind ≡ []
    → Unreads s (completed_by (last_hole (without_scope s) behind variant part outer) end next)
unreads_scope_ended s behind variant part outer end next replaced reads =
    let left : State = without_scope s in
    let gone : State = last_hole left behind variant part outer in
    unreads_then s left _ (unreads_same s left refl refl (omega arith))
    (unreads_then left gone _ (unreads_last left behind variant part outer) (unreads_ended gone end next replaced reads))

pub unreads_for_opened : (f : ForParts) (s : State) (part : Span) → Unreads s (for_opened f s part)
unreads_for_opened f s part =
    let next : State = next_hole s f.test gotos.Break part blocks.Block in
    unreads_then s next _ (unreads_next s f.test gotos.Break part blocks.Block)
    (unreads_same next (for_opened f s part) refl refl (omega arith))

-- A `throw` under a handler is refused.

unreads_throwing_under : (handler : Option BlockId) (s : State) (at : Span) → Unreads s (throwing_under handler s at)
unreads_throwing_under None s at = unreads_refl s
unreads_throwing_under (Some handler) s at = unreads_noted s (refusal row.F30 at)

pub unreads_throwing : (s : State) (at : Span) → Unreads s (throwing s at)
unreads_throwing s at = unreads_throwing_under (innermost s.handlers) s at

-- Facts on the blocks that are read hold behind a part.
knows_by : (a b : State) → Unreads a b → KnowsReads a → KnowsReads b
knows_by a b j k = knows_then a b j.grows j.handlers j.keeps.replaces j.keeps.reads k

-- An open handler, or the last one.
handler_or : (handlers : List BlockId) (handler : BlockId) (id : ℕ) → IsTarget (handlers ++ handler ∷ []) [] id
    → IsTarget handlers [] id ⊎ (id ≡ handler.0)
handler_or handlers handler id (ByHandler index b at) = elim (added_cases handlers handler index b at) [
  | inl e ↦ inl (ByHandler index b e)
  | inr e ↦ inr (ap (λ (x : BlockId). x.0) e)
]
handler_or handlers handler id (ByBreak index scope at) = inl (ByBreak index scope at)
handler_or handlers handler id (ByContinue index scope b at to) = inl (ByContinue index scope b at to)

-- A `try` statement, from in front of its handler's block. Its block reads the note of that block, and its own terminal is replaced alone
-- with the block behind the statement.
module _ (s d s2 s3 : State) (part other : Span) (end : Terminal) (one : replaced_of end.kind ≡ block_id s.env.next_block ∷ [])
    (calm : reads_of end.kind ≡ []) (j : Unreads (reserved s) d) (h : Unreads (try_begun d) s2)
    (b : Unreads (try_handler s2 s.env.next_block d.env.next_block part) s3) where
  abbrev f : ℕ
  f = s.env.next_block

  abbrev hd : ℕ
  hd = d.env.next_block

  abbrev opened : State
  opened = next_hole s2 f gotos.Break part blocks.Block

  abbrev tried : State
  tried = try_handler s2 f hd part

  abbrev shut : State
  shut = last_hole (without_handler s3) f gotos.Try other d.current

  abbrev behind : WipBlock
  behind = new_block f blocks.Block

  abbrev whole : State
  whole = completed_by shut end behind

  of_handler : Unreads (try_begun d) opened
  of_handler = unreads_then (try_begun d) s2 opened h (unreads_next s2 f gotos.Break part blocks.Block)

  to_open : Unreads (reserved s) opened
  to_open =
      unreads_then (reserved s) d opened j
      (unreads_then d (try_begun d) opened (unreads_same d (try_begun d) refl refl (omega arith)) of_handler)

  around : (id : ℕ) → IsHandler opened id → IsHandler s id
  around id q = subst (λ (l : List BlockId). IsTarget l [] id) to_open.handlers q

  -- Marks are left in the block, or by the last terminal.
  by_end : (of : TerminalKind → List BlockId) → of (goto f gotos.Try other).kind ≡ [] → (id : ℕ) → MarkedAt of whole.completed id
      → MarkedAt of s3.completed id ⊎ HasId (of end.kind) id
  by_end of none id m = elim (marked_ended of shut end behind id m) [
    | inl m1 ↦ elim (marked_ended of (without_handler s3) (goto f gotos.Try other) d.current id m1) [
      | inl m2 ↦ inl m2
      | inr new ↦ absurd (named_none id (subst (λ (l : List BlockId). HasId l id) none new))
    ]
    | inr own ↦ inr own
  ]

  is_behind : (id : ℕ) → HasId (replaced_of end.kind) id → id ≡ f
  is_behind id has = elim (named_first id (block_id f) [] (subst (λ (l : List BlockId). HasId l id) one has)) [
    | inl e ↦ e
    | inr never ↦ absurd (named_none id never)
  ]

  never_read : (id : ℕ) → HasId (reads_of end.kind) id → ⊥
  never_read id has = named_none id (subst (λ (l : List BlockId). HasId l id) calm has)

  tried_replaces : ReplacesSince s whole
  tried_replaces id m = elim (by_end replaced_of refl id m) [
    | inl m3 ↦ elim (b.keeps.replaces id m3) [
      | inl m1 ↦ elim (to_open.keeps.replaces id m1) [
        | inl old ↦ inl old
        | inr o ↦ inr (omega (arith, o.0), omega (arith, o.1, b.grows))
      ]
      | inr o ↦ inr (omega (arith, o.0, to_open.grows), o.1)
    ]
    | inr own ↦ (let e : id ≡ f = is_behind id own in inr (omega (arith, e), omega (arith, e, to_open.grows, b.grows)))
  ]

  tried_reads : ReadsSince s whole
  tried_reads id m = elim (by_end reads_of refl id m) [
    | inl m3 ↦ elim (b.keeps.reads id m3) [
      | inl m1 ↦ elim (to_open.keeps.reads id m1) [
        | inl old ↦ inl old
        | inr new ↦ elim new [ inl o ↦ inr (inl (omega (arith, o.0), omega (arith, o.1, b.grows))) | inr q ↦ inr (inr q) ]
      ]
      | inr new ↦ elim new [
        | inl o ↦ inr (inl (omega (arith, o.0, to_open.grows), o.1))
        | inr q ↦ elim (handler_or opened.handlers (block_id hd) id q) [
          | inl out ↦ inr (inr (around id out))
          | inr e ↦ inr (inl (omega (arith, e, j.grows), omega (arith, e, of_handler.grows, b.grows)))
        ]
      ]
    ]
    | inr own ↦ absurd (never_read id own)
  ]

  -- The note behind the statement is read in no part of it.
  unread_behind : KnowsReads s → (id : ℕ) → id ≡ f → MarkedAt reads_of s3.completed id → ⊥
  unread_behind kn id e m = elim (b.keeps.reads id m) [
    | inl m1 ↦ elim (to_open.keeps.reads id m1) [
      | inl old ↦ (let small : id < f = kn.read id old in omega (arith, small, e))
      | inr new ↦ elim new [
        | inl o ↦ omega (arith, o.0, e)
        | inr q ↦ (let small : id < f = kn.handlers id q in omega (arith, small, e))
      ]
    ]
    | inr new ↦ elim new [
      | inl o ↦ omega (arith, o.0, e, to_open.grows)
      | inr q ↦ elim (handler_or opened.handlers (block_id hd) id q) [
        | inl out ↦ (let small : id < f = kn.handlers id (around id out) in omega (arith, small, e))
        | inr here ↦ omega (arith, here, e, j.grows)
      ]
    ]
  ]

  knows_numbered : KnowsReads s → KnowsReads (reserved s)
  knows_numbered kn = knows_by s (reserved s) (unreads_same s (reserved s) refl refl (omega arith)) kn

  knows_tried : KnowsReads s → KnowsReads tried
  knows_tried kn = record {
    replaced = on.replaced;
    read = on.read;
    handlers = λ id q. elim (handler_or opened.handlers (block_id hd) id q) [
      | inl out ↦ on.handlers id out
      | inr e ↦ omega (arith, e, of_handler.grows)
    ];
    apart = λ id q m. elim (handler_or opened.handlers (block_id hd) id q) [
      | inl out ↦ on.apart id out m
      | inr e ↦ elim (of_handler.keeps.replaces id m) [
        | inl old ↦ (let small : id < hd = in_front.replaced id old in omega (arith, small, e))
        | inr o ↦ omega (arith, o.0, e)
      ]
    ];
  }
    where
      on : KnowsReads opened
      on = knows_by (reserved s) opened to_open (knows_numbered kn)

      in_front : KnowsReads d
      in_front = knows_by (reserved s) d j (knows_numbered kn)

  tried_unread : KnowsReads s → Unread s → Unread whole
  tried_unread kn u id m n = elim (by_end reads_of refl id n) [
    | inr own ↦ never_read id own
    | inl n3 ↦ elim (by_end replaced_of refl id m) [
      | inl m3 ↦ b.keeps.unread (knows_tried kn) (to_open.keeps.unread (knows_numbered kn) u) id m3 n3
      | inr own ↦ unread_behind kn id (is_behind id own) n3
    ]
  ]

  pub unreads_tried : Unreads s
      (completed_by (last_hole (without_handler s3) s.env.next_block gotos.Try other d.current) end
      (new_block s.env.next_block blocks.Block))
  unreads_tried = record {
    grows = omega (arith, to_open.grows, b.grows);
    handlers = ap (λ (l : List BlockId). take (length l - 1) l) b.handlers ∙ front_added opened.handlers (block_id hd) ∙ to_open.handlers;
    keeps = record { replaces = tried_replaces; reads = tried_reads; unread = tried_unread };
  }

-- A link of an optional chain, inside a chain or around it.
pub unreads_link : (alternate : Option BlockId) (s s2 s4 : State) (span : Span) (optional : Bool) (object value : Place)
    → Extends (link_opened alternate s span) s2 → Extends (link_objected (link_at s span optional alternate) s2 object) s4
    → KeepsUnread (link_opened alternate s span) s2 → KeepsUnread (link_objected (link_at s span optional alternate) s2 object) s4
    → Unreads s (linked_state alternate s span optional s4 value)
unreads_link (Some alternate) s s2 s4 span optional object value go gk ko kk =
    let stored = extends_value s4 (values.StoreLocal variables.Const (temporary s (Some span)) value) (Some span) in
    let y : State = chain_reserved s span in record {
      grows = omega (arith, go.blocks, gk.blocks, stored.blocks);
      handlers = stored.handlers ∙ (gk.handlers ∙ go.handlers);
      keeps = link_unread s y s2 s4 optional object value alternate.0 s.current.kind span refl (omega arith) (unreads_refl y).keeps go
          gk ko kk;
    }
unreads_link None s s2 s4 span optional object value go gk ko kk =
    let stored = extends_value s4 (values.StoreLocal variables.Const (temporary s (Some span)) value) (Some span) in
    let early = early_extends s span in record {
      grows = omega (arith, early.blocks, go.blocks, gk.blocks, stored.blocks);
      handlers = stored.handlers ∙ (gk.handlers ∙ (go.handlers ∙ early.handlers));
      keeps = link_unread s (chain_begun s span) s2 s4 optional object value (s.env.next_block + 1 + 1) s.current.kind span early.handlers
          early.blocks (early_unread s span) go gk ko kk;
    }
