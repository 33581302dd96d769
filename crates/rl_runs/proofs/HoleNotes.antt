-- Notes that are read, and steps, of holes and of branches.
use Rattle.std.proofs.Common.{◌≡◌, ℕ, ◌<◌, ◌≤◌, inl, inr, List, [], ◌∷◌, Option, refl, subst, arith}
use Rattle.rl_builder.specs.Builder.{completed_by, new_block, reserved, with_temporary}
use Rattle.rl_builder.specs.declared.blocks.WipBlock.{WipBlock}
use Rattle.rl_builder.specs.declared.jumps.JumpScope.{JumpScope}
use Rattle.rl_builder.specs.Temporaries.{temporary, unordered, with_value}
use Rattle.rl_hir.specs.Blocks.{Pair as BlockPair}
use Rattle.rl_hir.specs.declared.environment.Environment.{Environment}
use Rattle.rl_hir.specs.declared.function.BlockKind.{BlockKind}
use Rattle.rl_hir.specs.declared.instruction.InstructionValue.{InstructionValue}
use Rattle.rl_hir.specs.declared.terminal.GotoVariant.{GotoVariant}
use Rattle.rl_hir.specs.declared.terminal.Terminal.{Terminal}
use Rattle.rl_runs.proofs.Common.{BlockId, Instruction, Span, State}
use Rattle.rl_runs.proofs.Moves.{extends_pushed}
use Rattle.rl_runs.proofs.Naming.{named_first, named_none}
use Rattle.rl_runs.proofs.ReadNotes.{marked_ended, unread_ended, unread_plain, unread_pushed, unread_then}
use Rattle.rl_runs.specs.Moves.{goto, next_hole, set_aside, stacked}
use Rattle.rl_runs.specs.ReadNotes.{HasId, KeepsUnread, KnowsReads, MarkedAt}
use Rattle.rl_runs.specs.ReadNotes.{ReadsSince, ReplacesSince, Unread, reads_of, replaced_of}

-- A list of marks that is empty.
none_marked : (ids : List BlockId) (id : ℕ) → ids ≡ [] → HasId ids id → ⊥
none_marked ids id none has = named_none id (subst (λ (l : List BlockId). HasId l id) none has)

-- The blocks stay as they are; what was numbered grows.

pub unread_same : (s : State) (env : Environment) → KeepsUnread s (record s { env = env })
unread_same s env = record { replaces = λ id m. inl m; reads = λ id m. inl m; unread = λ k u. u }

pub unread_kept : (s t : State) → t.completed ≡ s.completed → KeepsUnread s t
unread_kept s t same = record {
  replaces = λ id m. inl (subst (λ (blocks : List BlockPair). MarkedAt replaced_of blocks id) same m);
  reads = λ id m. inl (subst (λ (blocks : List BlockPair). MarkedAt reads_of blocks id) same m);
  unread = λ k u id m n. u id (subst (λ (blocks : List BlockPair). MarkedAt replaced_of blocks id) same m)
      (subst (λ (blocks : List BlockPair). MarkedAt reads_of blocks id) same n);
}

-- A value goes into a fresh identifier.
pub unread_value : (s : State) (value : InstructionValue) (span : Option Span) → KeepsUnread s (with_value s value span)
unread_value s value span =
    unread_then s named (with_value s value span) (omega arith) (extends_pushed named i).blocks refl (unread_same s named.env)
    (unread_pushed named i)
  where
    named : State
    named = with_temporary s span

    i : Instruction
    i = unordered (temporary s span) value span

-- The current block ends by a terminal that marks no block, and a fresh block goes on.
pub unread_fresh : (s : State) (t : Terminal) (kind : BlockKind) → replaced_of t.kind ≡ [] → reads_of t.kind ≡ []
    → KeepsUnread s (completed_by (reserved s) t (new_block s.env.next_block kind))
unread_fresh s t kind no_replaced no_reads =
    unread_then s (reserved s) (completed_by (reserved s) t (new_block s.env.next_block kind)) (omega arith) (omega arith) refl
    (unread_same s (reserved s).env) (unread_ended (reserved s) t (new_block s.env.next_block kind) no_replaced no_reads)

-- A hole ends with a jump, and that of a fresh block opens.
pub unread_next : (s : State) (behind : ℕ) (variant : GotoVariant) (part : Span) (kind : BlockKind)
    → KeepsUnread s (next_hole s behind variant part kind)
unread_next s behind variant part kind = unread_fresh s (goto behind variant part) kind refl refl

-- A block set aside, the hole in whose place ends with a terminal that marks no block.
module _ (r s2 : State) (wip : WipBlock) (scopes scopes2 : List JumpScope) (handlers2 : List BlockId) (t : Terminal) where
  pub unread_aside : replaced_of t.kind ≡ [] → reads_of t.kind ≡ [] → handlers2 ≡ r.handlers
      → KeepsUnread (set_aside r wip scopes r.handlers) s2
      → KeepsUnread r (completed_by (stacked s2 scopes2 handlers2) t r.current)
  unread_aside no_replaced no_reads same k = record {
    replaces = λ id m. elim (marked_ended replaced_of (stacked s2 scopes2 handlers2) t r.current id m) [
      | inl m2 ↦ k.replaces id m2
      | inr new ↦ absurd (none_marked (replaced_of t.kind) id no_replaced new)
    ];
    reads = λ id m. elim (marked_ended reads_of (stacked s2 scopes2 handlers2) t r.current id m) [
      | inl m2 ↦ k.reads id m2
      | inr new ↦ absurd (none_marked (reads_of t.kind) id no_reads new)
    ];
    unread = λ kn u. unread_plain (stacked s2 scopes2 handlers2) t r.current no_replaced no_reads
        (k.unread (record { replaced = kn.replaced; read = kn.read; handlers = kn.handlers; apart = kn.apart }) u);
  }

-- A part that numbers the block behind it at first, and at last ends by a branch that reads the note of that block.
pub unread_branched : (s t : State) (env : Environment) (end : Terminal) (next : WipBlock) (behind : BlockId)
    → replaced_of end.kind ≡ [] → reads_of end.kind ≡ behind ∷ [] → s.env.next_block ≤ behind.0 → behind.0 < env.next_block
    → env.next_block ≤ t.env.next_block → KeepsUnread (record s { env = env }) t → KeepsUnread s (completed_by t end next)
unread_branched s t env end next behind no_replaced one_read low high grows k = record {
  replaces = replaces;
  reads = reads;
  unread = unread;
}
  where
    replaces : ReplacesSince s (completed_by t end next)
    replaces id m = elim (marked_ended replaced_of t end next id m) [
      | inl m1 ↦ elim (k.replaces id m1) [ inl old ↦ inl old | inr own ↦ inr (omega (arith, own.0, low, high), own.1) ]
      | inr new ↦ absurd (none_marked (replaced_of end.kind) id no_replaced new)
    ]

    is_behind : (id : ℕ) → HasId (reads_of end.kind) id → id ≡ behind.0
    is_behind id has = elim (named_first id behind [] (subst (λ (l : List BlockId). HasId l id) one_read has)) [
      | inl e ↦ e
      | inr never ↦ absurd (named_none id never)
    ]

    reads : ReadsSince s (completed_by t end next)
    reads id m = elim (marked_ended reads_of t end next id m) [
      | inl m1 ↦ elim (k.reads id m1) [
        | inl old ↦ inl old
        | inr new ↦ elim new [ inl own ↦ inr (inl (omega (arith, own.0, low, high), own.1)) | inr handler ↦ inr (inr handler) ]
      ]
      | inr own ↦ (let e : id ≡ behind.0 = is_behind id own in inr (inl (omega (arith, e, low), omega (arith, e, high, grows))))
    ]

    unread : KnowsReads s → Unread s → Unread (completed_by t end next)
    unread kn u id m n = elim (marked_ended replaced_of t end next id m) [
      | inr new ↦ absurd (none_marked (replaced_of end.kind) id no_replaced new)
      | inl m1 ↦ elim (marked_ended reads_of t end next id n) [
        | inl n1 ↦ k.unread numbered u id m1 n1
        | inr own ↦ (let e : id ≡ behind.0 = is_behind id own in elim (k.replaces id m1) [
          | inl old ↦ (let small : id < s.env.next_block = kn.replaced id old in absurd (omega (arith, small, e, low)))
          | inr above ↦ absurd (omega (arith, above.0, e, high))
        ])
      ]
    ]
      where
        numbered : KnowsReads (record s { env = env })
        numbered = record {
          replaced = λ id1 m2. (let small : id1 < s.env.next_block = kn.replaced id1 m2 in omega (arith, small, low, high));
          read = λ id1 m2. (let small : id1 < s.env.next_block = kn.read id1 m2 in omega (arith, small, low, high));
          handlers = λ id1 q. (let small : id1 < s.env.next_block = kn.handlers id1 q in omega (arith, small, low, high));
          apart = kn.apart;
        }
