-- Notes that runs may read, and those of terminals that `build` may replace, move by move.
use Rattle.std.proofs.Common.{◌≡◌, ℕ, ◌-◌, ◌<◌, ◌≤◌, ◌⊎◌, inl, inr, List, [], length, Option, Some, None, refl, sym, subst, arith}
use Rattle.rl_builder.specs.Builder.{completed_by, ended_by, innermost, maybe_throw, new_block, plainly_pushed, pushed}
use Rattle.rl_builder.specs.Builder.{pushed_under, reserved}
use Rattle.rl_builder.specs.declared.blocks.WipBlock.{WipBlock}
use Rattle.rl_hir.specs.Blocks.{Pair as BlockPair}
use Rattle.rl_hir.specs.declared.terminal.Terminal.{Terminal}
use Rattle.rl_hir.specs.declared.terminal.TerminalKind.{TerminalKind}
use Rattle.rl_runs.proofs.Common.{BlockId, Instruction, State}
use Rattle.rl_runs.proofs.Naming.{named_first, named_none}
use Rattle.rl_runs.proofs.Steps.{added_cases}
use Rattle.rl_runs.specs.Blocks.{ByHandler, IsTarget}
use Rattle.rl_runs.specs.ReadNotes.{HasId, IsHandler, KeepsUnread, KnowsReads, MarkedAt, ReadsSince, ReplacesSince, Unread, reads_of}
use Rattle.rl_runs.specs.ReadNotes.{replaced_of}

-- The current block ends.
pub marked_ended : (of : TerminalKind → List BlockId) (s : State) (t : Terminal) (next : WipBlock) (id : ℕ)
    → MarkedAt of (completed_by s t next).completed id → MarkedAt of s.completed id ⊎ HasId (of t.kind) id
marked_ended of s t next id m = elim (added_cases s.completed (ended_by s.current t) m.one.index m.block m.one.found) [
  | inl e ↦ inl (record { block = m.block; one = record { index = m.one.index; found = e }; marks = m.marks })
  | inr e ↦ inr (subst (λ (b : BlockPair). HasId (of b.1.terminal.kind) id) e m.marks)
]

-- Behind a part, what was known is known.
pub knows_then : (a b : State) → a.env.next_block ≤ b.env.next_block → b.handlers ≡ a.handlers → ReplacesSince a b → ReadsSince a b
    → KnowsReads a → KnowsReads b
knows_then a b more same replaces reads k = record {
  replaced = λ id m. elim (replaces id m) [ inl old ↦ (let small : id < a.env.next_block = k.replaced id old in omega (arith, small, more)) | inr o ↦ o.1 ];
  read = λ id m. elim (reads id m) [
    | inl old ↦ (let small : id < a.env.next_block = k.read id old in omega (arith, small, more))
    | inr new ↦ elim new [ inl o ↦ o.1 | inr h ↦ (let small : id < a.env.next_block = k.handlers id h in omega (arith, small, more)) ]
  ];
  handlers = λ id h. (let small : id < a.env.next_block = k.handlers id (before id h) in omega (arith, small, more));
  apart = λ id h m. elim (replaces id m) [ inl old ↦ k.apart id (before id h) old | inr o ↦ (let small : id < a.env.next_block = k.handlers id (before id h) in absurd (omega (arith, small, o.0))) ];
}
  where
    before : (id : ℕ) → IsHandler b id → IsHandler a id
    before id h = subst (λ (l : List BlockId). IsTarget l [] id) same h

-- A block ends by a terminal that marks none.
pub knows_plain : (x : State) (t : Terminal) (next : WipBlock) → replaced_of t.kind ≡ [] → reads_of t.kind ≡ [] → KnowsReads x
    → KnowsReads (completed_by x t next)
knows_plain x t next no_replaced no_reads k = record {
  replaced = λ id m. elim (marked_ended replaced_of x t next id m) [ inl old ↦ k.replaced id old | inr new ↦ absurd (named_none id (subst (λ (l : List BlockId). HasId l id) no_replaced new)) ];
  read = λ id m. elim (marked_ended reads_of x t next id m) [ inl old ↦ k.read id old | inr new ↦ absurd (named_none id (subst (λ (l : List BlockId). HasId l id) no_reads new)) ];
  handlers = k.handlers;
  apart = λ id h m. elim (marked_ended replaced_of x t next id m) [ inl old ↦ k.apart id h old | inr new ↦ absurd (named_none id (subst (λ (l : List BlockId). HasId l id) no_replaced new)) ];
}

pub unread_plain : (x : State) (t : Terminal) (next : WipBlock) → replaced_of t.kind ≡ [] → reads_of t.kind ≡ [] → Unread x
    → Unread (completed_by x t next)
unread_plain x t next no_replaced no_reads u id m n = elim (marked_ended replaced_of x t next id m) [
  | inl old ↦ elim (marked_ended reads_of x t next id n) [ inl before ↦ u id old before | inr new ↦ absurd (named_none id (subst (λ (l : List BlockId). HasId l id) no_reads new)) ]
  | inr new ↦ absurd (named_none id (subst (λ (l : List BlockId). HasId l id) no_replaced new))
]

-- No part, and one part behind another.

pub unread_then : (a b c : State) → a.env.next_block ≤ b.env.next_block → b.env.next_block ≤ c.env.next_block → b.handlers ≡ a.handlers
    → KeepsUnread a b → KeepsUnread b c → KeepsUnread a c
unread_then a b c first second same f g = record {
  replaces = λ id m. elim (g.replaces id m) [
    | inl m1 ↦ elim (f.replaces id m1) [ inl old ↦ inl old | inr own ↦ inr (own.0, omega (arith, own.1, second)) ]
    | inr own ↦ inr (omega (arith, own.0, first), own.1)
  ];
  reads = λ id m. elim (g.reads id m) [
    | inl m1 ↦ elim (f.reads id m1) [
      | inl old ↦ inl old
      | inr new ↦ elim new [ inl own ↦ inr (inl (own.0, omega (arith, own.1, second))) | inr handler ↦ inr (inr handler) ]
    ]
    | inr new ↦ elim new [
      | inl own ↦ inr (inl (omega (arith, own.0, first), own.1))
      | inr handler ↦ inr (inr (subst (λ (l : List BlockId). IsTarget l [] id) same handler))
    ]
  ];
  unread = λ k u. g.unread (knows_then a b first same f.replaces f.reads k) (f.unread k u);
}

-- A terminal that marks no block.
pub unread_ended : (s : State) (t : Terminal) (next : WipBlock) → replaced_of t.kind ≡ [] → reads_of t.kind ≡ []
    → KeepsUnread s (completed_by s t next)
unread_ended s t next no_replaced no_reads = record {
  replaces = λ id m. elim (marked_ended replaced_of s t next id m) [ inl old ↦ inl old | inr new ↦ absurd (named_none id (subst (λ (l : List BlockId). HasId l id) no_replaced new)) ];
  reads = λ id m. elim (marked_ended reads_of s t next id m) [ inl old ↦ inl old | inr new ↦ absurd (named_none id (subst (λ (l : List BlockId). HasId l id) no_reads new)) ];
  unread = λ k u. unread_plain s t next no_replaced no_reads u;
}

-- An instruction: under a handler its block's end reads the handler's note.

unread_under : (o : Option BlockId) (s : State) (i : Instruction) → innermost s.handlers ≡ o → KeepsUnread s (pushed_under o s i)
unread_under None s i is = record { replaces = λ id m. inl m; reads = λ id m. inl m; unread = λ k u. u }
unread_under (Some handler) s i is = record { replaces = replaces; reads = reads; unread = unread }
  where
    x : State
    x = reserved (plainly_pushed s i)

    end : Terminal
    end = maybe_throw s.env.next_block handler i.span

    next : WipBlock
    next = new_block s.env.next_block s.current.kind

    own : (id : ℕ) → id ≡ handler.0 → IsHandler s id
    own id e = subst (λ (n : ℕ). IsTarget s.handlers [] n) (sym e) (ByHandler (length s.handlers - 1) handler is)

    replaces : ReplacesSince s (completed_by x end next)
    replaces id m = elim (marked_ended replaced_of x end next id m) [ inl old ↦ inl old | inr new ↦ absurd (named_none id new) ]

    reads : ReadsSince s (completed_by x end next)
    reads id m = elim (marked_ended reads_of x end next id m) [
      | inl old ↦ inl old
      | inr new ↦ elim (named_first id handler [] new) [ inl e ↦ inr (inr (own id e)) | inr never ↦ absurd (named_none id never) ]
    ]

    unread : KnowsReads s → Unread s → Unread (completed_by x end next)
    unread k u id m n = elim (marked_ended replaced_of x end next id m) [
      | inl replaced ↦ elim (marked_ended reads_of x end next id n) [
        | inl read ↦ u id replaced read
        | inr new ↦ elim (named_first id handler [] new) [ inl e ↦ k.apart id (own id e) replaced | inr never ↦ absurd (named_none id never) ]
      ]
      | inr never ↦ absurd (named_none id never)
    ]

pub unread_pushed : (s : State) (i : Instruction) → KeepsUnread s (pushed s i)
unread_pushed s i = unread_under (innermost s.handlers) s i refl
