-- The notes that are read in a loop that tests before or behind its body.
use Rattle.std.proofs.Common.{◌≡◌, ℕ, ◌+◌, ◌<◌, ◌≤◌, ◌⊎◌, inl, inr, List, [], ◌∷◌, refl, subst, arith}
use Rattle.rl_builder.specs.Builder.{new_block}
use Rattle.rl_builder.specs.declared.blocks.WipBlock.{WipBlock}
use Rattle.rl_frames.proofs.Common.{BlockId, Extends, Label, Place, Span, State}
use Rattle.rl_frames.proofs.LoopStates.{loop_branch, loop_shut}
use Rattle.rl_frames.specs.Parts.{do_while_body, do_while_end, loop_body, while_begun, while_body, while_end, while_finished}
use Rattle.rl_hir.specs.declared.function.BlockKind.TheVariants as block
use Rattle.rl_hir.specs.declared.terminal.GotoVariant.TheVariants as gotos
use Rattle.rl_hir.specs.declared.terminal.Terminal.{Terminal}
use Rattle.rl_runs.proofs.Naming.{named_first, named_none}
use Rattle.rl_runs.proofs.ReadNotes.{knows_plain, knows_then, marked_ended, unread_plain}
use Rattle.rl_runs.specs.Blocks.{IsTarget}
use Rattle.rl_runs.specs.Moves.{block_id, goto, without_scope}
use Rattle.rl_runs.specs.ReadNotes.{HasId, IsHandler, KeepsUnread, KnowsReads, MarkedAt, ReadsSince, ReplacesSince, Unread, reads_of}
use Rattle.rl_runs.specs.ReadNotes.{replaced_of}

module _ (s s2 s4 : State) (label : Label) (test : Place) (span part : Span) (end : Terminal)
    (gb : Extends (while_begun s label) s2) (gt : Extends (loop_body s2 s.env.next_block end s.current part) s4) where
  abbrev pub h : ℕ
  h = s.env.next_block

  abbrev pub begun : State
  begun = while_begun s label

  abbrev pub shut : State
  shut = loop_shut s2 h s part

  abbrev pub tst : State
  tst = loop_body s2 h end s.current part

  abbrev pub last : State
  last = while_finished s4 h span test

  -- The terminals behind the body and behind the test, and the blocks that they open.
  abbrev pub again : Terminal
  again = goto h gotos.Continue part

  abbrev pub tests : WipBlock
  tests = new_block h block.Loop

  abbrev pub ends : Terminal
  ends = loop_branch h test span

  abbrev pub behind : WipBlock
  behind = new_block (h + 1) block.Block

  -- Its branch reads the note of its test. Its own terminal reads none, and is replaced alone with the block behind the loop.
  pub loop_unread : ((id : ℕ) → HasId (replaced_of end.kind) id → s.env.next_block + 1 ≡ id)
      → ((id : ℕ) → HasId (reads_of end.kind) id → ⊥) → KeepsUnread begun s2 → KeepsUnread tst s4 → KeepsUnread s last
  loop_unread own_replaced own_reads kb kt = record { replaces = replaces; reads = reads; unread = unread }
    where
      -- Replaced terminals of the state before the last terminal.
      replaced4 : (id : ℕ) → MarkedAt replaced_of s4.completed id
          → MarkedAt replaced_of s.completed id ⊎ ((h + 1 ≤ id) × (id < s4.env.next_block))
      replaced4 id m = elim (kt.replaces id m) [
        | inl m1 ↦ elim (marked_ended replaced_of shut end tests id m1) [
          | inl m2 ↦ elim (marked_ended replaced_of (without_scope s2) again s.current id m2) [
            | inl m3 ↦ elim (kb.replaces id m3) [ inl old ↦ inl old | inr o ↦ inr (omega (arith, o.0), omega (arith, o.1, gt.blocks)) ]
            | inr never ↦ absurd (named_none id never)
          ]
          | inr own ↦ (let e : h + 1 ≡ id = own_replaced id own in inr (omega (arith, e), omega (arith, e, gb.blocks, gt.blocks)))
        ]
        | inr o ↦ inr (omega (arith, o.0, gb.blocks), o.1)
      ]

      replaces : ReplacesSince s last
      replaces id m = elim (marked_ended replaced_of s4 ends behind id m) [
        | inl m4 ↦ elim (replaced4 id m4) [ inl old ↦ inl old | inr o ↦ inr (omega (arith, o.0), o.1) ]
        | inr never ↦ absurd (named_none id never)
      ]

      reads : ReadsSince s last
      reads id m = elim (marked_ended reads_of s4 ends behind id m) [
        | inl m4 ↦ elim (kt.reads id m4) [
          | inl m1 ↦ elim (marked_ended reads_of shut end tests id m1) [
            | inl m2 ↦ elim (marked_ended reads_of (without_scope s2) again s.current id m2) [
              | inl m3 ↦ elim (kb.reads id m3) [ inl old ↦ inl old | inr new ↦ elim new [ inl o ↦ inr (inl (omega (arith, o.0), omega (arith, o.1, gt.blocks))) | inr q ↦ inr (inr q) ] ]
              | inr never ↦ absurd (named_none id never)
            ]
            | inr never ↦ absurd (own_reads id never)
          ]
          | inr new ↦ elim new [ inl o ↦ inr (inl (omega (arith, o.0, gb.blocks), o.1)) | inr q ↦ inr (inr (subst (λ (l : List BlockId). IsTarget l [] id) gb.handlers q)) ]
        ]
        | inr own ↦ elim (named_first id (block_id h) [] own) [ inl e ↦ inr (inl (omega (arith, e), omega (arith, e, gb.blocks, gt.blocks))) | inr never ↦ absurd (named_none id never) ]
      ]

      unread : KnowsReads s → Unread s → Unread last
      unread k u id m n = elim (marked_ended replaced_of s4 ends behind id m) [
        | inl m4 ↦ elim (marked_ended reads_of s4 ends behind id n) [
          | inl n4 ↦ unread4 id m4 n4
          | inr own ↦ elim (named_first id (block_id h) [] own) [
            | inl e ↦ elim (replaced4 id m4) [ inl old ↦ (let small : id < h = k.replaced id old in absurd (omega (arith, small, e))) | inr o ↦ absurd (omega (arith, o.0, e)) ]
            | inr never ↦ absurd (named_none id never)
          ]
        ]
        | inr never ↦ absurd (named_none id never)
      ]
        where
          knows_begun : KnowsReads begun
          knows_begun = record {
            replaced = λ id1 m1. (let small : id1 < h = k.replaced id1 m1 in omega (arith, small));
            read = λ id1 m1. (let small : id1 < h = k.read id1 m1 in omega (arith, small));
            handlers = λ id1 q. (let small : id1 < h = k.handlers id1 q in omega (arith, small));
            apart = k.apart;
          }

          knows2 : KnowsReads s2
          knows2 = knows_then begun s2 gb.blocks gb.handlers kb.replaces kb.reads knows_begun

          knows_shut : KnowsReads shut
          knows_shut =
              knows_plain (without_scope s2) again s.current refl refl
              (record { replaced = knows2.replaced; read = knows2.read; handlers = knows2.handlers; apart = knows2.apart })

          unread_shut : Unread shut
          unread_shut = unread_plain (without_scope s2) again s.current refl refl (kb.unread knows_begun u)

          -- The block behind the loop is no handler, and nothing in the body reads its note.
          no_handler : (id1 : ℕ) → h + 1 ≡ id1 → IsHandler s id1 → ⊥
          no_handler id1 e q = (let small : id1 < h = k.handlers id1 q in omega (arith, small, e))

          unread_behind : (id1 : ℕ) → h + 1 ≡ id1 → MarkedAt reads_of shut.completed id1 → ⊥
          unread_behind id1 e n1 = elim (marked_ended reads_of (without_scope s2) again s.current id1 n1) [
            | inl n2 ↦ elim (kb.reads id1 n2) [
              | inl old ↦ (let small : id1 < h = k.read id1 old in omega (arith, small, e))
              | inr new ↦ elim new [ inl o ↦ omega (arith, o.0, e) | inr q ↦ no_handler id1 e q ]
            ]
            | inr never ↦ absurd (named_none id1 never)
          ]

          ended : (id1 : ℕ) → MarkedAt replaced_of tst.completed id1 → MarkedAt replaced_of shut.completed id1 ⊎ (h + 1 ≡ id1)
          ended id1 m1 = elim (marked_ended replaced_of shut end tests id1 m1) [
            | inl m2 ↦ inl m2
            | inr own ↦ inr (own_replaced id1 own)
          ]

          read_shut : (id1 : ℕ) → MarkedAt reads_of tst.completed id1 → MarkedAt reads_of shut.completed id1
          read_shut id1 n1 = elim (marked_ended reads_of shut end tests id1 n1) [
            | inl n2 ↦ n2
            | inr never ↦ absurd (own_reads id1 never)
          ]

          knows_test : KnowsReads tst
          knows_test = record {
            replaced = λ id1 m1. elim (ended id1 m1) [ inl m2 ↦ knows_shut.replaced id1 m2 | inr e ↦ omega (arith, e, gb.blocks) ];
            read = λ id1 n1. knows_shut.read id1 (read_shut id1 n1);
            handlers = knows_shut.handlers;
            apart = λ id1 q m1. elim (ended id1 m1) [ inl m2 ↦ knows_shut.apart id1 q m2 | inr e ↦ no_handler id1 e (subst (λ (l : List BlockId). IsTarget l [] id1) gb.handlers q) ];
          }

          unread4 : Unread s4
          unread4 = kt.unread knows_test (λ id1 m1 n1. elim (ended id1 m1) [ inl m2 ↦ unread_shut id1 m2 (read_shut id1 n1) | inr e ↦ unread_behind id1 e (read_shut id1 n1) ])

pub while_unread : (s s2 s4 : State) (label : Label) (test : Place) (span part : Span) → Extends (while_begun s label) s2
    → Extends (while_body s2 s.env.next_block span s.current part) s4
    → KeepsUnread (while_begun s label) s2 → KeepsUnread (while_body s2 s.env.next_block span s.current part) s4
    → KeepsUnread s (while_finished s4 s.env.next_block span test)
while_unread s s2 s4 label test span part gb gt =
    loop_unread s s2 s4 label test span part (while_end s.env.next_block span) gb gt (λ id never. absurd (named_none id never))
    (λ id never. named_none id never)

pub do_while_unread : (s s2 s4 : State) (label : Label) (test : Place) (span part : Span) → Extends (while_begun s label) s2
    → Extends (do_while_body s2 s.env.next_block span s.current part) s4
    → KeepsUnread (while_begun s label) s2 → KeepsUnread (do_while_body s2 s.env.next_block span s.current part) s4
    → KeepsUnread s (while_finished s4 s.env.next_block span test)
do_while_unread s s2 s4 label test span part gb gt =
    loop_unread s s2 s4 label test span part (do_while_end s.env.next_block span) gb gt behind (λ id never. named_none id never)
  where
    behind : (id : ℕ) → HasId (block_id (s.env.next_block + 1) ∷ []) id → s.env.next_block + 1 ≡ id
    behind id own = elim (named_first id (block_id (s.env.next_block + 1)) [] own) [
      | inl e ↦ (omega (arith, e))
      | inr never ↦ absurd (named_none id never)
    ]
