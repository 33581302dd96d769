-- The blocks that the complete blocks of constructs name.
use Rattle.std.proofs.Common.{◌≡◌, ℕ, ◌+◌, ◌-◌, inl, inr, ◌++◌, List, [], ◌∷◌, length, take, ap, ◌∙◌, subst, arith}
use Rattle.rl_builder.specs.Builder.{new_block, reserved}
use Rattle.rl_builder.specs.declared.jumps.JumpScope.{JumpScope}
use Rattle.rl_frames.proofs.Common.{BlockId, Extends, Label, Place, Span, State}
use Rattle.rl_frames.proofs.LoopStates.{loop_branch, loop_shut, scopes_left}
use Rattle.rl_frames.specs.Parts.{do_while_body, do_while_end, if_begun, if_end, if_finished, loop_body, while_begun, while_body, while_end}
use Rattle.rl_frames.specs.Parts.{while_finished, while_scope}
use Rattle.rl_hir.specs.declared.function.BlockKind.TheVariants as block
use Rattle.rl_hir.specs.declared.terminal.GotoVariant.TheVariants as gotos
use Rattle.rl_hir.specs.declared.terminal.Terminal.{Terminal}
use Rattle.rl_runs.proofs.Naming.{named_ended, named_goto, named_then, named_three, scope_targets}
use Rattle.rl_runs.specs.Blocks.{IsNameSince, IsTarget, NamesBlock, NamesSince}
use Rattle.rl_runs.specs.Moves.{block_id, goto, last_hole, next_hole, without_scope}

-- An `if` statement.
pub if_named : (s s2 s3 s4 : State) (test : Place) (span part other : Span) → Extends (if_begun s) s2
    → Extends (next_hole s2 s.env.next_block gotos.Break part block.Block) s3
    → Extends (last_hole s3 s.env.next_block gotos.Break other s.current) s4
    → NamesSince (if_begun s) s2 → NamesSince (next_hole s2 s.env.next_block gotos.Break part block.Block) s3
    → NamesSince (last_hole s3 s.env.next_block gotos.Break other s.current) s4
    → NamesSince s (if_finished s4 s.env.next_block (s.env.next_block + 1) s2.env.next_block test span)
if_named s s2 s3 s4 test span part other gc ga gt nc na nt =
    named_ended s s4 (if_end s.env.next_block (s.env.next_block + 1) s2.env.next_block test span)
    (new_block s.env.next_block block.Block) to_test
    (named_three s (record { 0 = s.env.next_block + 1 }) (record { 0 = s2.env.next_block })
    (record { 0 = s.env.next_block }) s4.env.next_block (omega arith) (omega (arith, gc.blocks, ga.blocks, gt.blocks))
    (omega (arith, gc.blocks)) (omega (arith, ga.blocks, gt.blocks)) (omega arith) (omega (arith, gc.blocks, ga.blocks, gt.blocks)))
  where
    targets : (x : State) (next id : ℕ) → x.handlers ≡ s.handlers → x.scopes ≡ s.scopes → IsTarget x.handlers x.scopes id
        → IsNameSince s next id
    targets x next id handlers scopes to =
        inr (subst (λ (l : List JumpScope). IsTarget s.handlers l id) scopes
        (subst (λ (l : List BlockId). IsTarget l x.scopes id) handlers to))

    to_consequent : NamesSince s s2
    to_consequent = named_then s (if_begun s) s2 (omega arith) gc.blocks (λ id to. inr to) (λ b one. inl one) nc

    to_open : NamesSince s (next_hole s2 s.env.next_block gotos.Break part block.Block)
    to_open =
        named_ended s (reserved s2) (goto s.env.next_block gotos.Break part) (new_block s2.env.next_block block.Block)
        (λ b one. elim (to_consequent b one) [ inl old ↦ inl old | inr own ↦ inr (λ id is. elim (own id is) [ inl since ↦ inl (since.0, omega (arith, since.1)) | inr to ↦ inr to ]) ])
        (named_goto s s.env.next_block (s2.env.next_block + 1) gotos.Break part (omega arith) (omega (arith, gc.blocks)))

    to_alternate : NamesSince s s3
    to_alternate =
        named_then s (next_hole s2 s.env.next_block gotos.Break part block.Block) s3 (omega (arith, gc.blocks)) ga.blocks
        (λ id to. targets (next_hole s2 s.env.next_block gotos.Break part block.Block) s3.env.next_block id gc.handlers gc.scopes to) to_open na

    to_shut : NamesSince s (last_hole s3 s.env.next_block gotos.Break other s.current)
    to_shut =
        named_ended s s3 (goto s.env.next_block gotos.Break other) s.current to_alternate
        (named_goto s s.env.next_block s3.env.next_block gotos.Break other (omega arith) (omega (arith, gc.blocks, ga.blocks)))

    to_test : NamesSince s s4
    to_test =
        named_then s (last_hole s3 s.env.next_block gotos.Break other s.current) s4 (omega (arith, gc.blocks, ga.blocks)) gt.blocks
        (λ id to. targets (last_hole s3 s.env.next_block gotos.Break other s.current) s4.env.next_block id (ga.handlers ∙ gc.handlers)
        (ga.scopes ∙ gc.scopes) to) to_shut nt

-- A loop: its body may jump to the test and behind the loop, and its terminal names its blocks.
pub loop_named : (s s2 s4 : State) (label : Label) (test : Place) (span part : Span) (end : Terminal) → Extends (while_begun s label) s2
    → Extends (loop_body s2 s.env.next_block end s.current part) s4
    → ((id : ℕ) → NamesBlock end id → IsNameSince s s2.env.next_block id)
    → NamesSince (while_begun s label) s2 → NamesSince (loop_body s2 s.env.next_block end s.current part) s4
    → NamesSince s (while_finished s4 s.env.next_block span test)
loop_named s s2 s4 label test span part end gb gt own_blocks nb nt =
    named_ended s s4 (loop_branch s.env.next_block test span)
    (new_block (s.env.next_block + 1) block.Block) to_test
    (named_three s (record { 0 = s.env.next_block + 1 + 1 }) (record { 0 = s.env.next_block + 1 })
    (record { 0 = s.env.next_block }) s4.env.next_block (omega arith) (omega (arith, gb.blocks, gt.blocks)) (omega arith)
    (omega (arith, gb.blocks, gt.blocks)) (omega arith) (omega (arith, gb.blocks, gt.blocks)))
  where
    in_body : (id : ℕ) → IsTarget s.handlers (s.scopes ++ while_scope s label ∷ []) id → IsNameSince s s2.env.next_block id
    in_body id to = elim (scope_targets s.handlers s.scopes (while_scope s label) id to) [
      | inl around ↦ inr around
      | inr own ↦ elim own [
        | inl e ↦ inl (omega (arith, e), omega (arith, e, gb.blocks))
        | inr again ↦ (let same : record { 0 = s.env.next_block } ≡ again.0 = cc again.1 in let e : s.env.next_block ≡ id = ap (λ (x : BlockId). x.0) same ∙ again.2 in inl (omega (arith, e), omega (arith, e, gb.blocks)))
      ]
    ]

    to_body : NamesSince s s2
    to_body = named_then s (while_begun s label) s2 (omega arith) gb.blocks in_body (λ b one. inl one) nb

    to_shut : NamesSince s (loop_shut s2 s.env.next_block s part)
    to_shut =
        named_ended s (without_scope s2) (goto s.env.next_block gotos.Continue part) s.current to_body
        (named_goto s s.env.next_block s2.env.next_block gotos.Continue part (omega arith) (omega (arith, gb.blocks)))

    to_tst : NamesSince s (loop_body s2 s.env.next_block end s.current part)
    to_tst =
        named_ended s (loop_shut s2 s.env.next_block s part) end
        (new_block s.env.next_block block.Loop) to_shut own_blocks

    to_test : NamesSince s s4
    to_test = named_then s (loop_body s2 s.env.next_block end s.current part) s4 (omega (arith, gb.blocks)) gt.blocks
        (λ id to. inr (subst (λ (l : List JumpScope). IsTarget s.handlers l id) (scopes_left s s2 label gb)
        (subst (λ (l : List BlockId). IsTarget l (take (length s2.scopes - 1) s2.scopes) id) gb.handlers to))) to_tst nt

pub while_named : (s s2 s4 : State) (label : Label) (test : Place) (span part : Span) → Extends (while_begun s label) s2
    → Extends (while_body s2 s.env.next_block span s.current part) s4
    → NamesSince (while_begun s label) s2 → NamesSince (while_body s2 s.env.next_block span s.current part) s4
    → NamesSince s (while_finished s4 s.env.next_block span test)
while_named s s2 s4 label test span part gb gt =
    loop_named s s2 s4 label test span part (while_end s.env.next_block span) gb gt
    (named_three s (block_id s.env.next_block) (block_id (s.env.next_block + 1 + 1)) (block_id (s.env.next_block + 1)) s2.env.next_block
    (omega arith) (omega (arith, gb.blocks)) (omega arith) (omega (arith, gb.blocks)) (omega arith) (omega (arith, gb.blocks)))

pub do_while_named : (s s2 s4 : State) (label : Label) (test : Place) (span part : Span) → Extends (while_begun s label) s2
    → Extends (do_while_body s2 s.env.next_block span s.current part) s4
    → NamesSince (while_begun s label) s2 → NamesSince (do_while_body s2 s.env.next_block span s.current part) s4
    → NamesSince s (while_finished s4 s.env.next_block span test)
do_while_named s s2 s4 label test span part gb gt =
    loop_named s s2 s4 label test span part (do_while_end s.env.next_block span) gb gt
    (named_three s (block_id (s.env.next_block + 1 + 1)) (block_id s.env.next_block) (block_id (s.env.next_block + 1)) s2.env.next_block
    (omega arith) (omega (arith, gb.blocks)) (omega arith) (omega (arith, gb.blocks)) (omega arith) (omega (arith, gb.blocks)))
