-- The block in which a chain ends early, as one more target; and links with parts in front of them and behind.
use Rattle.std.proofs.Common.{◌≡◌, ℕ, ◌<◌, ◌≤◌, inl, inr, ◌++◌, List, [], ◌∷◌, length, Ok, sym, ap, subst, arith}
use Rattle.rl_builder.specs.Builder.{State}
use Rattle.rl_builder.specs.declared.jumps.JumpScope.{JumpScope}
use Rattle.rl_builder.specs.declared.jumps.JumpScope.TheVariants as scope
use Rattle.rl_builder.specs.Jumps.{continue_block_of}
use Rattle.rl_optional_frames.specs.Links.{LinkBlocks, reaching}
use Rattle.rl_runs.proofs.BlockIds.{ids_then}
use Rattle.rl_runs.proofs.Moves.{contained_before, extends_then}
use Rattle.rl_runs.proofs.Naming.{named_then, same_targets, scope_targets}
use Rattle.rl_runs.proofs.Steps.{get_more, get_seam}
use Rattle.rl_runs.proofs.Used.{notes_back, straight_below, straight_then, used_then}
use Rattle.rl_runs.specs.Blocks.{ByBreak, ByContinue, ByHandler, IsNameSince, IsTarget, JumpsSettle, NamesSince, PreservesBlocks}
use Rattle.rl_runs.specs.Moves.{block_id}

-- The block is a target, and so is what was one before.

pub alternate_target : (s : State) (alternate : ℕ) → IsTarget (reaching s alternate).handlers (reaching s alternate).scopes alternate
alternate_target s alternate =
    ByBreak (length s.scopes) (scope.Label [] (block_id alternate)) (get_seam s.scopes (scope.Label [] (block_id alternate)) [])

more_targets : (s : State) (alternate id : ℕ) → IsTarget s.handlers s.scopes id
    → IsTarget (reaching s alternate).handlers (reaching s alternate).scopes id
more_targets s alternate id (ByHandler index block at) = ByHandler index block at
more_targets s alternate id (ByBreak index one at) = ByBreak index one (get_more s.scopes _ index one at)
more_targets s alternate id (ByContinue index one block at to) = ByContinue index one block (get_more s.scopes _ index one at) to

pub since_reaching : (s : State) (alternate next id : ℕ) → IsNameSince s next id → IsNameSince (reaching s alternate) next id
since_reaching s alternate next id h = elim h [ inl since ↦ inl since | inr target ↦ inr (more_targets s alternate id target) ]

pub names_reaching : (s x : State) (alternate : ℕ) → NamesSince s x → NamesSince (reaching s alternate) x
names_reaching s x alternate names b one = elim (names b one) [
  | inl old ↦ inl old
  | inr own ↦ inr (λ id is. since_reaching s alternate x.env.next_block id (own id is))
]

-- The block need not be a target if it was numbered since.
pub names_made : (s x : State) (alternate : ℕ) → s.env.next_block ≤ alternate → alternate < x.env.next_block
    → NamesSince (reaching s alternate) x → NamesSince s x
names_made s x alternate low high names b one = elim (names b one) [
  | inl old ↦ inl old
  | inr own ↦ inr (λ id is. elim (own id is) [
    | inl since ↦ inl since
    | inr target ↦ elim (scope_targets s.handlers s.scopes (scope.Label [] (block_id alternate)) id target) [
      | inl old ↦ inr old
      | inr other ↦ elim other [
        | inl e ↦ (let same : alternate ≡ id = e in inl (omega (arith, same, low), omega (arith, same, high)))
        | inr again ↦ absurd (let never : continue_block_of (scope.Label [] (block_id alternate)) ≡ Ok again.0 = again.1 in cc)
      ]
    ]
  ])
]

-- A part that is no link, and a chain that makes the block itself.

pub link_of_blocks : (alternate : ℕ) (old new : State) → PreservesBlocks old new → LinkBlocks alternate old new
link_of_blocks alternate old new p = record {
  extends = p.extends;
  ids = p.ids;
  used = p.used;
  named = names_reaching old new alternate p.named;
  ended = p.ended;
  straight = p.straight;
  settle = p.settle;
  looped = p.looped;
}

pub blocks_of_link : (alternate : ℕ) (old new : State) → old.env.next_block ≤ alternate → alternate < new.env.next_block
    → LinkBlocks alternate old new → PreservesBlocks old new
blocks_of_link alternate old new low high l = record {
  extends = l.extends;
  ids = l.ids;
  used = l.used;
  named = names_made old new alternate low high l.named;
  ended = l.ended;
  straight = l.straight;
  settle = l.settle;
  looped = l.looped;
}

-- A part behind another.
pub links_then : (alternate : ℕ) (a b d : State) → LinkBlocks alternate a b → LinkBlocks alternate b d → LinkBlocks alternate a d
links_then alternate a b d first second = record {
  extends = extends_then first.extends second.extends;
  ids = ids_then first.ids second.ids;
  used = used_then a second.extends first.used second.used;
  named =
      named_then (reaching a alternate) (reaching b alternate) d first.extends.blocks second.extends.blocks
      (same_targets (reaching a alternate) (reaching b alternate) d.env.next_block first.extends.handlers
      (ap (λ (l : List JumpScope). l ++ scope.Label [] (block_id alternate) ∷ []) first.extends.scopes)) first.named second.named;
  ended = λ all. second.ended (first.ended all);
  straight = straight_then a b d first.extends.blocks second.extends.blocks first.straight second.straight;
  settle = λ c cover own below jumps old.
      second.settle c cover
      (notes_back c a b d d own first.extends.blocks (omega arith) (λ id n. inl n))
      (straight_below a b first.extends.blocks first.straight below)
      (subst (λ (l : List JumpScope). JumpsSettle c l) (sym first.extends.scopes) jumps)
      (first.settle c (contained_before second.extends cover)
      (notes_back c a a b d own (omega arith) second.extends.blocks second.straight) below jumps old);
  looped = λ c cover entry old. second.looped c cover entry (first.looped c (contained_before second.extends cover) entry old);
}
