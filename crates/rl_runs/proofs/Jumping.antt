-- Jumps under one more scope: that of a loop, of a labelled statement and of a `switch`.
use Rattle.std.proofs.Common.{◌≡◌, ℕ, ◌++◌, Bool, true, false, if◌then◌else◌, List, [], ◌∷◌, Some, None, Ok, refl, sym, ap, ◌∙◌, subst}
use Rattle.std.proofs.lemmas.List.{reverse-append}
use Rattle.rl_builder.specs.declared.jumps.JumpScope.{JumpScope}
use Rattle.rl_builder.specs.declared.jumps.JumpScope.TheVariants as scopes
use Rattle.rl_builder.specs.Jumps.{break_block_of, break_target, continue_block_of, continue_target, lookup_break, lookup_continue}
use Rattle.rl_builder.specs.Jumps.{takes_break, takes_continue}
use Rattle.rl_machine.specs.Ends.{Notes}
use Rattle.rl_machine.specs.Traces.{Cont}
use Rattle.rl_model.specs.Actions.{Label, Ways, is_label, is_own}
use Rattle.rl_runs.proofs.Common.{Answer, BlockId, Code, Store}
use Rattle.rl_runs.specs.Continuations.{Follows, Jumps, Range}
use Rattle.rl_runs.specs.Exits.{is_named, label_ways, loop_ways, switch_ways}

-- The targets of jumps with one more scope.

pub break_is : (outer : List JumpScope) (scope : JumpScope) (l : Label)
    → lookup_break (outer ++ scope ∷ []) l ≡ (if takes_break l scope then Ok (break_block_of scope) else lookup_break outer l)
break_is outer scope l = ap (λ (x : List JumpScope). break_target l x) (reverse-append outer (scope ∷ []))

pub continue_is : (outer : List JumpScope) (scope : JumpScope) (l : Label)
    → lookup_continue (outer ++ scope ∷ []) l ≡ (if takes_continue l scope then continue_block_of scope else lookup_continue outer l)
continue_is outer scope l = ap (λ (x : List JumpScope). continue_target l x) (reverse-append outer (scope ∷ []))

-- A continuation that a jump leaves.
left_by : (k other : Cont) (b : Bool) → b ≡ false → (if b then k else other) ≡ other
left_by k other b is = ap (λ (x : Bool). if x then k else other) is

module _ {c : Code} {r : Range} {store : Store} {notes : Notes} {answers : List Answer} where
  -- The jumps that the scope takes are its own, and all others are those around it.
  pub jumps_in : (outer : List JumpScope) (scope : JumpScope) (breaks continues outer_breaks outer_continues : Label → Cont)
      → ((l : Label) → takes_break l scope ≡ true → Follows c r store notes answers (break_block_of scope).0 0 (breaks l))
      → ((l : Label) → takes_break l scope ≡ false → breaks l ≡ outer_breaks l)
      → ((l : Label) (block : BlockId) → takes_continue l scope ≡ true → continue_block_of scope ≡ Ok block
      → Follows c r store notes answers block.0 0 (continues l))
      → ((l : Label) → takes_continue l scope ≡ false → continues l ≡ outer_continues l)
      → Jumps c r store notes answers outer outer_breaks outer_continues
      → Jumps c r store notes answers (outer ++ scope ∷ []) breaks continues
  jumps_in outer scope breaks continues outer_breaks outer_continues own_break other_break own_continue other_continue jumps = record {
    behind = λ l block is. by_break l block (takes_break l scope) refl (sym (break_is outer scope l) ∙ is);
    again = λ l block is. by_continue l block (takes_continue l scope) refl (sym (continue_is outer scope l) ∙ is);
  }
    where
      by_break : (l : Label) (block : BlockId) (b : Bool) → takes_break l scope ≡ b
          → (if b then Ok (break_block_of scope) else lookup_break outer l) ≡ Ok block
          → Follows c r store notes answers block.0 0 (breaks l)
      by_break l block true taken is =
          let same : break_block_of scope ≡ block = cc in
          subst (λ (x : BlockId). Follows c r store notes answers x.0 0 (breaks l)) same (own_break l taken)
      by_break l block false left is =
          subst (λ (k : Cont). Follows c r store notes answers block.0 0 k) (sym (other_break l left)) (jumps.behind l block is)

      by_continue : (l : Label) (block : BlockId) (b : Bool) → takes_continue l scope ≡ b
          → (if b then continue_block_of scope else lookup_continue outer l) ≡ Ok block
          → Follows c r store notes answers block.0 0 (continues l)
      by_continue l block true taken is = own_continue l block taken is
      by_continue l block false left is =
          subst (λ (k : Cont). Follows c r store notes answers block.0 0 k) (sym (other_continue l left)) (jumps.again l block is)

  -- A continuation that a jump takes.
  taken_by : (block : ℕ) (k other : Cont) (b : Bool) → b ≡ true → Follows c r store notes answers block 0 k
      → Follows c r store notes answers block 0 (if b then k else other)
  taken_by block k other b is goes =
      subst (λ (x : Bool). Follows c r store notes answers block 0 (if x then k else other)) (sym is) goes

  -- A loop.
  pub jumps_in_loop : (own : Label) (again behind : BlockId) (k_again k_behind : Cont) (ways : Ways) (outer : List JumpScope)
      → Follows c r store notes answers again.0 0 k_again → Follows c r store notes answers behind.0 0 k_behind
      → Jumps c r store notes answers outer ways.breaks ways.continues
      → Jumps c r store notes answers (outer ++ scopes.Loop own again behind ∷ [])
      (loop_ways own k_again k_behind ways).breaks (loop_ways own k_again k_behind ways).continues
  jumps_in_loop own again behind k_again k_behind ways outer goes_again goes_behind jumps =
      jumps_in outer (scopes.Loop own again behind) (loop_ways own k_again k_behind ways).breaks
      (loop_ways own k_again k_behind ways).continues ways.breaks ways.continues
      (λ l taken. taken_by behind.0 k_behind (ways.breaks l) (is_own own l) (sym (break_own own l) ∙ taken) goes_behind)
      (λ l left. left_by k_behind (ways.breaks l) (is_own own l) (sym (break_own own l) ∙ left))
      (λ l block taken is. taken_by block.0 k_again (ways.continues l) (is_own own l) (sym (continue_own own l) ∙ taken) (goes_to block is))
      (λ l left. left_by k_again (ways.continues l) (is_own own l) (sym (continue_own own l) ∙ left)) jumps
    where
      break_own : (own l : Label) → takes_break l (scopes.Loop own again behind) ≡ is_own own l
      break_own own None = refl
      break_own None (Some l) = refl
      break_own (Some x) (Some l) = refl

      continue_own : (own l : Label) → takes_continue l (scopes.Loop own again behind) ≡ is_own own l
      continue_own own None = refl
      continue_own None (Some l) = refl
      continue_own (Some x) (Some l) = refl

      goes_to : (block : BlockId) → continue_block_of (scopes.Loop own again behind) ≡ Ok block
          → Follows c r store notes answers block.0 0 k_again
      goes_to block is =
          let same : again ≡ block = cc in subst (λ (x : BlockId). Follows c r store notes answers x.0 0 k_again) same goes_again

  -- A labelled statement.
  pub jumps_in_label : (own : List ℕ) (behind : BlockId) (k_behind astray : Cont) (ways : Ways) (outer : List JumpScope)
      → Follows c r store notes answers behind.0 0 k_behind → Jumps c r store notes answers outer ways.breaks ways.continues
      → Jumps c r store notes answers (outer ++ scopes.Label own behind ∷ [])
      (label_ways own k_behind astray ways).breaks (label_ways own k_behind astray ways).continues
  jumps_in_label own behind k_behind astray ways outer goes_behind jumps =
      jumps_in outer (scopes.Label own behind) (label_ways own k_behind astray ways).breaks
      (label_ways own k_behind astray ways).continues ways.breaks ways.continues
      (λ l taken. taken_by behind.0 k_behind (ways.breaks l) (is_label own l) (sym (break_own l) ∙ taken) goes_behind)
      (λ l left. left_by k_behind (ways.breaks l) (is_label own l) (sym (break_own l) ∙ left))
      (λ l block taken is. absurd (cc))
      (λ l left. left_by astray (ways.continues l) (is_label own l) (sym (continue_own l) ∙ left)) jumps
    where
      break_own : (l : Label) → takes_break l (scopes.Label own behind) ≡ is_label own l
      break_own None = refl
      break_own (Some l) = refl

      continue_own : (l : Label) → takes_continue l (scopes.Label own behind) ≡ is_label own l
      continue_own None = refl
      continue_own (Some l) = refl

  -- A `switch`.
  pub jumps_in_switch : (own : Label) (behind : BlockId) (k_behind astray : Cont) (ways : Ways) (outer : List JumpScope)
      → Follows c r store notes answers behind.0 0 k_behind → Jumps c r store notes answers outer ways.breaks ways.continues
      → Jumps c r store notes answers (outer ++ scopes.Switch own behind ∷ [])
      (switch_ways own k_behind astray ways).breaks (switch_ways own k_behind astray ways).continues
  jumps_in_switch own behind k_behind astray ways outer goes_behind jumps =
      jumps_in outer (scopes.Switch own behind) (switch_ways own k_behind astray ways).breaks
      (switch_ways own k_behind astray ways).continues ways.breaks ways.continues
      (λ l taken. taken_by behind.0 k_behind (ways.breaks l) (is_own own l) (sym (break_own own l) ∙ taken) goes_behind)
      (λ l left. left_by k_behind (ways.breaks l) (is_own own l) (sym (break_own own l) ∙ left))
      (λ l block taken is. absurd (cc))
      (λ l left. left_by astray (ways.continues l) (is_named own l) (sym (continue_own own l) ∙ left)) jumps
    where
      break_own : (own l : Label) → takes_break l (scopes.Switch own behind) ≡ is_own own l
      break_own own None = refl
      break_own None (Some l) = refl
      break_own (Some x) (Some l) = refl

      continue_own : (own l : Label) → takes_continue l (scopes.Switch own behind) ≡ is_named own l
      continue_own None None = refl
      continue_own (Some x) None = refl
      continue_own None (Some l) = refl
      continue_own (Some x) (Some l) = refl
