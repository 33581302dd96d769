-- The blocks that complete blocks name, move by move.
use Rattle.std.proofs.Common.{◌≡◌, ℕ, suc, ◌-◌, ◌<◌, ◌≤◌, ◌⊎◌, inl, inr, ◌++◌, ◌||◌, Bool, true, false, List, [], ◌∷◌, length}
use Rattle.std.proofs.Common.{reverse, slice_get, nat_eq, eqb-true, Option, Some, None, Ok, if◌then◌else◌, refl, sym, ap, ◌∙◌, subst}
use Rattle.std.proofs.Common.{arith}
use Rattle.std.proofs.lemmas.List.{get_or-reverse, length-reverse}
use Rattle.std.proofs.lemmas.Option.{get_or_from_slice_get, slice_get-get_or, slice_get_within}
use Rattle.std.specs.List.{list_any}
use Rattle.rl_builder.specs.Builder.{completed_by, ended_by, innermost, maybe_throw, new_block, plainly_pushed, pushed}
use Rattle.rl_builder.specs.Builder.{pushed_under, reserved}
use Rattle.rl_builder.specs.declared.blocks.WipBlock.{WipBlock}
use Rattle.rl_builder.specs.declared.jumps.JumpScope.{JumpScope}
use Rattle.rl_builder.specs.Jumps.{break_block_of, break_target, continue_block_of, continue_target, lookup_break, lookup_continue}
use Rattle.rl_builder.specs.Jumps.{takes_break, takes_continue}
use Rattle.rl_hir.specs.Blocks.{Pair as BlockPair, same_id}
use Rattle.rl_hir.specs.declared.terminal.GotoVariant.{GotoVariant}
use Rattle.rl_hir.specs.declared.terminal.Terminal.{Terminal}
use Rattle.rl_model.specs.Actions.{Label}
use Rattle.rl_runs.proofs.Common.{BlockId, Instruction, Span, State}
use Rattle.rl_runs.proofs.Steps.{added_cases}
use Rattle.rl_runs.specs.Blocks.{ByBreak, ByContinue, ByHandler, IsNameSince, IsTarget, NamesBlock, NamesSince}
use Rattle.rl_runs.specs.Moves.{goto}

-- An id in a list.

pub named_first : (id : ℕ) (b : BlockId) (bs : List BlockId) → list_any (same_id (record { 0 = id })) (b ∷ bs) ≡ true
    → (id ≡ b.0) ⊎ (list_any (same_id (record { 0 = id })) bs ≡ true)
named_first id b bs is = by_head (nat_eq id b.0) refl is
  where
    by_head : (x : Bool) → nat_eq id b.0 ≡ x → (nat_eq id b.0 || list_any (same_id (record { 0 = id })) bs) ≡ true
        → (id ≡ b.0) ⊎ (list_any (same_id (record { 0 = id })) bs ≡ true)
    by_head true e h = inl (eqb-true id b.0 e)
    by_head false e h = inr (sym (ap (λ y. y || list_any (same_id (record { 0 = id })) bs) e) ∙ h)

pub named_none : (id : ℕ) → list_any (same_id (record { 0 = id })) [] ≡ true → ⊥
named_none id is = let never : false ≡ true = is in absurd (cc)

-- The current block ends.
pub named_ended : (a x : State) (t : Terminal) (next : WipBlock) → NamesSince a x
    → ((id : ℕ) → NamesBlock t id → IsNameSince a x.env.next_block id) → NamesSince a (completed_by x t next)
named_ended a x t next old new b one = elim (added_cases x.completed (ended_by x.current t) one.index b one.found) [
  | inl e ↦ old b (record { index = one.index; found = e })
  | inr e ↦ inr (subst (λ (y : BlockPair). (id : ℕ) → NamesBlock y.1.terminal id → IsNameSince a x.env.next_block id) (sym e) new)
]

-- Names that a terminal does not add.
pub named_more : (a : State) (next later : ℕ) → next ≤ later → (id : ℕ) → IsNameSince a next id → IsNameSince a later id
named_more a next later more id h = elim h [ inl since ↦ inl (since.0, omega (arith, since.1, more)) | inr target ↦ inr target ]

pub named_refl : (s : State) → NamesSince s s
named_refl s b one = inl one

-- A part behind another.
pub named_then : (a b c : State) → a.env.next_block ≤ b.env.next_block → b.env.next_block ≤ c.env.next_block
    → ((id : ℕ) → IsTarget b.handlers b.scopes id → IsNameSince a c.env.next_block id)
    → NamesSince a b → NamesSince b c → NamesSince a c
named_then a b c first second targets f g block one = elim (g block one) [
  | inl old ↦ elim (f block old) [ inl older ↦ inl older | inr own ↦ inr (λ id is. named_more a b.env.next_block c.env.next_block second id (own id is)) ]
  | inr own ↦ inr (λ id is. elim (own id is) [ inl since ↦ inl (omega (arith, since.0, first), since.1) | inr target ↦ targets id target ])
]

-- The targets of equal stacks.
pub same_targets : (a b : State) (next : ℕ) → b.handlers ≡ a.handlers → b.scopes ≡ a.scopes → (id : ℕ)
    → IsTarget b.handlers b.scopes id → IsNameSince a next id
same_targets a b next handlers scopes id to =
    inr (subst (λ (l : List JumpScope). IsTarget a.handlers l id) scopes (subst (λ (l : List BlockId). IsTarget l b.scopes id) handlers to))

-- Terminals that name blocks which were numbered since.

pub named_goto : (a : State) (behind next : ℕ) (variant : GotoVariant) (part : Span) → a.env.next_block ≤ behind → behind < next
    → (id : ℕ) → NamesBlock (goto behind variant part) id → IsNameSince a next id
named_goto a behind next variant part low high id is = elim (named_first id (record { 0 = behind }) [] is) [
  | inl e ↦ inl (omega (arith, e, low), omega (arith, e, high))
  | inr never ↦ absurd (named_none id never)
]

pub named_two : (a : State) (x y : BlockId) (next : ℕ) → a.env.next_block ≤ x.0 → x.0 < next → a.env.next_block ≤ y.0 → y.0 < next
    → (id : ℕ) → list_any (same_id (record { 0 = id })) (x ∷ y ∷ []) ≡ true → IsNameSince a next id
named_two a x y next lx hx ly hy id is = elim (named_first id x (y ∷ []) is) [
  | inl e ↦ inl (omega (arith, e, lx), omega (arith, e, hx))
  | inr is1 ↦ elim (named_first id y [] is1) [ inl e ↦ inl (omega (arith, e, ly), omega (arith, e, hy)) | inr never ↦ absurd (named_none id never) ]
]

pub named_three : (a : State) (x y z : BlockId) (next : ℕ) → a.env.next_block ≤ x.0 → x.0 < next
    → a.env.next_block ≤ y.0 → y.0 < next → a.env.next_block ≤ z.0 → z.0 < next
    → (id : ℕ) → list_any (same_id (record { 0 = id })) (x ∷ y ∷ z ∷ []) ≡ true → IsNameSince a next id
named_three a x y z next lx hx ly hy lz hz id is = elim (named_first id x (y ∷ z ∷ []) is) [
  | inl e ↦ inl (omega (arith, e, lx), omega (arith, e, hx))
  | inr is1 ↦ named_two a y z next ly hy lz hz id is1
]

-- An instruction, under the innermost handler.

named_under : (o : Option BlockId) (s : State) (i : Instruction) → innermost s.handlers ≡ o → NamesSince s (pushed_under o s i)
named_under None s i is = λ b one. inl one
named_under (Some handler) s i is =
    named_ended s (reserved (plainly_pushed s i)) (maybe_throw s.env.next_block handler i.span)
    (new_block s.env.next_block s.current.kind) (λ b one. inl one)
    (λ id is1. elim (named_first id (record { 0 = s.env.next_block }) (handler ∷ []) is1) [
      | inl e ↦ inl (omega (arith, e), omega (arith, e))
      | inr is2 ↦ elim (named_first id handler [] is2) [
        | inl e ↦ inr (subst (λ (n : ℕ). IsTarget s.handlers s.scopes n) (sym e) (ByHandler (length s.handlers - 1) handler is))
        | inr never ↦ absurd (named_none id never)
      ]
    ])

pub named_pushed : (s : State) (i : Instruction) → NamesSince s (pushed s i)
named_pushed s i = named_under (innermost s.handlers) s i refl

-- The targets under one more scope.
pub scope_targets : (handlers : List BlockId) (scopes : List JumpScope) (scope : JumpScope) (id : ℕ)
    → IsTarget handlers (scopes ++ scope ∷ []) id
    → IsTarget handlers scopes id ⊎ ((break_block_of scope).0 ≡ id) ⊎ ((b : BlockId) × (continue_block_of scope ≡ Ok b) × (b.0 ≡ id))
scope_targets handlers scopes scope id (ByHandler index b at) = inl (ByHandler index b at)
scope_targets handlers scopes scope id (ByBreak index other at) = elim (added_cases scopes scope index other at) [
  | inl e ↦ inl (ByBreak index other e)
  | inr e ↦ inr (inl (ap (λ (x : JumpScope). (break_block_of x).0) (sym e)))
]
scope_targets handlers scopes scope id (ByContinue index other b at to) = elim (added_cases scopes scope index other at) [
  | inl e ↦ inl (ByContinue index other b e to)
  | inr e ↦ inr (inr (b, ap continue_block_of (sym e) ∙ to, refl))
]

-- The block to which a jump goes is a target.

-- An element of a list stands in the list that it is the reverse of.
from_reverse : {X : Type 0} (xs : List X) (index : ℕ) (x : X) → slice_get (reverse xs) index ≡ Some x
    → (place : ℕ) × (slice_get xs place ≡ Some x)
from_reverse xs index x is =
    let within : index < length xs = omega (arith, slice_get_within (reverse xs) index x is, length-reverse xs) in (
      length xs - 1 - index,
      slice_get-get_or xs (length xs - 1 - index) x (omega (arith, within))
          ∙ ap (λ y. Some y) (sym (get_or-reverse xs index x within) ∙ get_or_from_slice_get (reverse xs) index x x is),
    )

break_found : (label : Label) (xs : List JumpScope) (block : BlockId) → break_target label xs ≡ Ok block
    → (index : ℕ) × (scope : JumpScope) × (slice_get xs index ≡ Some scope) × (break_block_of scope ≡ block)
break_found label [] block is = absurd (cc)
break_found label (scope ∷ outer) block is = by_test (takes_break label scope) is (λ e. break_found label outer block e)
  where
    by_test : (b : Bool) → (if b then Ok (break_block_of scope) else break_target label outer) ≡ Ok block
        → (break_target label outer ≡ Ok block
        → (index : ℕ) × (found : JumpScope) × (slice_get outer index ≡ Some found) × (break_block_of found ≡ block))
        → (index : ℕ) × (found : JumpScope) × (slice_get (scope ∷ outer) index ≡ Some found) × (break_block_of found ≡ block)
    by_test true e further = (0, scope, refl, cc)
    by_test false e further = (let rest = further e in (suc rest.0, rest.1, rest.2, rest.3))

continue_found : (label : Label) (xs : List JumpScope) (block : BlockId) → continue_target label xs ≡ Ok block
    → (index : ℕ) × (scope : JumpScope) × (slice_get xs index ≡ Some scope) × (continue_block_of scope ≡ Ok block)
continue_found label [] block is = absurd (cc)
continue_found label (scope ∷ outer) block is = by_test (takes_continue label scope) is (λ e. continue_found label outer block e)
  where
    by_test : (b : Bool) → (if b then continue_block_of scope else continue_target label outer) ≡ Ok block
        → (continue_target label outer ≡ Ok block
        → (index : ℕ) × (found : JumpScope) × (slice_get outer index ≡ Some found) × (continue_block_of found ≡ Ok block))
        → (index : ℕ) × (found : JumpScope) × (slice_get (scope ∷ outer) index ≡ Some found) × (continue_block_of found ≡ Ok block)
    by_test true e further = (0, scope, refl, e)
    by_test false e further = (let rest = further e in (suc rest.0, rest.1, rest.2, rest.3))

pub break_is_target : (handlers : List BlockId) (scopes : List JumpScope) (label : Label) (block : BlockId)
    → lookup_break scopes label ≡ Ok block → IsTarget handlers scopes block.0
break_is_target handlers scopes label block is =
    let found = break_found label (reverse scopes) block is in
    let at = from_reverse scopes found.0 found.1 found.2 in
    subst (λ (b : BlockId). IsTarget handlers scopes b.0) found.3 (ByBreak at.0 found.1 at.1)

pub continue_is_target : (handlers : List BlockId) (scopes : List JumpScope) (label : Label) (block : BlockId)
    → lookup_continue scopes label ≡ Ok block → IsTarget handlers scopes block.0
continue_is_target handlers scopes label block is =
    let found = continue_found label (reverse scopes) block is in
    let at = from_reverse scopes found.0 found.1 found.2 in
    ByContinue at.0 found.1 block at.1 found.3
