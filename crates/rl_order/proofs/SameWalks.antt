-- A graph has a single walk from a state of it, so that the end and the count of expansions are determined, and a single order.
use Rattle.std.proofs.Common.{◌≡◌, ℕ, ◌+◌, true, false, true≢false, Option, Some, None, List, [], ◌∷◌, reverse, refl, sym, ap, ◌∙◌, subst, arith}
use Rattle.rl_base.specs.declared.ids.BlockId.{BlockId}
use Rattle.rl_hir.specs.Blocks.{Pair, block_at}
use Rattle.rl_hir.specs.Terminals.{fallthrough}
use Rattle.rl_hir.specs.declared.function.BasicBlock.{BasicBlock}
use Rattle.rl_order.proofs.Stack.{WalksIn}
use Rattle.rl_order.specs.Walk.{Ends, Expands, IsOrdered, Passes, Walk, Walks, entered, expansions, is_first, is_passed, kept, left, nothing, visit, visits_from}
use Rattle.rl_order.specs.declared.tasks.Visit.{Visit}

some_same : (x y : BasicBlock) → Some x ≡ Some y → x ≡ y
some_same x y e = ap (λ (o : Option BasicBlock). elim o [ Some z ↦ z | None ↦ x ]) e

-- The first of some visits expands `block`.
record Expanded (graph : List Pair) (v : Visit) (vs : List Visit) (block : BasicBlock) (w end : Walk) (count : ℕ) : Type 0 where
  inner : Walk
  first : ℕ
  others : ℕ
  within : WalksIn graph (visits_from v.used block) (entered w v (fallthrough block.terminal)) inner first
  rest : WalksIn graph vs (left (is_first w v.id) inner v.id) end others
  sum : 1 + first + others ≡ count

none_left : (graph : List Pair) (w end : Walk) (count : ℕ) (walk : Walks graph [] w end) → expansions walk ≡ count → (w ≡ end) × (0 ≡ count)
none_left graph _ _ count (Ends w) e = (refl, e)

passed_on : (graph : List Pair) (v : Visit) (vs : List Visit) (w end : Walk) (count : ℕ) → is_passed w v ≡ true
    → (walk : Walks graph (v ∷ vs) w end) → expansions walk ≡ count → WalksIn graph vs w end count
passed_on graph _ _ _ _ count is (Passes v vs w end passed rest) e = record { walk = rest; expanded = e }
passed_on graph _ _ _ _ count is (Expands v vs block w inner end passed there within rest) e = absurd (true≢false (sym is ∙ passed))

expanded_on : (graph : List Pair) (v : Visit) (vs : List Visit) (block : BasicBlock) (w end : Walk) (count : ℕ) → is_passed w v ≡ false
    → block_at graph v.id ≡ Some block → (walk : Walks graph (v ∷ vs) w end) → expansions walk ≡ count
    → Expanded graph v vs block w end count
expanded_on graph _ _ block _ _ count is at (Passes v vs w end passed rest) e = absurd (true≢false (sym passed ∙ is))
expanded_on graph _ _ block _ _ count is at (Expands v vs found w inner end passed there within rest) e =
    let same : found ≡ block = some_same found block (sym there ∙ at) in
    let walk : WalksIn graph (visits_from v.used found) (entered w v (fallthrough found.terminal)) inner (expansions within) =
    record { walk = within; expanded = refl } in
    record {
      inner = inner;
      first = expansions within;
      others = expansions rest;
      within = subst (λ (x : BasicBlock). WalksIn graph (visits_from v.used x) (entered w v (fallthrough x.terminal)) inner (expansions within)) same walk;
      rest = record { walk = rest; expanded = refl };
      sum = e;
    }

-- Walks from a state have the same end and expand as many blocks.
pub same_walk : (graph : List Pair) (vs : List Visit) (w a b : Walk) (count : ℕ) (walk : Walks graph vs w a) → WalksIn graph vs w b count
    → (a ≡ b) × (expansions walk ≡ count)
same_walk graph _ _ _ b count (Ends w) other = none_left graph w b count other.walk other.expanded
same_walk graph _ _ _ b count (Passes v vs w a passed rest) other =
    same_walk graph vs w a b count rest (passed_on graph v vs w b count passed other.walk other.expanded)
same_walk graph _ _ _ b count (Expands v vs block w inner a passed there within rest) other =
    let e = expanded_on graph v vs block w b count passed there other.walk other.expanded in
    let inside = same_walk graph (visits_from v.used block) (entered w v (fallthrough block.terminal)) inner e.inner e.first within e.within in
    let onward : WalksIn graph vs (left (is_first w v.id) inner v.id) b e.others =
    subst (λ (x : Walk). WalksIn graph vs (left (is_first w v.id) x v.id) b e.others) (sym inside.0) e.rest in
    let behind = same_walk graph vs (left (is_first w v.id) inner v.id) a b e.others rest onward in
    let first = inside.1 in
    let others = behind.1 in
    let sum = e.sum in
    (behind.0, omega (arith, first, others, sum))

module _ (graph : List Pair) (entry : BlockId) (a b : List Pair) (x : IsOrdered graph entry a) (y : IsOrdered graph entry b) where
  same : (x.end ≡ y.end) × (expansions x.walk ≡ expansions y.walk)
  same =
      same_walk graph (visit true entry ∷ []) nothing x.end y.end (expansions y.walk) x.walk (record { walk = y.walk; expanded = refl })

  pub same_order : a ≡ b
  same_order = x.blocks ∙ ap (λ (w : Walk). kept graph w (reverse w.appended)) same.0 ∙ sym y.blocks

  pub same_expansions : expansions x.walk ≡ expansions y.walk
  same_expansions = same.1
