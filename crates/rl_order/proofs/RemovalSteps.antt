-- Steps of the passes that change the kinds of terminals.
use Rattle.std.proofs.Common.{◌≡◌, ℕ, zero, suc, ◌+◌, Bool, true, false, List, [], ◌∷◌, ◌++◌, length, take, drop, append-nil, Some, slice_get, ap, sym, ◌∙◌, refl, arith}
use Rattle.std.specs.Map.{keys_of, values_of}
use Rattle.std.proofs.lemmas.List.{drop_all, take_all}
use Rattle.rl_base.specs.declared.ids.BlockId.{BlockId}
use Rattle.rl_hir.specs.Blocks.{Pair, same_id, with_block_at}
use Rattle.rl_hir.specs.declared.function.BasicBlock.{BasicBlock}
use Rattle.rl_hir.specs.declared.terminal.TerminalKind.{TerminalKind}
use Rattle.rl_order.proofs.TakenBlocks.{IsReplaced, keys_put, one_more, replaced, same_count, same_later}
use Rattle.rl_order.specs.Removals.{is_there, with_kind, with_kinds}

pub unchanged : (pairs : List Pair) (index : ℕ) (block : BasicBlock) → slice_get (values_of pairs) index ≡ Some block → pairs ≡ with_block_at pairs index block
unchanged [] index block at = refl
unchanged (p ∷ pairs) zero block at = let same : p.1 ≡ block = cc in ap (λ (b : BasicBlock). (p.0, b) ∷ pairs) same
unchanged (p ∷ pairs) (suc index) block at = ap (λ (t : List Pair). p ∷ t) (unchanged pairs index block at)

pub value_at : (pairs : List Pair) (index : ℕ) (p : Pair) → slice_get pairs index ≡ Some p → slice_get (values_of pairs) index ≡ Some p.1
value_at [] index p at = absurd (cc)
value_at (q ∷ pairs) zero p at = let same : q ≡ p = cc in ap (λ (r : Pair). Some r.1) same
value_at (q ∷ pairs) (suc index) p at = value_at pairs index p at

-- Another block in a pair leaves the blocks that are there.
still_there : (pairs : List Pair) (index : ℕ) (block : BasicBlock) (id : BlockId) → is_there (with_block_at pairs index block) id ≡ is_there pairs id
still_there [] index block id = refl
still_there (p ∷ pairs) zero block id = by_head (same_id id p.0) refl
  where
    by_head : (b : Bool) → same_id id p.0 ≡ b → is_there ((p.0, block) ∷ pairs) id ≡ is_there (p ∷ pairs) id
    by_head true e = rw e refl
    by_head false e = rw e refl
still_there (p ∷ pairs) (suc index) block id = by_head (same_id id p.0) refl (still_there pairs index block id)
  where
    by_head : (b : Bool) → same_id id p.0 ≡ b → is_there (with_block_at pairs index block) id ≡ is_there pairs id → is_there (p ∷ with_block_at pairs index block) id ≡ is_there (p ∷ pairs) id
    by_head true e rest = rw e refl
    by_head false e rest = rw e rest

-- The terminals of `now` before an index are changed, those of `pairs` from there on are not yet.
pub record Changing (change : TerminalKind → TerminalKind) (pairs now : List Pair) (index : ℕ) : Type 0 where
  pub blocks : take index now ++ with_kinds change (drop index now) ≡ with_kinds change pairs
  pub rest : drop index now ≡ drop index pairs
  pub count : length now ≡ length pairs
  pub there : (id : BlockId) → is_there now id ≡ is_there pairs id
  pub keys : keys_of now ≡ keys_of pairs

pub changing_begin : (change : TerminalKind → TerminalKind) (pairs : List Pair) → Changing change pairs pairs 0
changing_begin change pairs = record { blocks = refl; rest = refl; count = refl; there = λ id. refl; keys = refl }

pub changing_step : (change : TerminalKind → TerminalKind) (pairs now after : List Pair) (index : ℕ) (block : BasicBlock) (kind : TerminalKind)
    → Changing change pairs now index → slice_get (values_of now) index ≡ Some block → kind ≡ change block.terminal.kind
    → after ≡ with_block_at now index (with_kind block kind) → Changing change pairs after (index + 1)
changing_step change pairs now after index block kind h at is put =
    let new : BasicBlock = with_kind block kind in
    let r : IsReplaced now after index block new = replaced now after index block new at put in
    record {
      blocks =
          ap (λ (t : List Pair). t ++ with_kinds change (drop (index + 1) after)) r.done
          ∙ ap (λ (t : List Pair). (take index now ++ (r.id, new) ∷ []) ++ with_kinds change t) r.rest
          ∙ one_more (take index now) (r.id, new) (with_kinds change (drop (index + 1) now))
          ∙ ap (λ k. take index now ++ (r.id, with_kind block k) ∷ with_kinds change (drop (index + 1) now)) is
          ∙ ap (λ (t : List Pair). take index now ++ with_kinds change t) (sym r.before)
          ∙ h.blocks;
      rest = r.rest ∙ same_later now pairs index h.rest;
      count = same_count now after index new put ∙ h.count;
      there = λ id. ap (λ (t : List Pair). is_there t id) put ∙ still_there now index new id ∙ h.there id;
      keys = ap keys_of put ∙ keys_put now index new ∙ h.keys;
    }

-- The kinds of blocks by what is there are the same with the blocks that were there at first.
pub same_kind : (kind_in : (BlockId → Bool) → TerminalKind → TerminalKind) (pairs now : List Pair) → ((id : BlockId) → is_there now id ≡ is_there pairs id)
    → (kind : TerminalKind) → kind_in (is_there now) kind ≡ kind_in (is_there pairs) kind
same_kind kind_in pairs now there kind = let same : is_there now ≡ is_there pairs = λ j. λ id. there id j in ap (λ t. kind_in t kind) same

pub changing_end : (change : TerminalKind → TerminalKind) (pairs now : List Pair) (index : ℕ) → Changing change pairs now index → length pairs ≡ index → now ≡ with_kinds change pairs
changing_end change pairs now index h all =
    sym (append-nil now)
    ∙ ap (λ (t : List Pair). t ++ with_kinds change []) (sym (take_all index now (omega (arith, h.count))))
    ∙ ap (λ (t : List Pair). take index now ++ with_kinds change t) (sym (drop_all index now (omega (arith, h.count))))
    ∙ h.blocks
