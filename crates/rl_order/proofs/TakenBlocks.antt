-- Blocks that are taken out and put back.
use Rattle.std.proofs.Common.{◌≡◌, ℕ, zero, suc, ◌+◌, List, [], ◌∷◌, ◌++◌, length, take, drop, Some, slice_get, get_or, get_or-drop, add-zero, add-one, append_assoc, ap, sym, ◌∙◌, refl}
use Rattle.std.specs.Map.{keys_of, values_of}
use Rattle.indexmap.specs.Layout.{length-set_value_at}
use Rattle.rl_base.specs.declared.ids.BlockId.{BlockId}
use Rattle.rl_hir.specs.Blocks.{Pair, with_block_at}
use Rattle.rl_hir.specs.declared.function.BasicBlock.{BasicBlock}

pub set_twice : (pairs : List Pair) (index : ℕ) (first block : BasicBlock) → with_block_at (with_block_at pairs index first) index block ≡ with_block_at pairs index block
set_twice [] index first block = refl
set_twice (p ∷ pairs) zero first block = refl
set_twice (p ∷ pairs) (suc index) first block = ap (λ (t : List Pair). p ∷ t) (set_twice pairs index first block)

-- A block that was put at an index leaves it free for another.
pub put_back : (pairs after : List Pair) (index : ℕ) (first : BasicBlock) → after ≡ with_block_at pairs index first → (block : BasicBlock)
    → with_block_at after index block ≡ with_block_at pairs index block
put_back pairs after index first is block = ap (λ (t : List Pair). with_block_at t index block) is ∙ set_twice pairs index first block

pub same_count : (pairs after : List Pair) (index : ℕ) (first : BasicBlock) → after ≡ with_block_at pairs index first → length after ≡ length pairs
same_count pairs after index first is = ap length is ∙ length-set_value_at pairs index first

pub keys_put : (pairs : List Pair) (index : ℕ) (block : BasicBlock) → keys_of (with_block_at pairs index block) ≡ keys_of pairs
keys_put [] index block = refl
keys_put (p ∷ pairs) zero block = refl
keys_put (p ∷ pairs) (suc index) block = ap (λ (ids : List BlockId). p.0 ∷ ids) (keys_put pairs index block)

-- The block at an index was replaced by another.
pub record IsReplaced (pairs after : List Pair) (index : ℕ) (old new : BasicBlock) : Type 0 where
  pub id : BlockId
  pub before : drop index pairs ≡ (id, old) ∷ drop (index + 1) pairs
  pub done : take (index + 1) after ≡ take index pairs ++ (id, new) ∷ []
  pub rest : drop (index + 1) after ≡ drop (index + 1) pairs

record Parts (pairs : List Pair) (index : ℕ) (old new : BasicBlock) : Type 0 where
  id : BlockId
  before : drop index pairs ≡ (id, old) ∷ drop (suc index) pairs
  done : take (suc index) (with_block_at pairs index new) ≡ take index pairs ++ (id, new) ∷ []
  rest : drop (suc index) (with_block_at pairs index new) ≡ drop (suc index) pairs

parts : (pairs : List Pair) (index : ℕ) (old new : BasicBlock) → slice_get (values_of pairs) index ≡ Some old → Parts pairs index old new
parts [] index old new at = absurd (cc)
parts (p ∷ pairs) zero old new at =
    let same : p.1 ≡ old = cc in
    record { id = p.0; before = ap (λ (b : BasicBlock). (p.0, b) ∷ pairs) same; done = refl; rest = refl }
parts (p ∷ pairs) (suc index) old new at =
    let inner : Parts pairs index old new = parts pairs index old new at in
    record { id = inner.id; before = inner.before; done = ap (λ (t : List Pair). p ∷ t) inner.done; rest = inner.rest }

pub replaced : (pairs after : List Pair) (index : ℕ) (old new : BasicBlock) → slice_get (values_of pairs) index ≡ Some old → after ≡ with_block_at pairs index new
    → IsReplaced pairs after index old new
replaced pairs after index old new at is =
    let p : Parts pairs index old new = parts pairs index old new at in
    record {
      id = p.id;
      before = rw add-one p.before;
      done = rw add-one (ap (λ (t : List Pair). take (suc index) t) is ∙ p.done);
      rest = rw add-one (ap (λ (t : List Pair). drop (suc index) t) is ∙ p.rest);
    }

-- A further pair joins those in front.
pub one_more : (front : List Pair) (p : Pair) (rest : List Pair) → (front ++ p ∷ []) ++ rest ≡ front ++ p ∷ rest
one_more front p rest = append_assoc front (p ∷ []) rest

-- The pair at an index.
pub first_is : (pairs rest : List Pair) (index : ℕ) (p d : Pair) → drop index pairs ≡ p ∷ rest → get_or pairs index d ≡ p
first_is pairs rest index p d is = ap (λ n. get_or pairs n d) (sym (add-zero index)) ∙ sym (get_or-drop index pairs 0 d) ∙ ap (λ (t : List Pair). get_or t 0 d) is

drop_next : (pairs : List Pair) (index : ℕ) → drop (suc index) pairs ≡ drop 1 (drop index pairs)
drop_next [] zero = refl
drop_next [] (suc index) = refl
drop_next (p ∷ pairs) zero = refl
drop_next (p ∷ pairs) (suc index) = drop_next pairs index

-- Lists that are the same from an index on are so from the next index on.
pub same_later : (now pairs : List Pair) (index : ℕ) → drop index now ≡ drop index pairs → drop (index + 1) now ≡ drop (index + 1) pairs
same_later now pairs index same = rw add-one (drop_next now index ∙ ap (λ (t : List Pair). drop 1 t) same ∙ sym (drop_next pairs index))
