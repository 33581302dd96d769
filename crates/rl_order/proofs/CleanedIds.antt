-- The ids of blocks through the removals, the numbering and the predecessors.
use Rattle.std.proofs.Common.{◌≡◌, ℕ, Bool, true, false, not, List, [], ◌∷◌, filter, fold, refl, sym, ap, ◌∙◌, subst, Result, Ok, Err, OnErr}
use Rattle.std.specs.Map.{keys_of}
use Rattle.rl_base.specs.declared.ids.BlockId.{BlockId}
use Rattle.rl_hir.specs.Blocks.{Pair}
use Rattle.rl_hir.specs.declared.terminal.TerminalKind.{TerminalKind}
use Rattle.rl_order.proofs.DeadTries.{keys_changed}
use Rattle.rl_order.specs.Numbering.{order_after, ordered_blocks}
use Rattle.rl_order.specs.Prune.{Drops, Ends, IsPart, Keeps, cleaned}
use Rattle.rl_order.specs.Removals.{dead_tries, ended_by_goto, is_lost, is_there, live_do_while, live_for, with_changed, with_kinds, without_dead_do_whiles, without_predecessor, without_try, without_unreachable_updates}
use Rattle.rl_order.specs.declared.tries.DeadTry.{DeadTry}

part_all : (ids : List BlockId) → IsPart ids ids
part_all [] = Ends
part_all (id ∷ ids) = Keeps id ids ids (part_all ids)

-- A fact that holds in any case holds of an error.
pub on_err : {T E : Type 0} (r : Result T E) {P : Type 0} → P → OnErr r P
on_err (Ok x) h = tt
on_err (Err e) h = h

-- The ids of blocks with the ids of others are a part of theirs.
pub same_part : (pairs others : List Pair) → keys_of pairs ≡ keys_of others → IsPart (keys_of pairs) (keys_of others)
same_part pairs others same = subst (λ (ids : List BlockId). IsPart (keys_of pairs) ids) same (part_all (keys_of pairs))

part_then : (a b c : List BlockId) → IsPart a b → IsPart b c → IsPart a c
part_then a _ _ h Ends = h
part_then a _ _ h (Drops id b c k) = Drops id a c (part_then a b c h k)
part_then _ _ _ (Keeps _ a _ h) (Keeps id b c k) = Keeps id a c (part_then a b c h k)
part_then a _ _ (Drops _ _ _ h) (Keeps id b c k) = Drops id a c (part_then a b c h k)

filter_part : (test : Pair → Bool) (pairs : List Pair) → IsPart (keys_of (filter test pairs)) (keys_of pairs)
filter_part test [] = Ends
filter_part test (p ∷ pairs) = by_test (test p) refl (filter_part test pairs)
  where
    by_test : (b : Bool) → test p ≡ b → IsPart (keys_of (filter test pairs)) (keys_of pairs)
        → IsPart (keys_of (filter test (p ∷ pairs))) (keys_of (p ∷ pairs))
    by_test true is rest = rw is (Keeps p.0 (keys_of (filter test pairs)) (keys_of pairs) rest)
    by_test false is rest = rw is (Drops p.0 (keys_of (filter test pairs)) (keys_of pairs) rest)

kinds_keys : (change : TerminalKind → TerminalKind) (pairs : List Pair) → keys_of (with_kinds change pairs) ≡ keys_of pairs
kinds_keys change [] = refl
kinds_keys change (p ∷ pairs) = ap (λ (ids : List BlockId). p.0 ∷ ids) (kinds_keys change pairs)

try_part : (dead : DeadTry) (pairs : List Pair) → IsPart (keys_of (without_try dead pairs)) (keys_of pairs)
try_part dead pairs =
    let ended : List Pair = with_changed dead.id (ended_by_goto dead.block) pairs in
    let left : List Pair = filter (λ p. not (is_lost dead p)) ended in
    let first : keys_of ended ≡ keys_of pairs = keys_changed dead.id (ended_by_goto dead.block) pairs in
    let third : keys_of (without_try dead pairs) ≡ keys_of left = keys_changed dead.fallthrough (without_predecessor dead.handler) left in
    subst (λ (ids : List BlockId). IsPart ids (keys_of pairs)) (sym third)
    (subst (λ (ids : List BlockId). IsPart (keys_of left) ids) first (filter_part (λ p. not (is_lost dead p)) ended))

tries_part : (tries : List DeadTry) (pairs : List Pair) → IsPart (keys_of (fold (λ now dead. without_try dead now) pairs tries)) (keys_of pairs)
tries_part [] pairs = part_all (keys_of pairs)
tries_part (dead ∷ tries) pairs =
    part_then (keys_of (fold (λ now dead. without_try dead now) (without_try dead pairs) tries)) (keys_of (without_try dead pairs)) (keys_of pairs)
    (tries_part tries (without_try dead pairs)) (try_part dead pairs)

cleaned_part : (pairs : List Pair) → IsPart (keys_of (cleaned pairs)) (keys_of pairs)
cleaned_part pairs =
    let fors : List Pair = without_unreachable_updates pairs in
    let whiles : List Pair = without_dead_do_whiles fors in
    subst (λ (ids : List BlockId). IsPart (keys_of (cleaned pairs)) ids)
    (kinds_keys (live_do_while (is_there fors)) fors ∙ kinds_keys (live_for (is_there pairs)) pairs)
    (tries_part (dead_tries (is_there whiles) whiles) whiles)

ordered_keys : (order : ℕ) (pairs : List Pair) → keys_of (ordered_blocks order pairs) ≡ keys_of pairs
ordered_keys order [] = refl
ordered_keys order (p ∷ pairs) = ap (λ (ids : List BlockId). p.0 ∷ ids) (ordered_keys (order_after order p) pairs)

-- The ids behind the removals and the numbering are a part of those before.
pub numbered_part : (pairs clean numbered : List Pair) → clean ≡ cleaned pairs → numbered ≡ ordered_blocks 1 clean
    → IsPart (keys_of numbered) (keys_of pairs)
numbered_part pairs clean numbered c n =
    subst (λ (ids : List BlockId). IsPart ids (keys_of pairs)) (sym (ap keys_of n ∙ ordered_keys 1 clean ∙ ap keys_of c)) (cleaned_part pairs)
