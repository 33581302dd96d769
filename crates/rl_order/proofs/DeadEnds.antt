-- The three removals in a single walk over the blocks.
use Rattle.std.proofs.Common.{◌≡◌, ℕ, ◌+◌, Bool, true, false, if◌then◌else◌, Option, Some, None, List, [], ◌∷◌, ◌++◌, length, drop, fold, append-nil, slice_get, ap, sym, ◌∙◌, refl, arith}
use Rattle.std.specs.Option.{option_to_list}
use Rattle.std.proofs.lemmas.List.{drop_all}
use Rattle.rl_base.specs.declared.ids.BlockId.{BlockId}
use Rattle.rl_hir.specs.Blocks.{Pair, same_id, with_block_at}
use Rattle.rl_hir.specs.declared.terminal.GotoVariant.TheVariants as gotos
use Rattle.rl_hir.specs.declared.terminal.TerminalKind.{TerminalKind}
use Rattle.rl_hir.specs.declared.terminal.TerminalKind.TheVariants as kinds
use Rattle.rl_order.proofs.DeadTries.{drop_pair, next_try}
use Rattle.rl_order.proofs.TakenBlocks.{same_later}
use Rattle.rl_order.proofs.RemovalSteps.{Changing, changing_begin, changing_end, changing_step, value_at}
use Rattle.rl_order.specs.Prune.{cleaned}
use Rattle.rl_order.specs.Removals.{dead_tries, dead_try, is_there, live_do_while, live_for, with_kind, with_kinds, without_dead_do_whiles, without_dead_tries, without_try, without_unreachable_updates}
use Rattle.rl_order.specs.declared.tries.DeadTry.{DeadTry}

-- A loop whose update or test is missing names it no more.
abbrev pub live_kind : (there : BlockId → Bool) → TerminalKind → TerminalKind
live_kind there kind = live_do_while there (live_for there kind)

-- Other kinds of terminals leave the blocks that are there.
there_kinds : (change : TerminalKind → TerminalKind) (pairs : List Pair) (id : BlockId)
    → is_there (with_kinds change pairs) id ≡ is_there pairs id
there_kinds change [] id = refl
there_kinds change (p ∷ pairs) id = by_head (same_id id p.0) refl (there_kinds change pairs id)
  where
    by_head : (b : Bool) → same_id id p.0 ≡ b → is_there (with_kinds change pairs) id ≡ is_there pairs id
        → is_there (with_kinds change (p ∷ pairs)) id ≡ is_there (p ∷ pairs) id
    by_head true e rest = rw e refl
    by_head false e rest = rw e rest

kinds_twice : (first second : TerminalKind → TerminalKind) (pairs : List Pair)
    → with_kinds (λ kind. second (first kind)) pairs ≡ with_kinds second (with_kinds first pairs)
kinds_twice first second [] = refl
kinds_twice first second (p ∷ pairs) =
    ap (λ (t : List Pair). (p.0, with_kind p.1 (second (first p.1.terminal.kind))) ∷ t) (kinds_twice first second pairs)

both_kinds : (pairs : List Pair)
    → with_kinds (live_kind (is_there pairs)) pairs ≡ without_dead_do_whiles (without_unreachable_updates pairs)
both_kinds pairs =
    let updated : List Pair = without_unreachable_updates pairs in
    let there : is_there updated ≡ is_there pairs = λ j. λ id. there_kinds (live_for (is_there pairs)) pairs id j in
    kinds_twice (live_for (is_there pairs)) (live_do_while (is_there pairs)) pairs
    ∙ ap (λ t. with_kinds (live_do_while t) updated) (sym there)

-- Such a change neither makes nor takes a `try`.
same_try : (there : BlockId → Bool) (id : BlockId) (kind : TerminalKind)
    → dead_try there id (live_kind there kind) ≡ dead_try there id kind
same_try there id (kinds.DoWhile body test fallthrough) = by_test (there test)
  where
    by_test : (b : Bool) → dead_try there id (if b then kinds.DoWhile body test fallthrough else kinds.Goto body gotos.Break) ≡ None
    by_test true = refl
    by_test false = refl
same_try there id _ = refl

same_tries : (there : BlockId → Bool) (pairs : List Pair)
    → dead_tries there (with_kinds (live_kind there) pairs) ≡ dead_tries there pairs
same_tries there [] = refl
same_tries there (p ∷ pairs) =
    ap (λ (o : Option DeadTry). option_to_list o ++ dead_tries there (with_kinds (live_kind there) pairs)) (same_try there p.0 p.1.terminal.kind)
    ∙ ap (λ (t : List DeadTry). option_to_list (dead_try there p.0 p.1.terminal.kind) ++ t) (same_tries there pairs)

-- The terminals of `now` before an index are changed, and the dead `try`s before it are listed.
pub record Ending (pairs now : List Pair) (listed : List DeadTry) (index : ℕ) : Type 0 where
  pub kinds : Changing (live_kind (is_there pairs)) pairs now index
  pub tries : listed ++ dead_tries (is_there pairs) (drop index pairs) ≡ dead_tries (is_there pairs) pairs

pub ending_begin : (pairs : List Pair) → Ending pairs pairs [] 0
ending_begin pairs = record { kinds = changing_begin (live_kind (is_there pairs)) pairs; tries = refl }

pub ending_step : (pairs now after : List Pair) (listed more : List DeadTry)
    (index : ℕ) (p : Pair) (dead : Option DeadTry) (kind : TerminalKind)
    → Ending pairs now listed index → slice_get now index ≡ Some p
    → dead ≡ dead_try (is_there now) p.0 p.1.terminal.kind → more ≡ listed ++ option_to_list dead
    → kind ≡ live_kind (is_there now) p.1.terminal.kind → after ≡ with_block_at now index (with_kind p.1 kind)
    → Ending pairs after more (index + 1)
ending_step pairs now after listed more index p dead kind h at tells lists is put =
    let there : is_there now ≡ is_there pairs = λ j. λ id. h.kinds.there id j in
    let here : drop index pairs ≡ p ∷ drop (index + 1) pairs =
    sym h.kinds.rest ∙ drop_pair now index p at ∙ ap (λ (t : List Pair). p ∷ t) (same_later now pairs index h.kinds.rest) in
    record {
      kinds =
          changing_step (live_kind (is_there pairs)) pairs now after index p.1 kind h.kinds (value_at now index p at)
          (is ∙ ap (λ t. live_kind t p.1.terminal.kind) there) put;
      tries =
          next_try (is_there pairs) pairs index p here dead (tells ∙ ap (λ t. dead_try t p.0 p.1.terminal.kind) there)
          listed more lists
          ∙ h.tries;
    }

pub ending_kinds : (pairs now : List Pair) (listed : List DeadTry) (index : ℕ)
    → Ending pairs now listed index → length pairs ≡ index
    → now ≡ without_dead_do_whiles (without_unreachable_updates pairs)
ending_kinds pairs now listed index h all =
    changing_end (live_kind (is_there pairs)) pairs now index h.kinds all ∙ both_kinds pairs

pub ending_tries : (pairs now : List Pair) (listed : List DeadTry) (index : ℕ)
    → Ending pairs now listed index → length pairs ≡ index
    → listed ≡ dead_tries (is_there now) now
ending_tries pairs now listed index h all =
    let there : is_there now ≡ is_there pairs = λ j. λ id. h.kinds.there id j in
    sym (append-nil listed)
    ∙ ap (λ (t : List Pair). listed ++ dead_tries (is_there pairs) t) (sym (drop_all index pairs (omega (arith, all))))
    ∙ h.tries
    ∙ sym (same_tries (is_there pairs) pairs)
    ∙ ap (dead_tries (is_there pairs)) (sym (changing_end (live_kind (is_there pairs)) pairs now index h.kinds all))
    ∙ ap (λ t. dead_tries t now) (sym there)

-- The blocks behind the removals.
pub cleaned_by : (pairs tested left : List Pair) (tries : List DeadTry)
    → tested ≡ without_dead_do_whiles (without_unreachable_updates pairs)
    → tries ≡ dead_tries (is_there tested) tested
    → left ≡ fold (λ now dead. without_try dead now) tested tries → left ≡ cleaned pairs
cleaned_by pairs tested left tries t d l =
    l ∙ ap (λ (all : List DeadTry). fold (λ now dead. without_try dead now) tested all) d
    ∙ ap without_dead_tries t
