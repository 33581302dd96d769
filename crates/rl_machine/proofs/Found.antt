-- The blocks of a graph through the passes: each keeps its instructions, and the kind of its terminal is that which the removals give.
use Rattle.std.proofs.Common.{◌≡◌, ℕ, Bool, true, false, not, ◌&&◌, cond, if◌then◌else◌, Option, Some, None, List, [], ◌∷◌, ◌++◌, map, filter, fold, refl, sym, ap, ◌∙◌, subst, eq-eqb, eqb-true}
use Rattle.std.specs.Prelude.{nat_eq, is_some}
use Rattle.std.specs.Option.{option_to_list}
use Rattle.rl_base.specs.Distinct.{AreDistinct}
use Rattle.rl_base.proofs.DistinctLists.{IsIn, distinct_head, distinct_tail, in_head, in_tail}
use Rattle.rl_base.specs.declared.ids.BlockId.{BlockId}
use Rattle.rl_base.specs.declared.ids.InstructionId.{InstructionId}
use Rattle.rl_hir.specs.Blocks.{HaveOwnIds, Pair, block_at, ids, same_id}
use Rattle.rl_hir.specs.declared.function.BasicBlock.{BasicBlock}
use Rattle.rl_hir.specs.declared.terminal.GotoVariant.TheVariants as gotos
use Rattle.rl_hir.specs.declared.terminal.TerminalKind.{TerminalKind}
use Rattle.rl_hir.specs.declared.terminal.TerminalKind.TheVariants as kinds
use Rattle.rl_order.specs.Numbering.{ordered_block, ordered_blocks, order_after}
use Rattle.rl_order.specs.PredecessorWalk.{sources, with_predecessors}
use Rattle.rl_order.specs.Removals.{dead_tries, dead_try, ended_by_goto, is_alone, is_lost, is_there, live_do_while, live_for, with_changed, with_kind, with_kinds, without_dead_do_whiles, without_dead_tries, without_predecessor, without_try, without_unreachable_updates}
use Rattle.rl_order.specs.declared.predecessors.Edge.{Edge}
use Rattle.rl_order.specs.declared.tries.DeadTry.{DeadTry}

-- The block of an id lists these instructions, and ends in this kind of terminal.
pub record Found (pairs : List Pair) (id : BlockId) (listed : List InstructionId) (kind : TerminalKind) : Type 0 where
  pub block : BasicBlock
  pub there : block_at pairs id ≡ Some block
  pub lists : block.instructions ≡ listed
  pub ends : block.terminal.kind ≡ kind

-- No block has a predecessor.
abbrev pub NoPreds : List Pair → Type 0
NoPreds [] = Unit {0}
NoPreds (p ∷ pairs) = (p.1.preds ≡ []) × NoPreds pairs

same_key : (a b : BlockId) → nat_eq a.0 b.0 ≡ true → b ≡ a
same_key a b e = let same : a.0 ≡ b.0 = eqb-true a.0 b.0 e in ap (λ (n : ℕ). record { 0 = n }) (sym same)

at_change : (change : Pair → BasicBlock) (pairs : List Pair) (id : BlockId) (block : BasicBlock) → block_at pairs id ≡ Some block
    → block_at (map (λ (p : Pair). (p.0, change p)) pairs) id ≡ Some (change (id, block))
at_change change [] id block is = absurd (cc)
at_change change (p ∷ pairs) id block is = by_head (nat_eq id.0 p.0.0) refl (at_change change pairs id block)
  where
    by_head : (b : Bool) → nat_eq id.0 p.0.0 ≡ b
        → (block_at pairs id ≡ Some block → block_at (map (λ (q : Pair). (q.0, change q)) pairs) id ≡ Some (change (id, block)))
        → block_at (map (λ (q : Pair). (q.0, change q)) (p ∷ pairs)) id ≡ Some (change (id, block))
    by_head true e rest =
        let here : Some p.1 ≡ Some block = sym (ap (λ b. cond b (Some p.1) (block_at pairs id)) e) ∙ is in
        let value : p.1 ≡ block = cc in
        ap (λ b. cond b (Some (change p)) (block_at (map (λ (q : Pair). (q.0, change q)) pairs) id)) e
        ∙ ap (λ (k : BlockId). Some (change (k, p.1))) (same_key id p.0 e)
        ∙ ap (λ (v : BasicBlock). Some (change (id, v))) value
    by_head false e rest =
        ap (λ b. cond b (Some (change p)) (block_at (map (λ (q : Pair). (q.0, change q)) pairs) id)) e
        ∙ rest (sym (ap (λ b. cond b (Some p.1) (block_at pairs id)) e) ∙ is)

-- A change that keeps instructions, and gives the terminal another kind.
found_change : (change : Pair → BasicBlock) (pairs : List Pair) (id : BlockId) (listed : List InstructionId) (kind kind1 : TerminalKind)
    → ((block : BasicBlock) → (change (id, block)).instructions ≡ block.instructions)
    → ((block : BasicBlock) → block.terminal.kind ≡ kind → (change (id, block)).terminal.kind ≡ kind1)
    → Found pairs id listed kind → Found (map (λ (p : Pair). (p.0, change p)) pairs) id listed kind1
found_change change pairs id listed kind kind1 keeps gives f = record {
  block = change (id, f.block);
  there = at_change change pairs id f.block f.there;
  lists = keeps f.block ∙ f.lists;
  ends = gives f.block f.ends;
}

found_kinds : (change : TerminalKind → TerminalKind) (pairs : List Pair) (id : BlockId) (listed : List InstructionId) (kind : TerminalKind)
    → Found pairs id listed kind → Found (with_kinds change pairs) id listed (change kind)
found_kinds change pairs id listed kind f =
    found_change (λ p. with_kind p.1 (change p.1.terminal.kind)) pairs id listed kind (change kind) (λ block. refl) (λ block e. ap change e) f

-- A change of one block that keeps its instructions and its terminal.
found_beside : (x : BlockId) (change : BasicBlock → BasicBlock) (pairs : List Pair) (id : BlockId) (listed : List InstructionId) (kind : TerminalKind)
    → ((block : BasicBlock) → (change block).instructions ≡ block.instructions) → ((block : BasicBlock) → (change block).terminal ≡ block.terminal)
    → Found pairs id listed kind → Found (with_changed x change pairs) id listed kind
found_beside x change pairs id listed kind keeps same f =
    found_change (λ p. if same_id x p.0 then change p.1 else p.1) pairs id listed kind kind
    (λ block. lists (same_id x id) block) (λ block e. ends (same_id x id) block e) f
  where
    lists : (b : Bool) (block : BasicBlock) → (if b then change block else block).instructions ≡ block.instructions
    lists true block = keeps block
    lists false block = refl

    ends : (b : Bool) (block : BasicBlock) → block.terminal.kind ≡ kind → (if b then change block else block).terminal.kind ≡ kind
    ends true block e = ap (λ t. t.kind) (same block) ∙ e
    ends false block e = e

found_other : (x target : BlockId) (pairs : List Pair) (id : BlockId) (listed : List InstructionId) (kind : TerminalKind) → same_id x id ≡ false
    → Found pairs id listed kind → Found (with_changed x (ended_by_goto target) pairs) id listed kind
found_other x target pairs id listed kind other f =
    found_change (λ p. if same_id x p.0 then ended_by_goto target p.1 else p.1) pairs id listed kind kind
    (λ block. ap (λ b. (if b then ended_by_goto target block else block).instructions) other)
    (λ block e. ap (λ b. (if b then ended_by_goto target block else block).terminal.kind) other ∙ e) f

found_goto : (x target : BlockId) (pairs : List Pair) (id : BlockId) (listed : List InstructionId) (kind : TerminalKind) → same_id x id ≡ true
    → Found pairs id listed kind → Found (with_changed x (ended_by_goto target) pairs) id listed (kinds.Goto target gotos.Break)
found_goto x target pairs id listed kind same f =
    found_change (λ p. if same_id x p.0 then ended_by_goto target p.1 else p.1) pairs id listed kind (kinds.Goto target gotos.Break)
    (λ block. ap (λ b. (if b then ended_by_goto target block else block).instructions) same)
    (λ block e. ap (λ b. (if b then ended_by_goto target block else block).terminal.kind) same) f

no_preds_change : (change : Pair → BasicBlock) (pairs : List Pair) → ((p : Pair) → p.1.preds ≡ [] → (change p).preds ≡ []) → NoPreds pairs
    → NoPreds (map (λ (p : Pair). (p.0, change p)) pairs)
no_preds_change change [] keeps n = n
no_preds_change change (p ∷ pairs) keeps n = (keeps p n.0, no_preds_change change pairs keeps n.1)

pub no_preds_kinds : (change : TerminalKind → TerminalKind) (pairs : List Pair) → NoPreds pairs → NoPreds (with_kinds change pairs)
no_preds_kinds change pairs n = no_preds_change (λ p. with_kind p.1 (change p.1.terminal.kind)) pairs (λ p e. e) n

no_preds_changed : (x : BlockId) (change : BasicBlock → BasicBlock) (pairs : List Pair) → ((block : BasicBlock) → block.preds ≡ [] → (change block).preds ≡ []) → NoPreds pairs
    → NoPreds (with_changed x change pairs)
no_preds_changed x change pairs keeps n =
    no_preds_change (λ p. if same_id x p.0 then change p.1 else p.1) pairs (λ p e. by_id (same_id x p.0) p e) n
  where
    by_id : (b : Bool) (p : Pair) → p.1.preds ≡ [] → (if b then change p.1 else p.1).preds ≡ []
    by_id true p e = keeps p.1 e
    by_id false p e = e

-- No fallthrough is lost if no block has a predecessor.
none_lost : (dead : DeadTry) (pairs : List Pair) → NoPreds pairs → filter (λ p. not (is_lost dead p)) pairs ≡ pairs
none_lost dead [] n = refl
none_lost dead (p ∷ pairs) n =
    let lost : is_lost dead p ≡ false = ap (λ (preds : List BlockId). same_id dead.fallthrough p.0 && is_alone dead.handler preds) n.0 ∙ never (same_id dead.fallthrough p.0) in
    rw lost (ap (λ (t : List Pair). p ∷ t) (none_lost dead pairs n.1))
  where
    never : (b : Bool) → (b && false) ≡ false
    never true = refl
    never false = refl

pub tried : (dead : DeadTry) (now : List Pair) → NoPreds now
    → without_try dead now ≡ with_changed dead.fallthrough (without_predecessor dead.handler) (with_changed dead.id (ended_by_goto dead.block) now)
tried dead now n =
    ap (λ (t : List Pair). with_changed dead.fallthrough (without_predecessor dead.handler) t)
    (none_lost dead (with_changed dead.id (ended_by_goto dead.block) now) (no_preds_changed dead.id (ended_by_goto dead.block) now (λ block e. e) n))

pub no_preds_tried : (dead : DeadTry) (now : List Pair) → NoPreds now → NoPreds (without_try dead now)
no_preds_tried dead now n =
    subst (λ (t : List Pair). NoPreds t) (sym (tried dead now n))
    (no_preds_changed dead.fallthrough (without_predecessor dead.handler) (with_changed dead.id (ended_by_goto dead.block) now)
    (λ block e. ap (λ (preds : List BlockId). filter (λ other. not (same_id dead.handler other)) preds) e)
    (no_preds_changed dead.id (ended_by_goto dead.block) now (λ block e. e) n))

try_other : (dead : DeadTry) (now : List Pair) (id : BlockId) (listed : List InstructionId) (kind : TerminalKind) → NoPreds now → same_id dead.id id ≡ false
    → Found now id listed kind → Found (without_try dead now) id listed kind
try_other dead now id listed kind n other f =
    subst (λ (t : List Pair). Found t id listed kind) (sym (tried dead now n))
    (found_beside dead.fallthrough (without_predecessor dead.handler) (with_changed dead.id (ended_by_goto dead.block) now) id listed kind (λ block. refl) (λ block. refl)
    (found_other dead.id dead.block now id listed kind other f))

try_same : (dead : DeadTry) (now : List Pair) (id : BlockId) (listed : List InstructionId) (kind : TerminalKind) → NoPreds now → same_id dead.id id ≡ true
    → Found now id listed kind → Found (without_try dead now) id listed (kinds.Goto dead.block gotos.Break)
try_same dead now id listed kind n same f =
    subst (λ (t : List Pair). Found t id listed (kinds.Goto dead.block gotos.Break)) (sym (tried dead now n))
    (found_beside dead.fallthrough (without_predecessor dead.handler) (with_changed dead.id (ended_by_goto dead.block) now) id listed (kinds.Goto dead.block gotos.Break) (λ block. refl) (λ block. refl)
    (found_goto dead.id dead.block now id listed kind same f))

dead_id : (there : BlockId → Bool) (id : BlockId) (kind : TerminalKind) (dead : DeadTry) → dead_try there id kind ≡ Some dead → dead.id ≡ id
dead_id there id (kinds.Goto b v) dead e = absurd (cc)
dead_id there id (kinds.If t c a f) dead e = absurd (cc)
dead_id there id (kinds.Branch t c a f) dead e = absurd (cc)
dead_id there id (kinds.Switch t cs f) dead e = absurd (cc)
dead_id there id (kinds.Logical o t f) dead e = absurd (cc)
dead_id there id (kinds.Ternary t f) dead e = absurd (cc)
dead_id there id (kinds.Optional o t f) dead e = absurd (cc)
dead_id there id (kinds.Sequence b f) dead e = absurd (cc)
dead_id there id (kinds.Label b f) dead e = absurd (cc)
dead_id there id (kinds.Try b binding h f) dead e = by_handler (there h) e
  where
    by_handler : (x : Bool) → (if x then None else Some (record { id = id; block = b; handler = h; fallthrough = f })) ≡ Some dead → dead.id ≡ id
    by_handler true is = absurd (cc)
    by_handler false is = (let same : record { id = id; block = b; handler = h; fallthrough = f } ≡ dead = cc in sym (ap (λ (d : DeadTry). d.id) same))
dead_id there id (kinds.While t b f) dead e = absurd (cc)
dead_id there id (kinds.DoWhile b t f) dead e = absurd (cc)
dead_id there id (kinds.For i t u b f) dead e = absurd (cc)
dead_id there id (kinds.ForIn i b f) dead e = absurd (cc)
dead_id there id (kinds.ForOf i t b f) dead e = absurd (cc)
dead_id there id (kinds.MaybeThrow b h) dead e = absurd (cc)
dead_id there id (kinds.Return v p) dead e = absurd (cc)
dead_id there id (kinds.Throw p) dead e = absurd (cc)
dead_id there id kinds.Unreachable dead e = absurd (cc)

-- The kind in place of that of a `try` that is dropped.
abbrev pub with_dead : Option DeadTry → TerminalKind → TerminalKind
with_dead None kind = kind
with_dead (Some dead) kind = kinds.Goto dead.block gotos.Break

abbrev all_tried : List Pair → List DeadTry → List Pair
all_tried now tries = fold (λ before dead. without_try dead before) now tries

differs : (a b : BlockId) → (a.0 ≡ b.0 → ⊥) → same_id a b ≡ false
differs a b ne = Rattle.std.proofs.lemmas.Bool.ne_eqb a.0 b.0 ne

-- The tries of other blocks change nothing in a block.
tries_beside : (there : BlockId → Bool) (rest now : List Pair) (id : BlockId) (listed : List InstructionId) (kind : TerminalKind)
    → (IsIn (ids rest) id.0 → ⊥) → NoPreds now → Found now id listed kind → Found (all_tried now (dead_tries there rest)) id listed kind
tries_beside there [] now id listed kind beside n f = f
tries_beside there (p ∷ rest) now id listed kind beside n f =
    by_try (dead_try there p.0 p.1.terminal.kind) refl (λ next m g. tries_beside there rest next id listed kind (λ h. beside (in_tail p.0.0 (ids rest) id.0 h)) m g)
  where
    by_try : (o : Option DeadTry) → dead_try there p.0 p.1.terminal.kind ≡ o
        → ((next : List Pair) → NoPreds next → Found next id listed kind → Found (all_tried next (dead_tries there rest)) id listed kind)
        → Found (all_tried now (option_to_list o ++ dead_tries there rest)) id listed kind
    by_try None e rest_tried = rest_tried now n f
    by_try (Some dead) e rest_tried =
        let key : dead.id ≡ p.0 = dead_id there p.0 p.1.terminal.kind dead e in
        let other : dead.id.0 ≡ id.0 → ⊥ = (λ same. beside (subst (λ m. IsIn (p.0.0 ∷ ids rest) m) (sym (ap (λ (k : BlockId). k.0) key) ∙ same) (in_head p.0.0 (ids rest)))) in
        rest_tried (without_try dead now) (no_preds_tried dead now n) (try_other dead now id listed kind n (differs dead.id id other) f)

-- The tries take the dead one from a block.
tries_at : (there : BlockId → Bool) (rest now : List Pair) (id : BlockId) (block : BasicBlock) (listed : List InstructionId) → AreDistinct (ids rest)
    → block_at rest id ≡ Some block → NoPreds now → Found now id listed block.terminal.kind
    → Found (all_tried now (dead_tries there rest)) id listed (with_dead (dead_try there id block.terminal.kind) block.terminal.kind)
tries_at there [] now id block listed d is n f = absurd (cc)
tries_at there (p ∷ rest) now id block listed d is n f =
    by_head (nat_eq id.0 p.0.0) refl (λ next m g there_rest. tries_at there rest next id block listed (distinct_tail p.0.0 (ids rest) d) there_rest m g)
  where
    Result : List Pair → Type 0
    Result pairs = Found pairs id listed (with_dead (dead_try there id block.terminal.kind) block.terminal.kind)

    by_head : (b : Bool) → nat_eq id.0 p.0.0 ≡ b
        → ((next : List Pair) → NoPreds next → Found next id listed block.terminal.kind → block_at rest id ≡ Some block → Found (all_tried next (dead_tries there rest)) id listed (with_dead (dead_try there id block.terminal.kind) block.terminal.kind))
        → Found (all_tried now (option_to_list (dead_try there p.0 p.1.terminal.kind) ++ dead_tries there rest)) id listed (with_dead (dead_try there id block.terminal.kind) block.terminal.kind)
    by_head true e rest_tried =
        let here : Some p.1 ≡ Some block = sym (ap (λ b. cond b (Some p.1) (block_at rest id)) e) ∙ is in
        let value : p.1 ≡ block = cc in
        let key : p.0 ≡ id = same_key id p.0 e in
        let same : dead_try there p.0 p.1.terminal.kind ≡ dead_try there id block.terminal.kind =
        ap (λ (k : BlockId). dead_try there k p.1.terminal.kind) key ∙ ap (λ (v : BasicBlock). dead_try there id v.terminal.kind) value in
        subst (λ (o : Option DeadTry). Found (all_tried now (option_to_list o ++ dead_tries there rest)) id listed (with_dead (dead_try there id block.terminal.kind) block.terminal.kind)) (sym same)
        (own (dead_try there id block.terminal.kind) refl (subst (λ (k : BlockId). IsIn (ids rest) k.0 → ⊥) key (distinct_head p.0.0 (ids rest) d)))
      where
        own : (o : Option DeadTry) → dead_try there id block.terminal.kind ≡ o → (IsIn (ids rest) id.0 → ⊥)
            → Found (all_tried now (option_to_list o ++ dead_tries there rest)) id listed (with_dead o block.terminal.kind)
        own None found once = tries_beside there rest now id listed block.terminal.kind once n f
        own (Some dead) found once =
            let own_id : dead.id ≡ id = dead_id there id block.terminal.kind dead found in
            tries_beside there rest (without_try dead now) id listed (kinds.Goto dead.block gotos.Break) once (no_preds_tried dead now n)
            (try_same dead now id listed block.terminal.kind n (eq-eqb dead.id.0 id.0 (ap (λ (k : BlockId). k.0) own_id)) f)
    by_head false e rest_tried =
        let later : block_at rest id ≡ Some block = sym (ap (λ b. cond b (Some p.1) (block_at rest id)) e) ∙ is in
        other (dead_try there p.0 p.1.terminal.kind) refl later rest_tried
      where
        other : (o : Option DeadTry) → dead_try there p.0 p.1.terminal.kind ≡ o → block_at rest id ≡ Some block
            → ((next : List Pair) → NoPreds next → Found next id listed block.terminal.kind → block_at rest id ≡ Some block → Found (all_tried next (dead_tries there rest)) id listed (with_dead (dead_try there id block.terminal.kind) block.terminal.kind))
            → Found (all_tried now (option_to_list o ++ dead_tries there rest)) id listed (with_dead (dead_try there id block.terminal.kind) block.terminal.kind)
        other None found later go = go now n f later
        other (Some dead) found later go =
            let key : dead.id ≡ p.0 = dead_id there p.0 p.1.terminal.kind dead found in
            let ne : dead.id.0 ≡ id.0 → ⊥ = (λ same. (let bad : nat_eq id.0 p.0.0 ≡ true = eq-eqb id.0 p.0.0 (sym same ∙ ap (λ (k : BlockId). k.0) key) in let never : true ≡ false = sym bad ∙ e in absurd (cc))) in
            go (without_try dead now) (no_preds_tried dead now n) (try_other dead now id listed block.terminal.kind n (differs dead.id id ne) f) later

pub found_tries : (pairs : List Pair) (id : BlockId) (listed : List InstructionId) (kind : TerminalKind) → HaveOwnIds pairs → NoPreds pairs → Found pairs id listed kind
    → Found (without_dead_tries pairs) id listed (with_dead (dead_try (is_there pairs) id kind) kind)
found_tries pairs id listed kind own n f =
    subst (λ (k : TerminalKind). Found (without_dead_tries pairs) id listed (with_dead (dead_try (is_there pairs) id k) k)) f.ends
    (tries_at (is_there pairs) pairs pairs id f.block listed own f.there n (record { block = f.block; there = f.there; lists = f.lists; ends = refl }))

found_ordered : (order : ℕ) (pairs : List Pair) (id : BlockId) (listed : List InstructionId) (kind : TerminalKind) → Found pairs id listed kind
    → Found (ordered_blocks order pairs) id listed kind
found_ordered order [] id listed kind f = let never : block_at [] id ≡ Some f.block = f.there in absurd (cc)
found_ordered order (p ∷ pairs) id listed kind f = by_head (nat_eq id.0 p.0.0) refl (λ g. found_ordered (order_after order p) pairs id listed kind g)
  where
    by_head : (b : Bool) → nat_eq id.0 p.0.0 ≡ b → (Found pairs id listed kind → Found (ordered_blocks (order_after order p) pairs) id listed kind)
        → Found (ordered_block order p ∷ ordered_blocks (order_after order p) pairs) id listed kind
    by_head true e rest =
        let here : Some p.1 ≡ Some f.block = sym (ap (λ b. cond b (Some p.1) (block_at pairs id)) e) ∙ f.there in
        let value : p.1 ≡ f.block = cc in
        record {
          block = (ordered_block order p).1;
          there = ap (λ b. cond b (Some (ordered_block order p).1) (block_at (ordered_blocks (order_after order p) pairs) id)) e;
          lists = ap (λ (v : BasicBlock). v.instructions) value ∙ f.lists;
          ends = ap (λ (v : BasicBlock). v.terminal.kind) value ∙ f.ends;
        }
    by_head false e rest =
        let g : Found (ordered_blocks (order_after order p) pairs) id listed kind = rest (record { block = f.block; there = sym (ap (λ b. cond b (Some p.1) (block_at pairs id)) e) ∙ f.there; lists = f.lists; ends = f.ends }) in
        record { block = g.block; there = ap (λ b. cond b (Some (ordered_block order p).1) (block_at (ordered_blocks (order_after order p) pairs) id)) e ∙ g.there; lists = g.lists; ends = g.ends }

found_predecessors : (edges : List Edge) (pairs : List Pair) (id : BlockId) (listed : List InstructionId) (kind : TerminalKind) → Found pairs id listed kind
    → Found (with_predecessors edges pairs) id listed kind
found_predecessors edges pairs id listed kind f =
    found_change (λ p. record p.1 { preds = sources edges p.0 }) pairs id listed kind kind (λ block. refl) (λ block e. e) f

there_kinds : (change : TerminalKind → TerminalKind) (pairs : List Pair) (id : BlockId) → is_there (with_kinds change pairs) id ≡ is_there pairs id
there_kinds change [] id = refl
there_kinds change (p ∷ pairs) id = by_head (nat_eq id.0 p.0.0) (there_kinds change pairs id)
  where
    by_head : (b : Bool) → is_there (with_kinds change pairs) id ≡ is_there pairs id
        → is_some (cond b (Some (with_kind p.1 (change p.1.terminal.kind))) (block_at (with_kinds change pairs) id)) ≡ is_some (cond b (Some p.1) (block_at pairs id))
    by_head true rest = refl
    by_head false rest = rest

ids_kinds : (change : TerminalKind → TerminalKind) (pairs : List Pair) → ids (with_kinds change pairs) ≡ ids pairs
ids_kinds change [] = refl
ids_kinds change (p ∷ pairs) = ap (λ (t : List ℕ). p.0.0 ∷ t) (ids_kinds change pairs)

-- The blocks after the removals, the numbering and the predecessors.
abbrev pub passed_blocks : List Edge → List Pair → List Pair
passed_blocks edges ordered = with_predecessors edges (ordered_blocks 1 (without_dead_tries (without_dead_do_whiles (without_unreachable_updates ordered))))

-- The kind of a terminal after the removals, by the blocks that are there in each of them.
abbrev pub passed_kind : (there1 there2 there3 : BlockId → Bool) → BlockId → TerminalKind → TerminalKind
passed_kind there1 there2 there3 id kind =
    with_dead (dead_try there3 id (live_do_while there2 (live_for there1 kind))) (live_do_while there2 (live_for there1 kind))

pub found_passed : (edges : List Edge) (ordered : List Pair) (id : BlockId) (listed : List InstructionId) (kind : TerminalKind) → HaveOwnIds ordered → NoPreds ordered
    → Found ordered id listed kind
    → Found (passed_blocks edges ordered) id listed
    (passed_kind (is_there ordered) (is_there (without_unreachable_updates ordered)) (is_there (without_dead_do_whiles (without_unreachable_updates ordered))) id kind)
found_passed edges ordered id listed kind own n f =
    found_predecessors edges _ id listed _
    (found_ordered 1 _ id listed _
    (found_tries (without_dead_do_whiles updated) id listed _
    (subst (λ (t : List ℕ). AreDistinct t) (sym (ids_kinds (live_do_while (is_there updated)) updated ∙ ids_kinds (live_for (is_there ordered)) ordered)) own)
    (no_preds_kinds (live_do_while (is_there updated)) updated (no_preds_kinds (live_for (is_there ordered)) ordered n))
    (found_kinds (live_do_while (is_there updated)) updated id listed _ (found_kinds (live_for (is_there ordered)) ordered id listed kind f))))
  where
    updated : List Pair
    updated = without_unreachable_updates ordered

-- The blocks that are there stay the same through the removals of updates and of tests.
pub there_updated : (ordered : List Pair) (id : BlockId) → is_there (without_unreachable_updates ordered) id ≡ is_there ordered id
there_updated ordered id = there_kinds (live_for (is_there ordered)) ordered id

pub there_tested : (ordered : List Pair) (id : BlockId) → is_there (without_dead_do_whiles (without_unreachable_updates ordered)) id ≡ is_there ordered id
there_tested ordered id =
    there_kinds (live_do_while (is_there (without_unreachable_updates ordered))) (without_unreachable_updates ordered) id ∙ there_updated ordered id
