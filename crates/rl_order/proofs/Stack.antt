-- The tasks on a stack, as a walk.
use Rattle.std.proofs.Common.{◌≡◌, ℕ, suc, ◌+◌, ◌<◌, ◌≤◌, Bool, true, false, if◌then◌else◌, ◌&&◌, true≢false, Option, Some, None, List, [], ◌∷◌, ◌++◌, map, reverse, is_some, length, length-append, refl, sym, ap, ◌∙◌, subst, arith, append_assoc}
use Rattle.std.proofs.lemmas.List.{reverse-append}
use Rattle.std.proofs.lemmas.List.Folds.{list_all-append}
use Rattle.std.proofs.lemmas.Bool.{and_parts}
use Rattle.std.specs.List.{list_all}
use Rattle.rl_base.specs.declared.ids.BlockId.{BlockId}
use Rattle.rl_hir.specs.Blocks.{Pair, block_at}
use Rattle.rl_hir.specs.Terminals.{fallthrough, listed_id, successor_ids}
use Rattle.rl_hir.specs.declared.function.BasicBlock.{BasicBlock}
use Rattle.rl_order.proofs.Measure.{total, total_falls}
use Rattle.rl_order.specs.Tasks.{is_expanding, is_known, tasks_after, tasks_from, walk_after}
use Rattle.rl_order.specs.Walk.{IsWhole, Walk, Walks, Ends, Passes, Expands, appended, entered, expansions, has_block, is_first, is_passed, left, visit, visits_from}
use Rattle.rl_order.specs.declared.tasks.Task.{Task}
use Rattle.rl_order.specs.declared.tasks.Task.TheVariants as tasks
use Rattle.rl_order.specs.declared.tasks.Visit.{Visit}

-- A walk that expands `count` blocks.
pub record WalksIn (graph : List Pair) (vs : List Visit) (w end : Walk) (count : ℕ) : Type 0 where
  pub walk : Walks graph vs w end
  pub expanded : expansions walk ≡ count

-- The visit of a block takes the walk from `w` to a state with which `rest` goes on. Together they expand `count` blocks.
pub record Visited (graph : List Pair) (v : Visit) (w : Walk) (rest : Walk → ℕ → Type 0) (count : ℕ) : Type 0 where
  pub mid : Walk
  pub first : ℕ
  pub others : ℕ
  pub walk : WalksIn graph (v ∷ []) w mid first
  pub onward : rest mid others
  pub sum : first + others ≡ count

-- The tasks, in order, take the walk from one state to another and expand `count` blocks.
abbrev pub Runs : List Pair → List Task → Walk → Walk → (count : ℕ) → Type 0
Runs graph [] w end count = (w ≡ end) × (count ≡ 0)
Runs graph (tasks.Append id ∷ ts) w end count = Runs graph ts (appended w id) end count
Runs graph (tasks.Enter v ∷ ts) w end count = Visited graph v w (λ mid others. Runs graph ts mid end others) count

walks_onward : (graph : List Pair) (xs ys : List Visit) (w mid end : Walk) (n : ℕ) (first : Walks graph xs w mid)
    → WalksIn graph ys mid end n → WalksIn graph (xs ++ ys) w end (expansions first + n)
walks_onward graph _ ys _ _ end n (Ends w) more =
    let rest = more.expanded in record { walk = more.walk; expanded = omega (arith, rest) }
walks_onward graph _ ys _ mid end n (Passes v vs w _ h rest) more =
    let joined = walks_onward graph vs ys w mid end n rest more in
    record { walk = Passes v (vs ++ ys) w end h joined.walk; expanded = joined.expanded }
walks_onward graph _ ys _ mid end n (Expands v vs block w inner _ h at within rest) more =
    let joined = walks_onward graph vs ys (left (is_first w v.id) inner v.id) mid end n rest more in
    let others = joined.expanded in
    record { walk = Expands v (vs ++ ys) block w inner end h at within joined.walk; expanded = omega (arith, others) }

walks_append : (graph : List Pair) (xs ys : List Visit) (w mid end : Walk) (m n : ℕ) → WalksIn graph xs w mid m
    → WalksIn graph ys mid end n → WalksIn graph (xs ++ ys) w end (m + n)
walks_append graph xs ys w mid end m n first more =
    subst (λ (k : ℕ). WalksIn graph (xs ++ ys) w end (k + n)) first.expanded (walks_onward graph xs ys w mid end n first.walk more)

-- Visits and then tasks.
record Split (graph : List Pair) (vs : List Visit) (ts : List Task) (w end : Walk) (count : ℕ) : Type 0 where
  mid : Walk
  first : ℕ
  others : ℕ
  walk : WalksIn graph vs w mid first
  onward : Runs graph ts mid end others
  sum : first + others ≡ count

split : (graph : List Pair) (vs : List Visit) (ts : List Task) (w end : Walk) (count : ℕ)
    → Runs graph (map (λ v. tasks.Enter v) vs ++ ts) w end count → Split graph vs ts w end count
split graph [] ts w end count r =
    record { mid = w; first = 0; others = count; walk = record { walk = Ends w; expanded = refl }; onward = r; sum = omega arith }
split graph (v ∷ vs) ts w end count r =
    let rest = split graph vs ts r.mid end r.others r.onward in
    let both = r.sum in
    let parts = rest.sum in
    record {
      mid = rest.mid;
      first = r.first + rest.first;
      others = rest.others;
      walk = walks_append graph (v ∷ []) vs w r.mid rest.mid r.first rest.first r.walk rest.walk;
      onward = rest.onward;
      sum = omega (arith, both, parts);
    }

fused : (used : Bool) (ids : List BlockId)
    → map (λ v. tasks.Enter v) (map (visit used) ids) ≡ map (λ id. tasks.Enter (visit used id)) ids
fused used [] = refl
fused used (id ∷ ids) = ap (λ (t : List Task). tasks.Enter (visit used id) ∷ t) (fused used ids)

map_append : {X Y : Type 0} (f : X → Y) (xs ys : List X) → map f (xs ++ ys) ≡ map f xs ++ map f ys
map_append f [] ys = refl
map_append {X} {Y} f (x ∷ xs) ys = ap (λ (t : List Y). f x ∷ t) (map_append f xs ys)

map_reverse : {X Y : Type 0} (f : X → Y) (xs : List X) → map f (reverse xs) ≡ reverse (map f xs)
map_reverse f [] = refl
map_reverse {X} {Y} f (x ∷ xs) =
    ap (map f) (reverse-append (x ∷ []) xs) ∙ map_append f (reverse xs) (x ∷ []) ∙ ap (λ (t : List Y). t ++ f x ∷ [])
    (map_reverse f xs) ∙ sym (reverse-append (f x ∷ []) (map f xs))

abbrev closing : Bool → BlockId → List Task
closing first id = if first then tasks.Append id ∷ [] else []

reverse_closing : (first : Bool) (id : BlockId) → reverse (closing first id) ≡ closing first id
reverse_closing true id = refl
reverse_closing false id = refl

reverse_behind : (behind : Option BlockId)
    → reverse (map (λ id. tasks.Enter (visit false id)) (listed_id behind)) ≡ map (λ v. tasks.Enter v)
    (map (visit false) (listed_id behind))
reverse_behind None = refl
reverse_behind (Some id) = refl

regrouped : (xs ys zs ts : List Task) → xs ++ (ys ++ zs) ++ ts ≡ xs ++ ys ++ (zs ++ ts)
regrouped xs ys zs ts =
    append_assoc xs (ys ++ zs) ts ∙ ap (λ (t : List Task). xs ++ t) (append_assoc ys zs ts)
    ∙ sym (append_assoc xs ys (zs ++ ts))

turned : (xs ys zs xs' ys' zs' : List Task) → reverse xs ≡ xs' → reverse ys ≡ ys' → reverse zs ≡ zs'
    → reverse (xs ++ ys ++ zs) ≡ zs' ++ (ys' ++ xs')
turned xs ys zs xs' ys' zs' ex ey ez =
    reverse-append (xs ++ ys) zs ∙ ap (λ (t : List Task). t ++ reverse (xs ++ ys)) ez
    ∙ ap (λ (t : List Task). zs' ++ t) (reverse-append xs ys ∙ ap (λ (t : List Task). t ++ reverse xs) ey
    ∙ ap (λ (t : List Task). ys' ++ t) ex)

enter_backwards : (used : Bool) (ids : List BlockId)
    → reverse (map (λ id. tasks.Enter (visit used id)) ids) ≡ map (λ v. tasks.Enter v) (map (visit used) (reverse ids))
enter_backwards used ids = sym (map_reverse (λ id. tasks.Enter (visit used id)) ids) ∙ sym (fused used (reverse ids))

-- The tasks that a visit adds are its visits, and then the end of the visit.
tasks_turned : (first : Bool) (v : Visit) (block : BasicBlock) (ts : List Task)
    → reverse (tasks_from first v block) ++ ts ≡ map (λ v. tasks.Enter v) (visits_from v.used block) ++ (closing first v.id ++ ts)
tasks_turned first v block ts =
    by_parts (successor_ids block.terminal) (fallthrough block.terminal)
  where
    by_parts : (ss : List BlockId) (behind : Option BlockId)
        → reverse (closing first v.id ++ map (λ id. tasks.Enter (visit v.used id)) ss ++ map
        (λ id. tasks.Enter (visit false id)) (listed_id behind)) ++ ts
        ≡ map (λ v. tasks.Enter v) (map (visit false) (listed_id behind) ++ map (visit v.used)
        (reverse ss)) ++ (closing first v.id ++ ts)
    by_parts ss behind =
        ap (λ (t : List Task). t ++ ts)
        (turned (closing first v.id) (map (λ id. tasks.Enter (visit v.used id)) ss)
        (map (λ id. tasks.Enter (visit false id)) (listed_id behind)) (closing first v.id)
        (map (λ v. tasks.Enter v) (map (visit v.used) (reverse ss)))
        (map (λ v. tasks.Enter v) (map (visit false) (listed_id behind))) (reverse_closing first v.id)
        (enter_backwards v.used ss) (reverse_behind behind))
        ∙ regrouped (map (λ v. tasks.Enter v) (map (visit false) (listed_id behind)))
        (map (λ v. tasks.Enter v) (map (visit v.used) (reverse ss))) (closing first v.id) ts
        ∙ ap (λ (t : List Task). t ++ (closing first v.id ++ ts))
        (sym (map_append (λ v. tasks.Enter v) (map (visit false) (listed_id behind)) (map (visit v.used) (reverse ss))))

closed : (graph : List Pair) (first : Bool) (id : BlockId) (ts : List Task) (w end : Walk) (count : ℕ)
    → Runs graph (closing first id ++ ts) w end count → Runs graph ts (left first w id) end count
closed graph true id ts w end count r = r
closed graph false id ts w end count r = r

-- Before a task, the walk leads where it leads after it, and expands the block of the task too.
pub step_back : (graph : List Pair) (w : Walk) (task : Task) (ts : List Task) (end : Walk) (count all : ℕ)
    → is_known graph task ≡ true → (if is_expanding w task then 1 else 0) + count ≡ all
    → Runs graph (reverse (tasks_after graph w task) ++ ts) (walk_after graph w task) end count → Runs graph (task ∷ ts) w end all
step_back graph w (tasks.Append id) ts end count all known sum r =
    let same : count ≡ all = omega (arith, sum) in subst (λ (n : ℕ). Runs graph ts (appended w id) end n) same r
step_back graph w (tasks.Enter v) ts end count all known sum r = by_test (is_passed w v) refl (block_at graph v.id) refl
  where
    expanded : (block : BasicBlock) → is_passed w v ≡ false → block_at graph v.id ≡ Some block → 1 + count ≡ all
        → Runs graph (reverse (tasks_from (is_first w v.id) v block) ++ ts) (entered w v (fallthrough block.terminal)) end count
        → Visited graph v w (λ mid others. Runs graph ts mid end others) all
    expanded block h at more r =
        let parts = split graph (visits_from v.used block) (closing (is_first w v.id) v.id ++ ts)
        (entered w v (fallthrough block.terminal)) end count
        (subst (λ t. Runs graph t (entered w v (fallthrough block.terminal)) end count)
        (tasks_turned (is_first w v.id) v block ts) r) in
        let inner = parts.walk.expanded in
        let both = parts.sum in
        record {
          mid = left (is_first w v.id) parts.mid v.id;
          first = 1 + parts.first;
          others = parts.others;
          walk = record {
            walk =
                Expands v [] block w parts.mid (left (is_first w v.id) parts.mid v.id) h at parts.walk.walk
                (Ends (left (is_first w v.id) parts.mid v.id));
            expanded = omega (arith, inner);
          };
          onward = closed graph (is_first w v.id) v.id ts parts.mid end parts.others parts.onward;
          sum = omega (arith, both, more);
        }

    by_test : (passed : Bool) → is_passed w v ≡ passed → (found : Option BasicBlock) → block_at graph v.id ≡ found
        → Visited graph v w (λ mid others. Runs graph ts mid end others) all
    by_test true h found at =
        let r' = rw h at r in
        let none = rw h at sum in
        record { mid = w; first = 0; others = count; walk = record { walk = Passes v [] w w h (Ends w); expanded = refl }; onward = r'; sum = none }
    by_test false h None at = absurd (true≢false (sym known ∙ ap (λ o. is_some o) at))
    by_test false h (Some block) at = let r' = rw (h, at) at r in let more = rw h at sum in expanded block h at more r'

-- The blocks to which a block leads are known, so the tasks that its visit adds are.
known_visits : (graph : List Pair) (used : Bool) (ids : List BlockId) → list_all (has_block graph) ids ≡ true
    → list_all (is_known graph) (map (λ id. tasks.Enter (visit used id)) ids) ≡ true
known_visits graph used [] h = refl
known_visits graph used (id ∷ ids) h =
    let both = and_parts (has_block graph id) (list_all (has_block graph) ids) h in
    ap (λ b. b && list_all (is_known graph) (map (λ id. tasks.Enter (visit used id)) ids)) both.0
    ∙ known_visits graph used ids both.1

known_closing : (graph : List Pair) (first : Bool) (id : BlockId) → list_all (is_known graph) (closing first id) ≡ true
known_closing graph true id = refl
known_closing graph false id = refl

pub known_append : (graph : List Pair) (xs ys : List Task) → list_all (is_known graph) xs ≡ true
    → list_all (is_known graph) ys ≡ true → list_all (is_known graph) (xs ++ ys) ≡ true
known_append graph xs ys hx hy = list_all-append (is_known graph) xs ys ∙ ap (λ b. b && list_all (is_known graph) ys) hx ∙ hy

pub known_parts : (graph : List Pair) (xs ys : List Task) → list_all (is_known graph) (xs ++ ys) ≡ true
    → (list_all (is_known graph) xs ≡ true) × (list_all (is_known graph) ys ≡ true)
known_parts graph xs ys h =
    and_parts (list_all (is_known graph) xs) (list_all (is_known graph) ys) (sym (list_all-append (is_known graph) xs ys) ∙ h)

known_from : (graph : List Pair) (entry : BlockId) (first : Bool) (v : Visit) (block : BasicBlock) → IsWhole graph entry
    → block_at graph v.id ≡ Some block
    → list_all (is_known graph) (tasks_from first v block) ≡ true
known_from graph entry first v block whole at =
    let parts = and_parts (list_all (has_block graph) (listed_id (fallthrough block.terminal)))
    (list_all (has_block graph) (successor_ids block.terminal))
    (sym (list_all-append (has_block graph) (listed_id (fallthrough block.terminal)) (successor_ids block.terminal))
    ∙ whole.leads v.id block at) in
    known_append graph (closing first v.id ++ map (λ id. tasks.Enter (visit v.used id)) (successor_ids block.terminal))
    (map (λ id. tasks.Enter (visit false id)) (listed_id (fallthrough block.terminal)))
    (known_append graph (closing first v.id) (map (λ id. tasks.Enter (visit v.used id)) (successor_ids block.terminal))
    (known_closing graph first v.id) (known_visits graph v.used (successor_ids block.terminal) parts.1))
    (known_visits graph false (listed_id (fallthrough block.terminal)) parts.0)

pub known_after : (graph : List Pair) (entry : BlockId) (w : Walk) (task : Task) → IsWhole graph entry
    → list_all (is_known graph) (tasks_after graph w task) ≡ true
known_after graph entry w (tasks.Append id) whole = refl
known_after graph entry w (tasks.Enter v) whole = by_test (is_passed w v) refl (block_at graph v.id) refl
  where
    by_test : (passed : Bool) → is_passed w v ≡ passed → (found : Option BasicBlock) → block_at graph v.id ≡ found
        → list_all (is_known graph) (tasks_after graph w (tasks.Enter v)) ≡ true
    by_test true h found at = rw h refl
    by_test false h None at = rw (h, at) refl
    by_test false h (Some block) at = rw (h, at) (known_from graph entry (is_first w v.id) v block whole at)

-- `price` of a block bounds the tasks that a visit of it adds, and one more.
abbrev pub price : BasicBlock → ℕ
price block = 2 + length (successor_ids block.terminal) + length (listed_id (fallthrough block.terminal))

length_closing : (first : Bool) (id : BlockId) → length (closing first id) ≤ 1
length_closing true id = omega arith
length_closing false id = omega arith

length_visits : (used : Bool) (ids : List BlockId) → length (map (λ id. tasks.Enter (visit used id)) ids) ≡ length ids
length_visits used [] = refl
length_visits used (id ∷ ids) = ap suc (length_visits used ids)

length_from : (first : Bool) (v : Visit) (block : BasicBlock) → length (tasks_from first v block) < price block
length_from first v block =
    let whole = length-append (closing first v.id ++ map (λ id. tasks.Enter (visit v.used id))
    (successor_ids block.terminal)) (map (λ id. tasks.Enter (visit false id)) (listed_id (fallthrough block.terminal))) in
    let inner = length-append (closing first v.id) (map (λ id. tasks.Enter (visit v.used id)) (successor_ids block.terminal)) in
    let forward = length_visits v.used (successor_ids block.terminal) in
    let behind = length_visits false (listed_id (fallthrough block.terminal)) in
    let one = length_closing first v.id in
    omega (arith, whole, inner, forward, behind, one)

-- A task that expands a block takes one of its expansions.
pub cost_falls : (graph : List Pair) (w : Walk) (task : Task) → is_known graph task ≡ true
    → total (λ block. 1) graph (walk_after graph w task).seen + (if is_expanding w task then 1 else 0) ≤ total
    (λ block. 1) graph w.seen
cost_falls graph w (tasks.Append id) known = omega arith
cost_falls graph w (tasks.Enter v) known = by_test (is_passed w v) refl (block_at graph v.id) refl
  where
    by_test : (passed : Bool) → is_passed w v ≡ passed → (found : Option BasicBlock) → block_at graph v.id ≡ found
        → total (λ block. 1) graph (walk_after graph w (tasks.Enter v)).seen +
        (if is_expanding w (tasks.Enter v) then 1 else 0) ≤ total (λ block. 1) graph w.seen
    by_test true h found at = rw h (omega arith)
    by_test false h None at = absurd (true≢false (sym known ∙ ap (λ o. is_some o) at))
    by_test false h (Some block) at = rw (h, at) (total_falls (λ block. 1) graph w.seen v.id v.used block h at)

-- The tasks left, and those that expansions may still add, become fewer.
pub tasks_fall : (graph : List Pair) (w : Walk) (task : Task) → is_known graph task ≡ true
    → length (tasks_after graph w task) + total price graph (walk_after graph w task).seen < 1 + total price graph w.seen
tasks_fall graph w (tasks.Append id) known = omega arith
tasks_fall graph w (tasks.Enter v) known = by_test (is_passed w v) refl (block_at graph v.id) refl
  where
    by_test : (passed : Bool) → is_passed w v ≡ passed → (found : Option BasicBlock) → block_at graph v.id ≡ found
        → length (tasks_after graph w (tasks.Enter v)) + total price graph
        (walk_after graph w (tasks.Enter v)).seen < 1 + total price graph w.seen
    by_test true h found at = rw h (omega arith)
    by_test false h None at = absurd (true≢false (sym known ∙ ap (λ o. is_some o) at))
    by_test false h (Some block) at =
        let fewer = total_falls price graph w.seen v.id v.used block h at in
        let few = length_from (is_first w v.id) v block in
        rw (h, at) (omega (arith, fewer, few))
