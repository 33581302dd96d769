-- The loop of the walk: a task is taken from the stack and done.
use Rattle.std.proofs.Common.{◌≡◌, ℕ, ◌+◌, ◌*◌, ◌<◌, ◌≤◌, Bool, true, false, ◌&&◌, if◌then◌else◌, List, [], ◌∷◌, ◌++◌, reverse, length, length-append, refl, sym, ap, ◌∙◌, subst, arith}
use Rattle.std.proofs.lemmas.List.{reverse-append}
use Rattle.std.specs.List.{list_all}
use Rattle.rl_base.specs.declared.ids.BlockId.{BlockId}
use Rattle.rl_hir.specs.Blocks.{Pair}
use Rattle.rl_order.proofs.Follows.{empty_list}
use Rattle.rl_order.proofs.Measure.{total, total_none}
use Rattle.rl_order.proofs.Stack.{Runs, WalksIn, cost_falls, known_after, known_append, known_parts, price, step_back, tasks_fall}
use Rattle.rl_order.specs.Tasks.{is_expanding, is_known, tasks_after, walk_after}
use Rattle.rl_order.specs.Walk.{IsWhole, Walk, WalksFrom, expansions, nothing, visit}
use Rattle.rl_order.specs.declared.tasks.Task.{Task}
use Rattle.rl_order.specs.declared.tasks.Task.TheVariants as tasks

-- The invariant of the loop over tasks. `items` is the stack; `first` and `count` are the steps at the start and now.
pub record Holds (graph : List Pair) (entry : BlockId) (items : List Task) (w : Walk) (first count : ℕ) : Type 0 where
  pub back : (end : Walk) (more : ℕ) → Runs graph (reverse items) w end more
      → (walk : WalksFrom graph entry end) × (count + more ≡ first + expansions walk)
  pub known : list_all (is_known graph) items ≡ true
  pub cost : count + total (λ block. 1) graph w.seen ≤ first + 2 * length graph

pub begins : (graph : List Pair) (entry : BlockId) (before items : List Task) (w : Walk) (first : ℕ) → IsWhole graph entry
    → before ≡ [] → items ≡ before ++ tasks.Enter (visit true entry) ∷ [] → w ≡ nothing
    → Holds graph entry items w first first
begins graph entry before items w first whole no_task only none = rw (only, no_task, none) begun
  where
    whole_walk : (end : Walk) (more : ℕ) → Runs graph (tasks.Enter (visit true entry) ∷ []) nothing end more
        → (walk : WalksFrom graph entry end) × (first + more ≡ first + expansions walk)
    whole_walk end more r =
        let along : WalksIn graph (visit true entry ∷ []) nothing end r.first =
        subst (λ e. WalksIn graph (visit true entry ∷ []) nothing e r.first) r.onward.0 r.walk in
        let expanded = along.expanded in
        let others = r.onward.1 in
        let sum = r.sum in
        (along.walk, omega (arith, expanded, others, sum))

    begun : Holds graph entry (tasks.Enter (visit true entry) ∷ []) nothing first first
    begun =
        record {
          back = whole_walk;
          known = ap (λ b. b && true) whole.entry_there;
          cost = let all = total_none graph in omega (arith, all);
        }

-- A task that is taken from the stack is known.
pub taken_known : (graph : List Pair) (entry : BlockId) (items rest : List Task) (task : Task) (w : Walk) (first count : ℕ)
    → Holds graph entry items w first count → items ≡ rest ++ task ∷ []
    → is_known graph task ≡ true
taken_known graph entry items rest task w first count h is =
    let parts = known_parts graph rest (task ∷ []) (ap (λ ts. list_all (is_known graph) ts) (sym is) ∙ h.known) in
    alone (is_known graph task) parts.1
  where
    alone : (b : Bool) → (b && true) ≡ true → b ≡ true
    alone true e = refl
    alone false e = e

pub goes_on : (graph : List Pair) (entry : BlockId) (items rest : List Task) (task : Task) (w : Walk) (first count : ℕ)
    (items' : List Task) (w' : Walk) (count' : ℕ)
    → IsWhole graph entry → Holds graph entry items w first count → items ≡ rest ++ task ∷ []
    → items' ≡ rest ++ tasks_after graph w task → w' ≡ walk_after graph w task
    → count' ≡ count + (if is_expanding w task then 1 else 0)
    → Holds graph entry items' w' first count'
goes_on graph entry items rest task w first count items' w' count' whole h is is' walked counted =
    record {
      back =
          λ end more r.
          (let old = h.back end ((if is_expanding w task then 1 else 0) + more) (before end more
          (subst (λ w'. Runs graph (reverse (rest ++ tasks_after graph w task)) w' end more) walked
          (subst (λ ts. Runs graph (reverse ts) w' end more) is' r))) in
          let sum = old.1 in
          (old.0, omega (arith, sum, counted)));
      known =
          ap (λ ts. list_all (is_known graph) ts) is' ∙ known_append graph rest (tasks_after graph w task)
          (known_parts graph rest (task ∷ []) (ap (λ ts. list_all (is_known graph) ts) (sym is) ∙ h.known)).0
          (known_after graph entry w task whole);
      cost =
          let now = ap (λ w'. total (λ block. 1) graph w'.seen) walked in
          let falls = cost_falls graph w task (taken_known graph entry items rest task w first count h is) in
          let old = h.cost in
          omega (arith, now, falls, old, counted);
    }
  where
    before : (end : Walk) (more : ℕ) → Runs graph (reverse (rest ++ tasks_after graph w task)) (walk_after graph w task) end more
        → Runs graph (reverse items) w end ((if is_expanding w task then 1 else 0) + more)
    before end more r =
        let all : ℕ = (if is_expanding w task then 1 else 0) + more in
        let task_known = taken_known graph entry items rest task w first count h is in
        let r1 = subst (λ ts. Runs graph ts (walk_after graph w task) end more) (reverse-append rest (tasks_after graph w task)) r in
        let r2 = step_back graph w task (reverse rest) end more all task_known refl r1 in
        subst (λ ts. Runs graph ts w end all) (sym (ap reverse is ∙ reverse-append rest (task ∷ []))) r2

-- At the end of the tasks the walk is whole, and each block that it expands was counted.
pub ends : (graph : List Pair) (entry : BlockId) (items : List Task) (w : Walk) (first count : ℕ)
    → Holds graph entry items w first count → length items ≡ 0
    → (walk : WalksFrom graph entry w) × (count ≡ first + expansions walk)
ends graph entry items w first count h none =
    let done = h.back w 0 (subst (λ ts. Runs graph (reverse ts) w w 0) (sym (empty_list items none)) (refl, refl)) in
    let sum = done.1 in
    (done.0, omega (arith, sum))

pub falls : (graph : List Pair) (entry : BlockId) (items rest : List Task) (task : Task) (w : Walk) (first count : ℕ)
    (items' : List Task) (w' : Walk)
    → Holds graph entry items w first count → items ≡ rest ++ task ∷ []
    → items' ≡ rest ++ tasks_after graph w task → w' ≡ walk_after graph w task
    → length items' + total price graph w'.seen < length items + total price graph w.seen
falls graph entry items rest task w first count items' w' h is is' walked =
    let now = ap (λ w'. total price graph w'.seen) walked in
    let few = tasks_fall graph w task (taken_known graph entry items rest task w first count h is) in
    let old_length = ap length is ∙ length-append rest (task ∷ []) in
    let new_length = ap length is' ∙ length-append rest (tasks_after graph w task) in
    let one : length (task ∷ []) ≡ 1 = refl in
    omega (arith, now, few, old_length, new_length, one)

-- The steps are within the bound too if a task fails.
pub stops : (graph : List Pair) (entry : BlockId) (items rest : List Task) (task : Task) (w : Walk) (first count count' : ℕ)
    → Holds graph entry items w first count → items ≡ rest ++ task ∷ []
    → count' ≡ count + (if is_expanding w task then 1 else 0) → count' ≤ first + 2 * length graph
stops graph entry items rest task w first count count' h is counted =
    let falls = cost_falls graph w task (taken_known graph entry items rest task w first count h is) in
    let old = h.cost in
    omega (arith, falls, old, counted)
