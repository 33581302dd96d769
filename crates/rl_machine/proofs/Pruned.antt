-- Pruned codes have the same runs, and a bound on silent steps in a row that is large enough changes none.
use Rattle.std.proofs.Common.{◌≡◌, ℕ, zero, suc, ◌+◌, ◌-◌, ◌<◌, ◌≤◌, Bool, true, false, if◌then◌else◌, Option, Some, None, List, [], ◌∷◌, length, refl, sym, ap, ◌∙◌, subst, arith}
use Rattle.rl_base.specs.declared.ids.BlockId.{BlockId}
use Rattle.rl_machine.specs.Ends.{Notes, no_notes, leaving}
use Rattle.rl_machine.specs.Machine.{Code, Item, Runs, Ends, Next, exec, no_way, start_store, step, steps_for, trace_in}
use Rattle.rl_machine.specs.Prunes.{Becomes, Stays, Prunes, Point, PassesOnce, exec_once, is_passed}
use Rattle.rl_machine.specs.Traces.{Store}
use Rattle.rl_machine.specs.declared.trace.Answer.{Answer}
use Rattle.rl_machine.specs.declared.trace.Assignment.{Assignment}
use Rattle.rl_machine.specs.declared.trace.Trace.{Trace}
use Rattle.rl_machine.specs.declared.trace.Value.{Value}
use Rattle.rl_machine.proofs.Following.{SameNotes, SilentFollows, LoudFollows, item_same}
use Rattle.rl_machine.proofs.Points.{AreAmong, Nothing, Another, at_most}

pub becomes_refl : (read : ℕ → Type 0) (o : Option Item) → Becomes read o o
becomes_refl read None = tt
becomes_refl read (Some (Runs i)) = (refl, refl)
becomes_refl read (Some (Ends t)) = Stays (leaving t.kind)

-- A code prunes itself.
pub prunes_self : (kept read steps : ℕ → Type 0) (c c1 : Code) → Prunes kept read steps c c1 → Prunes kept read steps c c
prunes_self kept read steps c c1 p = record {
  items = λ block place k. becomes_refl read (c.item block place);
  stays = p.stays;
  catchers = λ block k. refl;
  handlers = p.handlers;
  reads = p.reads;
  shared = refl;
}

no_notes_same : (kept read steps : ℕ → Type 0) → SameNotes kept read steps no_notes no_notes
no_notes_same kept read steps = record { at = λ block r. refl; exits = λ block behind r e. absurd (cc) }

-- A bound on the steps that `n` answers need, and the steps of a row beside them.
abbrev pub steps_by : (most n : ℕ) → ℕ
steps_by most zero = 0
steps_by most (suc n) = most + 1 + steps_by most n

steps_less : (most a b : ℕ) → a < b → most + 1 + steps_by most a ≤ steps_by most b
steps_less most a zero below = absurd (omega arith)
steps_less most zero (suc b) below = omega arith
steps_less most (suc a) (suc b) below =
    let rest : most + 1 + steps_by most a ≤ steps_by most b = steps_less most a b (omega arith) in omega (arith, rest)

steps_for_by : (answers : List Answer) (most : ℕ) → steps_for answers most ≡ most + 1 + steps_by most (length answers)
steps_for_by [] most = omega arith
steps_for_by (a ∷ rest) most = let e : steps_for rest most ≡ most + 1 + steps_by most (length rest) = steps_for_by rest most in omega (arith, e)

module _ (stuck : Trace) (kept read steps : ℕ → Type 0) (c c1 : Code) (p : Prunes kept read steps c c1) where
  -- A step from a kept block goes on alike.
  step_same : (silent silent1 loud loud1 : Next) (answers : List Answer) → SilentFollows kept read steps p.reads silent silent1 answers
      → LoudFollows kept read steps p.reads loud loud1 (length answers) → (id place : ℕ) (store : Store) (notes notes1 : Notes) → kept id → SameNotes kept read steps notes notes1
      → step stuck c1 (c1.item id place) silent1 loud1 id place store notes1 answers ≡ step stuck c (c.item id place) silent loud id place store notes answers
  step_same silent silent1 loud loud1 answers fs fl id place store notes notes1 k s =
      subst (λ (q : Code). step stuck q (c1.item id place) silent1 loud1 id place store notes1 answers ≡ step stuck c (c.item id place) silent loud id place store notes answers) (sym p.shared)
      (item_same kept read steps p.reads stuck c c1.item c1.catcher p.catchers p.handlers (c.item id place) (c1.item id place) (p.items id place k) silent silent1 loud loud1 answers fs fl id place store notes notes1 k
      (λ item e. p.stays id place item k e) s)

  -- The runs within the same bounds are the same.
  pub exec_follows : (most left quiet : ℕ) (answers : List Answer) → SilentFollows kept read steps p.reads (exec stuck c most left quiet) (exec stuck c1 most left quiet) answers
  exec_follows most zero quiet answers id place store notes notes1 k s = refl
  exec_follows most (suc left) zero answers id place store notes notes1 k s =
      step_same (no_way stuck) (no_way stuck) (exec stuck c most left most) (exec stuck c1 most left most) answers (λ b q st n n1 kb sn. refl)
      (λ b q st n n1 ans fewer kb sn. exec_follows most left most ans b q st n n1 kb sn) id place store notes notes1 k s
  exec_follows most (suc left) (suc quiet) answers id place store notes notes1 k s =
      step_same (exec stuck c most left quiet) (exec stuck c1 most left quiet) (exec stuck c most left most) (exec stuck c1 most left most) answers
      (λ b q st n n1 kb sn. exec_follows most left quiet answers b q st n n1 kb sn)
      (λ b q st n n1 ans fewer kb sn. exec_follows most left most ans b q st n n1 kb sn) id place store notes notes1 k s

module _ (stuck : Trace) (kept read steps : ℕ → Type 0) (c : Code) (p : Prunes kept read steps c c) where
  -- More steps than are needed change nothing.
  enough : (most left left1 quiet : ℕ) (answers : List Answer) → quiet + steps_by most (length answers) < left → quiet + steps_by most (length answers) < left1
      → SilentFollows kept read steps p.reads (exec stuck c most left quiet) (exec stuck c most left1 quiet) answers
  enough most zero left1 quiet answers a b id place store notes notes1 k s = absurd (omega (arith, a))
  enough most (suc left) zero quiet answers a b id place store notes notes1 k s = absurd (omega (arith, b))
  enough most (suc left) (suc left1) zero answers a b id place store notes notes1 k s =
      step_same stuck kept read steps c c p (no_way stuck) (no_way stuck) (exec stuck c most left most) (exec stuck c most left1 most) answers (λ i q st n n1 kb sn. refl)
      (λ i q st n n1 ans fewer kb sn. (let less : most + 1 + steps_by most (length ans) ≤ steps_by most (length answers) = steps_less most (length ans) (length answers) fewer in
      enough most left left1 most ans (omega (arith, less, a)) (omega (arith, less, b)) i q st n n1 kb sn)) id place store notes notes1 k s
  enough most (suc left) (suc left1) (suc quiet) answers a b id place store notes notes1 k s =
      step_same stuck kept read steps c c p (exec stuck c most left quiet) (exec stuck c most left1 quiet) (exec stuck c most left most) (exec stuck c most left1 most) answers
      (λ i q st n n1 kb sn. enough most left left1 quiet answers (omega (arith, a)) (omega (arith, b)) i q st n n1 kb sn)
      (λ i q st n n1 ans fewer kb sn. (let less : most + 1 + steps_by most (length ans) ≤ steps_by most (length answers) = steps_less most (length ans) (length answers) fewer in
      enough most left left1 most ans (omega (arith, less, a)) (omega (arith, less, b)) i q st n n1 kb sn)) id place store notes notes1 k s

module _ (stuck : Trace) (kept read steps : ℕ → Type 0) (c : Code) (p : Prunes kept read steps c c) (all : List Point)
    (within : (id place : ℕ) (item : Item) → kept id → c.item id place ≡ Some item → is_passed (id, place) all ≡ true) (most : ℕ) (enough_all : length all ≤ most) where
  -- The silent run with `quiet` silent steps left in the row.
  abbrev pub onward : (left quiet : ℕ) → Next
  onward left zero = no_way stuck
  onward left (suc quiet) = exec stuck c most left quiet

  abbrev pub again : (left : ℕ) (passed : List Point) → Next
  again left passed = onward left (most - length passed)

  onward_same : (left quiet : ℕ) (answers : List Answer) → SilentFollows kept read steps p.reads (onward left quiet) (onward left quiet) answers
  onward_same left zero answers id place store notes notes1 k s = refl
  onward_same left (suc quiet) answers id place store notes notes1 k s = exec_follows stuck kept read steps c c p most left quiet answers id place store notes notes1 k s

  abbrev pub unrolled : (left quiet : ℕ) → Next
  unrolled left quiet id place store notes answers = step stuck c (c.item id place) (onward left quiet) (exec stuck c most left most) id place store notes answers

  unrolls : (left quiet id place : ℕ) (store : Store) (notes : Notes) (answers : List Answer)
      → exec stuck c most (suc left) quiet id place store notes answers ≡ unrolled left quiet id place store notes answers
  unrolls left zero id place store notes answers = refl
  unrolls left (suc quiet) id place store notes answers = refl

  -- The silent run from a point that has an item.
  goes_on : (left quiet : ℕ) (passed : List Point) (answers : List Answer) (id place : ℕ) (item : Item) → kept id → c.item id place ≡ Some item
      → quiet + length passed ≡ most → AreAmong all passed → (b : Bool) → is_passed (id, place) passed ≡ b
      → ((q : ℕ) → quiet ≡ suc q → AreAmong all ((id, place) ∷ passed) → SilentFollows kept read steps p.reads (exec_once stuck again c left ((id, place) ∷ passed)) (exec stuck c most left q) answers)
      → SilentFollows kept read steps p.reads (if b then again left passed else exec_once stuck again c left ((id, place) ∷ passed)) (onward left quiet) answers
  goes_on left quiet passed answers id place item k is sum among true e rest =
      let same : most - length passed ≡ quiet = omega (arith, sum) in
      subst (λ (n : ℕ). SilentFollows kept read steps p.reads (onward left (most - length passed)) (onward left n) answers) same (onward_same left (most - length passed) answers)
  goes_on left zero passed answers id place item k is sum among false e rest =
      let more : AreAmong all ((id, place) ∷ passed) = Another (id, place) passed e (within id place item k is) among in
      let below : length ((id, place) ∷ passed) ≤ length all = at_most all ((id, place) ∷ passed) more in
      absurd (omega (arith, below, enough_all, sum))
  goes_on left (suc q) passed answers id place item k is sum among false e rest =
      rest q refl (Another (id, place) passed e (within id place item k is) among)

  at_item : (o : Option Item) (left quiet : ℕ) (passed : List Point) (answers : List Answer) (id place : ℕ) (store : Store) (notes notes1 : Notes) (silent loud : Next)
      → c.item id place ≡ o
      → ((item : Item) → o ≡ Some item → unrolled left quiet id place store notes1 answers ≡ step stuck c (c.item id place) silent loud id place store notes answers)
      → unrolled left quiet id place store notes1 answers ≡ step stuck c (c.item id place) silent loud id place store notes answers
  at_item None left quiet passed answers id place store notes notes1 silent loud is some =
      ap (λ o. step stuck c o (onward left quiet) (exec stuck c most left most) id place store notes1 answers) is
      ∙ sym (ap (λ o. step stuck c o silent loud id place store notes answers) is)
  at_item (Some item) left quiet passed answers id place store notes notes1 silent loud is some = some item refl

  -- The bounded run is the run that goes on by `again` where it passes a point twice.
  pub counted : (left quiet : ℕ) (passed : List Point) (answers : List Answer) → quiet + length passed ≡ most → AreAmong all passed
      → SilentFollows kept read steps p.reads (exec_once stuck again c left passed) (exec stuck c most left quiet) answers
  counted zero quiet passed answers sum among id place store notes notes1 k s = refl
  counted (suc left) quiet passed answers sum among id place store notes notes1 k s =
      unrolls left quiet id place store notes1 answers
      ∙ at_item (c.item id place) left quiet passed answers id place store notes notes1
      (if is_passed (id, place) passed then again left passed else exec_once stuck again c left ((id, place) ∷ passed)) (exec_once stuck again c left []) refl
      (λ item is. step_same stuck kept read steps c c p _ _ _ _ answers
      (goes_on left quiet passed answers id place item k is sum among (is_passed (id, place) passed) refl (λ q e more. counted left q ((id, place) ∷ passed) answers (omega (arith, sum, e)) more))
      (λ i q st n n1 ans fewer kb sn. counted left most [] ans (omega arith) Nothing i q st n n1 kb sn) id place store notes notes1 k s)

-- The runs of a code from its entry within a bound that is large enough are those without one, where no silent row passes a point twice.
pub bound_free : (kept read steps : ℕ → Type 0) (c : Code) → Prunes kept read steps c c → (entry : BlockId) (params : List ℕ) → kept entry.0
    → PassesOnce c entry params → (all : List Point)
    → ((id place : ℕ) (item : Item) → kept id → c.item id place ≡ Some item → is_passed (id, place) all ≡ true)
    → (most : ℕ) → length all ≤ most
    → (stuck : Trace) (start : List Assignment) (arguments : List Value) (answers : List Answer) (left : ℕ) → steps_for answers most ≤ left
    → trace_in stuck c most entry params start arguments answers
    ≡ exec_once stuck (λ rest passed. no_way stuck) c left [] entry.0 0 (start_store c params start arguments) no_notes answers
bound_free kept read steps c p entry params k once all within most large stuck start arguments answers left many =
    more ∙ counted stuck kept read steps c p all within most large left most [] answers (omega arith) Nothing entry.0 0 store no_notes no_notes k none
    ∙ once stuck (again stuck kept read steps c p all within most large) left start arguments answers
  where
    store : Store
    store = start_store c params start arguments

    none : SameNotes kept read steps no_notes no_notes
    none = no_notes_same kept read steps

    more : trace_in stuck c most entry params start arguments answers ≡ exec stuck c most left most entry.0 0 store no_notes answers
    more =
        let e : steps_for answers most ≡ most + 1 + steps_by most (length answers) = steps_for_by answers most in
        sym (enough stuck kept read steps c p most (steps_for answers most) left most answers (omega (arith, e)) (omega (arith, e, many)) entry.0 0 store no_notes no_notes k none)

-- The runs of a code from its entry are those within any other bound that is large enough, where no silent row passes a point twice.
pub bounds_free : (kept read steps : ℕ → Type 0) (c : Code) → Prunes kept read steps c c → (entry : BlockId) (params : List ℕ) → kept entry.0
    → PassesOnce c entry params → (all all1 : List Point)
    → ((id place : ℕ) (item : Item) → kept id → c.item id place ≡ Some item → is_passed (id, place) all ≡ true)
    → ((id place : ℕ) (item : Item) → kept id → c.item id place ≡ Some item → is_passed (id, place) all1 ≡ true)
    → (most most1 : ℕ) → length all ≤ most → length all1 ≤ most1
    → (stuck : Trace) (start : List Assignment) (arguments : List Value) (answers : List Answer)
    → trace_in stuck c most entry params start arguments answers ≡ trace_in stuck c most1 entry params start arguments answers
bounds_free kept read steps c p entry params k once all all1 within within1 most most1 large large1 stuck start arguments answers =
    let both : ℕ = steps_for answers most + steps_for answers most1 in
    bound_free kept read steps c p entry params k once all within most large stuck start arguments answers both (omega arith)
    ∙ sym (bound_free kept read steps c p entry params k once all1 within1 most1 large1 stuck start arguments answers both (omega arith))

-- Pruned codes have the same traces, each within a bound that its program points give.
pub pruned_traces : (kept read steps : ℕ → Type 0) (c c1 : Code) → Prunes kept read steps c c1 → (entry : BlockId) (params : List ℕ) → kept entry.0
    → PassesOnce c entry params → (all all1 : List Point)
    → ((id place : ℕ) (item : Item) → kept id → c.item id place ≡ Some item → is_passed (id, place) all ≡ true)
    → ((id place : ℕ) (item : Item) → kept id → c.item id place ≡ Some item → is_passed (id, place) all1 ≡ true)
    → (most most1 : ℕ) → length all ≤ most → length all1 ≤ most1
    → (stuck : Trace) (start : List Assignment) (arguments : List Value) (answers : List Answer)
    → trace_in stuck c1 most1 entry params start arguments answers ≡ trace_in stuck c most entry params start arguments answers
pruned_traces kept read steps c c1 p entry params k once all all1 within within1 most most1 large large1 stuck start arguments answers =
    ap (λ (store : Store). exec stuck c1 most1 (steps_for answers most1) most1 entry.0 0 store no_notes answers) (ap (λ (q : Code). start_store q params start arguments) p.shared)
    ∙ exec_follows stuck kept read steps c c1 p most1 (steps_for answers most1) most1 answers entry.0 0 (start_store c params start arguments) no_notes no_notes k (no_notes_same kept read steps)
    ∙ sym (bounds_free kept read steps c (prunes_self kept read steps c c1 p) entry params k once all all1 within within1 most most1 large large1 stuck start arguments answers)
