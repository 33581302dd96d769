-- The turns of a run: traces and counts of steps, before a step and behind it.
use Rattle.std.proofs.Common.{◌≡◌, ◌+◌, ◌-◌, ◌<◌, ◌≤◌, ℕ, zero, suc, List, length, refl, ap, subst, sym, ◌∙◌, arith}
use Rattle.std.proofs.lemmas.List.{length-append}
use Rattle.rl_base.specs.declared.ids.BlockId.{BlockId}
use Rattle.rl_machine.specs.Ends.{Notes}
use Rattle.rl_machine.specs.Machine.{Code, Next, exec, no_way, step}
use Rattle.rl_machine.specs.Traces.{Store, waiting}
use Rattle.rl_machine.specs.declared.trace.Answer.{Answer}
use Rattle.rl_machine.specs.declared.trace.Trace.{Trace}
use Rattle.rl_trace.specs.Progress.{after}
use Rattle.rl_graph_steps.specs.Runs.{made_by, runs, steps_of, ticking}
use Rattle.rl_graph_steps.specs.States.{Ahead, State, came, code, steps_at}
use Rattle.rl_graph_steps.specs.declared.fuel.Fuel.{Fuel}
use Rattle.rl_graph_steps.specs.declared.machine.Goes.{Goes}
use Rattle.rl_graph_steps.specs.declared.machine.Goes.TheVariants as goes

-- A silent step goes on, with so many of them left.
abbrev pub silently : (most steps quiet : ℕ) → Code → Next
silently most steps zero c = no_way waiting
silently most steps (suc quiet) c = exec waiting c most steps quiet

abbrev pub ticking_silently : (most steps quiet : ℕ) → Code → Next
ticking_silently most steps zero c = no_way waiting
ticking_silently most steps (suc quiet) c = ticking c most steps quiet

-- The runs behind a step, with so many steps left.
abbrev pub onward : (most steps quiet : ℕ) → Ahead
onward most steps quiet = record { silent = silently most steps quiet; loud = λ c. exec waiting c most steps most }

abbrev pub ticking_onward : (most steps quiet : ℕ) → Ahead
ticking_onward most steps quiet = record { silent = ticking_silently most steps quiet; loud = λ c. ticking c most steps most }

-- The events of a run from a point, without those before it.
abbrev pub asks : (most steps quiet id index : ℕ) → State → ℕ
asks most steps quiet id index s = length (exec waiting (code s) most steps quiet id index s.seen.store s.notes s.seen.answers).events

-- As `asks`, with the ticks.
abbrev pub ticks : (most steps quiet id index : ℕ) → State → ℕ
ticks most steps quiet id index s = length (ticking (code s) most steps quiet id index s.seen.store s.notes s.seen.answers).events

-- A run that has steps left makes one.
exec_again : (c : Code) (most left steps quiet id index : ℕ) (store : Store) (notes : Notes) (answers : List Answer) → left + 1 ≡ steps
    → step waiting c (c.item id index) (silently most left quiet c) (exec waiting c most left most) id index store notes answers
    ≡ exec waiting c most steps quiet id index store notes answers
exec_again c most left zero quiet id index store notes answers one = absurd (omega (arith, one))
exec_again c most left (suc n) zero id index store notes answers one =
    let same : left ≡ n = omega (arith, one) in
    ap (λ m. step waiting c (c.item id index) (silently most m 0 c)
    (exec waiting c most m most) id index store notes answers) same
exec_again c most left (suc n) (suc quiet) id index store notes answers one =
    let same : left ≡ n = omega (arith, one) in
    ap (λ m. step waiting c (c.item id index) (silently most m (suc quiet) c)
    (exec waiting c most m most) id index store notes answers) same

tick_again : (c : Code) (most left steps quiet id index : ℕ) (store : Store) (notes : Notes) (answers : List Answer) → left + 1 ≡ steps
    → suc (length (step waiting c (c.item id index) (ticking_silently most left quiet c) (ticking c most left most) id index store notes
    answers).events)
    ≡ length (ticking c most steps quiet id index store notes answers).events
tick_again c most left zero quiet id index store notes answers one = absurd (omega (arith, one))
tick_again c most left (suc n) zero id index store notes answers one =
    let same : left ≡ n = omega (arith, one) in
    ap (λ m. suc (length (step waiting c (c.item id index) (ticking_silently most m 0 c)
    (ticking c most m most) id index store notes answers).events)) same
tick_again c most left (suc n) (suc quiet) id index store notes answers one =
    let same : left ≡ n = omega (arith, one) in
    ap (λ m. suc (length (step waiting c (c.item id index) (ticking_silently most m (suc quiet) c)
    (ticking c most m most) id index store notes answers).events)) same

silently_again : (c : Code) (most steps quiet id index : ℕ) (store : Store) (notes : Notes) (answers : List Answer) → (quiet ≡ 0 → ⊥)
    → exec waiting c most steps (quiet - 1) id index store notes answers ≡ silently most steps quiet c id index store notes answers
silently_again c most steps zero id index store notes answers some = absurd (some refl)
silently_again c most steps (suc quiet) id index store notes answers some =
    let less : suc quiet - 1 ≡ quiet = omega arith in
    ap (λ q. exec waiting c most steps q id index store notes answers) less

ticking_again : (c : Code) (most steps quiet id index : ℕ) (store : Store) (notes : Notes) (answers : List Answer) → (quiet ≡ 0 → ⊥)
    → ticking c most steps (quiet - 1) id index store notes answers ≡ ticking_silently most steps quiet c id index store notes answers
ticking_again c most steps zero id index store notes answers some = absurd (some refl)
ticking_again c most steps (suc quiet) id index store notes answers some =
    let less : suc quiet - 1 ≡ quiet = omega arith in
    ap (λ q. ticking c most steps q id index store notes answers) less

-- A step of a run with the fuel `f`, which leaves `k`.
pub record Spends (f k : Fuel) : Type 0 where
  pub steps : steps_of k + 1 ≡ steps_of f
  pub most : k.most ≡ f.most
  pub quiet : k.quiet ≡ f.quiet

abbrev pub Moves : Goes → (id index : ℕ) → (old new : State) → Type 0
Moves g id index old new = (ahead : Ahead) → came ahead g new ≡ steps_at ahead id index old

-- The trace behind the step is that of the run.
turn : (f k : Fuel) → Spends f k → (g : Goes) (id index : ℕ) (old new : State) → Moves g id index old new
    → came (onward k.most (steps_of k) k.quiet) g new ≡ runs f.most (steps_of f) f.quiet id index old
turn f k less g id index old new is =
    is (onward k.most (steps_of k) k.quiet)
    ∙ ap (λ m. steps_at (onward m (steps_of k) k.quiet) id index old) less.most
    ∙ ap (λ q. steps_at (onward f.most (steps_of k) q) id index old) less.quiet
    ∙ ap (after old.seen.events) (exec_again (code old) f.most (steps_of k) (steps_of f) f.quiet id index old.seen.store old.notes
    old.seen.answers less.steps)

-- As `turn`, for the number of events.
turn_asks : (f k : Fuel) → Spends f k → (g : Goes) (id index : ℕ) (old new : State) → Moves g id index old new
    → length (came (onward k.most (steps_of k) k.quiet) g new).events
    ≡ length old.seen.events + asks f.most (steps_of f) f.quiet id index old
turn_asks f k less g id index old new is =
    ap (λ t. length t.events) (turn f k less g id index old new is)
    ∙ length-append old.seen.events (exec waiting (code old) f.most (steps_of f) f.quiet id index old.seen.store old.notes
    old.seen.answers).events

more : (a b c : ℕ) → suc b ≡ c → suc (a + b) ≡ a + c
more a b c next = omega (arith, next)

-- As `turn_asks`, with the ticks: this step has one.
turn_ticks : (f k : Fuel) → Spends f k → (g : Goes) (id index : ℕ) (old new : State) → Moves g id index old new
    → suc (length (came (ticking_onward k.most (steps_of k) k.quiet) g new).events)
    ≡ length old.seen.events + ticks f.most (steps_of f) f.quiet id index old
turn_ticks f k less g id index old new is =
    ap (λ (t : Trace). suc (length t.events)) (is (ticking_onward k.most (steps_of k) k.quiet)
    ∙ ap (λ m. steps_at (ticking_onward m (steps_of k) k.quiet) id index old) less.most
    ∙ ap (λ q. steps_at (ticking_onward f.most (steps_of k) q) id index old) less.quiet)
    ∙ ap suc (length-append old.seen.events (step waiting (code old) ((code old).item id index) (ticking_silently f.most
    (steps_of k) f.quiet (code old)) (ticking (code old) f.most (steps_of k) f.most) id index old.seen.store old.notes
    old.seen.answers).events)
    ∙ more (length old.seen.events) (length (step waiting (code old) ((code old).item id index) (ticking_silently f.most
    (steps_of k) f.quiet (code old)) (ticking (code old) f.most (steps_of k) f.most) id index old.seen.store old.notes
    old.seen.answers).events) (ticks f.most (steps_of f) f.quiet id index old)
    (tick_again (code old) f.most (steps_of k) (steps_of f) f.quiet id index old.seen.store old.notes old.seen.answers less.steps)

-- The run goes on from a point of `new`, with one tick less.
pub record GoesOn (f : Fuel) (id index : ℕ) (old : State) (most steps quiet id1 index1 : ℕ) (new : State) : Type 0 where
  pub same : runs most steps quiet id1 index1 new ≡ runs f.most (steps_of f) f.quiet id index old
  pub count : asks f.most (steps_of f) f.quiet id index old + ticks most steps quiet id1 index1 new + 1
      ≡ asks most steps quiet id1 index1 new + ticks f.most (steps_of f) f.quiet id index old

-- The run ends with this trace, and its last tick.
pub record GoesOut (f : Fuel) (id index : ℕ) (old : State) (t : Trace) : Type 0 where
  pub same : t ≡ runs f.most (steps_of f) f.quiet id index old
  pub count : ticks f.most (steps_of f) f.quiet id index old ≡ asks f.most (steps_of f) f.quiet id index old + 1

counts : (new old a a1 t t1 : ℕ) → new + a1 ≡ old + a → suc (new + t1) ≡ old + t → a + t1 + 1 ≡ a1 + t
counts new old a a1 t t1 asked ticked = omega (arith, asked, ticked)

last_counts : (new old a t : ℕ) → new ≡ old + a → suc new ≡ old + t → t ≡ a + 1
last_counts new old a t asked ticked = omega (arith, asked, ticked)

-- Behind an event.
pub loudly : (f k : Fuel) → Spends f k → (g : Goes) (b : BlockId) (next_index id index : ℕ) (old new : State)
    → g ≡ goes.Loudly b next_index
    → Moves g id index old new
    → GoesOn f id index old k.most (steps_of k) k.most b.0 next_index new
loudly f k less g b next_index id index old new kind is =
    let there : Moves (goes.Loudly b next_index) id index old new = subst (λ way. Moves way id index old new) kind is in
    record {
      same = turn f k less (goes.Loudly b next_index) id index old new there;
      count = counts (length new.seen.events) (length old.seen.events) (asks f.most (steps_of f) f.quiet id index old) (asks
          k.most (steps_of k) k.most b.0 next_index new) (ticks f.most (steps_of f) f.quiet id index old) (ticks k.most
          (steps_of k) k.most b.0 next_index new)
          (sym (length-append new.seen.events (exec waiting (code new) k.most (steps_of k) k.most b.0 next_index new.seen.store
          new.notes new.seen.answers).events)
          ∙ turn_asks f k less (goes.Loudly b next_index) id index old new there)
          (ap suc (sym (length-append new.seen.events (ticking (code new) k.most (steps_of k) k.most b.0 next_index new.seen.store
          new.notes new.seen.answers).events))
          ∙ turn_ticks f k less (goes.Loudly b next_index) id index old new there);
    }

-- Without an event, where silent steps are left.
pub silently_on : (f k : Fuel) → Spends f k → (g : Goes) (b : BlockId) (next_index id index : ℕ) (old new : State)
    → g ≡ goes.Silently b next_index → (k.quiet ≡ 0 → ⊥)
    → Moves g id index old new
    → GoesOn f id index old k.most (steps_of k) (k.quiet - 1) b.0 next_index new
silently_on f k less g b next_index id index old new kind some is =
    let there : Moves (goes.Silently b next_index) id index old new = subst (λ way. Moves way id index old new) kind is in
    let again : exec waiting (code new) k.most (steps_of k) (k.quiet - 1) b.0 next_index new.seen.store new.notes new.seen.answers
    ≡ silently k.most (steps_of k) k.quiet (code new) b.0 next_index new.seen.store new.notes new.seen.answers
    = silently_again (code new) k.most (steps_of k) k.quiet b.0 next_index new.seen.store new.notes new.seen.answers some in
    let ticked : ticking (code new) k.most (steps_of k) (k.quiet - 1) b.0 next_index new.seen.store new.notes new.seen.answers
    ≡ ticking_silently k.most (steps_of k) k.quiet (code new) b.0 next_index new.seen.store new.notes new.seen.answers
    = ticking_again (code new) k.most (steps_of k) k.quiet b.0 next_index new.seen.store new.notes new.seen.answers some in
    record {
      same = ap (after new.seen.events) again ∙ turn f k less (goes.Silently b next_index) id index old new there;
      count = counts (length new.seen.events) (length old.seen.events) (asks f.most (steps_of f) f.quiet id index old) (asks
          k.most (steps_of k) (k.quiet - 1) b.0 next_index new) (ticks f.most (steps_of f) f.quiet id index old) (ticks k.most
          (steps_of k) (k.quiet - 1) b.0 next_index new)
          (sym (length-append new.seen.events (exec waiting (code new) k.most (steps_of k) (k.quiet - 1) b.0 next_index
          new.seen.store new.notes new.seen.answers).events)
          ∙ ap (λ (t : Trace). length (after new.seen.events t).events) again
          ∙ turn_asks f k less (goes.Silently b next_index) id index old new there)
          (ap suc (sym (length-append new.seen.events (ticking (code new) k.most (steps_of k) (k.quiet - 1) b.0 next_index
          new.seen.store new.notes new.seen.answers).events))
          ∙ ap (λ (t : Trace). suc (length (after new.seen.events t).events)) ticked
          ∙ turn_ticks f k less (goes.Silently b next_index) id index old new there);
    }

-- To no point.
pub goes_out : (f k : Fuel) → Spends f k → (g out : Goes) (t : Trace) (id index : ℕ) (old new : State) → g ≡ out
    → came (onward k.most (steps_of k) k.quiet) out new ≡ t → came (ticking_onward k.most (steps_of k) k.quiet) out new ≡ t
    → Moves g id index old new
    → GoesOut f id index old t
goes_out f k less g out t id index old new kind so ticked is =
    let there : Moves out id index old new = subst (λ way. Moves way id index old new) kind is in
    record {
      same = sym so ∙ turn f k less out id index old new there;
      count = last_counts (length t.events) (length old.seen.events) (asks f.most (steps_of f) f.quiet id index old) (ticks
          f.most (steps_of f) f.quiet id index old)
          (ap (λ (u : Trace). length u.events) (sym so) ∙ turn_asks f k less out id index old new there)
          (ap (λ (u : Trace). suc (length u.events)) (sym ticked) ∙ turn_ticks f k less out id index old new there);
    }

-- Without an event, where no silent step is left.
pub silently_out : (f k : Fuel) → Spends f k → (g : Goes) (b : BlockId) (next_index id index : ℕ) (old new : State)
    → g ≡ goes.Silently b next_index → k.quiet ≡ 0
    → Moves g id index old new
    → GoesOut f id index old (after new.seen.events waiting)
silently_out f k less g b next_index id index old new kind none is =
    goes_out f k less g (goes.Silently b next_index) (after new.seen.events waiting) id index old new kind
    (ap (λ q. after new.seen.events (silently k.most (steps_of k) q (code new) b.0 next_index new.seen.store new.notes
    new.seen.answers)) none)
    (ap (λ q. after new.seen.events (ticking_silently k.most (steps_of k) q (code new) b.0 next_index new.seen.store new.notes
    new.seen.answers)) none)
    is

-- A run with the fuel `f` from a block of `start` has come to a point with the fuel `k`: it has the trace of that point, and `steps` is
-- `before` and the ticks on the way.
pub record Holds (f : Fuel) (entry : ℕ) (start : State) (before : ℕ) (k : Fuel) (id index : ℕ) (now : State) (steps : ℕ) : Type 0 where
  pub same : runs k.most (steps_of k) k.quiet id index now ≡ runs f.most (steps_of f) f.quiet entry 0 start
  pub count : steps + ticks k.most (steps_of k) k.quiet id index now + asks f.most (steps_of f) f.quiet entry 0 start
      ≡ before + ticks f.most (steps_of f) f.quiet entry 0 start + asks k.most (steps_of k) k.quiet id index now
  pub grown : before ≤ steps

-- A run has ended with this trace.
pub record HasEnded (f : Fuel) (entry : ℕ) (start : State) (before : ℕ) (t : Trace) (steps : ℕ) : Type 0 where
  pub trace : t ≡ runs f.most (steps_of f) f.quiet entry 0 start
  pub counted : steps ≡ before + made_by f.most (steps_of f) f.quiet entry 0 start

pub begins : (f : Fuel) (entry : ℕ) (start : State) (before : ℕ) → Holds f entry start before f entry 0 start before
begins f entry start before = record { same = refl; count = refl; grown = omega arith }

count_on : (steps later before a t a0 t0 a1 t1 : ℕ) → steps + t0 + a ≡ before + t + a0 → a0 + t1 + 1 ≡ a1 + t0 → later ≡ steps + 1
    → later + t1 + a ≡ before + t + a1
count_on steps later before a t a0 t0 a1 t1 held turned ticked = omega (arith, held, turned, ticked)

pub goes_on : (f : Fuel) (entry : ℕ) (start : State) (before : ℕ) (k next : Fuel) (id index id1 index1 : ℕ) (now new : State)
    (steps later : ℕ)
    → Holds f entry start before k id index now steps → GoesOn k id index now next.most (steps_of next) next.quiet id1 index1 new
    → later ≡ steps + 1
    → Holds f entry start before next id1 index1 new later
goes_on f entry start before k next id index id1 index1 now new steps later held on ticked = record {
  same = on.same ∙ held.same;
  count = count_on steps later before (asks f.most (steps_of f) f.quiet entry 0 start) (ticks f.most (steps_of f) f.quiet entry 0 start)
      (asks k.most (steps_of k) k.quiet id index now) (ticks k.most (steps_of k) k.quiet id index now) (asks next.most (steps_of
      next) next.quiet id1 index1 new) (ticks next.most (steps_of next) next.quiet id1 index1 new) held.count on.count ticked;
  grown = omega (arith, held.grown, ticked);
}

count_out : (steps later before a t a0 t0 : ℕ) → steps + t0 + a ≡ before + t + a0 → before ≤ steps → t0 ≡ a0 + 1 → later ≡ steps + 1
    → later ≡ before + (t - a)
count_out steps later before a t a0 t0 held grown turned ticked = omega (arith, held, grown, turned, ticked)

pub ends : (f : Fuel) (entry : ℕ) (start : State) (before : ℕ) (k : Fuel) (id index : ℕ) (now : State) (steps later : ℕ) (t : Trace)
    → Holds f entry start before k id index now steps → GoesOut k id index now t → later ≡ steps + 1
    → HasEnded f entry start before t later
ends f entry start before k id index now steps later t held out ticked = record {
  trace = out.same ∙ held.same;
  counted = count_out steps later before (asks f.most (steps_of f) f.quiet entry 0 start) (ticks f.most (steps_of f) f.quiet entry
      0 start) (asks k.most (steps_of k) k.quiet id index now) (ticks k.most (steps_of k) k.quiet id index now) held.count held.grown
      out.count ticked;
}

count_over : (steps before a t a0 t0 : ℕ) → steps + t0 + a ≡ before + t + a0 → before ≤ steps → t0 ≡ 0 → a0 ≡ 0 → steps ≡ before + (t - a)
count_over steps before a t a0 t0 held grown no_tick no_event = omega (arith, held, grown, no_tick, no_event)

pub none_left : (n : ℕ) → (0 < n → ⊥) → n ≡ 0
none_left zero none = refl
none_left (suc n) none = absurd (none (omega arith))

-- No steps are left.
pub ends_over : (f : Fuel) (entry : ℕ) (start : State) (before : ℕ) (k : Fuel) (id index : ℕ) (now : State) (steps : ℕ)
    → Holds f entry start before k id index now steps → steps_of k ≡ 0
    → HasEnded f entry start before (after now.seen.events waiting) steps
ends_over f entry start before k id index now steps held none = record {
  trace = ap (λ n. runs k.most n k.quiet id index now) (sym none) ∙ held.same;
  counted = count_over steps before (asks f.most (steps_of f) f.quiet entry 0 start) (ticks f.most (steps_of f) f.quiet entry 0 start) (asks
      k.most (steps_of k) k.quiet id index now) (ticks k.most (steps_of k) k.quiet id index now) held.count held.grown (ap
      (λ n. ticks k.most n k.quiet id index now) none) (ap (λ n. asks k.most n k.quiet id index now) none);
}
