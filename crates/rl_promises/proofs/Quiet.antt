-- Runs in which a throw shows nothing of the store. Outside all `try` blocks it leaves the function, so that what was stored is not seen.
use Rattle.std.proofs.Common.{◌≡◌, ℕ, zero, suc, Bool, true, false, if◌then◌else◌, List, Option, Some, None, length, refl, ◌∙◌}
use Rattle.rl_machine.specs.Traces.{unset}
use Rattle.rl_machine.specs.declared.trace.Value.{Value}
use Rattle.rl_model.specs.Actions.{Action, Ways, ◌>>=◌, ◌>>◌, body_of_loop, breakable, catching, done, give, labeled, loop, turns}
use Rattle.rl_model.specs.Statements.{turn_while, turn_with}

-- The ways of a part that stands in a `try` block, or in none.
abbrev pub quieted : (tried : Bool) → Ways → Ways
quieted tried ways = record ways {
  throws = λ v store. ways.throws v (if tried then store else unset);
  short = λ store. ways.short (if tried then store else unset);
}

abbrev pub quiet : {A : Type 0} → (tried : Bool) → Action A → Action A
quiet tried action ways onward = action (quieted tried ways) onward

-- Actions that run alike where they stand: in a `try` block they are one, and outside they may leave other stores where they throw.
pub record AreAlike {A : Type 0} (tried : Bool) (one other : Action A) : Type 0 where
  pub same : quiet tried one ≡ quiet tried other

pub alike_self : {A : Type 0} {tried : Bool} (action : Action A) → AreAlike tried action action
alike_self action = record { same = refl }

pub alike_of : {A : Type 0} (tried : Bool) (one other : Action A) → one ≡ other → AreAlike tried one other
alike_of tried one other same = record { same = λ i. quiet tried (same i) }

pub alike_then : {A : Type 0} {tried : Bool} {one other third : Action A} → AreAlike tried one other → AreAlike tried other third
    → AreAlike tried one third
alike_then first second = record { same = first.same ∙ second.same }

-- Actions by their parts.

pub alike_bind : {A B : Type 0} (tried : Bool) (one other : Action A) (next later : A → Action B) → AreAlike tried one other
    → ((a : A) → AreAlike tried (next a) (later a)) → AreAlike tried (one >>= next) (other >>= later)
alike_bind tried one other next later first second = record { same = λ i. (first.same i >>= (λ a. (second a).same i)) }

pub alike_row : {A B : Type 0} (tried : Bool) (one other : Action A) (next later : Action B) → AreAlike tried one other
    → AreAlike tried next later → AreAlike tried (one >> next) (other >> later)
alike_row tried one other next later first second = record { same = λ i. (first.same i >> second.same i) }

pub alike_if : {A : Type 0} (tried test : Bool) (one other next later : Action A) → AreAlike tried one other
    → AreAlike tried next later → AreAlike tried (if test then one else next) (if test then other else later)
alike_if tried true one other next later first second = first
alike_if tried false one other next later first second = second

pub alike_turns : (tried : Bool) (one other : Action Bool) → AreAlike tried one other → (most : ℕ)
    → AreAlike tried (turns most one) (turns most other)
alike_turns tried one other same zero = alike_self _
alike_turns tried one other same (suc most) =
    alike_bind tried one other (λ goes_on. if goes_on then turns most one else done) (λ goes_on. if goes_on then turns most other else done)
    same (λ goes_on. alike_if tried goes_on _ _ done done (alike_turns tried one other same most) (alike_self done))

pub alike_loop : (tried : Bool) (one other : Action Bool) → AreAlike tried one other → AreAlike tried (loop one) (loop other)
alike_loop tried one other same = record {
  same = λ i ways onward store answers. (alike_turns tried one other same (suc (length answers))).same i ways onward store answers;
}

pub alike_breakable : (tried : Bool) (one other : Action (Unit {0})) → AreAlike tried one other
    → AreAlike tried (breakable one) (breakable other)
alike_breakable tried one other same = record { same = λ i. breakable (same.same i) }

pub alike_body : (tried : Bool) (own : Option (List ℕ)) (one other : Action (Unit {0})) → AreAlike tried one other
    → AreAlike tried (body_of_loop own one) (body_of_loop own other)
alike_body tried own one other same = record { same = λ i. body_of_loop own (same.same i) }

pub alike_labeled : (tried : Bool) (label : List ℕ) (one other : Action (Unit {0})) → AreAlike tried one other
    → AreAlike tried (labeled label one) (labeled label other)
alike_labeled tried label one other same = record { same = λ i. labeled label (same.same i) }

-- A block whose throws a handler takes: in it the runs are one.
pub alike_catching : (tried : Bool) (one other : Action (Unit {0})) (first second : Value → Action (Unit {0})) → AreAlike true one other
    → ((v : Value) → AreAlike tried (first v) (second v)) → AreAlike tried (catching one first) (catching other second)
alike_catching tried one other first second same handled = record {
  same = λ i ways onward. same.same i (record (quieted tried ways) { throws = λ v. (handled v).same i ways onward }) onward;
}

-- Turns of loops.

pub alike_while : (tried : Bool) (one other : Action Bool) (first second : Action (Unit {0})) → AreAlike tried one other
    → AreAlike tried first second → AreAlike tried (turn_while one first) (turn_while other second)
alike_while tried one other first second tests same =
    alike_bind tried one other (λ met. if met then (first >> give true) else give false)
    (λ met. if met then (second >> give true) else give false) tests
    (λ met. alike_if tried met _ _ (give false) (give false)
    (alike_row tried first second (give true) (give true) same (alike_self (give true))) (alike_self (give false)))

pub alike_with : (tried : Bool) (taken : Option Value) (first second : Value → Action (Unit {0}))
    → ((v : Value) → AreAlike tried (first v) (second v)) → AreAlike tried (turn_with taken first) (turn_with taken second)
alike_with tried None first second same = alike_self _
alike_with tried (Some v) first second same = alike_row tried (first v) (second v) (give true) (give true) (same v) (alike_self (give true))
