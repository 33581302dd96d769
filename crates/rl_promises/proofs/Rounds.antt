-- Steps in two rounds: those of the first one store to variables that those in front of them neither name nor assign, so that the rounds
-- run as all steps in a row.
use Rattle.std.proofs.Common.{◌≡◌, ℕ, Bool, true, false, true≢false, not, ◌||◌, eq-eqb, if◌then◌else◌, List, [], ◌∷◌, ◌++◌, refl, sym, ap}
use Rattle.std.proofs.Common.{◌∙◌}
use Rattle.rl_machine.specs.Traces.{Cont, Store, unset}
use Rattle.rl_machine.specs.declared.trace.Answer.{Answer}
use Rattle.rl_machine.specs.declared.trace.Assignment.{Assignment}
use Rattle.rl_model.specs.Actions.{Action, Ways, ◌>>◌, done, no_meaning}
use Rattle.rl_model.specs.Code.{contains}
use Rattle.rl_model.specs.Functions.{set_all}
use Rattle.rl_model.specs.Patterns.{in_turn}
use Rattle.rl_promises.proofs.Quiet.{AreAlike, alike_row, alike_self, alike_then, quieted}
use Rattle.rl_promises.proofs.RelatedStores.{Relates}
use Rattle.rl_promises.proofs.SetStores.{set_ahead, set_all-append, set_by}

-- A step as the port takes it and as it is written; an early one is taken in the first round, and stores to variables alone.
pub record Step : Type 0 where
  pub early : Bool
  pub ported : Action (Unit {0})
  pub written : Action (Unit {0})
  pub sets : List Assignment

abbrev pub first_round : List Step → Action (Unit {0})
first_round [] = done
first_round (x ∷ steps) = in_turn x.early x.ported >> first_round steps

abbrev pub second_round : List Step → Action (Unit {0})
second_round [] = done
second_round (x ∷ steps) = in_turn (not x.early) x.ported >> second_round steps

abbrev pub in_order : List Step → Action (Unit {0})
in_order [] = done
in_order (x ∷ steps) = x.written >> in_order steps

-- All that the steps of the first round store.
abbrev pub all_sets : List Step → List Assignment
all_sets [] = []
all_sets (x ∷ steps) = x.sets ++ all_sets steps

pub record IsStored (x : Step) : Type 0 where
  pub stores : (ways : Ways) (onward : Unit {0} → Cont) (store : Store) (answers : List Answer)
      → in_turn x.early x.ported ways onward store answers ≡ onward (tt {0}) (set_all x.sets store) answers

abbrev pub AreStored : List Step → Type 0
AreStored [] = Unit {0}
AreStored (x ∷ steps) = IsStored x × AreStored steps

first_stores : (steps : List Step) → AreStored steps → (ways : Ways) (onward : Unit {0} → Cont) (store : Store) (answers : List Answer)
    → first_round steps ways onward store answers ≡ onward (tt {0}) (set_all (all_sets steps) store) answers
first_stores [] stored ways onward store answers = refl
first_stores (x ∷ steps) stored ways onward store answers =
    stored.0.stores ways (λ end. first_round steps ways onward) store answers
    ∙ first_stores steps stored.1 ways onward (set_all x.sets store) answers
    ∙ ap (λ (s : Store). onward (tt {0}) s answers) (sym (set_all-append x.sets (all_sets steps) store))

-- An action passes the first round of the steps behind it.
pub record Passes (tried : Bool) (steps : List Step) (action : Action (Unit {0})) : Type 0 where
  pub moves : (next : Action (Unit {0}))
      → AreAlike tried (first_round steps >> (action >> next)) (action >> (first_round steps >> next))

-- Each step means the same both ways, and passes the first round of those behind it unless it is early.
abbrev pub AreOrderly : (tried : Bool) → List Step → Type 0
AreOrderly tried [] = Unit {0}
AreOrderly tried (x ∷ steps) =
    AreAlike tried x.ported x.written × (x.early ≡ false → Passes tried steps x.written) × AreOrderly tried steps

pub rounds_alike : (tried : Bool) (steps : List Step) → AreOrderly tried steps
    → AreAlike tried (first_round steps >> second_round steps) (in_order steps)
rounds_alike tried [] orderly = alike_self done
rounds_alike tried (x ∷ steps) orderly = by_turn (rounds_alike tried steps orderly.2) x.early orderly.1
  where
    by_turn : AreAlike tried (first_round steps >> second_round steps) (in_order steps) → (early : Bool)
        → (early ≡ false → Passes tried steps x.written)
        → AreAlike tried ((in_turn early x.ported >> first_round steps) >> (in_turn (not early) x.ported >> second_round steps))
        (x.written >> in_order steps)
    by_turn later true passes =
        alike_row tried x.ported x.written (first_round steps >> second_round steps) (in_order steps) orderly.0 later
    by_turn later false passes =
        alike_then
        (alike_row tried (first_round steps) (first_round steps) (x.ported >> second_round steps) (x.written >> second_round steps)
        (alike_self (first_round steps))
        (alike_row tried x.ported x.written (second_round steps) (second_round steps) orderly.0 (alike_self (second_round steps))))
        (alike_then ((passes refl).moves (second_round steps))
        (alike_row tried x.written x.written (first_round steps >> second_round steps) (in_order steps) (alike_self x.written) later))

-- A way out sees nothing of the store where it leaves the function.
unseen : (tried : Bool) (sets : List Assignment) → ((symbol : ℕ) → contains (set_by sets) symbol ≡ true → tried ≡ false)
    → (one other : Store) → one ≡ set_all sets other → (if tried then one else unset) ≡ (if tried then other else unset)
unseen false sets untried one other same = refl
unseen true [] untried one other same = same
unseen true (a ∷ sets) untried one other same =
    absurd (true≢false (untried a.symbol.0 (ap (λ (b : Bool). b || contains (set_by sets) a.symbol.0) (eq-eqb a.symbol.0 a.symbol.0 refl))))

-- An action passes steps that store to variables which it neither names nor assigns, outside `try` blocks.
pub passes_by : (tried : Bool) (assigned : List ℕ) (steps : List Step) (action : Action (Unit {0})) → AreStored steps
    → ((symbol : ℕ) → contains (set_by (all_sets steps)) symbol ≡ true → tried ≡ false)
    → Relates (set_ahead assigned (all_sets steps)).R action → Passes tried steps action
passes_by tried assigned steps action stored untried relates = record {
  moves = λ next. record {
    same = λ i ways onward store answers. (
        first_stores steps stored (quieted tried ways) (λ end. action (quieted tried ways) (λ also. next (quieted tried ways) onward))
        store answers
        ∙ relates.holds (quieted tried ways) (quieted tried ways) (λ end. next (quieted tried ways) onward)
        (λ end. first_round steps (quieted tried ways) (λ also. next (quieted tried ways) onward))
        (set_all (all_sets steps) store) store answers refl
        (λ v one other rest same. ap (λ (s : Store). ways.throws v s rest) (unseen tried (all_sets steps) untried one other same))
        (λ one other rest same. ap (λ (s : Store). ways.short s rest) (unseen tried (all_sets steps) untried one other same))
        (λ end one other rest same.
        (λ j. next (quieted tried ways) onward (same j) rest)
        ∙ sym (first_stores steps stored (quieted tried ways) (λ also. next (quieted tried ways) onward) other rest))) i;
  };
}

-- Nothing, and what has no meaning, pass all steps.

pub done_passes : (tried : Bool) (steps : List Step) → Passes tried steps done
done_passes tried steps = record { moves = λ next. alike_self (first_round steps >> next) }

pub none_passes : (tried : Bool) (steps : List Step) → AreStored steps → Passes tried steps no_meaning
none_passes tried steps stored = record {
  moves = λ next. record {
    same = λ i ways onward store answers.
        first_stores steps stored (quieted tried ways)
        (λ end. no_meaning {A = Unit {0}} (quieted tried ways) (λ also. next (quieted tried ways) onward))
        store answers i;
  };
}
