-- The ways that loops, `switch` statements and labels leave to the statements in them.
use Rattle.std.proofs.Common.{◌≡◌, Bool, true, false, if◌then◌else◌, Some, None, refl, ap}
use Rattle.std.specs.Str.{bytes_eq}
use Rattle.rl_machine.specs.Traces.{Cont, waiting}
use Rattle.rl_model.specs.Actions.{Action, Label, Ways, body_of_loop, breakable, is_label, is_own}
use Rattle.rl_runs.specs.Exits.{is_named, labeled_by, loop_ways, switch_ways}

-- Functions that agree everywhere are equal.
same_everywhere : {A B : Type 0} (f g : A → B) → ((a : A) → f a ≡ g a) → f ≡ g
same_everywhere f g each = λ i a. each a i

-- A statement that may be broken, under a label or without one.
pub labeled_breakable : (own : Label) (action : Action (Unit {0})) (ways : Ways) (onward : Unit {0} → Cont)
    → labeled_by own (breakable action) ways onward ≡ action (switch_ways own (onward (tt {0})) (λ store answers. waiting) ways) onward
labeled_breakable None action ways onward =
    ap (λ (breaks : Label → Cont). action (record ways { breaks = breaks }) onward)
    (same_everywhere _ _ (λ jump. elim jump [ None ↦ refl | Some label ↦ refl ]))
labeled_breakable (Some own) action ways onward =
    ap (λ (breaks : Label → Cont). action
    (record (switch_ways (Some own) (onward (tt {0})) (λ store answers. waiting) ways) { breaks = breaks }) onward)
    (same_everywhere _ _ by_jump)
  where
    by_jump : (jump : Label)
        → (if (elim jump as (λ x. Bool) [ None ↦ true | Some label ↦ false ]) then onward (tt {0})
        else (if is_label own jump then onward (tt {0}) else ways.breaks jump))
        ≡ (if is_own (Some own) jump then onward (tt {0}) else ways.breaks jump)
    by_jump None = refl
    by_jump (Some label) = refl

-- The body of a loop in such a statement.
pub loop_body : (own : Label) (body : Action (Unit {0})) (behind astray again : Cont) (ways : Ways)
    → body_of_loop own body (switch_ways own behind astray ways) (λ end. again) ≡ body (loop_ways own again behind ways) (λ end. again)
loop_body own body behind astray again ways =
    ap (λ (continues : Label → Cont). body (record (loop_ways own again behind ways) { continues = continues }) (λ end. again))
    (same_everywhere _ _ (by_jump own))
  where
    once : (b : Bool) (k other : Cont) → (if b then again else (if b then k else other)) ≡ (if b then again else other)
    once true k other = refl
    once false k other = refl

    by_jump : (label jump : Label)
        → (if is_own label jump then again else (if is_named label jump then astray else ways.continues jump))
        ≡ (if is_own label jump then again else ways.continues jump)
    by_jump label None = refl
    by_jump None (Some x) = refl
    by_jump (Some label) (Some x) = once (bytes_eq label x) astray (ways.continues (Some x))
