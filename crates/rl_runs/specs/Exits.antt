-- The ways out of the body of a loop, of a labelled statement and of a `switch`, and the comparisons of a `switch`.
use Rattle.std.specs.Prelude.{◌≡◌, ℕ, Bool, false, if◌then◌else◌, Option, Some, None, List, [], ◌∷◌}
use Rattle.rl_hir.specs.declared.instruction.Place.{Place}
use Rattle.rl_hir.specs.declared.terminal.Case.{Case}
use Rattle.rl_machine.specs.declared.trace.Answer.{Answer}
use Rattle.rl_machine.specs.declared.trace.Value.{Value}
use Rattle.rl_machine.specs.Ends.{Notes}
use Rattle.rl_machine.specs.Machine.{Code}
use Rattle.rl_machine.specs.Traces.{Changer, Cont, Store, matches, tested}
use Rattle.rl_model.specs.Actions.{Action, Label, Ways, is_label, is_own, labeled}
use Rattle.rl_runs.specs.Continuations.{Follows, Range}
use Rattle.rl_runs.specs.Facts.{Nobody}

-- The ways in a loop under a label, or without one: its own jumps go behind the loop and into its next turn.
abbrev pub loop_ways : (own : Label) → (again behind : Cont) → Ways → Ways
loop_ways own again behind ways = record ways {
  breaks = λ jump. if is_own own jump then behind else ways.breaks jump;
  continues = λ jump. if is_own own jump then again else ways.continues jump;
}

-- True of a jump to the label.
abbrev pub is_named : (own jump : Label) → Bool
is_named None jump = false
is_named (Some own) jump = is_label own jump

-- The ways in a `switch` under a label, or without one. A `continue` to its label, `astray`, has no target.
abbrev pub switch_ways : (own : Label) → (behind astray : Cont) → Ways → Ways
switch_ways own behind astray ways = record ways {
  breaks = λ jump. if is_own own jump then behind else ways.breaks jump;
  continues = λ jump. if is_named own jump then astray else ways.continues jump;
}

-- The ways in a labelled statement that is no loop and no `switch`.
abbrev pub label_ways : (own : List ℕ) → (behind astray : Cont) → Ways → Ways
label_ways own behind astray ways = record ways {
  breaks = λ jump. if is_label own jump then behind else ways.breaks jump;
  continues = λ jump. if is_label own jump then astray else ways.continues jump;
}

-- A statement under a label, or without one.
abbrev pub labeled_by : (own : Label) → Action (Unit {0}) → Action (Unit {0})
labeled_by None action = action
labeled_by (Some label) action = labeled label action

-- Compares a value with those of the cases in order: the first that matches goes on, else the default. A case without a value is passed.
abbrev pub switched : Changer → List (Option Value × Cont) → (other : Cont) → Value → Cont
switched change [] other v source answers = other source answers
switched change ((None, k) ∷ ks) other v source answers = switched change ks other v source answers
switched change ((Some w, k) ∷ ks) other v source answers = tested change (matches v w) source answers k (switched change ks other v)

-- The value of a case's test is in its place.
abbrev pub IsTest : Code → Store → Option Place → Option Value → Type 0
IsTest c store None None = Unit {0}
IsTest c store (Some place) (Some w) = Nobody c.ident place.identifier.0 × (store place.identifier.0 ≡ w)
IsTest c store _ _ = ⊥

-- The cases have these values and traces.
abbrev pub AreCases : Code → Range → Store → Notes → List Answer → List Case → List (Option Value × Cont) → Type 0
AreCases c r store notes answers [] [] = Unit {0}
AreCases c r store notes answers (k ∷ cases) (t ∷ ks) =
    IsTest c store k.test t.0 × Follows c r store notes answers k.block.0 0 t.1 × AreCases c r store notes answers cases ks
AreCases c r store notes answers _ _ = ⊥
