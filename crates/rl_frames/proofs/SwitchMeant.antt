-- The meaning of a `switch` statement of the source, as the port runs it, is that of the construct.
use Rattle.std.proofs.Common.{◌≡◌, Bool, true, if◌then◌else◌, List, [], ◌∷◌, map, Option, Some, None, refl, ap, ◌∙◌}
use Rattle.rl_frames.specs.SwitchMeanings.{CaseMeaning, case_runs, case_ways, from_default, in_turn, selecting, test_values}
use Rattle.rl_frames.specs.Meanings.{front_ways}
use Rattle.rl_machine.specs.declared.trace.Answer.{Answer}
use Rattle.rl_machine.specs.declared.trace.Value.{Value}
use Rattle.rl_machine.specs.Traces.{Cont, Store, matches, set_open, tested}
use Rattle.rl_model.specs.Actions.{◌>>=◌, ◌>>◌, Action, Label, Ways, breakable}
use Rattle.rl_model.specs.Expressions.{eval}
use Rattle.rl_model.specs.Scene.{Scene}
use Rattle.rl_model.specs.Statements.{eval_tests, exec, exec_all, exec_cases, exec_default, try_cases}
use Rattle.rl_runs.proofs.Labels.{labeled_breakable}
use Rattle.rl_runs.specs.Exits.{labeled_by, switched}
use Rattle.rl_syntax.specs.declared.numbered.At.{At}
use Rattle.rl_syntax.specs.declared.word.Word.TheVariants as word
use Rattle.rl_syntax.specs.Syntax.{Syntax, Node, Listed, Said, Count, Flag, Absent, Pieces, End, Then}

-- The parts of a case.
pub record CaseParts : Type 0 where
  pub at : At
  pub condition : Syntax
  pub statements : Pieces

abbrev pub case_pieces : List CaseParts → Pieces
case_pieces [] = End
case_pieces (k ∷ ks) = Then (Node k.at word.Case (Then k.condition (Then (Listed k.statements) End))) (case_pieces ks)

abbrev pub test_meaning : Scene → Syntax → Option (Action Value)
test_meaning scene Absent = None
test_meaning scene condition = Some (eval scene condition)

abbrev pub case_meaning : Scene → CaseParts → CaseMeaning
case_meaning scene k = record { test = test_meaning scene k.condition; body = exec_all scene k.statements }

abbrev pub case_meanings : Scene → List CaseParts → List CaseMeaning
case_meanings scene ks = map (case_meaning scene) ks

module _ (scene : Scene) where
  turns_meant : (ks : List CaseParts) → exec_cases scene (case_pieces ks) ≡ in_turn (case_meanings scene ks)
  turns_meant [] = refl
  turns_meant (k ∷ ks) = ap (λ (rest : Action (Unit {0})). exec_all scene k.statements >> rest) (turns_meant ks)

  default_meant : (ks : List CaseParts) → exec_default scene (case_pieces ks) ≡ from_default (case_meanings scene ks)
  default_meant [] = refl
  default_meant (k ∷ ks) = by_condition k.condition (default_meant ks)
    where
      by_condition : (condition : Syntax) → exec_default scene (case_pieces ks) ≡ from_default (case_meanings scene ks)
          → exec_default scene (case_pieces (record k { condition = condition } ∷ ks))
          ≡ from_default (case_meanings scene (record k { condition = condition } ∷ ks))
      by_condition Absent rest = ap (λ (behind : Action (Unit {0})). exec_all scene k.statements >> behind) (turns_meant ks)
      by_condition _ rest = rest

  -- A value stands for each case with a test.
  abbrev IsValued : Syntax → Option Value → Type 0
  IsValued Absent None = Unit {0}
  IsValued Absent (Some w) = ⊥
  IsValued condition None = ⊥
  IsValued condition (Some w) = Unit {0}

  abbrev AreValued : List CaseParts → List (Option Value) → Type 0
  AreValued [] [] = Unit {0}
  AreValued (k ∷ ks) (v ∷ vs) = IsValued k.condition v × AreValued ks vs
  AreValued _ _ = ⊥

  -- The tests, from the last to the first.
  tests_meant : (ks : List CaseParts) (ways : Ways) (onward other : List (Option Value) → Cont)
      → ((vs : List (Option Value)) → AreValued ks vs → onward vs ≡ other vs)
      → eval_tests scene (case_pieces ks) ways onward ≡ test_values (case_meanings scene ks) ways other
  tests_meant [] ways onward other same = same [] tt
  tests_meant (k ∷ ks) ways onward other same =
      by_condition k.condition same
      (λ before behind agree. tests_meant ks ways before behind agree)
    where
      by_condition : (condition : Syntax)
          → ((vs : List (Option Value)) → AreValued (record k { condition = condition } ∷ ks) vs → onward vs ≡ other vs)
          → ((before behind : List (Option Value) → Cont) → ((vs : List (Option Value)) → AreValued ks vs → before vs ≡ behind vs)
          → eval_tests scene (case_pieces ks) ways before ≡ test_values (case_meanings scene ks) ways behind)
          → eval_tests scene (case_pieces (record k { condition = condition } ∷ ks)) ways onward
          ≡ test_values (case_meanings scene (record k { condition = condition } ∷ ks)) ways other
      by_condition Absent agree further = further (λ vs. onward (None ∷ vs)) (λ vs. other (None ∷ vs)) (λ vs are. agree (None ∷ vs) (tt, are))
      by_condition (Node at w parts) agree further =
          further (λ vs. eval scene (Node at w parts) ways (λ v. onward (Some v ∷ vs))) (λ vs. eval scene (Node at w parts) ways (λ v. other (Some v ∷ vs)))
          (λ vs are i. eval scene (Node at w parts) ways (λ v. agree (Some v ∷ vs) (tt, are) i))
      by_condition (Listed parts) agree further =
          further (λ vs. eval scene (Listed parts) ways (λ v. onward (Some v ∷ vs))) (λ vs. eval scene (Listed parts) ways (λ v. other (Some v ∷ vs)))
          (λ vs are i. eval scene (Listed parts) ways (λ v. agree (Some v ∷ vs) (tt, are) i))
      by_condition (Said text) agree further =
          further (λ vs. eval scene (Said text) ways (λ v. onward (Some v ∷ vs))) (λ vs. eval scene (Said text) ways (λ v. other (Some v ∷ vs)))
          (λ vs are i. eval scene (Said text) ways (λ v. agree (Some v ∷ vs) (tt, are) i))
      by_condition (Count number) agree further =
          further (λ vs. eval scene (Count number) ways (λ v. onward (Some v ∷ vs))) (λ vs. eval scene (Count number) ways (λ v. other (Some v ∷ vs)))
          (λ vs are i. eval scene (Count number) ways (λ v. agree (Some v ∷ vs) (tt, are) i))
      by_condition (Flag flag) agree further =
          further (λ vs. eval scene (Flag flag) ways (λ v. onward (Some v ∷ vs))) (λ vs. eval scene (Flag flag) ways (λ v. other (Some v ∷ vs)))
          (λ vs are i. eval scene (Flag flag) ways (λ v. agree (Some v ∷ vs) (tt, are) i))

  -- The comparisons.

  abbrev compares : (v w : Value) → (hit miss : Cont) → Cont
  compares v w hit miss source answers = tested (set_open scene.world.opens) (matches v w) source answers hit miss

  abbrev tries : Value → (otherwise : Action (Unit {0})) → Ways → (normal : Cont) → List CaseParts → List (Option Value) → Cont
  tries v otherwise ways normal ks vs = try_cases scene (case_pieces ks) v vs otherwise ways (λ end. normal)

  abbrev switches : Value → (otherwise : Action (Unit {0})) → Ways → (normal : Cont) → List CaseParts → List (Option Value) → Cont
  switches v otherwise ways normal ks vs =
      switched (set_open scene.world.opens) (case_runs (case_meanings scene ks) vs ways normal) (otherwise ways (λ end. normal)) v

  tries_meant : (v : Value) (otherwise : Action (Unit {0})) (ways : Ways) (normal : Cont) (ks : List CaseParts)
      (vs : List (Option Value)) → AreValued ks vs → tries v otherwise ways normal ks vs ≡ switches v otherwise ways normal ks vs
  tries_meant v otherwise ways normal [] vs are = refl
  tries_meant v otherwise ways normal (k ∷ ks) [] are = absurd are
  tries_meant v otherwise ways normal (k ∷ ks) (w ∷ vs) are =
      by_condition k.condition w are.0 (tries_meant v otherwise ways normal ks vs are.1)
    where
      one_more : (w1 : Value) → tries v otherwise ways normal ks vs ≡ switches v otherwise ways normal ks vs
          → compares v w1 (exec_all scene k.statements ways (λ end. exec_cases scene (case_pieces ks) ways (λ end1. normal)))
          (tries v otherwise ways normal ks vs)
          ≡ compares v w1 (exec_all scene k.statements ways (λ end. in_turn (case_meanings scene ks) ways (λ end1. normal)))
          (switches v otherwise ways normal ks vs)
      one_more w1 same = λ i.
          compares v w1 (exec_all scene k.statements ways (λ end. turns_meant ks i ways (λ end1. normal))) (same i)

      by_condition : (condition : Syntax) (x : Option Value) → IsValued condition x
          → tries v otherwise ways normal ks vs ≡ switches v otherwise ways normal ks vs
          → tries v otherwise ways normal (record k { condition = condition } ∷ ks) (x ∷ vs)
          ≡ switches v otherwise ways normal (record k { condition = condition } ∷ ks) (x ∷ vs)
      by_condition Absent None is same = same
      by_condition Absent (Some w1) is same = absurd is
      by_condition (Node at u parts) None is same = absurd is
      by_condition (Node at u parts) (Some w1) is same = one_more w1 same
      by_condition (Listed parts) None is same = absurd is
      by_condition (Listed parts) (Some w1) is same = one_more w1 same
      by_condition (Said text) None is same = absurd is
      by_condition (Said text) (Some w1) is same = one_more w1 same
      by_condition (Count number) None is same = absurd is
      by_condition (Count number) (Some w1) is same = one_more w1 same
      by_condition (Flag flag) None is same = absurd is
      by_condition (Flag flag) (Some w1) is same = one_more w1 same

  -- The comparisons and the default, in the ways that the statement leaves to its cases.
  module _ (own : Label) (ks : List CaseParts) (ways : Ways) (normal : Cont) where
    abbrev compared_as : (vs : List (Option Value)) → Value → Cont
    compared_as vs v =
        switched (set_open scene.world.opens) (case_runs (case_meanings scene ks) vs (case_ways own normal ways) normal)
        (from_default (case_meanings scene ks) (case_ways own normal ways) (λ end. normal)) v

    compares_meant : (v : Value) (vs : List (Option Value)) → AreValued ks vs
        → labeled_by own (breakable (try_cases scene (case_pieces ks) v vs (exec_default scene (case_pieces ks)))) ways (λ end. normal)
        ≡ compared_as vs v
    compares_meant v vs are =
        labeled_breakable own (try_cases scene (case_pieces ks) v vs (exec_default scene (case_pieces ks))) ways (λ end. normal)
        ∙ tries_meant v (exec_default scene (case_pieces ks)) (case_ways own normal ways) normal ks vs are
        ∙ ap (λ (d : Action (Unit {0})). switched (set_open scene.world.opens)
        (case_runs (case_meanings scene ks) vs (case_ways own normal ways) normal) (d (case_ways own normal ways) (λ end. normal)) v)
        (default_meant ks)

-- A `switch` under a label, or without one.
pub switch_meant : (scene : Scene) (own : Label) (at : At) (value : Syntax) (ks : List CaseParts) → scene.ported ≡ true
    → (ways : Ways) (normal : Cont) (source : Store) (answers : List Answer)
    → labeled_by own (exec scene own (Node at word.Switch (Then value (Then (Listed (case_pieces ks)) End)))) ways (λ end. normal)
    source answers
    ≡ selecting scene.world own (case_meanings scene ks) (eval scene value) ways (λ end. normal) source answers
switch_meant scene None at value ks ported ways normal source answers =
    ap (λ (b : Bool). (if b then (do
      vs ← eval_tests scene (case_pieces ks)
      v ← eval scene value
      breakable (try_cases scene (case_pieces ks) v vs (exec_default scene (case_pieces ks)))) else (do
        v ← eval scene value
        breakable (try_cases scene (case_pieces ks) v [] (exec_default scene (case_pieces ks))))) ways (λ end. normal) source answers) ported
    ∙ (λ i. tests_meant scene ks ways
    (λ vs. eval scene value ways
    (λ v. breakable (try_cases scene (case_pieces ks) v vs (exec_default scene (case_pieces ks))) ways (λ end. normal)))
    (λ vs. eval scene value ways (λ v. compared_as scene None ks ways normal vs v))
    (λ vs are j. eval scene value ways (λ v. compares_meant scene None ks ways normal v vs are j)) i source answers)
switch_meant scene (Some label) at value ks ported ways normal source answers =
    ap (λ (b : Bool). (if b then (do
      vs ← eval_tests scene (case_pieces ks)
      v ← eval scene value
      breakable (try_cases scene (case_pieces ks) v vs (exec_default scene (case_pieces ks)))) else (do
        v ← eval scene value
        breakable (try_cases scene (case_pieces ks) v [] (exec_default scene (case_pieces ks)))))
    (front_ways (Some label) normal ways) (λ end. normal) source answers) ported
    ∙ (λ i. tests_meant scene ks (front_ways (Some label) normal ways)
    (λ vs. eval scene value (front_ways (Some label) normal ways)
    (λ v. breakable (try_cases scene (case_pieces ks) v vs (exec_default scene (case_pieces ks)))
    (front_ways (Some label) normal ways) (λ end. normal)))
    (λ vs. eval scene value (front_ways (Some label) normal ways) (λ v. compared_as scene (Some label) ks ways normal vs v))
    (λ vs are j. eval scene value (front_ways (Some label) normal ways) (λ v. compares_meant scene (Some label) ks ways normal v vs are j)) i
    source answers)
