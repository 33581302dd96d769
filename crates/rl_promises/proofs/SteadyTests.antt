-- The tests of a `switch` in an orderly function: a run that evaluates them before the discriminant is one that evaluates them behind it.
use Rattle.std.proofs.Common.{◌≡◌, ℕ, Bool, true, false, true≢false, not, if◌then◌else◌, List, [], ◌∷◌, Option, Some, None, refl, sym}
use Rattle.std.proofs.Common.{ap, subst, ◌∙◌}
use Rattle.std.proofs.lemmas.Bool.{and_parts, not-true}
use Rattle.rl_base.specs.declared.diagnostic.Diagnostic.{Diagnostic}
use Rattle.rl_grammar.specs.Grammar.{fits, each}
use Rattle.rl_grammar.specs.declared.kind.Field.TheVariants as field
use Rattle.rl_grammar.specs.declared.kind.Kind.TheVariants as kind
use Rattle.rl_machine.specs.Traces.{Cont, Store, matches}
use Rattle.rl_machine.specs.declared.trace.Answer.{Answer}
use Rattle.rl_machine.specs.declared.trace.Value.{Value}
use Rattle.rl_machine.specs.declared.trace.Value.TheVariants as value
use Rattle.rl_model.specs.Actions.{Action, Ways, ◌>>=◌, ◌>>◌, breakable, give, no_meaning, test}
use Rattle.rl_model.specs.Code.{contains}
use Rattle.rl_model.specs.Expressions.{eval, read}
use Rattle.rl_model.specs.Orderly.{is_steady, is_steady_name}
use Rattle.rl_model.specs.Scene.{Scene}
use Rattle.rl_model.specs.Statements.{eval_tests, exec_all, exec_cases, try_cases}
use Rattle.rl_names.specs.declared.names.Meaning.{Meaning}
use Rattle.rl_names.specs.declared.names.Meaning.TheVariants.{Local, Outer}
use Rattle.rl_promises.proofs.Accepted.{nil_parts}
use Rattle.rl_promises.proofs.CoveredForms.{text_form}
use Rattle.rl_promises.proofs.FunctionParts.{flag_form}
use Rattle.rl_promises.proofs.KeptVariables.{Agree, Keeps, agree_then, keeps_test}
use Rattle.rl_promises.specs.Rows.{refusals, refusals_in}
use Rattle.rl_syntax.specs.Syntax.{Syntax, Node, Listed, Said, Flag, Absent, Pieces, End, Then}
use Rattle.rl_syntax.specs.declared.numbered.At.{At}
use Rattle.rl_syntax.specs.declared.word.Word.TheVariants as word
use Rattle.rl_text.specs.Numeral.{is_numeral, number_of}

-- An action that gives a value without an event, and the same one as long as no variable of the function is assigned.
pub record IsSteady (assigned : List ℕ) {A : Type 0} (action : Action A) : Type 0 where
  pub of : Store → A
  pub gives : (ways : Ways) (f : A → Cont) (store : Store) (answers : List Answer)
      → action ways f store answers ≡ f (of store) store answers
  pub same : (after before : Store) → Agree assigned after before → of after ≡ of before

module _ (t : Scene) (assigned : List ℕ) (closed : (symbol : ℕ) → t.world.opens symbol ≡ false) where
  steady_give : {A : Type 0} (v : A) → IsSteady assigned (give v)
  steady_give v = record { of = λ store. v; gives = λ ways f store answers. refl; same = λ after before agree. refl }

  steady_read : (meaning : Meaning) → is_steady_name assigned meaning ≡ true → IsSteady assigned (read t meaning)
  steady_read (Local symbol) is = record {
    of = λ store. store symbol.0;
    gives = λ ways f store answers. refl;
    same = λ after before agree. agree symbol.0 (not-true (contains assigned symbol.0) is);
  }
  steady_read (Outer binding) is = absurd (true≢false (sym is))

  -- Literals by their forms.

  steady_null : (at : At) (parts : Pieces) → each (Some []) parts ≡ true → IsSteady assigned (eval t (Node at word.Null parts))
  steady_null at End h = steady_give value.Null
  steady_null at (Then p ps) h = absurd (true≢false (sym h))

  steady_bool : (at : At) (parts : Pieces) → each (Some (field.One kind.Flag ∷ [])) parts ≡ true
      → IsSteady assigned (eval t (Node at word.Bool parts))
  steady_bool at End h = absurd (true≢false (sym h))
  steady_bool at (Then p ps) h =
      let fit = and_parts (fits (field.One kind.Flag) p) (each (Some []) ps) h in
      let form = flag_form p fit.0 in
      subst (λ (q : Syntax). IsSteady assigned (eval t (Node at word.Bool (Then q ps)))) (sym form.1) (ended form.0 ps fit.1)
    where
      ended : (flag : Bool) (ps : Pieces) → each (Some []) ps ≡ true → IsSteady assigned (eval t (Node at word.Bool (Then (Flag flag) ps)))
      ended flag End h = steady_give (value.Bool flag)
      ended flag (Then p ps) h = absurd (true≢false (sym h))

  steady_str : (at : At) (parts : Pieces) → each (Some (field.One kind.Text ∷ [])) parts ≡ true
      → IsSteady assigned (eval t (Node at word.Str parts))
  steady_str at End h = absurd (true≢false (sym h))
  steady_str at (Then p ps) h =
      let fit = and_parts (fits (field.One kind.Text) p) (each (Some []) ps) h in
      let form = text_form p fit.0 in
      subst (λ (q : Syntax). IsSteady assigned (eval t (Node at word.Str (Then q ps)))) (sym form.1) (ended form.0 ps fit.1)
    where
      ended : (text : List ℕ) (ps : Pieces) → each (Some []) ps ≡ true → IsSteady assigned (eval t (Node at word.Str (Then (Said text) ps)))
      ended text End h = steady_give (value.Text text)
      ended text (Then p ps) h = absurd (true≢false (sym h))

  pub numeral_steady : {A : Type 0} (b : Bool) (v : A) (d : Diagnostic) → (if b then [] else d ∷ []) ≡ []
      → IsSteady assigned (if b then give v else no_meaning)
  numeral_steady true v d none = steady_give v
  numeral_steady false v d none = absurd (cc)

  steady_num : (at : At) (parts : Pieces) → each (Some (field.One kind.Text ∷ [])) parts ≡ true
      → refusals t.names (Node at word.Num parts) ≡ [] → IsSteady assigned (eval t (Node at word.Num parts))
  steady_num at End h none = absurd (true≢false (sym h))
  steady_num at (Then p ps) h none =
      let fit = and_parts (fits (field.One kind.Text) p) (each (Some []) ps) h in
      let form = text_form p fit.0 in
      subst (λ (q : Syntax). IsSteady assigned (eval t (Node at word.Num (Then q ps)))) (sym form.1)
      (ended form.0 ps fit.1 (ap (λ (q : Syntax). refusals t.names (Node at word.Num (Then q ps))) (sym form.1) ∙ none))
    where
      ended : (text : List ℕ) (ps : Pieces) → each (Some []) ps ≡ true → refusals t.names (Node at word.Num (Then (Said text) ps)) ≡ []
          → IsSteady assigned (eval t (Node at word.Num (Then (Said text) ps)))
      ended text End h none = numeral_steady (is_numeral text) (value.Number (number_of text)) _ (nil_parts _ [] none).0
      ended text (Then p ps) h none = absurd (true≢false (sym h))

  pub steady : (e : Syntax) → is_steady t.names assigned e ≡ true → fits (field.One kind.Expression) e ≡ true → refusals t.names e ≡ []
      → IsSteady assigned (eval t e)
  steady (Node at word.Null parts) is h none = steady_null at parts h
  steady (Node at word.Bool parts) is h none = steady_bool at parts h
  steady (Node at word.Num parts) is h none = steady_num at parts h none
  steady (Node at word.Str parts) is h none = steady_str at parts h
  steady (Node at word.Id (Then (Said name) End)) is h none = steady_read (t.names.meaning at.reference.0 name) is
  steady (Node at word.Paren (Then expression End)) is h none =
      steady expression is (and_parts (fits (field.One kind.Expression) expression) (each (Some []) End) h).0
      (nil_parts (refusals t.names expression) [] none).0
  steady (Node at word.As (Then expression (Then type End))) is h none =
      steady expression is (and_parts (fits (field.One kind.Expression) expression) _ h).0
      (nil_parts (refusals t.names expression) (refusals_in t.names (Then type End)) none).0
  steady (Node at word.As (Then expression End)) is h none =
      absurd (true≢false (sym (and_parts (fits (field.One kind.Expression) expression) false h).1))
  steady (Node at word.As (Then expression (Then type (Then p ps)))) is h none =
      absurd (true≢false (sym (and_parts (fits (field.One kind.TypeAnnotation) type) false
      (and_parts (fits (field.One kind.Expression) expression) _ h).1).1))
  steady (Node at word.Satisfies (Then expression (Then type End))) is h none =
      steady expression is (and_parts (fits (field.One kind.Expression) expression) _ h).0
      (nil_parts (refusals t.names expression) (refusals_in t.names (Then type End)) none).0
  steady (Node at word.Satisfies (Then expression End)) is h none =
      absurd (true≢false (sym (and_parts (fits (field.One kind.Expression) expression) false h).1))
  steady (Node at word.Satisfies (Then expression (Then type (Then p ps)))) is h none =
      absurd (true≢false (sym (and_parts (fits (field.One kind.TypeAnnotation) type) false
      (and_parts (fits (field.One kind.Expression) expression) _ h).1).1))
  steady (Node at word.Assert (Then type (Then expression End))) is h none =
      steady expression is
      (and_parts (fits (field.One kind.Expression) expression) _ (and_parts (fits (field.One kind.TypeAnnotation) type) _ h).1).0
      (nil_parts (refusals t.names expression) [] (nil_parts (refusals t.names type) (refusals_in t.names (Then expression End)) none).1).0
  steady (Node at word.Nonnull (Then expression End)) is h none =
      steady expression is (and_parts (fits (field.One kind.Expression) expression) (each (Some []) End) h).0
      (nil_parts (refusals t.names expression) [] none).0
  steady (Node at word.Instantiate (Then expression (Then names End))) is h none =
      steady expression is (and_parts (fits (field.One kind.Expression) expression) _ h).0 none
  steady (Node at word.Instantiate (Then expression End)) is h none =
      absurd (true≢false (sym (and_parts (fits (field.One kind.Expression) expression) false h).1))
  steady (Node at word.Instantiate (Then expression (Then names (Then p ps)))) is h none =
      absurd (true≢false (sym (and_parts (fits (field.Many kind.IdentifierReference) names) false
      (and_parts (fits (field.One kind.Expression) expression) _ h).1).1))
  steady _ is h none = absurd (true≢false (sym is))

  -- The tests of cases.

  abbrev pub AreSteady : (cases : Pieces) → Type 0
  AreSteady (Then (Node at word.Case (Then Absent parts)) cases) = AreSteady cases
  AreSteady (Then (Node at word.Case (Then (Node there w ps) parts)) cases) = IsSteady assigned (eval t (Node there w ps)) × AreSteady cases
  AreSteady (Then (Node at word.Case (Then condition parts)) cases) = ⊥
  AreSteady _ = Unit {0}

  -- The values of the tests in a store.
  known : (cases : Pieces) → AreSteady cases → Store → List (Option Value)
  known (Then (Node at word.Case (Then Absent parts)) cases) are store = None ∷ known cases are store
  known (Then (Node at word.Case (Then (Node there w ps) parts)) cases) are store = Some (are.0.of store) ∷ known cases are.1 store
  known (Then (Node at word.Case (Then condition parts)) cases) are store = absurd are
  known _ are store = []

  evaluated : (cases : Pieces) (are : AreSteady cases) (ways : Ways) (f : List (Option Value) → Cont) (store : Store)
      (answers : List Answer) → eval_tests t cases ways f store answers ≡ f (known cases are store) store answers
  unfolding known
  evaluated (Then (Node at word.Case (Then Absent parts)) cases) are ways f store answers =
      evaluated cases are ways (λ vs. f (None ∷ vs)) store answers
  evaluated (Then (Node at word.Case (Then (Node there w ps) parts)) cases) are ways f store answers =
      evaluated cases are.1 ways (λ vs. eval t (Node there w ps) ways (λ v. f (Some v ∷ vs))) store answers
      ∙ are.0.gives ways (λ v. f (Some v ∷ known cases are.1 store)) store answers
  evaluated (Then (Node at word.Case (Then condition parts)) cases) are ways f store answers = absurd are
  evaluated _ are ways f store answers = refl

  -- A case by its test, of which the value is known or not.
  abbrev chosen : (matched other : Action (Unit {0})) → (v w : Value) → Action (Unit {0})
  chosen matched other v w = do
    same ← test t (matches v w)
    if same then matched else other

  -- The run behind an answer, where the two runs behind a no are one.
  chosen_same : (matched later late : Action (Unit {0})) (ways : Ways) (onward : Unit {0} → Cont) (after : Store) (rest : List Answer)
      (same : Bool) → later ways onward after rest ≡ late ways onward after rest
      → (if same then matched else later) ways onward after rest ≡ (if same then matched else late) ways onward after rest
  chosen_same matched later late ways onward after rest true one = refl
  chosen_same matched later late ways onward after rest false one = one

  compared : (cases : Pieces) (are : AreSteady cases) (first store : Store) → Agree assigned store first → (v : Value)
      (other : Action (Unit {0})) (ways : Ways) (onward : Unit {0} → Cont) (answers : List Answer)
      → try_cases t cases v (known cases are first) other ways onward store answers
      ≡ try_cases t cases v [] other ways onward store answers
  unfolding known
  compared (Then (Node at word.Case (Then Absent parts)) cases) are first store agree v other ways onward answers =
      compared cases are first store agree v other ways onward answers
  compared (Then (Node at word.Case (Then (Node there w ps) (Then (Listed statements) End))) cases) are first store agree v other ways
      onward answers =
      let matched : Action (Unit {0}) = exec_all t statements >> exec_cases t cases in
      let later : Action (Unit {0}) = try_cases t cases v (known cases are.1 first) other in
      let late : Action (Unit {0}) = try_cases t cases v [] other in
      (keeps_test t assigned closed (matches v (are.0.of first))).holds ways ways.short ways.short
      (λ same. (if same then matched else later) ways onward) (λ same. (if same then matched else late) ways onward) store answers
      (λ after rest agrees. refl)
      (λ same after rest agrees. chosen_same matched later late ways onward after rest same
      (compared cases are.1 first after (agree_then t assigned closed after store first agrees agree) v other ways onward rest))
      ∙ ap (λ (x : Value). chosen matched late v x ways onward store answers) (sym (are.0.same store first agree))
      ∙ sym (are.0.gives ways (λ x. chosen matched late v x ways onward) store answers)
  compared (Then (Node at word.Case (Then (Node there w ps) parts)) cases) are first store agree v other ways onward answers = refl
  compared (Then (Node at word.Case (Then condition parts)) cases) are first store agree v other ways onward answers = absurd are
  compared _ are first store agree v other ways onward answers = refl

  -- A `switch` whose discriminant keeps the variables of the tests.
  pub switched : (discriminant : Syntax) (cases : Pieces) → AreSteady cases → Keeps assigned (eval t discriminant)
      → (other : Action (Unit {0}))
      → (eval_tests t cases >>= (λ vs. eval t discriminant >>= (λ v. breakable (try_cases t cases v vs other))))
      ≡ (eval t discriminant >>= (λ v. breakable (try_cases t cases v [] other)))
  switched discriminant cases are keeps other = λ i ways onward store answers. (
      evaluated cases are ways (λ vs. eval t discriminant ways (λ v. breakable (try_cases t cases v vs other) ways onward)) store answers
      ∙ keeps.holds ways ways.short ways.short (λ v. breakable (try_cases t cases v (known cases are store) other) ways onward)
      (λ v. breakable (try_cases t cases v [] other) ways onward) store answers
      (λ after rest agree. refl)
      (λ v after rest agree. compared cases are store after agree v other _ onward rest)) i
