-- `=` to a property in an orderly function: a run that evaluates the value in front of object and key is one that evaluates it behind them.
use Rattle.std.proofs.Common.{◌≡◌, ℕ, Bool, true, false, true≢false, ◌||◌, List, [], refl, sym, ap, subst, ◌∙◌}
use Rattle.std.proofs.lemmas.Bool.{and_parts}
use Rattle.rl_grammar.proofs.Viewing.{arity_three, three_fit}
use Rattle.rl_grammar.specs.Grammar.{fits}
use Rattle.rl_grammar.specs.declared.kind.Field.{Field}
use Rattle.rl_grammar.specs.declared.kind.Field.TheVariants as field
use Rattle.rl_grammar.specs.declared.kind.Kind.TheVariants as kind
use Rattle.rl_machine.specs.declared.trace.Value.{Value}
use Rattle.rl_machine.specs.declared.trace.Value.TheVariants as value
use Rattle.rl_model.specs.Actions.{Action, ◌>>=◌, give}
use Rattle.rl_model.specs.Events.{Key, computed_key, fixed_key}
use Rattle.rl_model.specs.Expressions.{eval, key_in, place, write_property}
use Rattle.rl_model.specs.Orderly.{is_steady, is_steady_target}
use Rattle.rl_model.specs.Scene.{Scene}
use Rattle.rl_promises.proofs.Accepted.{are_accepted, nil_parts}
use Rattle.rl_promises.proofs.CoveredForms.{text_form}
use Rattle.rl_promises.proofs.KeptVariables.{Keeps}
use Rattle.rl_promises.proofs.SteadyTests.{IsSteady, numeral_steady, steady}
use Rattle.rl_promises.specs.Rows.{refusals, refusals_in}
use Rattle.rl_syntax.specs.Shapes.{is_three}
use Rattle.rl_syntax.specs.Syntax.{Syntax, Node, Said, Pieces, End, Then}
use Rattle.rl_syntax.specs.declared.numbered.At.{At}
use Rattle.rl_syntax.specs.declared.word.Word.TheVariants as word
use Rattle.rl_text.specs.Numeral.{is_numeral, number_of}

-- A steady action gives one value in front of another action and behind it.
commuted : {A B C : Type 0} (assigned : List ℕ) (first : Action A) (second : Action B) (next : A → B → Action C)
    → Keeps assigned first → IsSteady assigned second
    → (second >>= (λ b. first >>= (λ a. next a b))) ≡ (first >>= (λ a. second >>= (λ b. next a b)))
commuted assigned first second next keeps still = λ i ways f store answers. (
    still.gives ways (λ b. first ways (λ a. next a b ways f)) store answers
    ∙ keeps.holds ways ways.short ways.short (λ a. next a (still.of store) ways f) (λ a. second ways (λ b. next a b ways f)) store answers
    (λ after rest agree. refl)
    (λ a after rest agree.
    ap (λ b. next a b ways f after rest) (sym (still.same after store agree))
    ∙ sym (still.gives ways (λ b. next a b ways f) after rest))) i

abbrev flag : Field
flag = field.One kind.Flag

abbrev expression : Field
expression = field.One kind.Expression

-- Three parts of a node.
three_form : (ps : Pieces) → is_three ps ≡ true → (a b c : Syntax) × (ps ≡ Then a (Then b (Then c End)))
three_form (Then a (Then b (Then c End))) h = (a, b, c, refl)
three_form _ h = absurd (cc)

module _ (t : Scene) (assigned : List ℕ) (closed : (symbol : ℕ) → t.world.opens symbol ≡ false) where
  -- The value and the property that takes it, of which one is steady.
  pub swapped : (still_value still_place : Bool) → still_value || still_place ≡ true
      → (placed : Action (Value × Key)) (right : Action Value) → Keeps assigned placed → Keeps assigned right
      → (still_value ≡ true → IsSteady assigned right) → (still_place ≡ true → IsSteady assigned placed)
      → (right >>= (λ v. placed >>= (λ p. write_property t p.0 p.1 v))) ≡ (placed >>= (λ p. right >>= (λ v. write_property t p.0 p.1 v)))
  swapped true still_place orderly placed right keeps also value_still place_still =
      commuted assigned placed right (λ p v. write_property t p.0 p.1 v) keeps (value_still refl)
  swapped false true orderly placed right keeps also value_still place_still =
      sym (commuted assigned right placed (λ v p. write_property t p.0 p.1 v) also (place_still refl))
  swapped false false orderly placed right keeps also value_still place_still = absurd (true≢false (sym orderly))

  mapped : {A B : Type 0} (action : Action A) (f : A → B) → IsSteady assigned action → IsSteady assigned (action >>= (λ a. give (f a)))
  mapped action f still = record {
    of = λ store. f (still.of store);
    gives = λ ways g store answers. still.gives ways (λ a. g (f a)) store answers;
    same = λ after before agree. ap f (still.same after before agree);
  }

  paired : {A B : Type 0} (first : Action A) (second : Action B) → IsSteady assigned first → IsSteady assigned second
      → IsSteady assigned {A = A × B} (first >>= (λ a. second >>= (λ b. give (a, b))))
  paired {A} {B} first second still also = record {
    of = λ store. (still.of store, also.of store);
    gives = λ ways g store answers.
        still.gives ways (λ a. second ways (λ b. g (a, b))) store answers
        ∙ also.gives ways (λ b. g (still.of store, b)) store answers;
    same = λ after before agree. λ i. (still.same after before agree i, also.same after before agree i);
  }

  key_steady : (property : Syntax) → is_steady t.names assigned property ≡ true → fits (field.One kind.Expression) property ≡ true
      → refusals t.names property ≡ [] → IsSteady assigned (key_in property (eval t property))
  key_steady (Node at word.Num (Then (Said text) End)) is h none =
      numeral_steady t assigned closed (is_numeral text) (fixed_key (value.Number (number_of text))) _ (nil_parts _ [] none).0
  key_steady property is h none = mapped (eval t property) computed_key (steady t assigned closed property is h none)

  -- Object and key of a property whose parts are steady.

  pub member_steady : (at : At) (parts : Pieces) → fits (field.One kind.AssignmentTarget) (Node at word.Member parts) ≡ true
      → is_steady_target t.names assigned (Node at word.Member parts) ≡ true → refusals_in t.names parts ≡ []
      → IsSteady assigned (place t (Node at word.Member parts))
  member_steady at parts h is none =
      let form = three_form parts (arity_three flag expression (field.One kind.Text) parts h) in
      let fit = three_fit parts form.0 form.1 form.2 form.3 flag expression (field.One kind.Text) h in
      let text = text_form form.2 fit.2 in
      let whole : parts ≡ Then form.0 (Then form.1 (Then (Said text.0) End)) =
      form.3 ∙ ap (λ (q : Syntax). Then form.0 (Then form.1 (Then q End))) text.1 in
      subst (λ (ps : Pieces). IsSteady assigned (place t (Node at word.Member ps))) (sym whole)
      (named form.0 form.1 text.0 (subst (λ (ps : Pieces). is_steady_target t.names assigned (Node at word.Member ps) ≡ true) whole is)
      fit.1 (subst (λ (ps : Pieces). refusals_in t.names ps ≡ []) whole none))
    where
      named : (optional object : Syntax) (name : List ℕ) → is_steady t.names assigned object ≡ true
          → fits (field.One kind.Expression) object ≡ true
          → refusals_in t.names (Then optional (Then object (Then (Said name) End))) ≡ []
          → IsSteady assigned (place t (Node at word.Member (Then optional (Then object (Then (Said name) End)))))
      named optional object name is h none =
          mapped (eval t object) (λ v. (v, fixed_key (value.Text name)))
          (steady t assigned closed object is h (are_accepted t.names (Then optional (Then object (Then (Said name) End))) none).1.0)

  pub index_steady : (at : At) (parts : Pieces) → fits (field.One kind.AssignmentTarget) (Node at word.Index parts) ≡ true
      → is_steady_target t.names assigned (Node at word.Index parts) ≡ true → refusals_in t.names parts ≡ []
      → IsSteady assigned (place t (Node at word.Index parts))
  index_steady at parts h is none =
      let form = three_form parts (arity_three flag expression expression parts h) in
      let fit = three_fit parts form.0 form.1 form.2 form.3 flag expression expression h in
      subst (λ (ps : Pieces). IsSteady assigned (place t (Node at word.Index ps))) (sym form.3)
      (keyed form.0 form.1 form.2 (subst (λ (ps : Pieces). is_steady_target t.names assigned (Node at word.Index ps) ≡ true) form.3 is)
      fit.1 fit.2 (subst (λ (ps : Pieces). refusals_in t.names ps ≡ []) form.3 none))
    where
      keyed : (optional object property : Syntax)
          → is_steady_target t.names assigned (Node at word.Index (Then optional (Then object (Then property End)))) ≡ true
          → fits (field.One kind.Expression) object ≡ true → fits (field.One kind.Expression) property ≡ true
          → refusals_in t.names (Then optional (Then object (Then property End))) ≡ []
          → IsSteady assigned (place t (Node at word.Index (Then optional (Then object (Then property End)))))
      keyed optional object property is first second none =
          let both = and_parts (is_steady t.names assigned object) (is_steady t.names assigned property) is in
          let accepted = are_accepted t.names (Then optional (Then object (Then property End))) none in
          paired (eval t object) (key_in property (eval t property)) (steady t assigned closed object both.0 first accepted.1.0)
          (key_steady property both.1 second accepted.1.1.0)
