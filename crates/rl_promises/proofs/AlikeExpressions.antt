-- The expressions of a covered function that is orderly and has no refusals: each means the same as it is written and as it is ported.
use Rattle.std.proofs.Common.{◌≡◌, ℕ, Bool, true, false, true≢false, ◌&&◌, ◌||◌, not, if◌then◌else◌, List, [], ◌∷◌, ◌++◌, codes, Option}
use Rattle.std.proofs.Common.{refl, sym, ap, ◌∙◌}
use Rattle.std.specs.Str.{bytes_eq}
use Rattle.rl_base.specs.declared.diagnostic.Diagnostic.{Diagnostic}
use Rattle.rl_base.specs.declared.ids.SymbolId.{SymbolId}
use Rattle.rl_base.specs.declared.row.Row.TheVariants as row
use Rattle.rl_base.specs.declared.span.Span.{Span}
use Rattle.rl_machine.specs.Traces.{truthy}
use Rattle.rl_machine.specs.declared.trace.Value.{Value}
use Rattle.rl_machine.specs.declared.trace.Value.TheVariants as value
use Rattle.rl_promises.proofs.Accepted.{AreAccepted, are_accepted, index_accepted, link_accepted, member_accepted, nil_parts, none_else}
use Rattle.rl_promises.proofs.Accepted.{none_then}
use Rattle.rl_promises.proofs.AlikeCalls.{as_called, as_tagged, call_by, head_of, tagged_by}
use Rattle.rl_promises.proofs.AcceptedPatterns.{default_none, none_kept, none_plain, plain_rest, plain_unlost, round_none, unlost}
use Rattle.rl_promises.proofs.CoveredForms.{none_fits}
use Rattle.rl_promises.proofs.FormedParts.{AreAssignable}
use Rattle.rl_promises.proofs.KeptVariables as kept
use Rattle.rl_promises.proofs.KeptVariables.{Keeps, eval_keeps}
use Rattle.rl_promises.proofs.OrderlyCalls as orderly
use Rattle.rl_promises.proofs.OrderlyCalls.{IsOrderlyAt, lends_at}
use Rattle.rl_promises.proofs.SteadyTargets.{index_steady, member_steady, swapped}
use Rattle.rl_promises.proofs.SteadyTests.{IsSteady, steady}
use Rattle.rl_promises.specs.Chains.{Off, Spine, Top, below_link}
use Rattle.rl_promises.specs.Outs.{is_known_key, is_lost_delete}
use Rattle.rl_promises.specs.Patterns.{is_forced, is_lost_item, is_pattern, loses_item}
use Rattle.rl_promises.specs.Rows.{refusal, refusals, refusals_below, refusals_by, refusals_in, refusals_to, refusals_to_round, said_ahead}
use Rattle.rl_promises.specs.Rows.{said_of_assertion, said_of_assigned, said_of_rest, said_of_updated}
use Rattle.rl_model.specs.Actions.{Action, ◌>>=◌, ◌>>◌, ask, chained, done, give, no_meaning, test}
use Rattle.rl_model.specs.Events as events
use Rattle.rl_model.specs.Expressions.{assign_items, assign_to, assignment, assignment_in, callee, compound, delete_property, eval}
use Rattle.rl_model.specs.Expressions.{eval_last, first_piece, key_in, later_pieces, needs_right, one_value, or_default, place}
use Rattle.rl_model.specs.Expressions.{property_key, read, take_apart, unless_nullish, update_name, update_property, values, values_of}
use Rattle.rl_model.specs.Expressions.{write, write_property}
use Rattle.rl_model.specs.Orderly.{is_steady, is_steady_target}
use Rattle.rl_model.specs.Scene.{Scene}
use Rattle.rl_model.specs.Shapes as shapes
use Rattle.rl_model.specs.Shapes.{is_link, lends}
use Rattle.rl_names.specs.declared.names.Meaning.{Meaning}
use Rattle.rl_names.specs.declared.names.Meaning.TheVariants.{Local, Outer}
use Rattle.rl_syntax.specs.Syntax.{Syntax, Node, Listed, Said, Count, Flag, Absent, Pieces, End, Then}
use Rattle.rl_syntax.specs.declared.numbered.At.{At}
use Rattle.rl_syntax.specs.declared.word.Word.TheVariants as word

-- A scene as the port runs it: names and world are the same, and each name in a binding pattern takes its piece early.
abbrev pub as_ported : Scene → (stored : ℕ → Option SymbolId) → Scene
as_ported t stored = record t { stored = stored; ported = true; takes_early = λ everywhere bind. true }

-- A name takes a value alike.
pub write_alike : (t : Scene) (stored : ℕ → Option SymbolId) (meaning : Meaning) (name : List ℕ) (v : Value)
    → write (as_ported t stored) meaning name v ≡ write t meaning name v
write_alike t stored (Local symbol) name v = refl
write_alike t stored (Outer binding) name v = refl

-- An assignment by its operator: `=`, a logical one, which is refused, or another.
by_operator : (plain logical value target : Bool) (said more : List Diagnostic) (refused : Diagnostic) (a b c d : Action Value)
    → not plain || value || target ≡ true → (if plain then said else if logical then refused ∷ [] else more) ≡ []
    → (value || target ≡ true → said ≡ [] → a ≡ b) → (more ≡ [] → c ≡ d)
    → (if plain then a else if logical then no_meaning else c) ≡ (if plain then b else if logical then no_meaning else d)
by_operator true logical value target said more refused a b c d either none plainly computed = plainly either none
by_operator false true value target said more refused a b c d either none plainly computed = refl
by_operator false false value target said more refused a b c d either none plainly computed = computed none

-- `s` runs as the port does, `t` as the function is written.
module _ (t : Scene) (stored : ℕ → Option SymbolId) (assigned : List ℕ)
    (closed : (symbol : ℕ) → t.world.opens symbol ≡ false) (written : t.ported ≡ false) where
  abbrev s : Scene
  s = as_ported t stored

  abbrev LendsAlike : Syntax → Type 0
  LendsAlike = orderly.LendsAlike t.names assigned

  abbrev LendAlike : Pieces → Type 0
  LendAlike = orderly.LendAlike t.names assigned

  abbrev LendsFirst : Pieces → Type 0
  LendsFirst = orderly.LendsFirst t.names assigned

  head_alike : (e : Syntax) (link : Bool) → is_link e ≡ link → (is_link e ≡ true → callee s e ≡ callee t e) → eval s e ≡ eval t e
      → head_of s link e ≡ head_of t link e
  head_alike e true is lent same = lent is
  head_alike e false is lent same = ap one_value same

  null_alike : (at : At) (parts : Pieces) → eval s (Node at word.Null parts) ≡ eval t (Node at word.Null parts)
  null_alike at End = refl
  null_alike at _ = refl

  bool_alike : (at : At) (parts : Pieces) → eval s (Node at word.Bool parts) ≡ eval t (Node at word.Bool parts)
  bool_alike at (Then (Flag flag) End) = refl
  bool_alike at _ = refl

  num_alike : (at : At) (parts : Pieces) → eval s (Node at word.Num parts) ≡ eval t (Node at word.Num parts)
  num_alike at (Then (Said text) End) = refl
  num_alike at _ = refl

  str_alike : (at : At) (parts : Pieces) → eval s (Node at word.Str parts) ≡ eval t (Node at word.Str parts)
  str_alike at (Then (Said text) End) = refl
  str_alike at _ = refl

  read_alike : (meaning : Meaning) → read s meaning ≡ read t meaning
  read_alike (Local symbol) = refl
  read_alike (Outer binding) = refl

  id_alike : (at : At) (parts : Pieces) → eval s (Node at word.Id parts) ≡ eval t (Node at word.Id parts)
  id_alike at (Then (Said name) End) = read_alike (t.names.meaning at.reference.0 name)
  id_alike at _ = refl

  regexp_alike : (at : At) (parts : Pieces) → eval s (Node at word.Regexp parts) ≡ eval t (Node at word.Regexp parts)
  regexp_alike at (Then (Said pattern) (Then (Said flags) End)) = refl
  regexp_alike at _ = refl

  importmeta_alike : (at : At) (parts : Pieces) → eval s (Node at word.Importmeta parts) ≡ eval t (Node at word.Importmeta parts)
  importmeta_alike at End = refl
  importmeta_alike at _ = refl

  unary_with : (operator : List ℕ) (argument : Syntax) → delete_property s argument ≡ delete_property t argument
      → eval s argument ≡ eval t argument → (at : At)
      → eval s (Node at word.Unary (Then (Said operator) (Then argument End)))
      ≡ eval t (Node at word.Unary (Then (Said operator) (Then argument End)))
  unary_with operator argument deleted same at = by_test (bytes_eq operator (codes "delete"))
    where
      by_test : (deletes : Bool)
          → (if deletes then delete_property s argument else (eval s argument >>= (λ v. ask s (events.unary operator v))))
          ≡ (if deletes then delete_property t argument else (eval t argument >>= (λ v. ask t (events.unary operator v))))
      by_test true = deleted
      by_test false = λ i. (do
        v ← same i
        ask t (events.unary operator v))

  -- An update of a name, of which a local variable alone has a meaning.
  name_updated : (prefix : Bool) (operator : List ℕ) (meaning : Meaning)
      → update_name s prefix operator meaning ≡ update_name t prefix operator meaning
  name_updated prefix operator (Local symbol) = refl
  name_updated prefix operator (Outer binding) = refl

  abbrev update_at : (operator : List ℕ) (prefix : Bool) (at : At) (target : Syntax) (rest : Pieces) → Syntax
  update_at operator prefix at target rest = Node at word.Update (Then (Said operator) (Then (Flag prefix) (Then target rest)))

  id_updated : (operator : List ℕ) (prefix : Bool) (at there : At) (parts rest : Pieces)
      → eval s (update_at operator prefix at (Node there word.Id parts) rest)
      ≡ eval t (update_at operator prefix at (Node there word.Id parts) rest)
  id_updated operator prefix at there (Then (Said name) End) End = name_updated prefix operator (t.names.meaning there.reference.0 name)
  id_updated operator prefix at there (Then (Said name) End) (Then first rest) = refl
  id_updated operator prefix at there _ End = refl
  id_updated operator prefix at there _ (Then first rest) = refl

  hole_alike : (at : At) (parts : Pieces)
      → values_of s (Node at word.Hole parts) (eval s (Node at word.Hole parts))
      ≡ values_of t (Node at word.Hole parts) (eval t (Node at word.Hole parts))
  hole_alike at End = refl
  hole_alike at _ = refl

  -- `=` to a property, where its value or its object and key are steady.
  property_alike : (still_value still_place : Bool) → still_value || still_place ≡ true
      → (ported_place placed : Action (Value × events.Key)) (ported_right right : Action Value)
      → ported_place ≡ placed → ported_right ≡ right → Keeps assigned placed → Keeps assigned right
      → (still_value ≡ true → IsSteady assigned right) → (still_place ≡ true → IsSteady assigned placed)
      → assignment_in s ported_place ported_right ≡ assignment_in t placed right
  property_alike still_value still_place either ported_place placed ported_right right one same keeps also value_still place_still =
      (λ i. (do
        v ← same i
        p ← one i
        write_property t p.0 p.1 v))
      ∙ swapped t assigned closed still_value still_place either placed right keeps also value_still place_still
      ∙ sym (ap (λ (ported : Bool).
      if ported then (do
        v ← right
        p ← placed
        write_property t p.0 p.1 v)
      else (do
        p ← placed
        v ← right
        write_property t p.0 p.1 v)) written)

  -- Assignments by their values.

  abbrev plain_by : Scene → (target : Syntax) → (right : Action Value) → Action Value
  plain_by scene target right = assignment scene target (place scene target) (assign_to scene target) right

  abbrev compound_by : Scene → (operator : List ℕ) → (target : Syntax) → (right : Action Value) → Action Value
  compound_by scene operator target right = compound scene operator target (place scene target) right

  abbrev computed_by : Scene → (operator : List ℕ) → (placed : Action (Value × events.Key)) → (right : Action Value) → Action Value
  computed_by scene operator placed right = do
    p ← placed
    old ← ask scene (events.load p.0 p.1)
    w ← right
    v ← ask scene (events.binary operator old w)
    write_property scene p.0 p.1 v

  pub id_takes : (at : At) (parts : Pieces) (v : Value) → assign_to s (Node at word.Id parts) v ≡ assign_to t (Node at word.Id parts) v
  id_takes at (Then (Said name) End) v = λ i. (do
    write_alike t stored (t.names.meaning at.reference.0 name) name v i
    done)
  id_takes at _ v = refl

  mutual
    -- An expression on the spine of a chain, or off it.
    pub eval_by : (spine : Spine) (e : Syntax) → LendsAlike e → refusals_by t.names spine e ≡ [] → eval s e ≡ eval t e
    eval_by spine (Node at word.Empty parts) covered none = refl
    eval_by spine (Node at word.Expr parts) covered none = refl
    eval_by spine (Node at word.Return parts) covered none = refl
    eval_by spine (Node at word.If parts) covered none = refl
    eval_by spine (Node at word.For parts) covered none = refl
    eval_by spine (Node at word.Forin parts) covered none = refl
    eval_by spine (Node at word.Forof parts) covered none = refl
    eval_by spine (Node at word.While parts) covered none = refl
    eval_by spine (Node at word.Dowhile parts) covered none = refl
    eval_by spine (Node at word.Break parts) covered none = refl
    eval_by spine (Node at word.Continue parts) covered none = refl
    eval_by spine (Node at word.Labeled parts) covered none = refl
    eval_by spine (Node at word.Switch parts) covered none = refl
    eval_by spine (Node at word.Case parts) covered none = refl
    eval_by spine (Node at word.Try parts) covered none = refl
    eval_by spine (Node at word.Catch parts) covered none = refl
    eval_by spine (Node at word.Throw parts) covered none = refl
    eval_by spine (Node at word.With parts) covered none = refl
    eval_by spine (Node at word.Block parts) covered none = refl
    eval_by spine (Node at word.Params parts) covered none = refl
    eval_by spine (Node at word.Param parts) covered none = refl
    eval_by spine (Node at word.Body parts) covered none = refl
    eval_by spine (Node at word.Bind parts) covered none = refl
    eval_by spine (Node at word.Hole parts) covered none = refl
    eval_by spine (Node at word.Quasi parts) covered none = refl
    eval_by spine (Node at word.Spread parts) covered none = refl
    eval_by spine (Node at word.Debugger parts) covered none = refl
    eval_by spine (Node at word.Var parts) covered none = refl
    eval_by spine (Node at word.Declarator parts) covered none = refl
    eval_by spine (Node at word.Type parts) covered none = refl
    eval_by spine (Node at word.Name parts) covered none = refl
    eval_by spine (Node at word.Private parts) covered none = refl
    eval_by spine (Node at word.Bigint parts) covered none = refl
    eval_by spine (Node at word.Privatein parts) covered none = refl
    eval_by spine (Node at word.Yield parts) covered none = refl
    eval_by spine (Node at word.Newtarget parts) covered none = refl
    eval_by spine (Node at word.Super parts) covered none = refl
    eval_by spine (Node at word.This parts) covered none = refl
    eval_by spine (Node at word.Importcall parts) covered none = refl
    eval_by spine (Node at word.Privatemember parts) covered none = refl
    eval_by spine (Node at word.Prop parts) covered none = refl
    eval_by spine (Node at word.Default parts) covered none = refl
    eval_by spine (Node at word.Rest parts) covered none = refl
    eval_by spine (Node at word.Arraypat parts) covered none = refl
    eval_by spine (Node at word.Objectpat parts) covered none = refl
    eval_by spine (Node at word.Defaultpat parts) covered none = refl
    eval_by spine (Node at word.Keyedpat parts) covered none = refl
    eval_by spine (Node at word.Arraytarget parts) covered none = refl
    eval_by spine (Node at word.Objecttarget parts) covered none = refl
    eval_by spine (Node at word.Short parts) covered none = refl
    eval_by spine (Node at word.Keyed parts) covered none = refl
    eval_by spine (Node at word.Null parts) covered none = null_alike at parts
    eval_by spine (Node at word.Bool parts) covered none = bool_alike at parts
    eval_by spine (Node at word.Num parts) covered none = num_alike at parts
    eval_by spine (Node at word.Str parts) covered none = str_alike at parts
    eval_by spine (Node at word.Regexp parts) covered none = regexp_alike at parts
    eval_by spine (Node at word.Importmeta parts) covered none = importmeta_alike at parts
    eval_by spine (Node at word.Id parts) covered none = id_alike at parts
    eval_by spine (Node at word.Paren parts) covered none = paren_alike at parts covered.2 (are_accepted t.names parts none)
    eval_by spine (Node at word.Nonnull parts) covered none = nonnull_alike spine at parts covered.2 none
    eval_by spine (Node at word.Chain parts) covered none = chain_alike spine at parts covered.2 none
    eval_by spine (Node at word.As parts) covered none = as_alike at parts covered.2 (are_accepted t.names parts none)
    eval_by spine (Node at word.Satisfies parts) covered none = satisfies_alike at parts covered.2 (are_accepted t.names parts none)
    eval_by spine (Node at word.Assert parts) covered none = assert_alike at parts covered.2 (are_accepted t.names parts none)
    eval_by spine (Node at word.Instantiate parts) covered none = instantiate_alike spine at parts covered.2 none
    eval_by spine (Node at word.Template parts) covered none = template_alike at parts covered.2 (are_accepted t.names parts none)
    eval_by spine (Node at word.Tagged parts) covered none = tagged_alike spine at parts covered.1.lends covered.2 none
    eval_by spine (Node at word.Object parts) covered none = object_alike at parts covered.2 (are_accepted t.names parts none)
    eval_by spine (Node at word.Array parts) covered none = array_alike at parts covered.2 (are_accepted t.names parts none)
    eval_by spine (Node at word.Unary parts) covered none = unary_alike spine at parts covered.2 none
    eval_by spine (Node at word.Update parts) covered none = update_alike spine at parts covered.2 none
    eval_by spine (Node at word.Binary parts) covered none = binary_alike at parts covered.2 (are_accepted t.names parts none)
    eval_by spine (Node at word.Logical parts) covered none = logical_alike spine at parts covered.2 none
    eval_by spine (Node at word.Cond parts) covered none = conditional_alike spine at parts covered.2 none
    eval_by spine (Node at word.Seq parts) covered none = sequence_alike at parts covered.2 (are_accepted t.names parts none)
    eval_by spine (Node at word.Await parts) covered none = await_alike at parts covered.2 (are_accepted t.names parts none)
    eval_by spine (Node at word.Assign parts) covered none = assign_alike spine at parts covered.1 covered.2 none
    eval_by spine (Node at word.Member parts) covered none = member_alike spine at parts covered.2 none
    eval_by spine (Node at word.Index parts) covered none = index_alike spine at parts covered.2 none
    eval_by spine (Node at word.Call parts) covered none = call_alike spine at parts covered.1.lends covered.2 none
    eval_by spine (Node at word.New parts) covered none = new_alike at parts covered.2 (are_accepted t.names parts none)
    eval_by spine (Listed parts) covered none = refl
    eval_by spine (Said text) covered none = refl
    eval_by spine (Count number) covered none = refl
    eval_by spine (Flag flag) covered none = refl
    eval_by spine Absent covered none = refl
    eval_by spine _ covered none = absurd (true≢false (sym covered.0))

    paren_alike : (at : At) (parts : Pieces) → LendAlike parts → AreAccepted t.names parts
        → eval s (Node at word.Paren parts) ≡ eval t (Node at word.Paren parts)
    paren_alike at (Then expression End) covered accepted = eval_by Off expression covered.0 accepted.0
    paren_alike at _ covered accepted = refl

    nonnull_alike : (spine : Spine) (at : At) (parts : Pieces) → LendAlike parts
        → refusals_by t.names spine (Node at word.Nonnull parts) ≡ []
        → eval s (Node at word.Nonnull parts) ≡ eval t (Node at word.Nonnull parts)
    nonnull_alike spine at (Then expression End) covered none =
        let said = nil_parts (said_of_assertion spine at.span expression ++ refusals_by t.names spine expression) [] none in
        eval_by spine expression covered.0
        (nil_parts (said_of_assertion spine at.span expression) (refusals_by t.names spine expression) said.0).1
    nonnull_alike spine at _ covered none = refl

    chain_alike : (spine : Spine) (at : At) (parts : Pieces) → LendAlike parts → refusals_by t.names spine (Node at word.Chain parts) ≡ []
        → eval s (Node at word.Chain parts) ≡ eval t (Node at word.Chain parts)
    chain_alike spine at (Then expression End) covered none = λ i.
        chained value.Undefined (eval_by Top expression covered.0 (link_accepted t.names Top expression End none).0 i)
    chain_alike spine at _ covered none = refl

    as_alike : (at : At) (parts : Pieces) → LendAlike parts → AreAccepted t.names parts
        → eval s (Node at word.As parts) ≡ eval t (Node at word.As parts)
    as_alike at (Then expression (Then type End)) covered accepted = eval_by Off expression covered.0 accepted.0
    as_alike at _ covered accepted = refl

    satisfies_alike : (at : At) (parts : Pieces) → LendAlike parts → AreAccepted t.names parts
        → eval s (Node at word.Satisfies parts) ≡ eval t (Node at word.Satisfies parts)
    satisfies_alike at (Then expression (Then type End)) covered accepted = eval_by Off expression covered.0 accepted.0
    satisfies_alike at _ covered accepted = refl

    assert_alike : (at : At) (parts : Pieces) → LendAlike parts → AreAccepted t.names parts
        → eval s (Node at word.Assert parts) ≡ eval t (Node at word.Assert parts)
    assert_alike at (Then type (Then expression End)) covered accepted = eval_by Off expression covered.1.0 accepted.1.0
    assert_alike at _ covered accepted = refl

    instantiate_alike : (spine : Spine) (at : At) (parts : Pieces) → LendsFirst parts
        → refusals_by t.names spine (Node at word.Instantiate parts) ≡ []
        → eval s (Node at word.Instantiate parts) ≡ eval t (Node at word.Instantiate parts)
    instantiate_alike spine at (Then expression (Then names End)) covered none = eval_by Off expression covered none
    instantiate_alike spine at _ covered none = refl

    template_alike : (at : At) (parts : Pieces) → LendAlike parts → AreAccepted t.names parts
        → eval s (Node at word.Template parts) ≡ eval t (Node at word.Template parts)
    template_alike at (Then (Listed quasis) (Then (Listed expressions) End)) covered accepted = λ i. (do
      vs ← values_alike expressions covered.1.0 accepted.1.0 i
      ask t (events.event (codes "template") (shapes.quasis quasis ++ shapes.shapes expressions) vs))
    template_alike at _ covered accepted = refl

    array_alike : (at : At) (parts : Pieces) → LendAlike parts → AreAccepted t.names parts
        → eval s (Node at word.Array parts) ≡ eval t (Node at word.Array parts)
    array_alike at (Then (Listed items) End) covered accepted = λ i. (do
      vs ← values_alike items covered.0 accepted.0 i
      ask t (events.event (codes "array") (shapes.shapes items) vs))
    array_alike at _ covered accepted = refl

    object_alike : (at : At) (parts : Pieces) → LendAlike parts → AreAccepted t.names parts
        → eval s (Node at word.Object parts) ≡ eval t (Node at word.Object parts)
    object_alike at (Then (Listed properties) End) covered accepted = λ i. (do
      vs ← values_alike properties covered.0 accepted.0 i
      ask t (events.event (codes "object") (shapes.shapes properties) vs))
    object_alike at _ covered accepted = refl

    tagged_alike : (spine : Spine) (at : At) (parts : Pieces) → lends_at word.Tagged parts ≡ false → LendAlike parts
        → refusals_by t.names spine (Node at word.Tagged parts) ≡ []
        → eval s (Node at word.Tagged parts) ≡ eval t (Node at word.Tagged parts)
    tagged_alike spine at (Then tag (Then (Node there word.Template parts) rest)) alone covered none =
        template_tagged spine at tag there parts rest alone (eval_by Off tag covered.0) covered.1.0.2 none
    tagged_alike spine at _ alone covered none = refl

    template_tagged : (spine : Spine) (at : At) (tag : Syntax) (there : At) (parts rest : Pieces) → lends tag ≡ false
        → (refusals t.names tag ≡ [] → eval s tag ≡ eval t tag) → LendAlike parts
        → refusals_by t.names spine (Node at word.Tagged (Then tag (Then (Node there word.Template parts) rest))) ≡ []
        → eval s (Node at word.Tagged (Then tag (Then (Node there word.Template parts) rest)))
        ≡ eval t (Node at word.Tagged (Then tag (Then (Node there word.Template parts) rest)))
    template_tagged spine at tag there (Then (Listed quasis) (Then (Listed expressions) End)) End alone same more none =
        let told = none_then (shapes.are_raw quasis) (refusals t.names tag ++ refusals_in t.names expressions) _ none in
        let both = nil_parts (refusals t.names tag) (refusals_in t.names expressions) told in
        as_tagged s tag quasis expressions at there alone
        ∙ (λ i. tagged_by t (shapes.are_raw quasis) (one_value (same both.0 i)) (values_alike expressions more.1.0 both.1 i)
        (shapes.quasis quasis ++ shapes.shapes expressions))
        ∙ sym (as_tagged t tag quasis expressions at there alone)
    template_tagged spine at tag there _ _ alone same more none = refl

    unary_alike : (spine : Spine) (at : At) (parts : Pieces) → LendAlike parts → refusals_by t.names spine (Node at word.Unary parts) ≡ []
        → eval s (Node at word.Unary parts) ≡ eval t (Node at word.Unary parts)
    unary_alike spine at (Then (Said operator) (Then argument End)) covered none =
        let told = none_else (is_lost_delete operator argument) _ (refusals t.names argument) none in
        unary_with operator argument (delete_alike argument covered.1.0 told) (eval_by Off argument covered.1.0 told) at
    unary_alike spine at _ covered none = refl

    delete_alike : (e : Syntax) → LendsAlike e → refusals t.names e ≡ [] → delete_property s e ≡ delete_property t e
    delete_alike (Node at word.Paren parts) covered none = paren_deleted at parts covered.2 (are_accepted t.names parts none)
    delete_alike (Node at word.Member parts) covered none = member_deleted at parts covered.2 (member_accepted t.names at parts none)
    delete_alike (Node at word.Index parts) covered none = index_deleted at parts covered.2 (index_accepted t.names at parts none)
    delete_alike _ covered none = refl

    paren_deleted : (at : At) (parts : Pieces) → LendAlike parts → AreAccepted t.names parts
        → delete_property s (Node at word.Paren parts) ≡ delete_property t (Node at word.Paren parts)
    paren_deleted at (Then expression End) covered accepted = delete_alike expression covered.0 accepted.0
    paren_deleted at _ covered accepted = refl

    member_deleted : (at : At) (parts : Pieces) → LendAlike parts → AreAccepted t.names parts
        → delete_property s (Node at word.Member parts) ≡ delete_property t (Node at word.Member parts)
    member_deleted at (Then optional (Then object (Then (Said name) End))) covered accepted = λ i. (do
      v ← eval_by Off object covered.1.0 accepted.1.0 i
      ask t (events.delete v (events.fixed_key (value.Text name))))
    member_deleted at _ covered accepted = refl

    index_deleted : (at : At) (parts : Pieces) → LendAlike parts → AreAccepted t.names parts
        → delete_property s (Node at word.Index parts) ≡ delete_property t (Node at word.Index parts)
    index_deleted at (Then optional (Then object (Then property End))) covered accepted = λ i. (do
      v ← eval_by Off object covered.1.0 accepted.1.0 i
      key ← key_in property (eval_by Off property covered.1.1.0 accepted.1.1.0 i)
      ask t (events.delete v key))
    index_deleted at _ covered accepted = refl

    update_alike : (spine : Spine) (at : At) (parts : Pieces) → LendAlike parts → refusals_by t.names spine (Node at word.Update parts) ≡ []
        → eval s (Node at word.Update parts) ≡ eval t (Node at word.Update parts)
    update_alike spine at (Then (Said operator) (Then (Flag prefix) (Then target rest))) covered none =
        target_updated spine operator prefix at target rest covered.1.1.0 none
    update_alike spine at _ covered none = refl

    target_updated : (spine : Spine) (operator : List ℕ) (prefix : Bool) (at : At) (target : Syntax) (rest : Pieces) → LendsAlike target
        → refusals_by t.names spine (update_at operator prefix at target rest) ≡ []
        → eval s (update_at operator prefix at target rest) ≡ eval t (update_at operator prefix at target rest)
    target_updated spine operator prefix at (Node there word.Id parts) rest covered none = id_updated operator prefix at there parts rest
    target_updated spine operator prefix at (Node there word.Member parts) End covered none = λ i. (do
      p ← member_placed there parts covered.2 (member_accepted t.names there parts none) i
      update_property t prefix operator p.0 p.1)
    target_updated spine operator prefix at (Node there word.Index parts) End covered none = λ i. (do
      p ← index_placed there parts covered.2 (index_accepted t.names there parts none) i
      update_property t prefix operator p.0 p.1)
    target_updated spine operator prefix at _ End covered none = refl
    target_updated spine operator prefix at _ (Then first rest) covered none = refl

    member_placed : (at : At) (parts : Pieces) → LendAlike parts → AreAccepted t.names parts
        → place s (Node at word.Member parts) ≡ place t (Node at word.Member parts)
    member_placed at (Then optional (Then object (Then (Said name) End))) covered accepted = λ i. (do
      v ← eval_by Off object covered.1.0 accepted.1.0 i
      give (v, events.fixed_key (value.Text name)))
    member_placed at _ covered accepted = refl

    index_placed : (at : At) (parts : Pieces) → LendAlike parts → AreAccepted t.names parts
        → place s (Node at word.Index parts) ≡ place t (Node at word.Index parts)
    index_placed at (Then optional (Then object (Then property End))) covered accepted = λ i. (do
      v ← eval_by Off object covered.1.0 accepted.1.0 i
      key ← key_in property (eval_by Off property covered.1.1.0 accepted.1.1.0 i)
      give (v, key))
    index_placed at _ covered accepted = refl

    -- Assignments.

    assign_alike : (spine : Spine) (at : At) (parts : Pieces) → IsOrderlyAt t.names assigned at word.Assign parts → LendAlike parts
        → refusals_by t.names spine (Node at word.Assign parts) ≡ []
        → eval s (Node at word.Assign parts) ≡ eval t (Node at word.Assign parts)
    assign_alike spine at (Then (Said operator) (Then target (Then right End))) facts covered none =
        let ahead : List Diagnostic = refusals t.names right in
        let taken : List Diagnostic =
        if is_pattern target then refusals_to t.names target
        else said_of_assigned t.names at.span target (refusals_below t.names target) in
        let stored_to : List Diagnostic = said_of_updated t.names target in
        by_operator (bytes_eq operator (codes "=")) (shapes.is_logical operator) (is_steady t.names assigned right)
        (is_steady_target t.names assigned target) (ahead ++ taken)
        (if is_pattern target then refusal row.F24 at.span ∷ [] else refusals t.names target ++ ahead ++ stored_to) _
        (plain_by s target (eval s right)) (plain_by t target (eval t right))
        (compound_by s (shapes.operator_in operator) target (eval s right))
        (compound_by t (shapes.operator_in operator) target (eval t right)) facts.orderly none
        (λ either told.
        let both = nil_parts ahead taken told in
        plain_alike at.span target right facts.formed either covered.1.0 covered.1.1.0 both.0 both.1
        (eval_by Off right covered.1.1.0 both.0) (λ kept taken v. take_alike target v covered.1.0 kept taken))
        (λ told.
        let computed = none_else (is_pattern target) (refusal row.F24 at.span) (refusals t.names target ++ ahead ++ stored_to) told in
        let both = nil_parts (refusals t.names target) ahead (nil_parts (refusals t.names target ++ ahead) stored_to computed).0 in
        compound_alike (shapes.operator_in operator) target right covered.1.0 both.0 (eval_by Off right covered.1.1.0 both.1))
    assign_alike spine at _ facts covered none = refl

    plain_alike : (at : Span) (target right : Syntax) → AreAssignable target right
        → is_steady t.names assigned right || is_steady_target t.names assigned target ≡ true → LendsAlike target → LendsAlike right
        → refusals t.names right ≡ []
        → (if is_pattern target then refusals_to t.names target
        else said_of_assigned t.names at target (refusals_below t.names target)) ≡ []
        → eval s right ≡ eval t right
        → (is_lost_item target ≡ false → refusals_to t.names target ≡ [] → (v : Value) → assign_to s target v ≡ assign_to t target v)
        → plain_by s target (eval s right) ≡ plain_by t target (eval t right)
    plain_alike at (Node there word.Id (Then (Said name) End)) right formed either covered given none told same takes = λ i. (do
      v ← same i
      write_alike t stored (t.names.meaning there.reference.0 name) name v i)
    plain_alike at (Node there word.Member parts) right formed either covered given none told same takes =
        property_alike (is_steady t.names assigned right) (is_steady_target t.names assigned (Node there word.Member parts)) either
        (place s (Node there word.Member parts)) (place t (Node there word.Member parts)) (eval s right) (eval t right)
        (member_placed there parts covered.2 (are_accepted t.names parts told)) same
        (kept.member_placed t assigned closed there parts covered.2) (eval_keeps t assigned closed right given)
        (λ is. steady t assigned closed right is formed.1 none) (λ is. member_steady t assigned closed there parts formed.0 is told)
    plain_alike at (Node there word.Index parts) right formed either covered given none told same takes =
        property_alike (is_steady t.names assigned right) (is_steady_target t.names assigned (Node there word.Index parts)) either
        (place s (Node there word.Index parts)) (place t (Node there word.Index parts)) (eval s right) (eval t right)
        (index_placed there parts covered.2 (are_accepted t.names parts told)) same
        (kept.index_placed t assigned closed there parts covered.2) (eval_keeps t assigned closed right given)
        (λ is. steady t assigned closed right is formed.1 none) (λ is. index_steady t assigned closed there parts formed.0 is told)
    plain_alike at (Node there word.Privatemember parts) right formed either covered given none told same takes = refl
    plain_alike at (Node there word.Arraytarget parts) right formed either covered given none told same takes = λ i. (do
      v ← same i
      takes refl told v i
      give v)
    plain_alike at (Node there word.Objecttarget parts) right formed either covered given none told same takes = λ i. (do
      v ← same i
      takes refl told v i
      give v)
    plain_alike at (Node there word.Default parts) right formed either covered given none told same takes =
        absurd (none_fits parts formed.0)
    plain_alike at (Node there word.Short parts) right formed either covered given none told same takes =
        absurd (none_fits parts formed.0)
    plain_alike at (Node there word.Keyed parts) right formed either covered given none told same takes =
        absurd (none_fits parts formed.0)
    plain_alike at (Node there word.Rest parts) right formed either covered given none told same takes =
        absurd (none_fits parts formed.0)
    plain_alike at target right formed either covered given none told same takes = λ i. plain_by t target (same i)

    -- A target takes a value, or a piece of one.
    pub take_alike : (target : Syntax) (v : Value) → LendsAlike target → is_lost_item target ≡ false → refusals_to t.names target ≡ []
        → assign_to s target v ≡ assign_to t target v
    take_alike (Node at word.Id parts) v covered kept none = id_takes at parts v
    take_alike (Node at word.Member parts) v covered kept none = member_takes at parts v covered.2 (are_accepted t.names parts none)
    take_alike (Node at word.Index parts) v covered kept none = index_takes at parts v covered.2 (are_accepted t.names parts none)
    take_alike (Node at word.Default (Then target (Then default End))) v covered kept none =
        let told = default_none t.names default (refusals_to t.names target) none in λ i. (do
          w ← or_default t v (eval_by Off default covered.2.1.0 told.0 i)
          take_alike target w covered.2.0 (unlost target covered.1.formed) told.1 i)
    take_alike (Node at word.Short (Then name (Then Absent End))) v covered kept none =
        take_alike name v covered.2.0 (unlost name covered.1.formed) (default_none t.names Absent (refusals_to t.names name) none).1
    take_alike (Node at word.Short (Then name (Then default End))) v covered kept none =
        let told = default_none t.names default (refusals_to t.names name) none in λ i. (do
          w ← or_default t v (eval_by Off default covered.2.1.0 told.0 i)
          take_alike name w covered.2.0 (unlost name covered.1.formed) told.1 i)
    take_alike (Node at word.Keyed (Then computed (Then key (Then target End)))) v covered kept none =
        take_alike target v covered.2.1.1.0 (unlost target covered.1.formed) (none_kept (loses_item computed key) _ kept none)
    take_alike (Node at word.Rest (Then target End)) v covered kept none =
        take_alike target v covered.2.0 (unlost target covered.1.formed) none
    take_alike (Node at word.Arraytarget (Then (Listed items) (Then rest End))) v covered kept none =
        let ahead : List Diagnostic = said_ahead t.names items rest in
        let forced : Bool = is_forced t.names items rest in
        let first : List Diagnostic = refusals_to_round t.names forced true items in
        let second : List Diagnostic = refusals_to_round t.names forced false items in
        let last = nil_parts (ahead ++ first ++ second) (refusals_to t.names rest) none in
        let both = nil_parts (ahead ++ first) second last.0 in λ i. (do
          pieces ← take_apart t (codes "array" ∷ shapes.piece_shapes items ++ shapes.rest_shape rest) v
          left ← take_items forced items pieces covered.2.0 (nil_parts ahead first both.0).1 both.1 i
          take_alike rest (first_piece left) covered.2.1.0 (unlost rest covered.1.formed) last.1 i)
    take_alike (Node at word.Objecttarget (Then (Listed properties) (Then rest End))) v covered kept none =
        let ahead : List Diagnostic = said_ahead t.names properties rest in
        let forced : Bool = is_forced t.names properties rest in
        let first : List Diagnostic = refusals_to_round t.names forced true properties in
        let second : List Diagnostic = refusals_to_round t.names forced false properties in
        let last = nil_parts (ahead ++ first ++ said_of_rest rest ++ second) _ none in
        let both = nil_parts (ahead ++ first ++ said_of_rest rest) second last.0 in
        let third = nil_parts (ahead ++ first) (said_of_rest rest) both.0 in
        let plain = plain_rest rest third.1 in
        let own = none_plain (shapes.is_plain_rest rest) _ plain last.1 in λ i.
        if shapes.have_keys properties && shapes.is_plain_rest rest then (do
          pieces ← take_apart t (codes "object" ∷ shapes.piece_shapes properties ++ shapes.rest_shape rest) v
          left ← take_items forced properties pieces covered.2.0 (nil_parts ahead first third.0).1 both.1 i
          take_alike rest (first_piece left) covered.2.1.0 (plain_unlost rest plain) own i)
        else no_meaning
    take_alike _ v covered kept none = refl

    take_items : (forced : Bool) (items : Pieces) (pieces : List Value) → LendAlike items → refusals_to_round t.names forced true items ≡ []
        → refusals_to_round t.names forced false items ≡ [] → assign_items s items pieces ≡ assign_items t items pieces
    take_items forced End pieces covered first second = refl
    take_items forced (Then item items) pieces covered first second =
        let told = round_none t.names forced item items first second in λ i.
        if shapes.is_hole item then take_items forced items pieces covered.1 told.first told.second i
        else (do
          take_alike item (first_piece pieces) covered.0 told.kept told.item i
          take_items forced items (later_pieces pieces) covered.1 told.first told.second i)

    pub member_takes : (at : At) (parts : Pieces) (v : Value) → LendAlike parts → AreAccepted t.names parts
        → assign_to s (Node at word.Member parts) v ≡ assign_to t (Node at word.Member parts) v
    member_takes at (Then optional (Then object (Then (Said name) End))) v covered accepted = λ i. (do
      o ← eval_by Off object covered.1.0 accepted.1.0 i
      write_property t o (events.fixed_key (value.Text name)) v
      done)
    member_takes at _ v covered accepted = refl

    pub index_takes : (at : At) (parts : Pieces) (v : Value) → LendAlike parts → AreAccepted t.names parts
        → assign_to s (Node at word.Index parts) v ≡ assign_to t (Node at word.Index parts) v
    index_takes at (Then optional (Then object (Then property End))) v covered accepted = λ i. (do
      o ← eval_by Off object covered.1.0 accepted.1.0 i
      key ← key_in property (eval_by Off property covered.1.1.0 accepted.1.1.0 i)
      write_property t o key v
      done)
    index_takes at _ v covered accepted = refl

    compound_alike : (operator : List ℕ) (target right : Syntax) → LendsAlike target → refusals t.names target ≡ []
        → eval s right ≡ eval t right → compound_by s operator target (eval s right) ≡ compound_by t operator target (eval t right)
    compound_alike operator (Node there word.Id (Then (Said name) End)) right covered none same = λ i. (do
      old ← read_alike (t.names.meaning there.reference.0 name) i
      w ← same i
      v ← ask t (events.binary operator old w)
      write_alike t stored (t.names.meaning there.reference.0 name) name v i)
    compound_alike operator (Node there word.Member parts) right covered none same = λ i.
        computed_by t operator (member_placed there parts covered.2 (member_accepted t.names there parts none) i) (same i)
    compound_alike operator (Node there word.Index parts) right covered none same = λ i.
        computed_by t operator (index_placed there parts covered.2 (index_accepted t.names there parts none) i) (same i)
    compound_alike operator target right covered none same = λ i. compound_by t operator target (same i)

    binary_alike : (at : At) (parts : Pieces) → LendAlike parts → AreAccepted t.names parts
        → eval s (Node at word.Binary parts) ≡ eval t (Node at word.Binary parts)
    binary_alike at (Then (Said operator) (Then left (Then right End))) covered accepted = λ i. (do
      v ← eval_by Off left covered.1.0 accepted.1.0 i
      w ← eval_by Off right covered.1.1.0 accepted.1.1.0 i
      ask t (events.binary operator v w))
    binary_alike at _ covered accepted = refl

    logical_alike : (spine : Spine) (at : At) (parts : Pieces) → LendAlike parts
        → refusals_by t.names spine (Node at word.Logical parts) ≡ []
        → eval s (Node at word.Logical parts) ≡ eval t (Node at word.Logical parts)
    logical_alike spine at (Then (Said operator) (Then left (Then right End))) covered none =
        let both = nil_parts (refusals t.names right) (refusals t.names left) none in λ i. (do
          v ← eval_by Off left covered.1.0 both.1 i
          needed ← needs_right t operator v
          if needed then eval_by Off right covered.1.1.0 both.0 i else give v)
    logical_alike spine at _ covered none = refl

    conditional_alike : (spine : Spine) (at : At) (parts : Pieces) → LendAlike parts
        → refusals_by t.names spine (Node at word.Cond parts) ≡ []
        → eval s (Node at word.Cond parts) ≡ eval t (Node at word.Cond parts)
    conditional_alike spine at (Then condition (Then consequent (Then alternate End))) covered none =
        let first = nil_parts (refusals t.names consequent ++ refusals t.names alternate) (refusals t.names condition) none in
        let both = nil_parts (refusals t.names consequent) (refusals t.names alternate) first.0 in λ i. (do
          v ← eval_by Off condition covered.0 first.1 i
          met ← test t (truthy v)
          if met then eval_by Off consequent covered.1.0 both.0 i else eval_by Off alternate covered.1.1.0 both.1 i)
    conditional_alike spine at _ covered none = refl

    sequence_alike : (at : At) (parts : Pieces) → LendAlike parts → AreAccepted t.names parts
        → eval s (Node at word.Seq parts) ≡ eval t (Node at word.Seq parts)
    sequence_alike at (Then (Listed expressions) End) covered accepted = last_alike expressions covered.0 accepted.0
    sequence_alike at _ covered accepted = refl

    last_alike : (expressions : Pieces) → LendAlike expressions → refusals_in t.names expressions ≡ []
        → eval_last s expressions ≡ eval_last t expressions
    last_alike End covered none = refl
    last_alike (Then expression End) covered none = eval_by Off expression covered.0 (nil_parts (refusals t.names expression) [] none).0
    last_alike (Then expression (Then next expressions)) covered none =
        let both = nil_parts (refusals t.names expression) (refusals_in t.names (Then next expressions)) none in λ i. (do
          eval_by Off expression covered.0 both.0 i
          last_alike (Then next expressions) covered.1 both.1 i)

    await_alike : (at : At) (parts : Pieces) → LendAlike parts → AreAccepted t.names parts
        → eval s (Node at word.Await parts) ≡ eval t (Node at word.Await parts)
    await_alike at (Then argument End) covered accepted = λ i. (do
      v ← eval_by Off argument covered.0 accepted.0 i
      ask t (events.event (codes "await") [] (v ∷ [])))
    await_alike at _ covered accepted = refl

    member_alike : (spine : Spine) (at : At) (parts : Pieces) → LendAlike parts → refusals_by t.names spine (Node at word.Member parts) ≡ []
        → eval s (Node at word.Member parts) ≡ eval t (Node at word.Member parts)
    member_alike spine at (Then (Flag optional) (Then object (Then (Said name) End))) covered none =
        let accepted = link_accepted t.names (below_link spine) object (Then (Said name) End) none in λ i. (do
          v ← eval_by (below_link spine) object covered.1.0 accepted.0 i
          unless_nullish t optional v
          ask t (events.load v (events.fixed_key (value.Text name))))
    member_alike spine at _ covered none = refl

    index_alike : (spine : Spine) (at : At) (parts : Pieces) → LendAlike parts → refusals_by t.names spine (Node at word.Index parts) ≡ []
        → eval s (Node at word.Index parts) ≡ eval t (Node at word.Index parts)
    index_alike spine at (Then (Flag optional) (Then object (Then property End))) covered none =
        let accepted = link_accepted t.names (below_link spine) object (Then property End) none in λ i. (do
          v ← eval_by (below_link spine) object covered.1.0 accepted.0 i
          unless_nullish t optional v
          key ← key_in property (eval_by Off property covered.1.1.0 accepted.1.0 i)
          ask t (events.load v key))
    index_alike spine at _ covered none = refl

    call_alike : (spine : Spine) (at : At) (parts : Pieces) → lends_at word.Call parts ≡ false → LendAlike parts
        → refusals_by t.names spine (Node at word.Call parts) ≡ [] → eval s (Node at word.Call parts) ≡ eval t (Node at word.Call parts)
    call_alike spine at (Then (Flag optional) (Then called_part (Then (Listed arguments) End))) alone covered none =
        let accepted = link_accepted t.names (below_link spine) called_part (Then (Listed arguments) End) none in
        as_called s optional called_part arguments at alone
        ∙ (λ i. call_by t optional
        (head_alike called_part (is_link called_part) refl (callee_alike (below_link spine) called_part covered.1.0 accepted.0)
        (eval_by (below_link spine) called_part covered.1.0 accepted.0) i)
        (values_alike arguments covered.1.1.0 accepted.1.0 i) (shapes.shapes arguments))
        ∙ sym (as_called t optional called_part arguments at alone)
    call_alike spine at _ alone covered none = refl

    callee_alike : (spine : Spine) (e : Syntax) → LendsAlike e → refusals_by t.names spine e ≡ [] → is_link e ≡ true
        → callee s e ≡ callee t e
    callee_alike spine (Node at word.Member parts) covered none link = member_called spine at parts covered.2 none
    callee_alike spine (Node at word.Index parts) covered none link = index_called spine at parts covered.2 none
    callee_alike spine (Node at word.Privatemember parts) covered none link = refl
    callee_alike spine _ covered none link = absurd (true≢false (sym link))

    member_called : (spine : Spine) (at : At) (parts : Pieces) → LendAlike parts
        → refusals_by t.names spine (Node at word.Member parts) ≡ []
        → callee s (Node at word.Member parts) ≡ callee t (Node at word.Member parts)
    member_called spine at (Then (Flag optional) (Then object (Then (Said name) End))) covered none =
        let accepted = link_accepted t.names (below_link spine) object (Then (Said name) End) none in λ i. (do
          v ← eval_by (below_link spine) object covered.1.0 accepted.0 i
          unless_nullish t optional v
          f ← ask t (events.load v (events.fixed_key (value.Text name)))
          give (v ∷ f ∷ []))
    member_called spine at _ covered none = refl

    index_called : (spine : Spine) (at : At) (parts : Pieces) → LendAlike parts → refusals_by t.names spine (Node at word.Index parts) ≡ []
        → callee s (Node at word.Index parts) ≡ callee t (Node at word.Index parts)
    index_called spine at (Then (Flag optional) (Then object (Then property End))) covered none =
        let accepted = link_accepted t.names (below_link spine) object (Then property End) none in λ i. (do
          v ← eval_by (below_link spine) object covered.1.0 accepted.0 i
          unless_nullish t optional v
          key ← key_in property (eval_by Off property covered.1.1.0 accepted.1.0 i)
          f ← ask t (events.load v key)
          give (v ∷ f ∷ []))
    index_called spine at _ covered none = refl

    new_alike : (at : At) (parts : Pieces) → LendAlike parts → AreAccepted t.names parts
        → eval s (Node at word.New parts) ≡ eval t (Node at word.New parts)
    new_alike at (Then called_part (Then (Listed arguments) End)) covered accepted = λ i. (do
      v ← eval_by Off called_part covered.0 accepted.0 i
      vs ← values_alike arguments covered.1.0 accepted.1.0 i
      ask t (events.event (codes "new") (shapes.shapes arguments) (v ∷ vs)))
    new_alike at _ covered accepted = refl

    values_alike : (parts : Pieces) → LendAlike parts → refusals_in t.names parts ≡ [] → values s parts ≡ values t parts
    values_alike End covered none = refl
    values_alike (Then part parts) covered none =
        let both = nil_parts (refusals t.names part) (refusals_in t.names parts) none in λ i. (do
          vs ← item_alike part covered.0 both.0 (eval_by Off part covered.0 both.0) i
          ws ← values_alike parts covered.1 both.1 i
          give (vs ++ ws))

    -- An argument, an element or a property.
    item_alike : (part : Syntax) → LendsAlike part → refusals t.names part ≡ [] → eval s part ≡ eval t part
        → values_of s part (eval s part) ≡ values_of t part (eval t part)
    item_alike (Node at word.Hole parts) covered none same = hole_alike at parts
    item_alike (Node at word.Spread parts) covered none same = spread_alike at parts covered.2 (are_accepted t.names parts none)
    item_alike (Node at word.Attrspread parts) covered none same = absurd (true≢false (sym covered.0))
    item_alike (Node at word.Prop parts) covered none same = prop_alike at parts covered.2 none
    item_alike (Node at word.Method parts) covered none same = absurd (true≢false (sym covered.0))
    item_alike (Node at word.Get parts) covered none same = absurd (true≢false (sym covered.0))
    item_alike (Node at word.Set parts) covered none same = absurd (true≢false (sym covered.0))
    item_alike (Node at word.Attr parts) covered none same = absurd (true≢false (sym covered.0))
    item_alike (Node at word.Text parts) covered none same = absurd (true≢false (sym covered.0))
    item_alike (Node at word.Container parts) covered none same = absurd (true≢false (sym covered.0))
    item_alike (Node at word.Spreadchild parts) covered none same = absurd (true≢false (sym covered.0))
    item_alike part covered none same = ap one_value same

    spread_alike : (at : At) (parts : Pieces) → LendAlike parts → AreAccepted t.names parts
        → values_of s (Node at word.Spread parts) (eval s (Node at word.Spread parts))
        ≡ values_of t (Node at word.Spread parts) (eval t (Node at word.Spread parts))
    spread_alike at (Then argument End) covered accepted = λ i. one_value (eval_by Off argument covered.0 accepted.0 i)
    spread_alike at _ covered accepted = refl

    prop_alike : (at : At) (parts : Pieces) → LendAlike parts → refusals t.names (Node at word.Prop parts) ≡ []
        → values_of s (Node at word.Prop parts) (eval s (Node at word.Prop parts))
        ≡ values_of t (Node at word.Prop parts) (eval t (Node at word.Prop parts))
    prop_alike at (Then (Flag computed) (Then key (Then expression End))) covered none =
        let told = none_then (is_known_key computed key) (refusals t.names key ++ refusals t.names expression) _ none in
        let both = nil_parts (refusals t.names key) (refusals t.names expression) told in λ i. (do
          vs ← property_key computed key (eval_by Off key covered.1.0 both.0 i)
          v ← eval_by Off expression covered.1.1.0 both.1 i
          give (vs ++ v ∷ []))
    prop_alike at _ covered none = refl

  -- An expression off the spine.
  pub eval_alike : (e : Syntax) → LendsAlike e → refusals t.names e ≡ [] → eval s e ≡ eval t e
  eval_alike e covered none = eval_by Off e covered none
