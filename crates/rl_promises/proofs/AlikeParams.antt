-- Parameters of an orderly function take their arguments alike as they are written, in their turn, and as they are ported, plain names
-- first.
use Rattle.std.proofs.Common.{◌≡◌, ℕ, Bool, true, false, true≢false, not, if◌then◌else◌, List, [], ◌∷◌, ◌++◌, Option, append_assoc, refl}
use Rattle.std.proofs.Common.{sym, ap, subst, ◌∙◌}
use Rattle.rl_base.specs.declared.ids.SymbolId.{SymbolId}
use Rattle.rl_machine.specs.declared.trace.Assignment.{Assignment}
use Rattle.rl_machine.specs.declared.trace.Value.{Value}
use Rattle.rl_model.specs.Actions.{◌>>=◌, ◌>>◌, done}
use Rattle.rl_model.specs.Code.{contains, declared_by}
use Rattle.rl_model.specs.Expressions.{eval, first_piece, later_pieces, or_default}
use Rattle.rl_model.specs.Functions.{is_plain, take_argument, take_arguments, take_params}
use Rattle.rl_model.specs.Orderly as order
use Rattle.rl_model.specs.Orderly.{Item, defaults_among, defaults_in, is_orderly_pattern, items_among, items_of, items_of_part, symbols_in}
use Rattle.rl_model.specs.Patterns.{bind, is_early}
use Rattle.rl_model.specs.Scene.{Scene}
use Rattle.rl_promises.proofs.Accepted.{nil_parts}
use Rattle.rl_promises.proofs.AcceptedPatterns.{default_none, unlost, whole_unlost}
use Rattle.rl_promises.proofs.AlikeExpressions.{as_ported, eval_alike}
use Rattle.rl_promises.proofs.AlikePatterns.{idle_passes, name_sets, name_stored, part_alike, set_one, sets_either}
use Rattle.rl_promises.proofs.FormedParts.{IsWhole}
use Rattle.rl_promises.proofs.OrderlyCalls as orderly
use Rattle.rl_promises.proofs.OrderlyItems.{AreFine, IsPast, apart_from, fine_defaults, fine_left, fine_of, fine_parted, fine_right}
use Rattle.rl_promises.proofs.OrderlyItems.{has_passed, passed_last, past, symbols_left, symbols_right}
use Rattle.rl_promises.proofs.Quiet.{AreAlike, alike_bind, alike_of, alike_self, alike_then}
use Rattle.rl_promises.proofs.ReadNames.{flat_left}
use Rattle.rl_promises.proofs.RelatedPatterns.{binds_symbols, param_relates}
use Rattle.rl_promises.proofs.Rounds.{AreOrderly, AreStored, IsStored, Passes, Step, all_sets, done_passes, first_round, in_order}
use Rattle.rl_promises.proofs.Rounds.{passes_by, rounds_alike, second_round}
use Rattle.rl_promises.proofs.SetStores.{set_by}
use Rattle.rl_promises.specs.Rows.{refusals, refusals_in}
use Rattle.rl_syntax.specs.Syntax.{Syntax, Node, Listed, Absent, Pieces, End, Then}
use Rattle.rl_syntax.specs.declared.numbered.At.{At}
use Rattle.rl_syntax.specs.declared.word.Word.TheVariants as word

-- `s` runs as the port does, `t` as the function is written.
module _ (t : Scene) (stored : ℕ → Option SymbolId) (assigned : List ℕ) (closed : (symbol : ℕ) → t.world.opens symbol ≡ false)
    (written : t.ported ≡ false) (late : (everywhere : Bool) (bind : ℕ) → t.takes_early everywhere bind ≡ false) where
  abbrev s : Scene
  s = as_ported t stored

  abbrev LendsAlike : Syntax → Type 0
  LendsAlike = orderly.LendsAlike t.names assigned

  abbrev LendAlike : Pieces → Type 0
  LendAlike = orderly.LendAlike t.names assigned

  abbrev parts_in : Syntax → List Item
  parts_in = items_of_part t.names

  abbrev parts_among : Pieces → List Item
  parts_among = items_among t.names

  -- The steps of parameters. The rest takes its argument at the end.

  abbrev sets_of : (param : Syntax) → Value → List Assignment
  sets_of (Node at word.Param (Then (Node there word.Bind parts) (Then Absent End))) v = set_one (t.names.declared there.id.0) v
  sets_of _ v = []

  abbrev step_of : (param : Syntax) → Value → Step
  step_of param v = record {
    early = is_plain param;
    ported = take_argument s param v;
    written = take_argument t param v;
    sets = sets_of param v;
  }

  abbrev steps_of : (params : Pieces) (rest : Syntax) → List Value → List Step
  steps_of End rest arguments = record {
    early = false;
    ported = bind s true rest (first_piece arguments);
    written = bind t true rest (first_piece arguments);
    sets = [];
  } ∷ []
  steps_of (Then param params) rest arguments = step_of param (first_piece arguments) ∷ steps_of params rest (later_pieces arguments)

  param_stored : (param : Syntax) (v : Value) → IsStored (step_of param v)
  param_stored (Node at word.Param (Then (Node there word.Bind parts) (Then Absent End))) v =
      name_stored (t.names.declared there.id.0) v
      (take_argument t (Node at word.Param (Then (Node there word.Bind parts) (Then Absent End))) v)
  param_stored _ v = record { stores = λ ways onward store answers. refl }

  steps_stored : (params : Pieces) (rest : Syntax) (arguments : List Value) → AreStored (steps_of params rest arguments)
  steps_stored End rest arguments = (record { stores = λ ways onward store answers. refl }, tt)
  steps_stored (Then param params) rest arguments =
      (param_stored param (first_piece arguments), steps_stored params rest (later_pieces arguments))

  param_sets : (param : Syntax) (v : Value) (symbol : ℕ) → contains (set_by (sets_of param v)) symbol ≡ true
      → contains (symbols_in (parts_in param)) symbol ≡ true
  param_sets (Node at word.Param (Then (Node there word.Bind parts) (Then Absent End))) v symbol set =
      subst (λ (l : List ℕ). contains l symbol ≡ true) (sym (binds_symbols (declared_by (t.names.declared there.id.0))))
      (name_sets (t.names.declared there.id.0) v symbol set)
  param_sets _ v symbol set = absurd (true≢false (sym set))

  steps_set : (params : Pieces) (rest : Syntax) (arguments : List Value) (symbol : ℕ)
      → contains (set_by (all_sets (steps_of params rest arguments))) symbol ≡ true
      → contains (symbols_in (parts_among params ++ parts_in rest)) symbol ≡ true
  steps_set End rest arguments symbol there = absurd (true≢false (sym there))
  steps_set (Then param params) rest arguments symbol there =
      subst (λ (l : List Item). contains (symbols_in l) symbol ≡ true)
      (sym (append_assoc (parts_in param) (parts_among params) (parts_in rest)))
      (sets_either (sets_of param (first_piece arguments)) (all_sets (steps_of params rest (later_pieces arguments))) symbol
      (λ own. symbols_left (parts_in param) (parts_among params ++ parts_in rest) symbol
      (param_sets param (first_piece arguments) symbol own))
      (λ behind. symbols_right (parts_in param) (parts_among params ++ parts_in rest) symbol
      (steps_set params rest (later_pieces arguments) symbol behind)) there)

  -- Two rounds of parameters as they are ported, and all in a row as they are written.

  first_taken : (params : Pieces) (rest : Syntax) (arguments : List Value)
      → (take_arguments s is_plain params arguments >> done) ≡ first_round (steps_of params rest arguments)
  first_taken End rest arguments = refl
  first_taken (Then param params) rest arguments = λ i.
      (if is_plain param then take_argument s param (first_piece arguments) else done) >> first_taken params rest (later_pieces arguments) i

  second_taken : (params : Pieces) (rest : Syntax) (arguments : List Value)
      → (take_arguments s (λ param. not (is_plain param)) params arguments >>= (λ left. bind s true rest (first_piece left)))
      ≡ second_round (steps_of params rest arguments)
  second_taken End rest arguments = refl
  second_taken (Then param params) rest arguments = λ i.
      (if not (is_plain param) then take_argument s param (first_piece arguments) else done)
      >> second_taken params rest (later_pieces arguments) i

  all_taken : (params : Pieces) (rest : Syntax) (arguments : List Value)
      → (take_arguments t (λ param. true) params arguments >>= (λ left. bind t true rest (first_piece left)))
      ≡ in_order (steps_of params rest arguments)
  all_taken End rest arguments = refl
  all_taken (Then param params) rest arguments = λ i.
      take_argument t param (first_piece arguments) >> all_taken params rest (later_pieces arguments) i

  -- A parameter that is no plain name passes the names behind it.

  not_early : (at : At) (pattern : Syntax) → IsWhole pattern → is_plain (Node at word.Param (Then pattern (Then Absent End))) ≡ false
      → is_early s true pattern ≡ false
  not_early at (Node there word.Bind parts) whole plain = absurd (true≢false plain)
  not_early at (Node there word.Arraypat parts) whole plain = refl
  not_early at (Node there word.Objectpat parts) whole plain = refl
  not_early at Absent whole plain = refl
  not_early at _ whole plain = absurd whole

  idle_param : (tried : Bool) (steps : List Step) → AreStored steps → (param : Syntax) (v : Value) → LendsAlike param
      → is_plain param ≡ false → has_passed (parts_in param) ≡ false → Passes tried steps (take_argument t param v)
  idle_param tried steps are (Node at word.Param (Then pattern (Then Absent End))) v covered plain idle =
      idle_passes t stored assigned closed written late true tried steps are pattern v (not_early at pattern covered.1.formed plain) idle
  idle_param tried steps are (Node at word.Param (Then pattern (Then default End))) v covered plain idle =
      absurd (true≢false (sym (passed_last (parts_in pattern)) ∙ idle))
  idle_param tried steps are _ v covered plain idle = done_passes tried steps

  param_passes : (tried : Bool) (param : Syntax) (v : Value) (params : Pieces) (rest : Syntax) (arguments : List Value) → LendsAlike param
      → AreFine t.names tried (parts_in param ++ (parts_among params ++ parts_in rest))
      (defaults_in param ++ (defaults_among params ++ defaults_in rest))
      → is_plain param ≡ false → Passes tried (steps_of params rest arguments) (take_argument t param v)
  param_passes tried param v params rest arguments covered fine plain = by_test (has_passed (parts_in param)) refl
    where
      behind : has_passed (parts_in param) ≡ true → (symbol : ℕ)
          → contains (set_by (all_sets (steps_of params rest arguments))) symbol ≡ true
          → IsPast t.names tried (parts_in param) (defaults_in param) symbol
      behind passed symbol there =
          past t.names tried (parts_in param) (parts_among params ++ parts_in rest) (defaults_in param)
          (defaults_among params ++ defaults_in rest) fine passed symbol (steps_set params rest arguments symbol there)

      by_test : (passed : Bool) → has_passed (parts_in param) ≡ passed
          → Passes tried (steps_of params rest arguments) (take_argument t param v)
      by_test false is = idle_param tried (steps_of params rest arguments) (steps_stored params rest arguments) param v covered plain is
      by_test true is =
          passes_by tried assigned (steps_of params rest arguments) (take_argument t param v) (steps_stored params rest arguments)
          (λ symbol there. (behind is symbol there).untried)
          (param_relates t assigned closed (all_sets (steps_of params rest arguments)) param v covered
          (apart_from _ _ (λ symbol there. (behind is symbol there).unbound))
          (apart_from _ _ (λ symbol there. (behind is symbol there).unused)))

  -- Each parameter takes its argument alike.

  param_alike : (tried : Bool) (param : Syntax) (v : Value) → LendsAlike param → refusals t.names param ≡ []
      → AreFine t.names tried (parts_in param) (defaults_in param) → AreAlike tried (take_argument s param v) (take_argument t param v)
  param_alike tried (Node at word.Param (Then pattern (Then Absent End))) v covered none fine =
      part_alike t stored assigned closed written late true tried pattern v covered.2.0 (whole_unlost pattern covered.1.formed)
      (default_none t.names Absent (refusals t.names pattern) none).1
      (fine_defaults t.names tried (parts_in pattern) (defaults_in pattern ++ Absent ∷ []) (defaults_in pattern)
      (flat_left (order.used_in t.names) (defaults_in pattern) (Absent ∷ [])) fine)
  param_alike tried (Node at word.Param (Then pattern (Then default End))) v covered none fine =
      let told = default_none t.names default (refusals t.names pattern) none in
      alike_bind tried (or_default s v (eval s default)) (or_default t v (eval t default)) _ _
      (alike_of tried _ _ (λ i. or_default t v (eval_alike t stored assigned closed written default covered.2.1.0 told.0 i)))
      (λ w. part_alike t stored assigned closed written late true tried pattern w covered.2.0 (whole_unlost pattern covered.1.formed) told.1
      (fine_left t.names tried (parts_in pattern) (order.Passes ∷ []) (defaults_in pattern) (default ∷ []) fine))
  param_alike tried _ v covered none fine = alike_self _

  steps_alike : (tried : Bool) (params : Pieces) (rest : Syntax) (arguments : List Value) → LendAlike params
      → refusals_in t.names params ≡ [] → ((w : Value) → AreAlike tried (bind s true rest w) (bind t true rest w))
      → AreFine t.names tried (parts_among params ++ parts_in rest) (defaults_among params ++ defaults_in rest)
      → AreOrderly tried (steps_of params rest arguments)
  steps_alike tried End rest arguments covered none last fine =
      (last (first_piece arguments), (λ early. record { moves = λ next. alike_self _ }), tt)
  steps_alike tried (Then param params) rest arguments covered none last fine =
      let told = nil_parts (refusals t.names param) (refusals_in t.names params) none in
      let parted = fine_parted t.names tried (parts_in param) (parts_among params) (parts_in rest) (defaults_in param)
      (defaults_among params) (defaults_in rest) fine in
      let behind = fine_right t.names tried (parts_in param) (parts_among params ++ parts_in rest) (defaults_in param)
      (defaults_among params ++ defaults_in rest) parted in (
        param_alike tried param (first_piece arguments) covered.0 told.0
            (fine_left t.names tried (parts_in param) (parts_among params ++ parts_in rest) (defaults_in param)
            (defaults_among params ++ defaults_in rest) parted),
        param_passes tried param (first_piece arguments) params rest (later_pieces arguments) covered.0 parted,
        steps_alike tried params rest (later_pieces arguments) covered.1 told.1 last behind,
      )

  -- Parameters of an orderly function without refusals.
  pub params_alike : (opens : ℕ → Bool) (params : Syntax) (arguments : List Value) → LendsAlike params → refusals t.names params ≡ []
      → is_orderly_pattern t.names opens false params ≡ true
      → AreAlike false (take_params s params arguments) (take_params t params arguments)
  params_alike opens (Node at word.Params (Then (Listed params) (Then rest End))) arguments covered none orderly =
      let fine = fine_of t.names opens false (Node at word.Params (Then (Listed params) (Then rest End))) orderly in
      let told = nil_parts (refusals_in t.names params) (refusals_in t.names (Then rest End)) none in
      let own = (nil_parts (refusals t.names rest) [] told.1).0 in
      alike_then (alike_of false _ _ (λ i. first_taken params rest arguments i >> second_taken params rest arguments i))
      (alike_then
      (rounds_alike false (steps_of params rest arguments) (steps_alike false params rest arguments covered.2.0 told.0
      (λ w. part_alike t stored assigned closed written late true false rest w covered.2.1.0 (unlost rest covered.1.formed) own
      (fine_right t.names false (parts_among params) (parts_in rest) (defaults_among params) (defaults_in rest) fine)) fine))
      (alike_of false _ _ (sym (all_taken params rest arguments)
      ∙ sym (ap (λ (ported : Bool).
      if ported then (do
        take_arguments t is_plain params arguments
        left ← take_arguments t (λ param. not (is_plain param)) params arguments
        bind t true rest (first_piece left))
      else (do
        left ← take_arguments t (λ param. true) params arguments
        bind t true rest (first_piece left))) written))))
  params_alike opens _ arguments covered none orderly = alike_self _
