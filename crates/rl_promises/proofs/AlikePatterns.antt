-- Binding patterns of an orderly function: each takes a value alike as it is written, its names in their turn, and as it is ported, its
-- names first.
use Rattle.std.proofs.Common.{◌≡◌, ℕ, Bool, true, false, true≢false, ◌&&◌, ◌||◌, nat_eq, not, if◌then◌else◌, List, [], ◌∷◌, ◌++◌, codes}
use Rattle.std.proofs.Common.{append_assoc, Option, Some, None, refl, sym, subst, ◌∙◌}
use Rattle.rl_base.specs.declared.diagnostic.Diagnostic.{Diagnostic}
use Rattle.rl_base.specs.declared.ids.SymbolId.{SymbolId}
use Rattle.rl_machine.specs.declared.trace.Assignment.{Assignment}
use Rattle.rl_machine.specs.declared.trace.Value.{Value}
use Rattle.rl_model.specs.Actions.{Action, ◌>>=◌, ◌>>◌, done, no_meaning}
use Rattle.rl_model.specs.Code.{contains, declared_by}
use Rattle.rl_model.specs.Expressions.{eval, first_piece, later_pieces, or_default, take_apart}
use Rattle.rl_model.specs.Orderly.{Item, Binds, defaults_among, defaults_in, is_orderly_pattern, items_among, items_of, items_of_part}
use Rattle.rl_model.specs.Orderly as order
use Rattle.rl_model.specs.Orderly.{symbols_in}
use Rattle.rl_model.specs.Patterns.{bind, bind_items, declare, in_turn, is_early}
use Rattle.rl_model.specs.Scene.{Scene}
use Rattle.rl_model.specs.Shapes as shapes
use Rattle.rl_promises.proofs.AcceptedPatterns.{bound_none, default_none, in_branches, none_kept, plain_then, plain_unlost, unlost}
use Rattle.rl_promises.proofs.Accepted.{nil_parts, none_then}
use Rattle.rl_promises.proofs.AlikeExpressions.{as_ported, eval_alike}
use Rattle.rl_promises.proofs.FormedParts.{HasFormedParts, IsWhole}
use Rattle.rl_promises.proofs.OrderlyCalls as orderly
use Rattle.rl_promises.proofs.OrderlyItems.{AreFine, IsPast, apart_from, fine_front, fine_left, fine_of, fine_parted, fine_right}
use Rattle.rl_promises.proofs.OrderlyItems.{has_passed, passed_last, past, symbols_left, symbols_right}
use Rattle.rl_promises.proofs.Quiet.{AreAlike, alike_bind, alike_if, alike_of, alike_self, alike_then}
use Rattle.rl_promises.proofs.RelatedPatterns.{binds_symbols, part_relates, rounds}
use Rattle.rl_promises.proofs.Rounds.{AreOrderly, AreStored, IsStored, Passes, Step, all_sets, done_passes, first_round, in_order}
use Rattle.rl_promises.proofs.Rounds.{none_passes, passes_by, rounds_alike, second_round}
use Rattle.rl_promises.proofs.SetStores.{set_by, set_by-append}
use Rattle.rl_promises.specs.Patterns.{is_ahead, is_lost_item, loses_item, lost_rest}
use Rattle.rl_promises.specs.Rows.{refusals, refusals_in_round}
use Rattle.rl_syntax.specs.Syntax.{Syntax, Node, Listed, Absent, Pieces, End, Then}
use Rattle.rl_syntax.specs.declared.numbered.At.{At}
use Rattle.rl_syntax.specs.declared.word.Word.TheVariants as word

-- The assignment of a name that takes a value.

abbrev pub set_one : Option SymbolId → Value → List Assignment
set_one None v = []
set_one (Some symbol) v = record { symbol = symbol; value = v } ∷ []

pub name_stored : (o : Option SymbolId) (v : Value) (written : Action (Unit {0}))
    → IsStored (record { early = true; ported = declare o v; written = written; sets = set_one o v })
name_stored None v written = record { stores = λ ways onward store answers. refl }
name_stored (Some symbol) v written = record { stores = λ ways onward store answers. refl }

pub name_sets : (o : Option SymbolId) (v : Value) (symbol : ℕ) → contains (set_by (set_one o v)) symbol ≡ true
    → contains (declared_by o) symbol ≡ true
name_sets None v symbol there = there
name_sets (Some other) v symbol there = there

-- Rows in two parts.
pub either_part : {X : Type 0} (first second : List ℕ) (symbol : ℕ) → (contains first symbol ≡ true → X)
    → (contains second symbol ≡ true → X)
    → contains (first ++ second) symbol ≡ true → X
either_part [] second symbol one other there = other there
either_part {X = X} (x ∷ first) second symbol one other there =
    by_test (nat_eq symbol x) one (either_part first second symbol) there
  where
    by_test : (b : Bool) → (b || contains first symbol ≡ true → X)
        → ((contains first symbol ≡ true → X) → (contains second symbol ≡ true → X)
        → contains (first ++ second) symbol ≡ true → X) → b || contains (first ++ second) symbol ≡ true → X
    by_test true one more there = one refl
    by_test false one more there = more one other there

pub sets_either : {X : Type 0} (first second : List Assignment) (symbol : ℕ) → (contains (set_by first) symbol ≡ true → X)
    → (contains (set_by second) symbol ≡ true → X) → contains (set_by (first ++ second)) symbol ≡ true → X
sets_either first second symbol one other there =
    either_part (set_by first) (set_by second) symbol one other
    (subst (λ (l : List ℕ). contains l symbol ≡ true) (set_by-append first second) there)

-- Steps by a test.

pub stored_if : (test : Bool) (one other : List Step) → AreStored one → AreStored other → AreStored (if test then one else other)
stored_if true one other first second = first
stored_if false one other first second = second

pub orderly_if : (tried test : Bool) (one other : List Step) → AreOrderly tried one → AreOrderly tried other
    → AreOrderly tried (if test then one else other)
orderly_if tried true one other first second = first
orderly_if tried false one other first second = second

-- `s` runs as the port does, `t` as the function is written.
module _ (t : Scene) (stored : ℕ → Option SymbolId) (assigned : List ℕ) (closed : (symbol : ℕ) → t.world.opens symbol ≡ false)
    (written : t.ported ≡ false) (late : (everywhere : Bool) (bind : ℕ) → t.takes_early everywhere bind ≡ false) (everywhere : Bool) where
  abbrev s : Scene
  s = as_ported t stored

  abbrev LendsAlike : Syntax → Type 0
  LendsAlike = orderly.LendsAlike t.names assigned

  abbrev LendAlike : Pieces → Type 0
  LendAlike = orderly.LendAlike t.names assigned

  abbrev parts_in : Syntax → List Item
  parts_in = items_of_part t.names

  abbrev parts_among : Pieces → List Item
  parts_among = items_among t.names

  -- The steps of the parts of a pattern.

  abbrev sets_of : Syntax → Value → List Assignment
  sets_of (Node at word.Bind parts) v = set_one (t.names.declared at.id.0) v
  sets_of (Node at word.Keyedpat (Then computed (Then key (Then pattern End)))) v = sets_of pattern v
  sets_of (Node at word.Rest (Then pattern End)) v = sets_of pattern v
  sets_of _ v = []

  abbrev step_of : Syntax → Value → Step
  step_of part v = record {
    early = is_early s everywhere part;
    ported = bind s everywhere part v;
    written = bind t everywhere part v;
    sets = sets_of part v;
  }

  abbrev steps_of : (items : Pieces) (rest : Syntax) → List Value → List Step
  steps_of End rest pieces = step_of rest (first_piece pieces) ∷ []
  steps_of (Then item items) rest pieces =
      if shapes.is_hole item then steps_of items rest pieces
      else step_of item (first_piece pieces) ∷ steps_of items rest (later_pieces pieces)

  part_stored : (part : Syntax) (v : Value) → IsStored (step_of part v)
  part_stored (Node at word.Bind parts) v = name_stored (t.names.declared at.id.0) v (bind t everywhere (Node at word.Bind parts) v)
  part_stored (Node at word.Keyedpat (Then computed (Then key (Then pattern End)))) v = part_stored pattern v
  part_stored (Node at word.Rest (Then pattern End)) v = part_stored pattern v
  part_stored _ v = record { stores = λ ways onward store answers. refl }

  steps_stored : (items : Pieces) (rest : Syntax) (pieces : List Value) → AreStored (steps_of items rest pieces)
  steps_stored End rest pieces = (part_stored rest (first_piece pieces), tt)
  steps_stored (Then item items) rest pieces =
      stored_if (shapes.is_hole item) _ _ (steps_stored items rest pieces)
      (part_stored item (first_piece pieces), steps_stored items rest (later_pieces pieces))

  part_sets : (part : Syntax) (v : Value) (symbol : ℕ) → contains (set_by (sets_of part v)) symbol ≡ true
      → contains (symbols_in (parts_in part)) symbol ≡ true
  part_sets (Node at word.Bind parts) v symbol there =
      subst (λ (l : List ℕ). contains l symbol ≡ true) (sym (binds_symbols (declared_by (t.names.declared at.id.0))))
      (name_sets (t.names.declared at.id.0) v symbol there)
  part_sets (Node at word.Keyedpat (Then computed (Then key (Then pattern End)))) v symbol there = part_sets pattern v symbol there
  part_sets (Node at word.Rest (Then pattern End)) v symbol there = part_sets pattern v symbol there
  part_sets _ v symbol there = absurd (true≢false (sym there))

  steps_set : (items : Pieces) (rest : Syntax) (pieces : List Value) (symbol : ℕ)
      → contains (set_by (all_sets (steps_of items rest pieces))) symbol ≡ true
      → contains (symbols_in (parts_among items ++ parts_in rest)) symbol ≡ true
  steps_set End rest pieces symbol there =
      sets_either (sets_of rest (first_piece pieces)) [] symbol (part_sets rest (first_piece pieces) symbol)
      (λ never. absurd (true≢false (sym never))) there
  steps_set (Then item items) rest pieces symbol there =
      subst (λ (l : List Item). contains (symbols_in l) symbol ≡ true)
      (sym (append_assoc (parts_in item) (parts_among items) (parts_in rest)))
      (by_hole (steps_set items rest pieces symbol) (steps_set items rest (later_pieces pieces) symbol) (shapes.is_hole item) there)
    where
      Behind : List Value → Type 0
      Behind given = contains (set_by (all_sets (steps_of items rest given))) symbol ≡ true
          → contains (symbols_in (parts_among items ++ parts_in rest)) symbol ≡ true

      by_hole : Behind pieces → Behind (later_pieces pieces) → (hole : Bool)
          → contains (set_by (all_sets (if hole then steps_of items rest pieces
          else step_of item (first_piece pieces) ∷ steps_of items rest (later_pieces pieces)))) symbol ≡ true
          → contains (symbols_in (parts_in item ++ (parts_among items ++ parts_in rest))) symbol ≡ true
      by_hole one other true there = symbols_right (parts_in item) (parts_among items ++ parts_in rest) symbol (one there)
      by_hole one other false there =
          sets_either (sets_of item (first_piece pieces)) (all_sets (steps_of items rest (later_pieces pieces))) symbol
          (λ own. symbols_left (parts_in item) (parts_among items ++ parts_in rest) symbol (part_sets item (first_piece pieces) symbol own))
          (λ behind. symbols_right (parts_in item) (parts_among items ++ parts_in rest) symbol (other behind)) there

  -- Two rounds of a pattern as it is ported, and its parts in a row as it is written.

  first_taken : (items : Pieces) (rest : Syntax) (pieces : List Value)
      → (bind_items s everywhere true items pieces
      >>= (λ last. in_turn (is_early s everywhere rest) (bind s everywhere rest (first_piece last))))
      ≡ first_round (steps_of items rest pieces)
  first_taken End rest pieces = refl
  first_taken (Then item items) rest pieces =
      by_hole (first_taken items rest pieces) (first_taken items rest (later_pieces pieces)) (shapes.is_hole item)
    where
      Taken : List Value → Type 0
      Taken given = (bind_items s everywhere true items given
          >>= (λ last. in_turn (is_early s everywhere rest) (bind s everywhere rest (first_piece last))))
          ≡ first_round (steps_of items rest given)

      by_hole : Taken pieces → Taken (later_pieces pieces) → (hole : Bool)
          → ((if hole then bind_items s everywhere true items pieces
          else (in_turn (is_early s everywhere item) (bind s everywhere item (first_piece pieces))
          >> bind_items s everywhere true items (later_pieces pieces)))
          >>= (λ last. in_turn (is_early s everywhere rest) (bind s everywhere rest (first_piece last))))
          ≡ first_round (if hole then steps_of items rest pieces
          else step_of item (first_piece pieces) ∷ steps_of items rest (later_pieces pieces))
      by_hole one other true = one
      by_hole one other false = λ i.
          in_turn (is_early s everywhere item) (bind s everywhere item (first_piece pieces)) >> other i

  second_taken : (items : Pieces) (rest : Syntax) (pieces : List Value)
      → (bind_items s everywhere false items pieces
      >>= (λ left. in_turn (not (is_early s everywhere rest)) (bind s everywhere rest (first_piece left))))
      ≡ second_round (steps_of items rest pieces)
  second_taken End rest pieces = refl
  second_taken (Then item items) rest pieces =
      by_hole (second_taken items rest pieces) (second_taken items rest (later_pieces pieces)) (shapes.is_hole item)
    where
      Taken : List Value → Type 0
      Taken given = (bind_items s everywhere false items given
          >>= (λ left. in_turn (not (is_early s everywhere rest)) (bind s everywhere rest (first_piece left))))
          ≡ second_round (steps_of items rest given)

      by_hole : Taken pieces → Taken (later_pieces pieces) → (hole : Bool)
          → ((if hole then bind_items s everywhere false items pieces
          else (in_turn (not (is_early s everywhere item)) (bind s everywhere item (first_piece pieces))
          >> bind_items s everywhere false items (later_pieces pieces)))
          >>= (λ left. in_turn (not (is_early s everywhere rest)) (bind s everywhere rest (first_piece left))))
          ≡ second_round (if hole then steps_of items rest pieces
          else step_of item (first_piece pieces) ∷ steps_of items rest (later_pieces pieces))
      by_hole one other true = one
      by_hole one other false = λ i.
          in_turn (not (is_early s everywhere item)) (bind s everywhere item (first_piece pieces)) >> other i

  ported_rounds : (items : Pieces) (rest : Syntax) (pieces : List Value)
      → rounds s everywhere items rest pieces ≡ (first_round (steps_of items rest pieces) >> second_round (steps_of items rest pieces))
  ported_rounds items rest pieces = λ i. first_taken items rest pieces i >> second_taken items rest pieces i

  is_late : (part : Syntax) → is_early t everywhere part ≡ false
  is_late (Node at word.Bind parts) = late everywhere at.id.0
  is_late (Node at word.Keyedpat (Then computed (Then key (Then pattern End)))) = is_late pattern
  is_late (Node at word.Rest (Then pattern End)) = is_late pattern
  is_late _ = refl

  none_first : (items : Pieces) (rest : Syntax) (pieces : List Value)
      → (bind_items t everywhere true items pieces
      >>= (λ last. in_turn (is_early t everywhere rest) (bind t everywhere rest (first_piece last)))) ≡ done
  none_first End rest pieces = λ i. in_turn (is_late rest i) (bind t everywhere rest (first_piece pieces))
  none_first (Then item items) rest pieces =
      by_hole (none_first items rest pieces) (none_first items rest (later_pieces pieces)) (shapes.is_hole item)
    where
      Taken : List Value → Type 0
      Taken given = (bind_items t everywhere true items given
          >>= (λ last. in_turn (is_early t everywhere rest) (bind t everywhere rest (first_piece last)))) ≡ done

      by_hole : Taken pieces → Taken (later_pieces pieces) → (hole : Bool)
          → ((if hole then bind_items t everywhere true items pieces
          else (in_turn (is_early t everywhere item) (bind t everywhere item (first_piece pieces))
          >> bind_items t everywhere true items (later_pieces pieces)))
          >>= (λ last. in_turn (is_early t everywhere rest) (bind t everywhere rest (first_piece last)))) ≡ done
      by_hole one other true = one
      by_hole one other false = λ i. in_turn (is_late item i) (bind t everywhere item (first_piece pieces)) >> other i

  all_second : (items : Pieces) (rest : Syntax) (pieces : List Value)
      → (bind_items t everywhere false items pieces
      >>= (λ left. in_turn (not (is_early t everywhere rest)) (bind t everywhere rest (first_piece left))))
      ≡ in_order (steps_of items rest pieces)
  all_second End rest pieces = λ i. in_turn (not (is_late rest i)) (bind t everywhere rest (first_piece pieces))
  all_second (Then item items) rest pieces =
      by_hole (all_second items rest pieces) (all_second items rest (later_pieces pieces)) (shapes.is_hole item)
    where
      Taken : List Value → Type 0
      Taken given = (bind_items t everywhere false items given
          >>= (λ left. in_turn (not (is_early t everywhere rest)) (bind t everywhere rest (first_piece left))))
          ≡ in_order (steps_of items rest given)

      by_hole : Taken pieces → Taken (later_pieces pieces) → (hole : Bool)
          → ((if hole then bind_items t everywhere false items pieces
          else (in_turn (not (is_early t everywhere item)) (bind t everywhere item (first_piece pieces))
          >> bind_items t everywhere false items (later_pieces pieces)))
          >>= (λ left. in_turn (not (is_early t everywhere rest)) (bind t everywhere rest (first_piece left))))
          ≡ in_order (if hole then steps_of items rest pieces
          else step_of item (first_piece pieces) ∷ steps_of items rest (later_pieces pieces))
      by_hole one other true = one
      by_hole one other false = λ i. in_turn (not (is_late item i)) (bind t everywhere item (first_piece pieces)) >> other i

  written_rounds : (items : Pieces) (rest : Syntax) (pieces : List Value)
      → rounds t everywhere items rest pieces ≡ in_order (steps_of items rest pieces)
  written_rounds items rest pieces = λ i. none_first items rest pieces i >> all_second items rest pieces i

  rounds_same : (tried : Bool) (items : Pieces) (rest : Syntax) (pieces : List Value) → AreOrderly tried (steps_of items rest pieces)
      → AreAlike tried (rounds s everywhere items rest pieces) (rounds t everywhere items rest pieces)
  rounds_same tried items rest pieces orderly =
      alike_then (alike_of tried _ _ (ported_rounds items rest pieces))
      (alike_then (rounds_alike tried (steps_of items rest pieces) orderly)
      (alike_of tried _ _ (sym (written_rounds items rest pieces))))

  -- A part that is taken in the second round passes the names behind it.

  -- A part without a default and without a nested part that takes nothing early has no effect, or no meaning.
  pub idle_passes : (tried : Bool) (steps : List Step) → AreStored steps → (part : Syntax) (v : Value)
      → is_early s everywhere part ≡ false → has_passed (parts_in part) ≡ false → Passes tried steps (bind t everywhere part v)
  idle_passes tried steps are Absent v early idle = done_passes tried steps
  idle_passes tried steps are (Node at word.Bind parts) v early idle = absurd (true≢false early)
  idle_passes tried steps are (Node at word.Defaultpat (Then pattern (Then default End))) v early idle =
      absurd (true≢false (sym (passed_last (parts_in pattern)) ∙ idle))
  idle_passes tried steps are (Node at word.Keyedpat (Then computed (Then key (Then pattern End)))) v early idle =
      idle_passes tried steps are pattern v early idle
  idle_passes tried steps are (Node at word.Rest (Then pattern End)) v early idle = idle_passes tried steps are pattern v early idle
  idle_passes tried steps are (Node at word.Arraypat (Then (Listed items) (Then rest End))) v early idle =
      absurd (true≢false (sym (passed_last (parts_among items ++ parts_in rest)) ∙ idle))
  idle_passes tried steps are (Node at word.Objectpat (Then (Listed properties) (Then rest End))) v early idle =
      absurd (true≢false (sym (passed_last (parts_among properties ++ parts_in rest)) ∙ idle))
  idle_passes tried steps are _ v early idle = none_passes tried steps are

  part_passes : (tried : Bool) (item : Syntax) (v : Value) (items : Pieces) (rest : Syntax) (pieces : List Value) → LendsAlike item
      → AreFine t.names tried (parts_in item ++ (parts_among items ++ parts_in rest))
      (defaults_in item ++ (defaults_among items ++ defaults_in rest))
      → is_early s everywhere item ≡ false → Passes tried (steps_of items rest pieces) (bind t everywhere item v)
  part_passes tried item v items rest pieces covered fine early = by_test (has_passed (parts_in item)) refl
    where
      behind : has_passed (parts_in item) ≡ true → (symbol : ℕ) → contains (set_by (all_sets (steps_of items rest pieces))) symbol ≡ true
          → IsPast t.names tried (parts_in item) (defaults_in item) symbol
      behind passed symbol there =
          past t.names tried (parts_in item) (parts_among items ++ parts_in rest) (defaults_in item)
          (defaults_among items ++ defaults_in rest) fine passed symbol (steps_set items rest pieces symbol there)

      by_test : (passed : Bool) → has_passed (parts_in item) ≡ passed
          → Passes tried (steps_of items rest pieces) (bind t everywhere item v)
      by_test false is = idle_passes tried (steps_of items rest pieces) (steps_stored items rest pieces) item v early is
      by_test true is =
          passes_by tried assigned (steps_of items rest pieces) (bind t everywhere item v) (steps_stored items rest pieces)
          (λ symbol there. (behind is symbol there).untried)
          (part_relates t assigned closed (all_sets (steps_of items rest pieces)) everywhere item v covered
          (apart_from _ _ (λ symbol there. (behind is symbol there).unbound))
          (apart_from _ _ (λ symbol there. (behind is symbol there).unused)))

  -- The items of a pattern inside another one.

  nested_array : (tried : Bool) (at : At) (parts : Pieces)
      → AreFine t.names tried (parts_in (Node at word.Arraypat parts)) (defaults_in (Node at word.Arraypat parts))
      → AreFine t.names tried (items_of t.names (Node at word.Arraypat parts)) (defaults_in (Node at word.Arraypat parts))
  nested_array tried at (Then (Listed items) (Then rest End)) fine =
      fine_front t.names tried (parts_among items ++ parts_in rest) (order.Passes ∷ []) _ fine
  nested_array tried at _ fine = fine

  nested_object : (tried : Bool) (at : At) (parts : Pieces)
      → AreFine t.names tried (parts_in (Node at word.Objectpat parts)) (defaults_in (Node at word.Objectpat parts))
      → AreFine t.names tried (items_of t.names (Node at word.Objectpat parts)) (defaults_in (Node at word.Objectpat parts))
  nested_object tried at (Then (Listed properties) (Then rest End)) fine =
      fine_front t.names tried (parts_among properties ++ parts_in rest) (order.Passes ∷ []) _ fine
  nested_object tried at _ fine = fine

  mutual
    pub part_alike : (tried : Bool) (part : Syntax) (v : Value) → LendsAlike part → is_lost_item part ≡ false → refusals t.names part ≡ []
        → AreFine t.names tried (parts_in part) (defaults_in part) → AreAlike tried (bind s everywhere part v) (bind t everywhere part v)
    part_alike tried (Node at word.Defaultpat (Then pattern (Then default End))) v covered kept none fine =
        let told = default_none t.names default (refusals t.names pattern) none in
        alike_bind tried (or_default s v (eval s default)) (or_default t v (eval t default)) _ _
        (alike_of tried _ _ (λ i. or_default t v (eval_alike t stored assigned closed written default covered.2.1.0 told.0 i)))
        (λ w. part_alike tried pattern w covered.2.0 (unlost pattern covered.1.formed) told.1
        (fine_left t.names tried (parts_in pattern) (order.Passes ∷ []) (defaults_in pattern) (default ∷ []) fine))
    part_alike tried (Node at word.Keyedpat (Then computed (Then key (Then pattern End)))) v covered kept none fine =
        part_alike tried pattern v covered.2.1.1.0 (unlost pattern covered.1.formed) (none_kept (loses_item computed key) _ kept none) fine
    part_alike tried (Node at word.Rest (Then pattern End)) v covered kept none fine =
        part_alike tried pattern v covered.2.0 (unlost pattern covered.1.formed) (nil_parts (refusals t.names pattern) [] none).0 fine
    part_alike tried (Node at word.Arraypat parts) v covered kept none fine =
        array_alike tried at parts v covered.1.formed covered.2 none (nested_array tried at parts fine)
    part_alike tried (Node at word.Objectpat parts) v covered kept none fine =
        object_alike tried at parts v covered.2 none (nested_object tried at parts fine)
    part_alike tried _ v covered kept none fine = alike_self _

    pub array_alike : (tried : Bool) (at : At) (parts : Pieces) (v : Value) → HasFormedParts word.Arraypat parts → LendAlike parts
        → refusals t.names (Node at word.Arraypat parts) ≡ []
        → AreFine t.names tried (items_of t.names (Node at word.Arraypat parts)) (defaults_in (Node at word.Arraypat parts))
        → AreAlike tried (bind s everywhere (Node at word.Arraypat parts) v) (bind t everywhere (Node at word.Arraypat parts) v)
    array_alike tried at (Then (Listed items) (Then rest End)) v formed covered none fine =
        let first : List Diagnostic = refusals_in_round t.names true items in
        let second : List Diagnostic = refusals_in_round t.names false items in
        let own : List Diagnostic = refusals t.names rest in
        let last = nil_parts (first ++ (if is_ahead rest then own else []) ++ second) (if is_ahead rest then [] else own) none in
        let both = nil_parts (first ++ (if is_ahead rest then own else [])) second last.0 in
        let front = nil_parts first (if is_ahead rest then own else []) both.0 in
        let taken = in_branches (is_ahead rest) own front.1 last.1 in
        alike_bind tried (take_apart s (codes "array" ∷ shapes.piece_shapes items ++ shapes.rest_shape rest) v)
        (take_apart t (codes "array" ∷ shapes.piece_shapes items ++ shapes.rest_shape rest) v) _ _ (alike_self _)
        (λ pieces. rounds_same tried items rest pieces
        (steps_alike tried items rest pieces covered.0 front.0 both.1
        (λ w. part_alike tried rest w covered.1.0 (unlost rest formed) taken
        (fine_right t.names tried (parts_among items) (parts_in rest) (defaults_among items) (defaults_in rest) fine)) fine))
    array_alike tried at _ v formed covered none fine = alike_self _

    pub object_alike : (tried : Bool) (at : At) (parts : Pieces) (v : Value) → LendAlike parts
        → refusals t.names (Node at word.Objectpat parts) ≡ []
        → AreFine t.names tried (items_of t.names (Node at word.Objectpat parts)) (defaults_in (Node at word.Objectpat parts))
        → AreAlike tried (bind s everywhere (Node at word.Objectpat parts) v) (bind t everywhere (Node at word.Objectpat parts) v)
    object_alike tried at (Then (Listed properties) (Then rest End)) v covered none fine =
        let first : List Diagnostic = refusals_in_round t.names true properties in
        let second : List Diagnostic = refusals_in_round t.names false properties in
        let own : List Diagnostic = if shapes.is_plain_rest rest then refusals t.names rest else lost_rest rest ∷ [] in
        let both = nil_parts (first ++ own) second none in
        let front = nil_parts first own both.0 in
        let plain = plain_then (shapes.is_plain_rest rest) (refusals t.names rest) (lost_rest rest) front.1 in
        let taken = none_then (shapes.is_plain_rest rest) (refusals t.names rest) (lost_rest rest) front.1 in
        alike_if tried (shapes.have_keys properties && shapes.is_plain_rest rest) _ _ no_meaning no_meaning
        (alike_bind tried (take_apart s (codes "object" ∷ shapes.piece_shapes properties ++ shapes.rest_shape rest) v)
        (take_apart t (codes "object" ∷ shapes.piece_shapes properties ++ shapes.rest_shape rest) v) _ _ (alike_self _)
        (λ pieces. rounds_same tried properties rest pieces
        (steps_alike tried properties rest pieces covered.0 front.0 both.1
        (λ w. part_alike tried rest w covered.1.0 (plain_unlost rest plain) taken
        (fine_right t.names tried (parts_among properties) (parts_in rest) (defaults_among properties) (defaults_in rest) fine)) fine)))
        (alike_self no_meaning)
    object_alike tried at _ v covered none fine = alike_self _

    steps_alike : (tried : Bool) (items : Pieces) (rest : Syntax) (pieces : List Value) → LendAlike items
        → refusals_in_round t.names true items ≡ [] → refusals_in_round t.names false items ≡ []
        → ((w : Value) → AreAlike tried (bind s everywhere rest w) (bind t everywhere rest w))
        → AreFine t.names tried (parts_among items ++ parts_in rest) (defaults_among items ++ defaults_in rest)
        → AreOrderly tried (steps_of items rest pieces)
    steps_alike tried End rest pieces covered first second last fine =
        (last (first_piece pieces), (λ early. record { moves = λ next. alike_self _ }), tt)
    steps_alike tried (Then item items) rest pieces covered first second last fine =
        let told = bound_none t.names item items first second in
        let parted = fine_parted t.names tried (parts_in item) (parts_among items) (parts_in rest) (defaults_in item)
        (defaults_among items) (defaults_in rest) fine in
        let behind = fine_right t.names tried (parts_in item) (parts_among items ++ parts_in rest) (defaults_in item)
        (defaults_among items ++ defaults_in rest) parted in
        orderly_if tried (shapes.is_hole item) _ _
        (steps_alike tried items rest pieces covered.1 told.first told.second last behind) (
          part_alike tried item (first_piece pieces) covered.0 told.kept told.item
              (fine_left t.names tried (parts_in item) (parts_among items ++ parts_in rest) (defaults_in item)
              (defaults_among items ++ defaults_in rest) parted),
          part_passes tried item (first_piece pieces) items rest (later_pieces pieces) covered.0 parted,
          steps_alike tried items rest (later_pieces pieces) covered.1 told.first told.second last behind,
        )

  -- A pattern as a whole.
  pub whole_alike : (tried : Bool) (opens : ℕ → Bool) (pattern : Syntax) (v : Value) → IsWhole pattern → LendsAlike pattern
      → refusals t.names pattern ≡ [] → is_orderly_pattern t.names opens tried pattern ≡ true
      → AreAlike tried (bind s everywhere pattern v) (bind t everywhere pattern v)
  whole_alike tried opens (Node at word.Arraypat parts) v whole covered none orderly =
      array_alike tried at parts v covered.1.formed covered.2 none (fine_of t.names opens tried (Node at word.Arraypat parts) orderly)
  whole_alike tried opens (Node at word.Objectpat parts) v whole covered none orderly =
      object_alike tried at parts v covered.2 none (fine_of t.names opens tried (Node at word.Objectpat parts) orderly)
  whole_alike tried opens (Node at word.Bind parts) v whole covered none orderly = alike_self _
  whole_alike tried opens Absent v whole covered none orderly = alike_self _
  whole_alike tried opens _ v whole covered none orderly = absurd whole
