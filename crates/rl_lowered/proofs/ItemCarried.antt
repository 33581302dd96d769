-- The items of patterns, for a relation that each move keeps: names that the head of a loop declares get other spans there.
use Rattle.std.proofs.Common.{◌≡◌, ℕ, Bool, true, false, true≢false, if◌then◌else◌, List, [], ◌∷◌, Option, Some, None, refl, sym, ap, ◌∙◌}
use Rattle.rl_base.specs.Diagnostics.{diagnostic_at}
use Rattle.rl_base.specs.declared.row.Row.TheVariants as row
use Rattle.rl_builder.specs.Builder.{recorded}
use Rattle.rl_lowered.proofs.Common.{At, Diagnostic, End, Names, Node, Piece, Pieces, Said, Span, State, SymbolId, Syntax, Then}
use Rattle.rl_lowered.specs.Named.{IsFound, found}
use Rattle.rl_promises.specs.Rebound.{is_symbol}
use Rattle.rl_syntax.specs.Syntax.{span_of}
use Rattle.rl_syntax.specs.declared.word.Word.TheVariants as word
use Rattle.rl_syntax.specs.declared.word.Word.{Word}
use Rattle.rl_lowered.proofs.Carrying.{IsCarried, at_symbol, unchanged}
use Rattle.rl_lowered.proofs.ItemForms.{apart_behind, item_ahead}
use Rattle.rl_lowered.specs.Forms.{BoundProperty, Element, IsItem}
use Rattle.rl_lowered.specs.Items.{BoundItems, IsBinding, Later, LoweredAhead, TakenItems, fraction_met, key_met, met, promoted}
use Rattle.rl_lowered.specs.Items as items
use Rattle.rl_model.specs.Patterns.{is_turn}
use Rattle.rl_model.specs.Shapes.{is_plain_rest}
use Rattle.rl_promises.specs.Patterns.{fraction_in, is_ahead, is_lost_item, lost_item, lost_rest, target_under}
use Rattle.rl_promises.specs.Rebound.{span_in, span_in_round}
use Rattle.rl_syntax.specs.Syntax.{Absent, Listed}

-- The spans behind a part that declares variables again, or not.
abbrev pub again_span : Bool → ((symbol : ℕ) → (before : Span) → Span) → (symbol : ℕ) → (before : Span) → Span
again_span true behind = behind
again_span false behind = unchanged

-- True of a rest that is met ahead of the items that are left.
abbrev pub rest_met : (of_object : Bool) → (rest : Syntax) → Bool
rest_met true rest = is_plain_rest rest
rest_met false rest = is_ahead rest

abbrev span_of_rest : Names → (met : Bool) → (symbol : ℕ) → (rest : Syntax) → (before : Span) → Span
span_of_rest names met symbol rest before = if met then span_in names symbol rest before else before

-- The spans behind the names of a pattern, and behind the parts that were left.

abbrev pub ahead_span : Names → (of_object : Bool) → Pieces → (rest : Syntax) → (symbol : ℕ) → (before : Span) → Span
ahead_span names of_object es rest symbol before =
    span_of_rest names (rest_met of_object rest) symbol rest (span_in_round names symbol true es before)

abbrev pub left_span : Names → List Later → (symbol : ℕ) → (before : Span) → Span
left_span names [] symbol before = before
left_span names (first ∷ later) symbol before = left_span names later symbol (span_in names symbol first.part before)

abbrev rest_behind : Names → (of_object : Bool) → (rest : Syntax) → (symbol : ℕ) → (before : Span) → Span
rest_behind names true rest symbol before = before
rest_behind names false rest symbol before = if is_ahead rest then before else span_in names symbol rest before

-- Spans of items.

item_span : {of_object : Bool} {item part : Syntax} {key : List Piece} → IsItem true of_object item key part → is_lost_item item ≡ false
    → (names : Names) (symbol : ℕ) (before : Span) → span_in names symbol item before ≡ span_in names symbol part before
item_span (Element is shaped) kept names symbol before = refl
item_span (BoundProperty {at} {key} {pattern} {text} is) kept names symbol before =
    ap (λ (b : Bool). if b then before else span_in names symbol pattern before) kept

lost_span : (names : Names) (symbol : ℕ) (item : Syntax) (before : Span) → is_lost_item item ≡ true → span_in names symbol item before ≡ before
lost_span names symbol (Node at word.Bind parts) before is = absurd (true≢false (sym is))
lost_span names symbol (Node at word.Defaultpat parts) before is = absurd (true≢false (sym is))
lost_span names symbol (Node at word.Rest parts) before is = absurd (true≢false (sym is))
lost_span names symbol (Node at word.Arraypat parts) before is = absurd (true≢false (sym is))
lost_span names symbol (Node at word.Objectpat parts) before is = absurd (true≢false (sym is))
lost_span names symbol (Node at word.Keyedpat (Then computed (Then key (Then pattern End)))) before is =
    ap (λ (b : Bool). if b then before else span_in names symbol pattern before) is
lost_span names symbol _ before is = refl

either_way : (b : Bool) (x before : Span) → x ≡ before → (if b then x else before) ≡ before
either_way true x before is = is
either_way false x before is = refl

absent_rest : (names : Names) (of_object : Bool) (symbol : ℕ) (before : Span)
    → before ≡ span_of_rest names (rest_met of_object Absent) symbol Absent before
absent_rest names true symbol before = refl
absent_rest names false symbol before = refl

named_rest : (of_object : Bool) (there bind_at : At) (parts : Pieces)
    → rest_met of_object (Node there word.Rest (Then (Node bind_at word.Bind parts) End)) ≡ true
named_rest true there bind_at parts = refl
named_rest false there bind_at parts = refl

-- The parts that are left, as the second round has them.
pub left_spans : {names : Names} {again of_object : Bool} {es : Pieces} {rest : Syntax} {s t : State} {pieces : List Piece}
    {later : List Later} → BoundItems names again of_object es rest s t pieces later → (symbol : ℕ) (before : Span)
    → left_span names later symbol before
    ≡ rest_behind names of_object rest symbol (span_in_round names symbol false es before)
left_spans {of_object = true} (items.NoBound s) symbol before = refl
left_spans {of_object = false} (items.NoBound s) symbol before = refl
left_spans {of_object = true} (items.RestNamed there bind_at name type declared identifier s annotated is f) symbol before = refl
left_spans {of_object = false} (items.RestNamed there bind_at name type declared identifier s annotated is f) symbol before = refl
left_spans {names} (items.RestNested there pattern s is) symbol before =
    sym (ap (λ (b : Bool). if b then before else span_in names symbol pattern before) (apart_behind pattern is))
left_spans (items.RestUnbound rest s is) symbol before = refl
left_spans (items.BoundHole there es rest s t pieces later d) symbol before = left_spans d symbol before
left_spans {names} (items.BoundLost item es rest s t pieces later shaped is d) symbol before =
    left_spans d symbol before
    ∙ ap (λ (x : Span). span_in_round names symbol false es x)
    (sym (either_way (is_turn false (is_ahead item)) (span_in names symbol item before) before (lost_span names symbol item before is)))
left_spans {names} {of_object = of_object}
    (items.BoundVariable item es rest bind_at name type declared identifier s t key pieces later is annotated kept means f d) symbol before =
    left_spans d symbol before
    ∙ ap (λ (b : Bool). rest_behind names of_object rest symbol
    (span_in_round names symbol false es (if is_turn false b then span_in names symbol item before else before))) (sym (item_ahead is))
left_spans {names} {of_object = of_object} (items.BoundLater item part es rest s t key pieces later is kept late d) symbol before =
    left_spans d symbol (span_in names symbol part before)
    ∙ ap (λ (x : Span). rest_behind names of_object rest symbol (span_in_round names symbol false es x))
    (sym (item_span is kept names symbol before))
    ∙ ap (λ (b : Bool). rest_behind names of_object rest symbol
    (span_in_round names symbol false es (if is_turn false b then span_in names symbol item before else before)))
    (sym (item_ahead is ∙ late))

-- Names first, and then what is left: the spans behind a pattern.
pub pattern_spans : {w : Word} {of_object : Bool} → IsBinding w of_object → (names : Names) (at : At) (es : Pieces) (rest : Syntax) (symbol : ℕ)
    (before : Span)
    → span_in names symbol (Node at w (Then (Listed es) (Then rest End))) before
    ≡ rest_behind names of_object rest symbol (span_in_round names symbol false es (ahead_span names of_object es rest symbol before))
pattern_spans items.BindsArray names at es rest symbol before = refl
pattern_spans items.BindsObject names at es rest symbol before = refl

module _ {names : Names} {R : (behind : (symbol : ℕ) → (before : Span) → Span) → State → State → Type 0} (moves : IsCarried names R) where
  -- Parts one behind the other, where variables are declared again or not.

  pub same_again : (again : Bool) (a b : State) → R unchanged a b → R (again_span again unchanged) a b
  same_again true a b r = r
  same_again false a b r = r

  pub joined_again : (again : Bool) (f g h : (symbol : ℕ) → (before : Span) → Span) (a b c : State)
      → ((symbol : ℕ) (before : Span) → h symbol before ≡ g symbol (f symbol before)) → R (again_span again f) a b
      → R (again_span again g) b c → R (again_span again h) a c
  joined_again true f g h a b c same first second = moves.alike a c same (moves.chain a b c first second)
  joined_again false f g h a b c same first second = moves.chain a b c first second

  pub alike_again : (again : Bool) (f h : (symbol : ℕ) → (before : Span) → Span) (a b : State)
      → ((symbol : ℕ) (before : Span) → h symbol before ≡ f symbol before) → R (again_span again f) a b → R (again_span again h) a b
  alike_again true f h a b same r = moves.alike a b same r
  alike_again false f h a b same r = r

  pub carried_met : (again : Bool) (s : State) (symbol : SymbolId) (at : Span) (identifier : ℕ) → IsFound names s symbol at identifier
      → R (again_span again (at_symbol symbol.0 at)) s (met again names s symbol identifier at)
  carried_met true s symbol at identifier f = moves.again s symbol at identifier f
  carried_met false s symbol at identifier f = moves.looked s symbol at identifier f

  carried_fraction : (s : State) (o : Option Span) → R unchanged s (fraction_met s o)
  carried_fraction s None = moves.same s s refl
  carried_fraction s (Some at) = moves.noted s (diagnostic_at row.F43 [] at)

  carried_key : (s : State) (item : Syntax) → R unchanged s (key_met s item)
  carried_key s item = carried_fraction s (fraction_in item)

  key_promoted : (s : State) (item : Syntax) (span : Span) → R unchanged s (promoted (key_met s item) span)
  key_promoted s item span = moves.chain s (key_met s item) _ (carried_key s item) (moves.promotes (key_met s item) span)

  -- The items of a target.

  pub ahead_carried : {es : Pieces} {rest : Syntax} {s t : State} {forced : Bool} → LoweredAhead names es rest s t forced
      → R unchanged s t
  ahead_carried (items.NoLook es rest s is) = moves.same s s refl
  ahead_carried (items.LookEnds s) = moves.same s s refl
  ahead_carried (items.LookOther item es s is) = moves.same s s refl
  ahead_carried (items.LookLocal item es symbol identifier s t forced is f d) =
      moves.chain s _ t (moves.looked s symbol (span_of (target_under item)) identifier f) (ahead_carried d)

  pub taken_carried : {of_object forced : Bool} {es : Pieces} {rest : Syntax} {s t : State} {pieces : List Piece} {later : List Later}
      → TakenItems names of_object forced es rest s t pieces later → R unchanged s t
  taken_carried (items.NoItem s) = moves.same s s refl
  taken_carried (items.RestTaken there target s is) = moves.promotes s there.span
  taken_carried (items.RestLost rest s is) = moves.noted s (lost_rest rest)
  taken_carried (items.ItemHole there es rest s t pieces later d) = taken_carried d
  taken_carried (items.ItemLost item es rest s t pieces later shaped is d) =
      moves.chain s (recorded s (lost_item item)) t (moves.noted s (lost_item item)) (taken_carried d)
  taken_carried (items.ItemVariable item es rest there name symbol identifier s t key pieces later is means kept mutable f d) =
      let at_key : State = key_met s item in
      moves.chain s at_key t (carried_key s item)
      (moves.chain at_key _ t (moves.looked at_key symbol there.span identifier f) (taken_carried d))
  taken_carried (items.ItemConstant item es rest there name symbol identifier s t key pieces later is means kept constant f d) =
      let at_key : State = key_met s item in
      let first : State = found names at_key symbol there.span in
      let noted : Diagnostic = diagnostic_at row.F6 (names.name symbol.0) there.span in
      moves.chain s at_key t (carried_key s item)
      (moves.chain at_key first t (moves.looked at_key symbol there.span identifier f)
      (moves.chain first (recorded first noted) t (moves.noted first noted) (taken_carried d)))
  taken_carried (items.ItemLater item part es rest s t key pieces later is kept d) =
      moves.chain s (promoted (key_met s item) (span_of part)) t (key_promoted s item (span_of part)) (taken_carried d)

  -- The items of a binding pattern: its names.
  pub bound_carried : {again of_object : Bool} {es : Pieces} {rest : Syntax} {s t : State} {pieces : List Piece} {later : List Later}
      → BoundItems names again of_object es rest s t pieces later
      → R (again_span again (λ symbol before. ahead_span names of_object es rest symbol before)) s t
  bound_carried {again} {of_object} (items.NoBound s) =
      alike_again again unchanged _ s s (λ symbol before. sym (absent_rest names of_object symbol before))
      (same_again again s s (moves.same s s refl))
  bound_carried {again} {of_object} (items.RestNamed there bind_at name type declared identifier s annotated is f) =
      alike_again again (at_symbol declared.0 bind_at.span) _ s _
      (λ symbol before.
      ap (λ (b : Bool). if b then (if is_symbol symbol (names.declared bind_at.id.0) then bind_at.span else before) else before)
      (named_rest of_object there bind_at (Then (Said name) (Then type End)))
      ∙ ap (λ (o : Option SymbolId). if is_symbol symbol o then bind_at.span else before) is)
      (carried_met again s declared bind_at.span identifier f)
  bound_carried {again} (items.RestNested there pattern s is) =
      alike_again again unchanged _ s _
      (λ symbol before. ap (λ (b : Bool). if b then span_in names symbol pattern before else before) (apart_behind pattern is))
      (same_again again s _ (moves.promotes s there.span))
  bound_carried {again} (items.RestUnbound rest s is) =
      alike_again again unchanged _ s _
      (λ symbol before. ap (λ (b : Bool). if b then span_in names symbol rest before else before) is)
      (same_again again s _ (moves.noted s (lost_rest rest)))
  bound_carried (items.BoundHole there es rest s t pieces later d) = bound_carried d
  bound_carried {again} (items.BoundLost item es rest s t pieces later shaped is d) =
      joined_again again unchanged (λ symbol before. ahead_span names true es rest symbol before) _ s (recorded s (lost_item item)) t
      (λ symbol before. ap (λ (x : Span). ahead_span names true es rest symbol x)
      (either_way (is_turn true (is_ahead item)) (span_in names symbol item before) before (lost_span names symbol item before is)))
      (same_again again s _ (moves.noted s (lost_item item))) (bound_carried d)
  bound_carried {again} {of_object}
      (items.BoundVariable item es rest bind_at name type declared identifier s t key pieces later is annotated kept means f d) =
      let at_key : State = key_met s item in
      let here : State = met again names at_key declared identifier bind_at.span in
      joined_again again unchanged (λ symbol before. ahead_span names of_object (Then item es) rest symbol before) _ s at_key t
      (λ symbol before. refl) (same_again again s at_key (carried_key s item))
      (joined_again again (at_symbol declared.0 bind_at.span) (λ symbol before. ahead_span names of_object es rest symbol before) _ at_key
      here t
      (λ symbol before. ap (λ (x : Span). ahead_span names of_object es rest symbol x)
      (ap (λ (b : Bool). if is_turn true b then span_in names symbol item before else before) (item_ahead is)
      ∙ item_span is kept names symbol before
      ∙ ap (λ (o : Option SymbolId). if is_symbol symbol o then bind_at.span else before) means))
      (carried_met again at_key declared bind_at.span identifier f) (bound_carried d))
  bound_carried {again} {of_object} (items.BoundLater item part es rest s t key pieces later is kept late d) =
      joined_again again unchanged (λ symbol before. ahead_span names of_object es rest symbol before) _ s
      (promoted (key_met s item) (span_of part)) t
      (λ symbol before. ap (λ (b : Bool). ahead_span names of_object es rest symbol
      (if is_turn true b then span_in names symbol item before else before)) (item_ahead is ∙ late))
      (same_again again s _ (key_promoted s item (span_of part))) (bound_carried d)
