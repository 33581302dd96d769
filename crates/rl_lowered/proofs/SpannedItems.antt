-- The items of patterns give no span that is none of the tree's, and their pieces are in places without another.
use Rattle.std.proofs.Common.{◌≡◌, ℕ, ◌++◌, Bool, true, false, List, [], ◌∷◌, All, Option, Some, None, sym, subst}
use Rattle.std.proofs.lemmas.List.Elements.{All-cons, All-head, All-nil, All-tail}
use Rattle.std.proofs.lemmas.Option.{none-some}
use Rattle.std.specs.Prelude.{IfSome}
use Rattle.rl_base.specs.Diagnostics.{diagnostic_at}
use Rattle.rl_base.specs.declared.row.Row.TheVariants as row
use Rattle.rl_builder.specs.Builder.{recorded}
use Rattle.rl_builder.specs.Temporaries.{with_value}
use Rattle.rl_hir.specs.Pieces.{Gives, Spreads, pattern_pieces}
use Rattle.rl_hir.specs.declared.instruction.InstructionKind.{InstructionKind}
use Rattle.rl_hir.specs.declared.instruction.Pattern.{Pattern}
use Rattle.rl_lowered.proofs.Common.{At, Diagnostic, End, Names, Node, Piece, Pieces, Place, Span, State, SymbolId, Syntax, Then}
use Rattle.rl_lowered.proofs.SoundItems.{apart_places, item_places, lost_places}
use Rattle.rl_lowered.proofs.SpannedFrames.{promoted_spans}
use Rattle.rl_lowered.proofs.SpannedMoves.{found_spans, more_spanned, none_spanned, one_spanned, recorded_spans, redeclared_spans}
use Rattle.rl_lowered.proofs.SpannedMoves.{value_spans}
use Rattle.rl_lowered.specs.Forms.{BoundProperty, Element, IsItem, Shorthand, ShorthandDefault, TakenProperty, places_in}
use Rattle.rl_lowered.specs.Items.{BoundItems, Later, LoweredAhead, TakenItems, caught, destructured, form_piece, fraction_met, key_met}
use Rattle.rl_lowered.specs.Items.{met, promoted, variable_at}
use Rattle.rl_lowered.specs.Items as items
use Rattle.rl_lowered.specs.Named.{found}
use Rattle.rl_lowered.specs.Spanned.{EachSpan, EachSpanAmong, KeepsSpans}
use Rattle.rl_promises.specs.Patterns.{fraction_in, local_at, lost_item, lost_rest, target_under}
use Rattle.rl_promises.specs.Spans.{AreSpanned}
use Rattle.rl_syntax.specs.Syntax.{Absent, span_of}
use Rattle.rl_syntax.specs.declared.word.Word.TheVariants as word

module _ (P : Span → Type 0) where
  -- Look-ups and keys.

  pub met_spans : (again : Bool) (names : Names) (s : State) (symbol : SymbolId) (identifier : ℕ) (at : Span) → P at
      → KeepsSpans P s (met again names s symbol identifier at)
  met_spans true names s symbol identifier at here h =
      redeclared_spans P (found names s symbol at) identifier at here (found_spans P names s symbol at here h)
  met_spans false names s symbol identifier at here h = found_spans P names s symbol at here h

  fraction_spans : (s : State) (o : Option Span) → KeepsSpans P s (fraction_met s o)
  fraction_spans s None h = h
  fraction_spans s (Some at) h = recorded_spans P s (diagnostic_at row.F43 [] at) h

  key_spans : (s : State) (item : Syntax) → KeepsSpans P s (key_met s item)
  key_spans s item h = fraction_spans s (fraction_in item) h

  -- Items.

  under_each : (item : Syntax) → EachSpan P item → EachSpan P (target_under item)
  under_each (Node at word.Keyed (Then computed (Then key (Then target End)))) each = each.1.1.1.0
  under_each (Node at word.Short (Then name (Then Absent End))) each = each.1.0
  under_each _ each = each

  -- A local variable stands at a node.
  local_own : (names : Names) (e : Syntax) (symbol : SymbolId) → local_at names e ≡ Some symbol → EachSpan P e → P (span_of e)
  local_own names (Node at w parts) symbol is each = each.0
  local_own names _ symbol is each = absurd (none-some symbol is)

  item_each : {binds of_object : Bool} {item part : Syntax} {key : List Piece} → IsItem binds of_object item key part → EachSpan P item
      → EachSpan P part
  item_each (Element is shaped) each = each
  item_each (BoundProperty is) each = each.1.1.1.0
  item_each (TakenProperty is) each = each.1.1.1.0
  item_each Shorthand each = each.1.0
  item_each (ShorthandDefault is) each = each

  -- The span of a part that was left is its node's.
  pub record IsOwned (l : Later) : Type 0 where
    pub own : EachSpan P l.part → P (span_of l.part)

  -- A part that was left, and the place of its piece.
  pub record IsSpannedLater (l : Later) : Type 0 where
    pub value : IfSome l.value.span P
    pub part : EachSpan P l.part

  -- The items of a pattern from one state to another, their pieces, and the parts that were left.
  pub record AreSpannedItems (s t : State) (pieces : List Piece) (later : List Later) : Type 0 where
    pub stays : KeepsSpans P s t
    pub places : AreSpanned P (places_in pieces)
    pub left : All IsSpannedLater later

  no_items : (s t : State) → KeepsSpans P s t → AreSpannedItems s t [] []
  no_items s t stays = record { stays = stays; places = none_spanned P; left = All-nil IsSpannedLater }

  behind_items : (s m t : State) (pieces : List Piece) (later : List Later) → KeepsSpans P s m → AreSpannedItems m t pieces later
      → AreSpannedItems s t pieces later
  behind_items s m t pieces later before rest =
      record { stays = λ h. rest.stays (before h); places = rest.places; left = rest.left }

  placed_items : (s m t : State) (p : Place) (pieces : List Piece) (later : List Later) {binds of_object : Bool} {item part : Syntax}
      {key : List Piece} → IsItem binds of_object item key part → KeepsSpans P s m → IfSome p.span P → AreSpannedItems m t pieces later
      → AreSpannedItems s t (key ++ Gives p ∷ pieces) later
  placed_items s m t p pieces later is before at rest = record {
    stays = λ h. rest.stays (before h);
    places = subst (AreSpanned P) (sym (item_places is p pieces)) (more_spanned P p (places_in pieces) at rest.places);
    left = rest.left;
  }

  left_items : (s t : State) (pieces : List Piece) (later : List Later) {binds of_object : Bool} {item part : Syntax} {key : List Piece}
      → IsItem binds of_object item key part → EachSpan P item
      → IsOwned (record { value = caught (key_met s item) (span_of part); part = part })
      → AreSpannedItems (promoted (key_met s item) (span_of part)) t pieces later
      → AreSpannedItems s t (key ++ Gives (caught (key_met s item) (span_of part)) ∷ pieces)
      (record { value = caught (key_met s item) (span_of part); part = part } ∷ later)
  left_items s t pieces later {item} {part} is each owned rest =
      let at_key : State = key_met s item in
      let p : Place = caught at_key (span_of part) in
      let here : P (span_of part) = owned.own (item_each is each) in
      let placed = placed_items s (promoted at_key (span_of part)) t p pieces later is
      (λ h. promoted_spans P at_key (span_of part) here (key_spans s item h)) here rest in record {
        stays = placed.stays;
        places = placed.places;
        left = All-cons IsSpannedLater (record { value = p; part = part }) later (record { value = here; part = item_each is each })
            rest.left;
      }

  rest_items : (there : At) (part : Syntax) (s : State) → EachSpan P (Node there word.Rest (Then part End))
      → AreSpannedItems s (promoted s there.span) (Spreads (caught s there.span) ∷ [])
      (record { value = caught s there.span; part = part } ∷ [])
  rest_items there part s each = record {
    stays = promoted_spans P s there.span each.0;
    places = one_spanned P (caught s there.span) each.0;
    left = All-cons IsSpannedLater (record { value = caught s there.span; part = part }) []
        (record { value = each.0; part = each.1.0 }) (All-nil IsSpannedLater);
  }

  -- The items of a target.

  pub ahead_spans : {names : Names} {es : Pieces} {rest : Syntax} {s t : State} {forced : Bool} → LoweredAhead names es rest s t forced
      → EachSpanAmong P es → KeepsSpans P s t
  ahead_spans (items.NoLook es rest s is) each h = h
  ahead_spans (items.LookEnds s) each h = h
  ahead_spans (items.LookOther item es s is) each h = h
  ahead_spans {names} (items.LookLocal item es symbol identifier s t forced is f d) each h =
      ahead_spans d each.1
      (found_spans P names s symbol (span_of (target_under item))
      (local_own names (target_under item) symbol is (under_each item each.0)) h)

  pub taken_spans : {names : Names} {of_object forced : Bool} {es : Pieces} {rest : Syntax} {s t : State} {pieces : List Piece}
      {later : List Later} → TakenItems names of_object forced es rest s t pieces later → All IsOwned later → EachSpanAmong P es
      → EachSpan P rest → AreSpannedItems s t pieces later
  taken_spans (items.NoItem s) owned each last = no_items s s (λ h. h)
  taken_spans (items.RestTaken there target s is) owned each last = rest_items there target s last
  taken_spans (items.RestLost rest s is) owned each last = no_items s (recorded s (lost_rest rest)) (recorded_spans P s (lost_rest rest))
  taken_spans (items.ItemHole there es rest s t pieces later d) owned each last =
      let others = taken_spans d owned each.1 last in record { stays = others.stays; places = others.places; left = others.left }
  taken_spans (items.ItemLost item es rest s t pieces later shaped is d) owned each last =
      behind_items s (recorded s (lost_item item)) t pieces later (recorded_spans P s (lost_item item)) (taken_spans d owned each.1 last)
  taken_spans {names} (items.ItemVariable item es rest there name symbol identifier s t key pieces later is means kept mutable f d) owned
      each last =
      let at_key : State = key_met s item in
      let here : P there.span = (item_each is each.0).0 in
      placed_items s (found names at_key symbol there.span) t (variable_at identifier there.span) pieces later is
      (λ h. found_spans P names at_key symbol there.span here (key_spans s item h)) here (taken_spans d owned each.1 last)
  taken_spans {names} {of_object}
      (items.ItemConstant item es rest there name symbol identifier s t key pieces later is means kept constant f d) owned each last =
      let at_key : State = key_met s item in
      let first : State = found names at_key symbol there.span in
      let noted : Diagnostic = diagnostic_at row.F6 (names.name symbol.0) there.span in
      let others = taken_spans d owned each.1 last in record {
        stays = λ h. others.stays (recorded_spans P first noted
            (found_spans P names at_key symbol there.span (item_each is each.0).0 (key_spans s item h)));
        places = subst (AreSpanned P) (sym (lost_places of_object pieces)) others.places;
        left = others.left;
      }
  taken_spans (items.ItemLater item part es rest s t key pieces later is kept d) owned each last =
      let l : Later = record { value = caught (key_met s item) (span_of part); part = part } in
      left_items s t pieces later is each.0 (All-head IsOwned l later owned)
      (taken_spans d (All-tail IsOwned l later owned) each.1 last)

  -- The items of a binding pattern.
  pub items_spans : {names : Names} {again of_object : Bool} {es : Pieces} {rest : Syntax} {s t : State} {pieces : List Piece}
      {later : List Later} → BoundItems names again of_object es rest s t pieces later → All IsOwned later → EachSpanAmong P es
      → EachSpan P rest → AreSpannedItems s t pieces later
  items_spans (items.NoBound s) owned each last = no_items s s (λ h. h)
  items_spans {names} {again} (items.RestNamed there bind name type symbol identifier s annotated is f) owned each last = record {
    stays = met_spans again names s symbol identifier bind.span last.1.0.0;
    places = one_spanned P (variable_at identifier there.span) last.0;
    left = All-nil IsSpannedLater;
  }
  items_spans (items.RestNested there pattern s is) owned each last = rest_items there pattern s last
  items_spans (items.RestUnbound rest s is) owned each last = no_items s (recorded s (lost_rest rest)) (recorded_spans P s (lost_rest rest))
  items_spans (items.BoundHole there es rest s t pieces later d) owned each last =
      let others = items_spans d owned each.1 last in record { stays = others.stays; places = others.places; left = others.left }
  items_spans (items.BoundLost item es rest s t pieces later shaped is d) owned each last =
      behind_items s (recorded s (lost_item item)) t pieces later (recorded_spans P s (lost_item item)) (items_spans d owned each.1 last)
  items_spans {names} {again}
      (items.BoundVariable item es rest bind name type symbol identifier s t key pieces later is annotated kept declared f d) owned each
      last =
      let at_key : State = key_met s item in
      let here : P bind.span = (item_each is each.0).0 in
      placed_items s (met again names at_key symbol identifier bind.span) t (variable_at identifier bind.span) pieces later is
      (λ h. met_spans again names at_key symbol identifier bind.span here (key_spans s item h)) here (items_spans d owned each.1 last)
  items_spans (items.BoundLater item part es rest s t key pieces later is kept behind d) owned each last =
      let l : Later = record { value = caught (key_met s item) (span_of part); part = part } in
      left_items s t pieces later is each.0 (All-head IsOwned l later owned)
      (items_spans d (All-tail IsOwned l later owned) each.1 last)

  -- The instruction that takes a value apart.
  pub apart_spans : {s t : State} {pieces : List Piece} {later : List Later} (k : InstructionKind) (pattern : Pattern) (of_object : Bool)
      (value : Place) (at : Span) → pattern_pieces pattern ≡ form_piece of_object ∷ pieces → AreSpannedItems s t pieces later → P at
      → IfSome value.span P → KeepsSpans P s (with_value t (destructured k pattern value) (Some at))
  apart_spans {t} {pieces} k pattern of_object value at are inner here given h =
      value_spans P t (destructured k pattern value) (Some at) here tt
      (subst (AreSpanned P) (sym (apart_places k pattern of_object value pieces are))
      (more_spanned P value (places_in pieces) given inner.places)) (inner.stays h)
