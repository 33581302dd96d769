-- The items of patterns keep places known and parts writable, and their pieces are in places that were made.
use Rattle.std.proofs.Common.{◌≡◌, ℕ, ◌<◌, ◌≤◌, ◌++◌, Bool, true, false, List, [], ◌∷◌, All, length, Option, Some, None, codes, lit<}
use Rattle.std.proofs.Common.{refl, sym, ap, ◌∙◌, subst, arith}
use Rattle.std.proofs.lemmas.List.Elements.{All-cons, All-head, All-nil, All-push, All-tail}
use Rattle.std.proofs.lemmas.Option.{none-some, same_Some}
use Rattle.std.proofs.lemmas.Str.{IsUtf8-append, IsUtf8-from_ascii}
use Rattle.std.specs.Fmt.{decimal}
use Rattle.std.specs.Str.{IsUtf8}
use Rattle.rl_base.specs.Diagnostics.{diagnostic_at}
use Rattle.rl_base.specs.declared.row.Row.TheVariants as row
use Rattle.rl_builder.specs.Builder.{recorded}
use Rattle.rl_builder.specs.Temporaries.{temporary, with_value}
use Rattle.rl_hir.specs.Identifiers.{with_span}
use Rattle.rl_hir.specs.Listing as listing
use Rattle.rl_hir.specs.Pieces.{Gives, Says, Spreads, pattern_pieces}
use Rattle.rl_hir.specs.declared.function.Identifier.{Identifier}
use Rattle.rl_hir.specs.declared.instruction.InstructionKind.{InstructionKind}
use Rattle.rl_hir.specs.declared.instruction.Pattern.{Pattern}
use Rattle.rl_lowered.proofs.Catches.{length_promoted}
use Rattle.rl_lowered.proofs.Common.{At, Diagnostic, End, Names, Node, Piece, Pieces, Place, Said, Span, State, SymbolId, Syntax, Then}
use Rattle.rl_lowered.proofs.Redeclared.{all_changed, length_redeclared}
use Rattle.rl_lowered.proofs.SoundForms.{AreWritten, WritesPlace, dot_utf8, hole_utf8, operand_places_in, operands_written, texts_written}
use Rattle.rl_lowered.proofs.SoundListing.{span_writable, variable_kind_utf8}
use Rattle.rl_lowered.proofs.SoundMoves.{counters_before, place_made, place_next, place_weaker, sound_next, sound_recorded, sound_refl}
use Rattle.rl_lowered.proofs.SoundMoves.{sound_weaker, table_more, terminals_more}
use Rattle.rl_lowered.proofs.SoundNames.{decimal_ascii, found_below, sound_found}
use Rattle.rl_lowered.proofs.SoundTrees.{span_small}
use Rattle.rl_lowered.proofs.SoundValues.{IsSound, one_place, over_sound, variable_place}
use Rattle.rl_lowered.specs.Forms.{BoundProperty, Element, IsItem, Shorthand, ShorthandDefault, TakenProperty, places_in}
use Rattle.rl_lowered.specs.Items.{BoundItems, Later, LoweredAhead, TakenItems, caught, destructured, form_piece, found_again, fraction_met}
use Rattle.rl_lowered.specs.Items.{key_met, lost_pieces, met, promoted, promoted_identifier, redeclared, variable_at}
use Rattle.rl_lowered.specs.Items as items
use Rattle.rl_lowered.specs.Named.{IsFound, found}
use Rattle.rl_lowered.specs.Sound.{AreSmallTrees, CountersGrow, HasSmallCounters, HasSmallSpans, IsSmallTree, IsSoundPlace, StaysSound}
use Rattle.rl_model.specs.WellFormed.{value_places}
use Rattle.rl_promises.specs.Locals.{IsSmallSpan}
use Rattle.rl_promises.specs.Patterns.{fraction_in, key_name, lost_item, lost_rest, target_under}
use Rattle.rl_syntax.specs.Syntax.{Absent, plain, span_of}
use Rattle.rl_syntax.specs.declared.word.Word.TheVariants as word
use Rattle.rl_text.specs.Notation.{IsWritable}
use Rattle.rl_text.specs.Number.{largest}

-- Promoted temporaries.

prefix_utf8 : IsUtf8 (codes "#t")
unfolding lib.Utf8.encode
prefix_utf8 = (codes "#t", (refl, refl))

promoted_writable : (id type : ℕ) (span : Span) → IsSmallSpan span → type ≤ largest
    → IsWritable (listing.identifier (promoted_identifier id type span))
promoted_writable id type span at fits = (
  (lit< tt, refl),
  (
    ((lit< tt, refl), (IsUtf8-append (codes "#t") (decimal id) prefix_utf8 (IsUtf8-from_ascii (decimal id) (decimal_ascii id)), tt)),
    (span_writable span at, (fits, tt)),
  ),
)

pub sound_promoted : (small : Type 0) (s : State) (span : Span) → (small → IsSmallSpan span) → StaysSound small s (promoted s span)
sound_promoted small s span at = record {
  counters = grow;
  known = λ known. record {
    table = table_more (length s.env.identifiers) (length made.env.identifiers) s.table grow.identifiers known.table;
    terminals = terminals_more (length s.env.identifiers) (length made.env.identifiers) s.completed grow.identifiers known.terminals;
  };
  parts = λ holds fits w.
      record { table = w.table; completed = w.completed; current = w.current; listed = w.listed; handlers = w.handlers; scopes = w.scopes };
  identifiers = λ holds fits w.
      let before : HasSmallCounters s = counters_before s made grow fits in
      All-push (λ (i : Identifier). IsWritable (listing.identifier i)) s.env.identifiers
      (promoted_identifier (length s.env.identifiers) s.env.next_type span) w
      (promoted_writable (length s.env.identifiers) s.env.next_type span (at holds) before.types);
  pairs = λ fits w. w;
}
  where
    made : State
    made = promoted s span

    grow : CountersGrow s made
    grow = record {
      blocks = omega arith;
      types = omega arith;
      identifiers = omega (arith, length_promoted s span);
      instructions = omega arith;
    }

pub caught_place : (small : Type 0) (s : State) (span : Span) → (small → IsSmallSpan span)
    → IsSoundPlace small (promoted s span) (caught s span)
caught_place small s span at =
    place_made small (promoted s span) (length s.env.identifiers) span (omega (arith, length_promoted s span)) at

-- An identifier gets another span.
sound_redeclared : (small : Type 0) (s : State) (identifier : ℕ) (span : Span) → (small → IsSmallSpan span)
    → StaysSound small s (redeclared s identifier span)
sound_redeclared small s identifier span at = record {
  counters = grow;
  known = λ known. record {
    table = table_more (length s.env.identifiers) (length again.env.identifiers) s.table grow.identifiers known.table;
    terminals = terminals_more (length s.env.identifiers) (length again.env.identifiers) s.completed grow.identifiers known.terminals;
  };
  parts = λ holds fits w.
      record { table = w.table; completed = w.completed; current = w.current; listed = w.listed; handlers = w.handlers; scopes = w.scopes };
  identifiers = λ holds fits w.
      all_changed (λ (i : Identifier). IsWritable (listing.identifier i)) (with_span span) identifier s.env.identifiers
      (λ i written. (written.0, (written.1.0, (span_writable span (at holds), written.1.1.1)))) w;
  pairs = λ fits w. w;
}
  where
    again : State
    again = redeclared s identifier span

    grow : CountersGrow s again
    grow = record {
      blocks = omega arith;
      types = omega arith;
      identifiers = omega (arith, length_redeclared s identifier span);
      instructions = omega arith;
    }

-- A variable that a pattern declares is looked up.

pub sound_met : (small : Type 0) (again : Bool) (names : Names) (s : State) (symbol : SymbolId) (at : Span) (identifier : ℕ)
    → IsFound names s symbol at identifier → (small → IsSmallSpan at) → StaysSound small s (met again names s symbol identifier at)
sound_met small true names s symbol at identifier f at_small =
    let first : State = found names s symbol at in
    sound_next small s first (found_again names s symbol identifier at) (sound_found small names s symbol at identifier f at_small)
    (sound_redeclared small first identifier at at_small)
sound_met small false names s symbol at identifier f at_small = sound_found small names s symbol at identifier f at_small

pub met_below : (again : Bool) (names : Names) (s : State) (symbol : SymbolId) (at : Span) (identifier : ℕ)
    → IsFound names s symbol at identifier → identifier < length (met again names s symbol identifier at).env.identifiers
met_below true names s symbol at identifier f =
    omega (arith, found_below names s symbol at identifier f, length_redeclared (found names s symbol at) identifier at)
met_below false names s symbol at identifier f = found_below names s symbol at identifier f

-- Keys.

sound_fraction : (small : Type 0) (s : State) (o : Option Span) → StaysSound small s (fraction_met s o)
sound_fraction small s None = sound_refl small s
sound_fraction small s (Some at) = sound_recorded small s (diagnostic_at row.F43 [] at)

sound_key : (small : Type 0) (s : State) (item : Syntax) → StaysSound small s (key_met s item)
sound_key small s item = sound_fraction small s (fraction_in item)

name_utf8 : (key : Syntax) (text : List ℕ) → key_name key ≡ Some text → IsWritable (plain key) → IsUtf8 (46 ∷ text)
name_utf8 (Node at word.Name (Then (Said name) End)) text is small =
    IsUtf8-append (46 ∷ []) text dot_utf8 (subst IsUtf8 (same_Some name text is) small.1.0)
name_utf8 (Node at word.Str (Then (Said name) End)) text is small =
    IsUtf8-append (46 ∷ []) text dot_utf8 (subst IsUtf8 (same_Some name text is) small.1.0)
name_utf8 (Node at word.Num (Then (Said name) End)) text is small =
    IsUtf8-append (46 ∷ []) text dot_utf8 (subst IsUtf8 (same_Some name text is) small.1.0)
name_utf8 _ text is small = absurd (none-some text is)

-- Items.

under_small : (item : Syntax) → HasSmallSpans item → HasSmallSpans (target_under item)
under_small (Node at word.Keyed (Then computed (Then key (Then target End)))) small = small.1.1.1.0
under_small (Node at word.Short (Then name (Then Absent End))) small = small.1.0
under_small _ small = small

pub item_small : {binds of_object : Bool} {item part : Syntax} {key : List Piece} → IsItem binds of_object item key part → IsSmallTree item
    → IsSmallTree part
item_small (Element is shaped) small = small
item_small (BoundProperty is) small = (small.0.1.1.1.0, small.1.1.1.1.0)
item_small (TakenProperty is) small = (small.0.1.1.1.0, small.1.1.1.1.0)
item_small Shorthand small = (small.0.1.0, small.1.1.0)
item_small (ShorthandDefault is) small = small

pub item_places : {binds of_object : Bool} {item part : Syntax} {key : List Piece} → IsItem binds of_object item key part → (p : Place)
    (pieces : List Piece) → places_in (key ++ Gives p ∷ pieces) ≡ p ∷ places_in pieces
item_places (Element is shaped) p pieces = refl
item_places (BoundProperty is) p pieces = refl
item_places (TakenProperty is) p pieces = refl
item_places Shorthand p pieces = refl
item_places (ShorthandDefault is) p pieces = refl

item_written : {binds of_object : Bool} {item part : Syntax} {key : List Piece} → IsItem binds of_object item key part → (p : Place)
    (pieces : List Piece) → IsSmallTree item → AreWritten pieces → AreWritten (key ++ Gives p ∷ pieces)
item_written (Element is shaped) p pieces small rest = rest
item_written (BoundProperty {key} {text} is) p pieces small rest = (name_utf8 key text is small.1.1.1.0, rest)
item_written (TakenProperty {key} {text} is) p pieces small rest = (name_utf8 key text is small.1.1.1.0, rest)
item_written (Shorthand {name}) p pieces small rest = (IsUtf8-append (46 ∷ []) name dot_utf8 small.1.1.0.1.0, rest)
item_written (ShorthandDefault {name} is) p pieces small rest = (IsUtf8-append (46 ∷ []) name dot_utf8 small.1.1.0.1.0, rest)

-- A part that was left has its piece in a place that was made.
pub record IsSoundLater (small : Type 0) (s : State) (l : Later) : Type 0 where
  pub value : IsSoundPlace small s l.value
  pub part : small → IsSmallTree l.part

later_next : (small : Type 0) (s t : State) (l : Later) → StaysSound small s t → IsSoundLater small s l → IsSoundLater small t l
later_next small s t l j sound = record { value = place_next small s t l.value j sound.value; part = sound.part }

pub laters_next : (small : Type 0) (s t : State) (later : List Later) → StaysSound small s t → All (IsSoundLater small s) later
    → All (IsSoundLater small t) later
laters_next small s t later j all place default within = later_next small s t _ j (all place default within)

-- A target asks of its span, and of the value that it takes, what it asks of its tree.
abbrev pub SmallTarget : (at : Span) → (value : Place) → Syntax → State → Type 0
SmallTarget at value e s = IsSmallTree e × (IsSmallSpan at × (HasSmallCounters s → IsWritable (listing.place value)))

pub target_by : (small : Type 0) (at : Span) (value : Place) (e : Syntax) (s t : State) (p : Place) → (small → IsSmallTree e)
    → (small → IsSmallSpan at) → IsSoundPlace small s value
    → (value.identifier.0 < length s.env.identifiers → IsSound (SmallTarget at value e s) s t p) → IsSound small s t p
target_by small at value e s t p tree at_small given inner =
    let whole : small → SmallTarget at value e s = λ holds. (tree holds, (at_small holds, given.writable holds)) in
    let part = inner given.known in (
      sound_weaker (SmallTarget at value e s) small s t whole part.0,
      place_weaker (SmallTarget at value e s) small t p whole part.1,
    )

pub given_target : (at : Span) (value : Place) (e : Syntax) (s : State) → value.identifier.0 < length s.env.identifiers
    → IsSoundPlace (SmallTarget at value e s) s value
given_target at value e s below = record { known = below; writable = λ holds fits. holds.1.1 fits }

-- As `SmallTarget`, for a part that was left, and for some of them.

abbrev pub IsSmallLater : State → Later → Type 0
IsSmallLater s l = IsSmallTree l.part × (HasSmallCounters s → IsWritable (listing.place l.value))

abbrev pub IsKnownLater : State → Later → Type 0
IsKnownLater s l = l.value.identifier.0 < length s.env.identifiers

small_laters : (small : Type 0) (s : State) (later : List Later) → All (IsSoundLater small s) later → small → All (IsSmallLater s) later
small_laters small s later each holds place default within =
    ((each place default within).part holds, (each place default within).value.writable holds)

known_laters : (small : Type 0) (s : State) (later : List Later) → All (IsSoundLater small s) later → All (IsKnownLater s) later
known_laters small s later each place default within = (each place default within).value.known

pub laters_by : (small : Type 0) (s t : State) (later : List Later) → All (IsSoundLater small s) later
    → (All (IsKnownLater s) later → StaysSound (All (IsSmallLater s) later) s t) → StaysSound small s t
laters_by small s t later each inner =
    sound_weaker (All (IsSmallLater s) later) small s t (small_laters small s later each) (inner (known_laters small s later each))

pub given_later : (s : State) (later : List Later) → All (IsKnownLater s) later → All (IsSoundLater (All (IsSmallLater s) later) s) later
given_later s later below place default within = record {
  value = record { known = below place default within; writable = λ holds fits. (holds place default within).1 fits };
  part = λ holds. (holds place default within).0;
}

-- The items of a pattern from one state to another, their pieces, and the parts that were left.
pub record AreSoundItems (small : Type 0) (s t : State) (pieces : List Piece) (later : List Later) : Type 0 where
  pub stays : StaysSound small s t
  pub places : All (IsSoundPlace small t) (places_in pieces)
  pub written : small → AreWritten pieces
  pub left : All (IsSoundLater small t) later

no_items : (small : Type 0) (s t : State) → StaysSound small s t → AreSoundItems small s t [] []
no_items small s t stays =
    record { stays = stays; places = All-nil (IsSoundPlace small t); written = λ holds. tt; left = All-nil (IsSoundLater small t) }

pub behind_items : (small : Type 0) (s m t : State) (pieces : List Piece) (later : List Later) → StaysSound small s m
    → AreSoundItems small m t pieces later → AreSoundItems small s t pieces later
behind_items small s m t pieces later before rest = record {
  stays = sound_next small s m t before rest.stays;
  places = rest.places;
  written = rest.written;
  left = rest.left;
}

hole_items : (small : Type 0) (s t : State) (pieces : List Piece) (later : List Later) → AreSoundItems small s t pieces later
    → AreSoundItems small s t (Says (codes "hole") ∷ pieces) later
hole_items small s t pieces later rest =
    record { stays = rest.stays; places = rest.places; written = λ holds. (hole_utf8, rest.written holds); left = rest.left }

-- An item in front of others: it takes its piece itself, or from a temporary.

placed_items : (small : Type 0) (s m t : State) (p : Place) (pieces : List Piece) (later : List Later) {binds of_object : Bool}
    {item part : Syntax} {key : List Piece} → IsItem binds of_object item key part → (small → IsSmallTree item) → StaysSound small s m
    → IsSoundPlace small m p → AreSoundItems small m t pieces later → AreSoundItems small s t (key ++ Gives p ∷ pieces) later
placed_items small s m t p pieces later is item before place rest = record {
  stays = sound_next small s m t before rest.stays;
  places = subst (All (IsSoundPlace small t)) (sym (item_places is p pieces))
      (All-cons (IsSoundPlace small t) p (places_in pieces) (place_next small m t p rest.stays place) rest.places);
  written = λ holds. item_written is p pieces (item holds) (rest.written holds);
  left = rest.left;
}

left_items : (small : Type 0) (s t : State) (pieces : List Piece) (later : List Later) {binds of_object : Bool} {item part : Syntax}
    {key : List Piece} → IsItem binds of_object item key part → (small → IsSmallTree item)
    → AreSoundItems small (promoted (key_met s item) (span_of part)) t pieces later
    → AreSoundItems small s t (key ++ Gives (caught (key_met s item) (span_of part)) ∷ pieces)
    (record { value = caught (key_met s item) (span_of part); part = part } ∷ later)
left_items small s t pieces later {item} {part} is small_item rest =
    let at_key : State = key_met s item in
    let made : State = promoted at_key (span_of part) in
    let p : Place = caught at_key (span_of part) in
    let at : small → IsSmallSpan (span_of part) = λ holds. span_small part (item_small is (small_item holds)).0 in
    let place : IsSoundPlace small made p = caught_place small at_key (span_of part) at in
    let placed = placed_items small s made t p pieces later is small_item
    (sound_next small s at_key made (sound_key small s item) (sound_promoted small at_key (span_of part) at)) place rest in record {
      stays = placed.stays;
      places = placed.places;
      written = placed.written;
      left = All-cons (IsSoundLater small t) (record { value = p; part = part }) later
          (record { value = place_next small made t p rest.stays place; part = λ holds. item_small is (small_item holds) }) rest.left;
    }

-- A rest that takes its piece from a temporary.
rest_items : (small : Type 0) (there : At) (part : Syntax) (s : State) → (small → IsSmallTree (Node there word.Rest (Then part End)))
    → AreSoundItems small s (promoted s there.span) (Spreads (caught s there.span) ∷ [])
    (record { value = caught s there.span; part = part } ∷ [])
rest_items small there part s rest =
    let made : State = promoted s there.span in
    let p : Place = caught s there.span in
    let at : small → IsSmallSpan there.span = λ holds. (rest holds).0.0 in
    let place : IsSoundPlace small made p = caught_place small s there.span at in record {
      stays = sound_promoted small s there.span at;
      places = one_place small made p place;
      written = λ holds. tt;
      left = All-cons (IsSoundLater small made) (record { value = p; part = part }) []
          (record { value = place; part = λ holds. ((rest holds).0.1.0, (rest holds).1.1.0) }) (All-nil (IsSoundLater small made));
    }

-- The items of a target.

pub ahead_sound : {names : Names} {es : Pieces} {rest : Syntax} {s t : State} {forced : Bool} (small : Type 0)
    → LoweredAhead names es rest s t forced → (small → AreSmallTrees es) → StaysSound small s t
ahead_sound small (items.NoLook es rest s is) all = sound_refl small s
ahead_sound small (items.LookEnds s) all = sound_refl small s
ahead_sound small (items.LookOther item es s is) all = sound_refl small s
ahead_sound {names} small (items.LookLocal item es symbol identifier s t forced is f d) all =
    let there : Span = span_of (target_under item) in
    sound_next small s (found names s symbol there) t
    (sound_found small names s symbol there identifier f
    (λ holds. span_small (target_under item) (under_small item (all holds).0.0)))
    (ahead_sound small d (λ holds. ((all holds).0.1, (all holds).1.1)))

-- The pieces of a constant.

pub lost_places : (of_object : Bool) (pieces : List Piece) → places_in (lost_pieces of_object ++ pieces) ≡ places_in pieces
lost_places true pieces = refl
lost_places false pieces = refl

lost_written : (of_object : Bool) (pieces : List Piece) → AreWritten pieces → AreWritten (lost_pieces of_object ++ pieces)
lost_written true pieces rest = rest
lost_written false pieces rest = (hole_utf8, rest)

pub taken_sound : {names : Names} {of_object forced : Bool} {es : Pieces} {rest : Syntax} {s t : State} {pieces : List Piece}
    {later : List Later} (small : Type 0) → TakenItems names of_object forced es rest s t pieces later → (small → AreSmallTrees es)
    → (small → IsSmallTree rest) → AreSoundItems small s t pieces later
taken_sound small (items.NoItem s) all last = no_items small s s (sound_refl small s)
taken_sound small (items.RestTaken there target s is) all last = rest_items small there target s last
taken_sound small (items.RestLost rest s is) all last =
    no_items small s (recorded s (lost_rest rest)) (sound_recorded small s (lost_rest rest))
taken_sound small (items.ItemHole there es rest s t pieces later d) all last =
    hole_items small s t pieces later (taken_sound small d (λ holds. ((all holds).0.1, (all holds).1.1)) last)
taken_sound small (items.ItemLost item es rest s t pieces later shaped is d) all last =
    behind_items small s (recorded s (lost_item item)) t pieces later (sound_recorded small s (lost_item item))
    (taken_sound small d (λ holds. ((all holds).0.1, (all holds).1.1)) last)
taken_sound {names} small
    (items.ItemVariable item es rest there name symbol identifier s t key pieces later is means kept mutable f d) all last =
    let at_key : State = key_met s item in
    let first : State = found names at_key symbol there.span in
    let item_is : small → IsSmallTree item = λ holds. ((all holds).0.0, (all holds).1.0) in
    let at : small → IsSmallSpan there.span = λ holds. (item_small is (item_is holds)).0.0 in
    placed_items small s first t (variable_at identifier there.span) pieces later is item_is
    (sound_next small s at_key first (sound_key small s item) (sound_found small names at_key symbol there.span identifier f at))
    (variable_place small names at_key symbol there.span there.span identifier f at)
    (taken_sound small d (λ holds. ((all holds).0.1, (all holds).1.1)) last)
taken_sound {names} {of_object} small
    (items.ItemConstant item es rest there name symbol identifier s t key pieces later is means kept constant f d) all last =
    let at_key : State = key_met s item in
    let first : State = found names at_key symbol there.span in
    let noted : Diagnostic = diagnostic_at row.F6 (names.name symbol.0) there.span in
    let at : small → IsSmallSpan there.span = λ holds. (item_small is ((all holds).0.0, (all holds).1.0)).0.0 in
    let others = behind_items small s first t pieces later
    (sound_next small s at_key first (sound_key small s item) (sound_found small names at_key symbol there.span identifier f at))
    (behind_items small first (recorded first noted) t pieces later (sound_recorded small first noted)
    (taken_sound small d (λ holds. ((all holds).0.1, (all holds).1.1)) last)) in record {
      stays = others.stays;
      places = subst (All (IsSoundPlace small t)) (sym (lost_places of_object pieces)) others.places;
      written = λ holds. lost_written of_object pieces (others.written holds);
      left = others.left;
    }
taken_sound small (items.ItemLater item part es rest s t key pieces later is kept d) all last =
    left_items small s t pieces later is (λ holds. ((all holds).0.0, (all holds).1.0))
    (taken_sound small d (λ holds. ((all holds).0.1, (all holds).1.1)) last)

-- The items of a binding pattern.
pub items_sound : {names : Names} {again of_object : Bool} {es : Pieces} {rest : Syntax} {s t : State} {pieces : List Piece}
    {later : List Later} (small : Type 0) → BoundItems names again of_object es rest s t pieces later → (small → AreSmallTrees es)
    → (small → IsSmallTree rest) → AreSoundItems small s t pieces later
items_sound small (items.NoBound s) all last = no_items small s s (sound_refl small s)
items_sound {names} {again} small (items.RestNamed there bind name type symbol identifier s annotated is f) all last =
    let here : State = met again names s symbol identifier bind.span in
    let p : Place = variable_at identifier there.span in record {
      stays = sound_met small again names s symbol bind.span identifier f (λ holds. (last holds).0.1.0.0);
      places = one_place small here p
          (place_made small here identifier there.span (met_below again names s symbol bind.span identifier f) (λ holds. (last holds).0.0));
      written = λ holds. tt;
      left = All-nil (IsSoundLater small here);
    }
items_sound small (items.RestNested there pattern s is) all last = rest_items small there pattern s last
items_sound small (items.RestUnbound rest s is) all last =
    no_items small s (recorded s (lost_rest rest)) (sound_recorded small s (lost_rest rest))
items_sound small (items.BoundHole there es rest s t pieces later d) all last =
    hole_items small s t pieces later (items_sound small d (λ holds. ((all holds).0.1, (all holds).1.1)) last)
items_sound small (items.BoundLost item es rest s t pieces later shaped is d) all last =
    behind_items small s (recorded s (lost_item item)) t pieces later (sound_recorded small s (lost_item item))
    (items_sound small d (λ holds. ((all holds).0.1, (all holds).1.1)) last)
items_sound {names} {again} small
    (items.BoundVariable item es rest bind name type symbol identifier s t key pieces later is annotated kept declared f d) all last =
    let at_key : State = key_met s item in
    let here : State = met again names at_key symbol identifier bind.span in
    let item_is : small → IsSmallTree item = λ holds. ((all holds).0.0, (all holds).1.0) in
    let at : small → IsSmallSpan bind.span = λ holds. (item_small is (item_is holds)).0.0 in
    placed_items small s here t (variable_at identifier bind.span) pieces later is item_is
    (sound_next small s at_key here (sound_key small s item) (sound_met small again names at_key symbol bind.span identifier f at))
    (place_made small here identifier bind.span (met_below again names at_key symbol bind.span identifier f) at)
    (items_sound small d (λ holds. ((all holds).0.1, (all holds).1.1)) last)
items_sound small (items.BoundLater item part es rest s t key pieces later is kept behind d) all last =
    left_items small s t pieces later is (λ holds. ((all holds).0.0, (all holds).1.0))
    (items_sound small d (λ holds. ((all holds).0.1, (all holds).1.1)) last)

-- The instruction that takes a value apart.

shape_written : (of_object : Bool) (pieces : List Piece) → AreWritten pieces → AreWritten (form_piece of_object ∷ pieces)
unfolding lib.Utf8.encode
shape_written true pieces rest = ((codes "object", (refl, refl)), rest)
shape_written false pieces rest = ((codes "array", (refl, refl)), rest)

shape_places : (of_object : Bool) (pieces : List Piece) → places_in (form_piece of_object ∷ pieces) ≡ places_in pieces
shape_places true pieces = refl
shape_places false pieces = refl

apart_writable : (k : InstructionKind) (pattern : Pattern) (value : Place) → AreWritten (pattern_pieces pattern) → WritesPlace value
    → All WritesPlace (places_in (pattern_pieces pattern)) → IsWritable (listing.value (destructured k pattern value))
apart_writable k pattern value written place all = (
  (lit< tt, refl),
  (
    variable_kind_utf8 k,
    (
      texts_written (pattern_pieces pattern) written,
      ((place, tt), (operands_written (pattern_pieces pattern) written all, tt)),
    ),
  ),
)

pub apart_places : (k : InstructionKind) (pattern : Pattern) (of_object : Bool) (value : Place) (pieces : List Piece)
    → pattern_pieces pattern ≡ form_piece of_object ∷ pieces → value_places (destructured k pattern value) ≡ value ∷ places_in pieces
apart_places k pattern of_object value pieces are =
    ap (λ (l : List Place). value ∷ l)
    (operand_places_in (pattern_pieces pattern) ∙ ap places_in are ∙ shape_places of_object pieces)

module _ (small : Type 0) (k : InstructionKind) (pattern : Pattern) (of_object : Bool) (value : Place) (at : Span) (t : State)
    (pieces : List Piece) (are : pattern_pieces pattern ≡ form_piece of_object ∷ pieces) where
  abbrev apart : State
  apart = with_value t (destructured k pattern value) (Some at)

  places_are : places_in (pattern_pieces pattern) ≡ places_in pieces
  places_are = ap places_in are ∙ shape_places of_object pieces

  takes_apart : IsSoundPlace small t value → All (IsSoundPlace small t) (places_in pieces) → (small → AreWritten pieces)
      → (small → IsSmallSpan at) → IsSound small t apart (temporary t (Some at))
  takes_apart given places pieces_written at_small =
      over_sound small t t (destructured k pattern value) at (value ∷ places_in pieces) (sound_refl small t)
      (All-cons (IsSoundPlace small t) value (places_in pieces) given places) (apart_places k pattern of_object value pieces are)
      (λ holds fits written. apart_writable k pattern value
      (subst AreWritten (sym are) (shape_written of_object pieces (pieces_written holds)))
      (All-head WritesPlace value (places_in pieces) written)
      (subst (All WritesPlace) (sym places_are) (All-tail WritesPlace value (places_in pieces) written))) at_small

  -- The whole pattern, from what the parts that were left keep.
  pub apart_sound : (s u : State) (later : List Later) → AreSoundItems small s t pieces later → IsSoundPlace small s value
      → (small → IsSmallSpan at) → (All (IsSoundLater small apart) later → StaysSound small apart u)
      → IsSound small s u (temporary t (Some at))
  apart_sound s u later inner given at_small rest =
      let one = takes_apart (place_next small s t value inner.stays given) inner.places inner.written at_small in
      let left = rest (laters_next small t apart later one.0 inner.left) in (
        sound_next small s t u inner.stays (sound_next small t apart u one.0 left),
        place_next small apart u (temporary t (Some at)) left one.1,
      )
