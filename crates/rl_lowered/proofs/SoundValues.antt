-- Values over places that were made keep places known and parts writable: loads of properties, and stores to variables.
use Rattle.std.proofs.Common.{◌≡◌, ℕ, ◌++◌, ◌<◌, List, [], ◌∷◌, length, All, Some, refl, sym, subst}
use Rattle.std.proofs.lemmas.List.Elements.{All-append, All-cons, All-head, All-nil, All-tail, All-weaker}
use Rattle.rl_builder.specs.Temporaries.{temporary, with_value}
use Rattle.rl_hir.specs.Listing as listing
use Rattle.rl_hir.specs.declared.instruction.InstructionKind.{InstructionKind}
use Rattle.rl_hir.specs.declared.instruction.InstructionValue.TheVariants as values
use Rattle.rl_lowered.proofs.Common.{At, InstructionValue, Names, Node, Piece, Pieces, Place, Span, State, SymbolId}
use Rattle.rl_lowered.proofs.SoundForms.{load_writable, member_places, store_writable, stored_places}
use Rattle.rl_lowered.proofs.SoundListing.{initialized_writable, span_writable}
use Rattle.rl_lowered.proofs.SoundMoves.{place_made, place_next, place_weaker, sound_next, sound_refl, sound_value, value_place}
use Rattle.rl_lowered.proofs.SoundNames.{found_below}
use Rattle.rl_lowered.specs.Forms.{IsMember, MemberKey, load_of, places_in, store_of}
use Rattle.rl_lowered.specs.Named.{IsFound, found}
use Rattle.rl_lowered.specs.Sound.{HasSmallCounters, IsSmallTree, IsSoundPlace, StaysSound}
use Rattle.rl_model.specs.WellFormed.{AreKnown, value_places}
use Rattle.rl_promises.specs.Locals.{IsSmallSpan}
use Rattle.rl_syntax.specs.declared.word.Word.{Word}
use Rattle.rl_text.specs.Notation.{IsWritable}

-- A value behind what came before

pub value_sound : (small : Type 0) (s t : State) (v : InstructionValue) (span : Span) → StaysSound small s t
    → AreKnown (length t.env.identifiers) (value_places v) → (small → HasSmallCounters t → IsWritable (listing.value v))
    → (small → IsSmallSpan span)
    → StaysSound small s (with_value t v (Some span)) × IsSoundPlace small (with_value t v (Some span)) (temporary t (Some span))
value_sound small s t v span before places written at = (
  sound_next small s t _ before (sound_value small t v (Some span) places written (λ holds. span_writable span (at holds))),
  value_place small t v (Some span) places written (λ holds. span_writable span (at holds)),
)

-- Places that were made

places_known : (small : Type 0) (t : State) (ps : List Place) → All (IsSoundPlace small t) ps → AreKnown (length t.env.identifiers) ps
places_known small t ps all =
    All-weaker (IsSoundPlace small t) (λ (q : Place). q.identifier.0 < length t.env.identifiers) (λ q known. known.known) ps all

places_written : (small : Type 0) (t : State) (ps : List Place) → All (IsSoundPlace small t) ps → small → HasSmallCounters t
    → All (λ (q : Place). IsWritable (listing.place q)) ps
places_written small t ps all holds fits =
    All-weaker (IsSoundPlace small t) (λ (q : Place). IsWritable (listing.place q)) (λ q known. known.writable holds fits) ps all

pub places_next : (small : Type 0) (mid new : State) (ps : List Place) → StaysSound small mid new → All (IsSoundPlace small mid) ps
    → All (IsSoundPlace small new) ps
places_next small mid new ps j all =
    All-weaker (IsSoundPlace small mid) (IsSoundPlace small new) (λ q known. place_next small mid new q j known) ps all

pub places_weaker : (P R : Type 0) (t : State) (ps : List Place) → (R → P) → All (IsSoundPlace P t) ps → All (IsSoundPlace R t) ps
places_weaker P R t ps first all =
    All-weaker (IsSoundPlace P t) (IsSoundPlace R t) (λ q known. place_weaker P R t q first known) ps all

pub one_place : (small : Type 0) (t : State) (p : Place) → IsSoundPlace small t p → All (IsSoundPlace small t) (p ∷ [])
one_place small t p place = All-cons (IsSoundPlace small t) p [] place (All-nil (IsSoundPlace small t))

abbrev pub IsSound : (small : Type 0) → (s t : State) → Place → Type 0
IsSound small s t p = StaysSound small s t × IsSoundPlace small t p

-- A value over places

pub over_sound : (small : Type 0) (s t : State) (v : InstructionValue) (span : Span) (ps : List Place) → StaysSound small s t
    → All (IsSoundPlace small t) ps → value_places v ≡ ps
    → (small → HasSmallCounters t → All (λ (q : Place). IsWritable (listing.place q)) ps → IsWritable (listing.value v))
    → (small → IsSmallSpan span)
    → StaysSound small s (with_value t v (Some span)) × IsSoundPlace small (with_value t v (Some span)) (temporary t (Some span))
over_sound small s t v span ps before all same written at =
    value_sound small s t v span before (subst (AreKnown (length t.env.identifiers)) (sym same) (places_known small t ps all))
    (λ holds fits. written holds fits (places_written small t ps all holds fits)) at

-- Variables

pub variable_place : (small : Type 0) (names : Names) (s : State) (symbol : SymbolId) (at span : Span) (identifier : ℕ)
    → IsFound names s symbol at identifier → (small → IsSmallSpan span)
    → IsSoundPlace small (found names s symbol at) (record { identifier = record { 0 = identifier }; span = Some span })
variable_place small names s symbol at span identifier f small_span =
    place_made small (found names s symbol at) identifier span (found_below names s symbol at identifier f) small_span

-- A variable that was looked up takes a value.
pub variable_stored : (small : Type 0) (s mid : State) (k : InstructionKind) (identifier : ℕ) (at span : Span) (value : Place)
    → StaysSound small s mid → identifier < length mid.env.identifiers → IsSoundPlace small s value → (small → IsSmallSpan at)
    → (small → IsSmallSpan span)
    → IsSound small s
    (with_value mid (values.StoreLocal k (record { identifier = record { 0 = identifier }; span = Some at }) value) (Some span))
    (temporary mid (Some span))
variable_stored small s mid k identifier at span value looked below given at_small span_small =
    over_sound small s mid (values.StoreLocal k variable value) span (variable ∷ value ∷ []) looked
    (All-cons (IsSoundPlace small mid) variable (value ∷ []) (place_made small mid identifier at below at_small)
    (one_place small mid value (place_next small s mid value looked given))) refl
    (λ holds fits all. initialized_writable k variable value
    (All-head (λ (q : Place). IsWritable (listing.place q)) variable (value ∷ []) all)
    (All-head (λ (q : Place). IsWritable (listing.place q)) value []
    (All-tail (λ (q : Place). IsWritable (listing.place q)) variable (value ∷ []) all))) span_small
  where
    variable : Place
    variable = record { identifier = record { 0 = identifier }; span = Some at }

-- Properties that are loaded, and that take values

pub loaded_sound : (small : Type 0) (t : State) (there : At) {w : Word} {fields parts : Pieces} {pieces : List Piece} {object : Place}
    {key : MemberKey} → IsMember w fields parts pieces object key → All (IsSoundPlace small t) (places_in pieces)
    → (small → IsSmallTree (Node there w fields))
    → IsSound small t (with_value t (load_of object key) (Some there.span)) (temporary t (Some there.span))
loaded_sound small t there {pieces} {object} {key} is all inner =
    over_sound small t t (load_of object key) there.span (places_in pieces) (sound_refl small t) all (member_places is).0
    (λ holds fits written. load_writable is there (inner holds) written) (λ holds. (inner holds).0.0)

pub property_taken : (small : Type 0) (s t : State) (there : At) (value : Place) (span : Span) {w : Word} {fields parts : Pieces}
    {pieces : List Piece} {object : Place} {key : MemberKey} → IsMember w fields parts pieces object key → StaysSound small s t
    → All (IsSoundPlace small t) (places_in pieces) → IsSoundPlace small t value → (small → IsSmallTree (Node there w fields))
    → (small → IsSmallSpan span)
    → IsSound small s (with_value t (store_of object key value) (Some span)) (temporary t (Some span))
property_taken small s t there value span {pieces} {object} {key} is before all given inner at =
    over_sound small s t (store_of object key value) span (places_in pieces ++ value ∷ []) before
    (All-append (IsSoundPlace small t) (places_in pieces) (value ∷ []) all (one_place small t value given)) (stored_places is value)
    (λ holds fits written. store_writable is there value (inner holds) written) at

pub property_stored : (small : Type 0) (s t : State) (there : At) (value : Place) {w : Word} {fields parts : Pieces} {pieces : List Piece}
    {object : Place} {key : MemberKey} → IsMember w fields parts pieces object key → StaysSound small s t
    → All (IsSoundPlace small t) (places_in pieces) → IsSoundPlace small t value → (small → IsSmallTree (Node there w fields))
    → IsSound small s (with_value t (store_of object key value) (Some there.span)) (temporary t (Some there.span))
property_stored small s t there value is before all given inner =
    property_taken small s t there value there.span is before all given inner (λ holds. (inner holds).0.0)
