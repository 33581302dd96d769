-- Links of optional chains keep places known and parts writable, where their holes do.
use Rattle.std.proofs.Common.{◌≡◌, ℕ, ◌+◌, ◌<◌, ◌++◌, Bool, true, false, List, [], ◌∷◌, length, All, Option, Some, None, arith}
use Rattle.std.proofs.lemmas.List.Elements.{All-append, All-cons, All-head, All-nil, All-tail, All-weaker}
use Rattle.rl_base.specs.declared.row.Row.TheVariants as row
use Rattle.rl_builder.specs.Builder.{entered, new_block, reserved}
use Rattle.rl_builder.specs.Temporaries.{temporary, with_value}
use Rattle.rl_frames.specs.Parts.{chain_begun, chain_ended, chain_reserved, chain_undefined, link_begun, link_end, link_finished}
use Rattle.rl_frames.specs.Parts.{link_object}
use Rattle.rl_hir.specs.declared.function.BlockKind.{BlockKind}
use Rattle.rl_hir.specs.declared.function.BlockKind.TheVariants as block
use Rattle.rl_hir.specs.declared.instruction.InstructionValue.TheVariants as values
use Rattle.rl_hir.specs.declared.instruction.PlaceOrSpread.{PlaceOrSpread}
use Rattle.rl_hir.specs.declared.instruction.PrimitiveValue.TheVariants as primitives
use Rattle.rl_hir.specs.declared.terminal.GotoVariant.TheVariants as gotos
use Rattle.rl_hir.specs.Listing as listing
use Rattle.rl_hir.specs.Pieces.{Gives, argument_pieces, gathered}
use Rattle.rl_lowered.proofs.ChainFrames.{linked_state}
use Rattle.rl_lowered.proofs.Common.{At, BlockId, Node, Piece, Pieces, Place, Span, State, Syntax, Then}
use Rattle.rl_lowered.proofs.SoundForms.{called_places, called_writable, member_small, method_places, method_writable}
use Rattle.rl_lowered.proofs.SoundListing.{branch_writable, optional_writable, span_writable, undefined_writable}
use Rattle.rl_lowered.proofs.SoundMoves.{counters_then, empty_writable, identifiers_longer, none_known, one_known, place_grown, place_made}
use Rattle.rl_lowered.proofs.SoundMoves.{place_next, sound_ended, sound_entered, sound_last_hole, sound_next, sound_recorded}
use Rattle.rl_lowered.proofs.SoundMoves.{sound_refl, sound_reserved, sound_stored, sound_temporary}
use Rattle.rl_lowered.proofs.SoundValues.{IsSound, loaded_sound, over_sound, places_next, value_sound}
use Rattle.rl_lowered.specs.Forms.{Alone, Front, IsLinkKey, IsMember, Lent, LinkIndexed, LinkNumbered, LinkStatic, MemberKey, Indexed}
use Rattle.rl_lowered.specs.Forms.{Numbered, Static, call_of, front_places, handed_on, load_of, places_in, tested_front}
use Rattle.rl_lowered.specs.Lowered.{private_met}
use Rattle.rl_lowered.specs.Sound.{AreSmallTrees, CountersGrow, IsSmallTree, IsSoundPlace, StaysSound}
use Rattle.rl_model.specs.WellFormed.{value_places}
use Rattle.rl_optional_frames.proofs.LinkStarts.{early_below}
use Rattle.rl_optional_frames.specs.Frames.{link_at, link_objected}
use Rattle.rl_optional_frames.specs.Parts.{link_opened}
use Rattle.rl_promises.specs.Locals.{IsSmallSpan}
use Rattle.rl_promises.specs.Rows.{refusal}
use Rattle.rl_runs.specs.Moves.{branch, last_hole, stored_in}
use Rattle.rl_syntax.specs.declared.word.Word.{Word}
use Rattle.rl_syntax.specs.Syntax.{Flag}
use Rattle.rl_text.specs.Notation.{IsWritable}

-- The block in which a chain ends early was numbered before a link inside it.
abbrev pub WasMade : (alternate : Option BlockId) → State → Type 0
WasMade None s = Unit {0}
WasMade (Some alternate) s = alternate.0 < s.env.next_block

pub opened_made : (alternate : Option BlockId) (s : State) (span : Span) (optional : Bool) → WasMade alternate s
    → (link_at s span optional alternate).alternate.0 < (link_opened alternate s span).env.next_block
opened_made None s span optional made = omega (arith, early_below s span)
opened_made (Some alternate) s span optional made = omega (arith, made)

-- Behind a link its value is in a place that was made, and no counter is below that behind its first hole.
pub record SoundLink (small : Type 0) (s s2 t : State) (own : Place) : Type 0 where
  pub stays : StaysSound small s t
  pub place : IsSoundPlace small t own
  pub grows : CountersGrow s2 t

-- A link, from a state in which it may begin.
module _ (small : Type 0) (x s2 s4 : State) (optional : Bool) (f q a : ℕ) (kind : BlockKind) (span : Span) (object place value : Place)
    (own : IsSoundPlace small x place) (f_made : f < x.env.next_block) (q_made : q < x.env.next_block)
    (a_made : a < (link_begun x).env.next_block) (at : small → IsSmallSpan span) where
  abbrev opened : State
  opened = link_object s2 f q a span object

  abbrev stored : State
  stored = stored_in s4 place value span

  abbrev jumped : State
  jumped = last_hole stored f gotos.Break span x.current

  abbrev finished : State
  finished = link_finished s4 f x.env.next_block optional kind span place value x.current

  module _ (hole : StaysSound small (link_begun x) s2) (tested : IsSoundPlace small s2 object) (last : StaysSound small opened s4)
      (result : IsSoundPlace small s4 value) where
    begins : StaysSound small x (link_begun x)
    begins =
        sound_next small x (reserved x) _ (sound_reserved small x)
        (sound_entered small (reserved x) (new_block x.env.next_block block.Value)
        (λ fits. empty_writable x.env.next_block block.Value (omega (arith, fits.blocks))))

    opens : StaysSound small s2 opened
    opens =
        sound_ended small s2 s2 (branch object q a f span) (new_block q block.Value) (sound_refl small s2)
        (one_known (length s2.env.identifiers) object tested.known)
        (λ holds fits w.
        branch_writable object q a f span (tested.writable holds fits) (omega (arith, q_made, hole.counters.blocks, fits.blocks))
        (omega (arith, a_made, hole.counters.blocks, fits.blocks)) (omega (arith, f_made, hole.counters.blocks, fits.blocks)) (at holds))
        (λ fits w. empty_writable q block.Value (omega (arith, q_made, hole.counters.blocks, fits.blocks)))

    to_last : StaysSound small x s4
    to_last = sound_next small x (link_begun x) s4 begins (sound_next small _ s2 s4 hole (sound_next small s2 opened s4 opens last))

    storing : StaysSound small s4 stored
    storing = sound_stored small s4 place value span (place_next small x s4 place to_last own) result at

    more : x.env.next_block < stored.env.next_block
    more = omega (arith, hole.counters.blocks, last.counters.blocks, storing.counters.blocks)

    back : StaysSound small x jumped
    back =
        sound_last_hole small x stored f gotos.Break span (sound_next small x s4 stored to_last storing)
        (λ fits. omega (arith, more, f_made, fits.blocks)) at

    grown : CountersGrow stored finished
    grown = record { blocks = omega arith; types = omega arith; identifiers = omega arith; instructions = omega arith }

    pub link_from_sound : SoundLink small x s2 finished place
    link_from_sound = record {
      stays = sound_ended small x jumped (link_end f x.env.next_block optional span) (new_block f kind) back
          (none_known (length jumped.env.identifiers))
          (λ holds fits w. optional_writable optional x.env.next_block f span (omega (arith, more, fits.blocks))
          (omega (arith, more, f_made, fits.blocks)) (at holds))
          (λ fits w. empty_writable f kind (omega (arith, more, f_made, fits.blocks)));
      place = place_grown small stored finished place grown
          (place_next small s4 stored place storing (place_next small x s4 place to_last own));
      grows = counters_then s2 stored finished
          (counters_then s2 opened stored opens.counters (counters_then opened s4 stored last.counters storing.counters)) grown;
    }

-- The blocks behind a link and of the link are numbered, and its place is made.

chain_reserved_sound : (small : Type 0) (s : State) (span : Span) → (small → IsSmallSpan span)
    → StaysSound small s (chain_reserved s span) × IsSoundPlace small (chain_reserved s span) (temporary s (Some span))
chain_reserved_sound small s span at =
    let two : State = reserved (reserved s) in (
      sound_next small s (reserved s) _ (sound_reserved small s)
          (sound_next small (reserved s) two _ (sound_reserved small (reserved s))
          (sound_temporary small two (Some span) (λ holds. span_writable span (at holds)))),
      place_made small (chain_reserved s span) (length s.env.identifiers) span (omega (arith, identifiers_longer two (Some span))) at,
    )

-- The block in which a chain ends early.
chain_begun_sound : (small : Type 0) (s : State) (span : Span) → (small → IsSmallSpan span)
    → StaysSound small (chain_reserved s span) (chain_begun s span)
chain_begun_sound small s span at =
    sound_last_hole small y ended n gotos.Break span
    (sound_next small y begun ended begins (sound_next small begun made ended undefined.0 storing))
    (λ fits. omega (arith, storing.counters.blocks, undefined.0.counters.blocks, fits.blocks)) at
  where
    n : ℕ
    n = s.env.next_block

    y : State
    y = chain_reserved s span

    begun : State
    begun = entered (reserved y) (new_block (n + 1 + 1) block.Value)

    made : State
    made = chain_undefined s span

    ended : State
    ended = chain_ended s span

    begins : StaysSound small y begun
    begins =
        sound_next small y (reserved y) begun (sound_reserved small y)
        (sound_entered small (reserved y) (new_block (n + 1 + 1) block.Value)
        (λ fits. empty_writable (n + 1 + 1) block.Value (omega (arith, fits.blocks))))

    undefined : IsSound small begun made (temporary y (Some span))
    undefined =
        value_sound small begun begun (values.Primitive primitives.Undefined) span (sound_refl small begun)
        (none_known (length begun.env.identifiers)) (λ holds fits. undefined_writable) at

    own : IsSoundPlace small made (temporary s (Some span))
    own =
        place_next small y made (temporary s (Some span)) (sound_next small y begun made begins undefined.0)
        (chain_reserved_sound small s span at).1

    storing : StaysSound small made ended
    storing = sound_stored small made (temporary s (Some span)) (temporary y (Some span)) span own undefined.1 at

-- A link inside a chain, or the outermost one.
pub linked_sound : (small : Type 0) (alternate : Option BlockId) (s s2 s4 : State) (span : Span) (optional : Bool) (object value : Place)
    → WasMade alternate s → (small → IsSmallSpan span) → StaysSound small (link_opened alternate s span) s2
    → IsSoundPlace small s2 object → StaysSound small (link_objected (link_at s span optional alternate) s2 object) s4
    → IsSoundPlace small s4 value
    → SoundLink small s s2 (linked_state alternate s span optional s4 value) (link_at s span optional alternate).place
linked_sound small (Some alternate) s s2 s4 span optional object value made at hole tested last result =
    let y : State = chain_reserved s span in
    let begun = chain_reserved_sound small s span at in
    let whole = link_from_sound small y s2 s4 optional s.env.next_block (s.env.next_block + 1) alternate.0 s.current.kind span object
    (temporary s (Some span)) value begun.1 (omega arith) (omega arith) (omega (arith, made)) at hole tested last result in record {
      stays = sound_next small s y _ begun.0 whole.stays;
      place = whole.place;
      grows = whole.grows;
    }
linked_sound small None s s2 s4 span optional object value made at hole tested last result =
    let y : State = chain_reserved s span in
    let x : State = chain_begun s span in
    let begun = chain_reserved_sound small s span at in
    let early = chain_begun_sound small s span at in
    let below = early_below s span in
    let whole = link_from_sound small x s2 s4 optional s.env.next_block (s.env.next_block + 1) (s.env.next_block + 1 + 1) s.current.kind
    span object (temporary s (Some span)) value (place_next small y x (temporary s (Some span)) early begun.1) (omega (arith, below))
    (omega (arith, below)) (omega (arith, below)) at hole tested last result in record {
      stays = sound_next small s y _ begun.0 (sound_next small y x _ early whole.stays);
      place = whole.place;
      grows = whole.grows;
    }

-- The hole of a link's object ends.

pub objected_grow : (alternate : Option BlockId) (s s2 : State) (span : Span) (optional : Bool) (object : Place)
    → CountersGrow s2 (link_objected (link_at s span optional alternate) s2 object)
objected_grow alternate s s2 span optional object =
    record { blocks = omega arith; types = omega arith; identifiers = omega arith; instructions = omega arith }

pub places_grown : (small : Type 0) (mid new : State) (ps : List Place) → CountersGrow mid new → All (IsSoundPlace small mid) ps
    → All (IsSoundPlace small new) ps
places_grown small mid new ps grow all =
    All-weaker (IsSoundPlace small mid) (IsSoundPlace small new) (λ q known. place_grown small mid new q grow known) ps all

-- A link, from its value in its second hole.
pub whole_link : (small : Type 0) (alternate : Option BlockId) (s s2 s4 : State) (span : Span) (optional : Bool) (object value : Place)
    → WasMade alternate s → (small → IsSmallSpan span) → StaysSound small (link_opened alternate s span) s2
    → IsSoundPlace small s2 object
    → (IsSoundPlace small (link_objected (link_at s span optional alternate) s2 object) object
    → IsSound small (link_objected (link_at s span optional alternate) s2 object) s4 value)
    → StaysSound small s (linked_state alternate s span optional s4 value)
    × IsSoundPlace small (linked_state alternate s span optional s4 value) (link_at s span optional alternate).place
    × IsSoundPlace small (linked_state alternate s span optional s4 value) object
whole_link small alternate s s2 s4 span optional object value made at hole tested result =
    let opened : State = link_objected (link_at s span optional alternate) s2 object in
    let last = result (place_grown small s2 opened object (objected_grow alternate s s2 span optional object) tested) in
    let whole = linked_sound small alternate s s2 s4 span optional object value made at hole tested last.0 last.1 in
    (whole.stays, whole.place, place_grown small s2 (linked_state alternate s span optional s4 value) object whole.grows tested)

-- The value of a link: a property that is loaded, one of a private name, and a call.

member_of : {w : Word} {rest parts : Pieces} {pieces : List Piece} {key : MemberKey} → IsLinkKey w rest parts pieces key
    → (object : Syntax) (o : Place) → IsMember w (Then (Flag false) (Then object rest)) (Then object parts) (Gives o ∷ pieces) o key
member_of LinkStatic object o = Static
member_of (LinkIndexed other) object o = Indexed other
member_of (LinkNumbered numeral) object o = Numbered numeral

pub property_small : {w : Word} {rest parts : Pieces} {pieces : List Piece} {key : MemberKey} → IsLinkKey w rest parts pieces key
    → (at : At) (optional : Bool) (object : Syntax) → IsSmallTree (Node at w (Then (Flag optional) (Then object rest)))
    → IsSmallTree object × AreSmallTrees parts
property_small is at optional object small =
    let m = member_small (member_of is object (record { identifier = record { 0 = 0 }; span = None })) at small in
    ((m.0.0, m.1.0), (m.0.1, m.1.1))

pub property_value : (small : Type 0) (s t : State) (at : At) (optional : Bool) (object : Syntax) (o : Place) {w : Word}
    {rest parts : Pieces} {pieces : List Piece} {key : MemberKey} → IsLinkKey w rest parts pieces key → StaysSound small s t
    → IsSoundPlace small s o → All (IsSoundPlace small t) (places_in pieces)
    → (small → IsSmallTree (Node at w (Then (Flag optional) (Then object rest))))
    → IsSound small s (with_value t (load_of o key) (Some at.span)) (temporary t (Some at.span))
property_value small s t at optional object o {pieces} {key} is before tested all tree =
    let loaded = loaded_sound small t at (member_of is object o)
    (All-cons (IsSoundPlace small t) o (places_in pieces) (place_next small s t o before tested) all) tree in
    (sound_next small s t _ before loaded.0, loaded.1)

pub private_value : (small : Type 0) (s : State) (at : Span) → (small → IsSmallSpan at)
    → IsSound small s (with_value (private_met s at) (values.Primitive primitives.Undefined) (Some at))
    (temporary (private_met s at) (Some at))
private_value small s at span =
    value_sound small s (private_met s at) (values.Primitive primitives.Undefined) at (sound_recorded small s (refusal row.F3 at))
    (none_known (length s.env.identifiers)) (λ holds fits. undefined_writable) span

call_places : (front : Front) (given : List PlaceOrSpread) (pieces : List Piece) → gathered argument_pieces given ≡ pieces
    → value_places (call_of front given) ≡ front_places front ++ places_in pieces
call_places (Alone callee) given pieces is = called_places callee given pieces is
call_places (Lent receiver function) given pieces is = method_places receiver function given pieces is

call_written : (front : Front) (given : List PlaceOrSpread) (pieces : List Piece) → gathered argument_pieces given ≡ pieces
    → All (λ (q : Place). IsWritable (listing.place q)) (front_places front ++ places_in pieces)
    → IsWritable (listing.value (call_of front given))
call_written (Alone callee) given pieces is all = called_writable callee given pieces is all
call_written (Lent receiver function) given pieces is all = method_writable receiver function given pieces is all

pub call_value : (small : Type 0) (s t : State) (at : Span) (front : Front) (given : List PlaceOrSpread) (pieces : List Piece)
    → gathered argument_pieces given ≡ pieces → StaysSound small s t → All (IsSoundPlace small s) (front_places front)
    → All (IsSoundPlace small t) (places_in pieces) → (small → IsSmallSpan at)
    → IsSound small s (with_value t (call_of front given) (Some at)) (temporary t (Some at))
call_value small s t at front given pieces is before tested all span =
    over_sound small s t (call_of front given) at (front_places front ++ places_in pieces) before
    (All-append (IsSoundPlace small t) (front_places front) (places_in pieces)
    (places_next small s t (front_places front) before tested) all)
    (call_places front given pieces is) (λ holds fits written. call_written front given pieces is written) span

-- The values that stand in front of a link.

pub tested_sound : (P : Place → Type 0) (front : Front) → All P (front_places front) → P (tested_front front)
tested_sound P (Alone p) all = All-head P p [] all
tested_sound P (Lent receiver function) all = second all
  where
    second : All P (receiver ∷ function ∷ []) → P function
    second both = All-head P function [] (All-tail P receiver (function ∷ []) both)

pub handed_sound : (P : Place → Type 0) (lends : Bool) (front : Front) (p : Place) → P (tested_front front) → P p
    → All P (front_places (handed_on lends front p))
handed_sound P true front p tested own = All-cons P (tested_front front) (p ∷ []) tested (All-cons P p [] own (All-nil P))
handed_sound P false front p tested own = All-cons P p [] own (All-nil P)
