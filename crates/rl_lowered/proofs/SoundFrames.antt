-- Constructs keep places known and parts writable, where their holes do: a block that was set aside is writable as it was before.
use Rattle.std.proofs.Common.{◌≡◌, ℕ, ◌+◌, ◌<◌, ◌≤◌, true, false, [], ◌∷◌, length, Some, ap, ◌∙◌, arith}
use Rattle.std.specs.Str.{IsUtf8}
use Rattle.std.proofs.lemmas.List.Elements.{All-cons}
use Rattle.rl_base.specs.Operators.{logical_text}
use Rattle.rl_base.specs.declared.operator.LogicalOperator.{LogicalOperator}
use Rattle.rl_builder.specs.Builder.{completed_by, new_block, pushed, reserved, with_temporary}
use Rattle.rl_frames.specs.Frames.{if_alternate, if_after_consequent, if_at, if_consequent, if_ended, if_shut}
use Rattle.rl_frames.specs.Frames.{logical_after, logical_at, logical_ended, logical_righted}
use Rattle.rl_frames.specs.Frames.{sequence_at, sequence_ended}
use Rattle.rl_frames.specs.Frames.{ternary_after, ternary_alternated, ternary_at, ternary_consequent, ternary_ended, ternary_parted}
use Rattle.rl_frames.specs.Parts.{if_begun, if_end, loads, logical_begun, logical_entered, logical_left, logical_place}
use Rattle.rl_frames.specs.Parts.{sequence_begun, sequence_place, ternary_begun, ternary_place}
use Rattle.rl_hir.specs.declared.function.BlockKind.{BlockKind}
use Rattle.rl_hir.specs.declared.function.BlockKind.TheVariants as block
use Rattle.rl_hir.specs.declared.terminal.GotoVariant.TheVariants as gotos
use Rattle.rl_hir.specs.declared.terminal.TerminalKind.TheVariants as kinds
use Rattle.rl_lowered.proofs.Common.{Place, Span, State}
use Rattle.rl_lowered.specs.Sound.{CountersGrow, IsSoundPlace, StaysSound}
use Rattle.rl_lowered.proofs.SoundListing.{branch_writable, if_writable, instruction_writable, local_writable, logical_writable}
use Rattle.rl_lowered.proofs.SoundListing.{sequence_writable, span_writable, ternary_writable}
use Rattle.rl_lowered.proofs.SoundMoves.{counters_then, empty_writable, grows_completed, identifiers_longer, none_known, one_known}
use Rattle.rl_lowered.proofs.SoundMoves.{place_grown, place_made, place_next, sound_ended}
use Rattle.rl_lowered.proofs.SoundMoves.{sound_entered, sound_last_hole, sound_next, sound_next_hole, sound_pushed}
use Rattle.rl_lowered.proofs.SoundMoves.{sound_reserved, sound_stored, sound_temporary}
use Rattle.rl_promises.specs.Locals.{IsSmallSpan}
use Rattle.rl_runs.specs.Moves.{block_id, branch, ends_by, last_hole, stored_in}

-- Two blocks

pub sound_two : (small : Type 0) (s : State) → StaysSound small s (reserved (reserved s))
sound_two small s = sound_next small s (reserved s) _ (sound_reserved small s) (sound_reserved small (reserved s))

-- The hole of a construct ends with a test of a place, and the block behind goes on.
pub sound_branched : (small : Type 0) (old s : State) (test : Place) (consequent alternate behind : ℕ) (kind : BlockKind) (span : Span)
    → StaysSound small old s → IsSoundPlace small s test → consequent < s.env.next_block → alternate < s.env.next_block
    → behind < s.env.next_block → (small → IsSmallSpan span)
    → StaysSound small old (completed_by s (branch test consequent alternate behind span) (new_block behind kind))
sound_branched small old s test consequent alternate behind kind span before place first second third at =
    sound_ended small old s (branch test consequent alternate behind span) (new_block behind kind) before
    (one_known (length s.env.identifiers) test place.known)
    (λ holds fits w.
    branch_writable test consequent alternate behind span (place.writable holds fits) (omega (arith, first, fits.blocks))
    (omega (arith, second, fits.blocks)) (omega (arith, third, fits.blocks)) (at holds))
    (λ fits w. empty_writable behind kind (omega (arith, third, fits.blocks)))

-- A logical expression

logical_begun_sound : (small : Type 0) (s : State) (span left : Span) → (small → IsSmallSpan span) → (small → IsSmallSpan left)
    → StaysSound small s (logical_begun s span left) × IsSoundPlace small (logical_begun s span left) (logical_place s span)
    × IsSoundPlace small (logical_begun s span left) (logical_left s left)
    × (s.env.next_block + 1 + 1 < (logical_begun s span left).env.next_block)
logical_begun_sound small s span left at left_at = (
  sound_next small s entry _ before after,
  place_next small entry _ place after made,
  place_next small entry _ target after target_made,
  omega (arith, after.counters.blocks),
)
  where
    n : ℕ
    n = s.env.next_block

    place : Place
    place = logical_place s span

    target : Place
    target = logical_left s left

    two : State
    two = reserved (reserved s)

    first : State
    first = with_temporary two (Some span)

    second : State
    second = with_temporary first (Some left)

    entry : State
    entry = logical_entered s span left

    longer : length entry.env.identifiers ≡ length s.env.identifiers + 1 + 1
    longer = identifiers_longer first (Some left) ∙ ap (λ (m : ℕ). m + 1) (identifiers_longer two (Some span))

    before : StaysSound small s entry
    before =
        sound_next small s two entry (sound_two small s)
        (sound_next small two first entry (sound_temporary small two (Some span) (λ holds. span_writable span (at holds)))
        (sound_next small first second entry (sound_temporary small first (Some left) (λ holds. span_writable left (left_at holds)))
        (sound_next small second (reserved second) entry (sound_reserved small second)
        (sound_entered small (reserved second) (new_block (n + 1 + 1) block.Value)
        (λ fits. empty_writable (n + 1 + 1) block.Value (omega (arith, fits.blocks)))))))

    made : IsSoundPlace small entry place
    made = place_made small entry (length s.env.identifiers) span (omega (arith, longer)) at

    target_made : IsSoundPlace small entry target
    target_made = place_made small entry (length s.env.identifiers + 1) left (omega (arith, longer)) left_at

    stored : State
    stored = stored_in entry place target left

    storing : StaysSound small entry stored
    storing = sound_stored small entry place target left made target_made left_at

    after : StaysSound small entry (logical_begun s span left)
    after =
        sound_next small entry stored _ storing
        (sound_next_hole small stored n gotos.Break left block.Value (λ fits. omega (arith, storing.counters.blocks, fits.blocks)) left_at)

logical_righted_sound : (small : Type 0) (s s2 : State) (span left right : Span) (operator : LogicalOperator) (r : Place)
    → StaysSound small s s2 → IsSoundPlace small s2 (logical_place s span) → IsSoundPlace small s2 r
    → s.env.next_block + 1 < s2.env.next_block → (small → IsSmallSpan span) → (small → IsSmallSpan right)
    → (small → IsUtf8 (logical_text operator))
    → StaysSound small s (logical_righted (logical_at s span operator left) s2 r right)
    × CountersGrow s2 (logical_righted (logical_at s span operator left) s2 r right)
logical_righted_sound small s s2 span left right operator r before place value room at right_at text = (
  sound_ended small s jumped (ends_by (kinds.Logical operator (block_id (n + 1)) (block_id n)) (Some span))
      (new_block (n + 1) block.Value) back (none_known (length jumped.env.identifiers))
      (λ holds fits w. logical_writable operator (n + 1) n span (text holds) (omega (arith, more, fits.blocks))
      (omega (arith, more, fits.blocks)) (at holds))
      (λ fits w. empty_writable (n + 1) block.Value (omega (arith, more, fits.blocks))),
  record {
    blocks = storing.counters.blocks;
    types = storing.counters.types;
    identifiers = storing.counters.identifiers;
    instructions = storing.counters.instructions;
  },
)
  where
    n : ℕ
    n = s.env.next_block

    stored : State
    stored = stored_in s2 (logical_place s span) r right

    storing : StaysSound small s2 stored
    storing = sound_stored small s2 (logical_place s span) r right place value right_at

    more : n + 1 < stored.env.next_block
    more = omega (arith, room, storing.counters.blocks)

    jumped : State
    jumped = last_hole stored n gotos.Break right s.current

    back : StaysSound small s jumped
    back =
        sound_last_hole small s stored n gotos.Break right (sound_next small s s2 stored before storing)
        (λ fits. omega (arith, more, fits.blocks)) right_at

logical_ended_sound : (small : Type 0) (s s3 : State) (span left : Span) (operator : LogicalOperator) (l : Place)
    → StaysSound small s s3 → IsSoundPlace small s3 (logical_left s left) → IsSoundPlace small s3 l
    → s.env.next_block + 1 + 1 < s3.env.next_block → (logical_at s span operator left).alternate < s3.env.next_block
    → (small → IsSmallSpan span) → (small → IsSmallSpan left)
    → StaysSound small s (logical_ended (logical_after (logical_at s span operator left)) s3 l)
    × CountersGrow s3 (logical_ended (logical_after (logical_at s span operator left)) s3 l)
logical_ended_sound small s s3 span left operator l before target value room other at left_at = (
  sound_branched small s moved (logical_left s left) (n + 1 + 1) alternate n s.current.kind span
      (sound_next small s s3 moved before moving) (place_next small s3 moved (logical_left s left) moving target)
      (omega (arith, room, moving.counters.blocks)) (omega (arith, other, moving.counters.blocks))
      (omega (arith, room, moving.counters.blocks)) at,
  record {
    blocks = moving.counters.blocks;
    types = moving.counters.types;
    identifiers = moving.counters.identifiers;
    instructions = moving.counters.instructions;
  },
)
  where
    n : ℕ
    n = s.env.next_block

    alternate : ℕ
    alternate = (logical_at s span operator left).alternate

    moved : State
    moved = pushed s3 (loads (logical_left s left) l span)

    moving : StaysSound small s3 moved
    moving =
        sound_pushed small s3 (loads (logical_left s left) l span)
        (All-cons (λ (p : Place). p.identifier.0 < length s3.env.identifiers) (logical_left s left) (l ∷ []) target.known
        (one_known (length s3.env.identifiers) l value.known))
        (λ holds fits. instruction_writable (loads (logical_left s left) l span) (omega arith) (target.writable holds fits)
        (span_writable span (at holds)) (local_writable l (value.writable holds fits)))

pub logical_sound : (small : Type 0) (s s2 s3 : State) (span left right : Span) (operator : LogicalOperator) (l r : Place)
    → (small → IsSmallSpan span) → (small → IsSmallSpan left) → (small → IsSmallSpan right)
    → (small → IsUtf8 (logical_text operator)) → StaysSound small (logical_begun s span left) s2 → IsSoundPlace small s2 r
    → StaysSound small (logical_righted (logical_at s span operator left) s2 r right) s3 → IsSoundPlace small s3 l
    → StaysSound small s (logical_ended (logical_after (logical_at s span operator left)) s3 l)
    × IsSoundPlace small (logical_ended (logical_after (logical_at s span operator left)) s3 l) (logical_place s span)
logical_sound small s s2 s3 span left right operator l r at left_at right_at text hole right_place last left_place = (
  ended.0,
  place_grown small s3 _ (logical_place s span) ended.1
      (place_grown small s2 s3 (logical_place s span) later
      (place_next small (logical_begun s span left) s2 (logical_place s span) hole begun.1)),
)
  where
    begun : StaysSound small s (logical_begun s span left) × IsSoundPlace small (logical_begun s span left) (logical_place s span)
        × IsSoundPlace small (logical_begun s span left) (logical_left s left)
        × (s.env.next_block + 1 + 1 < (logical_begun s span left).env.next_block)
    begun = logical_begun_sound small s span left at left_at

    righted : StaysSound small s (logical_righted (logical_at s span operator left) s2 r right)
        × CountersGrow s2 (logical_righted (logical_at s span operator left) s2 r right)
    righted =
        logical_righted_sound small s s2 span left right operator r (sound_next small s _ s2 begun.0 hole)
        (place_next small (logical_begun s span left) s2 (logical_place s span) hole begun.1) right_place
        (omega (arith, begun.3, hole.counters.blocks)) at right_at text

    later : CountersGrow s2 s3
    later = counters_then s2 _ s3 righted.1 last.counters

    all : CountersGrow (logical_begun s span left) s3
    all = counters_then _ s2 s3 hole.counters later

    opened : (logical_at s span operator left).alternate + 1 ≤ s3.env.next_block
    opened = all.blocks

    ended : StaysSound small s (logical_ended (logical_after (logical_at s span operator left)) s3 l)
        × CountersGrow s3 (logical_ended (logical_after (logical_at s span operator left)) s3 l)
    ended =
        logical_ended_sound small s s3 span left operator l (sound_next small s _ s3 righted.0 last)
        (place_grown small _ s3 (logical_left s left) all begun.2) left_place (omega (arith, begun.3, all.blocks))
        (omega (arith, opened)) at left_at

-- A conditional expression

ternary_begun_sound : (small : Type 0) (s : State) (span : Span) → (small → IsSmallSpan span)
    → StaysSound small s (ternary_begun s span) × IsSoundPlace small (ternary_begun s span) (ternary_place s span)
ternary_begun_sound small s span at = (
  sound_next small s two _ (sound_two small s)
      (sound_next small two made _ (sound_temporary small two (Some span) (λ holds. span_writable span (at holds)))
      (sound_next small made (reserved made) _ (sound_reserved small made)
      (sound_entered small (reserved made) (new_block (n + 1 + 1) block.Value)
      (λ fits. empty_writable (n + 1 + 1) block.Value (omega (arith, fits.blocks)))))),
  place_made small (ternary_begun s span) (length s.env.identifiers) span (omega (arith, identifiers_longer two (Some span))) at,
)
  where
    n : ℕ
    n = s.env.next_block

    two : State
    two = reserved (reserved s)

    made : State
    made = with_temporary two (Some span)

ternary_consequent_sound : (small : Type 0) (s s2 : State) (span part : Span) (c : Place) → StaysSound small s s2
    → IsSoundPlace small s2 (ternary_place s span) → IsSoundPlace small s2 c → s.env.next_block < s2.env.next_block
    → (small → IsSmallSpan span) → (small → IsSmallSpan part) → StaysSound small s2 (ternary_consequent (ternary_at s span) s2 c part)
ternary_consequent_sound small s s2 span part c before place value room at part_at =
    sound_next small s2 stored _ storing
    (sound_next_hole small stored s.env.next_block gotos.Break part block.Value
    (λ fits. omega (arith, room, storing.counters.blocks, fits.blocks)) part_at)
  where
    stored : State
    stored = stored_in s2 (ternary_place s span) c span

    storing : StaysSound small s2 stored
    storing = sound_stored small s2 (ternary_place s span) c span place value at

ternary_alternated_sound : (small : Type 0) (s s2 s3 : State) (span part other : Span) (c a : Place) → StaysSound small s s3
    → IsSoundPlace small s3 (ternary_place s span) → IsSoundPlace small s3 a → s.env.next_block + 1 < s3.env.next_block
    → (small → IsSmallSpan span) → (small → IsSmallSpan other)
    → StaysSound small s (ternary_alternated (ternary_parted (ternary_at s span) s2 c part) s3 a other)
    × CountersGrow s3 (ternary_alternated (ternary_parted (ternary_at s span) s2 c part) s3 a other)
ternary_alternated_sound small s s2 s3 span part other c a before place value room at other_at = (
  sound_ended small s jumped (ends_by (kinds.Ternary (block_id (n + 1)) (block_id n)) (Some span))
      (new_block (n + 1) block.Value) back (none_known (length jumped.env.identifiers))
      (λ holds fits w. ternary_writable (n + 1) n span (omega (arith, more, fits.blocks)) (omega (arith, more, fits.blocks)) (at holds))
      (λ fits w. empty_writable (n + 1) block.Value (omega (arith, more, fits.blocks))),
  record {
    blocks = storing.counters.blocks;
    types = storing.counters.types;
    identifiers = storing.counters.identifiers;
    instructions = storing.counters.instructions;
  },
)
  where
    n : ℕ
    n = s.env.next_block

    stored : State
    stored = stored_in s3 (ternary_place s span) a span

    storing : StaysSound small s3 stored
    storing = sound_stored small s3 (ternary_place s span) a span place value at

    more : n + 1 < stored.env.next_block
    more = omega (arith, room, storing.counters.blocks)

    jumped : State
    jumped = last_hole stored n gotos.Break other s.current

    back : StaysSound small s jumped
    back =
        sound_last_hole small s stored n gotos.Break other (sound_next small s s3 stored before storing)
        (λ fits. omega (arith, more, fits.blocks)) other_at

pub ternary_sound : (small : Type 0) (s s2 s3 s4 : State) (span part other : Span) (c a p : Place) → (small → IsSmallSpan span)
    → (small → IsSmallSpan part) → (small → IsSmallSpan other) → StaysSound small (ternary_begun s span) s2
    → IsSoundPlace small s2 c → StaysSound small (ternary_consequent (ternary_at s span) s2 c part) s3 → IsSoundPlace small s3 a
    → StaysSound small (ternary_alternated (ternary_parted (ternary_at s span) s2 c part) s3 a other) s4 → IsSoundPlace small s4 p
    → StaysSound small s (ternary_ended (ternary_after (ternary_parted (ternary_at s span) s2 c part)) s4 p)
    × IsSoundPlace small (ternary_ended (ternary_after (ternary_parted (ternary_at s span) s2 c part)) s4 p) (ternary_place s span)
ternary_sound small s s2 s3 s4 span part other c a p at part_at other_at first c_place second a_place third p_place = (
  sound_branched small s s4 p (n + 1 + 1) (ternary_parted (ternary_at s span) s2 c part).alternate n s.current.kind span
      (sound_next small s _ s4 alternated.0 third) p_place (omega (arith, room4)) (omega (arith, opened)) (omega (arith, room4)) at,
  place_grown small s4 _ (ternary_place s span)
      (grows_completed s4 (branch p (n + 1 + 1) (ternary_parted (ternary_at s span) s2 c part).alternate n span)
      (new_block n s.current.kind))
      (place_grown small s3 s4 (ternary_place s span) end (place_grown small s2 s3 (ternary_place s span) middle place2)),
)
  where
    n : ℕ
    n = s.env.next_block

    begun : StaysSound small s (ternary_begun s span) × IsSoundPlace small (ternary_begun s span) (ternary_place s span)
    begun = ternary_begun_sound small s span at

    place2 : IsSoundPlace small s2 (ternary_place s span)
    place2 = place_next small (ternary_begun s span) s2 (ternary_place s span) first begun.1

    before : StaysSound small s s2
    before = sound_next small s _ s2 begun.0 first

    room2 : n + 1 + 1 < s2.env.next_block
    room2 = omega (arith, first.counters.blocks)

    hole : StaysSound small s2 (ternary_consequent (ternary_at s span) s2 c part)
    hole = ternary_consequent_sound small s s2 span part c before place2 c_place (omega (arith, room2)) at part_at

    middle : CountersGrow s2 s3
    middle = counters_then s2 _ s3 hole.counters second.counters

    room3 : n + 1 + 1 < s3.env.next_block
    room3 = omega (arith, room2, middle.blocks)

    reached : (ternary_parted (ternary_at s span) s2 c part).alternate + 1 ≤ s3.env.next_block
    reached = second.counters.blocks

    alternated : StaysSound small s (ternary_alternated (ternary_parted (ternary_at s span) s2 c part) s3 a other)
        × CountersGrow s3 (ternary_alternated (ternary_parted (ternary_at s span) s2 c part) s3 a other)
    alternated =
        ternary_alternated_sound small s s2 s3 span part other c a
        (sound_next small s s2 s3 before (sound_next small s2 _ s3 hole second))
        (place_grown small s2 s3 (ternary_place s span) middle place2) a_place (omega (arith, room3)) at other_at

    end : CountersGrow s3 s4
    end = counters_then s3 _ s4 alternated.1 third.counters

    room4 : n + 1 + 1 < s4.env.next_block
    room4 = omega (arith, room3, end.blocks)

    opened : (ternary_parted (ternary_at s span) s2 c part).alternate + 1 ≤ s4.env.next_block
    opened = omega (arith, reached, end.blocks)

-- A sequence of expressions

pub sequence_sound : (small : Type 0) (s s2 : State) (span part : Span) (p : Place) → (small → IsSmallSpan span)
    → (small → IsSmallSpan part) → StaysSound small (sequence_begun s span) s2 → IsSoundPlace small s2 p
    → StaysSound small s (sequence_ended (sequence_at s span) s2 p part)
    × IsSoundPlace small (sequence_ended (sequence_at s span) s2 p part) (sequence_place s span)
sequence_sound small s s2 span part p at part_at hole value = (
  sound_ended small s jumped (ends_by (kinds.Sequence (block_id (n + 1)) (block_id n)) (Some span))
      (new_block n s.current.kind) back (none_known (length jumped.env.identifiers))
      (λ holds fits w. sequence_writable (n + 1) n span (omega (arith, more, fits.blocks)) (omega (arith, more, fits.blocks)) (at holds))
      (λ fits w. empty_writable n s.current.kind (omega (arith, more, fits.blocks))),
  place_grown small s2 _ (sequence_place s span)
      (record {
        blocks = storing.counters.blocks;
        types = storing.counters.types;
        identifiers = storing.counters.identifiers;
        instructions = storing.counters.instructions;
      }) place2,
)
  where
    n : ℕ
    n = s.env.next_block

    made : State
    made = with_temporary (reserved s) (Some span)

    begun : StaysSound small s (sequence_begun s span)
    begun =
        sound_next small s (reserved s) _ (sound_reserved small s)
        (sound_next small (reserved s) made _ (sound_temporary small (reserved s) (Some span) (λ holds. span_writable span (at holds)))
        (sound_next small made (reserved made) _ (sound_reserved small made)
        (sound_entered small (reserved made) (new_block (n + 1) block.Sequence)
        (λ fits. empty_writable (n + 1) block.Sequence (omega (arith, fits.blocks))))))

    place2 : IsSoundPlace small s2 (sequence_place s span)
    place2 =
        place_next small (sequence_begun s span) s2 (sequence_place s span) hole
        (place_made small (sequence_begun s span) (length s.env.identifiers) span
        (omega (arith, identifiers_longer (reserved s) (Some span))) at)

    stored : State
    stored = stored_in s2 (sequence_place s span) p part

    storing : StaysSound small s2 stored
    storing = sound_stored small s2 (sequence_place s span) p part place2 value part_at

    more : n + 1 < stored.env.next_block
    more = omega (arith, hole.counters.blocks, storing.counters.blocks)

    jumped : State
    jumped = last_hole stored n gotos.Break part s.current

    back : StaysSound small s jumped
    back =
        sound_last_hole small s stored n gotos.Break part
        (sound_next small s s2 stored (sound_next small s _ s2 begun hole) storing)
        (λ fits. omega (arith, more, fits.blocks)) part_at

-- An `if` statement

if_begun_sound : (small : Type 0) (s : State) → StaysSound small s (if_begun s)
if_begun_sound small s =
    sound_next small s (reserved (reserved s)) _ (sound_two small s)
    (sound_entered small (reserved (reserved s)) (new_block (s.env.next_block + 1) block.Block)
    (λ fits. empty_writable (s.env.next_block + 1) block.Block (omega (arith, fits.blocks))))

-- The hole of the test ends, and the block behind goes on.
if_end_sound : (small : Type 0) (old s : State) (test : Place) (consequent alternate behind : ℕ) (span : Span)
    → StaysSound small old s → IsSoundPlace small s test → consequent < s.env.next_block → alternate < s.env.next_block
    → behind < s.env.next_block → (small → IsSmallSpan span)
    → StaysSound small old (completed_by s (if_end behind consequent alternate test span) (new_block behind block.Block))
if_end_sound small old s test consequent alternate behind span before place first second third at =
    sound_ended small old s (if_end behind consequent alternate test span) (new_block behind block.Block) before
    (one_known (length s.env.identifiers) test place.known)
    (λ holds fits w.
    if_writable test consequent alternate behind span (place.writable holds fits) (omega (arith, first, fits.blocks))
    (omega (arith, second, fits.blocks)) (omega (arith, third, fits.blocks)) (at holds))
    (λ fits w. empty_writable behind block.Block (omega (arith, third, fits.blocks)))

pub if_then_sound : (small : Type 0) (s s2 s3 : State) (span part : Span) (p : Place) → (small → IsSmallSpan span)
    → (small → IsSmallSpan part) → StaysSound small (if_begun s) s2
    → StaysSound small (if_consequent (if_at s span false) s2 part) s3 → IsSoundPlace small s3 p
    → StaysSound small s (if_ended (if_after_consequent (if_at s span false) s2) s3 p)
if_then_sound small s s2 s3 span part p at part_at first second p_place =
    if_end_sound small s s3 p (n + 1) n n span (sound_next small s _ s3 back second) p_place (omega (arith, room3))
    (omega (arith, room3)) (omega (arith, room3)) at
  where
    n : ℕ
    n = s.env.next_block

    room2 : n + 1 < s2.env.next_block
    room2 = omega (arith, first.counters.blocks)

    back : StaysSound small s (if_consequent (if_at s span false) s2 part)
    back =
        sound_last_hole small s s2 n gotos.Break part (sound_next small s _ s2 (if_begun_sound small s) first)
        (λ fits. omega (arith, room2, fits.blocks)) part_at

    room3 : n + 1 < s3.env.next_block
    room3 = omega (arith, room2, second.counters.blocks)

pub if_else_sound : (small : Type 0) (s s2 s3 s4 : State) (span part other : Span) (p : Place) → (small → IsSmallSpan span)
    → (small → IsSmallSpan part) → (small → IsSmallSpan other) → StaysSound small (if_begun s) s2
    → StaysSound small (if_consequent (if_at s span true) s2 part) s3
    → StaysSound small (if_alternate (if_after_consequent (if_at s span true) s2) s3 other) s4 → IsSoundPlace small s4 p
    → StaysSound small s (if_ended (if_shut (if_after_consequent (if_at s span true) s2)) s4 p)
if_else_sound small s s2 s3 s4 span part other p at part_at other_at first second third p_place =
    if_end_sound small s s4 p (n + 1) s2.env.next_block n span (sound_next small s _ s4 back third) p_place (omega (arith, room4))
    (omega (arith, room4, second.counters.blocks, third.counters.blocks)) (omega (arith, room4)) at
  where
    n : ℕ
    n = s.env.next_block

    room2 : n + 1 < s2.env.next_block
    room2 = omega (arith, first.counters.blocks)

    hole : StaysSound small s2 (if_consequent (if_at s span true) s2 part)
    hole = sound_next_hole small s2 n gotos.Break part block.Block (λ fits. omega (arith, room2, fits.blocks)) part_at

    room3 : n + 1 < s3.env.next_block
    room3 = omega (arith, room2, second.counters.blocks)

    back : StaysSound small s (if_alternate (if_after_consequent (if_at s span true) s2) s3 other)
    back =
        sound_last_hole small s s3 n gotos.Break other
        (sound_next small s s2 s3 (sound_next small s _ s2 (if_begun_sound small s) first) (sound_next small s2 _ s3 hole second))
        (λ fits. omega (arith, room3, fits.blocks)) other_at

    room4 : n + 1 < s4.env.next_block
    room4 = omega (arith, room3, third.counters.blocks)
