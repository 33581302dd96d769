-- Loops over keys or values keep places known and parts writable, where their holes do.
use Rattle.std.proofs.Common.{ℕ, ◌+◌, ◌-◌, ◌<◌, [], ◌∷◌, Some, length, arith}
use Rattle.std.proofs.lemmas.List.Elements.{All-cons, All-push, All-take}
use Rattle.rl_builder.specs.Builder.{entered, new_block, reserved}
use Rattle.rl_builder.specs.declared.jumps.JumpScope.TheVariants as scope
use Rattle.rl_builder.specs.Temporaries.{with_value}
use Rattle.rl_frames.specs.Parts.{forin_begun, forin_end, forof_begun, forof_end}
use Rattle.rl_frames.specs.Rounds.{forin_at, forin_headed, forin_righted, forof_after, forof_at, forof_bodied, forof_ended, forof_headed}
use Rattle.rl_frames.specs.Rounds.{forof_iterator, forof_righted, forof_shut, forof_tested, rounds_bodied, rounds_ended, rounds_opened}
use Rattle.rl_frames.specs.Rounds.{rounds_shut}
use Rattle.rl_hir.specs.Listing as listing
use Rattle.rl_hir.specs.declared.function.BlockKind.TheVariants as block
use Rattle.rl_hir.specs.declared.instruction.InstructionValue.TheVariants as values
use Rattle.rl_hir.specs.declared.terminal.GotoVariant.TheVariants as gotos
use Rattle.rl_lowered.proofs.Common.{Place, Span, State}
use Rattle.rl_lowered.proofs.SoundForms.{item_step_writable, iterator_writable, key_step_writable}
use Rattle.rl_lowered.proofs.SoundListing.{forin_writable, forof_writable, goto_end_writable, span_writable}
use Rattle.rl_lowered.proofs.SoundLoops.{sound_tested, sound_three}
use Rattle.rl_lowered.proofs.SoundMoves.{empty_writable, grows_completed, none_known, one_known, place_grown, place_next, sound_ended}
use Rattle.rl_lowered.proofs.SoundMoves.{sound_entered, sound_last_hole, sound_next, sound_refl, sound_reserved, sound_scopes, sound_value}
use Rattle.rl_lowered.proofs.SoundMoves.{value_place}
use Rattle.rl_lowered.specs.Sound.{HasSmallTargets, IsSoundPlace, StaysSound}
use Rattle.rl_model.specs.Actions.{Label}
use Rattle.rl_promises.specs.Locals.{IsSmallSpan}
use Rattle.rl_runs.specs.Moves.{block_id, goto, last_hole, without_scope}
use Rattle.rl_text.specs.Notation.{IsWritable}

-- The hole of the body opens.

forin_begun_sound : (small : Type 0) (s : State) (own : Label) → StaysSound small s (forin_begun s own)
forin_begun_sound small s own =
    let three : State = reserved (reserved (reserved s)) in
    let opened : State = entered three (new_block (s.env.next_block + 1 + 1) block.Block) in
    sound_next small s three _ (sound_three small s)
    (sound_next small three opened _
    (sound_entered small three (new_block (s.env.next_block + 1 + 1) block.Block)
    (λ fits. empty_writable (s.env.next_block + 1 + 1) block.Block (omega (arith, fits.blocks))))
    (sound_scopes small opened (forin_begun s own).scopes
    (λ fits all. All-push HasSmallTargets s.scopes (scope.Loop own (block_id (s.env.next_block + 1)) (block_id s.env.next_block)) all
    (omega (arith, fits.blocks), omega (arith, fits.blocks)))))

forof_begun_sound : (small : Type 0) (s : State) (own : Label) → StaysSound small s (forof_begun s own)
forof_begun_sound small s own =
    let three : State = reserved (reserved (reserved s)) in
    let four : State = reserved three in
    let opened : State = entered four (new_block (s.env.next_block + 1 + 1 + 1) block.Block) in
    sound_next small s three _ (sound_three small s)
    (sound_next small three four _ (sound_reserved small three)
    (sound_next small four opened _
    (sound_entered small four (new_block (s.env.next_block + 1 + 1 + 1) block.Block)
    (λ fits. empty_writable (s.env.next_block + 1 + 1 + 1) block.Block (omega (arith, fits.blocks))))
    (sound_scopes small opened (forof_begun s own).scopes
    (λ fits all. All-push HasSmallTargets s.scopes (scope.Loop own (block_id (s.env.next_block + 1)) (block_id s.env.next_block)) all
    (omega (arith, fits.blocks), omega (arith, fits.blocks))))))

-- It ends, and the block goes on that was set aside.
sound_left : (small : Type 0) (s s2 : State) (again : ℕ) (part : Span) → StaysSound small s s2 → again < s2.env.next_block
    → (small → IsSmallSpan part) → StaysSound small s (last_hole (without_scope s2) again gotos.Continue part s.current)
sound_left small s s2 again part before room part_at =
    let left : State = without_scope s2 in
    sound_last_hole small s left again gotos.Continue part
    (sound_next small s s2 left before
    (sound_scopes small s2 left.scopes (λ fits all. All-take HasSmallTargets (length s2.scopes - 1) s2.scopes all)))
    (λ fits. omega (arith, room, fits.blocks)) part_at

-- A `for`-`in` loop
pub forin_sound : (small : Type 0) (s s2 s3 s4 : State) (own : Label) (span part left : Span) (collection p : Place)
    → (small → IsSmallSpan span) → (small → IsSmallSpan part) → (small → IsSmallSpan left) → StaysSound small (forin_begun s own) s2
    → StaysSound small (rounds_bodied (forin_at s span) s2 part) s3 → IsSoundPlace small s3 collection
    → StaysSound small (forin_righted (rounds_shut (forin_at s span)) s3 left collection) s4 → IsSoundPlace small s4 p
    → StaysSound small s (rounds_ended (rounds_opened (rounds_shut (forin_at s span))) s4 p)
forin_sound small s s2 s3 s4 own span part left collection p at part_at left_at first second place third test =
    sound_tested small s s4 p (n + 1 + 1) n n span (sound_next small s righted s4 stepped third) test
    (omega (arith, room3, stepping.counters.blocks, third.counters.blocks))
    (omega (arith, room3, stepping.counters.blocks, third.counters.blocks))
    (omega (arith, room3, stepping.counters.blocks, third.counters.blocks)) at
  where
    n : ℕ
    n = s.env.next_block

    headed : State
    headed = forin_headed (rounds_shut (forin_at s span)) s3

    righted : State
    righted = forin_righted (rounds_shut (forin_at s span)) s3 left collection

    room2 : n + 1 + 1 < s2.env.next_block
    room2 = omega (arith, first.counters.blocks)

    room3 : n + 1 + 1 < s3.env.next_block
    room3 = omega (arith, room2, second.counters.blocks)

    in_right : StaysSound small s s3
    in_right =
        sound_next small s (rounds_bodied (forin_at s span) s2 part) s3
        (sound_left small s s2 (n + 1) part (sound_next small s _ s2 (forin_begun_sound small s own) first) (omega (arith, room2)) part_at)
        second

    in_init : StaysSound small s headed
    in_init =
        sound_ended small s s3 (forin_end n span) (new_block (n + 1) block.Loop) in_right (none_known (length s3.env.identifiers))
        (λ holds fits w. forin_writable (n + 1) (n + 1 + 1) n span (omega (arith, room3, fits.blocks)) (omega (arith, room3, fits.blocks))
        (omega (arith, room3, fits.blocks)) (at holds))
        (λ fits w. empty_writable (n + 1) block.Loop (omega (arith, room3, fits.blocks)))

    known : IsSoundPlace small headed collection
    known = place_grown small s3 headed collection (grows_completed s3 (forin_end n span) (new_block (n + 1) block.Loop)) place

    stepping : StaysSound small headed righted
    stepping =
        sound_value small headed (values.NextPropertyOf collection) (Some left)
        (one_known (length headed.env.identifiers) collection known.known)
        (λ holds fits. key_step_writable collection (known.writable holds fits)) (λ holds. span_writable left (left_at holds))

    stepped : StaysSound small s righted
    stepped = sound_next small s headed righted in_init stepping

-- A `for`-`of` loop
pub forof_sound : (small : Type 0) (s s2 s3 s4 : State) (own : Label) (span part left : Span) (collection p : Place)
    → (small → IsSmallSpan span) → (small → IsSmallSpan part) → (small → IsSmallSpan left)
    → (small → IsWritable (listing.optional listing.span collection.span)) → StaysSound small (forof_begun s own) s2
    → StaysSound small (forof_bodied (forof_at s span) s2 part) s3 → IsSoundPlace small s3 collection
    → StaysSound small (forof_righted (forof_shut (forof_at s span)) s3 left collection) s4 → IsSoundPlace small s4 p
    → StaysSound small s (forof_ended (forof_after (forof_shut (forof_at s span))) s4 p)
forof_sound small s s2 s3 s4 own span part left collection p at part_at left_at from_at first second place third test =
    sound_tested small s s4 p (n + 1 + 1 + 1) n n span (sound_next small s righted s4 stepped third) test
    (omega (arith, room3, opening.counters.blocks, stepping.counters.blocks, third.counters.blocks))
    (omega (arith, room3, opening.counters.blocks, stepping.counters.blocks, third.counters.blocks))
    (omega (arith, room3, opening.counters.blocks, stepping.counters.blocks, third.counters.blocks)) at
  where
    n : ℕ
    n = s.env.next_block

    headed : State
    headed = forof_headed (forof_shut (forof_at s span)) s3

    opened : State
    opened = with_value headed (values.GetIterator collection) collection.span

    tested : State
    tested = forof_tested (forof_shut (forof_at s span)) s3 collection

    righted : State
    righted = forof_righted (forof_shut (forof_at s span)) s3 left collection

    iterator : Place
    iterator = forof_iterator (forof_shut (forof_at s span)) s3 collection

    room2 : n + 1 + 1 + 1 < s2.env.next_block
    room2 = omega (arith, first.counters.blocks)

    room3 : n + 1 + 1 + 1 < s3.env.next_block
    room3 = omega (arith, room2, second.counters.blocks)

    in_right : StaysSound small s s3
    in_right =
        sound_next small s (forof_bodied (forof_at s span) s2 part) s3
        (sound_left small s s2 (n + 1) part (sound_next small s _ s2 (forof_begun_sound small s own) first) (omega (arith, room2)) part_at)
        second

    in_init : StaysSound small s headed
    in_init =
        sound_ended small s s3 (forof_end n span) (new_block (n + 1) block.Loop) in_right (none_known (length s3.env.identifiers))
        (λ holds fits w. forof_writable (n + 1) (n + 1 + 1) (n + 1 + 1 + 1) n span (omega (arith, room3, fits.blocks))
        (omega (arith, room3, fits.blocks)) (omega (arith, room3, fits.blocks)) (omega (arith, room3, fits.blocks)) (at holds))
        (λ fits w. empty_writable (n + 1) block.Loop (omega (arith, room3, fits.blocks)))

    known : IsSoundPlace small headed collection
    known = place_grown small s3 headed collection (grows_completed s3 (forof_end n span) (new_block (n + 1) block.Loop)) place

    opening : StaysSound small headed opened
    opening =
        sound_value small headed (values.GetIterator collection) collection.span
        (one_known (length headed.env.identifiers) collection known.known)
        (λ holds fits. iterator_writable collection (known.writable holds fits)) from_at

    iterator_made : IsSoundPlace small opened iterator
    iterator_made =
        value_place small headed (values.GetIterator collection) collection.span
        (one_known (length headed.env.identifiers) collection known.known)
        (λ holds fits. iterator_writable collection (known.writable holds fits)) from_at

    testing : StaysSound small opened tested
    testing =
        sound_ended small opened opened (goto (n + 1 + 1) gotos.Break span) (new_block (n + 1 + 1) block.Loop) (sound_refl small opened)
        (none_known (length opened.env.identifiers))
        (λ holds fits w.
        goto_end_writable (n + 1 + 1) gotos.Break span (omega (arith, room3, opening.counters.blocks, fits.blocks)) (at holds))
        (λ fits w. empty_writable (n + 1 + 1) block.Loop (omega (arith, room3, opening.counters.blocks, fits.blocks)))

    iterator_known : IsSoundPlace small tested iterator
    iterator_known = place_next small opened tested iterator testing iterator_made

    collection_known : IsSoundPlace small tested collection
    collection_known = place_next small opened tested collection testing (place_next small headed opened collection opening known)

    stepping : StaysSound small tested righted
    stepping =
        sound_value small tested (values.IteratorNext iterator collection) (Some left)
        (All-cons (λ (q : Place). q.identifier.0 < length tested.env.identifiers) iterator (collection ∷ []) iterator_known.known
        (one_known (length tested.env.identifiers) collection collection_known.known))
        (λ holds fits. item_step_writable iterator collection (iterator_known.writable holds fits) (collection_known.writable holds fits))
        (λ holds. span_writable left (left_at holds))

    stepped : StaysSound small s righted
    stepped =
        sound_next small s headed righted in_init
        (sound_next small headed opened righted opening (sound_next small opened tested righted testing stepping))
