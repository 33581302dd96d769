-- A default keeps places known and parts writable, where its hole does.
use Rattle.std.proofs.Common.{ℕ, ◌+◌, ◌<◌, ◌≤◌, length, Some, arith}
use Rattle.rl_base.specs.declared.operator.BinaryOperator.TheVariants as binaries
use Rattle.rl_builder.specs.Builder.{new_block, reserved, with_temporary}
use Rattle.rl_builder.specs.Temporaries.{temporary}
use Rattle.rl_hir.specs.declared.function.BlockKind.TheVariants as block
use Rattle.rl_hir.specs.declared.terminal.GotoVariant.TheVariants as gotos
use Rattle.rl_lowered.proofs.Common.{Place, Span, State}
use Rattle.rl_lowered.proofs.SoundAssignments.{combined_sound, undefined_sound}
use Rattle.rl_lowered.proofs.SoundFrames.{sound_branched, sound_two}
use Rattle.rl_lowered.proofs.SoundListing.{span_writable, ternary_writable}
use Rattle.rl_lowered.proofs.SoundMoves.{counters_then, empty_writable, identifiers_longer, none_known, place_grown}
use Rattle.rl_lowered.proofs.SoundMoves.{place_made, place_next, sound_ended, sound_entered, sound_last_hole, sound_next}
use Rattle.rl_lowered.proofs.SoundMoves.{sound_next_hole, sound_refl, sound_reserved, sound_stored, sound_temporary}
use Rattle.rl_lowered.proofs.SoundValues.{IsSound}
use Rattle.rl_lowered.specs.Sound.{CountersGrow, IsSoundPlace, StaysSound}
use Rattle.rl_optional_frames.specs.Frames.{default_at, default_ended, default_tested}
use Rattle.rl_optional_frames.specs.Parts.{compared, comparison, default_begun, default_end, default_given, default_other}
use Rattle.rl_optional_frames.specs.Parts.{undefined_made}
use Rattle.rl_promises.specs.Locals.{IsSmallSpan}
use Rattle.rl_runs.specs.Moves.{last_hole, stored_in}

-- The hole of the default opens, and the place of the value was made.
default_begun_sound : (small : Type 0) (s : State) (span : Span) → (small → IsSmallSpan span)
    → IsSound small s (default_begun s span) (temporary s (Some span))
default_begun_sound small s span at = (
  sound_next small s made _ (sound_temporary small s (Some span) (λ holds. span_writable span (at holds)))
      (sound_next small made (reserved (reserved made)) _ (sound_two small made)
      (sound_next small (reserved (reserved made)) (reserved (reserved (reserved made))) _ (sound_reserved small (reserved (reserved made)))
      (sound_entered small (reserved (reserved (reserved made))) (new_block (s.env.next_block + 1 + 1) block.Value)
      (λ fits. empty_writable (s.env.next_block + 1 + 1) block.Value (omega (arith, fits.blocks)))))),
  place_made small (default_begun s span) (length s.env.identifiers) span (omega (arith, identifiers_longer s (Some span))) at,
)
  where
    made : State
    made = with_temporary s (Some span)

-- From the hole of the default on.
module _ (small : Type 0) (s s2 : State) (default value : Place) (span : Span) (at : small → IsSmallSpan span)
    (given : IsSoundPlace small s value) (hole : StaysSound small (default_begun s span) s2) (made : IsSoundPlace small s2 default) where
  abbrev n : ℕ
  n = s.env.next_block

  abbrev f : ℕ
  f = n + 1

  abbrev place : Place
  place = temporary s (Some span)

  abbrev valued : State
  valued = stored_in s2 place default span

  abbrev between : State
  between = default_given s2 f place default span

  abbrev other : State
  other = stored_in between place value span

  abbrev gone : State
  gone = last_hole other f gotos.Break span s.current

  abbrev tested : State
  tested = default_tested (default_at s span value) s2 default

  abbrev undefined : State
  undefined = undefined_made tested span

  abbrev met : State
  met = compared tested value span

  abbrev ended : State
  ended = default_ended (default_at s span value) s2 default

  begun : IsSound small s (default_begun s span) place
  begun = default_begun_sound small s span at

  before : StaysSound small s s2
  before = sound_next small s (default_begun s span) s2 begun.0 hole

  own : IsSoundPlace small s2 place
  own = place_next small (default_begun s span) s2 place hole begun.1

  room : n + 1 + 1 < s2.env.next_block
  room = omega (arith, hole.counters.blocks)

  storing : StaysSound small s2 valued
  storing = sound_stored small s2 place default span own made at

  giving : StaysSound small valued between
  giving =
      sound_next_hole small valued f gotos.Break span block.Value (λ fits. omega (arith, room, storing.counters.blocks, fits.blocks)) at

  to_between : StaysSound small s between
  to_between = sound_next small s s2 between before (sound_next small s2 valued between storing giving)

  own_between : IsSoundPlace small between place
  own_between = place_next small s2 between place (sound_next small s2 valued between storing giving) own

  second : StaysSound small between other
  second = sound_stored small between place value span own_between (place_next small s between value to_between given) at

  -- The blocks were numbered that the frame names.
  more : valued.env.next_block + 1 ≤ other.env.next_block
  more = second.counters.blocks

  enough : n + 1 + 1 < other.env.next_block
  enough = omega (arith, room, storing.counters.blocks, more)

  back : StaysSound small s gone
  back =
      sound_last_hole small s other f gotos.Break span (sound_next small s between other to_between second)
      (λ fits. omega (arith, enough, fits.blocks)) at

  test : StaysSound small s tested
  test =
      sound_ended small s gone (default_end n f span) (new_block n block.Value) back (none_known (length gone.env.identifiers))
      (λ holds fits w. ternary_writable n f span (omega (arith, enough, fits.blocks)) (omega (arith, enough, fits.blocks)) (at holds))
      (λ fits w. empty_writable n block.Value (omega (arith, enough, fits.blocks)))

  undefining : IsSound small tested undefined (temporary tested (Some span))
  undefining = undefined_sound small tested tested span (sound_refl small tested) at

  to_undefined : StaysSound small s undefined
  to_undefined = sound_next small s tested undefined test undefining.0

  comparing : IsSound small undefined met (comparison tested span)
  comparing =
      combined_sound small undefined undefined binaries.StrictEquality value (temporary tested (Some span)) span
      (sound_refl small undefined) (place_next small s undefined value to_undefined given) undefining.1 at

  grown : CountersGrow tested met
  grown = counters_then tested undefined met undefining.0.counters comparing.0.counters

  -- The place has the value, or the default.
  pub default_sound : IsSound small s (default_ended (default_at s span value) s2 default) (temporary s (Some span))
  default_sound = (
    sound_branched small s met (comparison tested span) (n + 1 + 1) (default_other s2 place default span) f s.current.kind span
        (sound_next small s undefined met to_undefined comparing.0) comparing.1 (omega (arith, enough, grown.blocks))
        (omega (arith, more, grown.blocks)) (omega (arith, enough, grown.blocks)) at,
    place_grown small other ended place
        (record { blocks = grown.blocks; types = grown.types; identifiers = grown.identifiers; instructions = grown.instructions })
        (place_next small between other place second own_between),
  )
