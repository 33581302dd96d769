-- Loops and labelled statements keep places known and parts writable, where their holes do.
use Rattle.std.proofs.Common.{◌≡◌, ℕ, ◌+◌, ◌-◌, ◌<◌, ◌≤◌, true, false, [], List, All, Some, Ok, length, slice_get, subst, arith}
use Rattle.std.proofs.lemmas.List.Elements.{All-get_or, All-push, All-take}
use Rattle.std.proofs.lemmas.Option.{get_or_from_slice_get, slice_get_within}
use Rattle.rl_builder.specs.Builder.{completed_by, entered, new_block, reserved}
use Rattle.rl_builder.specs.declared.jumps.JumpScope.{JumpScope}
use Rattle.rl_builder.specs.declared.jumps.JumpScope.TheVariants as scope
use Rattle.rl_builder.specs.Jumps.{break_block_of, continue_block_of, lookup_break, lookup_continue}
use Rattle.rl_frames.specs.Frames.{ForParts, for_after, for_after_init, for_after_update, for_again, for_at, for_bodied, for_ended}
use Rattle.rl_frames.specs.Frames.{for_inited, for_opened, for_updated}
use Rattle.rl_frames.specs.Frames.{do_while_bodied, label_at, label_ended, while_after, while_at, while_bodied, while_ended}
use Rattle.rl_frames.specs.Parts.{do_while_end, for_begun, for_end, label_begun, label_end, label_scope, while_begun, while_end}
use Rattle.rl_frames.specs.Parts.{while_scope}
use Rattle.rl_hir.specs.Listing as listing
use Rattle.rl_hir.specs.declared.function.BlockKind.{BlockKind}
use Rattle.rl_hir.specs.declared.function.BlockKind.TheVariants as block
use Rattle.rl_hir.specs.declared.terminal.GotoVariant.{GotoVariant}
use Rattle.rl_hir.specs.declared.terminal.GotoVariant.TheVariants as gotos
use Rattle.rl_hir.specs.declared.terminal.Terminal.{Terminal}
use Rattle.rl_lowered.proofs.Common.{BlockId, Place, Span, State}
use Rattle.rl_lowered.specs.Sound.{CountersGrow, HasSmallCounters, HasSmallTargets, IsSoundPlace, StaysSound}
use Rattle.rl_lowered.proofs.SoundListing.{branch_writable, do_while_writable, for_writable, goto_end_writable, label_writable}
use Rattle.rl_lowered.proofs.SoundListing.{while_writable}
use Rattle.rl_lowered.proofs.SoundMoves.{counters_before, empty_writable, none_known, one_known, sound_ended, sound_entered}
use Rattle.rl_lowered.proofs.SoundMoves.{sound_last_hole, sound_next, sound_next_hole, sound_reserved, sound_scopes}
use Rattle.rl_model.specs.Actions.{Label}
use Rattle.rl_model.specs.WellFormed.{AreKnown, terminal_places}
use Rattle.rl_promises.specs.Locals.{IsSmallSpan}
use Rattle.rl_runs.proofs.Naming.{break_is_target, continue_is_target}
use Rattle.rl_runs.specs.Blocks.{ByBreak, ByContinue, ByHandler, IsTarget}
use Rattle.rl_runs.specs.Moves.{branch, goto, last_hole, next_hole, without_scope}
use Rattle.rl_text.specs.Notation.{IsWritable}
use Rattle.rl_text.specs.Number.{largest}

-- A block opens behind some that were numbered.

sound_two_opened : (small : Type 0) (s : State)
    → StaysSound small s (entered (reserved (reserved s)) (new_block (s.env.next_block + 1) block.Block))
sound_two_opened small s =
    sound_next small s (reserved s) _ (sound_reserved small s)
    (sound_next small (reserved s) (reserved (reserved s)) _ (sound_reserved small (reserved s))
    (sound_entered small (reserved (reserved s)) (new_block (s.env.next_block + 1) block.Block)
    (λ fits. empty_writable (s.env.next_block + 1) block.Block (omega (arith, fits.blocks)))))

pub sound_three : (small : Type 0) (s : State) → StaysSound small s (reserved (reserved (reserved s)))
sound_three small s =
    sound_next small s (reserved s) _ (sound_reserved small s)
    (sound_next small (reserved s) (reserved (reserved s)) _ (sound_reserved small (reserved s))
    (sound_reserved small (reserved (reserved s))))

while_begun_sound : (small : Type 0) (s : State) (own : Label) → StaysSound small s (while_begun s own)
while_begun_sound small s own =
    let three : State = reserved (reserved (reserved s)) in
    let opened : State = entered three (new_block (s.env.next_block + 1 + 1) block.Block) in
    sound_next small s three _ (sound_three small s)
    (sound_next small three opened _
    (sound_entered small three (new_block (s.env.next_block + 1 + 1) block.Block)
    (λ fits. empty_writable (s.env.next_block + 1 + 1) block.Block (omega (arith, fits.blocks))))
    (sound_scopes small opened (while_begun s own).scopes
    (λ fits all. All-push HasSmallTargets s.scopes (while_scope s own) all (omega (arith, fits.blocks), omega (arith, fits.blocks)))))

for_begun_sound : (small : Type 0) (s : State) → StaysSound small s (for_begun s)
for_begun_sound small s =
    let three : State = reserved (reserved (reserved s)) in
    sound_next small s three _ (sound_three small s)
    (sound_entered small three (new_block (s.env.next_block + 1 + 1) block.Loop)
    (λ fits. empty_writable (s.env.next_block + 1 + 1) block.Loop (omega (arith, fits.blocks))))

-- The hole of a body ends, and the block that was set aside ends by the terminal `end`, which reads no place.
sound_scope_ended : (small : Type 0) (s s2 : State) (again : ℕ) (variant : GotoVariant) (part : Span) (end : Terminal) (next : ℕ)
    → StaysSound small s s2 → again < s2.env.next_block → next < s2.env.next_block → (small → IsSmallSpan part)
    → ((count : ℕ) → AreKnown count (terminal_places end))
    → (small → HasSmallCounters s2 → IsWritable (listing.terminal end))
    → StaysSound small s (completed_by (last_hole (without_scope s2) again variant part s.current) end (new_block next block.Loop))
    × StaysSound small s (completed_by (last_hole (without_scope s2) again variant part s.current) end (new_block next block.Block))
sound_scope_ended small s s2 again variant part end next before first second part_at places terminal =
    (ended block.Loop, ended block.Block)
  where
    left : State
    left = without_scope s2

    gone : State
    gone = last_hole left again variant part s.current

    grows : CountersGrow s2 gone
    grows = record { blocks = omega arith; types = omega arith; identifiers = omega arith; instructions = omega arith }

    back : StaysSound small s gone
    back =
        sound_last_hole small s left again variant part (sound_next small s s2 left before
        (sound_scopes small s2 left.scopes (λ fits all. All-take HasSmallTargets (length s2.scopes - 1) s2.scopes all)))
        (λ fits. omega (arith, first, fits.blocks)) part_at

    ended : (kind : BlockKind) → StaysSound small s (completed_by gone end (new_block next kind))
    ended kind =
        sound_ended small s gone end (new_block next kind) back (places (length gone.env.identifiers))
        (λ holds fits w. terminal holds (counters_before s2 gone grows fits))
        (λ fits w. empty_writable next kind (omega (arith, second, fits.blocks)))

-- The hole of a test ends, and the block behind the loop goes on.
pub sound_tested : (small : Type 0) (old s : State) (test : Place) (body behind note : ℕ) (span : Span) → StaysSound small old s
    → IsSoundPlace small s test → body < s.env.next_block → behind < s.env.next_block → note < s.env.next_block → (small → IsSmallSpan span)
    → StaysSound small old (completed_by s (branch test body behind note span) (new_block behind block.Block))
sound_tested small old s test body behind note span before place first second third at =
    sound_ended small old s (branch test body behind note span) (new_block behind block.Block) before
    (one_known (length s.env.identifiers) test place.known)
    (λ holds fits w.
    branch_writable test body behind note span (place.writable holds fits) (omega (arith, first, fits.blocks))
    (omega (arith, second, fits.blocks)) (omega (arith, third, fits.blocks)) (at holds))
    (λ fits w. empty_writable behind block.Block (omega (arith, second, fits.blocks)))

-- A `while` loop, and a `do`-`while` loop

pub while_sound : (small : Type 0) (s s2 s3 : State) (own : Label) (span part : Span) (p : Place) → (small → IsSmallSpan span)
    → (small → IsSmallSpan part) → StaysSound small (while_begun s own) s2
    → StaysSound small (while_bodied (while_at s span) s2 part) s3 → IsSoundPlace small s3 p
    → StaysSound small s (while_ended (while_after (while_at s span)) s3 p)
while_sound small s s2 s3 own span part p at part_at first second place =
    sound_tested small s s3 p (n + 1 + 1) (n + 1) n span (sound_next small s _ s3 back second) place (omega (arith, room3))
    (omega (arith, room3)) (omega (arith, room3)) at
  where
    n : ℕ
    n = s.env.next_block

    room2 : n + 1 + 1 < s2.env.next_block
    room2 = omega (arith, first.counters.blocks)

    back : StaysSound small s (while_bodied (while_at s span) s2 part)
    back =
        (sound_scope_ended small s s2 n gotos.Continue part (while_end n span) n
        (sound_next small s _ s2 (while_begun_sound small s own) first) (omega (arith, room2)) (omega (arith, room2)) part_at none_known
        (λ holds fits. while_writable n (n + 1 + 1) (n + 1) span (omega (arith, room2, fits.blocks)) (omega (arith, room2, fits.blocks))
        (omega (arith, room2, fits.blocks)) (at holds))).0

    room3 : n + 1 + 1 < s3.env.next_block
    room3 = omega (arith, room2, second.counters.blocks)

pub do_while_sound : (small : Type 0) (s s2 s3 : State) (own : Label) (span part : Span) (p : Place) → (small → IsSmallSpan span)
    → (small → IsSmallSpan part) → StaysSound small (while_begun s own) s2
    → StaysSound small (do_while_bodied (while_at s span) s2 part) s3 → IsSoundPlace small s3 p
    → StaysSound small s (while_ended (while_after (while_at s span)) s3 p)
do_while_sound small s s2 s3 own span part p at part_at first second place =
    sound_tested small s s3 p (n + 1 + 1) (n + 1) n span (sound_next small s _ s3 back second) place (omega (arith, room3))
    (omega (arith, room3)) (omega (arith, room3)) at
  where
    n : ℕ
    n = s.env.next_block

    room2 : n + 1 + 1 < s2.env.next_block
    room2 = omega (arith, first.counters.blocks)

    back : StaysSound small s (do_while_bodied (while_at s span) s2 part)
    back =
        (sound_scope_ended small s s2 n gotos.Continue part (do_while_end n span) n
        (sound_next small s _ s2 (while_begun_sound small s own) first) (omega (arith, room2)) (omega (arith, room2)) part_at none_known
        (λ holds fits. do_while_writable (n + 1 + 1) n (n + 1) span (omega (arith, room2, fits.blocks)) (omega (arith, room2, fits.blocks))
        (omega (arith, room2, fits.blocks)) (at holds))).0

    room3 : n + 1 + 1 < s3.env.next_block
    room3 = omega (arith, room2, second.counters.blocks)

-- A labelled statement
pub label_sound : (small : Type 0) (s s2 : State) (own : List ℕ) (span part : Span) → (small → IsSmallSpan span)
    → (small → IsSmallSpan part) → StaysSound small (label_begun s own) s2 → StaysSound small s (label_ended (label_at s span) s2 part)
label_sound small s s2 own span part at part_at hole =
    (sound_scope_ended small s s2 n gotos.Break part (label_end n span) n (sound_next small s _ s2 begun hole) (omega (arith, room2))
    (omega (arith, room2)) part_at none_known
    (λ holds fits. label_writable (n + 1) n span (omega (arith, room2, fits.blocks)) (omega (arith, room2, fits.blocks)) (at holds))).1
  where
    n : ℕ
    n = s.env.next_block

    opened : State
    opened = entered (reserved (reserved s)) (new_block (n + 1) block.Block)

    begun : StaysSound small s (label_begun s own)
    begun =
        sound_next small s opened _ (sound_two_opened small s)
        (sound_scopes small opened (label_begun s own).scopes
        (λ fits all. All-push HasSmallTargets s.scopes (label_scope s own) all (omega (arith, fits.blocks))))

    room2 : n + 1 < s2.env.next_block
    room2 = omega (arith, hole.counters.blocks)

-- A `for` loop

-- The hole in front of the body ends, and the body's opens.
for_opened_sound : (small : Type 0) (f : ForParts) (s : State) (part : Span) → f.test < s.env.next_block
    → (for_again f).0 < s.env.next_block → f.behind.id.0 < s.env.next_block → (small → IsSmallSpan part)
    → StaysSound small s (for_opened f s part)
for_opened_sound small f s part room again behind part_at =
    let next : State = next_hole s f.test gotos.Break part block.Block in
    sound_next small s next _
    (sound_next_hole small s f.test gotos.Break part block.Block (λ fits. omega (arith, room, fits.blocks)) part_at)
    (sound_scopes small next (for_opened f s part).scopes
    (λ fits all. All-push HasSmallTargets s.scopes (scope.Loop f.label (for_again f) f.behind.id) all
    (omega (arith, again, fits.blocks), omega (arith, behind, fits.blocks))))

pub for_sound : (small : Type 0) (s s2 s3 s4 s5 : State) (own : Label) (span part other last : Span) (p : Place)
    → (small → IsSmallSpan span) → (small → IsSmallSpan part) → (small → IsSmallSpan other) → (small → IsSmallSpan last) → StaysSound small (for_begun s) s2
    → StaysSound small (for_inited (for_at s span own true) s2 part) s3
    → StaysSound small (for_updated (for_after_init (for_at s span own true) s2) s3 other) s4
    → StaysSound small (for_bodied (for_after_update (for_after_init (for_at s span own true) s2) s3) s4 last) s5 → IsSoundPlace small s5 p
    → StaysSound small s (for_ended (for_after (for_after_update (for_after_init (for_at s span own true) s2) s3)) s5 p)
for_sound small s s2 s3 s4 s5 own span part other last p at part_at other_at last_at first third fourth second place =
    sound_tested small s s5 p h.body (n + 1) (n + 1) span (sound_next small s _ s5 back second) place
    (omega (arith, body, second.counters.blocks)) (omega (arith, room4, second.counters.blocks))
    (omega (arith, room4, second.counters.blocks)) at
  where
    n : ℕ
    n = s.env.next_block

    g : ForParts
    g = for_after_init (for_at s span own true) s2

    h : ForParts
    h = for_after_update g s3

    room2 : n + 1 + 1 < s2.env.next_block
    room2 = omega (arith, first.counters.blocks)

    updating : StaysSound small s2 (for_inited (for_at s span own true) s2 part)
    updating = sound_next_hole small s2 n gotos.Break part block.Loop (λ fits. omega (arith, room2, fits.blocks)) part_at

    room3 : s2.env.next_block + 1 ≤ s3.env.next_block
    room3 = third.counters.blocks

    opened : StaysSound small s3 (for_updated g s3 other)
    opened =
        for_opened_sound small g s3 other (omega (arith, room2, room3)) (omega (arith, room3)) (omega (arith, room2, room3)) other_at

    body : s3.env.next_block + 1 ≤ s4.env.next_block
    body = fourth.counters.blocks

    room4 : n + 1 + 1 < s4.env.next_block
    room4 = omega (arith, room2, room3, body)

    before : StaysSound small s s4
    before =
        sound_next small s _ s4 (for_begun_sound small s)
        (sound_next small _ s2 s4 first
        (sound_next small s2 _ s4 updating (sound_next small _ s3 s4 third (sound_next small s3 _ s4 opened fourth))))

    back : StaysSound small s (for_bodied h s4 last)
    back =
        (sound_scope_ended small s s4 s2.env.next_block gotos.Continue last (for_end n h.update h.body span) n before
        (omega (arith, room3, body)) (omega (arith, room4)) last_at none_known
        (λ holds fits. for_writable (n + 1 + 1) n h.update h.body (n + 1) span (omega (arith, room4, fits.blocks))
        (omega (arith, room4, fits.blocks)) (omega (arith, room3, body, fits.blocks)) (omega (arith, body, fits.blocks))
        (omega (arith, room4, fits.blocks)) (at holds))).0

pub for_plain_sound : (small : Type 0) (s s2 s3 s4 : State) (own : Label) (span part last : Span) (p : Place) → (small → IsSmallSpan span)
    → (small → IsSmallSpan part) → (small → IsSmallSpan last) → StaysSound small (for_begun s) s2
    → StaysSound small (for_inited (for_at s span own false) s2 part) s3
    → StaysSound small (for_bodied (for_after_init (for_at s span own false) s2) s3 last) s4 → IsSoundPlace small s4 p
    → StaysSound small s (for_ended (for_after (for_after_init (for_at s span own false) s2)) s4 p)
for_plain_sound small s s2 s3 s4 own span part last p at part_at last_at first third second place =
    sound_tested small s s4 p g.body (n + 1) (n + 1) span (sound_next small s _ s4 back second) place
    (omega (arith, body, second.counters.blocks)) (omega (arith, room3, second.counters.blocks))
    (omega (arith, room3, second.counters.blocks)) at
  where
    n : ℕ
    n = s.env.next_block

    f : ForParts
    f = for_at s span own false

    g : ForParts
    g = for_after_init f s2

    room2 : n + 1 + 1 < s2.env.next_block
    room2 = omega (arith, first.counters.blocks)

    opened : StaysSound small s2 (for_inited f s2 part)
    opened = for_opened_sound small f s2 part (omega (arith, room2)) (omega (arith, room2)) (omega (arith, room2)) part_at

    body : s2.env.next_block + 1 ≤ s3.env.next_block
    body = third.counters.blocks

    room3 : n + 1 + 1 < s3.env.next_block
    room3 = omega (arith, room2, body)

    before : StaysSound small s s3
    before =
        sound_next small s _ s3 (for_begun_sound small s)
        (sound_next small _ s2 s3 first (sound_next small s2 _ s3 opened third))

    back : StaysSound small s (for_bodied g s3 last)
    back =
        (sound_scope_ended small s s3 n gotos.Continue last (for_end n g.update g.body span) n before (omega (arith, room3))
        (omega (arith, room3)) last_at none_known
        (λ holds fits. for_writable (n + 1 + 1) n g.update g.body (n + 1) span (omega (arith, room3, fits.blocks))
        (omega (arith, room3, fits.blocks)) tt (omega (arith, body, fits.blocks)) (omega (arith, room3, fits.blocks)) (at holds))).0

-- Jumps

behind_small : (x : JumpScope) → HasSmallTargets x → (break_block_of x).0 ≤ largest
behind_small (scope.Loop label again behind) small = small.1
behind_small (scope.Label label behind) small = small
behind_small (scope.Switch label behind) small = small

again_small : (x : JumpScope) (block : BlockId) → continue_block_of x ≡ Ok block → HasSmallTargets x → block.0 ≤ largest
again_small (scope.Loop label again behind) block is small =
    let same : again ≡ block = cc in subst (λ (b : BlockId). b.0 ≤ largest) same small.0
again_small (scope.Label label behind) block is small = absurd (cc)
again_small (scope.Switch label behind) block is small = absurd (cc)

scope_at : (scopes : List JumpScope) → All HasSmallTargets scopes → (index : ℕ) (x : JumpScope) → slice_get scopes index ≡ Some x
    → HasSmallTargets x
scope_at scopes all index x found =
    subst HasSmallTargets (get_or_from_slice_get scopes index x x found)
    (All-get_or HasSmallTargets scopes index x (slice_get_within scopes index x found) all)

target_small : (scopes : List JumpScope) → All HasSmallTargets scopes → (id : ℕ) → IsTarget [] scopes id → id ≤ largest
target_small scopes all id (ByHandler index block found) =
    let never : slice_get {X = BlockId} [] index ≡ Some block = found in absurd (cc)
target_small scopes all id (ByBreak index x found) = behind_small x (scope_at scopes all index x found)
target_small scopes all id (ByContinue index x block found is) = again_small x block is (scope_at scopes all index x found)

jump_sound : (small : Type 0) (s : State) (target : ℕ) (variant : GotoVariant) (span : Span) → (small → IsSmallSpan span)
    → IsTarget [] s.scopes target → StaysSound small s (next_hole s target variant span block.Block)
jump_sound small s target variant span at to =
    sound_ended small s (reserved s) (goto target variant span) (new_block s.env.next_block block.Block) (sound_reserved small s)
    (none_known (length s.env.identifiers))
    (λ holds fits w. goto_end_writable target variant span (target_small s.scopes w.scopes target to) (at holds))
    (λ fits w. empty_writable s.env.next_block block.Block (omega (arith, fits.blocks)))

pub break_sound : (small : Type 0) (s : State) (label : Label) (target : BlockId) (span : Span) → (small → IsSmallSpan span)
    → lookup_break s.scopes label ≡ Ok target → StaysSound small s (next_hole s target.0 gotos.Break span block.Block)
break_sound small s label target span at is = jump_sound small s target.0 gotos.Break span at (break_is_target [] s.scopes label target is)

pub continue_sound : (small : Type 0) (s : State) (label : Label) (target : BlockId) (span : Span) → (small → IsSmallSpan span)
    → lookup_continue s.scopes label ≡ Ok target → StaysSound small s (next_hole s target.0 gotos.Continue span block.Block)
continue_sound small s label target span at is =
    jump_sound small s target.0 gotos.Continue span at (continue_is_target [] s.scopes label target is)
