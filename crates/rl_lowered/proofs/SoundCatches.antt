-- The soundness of `throw`, `try` and `switch` statements, from that of their parts.
use Rattle.std.proofs.Common.{ℕ, ◌-◌, ◌<◌, ◌≤◌, ◌++◌, Bool, true, false, List, [], ◌∷◌, All, length, Option, Some, None, refl, sym}
use Rattle.std.proofs.Common.{ap, subst, arith, append-nil, is_some, lit<}
use Rattle.std.proofs.lemmas.List.Elements.{All-append, All-cons, All-push, All-take, All-head, All-tail}
use Rattle.rl_base.specs.declared.row.Row.TheVariants as row
use Rattle.rl_builder.specs.Builder.{completed_by, entered, innermost, new_block, reserved}
use Rattle.rl_builder.specs.declared.jumps.JumpScope.TheVariants as scope
use Rattle.rl_frames.specs.Frames.{try_after, try_at, try_caught, try_ended}
use Rattle.rl_frames.specs.Parts.{try_begun, try_end, try_handler, try_started}
use Rattle.rl_frames.specs.SwitchParts.{case_begun, case_ended, fall_of, switch_begun, switch_end, switch_finished, with_default}
use Rattle.rl_hir.specs.declared.function.BlockKind.TheVariants as block
use Rattle.rl_hir.specs.declared.instruction.InstructionKind.TheVariants as kinds
use Rattle.rl_hir.specs.declared.terminal.Case.{Case}
use Rattle.rl_hir.specs.declared.terminal.GotoVariant.TheVariants as gotos
use Rattle.rl_hir.specs.declared.terminal.Terminal.{Terminal}
use Rattle.rl_hir.specs.declared.terminal.TerminalKind.TheVariants as ends
use Rattle.rl_hir.specs.Listing as listing
use Rattle.rl_lowered.proofs.Catches.{catch_declared, declares_caught}
use Rattle.rl_lowered.proofs.Common.{At, BlockId, End, Names, Node, Pieces, Place, Said, Span, State, SymbolId, Syntax, Then}
use Rattle.rl_lowered.proofs.SoundItems.{caught_place, sound_promoted}
use Rattle.rl_lowered.proofs.SoundListing.{all_writable, declared_writable, span_writable}
use Rattle.rl_lowered.proofs.SoundMoves.{counters_before, empty_writable, none_known, one_known, place_later, place_next}
use Rattle.rl_lowered.proofs.SoundMoves.{place_weaker, sound_completed, sound_ended, sound_entered, sound_last_hole, sound_next}
use Rattle.rl_lowered.proofs.SoundMoves.{sound_next_hole, sound_recorded, sound_refl, sound_reserved, sound_scopes, sound_weaker}
use Rattle.rl_lowered.proofs.SoundNames.{found_below, sound_found}
use Rattle.rl_lowered.proofs.SoundTrees.{span_small}
use Rattle.rl_lowered.proofs.SoundValues.{IsSound, one_place, over_sound, variable_stored}
use Rattle.rl_lowered.specs.Items.{caught, promoted}
use Rattle.rl_lowered.specs.Lowered.{catch_at, catch_begun, catch_bound, throwing, throwing_under}
use Rattle.rl_lowered.specs.Named.{IsFound, found}
use Rattle.rl_lowered.specs.Sound.{AreSmallTrees, CountersGrow, HasSmallCounters, HasSmallTargets, IsSmallTree, IsSoundPlace, StaysSound}
use Rattle.rl_machine.specs.Machine.{default_case}
use Rattle.rl_model.specs.WellFormed.{AreKnown, case_places, optional_place, terminal_places}
use Rattle.rl_promises.specs.Locals.{IsSmallSpan}
use Rattle.rl_promises.specs.Rows.{refusal}
use Rattle.rl_runs.proofs.Moves.{extends_value}
use Rattle.rl_runs.specs.Moves.{block_id, ends_by, last_hole, next_hole, threw_from, without_handler, without_scope}
use Rattle.rl_syntax.specs.declared.word.Word.TheVariants as word
use Rattle.rl_syntax.specs.Syntax.{Absent, Listed, span_of}
use Rattle.rl_text.specs.Notation.{IsWritable}
use Rattle.rl_text.specs.Number.{largest}

-- Listings

thrown_writable : (p : Place) (at : Span) → IsWritable (listing.place p) → IsSmallSpan at
    → IsWritable (listing.terminal (ends_by (ends.Throw p) (Some at)))
thrown_writable p at place span = ((lit< tt, refl), (omega arith, (span_writable at span, (place, tt))))

try_writable : (behind handler body : ℕ) (binding : Option Place) (at : Span) → body ≤ largest
    → IsWritable (listing.optional listing.place binding) → handler ≤ largest → behind ≤ largest → IsSmallSpan at
    → IsWritable (listing.terminal (try_end behind handler body binding at))
try_writable behind handler body binding at first second third fourth span =
    ((lit< tt, refl), (omega arith, (span_writable at span, (first, (second, (third, (fourth, tt)))))))

-- A case as the notation has it.
abbrev IsWritableCase : Case → Type 0
IsWritableCase k = IsWritable (listing.case k)

case_writable : (k : Case) → IsWritable (listing.optional listing.place k.test) → k.block.0 ≤ largest → IsWritableCase k
case_writable k test block = ((lit< tt, refl), (test, (block, tt)))

switch_writable : (behind : ℕ) (cases : List Case) (p : Place) (at : Span) → IsWritable (listing.place p) → All IsWritableCase cases
    → behind ≤ largest → IsSmallSpan at
    → IsWritable (listing.terminal (ends_by (ends.Switch p cases (block_id behind)) (Some at)))
switch_writable behind cases p at place all last span =
    ((lit< tt, refl), (omega arith, (span_writable at span, (place, (all_writable listing.case cases all, (last, tt))))))

-- Other handlers
sound_handlers : (small : Type 0) (s : State) (handlers : List BlockId)
    → (HasSmallCounters s → All (λ (id : BlockId). id.0 ≤ largest) s.handlers → All (λ (id : BlockId). id.0 ≤ largest) handlers)
    → StaysSound small s (record s { handlers = handlers })
sound_handlers small s handlers targets = record {
  counters = grow;
  known = λ k. record { table = k.table; terminals = k.terminals };
  parts = λ holds fits w. record {
    table = w.table;
    completed = w.completed;
    current = w.current;
    listed = w.listed;
    handlers = targets (counters_before s (record s { handlers = handlers }) grow fits) w.handlers;
    scopes = w.scopes;
  };
  identifiers = λ holds fits w. w;
  pairs = λ fits w. w;
}
  where
    grow : CountersGrow s (record s { handlers = handlers })
    grow = record { blocks = omega arith; types = omega arith; identifiers = omega arith; instructions = omega arith }

-- A throw

throwing_under_sound : (small : Type 0) (o : Option BlockId) (s : State) (at : Span) → StaysSound small s (throwing_under o s at)
throwing_under_sound small None s at = sound_refl small s
throwing_under_sound small (Some handler) s at = sound_recorded small s (refusal row.F30 at)

pub throwing_sound : (small : Type 0) (s : State) (at : Span) → StaysSound small s (throwing s at)
throwing_sound small s at = throwing_under_sound small (innermost s.handlers) s at

pub threw_sound : (small : Type 0) (s : State) (span : Span) (p : Place) → (small → IsSmallSpan span) → IsSoundPlace small s p
    → StaysSound small s (threw_from s span p block.Block)
threw_sound small s span p at place =
    let numbered : StaysSound small s (reserved s) = sound_reserved small s in
    sound_next small s (reserved s) _ numbered
    (sound_completed small (reserved s) (ends_by (ends.Throw p) (Some span)) (new_block s.env.next_block block.Block)
    (one_known (length s.env.identifiers) p place.known)
    (λ holds fits w. thrown_writable p span (place.writable holds (counters_before s (reserved s) numbered.counters fits)) (at holds))
    (λ fits. empty_writable s.env.next_block block.Block (omega (arith, fits.blocks))))

-- The hole of a handler ends, and that of the block opens.
between_sound : (small : Type 0) (s : State) (behind handler : ℕ) (part : Span) → behind < s.env.next_block → handler < s.env.next_block
    → (small → IsSmallSpan part) → StaysSound small s (try_handler s behind handler part)
between_sound small s behind handler part room handler_room at =
    let opened : State = next_hole s behind gotos.Break part block.Block in
    sound_next small s opened _
    (sound_next_hole small s behind gotos.Break part block.Block (λ fits. omega (arith, room, fits.blocks)) at)
    (sound_handlers small opened (s.handlers ++ block_id handler ∷ [])
    (λ fits all. All-push (λ (id : BlockId). id.0 ≤ largest) s.handlers (block_id handler) all (omega (arith, handler_room, fits.blocks))))

-- A `try` statement, from in front of its handler's block
pub tried_sound : (small : Type 0) (d s2 s3 : State) (behind : ℕ) (part other : Span) (end : Terminal) → behind < d.env.next_block
    → (small → IsSmallSpan part) → (small → IsSmallSpan other) → StaysSound small (try_begun d) s2
    → StaysSound small (try_handler s2 behind d.env.next_block part) s3 → AreKnown (length s3.env.identifiers) (terminal_places end)
    → (small → HasSmallCounters s3 → IsWritable (listing.terminal end))
    → StaysSound small d (completed_by (last_hole (without_handler s3) behind gotos.Try other d.current) end (new_block behind block.Block))
tried_sound small d s2 s3 behind part other end room part_at other_at first second known written =
    sound_ended small d shut end (new_block behind block.Block) back known
    (λ holds fits w. written holds (counters_before s3 shut grows fits))
    (λ fits w. empty_writable behind block.Block (omega (arith, room3, fits.blocks)))
  where
    hd : ℕ
    hd = d.env.next_block

    left : State
    left = without_handler s3

    shut : State
    shut = last_hole left behind gotos.Try other d.current

    grows : CountersGrow s3 shut
    grows = record { blocks = omega arith; types = omega arith; identifiers = omega arith; instructions = omega arith }

    room2 : hd < s2.env.next_block
    room2 = omega (arith, first.counters.blocks)

    room3 : behind < s3.env.next_block
    room3 = omega (arith, room, room2, second.counters.blocks)

    begun : StaysSound small d (try_begun d)
    begun =
        sound_next small d (reserved d) _ (sound_reserved small d)
        (sound_entered small (reserved d) (new_block hd block.Catch) (λ fits. empty_writable hd block.Catch (omega (arith, fits.blocks))))

    to_block : StaysSound small s2 (try_handler s2 behind hd part)
    to_block = between_sound small s2 behind hd part (omega (arith, room, room2)) room2 part_at

    to_left : StaysSound small d left
    to_left =
        sound_next small d (try_begun d) left begun
        (sound_next small (try_begun d) s2 left first
        (sound_next small s2 (try_handler s2 behind hd part) left to_block
        (sound_next small (try_handler s2 behind hd part) s3 left second
        (sound_handlers small s3 left.handlers
        (λ fits all. All-take (λ (id : BlockId). id.0 ≤ largest) (length s3.handlers - 1) s3.handlers all)))))

    back : StaysSound small d shut
    back = sound_last_hole small d left behind gotos.Try other to_left (λ fits. omega (arith, room3, fits.blocks)) other_at

-- The front of a `catch` whose parameter is a variable

pub declared_sound : (small : Type 0) (s : State) (param : Span) → (small → IsSmallSpan param)
    → StaysSound small s (catch_declared s param) × IsSoundPlace small (catch_declared s param) (caught s param)
declared_sound small s param at =
    let made : State = promoted s param in
    let place = place_next small made (reserved made) (caught s param) (sound_reserved small made) (caught_place small s param at) in
    let all = over_sound small (reserved made) (reserved made) (declares_caught s param) param (caught s param ∷ [])
    (sound_refl small (reserved made)) (one_place small (reserved made) (caught s param) place) refl
    (λ holds fits written. declared_writable kinds.Catch (caught s param)
    (All-head (λ (q : Place). IsWritable (listing.place q)) (caught s param) [] written)) at in (
      sound_next small s (reserved made) _
          (sound_next small s made (reserved made) (sound_promoted small s param at) (sound_reserved small made)) all.0,
      place_next small (reserved made) (catch_declared s param) (caught s param) all.0 place,
    )

-- The variable takes the caught value.
pub bound_sound : (small : Type 0) (names : Names) (s : State) (symbol : SymbolId) (identifier : ℕ) (param : Span)
    → IsFound names (catch_begun s param) symbol param identifier → (small → IsSmallSpan param)
    → IsSoundPlace small (catch_begun s param) (caught s param)
    → StaysSound small (catch_begun s param) (catch_bound names s symbol identifier param)
bound_sound small names s symbol identifier param f at given =
    (variable_stored small (catch_begun s param) (found names (catch_begun s param) symbol param) kinds.Catch identifier param
    param (caught s param) (sound_found small names (catch_begun s param) symbol param identifier f at)
    (found_below names (catch_begun s param) symbol param identifier f) given at at).0

-- Cases

-- The place of a test is sound, if there is one.
abbrev pub IsSoundTest : (small : Type 0) → State → Option Place → Type 0
IsSoundTest small s None = Unit {0}
IsSoundTest small s (Some p) = IsSoundPlace small s p

-- The place of a case's test is sound, and its block was numbered.
pub record IsSoundCase (small : Type 0) (s : State) (k : Case) : Type 0 where
  pub test : IsSoundTest small s k.test
  pub below : k.block.0 < s.env.next_block

test_later : (P R : Type 0) (s t : State) (p : Option Place) → (R → P) → StaysSound R s t → IsSoundTest P s p → IsSoundTest R t p
test_later P R s t None weaker j sound = tt
test_later P R s t (Some p) weaker j sound = place_later P R R s t p weaker j sound

case_later : (P R : Type 0) (s t : State) (k : Case) → (R → P) → StaysSound R s t → IsSoundCase P s k → IsSoundCase R t k
case_later P R s t k weaker j sound =
    record { test = test_later P R s t k.test weaker j sound.test; below = omega (arith, sound.below, j.counters.blocks) }

pub cases_later : (P R : Type 0) (s t : State) (ks : List Case) → (R → P) → StaysSound R s t → All (IsSoundCase P s) ks
    → All (IsSoundCase R t) ks
cases_later P R s t ks weaker j all place default within = case_later P R s t _ weaker j (all place default within)

-- The statements of a case.
pub case_body_sound : (small : Type 0) (x y : State) (behind fall : ℕ) (part : Span) → behind < x.env.next_block → fall < x.env.next_block
    → (small → IsSmallSpan part) → StaysSound small (case_begun x None behind) y
    → StaysSound small x (case_ended y fall x.current part)
case_body_sound small x y behind fall part room fall_room at hole =
    sound_last_hole small x left fall gotos.Break part to_left (λ fits. omega (arith, fall_room, hole.counters.blocks, fits.blocks)) at
  where
    opened : State
    opened = entered (reserved x) (new_block x.env.next_block block.Block)

    left : State
    left = without_scope y

    begun : StaysSound small x (case_begun x None behind)
    begun =
        sound_next small x (reserved x) _ (sound_reserved small x)
        (sound_next small (reserved x) opened _
        (sound_entered small (reserved x) (new_block x.env.next_block block.Block)
        (λ fits. empty_writable x.env.next_block block.Block (omega (arith, fits.blocks))))
        (sound_scopes small opened (case_begun x None behind).scopes
        (λ fits all. All-push HasSmallTargets x.scopes (scope.Switch None (block_id behind)) all (omega (arith, room, fits.blocks)))))

    to_left : StaysSound small x left
    to_left =
        sound_next small x (case_begun x None behind) left begun
        (sound_next small (case_begun x None behind) y left hole
        (sound_scopes small y left.scopes (λ fits all. All-take HasSmallTargets (length y.scopes - 1) y.scopes all)))

-- The whole statement.

test_known : (small : Type 0) (s : State) (p : Option Place) → IsSoundTest small s p
    → AreKnown (length s.env.identifiers) (optional_place p)
test_known small s None sound = none_known (length s.env.identifiers)
test_known small s (Some p) sound = one_known (length s.env.identifiers) p sound.known

cases_known : (small : Type 0) (s : State) (ks : List Case) → All (IsSoundCase small s) ks
    → AreKnown (length s.env.identifiers) (case_places ks)
cases_known small s [] all = none_known (length s.env.identifiers)
cases_known small s (k ∷ ks) all =
    All-append (λ (p : Place). p.identifier.0 < length s.env.identifiers) (optional_place k.test) (case_places ks)
    (test_known small s k.test (All-head (IsSoundCase small s) k ks all).test)
    (cases_known small s ks (All-tail (IsSoundCase small s) k ks all))

test_written : (small : Type 0) (s : State) (p : Option Place) → small → HasSmallCounters s → IsSoundTest small s p
    → IsWritable (listing.optional listing.place p)
test_written small s None holds fits sound = tt
test_written small s (Some p) holds fits sound = sound.writable holds fits

cases_written : (small : Type 0) (s : State) (ks : List Case) → small → HasSmallCounters s → All (IsSoundCase small s) ks
    → All IsWritableCase ks
cases_written small s ks holds fits all place default within =
    let sound = all place default within in
    case_writable _ (test_written small s _ holds fits sound.test) (omega (arith, sound.below, fits.blocks))

default_sound : (small : Type 0) (s : State) (b : Bool) (ks : List Case) (behind : ℕ) → behind < s.env.next_block
    → All (IsSoundCase small s) ks → All (IsSoundCase small s) (with_default b ks behind)
default_sound small s true ks behind room all = all
default_sound small s false ks behind room all =
    All-push (IsSoundCase small s) ks (record { test = None; block = block_id behind }) all (record { test = tt; below = room })

pub switch_sound : (small : Type 0) (s u : State) (behind : ℕ) (ks : List Case) (p : Place) (span : Span) → behind < u.env.next_block
    → (small → IsSmallSpan span) → StaysSound small s u → All (IsSoundCase small u) ks → IsSoundPlace small u p
    → StaysSound small s (switch_finished u behind ks p span)
switch_sound small s u behind ks p span room at before all place =
    let cases : List Case = with_default (is_some (default_case ks)) ks behind in
    let sound = default_sound small u (is_some (default_case ks)) ks behind room all in
    sound_ended small s u (switch_end behind ks p span) (new_block behind block.Block) before
    (subst (AreKnown (length u.env.identifiers)) (ap (λ (l : List Place). p ∷ l) (sym (append-nil (case_places cases))))
    (All-cons (λ (q : Place). q.identifier.0 < length u.env.identifiers) p (case_places cases) place.known
    (cases_known small u cases sound)))
    (λ holds fits w. switch_writable behind cases p span (place.writable holds fits) (cases_written small u cases holds fits sound)
    (omega (arith, room, fits.blocks)) (at holds))
    (λ fits w. empty_writable behind block.Block (omega (arith, room, fits.blocks)))

-- The statements, by the smallness of their trees

pub throw_tree_sound : (at : At) (e : Syntax) (s t : State) (p : Place) → IsSound (IsSmallTree e) s t p
    → StaysSound (IsSmallTree (Node at word.Throw (Then e End))) s (threw_from (throwing t at.span) at.span p block.Block)
throw_tree_sound at e s t p inner =
    sound_next small s t _ (sound_weaker (IsSmallTree e) small s t part inner.0)
    (sound_next small t (throwing t at.span) _ thrown
    (threw_sound small (throwing t at.span) at.span p (λ holds. holds.0.0)
    (place_next small t (throwing t at.span) p thrown (place_weaker (IsSmallTree e) small t p part inner.1))))
  where
    small : Type 0
    small = IsSmallTree (Node at word.Throw (Then e End))

    part : small → IsSmallTree e
    part holds = (holds.0.1.0, holds.1.1.0)

    thrown : StaysSound small t (throwing t at.span)
    thrown = throwing_sound small t at.span

pub switch_tree_sound : (at : At) (value : Syntax) (cases : Pieces) (ks : List Case) (s t u : State) (p : Place)
    → StaysSound (AreSmallTrees cases) (switch_begun s) t × All (IsSoundCase (AreSmallTrees cases) t) ks
    → IsSound (IsSmallTree value) t u p
    → StaysSound (IsSmallTree (Node at word.Switch (Then value (Then (Listed cases) End)))) s
    (switch_finished u s.env.next_block ks p at.span)
switch_tree_sound at value cases ks s t u p front inner =
    switch_sound small s u s.env.next_block ks p at.span (omega (arith, front.0.counters.blocks, inner.0.counters.blocks))
    (λ holds. holds.0.0)
    (sound_next small s (switch_begun s) u (sound_reserved small s)
    (sound_next small (switch_begun s) t u (sound_weaker (AreSmallTrees cases) small (switch_begun s) t cases_small front.0) last))
    (cases_later (AreSmallTrees cases) small t u ks cases_small last front.1)
    (place_weaker (IsSmallTree value) small u p value_small inner.1)
  where
    small : Type 0
    small = IsSmallTree (Node at word.Switch (Then value (Then (Listed cases) End)))

    value_small : small → IsSmallTree value
    value_small holds = (holds.0.1.0, holds.1.1.0)

    cases_small : small → AreSmallTrees cases
    cases_small holds = (holds.0.1.1.0, holds.1.1.1.0)

    last : StaysSound small t u
    last = sound_weaker (IsSmallTree value) small t u value_small inner.0

fall_below : (small : Type 0) (x : State) (behind : ℕ) (ks : List Case) → behind < x.env.next_block → All (IsSoundCase small x) ks
    → fall_of behind ks < x.env.next_block
fall_below small x behind [] room all = room
fall_below small x behind (k ∷ ks) room all = (All-head (IsSoundCase small x) k ks all).below

-- A further case.
pub case_tree_sound : (at : At) (test : Syntax) (statements cases : Pieces) (ks : List Case) (s x y z : State) (p : Option Place)
    → StaysSound (AreSmallTrees cases) (switch_begun s) x × All (IsSoundCase (AreSmallTrees cases) x) ks
    → StaysSound (AreSmallTrees statements) (case_begun x None s.env.next_block) y
    → StaysSound (IsSmallTree test) (case_ended y (fall_of s.env.next_block ks) x.current at.span) z × IsSoundTest (IsSmallTree test) z p
    → StaysSound (AreSmallTrees (Then (Node at word.Case (Then test (Then (Listed statements) End))) cases)) (switch_begun s) z
    × All (IsSoundCase (AreSmallTrees (Then (Node at word.Case (Then test (Then (Listed statements) End))) cases)) z)
    (record { test = p; block = block_id x.env.next_block } ∷ ks)
case_tree_sound at test statements cases ks s x y z p before body tested = (
  sound_next small (switch_begun s) x z (sound_weaker (AreSmallTrees cases) small (switch_begun s) x rest before.0) onward,
  All-cons (IsSoundCase small z) (record { test = p; block = block_id x.env.next_block }) ks
      (record {
        test = test_later (IsSmallTree test) small z z p test_small (sound_refl small z) tested.1;
        below = omega (arith, body.counters.blocks, tested.0.counters.blocks);
      })
      (cases_later (AreSmallTrees cases) small x z ks rest onward before.1),
)
  where
    small : Type 0
    small = AreSmallTrees (Then (Node at word.Case (Then test (Then (Listed statements) End))) cases)

    rest : small → AreSmallTrees cases
    rest holds = (holds.0.1, holds.1.1)

    test_small : small → IsSmallTree test
    test_small holds = (holds.0.0.1.0, holds.1.0.1.0)

    body_small : small → AreSmallTrees statements
    body_small holds = (holds.0.0.1.1.0, holds.1.0.1.1.0)

    room : s.env.next_block < x.env.next_block
    room = omega (arith, before.0.counters.blocks)

    shut : State
    shut = case_ended y (fall_of s.env.next_block ks) x.current at.span

    onward : StaysSound small x z
    onward =
        sound_next small x shut z
        (case_body_sound small x y s.env.next_block (fall_of s.env.next_block ks) at.span room
        (fall_below (AreSmallTrees cases) x s.env.next_block ks room before.1) (λ holds. holds.0.0.0)
        (sound_weaker (AreSmallTrees statements) small (case_begun x None s.env.next_block) y body_small body))
        (sound_weaker (IsSmallTree test) small shut z test_small tested.0)

pub try_tree_sound : (at there : At) (blocked body : Syntax) (s s2 s3 : State) → StaysSound (IsSmallTree body) (try_started s None) s2
    → StaysSound (IsSmallTree blocked) (try_caught (try_at s at.span None) s2 there.span) s3
    → StaysSound
    (IsSmallTree (Node at word.Try (Then blocked (Then (Node there word.Catch (Then Absent (Then body End))) (Then Absent End))))) s
    (try_ended (try_after (try_at s at.span None) s2) s3 (span_of blocked))
try_tree_sound at there blocked body s s2 s3 first second =
    sound_next small s (reserved s) _ (sound_reserved small s)
    (tried_sound small (reserved s) s2 s3 s.env.next_block there.span (span_of blocked)
    (try_end s.env.next_block (reserved s).env.next_block s2.env.next_block None at.span) (omega arith) (λ holds. holds.0.1.1.0.0)
    (λ holds. span_small blocked (block_small holds).0) (sound_weaker (IsSmallTree body) small (try_started s None) s2 body_small first)
    (sound_weaker (IsSmallTree blocked) small (try_caught (try_at s at.span None) s2 there.span) s3 block_small second)
    (none_known (length s3.env.identifiers))
    (λ holds fits. try_writable s.env.next_block (reserved s).env.next_block s2.env.next_block None at.span
    (omega (arith, second.counters.blocks, fits.blocks)) tt (omega (arith, first.counters.blocks, second.counters.blocks, fits.blocks))
    (omega (arith, first.counters.blocks, second.counters.blocks, fits.blocks)) holds.0.0))
  where
    small : Type 0
    small = IsSmallTree (Node at word.Try (Then blocked (Then (Node there word.Catch (Then Absent (Then body End))) (Then Absent End))))

    block_small : small → IsSmallTree blocked
    block_small holds = (holds.0.1.0, holds.1.1.0)

    body_small : small → IsSmallTree body
    body_small holds = (holds.0.1.1.0.1.1.0, holds.1.1.1.0.1.1.0)

pub bound_tree_sound : {names : Names} (at there bind : At) (name : List ℕ) (type blocked body : Syntax) (symbol : SymbolId)
    (identifier : ℕ)
    (s s2 s3 : State) → IsFound names (catch_begun s bind.span) symbol bind.span identifier
    → StaysSound (IsSmallTree body) (catch_bound names s symbol identifier bind.span) s2
    → StaysSound (IsSmallTree blocked) (try_caught (catch_at s at.span bind.span) s2 there.span) s3
    → StaysSound
    (IsSmallTree
    (Node at word.Try
    (Then blocked
    (Then (Node there word.Catch (Then (Node bind word.Bind (Then (Said name) (Then type End))) (Then body End))) (Then Absent End))))) s
    (try_ended (try_after (catch_at s at.span bind.span) s2) s3 (span_of blocked))
bound_tree_sound {names} at there bind name type blocked body symbol identifier s s2 s3 f first second =
    sound_next small s declared _ front.0
    (tried_sound small declared s2 s3 s.env.next_block there.span (span_of blocked)
    (try_end s.env.next_block declared.env.next_block s2.env.next_block (Some place) at.span) (omega (arith, grows))
    (λ holds. holds.0.1.1.0.0)
    (λ holds. span_small blocked (block_small holds).0) handled last
    (one_known (length s3.env.identifiers) place (place_next small begun s3 place to_end given).known)
    (λ holds fits. try_writable s.env.next_block declared.env.next_block s2.env.next_block (Some place) at.span
    (omega (arith, second.counters.blocks, fits.blocks)) ((place_next small begun s3 place to_end given).writable holds fits)
    (omega (arith, handled.counters.blocks, second.counters.blocks, fits.blocks))
    (omega (arith, grows, handled.counters.blocks, second.counters.blocks, fits.blocks)) holds.0.0))
  where
    small : Type 0
    small =
        IsSmallTree
        (Node at word.Try
        (Then blocked
        (Then (Node there word.Catch (Then (Node bind word.Bind (Then (Said name) (Then type End))) (Then body End))) (Then Absent End))))

    block_small : small → IsSmallTree blocked
    block_small holds = (holds.0.1.0, holds.1.1.0)

    body_small : small → IsSmallTree body
    body_small holds = (holds.0.1.1.0.1.1.0, holds.1.1.1.0.1.1.0)

    param_small : small → IsSmallSpan bind.span
    param_small holds = holds.0.1.1.0.1.0.0

    place : Place
    place = caught s bind.span

    declared : State
    declared = catch_declared s bind.span

    begun : State
    begun = catch_begun s bind.span

    front : StaysSound small s declared × IsSoundPlace small declared place
    front = declared_sound small s bind.span param_small

    grows : s.env.next_block < declared.env.next_block
    grows =
        omega (arith, (extends_value (reserved (promoted s bind.span)) (declares_caught s bind.span) (Some bind.span)).blocks)

    opened : StaysSound small declared begun
    opened =
        sound_next small declared (reserved declared) begun (sound_reserved small declared)
        (sound_entered small (reserved declared) (new_block declared.env.next_block block.Catch)
        (λ fits. empty_writable declared.env.next_block block.Catch (omega (arith, fits.blocks))))

    given : IsSoundPlace small begun place
    given = place_next small declared begun place opened front.1

    handled : StaysSound small begun s2
    handled =
        sound_next small begun (catch_bound names s symbol identifier bind.span) s2
        (bound_sound small names s symbol identifier bind.span f param_small given)
        (sound_weaker (IsSmallTree body) small (catch_bound names s symbol identifier bind.span) s2 body_small first)

    last : StaysSound small (try_caught (catch_at s at.span bind.span) s2 there.span) s3
    last = sound_weaker (IsSmallTree blocked) small (try_caught (catch_at s at.span bind.span) s2 there.span) s3 block_small second

    to_end : StaysSound small begun s3
    to_end =
        sound_next small begun s2 s3 handled
        (sound_next small s2 (try_caught (catch_at s at.span bind.span) s2 there.span) s3
        (between_sound small s2 s.env.next_block declared.env.next_block there.span
        (omega (arith, grows, handled.counters.blocks)) (omega (arith, handled.counters.blocks)) (λ holds. holds.0.1.1.0.0)) last)
