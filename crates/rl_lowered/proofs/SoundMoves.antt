-- The moves of the builder keep places known and parts writable.
use Rattle.std.proofs.Common.{◌≡◌, ℕ, ◌+◌, ◌-◌, ◌<◌, ◌≤◌, List, [], ◌∷◌, length, length-append, All, Option, Some, None, refl, subst, arith}
use Rattle.std.proofs.lemmas.List.Elements.{All-nil, All-cons, All-get_or, All-push, All-same, All-weaker}
use Rattle.std.proofs.lemmas.Option.{get_or_from_slice_get, slice_get_within}
use Rattle.rl_base.specs.declared.ids.InstructionId.{InstructionId}
use Rattle.rl_base.specs.declared.type_kind.TypeKind.{TypeKind}
use Rattle.rl_base.specs.declared.type_kind.TypeKind.TheVariants as types
use Rattle.rl_lowered.proofs.Common.{BlockId, Diagnostic, InstructionValue, Place, Span, State}
use Rattle.rl_text.specs.Notation.{IsWritable}
use Rattle.rl_text.specs.Number.{largest}
use Rattle.rl_hir.specs.Listing as listing
use Rattle.rl_hir.specs.declared.function.BlockKind.{BlockKind}
use Rattle.rl_hir.specs.Blocks.{Pair as BlockPair}
use Rattle.rl_hir.specs.declared.function.Identifier.{Identifier}
use Rattle.rl_hir.specs.declared.instruction.Instruction.{Instruction}
use Rattle.rl_hir.specs.declared.instruction.InstructionKind.TheVariants as variables
use Rattle.rl_hir.specs.declared.instruction.InstructionValue.TheVariants as values
use Rattle.rl_hir.specs.declared.terminal.GotoVariant.{GotoVariant}
use Rattle.rl_hir.specs.declared.terminal.Terminal.{Terminal}
use Rattle.rl_hir.specs.declared.terminal.ReturnVariant.{ReturnVariant}
use Rattle.rl_builder.specs.Builder.{completed_by, ended_by, entered, innermost, maybe_throw, new_block}
use Rattle.rl_builder.specs.Builder.{plainly_pushed, pushed, pushed_under, recorded, reserved, with_temporary}
use Rattle.rl_builder.specs.Temporaries.{temporary, unordered, with_value}
use Rattle.rl_builder.specs.declared.blocks.WipBlock.{WipBlock}
use Rattle.rl_builder.specs.declared.jumps.JumpScope.{JumpScope}
use Rattle.rl_model.specs.WellFormed.{AreKnown, instruction_places, terminal_places, value_places}
use Rattle.rl_runs.specs.Moves.{goto, last_hole, next_hole, return_of, returned_from, stored_in}
use Rattle.rl_lowered.specs.Forms.{typed}
use Rattle.rl_promises.specs.Locals.{IsSmallSpan}
use Rattle.rl_lowered.specs.Sound.{CountersGrow, HasSmallCounters, HasSmallTargets, HasWritableParts, HasKnownParts, IsSoundPlace}
use Rattle.rl_lowered.specs.Sound.{StaysSound}
use Rattle.rl_lowered.proofs.SoundListing.{ended_writable, goto_end_writable, instruction_span, instruction_writable, place_writable}
use Rattle.rl_lowered.proofs.SoundListing.{return_writable, span_writable, stored_writable, throw_writable, unnamed_writable}

-- Counters

pub counters_before : (old new : State) → CountersGrow old new → HasSmallCounters new → HasSmallCounters old
counters_before old new g small = record {
  blocks = omega (arith, g.blocks, small.blocks);
  types = omega (arith, g.types, small.types);
  identifiers = omega (arith, g.identifiers, small.identifiers);
  instructions = omega (arith, g.instructions, small.instructions);
}

pub counters_then : (a b c : State) → CountersGrow a b → CountersGrow b c → CountersGrow a c
counters_then a b c g h = record {
  blocks = omega (arith, g.blocks, h.blocks);
  types = omega (arith, g.types, h.types);
  identifiers = omega (arith, g.identifiers, h.identifiers);
  instructions = omega (arith, g.instructions, h.instructions);
}

-- Moves one after the other

pub sound_refl : (small : Type 0) (s : State) → StaysSound small s s
sound_refl small s = record {
  counters = record { blocks = omega arith; types = omega arith; identifiers = omega arith; instructions = omega arith };
  known = λ k. k;
  parts = λ holds fits w. w;
  identifiers = λ holds fits w. w;
  pairs = λ fits w. w;
}

pub sound_then : (P Q R : Type 0) (a b c : State) → (R → P) → (R → Q) → StaysSound P a b → StaysSound Q b c → StaysSound R a c
sound_then P Q R a b c first second j k = record {
  counters = counters_then a b c j.counters k.counters;
  known = λ known. k.known (j.known known);
  parts = λ holds fits w. k.parts (second holds) fits (j.parts (first holds) (counters_before b c k.counters fits) w);
  identifiers = λ holds fits w. k.identifiers (second holds) fits
      (j.identifiers (first holds) (counters_before b c k.counters fits) w);
  pairs = λ fits w. k.pairs fits (j.pairs (counters_before b c k.counters fits) w);
}

pub sound_next : (small : Type 0) (a b c : State) → StaysSound small a b → StaysSound small b c → StaysSound small a c
sound_next small a b c j k = sound_then small small small a b c (λ holds. holds) (λ holds. holds) j k

pub sound_weaker : (P R : Type 0) (a b : State) → (R → P) → StaysSound P a b → StaysSound R a b
sound_weaker P R a b first j = record {
  counters = j.counters;
  known = j.known;
  parts = λ holds. j.parts (first holds);
  identifiers = λ holds. j.identifiers (first holds);
  pairs = j.pairs;
}

-- A place is known in later states
pub place_later : (P Q R : Type 0) (mid new : State) (p : Place) → (R → P) → StaysSound Q mid new → IsSoundPlace P mid p
    → IsSoundPlace R new p
place_later P Q R mid new p first j known = record {
  known = omega (arith, known.known, j.counters.identifiers);
  writable = λ holds fits. known.writable (first holds) (counters_before mid new j.counters fits);
}

pub place_weaker : (P R : Type 0) (s : State) (p : Place) → (R → P) → IsSoundPlace P s p → IsSoundPlace R s p
place_weaker P R s p first place = record { known = place.known; writable = λ holds. place.writable (first holds) }

pub place_next : (small : Type 0) (mid new : State) (p : Place) → StaysSound small mid new → IsSoundPlace small mid p
    → IsSoundPlace small new p
place_next small mid new p j place = place_later small small small mid new p (λ holds. holds) j place

-- A place, by the counters alone
pub place_grown : (small : Type 0) (mid new : State) (p : Place) → CountersGrow mid new → IsSoundPlace small mid p
    → IsSoundPlace small new p
place_grown small mid new p grow place = record {
  known = omega (arith, place.known, grow.identifiers);
  writable = λ holds fits. place.writable holds (counters_before mid new grow fits);
}

-- Places that stay known

pub known_more : (count more : ℕ) (places : List Place) → count ≤ more → AreKnown count places → AreKnown more places
known_more count more places le known =
    All-weaker (λ (p : Place). p.identifier.0 < count) (λ (p : Place). p.identifier.0 < more)
    (λ p below. omega (arith, below, le)) places known

pub table_more : (count more : ℕ) (table : List Instruction) → count ≤ more
    → All (λ i. AreKnown count (instruction_places i)) table → All (λ i. AreKnown more (instruction_places i)) table
table_more count more table le known =
    All-weaker (λ (i : Instruction). AreKnown count (instruction_places i))
    (λ (i : Instruction). AreKnown more (instruction_places i)) (λ i k. known_more count more (instruction_places i) le k) table
    known

pub terminals_more : (count more : ℕ) (blocks : List BlockPair) → count ≤ more
    → All (λ b. AreKnown count (terminal_places b.1.terminal)) blocks
    → All (λ b. AreKnown more (terminal_places b.1.terminal)) blocks
terminals_more count more blocks le known =
    All-weaker (λ (b : BlockPair). AreKnown count (terminal_places b.1.terminal))
    (λ (b : BlockPair). AreKnown more (terminal_places b.1.terminal))
    (λ b k. known_more count more (terminal_places b.1.terminal) le k) blocks known

pub one_known : (count : ℕ) (p : Place) → p.identifier.0 < count → AreKnown count (p ∷ [])
one_known count p below =
    All-cons (λ (q : Place). q.identifier.0 < count) p [] below (All-nil (λ (q : Place). q.identifier.0 < count))

pub none_known : (count : ℕ) → AreKnown count []
none_known count = All-nil (λ (q : Place). q.identifier.0 < count)

-- A block's number, and diagnostics

pub sound_reserved : (small : Type 0) (s : State) → StaysSound small s (reserved s)
sound_reserved small s = record {
  counters = record { blocks = omega arith; types = omega arith; identifiers = omega arith; instructions = omega arith };
  known = λ k. record { table = k.table; terminals = k.terminals };
  parts = λ holds fits w.
      record { table = w.table; completed = w.completed; current = w.current; listed = w.listed; handlers = w.handlers; scopes = w.scopes };
  identifiers = λ holds fits w. w;
  pairs = λ fits w. w;
}

-- Other scopes
pub sound_scopes : (small : Type 0) (s : State) (scopes : List JumpScope)
    → (HasSmallCounters s → All HasSmallTargets s.scopes → All HasSmallTargets scopes) → StaysSound small s (record s { scopes = scopes })
sound_scopes small s scopes targets = record {
  counters = grow;
  known = λ k. record { table = k.table; terminals = k.terminals };
  parts = λ holds fits w. record {
    table = w.table;
    completed = w.completed;
    current = w.current;
    listed = w.listed;
    handlers = w.handlers;
    scopes = targets (counters_before s (record s { scopes = scopes }) grow fits) w.scopes;
  };
  identifiers = λ holds fits w. w;
  pairs = λ fits w. w;
}
  where
    grow : CountersGrow s (record s { scopes = scopes })
    grow = record { blocks = omega arith; types = omega arith; identifiers = omega arith; instructions = omega arith }

abbrev pub with_diagnostics : State → List Diagnostic → State
with_diagnostics s said = record s { env = record s.env { diagnostics = said } }

pub sound_diagnostics : (small : Type 0) (s : State) (said : List Diagnostic) → StaysSound small s (with_diagnostics s said)
sound_diagnostics small s said = record {
  counters = record { blocks = omega arith; types = omega arith; identifiers = omega arith; instructions = omega arith };
  known = λ k. record { table = k.table; terminals = k.terminals };
  parts = λ holds fits w.
      record { table = w.table; completed = w.completed; current = w.current; listed = w.listed; handlers = w.handlers; scopes = w.scopes };
  identifiers = λ holds fits w. w;
  pairs = λ fits w. w;
}

-- A fresh identifier

pub identifiers_longer : (s : State) (span : Option Span)
    → length (with_temporary s span).env.identifiers ≡ length s.env.identifiers + 1
identifiers_longer s span = length-append s.env.identifiers _

pub sound_temporary : (small : Type 0) (s : State) (span : Option Span) → (small → IsWritable (listing.optional listing.span span))
    → StaysSound small s (with_temporary s span)
sound_temporary small s span at = record {
  counters = grow;
  known = λ known. record {
    table = table_more (length s.env.identifiers) count s.table more known.table;
    terminals = terminals_more (length s.env.identifiers) count s.completed more known.terminals;
  };
  parts = λ holds fits w.
      record { table = w.table; completed = w.completed; current = w.current; listed = w.listed; handlers = w.handlers; scopes = w.scopes };
  identifiers = λ holds fits w.
      let before : HasSmallCounters s = counters_before s new grow fits in
      All-push (λ (i : Identifier). IsWritable (listing.identifier i)) s.env.identifiers
      (record { name = None; span = span; type_id = record { 0 = s.env.next_type } }) w
      (unnamed_writable span s.env.next_type (at holds) before.types);
  pairs = λ fits w. w;
}
  where
    new : State
    new = with_temporary s span

    count : ℕ
    count = length new.env.identifiers

    more : length s.env.identifiers ≤ count
    more = omega (arith, identifiers_longer s span)

    grow : CountersGrow s new
    grow = record { blocks = omega arith; types = omega arith; identifiers = more; instructions = omega arith }

-- An identifier that was made, as a place with a span
pub place_made : (small : Type 0) (s : State) (id : ℕ) (span : Span) → id < length s.env.identifiers → (small → IsSmallSpan span)
    → IsSoundPlace small s (record { identifier = record { 0 = id }; span = Some span })
place_made small s id span below at = record {
  known = below;
  writable = λ holds fits.
      place_writable (record { identifier = record { 0 = id }; span = Some span }) (omega (arith, below, fits.identifiers))
      (span_writable span (at holds));
}

pub place_temporary : (small : Type 0) (s : State) (span : Option Span) → (small → IsWritable (listing.optional listing.span span))
    → IsSoundPlace small (with_temporary s span) (temporary s span)
place_temporary small s span at = record {
  known = omega (arith, identifiers_longer s span);
  writable = λ holds fits. place_writable (temporary s span) (omega (arith, identifiers_longer s span, fits.identifiers)) (at holds);
}

-- The end of a block

none_listed : (ids : List InstructionId) → ids ≡ [] → All (λ (id : InstructionId). id.0 ≤ largest) ids
none_listed ids none =
    All-same (λ (id : InstructionId). id.0 ≤ largest) ids [] none (All-nil (λ (id : InstructionId). id.0 ≤ largest))

-- The notation has the id and the indices of the block.
pub record IsWritableBlock (wip : WipBlock) : Type 0 where
  pub id : wip.id.0 ≤ largest
  pub listed : All (λ id. id.0 ≤ largest) wip.instructions

pub empty_writable : (id : ℕ) (kind : BlockKind) → id ≤ largest → IsWritableBlock (new_block id kind)
empty_writable id kind fits = record { id = fits; listed = none_listed [] refl }

pub grows_completed : (s : State) (t : Terminal) (next : WipBlock) → CountersGrow s (completed_by s t next)
grows_completed s t next =
    record { blocks = omega arith; types = omega arith; identifiers = omega arith; instructions = omega arith }

pub sound_ended : (small : Type 0) (old s : State) (t : Terminal) (next : WipBlock) → StaysSound small old s
    → AreKnown (length s.env.identifiers) (terminal_places t)
    → (small → HasSmallCounters s → HasWritableParts s → IsWritable (listing.terminal t))
    → (HasSmallCounters s → HasWritableParts old → IsWritableBlock next) → StaysSound small old (completed_by s t next)
sound_ended small old s t next before places terminal block = record {
  counters = counters_then old s (completed_by s t next) before.counters grow;
  known = λ k0. known_after (before.known k0);
  parts = λ holds fits w0.
      let fine : HasSmallCounters s = counters_before s (completed_by s t next) grow fits in
      let w : HasWritableParts s = before.parts holds fine w0 in
      let b : IsWritableBlock next = block fine w0 in record {
        table = w.table;
        completed = All-push (λ (b : BlockPair). IsWritable (listing.block b)) s.completed (ended_by s.current t)
            w.completed (ended_writable s.current t w.current w.listed (terminal holds fine w));
        current = b.id;
        listed = b.listed;
        handlers = w.handlers;
        scopes = w.scopes;
      };
  identifiers = λ holds fits w. before.identifiers holds (counters_before s (completed_by s t next) grow fits) w;
  pairs = λ fits w. before.pairs (counters_before s (completed_by s t next) grow fits) w;
}
  where
    grow : CountersGrow s (completed_by s t next)
    grow = record { blocks = omega arith; types = omega arith; identifiers = omega arith; instructions = omega arith }

    known_after : HasKnownParts s → HasKnownParts (completed_by s t next)
    known_after k = record {
      table = k.table;
      terminals = All-push (λ (b : BlockPair). AreKnown (length s.env.identifiers) (terminal_places b.1.terminal))
          s.completed (ended_by s.current t) k.terminals places;
    }

pub sound_completed : (small : Type 0) (s : State) (t : Terminal) (next : WipBlock)
    → AreKnown (length s.env.identifiers) (terminal_places t)
    → (small → HasSmallCounters s → HasWritableParts s → IsWritable (listing.terminal t))
    → (HasSmallCounters s → IsWritableBlock next) → StaysSound small s (completed_by s t next)
sound_completed small s t next places terminal block =
    sound_ended small s s t next (sound_refl small s) places terminal (λ fits w. block fits)

-- The block that was set aside goes on
pub sound_resumed : (small : Type 0) (old s : State) (t : Terminal) → StaysSound small old s
    → AreKnown (length s.env.identifiers) (terminal_places t)
    → (small → HasSmallCounters s → HasWritableParts s → IsWritable (listing.terminal t))
    → StaysSound small old (completed_by s t old.current)
sound_resumed small old s t before places terminal =
    sound_ended small old s t old.current before places terminal (λ fits w. record { id = w.current; listed = w.listed })

-- An instruction

table_longer : (s : State) (i : Instruction) → length (plainly_pushed s i).table ≡ length s.table + 1
table_longer s i = length-append s.table _

sound_plainly : (small : Type 0) (s : State) (i : Instruction) → AreKnown (length s.env.identifiers) (instruction_places i)
    → (small → HasSmallCounters s → IsWritable (listing.instruction i)) → StaysSound small s (plainly_pushed s i)
sound_plainly small s i places written = record {
  counters = grow;
  known = λ known. record {
    table = All-push (λ (j : Instruction). AreKnown (length s.env.identifiers) (instruction_places j)) s.table i known.table places;
    terminals = known.terminals;
  };
  parts = λ holds fits w.
      let before : HasSmallCounters s = counters_before s (plainly_pushed s i) grow fits in record {
        table = All-push (λ (j : Instruction). IsWritable (listing.instruction j)) s.table i w.table (written holds before);
        completed = w.completed;
        current = w.current;
        listed = All-push (λ (id : InstructionId). id.0 ≤ largest) s.current.instructions (record { 0 = length s.table })
            w.listed before.instructions;
        handlers = w.handlers;
        scopes = w.scopes;
      };
  identifiers = λ holds fits w. w;
  pairs = λ fits w. w;
}
  where
    grow : CountersGrow s (plainly_pushed s i)
    grow = record {
      blocks = omega arith;
      types = omega arith;
      identifiers = omega arith;
      instructions = omega (arith, table_longer s i);
    }

innermost_small : (handlers : List BlockId) (h : BlockId) → innermost handlers ≡ Some h
    → All (λ (id : BlockId). id.0 ≤ largest) handlers → h.0 ≤ largest
innermost_small handlers h is all =
    subst (λ (id : BlockId). id.0 ≤ largest) (get_or_from_slice_get handlers (length handlers - 1) h h is)
    (All-get_or (λ (id : BlockId). id.0 ≤ largest) handlers (length handlers - 1) h
    (slice_get_within handlers (length handlers - 1) h is) all)

pub sound_pushed : (small : Type 0) (s : State) (i : Instruction) → AreKnown (length s.env.identifiers) (instruction_places i)
    → (small → HasSmallCounters s → IsWritable (listing.instruction i)) → StaysSound small s (pushed s i)
sound_pushed small s i places written = under (innermost s.handlers) refl
  where
    plain : State
    plain = plainly_pushed s i

    opened : State
    opened = reserved plain

    first : StaysSound small s opened
    first = sound_next small s plain opened (sound_plainly small s i places written) (sound_reserved small plain)

    under : (handler : Option BlockId) → innermost s.handlers ≡ handler → StaysSound small s (pushed_under handler s i)
    under None is = sound_plainly small s i places written
    under (Some h) is =
        sound_ended small s opened (maybe_throw s.env.next_block h i.span) (new_block s.env.next_block s.current.kind) first
        (none_known (length s.env.identifiers))
        (λ holds fits w.
        throw_writable s.env.next_block h i.span (omega (arith, fits.blocks)) (innermost_small s.handlers h is w.handlers)
        (instruction_span i (written holds (counters_before s opened first.counters fits))))
        (λ fits w. empty_writable s.env.next_block s.current.kind (omega (arith, fits.blocks)))

-- A value in a fresh identifier

sound_filled : (small : Type 0) (s : State) (v : InstructionValue) (span : Option Span)
    → AreKnown (length s.env.identifiers) (value_places v) → (small → HasSmallCounters s → IsWritable (listing.value v))
    → (small → IsWritable (listing.optional listing.span span)) → StaysSound small (with_temporary s span) (with_value s v span)
sound_filled small s v span places value at =
    sound_pushed small new made here (λ holds fits.
    let before : HasSmallCounters s = counters_before s new fresh.counters fits in
    instruction_writable made (omega arith) (place_writable (temporary s span) before.identifiers (at holds)) (at holds)
    (value holds before))
  where
    new : State
    new = with_temporary s span

    made : Instruction
    made = unordered (temporary s span) v span

    fresh : StaysSound small s new
    fresh = sound_temporary small s span at

    here : AreKnown (length new.env.identifiers) (instruction_places made)
    here =
        All-cons (λ (p : Place). p.identifier.0 < length new.env.identifiers) (temporary s span) (value_places v)
        (omega (arith, identifiers_longer s span))
        (known_more (length s.env.identifiers) (length new.env.identifiers) (value_places v) fresh.counters.identifiers places)

pub sound_value : (small : Type 0) (s : State) (v : InstructionValue) (span : Option Span)
    → AreKnown (length s.env.identifiers) (value_places v) → (small → HasSmallCounters s → IsWritable (listing.value v))
    → (small → IsWritable (listing.optional listing.span span)) → StaysSound small s (with_value s v span)
sound_value small s v span places value at =
    sound_next small s (with_temporary s span) _ (sound_temporary small s span at) (sound_filled small s v span places value at)

pub value_place : (small : Type 0) (s : State) (v : InstructionValue) (span : Option Span)
    → AreKnown (length s.env.identifiers) (value_places v) → (small → HasSmallCounters s → IsWritable (listing.value v))
    → (small → IsWritable (listing.optional listing.span span)) → IsSoundPlace small (with_value s v span) (temporary s span)
value_place small s v span places value at =
    place_next small (with_temporary s span) _ (temporary s span) (sound_filled small s v span places value at)
    (place_temporary small s span at)

-- A return of a place, behind which a block goes on

pub sound_return : (small : Type 0) (s : State) (span : Option Span) (variant : ReturnVariant) (p : Place) (next : WipBlock)
    → (small → IsWritable (listing.optional listing.span span)) → IsSoundPlace small s p
    → (HasSmallCounters s → IsWritableBlock next) → StaysSound small s (completed_by s (return_of span variant p) next)
sound_return small s span variant p next at place block =
    sound_completed small s (return_of span variant p) next (one_known (length s.env.identifiers) p place.known)
    (λ holds fits w. return_writable span variant p (at holds) (place.writable holds fits)) block

pub sound_returned : (small : Type 0) (s : State) (span : Option Span) (variant : ReturnVariant) (p : Place) (kind : BlockKind)
    → (small → IsWritable (listing.optional listing.span span)) → IsSoundPlace small s p
    → StaysSound small s (returned_from s span variant p kind)
sound_returned small s span variant p kind at place =
    let opened : StaysSound small s (reserved s) = sound_reserved small s in
    sound_next small s (reserved s) _ opened
    (sound_return small (reserved s) span variant p (new_block s.env.next_block kind) at (place_next small s (reserved s) p opened place)
    (λ fits. empty_writable s.env.next_block kind (omega (arith, fits.blocks))))

-- A diagnostic

pub sound_recorded : (small : Type 0) (s : State) (d : Diagnostic) → StaysSound small s (recorded s d)
sound_recorded small s d = sound_diagnostics small s _

-- The type of a cast

pub sound_typed : (small : Type 0) (s : State) (k : TypeKind) → StaysSound small s (typed s k)
sound_typed small s types.Array = sound_refl small s
sound_typed small s types.Primitive = sound_refl small s
sound_typed small s types.Other = record {
  counters = record { blocks = omega arith; types = omega arith; identifiers = omega arith; instructions = omega arith };
  known = λ k. record { table = k.table; terminals = k.terminals };
  parts = λ holds fits w.
      record { table = w.table; completed = w.completed; current = w.current; listed = w.listed; handlers = w.handlers; scopes = w.scopes };
  identifiers = λ holds fits w. w;
  pairs = λ fits w. w;
}

-- A hole opens, and the block that was current is set aside

pub sound_entered : (small : Type 0) (s : State) (wip : WipBlock) → (HasSmallCounters s → IsWritableBlock wip)
    → StaysSound small s (entered s wip)
sound_entered small s wip block = record {
  counters = grow;
  known = λ k. record { table = k.table; terminals = k.terminals };
  parts = λ holds fits w.
      let b : IsWritableBlock wip = block (counters_before s (entered s wip) grow fits) in
      record { table = w.table; completed = w.completed; current = b.id; listed = b.listed; handlers = w.handlers; scopes = w.scopes };
  identifiers = λ holds fits w. w;
  pairs = λ fits w. w;
}
  where
    grow : CountersGrow s (entered s wip)
    grow = record { blocks = omega arith; types = omega arith; identifiers = omega arith; instructions = omega arith }

-- A value goes into a place that was made before

pub sound_stored : (small : Type 0) (s : State) (place value : Place) (span : Span) → IsSoundPlace small s place
    → IsSoundPlace small s value → (small → IsSmallSpan span) → StaysSound small s (stored_in s place value span)
sound_stored small s place value span first second at =
    sound_value small s (values.StoreLocal variables.Const place value) (Some span)
    (All-cons (λ (p : Place). p.identifier.0 < length s.env.identifiers) place (value ∷ []) first.known
    (one_known (length s.env.identifiers) value second.known))
    (λ holds fits. stored_writable place value (first.writable holds fits) (second.writable holds fits))
    (λ holds. span_writable span (at holds))

-- A hole ends with a jump

pub sound_next_hole : (small : Type 0) (s : State) (behind : ℕ) (variant : GotoVariant) (part : Span) (kind : BlockKind)
    → (HasSmallCounters s → behind ≤ largest) → (small → IsSmallSpan part)
    → StaysSound small s (next_hole s behind variant part kind)
sound_next_hole small s behind variant part kind id at =
    let opened : StaysSound small s (reserved s) = sound_reserved small s in
    sound_ended small s (reserved s) (goto behind variant part) (new_block s.env.next_block kind) opened
    (none_known (length s.env.identifiers))
    (λ holds fits w. goto_end_writable behind variant part (id (counters_before s (reserved s) opened.counters fits)) (at holds))
    (λ fits w. empty_writable s.env.next_block kind (omega (arith, fits.blocks)))

pub sound_last_hole : (small : Type 0) (old s : State) (behind : ℕ) (variant : GotoVariant) (part : Span) → StaysSound small old s
    → (HasSmallCounters s → behind ≤ largest) → (small → IsSmallSpan part)
    → StaysSound small old (last_hole s behind variant part old.current)
sound_last_hole small old s behind variant part before id at =
    sound_resumed small old s (goto behind variant part) before (none_known (length s.env.identifiers))
    (λ holds fits w. goto_end_writable behind variant part (id fits) (at holds))
