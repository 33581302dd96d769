-- The look-up of a variable keeps places known and parts writable: an identifier that it makes is writable, and so is its pair.
use Rattle.std.proofs.Common.{◌≡◌, ℕ, zero, suc, ◌+◌, ◌<◌, ◌%◌, ◌/◌, ◌++◌, Bool, true, false, if◌then◌else◌, nat_lt, List, [], ◌∷◌, length}
use Rattle.std.proofs.Common.{length-append, Option, Some, None, codes, lit<, refl, sym, ◌∙◌, arith}
use Rattle.std.proofs.lemmas.List.Elements.{All-push}
use Rattle.std.proofs.lemmas.Option.{same_Some}
use Rattle.std.proofs.lemmas.Str.{IsUtf8-append, IsUtf8-from_ascii}
use Rattle.std.specs.Fmt.{decimal, digit_glyph, digits, digits_onto}
use Rattle.std.specs.Option.{option_map, option_or}
use Rattle.std.specs.Str.{IsAscii, IsUtf8}
use Rattle.rl_bindings.specs.declared.event.Bound.{Bound}
use Rattle.rl_builder.specs.Names.{fresh_identifier, new_span, resolved_by}
use Rattle.rl_context.specs.Index.{declares, span_among}
use Rattle.rl_context.specs.declared.site.Site.{Site}
use Rattle.rl_hir.specs.Listing as listing
use Rattle.rl_hir.specs.Pairs.{identifier_of, pair}
use Rattle.rl_hir.specs.declared.function.Identifier.{Identifier}
use Rattle.rl_hir.specs.declared.function.Pair.{Pair}
use Rattle.rl_lowered.proofs.Common.{Names, Span, State, SymbolId}
use Rattle.rl_lowered.proofs.SoundListing.{named_writable, span_writable}
use Rattle.rl_lowered.proofs.SoundMoves.{counters_before, sound_diagnostics, table_more, terminals_more}
use Rattle.rl_lowered.specs.Named.{IsFound, IsNamed, found}
use Rattle.rl_lowered.specs.Sound.{CountersGrow, HasSmallCounters, StaysSound}
use Rattle.rl_used_names.specs.Candidates.{candidate}
use Rattle.rl_promises.specs.Locals.{IsSmallSpan, IsVariable, KnowsNames}
use Rattle.rl_resolver.specs.Lookups.{declaration_ident}
use Rattle.rl_semantic.specs.Items.{of_item}
use Rattle.rl_text.specs.Notation.{IsWritable}
use Rattle.rl_used_names.proofs.NameLaws.{identifier_of-last}
use Rattle.rl_used_names.specs.Choosing.{chosen, free_place}
use Rattle.rl_used_names.specs.UsedName.{UsedName}

-- A decimal is ASCII, and so a candidate of a name is UTF-8.

ascii_ahead : (c : ℕ) (cs : List ℕ) → c < 128 → IsAscii cs → IsAscii (c ∷ cs)
ascii_ahead c cs small rest zero = small
ascii_ahead c cs small rest (suc i) = rest i

none_ascii : IsAscii []
none_ascii i = omega arith

glyph_ascii : (n : ℕ) → digit_glyph false (n % 10) < 128
glyph_ascii n = by_test (nat_lt (n % 10) 10)
  where
    by_test : (b : Bool) → (if b then 48 + n % 10 else 87 + n % 10) < 128
    by_test true = omega arith
    by_test false = omega arith

either_ascii : (b : Bool) (xs ys : List ℕ) → IsAscii xs → IsAscii ys → IsAscii (if b then xs else ys)
either_ascii true xs ys first second = first
either_ascii false xs ys first second = second

onto_ascii : (k n : ℕ) (cs : List ℕ) → IsAscii cs → IsAscii (digits_onto k 10 false n cs)
onto_ascii zero n cs ascii = ascii
onto_ascii (suc k) n cs ascii =
    let ahead : IsAscii (digit_glyph false (n % 10) ∷ cs) = ascii_ahead (digit_glyph false (n % 10)) cs (glyph_ascii n) ascii in
    either_ascii _ (digit_glyph false (n % 10) ∷ cs) (digits_onto k 10 false (n / 10) (digit_glyph false (n % 10) ∷ cs)) ahead
    (onto_ascii k (n / 10) (digit_glyph false (n % 10) ∷ cs) ahead)

pub decimal_ascii : (n : ℕ) → IsAscii (decimal n)
unfolding digits
decimal_ascii n = onto_ascii 64 n [] none_ascii

underscore_utf8 : IsUtf8 (codes "_")
unfolding lib.Utf8.encode
underscore_utf8 = (codes "_", (refl, refl))

candidate_utf8 : (name : List ℕ) (index : ℕ) → IsUtf8 name → IsUtf8 (candidate name index)
candidate_utf8 name zero utf8 = utf8
candidate_utf8 name (suc k) utf8 =
    IsUtf8-append (name ++ codes "_") (decimal k) (IsUtf8-append name (codes "_") utf8 underscore_utf8)
    (IsUtf8-from_ascii (decimal k) (decimal_ascii k))

chosen_utf8 : (used : List UsedName) (symbol : ℕ) (name : List ℕ) → IsUtf8 name → IsUtf8 (chosen used symbol name)
unfolding chosen
chosen_utf8 used symbol name utf8 = candidate_utf8 name (free_place used symbol name) utf8

-- The span of a new identifier is that of the declaration, or of the node.

span_new : (names : Names) (symbol : ℕ) (sites : List Site) (o : Option Bound) (at : Span) → KnowsNames names
    → names.declaration symbol ≡ option_map (λ b. b.span) o → IsSmallSpan at
    → IsWritable (listing.optional listing.span (option_or (of_item None (span_among sites) o) (Some at)))
span_new names symbol sites None at knows told small = span_writable at small
span_new names symbol sites (Some b) at knows told small = by_test (declares b.node.0 sites)
  where
    by_test : (test : Bool) → IsWritable (listing.optional listing.span (option_or (if test then Some b.span else None) (Some at)))
    by_test true = span_writable b.span (knows.spanned symbol b.span told)
    by_test false = span_writable at small

-- The look-up.
module _ (small : Type 0) (names : Names) (s : State) (symbol : SymbolId) (at : Span) where
  abbrev made : State
  made = resolved_by None s (names.name symbol.0) symbol.0 (Some at)

  one_more : length made.env.identifiers ≡ length s.env.identifiers + 1
  one_more = length-append s.env.identifiers _

  grow : CountersGrow s made
  grow = record {
    blocks = omega arith;
    types = omega arith;
    identifiers = omega (arith, one_more);
    instructions = omega arith;
  }

  sound_by : (known : Option ℕ) → IsNamed names s → IsVariable names symbol → (small → IsSmallSpan at)
      → StaysSound small s (resolved_by known s (names.name symbol.0) symbol.0 (Some at))
  sound_by (Some known) n v small_at = sound_diagnostics small s _
  sound_by None n v small_at = record {
    counters = grow;
    known = λ known. record {
      table = table_more (length s.env.identifiers) (length made.env.identifiers) s.table grow.identifiers known.table;
      terminals = terminals_more (length s.env.identifiers) (length made.env.identifiers) s.completed grow.identifiers known.terminals;
    };
    parts = λ holds fits w.
        record { table = w.table; completed = w.completed; current = w.current; listed = w.listed; handlers = w.handlers; scopes = w.scopes };
    identifiers = λ holds fits w.
        let before : HasSmallCounters s = counters_before s made grow fits in
        All-push (λ (i : Identifier). IsWritable (listing.identifier i)) s.env.identifiers
        (fresh_identifier (chosen s.used_names symbol.0 (names.name symbol.0)) (new_span s symbol.0 (Some at)) s.env.next_type) w
        (named_writable (chosen s.used_names symbol.0 (names.name symbol.0)) (new_span s symbol.0 (Some at)) s.env.next_type
        (chosen_utf8 s.used_names symbol.0 (names.name symbol.0) (n.knows.named symbol.0))
        (span_new names symbol.0 s.sites (declaration_ident s.semantic.bindings.symbols symbol.0) at n.knows (n.declared symbol.0)
        (small_at holds)) before.types);
    pairs = λ fits w.
        All-push (λ (p : Pair). IsWritable (listing.pair p)) s.env.pairs (pair symbol.0 (length s.env.identifiers)) w
        ((lit< tt, refl), (v.small, (omega (arith, one_more, fits.identifiers), tt)));
  }

  below_by : (known : Option ℕ) (identifier : ℕ) → identifier_of s.bindings symbol.0 ≡ known → IsNamed names s
      → identifier_of (resolved_by known s (names.name symbol.0) symbol.0 (Some at)).bindings symbol.0 ≡ Some identifier
      → identifier < length (resolved_by known s (names.name symbol.0) symbol.0 (Some at)).env.identifiers
  below_by (Some known) identifier is n bound = n.made symbol.0 identifier bound
  below_by None identifier is n bound =
      let same : length s.env.identifiers ≡ identifier =
      same_Some (length s.env.identifiers) identifier
      (sym (identifier_of-last s.bindings symbol.0 (length s.env.identifiers) is) ∙ bound) in
      omega (arith, same, one_more)

pub sound_found : (small : Type 0) (names : Names) (s : State) (symbol : SymbolId) (at : Span) (identifier : ℕ)
    → IsFound names s symbol at identifier → (small → IsSmallSpan at) → StaysSound small s (found names s symbol at)
sound_found small names s symbol at identifier f small_at =
    sound_by small names s symbol at (identifier_of s.bindings symbol.0) f.named f.variable small_at

-- The identifier was made.
pub found_below : (names : Names) (s : State) (symbol : SymbolId) (at : Span) (identifier : ℕ) → IsFound names s symbol at identifier
    → identifier < length (found names s symbol at).env.identifiers
found_below names s symbol at identifier f =
    below_by (Unit {0}) names s symbol at (identifier_of s.bindings symbol.0) identifier refl f.named f.bound
