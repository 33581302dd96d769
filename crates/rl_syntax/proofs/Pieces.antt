-- Reading of parts, one by one.
use Rattle.std.proofs.Common.{◌≡◌, ℕ, ◌+◌, ◌≤◌, ◌<◌, Bool, true, false, ◌&&◌, ◌==◌, List, [], ◌∷◌, ◌++◌, length, map, drop, ap, sym, ◌∙◌, refl, arith, subst, true≢false, append_assoc, length-append, length-drop}
use Rattle.std.proofs.lemmas.Bool.{and_parts, le-leb, leb-true}
use Rattle.std.proofs.lemmas.List.{append-nil, map-append}
use Rattle.rl_text.specs.Notation as notation
use Rattle.rl_text.specs.Notation.{spelling, spelled_on, height_of}
use Rattle.rl_text.specs.Places.{Begins, GoesOn, IsBracket}
use Rattle.rl_text.proofs.Runs.{heads}
use Rattle.rl_text.proofs.Spellings.{spellings-apart}
use Rattle.rl_text.proofs.Worded.{bracket-no_space, no_digit-on, ends-from_no_digit}
use Rattle.rl_syntax.specs.Syntax.{Syntax, Pieces, End, Then, pieces_of, syntax, plain, plain_parts, width, nodes_of, part_count, is_item, is_shaped, are_items, are_shaped, next_byte, behind, IsPlaced, ArePlaced}
use Rattle.rl_syntax.specs.Tallies.{scopes_of, references_of}
use Rattle.rl_syntax.specs.Reads.{IsLow, IsRead, behind_all, AddsRead, NoneAdds, may_stand, may_hold, are_parts}
use Rattle.rl_syntax.specs.declared.numbered.Position.{Position}
use Rattle.rl_syntax.specs.declared.numbered.Numbered.{Numbered}

-- A further piece behind others.
count_behind : (ss : List Syntax) (s : Syntax) → part_count (pieces_of (ss ++ s ∷ [])) ≡ part_count (pieces_of ss) + 1
count_behind [] s = refl
count_behind (first ∷ ss) s = ap (λ n. n + 1) (count_behind ss s)

behind_behind : (from : Position) (ss : List Syntax) (s : Syntax) → behind_all from (pieces_of (ss ++ s ∷ [])) ≡ behind (next_byte (behind_all from (pieces_of ss))) s
behind_behind from [] s = refl
behind_behind from (first ∷ ss) s = behind_behind (behind (next_byte from) first) ss s

placed_behind : (from : Position) (ss : List Syntax) (s : Syntax) → ArePlaced from (pieces_of ss) → IsPlaced (next_byte (behind_all from (pieces_of ss))) s → ArePlaced from (pieces_of (ss ++ s ∷ []))
placed_behind from [] s before placed = (placed, tt)
placed_behind from (first ∷ ss) s before placed = (before.0, placed_behind (behind (next_byte from) first) ss s before.1 placed)

-- Behind pieces the counters are larger by their nodes, scopes and references.
pub record AddsUp (from next : Position) (p : Pieces) : Type 0 where
  pub node : next.node ≡ from.node + nodes_of p
  pub scope : next.scope ≡ from.scope + scopes_of p
  pub reference : next.reference ≡ from.reference + references_of p

pub adds_up : (from next : Position) (p : Pieces) → next ≡ next_byte (behind_all from p) → AddsUp from next p
adds_up from next End e = record { node = omega (arith, ap (λ p. p.node) e); scope = omega (arith, ap (λ p. p.scope) e); reference = omega (arith, ap (λ p. p.reference) e) }
adds_up from next (Then s p) e =
    let rest = adds_up (behind (next_byte from) s) next p e in
    record { node = omega (arith, rest.node); scope = omega (arith, rest.scope); reference = omega (arith, rest.reference) }

-- The offset behind a tree is its own and its width.
pub read-width : (depth at next : ℕ) (bytes : List ℕ) (s : Syntax) → at ≤ next → next ≤ length bytes → Begins depth (plain s) (drop at bytes) (drop next bytes) → next ≡ at + width s
read-width depth at next bytes s forward within b =
    omega (arith, ap length b.spelled, length-append (spelling (plain s)) (drop next bytes), length-drop at bytes, length-drop next bytes)

-- The first part of a list or of a node, and the rest.
pub parts-split : (listed : Bool) (s : Syntax) (p : Pieces) → are_parts listed (Then s p) ≡ true → (may_stand listed s ≡ true) × (is_shaped s ≡ true) × (are_parts listed p ≡ true)
parts-split true s p e =
    let both = and_parts (is_item s && is_shaped s) (are_items p) e in
    let one = and_parts (is_item s) (is_shaped s) both.0 in
    (one.0, one.1, both.1)
parts-split false s p e = let both = and_parts (is_shaped s) (are_shaped p) e in (refl, both.0, both.1)

pub parts-joined : (listed : Bool) (s : Syntax) (p : Pieces) → may_stand listed s ≡ true → is_shaped s ≡ true → are_parts listed p ≡ true → are_parts listed (Then s p) ≡ true
parts-joined true s p item shaped rest = rw (item, shaped, rest) refl
parts-joined false s p item shaped rest = rw (shaped, rest) refl

pub parts-end : (listed : Bool) → are_parts listed End ≡ true
parts-end true = refl
parts-end false = refl

-- A list or a node that may have `many` parts may have fewer.
hold-fewer : (listed : Bool) (fewer many : ℕ) → fewer ≤ many → may_hold listed many ≡ true → may_hold listed fewer ≡ true
hold-fewer true fewer many less h = refl
hold-fewer false fewer many less h = le-leb fewer 8 (omega (arith, less, leb-true many 8 h))

hold-none : (listed : Bool) → may_hold listed 0 ≡ true
hold-none true = refl
hold-none false = refl

-- Trees in front of pieces.
abbrev pub before : List Syntax → Pieces → Pieces
before [] pieces = pieces
before (s ∷ ss) pieces = Then s (before ss pieces)

before-end : (ss : List Syntax) → before ss End ≡ pieces_of ss
before-end [] = refl
before-end (s ∷ ss) = ap (Then s) (before-end ss)

before-more : (ss : List Syntax) (s : Syntax) (p : Pieces) → before (ss ++ s ∷ []) p ≡ before ss (Then s p)
before-more [] s p = refl
before-more (first ∷ ss) s p = ap (Then first) (before-more ss s p)

-- The pieces may be parts, and with the bracket they begin the bytes.
pub record Continues (close depth : ℕ) (p : Pieces) (bytes rest : List ℕ) : Type 0 where
  pub shaped : are_parts (close == 93) p ≡ true
  pub there : GoesOn close depth (plain_parts p) bytes rest

-- The first of the pieces begins the bytes, and the others go on behind it.
pub record First (close depth : ℕ) (p : Pieces) (bytes rest : List ℕ) : Type 0 where
  pub piece : Syntax
  pub more : Pieces
  pub is : p ≡ Then piece more
  pub allowed : may_stand (close == 93) piece ≡ true
  pub shaped : is_shaped piece ≡ true
  pub begins : Begins depth (plain piece) bytes (spelled_on close (plain_parts more) ++ rest)
  pub low : height_of (plain_parts more) ≤ depth
  pub writable : notation.AreWritable (plain_parts more)
  pub shaped_more : are_parts (close == 93) more ≡ true

pub first-of : (close depth : ℕ) (s : Syntax) (p : Pieces) (bytes rest : List ℕ) → IsBracket close → are_parts (close == 93) (Then s p) ≡ true → notation.AreWritable (plain_parts (Then s p)) → height_of (plain_parts (Then s p)) ≤ depth → bytes ≡ spelling (plain s) ++ (spelled_on close (plain_parts p) ++ rest) → First close depth (Then s p) bytes rest
first-of close depth s p bytes rest bracket e writable low spelled =
    let parts = parts-split (close == 93) s p e in record {
      piece = s;
      more = p;
      is = refl;
      allowed = parts.0;
      shaped = parts.1;
      begins = record {
        writable = writable.0;
        low = omega (arith, low);
        ends = ends-from_no_digit (plain s) (spelled_on close (plain_parts p) ++ rest) (no_digit-on close (plain_parts p) rest bracket);
        spelled = spelled;
      };
      low = omega (arith, low);
      writable = writable.1;
      shaped_more = parts.2;
    }

module _ (close depth : ℕ) (bytes : List ℕ) where
  -- The trees were read from one offset to another.
  pub record ReadsPieces (at place : ℕ) (ss : List Syntax) : Type 0 where
    pub whole : (p : Pieces) (rest : List ℕ) → Continues close depth p (drop place bytes) rest → Continues close depth (before ss p) (drop at bytes) rest
    pub on : (p : Pieces) (rest : List ℕ) → Continues close depth p (drop at bytes) rest → (more : Pieces) × (part_count p ≡ part_count (pieces_of ss) + part_count more) × Continues close depth more (drop place bytes) rest

  pieces-begun : (at : ℕ) → ReadsPieces at at []
  pieces-begun at = record { whole = λ p rest c. c; on = λ p rest c. (p, omega arith, c) }

  -- A piece behind a space begins there, and pieces go on behind it.
  on-space : (place : ℕ) (p : Pieces) (rest : List ℕ) → IsBracket close → drop place bytes ≡ 32 ∷ drop (place + 1) bytes → Continues close depth p (drop place bytes) rest → First close depth p (drop (place + 1) bytes) rest
  on-space place End rest bracket space c = absurd (bracket-no_space close bracket (sym (heads 32 close _ _ (sym space ∙ c.there.spelled)).0))
  on-space place (Then s p) rest bracket space c =
      first-of close depth s p (drop (place + 1) bytes) rest bracket c.shaped c.there.writable c.there.low ((heads 32 32 _ _ (sym space ∙ c.there.spelled)).1 ∙ append_assoc (spelling (plain s)) (spelled_on close (plain_parts p)) rest)

  -- Pieces go on behind the first.
  pub behind-first : (at after : ℕ) (p : Pieces) (rest : List ℕ) (s : Syntax) → First close depth p (drop at bytes) rest → Begins depth (plain s) (drop at bytes) (drop after bytes) → (more : Pieces) × (part_count p ≡ part_count more + 1) × Continues close depth more (drop after bytes) rest
  behind-first at after p rest s f stands =
      let same = spellings-apart (plain s) (plain f.piece) (drop after bytes) (spelled_on close (plain_parts f.more) ++ rest) stands.writable f.begins.writable stands.ends f.begins.ends (sym stands.spelled ∙ f.begins.spelled) in
      (f.more, ap part_count f.is, record { shaped = f.shaped_more; there = record { writable = f.writable; low = f.low; spelled = same.1 } })

  module _ (at place : ℕ) (ss : List Syntax) (bracket : IsBracket close) (reads : ReadsPieces at place ss) where
    -- A further piece was read, behind a space.
    pieces-more : (s : Syntax) (after : ℕ) → drop place bytes ≡ 32 ∷ drop (place + 1) bytes → may_stand (close == 93) s ≡ true → is_shaped s ≡ true → Begins depth (plain s) (drop (place + 1) bytes) (drop after bytes) → ReadsPieces at after (ss ++ s ∷ [])
    pieces-more s after space allowed shaped stands = record {
      whole = λ p rest c. subst (λ q. Continues close depth q (drop at bytes) rest) (sym (before-more ss s p))
          (reads.whole (Then s p) rest (record {
            shaped = parts-joined (close == 93) s p allowed shaped c.shaped;
            there = record {
              writable = (stands.writable, c.there.writable);
              low = omega (arith, stands.low, c.there.low);
              spelled = space ∙ ap (λ l. 32 ∷ l) (stands.spelled ∙ ap (λ l. spelling (plain s) ++ l) c.there.spelled ∙ sym (append_assoc (spelling (plain s)) (spelled_on close (plain_parts p)) rest));
            };
          }));
      on = λ p rest c.
          let m = reads.on p rest c in
          let b = behind-first (place + 1) after m.0 rest s (on-space place m.0 rest bracket space m.2) stands in
          (b.0, omega (arith, m.1, b.1, count_behind ss s), b.2);
    }

    -- The bracket stands here.
    pieces-closed : drop place bytes ≡ close ∷ drop (place + 1) bytes → Continues close depth (pieces_of ss) (drop at bytes) (drop (place + 1) bytes)
    pieces-closed here = subst (λ q. Continues close depth q (drop at bytes) (drop (place + 1) bytes)) (before-end ss)
        (reads.whole End (drop (place + 1) bytes) (record { shaped = parts-end (close == 93); there = record { writable = tt; low = omega arith; spelled = here } }))

    -- Neither the bracket nor a space stands here.
    pub pieces-stopped : ((u : List ℕ) → drop place bytes ≡ close ∷ u → ⊥) → ((u : List ℕ) → drop place bytes ≡ 32 ∷ u → ⊥) → NoneAdds close depth (drop at bytes)
    pieces-stopped no_bracket no_space p rest few shaped e = let m = reads.on p rest (record { shaped = shaped; there = e }) in go m.0 m.2
      where
        go : (more : Pieces) → Continues close depth more (drop place bytes) rest → ⊥
        go End c = no_bracket rest c.there.spelled
        go (Then s more) c = no_space ((spelling (plain s) ++ spelled_on close (plain_parts more)) ++ rest) c.there.spelled

    -- No piece stands behind the space.
    pub pieces-none : drop place bytes ≡ 32 ∷ drop (place + 1) bytes → ((s : Syntax) (u : List ℕ) → may_stand (close == 93) s ≡ true → is_shaped s ≡ true → Begins depth (plain s) (drop (place + 1) bytes) u → ⊥) → NoneAdds close depth (drop at bytes)
    pieces-none space none p rest few shaped e =
        let m = reads.on p rest (record { shaped = shaped; there = e }) in
        let f = on-space place m.0 rest bracket space m.2 in
        none f.piece (spelled_on close (plain_parts f.more) ++ rest) f.allowed f.shaped f.begins

    -- A piece stands behind the space, and is one too many.
    pub pieces-many : drop place bytes ≡ 32 ∷ drop (place + 1) bytes → may_hold (close == 93) (part_count (pieces_of ss) + 1) ≡ false → NoneAdds close depth (drop at bytes)
    pieces-many space full p rest few shaped e =
        let m = reads.on p rest (record { shaped = shaped; there = e }) in
        let f = on-space place m.0 rest bracket space m.2 in
        let one : part_count m.0 ≡ part_count f.more + 1 = ap part_count f.is in
        true≢false (sym (hold-fewer (close == 93) (part_count (pieces_of ss) + 1) (part_count p) (omega (arith, m.1, one)) few) ∙ full)

-- `new` is `old` followed by the parts between the positions `from` and `now`, `parts` of them.
pub record HasRead (close depth : ℕ) (from now : Position) (parts : ℕ) (bytes : List ℕ) (old new : List Numbered) : Type 0 where
  pub more : List Numbered
  pub added : new ≡ old ++ more
  pub forward : from.byte ≤ now.byte
  pub within : now.byte ≤ length bytes
  pub reads : ReadsPieces close depth bytes from.byte now.byte (map syntax more)
  pub placed : ArePlaced from (pieces_of (map syntax more))
  pub passed : now ≡ behind_all from (pieces_of (map syntax more))
  pub low : IsLow now
  pub number : parts ≡ part_count (pieces_of (map syntax more))
  pub few : may_hold (close == 93) parts ≡ true
  pub short : parts ≤ now.byte

pub has-begun : (close depth : ℕ) (from : Position) (bytes : List ℕ) (old : List Numbered) → from.byte ≤ length bytes → IsLow from → HasRead close depth from from 0 bytes old old
has-begun close depth from bytes old within low = record {
  more = [];
  added = sym (append-nil old);
  forward = omega arith;
  within = within;
  reads = pieces-begun close depth bytes from.byte;
  placed = tt;
  passed = refl;
  low = low;
  number = refl;
  few = hold-none (close == 93);
  short = omega arith;
}

pub has-more : (close depth : ℕ) (from now : Position) (parts : ℕ) (next : Position) (bytes : List ℕ) (old before new : List Numbered) (part : Numbered) → IsBracket close → HasRead close depth from now parts bytes old before → may_hold (close == 93) (parts + 1) ≡ true → drop now.byte bytes ≡ 32 ∷ drop (now.byte + 1) bytes → may_stand (close == 93) (syntax part) ≡ true → IsRead depth (next_byte now) bytes (syntax part) next → new ≡ before ++ part ∷ [] → HasRead close depth from next (parts + 1) bytes old new
has-more close depth from now parts next bytes old before new part bracket h few space allowed read pushed =
    let listed : map syntax (h.more ++ part ∷ []) ≡ map syntax h.more ++ syntax part ∷ [] = map-append syntax h.more (part ∷ []) in
    record {
      more = h.more ++ part ∷ [];
      added = pushed ∙ ap (λ l. l ++ part ∷ []) h.added ∙ append_assoc old h.more (part ∷ []);
      forward = omega (arith, h.forward, read.forward);
      within = read.within;
      reads = subst (λ ss. ReadsPieces close depth bytes from.byte next.byte ss) (sym listed)
          (pieces-more close depth bytes from.byte now.byte (map syntax h.more) bracket h.reads (syntax part) next.byte space allowed read.shaped read.begins);
      placed = rw listed (placed_behind from (map syntax h.more) (syntax part) h.placed (subst (λ p. IsPlaced (next_byte p) (syntax part)) h.passed read.placed));
      passed = rw listed (read.passed ∙ ap (λ p. behind (next_byte p) (syntax part)) h.passed ∙ sym (behind_behind from (map syntax h.more) (syntax part)));
      low = read.low;
      number = rw listed (omega (arith, count_behind (map syntax h.more) (syntax part), h.number));
      few = few;
      short = omega (arith, h.short, read.forward);
    }

pub has-closed : (close depth : ℕ) (from now : Position) (parts : ℕ) (bytes : List ℕ) (old new : List Numbered) → IsBracket close → HasRead close depth from now parts bytes old new → now.byte < length bytes → drop now.byte bytes ≡ close ∷ drop (now.byte + 1) bytes → AddsRead close depth from bytes old new (next_byte now)
has-closed close depth from now parts bytes old new bracket h lt here =
    let c = pieces-closed close depth bytes from.byte now.byte (map syntax h.more) bracket h.reads here in record {
      more = h.more;
      added = h.added;
      forward = omega (arith, h.forward);
      within = omega arith;
      there = c.there;
      few = subst (λ n. may_hold (close == 93) n ≡ true) h.number h.few;
      shaped = c.shaped;
      placed = h.placed;
      passed = ap (λ p. next_byte p) h.passed;
      low = (omega (arith, h.low.0), h.low.1, h.low.2);
    }
