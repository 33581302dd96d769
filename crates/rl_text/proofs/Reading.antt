-- Parts are read one by one.
use Rattle.std.proofs.Common.{◌≡◌, ℕ, ◌+◌, ◌≤◌, ◌<◌, List, [], ◌∷◌, ◌++◌, length, map, drop, ap, sym, ◌∙◌, refl, arith, subst, append_assoc}
use Rattle.rl_text.specs.Notation.{Tree, Parts, End, Then, spelling, spelled_on, AreWritable, height_of}
use Rattle.rl_text.specs.Raw.{tree, parts_of}
use Rattle.rl_text.specs.Places.{Begins, NoneBegins, GoesOn, NoneGoesOn, IsBracket, Adds}
use Rattle.rl_text.specs.declared.raw.Raw.{Raw}
use Rattle.std.proofs.lemmas.List.{append-nil, map-append}
use Rattle.rl_text.proofs.Runs.{heads}
use Rattle.rl_text.proofs.Spellings.{spellings-apart}
use Rattle.rl_text.proofs.Worded.{bracket-no_space, no_digit-on, ends-from_no_digit}

-- Trees in front of parts.
abbrev pub joined : List Tree → Parts → Parts
joined [] parts = parts
joined (t ∷ ts) parts = Then t (joined ts parts)

pub joined-end : (ts : List Tree) → joined ts End ≡ parts_of ts
joined-end [] = refl
joined-end (t ∷ ts) = ap (Then t) (joined-end ts)

pub joined-more : (ts : List Tree) (t : Tree) (parts : Parts) → joined (ts ++ t ∷ []) parts ≡ joined ts (Then t parts)
joined-more [] t parts = refl
joined-more (s ∷ ts) t parts = ap (Then s) (joined-more ts t parts)

module _ (close depth : ℕ) (bytes : List ℕ) where
  -- The trees `ts` were read from the offset `at` up to `place`.
  pub record ReadsParts (at place : ℕ) (ts : List Tree) : Type 0 where
    pub whole : (parts : Parts) (rest : List ℕ) → GoesOn close depth parts (drop place bytes) rest → GoesOn close depth (joined ts parts) (drop at bytes) rest
    pub on : (parts : Parts) (rest : List ℕ) → GoesOn close depth parts (drop at bytes) rest → (more : Parts) × GoesOn close depth more (drop place bytes) rest

  pub parts-begun : (at : ℕ) → ReadsParts at at []
  parts-begun at = record { whole = λ parts rest e. e; on = λ parts rest e. (parts, e) }

  -- A part that is behind a space begins there, and parts go on behind it.
  on-space : (place : ℕ) (more : Parts) (rest : List ℕ) → IsBracket close → drop place bytes ≡ 32 ∷ drop (place + 1) bytes → GoesOn close depth more (drop place bytes) rest → (t : Tree) × (parts : Parts) × (more ≡ Then t parts) × Begins depth t (drop (place + 1) bytes) (spelled_on close parts ++ rest) × AreWritable parts × (height_of parts ≤ depth)
  on-space place End rest bracket space e = absurd (bracket-no_space close bracket (sym (heads 32 close _ _ (sym space ∙ e.spelled)).0))
  on-space place (Then t parts) rest bracket space e = (
    t,
    parts,
    refl,
    record {
      writable = e.writable.0;
      low = omega (arith, e.low);
      ends = ends-from_no_digit t (spelled_on close parts ++ rest) (no_digit-on close parts rest bracket);
      spelled = (heads 32 32 _ _ (sym space ∙ e.spelled)).1 ∙ append_assoc (spelling t) (spelled_on close parts) rest;
    },
    e.writable.1,
    omega (arith, e.low),
  )

  module _ (at place : ℕ) (ts : List Tree) (bracket : IsBracket close) (reads : ReadsParts at place ts) where
    -- A further part was read, behind a space.
    pub parts-more : (t : Tree) (after : ℕ) → drop place bytes ≡ 32 ∷ drop (place + 1) bytes → Begins depth t (drop (place + 1) bytes) (drop after bytes) → ReadsParts at after (ts ++ t ∷ [])
    parts-more t after space stands = record {
      whole = λ parts rest e. subst (λ ps. GoesOn close depth ps (drop at bytes) rest) (sym (joined-more ts t parts))
          (reads.whole (Then t parts) rest (record {
            writable = (stands.writable, e.writable);
            low = omega (arith, stands.low, e.low);
            spelled = space ∙ ap (λ l. 32 ∷ l) (stands.spelled ∙ ap (λ l. spelling t ++ l) e.spelled ∙ sym (append_assoc (spelling t) (spelled_on close parts) rest));
          }));
      on = λ parts rest e.
          let m = reads.on parts rest e in
          let s = on-space place m.0 rest bracket space m.1 in
          let same = spellings-apart t s.0 (drop after bytes) (spelled_on close s.1 ++ rest) stands.writable s.3.writable stands.ends s.3.ends (sym stands.spelled ∙ s.3.spelled) in
          (s.1, record { writable = s.4; low = s.5; spelled = same.1 });
    }

    -- The bracket stands here.
    pub parts-closed : drop place bytes ≡ close ∷ drop (place + 1) bytes → GoesOn close depth (parts_of ts) (drop at bytes) (drop (place + 1) bytes)
    parts-closed here = subst (λ ps. GoesOn close depth ps (drop at bytes) (drop (place + 1) bytes)) (joined-end ts)
        (reads.whole End (drop (place + 1) bytes) (record { writable = tt; low = omega arith; spelled = here }))

    -- Neither the bracket nor a space stands here.
    pub parts-stopped : ((u : List ℕ) → drop place bytes ≡ close ∷ u → ⊥) → ((u : List ℕ) → drop place bytes ≡ 32 ∷ u → ⊥) → NoneGoesOn close depth (drop at bytes)
    parts-stopped no_bracket no_space parts rest e = let m = reads.on parts rest e in go m.0 m.1
      where
        go : (more : Parts) → GoesOn close depth more (drop place bytes) rest → ⊥
        go End d = no_bracket rest d.spelled
        go (Then t more) d = no_space ((spelling t ++ spelled_on close more) ++ rest) d.spelled

    -- No part stands behind the space.
    pub parts-none : drop place bytes ≡ 32 ∷ drop (place + 1) bytes → NoneBegins depth (drop (place + 1) bytes) → NoneGoesOn close depth (drop at bytes)
    parts-none space none parts rest e =
        let m = reads.on parts rest e in
        let s = on-space place m.0 rest bracket space m.1 in
        none s.0 (spelled_on close s.1 ++ rest) s.3

-- `new` is `old` followed by the parts that were read from the offset `at` up to `place`.
pub record HasRead (close depth : ℕ) (bytes : List ℕ) (at place : ℕ) (old new : List Raw) : Type 0 where
  pub more : List Raw
  pub added : new ≡ old ++ more
  pub forward : at ≤ place
  pub within : place ≤ length bytes
  pub reads : ReadsParts close depth bytes at place (map tree more)

pub has-begun : (close depth : ℕ) (bytes : List ℕ) (at : ℕ) (old : List Raw) → at ≤ length bytes → HasRead close depth bytes at at old old
has-begun close depth bytes at old within = record {
  more = [];
  added = sym (append-nil old);
  forward = omega arith;
  within = within;
  reads = parts-begun close depth bytes at;
}

pub has-more : (close depth : ℕ) (bytes : List ℕ) (at place after : ℕ) (old now new : List Raw) (raw : Raw) → IsBracket close → HasRead close depth bytes at place old now → drop place bytes ≡ 32 ∷ drop (place + 1) bytes → place < after → after ≤ length bytes → Begins depth (tree raw) (drop (place + 1) bytes) (drop after bytes) → new ≡ now ++ raw ∷ [] → HasRead close depth bytes at after old new
has-more close depth bytes at place after old now new raw bracket h space forward within stands pushed = record {
  more = h.more ++ raw ∷ [];
  added = pushed ∙ ap (λ l. l ++ raw ∷ []) h.added ∙ append_assoc old h.more (raw ∷ []);
  forward = omega (arith, h.forward);
  within = within;
  reads = subst (λ ts. ReadsParts close depth bytes at after ts) (sym (map-append tree h.more (raw ∷ [])))
      (parts-more close depth bytes at place (map tree h.more) bracket h.reads (tree raw) after space stands);
}

pub has-closed : (close depth : ℕ) (bytes : List ℕ) (at place : ℕ) (old new : List Raw) → IsBracket close → HasRead close depth bytes at place old new → place < length bytes → drop place bytes ≡ close ∷ drop (place + 1) bytes → Adds close depth bytes at (place + 1) old new
has-closed close depth bytes at place old new bracket h lt here = record {
  more = h.more;
  added = h.added;
  forward = omega (arith, h.forward);
  within = omega arith;
  there = parts-closed close depth bytes at place (map tree h.more) bracket h.reads here;
}
