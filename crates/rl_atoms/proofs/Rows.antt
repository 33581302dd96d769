-- Rows of values in lists: no row begins another, and rows are read value by value.
use Rattle.std.proofs.Common.{◌≡◌, ℕ, ◌<◌, ◌≤◌, ◌+◌, true, false, List, [], ◌∷◌, ◌++◌, length, drop, refl, sym, ◌∙◌, ap, arith, append_assoc, length-append, length-drop}
use Rattle.std.proofs.Math.Seq.{drop-append_seam}
use Rattle.std.proofs.lemmas.List.{append-nil, drop-drop}
use Rattle.rl_text.specs.Atoms.{ends, StandsAt, NoneStandsAt, HaveOneSpelling, AreApart, NeverBegin}
use Rattle.rl_text.proofs.Atoms.{same_begun}
use Rattle.rl_text.proofs.Runs.{heads}
use Rattle.rl_atoms.specs.Lists.{SpellsRow, AddsRow, NoRow}

differ : (a b : ℕ) (x y : List ℕ) → a ∷ x ≡ b ∷ y → (a ≡ b → ⊥) → ⊥
differ a b x y h other = other (heads a b x y h).0

-- A space is no closing bracket.
space_close : (x y : List ℕ) → 32 ∷ x ≡ 93 ∷ y → ⊥
space_close x y h = differ 32 93 x y h (λ e. omega (arith, e))

module _ {X : Type 0} (spells : X → List ℕ → Type 0) where
  -- A spelling may end in front of a row.
  pub row_ends : (values : List X) (row rest : List ℕ) → SpellsRow spells true values row → ends rest ≡ true → ends (row ++ rest) ≡ true
  row_ends [] row rest p h = ap (λ l. ends (l ++ rest)) p ∙ h
  row_ends (value ∷ values) row rest p h = ap (λ l. ends (l ++ rest)) p.4

  -- A row and a value behind it are a row.
  row_more : (values : List X) (value : X) (row s : List ℕ) → SpellsRow spells true values row → spells value s
      → SpellsRow spells true (values ++ value ∷ []) (row ++ 32 ∷ s)
  row_more [] value row s p q = (s, [], q, refl, ap (λ l. l ++ 32 ∷ s) p ∙ ap (λ l. 32 ∷ l) (sym (append-nil s)))
  row_more (first ∷ values) value row s p q =
      (p.0, p.1 ++ 32 ∷ s, p.2, row_more values value p.1 s p.3 q, ap (λ l. l ++ 32 ∷ s) p.4 ∙ ap (λ l. 32 ∷ l) (append_assoc p.0 p.1 (32 ∷ s)))

  -- A value stands where a spelling of it begins the bytes, if a spelling may end behind it.
  stands_begun : NeverBegin spells 93 → (bytes : List ℕ) (at : ℕ) (value : X) (s rest : List ℕ) → spells value s → ends rest ≡ true
      → drop at bytes ≡ s ++ rest → StandsAt spells bytes at value (at + length s)
  stands_begun never bytes at value s rest p h e = record {
    spelling = s;
    spelled = p;
    there = e ∙ ap (λ l. s ++ l) (sym behind);
    forward = omega (arith, some s p);
    within = omega (arith, ap length e, length-append s rest, length-drop at bytes, some s p);
    ended = ap ends behind ∙ h;
  }
    where
      behind : drop (at + length s) bytes ≡ rest
      behind = sym (drop-drop (length s) at bytes) ∙ ap (drop (length s)) e ∙ drop-append_seam s rest

      some : (t : List ℕ) → spells value t → 0 < length t
      some [] q = absurd (never value [] (93 ∷ []) [] q refl)
      some (byte ∷ t) q = omega arith

  -- The values that were read so far from the offset `at` on, up to `place`.
  pub record HasRow (bytes : List ℕ) (at place : ℕ) (old new : List X) : Type 0 where
    pub more : List X
    pub row : List ℕ
    pub added : new ≡ old ++ more
    pub spelled : SpellsRow spells true more row
    pub there : drop at bytes ≡ row ++ drop place bytes
    pub forward : at ≤ place
    pub within : place ≤ length bytes
    pub ended : ends (drop place bytes) ≡ true

  pub row_begun : (bytes : List ℕ) (at : ℕ) (old : List X) → at ≤ length bytes → ends (drop at bytes) ≡ true → HasRow bytes at at old old
  row_begun bytes at old within h = record {
    more = [];
    row = [];
    added = sym (append-nil old);
    spelled = refl;
    there = refl;
    forward = omega arith;
    within = within;
    ended = h;
  }

  pub row_read : (bytes : List ℕ) (at place next : ℕ) (old now new : List X) (value : X) → HasRow bytes at place old now
      → drop place bytes ≡ 32 ∷ drop (place + 1) bytes → StandsAt spells bytes (place + 1) value next → new ≡ now ++ value ∷ [] → HasRow bytes at next old new
  row_read bytes at place next old now new value has space s e = record {
    more = has.more ++ value ∷ [];
    row = has.row ++ 32 ∷ s.spelling;
    added = e ∙ ap (λ l. l ++ value ∷ []) has.added ∙ append_assoc old has.more (value ∷ []);
    spelled = row_more has.more value has.row s.spelling has.spelled s.spelled;
    there = has.there ∙ ap (λ l. has.row ++ l) (space ∙ ap (λ l. 32 ∷ l) s.there) ∙ sym (append_assoc has.row (32 ∷ s.spelling) (drop next bytes));
    forward = omega (arith, has.forward, s.forward);
    within = s.within;
    ended = s.ended;
  }

  pub row_closed : (bytes : List ℕ) (at place : ℕ) (old new : List X) → HasRow bytes at place old new → place < length bytes
      → drop place bytes ≡ 93 ∷ drop (place + 1) bytes → AddsRow spells true bytes at (place + 1) old new
  row_closed bytes at place old new has low close = record {
    more = has.more;
    row = has.row;
    added = has.added;
    spelled = has.spelled;
    there = has.there ∙ ap (λ l. has.row ++ l) close;
    forward = omega (arith, has.forward);
    within = omega (arith, low);
  }

  -- No row stands where no value stands behind the first space.
  row_no_value : NeverBegin spells 93 → (bytes : List ℕ) (place : ℕ) (others : List X) (row u : List ℕ) → SpellsRow spells true others row
      → drop place bytes ≡ row ++ 93 ∷ u → drop place bytes ≡ 32 ∷ drop (place + 1) bytes → NoneStandsAt spells bytes (place + 1) → ⊥
  row_no_value never bytes place [] row u m e space none = space_close _ _ (sym space ∙ e ∙ ap (λ l. l ++ 93 ∷ u) m)
  row_no_value never bytes place (value ∷ others) row u m e space none =
      let behind = (heads 32 32 _ _ (sym space ∙ e ∙ ap (λ l. l ++ 93 ∷ u) m.4)).1 in
      none value (place + 1 + length m.0) (stands_begun never bytes (place + 1) value m.0 (m.1 ++ 93 ∷ u) m.2
      (row_ends others m.1 (93 ∷ u) m.3 refl) (behind ∙ append_assoc m.0 m.1 (93 ∷ u)))

  -- No row stands where neither a space nor `]` stands.
  row_stopped : (bytes : List ℕ) (place : ℕ) (others : List X) (row u : List ℕ) → SpellsRow spells true others row
      → drop place bytes ≡ row ++ 93 ∷ u → ((v : List ℕ) → drop place bytes ≡ 32 ∷ v → ⊥) → ((v : List ℕ) → drop place bytes ≡ 93 ∷ v → ⊥) → ⊥
  row_stopped bytes place [] row u m e no_space no_close = no_close u (e ∙ ap (λ l. l ++ 93 ∷ u) m)
  row_stopped bytes place (value ∷ others) row u m e no_space no_close = no_space _ (e ∙ ap (λ l. l ++ 93 ∷ u) m.4)

  -- The empty row.
  pub first_closed : (bytes : List ℕ) (at : ℕ) (old : List X) → at < length bytes → drop at bytes ≡ 93 ∷ drop (at + 1) bytes → AddsRow spells false bytes at (at + 1) old old
  first_closed bytes at old low close = record {
    more = [];
    row = [];
    added = sym (append-nil old);
    spelled = refl;
    there = close;
    forward = omega arith;
    within = omega (arith, low);
  }

  -- A value and a row behind it.
  pub first_row : (bytes : List ℕ) (at after next : ℕ) (old now new : List X) (value : X) → StandsAt spells bytes at value after → now ≡ old ++ value ∷ []
      → AddsRow spells true bytes after next now new → AddsRow spells false bytes at next old new
  first_row bytes at after next old now new value s e adds = record {
    more = value ∷ adds.more;
    row = s.spelling ++ adds.row;
    added = adds.added ∙ ap (λ l. l ++ adds.more) e ∙ append_assoc old (value ∷ []) adds.more;
    spelled = (s.spelling, adds.row, s.spelled, adds.spelled, refl);
    there = s.there ∙ ap (λ l. s.spelling ++ l) adds.there ∙ sym (append_assoc s.spelling adds.row (93 ∷ drop next bytes));
    forward = omega (arith, s.forward, adds.forward);
    within = adds.within;
  }

  -- No row stands where neither a value nor `]` stands.
  pub first_none : NeverBegin spells 93 → (bytes : List ℕ) (at : ℕ) → NoneStandsAt spells bytes at → ((v : List ℕ) → drop at bytes ≡ 93 ∷ v → ⊥) → NoRow spells false bytes at
  first_none never bytes at none no_close [] row u m e = no_close u (e ∙ ap (λ l. l ++ 93 ∷ u) m)
  first_none never bytes at none no_close (value ∷ values) row u m e =
      none value (at + length m.0) (stands_begun never bytes at value m.0 (m.1 ++ 93 ∷ u) m.2
      (row_ends values m.1 (93 ∷ u) m.3 refl) (e ∙ ap (λ l. l ++ 93 ∷ u) m.4 ∙ append_assoc m.0 m.1 (93 ∷ u)))

module _ {X : Type 0} (spells : X → List ℕ → Type 0) (one : HaveOneSpelling spells) (apart : AreApart spells) where
  -- A row that stands where a row was read goes on behind what was read.
  row_on : (more values : List X) (p q rest u : List ℕ) → SpellsRow spells true more p → SpellsRow spells true values q → ends rest ≡ true
      → p ++ rest ≡ q ++ 93 ∷ u → (others : List X) × (row : List ℕ) × SpellsRow spells true others row × (rest ≡ row ++ 93 ∷ u)
  row_on [] values p q rest u m n h e = (values, q, n, ap (λ l. l ++ rest) (sym m) ∙ e)
  row_on (x ∷ more) [] p q rest u m n h e =
      absurd (space_close _ _ (ap (λ l. l ++ rest) (sym m.4) ∙ e ∙ ap (λ l. l ++ 93 ∷ u) n))
  row_on (x ∷ more) (y ∷ values) p q rest u m n h e =
      let behind = (heads 32 32 _ _ (ap (λ l. l ++ rest) (sym m.4) ∙ e ∙ ap (λ l. l ++ 93 ∷ u) n.4)).1 in
      let same = same_begun spells one apart x y m.0 n.0 (m.1 ++ rest) (n.1 ++ 93 ∷ u) m.2 n.2
      (row_ends spells more m.1 rest m.3 h) (row_ends spells values n.1 (93 ∷ u) n.3 refl)
      (sym (append_assoc m.0 m.1 rest) ∙ behind ∙ append_assoc n.0 n.1 (93 ∷ u)) in
      row_on more values m.1 n.1 rest u m.3 n.3 h same.2

  -- No row stands where no value stands behind the space that follows the values that were read.
  pub row_unread : NeverBegin spells 93 → (bytes : List ℕ) (at place : ℕ) (old now : List X) → HasRow spells bytes at place old now
      → drop place bytes ≡ 32 ∷ drop (place + 1) bytes → NoneStandsAt spells bytes (place + 1) → NoRow spells true bytes at
  row_unread never bytes at place old now has space none values row u m e =
      let on = row_on has.more values has.row row (drop place bytes) u has.spelled m has.ended (sym has.there ∙ e) in
      row_no_value spells never bytes place on.0 on.1 u on.2 on.3 space none

  -- No row stands where neither a space nor `]` stands behind the values that were read.
  pub row_unclosed : (bytes : List ℕ) (at place : ℕ) (old now : List X) → HasRow spells bytes at place old now
      → ((v : List ℕ) → drop place bytes ≡ 32 ∷ v → ⊥) → ((v : List ℕ) → drop place bytes ≡ 93 ∷ v → ⊥) → NoRow spells true bytes at
  row_unclosed bytes at place old now has no_space no_close values row u m e =
      let on = row_on has.more values has.row row (drop place bytes) u has.spelled m has.ended (sym has.there ∙ e) in
      row_stopped spells bytes place on.0 on.1 u on.2 on.3 no_space no_close

  -- No row stands where a value stands and no row stands behind it.
  pub first_no_row : (bytes : List ℕ) (at after : ℕ) (value : X) → StandsAt spells bytes at value after → NoRow spells true bytes after
      → ((v : List ℕ) → drop at bytes ≡ 93 ∷ v → ⊥) → NoRow spells false bytes at
  first_no_row bytes at after value s none no_close [] row u m e = no_close u (e ∙ ap (λ l. l ++ 93 ∷ u) m)
  first_no_row bytes at after value s none no_close (first ∷ values) row u m e =
      let same = same_begun spells one apart value first s.spelling m.0 (drop after bytes) (m.1 ++ 93 ∷ u) s.spelled m.2 s.ended
      (row_ends spells values m.1 (93 ∷ u) m.3 refl)
      (sym s.there ∙ e ∙ ap (λ l. l ++ 93 ∷ u) m.4 ∙ append_assoc m.0 m.1 (93 ∷ u)) in
      none values m.1 u m.3 same.2

  -- No row begins another.
  tails_apart : (xs ys : List X) (p q u v : List ℕ) → SpellsRow spells true xs p → SpellsRow spells true ys q → p ++ 93 ∷ u ≡ q ++ 93 ∷ v → (xs ≡ ys) × (u ≡ v)
  tails_apart [] [] p q u v m n e = (refl, (heads 93 93 _ _ (ap (λ l. l ++ 93 ∷ u) (sym m) ∙ e ∙ ap (λ l. l ++ 93 ∷ v) n)).1)
  tails_apart [] (y ∷ ys) p q u v m n e = absurd (space_close _ _ (sym (ap (λ l. l ++ 93 ∷ u) (sym m) ∙ e ∙ ap (λ l. l ++ 93 ∷ v) n.4)))
  tails_apart (x ∷ xs) [] p q u v m n e = absurd (space_close _ _ (ap (λ l. l ++ 93 ∷ u) (sym m.4) ∙ e ∙ ap (λ l. l ++ 93 ∷ v) n))
  tails_apart (x ∷ xs) (y ∷ ys) p q u v m n e =
      let behind = (heads 32 32 _ _ (ap (λ l. l ++ 93 ∷ u) (sym m.4) ∙ e ∙ ap (λ l. l ++ 93 ∷ v) n.4)).1 in
      let same = same_begun spells one apart x y m.0 n.0 (m.1 ++ 93 ∷ u) (n.1 ++ 93 ∷ v) m.2 n.2
      (row_ends spells xs m.1 (93 ∷ u) m.3 refl) (row_ends spells ys n.1 (93 ∷ v) n.3 refl)
      (sym (append_assoc m.0 m.1 (93 ∷ u)) ∙ behind ∙ append_assoc n.0 n.1 (93 ∷ v)) in
      let rest = tails_apart xs ys m.1 n.1 u v m.3 n.3 same.2 in
      ((λ i. same.0 i ∷ rest.0 i), rest.1)

  pub rows_apart : NeverBegin spells 93 → (xs ys : List X) (p q u v : List ℕ) → SpellsRow spells false xs p → SpellsRow spells false ys q
      → p ++ 93 ∷ u ≡ q ++ 93 ∷ v → (xs ≡ ys) × (u ≡ v)
  rows_apart never [] [] p q u v m n e = (refl, (heads 93 93 _ _ (ap (λ l. l ++ 93 ∷ u) (sym m) ∙ e ∙ ap (λ l. l ++ 93 ∷ v) n)).1)
  rows_apart never [] (y ∷ ys) p q u v m n e =
      absurd (never y n.0 (n.1 ++ 93 ∷ v) u n.2 (sym (append_assoc n.0 n.1 (93 ∷ v)) ∙ sym (ap (λ l. l ++ 93 ∷ u) (sym m) ∙ e ∙ ap (λ l. l ++ 93 ∷ v) n.4)))
  rows_apart never (x ∷ xs) [] p q u v m n e =
      absurd (never x m.0 (m.1 ++ 93 ∷ u) v m.2 (sym (append_assoc m.0 m.1 (93 ∷ u)) ∙ ap (λ l. l ++ 93 ∷ u) (sym m.4) ∙ e ∙ ap (λ l. l ++ 93 ∷ v) n))
  rows_apart never (x ∷ xs) (y ∷ ys) p q u v m n e =
      let same = same_begun spells one apart x y m.0 n.0 (m.1 ++ 93 ∷ u) (n.1 ++ 93 ∷ v) m.2 n.2
      (row_ends spells xs m.1 (93 ∷ u) m.3 refl) (row_ends spells ys n.1 (93 ∷ v) n.3 refl)
      (sym (append_assoc m.0 m.1 (93 ∷ u)) ∙ ap (λ l. l ++ 93 ∷ u) (sym m.4) ∙ e ∙ ap (λ l. l ++ 93 ∷ v) n.4 ∙ append_assoc n.0 n.1 (93 ∷ v)) in
      let rest = tails_apart xs ys m.1 n.1 u v m.3 n.3 same.2 in
      ((λ i. same.0 i ∷ rest.0 i), rest.1)
