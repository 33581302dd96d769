-- Laws of options and lists of values: each has one spelling, and at most one stands at an offset.
use Rattle.std.proofs.Common.{◌≡◌, ℕ, ◌<◌, ◌+◌, Bool, true, false, Option, None, Some, List, [], ◌∷◌, ◌++◌, length, drop, refl, sym, ◌∙◌, ap, arith, append_assoc, true≢false}
use Rattle.rl_text.specs.Atoms.{ends, StandsAt, NoneStandsAt, HaveOneSpelling, AreApart, NeverBegin}
use Rattle.rl_text.proofs.Atoms.{stands_one}
use Rattle.rl_text.proofs.Runs.{heads}
use Rattle.rl_text.specs.Spaced.{gap}
use Rattle.rl_atoms.specs.Lists.{SpellsOption, SpellsRow, SpellsList, AddsRow, NoRow}
use Rattle.rl_atoms.proofs.Rows.{rows_apart}

module _ {X : Type 0} (spells : X → List ℕ → Type 0) where
  -- `None` stands where `-` does, if a spelling may end behind it.
  pub absent_stands : (bytes : List ℕ) (at : ℕ) → at < length bytes → drop at bytes ≡ 45 ∷ drop (at + 1) bytes → ends (drop (at + 1) bytes) ≡ true
      → StandsAt (SpellsOption spells) bytes at None (at + 1)
  absent_stands bytes at low there h =
      record { spelling = 45 ∷ []; spelled = refl; there = there; forward = omega arith; within = omega (arith, low); ended = h }

  pub some_stands : (bytes : List ℕ) (at next : ℕ) (value : X) → StandsAt spells bytes at value next → StandsAt (SpellsOption spells) bytes at (Some value) next
  some_stands bytes at next value s =
      record { spelling = s.spelling; spelled = s.spelled; there = s.there; forward = s.forward; within = s.within; ended = s.ended }

  stands_some : (bytes : List ℕ) (at next : ℕ) (value : X) → StandsAt (SpellsOption spells) bytes at (Some value) next → StandsAt spells bytes at value next
  stands_some bytes at next value s =
      record { spelling = s.spelling; spelled = s.spelled; there = s.there; forward = s.forward; within = s.within; ended = s.ended }

  -- No option stands where neither `-` nor a value stands.
  pub option_none : (bytes : List ℕ) (at : ℕ) → ((v : List ℕ) → drop at bytes ≡ 45 ∷ v → ⊥) → NoneStandsAt spells bytes at → NoneStandsAt (SpellsOption spells) bytes at
  option_none bytes at no_sign none None next s = no_sign _ (s.there ∙ ap (λ l. l ++ drop next bytes) s.spelled)
  option_none bytes at no_sign none (Some value) next s = none value next (stands_some bytes at next value s)

  -- No option stands where `-` stands, if no spelling may end behind it.
  pub absent_unended : NeverBegin spells 45 → (bytes : List ℕ) (at : ℕ) → drop at bytes ≡ 45 ∷ drop (at + 1) bytes → ends (drop (at + 1) bytes) ≡ false
      → NoneStandsAt (SpellsOption spells) bytes at
  absent_unended never bytes at there h None next s =
      let rest = (heads 45 45 _ _ (sym there ∙ s.there ∙ ap (λ l. l ++ drop next bytes) s.spelled)).1 in
      true≢false (sym s.ended ∙ ap ends (sym rest) ∙ h)
  absent_unended never bytes at there h (Some value) next s = never value s.spelling (drop next bytes) _ s.spelled (sym s.there ∙ there)

  -- A row between brackets is a list.
  pub list_stands : (bytes : List ℕ) (at next : ℕ) (old values : List X) → old ≡ [] → drop at bytes ≡ 91 ∷ drop (at + 1) bytes → AddsRow spells false bytes (at + 1) next old values
      → ends (drop next bytes) ≡ true → StandsAt (SpellsList spells) bytes at values next
  list_stands bytes at next old values empty opened adds h = record {
    spelling = 91 ∷ (adds.row ++ 93 ∷ []);
    spelled = (adds.row, rw (adds.added ∙ ap (λ l. l ++ adds.more) empty) adds.spelled, refl);
    there = opened ∙ ap (λ l. 91 ∷ l) (adds.there ∙ sym (append_assoc adds.row (93 ∷ []) (drop next bytes)));
    forward = omega (arith, adds.forward);
    within = adds.within;
    ended = h;
  }

  -- The bytes of a list behind its first bracket.
  list_inside : (values : List X) (bytes rest s : List ℕ) → SpellsList spells values s → bytes ≡ s ++ rest
      → (row : List ℕ) × SpellsRow spells false values row × (bytes ≡ 91 ∷ (row ++ 93 ∷ rest))
  list_inside values bytes rest s p e =
      (p.0, p.1, e ∙ ap (λ l. l ++ rest) p.2 ∙ ap (λ l. 91 ∷ l) (append_assoc p.0 (93 ∷ []) rest))

  -- No list stands where no `[` stands.
  pub list_unopened : (bytes : List ℕ) (at : ℕ) → ((v : List ℕ) → drop at bytes ≡ 91 ∷ v → ⊥) → NoneStandsAt (SpellsList spells) bytes at
  list_unopened bytes at no_bracket values next s = no_bracket _ (list_inside values (drop at bytes) (drop next bytes) s.spelling s.spelled s.there).2

  -- No list stands where no row stands behind the bracket.
  pub list_none : (bytes : List ℕ) (at : ℕ) → drop at bytes ≡ 91 ∷ drop (at + 1) bytes → NoRow spells false bytes (at + 1) → NoneStandsAt (SpellsList spells) bytes at
  list_none bytes at opened none values next s =
      let i = list_inside values (drop at bytes) (drop next bytes) s.spelling s.spelled s.there in
      none values i.0 (drop next bytes) i.1 (heads 91 91 _ _ (sym opened ∙ i.2)).1

module _ {X : Type 0} (spells : X → List ℕ → Type 0) (one : HaveOneSpelling spells) (apart : AreApart spells) where
  -- Options.
  one_option : HaveOneSpelling (SpellsOption spells)
  one_option None s t p q = p ∙ sym q
  one_option (Some value) s t p q = one value s t p q

  options_apart : NeverBegin spells 45 → AreApart (SpellsOption spells)
  options_apart never None None s t u v p q m n e = refl
  options_apart never None (Some y) s t u v p q m n e = absurd (never y t v u q (sym e ∙ ap (λ l. l ++ u) p))
  options_apart never (Some x) None s t u v p q m n e = absurd (never x s u v p (e ∙ ap (λ l. l ++ v) q))
  options_apart never (Some x) (Some y) s t u v p q m n e = ap Some (apart x y s t u v p q m n e)

  -- Options that stand at one offset are equal, and end at one offset.
  pub option_one : NeverBegin spells 45 → (bytes : List ℕ) (at n m : ℕ) (x y : Option X) → StandsAt (SpellsOption spells) bytes at x n → StandsAt (SpellsOption spells) bytes at y m → (x ≡ y) × (n ≡ m)
  option_one never bytes at n m x y p q = stands_one (SpellsOption spells) one_option (options_apart never) bytes at n m x y p q

  -- Lists.
  one_row : (between : Bool) (values : List X) (p q : List ℕ) → SpellsRow spells between values p → SpellsRow spells between values q → p ≡ q
  one_row between [] p q m n = m ∙ sym n
  one_row between (value ∷ values) p q m n =
      m.4 ∙ ap (λ l. gap between ++ (l ++ m.1)) (one value m.0 n.0 m.2 n.2) ∙ ap (λ l. gap between ++ (n.0 ++ l)) (one_row true values m.1 n.1 m.3 n.3) ∙ sym n.4

  one_list : HaveOneSpelling (SpellsList spells)
  one_list values s t p q = p.2 ∙ ap (λ l. 91 ∷ (l ++ 93 ∷ [])) (one_row false values p.0 q.0 p.1 q.1) ∙ sym q.2

  lists_apart : NeverBegin spells 93 → AreApart (SpellsList spells)
  lists_apart never xs ys s t u v p q m n e =
      let i = list_inside spells xs (s ++ u) u s p refl in
      let j = list_inside spells ys (t ++ v) v t q refl in
      (rows_apart spells one apart never xs ys i.0 j.0 u v i.1 j.1 (heads 91 91 _ _ (sym i.2 ∙ e ∙ j.2)).1).0

  -- Lists that stand at one offset are equal, and end at one offset.
  pub list_one : NeverBegin spells 93 → (bytes : List ℕ) (at n m : ℕ) (xs ys : List X) → StandsAt (SpellsList spells) bytes at xs n → StandsAt (SpellsList spells) bytes at ys m → (xs ≡ ys) × (n ≡ m)
  list_one never bytes at n m xs ys p q = stands_one (SpellsList spells) one_list (lists_apart never) bytes at n m xs ys p q

  -- No list stands where a list is read, if no spelling may end behind it.
  pub list_unended : NeverBegin spells 93 → (bytes : List ℕ) (at next : ℕ) (old values : List X) → drop at bytes ≡ 91 ∷ drop (at + 1) bytes
      → AddsRow spells false bytes (at + 1) next old values → ends (drop next bytes) ≡ false → NoneStandsAt (SpellsList spells) bytes at
  list_unended never bytes at next old values opened adds h others n s =
      let i = list_inside spells others (drop at bytes) (drop n bytes) s.spelling s.spelled s.there in
      let same = rows_apart spells one apart never adds.more others adds.row i.0 (drop next bytes) (drop n bytes) adds.spelled i.1
      (sym adds.there ∙ (heads 91 91 _ _ (sym opened ∙ i.2)).1) in
      true≢false (sym s.ended ∙ ap ends (sym same.1) ∙ h)
