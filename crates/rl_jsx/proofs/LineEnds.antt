-- The ends of lines.
use Rattle.std.proofs.Common.{◌≡◌, ◌∙◌, ◌⊎◌, inl, inr, ◌++◌, ◌∷◌, [], ℕ, Bool, true, false, ◌&&◌, ◌||◌, ◌==◌, cond, List, ◌+◌, ◌-◌, ◌<◌, length, take, drop, get_or, refl, sym, ap, arith}
use Rattle.std.specs.List.{list_all, onto_first}
use Rattle.std.proofs.lemmas.List.{drop_more, take-append-drop}
use Rattle.std.proofs.Math.ListN.{drop_of_length-le}
use Rattle.std.proofs.lemmas.Bool.{cases_lt, ne_eqb, and_parts, or_parts, or_cases, not-true, not-false, eqb-true}
use Rattle.rl_jsx.specs.JsxTexts.{starts_with_line_feed, split_line_endings}
use Rattle.rl_jsx.specs.Marks.{is_inside}

inside-one : (byte : ℕ) (bytes : List ℕ) → is_inside byte ≡ true → split_line_endings (byte ∷ bytes) ≡ onto_first byte (split_line_endings bytes)
unfolding split_line_endings
inside-one byte bytes h = let p = or_parts (byte == 13) (byte == 10) (not-true (byte == 13 || byte == 10) h) in rw (p.0, p.1) refl

abbrev HasFirst : List (List ℕ) → Type 0
HasFirst lines = (line : List ℕ) × (more : List (List ℕ)) × (lines ≡ line ∷ more)

first-kept : (both end : Bool) (lines : List (List ℕ)) (byte : ℕ) → HasFirst lines → HasFirst (cond both lines (cond end ([] ∷ lines) (onto_first byte lines)))
first-kept true end lines byte h = h
first-kept false true lines byte h = ([], lines, refl)
first-kept false false [] byte h = (byte ∷ [], [], refl)
first-kept false false (line ∷ lines) byte h = (byte ∷ line, lines, refl)

-- There is a first line.
pub split-some : (text : List ℕ) → (line : List ℕ) × (lines : List (List ℕ)) × (split_line_endings text ≡ line ∷ lines)
unfolding split_line_endings
split-some [] = ([], [], refl)
split-some (byte ∷ bytes) = first-kept (byte == 13 && starts_with_line_feed bytes) (byte == 13 || byte == 10) (split_line_endings bytes) byte (split-some bytes)

-- Behind bytes inside a line, the line goes on.
pub line-ended : (line rest after : List ℕ) → list_all is_inside line ≡ true → split_line_endings rest ≡ [] ∷ split_line_endings after
    → split_line_endings (line ++ rest) ≡ line ∷ split_line_endings after
line-ended [] rest after h e = e
line-ended (byte ∷ line) rest after h e =
    let p = and_parts _ _ h in
    inside-one byte (line ++ rest) p.0 ∙ ap (onto_first byte) (line-ended line rest after p.1 e)

-- A text without line endings is one line.
pub line-alone : (line : List ℕ) → list_all is_inside line ≡ true → split_line_endings line ≡ line ∷ []
unfolding split_line_endings
line-alone [] h = refl
line-alone (byte ∷ line) h =
    let p = and_parts _ _ h in
    inside-one byte line p.0 ∙ ap (onto_first byte) (line-alone line p.1)

-- The byte that ends a line is one of two.
pub ending-byte : (byte : ℕ) → is_inside byte ≡ false → (byte ≡ 13) ⊎ (byte ≡ 10)
ending-byte byte h = elim (or_cases (byte == 13) (byte == 10) (not-false (byte == 13 || byte == 10) h)) [ inl e ↦ inl (eqb-true byte 13 e) | inr e ↦ inr (eqb-true byte 10 e) ]

pub ended-by_both : (rest : List ℕ) → split_line_endings (13 ∷ 10 ∷ rest) ≡ [] ∷ split_line_endings rest
unfolding split_line_endings
ended-by_both rest = refl

pub ended-by_feed : (rest : List ℕ) → split_line_endings (10 ∷ rest) ≡ [] ∷ split_line_endings rest
unfolding split_line_endings
ended-by_feed rest = refl

pub ended-by_return : (rest : List ℕ) → starts_with_line_feed rest ≡ false → split_line_endings (13 ∷ rest) ≡ [] ∷ split_line_endings rest
unfolding split_line_endings
ended-by_return rest h = rw h refl

module _ (text : List ℕ) (at : ℕ) where
  pub ended-feed : at < length text → get_or text at 0 ≡ 10 → split_line_endings (drop at text) ≡ [] ∷ split_line_endings (drop (at + 1) text)
  ended-feed lt e = ap split_line_endings (drop_more text at 0 lt ∙ ap (λ b. b ∷ drop (at + 1) text) e) ∙ ended-by_feed (drop (at + 1) text)

  -- The byte is a carriage return.
  returned : is_inside (get_or text at 0) ≡ false → (get_or text at 0 ≡ 10 → ⊥) → get_or text at 0 ≡ 13
  returned h lacks = elim (ending-byte (get_or text at 0) h) [ inl e ↦ e | inr e ↦ absurd (lacks e) ]

  pub ended-both : at + 1 < length text → is_inside (get_or text at 0) ≡ false → (get_or text at 0 ≡ 10 → ⊥) → get_or text (at + 1) 0 ≡ 10
      → split_line_endings (drop at text) ≡ [] ∷ split_line_endings (drop (at + 1 + 1) text)
  ended-both lt h lacks e =
      let r = returned h lacks in
      ap split_line_endings (drop_more text at 0 (omega arith) ∙ ap (λ l. get_or text at 0 ∷ l) (drop_more text (at + 1) 0 lt) ∙ (λ i. r i ∷ e i ∷ drop (at + 1 + 1) text)) ∙ ended-by_both (drop (at + 1 + 1) text)

  no-feed : (k : ℕ) → (k < length text → get_or text k 0 ≡ 10 → ⊥) → starts_with_line_feed (drop k text) ≡ false
  no-feed k lacks = elim (cases_lt k (length text)) [
    | inl lt ↦ ap starts_with_line_feed (drop_more text k 0 lt) ∙ ne_eqb _ _ (lacks lt)
    | inr ge ↦ ap starts_with_line_feed (drop_of_length-le text ge)
  ]

  pub ended-return : at < length text → is_inside (get_or text at 0) ≡ false → (get_or text at 0 ≡ 10 → ⊥) → (at + 1 < length text → get_or text (at + 1) 0 ≡ 10 → ⊥)
      → split_line_endings (drop at text) ≡ [] ∷ split_line_endings (drop (at + 1) text)
  ended-return lt h lacks none =
      let r = returned h lacks in
      ap split_line_endings (drop_more text at 0 lt ∙ ap (λ b. b ∷ drop (at + 1) text) r) ∙ ended-by_return (drop (at + 1) text) (no-feed (at + 1) none)

  pub ending-ascii : (next : ℕ) → next ≡ at + 1 → is_inside (get_or text at 0) ≡ false → get_or text (next - 1) 0 < 128
  ending-ascii next e h =
      let same : next - 1 ≡ at = omega arith in
      let at_byte : get_or text (next - 1) 0 ≡ get_or text at 0 = ap (λ k. get_or text k 0) same in
      elim (ending-byte (get_or text at 0) h) [ inl r ↦ omega (arith, at_byte, r) | inr r ↦ omega (arith, at_byte, r) ]

-- The first line of a text, and what stands behind it.
pub first-line : (text : List ℕ) (end next : ℕ) → list_all is_inside (take end text) ≡ true → split_line_endings (drop end text) ≡ [] ∷ split_line_endings (drop next text)
    → split_line_endings text ≡ take end text ∷ split_line_endings (drop next text)
first-line text end next h e = ap split_line_endings (sym (take-append-drop end text)) ∙ line-ended (take end text) (drop end text) (drop next text) h e
