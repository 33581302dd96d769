-- Lines that are joined one after another.
use Rattle.std.proofs.Common.{◌≡◌, ◌∙◌, ◌++◌, ◌∷◌, [], ℕ, Some, None, true, false, not, ◌==◌, List, length, refl, sym, ap, arith, true≢false, append_assoc}
use Rattle.std.specs.List.{filter, join_with_byte}
use Rattle.std.proofs.lemmas.Bool.{ne_eqb}
use Rattle.std.proofs.lemmas.List.Elements.{filter-append}
use Rattle.rl_jsx.specs.JsxTexts.{is_empty, split_line_endings, trimmed_lines, trimmed_behind, joined_lines, tabs_as_spaces, trim_jsx_text, without_leading_spaces, without_trailing_spaces}
use Rattle.rl_jsx.proofs.LineEnds.{split-some}

-- `joined` has the trimmed lines of `text` but those of `rest`, which stands behind a line ending.
pub record Joins (text joined rest : List ℕ) : Type 0 where
  pub lines : List (List ℕ)
  pub whole : lines ++ trimmed_behind (split_line_endings rest) ≡ trimmed_lines (split_line_endings text)
  pub made : joined ≡ joined_lines lines

-- A text without bytes is empty.
pub empty-length : (line : List ℕ) → (length line == 0) ≡ is_empty line
empty-length [] = refl
empty-length (byte ∷ line) = ne_eqb _ _ (λ e. let none : length (byte ∷ line) ≡ 0 = e in omega arith)

-- Another line stands behind a space.
join-behind : (first : List ℕ) (lines : List (List ℕ)) (last : List ℕ) → join_with_byte 32 (first ∷ (lines ++ last ∷ [])) ≡ join_with_byte 32 (first ∷ lines) ++ 32 ∷ last
join-behind first [] last = refl
join-behind first (line ∷ lines) last =
    ap (λ rest. first ++ 32 ∷ rest) (join-behind line lines last) ∙ sym (append_assoc first (32 ∷ join_with_byte 32 (line ∷ lines)) (32 ∷ last))

-- An empty line adds nothing.
pub joined-empty : (lines : List (List ℕ)) (line : List ℕ) → is_empty line ≡ true → joined_lines (lines ++ line ∷ []) ≡ joined_lines lines
joined-empty lines [] h = ap (join_with_byte 32) (filter-append (λ l. not (is_empty l)) lines ([] ∷ []) ∙ append-none (filter (λ l. not (is_empty l)) lines))
  where
    append-none : (xs : List (List ℕ)) → xs ++ [] ≡ xs
    append-none [] = refl
    append-none (x ∷ xs) = ap (λ l. x ∷ l) (append-none xs)
joined-empty lines (byte ∷ line) h = absurd (true≢false (sym h))

nothing-kept : (lines : List (List ℕ)) → joined_lines lines ≡ [] → filter (λ l. not (is_empty l)) lines ≡ []
nothing-kept [] h = refl
nothing-kept ([] ∷ lines) h = nothing-kept lines h
nothing-kept ((byte ∷ line) ∷ lines) h = absurd (starts (filter (λ l. not (is_empty l)) lines) h)
  where
    starts : (kept : List (List ℕ)) → join_with_byte 32 ((byte ∷ line) ∷ kept) ≡ [] → ⊥
    starts [] e = cc
    starts (x ∷ kept) e = cc

-- The first line that is not empty.
pub joined-first : (lines : List (List ℕ)) (line : List ℕ) → joined_lines lines ≡ [] → is_empty line ≡ false → joined_lines (lines ++ line ∷ []) ≡ line
joined-first lines [] none h = absurd (true≢false h)
joined-first lines (byte ∷ line) none h =
    ap (join_with_byte 32) (filter-append (λ l. not (is_empty l)) lines ((byte ∷ line) ∷ []) ∙ ap (λ kept. kept ++ (byte ∷ line) ∷ []) (nothing-kept lines none))

-- A further line that is not empty.
pub joined-more : (lines : List (List ℕ)) (line : List ℕ) → is_empty (joined_lines lines) ≡ false → is_empty line ≡ false → joined_lines (lines ++ line ∷ []) ≡ joined_lines lines ++ 32 ∷ line
joined-more lines [] some h = absurd (true≢false h)
joined-more lines (byte ∷ line) some h =
    ap (join_with_byte 32) (filter-append (λ l. not (is_empty l)) lines ((byte ∷ line) ∷ [])) ∙ behind (filter (λ l. not (is_empty l)) lines) some
  where
    behind : (kept : List (List ℕ)) → is_empty (join_with_byte 32 kept) ≡ false → join_with_byte 32 (kept ++ (byte ∷ line) ∷ []) ≡ join_with_byte 32 kept ++ 32 ∷ byte ∷ line
    behind [] e = absurd (true≢false e)
    behind (x ∷ kept) e = join-behind x kept (byte ∷ line)

-- The first of several lines.
pub joins-first : (text first rest joined : List ℕ) → split_line_endings text ≡ first ∷ split_line_endings rest
    → joined ≡ joined_lines (without_trailing_spaces first ∷ []) → Joins text joined rest
joins-first text first rest joined e made =
    let some = split-some rest in record {
      lines = without_trailing_spaces first ∷ [];
      whole = ap (λ lines. without_trailing_spaces first ∷ trimmed_behind lines) some.2 ∙ sym (ap trimmed_lines (e ∙ ap (λ lines. first ∷ lines) some.2));
      made = made;
    }

-- Another line.
pub joins-more : (text joined more rest line after : List ℕ) (j : Joins text joined rest) → split_line_endings rest ≡ line ∷ split_line_endings after
    → more ≡ joined_lines (j.lines ++ without_leading_spaces (without_trailing_spaces line) ∷ []) → Joins text more after
joins-more text joined more rest line after j e made =
    let some = split-some after in
    let step : trimmed_behind (split_line_endings rest) ≡ without_leading_spaces (without_trailing_spaces line) ∷ trimmed_behind (split_line_endings after) =
    ap trimmed_behind (e ∙ ap (λ lines. line ∷ lines) some.2) ∙ sym (ap (λ lines. without_leading_spaces (without_trailing_spaces line) ∷ trimmed_behind lines) some.2) in record {
      lines = j.lines ++ without_leading_spaces (without_trailing_spaces line) ∷ [];
      whole = append_assoc j.lines (without_leading_spaces (without_trailing_spaces line) ∷ []) (trimmed_behind (split_line_endings after))
          ∙ ap (λ lines. j.lines ++ lines) (sym step) ∙ j.whole;
      made = made;
    }

-- The last line.
pub joins-all : (text joined whole rest : List ℕ) (j : Joins text joined rest) → split_line_endings rest ≡ rest ∷ []
    → whole ≡ joined_lines (j.lines ++ without_leading_spaces rest ∷ []) → whole ≡ joined_lines (trimmed_lines (split_line_endings text))
joins-all text joined whole rest j e made = made ∙ ap joined_lines (sym (ap (λ lines. j.lines ++ trimmed_behind lines) e) ∙ j.whole)

pub empty-is : (line : List ℕ) → is_empty line ≡ true → line ≡ []
empty-is [] h = refl
empty-is (byte ∷ line) h = absurd (true≢false (sym h))

-- A space and a line, appended.
pub pushed-behind : (old mid new more line : List ℕ) → mid ≡ old ++ more → more ≡ 32 ∷ [] → new ≡ mid ++ line → new ≡ old ++ 32 ∷ line
pushed-behind old mid new more line e one f = f ∙ ap (λ l. l ++ line) (e ∙ ap (λ l. old ++ l) one) ∙ append_assoc old (32 ∷ []) line

-- A text of one line.
pub alone-joined : (text joined : List ℕ) → split_line_endings text ≡ text ∷ [] → joined ≡ joined_lines (text ∷ []) → joined ≡ joined_lines (trimmed_lines (split_line_endings text))
alone-joined text joined e made = made ∙ sym (ap (λ lines. joined_lines (trimmed_lines lines)) e)

pub shown-none : (text : List ℕ) → is_empty (joined_lines (trimmed_lines (split_line_endings (tabs_as_spaces text)))) ≡ true → trim_jsx_text text ≡ None
unfolding trim_jsx_text
shown-none text h = rw h refl

pub shown-some : (text : List ℕ) → is_empty (joined_lines (trimmed_lines (split_line_endings (tabs_as_spaces text)))) ≡ false
    → trim_jsx_text text ≡ Some (joined_lines (trimmed_lines (split_line_endings (tabs_as_spaces text))))
unfolding trim_jsx_text
shown-some text h = rw h refl
