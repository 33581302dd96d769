-- Laws of quoted texts.
use Rattle.std.proofs.Common.{◌≡◌, ℕ, ◌+◌, ◌-◌, ◌*◌, ◌/◌, ◌%◌, ◌<◌, Bool, true, false, cond, List, [], ◌∷◌, ◌++◌, length, take, drop, get_or, ap, sym, ◌∙◌, refl, arith, true≢false, append_assoc, ◌⊎◌, inl, inr, lit<}
use Rattle.std.proofs.lemmas.List.{drop_more}
use Rattle.std.proofs.lemmas.Bool.Decides.{nat_tests}
use Rattle.std.specs.List.{list_all}
use Rattle.std.specs.Str.{IsUtf8}
use Rattle.std.proofs.lemmas.Str.{IsUtf8-append, IsUtf8-from_ascii}
use Rattle.std.proofs.lemmas.Str.Ascii.{IsAscii-cons, IsAscii-nil}
use Rattle.std.proofs.lemmas.Bool.{and_parts, not-true}
use Rattle.rl_text.specs.Quoted.{hexadecimal, is_escaped, escape, quoted_rest}
use Rattle.rl_text.specs.ByteClasses.{is_plain}
use Rattle.rl_text.specs.Places.{IsRun}
use Rattle.rl_text.proofs.Runs.{heads, run-there}

pub hexadecimal-injective : (a b : ℕ) → hexadecimal a ≡ hexadecimal b → a < 16 → b < 16 → a ≡ b
hexadecimal-injective a b h p q = grind (arith, nat_tests)

escaped-small : (byte : ℕ) → is_escaped byte ≡ true → byte < 93
escaped-small byte h = grind (arith, nat_tests)

backslash-escaped : (byte : ℕ) → byte ≡ 92 → is_escaped byte ≡ true
backslash-escaped byte h = grind (arith, nat_tests)

quote-escaped : (byte : ℕ) → byte ≡ 34 → is_escaped byte ≡ true
quote-escaped byte h = grind (arith, nat_tests)

pub escape-escaped : (byte : ℕ) → is_escaped byte ≡ true → escape byte ≡ 92 ∷ hexadecimal (byte / 16) ∷ hexadecimal (byte % 16) ∷ []
escape-escaped byte h = ap (λ b. cond b (92 ∷ hexadecimal (byte / 16) ∷ hexadecimal (byte % 16) ∷ []) (byte ∷ [])) h

pub escape-plain : (byte : ℕ) → is_escaped byte ≡ false → escape byte ≡ byte ∷ []
escape-plain byte h = ap (λ b. cond b (92 ∷ hexadecimal (byte / 16) ∷ hexadecimal (byte % 16) ∷ []) (byte ∷ [])) h

pub tested : (b : Bool) → (b ≡ true) ⊎ (b ≡ false)
tested true = inl refl
tested false = inr refl

-- Behind a backslash stand the digits of a byte that is escaped.
pub after_backslash : (byte : ℕ) (bytes rest : List ℕ) → 92 ∷ bytes ≡ escape byte ++ rest → (is_escaped byte ≡ true) × (bytes ≡ hexadecimal (byte / 16) ∷ hexadecimal (byte % 16) ∷ rest)
after_backslash byte bytes rest h = elim (tested (is_escaped byte)) [
  | inl said ↦ (said, (heads 92 92 _ _ (h ∙ ap (λ t. t ++ rest) (escape-escaped byte said))).1)
  | inr plain ↦ absurd (true≢false (sym (backslash-escaped byte (sym (heads 92 byte _ _ (h ∙ ap (λ t. t ++ rest) (escape-plain byte plain))).0)) ∙ plain))
]

-- Any other first byte stands for itself.
pub after_other : (first byte : ℕ) (bytes rest : List ℕ) → (first ≡ 92 → ⊥) → first ∷ bytes ≡ escape byte ++ rest → (is_escaped byte ≡ false) × (first ≡ byte) × (bytes ≡ rest)
after_other first byte bytes rest other h = elim (tested (is_escaped byte)) [
  | inl said ↦ absurd (other (heads first 92 _ _ (h ∙ ap (λ t. t ++ rest) (escape-escaped byte said))).0)
  | inr plain ↦ (let e = heads first byte _ _ (h ∙ ap (λ t. t ++ rest) (escape-plain byte plain)) in (plain, e.0, e.1))
]

divided : (byte : ℕ) → 16 * (byte / 16) + byte % 16 ≡ byte
divided byte = omega arith

pub escapes-apart : (a b : ℕ) (u v : List ℕ) → escape a ++ u ≡ escape b ++ v → (a ≡ b) × (u ≡ v)
escapes-apart a b u v h = elim (tested (is_escaped a)) [
  | inl said ↦ (let r = after_backslash b (hexadecimal (a / 16) ∷ hexadecimal (a % 16) ∷ u) v (sym (ap (λ t. t ++ u) (escape-escaped a said)) ∙ h) in
      let one = heads _ _ _ _ r.1 in
      let two = heads _ _ _ _ one.1 in
      let a_small = escaped-small a said in
      let b_small = escaped-small b r.0 in
      let high : a / 16 ≡ b / 16 = hexadecimal-injective (a / 16) (b / 16) one.0 (omega arith) (omega arith) in
      let low : a % 16 ≡ b % 16 = hexadecimal-injective (a % 16) (b % 16) two.0 (omega arith) (omega arith) in
      (omega (arith, divided a, divided b), two.1))
  | inr plain ↦ (let other : a ≡ 92 → ⊥ = λ e. true≢false (sym (backslash-escaped a e) ∙ plain) in
      let r = after_other a b u v other (sym (ap (λ t. t ++ u) (escape-plain a plain)) ∙ h) in (r.1, r.2))
]

-- A quote begins no escape.
pub escape-no_quote : (byte : ℕ) (u v : List ℕ) → 34 ∷ u ≡ escape byte ++ v → ⊥
escape-no_quote byte u v h =
    let other : ◌≡◌ {A = ℕ} 34 92 → ⊥ = λ e. let f : ◌≡◌ {A = ℕ} 34 92 = e in omega arith in
    let r = after_other 34 byte u v other h in true≢false (sym (quote-escaped byte (sym r.1)) ∙ r.0)

pub quotes-apart : (s t u v : List ℕ) → quoted_rest s ++ u ≡ quoted_rest t ++ v → (s ≡ t) × (u ≡ v)
quotes-apart [] [] u v h = (refl, (heads 34 34 u v h).1)
quotes-apart [] (b ∷ t) u v h = absurd (escape-no_quote b u (quoted_rest t ++ v) (h ∙ append_assoc (escape b) (quoted_rest t) v))
quotes-apart (a ∷ s) [] u v h = absurd (escape-no_quote a v (quoted_rest s ++ u) (sym h ∙ append_assoc (escape a) (quoted_rest s) u))
quotes-apart (a ∷ s) (b ∷ t) u v h =
    let e = escapes-apart a b (quoted_rest s ++ u) (quoted_rest t ++ v) (sym (append_assoc (escape a) (quoted_rest s) u) ∙ h ∙ append_assoc (escape b) (quoted_rest t) v) in
    let r = quotes-apart s t u v e.1 in
    ((λ i. e.0 i ∷ r.0 i), r.1)

-- A plain byte is written as it stands.
plain-escape : (byte : ℕ) → is_plain byte ≡ true → escape byte ≡ byte ∷ []
plain-escape byte h = escape-plain byte (not-true (is_escaped byte) h)

-- A run of plain bytes is written as it stands.
pub quoted-plain : (run rest : List ℕ) → list_all is_plain run ≡ true → quoted_rest (run ++ rest) ≡ run ++ quoted_rest rest
quoted-plain [] rest h = refl
quoted-plain (byte ∷ run) rest h =
    let p = and_parts (is_plain byte) _ h in
    rw (plain-escape byte p.0) (ap (λ l. byte ∷ l) (quoted-plain run rest p.1))

-- Behind a run of plain bytes, a text goes on.
pub quoted-behind : (run u text v : List ℕ) → list_all is_plain run ≡ true → run ++ u ≡ quoted_rest text ++ v → (more : List ℕ) × (u ≡ quoted_rest more ++ v)
quoted-behind [] u text v h e = (text, e)
quoted-behind (byte ∷ run) u [] v h e = absurd (escape-no_quote byte v (run ++ u) (sym e ∙ sym (ap (λ l. l ++ (run ++ u)) (plain-escape byte (and_parts (is_plain byte) _ h).0))))
quoted-behind (byte ∷ run) u (c ∷ text) v h e =
    let p = and_parts (is_plain byte) _ h in
    quoted-behind run u text v p.1 (escapes-apart byte c (run ++ u) (quoted_rest text ++ v) (ap (λ l. l ++ (run ++ u)) (plain-escape byte p.0) ∙ e ∙ append_assoc (escape c) (quoted_rest text) v)).1

-- A text behind a dot is text.
pub dotted_utf8 : (text : List ℕ) → IsUtf8 text → IsUtf8 (46 ∷ text)
dotted_utf8 text h = IsUtf8-append (46 ∷ []) text (IsUtf8-from_ascii (46 ∷ []) (IsAscii-cons 46 [] (lit< tt) IsAscii-nil)) h

-- The rest of a text is spelled by a run of plain bytes and the rest behind it, or by an escape and the rest behind it.
pub run-written : (out new text : List ℕ) (at end : ℕ) → IsRun is_plain text at end → new ≡ out ++ take (end - at) (drop at text) → new ++ quoted_rest (drop end text) ≡ out ++ quoted_rest (drop at text)
run-written out new text at end run e =
    let plain = take (end - at) (drop at text) in
    rw (e, append_assoc) (ap (λ l. out ++ l) (sym (ap quoted_rest (run-there text at end run.forward) ∙ quoted-plain plain (drop end text) run.passed)))

pub escape-written : (out new text : List ℕ) (at : ℕ) → at < length text → new ≡ out ++ escape (get_or text at 0) → new ++ quoted_rest (drop (at + 1) text) ≡ out ++ quoted_rest (drop at text)
escape-written out new text at lt e = rw (e, append_assoc) (ap (λ l. out ++ quoted_rest l) (sym (drop_more text at 0 lt)))

-- The text spells the bytes from `at` to `place`, which need not be its end.
pub record ReadsText (bytes : List ℕ) (at place : ℕ) (text : List ℕ) : Type 0 where
  pub whole : (more rest : List ℕ) → drop place bytes ≡ quoted_rest more ++ rest → drop at bytes ≡ quoted_rest (text ++ more) ++ rest
  pub on : (any rest : List ℕ) → drop at bytes ≡ quoted_rest any ++ rest → (more : List ℕ) × (drop place bytes ≡ quoted_rest more ++ rest)

pub text-begun : (bytes : List ℕ) (at : ℕ) → ReadsText bytes at at []
text-begun bytes at = record { whole = λ more rest e. e; on = λ any rest e. (any, e) }

module _ (bytes : List ℕ) (at place after : ℕ) (text : List ℕ) (byte : ℕ) (reads : ReadsText bytes at place text) (stands : drop place bytes ≡ escape byte ++ drop after bytes) where
  pub text-more : ReadsText bytes at after (text ++ byte ∷ [])
  text-more = record {
    whole = λ more rest e. reads.whole (byte ∷ more) rest (stands ∙ ap (λ l. escape byte ++ l) e ∙ sym (append_assoc (escape byte) (quoted_rest more) rest)) ∙ ap (λ l. quoted_rest l ++ rest) (sym (append_assoc text (byte ∷ []) more));
    on = λ any rest e. let r = reads.on any rest e in go r.0 rest r.1;
  }
    where
      go : (r rest : List ℕ) → drop place bytes ≡ quoted_rest r ++ rest → (more : List ℕ) × (drop after bytes ≡ quoted_rest more ++ rest)
      go [] rest d = absurd (escape-no_quote byte rest (drop after bytes) (sym d ∙ stands))
      go (x ∷ r) rest d = (r, (escapes-apart byte x (drop after bytes) (quoted_rest r ++ rest) (sym stands ∙ d ∙ append_assoc (escape x) (quoted_rest r) rest)).1)

pub text-run : (bytes : List ℕ) (at place end : ℕ) (text : List ℕ) → ReadsText bytes at place text → IsRun is_plain bytes place end → ReadsText bytes at end (text ++ take (end - place) (drop place bytes))
text-run bytes at place end text reads run =
    let plain = take (end - place) (drop place bytes) in
    let there = run-there bytes place end run.forward in record {
      whole = λ more rest e. reads.whole (plain ++ more) rest (there ∙ ap (λ l. plain ++ l) e ∙ sym (append_assoc plain (quoted_rest more) rest) ∙ ap (λ l. l ++ rest) (sym (quoted-plain plain more run.passed))) ∙ ap (λ l. quoted_rest l ++ rest) (sym (append_assoc text plain more));
      on = λ any rest e. let r = reads.on any rest e in quoted-behind plain (drop end bytes) r.0 rest run.passed (sym there ∙ r.1);
    }

pub text-stopped : (bytes : List ℕ) (at place : ℕ) (text : List ℕ) → ReadsText bytes at place text → ((u : List ℕ) → drop place bytes ≡ 34 ∷ u → ⊥) → ((c : ℕ) (u : List ℕ) → drop place bytes ≡ escape c ++ u → ⊥) → (any rest : List ℕ) → drop at bytes ≡ quoted_rest any ++ rest → ⊥
text-stopped bytes at place text reads no_quote no_byte any rest e = let r = reads.on any rest e in go r.0 r.1
  where
    go : (r : List ℕ) → drop place bytes ≡ quoted_rest r ++ rest → ⊥
    go [] d = no_quote rest d
    go (x ∷ r) d = no_byte x (quoted_rest r ++ rest) (d ∙ append_assoc (escape x) (quoted_rest r) rest)
