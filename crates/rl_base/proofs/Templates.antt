-- Filling templates from one blank to the next.
use Rattle.std.proofs.Common.{◌≡◌, ◌≢◌, ℕ, ◌<◌, List, [], ◌∷◌, ◌++◌, length, get_or, ap, sym, ◌∙◌, append_assoc, refl, suc, arith}
use Rattle.std.proofs.lemmas.List.{append-nil}
use Rattle.std.proofs.lemmas.Grind.{common_steps}
use Rattle.rl_base.specs.Templates.{filled, tag_of}
use Rattle.rl_base.specs.Tags.{tagged}

-- `front` holds no `byte`.
abbrev pub Lacks : (byte : ℕ) → (front : List ℕ) → Type 0
Lacks byte front = (i : ℕ) → i < length front → get_or front i 0 ≢ byte

pub tagged-front : (front rest tag : List ℕ) → Lacks 35 front → tagged (front ++ rest) tag ≡ front ++ tagged rest tag
tagged-front [] rest tag plain = refl
tagged-front (byte ∷ front) rest tag plain =
    grind (arith, common_steps, plain 0, tagged-front front rest tag (λ i below. plain (suc i) (omega arith)))

-- A turn of `write_tagged` appends what stands before a `#`, and the tag.
pub tagged-step : (old middle new rest before after tag whole : List ℕ) → middle ≡ old ++ before → new ≡ middle ++ tag
    → rest ≡ before ++ (35 ∷ after) → Lacks 35 before → old ++ tagged rest tag ≡ whole → new ++ tagged after tag ≡ whole
tagged-step old middle new rest before after tag whole m n e plain kept =
    let here : tagged rest tag ≡ before ++ (tag ++ tagged after tag) = rw e (tagged-front before (35 ∷ after) tag plain) in
    let later : List ℕ = tagged after tag in
    cc (append_assoc old before tag, append_assoc old (before ++ tag) later, append_assoc before tag later)

pub tagged-plain : (template tag : List ℕ) → Lacks 35 template → tagged template tag ≡ template
tagged-plain template tag plain =
    ap (λ (t : List ℕ). tagged t tag) (sym (append-nil template)) ∙ tagged-front template [] tag plain ∙ append-nil template

filled-cons : (byte : ℕ) (front rest word : List ℕ) → byte ≢ 37
    → filled (front ++ rest) word ≡ tagged front (tag_of word) ++ filled rest word
    → filled (byte ∷ (front ++ rest)) word ≡ tagged (byte ∷ front) (tag_of word) ++ filled rest word
filled-cons byte front rest word differs later = grind (arith, common_steps)

pub filled-front : (front rest word : List ℕ) → Lacks 37 front
    → filled (front ++ rest) word ≡ tagged front (tag_of word) ++ filled rest word
filled-front [] rest word plain = refl
filled-front (byte ∷ front) rest word plain =
    let later = filled-front front rest word (λ i below. plain (suc i) (omega arith)) in
    filled-cons byte front rest word (plain 0 (omega arith)) later

-- A turn of `write_filled` appends what stands before a `%`, with the tag in its places, and the word.
pub filled-step : (old middle new rest before after word tag whole : List ℕ) → tag ≡ tag_of word
    → middle ≡ old ++ tagged before tag
    → new ≡ middle ++ word → rest ≡ before ++ (37 ∷ after) → Lacks 37 before → old ++ filled rest word ≡ whole
    → new ++ filled after word ≡ whole
filled-step old middle new rest before after word tag whole t m n e plain kept =
    let front : List ℕ = tagged before (tag_of word) in
    let here : filled rest word ≡ front ++ (word ++ filled after word) = rw e (filled-front before (37 ∷ after) word plain) in
    let later : List ℕ = filled after word in
    cc (append_assoc old front word, append_assoc old (front ++ word) later, append_assoc front word later)

pub filled-plain : (template word : List ℕ) → Lacks 37 template → filled template word ≡ tagged template (tag_of word)
filled-plain template word plain =
    ap (λ (t : List ℕ). filled t word) (sym (append-nil template)) ∙ filled-front template [] word plain
    ∙ append-nil (tagged template (tag_of word))
