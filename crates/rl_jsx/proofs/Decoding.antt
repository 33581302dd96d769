-- Entities, part by part.
use Rattle.std.proofs.Common.{◌≡◌, ◌∙◌, ◌++◌, ◌∷◌, [], ℕ, Bool, Option, true, false, ◌==◌, cond, List, refl, sym, ap, append_assoc}
use Rattle.std.specs.List.{list_any, slice_split, onto_first}
use Rattle.std.proofs.lemmas.Bool.{or_parts, or_right, and_left, and_right, cond-false, false_from_ne_true, not_from_true}
use Rattle.rl_jsx.specs.JsxTexts.{decoded_word, decoded_part, decoded_parts, decode_jsx_entities, tabs_as_spaces}
use Rattle.rl_jsx.specs.Marks.{Holds}

-- A byte that a list holds not is not its first.
mark-first : (mark byte : ℕ) (bytes : List ℕ) → (Holds mark (byte ∷ bytes) → ⊥) → (byte == mark) ≡ false
mark-first mark byte bytes lacks = (or_parts _ _ (false_from_ne_true _ lacks)).0

ampersand-behind : (before word : List ℕ) → list_any (λ other. other == 38) (before ++ 38 ∷ word) ≡ true
ampersand-behind [] word = refl
ampersand-behind (byte ∷ before) word = or_right _ _ (ampersand-behind before word)

pub part-decoded : (entity : (name : List ℕ) → Option ℕ) (before word : List ℕ) → (Holds 38 word → ⊥)
    → decoded_part entity (before ++ 38 ∷ word) ≡ before ++ decoded_word entity word
part-decoded entity [] word lacks = rw (false_from_ne_true _ lacks) refl
part-decoded entity (byte ∷ before) word lacks =
    cond-false _ _ _ (and_right _ _ (not_from_true _ (ampersand-behind before word))) ∙ ap (λ l. byte ∷ l) (part-decoded entity before word lacks)

pub part-plain : (entity : (name : List ℕ) → Option ℕ) (part : List ℕ) → (Holds 38 part → ⊥) → decoded_part entity part ≡ part ++ 59 ∷ []
part-plain entity [] lacks = refl
part-plain entity (byte ∷ bytes) lacks =
    cond-false _ _ _ (and_left _ _ (mark-first 38 byte bytes lacks)) ∙ ap (λ l. byte ∷ l) (part-plain entity bytes (λ h. lacks (or_right _ _ h)))

abbrev parts_of : List ℕ → List (List ℕ)
parts_of text = slice_split (λ byte. byte == 59) text

parts-step : (part after : List ℕ) → (Holds 59 part → ⊥) → parts_of (part ++ 59 ∷ after) ≡ part ∷ parts_of after
parts-step [] after lacks = refl
parts-step (byte ∷ part) after lacks =
    cond-false _ _ _ (mark-first 59 byte part lacks) ∙ ap (onto_first byte) (parts-step part after (λ h. lacks (or_right _ _ h)))

parts-end : (text : List ℕ) → (Holds 59 text → ⊥) → parts_of text ≡ text ∷ []
parts-end [] lacks = refl
parts-end (byte ∷ text) lacks = cond-false _ _ _ (mark-first 59 byte text lacks) ∙ ap (onto_first byte) (parts-end text (λ h. lacks (or_right _ _ h)))

abbrev HasPart : List (List ℕ) → Type 0
HasPart parts = (part : List ℕ) × (more : List (List ℕ)) × (parts ≡ part ∷ more)

part-kept : (end : Bool) (parts : List (List ℕ)) (byte : ℕ) → HasPart (cond end ([] ∷ parts) (onto_first byte parts))
part-kept true parts byte = ([], parts, refl)
part-kept false [] byte = (byte ∷ [], [], refl)
part-kept false (part ∷ parts) byte = (byte ∷ part, parts, refl)

parts-some : (text : List ℕ) → HasPart (parts_of text)
parts-some [] = ([], [], refl)
parts-some (byte ∷ text) = part-kept (byte == 59) (parts_of text) byte

pub decode-step : (entity : (name : List ℕ) → Option ℕ) (text part after : List ℕ) → text ≡ part ++ 59 ∷ after → (Holds 59 part → ⊥)
    → decode_jsx_entities entity text ≡ decoded_part entity part ++ decode_jsx_entities entity after
unfolding decode_jsx_entities
decode-step entity text part after e lacks =
    let some = parts-some after in
    ap (λ t. decoded_parts entity (parts_of t)) e ∙ ap (decoded_parts entity) (parts-step part after lacks ∙ ap (λ parts. part ∷ parts) some.2)
    ∙ sym (ap (λ parts. decoded_part entity part ++ decoded_parts entity parts) some.2)

pub decode-end : (entity : (name : List ℕ) → Option ℕ) (text : List ℕ) → (Holds 59 text → ⊥) → decode_jsx_entities entity text ≡ text
unfolding decode_jsx_entities
decode-end entity text lacks = ap (decoded_parts entity) (parts-end text lacks)

-- Tabs, up to the first.
tabs-none : (text : List ℕ) → (Holds 9 text → ⊥) → tabs_as_spaces text ≡ text
tabs-none [] lacks = refl
tabs-none (byte ∷ text) lacks =
    (λ i. cond-false (byte == 9) 32 byte (mark-first 9 byte text lacks) i ∷ tabs-none text (λ h. lacks (or_right _ _ h)) i)

pub tabs-end : (text : List ℕ) → (Holds 9 text → ⊥) → tabs_as_spaces text ≡ text
tabs-end = tabs-none

pub tabs-step : (text before after : List ℕ) → text ≡ before ++ 9 ∷ after → (Holds 9 before → ⊥) → tabs_as_spaces text ≡ before ++ 32 ∷ tabs_as_spaces after
tabs-step text before after e lacks = ap tabs_as_spaces e ∙ go before lacks
  where
    go : (before : List ℕ) → (Holds 9 before → ⊥) → tabs_as_spaces (before ++ 9 ∷ after) ≡ before ++ 32 ∷ tabs_as_spaces after
    go [] h = refl
    go (byte ∷ bytes) h = (λ i. cond-false (byte == 9) 32 byte (mark-first 9 byte bytes h) i ∷ go bytes (λ k. h (or_right _ _ k)) i)

-- Bytes appended to those so far, from what is left.
pub grown : {X : Type 0} → (old new part rest after whole : List X) → new ≡ old ++ part → rest ≡ part ++ after → old ++ rest ≡ whole → new ++ after ≡ whole
grown {X} old new part rest after whole e f k = ap (λ l. l ++ after) e ∙ append_assoc old part after ∙ ap (λ l. old ++ l) (sym f) ∙ k

-- A text and one byte more, appended.
pub two-pushed : (old mid new text more : List ℕ) (byte : ℕ) → mid ≡ old ++ text → new ≡ mid ++ more → more ≡ byte ∷ [] → new ≡ old ++ (text ++ byte ∷ [])
two-pushed old mid new text more byte e f one = f ∙ (λ i. e i ++ one i) ∙ append_assoc old text (byte ∷ [])

-- A part whose last `&` stands between two texts, appended.
pub part-pushed : (entity : (name : List ℕ) → Option ℕ) (part before word old mid new : List ℕ) → part ≡ before ++ 38 ∷ word → (Holds 38 word → ⊥)
    → mid ≡ old ++ before → new ≡ mid ++ decoded_word entity word → new ≡ old ++ decoded_part entity part
part-pushed entity part before word old mid new cut lacks e f =
    f ∙ ap (λ l. l ++ decoded_word entity word) e ∙ append_assoc old before (decoded_word entity word)
    ∙ ap (λ l. old ++ l) (sym (ap (decoded_part entity) cut ∙ part-decoded entity before word lacks))
