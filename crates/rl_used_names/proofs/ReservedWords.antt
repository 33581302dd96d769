-- The reserved words, each at its slot, by computation.
use Rattle.std.proofs.Common.{◌≡◌, ℕ, ◌<◌, Bool, true, false, ◌||◌, List, [], ◌∷◌, get_or, map, bytes_eq, sym, ap, ◌∙◌, refl}
use Rattle.std.proofs.lemmas.List.Folds.{list_all_at}
use Rattle.std.proofs.lemmas.Slice.Eq.{bytes_eq-Decides}
use Rattle.std.proofs.lemmas.Bool.{and_parts}
use Rattle.std.specs.List.{list_all, list_any}
use Rattle.rl_base.specs.Reserved.{is_reserved, reserved_words}
use Rattle.rl_used_names.specs.ReservedSlots.{is_at, slot_of}
use Rattle.rl_used_names.specs.declared.reserved.TheConstants.{COUNT, SLOTS}

-- The words at the slots.
abbrev slots : List (List ℕ)
slots = map (λ word. word.now) SLOTS

all_reserved : list_all (λ (word : List ℕ). is_reserved word) slots ≡ true
all_reserved = refl

-- True if a word is the one at its slot.
abbrev is_there : List ℕ → Bool
is_there word = is_at slots (slot_of word) word

all_there : list_all is_there reserved_words ≡ true
all_there = refl

-- A word of the list is at its slot.
one_there : (word : List ℕ) (words : List (List ℕ)) → list_all is_there words ≡ true → list_any (λ reserved. bytes_eq reserved word) words ≡ true → is_there word ≡ true
one_there word [] all some = absurd (cc)
one_there word (first ∷ words) all some =
    let parts : (is_there first ≡ true) × (list_all is_there words ≡ true) = and_parts _ _ all in
    by_head (bytes_eq first word) refl some parts.0 (one_there word words parts.1)
  where
    by_head : (b : Bool) → bytes_eq first word ≡ b → (b || list_any (λ reserved. bytes_eq reserved word) words) ≡ true → is_there first ≡ true
        → (list_any (λ reserved. bytes_eq reserved word) words ≡ true → is_there word ≡ true) → is_there word ≡ true
    by_head true is some1 here rest = ap is_there (sym ((bytes_eq-Decides first word).0 is)) ∙ here
    by_head false is some1 here rest = rest some1

-- The word at the slot of a word is that word where it is reserved, and another where not.
pub slot_tells : (word : List ℕ) (slot : ℕ) → slot ≡ slot_of word → slot < COUNT → is_at slots slot word ≡ is_reserved word
slot_tells word slot is within = by_answers (is_at slots slot word) (is_reserved word) refl refl
  where
    by_answers : (found reserved : Bool) → is_at slots slot word ≡ found → is_reserved word ≡ reserved → found ≡ reserved
    by_answers true true f r = refl
    by_answers false false f r = refl
    by_answers true false f r =
        let same : get_or slots slot [] ≡ word = (bytes_eq-Decides (get_or slots slot []) word).0 f in
        let not : is_reserved (get_or slots slot []) ≡ false = ap (λ (w : List ℕ). is_reserved w) same ∙ r in
        let never : true ≡ false = sym all_reserved ∙ list_all_at (λ (w : List ℕ). is_reserved w) slots slot [] within not in
        absurd (cc)
    by_answers false true f r = sym f ∙ ap (λ (s : ℕ). is_at slots s word) is ∙ one_there word reserved_words all_there r
