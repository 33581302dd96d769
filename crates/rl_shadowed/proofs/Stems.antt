-- Names less an ending `_` and digits.
use Rattle.std.proofs.Common.{◌≡◌, ℕ, ◌+◌, ◌<◌, ◌≤◌, Bool, true, false, if◌then◌else◌, List, [], ◌∷◌, ◌++◌, length, take, drop, get_or}
use Rattle.std.proofs.Common.{append_assoc, append-nil, ap, sym, refl, ◌∙◌}
use Rattle.std.proofs.lemmas.List.{drop_all, drop_more, take-append-drop, take_more}
use Rattle.rl_model.specs.Facts.{is_suffix, stem}
use Rattle.rl_shadowed.specs.Shadowed.{is_ending, stem_of}

nothing_left : (rest : List ℕ) → is_suffix rest ≡ true → stem rest ≡ []
nothing_left [] is = refl
nothing_left (c ∷ cs) is = ap (λ (b : Bool). if b then [] else c ∷ stem cs) is

stays : (c : ℕ) (cs : List ℕ) → is_suffix (c ∷ cs) ≡ false → stem (c ∷ cs) ≡ c ∷ stem cs
stays c cs fails = ap (λ (b : Bool). if b then [] else c ∷ stem cs) fails

-- Nothing is left of an ending.
pub ends : (before rest name : List ℕ) → is_ending rest ≡ true → before ++ stem_of rest ≡ stem_of name → before ≡ stem_of name
unfolding is_ending stem_of
ends before rest name is e = sym (append-nil before) ∙ ap (λ l. before ++ l) (sym (nothing_left rest is)) ∙ e

-- The first byte of what is no ending is left.
pub goes_on : (name : List ℕ) (i : ℕ) → i < length name → is_ending (drop i name) ≡ false
    → take i name ++ stem_of (drop i name) ≡ stem_of name → take (i + 1) name ++ stem_of (drop (i + 1) name) ≡ stem_of name
unfolding is_ending stem_of
goes_on name i lt fails before =
    let split = drop_more name i 0 lt in
    ap (λ l. l ++ stem (drop (i + 1) name)) (take_more name i 0 lt)
    ∙ append_assoc (take i name) (get_or name i 0 ∷ []) (stem (drop (i + 1) name))
    ∙ ap (λ l. take i name ++ l) (sym (stays (get_or name i 0) (drop (i + 1) name) (ap is_suffix (sym split) ∙ fails)))
    ∙ ap (λ l. take i name ++ stem l) (sym split)
    ∙ before

-- Behind the last byte, all are left.
pub all_left : (name : List ℕ) (i : ℕ) → length name ≤ i → take i name ++ stem_of (drop i name) ≡ stem_of name → name ≡ stem_of name
unfolding stem_of
all_left name i behind e =
    sym (take-append-drop i name)
    ∙ ap (λ l. take i name ++ l) (drop_all i name behind ∙ ap stem (sym (drop_all i name behind)))
    ∙ e

pub ruleset stems = (ends, goes_on, all_left)
