-- Names less an ending `_` and digits.
use Rattle.std.proofs.Common.{◌≡◌, ℕ, ◌+◌, ◌-◌, ◌<◌, ◌≤◌, arith, Bool, true, false, if◌then◌else◌}
use Rattle.std.proofs.Common.{nat_eq, not, ◌&&◌, List, [], ◌∷◌, ◌++◌, length, take, drop, get_or, eqb-true}
use Rattle.std.proofs.Common.{append_assoc, append-nil, ap, sym, refl, ◌∙◌}
use Rattle.std.proofs.lemmas.List.{drop_all, drop_more, take-append-drop, take_more, take_rest}
use Rattle.std.proofs.lemmas.Str.{IsCharBoundary-before_ascii}
use Rattle.std.proofs.lemmas.Bool.{and_parts}
use Rattle.std.specs.Str.{IsCharBoundary}
use Rattle.rl_lint.specs.Stems.{is_ending, is_none, stem}

nothing_left : (rest : List ℕ) → is_ending rest ≡ true → stem rest ≡ []
unfolding stem
nothing_left [] is = refl
nothing_left (c ∷ cs) is = ap (λ (b : Bool). if b then [] else c ∷ stem cs) is

stays : (c : ℕ) (cs : List ℕ) → is_ending (c ∷ cs) ≡ false → stem (c ∷ cs) ≡ c ∷ stem cs
unfolding stem
stays c cs fails = ap (λ (b : Bool). if b then [] else c ∷ stem cs) fails

-- Nothing is left of an ending.
pub ends : (before rest name : List ℕ) → is_ending rest ≡ true → before ++ stem rest ≡ stem name → before ≡ stem name
ends before rest name is e = sym (append-nil before) ∙ ap (λ l. before ++ l) (sym (nothing_left rest is)) ∙ e

-- The first byte of what is no ending is left.
pub goes_on : (name : List ℕ) (i : ℕ) → i < length name → is_ending (drop i name) ≡ false
    → take i name ++ stem (drop i name) ≡ stem name → take (i + 1) name ++ stem (drop (i + 1) name) ≡ stem name
goes_on name i lt fails before =
    let split = drop_more name i 0 lt in
    ap (λ l. l ++ stem (drop (i + 1) name)) (take_more name i 0 lt)
    ∙ append_assoc (take i name) (get_or name i 0 ∷ []) (stem (drop (i + 1) name))
    ∙ ap (λ l. take i name ++ l) (sym (stays (get_or name i 0) (drop (i + 1) name) (ap is_ending (sym split) ∙ fails)))
    ∙ ap (λ l. take i name ++ stem l) (sym split)
    ∙ before

empty_stem : stem [] ≡ []
unfolding stem
empty_stem = refl

-- Behind the last byte, all are left.
pub all_left : (name : List ℕ) (i : ℕ) → length name ≤ i → take i name ++ stem (drop i name) ≡ stem name → name ≡ stem name
all_left name i behind e =
    sym (take-append-drop i name)
    ∙ ap (λ l. take i name ++ l) (drop_all i name behind ∙ sym empty_stem ∙ ap stem (sym (drop_all i name behind)))
    ∙ e

pub ruleset stems = (ends, goes_on, all_left)

-- The rest of a name from an index on.
pub rest_ending : (name : List ℕ) (i : ℕ) (b : Bool) → b ≡ is_ending (take (length name - i) (drop i name)) → b ≡ is_ending (drop i name)
rest_ending name i b is = is ∙ ap is_ending (take_rest name i)

pub ruleset cut = (rest_ending)

begins : (c : ℕ) (cs : List ℕ) → is_ending (c ∷ cs) ≡ true → c ≡ 95
unfolding is_ending
begins c cs is = eqb-true c 95 (and_parts (nat_eq c 95) (not (is_none cs)) (and_parts (nat_eq c 95 && not (is_none cs)) _ is).0).0

-- An ending begins at a boundary of characters.
pub boundary : (name : List ℕ) (i : ℕ) → i < length name → is_ending (drop i name) ≡ true → IsCharBoundary name i
boundary name i lt is =
    let first : get_or name i 0 ≡ 95 = begins (get_or name i 0) (drop (i + 1) name) (ap is_ending (sym (drop_more name i 0 lt)) ∙ is) in
    IsCharBoundary-before_ascii name i lt (omega (arith, first))
