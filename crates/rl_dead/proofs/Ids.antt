-- The ids in ranges.
use Rattle.std.proofs.Common.{◌≡◌, ◌<◌, ◌≤◌, ℕ, ◌+◌, nat_eq, nat_le, true, false, ◌&&◌, ◌||◌, not, List, [], ◌∷◌, ◌++◌, eqb-true, nat_lt}
use Rattle.std.proofs.Common.{ltb-true, ltb-false, arith, ap, sym, refl, ◌∙◌}
use Rattle.std.proofs.lemmas.Bool.{eqb-false, le-leb, leb-false, leb-true, lt-leb}
use Rattle.rl_bindings.proofs.LookUps.{by_test}
use Rattle.rl_dead.proofs.Covering.{or_assoc, or_none}
use Rattle.rl_dead.specs.Ranges.{holds, is_covered}
use Rattle.rl_dead.specs.declared.ranges.Range.{Range}
use Rattle.rl_model.specs.Code.{contains}

contains_append : (xs ys : List ℕ) (n : ℕ) → contains (xs ++ ys) n ≡ (contains xs n || contains ys n)
contains_append [] ys n = refl
contains_append (x ∷ xs) ys n =
    ap (λ b. nat_eq n x || b) (contains_append xs ys n) ∙ sym (or_assoc (nat_eq n x) (contains xs n) (contains ys n))

-- The ids from one on are it and those from the next on.
from_next : (id end node : ℕ) → id < end
    → (nat_eq node id || (nat_le (id + 1) node && not (nat_le end node))) ≡ (nat_le id node && not (nat_le end node))
from_next id end node within = by_test (nat_eq node id)
    (λ holds. let here : node ≡ id = eqb-true node id holds in
    ap (λ c. c || (nat_le (id + 1) node && not (nat_le end node))) holds
    ∙ ap (λ c. c && true) (sym (le-leb id node (omega (arith, here))))
    ∙ ap (λ c. nat_le id node && not c) (sym (lt-leb end node (omega (arith, here, within)))))
    (λ fails. ap (λ c. c || (nat_le (id + 1) node && not (nat_le end node))) fails
    ∙ by_test (nat_le id node)
    (λ holds. let low : id ≤ node = leb-true id node holds in
    ap (λ c. c && not (nat_le end node)) (le-leb (id + 1) node (next low fails)) ∙ ap (λ c. c && not (nat_le end node)) (sym holds))
    (λ past. let high : node < id = leb-false id node past in
    ap (λ c. c && not (nat_le end node)) (lt-leb (id + 1) node (omega (arith, high)))
    ∙ ap (λ c. c && not (nat_le end node)) (sym past)))
  where
    next : id ≤ node → nat_eq node id ≡ false → id + 1 ≤ node
    next low fails = by_test (nat_lt id node)
        (λ holds. let less : id < node = ltb-true id node holds in omega (arith, less))
        (λ no. let most : node ≤ id = ltb-false id node no in absurd (eqb-false node id fails (omega (arith, low, most))))

no_more : (id end node : ℕ) → end ≤ id → false ≡ (nat_le id node && not (nat_le end node))
no_more id end node past = by_test (nat_le id node)
    (λ holds. let low : id ≤ node = leb-true id node holds in
    ap not (sym (le-leb end node (omega (arith, low, past)))) ∙ ap (λ c. c && not (nat_le end node)) (sym holds))
    (λ fails. ap (λ c. c && not (nat_le end node)) (sym fails))

pub id_more : (out old : List ℕ) (id end : ℕ) (range : Range) → id < end
    → ((node : ℕ) → (contains out node || (nat_le id node && not (nat_le end node))) ≡ (contains old node || holds node range)) → (node : ℕ)
    → (contains (out ++ id ∷ []) node || (nat_le (id + 1) node && not (nat_le end node))) ≡ (contains old node || holds node range)
id_more out old id end range within so node =
    ap (λ c. c || (nat_le (id + 1) node && not (nat_le end node)))
    (contains_append out (id ∷ []) node ∙ ap (λ c. contains out node || c) (sym (or_none (nat_eq node id))))
    ∙ or_assoc (contains out node) (nat_eq node id) (nat_le (id + 1) node && not (nat_le end node))
    ∙ ap (λ c. contains out node || c) (from_next id end node within) ∙ so node

pub id_last : (out old : List ℕ) (id end : ℕ) (range : Range) → end ≤ id
    → ((node : ℕ) → (contains out node || (nat_le id node && not (nat_le end node))) ≡ (contains old node || holds node range)) → (node : ℕ)
    → contains out node ≡ (contains old node || holds node range)
id_last out old id end range past so node =
    or_none (contains out node) ∙ ap (λ c. contains out node || c) (no_more id end node past) ∙ so node

pub ruleset ids = (id_more, id_last)

-- The ranges that are left, behind those whose ids were appended.
pub range_more : (out new : List ℕ) (range : Range) (rest all : List Range)
    → ((n : ℕ) → (contains out n || is_covered (range ∷ rest) n) ≡ is_covered all n)
    → ((n : ℕ) → contains new n ≡ (contains out n || holds n range)) → (n : ℕ) → (contains new n || is_covered rest n) ≡ is_covered all n
range_more out new range rest all so step n =
    ap (λ c. c || is_covered rest n) (step n) ∙ or_assoc (contains out n) (holds n range) (is_covered rest n) ∙ so n

pub range_last : (out : List ℕ) (all : List Range) → ((n : ℕ) → (contains out n || is_covered [] n) ≡ is_covered all n) → (n : ℕ)
    → contains out n ≡ is_covered all n
range_last out all so n = or_none (contains out n) ∙ so n

pub ruleset all_ranges = (range_more, range_last)
