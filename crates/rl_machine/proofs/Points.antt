-- Program points: those of a graph as a list, and lists without repetition within it.
use Rattle.std.proofs.Common.{◌≡◌, ℕ, zero, suc, ◌+◌, ◌<◌, ◌≤◌, Bool, true, false, ◌&&◌, ◌||◌, if◌then◌else◌, Option, Some, None, List, [], ◌∷◌, ◌++◌, length, slice_get, refl, sym, ap, ◌∙◌, subst, arith, eq-eqb, eqb-true, length-append}
use Rattle.std.specs.Prelude.{nat_eq}
use Rattle.std.proofs.lemmas.Option.{slice_get_within}
use Rattle.std.proofs.lemmas.Bool.{or_parts}
use Rattle.rl_base.specs.declared.ids.InstructionId.{InstructionId}
use Rattle.rl_hir.specs.Blocks.{Pair}
use Rattle.rl_hir.specs.declared.instruction.Instruction.{Instruction}
use Rattle.rl_machine.specs.Machine.{Item, block_of, item_at, item_by, item_in, positions}
use Rattle.rl_machine.specs.Prunes.{Point, is_passed, same_point}

-- The points stand in a list of points, each once.
pub data AreAmong (all : List Point) : List Point → Type 0 where
  Nothing : AreAmong all []
  Another : (q : Point) (points : List Point) → is_passed q points ≡ false → is_passed q all ≡ true → AreAmong all points → AreAmong all (q ∷ points)

same_refl : (q : Point) → same_point q q ≡ true
same_refl q = let a : nat_eq q.0 q.0 ≡ true = eq-eqb q.0 q.0 refl in let b : nat_eq q.1 q.1 ≡ true = eq-eqb q.1 q.1 refl in cc

nat_turned : (a b : ℕ) → nat_eq a b ≡ nat_eq b a
nat_turned a b = by_bool (nat_eq a b) (nat_eq b a) refl refl
  where
    by_bool : (x y : Bool) → nat_eq a b ≡ x → nat_eq b a ≡ y → nat_eq a b ≡ nat_eq b a
    by_bool true y e f = (let same : nat_eq b a ≡ true = eq-eqb b a (sym (eqb-true a b e)) in e ∙ sym same)
    by_bool false true e f = (let same : nat_eq a b ≡ true = eq-eqb a b (sym (eqb-true b a f)) in same ∙ sym f)
    by_bool false false e f = e ∙ sym f

same_turned : (q r : Point) → same_point q r ≡ same_point r q
same_turned q r = ap (λ b. b && nat_eq q.1 r.1) (nat_turned q.0 r.0) ∙ ap (λ b. nat_eq r.0 q.0 && b) (nat_turned q.1 r.1)

abbrev without : Point → List Point → List Point
without q [] = []
without q (a ∷ all) = if same_point q a then all else a ∷ without q all

shorter : (q : Point) (all : List Point) → is_passed q all ≡ true → suc (length (without q all)) ≡ length all
shorter q [] there = absurd (cc)
shorter q (a ∷ all) there = by_head (same_point q a) refl (shorter q all)
  where
    by_head : (b : Bool) → same_point q a ≡ b → (is_passed q all ≡ true → suc (length (without q all)) ≡ length all) → suc (length (without q (a ∷ all))) ≡ suc (length all)
    by_head true e rest = ap (λ b. suc (length (if b then all else a ∷ without q all))) e
    by_head false e rest =
        ap (λ b. suc (length (if b then all else a ∷ without q all))) e
        ∙ ap (λ n. suc n) (rest (sym (ap (λ b. b || is_passed q all) e) ∙ there))

still : (q r : Point) (all : List Point) → same_point r q ≡ false → is_passed r all ≡ true → is_passed r (without q all) ≡ true
still q r [] other there = there
still q r (a ∷ all) other there = by_head (same_point q a) refl (still q r all other)
  where
    not_both : same_point q a ≡ true → same_point r a ≡ true → same_point r q ≡ true
    not_both = both (nat_eq q.0 a.0) (nat_eq q.1 a.1) (nat_eq r.0 a.0) (nat_eq r.1 a.1) refl refl refl refl
      where
        both : (b d e f : Bool) → nat_eq q.0 a.0 ≡ b → nat_eq q.1 a.1 ≡ d → nat_eq r.0 a.0 ≡ e → nat_eq r.1 a.1 ≡ f → same_point q a ≡ true → same_point r a ≡ true → same_point r q ≡ true
        both true true true true b d e f first second =
            let x : q.0 ≡ a.0 = eqb-true q.0 a.0 b in let y : q.1 ≡ a.1 = eqb-true q.1 a.1 d in
            let z : r.0 ≡ a.0 = eqb-true r.0 a.0 e in let w : r.1 ≡ a.1 = eqb-true r.1 a.1 f in
            let m : nat_eq r.0 q.0 ≡ true = eq-eqb r.0 q.0 (z ∙ sym x) in let n : nat_eq r.1 q.1 ≡ true = eq-eqb r.1 q.1 (w ∙ sym y) in cc
        both true true true false b d e f first second = absurd (cc)
        both true true false true b d e f first second = absurd (cc)
        both true true false false b d e f first second = absurd (cc)
        both true false true true b d e f first second = absurd (cc)
        both true false true false b d e f first second = absurd (cc)
        both true false false true b d e f first second = absurd (cc)
        both true false false false b d e f first second = absurd (cc)
        both false true true true b d e f first second = absurd (cc)
        both false true true false b d e f first second = absurd (cc)
        both false true false true b d e f first second = absurd (cc)
        both false true false false b d e f first second = absurd (cc)
        both false false true true b d e f first second = absurd (cc)
        both false false true false b d e f first second = absurd (cc)
        both false false false true b d e f first second = absurd (cc)
        both false false false false b d e f first second = absurd (cc)

    by_second : (b : Bool) → same_point r a ≡ b → (is_passed r all ≡ true → is_passed r (without q all) ≡ true) → same_point q a ≡ false → is_passed r (without q (a ∷ all)) ≡ true
    by_second true e rest off = ap (λ b. is_passed r (if b then all else a ∷ without q all)) off ∙ ap (λ b. b || is_passed r (without q all)) e
    by_second false e rest off =
        ap (λ b. is_passed r (if b then all else a ∷ without q all)) off ∙ ap (λ b. b || is_passed r (without q all)) e
        ∙ rest (sym (ap (λ b. b || is_passed r all) e) ∙ there)

    other_head : (b : Bool) → same_point r a ≡ b → same_point q a ≡ true → is_passed r all ≡ true
    other_head true e on = let bad : same_point r q ≡ true = not_both on e in absurd (cc)
    other_head false e on = sym (ap (λ b. b || is_passed r all) e) ∙ there

    by_head : (b : Bool) → same_point q a ≡ b → (is_passed r all ≡ true → is_passed r (without q all) ≡ true) → is_passed r (without q (a ∷ all)) ≡ true
    by_head true e rest = ap (λ b. is_passed r (if b then all else a ∷ without q all)) e ∙ other_head (same_point r a) refl e
    by_head false e rest = by_second (same_point r a) refl rest e

among_without : (q : Point) (all points : List Point) → is_passed q points ≡ false → AreAmong all points → AreAmong (without q all) points
among_without q all [] fresh Nothing = Nothing
among_without q all (r ∷ rest) fresh (Another _ _ once there among) =
    let parts : (same_point q r ≡ false) × (is_passed q rest ≡ false) = or_parts (same_point q r) (is_passed q rest) fresh in
    Another r rest once (still q r all (same_turned r q ∙ parts.0) there) (among_without q all rest parts.1 among)

-- A list without repetition within another is no longer.
pub at_most : (all points : List Point) → AreAmong all points → length points ≤ length all
at_most all [] Nothing = omega arith
at_most all (q ∷ rest) (Another _ _ once there among) =
    let below : length rest ≤ length (without q all) = at_most (without q all) rest (among_without q all rest once among) in
    let one : suc (length (without q all)) ≡ length all = shorter q all there in
    omega (arith, below, one)

abbrev points_of : (id count : ℕ) → List Point
points_of id zero = []
points_of id (suc n) = (id, n) ∷ points_of id n

-- The program points of a graph.
abbrev pub points_in : List Pair → List Point
points_in [] = []
points_in (p ∷ pairs) = points_of p.0.0 (1 + length p.1.instructions) ++ points_in pairs

length_points : (id count : ℕ) → length (points_of id count) ≡ count
length_points id zero = refl
length_points id (suc n) = ap (λ m. suc m) (length_points id n)

pub points_count : (pairs : List Pair) → length (points_in pairs) ≡ positions pairs
points_count [] = refl
points_count (p ∷ pairs) =
    length-append (points_of p.0.0 (1 + length p.1.instructions)) (points_in pairs)
    ∙ ap (λ n. n + length (points_in pairs)) (length_points p.0.0 (1 + length p.1.instructions))
    ∙ ap (λ n. 1 + length p.1.instructions + n) (points_count pairs)

passed_left : (q : Point) (xs ys : List Point) → is_passed q xs ≡ true → is_passed q (xs ++ ys) ≡ true
passed_left q [] ys e = absurd (cc)
passed_left q (x ∷ xs) ys e = by_head (same_point q x) (passed_left q xs ys) e
  where
    by_head : (b : Bool) → (is_passed q xs ≡ true → is_passed q (xs ++ ys) ≡ true) → (b || is_passed q xs) ≡ true → (b || is_passed q (xs ++ ys)) ≡ true
    by_head true rest e = refl
    by_head false rest e = rest e

passed_right : (q : Point) (xs ys : List Point) → is_passed q ys ≡ true → is_passed q (xs ++ ys) ≡ true
passed_right q [] ys e = e
passed_right q (x ∷ xs) ys e = by_head (same_point q x) (passed_right q xs ys e)
  where
    by_head : (b : Bool) → is_passed q (xs ++ ys) ≡ true → (b || is_passed q (xs ++ ys)) ≡ true
    by_head true rest = refl
    by_head false rest = rest

point_below : (id place count : ℕ) → place < count → is_passed (id, place) (points_of id count) ≡ true
point_below id place zero below = absurd (omega (arith, below))
point_below id place (suc n) below = by_last (nat_eq place n) refl (point_below id place n)
  where
    head : (b : Bool) → nat_eq place n ≡ b → (nat_eq id id && nat_eq place n) ≡ b
    head b e = (let a : nat_eq id id ≡ true = eq-eqb id id refl in cc)

    by_last : (b : Bool) → nat_eq place n ≡ b → (place < n → is_passed (id, place) (points_of id n) ≡ true) → is_passed (id, place) (points_of id (suc n)) ≡ true
    by_last true e rest = ap (λ b. b || is_passed (id, place) (points_of id n)) (head true e)
    by_last false e rest =
        let ne : place ≡ n → ⊥ = (λ same. (let bad : nat_eq place n ≡ true = eq-eqb place n same in let no : true ≡ false = cc in absurd (cc))) in
        ap (λ b. b || is_passed (id, place) (points_of id n)) (head false e) ∙ rest (omega (arith, below, ne))

-- A point that has an item is one of the points of the graph.
pub item_within : (pairs : List Pair) (table : List Instruction) (id place : ℕ) (item : Item) → item_at table (block_of pairs id) place ≡ Some item
    → is_passed (id, place) (points_in pairs) ≡ true
item_within [] table id place item is = absurd (cc)
item_within (p ∷ pairs) table id place item is = by_head (nat_eq id p.0.0) refl (item_within pairs table id place item)
  where
    below : (o : Option InstructionId) → slice_get p.1.instructions place ≡ o → (end : Bool) → nat_eq place (length p.1.instructions) ≡ end
        → item_by table o end p.1.terminal ≡ Some item → place < 1 + length p.1.instructions
    below (Some number) listed end at_end there = (let inside : place < length p.1.instructions = slice_get_within p.1.instructions place number listed in omega (arith, inside))
    below None listed true at_end there = (let last : place ≡ length p.1.instructions = eqb-true place (length p.1.instructions) at_end in omega (arith, last))
    below None listed false at_end there = absurd (cc)

    by_head : (b : Bool) → nat_eq id p.0.0 ≡ b → (item_at table (block_of pairs id) place ≡ Some item → is_passed (id, place) (points_in pairs) ≡ true)
        → is_passed (id, place) (points_in (p ∷ pairs)) ≡ true
    by_head true e rest =
        let same : id ≡ p.0.0 = eqb-true id p.0.0 e in
        let here : item_in table p.1 place ≡ Some item = sym (ap (λ b. item_at table (if b then Some p.1 else block_of pairs id) place) e) ∙ is in
        passed_left (id, place) (points_of p.0.0 (1 + length p.1.instructions)) (points_in pairs)
        (subst (λ n. is_passed (id, place) (points_of n (1 + length p.1.instructions)) ≡ true) same (point_below id place (1 + length p.1.instructions) (below (slice_get p.1.instructions place) refl (nat_eq place (length p.1.instructions)) refl here)))
    by_head false e rest =
        passed_right (id, place) (points_of p.0.0 (1 + length p.1.instructions)) (points_in pairs)
        (rest (sym (ap (λ b. item_at table (if b then Some p.1 else block_of pairs id) place) e) ∙ is))
