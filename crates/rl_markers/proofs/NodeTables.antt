-- The symbols of nodes in a row.
use Rattle.std.proofs.Common.{◌≡◌, ◌<◌, ◌≤◌, ℕ, zero, suc, ◌+◌, ◌-◌, nat_eq, nat_le, nat_lt, Bool, true, false, ◌&&◌, ◌||◌, if◌then◌else◌}
use Rattle.std.proofs.Common.{eqb-true, ltb-true, ltb-false, Some, List, [], ◌∷◌, ◌++◌, slice_get, append-nil, append_assoc, arith, ap, sym, refl, ◌∙◌}
use Rattle.std.proofs.lemmas.Bool.{eq-eqb, eqb-false, le-leb, le-ltb, leb-false, leb-true, lt-leb, lt-ltb, ne_eqb}
use Rattle.rl_bindings.proofs.LookUps.{by_test}
use Rattle.rl_bindings.specs.declared.event.Bound.{Bound}
use Rattle.rl_worlds.proofs.Shared.{contains_append}
use Rattle.rl_markers.specs.NodeSymbols.{AddsBetween, AreOf, between, pairs_from}
use Rattle.rl_markers.specs.declared.node_symbols.NodeSymbols.{NodeSymbols}
use Rattle.rl_model.specs.Code.{contains}
use Rattle.rl_semantic.specs.Buckets.{bucket, those}

-- A node more.
pub node_more : (table : NodeSymbols) (id end : ℕ) (old out new : List ℕ) (all : List ℕ) → id < end
    → out ++ between table id (end - id) ≡ old ++ all → new ≡ out ++ bucket table.table id
    → new ++ between table (id + 1) (end - (id + 1)) ≡ old ++ all
node_more table id end old out new all within so e =
    let left : end - id ≡ suc (end - (id + 1)) = omega (arith, within) in
    ap (λ l. l ++ between table (id + 1) (end - (id + 1))) e
    ∙ append_assoc out (bucket table.table id) (between table (id + 1) (end - (id + 1)))
    ∙ ap (λ n. out ++ between table id n) (sym left) ∙ so

pub node_last : (table : NodeSymbols) (id end : ℕ) (old out : List ℕ) (all : List ℕ) → end ≤ id
    → out ++ between table id (end - id) ≡ old ++ all → out ≡ old ++ all
node_last table id end old out all past so =
    let none : end - id ≡ zero = omega (arith, past) in sym (append-nil out) ∙ ap (λ n. out ++ between table id n) (sym none) ∙ so

pub ruleset nodes = (node_more, node_last)

-- Pairs of later numbers hold no earlier one.
earlier : (key number s : ℕ) (bs : List Bound) → s < number → contains (those key (pairs_from number bs)) s ≡ false
earlier key number s [] less = refl
earlier key number s (b ∷ bs) less = by_test (nat_eq b.node.0 key)
    (λ holds. ap (λ (c : Bool). contains (if c then number ∷ those key (pairs_from (number + 1) bs) else those key (pairs_from (number + 1) bs)) s) holds
    ∙ ap (λ c. c || contains (those key (pairs_from (number + 1) bs)) s) (ne_eqb s number (λ same. absurd (omega (arith, less, same))))
    ∙ earlier key (number + 1) s bs (omega (arith, less)))
    (λ fails. ap (λ (c : Bool). contains (if c then number ∷ those key (pairs_from (number + 1) bs) else those key (pairs_from (number + 1) bs)) s) fails
    ∙ earlier key (number + 1) s bs (omega (arith, less)))

-- The symbols at a key are those whose first declarations are that node.
those_are : (key number : ℕ) (bs : List Bound) (i : ℕ) (first : Bound) → slice_get bs i ≡ Some first
    → contains (those key (pairs_from number bs)) (number + i) ≡ nat_eq first.node.0 key
those_are key number [] i first is = absurd (cc)
those_are key number (b ∷ bs) zero first is =
    let same : b ≡ first = cc in
    let here : number + 0 ≡ number = omega arith in
    ap (contains (those key (pairs_from number (b ∷ bs)))) here
    ∙ by_test (nat_eq b.node.0 key)
    (λ holds. ap (λ (c : Bool). contains (if c then number ∷ those key (pairs_from (number + 1) bs) else those key (pairs_from (number + 1) bs)) number) holds
    ∙ ap (λ c. c || contains (those key (pairs_from (number + 1) bs)) number) (eq-eqb number number refl) ∙ sym holds)
    (λ fails. ap (λ (c : Bool). contains (if c then number ∷ those key (pairs_from (number + 1) bs) else those key (pairs_from (number + 1) bs)) number) fails
    ∙ earlier key (number + 1) number bs (omega arith) ∙ sym fails)
    ∙ ap (λ (d : Bound). nat_eq d.node.0 key) same
those_are key number (b ∷ bs) (suc i) first is =
    let next : number + suc i ≡ (number + 1) + i = omega arith in
    ap (contains (those key (pairs_from number (b ∷ bs)))) next
    ∙ by_test (nat_eq b.node.0 key)
    (λ holds. ap (λ (c : Bool). contains (if c then number ∷ those key (pairs_from (number + 1) bs) else those key (pairs_from (number + 1) bs)) ((number + 1) + i)) holds
    ∙ ap (λ c. c || contains (those key (pairs_from (number + 1) bs)) ((number + 1) + i))
    (ne_eqb ((number + 1) + i) number (λ same. absurd (omega (arith, same)))))
    (λ fails. ap (λ (c : Bool). contains (if c then number ∷ those key (pairs_from (number + 1) bs) else those key (pairs_from (number + 1) bs)) ((number + 1) + i)) fails)
    ∙ those_are key (number + 1) bs i first is

bucket_has : (table : NodeSymbols) (symbols : List Bound) (key s : ℕ) (first : Bound) → AreOf table symbols → key < 4294967296
    → slice_get symbols s ≡ Some first → contains (bucket table.table key) s ≡ nat_eq first.node.0 key
bucket_has table symbols key s first are within is =
    ap (λ l. contains l s) (are.buckets.at key)
    ∙ ap (λ (c : Bool). contains (if c then those key (pairs_from 0 symbols) else []) s) (lt-ltb key 4294967296 within)
    ∙ ap (contains (those key (pairs_from 0 symbols))) start ∙ those_are key 0 symbols s first is
  where
    start : s ≡ 0 + s
    start = omega arith

range_none : (start node end : ℕ) → end ≤ start → false ≡ (nat_le start node && nat_lt node end)
range_none start node end past = by_test (nat_le start node)
    (λ holds. let here : start ≤ node = leb-true start node holds in
    sym (le-ltb node end (omega (arith, here, past))) ∙ ap (λ c. c && nat_lt node end) (sym holds))
    (λ fails. ap (λ c. c && nat_lt node end) (sym fails))

range_more : (start node count : ℕ)
    → (nat_eq node start || (nat_le (start + 1) node && nat_lt node ((start + 1) + count))) ≡ (nat_le start node && nat_lt node (start + suc count))
range_more start node count = by_test (nat_eq node start)
    (λ holds. let here : node ≡ start = eqb-true node start holds in
    ap (λ c. c || (nat_le (start + 1) node && nat_lt node ((start + 1) + count))) holds
    ∙ ap (λ c. c && true) (sym (le-leb start node (omega (arith, here))))
    ∙ ap (λ c. nat_le start node && c) (sym (lt-ltb node (start + suc count) (omega (arith, here)))))
    (λ fails. ap (λ c. c || (nat_le (start + 1) node && nat_lt node ((start + 1) + count))) fails
    ∙ by_test (nat_le start node)
    (λ holds. let low : start ≤ node = leb-true start node holds in
    let further : start + 1 ≤ node = next low fails in
    let same : (start + 1) + count ≡ start + suc count = omega arith in
    ap (λ c. c && nat_lt node ((start + 1) + count)) (le-leb (start + 1) node further)
    ∙ ap (λ n. nat_lt node n) same ∙ ap (λ c. c && nat_lt node (start + suc count)) (sym holds))
    (λ past. let high : node < start = leb-false start node past in
    ap (λ c. c && nat_lt node ((start + 1) + count)) (lt-leb (start + 1) node (omega (arith, high)))
    ∙ ap (λ c. c && nat_lt node (start + suc count)) (sym past)))
  where
    next : start ≤ node → nat_eq node start ≡ false → start + 1 ≤ node
    next low fails = by_test (nat_lt start node)
        (λ holds. let less : start < node = ltb-true start node holds in omega (arith, less))
        (λ no. let most : node ≤ start = ltb-false start node no in absurd (eqb-false node start fails (omega (arith, low, most))))

between_has : (table : NodeSymbols) (symbols : List Bound) (s : ℕ) (first : Bound) → AreOf table symbols
    → slice_get symbols s ≡ Some first → (count start : ℕ) → start + count ≤ 4294967296
    → contains (between table start count) s ≡ (nat_le start first.node.0 && nat_lt first.node.0 (start + count))
between_has table symbols s first are is zero start within = range_none start first.node.0 (start + zero) (omega arith)
between_has table symbols s first are is (suc count) start within =
    contains_append (bucket table.table start) (between table (start + 1) count) s
    ∙ ap (λ c. c || contains (between table (start + 1) count) s)
    (bucket_has table symbols start s first are (omega (arith, within)) is)
    ∙ ap (λ c. nat_eq first.node.0 start || c) (between_has table symbols s first are is count (start + 1) (omega (arith, within)))
    ∙ range_more start first.node.0 count

pub adds_between : (table : NodeSymbols) (old new : List ℕ) (start end : ℕ) → end < 4294967296 → start < 4294967296
    → new ≡ old ++ between table start (end - start) → AddsBetween table old new start end
adds_between table old new start end low below e = record {
  adds = λ symbols are s first is.
      ap (λ l. contains l s) e ∙ contains_append old (between table start (end - start)) s
      ∙ ap (λ c. contains old s || c) (by_test (nat_le start end)
      (λ holds. let ordered : start ≤ end = leb-true start end holds in
      let whole : start + (end - start) ≡ end = omega (arith, ordered) in
      between_has table symbols s first are is (end - start) start (omega (arith, ordered, low))
      ∙ ap (λ n. nat_le start first.node.0 && nat_lt first.node.0 n) whole)
      (λ fails. let past : end < start = leb-false start end fails in
      let none : end - start ≡ zero = omega (arith, past) in
      ap (λ n. contains (between table start n) s) none ∙ range_none start first.node.0 end (omega (arith, past))));
}
