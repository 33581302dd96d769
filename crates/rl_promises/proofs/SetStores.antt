-- A store, and that store with some variables set: what neither reads nor assigns these variables keeps the two so.
use Rattle.std.proofs.Common.{◌≡◌, ℕ, Bool, true, false, true≢false, ◌||◌, nat_eq, eqb-true, eq-eqb, if◌then◌else◌, List, [], ◌∷◌, ◌++◌}
use Rattle.std.proofs.Common.{map, Option, Some, None, refl, sym, ap, ◌∙◌}
use Rattle.std.proofs.lemmas.Bool.{or_parts}
use Rattle.rl_base.specs.declared.ids.SymbolId.{SymbolId}
use Rattle.rl_machine.specs.Traces.{Store, set}
use Rattle.rl_machine.specs.declared.trace.Assignment.{Assignment}
use Rattle.rl_machine.specs.declared.trace.Value.{Value}
use Rattle.rl_model.specs.Code.{contains, declared_by}
use Rattle.rl_model.specs.Functions.{set_all}
use Rattle.rl_model.specs.Patterns.{declare}
use Rattle.rl_promises.proofs.RelatedStores.{Relates, Relation, relates_give}

-- The variables that some assignments set.
abbrev pub set_by : List Assignment → List ℕ
set_by assignments = map (λ (a : Assignment). a.symbol.0) assignments

pub set_all-append : (first second : List Assignment) (store : Store)
    → set_all (first ++ second) store ≡ set_all second (set_all first store)
set_all-append [] second store = refl
set_all-append (a ∷ first) second store = set_all-append first second (set store a.symbol.0 a.value)

pub set_by-append : (first second : List Assignment) → set_by (first ++ second) ≡ set_by first ++ set_by second
set_by-append [] second = refl
set_by-append (a ∷ first) second = ap (λ (l : List ℕ). a.symbol.0 ∷ l) (set_by-append first second)

-- A variable beside these has its old value.
pub set_apart : (assignments : List Assignment) (symbol : ℕ) → contains (set_by assignments) symbol ≡ false → (store : Store)
    → set_all assignments store symbol ≡ store symbol
set_apart [] symbol apart store = refl
set_apart (a ∷ assignments) symbol apart store =
    let both = or_parts (nat_eq symbol a.symbol.0) (contains (set_by assignments) symbol) apart in
    set_apart assignments symbol both.1 (set store a.symbol.0 a.value)
    ∙ ap (λ (b : Bool). if b then a.value else store symbol) both.0

-- Two variables take their values in either order.
set_swapped : (store : Store) (first second : ℕ) (v w : Value) → nat_eq first second ≡ false
    → set (set store first v) second w ≡ set (set store second w) first v
set_swapped store first second v w apart = λ i other.
    by_tests other (nat_eq other second) (nat_eq other first) refl refl i
  where
    by_tests : (other : ℕ) (a b : Bool) → nat_eq other second ≡ a → nat_eq other first ≡ b
        → (if a then w else if b then v else store other) ≡ (if b then v else if a then w else store other)
    by_tests other true true is also =
        absurd (true≢false (sym (eq-eqb first second (sym (eqb-true other first also) ∙ eqb-true other second is)) ∙ apart))
    by_tests other true false is also = refl
    by_tests other false true is also = refl
    by_tests other false false is also = refl

-- A variable beside these may be set before them.
pub set_before : (assignments : List Assignment) (symbol : ℕ) → contains (set_by assignments) symbol ≡ false → (v : Value) (store : Store)
    → set_all assignments (set store symbol v) ≡ set (set_all assignments store) symbol v
set_before [] symbol apart v store = refl
set_before (a ∷ assignments) symbol apart v store =
    let both = or_parts (nat_eq symbol a.symbol.0) (contains (set_by assignments) symbol) apart in
    ap (set_all assignments) (set_swapped store symbol a.symbol.0 v a.value both.0)
    ∙ set_before assignments symbol both.1 v (set store a.symbol.0 a.value)

-- The first store is the second one with the variables set.
abbrev pub set_ahead : (assigned : List ℕ) → List Assignment → Relation assigned
set_ahead assigned assignments = record {
  Reads = λ symbol. contains (set_by assignments) symbol ≡ false;
  R = λ one other. one ≡ set_all assignments other;
  read = λ symbol apart one other same. (λ i. same i symbol) ∙ set_apart assignments symbol apart other;
  write = λ symbol apart there v one other same. (λ i. set (same i) symbol v) ∙ sym (set_before assignments symbol apart v other);
}

pub relates_declare : (assigned : List ℕ) (assignments : List Assignment) (o : Option SymbolId) (v : Value)
    → ((symbol : ℕ) → contains (declared_by o) symbol ≡ true → contains (set_by assignments) symbol ≡ false)
    → Relates (set_ahead assigned assignments).R (declare o v)
relates_declare assigned assignments None v apart = relates_give (tt {0})
relates_declare assigned assignments (Some symbol) v apart = record {
  holds = λ ways others f g one other answers related throws short same.
      same (tt {0}) (set one symbol.0 v) (set other symbol.0 v) answers
      ((λ i. set (related i) symbol.0 v)
      ∙ sym (set_before assignments symbol.0 (apart symbol.0 (ap (λ (b : Bool). b || false) (eq-eqb symbol.0 symbol.0 refl))) v other));
}
