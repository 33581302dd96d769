-- The search for a free name goes on where the last search ended.
use Rattle.std.proofs.Common.{◌≡◌, ℕ, zero, suc, ◌+◌, ◌<◌, Bool, true, false, true≢false, not, cond, if◌then◌else◌, max, nat_eq, nat_lt, eqb-true, Option, Some, None, is_some, get_or, List, [], ◌∷◌, ◌++◌, refl, sym, ap, subst, ◌∙◌, arith}
use Rattle.std.proofs.lemmas.Bool.{false_from_ne_true}
use Rattle.std.proofs.lemmas.Cmp.{nat_list_eq_equiv}
use Rattle.std.proofs.lemmas.Option.{none-some, same_Some}
use Rattle.std.specs.Option.{option_map_or}
use Rattle.std.specs.Str.{bytes_eq}
use Rattle.rl_base.specs.declared.ids.SymbolId.{SymbolId}
use Rattle.rl_hir.specs.Symbols.{has}
use Rattle.rl_used_names.proofs.Merging.{is_used-merged}
use Rattle.rl_used_names.proofs.NameEntries.{with_user-new}
use Rattle.rl_used_names.proofs.NameLaws.{user_of-with_user}
use Rattle.rl_used_names.specs.Merged.{with_missing_name, merged_names}
use Rattle.rl_used_names.specs.Choosing.{with_user, is_free, AllTaken, IsFirstFree}
use Rattle.rl_used_names.specs.UsedName.{user_of, candidate, UsedName}
use Rattle.rl_used_names.specs.NameSearch.{is_used, name_at, IsTried, IsSearched, AreEntries, AreTried}

-- An entry keeps its name where a name is given to a symbol.
pub name_at-with_user : (used : List UsedName) (name : List ℕ) (symbol entry : ℕ) (n : List ℕ) → name_at used entry ≡ Some n → name_at (with_user used name symbol) entry ≡ Some n
name_at-with_user [] name symbol entry n some = absurd (none-some n some)
name_at-with_user (u ∷ used) name symbol zero n some = by (bytes_eq name u.name)
  where
    by : (test : Bool) → name_at (cond test (record u { symbol = symbol } ∷ used) (u ∷ with_user used name symbol)) zero ≡ Some n
    by true = some
    by false = some
name_at-with_user (u ∷ used) name symbol (suc entry) n some = by (bytes_eq name u.name) (name_at-with_user used name symbol entry n some)
  where
    by : (test : Bool) → name_at (with_user used name symbol) entry ≡ Some n → name_at (cond test (record u { symbol = symbol } ∷ used) (u ∷ with_user used name symbol)) (suc entry) ≡ Some n
    by true rest = some
    by false rest = rest

-- A name that is used stays used.
pub is_used-with_user : (used : List UsedName) (name : List ℕ) (symbol : ℕ) (q : List ℕ) → is_used used q ≡ true → is_used (with_user used name symbol) q ≡ true
is_used-with_user used name symbol q is = ap is_some (user_of-with_user used name symbol q) ∙ by (bytes_eq q name)
  where
    by : (test : Bool) → is_some (cond test (Some symbol) (user_of used q)) ≡ true
    by true = refl
    by false = is

-- A name that is given to a symbol is used.
pub is_used-given : (used : List UsedName) (name : List ℕ) (symbol : ℕ) → is_used (with_user used name symbol) name ≡ true
is_used-given used name symbol = ap is_some (user_of-with_user used name symbol name ∙ ap (λ test. cond test (Some symbol) (user_of used name)) (nat_list_eq_equiv.refl name))

-- A name that is not free is used.
pub is_used-taken : (used : List UsedName) (symbol : ℕ) (name : List ℕ) → is_free used symbol name ≡ false → is_used used name ≡ true
is_used-taken used symbol name = by (user_of used name)
  where
    by : (o : Option ℕ) → option_map_or (λ user. nat_eq user symbol) o true ≡ false → is_some o ≡ true
    by None free = absurd (true≢false free)
    by (Some user) free = refl

-- A name that is used is not free for a symbol without a name.
pub is_free-nameless : (used : List UsedName) (symbol : ℕ) (owners : List SymbolId) (name : List ℕ)
    → ((q : List ℕ) (user : ℕ) → user_of used q ≡ Some user → has owners (record { 0 = user }) ≡ true) → has owners (record { 0 = symbol }) ≡ false → is_used used name ≡ true → is_free used symbol name ≡ false
is_free-nameless used symbol owners name owned nameless is = by (user_of used name) refl is
  where
    by : (o : Option ℕ) → user_of used name ≡ o → is_some o ≡ true → option_map_or (λ user. nat_eq user symbol) o true ≡ false
    by None none some = absurd (true≢false (sym some))
    by (Some user) found some = false_from_ne_true _ (λ same.
        let own : has owners (record { 0 = symbol }) ≡ true = subst (λ (n : ℕ). has owners (record { 0 = n }) ≡ true) (eqb-true user symbol same) (owned name user found) in
        true≢false (sym own ∙ nameless))

-- Members stay where a set grows.
pub searched-owners : (used : List UsedName) (numbers : List ℕ) (owners more : List SymbolId) → IsSearched used numbers owners → ((q : SymbolId) → has owners q ≡ true → has more q ≡ true) → IsSearched used numbers more
searched-owners used numbers owners more is grown = record {
  tried = is.tried;
  owned = λ name symbol user. grown (record { 0 = symbol }) (is.owned name symbol user);
}

-- Members of a set stay as one is inserted.
pub member-stays : (test had has_now : Bool) → has_now ≡ cond test true had → had ≡ true → has_now ≡ true
member-stays true had has_now is some = is
member-stays false had has_now is some = is ∙ some

-- A symbol is inserted among the owners.
pub searched-inserted : (used : List UsedName) (numbers : List ℕ) (owners more : List SymbolId) (symbol : SymbolId) → IsSearched used numbers owners → ((q : SymbolId) → has more q ≡ cond (nat_eq symbol.0 q.0) true (has owners q)) → IsSearched used numbers more
searched-inserted used numbers owners more symbol is grown = searched-owners used numbers owners more is (λ q had. member-stays (nat_eq symbol.0 q.0) (has owners q) (has more q) (grown q) had)

-- A name is given to a symbol that is among the owners.
pub searched-named : (used : List UsedName) (numbers : List ℕ) (owners : List SymbolId) (name : List ℕ) (symbol : ℕ) → IsSearched used numbers owners → has owners (record { 0 = symbol }) ≡ true → IsSearched (with_user used name symbol) numbers owners
searched-named used numbers owners name symbol is owner = record {
  tried = λ entry number less. let t = is.tried entry number less in record {
    name = t.name;
    named = name_at-with_user used name symbol entry t.name t.named;
    taken = is_used-with_user used name symbol (candidate t.name (suc number)) t.taken;
  };
  owned = λ q user found. by q user (bytes_eq q name) (sym (user_of-with_user used name symbol q) ∙ found);
}
  where
    by : (q : List ℕ) (user : ℕ) (test : Bool) → cond test (Some symbol) (user_of used q) ≡ Some user → has owners (record { 0 = user }) ≡ true
    by q user true found = subst (λ (n : ℕ). has owners (record { 0 = n }) ≡ true) (same_Some symbol user found) owner
    by q user false found = is.owned q user found

-- The number of an entry rises to one below which all candidates are used.
pub searched-raised : (used : List UsedName) (numbers raised : List ℕ) (owners : List SymbolId) (entry number : ℕ) → IsSearched used numbers owners
    → ((other : ℕ) → get_or raised other 0 ≡ (if nat_eq other entry then max number (get_or numbers entry 0) else get_or numbers other 0))
    → ((k : ℕ) → k < number → IsTried used entry k) → IsSearched used raised owners
searched-raised used numbers raised owners entry number is rose below = record {
  tried = λ other k less. by other k (nat_eq other entry) refl (subst (λ (n : ℕ). k < n) (rose other) less);
  owned = is.owned;
}
  where
    either : (k : ℕ) (test : Bool) → nat_lt k number ≡ test → k < max number (get_or numbers entry 0) → IsTried used entry k
    either k true low less = below k (grind (arith, low))
    either k false high less = is.tried entry k (grind (arith, high, less))

    by : (other k : ℕ) (test : Bool) → nat_eq other entry ≡ test → k < (if test then max number (get_or numbers entry 0) else get_or numbers other 0) → IsTried used other k
    by other k true same less = subst (λ (n : ℕ). IsTried used n k) (sym (eqb-true other entry same)) (either k (nat_lt k number) refl less)
    by other k false apart less = is.tried other k less

-- The candidates from which a search goes on are taken.
pub taken-first : (used : List UsedName) (numbers : List ℕ) (owners : List SymbolId) (symbol entry first : ℕ) (name : List ℕ) (is_nameless : Bool) → IsSearched used numbers owners
    → is_nameless ≡ not (has owners (record { 0 = symbol })) → name_at used entry ≡ Some name → is_free used symbol name ≡ false
    → first ≡ (if is_nameless then get_or numbers entry 0 else 0) → AllTaken used symbol name (first + 1)
taken-first used numbers owners symbol entry first name is_nameless is nameless named own start before below = each before below
  where
    unowned : (b : Bool) → true ≡ not b → b ≡ false
    unowned true is_not = absurd (true≢false is_not)
    unowned false is_not = refl

    by : (k : ℕ) → suc k < first + 1 → (test : Bool) → test ≡ not (has owners (record { 0 = symbol })) → first ≡ (if test then get_or numbers entry 0 else 0) → is_free used symbol (candidate name (suc k)) ≡ false
    by k less true fresh at =
        let t = is.tried entry k (omega (arith, at, less)) in
        let same : t.name ≡ name = same_Some t.name name (sym t.named ∙ named) in
        is_free-nameless used symbol owners (candidate name (suc k)) is.owned (unowned (has owners (record { 0 = symbol })) fresh)
        (subst (λ (n : List ℕ). is_used used (candidate n (suc k)) ≡ true) same t.taken)
    by k less false fresh at = absurd (omega (arith, at, less))

    each : (place : ℕ) → place < first + 1 → is_free used symbol (candidate name place) ≡ false
    each zero less = own
    each (suc k) less = by k less is_nameless nameless start

-- The map after a candidate of a name was found and given to a symbol.
pub searched-claimed : (used : List UsedName) (numbers raised : List ℕ) (owners : List SymbolId) (symbol entry number : ℕ) (name text : List ℕ) → IsSearched used numbers owners → has owners (record { 0 = symbol }) ≡ true
    → name_at used entry ≡ Some name → IsFirstFree used symbol name (number + 1) → text ≡ candidate name (number + 1)
    → ((other : ℕ) → get_or raised other 0 ≡ (if nat_eq other entry then max (number + 1) (get_or numbers entry 0) else get_or numbers other 0))
    → IsSearched (with_user used text symbol) raised owners
searched-claimed used numbers raised owners symbol entry number name text is owner named first chosen rose =
    searched-raised (with_user used text symbol) numbers raised owners entry (number + 1)
    (searched-named used numbers owners text symbol is owner) rose
    (λ k less. record { name = name; named = name_at-with_user used text symbol entry name named; taken = by k (nat_eq k number) refl less })
  where
    by : (k : ℕ) (test : Bool) → nat_eq k number ≡ test → k < number + 1 → is_used (with_user used text symbol) (candidate name (suc k)) ≡ true
    by k true same less =
        let at : suc k ≡ number + 1 = (let e : k ≡ number = eqb-true k number same in omega (arith, e)) in
        ap (is_used (with_user used text symbol)) (ap (candidate name) at ∙ sym chosen) ∙ is_used-given used text symbol
    by k false apart less = is_used-with_user used text symbol (candidate name (suc k)) (is_used-taken used symbol (candidate name (suc k)) (first.taken (suc k) (grind (arith, apart, less))))

-- A name that is missing is added with a symbol that is among the owners.
pub searched-missing : (used : List UsedName) (numbers : List ℕ) (owners : List SymbolId) (u : UsedName) → IsSearched used numbers owners → has owners (record { 0 = u.symbol }) ≡ true → IsSearched (with_missing_name used u) numbers owners
searched-missing used numbers owners u is owner = by (is_used used u.name) refl
  where
    by : (test : Bool) → is_used used u.name ≡ test → IsSearched (if test then used else used ++ u ∷ []) numbers owners
    by true known = is
    by false new = subst (λ (l : List UsedName). IsSearched l numbers owners) (with_user-new used u.name u.symbol new) (searched-named used numbers owners u.name u.symbol is owner)

-- An entry keeps its name where a missing name is added.
pub name_at-missing : (used : List UsedName) (u : UsedName) (entry : ℕ) (n : List ℕ) → name_at used entry ≡ Some n → name_at (with_missing_name used u) entry ≡ Some n
name_at-missing used u entry n some = by (is_used used u.name) refl
  where
    by : (test : Bool) → is_used used u.name ≡ test → name_at (if test then used else used ++ u ∷ []) entry ≡ Some n
    by true known = some
    by false new = subst (λ (l : List UsedName). name_at l entry ≡ Some n) (with_user-new used u.name u.symbol new) (name_at-with_user used u.name u.symbol entry n some)

-- The numbers of another map hold of the entries of its names.
pub tried-merged : (parent child : List UsedName) (numbers entries : List ℕ) (owners : List SymbolId) → IsSearched child numbers owners → AreEntries (merged_names parent child) entries child → AreTried (merged_names parent child) entries numbers
tried-merged parent child numbers entries owners is found i entry number at less =
    let t = is.tried i number less in
    record { name = t.name; named = found i entry t.name at t.named; taken = is_used-merged parent child (candidate t.name (suc number)) t.taken }
