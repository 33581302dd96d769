-- Merged maps keep the entries of the first map, and take those of the other that it lacks.
use Rattle.std.proofs.Common.{◌≡◌, ℕ, zero, suc, ◌+◌, ◌<◌, Bool, true, false, true≢false, cond, if◌then◌else◌, nat_eq, Option, Some, None, is_some, slice_get, get_or, drop, length, List, [], ◌∷◌, ◌++◌, refl, sym, ap, ◌∙◌, arith}
use Rattle.std.proofs.lemmas.Option.{none-some, same_Some, slice_get-get_or}
use Rattle.std.specs.Option.{option_or, option_map_or}
use Rattle.std.specs.Str.{bytes_eq}
use Rattle.std.proofs.lemmas.Slice.Eq.{bytes_eq-Decides}
use Rattle.std.proofs.lemmas.Bool.{eqb-true}
use Rattle.rl_hir.specs.Pairs.{identifier_of}
use Rattle.rl_hir.specs.declared.function.Pair.{Pair}
use Rattle.rl_used_names.specs.Merged.{with_missing_name, merged_names, with_missing_pair, merged_bindings}
use Rattle.rl_used_names.specs.NameSearch.{is_used, name_at, AreEntries}
use Rattle.rl_used_names.specs.UsedName.{user_of, UsedName}

get-append : {X : Type 0} (xs ys : List X) (i : ℕ) (x : X) → slice_get xs i ≡ Some x → slice_get (xs ++ ys) i ≡ Some x
get-append [] ys i x some = absurd (none-some x some)
get-append (y ∷ xs) ys zero x some = some
get-append (y ∷ xs) ys (suc i) x some = get-append xs ys i x some

or-none : {X : Type 0} (o : Option X) → o ≡ option_or o None
or-none None = refl
or-none (Some x) = refl

or-known : {X : Type 0} (o other : Option X) → is_some o ≡ true → option_or o other ≡ o
or-known None other some = absurd (true≢false (sym some))
or-known (Some x) other some = refl

or-chain : {X : Type 0} (o : Option X) (test : Bool) (x : X) (rest : Option X) → option_or (option_or o (cond test (Some x) None)) rest ≡ option_or o (cond test (Some x) rest)
or-chain None true x rest = refl
or-chain None false x rest = refl
or-chain (Some y) test x rest = refl

-- A look-up among entries put together.
pub user_of-append : (used more : List UsedName) (name : List ℕ) → user_of (used ++ more) name ≡ option_or (user_of used name) (user_of more name)
user_of-append [] more name = refl
user_of-append (u ∷ used) more name = by (bytes_eq name u.name) (user_of-append used more name)
  where
    by : (test : Bool) → user_of (used ++ more) name ≡ option_or (user_of used name) (user_of more name) → cond test (Some u.symbol) (user_of (used ++ more) name) ≡ option_or (cond test (Some u.symbol) (user_of used name)) (user_of more name)
    by true rest = refl
    by false rest = rest

pub identifier_of-append : (pairs more : List Pair) (symbol : ℕ) → identifier_of (pairs ++ more) symbol ≡ option_or (identifier_of pairs symbol) (identifier_of more symbol)
identifier_of-append [] more symbol = refl
identifier_of-append (p ∷ pairs) more symbol = by (nat_eq p.symbol.0 symbol) (identifier_of-append pairs more symbol)
  where
    by : (test : Bool) → identifier_of (pairs ++ more) symbol ≡ option_or (identifier_of pairs symbol) (identifier_of more symbol)
        → cond test (Some p.identifier.0) (identifier_of (pairs ++ more) symbol) ≡ option_or (cond test (Some p.identifier.0) (identifier_of pairs symbol)) (identifier_of more symbol)
    by true rest = refl
    by false rest = rest

-- An entry that is added where it is missing is found as it is among the entries behind.
user_of-missing : (used : List UsedName) (u : UsedName) (rest : List UsedName) (name : List ℕ) → option_or (user_of (with_missing_name used u) name) (user_of rest name) ≡ option_or (user_of used name) (user_of (u ∷ rest) name)
user_of-missing used u rest name = by (is_used used u.name) refl
  where
    known : (test : Bool) → bytes_eq name u.name ≡ test → is_used used u.name ≡ true → option_or (user_of used name) (user_of rest name) ≡ option_or (user_of used name) (cond test (Some u.symbol) (user_of rest name))
    known true same is =
        let some : is_some (user_of used name) ≡ true = ap (λ (n : List ℕ). is_some (user_of used n)) ((bytes_eq-Decides name u.name).0 same) ∙ is in
        or-known (user_of used name) (user_of rest name) some ∙ sym (or-known (user_of used name) (Some u.symbol) some)
    known false other is = refl

    by : (test : Bool) → is_used used u.name ≡ test → option_or (user_of (if test then used else used ++ u ∷ []) name) (user_of rest name) ≡ option_or (user_of used name) (user_of (u ∷ rest) name)
    by true is = known (bytes_eq name u.name) refl is
    by false is = ap (λ o. option_or o (user_of rest name)) (user_of-append used (u ∷ []) name) ∙ or-chain (user_of used name) (bytes_eq name u.name) u.symbol (user_of rest name)

identifier_of-missing : (pairs : List Pair) (p : Pair) (rest : List Pair) (symbol : ℕ) → option_or (identifier_of (with_missing_pair pairs p) symbol) (identifier_of rest symbol) ≡ option_or (identifier_of pairs symbol) (identifier_of (p ∷ rest) symbol)
identifier_of-missing pairs p rest symbol = by (is_some (identifier_of pairs p.symbol.0)) refl
  where
    known : (test : Bool) → nat_eq p.symbol.0 symbol ≡ test → is_some (identifier_of pairs p.symbol.0) ≡ true
        → option_or (identifier_of pairs symbol) (identifier_of rest symbol) ≡ option_or (identifier_of pairs symbol) (cond test (Some p.identifier.0) (identifier_of rest symbol))
    known true same is =
        let some : is_some (identifier_of pairs symbol) ≡ true = ap (λ (n : ℕ). is_some (identifier_of pairs n)) (sym (eqb-true p.symbol.0 symbol same)) ∙ is in
        or-known (identifier_of pairs symbol) (identifier_of rest symbol) some ∙ sym (or-known (identifier_of pairs symbol) (Some p.identifier.0) some)
    known false other is = refl

    by : (test : Bool) → is_some (identifier_of pairs p.symbol.0) ≡ test → option_or (identifier_of (if test then pairs else pairs ++ p ∷ []) symbol) (identifier_of rest symbol) ≡ option_or (identifier_of pairs symbol) (identifier_of (p ∷ rest) symbol)
    by true is = known (nat_eq p.symbol.0 symbol) refl is
    by false is = ap (λ o. option_or o (identifier_of rest symbol)) (identifier_of-append pairs (p ∷ []) symbol) ∙ or-chain (identifier_of pairs symbol) (nat_eq p.symbol.0 symbol) p.identifier.0 (identifier_of rest symbol)

-- A name has the symbol that it has in the first map, else that of the other.
pub user_of-merged : (parent child : List UsedName) (name : List ℕ) → user_of (merged_names parent child) name ≡ option_or (user_of parent name) (user_of child name)
user_of-merged parent [] name = or-none (user_of parent name)
user_of-merged parent (u ∷ child) name = user_of-merged (with_missing_name parent u) child name ∙ user_of-missing parent u child name

-- A symbol has the identifier that it has in the first map, else that of the other.
pub identifier_of-merged : (parent child : List Pair) (symbol : ℕ) → identifier_of (merged_bindings parent child) symbol ≡ option_or (identifier_of parent symbol) (identifier_of child symbol)
identifier_of-merged parent [] symbol = or-none (identifier_of parent symbol)
identifier_of-merged parent (p ∷ child) symbol = identifier_of-merged (with_missing_pair parent p) child symbol ∙ identifier_of-missing parent p child symbol

-- Each entry of the first map stays in its place.
pub merged_names-stays : (parent child : List UsedName) (i : ℕ) (u : UsedName) → slice_get parent i ≡ Some u → slice_get (merged_names parent child) i ≡ Some u
merged_names-stays parent [] i u some = some
merged_names-stays parent (v ∷ child) i u some = merged_names-stays (with_missing_name parent v) child i u (by (is_used parent v.name))
  where
    by : (test : Bool) → slice_get (if test then parent else parent ++ v ∷ []) i ≡ Some u
    by true = some
    by false = get-append parent (v ∷ []) i u some

pub merged_bindings-stays : (parent child : List Pair) (i : ℕ) (p : Pair) → slice_get parent i ≡ Some p → slice_get (merged_bindings parent child) i ≡ Some p
merged_bindings-stays parent [] i p some = some
merged_bindings-stays parent (q ∷ child) i p some = merged_bindings-stays (with_missing_pair parent q) child i p (by (is_some (identifier_of parent q.symbol.0)))
  where
    by : (test : Bool) → slice_get (if test then parent else parent ++ q ∷ []) i ≡ Some p
    by true = some
    by false = get-append parent (q ∷ []) i p some

-- A name that either map has is used in the merged map.
pub is_used-merged : (parent child : List UsedName) (name : List ℕ) → is_used child name ≡ true → is_used (merged_names parent child) name ≡ true
is_used-merged parent child name is = ap is_some (user_of-merged parent child name) ∙ by (user_of parent name) (user_of child name) is
  where
    by : (o other : Option ℕ) → is_some other ≡ true → is_some (option_or o other) ≡ true
    by None other some = some
    by (Some x) other some = refl

-- The items behind an index.
pub drop-at : {X : Type 0} (xs : List X) (i : ℕ) (x : X) → slice_get xs i ≡ Some x → drop i xs ≡ x ∷ drop (i + 1) xs
drop-at [] i x some = absurd (none-some x some)
drop-at (y ∷ xs) zero x some = ap (λ z. z ∷ xs) (same_Some y x some)
drop-at (y ∷ xs) (suc i) x some = drop-at xs i x some ∙ ap (λ n. x ∷ drop n (y ∷ xs)) next
  where
    next : suc (i + 1) ≡ suc i + 1
    next = omega arith

drop-all : {X : Type 0} (xs : List X) → drop (length xs) xs ≡ []
drop-all [] = refl
drop-all (x ∷ xs) = drop-all xs

-- A pair of the other map goes into the first.
pub merge-step : (pairs child new : List Pair) (index : ℕ) → index < length child → new ≡ option_map_or (λ p. with_missing_pair pairs p) (slice_get child index) pairs
    → merged_bindings new (drop (index + 1) child) ≡ merged_bindings pairs (drop index child)
merge-step pairs child new index within is =
    let none : Pair = record { symbol = record { 0 = 0 }; identifier = record { 0 = 0 } } in
    let p : Pair = get_or child index none in
    let at : slice_get child index ≡ Some p = slice_get-get_or child index none within in
    ap (λ (l : List Pair). merged_bindings l (drop (index + 1) child)) (is ∙ ap (λ o. option_map_or (λ p. with_missing_pair pairs p) o pairs) at)
    ∙ ap (merged_bindings pairs) (sym (drop-at child index p at))

pub merge-end : (pairs child : List Pair) (index : ℕ) → index ≡ length child → merged_bindings pairs (drop index child) ≡ pairs
merge-end pairs child index end = ap (merged_bindings pairs) (ap (λ n. drop n child) end ∙ drop-all child)

get-push : {X P : Type 0} (xs : List X) (x : X) (i : ℕ) (y : X) → slice_get (xs ++ x ∷ []) i ≡ Some y → (slice_get xs i ≡ Some y → P) → (i ≡ length xs → x ≡ y → P) → P
get-push [] x zero y some old last = last refl (same_Some x y some)
get-push [] x (suc i) y some old last = absurd (none-some y some)
get-push (z ∷ xs) x zero y some old last = old some
get-push (z ∷ xs) x (suc i) y some old last = get-push xs x i y some old (λ same. last (ap suc same))

-- The index of an entry comes last.
pub entries-pushed : (used more : List UsedName) (entries new : List ℕ) (child : List UsedName) (index entry : ℕ) (name : List ℕ) → AreEntries used entries child → ((e : ℕ) (n : List ℕ) → name_at used e ≡ Some n → name_at more e ≡ Some n)
    → new ≡ entries ++ entry ∷ [] → length entries ≡ index → name_at child index ≡ Some name → name_at more entry ≡ Some name → AreEntries more new child
entries-pushed used more entries new child index entry name found stays pushed counted named last i e n at at_child =
    get-push entries entry i e (sym (ap (λ (l : List ℕ). slice_get l i) pushed) ∙ at)
    (λ old. stays e n (found i e n old at_child))
    (λ end same.
    let one : Some name ≡ Some n = sym named ∙ ap (name_at child) (sym (end ∙ counted)) ∙ at_child in
    ap (name_at more) (sym same) ∙ last ∙ one)
