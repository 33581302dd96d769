-- The maps of a builder as the lists that contracts see.
use Rattle.std.proofs.Common.{◌≡◌, ℕ, ◌+◌, Bool, true, false, true≢false, not, cond, if◌then◌else◌, nat_eq, Option, Some, None, is_some, List, [], ◌∷◌, ◌++◌, map, get_or, slice_get, refl, sym, ap, ◌∙◌}
use Rattle.std.proofs.lemmas.Cmp.{nat_eq_equiv, nat_list_eq_equiv}
use Rattle.std.proofs.lemmas.Bool.{eqb-true}
use Rattle.std.proofs.lemmas.List.{map-append}
use Rattle.std.proofs.lemmas.Option.{none-some, same_Some, slice_get-get_or, slice_get-map}
use Rattle.std.proofs.lemmas.Slice.Eq.{bytes_eq-Decides}
use Rattle.rl_base.proofs.NameTables.{found-within, item-found}
use Rattle.std.specs.List.{AllZip}
use Rattle.std.specs.Map.{lookup}
use Rattle.std.specs.Option.{option_map, option_map_or}
use Rattle.std.specs.Str.{bytes_eq}
use Rattle.rl_base.specs.NameTables.{index_from, index_named, item_named}
use Rattle.rl_base.specs.declared.ids.IdentifierId.{IdentifierId}
use Rattle.rl_base.specs.declared.ids.SymbolId.{SymbolId}
use Rattle.rl_hir.specs.Pairs.{identifier_of}
use Rattle.rl_used_names.specs.Merged.{with_missing_name}
use Rattle.rl_used_names.specs.NameSearch.{is_used, name_at}
use Rattle.rl_used_names.specs.Choosing.{is_free, with_user}
use Rattle.rl_used_names.specs.UsedName.{user_of, UsedName, pair_of, used_name_of}
use Rattle.rl_used_names.specs.declared.names.NameUser.{NameUser}

option_map-cond : {X Y : Type 0} (f : X → Y) (test : Bool) (x : X) (rest : Option X) (y : Option Y) → option_map f rest ≡ y → option_map f (cond test (Some x) rest) ≡ cond test (Some (f x)) y
option_map-cond f true x rest y same = refl
option_map-cond f false x rest y same = same

-- A name that is absent after a function was absent before it.
pub none-option_map : {X Y : Type 0} (f : X → Y) (o : Option X) → option_map f o ≡ None → o ≡ None
none-option_map f None none = refl
none-option_map f (Some x) none = absurd (none-some (f x) (sym none))

-- A look-up of a symbol in the map is the one among the pairs.
pub identifier_of-entries : (es : List (SymbolId × IdentifierId)) (symbol : SymbolId) → option_map (λ (i : IdentifierId). i.0) (lookup (λ (k : SymbolId). nat_eq symbol.0 k.0) es) ≡ identifier_of (map pair_of es) symbol.0
identifier_of-entries [] symbol = refl
identifier_of-entries (e ∷ es) symbol =
    option_map-cond (λ (i : IdentifierId). i.0) (nat_eq symbol.0 e.0.0) e.1 _ _ (identifier_of-entries es symbol)
    ∙ ap (λ test. cond test (Some e.1.0) (identifier_of (map pair_of es) symbol.0)) (nat_eq_equiv.symm symbol.0 e.0.0)

-- A look-up in the table of names is the one among the used names.
pub user_of-entries : (users : List NameUser) (name : List ℕ) → option_map (λ (u : NameUser). u.symbol.0) (item_named (λ (u : NameUser). u.name) users name) ≡ user_of (map used_name_of users) name
user_of-entries [] name = refl
user_of-entries (u ∷ users) name =
    option_map-cond (λ (v : NameUser). v.symbol.0) (bytes_eq u.name name) u _ _ (user_of-entries users name)
    ∙ ap (λ test. cond test (Some u.symbol.0) (user_of (map used_name_of users) name)) (nat_list_eq_equiv.symm u.name name)

is_some-cond : {X Y : Type 0} (test : Bool) (x : X) (o : Option X) (y : Y) (p : Option Y) → is_some o ≡ is_some p → is_some (cond test (Some x) o) ≡ is_some (cond test (Some y) p)
is_some-cond true x o y p same = refl
is_some-cond false x o y p same = same

-- The table has a name where the name is among the used names.
pub known-from : (first : ℕ) (users : List NameUser) (name : List ℕ) → is_some (index_from (λ (u : NameUser). u.name) first users name) ≡ is_some (user_of (map used_name_of users) name)
known-from first [] name = refl
known-from first (u ∷ users) name =
    is_some-cond (bytes_eq u.name name) first _ u.symbol.0 _ (known-from (first + 1) users name)
    ∙ ap (λ test. is_some (cond test (Some u.symbol.0) (user_of (map used_name_of users) name))) (nat_list_eq_equiv.symm u.name name)

not-not : (one other : Bool) → one ≡ not other → other ≡ not one
not-not one true is = ap not (sym is)
not-not one false is = ap not (sym is)

-- A name is among the used names unless it is new in the table.
pub known-entries : (users : List NameUser) (used : List UsedName) (key name : List ℕ) (is_new : Bool) → map used_name_of users ≡ used → key ≡ name → is_new ≡ not (is_some (index_named (λ (u : NameUser). u.name) users key)) → is_some (user_of used name) ≡ not is_new
known-entries users used key name is_new view same is =
    ap (λ (l : List UsedName). is_some (user_of l name)) (sym view)
    ∙ sym (known-from 0 users name)
    ∙ ap (λ text. is_some (index_named (λ (u : NameUser). u.name) users text)) (sym same)
    ∙ not-not is_new _ is

-- A name that no symbol has is free.
pub is_free-new : (used : List UsedName) (symbol : ℕ) (name : List ℕ) → is_some (user_of used name) ≡ false → is_free used symbol name ≡ true
is_free-new used symbol name new = by (user_of used name) new
  where
    by : (o : Option ℕ) → is_some o ≡ false → option_map_or (λ user. nat_eq user symbol) o true ≡ true
    by None none = refl
    by (Some user) none = absurd (true≢false none)

-- A name that no symbol has is given to a symbol at the end.
pub with_user-new : (used : List UsedName) (name : List ℕ) (symbol : ℕ) → is_some (user_of used name) ≡ false → with_user used name symbol ≡ used ++ record { name = name; symbol = symbol } ∷ []
with_user-new [] name symbol new = refl
with_user-new (u ∷ used) name symbol new = by (bytes_eq name u.name) new (with_user-new used name symbol)
  where
    by : (test : Bool) → is_some (cond test (Some u.symbol) (user_of used name)) ≡ false → (is_some (user_of used name) ≡ false → with_user used name symbol ≡ used ++ record { name = name; symbol = symbol } ∷ [])
        → cond test (record u { symbol = symbol } ∷ used) (u ∷ with_user used name symbol) ≡ (u ∷ used) ++ record { name = name; symbol = symbol } ∷ []
    by true none rest = absurd (true≢false none)
    by false none rest = ap (λ (l : List UsedName). u ∷ l) (rest none)

-- A name that a symbol has stays as it is where it is given to that symbol again.
with_user-same : (used : List UsedName) (name : List ℕ) (symbol : ℕ) → is_some (user_of used name) ≡ true → is_free used symbol name ≡ true → with_user used name symbol ≡ used
with_user-same [] name symbol known free = absurd (true≢false (sym known))
with_user-same (u ∷ used) name symbol known free = by (bytes_eq name u.name) known free (with_user-same used name symbol)
  where
    by : (test : Bool) → is_some (cond test (Some u.symbol) (user_of used name)) ≡ true → option_map_or (λ user. nat_eq user symbol) (cond test (Some u.symbol) (user_of used name)) true ≡ true
        → (is_some (user_of used name) ≡ true → is_free used symbol name ≡ true → with_user used name symbol ≡ used) → cond test (record u { symbol = symbol } ∷ used) (u ∷ with_user used name symbol) ≡ u ∷ used
    by true some own rest = ap (λ (n : ℕ). record u { symbol = n } ∷ used) (sym (eqb-true u.symbol symbol own))
    by false some own rest = ap (λ (l : List UsedName). u ∷ l) (rest some own)

-- A name that a symbol has is given to a symbol only where it is free, and then stays as it is.
pub with_user-known : (used : List UsedName) (name : List ℕ) (symbol : ℕ) (free : Bool) → is_some (user_of used name) ≡ true → free ≡ is_free used symbol name → used ≡ (if free then with_user used name symbol else used)
with_user-known used name symbol true known free = sym (with_user-same used name symbol known (sym free))
with_user-known used name symbol false known free = refl

-- An item that is found by a name has that name.
item_name : (users : List NameUser) (name : List ℕ) (user : NameUser) → item_named (λ (u : NameUser). u.name) users name ≡ Some user → user.name ≡ name
item_name [] name user found = absurd (none-some user found)
item_name (u ∷ users) name user found = by (bytes_eq u.name name) refl found (item_name users name user)
  where
    by : (test : Bool) → bytes_eq u.name name ≡ test → cond test (Some u) (item_named (λ (v : NameUser). v.name) users name) ≡ Some user → (item_named (λ (v : NameUser). v.name) users name ≡ Some user → user.name ≡ name) → user.name ≡ name
    by true same here rest = ap (λ (v : NameUser). v.name) (sym (same_Some u user here)) ∙ (bytes_eq-Decides u.name name).0 same
    by false other there rest = rest there

-- The user at the index of a name.
user_at : (users : List NameUser) (entry : ℕ) (name : List ℕ) (other : NameUser) → index_named (λ (u : NameUser). u.name) users name ≡ Some entry → slice_get users entry ≡ Some (get_or users entry other)
user_at users entry name other at = slice_get-get_or users entry other (found-within (λ (u : NameUser). u.name) (Some entry) users name (sym at))

-- The entry at the index of a name has that name, and its symbol is the user.
pub found_name : (users : List NameUser) (entry : ℕ) (name : List ℕ) → index_named (λ (u : NameUser). u.name) users name ≡ Some entry → name_at (map used_name_of users) entry ≡ Some name
found_name users entry name at =
    let none : NameUser = record { name = []; symbol = record { 0 = 0 } } in
    let user : NameUser = get_or users entry none in
    let has : slice_get users entry ≡ Some user = user_at users entry name none at in
    ap (option_map (λ (u : UsedName). u.name)) (slice_get-map used_name_of users entry ∙ ap (option_map used_name_of) has)
    ∙ ap (λ n. Some n) (item_name users name user (sym (item-found (λ (u : NameUser). u.name) entry users name (sym at)) ∙ has))

pub found_free : (users : List NameUser) (entry : ℕ) (name : List ℕ) (other : NameUser) (symbol : ℕ) → index_named (λ (u : NameUser). u.name) users name ≡ Some entry
    → nat_eq (get_or users entry other).symbol.0 symbol ≡ is_free (map used_name_of users) symbol name
found_free users entry name other symbol at =
    ap (λ (o : Option ℕ). option_map_or (λ user. nat_eq user symbol) o true)
    (ap (option_map (λ (u : NameUser). u.symbol.0)) (sym (user_at users entry name other at) ∙ item-found (λ (u : NameUser). u.name) entry users name (sym at))
    ∙ user_of-entries users name)

pub found_used : (users : List NameUser) (entry : ℕ) (name : List ℕ) → Some entry ≡ index_named (λ (u : NameUser). u.name) users name → is_used (map used_name_of users) name ≡ true
found_used users entry name at = sym (known-from 0 users name) ∙ ap is_some (sym at)

-- An entry that is not missing is not added.
pub missing-known : (used : List UsedName) (u : UsedName) → is_used used u.name ≡ true → used ≡ with_missing_name used u
missing-known used u is = sym (ap (λ (test : Bool). if test then used else used ++ u ∷ []) is)

pub missing-inserted : (users new : List NameUser) (user : NameUser) (is_new : Bool) → is_new ≡ not (is_some (index_named (λ (u : NameUser). u.name) users user.name)) → new ≡ (if is_new then users ++ user ∷ [] else users)
    → map used_name_of new ≡ with_missing_name (map used_name_of users) (used_name_of user)
missing-inserted users new user is_new is grown = by is_new (known-entries users (map used_name_of users) user.name user.name is_new refl refl is) grown
  where
    by : (test : Bool) → is_some (user_of (map used_name_of users) user.name) ≡ not test → new ≡ (if test then users ++ user ∷ [] else users) → map used_name_of new ≡ with_missing_name (map used_name_of users) (used_name_of user)
    by true missing added =
        ap (map used_name_of) added ∙ map-append used_name_of users (user ∷ [])
        ∙ sym (ap (λ (b : Bool). if b then map used_name_of users else map used_name_of users ++ used_name_of user ∷ []) missing)
    by false known same = ap (map used_name_of) same ∙ missing-known (map used_name_of users) (used_name_of user) known

-- A clone of the map has its pairs.
pub pairs_cloned : (es fs : List (SymbolId × IdentifierId)) → AllZip (λ p q. (q.0 ≡ p.0) × (q.1 ≡ p.1)) es fs → map pair_of fs ≡ map pair_of es
pairs_cloned [] [] zip = refl
pairs_cloned [] (f ∷ fs) zip = absurd zip
pairs_cloned (e ∷ es) [] zip = absurd zip
pairs_cloned (e ∷ es) (f ∷ fs) zip = λ i. pair_of (zip.0.0 i, zip.0.1 i) ∷ pairs_cloned es fs zip.1 i
