-- Names and identifiers after a symbol gets its own.
use Rattle.std.proofs.Common.{◌≡◌, ℕ, zero, suc, ◌<◌, Bool, true, false, cond, nat_eq, Option, Some, None, List, [], ◌∷◌, ◌++◌, length, true≢false, refl, sym, ap, subst, ◌∙◌, arith}
use Rattle.std.proofs.lemmas.Bool.{eqb-true}
use Rattle.std.proofs.lemmas.Cmp.{nat_eq_equiv, nat_list_eq_equiv}
use Rattle.std.proofs.lemmas.Option.{none-some, same_Some, cond_some}
use Rattle.std.proofs.Math.Seq.{set-append_seam}
use Rattle.std.proofs.lemmas.Slice.Eq.{bytes_eq-Decides}
use Rattle.rl_base.proofs.Slotted.{get_push_new}
use Rattle.std.specs.Option.{option_map_or}
use Rattle.std.specs.Str.{bytes_eq}
use Rattle.rl_hir.proofs.Identifiers.{changed_at-set}
use Rattle.rl_hir.specs.Identifiers.{changed_at}
use Rattle.rl_hir.specs.Pairs.{identifier_of}
use Rattle.rl_hir.specs.declared.function.Identifier.{Identifier}
use Rattle.rl_hir.specs.declared.function.IdentifierName.{IdentifierName}
use Rattle.rl_hir.specs.declared.function.IdentifierName.TheVariants as names
use Rattle.rl_hir.specs.declared.function.Pair.{Pair}
use Rattle.rl_used_names.specs.Choosing.{with_user, IsFree}
use Rattle.rl_used_names.specs.IdentifierNames.{name_of, IsNamedFor, AreNamed}
use Rattle.rl_used_names.specs.UsedName.{user_of, UsedName}
use Rattle.rl_hir.specs.Pairs.{pair}

-- Pairs that come later change no identifier.
pub identifier_of-append_some : (pairs more : List Pair) (symbol identifier : ℕ) → identifier_of pairs symbol ≡ Some identifier → identifier_of (pairs ++ more) symbol ≡ Some identifier
identifier_of-append_some [] more symbol identifier some = absurd (none-some identifier some)
identifier_of-append_some (p ∷ pairs) more symbol identifier some = by (nat_eq p.symbol.0 symbol) some (identifier_of-append_some pairs more symbol identifier)
  where
    by : (b : Bool) → cond b (Some p.identifier.0) (identifier_of pairs symbol) ≡ Some identifier → (identifier_of pairs symbol ≡ Some identifier → identifier_of (pairs ++ more) symbol ≡ Some identifier)
        → cond b (Some p.identifier.0) (identifier_of (pairs ++ more) symbol) ≡ Some identifier
    by true here later = here
    by false there later = later there

-- A symbol without a pair has what later pairs give it.
pub identifier_of-append_none : (pairs more : List Pair) (symbol : ℕ) → identifier_of pairs symbol ≡ None → identifier_of (pairs ++ more) symbol ≡ identifier_of more symbol
identifier_of-append_none [] more symbol none = refl
identifier_of-append_none (p ∷ pairs) more symbol none = by (nat_eq p.symbol.0 symbol) none (identifier_of-append_none pairs more symbol)
  where
    by : (b : Bool) → cond b (Some p.identifier.0) (identifier_of pairs symbol) ≡ None → (identifier_of pairs symbol ≡ None → identifier_of (pairs ++ more) symbol ≡ identifier_of more symbol)
        → cond b (Some p.identifier.0) (identifier_of (pairs ++ more) symbol) ≡ identifier_of more symbol
    by true here later = absurd (none-some p.identifier.0 (sym here))
    by false there later = later there

-- A test that both names pass is the first one's.
cond-same : {X : Type 0} (test : Bool) (x : X) (y rest : X) → cond test x rest ≡ cond test x (cond test y rest)
cond-same true x y rest = refl
cond-same false x y rest = refl

cond-swap : {X : Type 0} (one other : Bool) (x y rest : X) → (one ≡ true → other ≡ true → ⊥) → cond other y (cond one x rest) ≡ cond one x (cond other y rest)
cond-swap true true x y rest apart = absurd (apart refl refl)
cond-swap true false x y rest apart = refl
cond-swap false true x y rest apart = refl
cond-swap false false x y rest apart = refl

-- The name is the symbol's, and each other name stays with its own.
pub user_of-with_user : (used : List UsedName) (name : List ℕ) (symbol : ℕ) (q : List ℕ) → user_of (with_user used name symbol) q ≡ cond (bytes_eq q name) (Some symbol) (user_of used q)
user_of-with_user [] name symbol q = refl
user_of-with_user (u ∷ used) name symbol q = by (bytes_eq name u.name) refl (user_of-with_user used name symbol q)
  where
    by : (b : Bool) → bytes_eq name u.name ≡ b → user_of (with_user used name symbol) q ≡ cond (bytes_eq q name) (Some symbol) (user_of used q) → user_of (cond b (record u { symbol = symbol } ∷ used) (u ∷ with_user used name symbol)) q ≡ cond (bytes_eq q name) (Some symbol) (cond (bytes_eq q u.name) (Some u.symbol) (user_of used q))
    by true same rest =
        let alike : bytes_eq q name ≡ bytes_eq q u.name = nat_list_eq_equiv.symm q name ∙ nat_list_eq_equiv.congr name u.name q same ∙ nat_list_eq_equiv.symm u.name q in
        cond-same (bytes_eq q u.name) (Some symbol) (Some u.symbol) (user_of used q)
        ∙ ap (λ test. cond test (Some symbol) (cond (bytes_eq q u.name) (Some u.symbol) (user_of used q))) (sym alike)
    by false other rest =
        ap (λ later. cond (bytes_eq q u.name) (Some u.symbol) later) rest
        ∙ cond-swap (bytes_eq q name) (bytes_eq q u.name) (Some symbol) (Some u.symbol) (user_of used q)
        (λ one two. true≢false (sym two ∙ nat_list_eq_equiv.congr q name u.name one ∙ other))

-- A pair that comes last gives its symbol its identifier.
pub identifier_of-last : (pairs : List Pair) (symbol identifier : ℕ) → identifier_of pairs symbol ≡ None → identifier_of (pairs ++ pair symbol identifier ∷ []) symbol ≡ Some identifier
identifier_of-last pairs symbol identifier none = identifier_of-append_none pairs (pair symbol identifier ∷ []) symbol none ∙ ap (λ test. cond test (Some identifier) None) (nat_eq_equiv.refl symbol)

-- The last entry changes alone.
pub changed_at-last : {X : Type 0} (change : X → X) (xs : List X) (x : X) → changed_at change (length xs) (xs ++ x ∷ []) ≡ xs ++ change x ∷ []
changed_at-last change xs x = changed_at-set change (length xs) (xs ++ x ∷ []) x (get_push_new xs x) ∙ set-append_seam xs x [] (change x)

-- Identifiers that come later rename none.
pub name_of-append : (identifiers more : List Identifier) (i : ℕ) (name : IdentifierName) → name_of identifiers i ≡ Some name → name_of (identifiers ++ more) i ≡ Some name
name_of-append [] more i name some = absurd (none-some name some)
name_of-append (x ∷ xs) more zero name some = some
name_of-append (x ∷ xs) more (suc i) name some = name_of-append xs more i name some

pub name_of-last : (identifiers : List Identifier) (x : Identifier) → name_of (identifiers ++ x ∷ []) (length identifiers) ≡ x.name
name_of-last [] x = refl
name_of-last (y ∷ ys) x = name_of-last ys x

-- An identifier with a name is one of those that were made.
pub name_of-within : (identifiers : List Identifier) (i : ℕ) (name : IdentifierName) → name_of identifiers i ≡ Some name → i < length identifiers
name_of-within [] i name some = absurd (none-some name some)
name_of-within (x ∷ xs) zero name some = omega arith
name_of-within (x ∷ xs) (suc i) name some = omega (arith, name_of-within xs i name some)

-- Identifiers that come later take no name away.
pub AreNamed-append : (bindings : List Pair) (used : List UsedName) (identifiers more : List Identifier) → AreNamed bindings used identifiers → AreNamed bindings used (identifiers ++ more)
AreNamed-append bindings used identifiers more agree = record {
  named = λ symbol identifier some. let old = agree.named symbol identifier some in record { name = old.name; named = name_of-append identifiers more identifier (names.Named old.name) old.named; user = old.user };
}

-- A free name of a fresh identifier goes to its symbol.
pub AreNamed-more : (bindings : List Pair) (used : List UsedName) (identifiers : List Identifier) (symbol : ℕ) (free : List ℕ) (x : Identifier) → IsFree used symbol free → x.name ≡ Some (names.Named free)
    → AreNamed bindings used identifiers → AreNamed (bindings ++ pair symbol (length identifiers) ∷ []) (with_user used free symbol) (identifiers ++ x ∷ [])
AreNamed-more bindings used identifiers symbol free x is_free_name has_name agree = record { named = λ q i some. by q i some (identifier_of bindings q) refl }
  where
    still : (q : ℕ) (name : List ℕ) → user_of used name ≡ Some q → (b : Bool) → bytes_eq name free ≡ b → cond b (Some symbol) (user_of used name) ≡ Some q
    still q name had true same =
        let user : user_of used free ≡ Some q = ap (user_of used) (sym ((bytes_eq-Decides name free).0 same)) ∙ had in
        let test : nat_eq q symbol ≡ true = ap (λ o. option_map_or (λ other. nat_eq other symbol) o true) (sym user) ∙ is_free_name in
        ap (λ n. Some n) (sym (eqb-true q symbol test))
    still q name had false other = had

    kept : (q i old : ℕ) → identifier_of (bindings ++ pair symbol (length identifiers) ∷ []) q ≡ Some i → identifier_of bindings q ≡ Some old → IsNamedFor (with_user used free symbol) (identifiers ++ x ∷ []) q i
    kept q i old some had =
        let was = agree.named q old had in
        let same : old ≡ i = same_Some old i (sym (identifier_of-append_some bindings (pair symbol (length identifiers) ∷ []) q old had) ∙ some) in
        let used_still : user_of (with_user used free symbol) was.name ≡ Some q = user_of-with_user used free symbol was.name ∙ still q was.name was.user (bytes_eq was.name free) refl in
        subst (λ n. IsNamedFor (with_user used free symbol) (identifiers ++ x ∷ []) q n) same
        (record { name = was.name; named = name_of-append identifiers (x ∷ []) old (names.Named was.name) was.named; user = used_still })

    fresh : IsNamedFor (with_user used free symbol) (identifiers ++ x ∷ []) symbol (length identifiers)
    fresh = record {
      name = free;
      named = name_of-last identifiers x ∙ has_name;
      user = user_of-with_user used free symbol free ∙ ap (λ test. cond test (Some symbol) (user_of used free)) (nat_list_eq_equiv.refl free);
    }

    by : (q i : ℕ) → identifier_of (bindings ++ pair symbol (length identifiers) ∷ []) q ≡ Some i → (o : Option ℕ) → identifier_of bindings q ≡ o → IsNamedFor (with_user used free symbol) (identifiers ++ x ∷ []) q i
    by q i some None none =
        let last = cond_some (nat_eq symbol q) (length identifiers) i (sym (identifier_of-append_none bindings (pair symbol (length identifiers) ∷ []) q none) ∙ some) in
        subst (λ n. IsNamedFor (with_user used free symbol) (identifiers ++ x ∷ []) n i) (eqb-true symbol q last.0)
        (subst (λ n. IsNamedFor (with_user used free symbol) (identifiers ++ x ∷ []) symbol n) last.1 fresh)
    by q i some (Some old) had = kept q i old some had

pub NamesAgree-nothing : (used : List UsedName) (identifiers : List Identifier) → AreNamed [] used identifiers
NamesAgree-nothing used identifiers = record { named = λ symbol identifier some. absurd (none-some identifier some) }
