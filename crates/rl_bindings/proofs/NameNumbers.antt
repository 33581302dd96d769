-- Numbers of names: every name of a tree has one, and two names have different ones.
use Rattle.std.proofs.Common.{◌≡◌, ◌≤◌, ℕ, ◌+◌, Bool, true, false, not, ◌||◌, if◌then◌else◌, Option, Some, None, is_some, List, [], ◌∷◌, ◌++◌, All, refl, sym, ap, ◌∙◌, arith}
use Rattle.std.proofs.lemmas.List.Elements.{All-cons}
use Rattle.std.proofs.lemmas.Slice.Eq.{bytes_eq-Decides}
use Rattle.std.specs.Str.{bytes_eq}
use Rattle.rl_base.proofs.Bools.{or_assoc, or_false, or_true}
use Rattle.rl_base.specs.NameTables.{index_from}
use Rattle.rl_bindings.specs.Names.{number_of, add_name, add_names, texts, names_in}
use Rattle.rl_bindings.specs.declared.names.Name.{Name}
use Rattle.rl_bindings.proofs.LookUps.{by_test}
use Rattle.rl_syntax.specs.Syntax.{Syntax}

pub at_head : (first : ℕ) (x : Name) (names : List Name) (text : List ℕ) (b : Bool) → bytes_eq x.text text ≡ b → index_from (λ n. n.text) first (x ∷ names) text ≡ (if b then Some first else index_from (λ n. n.text) (first + 1) names text)
at_head first x names text b is = ap (λ (c : Bool). if c then Some first else index_from (λ n. n.text) (first + 1) names text) is

above : (first : ℕ) (names : List Name) (text : List ℕ) (k : ℕ) → index_from (λ n. n.text) first names text ≡ Some k → first ≤ k
above first [] text k found = absurd (cc)
above first (x ∷ names) text k found = by_test (bytes_eq x.text text)
    (λ is. let e : Some first ≡ Some k = sym (at_head first x names text true is) ∙ found in let same : first ≡ k = cc in omega (arith, same))
    (λ is. let more : first + 1 ≤ k = above (first + 1) names text k (sym (at_head first x names text false is) ∙ found) in omega (arith, more))

one_from : (first : ℕ) (names : List Name) (a b : List ℕ) (k : ℕ) → index_from (λ n. n.text) first names a ≡ Some k → index_from (λ n. n.text) first names b ≡ Some k → a ≡ b
one_from first [] a b k found_a found_b = absurd (cc)
one_from first (x ∷ names) a b k found_a found_b =
    by_test (bytes_eq x.text a)
    (λ is_a. by_test (bytes_eq x.text b)
    (λ is_b. sym ((bytes_eq-Decides x.text a).0 is_a) ∙ (bytes_eq-Decides x.text b).0 is_b)
    (λ no_b. absurd (
    let e : Some first ≡ Some k = sym (at_head first x names a true is_a) ∙ found_a in
    let same : first ≡ k = cc in
    let more = above (first + 1) names b k (sym (at_head first x names b false no_b) ∙ found_b) in
    omega (arith, same, more))))
    (λ no_a. by_test (bytes_eq x.text b)
    (λ is_b. absurd (
    let e : Some first ≡ Some k = sym (at_head first x names b true is_b) ∙ found_b in
    let same : first ≡ k = cc in
    let more = above (first + 1) names a k (sym (at_head first x names a false no_a) ∙ found_a) in
    omega (arith, same, more)))
    (λ no_b. one_from (first + 1) names a b k (sym (at_head first x names a false no_a) ∙ found_a) (sym (at_head first x names b false no_b) ∙ found_b)))

-- Two names of one number are one name.
pub one_name : (names : List Name) (a b : List ℕ) (k : ℕ) → number_of names a ≡ Some k → number_of names b ≡ Some k → a ≡ b
one_name names a b k found_a found_b = one_from 0 names a b k found_a found_b

choice : (b : Bool) (o : Option ℕ) (n : ℕ) → is_some (if b then Some n else o) ≡ (b || is_some o)
choice true o n = refl
choice false o n = refl

known_push : (first : ℕ) (names : List Name) (x : Name) (text : List ℕ) → is_some (index_from (λ n. n.text) first (names ++ x ∷ []) text) ≡ (is_some (index_from (λ n. n.text) first names text) || bytes_eq x.text text)
known_push first [] x text = choice (bytes_eq x.text text) None first ∙ or_false (bytes_eq x.text text)
known_push first (y ∷ names) x text =
    choice (bytes_eq y.text text) (index_from (λ n. n.text) (first + 1) (names ++ x ∷ []) text) first
    ∙ ap (λ k. bytes_eq y.text text || k) (known_push (first + 1) names x text)
    ∙ sym (or_assoc (bytes_eq y.text text) (is_some (index_from (λ n. n.text) (first + 1) names text)) (bytes_eq x.text text))
    ∙ ap (λ k. k || bytes_eq x.text text) (sym (choice (bytes_eq y.text text) (index_from (λ n. n.text) (first + 1) names text) first))

known_still : (names : List Name) (more text : List ℕ) → is_some (number_of names text) ≡ true → is_some (number_of (add_name names more) text) ≡ true
known_still names more text known = by_test (is_some (number_of names more))
    (λ old. ap (λ (k : Bool). is_some (number_of (if not k then names ++ record { text = more } ∷ [] else names) text)) old ∙ known)
    (λ new. ap (λ (k : Bool). is_some (number_of (if not k then names ++ record { text = more } ∷ [] else names) text)) new
    ∙ known_push 0 names (record { text = more }) text
    ∙ ap (λ k. k || bytes_eq more text) known)

known_now : (names : List Name) (text : List ℕ) → is_some (number_of (add_name names text) text) ≡ true
known_now names text = by_test (is_some (number_of names text))
    (λ old. ap (λ (k : Bool). is_some (number_of (if not k then names ++ record { text = text } ∷ [] else names) text)) old ∙ old)
    (λ new. ap (λ (k : Bool). is_some (number_of (if not k then names ++ record { text = text } ∷ [] else names) text)) new
    ∙ known_push 0 names (record { text = text }) text
    ∙ ap (λ k. is_some (number_of names text) || k) ((bytes_eq-Decides text text).1 refl)
    ∙ or_true (is_some (number_of names text)))

known_all : (ts : List (List ℕ)) (names : List Name) (text : List ℕ) → is_some (number_of names text) ≡ true → is_some (number_of (add_names names ts) text) ≡ true
known_all [] names text known = known
known_all (t ∷ ts) names text known = known_all ts (add_name names t) text (known_still names t text known)

each_known : (ts : List (List ℕ)) (names : List Name) → All (λ t. is_some (number_of (add_names names ts) t) ≡ true) ts
each_known [] names = λ k d below. absurd (omega (arith, below))
each_known (t ∷ ts) names =
    All-cons (λ u. is_some (number_of (add_names names (t ∷ ts)) u) ≡ true) t ts (known_all ts (add_name names t) t (known_now names t)) (each_known ts (add_name names t))

-- Each name that a tree says has a number.
pub each_numbered : (tree : Syntax) → All (λ t. is_some (number_of (names_in tree) t) ≡ true) (texts tree)
each_numbered tree = each_known (texts tree) []
