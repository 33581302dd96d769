-- Names that are added: the numbers of those that are there stay, and a new one has the last number.
use Rattle.std.proofs.Common.{◌≡◌, ℕ, ◌+◌, Bool, true, false, not, if◌then◌else◌, true≢false, Some, None, is_some, List, [], ◌∷◌, ◌++◌, length, refl, sym, ap, subst, ◌∙◌, arith}
use Rattle.std.proofs.lemmas.Slice.Eq.{bytes_eq-Decides}
use Rattle.std.specs.Option.{unwrap_or}
use Rattle.std.specs.Str.{bytes_eq}
use Rattle.rl_base.specs.NameTables.{index_from}
use Rattle.rl_bindings.specs.Names.{number_of, numbered, add_name, add_names}
use Rattle.rl_bindings.specs.Walks.{KeepsNumbers, IsNumber}
use Rattle.rl_bindings.specs.declared.names.Name.{Name}
use Rattle.rl_bindings.proofs.LookUps.{by_test}
use Rattle.rl_bindings.proofs.NameNumbers.{at_head}

index-kept : (first k : ℕ) (names : List Name) (x : Name) (text : List ℕ) → index_from (λ n. n.text) first names text ≡ Some k → index_from (λ n. n.text) first (names ++ x ∷ []) text ≡ Some k
index-kept first k [] x text found = absurd (cc)
index-kept first k (y ∷ names) x text found = by_test (bytes_eq y.text text)
    (λ here. at_head first y (names ++ x ∷ []) text true here ∙ sym (at_head first y names text true here) ∙ found)
    (λ later. at_head first y (names ++ x ∷ []) text false later ∙ index-kept (first + 1) k names x text (sym (at_head first y names text false later) ∙ found))

index-end : (first last : ℕ) (names : List Name) (x : Name) → first + length names ≡ last → is_some (index_from (λ n. n.text) first names x.text) ≡ false → index_from (λ n. n.text) first (names ++ x ∷ []) x.text ≡ Some last
index-end first last [] x same new = at_head first x [] x.text true ((bytes_eq-Decides x.text x.text).1 refl) ∙ (let e : first ≡ last = omega (arith, same) in ap Some e)
index-end first last (y ∷ names) x same new = by_test (bytes_eq y.text x.text)
    (λ here. absurd (true≢false (sym (ap is_some (at_head first y names x.text true here)) ∙ new)))
    (λ later. at_head first y (names ++ x ∷ []) x.text false later ∙ index-end (first + 1) last names x (omega (arith, same)) (sym (ap is_some (at_head first y names x.text false later)) ∙ new))

added : (names : List Name) (text : List ℕ) (b : Bool) → is_some (number_of names text) ≡ b → add_name names text ≡ (if not b then names ++ record { text = text } ∷ [] else names)
added names text b is = ap (λ (c : Bool). if not c then names ++ record { text = text } ∷ [] else names) is

-- A new name has the last number.
pub number_last : (names : List Name) (text : List ℕ) → None ≡ number_of names text → number_of (add_name names text) text ≡ Some (length names)
number_last names text none =
    let new : is_some (number_of names text) ≡ false = sym (ap is_some none) in
    ap (λ l. number_of l text) (added names text false new) ∙ index-end 0 (length names) names (record { text = text }) (omega arith) new

pub keeps_self : (names : List Name) → KeepsNumbers names names
keeps_self names = record { at = λ text k found. found }

pub keeps_further : (a b c : List Name) → KeepsNumbers a b → KeepsNumbers b c → KeepsNumbers a c
keeps_further a b c first second = record { at = λ text k found. second.at text k (first.at text k found) }

keeps_one : (names : List Name) (text : List ℕ) → KeepsNumbers names (add_name names text)
keeps_one names text = by_test (is_some (number_of names text))
    (λ known. subst (KeepsNumbers names) (sym (added names text true known)) (keeps_self names))
    (λ new. subst (KeepsNumbers names) (sym (added names text false new)) (record { at = λ other k found. index-kept 0 k names (record { text = text }) other found }))

-- Names that are added leave the numbers of others.
pub keeps_added : (texts : List (List ℕ)) (names : List Name) → KeepsNumbers names (add_names names texts)
keeps_added [] names = keeps_self names
keeps_added (text ∷ texts) names = keeps_further names (add_name names text) (add_names (add_name names text) texts) (keeps_one names text) (keeps_added texts (add_name names text))

pub add_names_append : (names : List Name) (a b : List (List ℕ)) → add_names names (a ++ b) ≡ add_names (add_names names a) b
add_names_append names [] b = refl
add_names_append names (text ∷ a) b = add_names_append (add_name names text) a b

-- A node that says no name has the number 0.
pub none_numbered : (names : List Name) (said : List (List ℕ)) → said ≡ [] → IsNumber names said 0
none_numbered names said none = record { at = λ later keeps. ap (numbered later) (sym none) }

-- A node that says a name has its number.
pub text_numbered : (names : List Name) (said : List (List ℕ)) (text : List ℕ) (k : ℕ) → said ≡ text ∷ [] → number_of names text ≡ Some k → IsNumber names said k
text_numbered names said text k is found = record {
  at = λ later keeps. sym (ap (numbered later) is ∙ ap (λ o. unwrap_or o 0) (keeps.at text k found));
}
