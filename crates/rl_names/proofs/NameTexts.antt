-- The number of a name is that of its text, and each text that a tree says has one.
use Rattle.std.proofs.Common.{◌≡◌, ℕ, ◌+◌, suc, Bool, true, false, not, if◌then◌else◌, true≢false, inl, inr, Option, Some, None, is_some, List, [], ◌∷◌, ◌++◌, refl, sym, ap, subst, ◌∙◌, arith}
use Rattle.std.proofs.lemmas.Slice.Eq.{bytes_eq-Decides}
use Rattle.std.proofs.lemmas.Bool.{not-false}
use Rattle.std.specs.List.{AllByRecursion}
use Rattle.std.specs.Str.{bytes_eq}
use Rattle.rl_ast.proofs.MarkedFunctions.{Inside, InsideOf}
use Rattle.rl_base.specs.NameTables.{index_from}
use Rattle.rl_bindings.specs.Names.{number_of, add_name, add_names, named_by, texts, texts_of, names_in}
use Rattle.rl_bindings.specs.declared.names.Name.{Name}
use Rattle.rl_resolver.specs.Lookups.{name_text}
use Rattle.rl_syntax.specs.Syntax.{Syntax, Node, Listed, Said, Count, Flag, Absent, Pieces, End, Then}
use Rattle.rl_bindings.proofs.LookUps.{by_test}
use Rattle.rl_names.proofs.Items.{each_left, each_right}

abbrev from : (first : ℕ) → List Name → (text : List ℕ) → Option ℕ
from first names text = index_from (λ n. n.text) first names text

-- The place of a text among names.
record IsNamed (text : List ℕ) (first place : ℕ) (names : List Name) : Type 0 where
  index : ℕ
  is : first + index ≡ place
  there : name_text names index ≡ text

named_from : (text : List ℕ) (first place : ℕ) (names : List Name) → from first names text ≡ Some place → IsNamed text first place names
named_from text first place [] found = absurd (cc)
named_from text first place (n ∷ names) found = by_test (bytes_eq n.text text)
    (λ same. record {
      index = 0;
      is = (let e : first ≡ place = (let s : Some first ≡ Some place = sym (ap (λ (b : Bool). if b then Some first else from (first + 1) names text) same) ∙ found in cc) in omega (arith, e));
      there = (bytes_eq-Decides n.text text).0 same;
    })
    (λ other. let more = named_from text (first + 1) place names (sym (ap (λ (b : Bool). if b then Some first else from (first + 1) names text) other) ∙ found) in
    record { index = suc more.index; is = (let e = more.is in omega (arith, e)); there = more.there })

-- The text at the number of a text is that text.
pub numbered_text : (names : List Name) (text : List ℕ) (number : ℕ) → number_of names text ≡ Some number → name_text names number ≡ text
numbered_text names text number is =
    let n = named_from text 0 number names is in
    let at : n.index ≡ number = (let e = n.is in omega (arith, e)) in
    subst (λ k. name_text names k ≡ text) at n.there

-- A text that has a number among names.
abbrev pub IsKnown : List Name → (text : List ℕ) → Type 0
IsKnown names text = is_some (number_of names text) ≡ true

known_if : (b : Bool) (first : ℕ) (o p : Option ℕ) → (is_some o ≡ true → is_some p ≡ true) → is_some (if b then Some first else o) ≡ true → is_some (if b then Some first else p) ≡ true
known_if true first o p more known = refl
known_if false first o p more known = more known

known_longer : (first : ℕ) (names more : List Name) (text : List ℕ) → is_some (from first names text) ≡ true → is_some (from first (names ++ more) text) ≡ true
known_longer first [] more text known = absurd (true≢false (sym known))
known_longer first (n ∷ names) more text known = known_if (bytes_eq n.text text) first (from (first + 1) names text) (from (first + 1) (names ++ more) text) (known_longer (first + 1) names more text) known

some_if : (b : Bool) (first : ℕ) (o : Option ℕ) → is_some o ≡ true → is_some (if b then Some first else o) ≡ true
some_if true first o known = refl
some_if false first o known = known

known_last : (first : ℕ) (names : List Name) (text : List ℕ) → is_some (from first (names ++ record { text = text } ∷ []) text) ≡ true
known_last first [] text = ap (λ (b : Bool). is_some (if b then Some first else None)) ((bytes_eq-Decides text text).1 refl)
known_last first (n ∷ names) text = some_if (bytes_eq n.text text) first (from (first + 1) (names ++ record { text = text } ∷ []) text) (known_last (first + 1) names text)

chosen_names : (P : List Name → Type 0) (b : Bool) (more names : List Name) → P more → (b ≡ false → P names) → P (if b then more else names)
chosen_names P true more names one other = one
chosen_names P false more names one other = other refl

known_still : (names : List Name) (text other : List ℕ) → IsKnown names text → IsKnown (add_name names other) text
known_still names text other known = chosen_names (λ l. IsKnown l text) (not (is_some (number_of names other))) (names ++ record { text = other } ∷ []) names (known_longer 0 names (record { text = other } ∷ []) text known) (λ old. known)

known_now : (names : List Name) (text : List ℕ) → IsKnown (add_name names text) text
known_now names text = chosen_names (λ l. IsKnown l text) (not (is_some (number_of names text))) (names ++ record { text = text } ∷ []) names (known_last 0 names text) (λ old. not-false (is_some (number_of names text)) old)

known_all : (more : List (List ℕ)) (names : List Name) (text : List ℕ) → IsKnown names text → IsKnown (add_names names more) text
known_all [] names text known = known
known_all (other ∷ more) names text known = known_all more (add_name names other) text (known_still names text other known)

known_each : (more : List (List ℕ)) (names : List Name) → AllByRecursion (IsKnown (add_names names more)) more
known_each [] names = tt
known_each (text ∷ more) names = (known_all more (add_name names text) text (known_now names text), known_each more (add_name names text))

-- Each text that a tree says has a number among its names.
pub texts_known : (t : Syntax) → AllByRecursion (IsKnown (names_in t)) (texts t)
texts_known t = known_each (texts t) []

mutual
  -- A property of all texts of a tree is one of the texts of a tree inside it.
  pub texts_inside : (P : List ℕ → Type 0) (t f : Syntax) → Inside f t → AllByRecursion P (texts t) → AllByRecursion P (texts f)
  texts_inside P (Node at w ps) f (inl same) all = subst (λ s. AllByRecursion P (texts s)) (sym same) all
  texts_inside P (Node at w ps) f (inr more) all = texts_inside_of P ps f more (each_right P (named_by w ps) (texts_of ps) all)
  texts_inside P (Listed ps) f more all = texts_inside_of P ps f more all
  texts_inside P (Said text) f more all = absurd more
  texts_inside P (Count number) f more all = absurd more
  texts_inside P (Flag flag) f more all = absurd more
  texts_inside P Absent f more all = absurd more

  texts_inside_of : (P : List ℕ → Type 0) (ps : Pieces) (f : Syntax) → InsideOf f ps → AllByRecursion P (texts_of ps) → AllByRecursion P (texts f)
  texts_inside_of P End f more all = absurd more
  texts_inside_of P (Then p ps) f (inl here) all = texts_inside P p f here (each_left P (texts p) (texts_of ps) all)
  texts_inside_of P (Then p ps) f (inr there) all = texts_inside_of P ps f there (each_right P (texts p) (texts_of ps) all)
