-- Trees whose parts are read one after another.
use Rattle.std.proofs.Common.{◌≡◌, ℕ, ◌+◌, ◌<◌, List, [], ◌∷◌, ◌++◌, length, map, drop, get_or, refl, sym, ap, ◌∙◌, subst, arith}
use Rattle.std.proofs.lemmas.List.{drop_more}
use Rattle.std.proofs.lemmas.List.Elements.{All-head, All-tail}
use Rattle.std.specs.Prelude.{All}
use Rattle.rl_text.specs.Notation.{Tree, Node, Listed, Count, Parts, End, Then}
use Rattle.rl_text.specs.Raw.{tree, parts_of}
use Rattle.rl_text.specs.declared.raw.Raw.{Raw}
use Rattle.rl_trace_text.specs.Reading.{IsShown, NoneIsShown, AreShown, NoneAreShown, Always, IsNarrow}

-- The contents of a tree.

word_of : Tree → List ℕ
word_of (Node word parts) = word
word_of _ = []

parts_in : Tree → Parts
parts_in (Node word parts) = parts
parts_in (Listed parts) = parts
parts_in _ = End

first_of : Tree → Parts → Tree
first_of other End = other
first_of other (Then first rest) = first

later_of : Parts → Parts
later_of End = End
later_of (Then first rest) = rest

-- A node has one word.
pub node_word : (found word : List ℕ) (held parts : Parts) → (found ≡ word → ⊥) → Node word parts ≡ Node found held → ⊥
unfolding word_of
node_word found word held parts other e = other (sym (ap word_of e))

same_parts : (word : List ℕ) (a b : Parts) → Node word a ≡ Node word b → a ≡ b
unfolding parts_in
same_parts word a b e = ap parts_in e

same_items : (a b : Parts) → Listed a ≡ Listed b → a ≡ b
unfolding parts_in
same_items a b e = ap parts_in e

same_first : (a b : Tree) (p q : Parts) → Then a p ≡ Then b q → a ≡ b
unfolding first_of
same_first a b p q e = ap (first_of a) e

same_rest : (a b : Tree) (p q : Parts) → Then a p ≡ Then b q → p ≡ q
unfolding later_of
same_rest a b p q e = ap later_of e

same_count : (m n : ℕ) → Count m ≡ Count n → m ≡ n
same_count m n e = cc

-- Above the numbers that a field holds there is none.
pub not_narrow : (held : ℕ) (t : Tree) → t ≡ Count held → 4294967295 < held → NoneIsShown Count IsNarrow t
not_narrow held t e above number narrow same = omega (arith, narrow, same_count number held (same ∙ e))

module _ {P : Type 0} (row : P → Parts) (fits : P → Type 0) (word : List ℕ) (parts : Parts) (t : Tree) where
  -- A node is read with its parts.
  pub node_shown : (p : P) → t ≡ Node word parts → AreShown row fits parts p → IsShown (λ p. Node word (row p)) fits t p
  node_shown p e s = record { same = ap (Node word) s.same ∙ sym e; fitting = s.fitting }

  pub node_none : t ≡ Node word parts → NoneAreShown row fits parts → NoneIsShown (λ p. Node word (row p)) fits t
  node_none e none p fit same = none p fit (same_parts word (row p) parts (same ∙ e))

  -- A list is read with its items.
  pub list_shown : (p : P) → t ≡ Listed parts → AreShown row fits parts p → IsShown (λ p. Listed (row p)) fits t p
  list_shown p e s = record { same = ap Listed s.same ∙ sym e; fitting = s.fitting }

  pub list_none : t ≡ Listed parts → NoneAreShown row fits parts → NoneIsShown (λ p. Listed (row p)) fits t
  list_none e none p fit same = none p fit (same_items (row p) parts (same ∙ e))

module _ {A P : Type 0} (shown : A → Tree) (fits : A → Type 0) (row : P → Parts) (fitting : P → Type 0) (t : Tree) (parts : Parts) where
  -- The first part and the others.
  pub row_shown : (a : A) (p : P) → IsShown shown fits t a → AreShown row fitting parts p
      → AreShown {X = A × P} (λ p. Then (shown p.0) (row p.1)) (λ p. fits p.0 × fitting p.1) (Then t parts) (a, p)
  row_shown a p first rest = record { same = λ i. Then (first.same i) (rest.same i); fitting = (first.fitting, rest.fitting) }

  pub row_first : NoneIsShown shown fits t → NoneAreShown {X = A × P} (λ p. Then (shown p.0) (row p.1)) (λ p. fits p.0 × fitting p.1) (Then t parts)
  row_first none p fit same = none p.0 fit.0 (same_first (shown p.0) t (row p.1) parts same)

  pub row_rest : NoneAreShown row fitting parts → NoneAreShown {X = A × P} (λ p. Then (shown p.0) (row p.1)) (λ p. fits p.0 × fitting p.1) (Then t parts)
  row_rest none p fit same = none p.1 fit.1 (same_rest (shown p.0) t (row p.1) parts same)

-- The row of nothing.
pub nothing_shown : (parts : List Raw) → length parts ≡ 0 → AreShown {X = Unit {0}} (λ p. End) Always (parts_of (map tree parts)) tt
nothing_shown [] e = record { same = refl; fitting = tt }
nothing_shown (part ∷ parts) e = absurd (omega (arith, e))

pub nothing_none : (parts : List Raw) → 0 < length parts → NoneAreShown {X = Unit {0}} (λ p. End) Always (parts_of (map tree parts))
nothing_none [] below p fit same = absurd (omega (arith, below))
nothing_none (part ∷ parts) below p fit same = cc

pub row_empty : {A P : Type 0} (shown : A → Tree) (fits : A → Type 0) (row : P → Parts) (fitting : P → Type 0) (parts : List Raw) → length parts ≡ 0
    → NoneAreShown {X = A × P} (λ p. Then (shown p.0) (row p.1)) (λ p. fits p.0 × fitting p.1) (parts_of (map tree parts))
row_empty shown fits row fitting [] e p fit same = cc
row_empty shown fits row fitting (part ∷ parts) e p fit same = absurd (omega (arith, e))

-- The items from an index on begin with the one at it.
items_at : (items : List Raw) (index : ℕ) (item : Raw) → index < length items → item ≡ get_or items index item → drop index items ≡ item ∷ drop (index + 1) items
items_at items index item below is = drop_more items index item below ∙ ap (λ (x : Raw). x ∷ drop (index + 1) items) (sym is)

module _ {A : Type 0} (shown : A → Tree) (fits : A → Type 0) where
  abbrev row : List A → Parts
  row items = parts_of (map shown items)

  -- No items are read where the first is not, or the others are not.
  pub items_first : (t : Tree) (parts : Parts) → NoneIsShown shown fits t → NoneAreShown row (All fits) (Then t parts)
  items_first t parts none [] fit same = cc
  items_first t parts none (item ∷ items) fit same = none item (All-head fits item items fit) (same_first (shown item) t (row items) parts same)

  pub items_rest : (t : Tree) (parts : Parts) → NoneAreShown row (All fits) parts → NoneAreShown row (All fits) (Then t parts)
  items_rest t parts none [] fit same = cc
  items_rest t parts none (item ∷ items) fit same = none items (All-tail fits item items fit) (same_rest (shown item) t (row items) parts same)

  module _ (items : List Raw) (index : ℕ) (item : Raw) (below : index < length items) (is : item ≡ get_or items index item) where
    from_index : NoneAreShown row (All fits) (Then (tree item) (parts_of (map tree (drop (index + 1) items)))) → NoneAreShown row (All fits) (parts_of (map tree (drop index items)))
    from_index none = subst (λ l. NoneAreShown row (All fits) (parts_of (map tree l))) (sym (items_at items index item below is)) none

    -- No items are read from an index on where the one at it is not, or those behind it are not.
    pub none_at : NoneIsShown shown fits (tree item) → NoneAreShown row (All fits) (parts_of (map tree (drop index items)))
    none_at none = from_index (items_first (tree item) _ none)

    pub none_behind : NoneAreShown row (All fits) (parts_of (map tree (drop (index + 1) items))) → NoneAreShown row (All fits) (parts_of (map tree (drop index items)))
    none_behind none = from_index (items_rest (tree item) _ none)

    map_onto : (values : List A) (value : A) (rest : List Tree) → map shown (values ++ value ∷ []) ++ rest ≡ map shown values ++ shown value ∷ rest
    map_onto [] value rest = refl
    map_onto (first ∷ values) value rest = ap (λ l. shown first ∷ l) (map_onto values value rest)

    -- Another item was read.
    pub item_read : (values new : List A) (value : A) → new ≡ values ++ value ∷ [] → shown value ≡ tree item
        → map shown new ++ map tree (drop (index + 1) items) ≡ map shown values ++ map tree (drop index items)
    item_read values new value e same =
        ap (λ l. map shown l ++ map tree (drop (index + 1) items)) e
        ∙ map_onto values value (map tree (drop (index + 1) items))
        ∙ ap (λ t. map shown values ++ t ∷ map tree (drop (index + 1) items)) same
        ∙ ap (λ l. map shown values ++ map tree l) (sym (items_at items index item below is))

pub ruleset row_forms = (row_shown, row_first, row_rest, row_empty)

pub ruleset node_forms = (node_shown, node_none)

pub ruleset list_forms = (list_shown, list_none)
