-- Each counted node of a covered function is one node of its tree: no two nodes end at one byte.
use Rattle.std.proofs.Common.{◌≡◌, ◌⊎◌, inl, inr, ℕ, ◌+◌, ◌<◌, ◌≤◌, nat_eq, Bool, true, false, true≢false, ◌&&◌, if◌then◌else◌, Option}
use Rattle.std.proofs.Common.{Some, None, List, [], ◌∷◌, codes, ◌++◌, All, length, length-append, refl, sym, ap, ◌∙◌, subst, arith, eq-eqb}
use Rattle.std.proofs.lemmas.Bool.{and_right}
use Rattle.std.specs.List.{AllByRecursion}
use Rattle.std.specs.Str.{bytes_eq}
use Rattle.std.proofs.lemmas.Bool.Decides.{eqb_tells}
use Rattle.std.proofs.lemmas.List.Elements.{All-from_recursion}
use Rattle.rl_base.specs.declared.span.Span.{Span}
use Rattle.rl_text.specs.Notation.{spelled_on, spelling}
use Rattle.rl_ast.specs.Marked.{first, marked_functions}
use Rattle.rl_ast.specs.Units.{Spells}
use Rattle.rl_ast.proofs.MarkedFunctions.{first_found, inside_placed}
use Rattle.rl_model.specs.Code.{code, code_among, code_of, flat, is_function, is_instantiate, is_no_code, name_code}
use Rattle.rl_model.specs.Counted.{Counted, counted_at, counted_in, method_at}
use Rattle.rl_names.specs.Functions.{body_in, params_in}
use Rattle.rl_names.specs.Names.{Names}
use Rattle.rl_promises.proofs.CountedCode.{IsOwn, by_tests, each_append, each_weaker, flat_append, own_counted}
use Rattle.rl_promises.proofs.CoveredWorlds.{body_covered, params_covered, plain_word}
use Rattle.rl_promises.specs.Covered.{AreCovered, IsCovered, IsCoveredFunction}
use Rattle.rl_promises.specs.Held.{is_span}
use Rattle.rl_promises.specs.Patterns.{is_forced, is_lost_item}
use Rattle.rl_promises.specs.Tallies.{Held, IsHeldKind, held_span, held_word, is_among, stored_among, stored_by, stored_in, stores_at, stores_of}
use Rattle.rl_promises.specs.Tallies.{tallied, tallied_among, tally_at, tally_of}
use Rattle.rl_syntax.specs.Syntax.{Syntax, Node, Listed, Said, Count, Flag, Absent, Pieces, End, Then, IsPlaced, ArePlaced, behind, inside}
use Rattle.rl_syntax.specs.Syntax.{next_byte, outset, plain, plain_parts, width}
use Rattle.rl_syntax.specs.Words.{word_text}
use Rattle.rl_syntax.specs.declared.numbered.At.{At}
use Rattle.rl_syntax.specs.declared.numbered.Position.{Position}
use Rattle.rl_syntax.specs.declared.word.Word.{Word}
use Rattle.rl_syntax.specs.declared.word.Word.TheVariants as word

-- The number of bytes of parts, with the bracket behind them.
abbrev long : (close : ℕ) → Pieces → ℕ
long close parts = length (spelled_on close (plain_parts parts))

long_then : (close : ℕ) (piece : Syntax) (pieces : Pieces) → long close (Then piece pieces) ≡ 1 + width piece + long close pieces
long_then close piece pieces =
    let both : length (spelling (plain piece) ++ spelled_on close (plain_parts pieces)) ≡ width piece + long close pieces =
    length-append (spelling (plain piece)) (spelled_on close (plain_parts pieces)) in
    omega (arith, both)

-- The bracket behind the parts is a byte at least.
bracket : (close : ℕ) (parts : Pieces) → 1 ≤ long close parts
bracket close End = omega arith
bracket close (Then piece pieces) = let whole = long_then close piece pieces in omega (arith, whole)

-- A node ends where its parts end.
node_end : (at : At) (w : Word) (parts : Pieces) (from : Position) → IsPlaced from (Node at w parts)
    → at.span.end ≡ from.byte + 1 + length (word_text w) + long 41 parts
node_end at w parts from placed =
    let both : length (word_text w ++ spelled_on 41 (plain_parts parts)) ≡ length (word_text w) + long 41 parts =
    length-append (word_text w) (spelled_on 41 (plain_parts parts)) in
    let end = placed.0.end in
    omega (arith, both, end)

-- The end of the instruction of a node.
abbrev held_end : Word → Pieces → At → ℕ
held_end w parts at = (held_span w parts at.span).end

-- The number of a node's own instructions that are the counted one, by the word and the span that they have.
abbrev tally_by : Counted → Option (List ℕ) → Span → ℕ
tally_by key o span = if is_among key.kinds o && is_span key.span (Some span) then 1 else 0

-- An instruction that ends elsewhere is not the counted one.
tally_none : (key : Counted) (o : Option (List ℕ)) (span : Span) → (span.end ≡ key.span.end → ⊥) → tally_by key o span ≡ 0
tally_none key o span other = elim (eqb_tells span.end key.span.end) [
  | inl same ↦ absurd (other same.1)
  | inr apart ↦
      ap (λ (b : Bool). if is_among key.kinds o && (nat_eq span.start key.span.start && b) then 1 else 0) apart.0
      ∙ ap (λ (b : Bool). if is_among key.kinds o && b then 1 else 0) (and_right (nat_eq span.start key.span.start) false refl)
      ∙ ap (λ (b : Bool). if b then 1 else 0) (and_right (is_among key.kinds o) false refl)
]

-- A node whose instruction is not counted.
tally_unheld : (key : Counted) (w : Word) (parts : Pieces) (at : At) → held_word w parts ≡ None
    → tally_by key (held_word w parts) (held_span w parts at.span) ≡ 0
tally_unheld key w parts at none =
    ap (λ (o : Option (List ℕ)). if is_among key.kinds o && is_span key.span (Some (held_span w parts at.span)) then 1 else 0) none

-- The instruction of a node that opens at `from` ends in the node, where it is counted.
abbrev EndsWithin : (from : Position) → Word → Pieces → At → Type 0
EndsWithin from w parts at =
    (from.byte < held_end w parts at) × (held_end w parts at ≤ from.byte + 1 + length (word_text w) + long 41 parts)

by_itself : (at : At) (w : Word) (parts : Pieces) (from : Position) → IsPlaced from (Node at w parts)
    → (from.byte < at.span.end) × (at.span.end ≤ from.byte + 1 + length (word_text w) + long 41 parts)
by_itself at w parts from placed = let end = node_end at w parts from placed in (omega (arith, end), omega (arith, end))

-- A target in front of other parts, which stand from `inner` on.
by_target : (there : At) (ps rest : Pieces) (inner : Position) → ArePlaced inner (Then (Node there word.Id ps) rest)
    → (inner.byte < there.span.end) × (there.span.end ≤ inner.byte + long 41 (Then (Node there word.Id ps) rest))
by_target there ps rest inner placed =
    let end = node_end there word.Id ps (next_byte inner) placed.0 in
    let stands = placed.0.0.end in
    let whole = long_then 41 (Node there word.Id ps) rest in
    (omega (arith, end), omega (arith, stands, whole))

within : (at : At) (w : Word) (parts : Pieces) (from : Position) → IsPlaced from (Node at w parts)
    → (held_word w parts ≡ None) ⊎ EndsWithin from w parts at
within at word.Call parts from placed = inr (by_itself at word.Call parts from placed)
within at word.New parts from placed = inr (by_itself at word.New parts from placed)
within at word.Await parts from placed = inr (by_itself at word.Await parts from placed)
within at word.Assign (Then (Said operator) (Then (Node there word.Id ps) rest)) from placed =
    inr (by_operator (bytes_eq operator (codes "=")))
  where
    by_operator : (plain : Bool)
        → (from.byte < (if plain then there.span else at.span).end)
        × ((if plain then there.span else at.span).end
        ≤ from.byte + 1 + length (word_text word.Assign) + long 41 (Then (Said operator) (Then (Node there word.Id ps) rest)))
    by_operator true =
        let both = by_target there ps rest (behind (next_byte (inside from word.Assign)) (Said operator)) placed.1.1 in
        let first = both.0 in
        let second = both.1 in
        let whole = long_then 41 (Said operator) (Then (Node there word.Id ps) rest) in
        (omega (arith, first), omega (arith, second, whole))
    by_operator false = by_itself at word.Assign (Then (Said operator) (Then (Node there word.Id ps) rest)) from placed
within at word.Forin (Then (Node there word.Id ps) rest) from placed =
    let both = by_target there ps rest (inside from word.Forin) placed.1 in
    let first = both.0 in
    let second = both.1 in
    inr (omega (arith, first), omega (arith, second))
within at word.Forof (Then is_await (Then (Node there word.Id ps) rest)) from placed =
    let both = by_target there ps rest (behind (next_byte (inside from word.Forof)) is_await) placed.1.1 in
    let first = both.0 in
    let second = both.1 in
    let whole = long_then 41 is_await (Then (Node there word.Id ps) rest) in
    inr (omega (arith, first), omega (arith, second, whole))
within at _ parts from placed = inl refl

span_itself : (span : Span) → is_span span (Some span) ≡ true
span_itself span =
    ap (λ (b : Bool). b && nat_eq span.end span.end) (eq-eqb span.start span.start refl) ∙ eq-eqb span.end span.end refl

tally_own : (key : Counted) (w : Word) (parts : Pieces) (at : At) → IsOwn at w parts key
    → tally_by key (held_word w parts) (held_span w parts at.span) ≡ 1
tally_own key w parts at own =
    ap (λ (b : Bool). if b && is_span key.span (Some (held_span w parts at.span)) then 1 else 0) own.word
    ∙ ap (λ (s : Span). if is_span key.span (Some s) then 1 else 0) own.place
    ∙ ap (λ (b : Bool). if b then 1 else 0) (span_itself key.span)

-- The instruction of the counted node ends in a tree that begins at `from`.
record EndsIn (s : Syntax) (from : Position) (key : Counted) : Type 0 where
  after : from.byte < key.span.end
  before : key.span.end ≤ from.byte + width s

-- As `EndsIn`, for parts and the bracket behind them.
record EndsAmong (close : ℕ) (parts : Pieces) (from : Position) (key : Counted) : Type 0 where
  after : from.byte < key.span.end
  before : key.span.end < from.byte + long close parts

ends_itself : (at : At) (w : Word) (parts : Pieces) (from : Position) → IsPlaced from (Node at w parts) → (key : Counted)
    → at.span.end ≡ key.span.end → EndsIn (Node at w parts) from key
ends_itself at w parts from placed key same =
    let end = node_end at w parts from placed in
    let stands = placed.0.end in
    record { after = omega (arith, end, same); before = omega (arith, stands, same) }

ends_inside : (at : At) (w : Word) (parts : Pieces) (from : Position) → IsPlaced from (Node at w parts) → (key : Counted)
    → EndsAmong 41 parts (inside from w) key → EndsIn (Node at w parts) from key
ends_inside at w parts from placed key inner =
    let end = node_end at w parts from placed in
    let stands = placed.0.end in
    let after = inner.after in
    let before = inner.before in
    record { after = omega (arith, after); before = omega (arith, stands, end, before) }

ends_listed : (parts : Pieces) (from : Position) (key : Counted) → EndsAmong 93 parts from key → EndsIn (Listed parts) from key
ends_listed End from key inner =
    let after = inner.after in
    let before = inner.before in
    record { after = after; before = omega (arith, before) }
ends_listed (Then piece pieces) from key inner =
    let whole = long_then 93 piece pieces in
    let both : length (spelling (plain piece) ++ spelled_on 93 (plain_parts pieces)) ≡ width piece + long 93 pieces =
    length-append (spelling (plain piece)) (spelled_on 93 (plain_parts pieces)) in
    let before = inner.before in
    record { after = inner.after; before = omega (arith, whole, both, before) }

ends_first : (close : ℕ) (piece : Syntax) (pieces : Pieces) (from : Position) (key : Counted) → EndsIn piece (next_byte from) key
    → EndsAmong close (Then piece pieces) from key
ends_first close piece pieces from key inner =
    let whole = long_then close piece pieces in
    let one = bracket close pieces in
    let after = inner.after in
    let before = inner.before in
    record { after = omega (arith, after); before = omega (arith, whole, one, before) }

ends_later : (close : ℕ) (piece : Syntax) (pieces : Pieces) (from : Position) (key : Counted)
    → EndsAmong close pieces (behind (next_byte from) piece) key → EndsAmong close (Then piece pieces) from key
ends_later close piece pieces from key inner =
    let whole = long_then close piece pieces in
    let after = inner.after in
    let before = inner.before in
    record { after = omega (arith, after); before = omega (arith, whole, before) }

-- Stores of items of a target: none of them is the counted one, or the counted one ends in the item, of which more is known then.
module _ (names : Names) (key : Counted) where
  -- Facts on trees, and on parts in a row, that follow where the counted instruction ends in them.
  record Endings (P : Syntax → Position → Type 0) (Q : ℕ → Pieces → Position → Type 0) : Type 1 where
    itself : (at : At) (w : Word) (parts : Pieces) (from : Position) → IsPlaced from (Node at w parts) → held_word w parts ≡ None
        → stores_at names w parts ≡ [] → at.span.end ≡ key.span.end → P (Node at w parts) from
    around : (at : At) (w : Word) (parts : Pieces) (from : Position) → IsPlaced from (Node at w parts) → held_word w parts ≡ None
        → stores_at names w parts ≡ [] → Q 41 parts (inside from w) → P (Node at w parts) from
    listed : (parts : Pieces) (from : Position) → Q 93 parts from → P (Listed parts) from
    first_of : (close : ℕ) (piece : Syntax) (pieces : Pieces) (from : Position) → ArePlaced from (Then piece pieces)
        → P piece (next_byte from) → Q close (Then piece pieces) from
    later_of : (close : ℕ) (piece : Syntax) (pieces : Pieces) (from : Position) → ArePlaced from (Then piece pieces)
        → Q close pieces (behind (next_byte from) piece) → Q close (Then piece pieces) from

  abbrev IsApart : List Held → Type 0 → Type 0
  IsApart stores fact = (tally_of key stores ≡ 0) ⊎ fact

  apart_as : {A B : Type 0} (stores : List Held) → (A → B) → IsApart stores A → IsApart stores B
  apart_as stores f (inl none) = inl none
  apart_as stores f (inr fact) = inr (f fact)

  unless_lost : {A : Type 0} (lost : Bool) (stores : List Held) → IsApart stores A → IsApart (if lost then [] else stores) A
  unless_lost true stores either = inl refl
  unless_lost false stores either = either

  where_forced : {A : Type 0} (forced : Bool) (stores : List Held) → IsApart stores A → IsApart (if forced then stores else []) A
  where_forced true stores either = either
  where_forced false stores either = inl refl

  tally_row : (xs ys : List Held) → tally_of key (xs ++ ys) ≡ tally_of key xs + tally_of key ys
  tally_row [] ys = omega arith
  tally_row (x ∷ xs) ys = let rest = tally_row xs ys in omega (arith, rest)

  apart_row : {A : Type 0} (xs ys : List Held) → IsApart xs A → IsApart ys A → IsApart (xs ++ ys) A
  apart_row xs ys (inr fact) later = inr fact
  apart_row xs ys (inl none) (inr fact) = inr fact
  apart_row xs ys (inl none) (inl nothing) = let both = tally_row xs ys in inl (omega (arith, both, none, nothing))

  one_apart : (text : List ℕ) (span : Span) → IsApart (record { word = text; span = span } ∷ []) (span.end ≡ key.span.end)
  one_apart text span = elim (eqb_tells span.end key.span.end) [
    | inl same ↦ inr same.1
    | inr apart ↦ (
        let none = tally_none key (Some text) span (λ same. absurd (true≢false (sym (eq-eqb span.end key.span.end same) ∙ apart.0))) in
        inl (omega (arith, none))
        )
  ]

  name_apart : (target : Syntax) (span : Span) → IsApart (stored_by target span) (span.end ≡ key.span.end)
  name_apart (Node at word.Id parts) span = one_apart (codes "storelocal") span
  name_apart _ span = inl refl

  module _ (P : Syntax → Position → Type 0) (Q : ℕ → Pieces → Position → Type 0) (e : Endings P Q) where
    item_apart : (item : Syntax) (from : Position) → IsPlaced from item → IsApart (stored_in item) (P item from)
    item_apart (Node at word.Id parts) from placed =
        apart_as (stored_by (Node at word.Id parts) at.span) (e.itself at word.Id parts from placed refl refl)
        (one_apart (codes "storelocal") at.span)
    item_apart (Node at word.Default (Then target default)) from placed =
        apart_as (stored_by target at.span) (e.itself at word.Default (Then target default) from placed refl refl)
        (name_apart target at.span)
    item_apart (Node at word.Short (Then (Node there word.Id ps) (Then Absent End))) from placed =
        apart_as (stored_by (Node there word.Id ps) there.span)
        (λ same. e.around at word.Short (Then (Node there word.Id ps) (Then Absent End)) from placed refl refl
        (e.first_of 41 (Node there word.Id ps) (Then Absent End) (inside from word.Short) placed.1
        (e.itself there word.Id ps (next_byte (inside from word.Short)) placed.1.0 refl refl same)))
        (one_apart (codes "storelocal") there.span)
    item_apart (Node at word.Short (Then _ (Then Absent End))) from placed = inl refl
    item_apart (Node at word.Short (Then name default)) from placed =
        apart_as (stored_by name at.span) (e.itself at word.Short (Then name default) from placed refl refl) (name_apart name at.span)
    item_apart (Node at word.Keyed (Then computed (Then name (Then target End)))) from placed =
        unless_lost (is_lost_item (Node at word.Keyed (Then computed (Then name (Then target End))))) (stored_in target)
        (apart_as (stored_in target)
        (λ inner. e.around at word.Keyed (Then computed (Then name (Then target End))) from placed refl refl
        (e.later_of 41 computed (Then name (Then target End)) (inside from word.Keyed) placed.1
        (e.later_of 41 name (Then target End) (behind (next_byte (inside from word.Keyed)) computed) placed.1.1
        (e.first_of 41 target End (behind (next_byte (behind (next_byte (inside from word.Keyed)) computed)) name) placed.1.1.1 inner))))
        (item_apart target (next_byte (behind (next_byte (behind (next_byte (inside from word.Keyed)) computed)) name)) placed.1.1.1.0))
    item_apart (Node at word.Rest (Then target End)) from placed =
        apart_as (stored_in target)
        (λ inner. e.around at word.Rest (Then target End) from placed refl refl
        (e.first_of 41 target End (inside from word.Rest) placed.1 inner))
        (item_apart target (next_byte (inside from word.Rest)) placed.1.0)
    item_apart _ from placed = inl refl

    items_apart : (items : Pieces) (from : Position) → ArePlaced from items → IsApart (stored_among items) (Q 93 items from)
    items_apart End from placed = inl refl
    items_apart (Then item items) from placed =
        apart_row (stored_in item) (stored_among items)
        (apart_as (stored_in item) (e.first_of 93 item items from placed) (item_apart item (next_byte from) placed.0))
        (apart_as (stored_among items) (e.later_of 93 item items from placed)
        (items_apart items (behind (next_byte from) item) placed.1))

    target_apart : (items : Pieces) (rest : Syntax) (from : Position) → ArePlaced from (Then (Listed items) (Then rest End))
        → IsApart (stores_of names items rest) (Q 41 (Then (Listed items) (Then rest End)) from)
    target_apart items rest from placed =
        where_forced (is_forced names items rest) (stored_among items ++ stored_in rest)
        (apart_row (stored_among items) (stored_in rest)
        (apart_as (stored_among items)
        (λ inner. e.first_of 41 (Listed items) (Then rest End) from placed (e.listed items (next_byte from) inner))
        (items_apart items (next_byte from) placed.0))
        (apart_as (stored_in rest)
        (λ inner. e.later_of 41 (Listed items) (Then rest End) from placed
        (e.first_of 41 rest End (behind (next_byte from) (Listed items)) placed.1 inner))
        (item_apart rest (next_byte (behind (next_byte from) (Listed items))) placed.1.0)))

    stores_apart : (w : Word) (parts : Pieces) (from : Position) → ArePlaced from parts
        → IsApart (stores_at names w parts) (Q 41 parts from)
    stores_apart word.Arraytarget (Then (Listed items) (Then rest End)) from placed = target_apart items rest from placed
    stores_apart word.Objecttarget (Then (Listed items) (Then rest End)) from placed = target_apart items rest from placed
    stores_apart _ parts from placed = inl refl

  stores_end : Endings (λ s from. EndsIn s from key) (λ close parts from. EndsAmong close parts from key)
  stores_end = record {
    itself = λ at w parts from placed unheld none same. ends_itself at w parts from placed key same;
    around = λ at w parts from placed unheld none inner. ends_inside at w parts from placed key inner;
    listed = λ parts from inner. ends_listed parts from key inner;
    first_of = λ close piece pieces from placed inner. ends_first close piece pieces from key inner;
    later_of = λ close piece pieces from placed inner. ends_later close piece pieces from key inner;
  }

  mutual
    -- A counted node that ends before a tree or behind it is none of its nodes.
    none_in : (s : Syntax) (from : Position) → IsPlaced from s
        → (key.span.end ≤ from.byte) ⊎ (from.byte + width s < key.span.end) → tallied names key s ≡ 0
    none_in (Node at w parts) from placed out =
        let end = node_end at w parts from placed in
        let stands = placed.0.end in
        let itself : tally_by key (held_word w parts) (held_span w parts at.span) ≡ 0 = elim (within at w parts from placed) [
          | inl none ↦ tally_unheld key w parts at none
          | inr ends ↦ (
              let first = ends.0 in
              let second = ends.1 in
              tally_none key (held_word w parts) (held_span w parts at.span) (λ same. elim out [
                | inl before ↦ omega (arith, first, same, before)
                | inr after ↦ omega (arith, second, end, stands, same, after)
              ])
              )
        ] in
        let stores : tally_of key (stores_at names w parts) ≡ 0 = elim (stores_apart _ _ stores_end w parts (inside from w) placed.1) [
          | inl none ↦ none
          | inr ends ↦ (
              let first = ends.after in
              let second = ends.before in
              elim out [
                | inl before ↦ absurd (omega (arith, first, before))
                | inr after ↦ absurd (omega (arith, second, end, stands, after))
              ]
              )
        ] in
        let rest : tallied_among names key parts ≡ 0 = none_among 41 parts (inside from w) placed.1 (elim out [
          | inl before ↦ inl (omega (arith, before))
          | inr after ↦ inr (omega (arith, end, stands, after))
        ]) in
        omega (arith, itself, stores, rest)
    none_in (Listed End) from placed out = refl
    none_in (Listed (Then piece pieces)) from placed out =
        let whole = long_then 93 piece pieces in
        let both : length (spelling (plain piece) ++ spelled_on 93 (plain_parts pieces)) ≡ width piece + long 93 pieces =
        length-append (spelling (plain piece)) (spelled_on 93 (plain_parts pieces)) in
        none_among 93 (Then piece pieces) from placed (elim out [
          | inl before ↦ inl before
          | inr after ↦ inr (omega (arith, whole, both, after))
        ])
    none_in (Said text) from placed out = refl
    none_in (Count number) from placed out = refl
    none_in (Flag flag) from placed out = refl
    none_in Absent from placed out = refl

    none_among : (close : ℕ) (parts : Pieces) (from : Position) → ArePlaced from parts
        → (key.span.end ≤ from.byte) ⊎ (from.byte + long close parts ≤ key.span.end) → tallied_among names key parts ≡ 0
    none_among close End from placed out = refl
    none_among close (Then piece pieces) from placed out =
        let whole = long_then close piece pieces in
        let here : tallied names key piece ≡ 0 = none_in piece (next_byte from) placed.0 (elim out [
          | inl before ↦ inl (omega (arith, before))
          | inr after ↦ (let one = bracket close pieces in inr (omega (arith, whole, after, one)))
        ]) in
        let rest : tallied_among names key pieces ≡ 0 = none_among close pieces (behind (next_byte from) piece) placed.1 (elim out [
          | inl before ↦ inl (omega (arith, before))
          | inr after ↦ inr (omega (arith, whole, after))
        ]) in
        omega (arith, here, rest)

  -- The parts of a node whose instruction ends where that of the counted node does.
  behind_none : (at : At) (w : Word) (parts : Pieces) (from : Position) → IsPlaced from (Node at w parts) → at.span.end ≡ key.span.end
      → tallied_among names key parts ≡ 0
  behind_none at w parts from placed same =
      let end = node_end at w parts from placed in
      none_among 41 parts (inside from w) placed.1 (inr (omega (arith, end, same)))

  target_none : (there : At) (ps rest : Pieces) (inner : Position) → ArePlaced inner (Then (Node there word.Id ps) rest)
      → there.span.end ≡ key.span.end → tallied_among names key (Then (Node there word.Id ps) rest) ≡ 0
  target_none there ps rest inner placed same =
      let stands = placed.0.0.end in
      let inside_none : tallied_among names key ps ≡ 0 = behind_none there word.Id ps (next_byte inner) placed.0 same in
      let rest_none : tallied_among names key rest ≡ 0 =
      none_among 41 rest (behind (next_byte inner) (Node there word.Id ps)) placed.1 (inl (omega (arith, stands, same))) in
      omega (arith, inside_none, rest_none)

  parts_none : (at : At) (w : Word) (parts : Pieces) (from : Position) → IsPlaced from (Node at w parts)
      → held_end w parts at ≡ key.span.end → (held_word w parts ≡ None) ⊎ (tallied_among names key parts ≡ 0)
  parts_none at word.Call parts from placed same = inr (behind_none at word.Call parts from placed same)
  parts_none at word.New parts from placed same = inr (behind_none at word.New parts from placed same)
  parts_none at word.Await parts from placed same = inr (behind_none at word.Await parts from placed same)
  parts_none at word.Assign (Then (Said operator) (Then (Node there word.Id ps) rest)) from placed same =
      inr (by_operator (bytes_eq operator (codes "=")) same)
    where
      by_operator : (plain : Bool) → (if plain then there.span else at.span).end ≡ key.span.end
          → tallied_among names key (Then (Said operator) (Then (Node there word.Id ps) rest)) ≡ 0
      by_operator true same =
          let later : tallied_among names key (Then (Node there word.Id ps) rest) ≡ 0 =
          target_none there ps rest (behind (next_byte (inside from word.Assign)) (Said operator)) placed.1.1 same in
          omega (arith, later)
      by_operator false same = behind_none at word.Assign (Then (Said operator) (Then (Node there word.Id ps) rest)) from placed same
  parts_none at word.Forin (Then (Node there word.Id ps) rest) from placed same =
      inr (target_none there ps rest (inside from word.Forin) placed.1 same)
  parts_none at word.Forof (Then is_await (Then (Node there word.Id ps) rest)) from placed same =
      let later : tallied_among names key (Then (Node there word.Id ps) rest) ≡ 0 =
      target_none there ps rest (behind (next_byte (inside from word.Forof)) is_await) placed.1.1 same in
      let end = node_end there word.Id ps (next_byte (behind (next_byte (inside from word.Forof)) is_await)) placed.1.1.0 in
      let first : tallied names key is_await ≡ 0 =
      none_in is_await (next_byte (inside from word.Forof)) placed.1.0 (inr (omega (arith, end, same))) in
      inr (omega (arith, first, later))
  parts_none at _ parts from placed same = inl refl

  -- `times` nodes of the tree have the counted instruction `key`, which ends in the tree.
  record IsTallied (times : ℕ) (s : Syntax) (from : Position) : Type 0 where
    ends : EndsIn s from key
    count : tallied names key s ≡ times

  -- As `IsTallied`, for parts and the bracket behind them.
  record AreTallied (times close : ℕ) (parts : Pieces) (from : Position) : Type 0 where
    ends : EndsAmong close parts from key
    count : tallied_among names key parts ≡ times

  first_tallied : (times close : ℕ) (piece : Syntax) (pieces : Pieces) (from : Position) → ArePlaced from (Then piece pieces)
      → IsTallied times piece (next_byte from) → AreTallied times close (Then piece pieces) from
  first_tallied times close piece pieces from placed inner =
      let before = inner.ends.before in
      let here = inner.count in
      let rest = none_among close pieces (behind (next_byte from) piece) placed.1 (inl (omega (arith, before))) in
      record { ends = ends_first close piece pieces from key inner.ends; count = omega (arith, here, rest) }

  later_tallied : (times close : ℕ) (piece : Syntax) (pieces : Pieces) (from : Position) → ArePlaced from (Then piece pieces)
      → AreTallied times close pieces (behind (next_byte from) piece) → AreTallied times close (Then piece pieces) from
  later_tallied times close piece pieces from placed inner =
      let after = inner.ends.after in
      let rest = inner.count in
      let here = none_in piece (next_byte from) placed.0 (inr (omega (arith, after))) in
      record { ends = ends_later close piece pieces from key inner.ends; count = omega (arith, here, rest) }

  listed_tallied : (times : ℕ) (parts : Pieces) (from : Position) → AreTallied times 93 parts from → IsTallied times (Listed parts) from
  listed_tallied times parts from inner = record { ends = ends_listed parts from key inner.ends; count = inner.count }

  unheld_none : (at : At) (w : Word) (parts : Pieces) → held_word w parts ≡ None → stores_at names w parts ≡ []
      → tally_at names key w parts at ≡ 0
  unheld_none at w parts unheld none =
      let itself = tally_unheld key w parts at unheld in
      let stores : tally_of key (stores_at names w parts) ≡ 0 = ap (tally_of key) none in
      omega (arith, itself, stores)

  -- An item whose store has the span of the counted instruction holds no node that has it.
  stores_vacant : Endings (IsTallied 0) (AreTallied 0)
  stores_vacant = record {
    itself = λ at w parts from placed unheld none same.
        let itself = unheld_none at w parts unheld none in
        let rest = behind_none at w parts from placed same in
        record { ends = ends_itself at w parts from placed key same; count = omega (arith, itself, rest) };
    around = λ at w parts from placed unheld none inner.
        let itself = unheld_none at w parts unheld none in
        let rest = inner.count in
        record { ends = ends_inside at w parts from placed key inner.ends; count = omega (arith, itself, rest) };
    listed = λ parts from inner. listed_tallied 0 parts from inner;
    first_of = λ close piece pieces from placed inner. first_tallied 0 close piece pieces from placed inner;
    later_of = λ close piece pieces from placed inner. later_tallied 0 close piece pieces from placed inner;
  }

  -- The counted node is one node of the tree.
  abbrev IsOnce : Syntax → Position → Type 0
  IsOnce s from = IsHeldKind key.kinds × IsTallied 1 s from

  abbrev AreOnce : ℕ → Pieces → Position → Type 0
  AreOnce close parts from = IsHeldKind key.kinds × AreTallied 1 close parts from

  -- A node with an instruction of its own has no items.
  storeless : (w : Word) (parts : Pieces) → (held_word w parts ≡ None) ⊎ (stores_at names w parts ≡ [])
  storeless word.Arraytarget parts = inl refl
  storeless word.Objecttarget parts = inl refl
  storeless _ parts = inr refl

  own_once : (at : At) (w : Word) (parts : Pieces) (from : Position) → IsPlaced from (Node at w parts) → IsOwn at w parts key
      → IsOnce (Node at w parts) from
  own_once at w parts from placed own =
      let end = node_end at w parts from placed in
      let stands = placed.0.end in
      let same : held_end w parts at ≡ key.span.end = ap (λ (s : Span). s.end) own.place in
      let itself = tally_own key w parts at own in
      let never : held_word w parts ≡ None → ⊥ = λ none. omega (arith, itself, tally_unheld key w parts at none) in
      let stores : tally_of key (stores_at names w parts) ≡ 0 = elim (storeless w parts) [
        | inl none ↦ absurd (never none)
        | inr none ↦ ap (tally_of key) none
      ] in
      let rest : tallied_among names key parts ≡ 0 = elim (parts_none at w parts from placed same) [
        | inl none ↦ absurd (never none)
        | inr none ↦ none
      ] in elim (within at w parts from placed) [
        | inl none ↦ absurd (never none)
        | inr ends ↦ (
            let first = ends.0 in
            let second = ends.1 in
            let inside_it : EndsIn (Node at w parts) from key =
            record { after = omega (arith, first, same); before = omega (arith, second, end, stands, same) } in
            (own.kind, record { ends = inside_it; count = omega (arith, itself, stores, rest) })
            )
      ]

  inner_once : (at : At) (w : Word) (parts : Pieces) (from : Position) → IsPlaced from (Node at w parts)
      → AreOnce 41 parts (inside from w) → IsOnce (Node at w parts) from
  inner_once at w parts from placed inner =
      let rest = inner.1.count in
      let itself : tally_by key (held_word w parts) (held_span w parts at.span) ≡ 0 = elim (eqb_tells (held_end w parts at) key.span.end) [
        | inl same ↦ elim (parts_none at w parts from placed same.1) [
          | inl none ↦ tally_unheld key w parts at none
          | inr none ↦ (let never : ⊥ = omega (arith, rest, none) in absurd never)
        ]
        | inr apart ↦
            tally_none key (held_word w parts) (held_span w parts at.span)
            (λ same. absurd (true≢false (sym (eq-eqb (held_end w parts at) key.span.end same) ∙ apart.0)))
      ] in
      let stores : tally_of key (stores_at names w parts) ≡ 0 = elim (stores_apart _ _ stores_vacant w parts (inside from w) placed.1) [
        | inl none ↦ none
        | inr vacant ↦ (let none = vacant.count in let never : ⊥ = omega (arith, rest, none) in absurd never)
      ] in
      (inner.0, record { ends = ends_inside at w parts from placed key inner.1.ends; count = omega (arith, itself, stores, rest) })

module _ (names : Names) (methods : List ℕ) where
  abbrev keys_of : List Syntax → List Counted
  keys_of nodes = flat (counted_at methods) nodes

  mutual
    once_in : (s : Syntax) (from : Position) → IsPlaced from s → IsCovered s
        → AllByRecursion (λ key. IsOnce names key s from) (keys_of (code s))
    once_in (Node at w parts) from placed covered =
        by_tests methods (λ key. IsOnce names key (Node at w parts) from) (Node at w parts) (is_no_code w parts) (is_function w)
        (is_instantiate w) (name_code w parts) parts (plain_word w parts covered.0)
        (each_weaker _ _ (λ key own. own_once names key at w parts from placed own) (counted_at methods (Node at w parts))
        (own_counted methods at w parts covered.0))
        (each_weaker _ _ (λ key inner. inner_once names key at w parts from placed inner) (keys_of (code_among parts))
        (once_among 41 parts (inside from w) placed.1 covered.1))
    once_in (Listed parts) from placed covered =
        each_weaker _ _ (λ key inner. (inner.0, listed_tallied names key 1 parts from inner.1)) (keys_of (code_among parts))
        (once_among 93 parts from placed covered)
    once_in (Said text) from placed covered = tt
    once_in (Count number) from placed covered = tt
    once_in (Flag flag) from placed covered = tt
    once_in Absent from placed covered = tt

    once_among : (close : ℕ) (parts : Pieces) (from : Position) → ArePlaced from parts → AreCovered parts
        → AllByRecursion (λ key. AreOnce names key close parts from) (keys_of (code_among parts))
    once_among close End from placed covered = tt
    once_among close (Then piece pieces) from placed covered =
        subst (AllByRecursion (λ key. AreOnce names key close (Then piece pieces) from))
        (sym (flat_append (counted_at methods) (code piece) (code_among pieces)))
        (each_append _ (keys_of (code piece)) (keys_of (code_among pieces))
        (each_weaker _ _ (λ key inner. (inner.0, first_tallied names key 1 close piece pieces from placed inner.1)) (keys_of (code piece))
        (once_in piece (next_byte from) placed.0 covered.0))
        (each_weaker _ _ (λ key inner. (inner.0, later_tallied names key 1 close piece pieces from placed inner.1))
        (keys_of (code_among pieces)) (once_among close pieces (behind (next_byte from) piece) placed.1 covered.1)))

-- The parameters and the body of a placed function are placed, the body behind the parameters.
record Stand (params body : Syntax) : Type 0 where
  ahead : Position
  params_placed : IsPlaced ahead params
  from : Position
  body_placed : IsPlaced from body
  apart : ahead.byte + width params ≤ from.byte

none_stand : Position → Stand Absent Absent
none_stand from = record {
  ahead = from;
  params_placed = tt;
  from = behind from Absent;
  body_placed = tt;
  apart = omega arith;
}

parts_stand : (f : Syntax) (from : Position) → IsPlaced from f → IsCoveredFunction f → Stand (params_in f) (body_in f)
parts_stand (Node at word.Arrow (Then marked (Then is_async (Then params (Then body End))))) from placed covered =
    record { ahead = _; params_placed = placed.1.1.1.0; from = _; body_placed = placed.1.1.1.1.0; apart = omega arith }
parts_stand (Node at word.Fundecl (Then marked (Then is_async (Then generator (Then name (Then params (Then body End))))))) from placed
    covered =
    record { ahead = _; params_placed = placed.1.1.1.1.1.0; from = _; body_placed = placed.1.1.1.1.1.1.0; apart = omega arith }
parts_stand (Node at word.Funexpr (Then marked (Then is_async (Then generator (Then name (Then params (Then body End))))))) from placed
    covered =
    record { ahead = _; params_placed = placed.1.1.1.1.1.0; from = _; body_placed = placed.1.1.1.1.1.1.0; apart = omega arith }
parts_stand (Node at word.Arrow _) from placed covered = none_stand from
parts_stand (Node at word.Fundecl _) from placed covered = none_stand from
parts_stand (Node at word.Funexpr _) from placed covered = none_stand from
parts_stand _ from placed covered = absurd covered

-- The counted node of a function is one node of its parameters and its body.
abbrev pub IsOneOf : Names → (function : Syntax) → Counted → Type 0
IsOneOf names function key =
    IsHeldKind key.kinds × (tallied names key (params_in function) + tallied names key (body_in function) ≡ 1)

-- Each counted node of a covered function of a unit is one node of its parameters and its body.
pub counted_once : (names : Names) (f : Syntax) (from : Position) → IsPlaced from f → IsCoveredFunction f
    → All (IsOneOf names f) (counted_in f)
counted_once names f from placed covered =
    All-from_recursion (IsOneOf names f) (counted_in f)
    (subst (AllByRecursion (IsOneOf names f)) (sym (flat_append (counted_at methods) (code (params_in f)) (code (body_in f))))
    (each_append (IsOneOf names f) (flat (counted_at methods) (code (params_in f))) (flat (counted_at methods) (code (body_in f)))
    (each_weaker _ (IsOneOf names f) ahead (flat (counted_at methods) (code (params_in f)))
    (once_in names methods (params_in f) stand.ahead stand.params_placed (params_covered f covered)))
    (each_weaker _ (IsOneOf names f) behind_them (flat (counted_at methods) (code (body_in f)))
    (once_in names methods (body_in f) stand.from stand.body_placed (body_covered f covered)))))
  where
    methods : List ℕ
    methods = flat method_at (code_of f)

    stand : Stand (params_in f) (body_in f)
    stand = parts_stand f from placed covered

    ahead : (key : Counted) → IsOnce names key (params_in f) stand.ahead → IsOneOf names f key
    ahead key one =
        let before = one.1.ends.before in
        let apart = stand.apart in
        let here = one.1.count in
        let none = none_in names key (body_in f) stand.from stand.body_placed (inl (omega (arith, before, apart))) in
        (one.0, omega (arith, here, none))

    behind_them : (key : Counted) → IsOnce names key (body_in f) stand.from → IsOneOf names f key
    behind_them key one =
        let after = one.1.ends.after in
        let apart = stand.apart in
        let here = one.1.count in
        let none = none_in names key (params_in f) stand.ahead stand.params_placed (inr (omega (arith, after, apart))) in
        (one.0, omega (arith, here, none))

-- The marked function of a unit is placed.
pub function_placed : (bytes : List ℕ) (u f : Syntax) → Spells bytes u → first (marked_functions u) ≡ Some f
    → (from : Position) × IsPlaced from f
function_placed bytes u f spells found =
    let stands = inside_placed u f outset spells.numbers (first_found u f found).0 in (stands.from, stands.placed)
