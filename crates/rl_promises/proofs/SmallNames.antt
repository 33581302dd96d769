-- The names of a unit of the notation are UTF-8, and the spans of its declarations are small.
use Rattle.std.proofs.Common.{◌≡◌, ℕ, zero, suc, ◌+◌, ◌<◌, ◌^◌, Bool, true, false, not, if◌then◌else◌, Option, Some, None, is_some, List, [], ◌∷◌, ◌++◌, length, length-append, slice_get, refl, arith}
use Rattle.std.specs.List.{AllByRecursion}
use Rattle.std.specs.Str.{IsUtf8}
use Rattle.rl_bindings.specs.Names.{add_name, add_names, named_by, names_in, number_of, said, texts, texts_of}
use Rattle.rl_bindings.specs.Roles.{below, outside, parts_ahead, role_of}
use Rattle.rl_bindings.specs.declared.event.Bound.{Bound}
use Rattle.rl_bindings.specs.declared.names.Name.{Name}
use Rattle.rl_bindings.specs.declared.role.Above.{Above}
use Rattle.rl_bindings.specs.declared.role.Role.{Role}
use Rattle.rl_bindings.specs.declared.role.Role.TheVariants as role
use Rattle.rl_names.proofs.Declarations.{declares, declares_among, own}
use Rattle.rl_names.proofs.Items.{each-append, each_has, has_item}
use Rattle.rl_promises.specs.Locals.{IsSmallSpan}
use Rattle.rl_resolver.specs.Lookups.{name_text, symbol_name}
use Rattle.rl_semantic.specs.Items.{of_item}
use Rattle.rl_syntax.specs.Syntax.{Syntax, Node, Listed, Said, Count, Flag, Absent, Pieces, End, Then, IsPlaced, ArePlaced, behind, inside, next_byte, plain, plain_parts, width}
use Rattle.rl_syntax.specs.Words.{word_text}
use Rattle.rl_syntax.specs.declared.numbered.At.{At}
use Rattle.rl_syntax.specs.declared.numbered.Position.{Position}
use Rattle.rl_syntax.specs.declared.word.Word.{Word}
use Rattle.rl_syntax.specs.declared.word.Word.TheVariants as word
use Rattle.rl_text.specs.Notation.{AreWritable, IsWritable, spelled_on, spelling}

-- The texts of names.

said_utf8 : (ps : Pieces) → AreWritable (plain_parts ps) → AllByRecursion IsUtf8 (said ps)
said_utf8 End w = tt
said_utf8 (Then (Said text) ps) w = (w.0, tt)
said_utf8 (Then _ ps) w = tt

named_utf8 : (w : Word) (ps : Pieces) → AreWritable (plain_parts ps) → AllByRecursion IsUtf8 (named_by w ps)
named_utf8 word.Bind ps writable = said_utf8 ps writable
named_utf8 word.Id ps writable = said_utf8 ps writable
named_utf8 _ ps writable = tt

mutual
  -- The names that a tree of the notation says are UTF-8.
  texts_utf8 : (t : Syntax) → IsWritable (plain t) → AllByRecursion IsUtf8 (texts t)
  texts_utf8 (Node at w ps) writable =
      each-append IsUtf8 (named_by w ps) (texts_of ps) (named_utf8 w ps writable.1) (texts_utf8_of ps writable.1)
  texts_utf8 (Listed ps) writable = texts_utf8_of ps writable
  texts_utf8 (Said text) writable = tt
  texts_utf8 (Count number) writable = tt
  texts_utf8 (Flag flag) writable = tt
  texts_utf8 Absent writable = tt

  texts_utf8_of : (ps : Pieces) → AreWritable (plain_parts ps) → AllByRecursion IsUtf8 (texts_of ps)
  texts_utf8_of End writable = tt
  texts_utf8_of (Then p ps) writable = each-append IsUtf8 (texts p) (texts_of ps) (texts_utf8 p writable.0) (texts_utf8_of ps writable.1)

abbrev HasText : Name → Type 0
HasText name = IsUtf8 name.text

added_utf8 : (names : List Name) (text : List ℕ) → AllByRecursion HasText names → IsUtf8 text → AllByRecursion HasText (add_name names text)
added_utf8 names text all utf8 = chosen (is_some (number_of names text))
  where
    chosen : (b : Bool) → AllByRecursion HasText (if not b then names ++ record { text = text } ∷ [] else names)
    chosen true = all
    chosen false = each-append HasText names (record { text = text } ∷ []) all (utf8, tt)

all_utf8 : (texts : List (List ℕ)) (names : List Name) → AllByRecursion HasText names → AllByRecursion IsUtf8 texts
    → AllByRecursion HasText (add_names names texts)
all_utf8 [] names all utf8 = all
all_utf8 (text ∷ texts) names all utf8 = all_utf8 texts (add_name names text) (added_utf8 names text all utf8.0) utf8.1

empty_utf8 : IsUtf8 []
empty_utf8 = ([], (refl, refl))

text_utf8 : (names : List Name) (number : ℕ) → AllByRecursion HasText names → IsUtf8 (name_text names number)
text_utf8 names number all = by_name (slice_get names number) refl
  where
    by_name : (o : Option Name) → slice_get names number ≡ o → IsUtf8 (of_item [] (λ (n : Name). n.text) o)
    by_name None is = empty_utf8
    by_name (Some n) is = each_has HasText names n all (has_item names number n is)

-- The name of each symbol of a unit is UTF-8.
pub symbol_utf8 : (u : Syntax) → IsWritable (plain u) → (symbols : List Bound) (symbol : ℕ)
    → IsUtf8 (symbol_name (names_in u) symbols symbol)
symbol_utf8 u writable symbols symbol = by_bound (slice_get symbols symbol)
  where
    names_utf8 : AllByRecursion HasText (names_in u)
    names_utf8 = all_utf8 (texts u) [] tt (texts_utf8 u writable)

    by_bound : (o : Option Bound) → IsUtf8 (of_item [] (λ (b : Bound). name_text (names_in u) b.name) o)
    by_bound None = empty_utf8
    by_bound (Some b) = text_utf8 (names_in u) b.name names_utf8

-- The spans of declarations.

abbrev pub HasSmallSpan : Bound → Type 0
HasSmallSpan b = IsSmallSpan b.span

own_small : (names : List Name) (r : Role) (a : Above) (at : At) (ps : Pieces) → IsSmallSpan at.span
    → AllByRecursion HasSmallSpan (own names r a at ps)
own_small names role.Binder a at ps small = (small, tt)
own_small names role.Maker a at ps small = tt
own_small names role.User a at ps small = tt
own_small names role.Plain a at ps small = tt

some_left : (close : ℕ) (parts : Pieces) → 0 < length (spelled_on close (plain_parts parts))
some_left close End = omega arith
some_left close (Then piece pieces) = omega arith

-- The bytes of a part and of those behind it.
record Shares (from : Position) (close : ℕ) (p : Syntax) (ps : Pieces) : Type 0 where
  here : from.byte + 1 + width p < 2 ^ 32
  there : from.byte + 1 + width p + length (spelled_on close (plain_parts ps)) < 2 ^ 32 + 1

shared : (from : Position) (close : ℕ) (p : Syntax) (ps : Pieces)
    → from.byte + length (spelled_on close (plain_parts (Then p ps))) < 2 ^ 32 + 1
    → Shares from close p ps
shared from close p ps short =
    let behind = spelled_on close (plain_parts ps) in
    let both : length (spelling (plain p) ++ behind) ≡ width p + length behind = length-append (spelling (plain p)) behind in
    let last : 0 < length (spelled_on close (plain_parts ps)) = some_left close ps in
    record { here = omega (arith, both, last, short); there = omega (arith, both, short) }

module _ (names : List Name) where
  mutual
    -- The declarations of a placed tree that stands in a short text have small spans.
    pub small_spans : (t : Syntax) (a : Above) (from : Position) → IsPlaced from t → from.byte + width t < 2 ^ 32
        → AllByRecursion HasSmallSpan (declares names a t)
    small_spans (Node at w ps) a from placed short =
        let text = spelled_on 41 (plain_parts ps) in
        let long : length (word_text w ++ text) ≡ length (word_text w) + length text = length-append (word_text w) text in
        each-append HasSmallSpan (own names (role_of w) a at ps) (declares_among names (parts_ahead w) (outside a w) (below a at w ps) ps)
        (own_small names (role_of w) a at ps (omega (arith, placed.0.start, short), omega (arith, placed.0.end, short)))
        (small_spans_among 41 ps (parts_ahead w) (outside a w) (below a at w ps) (inside from w) placed.1 (omega (arith, long, short)))
    small_spans (Listed End) a from placed short = tt
    small_spans (Listed (Then p ps)) a from placed short =
        let text = spelled_on 93 (plain_parts ps) in
        let both : length (spelling (plain p) ++ text) ≡ width p + length text = length-append (spelling (plain p)) text in
        small_spans_among 93 (Then p ps) zero a a from placed (omega (arith, both, short))
    small_spans (Said text) a from placed short = tt
    small_spans (Count number) a from placed short = tt
    small_spans (Flag flag) a from placed short = tt
    small_spans Absent a from placed short = tt

    small_spans_among : (close : ℕ) (ps : Pieces) (n : ℕ) (a b : Above) (from : Position) → ArePlaced from ps
        → from.byte + length (spelled_on close (plain_parts ps)) < 2 ^ 32 + 1 → AllByRecursion HasSmallSpan (declares_among names n a b ps)
    small_spans_among close End n a b from placed short = tt
    small_spans_among close (Then p ps) zero a b from placed short =
        let s = shared from close p ps short in
        each-append HasSmallSpan (declares names b p) (declares_among names zero a b ps)
        (small_spans p b (next_byte from) placed.0 s.here)
        (small_spans_among close ps zero a b (behind (next_byte from) p) placed.1 s.there)
    small_spans_among close (Then p ps) (suc n) a b from placed short =
        let s = shared from close p ps short in
        each-append HasSmallSpan (declares names a p) (declares_among names n a b ps)
        (small_spans p a (next_byte from) placed.0 s.here) (small_spans_among close ps n a b (behind (next_byte from) p) placed.1 s.there)
