use Rattle.std.proofs.Common.{◌≡◌, ℕ, ◌+◌, ◌-◌, ◌<◌, List, [], ◌∷◌, ◌++◌, length, take, drop, get_or, map, true, false, Option, Some, None, Result, Ok, Err, IfOk, IfNone, ap, sym, ◌∙◌, refl, arith, true≢false}
use Rattle.std.proofs.lemmas.List.{drop_more, drop_all}
use Rattle.rl_text.specs.declared.raw.Raw.{Raw}
use Rattle.rl_text.specs.Raw.{tree}
use Rattle.rl_text.specs.Places.{NoneBegins}
use Rattle.rl_text.proofs.Reading.{parts-none, parts-stopped, has-more, has-closed}
use Rattle.rl_text.proofs.Spellings.{form-other}
use Rattle.rl_text.proofs.Forms.{node-low, node-no_word, node-none, node-found, list-low, list-empty, list-none_first, list-none, list-found, letters-utf8, other-none, nothing-none, flag-found, absent-found}
use Rattle.rl_text.proofs.read.+reading.Goals as goal

pub read_list-returns-then-depth-eq0-clause-none : goal.read_list-returns-then-depth-eq0-clause-none
read_list-returns-then-depth-eq0-clause-none t c = list-low c.args.depth (drop c.args.at c.args.bytes.now) (drop (c.args.at + 1) c.args.bytes.now) c.requires.opened c.if-depth-eq0.true

pub read_list-returns-then-has_byte-clause-found : goal.read_list-returns-then-has_byte-clause-found
read_list-returns-then-has_byte-clause-found t c =
    let there = c.if-has_byte.ensures.yes refl in (
      omega arith,
      omega (arith, there.0),
      list-empty c.args.depth c.args.bytes.now c.args.at c.requires.opened c.new-parts.result (omega (arith, c.if-depth-eq0.false)) c.new-parts.ensures there.1,
    )

pub read_list-returns-in_default-clause-none : goal.read_list-returns-in_default-clause-none
read_list-returns-in_default-clause-none t c =
    list-none_first c.args.depth c.args.bytes.now c.args.at c.requires.opened (λ u e. true≢false (sym (c.if-has_byte.ensures.no u e)))
    (rw c.in_default.is at c.in_ok-first.ensures.none)

pub read_list-returns-in_default-2-clause-none : goal.read_list-returns-in_default-2-clause-none
read_list-returns-in_default-2-clause-none t c =
    let first = rw c.in-Some.is at c.in_ok-first.ensures.found in
    list-none c.args.depth c.args.bytes.now c.args.at c.requires.opened (λ u e. true≢false (sym (c.if-has_byte.ensures.no u e)))
    (tree c.in-Some.first) c.in-Some.after first.2
    (rw c.in_default-2.is at c.in_ok-next.ensures.none)

pub read_list-returns-clause-found : goal.read_list-returns-clause-found
read_list-returns-clause-found t c =
    let first = rw c.in-Some.is at c.in_ok-first.ensures.found in
    let adds = rw c.in-Some-2.is at c.in_ok-next.ensures.found in (
      omega (arith, first.0, adds.forward),
      adds.within,
      list-found c.args.depth c.args.bytes.now c.args.at c.requires.opened c.in-Some.after c.in-Some-2.next c.in-Some.first c.push.new.self c.read_parts.new.parts (omega (arith, c.if-depth-eq0.false)) first.2 (c.in_ok-push.ensures.ok ∙ ap (λ (l : List Raw). l ++ c.in-Some.first ∷ []) c.new-parts.ensures) adds,
    )

pub read_node-returns-then-depth-eq0-clause-none : goal.read_node-returns-then-depth-eq0-clause-none
read_node-returns-then-depth-eq0-clause-none t c = node-low c.args.depth (drop c.args.at c.args.bytes.now) (drop (c.args.at + 1) c.args.bytes.now) c.requires.opened c.if-depth-eq0.true

pub read_node-returns-then-end-start-clause-none : goal.read_node-returns-then-end-start-clause-none
read_node-returns-then-end-start-clause-none t c =
    node-no_word c.args.depth c.args.bytes.now c.args.at c.word_end-end.result c.requires.opened c.word_end-end.ensures c.if-end-start.true

pub read_node-returns-in_default-clause-none : goal.read_node-returns-in_default-clause-none
read_node-returns-in_default-clause-none t c tree rest b =
    let none = rw c.in_default.is at c.in_ok-word.ensures.none in
    none (letters-utf8 (take (c.word_end-end.result - (c.args.at + 1)) (drop (c.args.at + 1) c.args.bytes.now)) c.word_end-end.ensures.passed)

pub read_node-returns-in_default-2-clause-none : goal.read_node-returns-in_default-2-clause-none
read_node-returns-in_default-2-clause-none t c =
    node-none c.args.depth c.args.bytes.now c.args.at c.word_end-end.result c.requires.opened c.word_end-end.ensures
    (rw c.in_default-2.is at c.in_ok-next.ensures.none)

pub read_node-returns-clause-found : goal.read_node-returns-clause-found
read_node-returns-clause-found t c =
    let word = rw c.in-Some.is at c.in_ok-word.ensures.some in
    let adds = rw c.in-Some-2.is at c.in_ok-next.ensures.found in (
      omega (arith, c.word_end-end.ensures.forward, adds.forward),
      adds.within,
      node-found c.args.depth c.args.bytes.now c.args.at c.word_end-end.result c.requires.opened c.word_end-end.ensures c.in-Some-2.next c.in-Some.word c.new-parts.result c.read_parts.new.parts (omega (arith, c.if-depth-eq0.false)) c.if-end-start.false word c.new-parts.ensures adds,
    )

if_ok_none : {A E : Type 0} (P : ℕ → Type 0) (depth : ℕ) (r : Result (Option A) E) → IfOk r (λ o. IfNone o ((d : ℕ) → P d)) → IfOk r (λ o. IfNone o (P depth))
if_ok_none P depth (Ok (Some v)) h = tt
if_ok_none P depth (Ok None) h = h depth
if_ok_none P depth (Err e) h = tt

if_none_at : {A : Type 0} (P : ℕ → Type 0) (depth : ℕ) (o : Option A) → IfNone o ((d : ℕ) → P d) → IfNone o (P depth)
if_none_at P depth (Some v) h = tt
if_none_at P depth None h = h depth

byte_there : (bytes : List ℕ) (at byte : ℕ) → at < length bytes → get_or bytes at 0 ≡ byte → drop at bytes ≡ byte ∷ drop (at + 1) bytes
byte_there bytes at byte lt e = drop_more bytes at 0 lt ∙ ap (λ b. b ∷ drop (at + 1) bytes) e

pub read_part-returns-then-at-bytes-clause-none : goal.read_part-returns-then-at-bytes-clause-none
read_part-returns-then-at-bytes-clause-none t c = nothing-none c.args.depth (drop c.args.at c.args.bytes.now) (drop_all c.args.at c.args.bytes.now c.if-at-bytes.true)

pub read_part-returns-in-34-clause-none : goal.read_part-returns-in-34-clause-none
read_part-returns-in-34-clause-none t c = if_ok_none (λ d. NoneBegins d (drop c.args.at c.args.bytes.now)) c.args.depth c.read_text.result c.read_text.ensures.none

pub read_part-returns-in-121-clause-found : goal.read_part-returns-in-121-clause-found
read_part-returns-in-121-clause-found t c = (
  omega arith,
  omega (arith, c.if-at-bytes.false),
  flag-found c.args.depth (drop c.args.at c.args.bytes.now) (drop (c.args.at + 1) c.args.bytes.now) true (byte_there c.args.bytes.now c.args.at 121 c.if-at-bytes.false c.in-121.is),
)

pub read_part-returns-in-110-clause-found : goal.read_part-returns-in-110-clause-found
read_part-returns-in-110-clause-found t c = (
  omega arith,
  omega (arith, c.if-at-bytes.false),
  flag-found c.args.depth (drop c.args.at c.args.bytes.now) (drop (c.args.at + 1) c.args.bytes.now) false (byte_there c.args.bytes.now c.args.at 110 c.if-at-bytes.false c.in-110.is),
)

pub read_part-returns-in-45-clause-found : goal.read_part-returns-in-45-clause-found
read_part-returns-in-45-clause-found t c = (
  omega arith,
  omega (arith, c.if-at-bytes.false),
  absent-found c.args.depth (drop c.args.at c.args.bytes.now) (drop (c.args.at + 1) c.args.bytes.now) (byte_there c.args.bytes.now c.args.at 45 c.if-at-bytes.false c.in-45.is),
)

pub read_part-returns-then-is_ascii_digit-clause-none : goal.read_part-returns-then-is_ascii_digit-clause-none
read_part-returns-then-is_ascii_digit-clause-none t c = if_none_at (λ d. NoneBegins d (drop c.args.at c.args.bytes.now)) c.args.depth c.read_number.result c.read_number.ensures.none

pub read_part-returns-in_default-clause-none : goal.read_part-returns-in_default-clause-none
read_part-returns-in_default-clause-none t c =
    let bytes = c.args.bytes.now in
    let at = c.args.at in
    let byte = get_or bytes at 0 in
    let digit = sym c.is_ascii_digit.ensures.value ∙ c.if-is_ascii_digit.false in
    other-none c.args.depth (drop at bytes) (drop (at + 1) bytes) byte (form-other byte (omega arith) (omega arith) (omega arith) (omega arith) (omega arith) (omega arith) digit) (byte_there bytes at byte c.if-at-bytes.false refl)

pub read_parts-returns-in_default-clause-none : goal.read_parts-returns-in_default-clause-none
read_parts-returns-in_default-clause-none t c =
    let space = c.parts-test.ensures.yes refl in
    parts-none c.args.close c.args.depth c.args.bytes.now c.args.at c.parts.place (map tree c.parts.invariant.more) c.requires.bracket c.parts.invariant.reads space.1 (rw c.in_default.is at c.in_ok-part.ensures.none)

pub read_parts-parts-preserved : goal.read_parts-parts-preserved
read_parts-parts-preserved t c =
    let space = c.parts-test.ensures.yes refl in
    let found = rw c.in-Some.is at c.in_ok-part.ensures.found in
    has-more c.args.close c.args.depth c.args.bytes.now c.args.at c.parts.place c.in-Some.after c.args.parts.now c.parts.parts c.push.new.self c.in-Some.part c.requires.bracket c.parts.invariant space.1 (omega (arith, found.0)) found.1 found.2 c.in_ok-push.ensures.ok

pub read_parts-returns-then-has_byte-clause-found : goal.read_parts-returns-then-has_byte-clause-found
read_parts-returns-then-has_byte-clause-found t c =
    let there = c.if-has_byte.ensures.yes refl in
    has-closed c.args.close c.args.depth c.args.bytes.now c.args.at c.parts.place c.args.parts.now c.parts.parts c.requires.bracket c.parts.invariant there.0 there.1

pub read_parts-returns-else-has_byte-clause-none : goal.read_parts-returns-else-has_byte-clause-none
read_parts-returns-else-has_byte-clause-none t c =
    parts-stopped c.args.close c.args.depth c.args.bytes.now c.args.at c.parts.place (map tree c.parts.invariant.more) c.requires.bracket c.parts.invariant.reads
    (λ u e. true≢false (sym (c.if-has_byte.ensures.no u e)))
    (λ u e. true≢false (sym (c.parts-test.ensures.no u e)))
