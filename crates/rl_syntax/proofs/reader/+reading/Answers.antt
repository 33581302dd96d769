use Rattle.std.proofs.Common.{◌≡◌, ℕ, ◌+◌, ◌-◌, ◌<◌, ◌==◌, List, [], ◌∷◌, ◌++◌, length, drop, get_or, map, true, false, ap, sym, ◌∙◌, refl, arith, subst, true≢false}
use Rattle.std.proofs.lemmas.List.{drop_more, drop_all}
use Rattle.rl_text.proofs.Spellings.{form-other}
use Rattle.rl_text.proofs.Forms.{node-low, node-no_word, list-low, other-none, nothing-none}
use Rattle.rl_syntax.specs.Syntax.{Flag, Absent, syntax}
use Rattle.rl_syntax.specs.Reads.{AddsRead, NoneAdds, may_hold}
use Rattle.rl_syntax.specs.declared.numbered.Numbered.{Numbered}
use Rattle.rl_syntax.specs.declared.numbered.Position.{Position}
use Rattle.rl_syntax.specs.declared.numbered.Numbered.TheVariants as numbered
use Rattle.rl_syntax.proofs.Layers.{syntax_flag, syntax_absent}
use Rattle.rl_syntax.proofs.Pieces.{pieces-none, pieces-stopped, pieces-many, has-begun, has-more, has-closed}
use Rattle.rl_syntax.proofs.ReadForms.{none-read, leaf-read, node-unknown, node-none, word-length, node-read, list-empty, list-none_first, list-none, list-read}
use Rattle.rl_syntax.proofs.reader.+reading.Goals as goal

byte_there : (bytes : List ℕ) (at byte : ℕ) → at < length bytes → get_or bytes at 0 ≡ byte → drop at bytes ≡ byte ∷ drop (at + 1) bytes
byte_there bytes at byte lt e = drop_more bytes at 0 lt ∙ ap (λ b. b ∷ drop (at + 1) bytes) e

pub read_at-returns-then-at-bytes-clause-none : goal.read_at-returns-then-at-bytes-clause-none
read_at-returns-then-at-bytes-clause-none t c =
    let rest = drop c.args.at.now.byte c.args.bytes.now in
    none-read c.args.depth rest (nothing-none c.args.depth rest (drop_all c.args.at.now.byte c.args.bytes.now c.if-at-bytes.true))

pub read_at-returns-in-34-clause-found : goal.read_at-returns-in-34-clause-found
read_at-returns-in-34-clause-found t c = c.read_text.ensures.found c.args.depth

pub read_at-returns-in-121-clause-found : goal.read_at-returns-in-121-clause-found
read_at-returns-in-121-clause-found t c =
    leaf-read c.args.depth c.args.at.now (c.args.at.now.byte + 1) c.args.bytes.now (numbered.Flag true) (Flag true) (syntax_flag true) refl refl refl refl tt (omega arith) (omega (arith, c.if-at-bytes.false)) c.requires.low
    (record { writable = tt; low = omega arith; ends = tt; spelled = byte_there c.args.bytes.now c.args.at.now.byte 121 c.if-at-bytes.false c.in-121.is })

pub read_at-returns-in-110-clause-found : goal.read_at-returns-in-110-clause-found
read_at-returns-in-110-clause-found t c =
    leaf-read c.args.depth c.args.at.now (c.args.at.now.byte + 1) c.args.bytes.now (numbered.Flag false) (Flag false) (syntax_flag false) refl refl refl refl tt (omega arith) (omega (arith, c.if-at-bytes.false)) c.requires.low
    (record { writable = tt; low = omega arith; ends = tt; spelled = byte_there c.args.bytes.now c.args.at.now.byte 110 c.if-at-bytes.false c.in-110.is })

pub read_at-returns-in-45-clause-found : goal.read_at-returns-in-45-clause-found
read_at-returns-in-45-clause-found t c =
    leaf-read c.args.depth c.args.at.now (c.args.at.now.byte + 1) c.args.bytes.now numbered.Absent Absent syntax_absent refl refl refl refl tt (omega arith) (omega (arith, c.if-at-bytes.false)) c.requires.low
    (record { writable = tt; low = omega arith; ends = tt; spelled = byte_there c.args.bytes.now c.args.at.now.byte 45 c.if-at-bytes.false c.in-45.is })

pub read_at-returns-in_default-clause-none : goal.read_at-returns-in_default-clause-none
read_at-returns-in_default-clause-none t c =
    let bytes = c.args.bytes.now in
    let at = c.args.at.now.byte in
    let byte = get_or bytes at 0 in
    let digit = sym c.is_ascii_digit.ensures.value ∙ c.if-is_ascii_digit.false in
    none-read c.args.depth (drop at bytes) (other-none c.args.depth (drop at bytes) (drop (at + 1) bytes) byte (form-other byte (omega arith) (omega arith) (omega arith) (omega arith) (omega arith) (omega arith) digit) (byte_there bytes at byte c.if-at-bytes.false refl))

pub read_list-returns-then-depth-eq0-clause-none : goal.read_list-returns-then-depth-eq0-clause-none
read_list-returns-then-depth-eq0-clause-none t c =
    let rest = drop c.args.at.now.byte c.args.bytes.now in
    none-read c.args.depth rest (list-low c.args.depth rest (drop (c.args.at.now.byte + 1) c.args.bytes.now) c.requires.opened c.if-depth-eq0.true)

pub read_list-returns-then-has_byte-clause-found : goal.read_list-returns-then-has_byte-clause-found
read_list-returns-then-has_byte-clause-found t c =
    let there = c.if-has_byte.ensures.yes refl in
    list-empty c.args.depth c.args.at.now c.args.bytes.now c.requires.opened c.new-parts.result (omega (arith, c.if-depth-eq0.false)) c.requires.low c.new-parts.ensures there.0 there.1

pub read_list-returns-then-not-is_part-clause-none : goal.read_list-returns-then-not-is_part-clause-none
read_list-returns-then-not-is_part-clause-none t c =
    list-none_first c.args.depth c.args.at.now c.args.bytes.now c.requires.opened (λ u e. true≢false (sym (c.if-has_byte.ensures.no u e)))
    (λ s u item shaped b. true≢false (sym (c.is_part.ensures.no s (c.args.depth - 1) u b item) ∙ c.if-not-is_part.true))

pub read_list-returns-in_default-clause-none : goal.read_list-returns-in_default-clause-none
read_list-returns-in_default-clause-none t c =
    let none = rw c.in_default.is at c.in_ok-first.ensures.none in
    list-none_first c.args.depth c.args.at.now c.args.bytes.now c.requires.opened (λ u e. true≢false (sym (c.if-has_byte.ensures.no u e)))
    (λ s u item shaped b. none s u shaped b)

pub read_list-returns-else-found-clause-none : goal.read_list-returns-else-found-clause-none
read_list-returns-else-found-clause-none t c =
    let first = rw c.in-Some.is at c.in_ok-first.ensures.found in
    list-none c.args.depth c.args.at.now c.args.bytes.now c.requires.opened (λ u e. true≢false (sym (c.if-has_byte.ensures.no u e)))
    (syntax c.in-Some.first) c.read_at.new.at.byte first.begins
    (c.in_ok-found.ensures.none c.if-found.false)

pub read_list-returns-then-found-clause-found : goal.read_list-returns-then-found-clause-found
read_list-returns-then-found-clause-found t c =
    let first = rw c.in-Some.is at c.in_ok-first.ensures.found in
    let adds = c.in_ok-found.ensures.found c.if-found.true in
    list-read c.args.depth c.args.at.now c.args.bytes.now c.requires.opened c.in-Some.first c.push.new.self c.read_parts.new.parts c.read_at.new.at c.read_parts.new.at (omega (arith, c.if-depth-eq0.false))
    (c.is_part.ensures.yes c.if-not-is_part.false (syntax c.in-Some.first) (c.args.depth - 1) (drop c.read_at.new.at.byte c.args.bytes.now) first.begins)
    first (c.in_ok-push.ensures.ok ∙ ap (λ (l : List Numbered). l ++ c.in-Some.first ∷ []) c.in_ok-parts.ensures) adds

pub read_node-returns-then-depth-eq0-clause-none : goal.read_node-returns-then-depth-eq0-clause-none
read_node-returns-then-depth-eq0-clause-none t c =
    let rest = drop c.args.at.now.byte c.args.bytes.now in
    none-read c.args.depth rest (node-low c.args.depth rest (drop (c.args.at.now.byte + 1) c.args.bytes.now) c.requires.opened c.if-depth-eq0.true)

pub read_node-returns-then-end-start-clause-none : goal.read_node-returns-then-end-start-clause-none
read_node-returns-then-end-start-clause-none t c =
    none-read c.args.depth (drop c.args.at.now.byte c.args.bytes.now) (node-no_word c.args.depth c.args.bytes.now c.args.at.now.byte c.word_end-end.result c.requires.opened c.word_end-end.ensures c.if-end-start.true)

pub read_node-returns-in_default-clause-none : goal.read_node-returns-in_default-clause-none
read_node-returns-in_default-clause-none t c =
    node-unknown c.args.depth c.args.at.now c.args.bytes.now c.word_end-end.result c.requires.opened c.word_end-end.ensures
    (rw c.in_default.is at c.from_text.ensures)

pub read_node-returns-else-found-clause-none : goal.read_node-returns-else-found-clause-none
read_node-returns-else-found-clause-none t c =
    let word = rw c.in-Some.is at c.from_text.ensures in
    let there : c.enter.new.self.byte ≡ c.word_end-end.result = ap (λ (p : Position). p.byte) c.enter.ensures ∙ word-length c.args.depth c.args.at.now c.args.bytes.now c.word_end-end.result c.requires.opened c.word_end-end.ensures c.in-Some.word word c.if-end-start.false in
    node-none c.args.depth c.args.at.now c.args.bytes.now c.word_end-end.result c.requires.opened c.word_end-end.ensures
    (subst (λ n. NoneAdds 41 (c.args.depth - 1) (drop n c.args.bytes.now)) there (c.in_ok-found.ensures.none c.if-found.false))

pub read_node-returns-then-found-clause-found : goal.read_node-returns-then-found-clause-found
read_node-returns-then-found-clause-found t c =
    let word = rw c.in-Some.is at c.from_text.ensures in
    let adds = c.in_ok-found.ensures.found c.if-found.true in
    node-read c.args.depth c.args.at.now c.args.bytes.now c.word_end-end.result c.requires.opened c.word_end-end.ensures c.in-Some.word word c.if-end-start.false c.in_ok-parts.parts c.read_parts.new.parts c.up_to.result c.read_parts.new.at (omega (arith, c.if-depth-eq0.false)) c.in_ok-parts.ensures
    (subst (λ p. AddsRead 41 (c.args.depth - 1) p c.args.bytes.now c.in_ok-parts.parts c.read_parts.new.parts c.read_parts.new.at) c.enter.ensures adds) c.up_to.ensures

pub read_parts-parts-init : goal.read_parts-parts-init
read_parts-parts-init t c =
    has-begun c.args.close c.args.depth c.args.at.now c.args.bytes.now c.args.parts.now c.requires.within c.requires.low

pub read_parts-returns-then-not-may_hold-clause-none : goal.read_parts-returns-then-not-may_hold-clause-none
read_parts-returns-then-not-may_hold-clause-none t c e =
    let space = c.parts-test.ensures.yes refl in
    pieces-many c.args.close c.args.depth c.args.bytes.now c.args.at.now.byte c.parts.at.byte (map syntax c.parts.invariant.more) c.requires.bracket c.parts.invariant.reads space.1
    (ap (λ n. may_hold (c.args.close == 93) (n + 1)) (sym c.parts.invariant.number) ∙ sym c.may_hold.ensures ∙ c.if-not-may_hold.true)

pub read_parts-returns-then-not-is_part-clause-none : goal.read_parts-returns-then-not-is_part-clause-none
read_parts-returns-then-not-is_part-clause-none t c e =
    let space = c.parts-test.ensures.yes refl in
    pieces-none c.args.close c.args.depth c.args.bytes.now c.args.at.now.byte c.parts.at.byte (map syntax c.parts.invariant.more) c.requires.bracket c.parts.invariant.reads space.1
    (λ s u allowed shaped b. true≢false (sym (c.is_part.ensures.no s c.args.depth u b allowed) ∙ c.if-not-is_part.true))

pub read_parts-returns-in_default-clause-none : goal.read_parts-returns-in_default-clause-none
read_parts-returns-in_default-clause-none t c e =
    let space = c.parts-test.ensures.yes refl in
    let none = rw c.in_default.is at c.in_ok-part.ensures.none in
    pieces-none c.args.close c.args.depth c.args.bytes.now c.args.at.now.byte c.parts.at.byte (map syntax c.parts.invariant.more) c.requires.bracket c.parts.invariant.reads space.1
    (λ s u allowed shaped b. none s u shaped b)

pub read_parts-parts-preserved : goal.read_parts-parts-preserved
read_parts-parts-preserved t c =
    let space = c.parts-test.ensures.yes refl in
    let read = rw c.in-Some.is at c.in_ok-part.ensures.found in
    let part = c.in-Some.part in
    has-more c.args.close c.args.depth c.args.at.now c.parts.at c.parts.count c.read_at.new.at c.args.bytes.now c.args.parts.now c.parts.parts c.push.new.self part c.requires.bracket c.parts.invariant (sym c.may_hold.ensures ∙ c.if-not-may_hold.false) space.1
    (c.is_part.ensures.yes c.if-not-is_part.false (syntax part) c.args.depth (drop c.read_at.new.at.byte c.args.bytes.now) read.begins)
    read c.in_ok-push.ensures.ok

pub read_parts-returns-then-has_byte-clause-found : goal.read_parts-returns-then-has_byte-clause-found
read_parts-returns-then-has_byte-clause-found t c e =
    let there = c.if-has_byte.ensures.yes refl in
    has-closed c.args.close c.args.depth c.args.at.now c.parts.at c.parts.count c.args.bytes.now c.args.parts.now c.parts.parts c.requires.bracket c.parts.invariant there.0 there.1

pub read_parts-returns-else-has_byte-clause-none : goal.read_parts-returns-else-has_byte-clause-none
read_parts-returns-else-has_byte-clause-none t c e =
    pieces-stopped c.args.close c.args.depth c.args.bytes.now c.args.at.now.byte c.parts.at.byte (map syntax c.parts.invariant.more) c.requires.bracket c.parts.invariant.reads
    (λ u h. true≢false (sym (c.if-has_byte.ensures.no u h)))
    (λ u h. true≢false (sym (c.parts-test.ensures.no u h)))
