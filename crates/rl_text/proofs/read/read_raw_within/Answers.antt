use Rattle.std.proofs.Common.{[], drop, arith, length-drop}
use Rattle.std.proofs.lemmas.List.{drop_all}
use Rattle.rl_text.specs.Raw.{tree}
use Rattle.rl_text.proofs.Spellings.{Spells-one}
use Rattle.rl_text.proofs.Forms.{begins-whole, whole-spells, more-none}
use Rattle.rl_text.proofs.read.read_raw_within.Goals as goal

pub returns-in_default-clause-malformed : goal.returns-in_default-clause-malformed
returns-in_default-clause-malformed c e t spells low =
    let none = rw c.in_default.is at c.in_ok-raw.ensures.none in
    none t [] (begins-whole c.args.depth c.args.bytes.now t spells low)

pub returns-then-next-bytes-clause-malformed : goal.returns-then-next-bytes-clause-malformed
returns-then-next-bytes-clause-malformed c e t spells low =
    let found = rw c.in-Some.is at c.in_ok-raw.ensures.found in
    let rest = drop c.in-Some.next c.args.bytes.now in
    more-none c.args.depth c.args.bytes.now rest (tree c.in-Some.raw) t found.2 (omega (arith, c.if-next-bytes.true, length-drop c.in-Some.next c.args.bytes.now)) spells

pub returns-clause-found : goal.returns-clause-found
returns-clause-found c =
    let found = rw c.in-Some.is at c.in_ok-raw.ensures.found in
    let rest = drop c.in-Some.next c.args.bytes.now in
    whole-spells c.args.depth c.args.bytes.now rest (tree c.in-Some.raw) found.2 (drop_all c.in-Some.next c.args.bytes.now c.if-next-bytes.false)

pub returns-clause-only : goal.returns-clause-only
returns-clause-only c t spells = Spells-one c.args.bytes.now t (tree c.in-Some.raw) spells (returns-clause-found c)
